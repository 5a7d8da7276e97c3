-- `letters::find` meets its contract.
use Rattle.std.proofs.Common.{refl, arith}
use Rattle.ground.specs.Choice.{chosen}
use Rattle.rules.specs.Bench.{at}
use Rattle.rules.specs.Letters.{line, letters, among, letter}
use Rattle.letters.specs.Lines.{found_at}
use Rattle.letters.proofs.TableLines.{keyed, no_letter}
use Rattle.letters.proofs.find.Goals as goal

pub returns-in-80 : goal.returns-in-80
unfolding letter letters line among found_at at chosen
returns-in-80 c = keyed c.in-80.is c.line_at.ensures refl

pub returns-in-81 : goal.returns-in-81
unfolding letter letters line among found_at at chosen
returns-in-81 c = keyed c.in-81.is c.line_at-in-81.ensures refl

pub returns-in-68 : goal.returns-in-68
unfolding letter letters line among found_at at chosen
returns-in-68 c = keyed c.in-68.is c.line_at-in-68.ensures refl

pub returns-in-83 : goal.returns-in-83
unfolding letter letters line among found_at at chosen
returns-in-83 c = keyed c.in-83.is c.line_at-in-83.ensures refl

pub returns-in-67 : goal.returns-in-67
unfolding letter letters line among found_at at chosen
returns-in-67 c = keyed c.in-67.is c.line_at-in-67.ensures refl

pub returns-in-86 : goal.returns-in-86
unfolding letter letters line among found_at at chosen
returns-in-86 c = keyed c.in-86.is c.line_at-in-86.ensures refl

pub returns-in-79 : goal.returns-in-79
unfolding letter letters line among found_at at chosen
returns-in-79 c = keyed c.in-79.is c.line_at-in-79.ensures refl

pub returns-in-75 : goal.returns-in-75
unfolding letter letters line among found_at at chosen
returns-in-75 c = keyed c.in-75.is c.line_at-in-75.ensures refl

pub returns-in-82 : goal.returns-in-82
unfolding letter letters line among found_at at chosen
returns-in-82 c = keyed c.in-82.is c.line_at-in-82.ensures refl

pub returns-in-88 : goal.returns-in-88
unfolding letter letters line among found_at at chosen
returns-in-88 c = keyed c.in-88.is c.line_at-in-88.ensures refl

pub returns-in-89 : goal.returns-in-89
unfolding letter letters line among found_at at chosen
returns-in-89 c = keyed c.in-89.is c.line_at-in-89.ensures refl

pub returns-in-76 : goal.returns-in-76
unfolding letter letters line among found_at at chosen
returns-in-76 c = keyed c.in-76.is c.line_at-in-76.ensures refl

pub returns-in-77 : goal.returns-in-77
unfolding letter letters line among found_at at chosen
returns-in-77 c = keyed c.in-77.is c.line_at-in-77.ensures refl

pub returns-in-65 : goal.returns-in-65
unfolding letter letters line among found_at at chosen
returns-in-65 c = keyed c.in-65.is c.line_at-in-65.ensures refl

pub returns-in_default : goal.returns-in_default
returns-in_default c = no_letter _ (omega arith) (omega arith) (omega arith) (omega arith) (omega arith) (omega arith) (omega arith) (omega arith) (omega arith) (omega arith) (omega arith) (omega arith) (omega arith) (omega arith)
