-- `letters::line_at` meets its contract.
use Rattle.rules.specs.Letters.{line, letters}
use Rattle.letters.specs.Lines.{line_of}
use Rattle.letters.proofs.TableLines.{at_line}
use Rattle.letters.proofs.line_at.Goals as goal

pub returns : goal.returns
unfolding letters line line_of
returns c = search at_line
