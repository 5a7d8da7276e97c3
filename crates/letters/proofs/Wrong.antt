-- Programs that the promise of `find` rules out, each at one byte.
use Prim.Native.Nat.{ℕ}
use mathlib.Core.Path.{◌≡◌, sym, ap, ◌∙◌}
use native.Mathlib.Omega.{arith}
use Rattle.ground.specs.Choice.{chosen}
use Rattle.std.specs.Prelude.{Some, None}
use Rattle.ground.proofs.Options.{none_is_not_some}
use Rattle.ground.proofs.Promise.{RulesOut}
use Rattle.rules.specs.Letters.{Letter, line, letters, among, letter}
use Rattle.letters.specs.Lines.{line_of, found_of}
use Rattle.letters.specs.declared.Line.{Line}
use Rattle.letters.proofs.find.Kinds as find-kinds
use Rattle.letters.proofs.find.Reads as find

-- P is not found
pub finds_nothing : RulesOut find-kinds.ps find-kinds.r find.Post (λ κs a. a.0 ≡ 0x50) (λ κs a x s. x ≡ None)
unfolding letter among letters line chosen
finds_nothing κs a x s e w p = none_is_not_some (line_of Letter.p_put) (sym w ∙ p.0 ∙ ap (λ b. found_of (letter b)) e)

-- p is taken for P
pub finds_a_small_letter : RulesOut find-kinds.ps find-kinds.r find.Post (λ κs a. a.0 ≡ 0x70) (λ κs a x s. x ≡ Some (line_of Letter.p_put))
unfolding letter among letters line chosen
finds_a_small_letter κs a x s e w p = none_is_not_some (line_of Letter.p_put) (sym (p.0 ∙ ap (λ b. found_of (letter b)) e) ∙ w)
