-- The promise of `find` determines its answer.
use mathlib.Core.Path.{sym, ◌∙◌}
use Rattle.ground.proofs.Promise.{Determined}
use Rattle.letters.proofs.find.Kinds as find-kinds
use Rattle.letters.proofs.find.Reads as find

pub find_determined : Determined find-kinds.ps find-kinds.r find.Post
find_determined κs a x y s t p q = p.0 ∙ sym q.0
