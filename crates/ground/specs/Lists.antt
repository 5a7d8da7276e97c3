-- Lists: the element at a place, the list without it, and a fact of every element. Assumes nothing.
use Rattle.std.specs.Prelude.{ℕ, zero, suc, List, [], ◌∷◌}
use Rattle.std.proofs.Math.Option.{Option, none, some}

module _ {A : Type 0} where
  -- the element at a place, if the list has one there
  unfoldable pub at : List A → ℕ → Option A
  at [] k = none
  at (p ∷ ps) zero = some p
  at (p ∷ ps) (suc k) = at ps k

  -- the element taken out: the later ones move down a place
  unfoldable pub without : List A → ℕ → List A
  without [] k = []
  without (p ∷ ps) zero = ps
  without (p ∷ ps) (suc k) = p ∷ without ps k

-- a fact of every element, and of the one that there may be
abbrev pub All : {A : Type 0} → (A → Type 0) → List A → Type 0
All P [] = Unit {0}
All P (x ∷ l) = P x × All P l

abbrev pub Opt : {A : Type 0} → (A → Type 0) → Option A → Type 0
Opt P none = Unit {0}
Opt P (some x) = P x
