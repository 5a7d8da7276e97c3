-- A test of every element of a list. Assumes nothing.
use Rattle.std.specs.Prelude.{ℕ, Bool, true, ◌&&◌, List, [], ◌∷◌, eqb}

abbrev pub every : {A : Type 0} → (A → Bool) → List A → Bool
every f [] = true
every f (a ∷ rest) = f a && every f rest

-- every byte of a list is b
unfoldable pub filled : ℕ → List ℕ → Bool
filled b bs = every (λ x. eqb x b) bs
