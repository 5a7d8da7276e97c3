-- What is said of the elements of a list. Assumes nothing.
use Rattle.std.specs.Prelude.{ℕ, ◌≡◌, ◌⊎◌, Bool, true, false, not, ◌&&◌, ◌||◌, List, [], ◌∷◌, eqb}
pub use Rattle.ground.specs.Lists.{All, Opt}

abbrev pub In : {A : Type 0} → A → List A → Type 0
In x [] = ⊥
In x (y ∷ l) = (x ≡ y) ⊎ In x l

-- is the number in the list?
abbrev pub listed : ℕ → List ℕ → Bool
listed n [] = false
listed n (k ∷ l) = eqb n k || listed n l

-- does no number stand twice?
abbrev pub distinct : List ℕ → Bool
distinct [] = true
distinct (n ∷ l) = not (listed n l) && distinct l
