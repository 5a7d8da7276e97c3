-- The part of a list that is lent from an offset on.
use Rattle.std.proofs.Common.{ℕ, ◌-◌, ◌≡◌, List, length, take, drop, le_refl}
use Rattle.std.proofs.lemmas.Slice.{between_to_end}

-- the part from an offset on, as it is lent
pub rest_lent : (s : List ℕ) (at : ℕ) → take (length s - at) (drop at s) ≡ drop at s
rest_lent s at = between_to_end s at (length s) (le_refl (length s))
