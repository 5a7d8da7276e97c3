-- Lists one by one, as an array's literal and a slice's indices give them.
use Rattle.std.proofs.Common.{ℕ, zero, suc, ◌+◌, ◌≤◌, ◌≡◌, refl, sym, ap, ◌∙◌, List, [], ◌∷◌, ◌++◌, arith, add-zero, add-suc, suc-add, length, get_or, take, drop, drop_of_length-le, drop-cons, take_at}

-- the n elements of s from `at` on
abbrev pub elements : List ℕ → ℕ → ℕ → List ℕ
elements s at zero = []
elements s at (suc n) = get_or s at 0 ∷ elements s (suc at) n

pub length_elements : (s : List ℕ) (at n : ℕ) → length (elements s at n) ≡ n
length_elements s at zero = refl
length_elements s at (suc n) = ap suc (length_elements s (suc at) n)

-- a list is its n elements from an offset on, and the rest
pub split_elements : (n : ℕ) (s : List ℕ) (at : ℕ) → at + n ≤ length s → drop at s ≡ elements s at n ++ drop (at + n) s
split_elements zero s at h = rw add-zero
split_elements (suc n) s at h = rw (drop-cons s at 0 (omega arith), split_elements n s (suc at) (omega arith), add-suc, suc-add)

-- the elements up to the end
pub rest_elements : (n : ℕ) (s : List ℕ) (at : ℕ) → length s ≡ at + n → elements s at n ≡ drop at s
rest_elements zero s at e = sym (drop_of_length-le s {i = at} (omega (arith, e)))
rest_elements (suc n) s at e = rw (drop-cons s at 0 (omega arith), rest_elements n s (suc at) (omega arith))

pub field_elements : (n : ℕ) (s : List ℕ) (at : ℕ) → at + n ≤ length s → take n (drop at s) ≡ elements s at n
field_elements n s at h = ap (take n) (split_elements n s at h) ∙ take_at (elements s at n) (drop (at + n) s) n (length_elements s at n)
