-- Parts that are lent and come back.
use Rattle.std.proofs.Common.{ℕ, ◌-◌, ◌≤◌, ◌≡◌, List, ◌++◌, length, take, drop, take_at, drop_at}
use borrow.Rule.Slice.PartMut.{mid_len, put_same}

-- the part from a up to e, as it is lent, and the list with another part in its place
abbrev pub part : List ℕ → ℕ → ℕ → List ℕ
part t a e = take (e - a) (drop a t)

abbrev pub replaced : List ℕ → ℕ → ℕ → List ℕ → List ℕ
replaced t a e ys = take a t ++ (ys ++ drop (e - a) (drop a t))

pub part_length : (t : List ℕ) (a e : ℕ) → e ≤ length t → length (part t a e) ≡ e - a
part_length t a e h = mid_len a e t h

-- a part that comes back as it was leaves the list as it was
pub put_back : (t : List ℕ) (a e : ℕ) → replaced t a e (part t a e) ≡ t
put_back t a e = put_same a (e - a) t

-- a part at a seam that comes back as another
pub back_at : (l k z y : List ℕ) (a e : ℕ) → length l ≡ a → length k ≡ e - a → replaced (l ++ (k ++ z)) a e y ≡ l ++ (y ++ z)
back_at l k z y a e h j = rw (take_at l (k ++ z) a h, drop_at l (k ++ z) a h, drop_at k z (e - a) j)
