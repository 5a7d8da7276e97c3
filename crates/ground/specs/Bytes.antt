-- What the type of a slice of bytes says of its list, and a part of it. Assumes nothing.
use Rattle.std.specs.Prelude.{ℕ, ◌<◌, List, get_or, take, drop}

abbrev pub Bytes : List ℕ → Type 0
Bytes s = (i : ℕ) → get_or s i 0 < 256

-- n bytes from an offset on
abbrev pub field : List ℕ → ℕ → ℕ → List ℕ
field s at n = take n (drop at s)
