-- A block of numbers, by which what an end has reserved grows. Assumes nothing.
use Rattle.std.specs.Prelude.{ℕ, Bool, ◌&&◌, leb}

abbrev pub largest_block : ℕ
largest_block = 1_024

-- 1 to 1,024
abbrev pub is_block : ℕ → Bool
is_block b = leb 1 b && leb b largest_block

-- a fresh end's, and that of a number record which says none
abbrev pub fresh_block : ℕ
fresh_block = 64
