-- A message is 16 cells, each a byte from 0x20 to 0x7E. All spaces is a message. Assumes nothing.
use Rattle.std.specs.Prelude.{ℕ, Bool, ◌&&◌, List, length, replicate, eqb, leb}
use Rattle.ground.specs.Every.{every}

abbrev pub cell : ℕ → Bool
cell b = leb 0x20 b && leb b 0x7E

unfoldable pub cells : List ℕ → Bool
cells bs = every cell bs

unfoldable pub is_message : List ℕ → Bool
is_message m = eqb (length m) 16 && cells m

abbrev pub spaces : List ℕ
spaces = replicate 16 0x20
