-- For the checks of what is written: digits and lines.
use Prim.Native.Nat.{ℕ, ◌+◌, ◌/◌, ◌%◌}
use mathlib.Core.Path.{◌≡◌}
use mathlib.Core.List.{List, [], ◌∷◌}
use native.Mathlib.Omega.{arith}
use lib.ListN.{length, get_or}
use Rattle.ground.proofs.Elements.{rest_elements}
use Rattle.ground.specs.Choice.{chosen}
use Rattle.listing.specs.Line.{decimals, line_written}

pub two_digits_are : (n : ℕ) → (0x30 + n / 10 % 10) ∷ (0x30 + n % 10) ∷ [] ≡ decimals 2 n
unfolding decimals
two_digits_are n = let e : n % 10 ≡ n / 1 % 10 = omega arith in rw e

pub two_cells : (c : List ℕ) → length c ≡ 2 → get_or c 0 0 ∷ get_or c 1 0 ∷ [] ≡ c
two_cells c h = rest_elements 2 c 0 h

-- `unfolding lines` opens what is written of a line
unfoldable pub lines : Unit {0}
unfolding line_written chosen
lines = tt
