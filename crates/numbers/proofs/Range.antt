-- The numbers that an end may have fit into 32 bits, and its block into 16.
use Prim.Native.Nat.{ℕ, ◌<◌, ◌^◌}
use mathlib.Core.Path.{◌≡◌}
use mathlib.Core.Bool.{true}
use native.Mathlib.Omega.{arith}
use Rattle.std.proofs.lemmas.Bool.Decides.{nat_tests}
use Rattle.rules.specs.Supply.{Numbers, numbering, fresh_numbers}
use Rattle.rules.proofs.Supply as supply
use Rattle.rules.proofs.Supply.{sound_says}
use Rattle.rules.specs.WellFormed.{Number, Given}

pub number_is : (n : ℕ) → 0 < n → n < 2 ^ 32 → Number numbering n
number_is n h k = grind (arith, nat_tests)

pub number_above : (n : ℕ) → Number numbering n → 0 < n
number_above n h = grind (arith, nat_tests)

pub number_below : (n : ℕ) → Number numbering n → n < 2 ^ 32
number_below n h = grind (arith, nat_tests)

-- a fresh end's are sound, whatever it starts from
pub fresh_sound : (n : ℕ) → n < 2 ^ 32 → numbering.sound (fresh_numbers n) ≡ true
fresh_sound n h = supply.fresh_sound n (omega (arith, h))

-- what fits where they are sound
pub record Fit (s : Numbers) : Type 0 where
  pub last : s.last < 2 ^ 32
  pub reserved : s.reserved < 2 ^ 32
  pub block : s.block < 2 ^ 16

pub sound_fits : (s : Numbers) → numbering.sound s ≡ true → Fit s
sound_fits s h = let k = sound_says s h in record { last = omega arith; reserved = omega arith; block = omega arith }

-- a number that sound numbers have used is one of the end's own
pub given_is : (s : Numbers) (n : ℕ) → numbering.sound s ≡ true → 0 < n → numbering.used s n ≡ true → Given numbering s n
given_is s n h k u = let fit = sound_fits s h in (number_is n k (grind (arith, nat_tests)), u)
