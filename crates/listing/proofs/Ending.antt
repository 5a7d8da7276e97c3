-- Where a record ends.
use Prim.Native.Nat.{ℕ, ◌≤◌, ◌<◌}
use mathlib.Core.Path.{◌≡◌}
use native.Mathlib.Omega.{arith}
use Rattle.std.proofs.lemmas.Bool.Decides.{nat_tests}
use Rattle.ground.specs.Choice.{chosen}
use Rattle.listing.specs.Record.{record_end}

-- within the bytes, and after a beginning that is
module _ (start len : ℕ) {end : ℕ} (e : end ≡ record_end start len) where
  pub end_within : end ≤ len
  unfolding record_end chosen
  end_within = grind (arith, nat_tests)

  pub end_after : start < len → start < end
  unfolding record_end chosen
  end_after k = grind (arith, nat_tests)

  pub end_from : start < len → start ≤ end
  end_from k = let h = end_after k in omega (arith, h)

pub ruleset end_bounds = (end_within, end_after, end_from)
