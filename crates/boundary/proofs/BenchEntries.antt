-- A packet that is shown lies at one of 64 places.
use Prim.Native.Nat.{ℕ, ◌<◌}
use mathlib.Core.Path.{◌≡◌}
use mathlib.Core.List.{List}
use native.Mathlib.Omega.{arith}
use lib.Dec.{eqb}
use Rattle.ground.specs.Choice.{chosen}
use Rattle.ground.proofs.Tests.{by_test}
use Rattle.tables.specs.declared.shown.Way.TheVariants.{Out, Back}
use Rattle.tables.proofs.Showing.{showable}
use Rattle.boundary.specs.Benches.{show_to}

pub place_small : (end place : ℕ) (out : List ℕ) (sent : ℕ) (back : List ℕ) (returned : ℕ) → show_to end place out sent back returned ≡ 0 → place < 64
unfolding show_to chosen
place_small end place out sent back returned z =
    by_test (eqb end 1) (λ t. (showable Back place out sent back returned (rw t at z)).least)
    (λ n.
    by_test (eqb end 2) (λ t. (showable Out place out sent back returned (rw (n, t) at z)).least)
    (λ m. let h = (showable Back 64 out sent back returned (rw (n, m) at z)).least in absurd (omega (arith, h))))
