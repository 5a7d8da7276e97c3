-- What holds of every refusal, and of what no number refuses, holds of what is answered.
use Prim.Native.Nat.{ℕ, zero, suc}
use mathlib.Core.Path.{◌≡◌}
use lib.Dec.{eqb}
use borrow.Author.Tests.{eqb-true}
use Rattle.std.specs.Prelude.{Result, Ok, Err}
use Rattle.ground.specs.Choice.{chosen}
use Rattle.ground.specs.Refusals.{unless_refused, refusal_of}
use Rattle.ground.specs.declared.refusals.Refusal.{Refusal}
use Rattle.ground.proofs.Tests.{by_test}
use Rattle.alone.specs.AnyEnd.{lent}
use Rattle.alone.specs.Private.{refuses}

module _ {A : Type 0} (P : Result A Refusal → Type 0) (refused : (r : Refusal) → P (Err r)) where
  pub unless_holds : (n : ℕ) {a : A} → P (Ok a) → P (unless_refused n a)
  unless_holds zero h = h
  unless_holds (suc n) h = refused (refusal_of (suc n))

  pub lent_holds : (long : ℕ) (x : Result A Refusal) → (long ≡ 32 → P x) → P (lent refuses long x)
  unfolding lent chosen
  lent_holds long x h = by_test (eqb long 32) (λ t. rw t (h (eqb-true long 32 t))) (λ f. rw f (refused (refusal_of 12)))
