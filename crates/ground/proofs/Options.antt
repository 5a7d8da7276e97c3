-- What is there is not none, and is one thing.
use Prim.Native.Nat.{ℕ}
use mathlib.Core.Path.{◌≡◌, refl}
use native.Mathlib.Omega.{arith}
use Rattle.std.specs.Prelude.{Option, Some, None}
use Rattle.std.proofs.Math.Option as maybe
use Rattle.ground.specs.Options.{option_back, option_means}

module _ {A : Type 0} where
  pub none_is_not_some : (a : A) → ◌≡◌ {A = Option A} None (Some a) → ⊥
  none_is_not_some a e = let z : ◌≡◌ {A = ℕ} 0 1 = cc in omega (arith, z)

  pub some_is_one : (a b : A) → ◌≡◌ {A = Option A} (Some a) (Some b) → a ≡ b
  some_is_one a b e = cc

-- an option of the rules, as the code has it, is the same option, and the other way round
pub option_again : {A : Type 0} (x : maybe.Option A) → option_means (option_back x) ≡ x
option_again maybe.none = refl
option_again (maybe.some a) = refl

pub option_same : {A : Type 0} (x : Option A) → option_back (option_means x) ≡ x
option_same None = refl
option_same (Some a) = refl
