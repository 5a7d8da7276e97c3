-- A fact of every packet of a channel: what is said of lists in general, and of copies; and either way of a test. Assumes nothing.
use Prim.Native.Nat.{ℕ}
use mathlib.Core.Bool.{Bool, true, false}
use mathlib.Core.Path.{◌≡◌, refl}
use mathlib.Core.Option.{Option, none, some}
use Rattle.ground.specs.Choice.{chosen, when◌then◌else◌}
use Rattle.ground.proofs.Lists.{all_replicate}
pub use Rattle.ground.proofs.Lists.{all_append, all_without, all_at, all_map, all_map₂, opt_map₂}
use Rattle.rules.specs.Bench.{copies_of}
use Rattle.rules.specs.Lists.{All, Opt}

module _ {A : Type 0} (P : A → Type 0) where
  pub all_copies : (n : ℕ) (p : Option A) → Opt P p → All P (copies_of n p)
  unfolding copies_of
  all_copies n none h = tt
  all_copies n (some x) h = all_replicate P n x h

-- either way of a test
pub if_holds {ℓ} : {A : Type 0} (P : A → Type ℓ) (c : Bool) (x y : A) → (c ≡ true → P x) → (c ≡ false → P y) → P (when c then x else y)
unfolding chosen
if_holds P true x y f g = f refl
if_holds P false x y f g = g refl

pub if_map : {A B : Type 0} (g : A → B) (c : Bool) (x y : A) → g (when c then x else y) ≡ (when c then g x else g y)
unfolding chosen
if_map g true x y = refl
if_map g false x y = refl
