-- A refusal of the bench's step leaves the state, both tables and the bytes lent for a delivery, whatever bytes are handed in.
use Prim.Native.Nat.{ℕ, ◌^◌, ◌<◌}
use mathlib.Core.Path.{◌≡◌, refl, ap, ◌∙◌}
use mathlib.Core.List.{List}
use native.Mathlib.Omega.{arith}
use borrow.Author.Tests.{eqb-true}
use lib.ListN.{length, get_or, drop, length-drop}
use lib.Dec.{eqb, leb}
use Rattle.ground.specs.Bytes.{Bytes}
use Rattle.ground.specs.Choice.{chosen}
use Rattle.ground.specs.Refusals.{number_of}
use Rattle.ground.specs.declared.refusals.Refusal.{Refusal}
use Rattle.ground.proofs.RefusalNumbers.{refusal_of-number_of}
use Rattle.ground.proofs.Bytes.{bytes_take, bytes_drop}
use Rattle.ground.proofs.Tests.{by_test, and_left}
use Rattle.wire.specs.Frame.{field}
use Rattle.wire.proofs.Numbers.{field_below}
use Rattle.ends.specs.declared.Report.TheVariants.{Refused}
use Rattle.ends_console.specs.declared.fields.Console.{Console}
use Rattle.ends_controller.specs.declared.fields.Controller.{Controller}
use Rattle.bench.specs.Promise.{bench_refused}
use Rattle.bench.specs.Loaded.{Typed}
use Rattle.bench.specs.declared.Action.{Action}
use Rattle.bench.specs.declared.Bench.{Bench}
use Rattle.bench.proofs.RefusedSame.{refused_same}
use Rattle.boundary.specs.Console as console
use Rattle.boundary.specs.Controller as controller
use Rattle.rules.specs.Supply.{fresh_numbers}
use Rattle.numbers.specs.Numbers.{numbers_means}
use Rattle.numbers.proofs.Range.{Fit, sound_fits}
use Rattle.boundary.proofs.ConsoleTrips.{state_long}
use Rattle.boundary.proofs.NumbersTrips.{numbers_fit}
use Rattle.boundary.specs.Benches.{parts_at, bench_at, step_result, stepped, step_put}

-- ## What bytes stand for has fields of their types

pub record ConsoleTyped (c : Console) : Type 0 where
  pub message : length c.message ≡ 16
  pub numbers : Fit (numbers_means c.numbers)
  pub last : c.last.0 < 2 ^ 32

pub record ControllerTyped (c : Controller) : Type 0 where
  pub numbers : Fit (numbers_means c.numbers)
  pub j : c.j.0 < 2 ^ 32

none_fit : Fit (fresh_numbers 0)
none_fit = sound_fits (fresh_numbers 0) refl

-- whatever the bytes
pub console_long : (s : List ℕ) → length (console.console_at s).message ≡ 16
unfolding console.console_at console.fields_at chosen
console_long s = by_test (console.is_state s) (λ t. rw t (length-drop 21 s ∙ rw (state_long s t))) (λ f. rw f)

pub console_typed : (s : List ℕ) → Bytes s → ConsoleTyped (console.console_at s)
unfolding console.console_at console.fields_at chosen
console_typed s b =
    by_test (console.is_state s)
    (λ t.
    let l = state_long s t in
    rw t (record { message = length-drop 21 s ∙ rw l; numbers = numbers_fit s b (omega (arith, l)); last = field_below s 14 4 b (omega (arith, l)) }))
    (λ f. rw f (record { message = refl; numbers = none_fit; last = omega arith }))

pub controller_typed : (s : List ℕ) → Bytes s → ControllerTyped (controller.controller_at s)
unfolding controller.controller_at controller.is_state controller.fields_at chosen
controller_typed s b =
    by_test (controller.is_state s)
    (λ t.
    let l = eqb-true (length s) 23 (and_left (eqb (length s) 23) (leb (get_or s 22 0) 1) t) in
    rw t (record { numbers = numbers_fit s b (omega (arith, l)); j = field_below s 10 4 b (omega (arith, l)) }))
    (λ f. rw f (record { numbers = none_fit; j = omega arith }))

abbrev TypedBench : Bench → Type 0
TypedBench b = Typed b.console b.controller

parts_typed : (s : List ℕ) → Bytes s → TypedBench (parts_at s)
unfolding parts_at
parts_typed s b =
    let c = console_typed (field s 0 37) (bytes_take 37 s b) in
    let d = controller_typed (field s 37 23) (bytes_take 23 (drop 37 s) (bytes_drop 37 s b)) in
    record { message = c.message; console_last = c.last; controller_j = d.j }

bench_typed : (s : List ℕ) → Bytes s → TypedBench (bench_at s)
unfolding bench_at chosen
bench_typed s b =
    by_test (eqb (length s) 62) (λ t. rw t (parts_typed s b))
    (λ f. rw f (record { message = refl; console_last = omega arith; controller_j = omega arith }))

-- ## A refusal

module _ (s out back : List ℕ) (bytes : Bytes s) (p : Bytes out) (q : Bytes back) (a : Action) (r : Refusal) (refused : (step_result s a out back).outcome.report ≡ Refused r) where
  same : step_result s a out back ≡ bench_refused (number_of r) (bench_at s) out back
  same = refused_same (bench_at s) out back (bench_typed s bytes) p q a r refused

  pub bench_refusal_leaves : (d : List ℕ) → step_put s a out back d ≡ record { told = number_of r; state = s; out = out; back = back; delivered = d }
  unfolding bench_refused chosen
  bench_refusal_leaves d = ap (stepped s d) same ∙ ap (λ (x : Refusal). record { told = number_of x; state = s; out = out; back = back; delivered = d }) (refusal_of-number_of r)
