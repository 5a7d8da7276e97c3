-- A controller's state: what is written reads back to the same fields, what is accepted is written back to the same bytes, and what a step that
-- is not refused leaves.
use Prim.Native.Nat.{ℕ, ◌^◌, ◌<◌}
use mathlib.Core.Path.{◌≡◌, refl, sym, ap, ◌∙◌}
use mathlib.Core.Bool.{true, false, true≢false, false≢true}
use mathlib.Core.List.{List, [], ◌∷◌, ◌++◌}
use native.Mathlib.Omega.{arith}
use borrow.Author.Tests.{eqb-true}
use lib.ListN.{length, get_or, drop, drop_of_length-le}
use lib.Seq.{drop-cons}
use lib.Dec.{eqb, leb}
use Rattle.ground.specs.Bytes.{Bytes}
use Rattle.ground.specs.Choice.{chosen}
use Rattle.ground.proofs.Tests.{by_test, and_left, and_right}
use Rattle.wire.specs.Frame.{field}
use Rattle.wire.specs.Number.{bytes_of}
use Rattle.wire.proofs.Frames.{split_field}
use Rattle.wire.proofs.Numbers.{value_bytes_of, field_back}
use Rattle.numbers.specs.Numbers.{numbers_means}
use Rattle.numbers.proofs.Range.{Fit}
use Rattle.ends_controller.specs.Fields.{controller_ok}
use Rattle.ends_controller.specs.declared.fields.Controller.{Controller}
use Rattle.alone.specs.ControllerAlone.{controller_alone}
use Rattle.alone.proofs.ControllerAlone.{ill_refused}
use Rattle.boundary.specs.State.{numbers_bytes, numbers_at, is_refusal, written}
use Rattle.boundary.specs.Controller.{controller_bytes, is_state, fields_at, controller_at, controller_state_step}
use Rattle.boundary.proofs.Flags.{flag_small, flag_back, flag_same}
use Rattle.boundary.proofs.NumbersTrips.{numbers_rest}

-- what the types of a controller's fields say
pub record Typed (c : Controller) : Type 0 where
  pub numbers : Fit (numbers_means c.numbers)
  pub j : c.j.0 < 2 ^ 32
  pub i : c.i.0 < 2 ^ 32
  pub last : c.last.0 < 2 ^ 32

module _ (c : Controller) (t : Typed c) where
  is_state_lem : is_state (controller_bytes c) ≡ true
  unfolding is_state controller_bytes bytes_of
  is_state_lem = rw (flag_small c.up)

  same_fields : fields_at (controller_bytes c) ≡ c
  unfolding fields_at controller_bytes bytes_of
  same_fields = rw (value_bytes_of 4 c.numbers.used t.numbers.last, value_bytes_of 4 c.numbers.reserved t.numbers.reserved, value_bytes_of 2 c.numbers.block t.numbers.block, value_bytes_of 4 c.j.0 t.j, value_bytes_of 4 c.i.0 t.i, value_bytes_of 4 c.last.0 t.last, flag_back c.up)

  pub controller_read_back : controller_at (controller_bytes c) ≡ c
  unfolding controller_at chosen
  controller_read_back = rw is_state_lem same_fields

-- what 23 bytes with a flag are
record State (s : List ℕ) : Type 0 where
  pub long : length s ≡ 23
  pub up : leb (get_or s 22 0) 1 ≡ true

state : (s : List ℕ) → is_state s ≡ true → State s
unfolding is_state
state s e =
    let a = eqb (length s) 23 in
    let b = leb (get_or s 22 0) 1 in
    record { long = eqb-true (length s) 23 (and_left a b e); up = and_right a b e }

same_bytes : (s : List ℕ) → Bytes s → is_state s ≡ true → controller_bytes (fields_at s) ≡ s
unfolding controller_bytes fields_at
same_bytes s b e =
    let g = state s e in
    let l = g.long in
    let u = numbers_bytes (numbers_at s) in
    let j = field s 10 4 in
    let i = field s 14 4 in
    let k = field s 18 4 in
    let x = get_or s 22 0 in
    let rest : drop 22 s ≡ x ∷ [] = drop-cons s 22 0 (omega (arith, l)) ∙ ap (λ (r : List ℕ). x ∷ r) (drop_of_length-le s {i = 23} (omega (arith, l))) in
    let after : drop 10 s ≡ j ++ (i ++ (k ++ (x ∷ []))) = split_field s 10 4 ∙ ap (λ (r : List ℕ). j ++ r) (split_field s 14 4 ∙ ap (λ (r : List ℕ). i ++ r) (split_field s 18 4 ∙ ap (λ (r : List ℕ). k ++ r) rest)) in
    rw (field_back s 10 4 b (omega (arith, l)), field_back s 14 4 b (omega (arith, l)), field_back s 18 4 b (omega (arith, l)), flag_same x g.up) (ap (λ (r : List ℕ). u ++ r) (sym after) ∙ numbers_rest s b (omega (arith, l)))

-- bytes that are no state stand for a controller that is not well formed
well_formed_state : (s : List ℕ) → controller_ok (controller_at s) ≡ true → is_state s ≡ true
unfolding controller_at controller_ok chosen
well_formed_state s e = by_test (is_state s) (λ t. t) (λ f. absurd (false≢true (rw f at e)))

pub controller_write_back : (s : List ℕ) → Bytes s → controller_ok (controller_at s) ≡ true → controller_bytes (controller_at s) ≡ s
unfolding controller_at chosen
controller_write_back s b e = rw (well_formed_state s e) (same_bytes s b (well_formed_state s e))

-- ## A step that is not refused met a state, and leaves the fields that the controller run alone comes to

pub controller_ok_lem : (s : List ℕ) (l : ℕ) (packet reply : List ℕ) → is_refusal (controller_alone (controller_at s) l packet reply).outcome.report ≡ false → controller_ok (controller_at s) ≡ true
controller_ok_lem s l packet reply e =
    by_test (controller_ok (controller_at s)) (λ t. t)
    (λ f. absurd (true≢false (sym (ill_refused (λ r. is_refusal r ≡ true) (λ q. refl) (controller_at s) f l packet reply) ∙ e)))

pub controller_step_leaves : (s : List ℕ) (l : ℕ) (packet reply out : List ℕ) → is_refusal (controller_alone (controller_at s) l packet reply).outcome.report ≡ false → (controller_state_step s l packet reply out).state ≡ controller_bytes (controller_alone (controller_at s) l packet reply).outcome.controller
unfolding written chosen
controller_step_leaves s l packet reply out e =
    rw (e, (state s (well_formed_state s (controller_ok_lem s l packet reply e))).long)
