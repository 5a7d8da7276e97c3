-- A console's state: what is written reads back to the same fields, what is accepted is written back to the same bytes, and what a step that
-- is not refused leaves.
use Prim.Native.Nat.{ℕ, ◌^◌, ◌<◌}
use mathlib.Core.Path.{◌≡◌, refl, sym, ap, ◌∙◌}
use mathlib.Core.Bool.{true, false, ◌&&◌, true≢false, false≢true}
use mathlib.Core.List.{List, [], ◌∷◌, ◌++◌, append_assoc}
use native.Mathlib.Omega.{arith}
use borrow.Author.Tests.{eqb-true}
use lib.ListN.{length, get_or, drop}
use lib.Seq.{drop-cons}
use lib.Dec.{eqb, leb}
use Rattle.ground.specs.Bytes.{Bytes}
use Rattle.ground.specs.Choice.{chosen}
use Rattle.ground.specs.Every.{filled}
use Rattle.ground.proofs.Tests.{by_test, and_left, and_right}
use Rattle.wire.specs.Frame.{field}
use Rattle.wire.specs.Number.{bytes_of}
use Rattle.wire.proofs.Frames.{split_field}
use Rattle.wire.proofs.Numbers.{value_bytes_of, field_back}
use Rattle.numbers.specs.Numbers.{numbers_means}
use Rattle.numbers.proofs.Range.{Fit}
use Rattle.ends_console.specs.Fields.{console_ok}
use Rattle.ends_console.specs.declared.fields.Console.{Console}
use Rattle.alone.specs.ConsoleAlone.{console_alone}
use Rattle.alone.proofs.ConsoleAlone.{ill_refused}
use Rattle.boundary.specs.State.{numbers_bytes, numbers_at, is_refusal, written}
use Rattle.boundary.specs.Console.{console_bytes, is_state, fields_at, console_at, console_state_step}
use Rattle.boundary.proofs.Flags.{flag_small, flag_back, flag_same}
use Rattle.boundary.proofs.NumbersTrips.{numbers_rest}

-- what the types of a console's fields say
pub record Typed (c : Console) : Type 0 where
  pub numbers : Fit (numbers_means c.numbers)
  pub j : c.j.0 < 2 ^ 32
  pub last : c.last.0 < 2 ^ 32
  pub message : length c.message ≡ 16

module _ (c : Console) (t : Typed c) where
  is_state_lem : is_state (console_bytes c) ≡ true
  unfolding is_state console_bytes bytes_of
  is_state_lem = rw (t.message, flag_small c.held, flag_small c.up, flag_small c.ack)

  same_fields : fields_at (console_bytes c) ≡ c
  unfolding fields_at console_bytes bytes_of
  same_fields = rw (value_bytes_of 4 c.numbers.used t.numbers.last, value_bytes_of 4 c.numbers.reserved t.numbers.reserved, value_bytes_of 2 c.numbers.block t.numbers.block, value_bytes_of 4 c.j.0 t.j, value_bytes_of 4 c.last.0 t.last, flag_back c.held, flag_back c.up, flag_back c.ack)

  pub console_read_back : console_at (console_bytes c) ≡ c
  unfolding console_at chosen
  console_read_back = rw is_state_lem same_fields

-- what 37 bytes with three flags are
record State (s : List ℕ) : Type 0 where
  pub long : length s ≡ 37
  pub held : leb (get_or s 18 0) 1 ≡ true
  pub up : leb (get_or s 19 0) 1 ≡ true
  pub ack : leb (get_or s 20 0) 1 ≡ true

state : (s : List ℕ) → is_state s ≡ true → State s
unfolding is_state
state s e =
    let a = eqb (length s) 37 in
    let b = leb (get_or s 18 0) 1 in
    let d = leb (get_or s 19 0) 1 in
    let f = leb (get_or s 20 0) 1 in
    let q = and_left (a && b && d) f e in
    let r = and_left (a && b) d q in
    record { long = eqb-true (length s) 37 (and_left a b r); held = and_right a b r; up = and_right (a && b) d q; ack = and_right (a && b && d) f e }

pub state_long : (s : List ℕ) → is_state s ≡ true → length s ≡ 37
state_long s e = (state s e).long

same_bytes : (s : List ℕ) → Bytes s → is_state s ≡ true → console_bytes (fields_at s) ≡ s
unfolding console_bytes fields_at
same_bytes s b e =
    let g = state s e in
    let l = g.long in
    let u = numbers_bytes (numbers_at s) in
    let j = field s 10 4 in
    let k = field s 14 4 in
    let x = get_or s 18 0 in
    let y = get_or s 19 0 in
    let z = get_or s 20 0 in
    let f : List ℕ = x ∷ y ∷ z ∷ [] in
    let m = drop 21 s in
    let flat : (u ++ (j ++ (k ++ f))) ++ m ≡ u ++ (j ++ (k ++ (f ++ m))) = append_assoc u (j ++ (k ++ f)) m ∙ ap (λ (r : List ℕ). u ++ r) (append_assoc j (k ++ f) m ∙ ap (λ (r : List ℕ). j ++ r) (append_assoc k f m)) in
    let rest : drop 18 s ≡ f ++ m = drop-cons s 18 0 (omega (arith, l)) ∙ ap (λ (r : List ℕ). x ∷ r) (drop-cons s 19 0 (omega (arith, l)) ∙ ap (λ (r : List ℕ). y ∷ r) (drop-cons s 20 0 (omega (arith, l)))) in
    let after : drop 10 s ≡ j ++ (k ++ (f ++ m)) = split_field s 10 4 ∙ ap (λ (r : List ℕ). j ++ r) (split_field s 14 4 ∙ ap (λ (r : List ℕ). k ++ r) rest) in
    rw (field_back s 10 4 b (omega (arith, l)), field_back s 14 4 b (omega (arith, l)), flag_same x g.held, flag_same y g.up, flag_same z g.ack) (flat ∙ ap (λ (r : List ℕ). u ++ r) (sym after) ∙ numbers_rest s b (omega (arith, l)))

-- bytes that are no state stand for a console that is not well formed
well_formed_state : (s : List ℕ) → console_ok (console_at s) ≡ true → is_state s ≡ true
unfolding console_at console_ok filled chosen
well_formed_state s e = by_test (is_state s) (λ t. t) (λ f. absurd (false≢true (rw f at e)))

pub console_write_back : (s : List ℕ) → Bytes s → console_ok (console_at s) ≡ true → console_bytes (console_at s) ≡ s
unfolding console_at chosen
console_write_back s b e = rw (well_formed_state s e) (same_bytes s b (well_formed_state s e))

-- ## A step that is not refused met a state, and leaves the fields that the console run alone comes to

pub console_ok_lem : (s : List ℕ) (l : ℕ) (m packet reply : List ℕ) → is_refusal (console_alone (console_at s) l m packet reply).outcome.report ≡ false → console_ok (console_at s) ≡ true
console_ok_lem s l m packet reply e =
    by_test (console_ok (console_at s)) (λ t. t)
    (λ f. absurd (true≢false (sym (ill_refused (λ r. is_refusal r ≡ true) (λ q. refl) (console_at s) f l m packet reply) ∙ e)))

pub console_step_leaves : (s : List ℕ) (l : ℕ) (m packet reply : List ℕ) → is_refusal (console_alone (console_at s) l m packet reply).outcome.report ≡ false → (console_state_step s l m packet reply).state ≡ console_bytes (console_alone (console_at s) l m packet reply).outcome.console
unfolding written chosen
console_step_leaves s l m packet reply e =
    rw (e, state_long s (well_formed_state s (console_ok_lem s l m packet reply e)))
