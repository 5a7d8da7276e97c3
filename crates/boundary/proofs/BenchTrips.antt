-- A bench's state: what is written reads back to the same fields, what is accepted is written back to the same bytes, and what a step that
-- is not refused leaves.
use Prim.Native.Nat.{ℕ, ◌%◌, ◌≤◌}
use mathlib.Core.Path.{◌≡◌, refl, sym, ap, ◌∙◌}
use mathlib.Core.Bool.{true, false, ◌&&◌, true≢false, false≢true}
use mathlib.Core.Option.{Option, none, some}
use mathlib.Core.List.{List, [], ◌∷◌, ◌++◌, append_assoc}
use native.Mathlib.Omega.{arith}
use borrow.Author.Tests.{eq-eqb, eqb-true}
use lib.ListN.{length, get_or, drop, length-append, drop_of_length-le}
use lib.Seq.{drop-cons, take_at, drop_at, get_or_at, append_snoc}
use lib.Dec.{eqb}
use Rattle.ground.specs.Bytes.{Bytes}
use Rattle.ground.specs.Cell.{is_message}
use Rattle.ground.specs.Choice.{chosen}
use Rattle.ground.specs.Every.{filled}
use Rattle.ground.proofs.Bytes.{bytes_take, bytes_drop}
use Rattle.ground.proofs.Tests.{by_test, and_left, and_right}
use Rattle.wire.specs.Frame.{field}
use Rattle.wire.specs.Number.{bytes_of}
use Rattle.wire.specs.declared.Direction.TheVariants.{ToController, ToConsole}
use Rattle.wire.proofs.Frames.{split_field}
use Rattle.rules.specs.Supply.{numbering}
use Rattle.rules.specs.Letters.{Letter, letter}
use Rattle.rules.specs.Bench as rules
use Rattle.rules.specs.Reading.{read_step}
use Rattle.rules.specs.WellFormed.{WellFormed}
use Rattle.rules.proofs.Supply.{numbering_lawful}
use Rattle.rules.proofs.WellFormed.{step_well_formed}
use Rattle.ends_console.specs.Fields.{console_ok}
use Rattle.ends_controller.specs.Fields.{controller_ok}
use Rattle.channels.specs.Table.{table_ok}
use Rattle.bench.specs.AsRules.{bench_ok, bench_means, bench_back}
use Rattle.bench.specs.Promise.{bench_refused, bench_told, step_of, bench_step}
use Rattle.bench.specs.WithNumbers.{with_numbers}
use Rattle.bench.specs.Loaded.{loaded_of, Typed}
use Rattle.bench.specs.declared.Action.{Action}
use Rattle.bench.specs.declared.Bench.{Bench}
use Rattle.bench.proofs.BenchRead.{passes_well}
use Rattle.boundary.specs.Console.{console_bytes, console_at}
use Rattle.boundary.specs.Controller.{controller_bytes, controller_at}
use Rattle.boundary.specs.State.{is_refusal, written}
use Rattle.boundary.specs.Benches.{bench_bytes, parts_at, no_bench, bench_at, step_result, step_put}
use Rattle.boundary.proofs.ConsoleTrips as console
use Rattle.boundary.proofs.ControllerTrips as controller

-- ## What is written reads back

module _ (b : Bench) (c : console.Typed b.console) (d : controller.Typed b.controller) (few : b.sent ≤ 64) (back : b.returned ≤ 64) where
  abbrev x : List ℕ
  x = console_bytes b.console

  abbrev y : List ℕ
  y = controller_bytes b.controller

  x_long : length x ≡ 37
  unfolding console_bytes bytes_of
  x_long = rw c.message

  y_long : length y ≡ 23
  unfolding controller_bytes bytes_of
  y_long = refl

  both_long : length (x ++ y) ≡ 60
  both_long = length-append x y ∙ rw (x_long, y_long)

  -- the two counts stand after 60 bytes
  flat : (p q : ℕ) → x ++ (y ++ (p ∷ q ∷ [])) ≡ (x ++ y) ++ p ∷ q ∷ []
  flat p q = sym (append_assoc x y (p ∷ q ∷ []))

  long : (p q : ℕ) → length (x ++ (y ++ (p ∷ q ∷ []))) ≡ 62
  long p q = length-append x (y ++ (p ∷ q ∷ [])) ∙ rw (length-append y (p ∷ q ∷ []), x_long, y_long)

  console_part : (p q : ℕ) → field (x ++ (y ++ (p ∷ q ∷ []))) 0 37 ≡ x
  console_part p q = take_at x (y ++ (p ∷ q ∷ [])) 37 x_long

  controller_part : (p q : ℕ) → field (x ++ (y ++ (p ∷ q ∷ []))) 37 23 ≡ y
  controller_part p q = rw (drop_at x (y ++ (p ∷ q ∷ [])) 37 x_long) (take_at y (p ∷ q ∷ []) 23 y_long)

  first_count : (p q : ℕ) → get_or (x ++ (y ++ (p ∷ q ∷ []))) 60 0 ≡ p
  first_count p q = rw (flat p q) (get_or_at (x ++ y) p (q ∷ []) 0 60 both_long)

  second_count : (p q : ℕ) → get_or (x ++ (y ++ (p ∷ q ∷ []))) 61 0 ≡ q
  second_count p q =
      rw (flat p q, ← append_snoc (x ++ y) p (q ∷ [])) (get_or_at ((x ++ y) ++ (p ∷ [])) q [] 0 61 (length-append (x ++ y) (p ∷ []) ∙ rw both_long))

  small : (n : ℕ) → n ≤ 64 → n % 256 ≡ n
  small n h = omega (arith, h)

  pub bench_read_back : bench_at (bench_bytes b) ≡ b
  unfolding bench_at parts_at bench_bytes chosen
  bench_read_back =
      let p = b.sent % 256 in
      let q = b.returned % 256 in
      rw (eq-eqb (length (x ++ (y ++ (p ∷ q ∷ [])))) 62 (long p q), console_part p q, controller_part p q, first_count p q, second_count p q, console.console_read_back b.console c, controller.controller_read_back b.controller d, small b.sent few, small b.returned back)

-- ## What is accepted is written back

-- another length stands for a bench that is not well formed
none_ill : (out back : List ℕ) → bench_ok no_bench out back ≡ false
unfolding bench_ok console_ok filled chosen
none_ill out back = refl

well_formed_long : (s out back : List ℕ) → bench_ok (bench_at s) out back ≡ true → length s ≡ 62
unfolding bench_at chosen
well_formed_long s out back e =
    by_test (eqb (length s) 62) (λ t. eqb-true (length s) 62 t) (λ f. absurd (false≢true (sym (none_ill out back) ∙ rw f at e)))

module _ (s out back : List ℕ) (bytes : Bytes s) (l : length s ≡ 62) where
  two_left : drop 60 s ≡ get_or s 60 0 ∷ get_or s 61 0 ∷ []
  two_left =
      drop-cons s 60 0 (omega (arith, l))
      ∙ ap (λ (r : List ℕ). get_or s 60 0 ∷ r) (drop-cons s 61 0 (omega (arith, l)) ∙ ap (λ (r : List ℕ). get_or s 61 0 ∷ r) (drop_of_length-le s {i = 62} (omega (arith, l))))

  cut : s ≡ field s 0 37 ++ (field s 37 23 ++ (get_or s 60 0 ∷ get_or s 61 0 ∷ []))
  cut = split_field s 0 37 ∙ ap (λ (r : List ℕ). field s 0 37 ++ r) (split_field s 37 23 ∙ ap (λ (r : List ℕ). field s 37 23 ++ r) two_left)

  same_count : (i : ℕ) → get_or s i 0 % 256 ≡ get_or s i 0
  same_count i = let h = bytes i in omega (arith, h)

  same_parts : bench_ok (parts_at s) out back ≡ true → bench_bytes (parts_at s) ≡ s
  unfolding bench_bytes parts_at bench_ok
  same_parts e =
      let c = console_ok (console_at (field s 0 37)) in
      let d = controller_ok (controller_at (field s 37 23)) in
      let t = table_ok ToController (get_or s 60 0) out in
      let u = table_ok ToConsole (get_or s 61 0) back in
      let f = and_left (c && d) t (and_left (c && d && t) u e) in
      rw (console.console_write_back (field s 0 37) (bytes_take 37 s bytes) (and_left c d f), controller.controller_write_back (field s 37 23) (bytes_take 23 (drop 37 s) (bytes_drop 37 s bytes)) (and_right c d f), same_count 60, same_count 61)
      (sym cut)

pub bench_write_back : (s out back : List ℕ) → Bytes s → bench_ok (bench_at s) out back ≡ true → bench_bytes (bench_at s) ≡ s
unfolding bench_at chosen
bench_write_back s out back bytes e =
    let l = well_formed_long s out back e in
    rw (eq-eqb (length s) 62 l) (same_parts s out back bytes l (rw (eq-eqb (length s) 62 l) at e))

-- ## A step that is not refused met a state, and leaves the fields that the bench comes to

none_refused : (o : Option Letter) (a : Action) (out back : List ℕ) → is_refusal (step_of o no_bench a out back).outcome.report ≡ true
unfolding bench_refused chosen
none_refused none a out back = refl
none_refused (some l) a out back = rw (none_ill out back)

step_long : (s : List ℕ) (a : Action) (out back : List ℕ) → is_refusal (step_result s a out back).outcome.report ≡ false → length s ≡ 62
unfolding bench_at bench_step chosen
step_long s a out back e =
    by_test (eqb (length s) 62) (λ t. eqb-true (length s) 62 t) (λ f. absurd (true≢false (sym (none_refused (letter a.letter) a out back) ∙ rw f at e)))

pub bench_step_leaves : (s : List ℕ) (a : Action) (out back d : List ℕ) → is_refusal (step_result s a out back).outcome.report ≡ false → (step_put s a out back d).state ≡ bench_bytes (step_result s a out back).outcome.bench
unfolding written chosen
bench_step_leaves s a out back d e = rw (e, step_long s a out back e)

-- its counts have places, so that their bytes are whole
module _ (b : Bench) (out back : List ℕ) (typed : Typed b.console b.controller) (p : Bytes out) (q : Bytes back) where
  means_well : bench_ok b out back ≡ true → WellFormed numbering is_message (bench_means b out back)
  unfolding loaded_of with_numbers bench_means
  means_well t = (passes_well b out back t typed p q).well_formed

  counts_few : (o : Option Letter) (a : Action) → is_refusal (step_of o b a out back).outcome.report ≡ false → ((step_of o b a out back).outcome.bench.sent ≤ 64) × ((step_of o b a out back).outcome.bench.returned ≤ 64)
  unfolding bench_refused bench_told bench_back read_step chosen
  counts_few none a e = absurd (true≢false e)
  counts_few (some l) a e =
      by_test (bench_ok b out back)
      (λ t.
      let w = step_well_formed numbering numbering_lawful is_message (bench_means b out back) (rules.action l a.place a.copies a.message) (means_well t) in
      rw t (w.to_controller_room, w.to_console_room))
      (λ f. absurd (true≢false (rw f at e)))

  pub bench_step_counts : (a : Action) → is_refusal (bench_step b a out back).outcome.report ≡ false → ((bench_step b a out back).outcome.bench.sent ≤ 64) × ((bench_step b a out back).outcome.bench.returned ≤ 64)
  unfolding bench_step
  bench_step_counts a e = counts_few (letter a.letter) a e
