-- Demand 3 of the bench for C, from that of the bench's step: through its bytes the state is, call after call, the fields that the bench comes to.
use Prim.Native.Nat.{ℕ, ◌<◌, ◌^◌}
use mathlib.Core.Path.{◌≡◌, refl, sym, ap, ap₂, ◌∙◌}
use mathlib.Core.Bool.{true, false, false≢true}
use mathlib.Core.Option.{Option}
use mathlib.Core.List.{List, [], ◌∷◌}
use native.Mathlib.Omega.{arith}
use borrow.Author.Tests.{eq-eqb, ne_eqb}
use lib.ListN.{length}
use Rattle.ground.proofs.RefusalNumbers.{refusal_of-number_of, number_in_table}
use Rattle.ground.specs.Refusals.{number_of}
use Rattle.ground.specs.declared.refusals.Refusal.{Refusal}
use Rattle.ground.specs.Cell.{is_message}
use Rattle.ground.specs.Choice.{chosen}
use Rattle.ground.proofs.Tests.{by_test}
use Rattle.wire.specs.declared.I.{I}
use Rattle.wire.specs.declared.J.{J}
use Rattle.rules.specs.Supply.{numbering, fresh_numbers}
use Rattle.rules.specs.Log.{Event}
use Rattle.rules.specs.ReadPlain.{PlainRead}
use Rattle.rules.specs.ReadDemand3.{firsts, spares_lost}
use Rattle.rules.specs.Demand3.{written}
use Rattle.rules.specs.WellFormed.{WellFormed}
use Rattle.rules.proofs.ReadPlain.{right_read_plain}
use Rattle.rules.proofs.WellFormed.{fresh_well_formed}
use Rattle.numbers.proofs.Range.{fresh_sound}
use Rattle.ends.specs.declared.Report.{Report}
use Rattle.ends.specs.declared.Report.TheVariants as report
use Rattle.bench.specs.AsRules.{bench_back}
use Rattle.bench.specs.Promise.{Result, bench_told, bench_step, bench_fresh, fresh_rules}
use Rattle.bench.specs.Orders.{outcomes, fresh_outcomes, shown_by, all_shown_of, Rows, rows_of}
use Rattle.bench.specs.declared.Action.{Action}
use Rattle.bench.specs.declared.Bench.{Bench}
use Rattle.bench.proofs.StepLeaves.{Leaves, step_leaves}
use Rattle.bench.proofs.Orders.{Here, out, back, orders_right}
use Rattle.boundary.specs.Controller.{delivered_to}
use Rattle.boundary.specs.State as state
use Rattle.boundary.specs.State.{is_refusal, marks, told}
use Rattle.boundary.specs.Benches.{bench_bytes, bench_at, BenchPut, fresh_put, step_put}
use Rattle.boundary.proofs.BenchTrips.{bench_read_back, bench_step_leaves}
use Rattle.boundary.proofs.ConsoleWellFormed as console
use Rattle.boundary.proofs.ControllerWellFormed as controller
use Rattle.demand3.specs.BenchForC.{Call, Seen, calls, fresh_calls, byte_says, calls_show, actions_of, CallsRight}

-- ## Where the rules' bench stands, its bytes read back

abbrev kept : Here → List ℕ
kept b = bench_bytes (bench_back b)

module _ (b : Here) (w : WellFormed numbering is_message b.history) where
  reads_back : bench_at (kept b) ≡ bench_back b
  unfolding bench_back
  reads_back =
      bench_read_back (bench_back b)
      (console.fields_left b.history.console b.ack w.console).1
      (controller.fields_left b.history.controller w.controller).1
      w.to_controller_room w.to_console_room

-- ## One call

-- the byte told says the report
told_says : (r : Report) → byte_says (told r false false) ≡ r
unfolding byte_says marks chosen
told_says report.Nothing = refl
told_says report.Delivered = refl
told_says report.Ok = refl
told_says report.Lost = refl
told_says (report.Refused q) =
    let n = number_of q in
    let h = number_in_table q in
    rw (ne_eqb n 0 (λ e. omega (arith, e, h.0)), ne_eqb n 64 (λ e. omega (arith, e, h.1)), ne_eqb n 65 (λ e. omega (arith, e, h.1)), ne_eqb n 66 (λ e. omega (arith, e, h.1))) (ap report.Refused (refusal_of-number_of q))

-- the lent bytes show the delivery
delivered_shows : (a : Action) (r : Report) (m d : List ℕ) → shown_by a r (delivered_to r m d) ≡ shown_by a r m
delivered_shows a report.Nothing m d = refl
delivered_shows a report.Delivered m d = refl
delivered_shows a report.Ok m d = refl
delivered_shows a report.Lost m d = refl
delivered_shows a (report.Refused n) m d = refl

is_refused : (r : Report) → is_refusal r ≡ true → (q : Refusal) × (r ≡ report.Refused q)
is_refused report.Nothing e = absurd (false≢true e)
is_refused report.Delivered e = absurd (false≢true e)
is_refused report.Ok e = absurd (false≢true e)
is_refused report.Lost e = absurd (false≢true e)
is_refused (report.Refused q) e = (q, refl)

module _ (b : Here) (w : WellFormed numbering is_message b.history) (a : Action) where
  abbrev result : Result
  result = bench_step (bench_back b) a (out b) (back b)

  abbrev through : Result
  through = bench_step (bench_at (kept b)) a (out b) (back b)

  same : through ≡ result
  same = ap (λ (x : Bench). bench_step x a (out b) (back b)) (reads_back b w)

  -- the state that it leaves
  state_left : (v : Leaves b result) (d : List ℕ) → (step_put (kept b) a (out b) (back b) d).state ≡ kept v.after
  unfolding chosen
  state_left v d =
      let r = through.outcome.report in
      by_test (is_refusal r)
      (λ t. let q = is_refused r t in rw t (ap kept (sym (v.kept q.0 (sym (ap (λ (x : Result). x.outcome.report) same) ∙ q.1)))))
      (λ f. bench_step_leaves (kept b) a (out b) (back b) d f ∙ ap (λ (x : Result). bench_bytes x.outcome.bench) same ∙ ap bench_bytes v.bench_is)

  -- the row that it shows
  row_shown : (v : Leaves b result) (d : List ℕ)
      → shown_by a (byte_says (step_put (kept b) a (out b) (back b) d).told) (step_put (kept b) a (out b) (back b) d).delivered ≡ shown_by a result.outcome.report result.outcome.message
  row_shown v d =
      let r = result.outcome.report in
      ap (λ (x : Result). shown_by a (byte_says (told x.outcome.report false false)) (delivered_to x.outcome.report x.outcome.message d)) same
      ∙ ap (λ (y : Report). shown_by a y (delivered_to r result.outcome.message d)) (told_says r)
      ∙ delivered_shows a r result.outcome.message d

-- ## All calls

calls_show_lem : (b : Here) → WellFormed numbering is_message b.history → (l : List Call)
    → calls_show l (calls (kept b) (out b) (back b) l) ≡ all_shown_of (actions_of l) (outcomes (bench_back b) (out b) (back b) (actions_of l))
unfolding calls_show calls outcomes all_shown_of
calls_show_lem b w [] = refl
calls_show_lem b w (c ∷ l) =
    let a = c.action in
    let v = step_leaves b w a in
    let q = same b w a in
    let p = step_put (kept b) a (out b) (back b) c.lent in
    let next : ◌≡◌ {A = List Seen} (calls p.state p.out p.back l) (calls (kept v.after) (out v.after) (back v.after) l) =
    λ i. calls (state_left b w a v c.lent i) ((ap (λ (x : Result). x.out) q ∙ v.out_is) i) ((ap (λ (x : Result). x.back) q ∙ v.back_is) i) l in
    let later : outcomes (result b w a).outcome.bench (result b w a).out (result b w a).back (actions_of l) ≡ outcomes (bench_back v.after) (out v.after) (back v.after) (actions_of l) =
    λ i. outcomes (v.bench_is i) (v.out_is i) (v.back_is i) (actions_of l) in
    ap₂ (λ (x : Option (Event (List ℕ))) (xs : Rows). x ∷ xs) (row_shown b w a v c.lent)
    (ap (calls_show l) next ∙ calls_show_lem v.after v.well_formed l ∙ ap (all_shown_of (actions_of l)) (sym later))

-- ## From `nooseless_bench_fresh` on: any two numbers, any state of 62 bytes, any tables of 2,048 bytes, any calls

module _ (j : J) (i : I) (s out₀ back₀ : List ℕ) (p : j.0 < 2 ^ 32) (q : i.0 < 2 ^ 32) (k : length s ≡ 62) (m : length out₀ ≡ 2048) (n : length back₀ ≡ 2048) (l : List Call) where
  abbrev b : Here
  b = fresh_rules j i

  fresh_put_lem : fresh_put j i s out₀ back₀ ≡ record { told = 0; state = kept b; out = out b; back = back b }
  unfolding fresh_put bench_fresh bench_told state.written marks chosen
  fresh_put_lem = rw (eq-eqb (length s) 62 k, eq-eqb (length out₀) 2048 m, eq-eqb (length back₀) 2048 n)

  fresh_told : fresh_outcomes j i out₀ back₀ (actions_of l) ≡ outcomes (bench_back b) (out b) (back b) (actions_of l)
  unfolding fresh_outcomes bench_fresh bench_told chosen
  fresh_told = rw (eq-eqb (length out₀) 2048 m, eq-eqb (length back₀) 2048 n)

  fresh_ok : WellFormed numbering is_message b.history
  fresh_ok = fresh_well_formed numbering is_message (fresh_numbers j.0) (fresh_numbers i.0) (fresh_sound j.0 p) (fresh_sound i.0 q)

  -- what the calls show is what the outcomes show
  calls_shown : all_shown_of (actions_of l) (fresh_outcomes j i out₀ back₀ (actions_of l)) ≡ calls_show l (fresh_calls j i s out₀ back₀ l)
  unfolding fresh_calls
  calls_shown =
      ap (all_shown_of (actions_of l)) fresh_told ∙ sym (calls_show_lem b fresh_ok l) ∙ ap (λ (x : BenchPut). calls_show l (calls x.state x.out x.back l)) (sym fresh_put_lem)

  pub calls_right : CallsRight j i s out₀ back₀ l
  calls_right =
      let orders = orders_right j i out₀ back₀ p q m n (actions_of l) in
      record {
        begun = ap (λ (x : BenchPut). x.told) fresh_put_lem;
        right = orders.right;
        own = orders.own ∙ ap (firsts false) calls_shown;
        spare = ap (spares_lost false) (sym calls_shown) ∙ orders.spare;
        history = orders.history;
      }

  -- in plain words
  pub calls_plain : PlainRead (written (rows_of j i (actions_of l)) [])
  calls_plain = right_read_plain _ calls_right.right
