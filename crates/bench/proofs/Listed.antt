-- Demand 3 of the list program, of what `bench::run` itself promises.
use Prim.Native.Nat.{ℕ, suc, ◌*◌}
use mathlib.Core.Path.{◌≡◌, refl, sym, ap, ap₂, subst, ◌∙◌}
use mathlib.Core.Bool.{false}
use mathlib.Core.Option as maybe
use mathlib.Core.List.{List, [], ◌∷◌, ◌++◌, map, append_assoc}
use native.Mathlib.Omega.{arith}
use contract.Lifetimes.{Lfts}
use borrow.Fn.Kinds.{Dens, ended_of}
use denote.Triple.Clauses.{AtExit}
use lib.ListN.{length, get_or, take, drop, length-append}
use lib.Seq.{take_at, drop_at}
use Rattle.ends.proofs.Reports.{IsRefused}
use Rattle.ground.specs.declared.refusals.Refusal.TheVariants.{NoAction}
use Rattle.std.specs.Prelude.{Option, None, Some}
use Rattle.ground.specs.Cell.{is_message}
use Rattle.ground.specs.Choice.{chosen}
use Rattle.ground.proofs.Tests.{by_test}
use Rattle.ground.specs.Bytes.{field}
use Rattle.rules.specs.Supply.{numbering, fresh_numbers}
use Rattle.rules.specs.Letters.{Letter, line, letters, among, letter}
use Rattle.rules.specs.Bench as rules
use Rattle.rules.specs.Log.{Event}
use Rattle.rules.specs.ReadPlain.{PlainRead}
use Rattle.rules.specs.ReadDemand3.{firsts, spares_lost}
use Rattle.rules.specs.Demand3.{written}
use Rattle.rules.specs.WellFormed.{WellFormed}
use Rattle.rules.proofs.Letters.{letter_of_lem}
use Rattle.rules.proofs.ReadPlain.{right_read_plain}
use Rattle.rules.proofs.WellFormed.{fresh_well_formed}
use Rattle.letters.specs.Lines.{line_of, found_of}
use Rattle.ends.specs.declared.Report.{Report}
use Rattle.ends.specs.declared.Report.TheVariants as report
use Rattle.listing.specs.Record.{list_record, is_well_formed, fields}
use Rattle.channels.specs.Table.{laid, channel}
use Rattle.bench.specs.AsRules.{bench_back}
use Rattle.bench.specs.Promise.{Result, bench_refused, bench_told, bench_step, bench_fresh, fresh_rules}
use Rattle.bench.specs.Reports.{report_cells, cells_say, report_line}
use Rattle.bench.specs.Running.{records_of, uses_of, action_as, list_action, played_as, played, lines, limit_of, list_lines, Ran, list_run}
use Rattle.bench.specs.Orders.{outcomes, fresh_outcomes, shown_by, all_shown_of, Rows, rows_of}
use Rattle.bench.specs.Listed.{action_or, action_of, records_in, actions_in, lines_of, line_shows, lines_show, j₀, i₀, clear, ListRight}
use Rattle.bench.specs.declared.Action.{Action}
use Rattle.bench.specs.declared.Bench.{Bench}
use Rattle.bench.specs.declared.Outcome.{Outcome}
use Rattle.bench.proofs.StepLeaves.{step_leaves}
use Rattle.bench.proofs.Orders.{Here, out, back, orders_right}
use Rattle.bench.proofs.Reports.{said, report_said, line_letter, line_says, line_message, line_long}
use Rattle.bench.proofs.runner.run.Kinds as run-kinds
use Rattle.bench.proofs.runner.run.Reads as run

-- ## A record is played as the step plays its action

played_as_lem : (o : Option Action) (b : Bench) (out back : List ℕ) → played_as o b out back ≡ bench_step b (action_or o) out back
unfolding bench_step letter letters among line chosen
played_as_lem None b out back = refl
played_as_lem (Some a) b out back = refl

lines_are : (k : ℕ) (b : Bench) (out back : List ℕ) (ss : List (List ℕ)) → lines k b out back ss ≡ lines_of k ss (outcomes b out back (map action_of ss))
unfolding lines played outcomes lines_of
lines_are k b out back [] = refl
lines_are k b out back (s ∷ ss) =
    let r = bench_step b (action_of s) out back in
    ap (λ (x : Result). report_line k (get_or s 0 0) x.outcome.report x.outcome.message ++ lines (suc k) x.outcome.bench x.out x.back ss) (played_as_lem (list_action s) b out back)
    ∙ ap (λ (l : List ℕ). report_line k (get_or s 0 0) r.outcome.report r.outcome.message ++ l) (lines_are (suc k) r.outcome.bench r.out r.back ss)

list_lines_lem : (n : ℕ) (s : List ℕ) → list_lines n s ≡ lines_of 1 (records_of n s) (fresh_outcomes j₀ i₀ clear clear (map action_of (records_of n s)))
unfolding list_lines fresh_outcomes bench_fresh bench_told rules.fresh channel laid chosen
list_lines_lem n s = lines_are 1 _ clear clear (records_of n s)

-- ## What a line shows is what its outcome shows

-- with nothing to report, the line's letter and the record's cells are the action's
abbrev OwnAction : List ℕ → Action → Type 0
OwnAction s a = (letter (get_or s 0 0) ≡ letter a.letter) × (field s 4 16 ≡ a.message)

module _ (s : List ℕ) (b : Bench) (out back : List ℕ) where
  abbrev Owns : Option Action → Type 0
  Owns o = (bench_step b (action_or o) out back).outcome.report ≡ report.Nothing → OwnAction s (action_or o)

  is_no_report : report.Refused NoAction ≡ report.Nothing → ⊥
  is_no_report e = subst IsRefused e tt

  none_owns : Owns None
  unfolding bench_step bench_refused letter letters among line chosen
  none_owns e = absurd (is_no_report e)

  letter_owns : (o : maybe.Option Letter) → letter (get_or s 0 0) ≡ o → Owns (action_as (found_of o) s)
  unfolding list_record fields line_of chosen
  letter_owns maybe.none e = none_owns
  letter_owns (maybe.some l) e =
      by_test (is_well_formed (uses_of (line_of l)) s) (λ t. rw t (λ _. (e ∙ sym (letter_of_lem l), refl))) (λ f. rw f none_owns)

  record_owns : Owns (list_action s)
  unfolding list_action
  record_owns = letter_owns (letter (get_or s 0 0)) refl

module _ (k : ℕ) (s m : List ℕ) (long : length m ≡ 16) where
  abbrev bytes : Report → List ℕ
  bytes r = report_line k (get_or s 0 0) r m

  -- the action as it is read
  abbrev read : Report → Action
  read r = record { letter = get_or (bytes r) 5 0; place = 0; copies = 0; message = field s 4 16 }

  by_report : (r : Report) → (r ≡ report.Nothing → OwnAction s (action_of s)) → shown_by (read r) (said (report_cells r)) m ≡ shown_by (action_of s) r m
  unfolding cells_say chosen
  by_report report.Nothing own = rw (line_letter k (get_or s 0 0) m report.Nothing, (own refl).0, (own refl).1)
  by_report report.Delivered own = refl
  by_report report.Ok own = refl
  by_report report.Lost own = refl
  by_report (report.Refused q) own = ap (λ (x : Report). shown_by (read (report.Refused q)) x m) (report_said (report.Refused q))

  line_shows_lem : (r : Report) → (r ≡ report.Nothing → OwnAction s (action_of s)) → line_shows s (bytes r) ≡ shown_by (action_of s) r m
  unfolding line_shows
  line_shows_lem r own =
      ap₂ (shown_by (read r)) (line_says k (get_or s 0 0) m r) (line_message k (get_or s 0 0) m r long) ∙ by_report r own

-- ## All lines, where the rules' bench stands

abbrev outcomes_from : Here → List (List ℕ) → List Outcome
outcomes_from b ss = outcomes (bench_back b) (out b) (back b) (map action_of ss)

all_shown_lem : (k : ℕ) (b : Here) → WellFormed numbering is_message b.history → (ss : List (List ℕ)) (rest : List ℕ)
    → (lines_show ss (lines_of k ss (outcomes_from b ss) ++ rest) ≡ all_shown_of (map action_of ss) (outcomes_from b ss)) × (length (lines_of k ss (outcomes_from b ss)) ≡ 27 * length ss)
unfolding lines_show lines_of outcomes all_shown_of
all_shown_lem k b w [] rest = (refl, refl)
all_shown_lem k b w (s ∷ ss) rest =
    let r = bench_step (bench_back b) (action_of s) (out b) (back b) in
    let v = step_leaves b w (action_of s) in
    let x = report_line k (get_or s 0 0) r.outcome.report r.outcome.message in
    let os = outcomes r.outcome.bench r.out r.back (map action_of ss) in
    let next : os ≡ outcomes_from v.after ss = λ i. outcomes (v.bench_is i) (v.out_is i) (v.back_is i) (map action_of ss) in
    let more = all_shown_lem (suc k) v.after v.well_formed ss rest in
    let y = lines_of (suc k) ss os in
    let l : length x ≡ 27 = line_long k (get_or s 0 0) r.outcome.message r.outcome.report v.long in
    let n = length-append x y in
    let here = line_shows_lem k s r.outcome.message v.long r.outcome.report (record_owns s (bench_back b) (out b) (back b)) in
    let joined : (x ++ y) ++ rest ≡ x ++ (y ++ rest) = append_assoc x y rest in
    let tail : lines_show ss (y ++ rest) ≡ all_shown_of (map action_of ss) os = subst (λ (z : List Outcome). lines_show ss (lines_of (suc k) ss z ++ rest) ≡ all_shown_of (map action_of ss) z) (sym next) more.0 in
    let m : length y ≡ 27 * length ss = ap (λ (z : List Outcome). length (lines_of (suc k) ss z)) next ∙ more.1 in (
      ap (λ (z : List ℕ). line_shows s (take 27 z) ∷ lines_show ss (drop 27 z)) joined
          ∙ ap₂ (λ (p q : List ℕ). line_shows s p ∷ lines_show ss q) (take_at x (y ++ rest) 27 l) (drop_at x (y ++ rest) 27 l)
          ∙ ap₂ (λ (p : maybe.Option (Event (List ℕ))) (q : Rows). p ∷ q) here tail,
      omega (arith, n, l, m),
    )

-- ## The runner

module _ (input before : List ℕ) where
  abbrev records : List (List ℕ)
  records = records_in input before

  abbrev told : List Outcome
  told = fresh_outcomes j₀ i₀ clear clear (actions_in input before)

  abbrev all : List ℕ
  all = lines_of 1 records told

  fresh_ok : WellFormed numbering is_message (fresh_rules j₀ i₀).history
  fresh_ok = fresh_well_formed numbering is_message (fresh_numbers 0) (fresh_numbers 0) refl refl

  lines_shown : (rest : List ℕ) → (lines_show records (all ++ rest) ≡ all_shown_of (actions_in input before) told) × (length all ≡ 27 * length records)
  unfolding fresh_outcomes bench_fresh bench_told chosen
  lines_shown rest = all_shown_lem 1 (fresh_rules j₀ i₀) fresh_ok records rest

  ran : list_run input before ≡ record { number = length all; output = all ++ drop (length all) before }
  unfolding list_run
  ran = ap (λ (l : List ℕ). record { number = length l; output = l ++ drop (length l) before }) (list_lines_lem (limit_of (length before)) input)

  run_right : ListRight input before (list_run input before).output (list_run input before).number
  run_right =
      let rest = drop (length all) before in
      let orders = orders_right j₀ i₀ clear clear (omega arith) (omega arith) refl refl (actions_in input before) in
      subst (λ (r : Ran). ListRight input before r.output r.number) (sym ran)
      (record {
        number = (lines_shown rest).1;
        lines = take_at all rest (length all) refl;
        rest = drop_at all rest (length all) refl;
        orders = orders;
        shown = orders.own ∙ ap (firsts false) (sym (lines_shown rest).0);
        spare = ap (spares_lost false) (lines_shown rest).0 ∙ orders.spare;
      })

-- what comes to this run are lines of right orders
pub ran_right : (input before : List ℕ) {n : ℕ} {after : List ℕ} → record { number = n; output = after } ≡ list_run input before → ListRight input before after n
ran_right input before e = subst (λ (r : Ran). ListRight input before r.output r.number) (sym e) (run_right input before)

-- whatever `bench::run` is handed
module _ (κs : Lfts 2) (a : Dens κs run-kinds.ps) (x : ℕ) (s : AtExit (ended_of 2 run-kinds.ps run-kinds.r) κs) (meets : run.Post κs a x s) where
  pub list_right : ListRight a.0.now a.1.0.now s.1.0.now x
  list_right = ran_right a.0.now a.1.0.now meets

  -- in plain words
  pub list_plain : PlainRead (written (rows_of j₀ i₀ (actions_in a.0.now a.1.0.now)) [])
  list_plain = right_read_plain _ list_right.orders.right
