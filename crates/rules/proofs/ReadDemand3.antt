-- Demand 3 as request 2 words it: for every supply of numbers that keeps the laws, every two starting points of it and every list of actions, the log
-- with the readings is right; action by action its rows, without their numbers, are what the real steps show, the first answer after each put; and
-- an A that is no put's answer tells lost. Assumes nothing.
use Prim.Native.Nat.{ℕ, suc}
use mathlib.Core.Path.{◌≡◌, refl, sym, ap, subst, ◌∙◌}
use mathlib.Core.Bool.{Bool, true, false, not}
use mathlib.Core.Option.{Option, none, some}
use mathlib.Core.List.{List, [], ◌∷◌}
use lib.Dec.{T, eqb}
use borrow.Author.Tests.{eqb-true, not-false}
use Rattle.ground.specs.Choice.{chosen}
use Rattle.ground.specs.First.{refusal, applies}
use Rattle.rules.specs.Supply.{Supply, Lawful}
use Rattle.rules.specs.Letters.{Letter, p_put, q_need, d_data, s_take, c_down, v_back, o_offer, k_ok, r_take, x_down, y_back, l_lose, m_lose, a_ack, line}
use Rattle.rules.specs.Ends.{ConsoleAct, holding, console_turn, console_rules, console_acts}
use Rattle.rules.specs.Bench.{Bench, Action, action, Outcome, at, asks, does, effect, end_rules, rules_of, step, fresh}
use Rattle.rules.specs.Relabel.{in_action, in_report, in_bench}
use Rattle.rules.specs.Lists.{Opt}
use Rattle.rules.specs.Log.{Labelled, labelled, Event, Put, Log, console_up, waiting, put_count, Fits}
use Rattle.rules.specs.Judge.{judge}
use Rattle.rules.specs.Demand3.{row, held_label, write, labelled_step, shown, all_shown}
use Rattle.rules.specs.Reading.{use_by, Reading, read_step, read_reports, fresh_reading}
use Rattle.rules.specs.ReadDemand3.{labelled_read_step, read_row_of, read_rows, spares_lost, read_shown, Demand3Read}
use Rattle.rules.proofs.Lists.{if_holds}
use Rattle.rules.proofs.Refusals.{passed}
use Rattle.rules.proofs.Ends.{console_reports, controller_reports}
use Rattle.rules.proofs.Relabel.{nat_asks}
use Rattle.rules.proofs.Judge.{Allowed, Accepted, accepted_right, counted_puts}
use Rattle.rules.proofs.Steps.{puts_says}
use Rattle.rules.proofs.RunAccepted.{Kept, action_keeps, fresh_kept}
use Rattle.rules.proofs.Demand3.{bare, bare_step}
use Rattle.rules.proofs.Readings.{Reads, start_reads}
use Rattle.rules.proofs.ReadRows.{Faithful, faithful_log, Next, Fair, action_goes, nat_use, in_reading, in_read, nat_read}

-- ## What a step reports

module _ {S M : Type 0} (U : Supply S) (laws : Lawful S U) (good : M → Bool) where
  -- where a put would be taken the log says that the console is up and none waits
  pub found_idle : (h : Log M) (b : Bench S (Labelled M)) (c : M) → Kept U laws good h b → b.console.up ≡ true → holding b.console.mode ≡ false
      → T (console_up h) × (waiting h ≡ none)
  found_idle h b c k u q =
      let n = suc (put_count h) in
      let allowed : Allowed (judge h) (Put n c) = (
        subst T (sym (k.inv.console ∙ u)) tt,
        subst (λ z. T (not z)) (sym (k.inv.held ∙ q)) tt,
        ap suc (sym (counted_puts h k.accepted)),
      ) in
      let f = (accepted_right (Put n c ∷ h) (k.accepted, allowed)).1 in
      (f.by_one_up, f.none_held)

-- an answer arrives at S only
module _ {S M : Type 0} (U : Supply S) (h : Log M) (b b' : Bench S (Labelled M)) (x y : ℕ) (m : Labelled M) where
  pub does_fair : (l : Letter) → (l ≡ a_ack → T (console_up h) × (waiting h ≡ none)) → Fair h l (does U b' y (asks b l x m)).report
  unfolding does asks console_acts console_turn
  does_fair p_put idle = rw (puts_says (U.next b'.console.numbers) b'.console.mode m) idle
  does_fair q_need idle = idle
  does_fair d_data idle = idle
  does_fair s_take idle = console_reports (Fair h s_take) idle refl refl U b'.console (ConsoleAct.take (at b.to_console x))
  does_fair c_down idle = idle
  does_fair v_back idle = idle
  does_fair o_offer idle = controller_reports (Fair h o_offer) idle (λ m. tt) U b'.controller _
  does_fair k_ok idle = controller_reports (Fair h k_ok) idle (λ m. tt) U b'.controller _
  does_fair r_take idle = controller_reports (Fair h r_take) idle (λ m. tt) U b'.controller _
  does_fair x_down idle = controller_reports (Fair h x_down) idle (λ m. tt) U b'.controller _
  does_fair y_back idle = controller_reports (Fair h y_back) idle (λ m. tt) U b'.controller _
  does_fair l_lose idle = idle
  does_fair m_lose idle = idle
  does_fair a_ack idle = idle

-- a row that was accepted fits what was before it
pub written_fits : {M : Type 0} (h : Log M) (o : Option (Event M)) → Accepted (write o h) → Opt (Fits h) o
written_fits h none a = tt
written_fits h (some e) a = (accepted_right (e ∷ h) a).1

-- ## A step of the bench

module _ {S M : Type 0} (U : Supply S) (laws : Lawful S U) (good : M → Bool) where
  abbrev fit : Labelled M → Bool
  fit m = good m.cells

  -- A is taken from a console that is up and holds none
  a_passed : (b : Bench S (Labelled M)) (x y : ℕ) (m : Labelled M) → refusal (rules_of U fit b (action a_ack x y m)) ≡ 0
      → (b.console.up ≡ true) × (holding b.console.mode ≡ false)
  unfolding rules_of applies chosen line asks end_rules console_rules
  a_passed b x y m e =
      let rules = rules_of U fit b (action a_ack x y m) in (not-false _ (passed rules e 4 tt), passed rules e 6 tt)

  step_fair : (h : Log M) (b : Bench S (Labelled M)) (l : Letter) (x y n : ℕ) (c : M) → Kept U laws good h b
      → Fair h l (step U fit b (action l x y (labelled n c))).report
  unfolding step effect
  step_fair h b l x y n c k =
      let rules = rules_of U fit b (action l x y (labelled n c)) in
      if_holds (λ (o : Outcome S (Labelled M)). Fair h l o.report) (eqb (refusal rules) 0) _ _
      (λ e. does_fair U h b _ x y (labelled n c) l (λ q. idle l q (eqb-true (refusal rules) 0 e))) (λ e. tt)
    where
      idle : (l : Letter) → l ≡ a_ack → refusal (rules_of U fit b (action l x y (labelled n c))) ≡ 0 → T (console_up h) × (waiting h ≡ none)
      idle l q e = let (u, v) = a_passed b x y (labelled n c) (rw q at e) in found_idle U laws good h b c k u v

  -- the history goes on, by whichever log the puts are counted
  kept_on : (h : Log M) (b : Bench S (Labelled M)) (a : Action M) (n : ℕ) → suc (put_count h) ≡ n → Kept U laws good h b
      → let o = step U fit b (in_action (labelled n) a) in Kept U laws good (write (row n (held_label b.console.mode) a o.report) h) o.after
  kept_on h b a n q k =
      subst (λ n. let o = step U fit b (in_action (labelled n) a) in Kept U laws good (write (row n (held_label b.console.mode) a o.report) h) o.after)
      q (action_keeps U laws good h b a k)

  -- the real step is the labelled one with the numbers taken off
  bare_read_step : (p : Log M) (r : Reading (Bench S (Labelled M))) (a : Action M)
      → read_step U good (in_reading (in_bench bare) r) a ≡ in_read bare (in_bench bare) (labelled_read_step U good p r a)
  unfolding read_step
  bare_read_step p r a =
      let x = asks r.history a.letter a.place (labelled (suc (put_count p)) a.message) in
      let o = labelled_step U good p r.history a in
      rw (bare_step U good p r.history a, nat_asks bare U r.history a.letter a.place (labelled (suc (put_count p)) a.message), nat_use bare x)
      (nat_read bare (in_bench bare) (use_by x) r.ack o.report o.after)

  bench_goes : (h p : Log M) (r : Reading (Bench S (Labelled M))) (a : Action M) → Kept U laws good h r.history → Reads h p r.ack
      → let d = labelled_read_step U good p r a in Next (Kept U laws good) h p (read_row_of U good p r a) (shown a (in_report bare d.report)) d.after
  unfolding read_step
  bench_goes h p r a k g =
      let n = suc (put_count p) in
      let b = r.history in
      let held = held_label b.console.mode in
      let report = (step U fit b (in_action (labelled n) a)).report in
      let o = row n held a report in
      let kept = kept_on h b a n (ap suc g.alike.same.count) k in
      record {
        row = o;
        holds = kept;
        goes =
            action_goes b h p r.ack g held a.place a.copies a.message a.letter report
            (step_fair h b a.letter a.place a.copies n a.message k) (written_fits h o kept.accepted);
      }

  -- ## A run

  run_faithful : (h p : Log M) (r : Reading (Bench S (Labelled M))) (l : List (Action M)) → Kept U laws good h r.history → Reads h p r.ack
      → Faithful p (read_rows U good p r l) (all_shown l (read_reports U good (in_reading (in_bench bare) r) l))
  unfolding read_rows read_reports all_shown
  run_faithful h p r [] k g = tt
  run_faithful h p r (a ∷ l) k g =
      let d = labelled_read_step U good p r a in
      let o = read_row_of U good p r a in
      let s = bench_goes h p r a k g in
      rw (bare_read_step p r a) (s.goes.shows, run_faithful (write s.row h) (write o p) d.after l s.holds s.goes.reads)

-- ## The theorem

module _ {S M : Type 0} (U : Supply S) (good : M → Bool) (laws : Lawful S U) (j i : S) (l : List (Action M)) where
  pub demand3_read : Demand3Read U good j i l
  unfolding fresh
  demand3_read =
      let f = run_faithful U laws good [] [] (fresh_reading j i) l (fresh_kept U laws good j i) start_reads in
      let (right, own, spare) = faithful_log [] (read_rows U good [] (fresh_reading j i) l) (read_shown U good j i l) f tt in
      record { right = right; own = own; spare = spare }

  -- an A before any put, or a second one after a put, tells lost
  pub spare_reading_is_lost : spares_lost false (read_shown U good j i l) ≡ true
  spare_reading_is_lost = demand3_read.spare
