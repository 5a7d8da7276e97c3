-- What a step leaves where the rules' bench stands: such a bench again, the same one on a refusal; 16 cells beside its report.
use Prim.Native.Nat.{ℕ}
use mathlib.Core.Path.{◌≡◌, refl, sym, ap, subst, ◌∙◌}
use mathlib.Core.Bool.{Bool, true}
use mathlib.Core.Option.{Option, none, some}
use mathlib.Core.List.{List}
use borrow.Author.Tests.{eqb-true}
use lib.Dec.{eqb}
use lib.ListN.{length}
use Rattle.ground.specs.declared.refusals.Refusal.{Refusal}
use Rattle.ground.specs.Cell.{cells, is_message}
use Rattle.ground.proofs.Tests.{and_left}
use Rattle.rules.specs.Supply.{numbering, Numbers}
use Rattle.rules.specs.Letters as letters
use Rattle.rules.specs.Letters.{Letter, letter}
use Rattle.rules.specs.Ends as ends
use Rattle.rules.specs.Bench as rules
use Rattle.rules.specs.Reading.{Use, use_by, ack_after, reading, read_step}
use Rattle.ends_console.proofs.ShownReport.{refused_below}
use Rattle.rules.specs.Lists.{Opt}
use Rattle.rules.specs.WellFormed.{WellFormed, ToControllerOk}
use Rattle.rules.proofs.Bench.{step_refused_same}
use Rattle.rules.proofs.Ends.{console_reports}
use Rattle.rules.proofs.Lists.{all_at, if_holds}
use Rattle.rules.proofs.Supply.{numbering_lawful}
use Rattle.rules.proofs.WellFormed.{step_well_formed}
use Rattle.ends.specs.AsRules.{delivered}
use Rattle.ends.specs.declared.Report.TheVariants as report
use Rattle.bench.specs.AsRules.{bench_back}
use Rattle.bench.specs.Promise.{Result, bench_refused, bench_told, bench_step}
use Rattle.bench.specs.Orders.{as_rules}
use Rattle.bench.specs.declared.Action.{Action}
use Rattle.bench.proofs.Orders.{Here, out, back, step_of, step_none}
use Rattle.bench.proofs.AckShown.{said_message}

-- ## 16 cells beside every report

abbrev Long : ends.Report (List ℕ) → Type 0
Long r = length (delivered r) ≡ 16

pub message_long : (m : List ℕ) → is_message m ≡ true → length m ≡ 16
unfolding is_message
message_long m h = eqb-true (length m) 16 (and_left (eqb (length m) 16) (cells m) h)

abbrev Reported : ends.ControllerTurn (List ℕ) → Type 0
Reported t = Long t.report

takes_long : (next : Option ℕ) (mode : ends.ControllerMode) (p : ends.ToController (List ℕ)) → ToControllerOk numbering is_message p → Reported (ends.controller_takes next mode p)
unfolding ends.controller_takes
takes_long none ends.ControllerMode.idle (ends.need_i J) h = refl
takes_long (some i) ends.ControllerMode.idle (ends.need_i J) h = refl
takes_long next (ends.in_accept j i) (ends.need_i J) h = refl
takes_long next (ends.in_ack last) (ends.need_i J) h = refl
takes_long next ends.ControllerMode.idle (ends.order I m) h = refl
takes_long next (ends.in_accept j i) (ends.order I m) h = if_holds Reported _ _ _ (λ e. message_long m h.1) (λ e. refl)
takes_long next (ends.in_ack last) (ends.order I m) h = if_holds Reported _ _ _ (λ e. refl) (λ e. refl)
takes_long next ends.ControllerMode.idle (ends.done I) h = refl
takes_long next (ends.in_accept j i) (ends.done I) h = if_holds Reported _ _ _ (λ e. refl) (λ e. refl)
takes_long next (ends.in_ack last) (ends.done I) h = if_holds Reported _ _ _ (λ e. refl) (λ e. refl)

heard_long : (e : ends.Controller Numbers) (p : Option (ends.ToController (List ℕ))) → Opt (ToControllerOk numbering is_message) p → Long (ends.controller_acts numbering e (ends.ControllerAct.take p)).report
unfolding ends.controller_acts ends.controller_turn
heard_long e none h = refl
heard_long e (some p) h = takes_long (numbering.next e.numbers) e.mode p h

told_long : (e : ends.Console Numbers (List ℕ)) (act : ends.ConsoleAct (List ℕ)) → Long (ends.console_acts numbering e act).report
told_long e act = console_reports Long refl refl refl numbering e act

module _ (b : rules.Bench Numbers (List ℕ)) (w : WellFormed numbering is_message b) where
  effect_long : (l : Letter) (k n : ℕ) (m : List ℕ) → Long (rules.effect numbering b (rules.action l k n m)).report
  unfolding rules.effect rules.does rules.asks rules.takes rules.taken_out ends.controller_acts ends.controller_turn
  effect_long letters.p_put k n m = told_long b.console _
  effect_long letters.q_need k n m = told_long b.console _
  effect_long letters.d_data k n m = told_long b.console _
  effect_long letters.s_take k n m = told_long b.console _
  effect_long letters.c_down k n m = told_long b.console _
  effect_long letters.v_back k n m = told_long b.console _
  effect_long letters.o_offer k n m = refl
  effect_long letters.k_ok k n m = refl
  effect_long letters.r_take k n m = heard_long b.controller (rules.at b.to_controller k) (all_at _ b.to_controller k w.to_controller_all)
  effect_long letters.x_down k n m = refl
  effect_long letters.y_back k n m = refl
  effect_long letters.l_lose k n m = refl
  effect_long letters.m_lose k n m = refl
  effect_long letters.a_ack k n m = told_long b.console _

  step_long : (a : rules.Action (List ℕ)) → Long (rules.step numbering is_message b a).report
  unfolding rules.step
  step_long a =
      if_holds (λ (o : rules.Outcome Numbers (List ℕ)). Long o.report) _ _ _ (λ e. effect_long a.letter a.place a.copies a.message) (λ e. refl)

-- ## What a step leaves

-- with a refusal the bench and the ack stay
refusal_keeps : (u : Use) (ack : Bool) {r : ends.Report (List ℕ)} {n : ℕ} {x y : rules.Bench Numbers (List ℕ)} → r ≡ ends.refused n → x ≡ y → reading x (ack_after u ack r) ≡ reading y ack
unfolding ack_after
refusal_keeps u ack e f = λ i. reading (f i) (ack_after u ack (e i))

pub record Leaves (b : Here) (r : Result) : Type 0 where
  pub after : Here
  pub well_formed : WellFormed numbering is_message after.history
  pub bench_is : r.outcome.bench ≡ bench_back after
  pub out_is : r.out ≡ out after
  pub back_is : r.back ≡ back after
  pub long : length r.outcome.message ≡ 16
  pub kept : (q : Refusal) → r.outcome.report ≡ report.Refused q → after ≡ b

module _ (b : Here) (w : WellFormed numbering is_message b.history) where
  refused_leaves : Leaves b (bench_refused 1 (bench_back b) (out b) (back b))
  unfolding bench_refused
  refused_leaves =
      record {
        after = b;
        well_formed = w;
        bench_is = refl;
        out_is = refl;
        back_is = refl;
        long = refl;
        kept = λ q e. refl;
      }

  told_leaves : (a : rules.Action (List ℕ)) → Leaves b (bench_told (read_step numbering is_message b a))
  unfolding bench_told read_step
  told_leaves a =
      let B = b.history in
      let u = use_by (rules.asks B a.letter a.place a.message) in
      let o = rules.step numbering is_message B a in
      record {
        after = reading o.after (ack_after u b.ack o.report);
        well_formed = step_well_formed numbering numbering_lawful is_message B a w;
        bench_is = refl;
        out_is = refl;
        back_is = refl;
        long = sym (ap length (said_message u b.ack o.report)) ∙ step_long B w a;
        kept = λ q e. let r = refused_below u b.ack o.report q e in refusal_keeps u b.ack r.1 (step_refused_same numbering is_message B a r.0 r.1);
      }

  pub step_leaves : (a : Action) → Leaves b (bench_step (bench_back b) a (out b) (back b))
  step_leaves a = of_letter (letter a.letter) refl
    where
      of_letter : (o : Option Letter) → letter a.letter ≡ o → Leaves b (bench_step (bench_back b) a (out b) (back b))
      of_letter none e = subst (Leaves b) (sym (step_none b a e)) refused_leaves
      of_letter (some l) e = subst (Leaves b) (sym (step_of b w a l e)) (told_leaves (as_rules l a))
