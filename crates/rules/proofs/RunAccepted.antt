-- What holds between two actions of a run; so the judge accepts the log of every run from a fresh bench. Assumes nothing.
use Prim.Native.Nat.{suc}
use mathlib.Core.Path.{◌≡◌, refl, sym, ap, subst}
use mathlib.Core.Bool.{Bool}
use mathlib.Core.Option.{Option, none, some}
use mathlib.Core.List.{List, [], ◌∷◌}
use native.Mathlib.Omega.{arith}
use Rattle.rules.specs.Supply.{Supply, Lawful}
use Rattle.rules.specs.Ends.{holding}
use Rattle.rules.specs.Bench.{Bench, Action, fresh}
use Rattle.rules.specs.Relabel.{in_action}
use Rattle.rules.specs.Lists.{Opt}
use Rattle.rules.specs.WellFormed.{Used}
use Rattle.rules.specs.Log.{Labelled, labelled, Event, Log, put_count}
use Rattle.rules.specs.Judge.{judge}
use Rattle.rules.specs.Demand3.{write, labelled_step, row_of, rows, written}
use Rattle.rules.proofs.Numbers.{BorneByAll, step_stands, used_tracked}
use Rattle.rules.proofs.Judge.{Allowed, Accepted, counted_puts}
use Rattle.rules.proofs.Invariant.{Inv, NothingOn}
use Rattle.rules.proofs.Turns.{judged}
use Rattle.rules.proofs.Steps.{step_keeps}

module _ {M : Type 0} where
  pub write_accepted : (past : Log M) (o : Option (Event M)) → Accepted past → Opt (Allowed (judge past)) o → Accepted (write o past)
  write_accepted past none a h = a
  write_accepted past (some e) a h = (a, h)

  pub judge_write : (past : Log M) (o : Option (Event M)) → judged (judge past) o ≡ judge (write o past)
  judge_write past none = refl
  judge_write past (some e) = refl

module _ {S M : Type 0} (U : Supply S) (laws : Lawful S U) (good : M → Bool) where
  -- what holds between two actions of a run
  pub record Kept (past : Log M) (b : Bench S (Labelled M)) : Type 1 where
    pub accepted : Accepted past
    pub inv : Inv S M b (judge past)
    pub known : BorneByAll (Used U b.console.numbers) (Used U b.controller.numbers) b

  pub action_keeps : (past : Log M) (b : Bench S (Labelled M)) (a : Action M) → Kept past b
      → Kept (write (row_of U good past b a) past) (labelled_step U good past b a).after
  action_keeps past b a h =
      let n = suc (put_count past) in
      let numbered = ap suc (sym (counted_puts past h.accepted)) in
      let g = step_keeps U laws b (judge past) h.inv h.known n a.place a.copies a.message (λ m. good m.cells) numbered a.letter in
      let o = row_of U good past b a in
      record {
        accepted = write_accepted past o h.accepted g.allowed;
        inv = subst (λ w. Inv S M (labelled_step U good past b a).after w) (judge_write past o) g.inv;
        known =
            step_stands U (Used U) (Used U) (used_tracked U laws) (used_tracked U laws) (λ m. good m.cells) b (in_action (labelled n) a)
            h.known;
      }

  pub run_keeps : (past : Log M) (b : Bench S (Labelled M)) (l : List (Action M)) → Kept past b → Accepted (written (rows U good past b l) past)
  unfolding rows written
  run_keeps past b [] h = h.accepted
  run_keeps past b (a ∷ l) h = run_keeps (write (row_of U good past b a) past) (labelled_step U good past b a).after l (action_keeps past b a h)

  pub fresh_kept : (j i : S) → Kept [] (fresh j i)
  unfolding fresh holding
  fresh_kept j i =
      record {
        accepted = tt;
        inv =
            record {
              on = NothingOn;
              core =
                  record {
                    held = tt;
                    bound = omega arith;
                    needs = λ x. absurd x;
                    gone = λ _ x. absurd x;
                    live_offer = λ _ x. absurd x;
                    live_last = λ _ x. absurd x;
                  };
              ready_ups = tt;
              ready_downs = tt;
              ups = tt;
              downs = tt;
              console = refl;
              controller = refl;
              held = refl;
            };
        known = record { console = tt; controller = tt; to_controller_all = tt; to_console_all = tt };
      }
