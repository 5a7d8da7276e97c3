-- Demand 3: for every supply of numbers that keeps the laws, every two starting points of it and every list of actions, the log of the run is
-- right; and action by action its rows, without their numbers, are what the real steps report. Assumes nothing.
use Prim.Native.Nat.{ℕ, suc}
use mathlib.Core.Path.{◌≡◌, refl, ap, ap₂, sym, ◌∙◌}
use mathlib.Core.Logic.{◌↔◌}
use mathlib.Core.Bool.{Bool, true}
use mathlib.Core.Option
use mathlib.Core.List.{List, [], ◌∷◌, map}
use Rattle.ground.specs.Cell.{is_message}
use Rattle.rules.specs.Supply.{Supply, Lawful, counted}
use Rattle.rules.specs.Letters.{Letter, p_put, q_need, d_data, s_take, c_down, v_back, o_offer, k_ok, r_take, x_down, y_back, l_lose, m_lose, a_ack}
use Rattle.rules.specs.Ends.{Report, nothing, delivered, answered_ok, answered_lost, refused}
use Rattle.rules.specs.Bench.{Bench, Action, Outcome, step, reports, fresh}
use Rattle.rules.specs.Relabel.{in_action, in_report, in_bench, in_outcome}
use Rattle.rules.specs.Log.{Labelled, labelled, Log, put_count}
use Rattle.rules.specs.Judge.{accepts}
use Rattle.rules.specs.Plain.{Plain}
use Rattle.rules.specs.Demand3.{acted, row, write, labelled_step, row_of, rows, log, unnumbered, shown, all_shown, Demand3}
use Rattle.rules.proofs.Relabel.{nat_step}
use Rattle.rules.proofs.Supply.{counted_lawful}
use Rattle.rules.proofs.Judge.{accepted_right}
use Rattle.rules.proofs.Accepts.{accepts_exactly}
use Rattle.rules.proofs.Plain.{right_plain}
use Rattle.rules.proofs.RunAccepted.{run_keeps, fresh_kept}

-- ## The numbers taken off

module _ {M : Type 0} where
  -- the message without the number of its put
  abbrev pub bare : Labelled M → M
  bare m = m.cells

  acted_shown : (n : ℕ) (l : Letter) (c : M) → Option.map unnumbered (acted n l c) ≡ acted 0 l c
  acted_shown n p_put c = refl
  acted_shown n q_need c = refl
  acted_shown n d_data c = refl
  acted_shown n s_take c = refl
  acted_shown n c_down c = refl
  acted_shown n v_back c = refl
  acted_shown n o_offer c = refl
  acted_shown n k_ok c = refl
  acted_shown n r_take c = refl
  acted_shown n x_down c = refl
  acted_shown n y_back c = refl
  acted_shown n l_lose c = refl
  acted_shown n m_lose c = refl
  acted_shown n a_ack c = refl

  pub row_shown : (n held : ℕ) (a : Action M) (r : Report (Labelled M)) → Option.map unnumbered (row n held a r) ≡ shown a (in_report bare r)
  row_shown n held a nothing = acted_shown n a.letter a.message
  row_shown n held a (delivered m) = refl
  row_shown n held a answered_ok = refl
  row_shown n held a answered_lost = refl
  row_shown n held a (refused x) = refl

module _ {S M : Type 0} (U : Supply S) (good : M → Bool) where
  -- one action: the real step is the labelled one with the numbers taken off
  pub bare_step : (past : Log M) (b : Bench S (Labelled M)) (a : Action M)
      → step U good (in_bench bare b) a ≡ in_outcome bare (labelled_step U good past b a)
  bare_step past b a = nat_step bare U (λ m. good m.cells) good (λ m. refl) b (in_action (labelled (suc (put_count past))) a)

  rows_shown : (past : Log M) (b : Bench S (Labelled M)) (l : List (Action M))
      → map (Option.map unnumbered) (rows U good past b l) ≡ all_shown l (reports U good (in_bench bare b) l)
  unfolding rows reports all_shown
  rows_shown past b [] = refl
  rows_shown past b (a ∷ l) =
      ap₂ (λ x y. x ∷ y) (row_shown (suc (put_count past)) _ a (labelled_step U good past b a).report)
      (rows_shown (write (row_of U good past b a) past) (labelled_step U good past b a).after l)
      ∙ ap (λ (o : Outcome S M). shown a o.report ∷ all_shown l (reports U good o.after l)) (sym (bare_step past b a))

-- ## The theorem

module _ {S M : Type 0} (U : Supply S) (good : M → Bool) (laws : Lawful S U) (j i : S) (l : List (Action M)) where
  pub demand3 : Demand3 U good j i l
  unfolding fresh
  demand3 =
      record {
        right = accepted_right (log U good j i l) (run_keeps U laws good [] (fresh j i) l (fresh_kept U laws good j i));
        own = rows_shown U good [] (fresh j i) l;
      }

  -- in plain words
  pub demand3_plain : Plain (log U good j i l)
  demand3_plain = right_plain (log U good j i l) demand3.right

  -- the judge accepts the log
  pub demand3_judged : (same : M → M → Bool) → ((c d : M) → (same c d ≡ true) ↔ (c ≡ d)) → accepts same (log U good j i l) ≡ true
  demand3_judged same alike = (accepts_exactly same alike (log U good j i l)).1 demand3.right

-- ## With document 01's numbers; and with its messages

pub demand3_counted : {M : Type 0} (good : M → Bool) (j i : ℕ) (l : List (Action M)) → Demand3 counted good j i l
demand3_counted good j i l = demand3 counted good counted_lawful j i l

pub demand3_messages : (j i : ℕ) (l : List (Action (List ℕ))) → Demand3 counted is_message j i l
demand3_messages j i l = demand3_counted is_message j i l
