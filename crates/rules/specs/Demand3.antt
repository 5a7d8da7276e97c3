-- The log of a run, and demand 3 of it. Each order runs with the number of its put beside its cells; no rule looks at it. Assumes nothing.
use Rattle.std.specs.Prelude.{ℕ, suc, Bool, ◌≡◌, List, [], ◌∷◌, map}
use Rattle.std.proofs.Math.Option
use Rattle.std.proofs.Math.Option.{Option, none, some}
use Rattle.rules.specs.Supply.{Supply}
use Rattle.rules.specs.Letters.{Letter, p_put, q_need, d_data, s_take, c_down, v_back, o_offer, k_ok, r_take, x_down, y_back, l_lose, m_lose, a_ack}
use Rattle.rules.specs.Ends.{ConsoleMode, in_need_i, in_send, Report, nothing, delivered, answered_ok, answered_lost, refused}
use Rattle.rules.specs.Bench.{Bench, Action, Outcome, step, reports, fresh}
use Rattle.rules.specs.Relabel.{in_action, in_report}
use Rattle.rules.specs.Log.{Labelled, labelled, Event, Put, Delivered, AnsweredOK, AnsweredLost, ConsoleDown, ConsoleBack, ControllerDown, ControllerBack, Log}
use Rattle.rules.specs.Log.{put_count, Right}

-- ## The row that an action leaves in the log, if it leaves one

module _ {M : Type 0} where
  -- by itself, where it is not refused. n is the put's number
  abbrev pub acted : ℕ → Letter → M → Option (Event M)
  acted n p_put c = some (Put n c)
  acted n q_need c = none
  acted n d_data c = none
  acted n s_take c = none
  acted n c_down c = some ConsoleDown
  acted n v_back c = some ConsoleBack
  acted n o_offer c = none
  acted n k_ok c = none
  acted n r_take c = none
  acted n x_down c = some ControllerDown
  acted n y_back c = some ControllerBack
  acted n l_lose c = none
  acted n m_lose c = none
  acted n a_ack c = none

  -- with its report. `held` is the number of the order that the console holds
  abbrev pub row : ℕ → ℕ → Action M → Report (Labelled M) → Option (Event M)
  row n held a nothing = acted n a.letter a.message
  row n held a (delivered m) = some (Delivered m.label m.cells)
  row n held a answered_ok = some (AnsweredOK held)
  row n held a answered_lost = some (AnsweredLost held)
  row n held a (refused x) = none

  abbrev pub held_label : ConsoleMode (Labelled M) → ℕ
  held_label ConsoleMode.idle = 0
  held_label (in_need_i j m) = m.label
  held_label (in_send last m) = m.label

  abbrev pub write : Option (Event M) → Log M → Log M
  write none past = past
  write (some e) past = e ∷ past

-- ## The labelled run: the next put, if it is taken, has the number after the last

module _ {S M : Type 0} (U : Supply S) (good : M → Bool) where
  abbrev pub labelled_step : Log M → Bench S (Labelled M) → Action M → Outcome S (Labelled M)
  labelled_step past b a = step U (λ m. good m.cells) b (in_action (labelled (suc (put_count past))) a)

  abbrev pub row_of : Log M → Bench S (Labelled M) → Action M → Option (Event M)
  row_of past b a = row (suc (put_count past)) (held_label b.console.mode) a (labelled_step past b a).report

  -- the row of each action of a list, after a past
  unfoldable pub rows : Log M → Bench S (Labelled M) → List (Action M) → List (Option (Event M))
  rows past b [] = []
  rows past b (a ∷ l) = row_of past b a ∷ rows (write (row_of past b a) past) (labelled_step past b a).after l

-- rows written one by one after a past
unfoldable pub written : {M : Type 0} → List (Option (Event M)) → Log M → Log M
written [] past = past
written (o ∷ os) past = written os (write o past)

-- the log of the list l, from the fresh bench with the numbers j and i
abbrev pub log : {S M : Type 0} → Supply S → (M → Bool) → S → S → List (Action M) → Log M
log U good j i l = written (rows U good [] (fresh j i) l) []

-- ## What the real run shows of it: the same rows, every number 0

module _ {M : Type 0} where
  abbrev pub unnumbered : Event M → Event M
  unnumbered (Put n c) = Put 0 c
  unnumbered (Delivered n c) = Delivered 0 c
  unnumbered (AnsweredOK n) = AnsweredOK 0
  unnumbered (AnsweredLost n) = AnsweredLost 0
  unnumbered ConsoleDown = ConsoleDown
  unnumbered ConsoleBack = ConsoleBack
  unnumbered ControllerDown = ControllerDown
  unnumbered ControllerBack = ControllerBack

  abbrev pub shown : Action M → Report M → Option (Event M)
  shown a r = row 0 0 a (in_report (labelled 0) r)

  -- of a list of actions and the report of each
  unfoldable pub all_shown : List (Action M) → List (Report M) → List (Option (Event M))
  all_shown [] rs = []
  all_shown (a ∷ l) [] = []
  all_shown (a ∷ l) (r ∷ rs) = shown a r ∷ all_shown l rs

-- ## Demand 3

module _ {S M : Type 0} (U : Supply S) (good : M → Bool) where
  pub record Demand3 (j i : S) (l : List (Action M)) : Type 0 where
    pub right : Right (log U good j i l)
    -- action by action, the row without its number is what the real step reports: puts taken, deliveries with their cells, answers, C V X Y
    pub own : map (Option.map unnumbered) (rows U good [] (fresh j i) l) ≡ all_shown l (reports U good (fresh j i) l)
