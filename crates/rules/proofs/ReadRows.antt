-- The row that an action leaves with the readings: it fits, and without its number it is what the real step shows. Said once for the bench and for
-- two boxes over a radio. Assumes nothing.
use Prim.Native.Nat.{ℕ, suc}
use mathlib.Core.Path.{◌≡◌, refl, sym, ap, ap₂, ◌∙◌}
use mathlib.Core.Bool.{Bool, true, false}
use mathlib.Core.Option
use mathlib.Core.Option.{Option, none, some}
use mathlib.Core.List.{List, [], ◌∷◌, map}
use lib.Dec.{T}
use Rattle.ground.proofs.Tests.{and_both}
use Rattle.rules.specs.Letters.{Letter, p_put, q_need, d_data, s_take, c_down, v_back, o_offer, k_ok, r_take, x_down, y_back, l_lose, m_lose, a_ack, line}
use Rattle.rules.specs.Ends.{ConsoleAct, put, send_need_i, send_data, tell_ack, Report, nothing, delivered, answered_ok, answered_lost, refused}
use Rattle.rules.specs.Bench.{Bench, action, Asked, console, controller, no_end, asks}
use Rattle.rules.specs.Relabel.{in_report}
use Rattle.rules.specs.Lists.{Opt}
use Rattle.rules.specs.Log.{Labelled, labelled, Event, Put, Delivered, AnsweredOK, AnsweredLost, ConsoleDown, ConsoleBack, ControllerDown, ControllerBack, Log}
use Rattle.rules.specs.Log.{console_up, waiting, put_count, Fits}
use Rattle.rules.specs.Demand3.{acted, row, write, written, unnumbered, shown}
use Rattle.rules.specs.Reading.{Use, leaves, clears, tells, use_by, ack_says, said, ack_after, Reading, reading, Read, read}
use Rattle.rules.specs.ReadLog.{unanswered, FitsRead, RightRead}
use Rattle.rules.specs.ReadDemand3.{read_row, waits_after, its_answer, firsts, lost_if_spare, spares_lost}
use Rattle.rules.proofs.Relabel.{in_asked}
use Rattle.rules.proofs.Demand3.{bare}
use Rattle.rules.proofs.Readings.{Reads, OtherRow, ack_row, row_fits, row_reads, ok_arrives, lost_arrives, answer, a_tells, ok_is_awaited}

-- ## Rows and what is shown of them

-- does a put wait for A?
abbrev pub awaited : Option ℕ → Bool
awaited none = false
awaited (some n) = true

module _ {M : Type 0} where
  abbrev pub awaits : Log M → Bool
  awaits p = awaited (unanswered p)

  -- the row o is written after p, and s is shown
  pub record Shows (p : Log M) (o s : Option (Event M)) : Type 0 where
    pub fits : Opt (FitsRead p) o
    pub own : Option.map unnumbered o ≡ its_answer (awaits p) s
    pub spare : lost_if_spare (awaits p) s ≡ true
    pub waits : waits_after (awaits p) s ≡ awaits (write o p)

  -- one by one
  abbrev pub Faithful : Log M → List (Option (Event M)) → List (Option (Event M)) → Type 0
  Faithful p [] [] = Unit {0}
  Faithful p [] (s ∷ ss) = ⊥
  Faithful p (o ∷ os) [] = ⊥
  Faithful p (o ∷ os) (s ∷ ss) = Shows p o s × Faithful (write o p) os ss

  write_right : (p : Log M) (o : Option (Event M)) → RightRead p → Opt (FitsRead p) o → RightRead (write o p)
  write_right p none r f = r
  write_right p (some e) r f = (r, f)

  -- so the log is right; its rows are what is shown, the first answer after each put; and an answer that is no put's is lost
  pub faithful_log : (p : Log M) (os ss : List (Option (Event M))) → Faithful p os ss → RightRead p
      → RightRead (written os p) × (map (Option.map unnumbered) os ≡ firsts (awaits p) ss) × (spares_lost (awaits p) ss ≡ true)
  unfolding written firsts spares_lost
  faithful_log p [] [] f r = (r, refl, refl)
  faithful_log p [] (s ∷ ss) f r = absurd f
  faithful_log p (o ∷ os) [] f r = absurd f
  faithful_log p (o ∷ os) (s ∷ ss) f r =
      let (right, own, spare) = faithful_log (write o p) os ss f.1 (write_right p o r f.0.fits) in
      let waits = f.0.waits in (
        right,
        ap₂ (λ x y. x ∷ y) f.0.own (own ∙ ap (λ w. firsts w ss) (sym waits)),
        and_both _ _ f.0.spare (ap (λ w. spares_lost w ss) waits ∙ spare),
      )

-- ## One step: o is the history's row, o' the row that is read, s what is shown

pub record Goes {M : Type 0} (h p : Log M) (o o' s : Option (Event M)) (ack : Bool) : Type 0 where
  pub shows : Shows p o' s
  pub reads : Reads (write o h) (write o' p) ack

module _ {M : Type 0} where
  -- and whatever holds of the history holds on
  pub record Next {X : Type 0} (Holds : Log M → X → Type 1) (h p : Log M) (o' s : Option (Event M)) (after : Reading X) : Type 1 where
    pub row : Option (Event M)
    pub holds : Holds (write row h) after.history
    pub goes : Goes h p row o' s after.ack

  -- a row that is no answer is shown whether a put waits or not
  its_own : (w : Bool) (e : Event M) → OtherRow e → some (unnumbered e) ≡ its_answer w (some (unnumbered e))
  its_own true e s = refl
  its_own false (Put n c) s = refl
  its_own false (Delivered n c) s = refl
  its_own false (AnsweredOK n) s = absurd (s n refl)
  its_own false (AnsweredLost n) s = absurd (s n refl)
  its_own false ConsoleDown s = refl
  its_own false ConsoleBack s = refl
  its_own false ControllerDown s = refl
  its_own false ControllerBack s = refl

  row_shows : (p : Log M) (e : Event M) → OtherRow e → FitsRead p e → Shows p (some e) (some (unnumbered e))
  row_shows p (Put n c) s f = record { fits = f; own = its_own (awaits p) (Put n c) s; spare = refl; waits = refl }
  row_shows p (Delivered n c) s f = record { fits = f; own = its_own (awaits p) (Delivered n c) s; spare = refl; waits = refl }
  row_shows p (AnsweredOK n) s f = absurd (s n refl)
  row_shows p (AnsweredLost n) s f = absurd (s n refl)
  row_shows p ConsoleDown s f = record { fits = f; own = its_own (awaits p) ConsoleDown s; spare = refl; waits = refl }
  row_shows p ConsoleBack s f = record { fits = f; own = its_own (awaits p) ConsoleBack s; spare = refl; waits = refl }
  row_shows p ControllerDown s f = record { fits = f; own = its_own (awaits p) ControllerDown s; spare = refl; waits = refl }
  row_shows p ControllerBack s f = record { fits = f; own = its_own (awaits p) ControllerBack s; spare = refl; waits = refl }

  pub none_kept : (w : Bool) → its_answer {M = M} w none ≡ none
  none_kept true = refl
  none_kept false = refl

  nothing_shows : (p : Log M) → Shows p none none
  nothing_shows p = record { fits = tt; own = sym (none_kept (awaits p)); spare = refl; waits = refl }

  -- what A tells is shown; an OK is some put's
  answered : Bool → Event M
  answered true = AnsweredOK 0
  answered false = AnsweredLost 0

  told_shows : (p : Log M) (ack : Bool) → (T ack → T (awaits p)) → Opt (FitsRead p) (answer ack (unanswered p))
      → Shows p (answer ack (unanswered p)) (some (answered ack))
  unfolding answered
  told_shows p ack = tells (unanswered p) refl ack
    where
      tells : (o : Option ℕ) → unanswered p ≡ o → (ack : Bool) → (T ack → T (awaited o)) → Opt (FitsRead p) (answer ack o)
          → Shows p (answer ack o) (some (answered ack))
      tells none q true h f = absurd (h tt)
      tells none q false h f = record { fits = f; own = rw q; spare = refl; waits = rw q }
      tells (some n) q true h f = record { fits = f; own = rw q; spare = rw q; waits = refl }
      tells (some n) q false h f = record { fits = f; own = rw q; spare = refl; waits = refl }

-- ## What happens in a step

module _ {M : Type 0} (h p : Log M) (ack : Bool) (r : Reads h p ack) where
  -- nothing
  pub still : Goes h p none none none ack
  still = record { shows = nothing_shows p; reads = r }

  -- a row that is no answer
  pub left : (e : Event M) → OtherRow e → Fits h e → Goes h p (some e) (some e) (some (unnumbered e)) (ack_row e ack)
  left e s f = record { shows = row_shows p e s (row_fits r e s f); reads = row_reads r e s f }

  -- an answer arrives
  arrived : (o : Option (Event M)) (ack' : Bool) → Reads (write o h) p ack' → Goes h p o none none ack'
  arrived o ack' g = record { shows = nothing_shows p; reads = g }

  -- A
  asked : T (console_up h) → waiting h ≡ none → Goes h p none (answer ack (unanswered p)) (some (answered ack)) false
  asked u q =
      let t = a_tells h p ack r u q in
      record { shows = told_shows p ack (ok_awaited ack r) t.fits; reads = t.after }
    where
      ok_awaited : (ack : Bool) → Reads h p ack → T ack → T (awaits p)
      ok_awaited true r t = let (n, e) = ok_is_awaited h p r u q in rw e tt
      ok_awaited false r t = absurd t

-- ## An action

-- what a step reports: an answer arrives at S only, and A is taken from a console that is up and holds none
abbrev pub Fair : {M N : Type 0} → Log M → Letter → Report N → Type 0
Fair h l nothing = l ≡ a_ack → T (console_up h) × (waiting h ≡ none)
Fair h l (delivered m) = Unit {0}
Fair h l answered_ok = l ≡ s_take
Fair h l answered_lost = l ≡ s_take
Fair h l (refused n) = Unit {0}

s_leaves_none : {M : Type 0} (n : ℕ) (l : Letter) (c : M) → l ≡ s_take → acted n l c ≡ none
s_leaves_none n l c e = rw e

module _ {S M : Type 0} (b : Bench S (Labelled M)) (h p : Log M) (ack : Bool) (r : Reads h p ack) (held x y : ℕ) (c : M) where
  abbrev n : ℕ
  n = suc (put_count p)

  abbrev used : Letter → Use
  used l = use_by (asks b l x (labelled n c))

  abbrev Acts : Letter → Report (Labelled M) → Type 0
  Acts l report =
      let a = action l x y c in
      let told = said (used l) ack report in
      Goes h p (row n held a report) (read_row p a told) (shown a (in_report bare told)) (ack_after (used l) ack report)

  -- an action that reports nothing in the history
  silent : (l : Letter) → Fair {N = Labelled M} h l nothing → Opt (Fits h) (acted n l c) → Acts l nothing
  unfolding asks line said ack_after answered
  silent p_put fair f = left h p ack r (Put n c) (λ k a. a) f
  silent q_need fair f = still h p ack r
  silent d_data fair f = still h p ack r
  silent s_take fair f = still h p ack r
  silent c_down fair f = left h p ack r ConsoleDown (λ k a. a) f
  silent v_back fair f = left h p ack r ConsoleBack (λ k a. a) f
  silent o_offer fair f = still h p ack r
  silent k_ok fair f = still h p ack r
  silent r_take fair f = still h p ack r
  silent x_down fair f = left h p ack r ControllerDown (λ k a. a) f
  silent y_back fair f = left h p ack r ControllerBack (λ k a. a) f
  silent l_lose fair f = still h p ack r
  silent m_lose fair f = still h p ack r
  silent a_ack fair f = let (u, q) = fair refl in tells ack (asked h p ack r u q)
    where
      tells : (ack : Bool) → Goes h p none (answer ack (unanswered p)) (some (answered ack)) false
          → let told = ack_says ack in Goes h p none (read_row p (action a_ack x y c) told) (shown (action a_ack x y c) (in_report bare told)) false
      tells true g = g
      tells false g = g

  pub action_goes : (l : Letter) (report : Report (Labelled M)) → Fair h l report → Opt (Fits h) (row n held (action l x y c) report) → Acts l report
  unfolding said ack_after
  action_goes l nothing fair f = silent l fair f
  action_goes l (delivered m) fair f = left h p ack r (Delivered m.label m.cells) (λ k a. a) f
  action_goes l answered_ok fair f = rw (s_leaves_none n l c fair, s_leaves_none 0 l c fair) (arrived h p ack r _ true (ok_arrives r held f))
  action_goes l answered_lost fair f = rw (s_leaves_none n l c fair, s_leaves_none 0 l c fair) (arrived h p ack r _ false (lost_arrives r held f))
  action_goes l (refused k) fair f = still h p ack r

-- ## The numbers taken off: what is read of relabelled reports

-- `g` changes what the history speaks of
abbrev pub in_reading : {E F : Type 0} → (E → F) → Reading E → Reading F
in_reading g r = reading (g r.history) r.ack

module _ {M N : Type 0} (f : M → N) where
  pub nat_use : (x : Asked M) → use_by (in_asked f x) ≡ use_by x
  nat_use (console (put m)) = refl
  nat_use (console send_need_i) = refl
  nat_use (console send_data) = refl
  nat_use (console (ConsoleAct.take q)) = refl
  nat_use (console ConsoleAct.go_down) = refl
  nat_use (console ConsoleAct.come_back) = refl
  nat_use (console tell_ack) = refl
  nat_use (controller act) = refl
  nat_use no_end = refl

  abbrev pub in_read : {E F : Type 0} → (E → F) → Read E M → Read F N
  in_read g d = record { report = in_report f d.report; after = in_reading g d.after }

  nat_said : (u : Use) (ack : Bool) (r : Report M) → said u ack (in_report f r) ≡ in_report f (said u ack r)
  unfolding said
  nat_said leaves ack nothing = refl
  nat_said clears ack nothing = refl
  nat_said tells true nothing = refl
  nat_said tells false nothing = refl
  nat_said u ack (delivered m) = refl
  nat_said u ack answered_ok = refl
  nat_said u ack answered_lost = refl
  nat_said u ack (refused n) = refl

  nat_ack : (u : Use) (ack : Bool) (r : Report M) → ack_after u ack (in_report f r) ≡ ack_after u ack r
  unfolding ack_after
  nat_ack leaves ack nothing = refl
  nat_ack clears ack nothing = refl
  nat_ack tells ack nothing = refl
  nat_ack u ack (delivered m) = refl
  nat_ack u ack answered_ok = refl
  nat_ack u ack answered_lost = refl
  nat_ack u ack (refused n) = refl

  pub nat_read : {E F : Type 0} (g : E → F) (u : Use) (ack : Bool) (r : Report M) (e : E) → read u ack (in_report f r) (g e) ≡ in_read g (read u ack r e)
  nat_read g u ack r e = rw (nat_said u ack r, nat_ack u ack r)
