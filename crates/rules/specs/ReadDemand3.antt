-- The log of a run with readings, and demand 3 of it as request 2 words it. Each order runs with the number of its put beside its cells; no rule
-- looks at it. Assumes nothing.
use Rattle.std.specs.Prelude.{suc, Bool, true, false, ◌&&◌, ◌≡◌, List, [], ◌∷◌, map}
use Rattle.std.proofs.Math.Option
use Rattle.std.proofs.Math.Option.{Option, none, some}
use Rattle.rules.specs.Supply.{Supply}
use Rattle.rules.specs.Ends.{Report, nothing, delivered, answered_ok, answered_lost, refused}
use Rattle.rules.specs.Bench.{Bench, Action}
use Rattle.rules.specs.Relabel.{in_action}
use Rattle.rules.specs.Log.{Labelled, labelled, Event, Put, Delivered, AnsweredOK, AnsweredLost, ConsoleDown, ConsoleBack, ControllerDown, ControllerBack, Log}
use Rattle.rules.specs.Log.{put_count}
use Rattle.rules.specs.Demand3.{acted, write, written, unnumbered, all_shown}
use Rattle.rules.specs.Reading.{Reading, Read, read_step, read_reports, fresh_reading}
use Rattle.rules.specs.ReadLog.{unanswered, RightRead}

-- ## The row that an action leaves, if it leaves one: as in the history, but an answer is the one that A tells, and goes to the put that none was
-- told to. An A with no such put leaves none

abbrev pub read_row : {M : Type 0} → Log M → Action M → Report (Labelled M) → Option (Event M)
read_row past a nothing = acted (suc (put_count past)) a.letter a.message
read_row past a (delivered m) = some (Delivered m.label m.cells)
read_row past a answered_ok = Option.map AnsweredOK (unanswered past)
read_row past a answered_lost = Option.map AnsweredLost (unanswered past)
read_row past a (refused x) = none

-- ## The labelled run

module _ {S M : Type 0} (U : Supply S) (good : M → Bool) where
  abbrev pub labelled_read_step : Log M → Reading (Bench S (Labelled M)) → Action M → Read (Bench S (Labelled M)) (Labelled M)
  labelled_read_step past r a = read_step U (λ m. good m.cells) r (in_action (labelled (suc (put_count past))) a)

  abbrev pub read_row_of : Log M → Reading (Bench S (Labelled M)) → Action M → Option (Event M)
  read_row_of past r a = read_row past a (labelled_read_step past r a).report

  -- the row of each action of a list, after a past
  unfoldable pub read_rows : Log M → Reading (Bench S (Labelled M)) → List (Action M) → List (Option (Event M))
  read_rows past r [] = []
  read_rows past r (a ∷ l) =
      read_row_of past r a ∷ read_rows (write (read_row_of past r a) past) (labelled_read_step past r a).after l

-- the log of the list l, from the fresh bench with the numbers j and i
abbrev pub read_log : {S M : Type 0} → Supply S → (M → Bool) → S → S → List (Action M) → Log M
read_log U good j i l = written (read_rows U good [] (fresh_reading j i) l) []

-- ## What the real run shows of it

module _ {M : Type 0} where
  -- does a put wait for its answer after this row?
  abbrev pub waits_after : Bool → Option (Event M) → Bool
  waits_after waits none = waits
  waits_after waits (some (Put n c)) = true
  waits_after waits (some (Delivered n c)) = waits
  waits_after waits (some (AnsweredOK n)) = false
  waits_after waits (some (AnsweredLost n)) = false
  waits_after waits (some ConsoleDown) = waits
  waits_after waits (some ConsoleBack) = waits
  waits_after waits (some ControllerDown) = waits
  waits_after waits (some ControllerBack) = waits

  -- an answer is a put's if one waits for it
  abbrev pub its_answer : Bool → Option (Event M) → Option (Event M)
  its_answer true o = o
  its_answer false none = none
  its_answer false (some (Put n c)) = some (Put n c)
  its_answer false (some (Delivered n c)) = some (Delivered n c)
  its_answer false (some (AnsweredOK n)) = none
  its_answer false (some (AnsweredLost n)) = none
  its_answer false (some ConsoleDown) = some ConsoleDown
  its_answer false (some ConsoleBack) = some ConsoleBack
  its_answer false (some ControllerDown) = some ControllerDown
  its_answer false (some ControllerBack) = some ControllerBack

  -- of rows, oldest first: of the answers only the first after each put and before the next
  unfoldable pub firsts : Bool → List (Option (Event M)) → List (Option (Event M))
  firsts waits [] = []
  firsts waits (o ∷ os) = its_answer waits o ∷ firsts (waits_after waits o) os

  -- is an answer that is no put's lost?
  abbrev pub lost_if_spare : Bool → Option (Event M) → Bool
  lost_if_spare waits none = true
  lost_if_spare waits (some (Put n c)) = true
  lost_if_spare waits (some (Delivered n c)) = true
  lost_if_spare waits (some (AnsweredOK n)) = waits
  lost_if_spare waits (some (AnsweredLost n)) = true
  lost_if_spare waits (some ConsoleDown) = true
  lost_if_spare waits (some ConsoleBack) = true
  lost_if_spare waits (some ControllerDown) = true
  lost_if_spare waits (some ControllerBack) = true

  unfoldable pub spares_lost : Bool → List (Option (Event M)) → Bool
  spares_lost waits [] = true
  spares_lost waits (o ∷ os) = lost_if_spare waits o && spares_lost (waits_after waits o) os

-- ## Demand 3

module _ {S M : Type 0} (U : Supply S) (good : M → Bool) where
  -- what the steps show of a list, action by action: puts taken, deliveries with their cells, what A tells, C V X Y
  abbrev pub read_shown : S → S → List (Action M) → List (Option (Event M))
  read_shown j i l = all_shown l (read_reports U good (fresh_reading j i) l)

  pub record Demand3Read (j i : S) (l : List (Action M)) : Type 0 where
    pub right : RightRead (read_log U good j i l)
    -- action by action, the row without its number is what the real step shows, the first answer after each put
    pub own : map (Option.map unnumbered) (read_rows U good [] (fresh_reading j i) l) ≡ firsts false (read_shown j i l)
    -- and an A that is no put's answer tells lost
    pub spare : spares_lost false (read_shown j i l) ≡ true
