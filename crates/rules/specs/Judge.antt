-- A judge that reads a log row by row, oldest first: what it keeps, which row it allows next, and how it goes on. Executable; it accepts a log
-- exactly if the log is right (`accepts_exactly` in proofs/Accepts.antt). Assumes nothing.
use Rattle.std.specs.Prelude.{ℕ, suc, Bool, true, false, not, ◌&&◌, ◌||◌, List, [], ◌∷◌, eqb, ltb}
use Rattle.rules.specs.Lists.{listed}
use Rattle.rules.specs.Log.{Labelled, labelled, Event, Put, Delivered, AnsweredOK, AnsweredLost, ConsoleDown, ConsoleBack, ControllerDown, ControllerBack, Log}

-- the controller since the last put: nothing, went down, went down and came back
pub data Since : Type 0 where
  steady fallen returned : Since

-- a fall counts only of a controller that was up
abbrev pub on_fall : Bool → Since → Since
on_fall false s = s
on_fall true steady = fallen
on_fall true fallen = fallen
on_fall true returned = returned

abbrev pub on_return : Since → Since
on_return steady = steady
on_return fallen = returned
on_return returned = returned

abbrev pub is_returned : Since → Bool
is_returned steady = false
is_returned fallen = false
is_returned returned = true

pub record Judge (M : Type 0) : Type 0 where
  pub console : Bool  -- up?
  pub controller : Bool
  pub held : Bool  -- does a put wait?
  pub since : Since
  pub count : ℕ  -- of the puts
  pub put : List (Labelled M)
  pub top : ℕ  -- the greatest number delivered; 0: none
  pub gone : List ℕ  -- answered lost. No number can stand for this list: an order never answered may be delivered after a later one is lost

module _ {M : Type 0} where
  abbrev pub start : Judge M
  start =
      record { console = true; controller = true; held = false; since = steady; count = 0; put = []; top = 0; gone = [] }

  -- ## How it goes on

  abbrev pub enter : Judge M → Event M → Judge M
  enter w (Put n c) =
      record {
        console = w.console;
        controller = w.controller;
        held = true;
        since = steady;
        count = n;
        put = labelled n c ∷ w.put;
        top = w.top;
        gone = w.gone;
      }
  enter w (Delivered n c) =
      record {
        console = w.console;
        controller = w.controller;
        held = w.held;
        since = w.since;
        count = w.count;
        put = w.put;
        top = n;
        gone = w.gone;
      }
  enter w (AnsweredOK n) =
      record {
        console = w.console;
        controller = w.controller;
        held = false;
        since = w.since;
        count = w.count;
        put = w.put;
        top = w.top;
        gone = w.gone;
      }
  enter w (AnsweredLost n) =
      record {
        console = w.console;
        controller = w.controller;
        held = false;
        since = w.since;
        count = w.count;
        put = w.put;
        top = w.top;
        gone = n ∷ w.gone;
      }
  enter w ConsoleDown =
      record {
        console = false;
        controller = w.controller;
        held = w.held;
        since = w.since;
        count = w.count;
        put = w.put;
        top = w.top;
        gone = w.gone;
      }
  enter w ConsoleBack =
      record {
        console = true;
        controller = w.controller;
        held = false;
        since = w.since;
        count = w.count;
        put = w.put;
        top = w.top;
        gone = w.gone;
      }
  enter w ControllerDown =
      record {
        console = w.console;
        controller = false;
        held = w.held;
        since = on_fall w.controller w.since;
        count = w.count;
        put = w.put;
        top = w.top;
        gone = w.gone;
      }
  enter w ControllerBack =
      record {
        console = w.console;
        controller = true;
        held = w.held;
        since = on_return w.since;
        count = w.count;
        put = w.put;
        top = w.top;
        gone = w.gone;
      }

  abbrev pub judge : Log M → Judge M
  judge [] = start
  judge (e ∷ past) = enter (judge past) e

-- ## Which row it allows

-- `same` compares the cells of two messages
module _ {M : Type 0} (same : M → M → Bool) where
  -- was n put with these cells?
  unfoldable pub was_put : ℕ → M → List (Labelled M) → Bool
  was_put n c [] = false
  was_put n c (m ∷ l) = eqb n m.label && same c m.cells || was_put n c l

  unfoldable pub allows : Judge M → Event M → Bool
  allows w (Put n c) = w.console && (not w.held && eqb n (suc w.count))
  allows w (Delivered n c) =
      w.controller && (was_put n c w.put && (ltb w.top n && not (listed n w.gone)))
  allows w (AnsweredOK n) = w.console && (w.held && (eqb n w.count && eqb w.top w.count))
  allows w (AnsweredLost n) = w.console && (w.held && (eqb n w.count && is_returned w.since))
  allows w ConsoleDown = true
  allows w ConsoleBack = not w.console
  allows w ControllerDown = true
  allows w ControllerBack = not w.controller

  -- every row was allowed
  unfoldable pub accepts : Log M → Bool
  accepts [] = true
  accepts (e ∷ past) = accepts past && allows (judge past) e
