-- Two boxes over any radio: each end runs alone, and whatever either ever sent may reach the other never, once, any number of times, in any order,
-- as late as it likes, through restarts of either. There are no places and no copies. Assumes nothing.
use Rattle.std.specs.Prelude.{ℕ, suc, ◌≡◌, Bool, false, List, [], ◌∷◌, map}
use Rattle.std.proofs.Math.Option
use Rattle.std.proofs.Math.Option.{Option, none, some}
use Rattle.rules.specs.Supply.{Supply}
use Rattle.rules.specs.Ends.{End, ConsoleMode, ControllerMode, Report, nothing, console_step, controller_step}
use Rattle.rules.specs.Bench.{Bench, Action, Outcome, Asked, console, controller, no_end, asks, console_did, controller_did, fresh}
use Rattle.rules.specs.Relabel.{in_action}
use Rattle.rules.specs.Log.{Labelled, labelled, Event, ConsoleDown, ControllerDown, Log, put_count, Right}
use Rattle.rules.specs.Demand3.{row, held_label, write, written, log, unnumbered, shown}

-- ## The boxes and what is on the radio

-- the bench's two channels hold all that was ever sent; beside it each end's number record, as it is kept where no power cut reaches it: the numbers
-- that the end has when it comes back
pub record Link (S M : Type 0) : Type 0 where
  pub bench : Bench S M
  pub console_kept : S
  pub controller_kept : S

-- THE RULE THAT A BOX HAS TO KEEP: when a step is done it keeps the number record, then shows the report (the row, the dose), then lets go what is
-- sent. So a power cut finds a step in one of these places. (A cut after the report was shown and before the packet left is a step that went
-- through, whose packet the radio loses, and then a cut; a cut between two steps is one in a step C or X.)
pub data Happening (M : Type 0) : Type 0 where
  acts : Action M → Happening M  -- it went through
  kept_and_cut : Action M → Happening M  -- the record was kept; nothing was shown or sent
  cut : Action M → Happening M  -- the record was not kept; nothing was shown or sent

-- what is left of an end whose power is cut: its number record
abbrev pub downed : {S Mode : Type 0} → S → Mode → End S Mode
downed kept idle = record { numbers = kept; mode = idle; up = false }

-- ## What a step does, by the very rules of an end run alone. R and S are given any packet ever sent to that end, by its place among them

module _ {S M : Type 0} (U : Supply S) (good : M → Bool) where
  -- what is sent is on the radio from now on
  unfoldable pub aired : Bench S M → Asked M → Outcome S M
  aired b (console act) = console_did b 1 (console_step U good b.console act)
  aired b (controller act) = controller_did b 1 (controller_step U b.controller act)
  aired b no_end = record { report = nothing; after = b }

module _ {S M : Type 0} (U : Supply S) where
  -- the box that was asked keeps the number record of its end in b
  unfoldable pub keeps : Asked M → Bench S M → Link S M → Link S M
  keeps (console act) b l =
      record { bench = l.bench; console_kept = U.back b.console.numbers; controller_kept = l.controller_kept }
  keeps (controller act) b l =
      record { bench = l.bench; console_kept = l.console_kept; controller_kept = U.back b.controller.numbers }
  keeps no_end b l = l

module _ {S M : Type 0} where
  -- and goes on as it stands in b
  abbrev pub goes_on : Bench S M → Link S M → Link S M
  goes_on b l = record { bench = b; console_kept = l.console_kept; controller_kept = l.controller_kept }

  -- its power is cut: all but the kept record is gone
  unfoldable pub fails : Asked M → Link S M → Link S M
  fails (console act) l =
      let b = l.bench in
      goes_on
      (record {
        console = downed l.console_kept ConsoleMode.idle;
        controller = b.controller;
        to_controller = b.to_controller;
        to_console = b.to_console;
      }) l
  fails (controller act) l =
      let b = l.bench in
      goes_on
      (record {
        console = b.console;
        controller = downed l.controller_kept ControllerMode.idle;
        to_controller = b.to_controller;
        to_console = b.to_console;
      }) l
  fails no_end l = l

-- ## What happens: what is shown of it, and the link afterwards

pub record Came (S M : Type 0) : Type 0 where
  pub report : Report M
  pub after : Link S M

abbrev pub asked : {S M : Type 0} → Link S M → Action M → Asked M
asked l a = asks l.bench a.letter a.place a.message

module _ {S M : Type 0} (U : Supply S) (good : M → Bool) where
  unfoldable pub happens : Link S M → Happening M → Came S M
  happens l (acts a) =
      let o = aired U good l.bench (asked l a) in
      record { report = o.report; after = goes_on o.after (keeps U (asked l a) o.after l) }
  happens l (kept_and_cut a) =
      record { report = nothing; after = fails (asked l a) (keeps U (asked l a) (aired U good l.bench (asked l a)).after l) }
  happens l (cut a) = record { report = nothing; after = fails (asked l a) l }

-- two boxes that start with any two number records, both ends up and idle; a box that starts after power loss has had a cut before
abbrev pub start : {S M : Type 0} → S → S → Link S M
start j i = record { bench = fresh j i; console_kept = j; controller_kept = i }

-- ## The log: each order with the number of its put beside its cells, as in the bench's log

module _ {M : Type 0} where
  abbrev pub in_happening : {N : Type 0} → (M → N) → Happening M → Happening N
  in_happening f (acts a) = acts (in_action f a)
  in_happening f (kept_and_cut a) = kept_and_cut (in_action f a)
  in_happening f (cut a) = cut (in_action f a)

  -- a cut is a going down
  abbrev pub fall_of : {N : Type 0} → Asked N → Option (Event M)
  fall_of (console act) = some ConsoleDown
  fall_of (controller act) = some ControllerDown
  fall_of no_end = none

module _ {S M : Type 0} (U : Supply S) (good : M → Bool) where
  -- n is the number of the put, if it is one
  abbrev pub labelled_happens : ℕ → Link S (Labelled M) → Happening M → Came S (Labelled M)
  labelled_happens n l h = happens U (λ m. good m.cells) l (in_happening (labelled n) h)

  -- the row that is left, if one is
  abbrev pub row_left : ℕ → Link S (Labelled M) → Happening M → Option (Event M)
  row_left n l (acts a) = row n (held_label l.bench.console.mode) a (labelled_happens n l (acts a)).report
  row_left n l (kept_and_cut a) = fall_of (asked l (in_action (labelled n) a))
  row_left n l (cut a) = fall_of (asked l (in_action (labelled n) a))

  -- the row of each happening of a list, after a past; the next put, if it is taken, has the number after the last
  unfoldable pub rows_left : Log M → Link S (Labelled M) → List (Happening M) → List (Option (Event M))
  rows_left past l [] = []
  rows_left past l (h ∷ hs) =
      let n = suc (put_count past) in
      row_left n l h ∷ rows_left (write (row_left n l h) past) (labelled_happens n l h).after hs

  -- ## What the boxes show of it: the same rows, every number 0

  abbrev pub shown_of : Link S M → Happening M → Option (Event M)
  shown_of l (acts a) = shown a (happens U good l (acts a)).report
  shown_of l (kept_and_cut a) = fall_of (asked l a)
  shown_of l (cut a) = fall_of (asked l a)

  unfoldable pub rows_shown : Link S M → List (Happening M) → List (Option (Event M))
  rows_shown l [] = []
  rows_shown l (h ∷ hs) = shown_of l h ∷ rows_shown (happens U good l h).after hs

  -- ## Demand 3 of two boxes over any radio

  abbrev pub radio_log : S → S → List (Happening M) → Log M
  radio_log j i hs = written (rows_left [] (start j i) hs) []

  pub record RadioRight (j i : S) (hs : List (Happening M)) : Type 0 where
    pub right : Right (radio_log j i hs)
    -- one by one, the row without its number is what the boxes show
    pub own : map (Option.map unnumbered) (rows_left [] (start j i) hs) ≡ rows_shown (start j i) hs

  -- ## A run of the bench is one of what may happen over a radio

  pub record OnRadio (j i : S) (l : List (Action M)) : Type 0 where
    pub happenings : List (Happening M)
    pub same_log : radio_log j i happenings ≡ log U good j i l
