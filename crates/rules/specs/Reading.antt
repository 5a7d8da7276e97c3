-- Document 02, request 2: what became of the last order. The ends and the bench of document 01 go on below as the HISTORY, in which S answers as
-- packets arrive. What is run and shown is this layer: the console keeps what arrives as its ack, S reports nothing, and A tells the ack. Assumes
-- nothing.
use Rattle.std.specs.Prelude.{Bool, true, false, List, [], ◌∷◌}
use Rattle.std.proofs.Math.Option.{Option}
use Rattle.rules.specs.Supply.{Supply}
use Rattle.rules.specs.Ends.{ToController, Console, ConsoleAct, put, send_need_i, send_data, tell_ack, Report, nothing, delivered, answered_ok}
use Rattle.rules.specs.Ends.{answered_lost, refused, ConsoleActed, console_step}
use Rattle.rules.specs.Bench.{Bench, Action, Asked, console, controller, no_end, asks, step, fresh}

-- ## The ack: true is OK, false is lost

-- what an act does with it, whatever arrives
pub data Use : Type 0 where
  leaves clears tells : Use

module _ {M : Type 0} where
  -- V sets it lost, A tells it; P Q D S C leave it
  abbrev pub use_of : ConsoleAct M → Use
  use_of (put m) = leaves
  use_of send_need_i = leaves
  use_of send_data = leaves
  use_of (ConsoleAct.take p) = leaves
  use_of ConsoleAct.go_down = leaves
  use_of ConsoleAct.come_back = clears
  use_of tell_ack = tells

  -- it is the console's alone
  abbrev pub use_by : Asked M → Use
  use_by (console act) = use_of act
  use_by (controller act) = leaves
  use_by no_end = leaves

  abbrev pub ack_says : Bool → Report M
  ack_says true = answered_ok
  ack_says false = answered_lost

  -- what is shown of what the history reports: an answer that arrives is not; A shows the ack
  unfoldable pub said : Use → Bool → Report M → Report M
  said u ack (delivered m) = delivered m
  said u ack answered_ok = nothing
  said u ack answered_lost = nothing
  said u ack (refused n) = refused n
  said leaves ack nothing = nothing
  said clears ack nothing = nothing
  said tells ack nothing = ack_says ack

  -- the ack then: an answer that arrives sets it, V sets it lost, and so does A, after telling it. A refusal leaves it
  unfoldable pub ack_after : Use → Bool → Report M → Bool
  ack_after u ack (delivered m) = ack
  ack_after u ack answered_ok = true
  ack_after u ack answered_lost = false
  ack_after u ack (refused n) = ack
  ack_after leaves ack nothing = ack
  ack_after clears ack nothing = false
  ack_after tells ack nothing = false

-- ## A console, a bench or two boxes with the ack beside what the history speaks of

pub record Reading (E : Type 0) : Type 0 where
  pub history : E
  pub ack : Bool

abbrev pub reading : {E : Type 0} → E → Bool → Reading E
reading e ack = record { history = e; ack = ack }

-- at first it is lost
abbrev pub unread : {E : Type 0} → E → Reading E
unread e = reading e false

-- what an act comes to, from what it comes to in the history
pub record Read (E M : Type 0) : Type 0 where
  pub report : Report M
  pub after : Reading E

abbrev pub read : {E M : Type 0} → Use → Bool → Report M → E → Read E M
read u ack report after = record { report = said u ack report; after = reading after (ack_after u ack report) }

-- ## The console's step, with the packet that it sends; and the bench's

pub record ReadActed (S M : Type 0) : Type 0 where
  pub told : Read (Console S M) M
  pub sent : Option (ToController M)

abbrev pub acted_read : {S M : Type 0} → Use → Bool → ConsoleActed S M → ReadActed S M
acted_read u ack d = record { told = read u ack d.report d.after; sent = d.sent }

module _ {S M : Type 0} (U : Supply S) (good : M → Bool) where
  unfoldable pub console_read_step : Reading (Console S M) → ConsoleAct M → ReadActed S M
  console_read_step c act = acted_read (use_of act) c.ack (console_step U good c.history act)

  unfoldable pub read_step : Reading (Bench S M) → Action M → Read (Bench S M) M
  read_step r a =
      let b = r.history in
      let o = step U good b a in
      read (use_by (asks b a.letter a.place a.message)) r.ack o.report o.after

  -- the bench at the end, and what each action reports
  unfoldable pub read_run : Reading (Bench S M) → List (Action M) → Reading (Bench S M)
  read_run r [] = r
  read_run r (a ∷ l) = read_run (read_step r a).after l

  unfoldable pub read_reports : Reading (Bench S M) → List (Action M) → List (Report M)
  read_reports r [] = []
  read_reports r (a ∷ l) = (read_step r a).report ∷ read_reports (read_step r a).after l

abbrev pub fresh_reading : {S M : Type 0} → S → S → Reading (Bench S M)
fresh_reading j i = unread (fresh j i)

-- for proofs: `unfolding readings` opens every definition of the layer
unfoldable pub readings : Unit {0}
unfolding said ack_after console_read_step read_step read_run read_reports
readings = tt
