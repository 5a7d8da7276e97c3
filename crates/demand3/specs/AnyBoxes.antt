-- Demand 3 of two boxes over any radio, whatever runs in them: what runs in a box is given as a `Kind`. Assumes nothing.
use Rattle.std.specs.Prelude.{ℕ, ◌≡◌, Bool, true, false, List, [], ◌∷◌, ◌++◌, map}
use Rattle.std.proofs.Math.Option.{Option, some}
use Rattle.ground.specs.Cell.{is_message}
use Rattle.rules.specs.Supply.{Supply}
use Rattle.rules.specs.Letters.{letter, s_take, r_take}
use Rattle.rules.specs.Lists.{In}
use Rattle.rules.specs.Log as log
use Rattle.rules.specs.Log.{Right}
use Rattle.rules.specs.Demand3.{written, unnumbered}
use Rattle.rules.specs.Radio.{Happening, radio_log}
use Rattle.rules.specs.ReadLog.{RightRead}
use Rattle.rules.specs.ReadDemand3.{firsts, spares_lost}
use Rattle.rules.specs.ReadRadio.{radio_read_log}
use Rattle.ends.specs.declared.Report.{Report}
use Rattle.bench.specs.Orders.{shown_by}

-- ## What runs in a box

-- a call of an end's step: a letter, a message (the console's), a packet in, a reply buffer, and the 16 bytes that C lends for a delivery (the
-- controller's), of any bytes and lengths
pub record Call : Type 0 where
  pub letter : ℕ
  pub message : List ℕ
  pub packet : List ℕ
  pub reply : List ℕ
  pub lent : List ℕ

pub record Kind : Type 1 where
  pub End : Type 0
  -- what a box keeps of it, where no power cut reaches it
  pub Kept : Type 0
  -- what a step comes to
  pub Told : Type 0
  -- the step's own promise
  pub step : End → Call → Told
  pub left : Told → End
  pub report : Told → Report
  -- what is shown beside a delivery
  pub cells : Told → List ℕ
  -- was a reply written, and which?
  pub sends : Told → Bool
  pub reply : Told → List ℕ
  -- what the box has kept when the step is done
  pub keeps : Told → Kept → Kept
  -- after power loss: down, from what was kept
  pub starts : End → Kept → End
  -- do bytes read as a packet for this end?
  pub is_for : List ℕ → Bool

-- ## The two boxes

-- an end, what the box has kept of it, and the bytes of every packet that ever left for the other
pub record Box (A : Kind) : Type 0 where
  pub end : A.End
  pub kept : A.Kept
  pub sent : List (List ℕ)

pub record Boxes (A B : Kind) : Type 0 where
  pub console : Box A
  pub controller : Box B

-- how far a box comes with a step before its power is cut, by the rule that a box has to keep (rules/specs/Radio.antt): the record is kept, the
-- report shown and the reply gone; the record is kept, nothing shown or sent; nothing
pub data Reach : Type 0 where
  through kept_and_cut cut : Reach

pub data Event : Type 0 where
  at_console : Reach → Call → Event
  at_controller : Reach → Call → Event

-- a reply that was written leaves
abbrev pub leaves : Bool → List ℕ → List (List ℕ) → List (List ℕ)
leaves false reply sent = sent
leaves true reply sent = sent ++ (reply ∷ [])

abbrev pub goes : {A : Kind} → Reach → A.Told → Box A → Box A
goes {A} through t x = record { end = A.left t; kept = A.keeps t x.kept; sent = leaves (A.sends t) (A.reply t) x.sent }
goes {A} kept_and_cut t x = record { end = A.starts x.end (A.keeps t x.kept); kept = A.keeps t x.kept; sent = x.sent }
goes {A} cut t x = record { end = A.starts x.end x.kept; kept = x.kept; sent = x.sent }

abbrev pub after : {A B : Kind} → Boxes A B → Event → Boxes A B
after {A} b (at_console r c) = record { console = goes r (A.step b.console.end c) b.console; controller = b.controller }
after {A} {B} b (at_controller r c) = record { console = b.console; controller = goes r (B.step b.controller.end c) b.controller }

-- ## What is shown: a put taken, a dose with its cells, what A tells, an end gone down or come back

abbrev pub called : Call → Report → List ℕ → Option (log.Event (List ℕ))
called c report cells = shown_by (record { letter = c.letter; place = 0; copies = 0; message = c.message }) report cells

-- a cut is a going down
abbrev pub seen : Reach → log.Event (List ℕ) → Option (log.Event (List ℕ)) → Option (log.Event (List ℕ))
seen through down row = row
seen kept_and_cut down row = some down
seen cut down row = some down

abbrev pub shows : {A B : Kind} → Boxes A B → Event → Option (log.Event (List ℕ))
shows {A} b (at_console r c) = let t = A.step b.console.end c in seen r log.ConsoleDown (called c (A.report t) (A.cells t))
shows {A} {B} b (at_controller r c) = let t = B.step b.controller.end c in seen r log.ControllerDown (called c (B.report t) (B.cells t))

unfoldable pub all_shown_of : {A B : Kind} → Boxes A B → List Event → List (Option (log.Event (List ℕ)))
all_shown_of b [] = []
all_shown_of b (e ∷ es) = shows b e ∷ all_shown_of (after b e) es

-- ## THE ONE PREMISE: bytes that read as a packet for that end were sent by the other. Any other bytes, of any length, may come at any time

-- of the packets that S and R take
abbrev pub Honest : {A B : Kind} → Boxes A B → Event → Type 0
Honest {A} b (at_console r c) = letter c.letter ≡ some s_take → A.is_for c.packet ≡ true → In c.packet b.controller.sent
Honest {A} {B} b (at_controller r c) = letter c.letter ≡ some r_take → B.is_for c.packet ≡ true → In c.packet b.console.sent

abbrev pub AllHonest : {A B : Kind} → Boxes A B → List Event → Type 0
AllHonest b [] = Unit {0}
AllHonest b (e ∷ es) = Honest b e × AllHonest (after b e) es

-- ## Demand 3 as request 2 words it: what the boxes show, with the orders numbered, is a right log of what may happen to the rules' ends over a radio

-- from boxes whose ends have the numbers j and i
pub record AnyRight {S : Type 0} (U : Supply S) {A B : Kind} (b : Boxes A B) (j i : S) (es : List Event) : Type 0 where
  pub happenings : List (Happening (List ℕ))
  pub right : RightRead (radio_read_log U is_message j i happenings)
  -- the first answer after each put
  pub own : map unnumbered (radio_read_log U is_message j i happenings) ≡ written (firsts false (all_shown_of b es)) []
  -- an A that is no put's answer tells lost
  pub spare : spares_lost false (all_shown_of b es) ≡ true
  -- the history, in which S answers as packets arrive, is right as document 01 words it
  pub history : Right (radio_log U is_message j i happenings)
