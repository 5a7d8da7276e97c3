-- What the step by modes promises: the rules' step with numbers on offer, of a bench that is known to be well formed. Nothing of it stands in the
-- promise of an entry. Assumes nothing.
use Rattle.std.specs.Prelude.{ℕ, ◌≤◌, ◌≡◌, Bool, true, false, not, ◌&&◌, List, eqb, leb, ltb, length, Option, None, Some}
use Rattle.std.proofs.Math.Option as maybe
use Rattle.ground.specs.Choice.{when◌then◌else◌}
use Rattle.ground.specs.Cell.{is_message}
use Rattle.ground.specs.First.{refusal}
use Rattle.rules.specs.Bears.{ConsoleBears, ControllerBears}
use Rattle.rules.specs.Supply.{numbering}
use Rattle.rules.specs.Offered.{Offer, offered}
use Rattle.rules.specs.Lists.{All}
use Rattle.rules.specs.Ends as ends
use Rattle.rules.specs.Bench as rules
use Rattle.rules.specs.Relabel.{in_mode, in_console_act, in_controller_act}
use Rattle.rules.specs.WellFormed.{Number, Good, ToControllerOk, ToConsoleOk}
use Rattle.letters.specs.Lines.{letter_of, Lined}
use Rattle.letters.specs.declared.ConsoleAsk.{ConsoleAsk}
use Rattle.letters.specs.declared.ConsoleAsk.TheVariants as asked
use Rattle.letters.specs.declared.ControllerAsk.{ControllerAsk}
use Rattle.wire.specs.declared.Direction.{Direction}
use Rattle.wire.specs.declared.Direction.TheVariants.{ToController, ToConsole}
use Rattle.letters.specs.declared.Line.{Line}
use Rattle.numbers.specs.Numbers.{move_means}
use Rattle.numbers.specs.declared.Move.{Move}
use Rattle.numbers.specs.declared.Move.TheVariants.{Stay}
use Rattle.ends.specs.AsRules.{tested, for_controller, report_back, delivered}
use Rattle.ends.specs.declared.Report.{Report}
use Rattle.ends_console.specs.AsRules as console
use Rattle.ends_console.specs.Types as console-types
use Rattle.ends_controller.specs.AsRules as controller
use Rattle.ends_controller.specs.Types as controller-types
use Rattle.channels.specs.Packets.{to_controller_bytes, to_controller_read, to_console_bytes, to_console_read}
use Rattle.channels.specs.Table.{channel, packets}
use Rattle.bench.specs.Arriving.{came_for}
use Rattle.bench.specs.declared.Action.{Action}
use Rattle.bench.specs.declared.arriving.Came.{Came}
use Rattle.bench.specs.declared.modes.Modes.{Modes}
use Rattle.bench.specs.declared.modes.Offered.{Offered}
use Rattle.bench.specs.declared.modes.Told.{Told}

-- ## A bench by its modes, in the rules

-- what became of the numbers stands in the offers
unfoldable pub modes_moved : Modes → Offered → Move → Move → List ℕ → List ℕ → rules.Bench Offer (List ℕ)
modes_moved b o m n out back =
    record {
      console =
          record {
            numbers = record { next = console.given o.j; known = true; move = move_means m };
            mode = in_mode (λ _. b.console.held) (console.mode b.console.mode);
            up = b.console.up;
          };
      controller =
          record {
            numbers = record { next = controller.given o.i; known = not o.unknown; move = move_means n };
            mode = controller.mode b.controller.mode;
            up = b.controller.up;
          };
      to_controller = packets to_controller_read b.sent out;
      to_console = packets to_console_read b.returned back;
    }

abbrev pub modes_means : Modes → Offered → List ℕ → List ℕ → rules.Bench Offer (List ℕ)
modes_means b o out back = modes_moved b o Stay Stay out back

-- numbers and messages are such as packets bear, and the tables hold these packets and zero bytes
pub record Known (b : Modes) (out back : List ℕ) : Type 0 where
  pub console : ConsoleBears (Number numbering) (Number numbering) (Good is_message) (in_mode (λ _. b.console.held) (console.mode b.console.mode))
  pub controller : ControllerBears (Number numbering) (Number numbering) (controller.mode b.controller.mode)
  pub to_controller_all : All (ToControllerOk numbering is_message) (packets to_controller_read b.sent out)
  pub to_controller_room : length (packets to_controller_read b.sent out) ≤ 64
  pub to_console_all : All (ToConsoleOk numbering) (packets to_console_read b.returned back)
  pub to_console_room : length (packets to_console_read b.returned back) ≤ 64
  pub out_holds : out ≡ channel to_controller_bytes (packets to_controller_read b.sent out)
  pub back_holds : back ≡ channel to_console_bytes (packets to_console_read b.returned back)

-- a number on offer can stand in a packet
abbrev pub Offers : maybe.Option ℕ → Type 0
Offers next = (n : ℕ) → next ≡ maybe.some n → Number numbering n

-- what came is the packet at the place, and `unknown` speaks of it
pub record Arrived (b : Modes) (o : Offered) (out back : List ℕ) (line : Line) (a : Action) (came : Came) : Type 0 where
  pub came_is : came ≡ came_for line.asks out b.sent back b.returned a.place
  pub unknown_is : ends.unknown (λ n. not o.unknown) (for_controller came.controller) ≡ o.unknown
  pub j_offered : Offers (console.given o.j)
  pub i_offered : Offers (controller.given o.i)

-- ## The step

-- an outcome of the rules with what the code shows of it
pub record RulesOutcome (S : Type 0) : Type 0 where
  pub report : Report
  pub message : List ℕ
  pub after : rules.Bench S (List ℕ)
  pub out : List ℕ
  pub back : List ℕ

unfoldable pub told_as : Told → Offered → List ℕ → List ℕ → RulesOutcome Offer
told_as r o out back =
    record { report = r.report; message = r.message; after = modes_moved r.after o r.console r.controller out back; out = out; back = back }

unfoldable pub shown_of : {S : Type 0} → rules.Outcome S (List ℕ) → RulesOutcome S
shown_of o =
    record {
      report = report_back o.report;
      message = delivered o.report;
      after = o.after;
      out = channel to_controller_bytes o.after.to_controller;
      back = channel to_console_bytes o.after.to_console;
    }

unfoldable pub action_of : Line → Action → rules.Action (List ℕ)
action_of line a = rules.action (letter_of line) a.place a.copies a.message

unfoldable pub modes_step : Modes → Offered → List ℕ → List ℕ → Line → Action → RulesOutcome Offer
modes_step b o out back line a = shown_of (rules.step offered is_message (modes_means b o out back) (action_of line a))

-- ## What is known on the way: 10 doesn't apply, and who is asked

abbrev pub puts : ConsoleAsk → Bool
puts asked.Put = true
puts asked.SendNeedI = false
puts asked.SendData = false
puts asked.Take = false
puts asked.GoDown = false
puts asked.ComeBack = false
puts asked.TellAck = false

-- a packet lost on its way
abbrev pub lost_from : Option Direction → rules.Taken
lost_from None = rules.from_neither
lost_from (Some ToController) = rules.from_to_controller
lost_from (Some ToConsole) = rules.from_to_console

abbrev pub TakesOne : Option Direction → Type 0
TakesOne None = ⊥
TakesOne (Some way) = Unit {0}

-- a line of the table, and copies that are not too many
pub record Few (line : Line) (a : Action) : Type 0 where
  pub lined : Lined line
  pub few : (line.copies && ltb 3 a.copies) ≡ false

-- 7 comes where nothing else of the controller's does
abbrev pub staged_7 : ℕ → Bool → ℕ
staged_7 n unknown = when eqb n 0 then (when unknown then 7 else 0) else n

-- the same end, to which every number is known
abbrev pub all_known : ends.Controller Offer → ends.Controller Offer
all_known e = record { numbers = record { next = e.numbers.next; known = true; move = e.numbers.move }; mode = e.mode; up = e.up }

module _ (b : Modes) (o : Offered) (out back : List ℕ) (line : Line) (a : Action) where
  abbrev pub asks_of : rules.Asked (List ℕ)
  asks_of = rules.asks (modes_means b o out back) (letter_of line) a.place a.message

  -- the console; what it does without copies sends nothing
  pub record OnConsole (ask : ConsoleAsk) (came : Came) : Type 0 where
    pub begun : Few line a
    pub offers : Offers (console.given o.j)
    pub asks : asks_of ≡ rules.Asked.console (in_console_act (λ _. a.message) (console.asked_to ask came.console))
    pub takes : rules.takes (letter_of line) ≡ (when line.place then rules.from_to_console else rules.from_neither)
    pub message : line.message ≡ puts ask
    pub silent : line.copies ≡ false → (e : ends.Console Offer (List ℕ)) → (ends.console_acts offered e (in_console_act (λ _. a.message) (console.asked_to ask came.console))).sent ≡ maybe.none

  -- and it does not refuse, and the packet is there
  pub record ConsoleReady (ask : ConsoleAsk) (came : Came) (d : console-types.Decided) : Type 0 where
    pub on : OnConsole ask came
    pub decided : d ≡ console.decided (ends.console_acts offered (console.on_offer b.console.mode b.console.up o.j) (console.asked_to ask came.console))
    pub accepts : refusal (ends.console_rules offered (tested (is_message a.message)) (console.on_offer b.console.mode b.console.up o.j) (console.asked_to ask came.console)) ≡ 0
    pub there : (line.place && leb b.returned a.place) ≡ false

  -- the controller, with data's message
  pub record OnController (ask : ControllerAsk) (came : Came) : Type 0 where
    pub begun : Few line a
    pub offers : Offers (controller.given o.i)
    pub asks : asks_of ≡ rules.Asked.controller (in_controller_act (λ _. came.message) (controller.asked_to ask came.controller))
    pub takes : rules.takes (letter_of line) ≡ (when line.place then rules.from_to_controller else rules.from_neither)
    pub silent : line.copies ≡ false → (e : ends.Controller Offer) → (ends.controller_acts offered e (in_controller_act (λ _. came.message) (controller.asked_to ask came.controller))).sent ≡ maybe.none
    pub seven : (e : ends.Controller Offer) → e.numbers.known ≡ not o.unknown
        → refusal (ends.controller_rules offered e (controller.asked_to ask came.controller))
        ≡ staged_7 (refusal (ends.controller_rules offered (all_known e) (controller.asked_to ask came.controller))) o.unknown

  pub record ControllerReady (ask : ControllerAsk) (came : Came) (d : controller-types.Decided) : Type 0 where
    pub on : OnController ask came
    pub decided : d ≡ controller.decided (ends.controller_acts offered (controller.on_offer b.controller.mode b.controller.up o.i) (controller.asked_to ask came.controller))
    pub accepts : refusal (ends.controller_rules offered (controller.on_offer b.controller.mode b.controller.up o.i) (controller.asked_to ask came.controller)) ≡ 0
    pub known : o.unknown ≡ false
    pub there : (line.place && leb b.sent a.place) ≡ false

  pub record OnLosing : Type 0 where
    pub begun : Few line a
    pub asks : asks_of ≡ rules.no_end
    pub takes : rules.takes (letter_of line) ≡ lost_from line.takes
    pub takes_one : TakesOne line.takes
    pub place : line.place ≡ true
