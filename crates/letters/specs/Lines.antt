-- What the rules' letters and lines are in the code. Assumes nothing.
use Rattle.std.specs.Prelude.{ℕ, ◌≡◌, Option, Some, None}
use Rattle.std.proofs.Math.Option as maybe
use Rattle.rules.specs.Bench.{at}
use Rattle.rules.specs.Letters as rules
use Rattle.letters.specs.declared.ConsoleAsk.{ConsoleAsk}
use Rattle.letters.specs.declared.ConsoleAsk.TheVariants as console
use Rattle.letters.specs.declared.ControllerAsk.{ControllerAsk}
use Rattle.letters.specs.declared.ControllerAsk.TheVariants as controller
use Rattle.letters.specs.declared.Asks.{Asks}
use Rattle.letters.specs.declared.Asks.TheVariants as asked
use Rattle.letters.specs.declared.Line.{Line}
use Rattle.wire.specs.declared.Direction.{Direction}
use Rattle.wire.specs.declared.Direction.TheVariants.{ToController, ToConsole}

-- ## What is asked, in the code and back

abbrev pub console_ask_of : rules.ConsoleAsk → ConsoleAsk
console_ask_of rules.to_put = console.Put
console_ask_of rules.to_send_need_i = console.SendNeedI
console_ask_of rules.to_send_data = console.SendData
console_ask_of rules.ConsoleAsk.to_take = console.Take
console_ask_of rules.ConsoleAsk.to_go_down = console.GoDown
console_ask_of rules.ConsoleAsk.to_come_back = console.ComeBack
console_ask_of rules.to_tell_ack = console.TellAck

abbrev pub controller_ask_of : rules.ControllerAsk → ControllerAsk
controller_ask_of rules.to_send_offer = controller.SendOffer
controller_ask_of rules.to_send_ok = controller.SendOk
controller_ask_of rules.ControllerAsk.to_take = controller.Take
controller_ask_of rules.ControllerAsk.to_go_down = controller.GoDown
controller_ask_of rules.ControllerAsk.to_come_back = controller.ComeBack

abbrev pub asks_of : rules.Asks → Asks
asks_of (rules.the_console a) = asked.Console (console_ask_of a)
asks_of (rules.the_controller a) = asked.Controller (controller_ask_of a)
asks_of rules.neither_end = asked.NoEnd

abbrev pub console_ask_means : ConsoleAsk → rules.ConsoleAsk
console_ask_means console.Put = rules.to_put
console_ask_means console.SendNeedI = rules.to_send_need_i
console_ask_means console.SendData = rules.to_send_data
console_ask_means console.Take = rules.ConsoleAsk.to_take
console_ask_means console.GoDown = rules.ConsoleAsk.to_go_down
console_ask_means console.ComeBack = rules.ConsoleAsk.to_come_back
console_ask_means console.TellAck = rules.to_tell_ack

abbrev pub controller_ask_means : ControllerAsk → rules.ControllerAsk
controller_ask_means controller.SendOffer = rules.to_send_offer
controller_ask_means controller.SendOk = rules.to_send_ok
controller_ask_means controller.Take = rules.ControllerAsk.to_take
controller_ask_means controller.GoDown = rules.ControllerAsk.to_go_down
controller_ask_means controller.ComeBack = rules.ControllerAsk.to_come_back

abbrev pub asks_means : Asks → rules.Asks
asks_means (asked.Console a) = rules.the_console (console_ask_means a)
asks_means (asked.Controller a) = rules.the_controller (controller_ask_means a)
asks_means asked.NoEnd = rules.neither_end

abbrev pub takes_of : rules.Taken → Option Direction
takes_of rules.from_neither = None
takes_of rules.from_to_controller = Some ToController
takes_of rules.from_to_console = Some ToConsole

-- ## The line of a letter

unfoldable pub line_of : rules.Letter → Line
line_of l =
    record {
      byte = (rules.line l).byte;
      asks = asks_of (rules.line l).asks;
      takes = takes_of (rules.line l).takes;
      place = (rules.line l).place;
      copies = (rules.line l).copies;
      message = (rules.line l).message;
    }

abbrev pub found_of : maybe.Option rules.Letter → Option Line
found_of maybe.none = None
found_of (maybe.some l) = Some (line_of l)

-- a letter that is no action is 1
abbrev pub letter_refusal : maybe.Option rules.Letter → ℕ
letter_refusal maybe.none = 1
letter_refusal (maybe.some l) = 0

-- document 01's number of each case
abbrev pub found_refusal : Option Line → ℕ
found_refusal None = 1
found_refusal (Some l) = 0

-- the line at a place of the table
unfoldable pub found_at : ℕ → Option Line
found_at k = found_of (at rules.letters k)

-- ## The letter of a line, by what it asks and takes

abbrev lost_from : Option Direction → rules.Letter
lost_from None = rules.l_lose
lost_from (Some ToController) = rules.l_lose
lost_from (Some ToConsole) = rules.m_lose

abbrev asking : Asks → Option Direction → rules.Letter
asking (asked.Console console.Put) t = rules.p_put
asking (asked.Console console.SendNeedI) t = rules.q_need
asking (asked.Console console.SendData) t = rules.d_data
asking (asked.Console console.Take) t = rules.s_take
asking (asked.Console console.GoDown) t = rules.c_down
asking (asked.Console console.ComeBack) t = rules.v_back
asking (asked.Console console.TellAck) t = rules.a_ack
asking (asked.Controller controller.SendOffer) t = rules.o_offer
asking (asked.Controller controller.SendOk) t = rules.k_ok
asking (asked.Controller controller.Take) t = rules.r_take
asking (asked.Controller controller.GoDown) t = rules.x_down
asking (asked.Controller controller.ComeBack) t = rules.y_back
asking asked.NoEnd t = lost_from t

abbrev pub letter_of : Line → rules.Letter
letter_of l = asking l.asks l.takes

-- a line of the table
unfoldable pub Lined : Line → Type 0
Lined l = l ≡ line_of (letter_of l)
