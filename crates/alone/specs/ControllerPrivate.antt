-- What the private functions of a controller run alone promise each other. Nothing of it stands in the entry's promise. Assumes nothing.
use Rattle.std.specs.Prelude.{ℕ, ◌≡◌, false, not, List, length, Option, None, Some, Result, Ok, Err}
use Rattle.ground.specs.Cell.{spaces}
use Rattle.ground.specs.First.{refusal}
use Rattle.ground.specs.Refusals.{unless_refused}
use Rattle.ground.specs.declared.refusals.Refusal.{Refusal}
use Rattle.wire.specs.Packet.{head_read}
use Rattle.wire.specs.declared.Head.{Head}
use Rattle.rules.specs.Supply.{numbering}
use Rattle.rules.specs.Letters.{ControllerAsk, to_send_offer, to_send_ok}
use Rattle.rules.specs.Ends as rules
use Rattle.letters.specs.declared.Asks.{Asks}
use Rattle.letters.specs.declared.Asks.TheVariants as asked
use Rattle.letters.specs.declared.ControllerAsk as code
use Rattle.letters.specs.declared.Line.{Line}
use Rattle.ends.specs.AsRules.{Beside, for_controller, delivered_beside}
use Rattle.ends.specs.Packets.{to_console_sent, head_for_controller}
use Rattle.ends.specs.declared.Report.{Report}
use Rattle.ends.specs.declared.Report.TheVariants as report
use Rattle.ends.specs.declared.ToController.{ToController}
use Rattle.ends_controller.specs.AsRules.{end, acted}
use Rattle.ends_controller.specs.Fields.{controller_fields}
use Rattle.ends_controller.specs.Types.{End, Acted}
use Rattle.ends_controller.specs.declared.fields.Controller.{Controller}
use Rattle.alone.specs.Alone.{replied}
use Rattle.alone.specs.AnyEnd.{lent}
use Rattle.alone.specs.ControllerAlone.{ControllerAlone}
use Rattle.alone.specs.Private.{refuses}

-- what a letter's line asks of a controller, if it asks one
abbrev pub controller_asked_by : Asks → Option code.ControllerAsk
controller_asked_by (asked.Console ask) = None
controller_asked_by (asked.Controller ask) = Some ask
controller_asked_by asked.NoEnd = None

abbrev pub controller_ask_in : Option Line → Option code.ControllerAsk
controller_ask_in None = None
controller_ask_in (Some l) = controller_asked_by l.asks

-- what an act comes to, or its refusal
unfoldable pub controller_act : End → rules.ControllerAct Beside → Result Acted Refusal
controller_act e a =
    unless_refused (refusal (rules.controller_rules numbering (end e) a)) (acted (rules.controller_acts numbering (end e) a))

-- R, of what the packet in was read as
abbrev pub controller_came : End → Option ToController → Result Acted Refusal
controller_came e None = refuses 15
controller_came e (Some p) = controller_act e (rules.ControllerAct.take (for_controller (Some p)))

abbrev pub controller_heard : End → Result Head Refusal → Result Acted Refusal
controller_heard e (Err r) = Err r
controller_heard e (Ok h) = controller_came e (head_for_controller h)

-- what is asked
abbrev pub controller_does : End → List ℕ → ℕ → ControllerAsk → Result Acted Refusal
controller_does e packet long to_send_offer = lent refuses long (controller_act e rules.send_offer)
controller_does e packet long to_send_ok = lent refuses long (controller_act e rules.send_ok)
controller_does e packet long ControllerAsk.to_take = lent refuses long (controller_heard e (head_read packet))
controller_does e packet long ControllerAsk.to_go_down = controller_act e rules.ControllerAct.go_down
controller_does e packet long ControllerAsk.to_come_back = controller_act e rules.ControllerAct.come_back

-- a message is delivered from a packet of 32 bytes
abbrev pub Delivers : Report → List ℕ → Type 0
Delivers r packet = r ≡ report.Delivered → length packet ≡ 32

-- what was done with a packet in whose message is m
unfoldable pub controller_tells : Acted → List ℕ → List ℕ → ControllerAlone
controller_tells d m reply =
    let sent = to_console_sent d.sent in
    record {
      outcome =
          record {
            report = d.report;
            message = delivered_beside d.report m;
            sent = not (rules.absent sent);
            controller = controller_fields d.after;
          };
      reply = replied sent reply;
    }

-- what is answered to it, or to a refusal, which leaves the controller and the reply buffer, and delivers nothing
abbrev pub controller_answer : Controller → List ℕ → List ℕ → Result Acted Refusal → ControllerAlone
controller_answer c m reply (Err q) =
    record { outcome = record { report = report.Refused q; message = spaces; sent = false; controller = c }; reply = reply }
controller_answer c m reply (Ok d) = controller_tells d m reply
