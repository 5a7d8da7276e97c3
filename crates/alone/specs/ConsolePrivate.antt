-- What the private functions of a console run alone promise each other. Nothing of it stands in the entry's promise. Assumes nothing.
use Rattle.std.specs.Prelude.{ℕ, Bool, true, false, not, List, Option, None, Some, Result, Ok, Err}
use Rattle.ground.specs.Cell.{is_message}
use Rattle.ground.specs.First.{refusal}
use Rattle.ground.specs.Refusals.{unless_refused}
use Rattle.ground.specs.declared.refusals.Refusal.{Refusal}
use Rattle.wire.specs.Packet.{head_read}
use Rattle.wire.specs.declared.Head.{Head}
use Rattle.rules.specs.Supply.{numbering}
use Rattle.rules.specs.Letters.{ConsoleAsk, to_put, to_send_need_i, to_send_data, to_tell_ack}
use Rattle.rules.specs.Ends as rules
use Rattle.rules.specs.Reading.{Use}
use Rattle.letters.specs.Lines.{console_ask_means}
use Rattle.letters.specs.declared.Asks.{Asks}
use Rattle.letters.specs.declared.Asks.TheVariants as asked
use Rattle.letters.specs.declared.ConsoleAsk as code
use Rattle.letters.specs.declared.Line.{Line}
use Rattle.ends.specs.AsRules.{Beside, tested, for_console}
use Rattle.ends.specs.Packets.{to_controller_sent, head_for_console}
use Rattle.ends.specs.declared.Report.TheVariants as report
use Rattle.ends.specs.declared.ToConsole.{ToConsole}
use Rattle.ends_console.specs.Ack.{ack_use, use_means, acked}
use Rattle.ends_console.specs.AsRules.{end, acted}
use Rattle.ends_console.specs.Fields.{console_fields}
use Rattle.ends_console.specs.Types.{End, Acted}
use Rattle.ends_console.specs.declared.fields.Console.{Console}
use Rattle.alone.specs.Alone.{replied}
use Rattle.alone.specs.AnyEnd.{lent}
use Rattle.alone.specs.ConsoleAlone.{ConsoleAlone}
use Rattle.alone.specs.Private.{refuses}

-- what a letter's line asks of a console, if it asks one
abbrev pub console_asked_by : Asks → Option code.ConsoleAsk
console_asked_by (asked.Console ask) = Some ask
console_asked_by (asked.Controller ask) = None
console_asked_by asked.NoEnd = None

abbrev pub console_ask_in : Option Line → Option code.ConsoleAsk
console_ask_in None = None
console_ask_in (Some l) = console_asked_by l.asks

-- what an act comes to, or its refusal; `good` says that the message put is 16 cells, and only a put looks at it
unfoldable pub console_act : End → Bool → rules.ConsoleAct Beside → Result Acted Refusal
console_act e good a =
    unless_refused (refusal (rules.console_rules numbering (tested good) (end e) a)) (acted (rules.console_acts numbering (end e) a))

-- S, of what the packet in was read as
abbrev pub console_came : End → Option ToConsole → Result Acted Refusal
console_came e None = refuses 15
console_came e (Some p) = console_act e true (rules.ConsoleAct.take (for_console (Some p)))

abbrev pub console_heard : End → Result Head Refusal → Result Acted Refusal
console_heard e (Err r) = Err r
console_heard e (Ok h) = console_came e (head_for_console h)

-- what is asked
abbrev pub console_does : End → List ℕ → List ℕ → ℕ → ConsoleAsk → Result Acted Refusal
console_does e message packet long to_put = console_act e (is_message message) (rules.put tt)
console_does e message packet long to_send_need_i = lent refuses long (console_act e true rules.send_need_i)
console_does e message packet long to_send_data = lent refuses long (console_act e true rules.send_data)
console_does e message packet long ConsoleAsk.to_take = lent refuses long (console_heard e (head_read packet))
console_does e message packet long ConsoleAsk.to_go_down = console_act e true rules.ConsoleAct.go_down
console_does e message packet long ConsoleAsk.to_come_back = console_act e true rules.ConsoleAct.come_back
console_does e message packet long to_tell_ack = console_act e true rules.tell_ack

-- the message that is held then, if one is: the put one is kept
abbrev pub message_kept : ConsoleAsk → List ℕ → List ℕ → List ℕ
message_kept to_put message held = message
message_kept to_send_need_i message held = held
message_kept to_send_data message held = held
message_kept ConsoleAsk.to_take message held = held
message_kept ConsoleAsk.to_go_down message held = held
message_kept ConsoleAsk.to_come_back message held = held
message_kept to_tell_ack message held = held

-- what was done by an act that uses the ack so, where the console then holds m, if it holds a message
unfoldable pub console_tells : Acted → Use → Bool → List ℕ → List ℕ → ConsoleAlone
console_tells d u ack m reply =
    let shown = acked u ack d.report in
    let sent = to_controller_sent d.sent m in
    record {
      outcome = record { report = shown.report; sent = not (rules.absent sent); console = console_fields d.after shown.ack m };
      reply = replied sent reply;
    }

-- what is answered to it, or to a refusal, which leaves the console and the reply buffer
abbrev pub console_answer : Console → List ℕ → List ℕ → Result (code.ConsoleAsk × Acted) Refusal → ConsoleAlone
console_answer c m reply (Err q) = record { outcome = record { report = report.Refused q; sent = false; console = c }; reply = reply }
console_answer c m reply (Ok (ask, d)) =
    console_tells d (use_means (ack_use ask)) c.ack (message_kept (console_ask_means ask) m c.message) reply
