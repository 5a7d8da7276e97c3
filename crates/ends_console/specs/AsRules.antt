-- What the console's values mean in the rules, whose messages have one value here: the message stands beside. Assumes nothing.
use Rattle.std.specs.Prelude.{ℕ, Bool, true, Option, None, Some, option_map}
use Rattle.std.proofs.Math.Option as maybe
use Rattle.ground.specs.Options.{option_back}
use Rattle.wire.specs.declared.J.{J}
use Rattle.rules.specs.Ends as rules
use Rattle.rules.specs.Offered.{Offer, unmoved}
use Rattle.rules.specs.Supply.{numbering, Numbers}
use Rattle.letters.specs.declared.ConsoleAsk.{ConsoleAsk}
use Rattle.letters.specs.declared.ConsoleAsk.TheVariants as ask
use Rattle.numbers.specs.Numbers.{numbers_means, numbers_back, took, move_back}
use Rattle.ends.specs.AsRules.{Beside, for_console, for_controller_back, report_back}
use Rattle.ends.specs.declared.ToConsole.{ToConsole}
use Rattle.ends_console.specs.declared.Mode.{Mode}
use Rattle.ends_console.specs.declared.Mode.TheVariants.{Idle, NeedI, Send}
use Rattle.ends_console.specs.Types.{Turn, End, Acted, Decided}

abbrev pub mode : Mode → rules.ConsoleMode Beside
mode Idle = rules.ConsoleMode.idle
mode (NeedI j) = rules.in_need_i j.0 tt
mode (Send last) = rules.in_send last.0 tt

abbrev pub mode_back : rules.ConsoleMode Beside → Mode
mode_back rules.ConsoleMode.idle = Idle
mode_back (rules.in_need_i j m) = NeedI (record { 0 = j })
mode_back (rules.in_send last m) = Send (record { 0 = last })

-- ## Its turn

abbrev pub turn : rules.ConsoleTurn Beside → Turn
turn t =
    record { numbers = took t.took; mode = mode_back t.mode; report = report_back t.report; sent = for_controller_back t.sent }

-- ## Its decision: the rules' step with a number on offer

abbrev pub given : Option J → maybe.Option ℕ
given None = maybe.none
given (Some j) = maybe.some j.0

abbrev pub on_offer : Mode → Bool → Option J → rules.Console Offer Beside
on_offer now up next =
    record { numbers = record { next = given next; known = true; move = unmoved }; mode = mode now; up = up }

abbrev pub asked_to : ConsoleAsk → Option ToConsole → rules.ConsoleAct Beside
asked_to ask.Put p = rules.put tt
asked_to ask.SendNeedI p = rules.send_need_i
asked_to ask.SendData p = rules.send_data
asked_to ask.Take p = rules.ConsoleAct.take (for_console p)
asked_to ask.GoDown p = rules.ConsoleAct.go_down
asked_to ask.ComeBack p = rules.ConsoleAct.come_back
asked_to ask.TellAck p = rules.tell_ack

abbrev pub decided : rules.ConsoleActed Offer Beside → Decided
decided d =
    record {
      report = report_back d.report;
      sent = for_controller_back d.sent;
      numbers = move_back d.after.numbers.move;
      mode = mode_back d.after.mode;
      up = d.after.up;
    }

-- ## With its own numbers

abbrev pub end : End → rules.Console Numbers Beside
end e = record { numbers = numbers_means e.numbers; mode = mode e.mode; up = e.up }

-- none: they are spent
abbrev pub next_of : End → Option J
next_of e = option_map (λ n. record { 0 = n }) (option_back (numbering.next (numbers_means e.numbers)))

abbrev pub acted : rules.ConsoleActed Numbers Beside → Acted
acted d =
    record {
      report = report_back d.report;
      sent = for_controller_back d.sent;
      after = record { numbers = numbers_back d.after.numbers; mode = mode_back d.after.mode; up = d.after.up };
    }
