-- What the controller's values mean in the rules, whose messages have one value here: the message stands beside. Assumes nothing.
use Rattle.std.specs.Prelude.{ℕ, Bool, true, Option, None, Some, option_map}
use Rattle.std.proofs.Math.Option as maybe
use Rattle.ground.specs.Options.{option_back}
use Rattle.wire.specs.declared.I.{I}
use Rattle.rules.specs.Ends as rules
use Rattle.rules.specs.Offered.{Offer, unmoved}
use Rattle.rules.specs.Supply.{numbering, Numbers}
use Rattle.letters.specs.declared.ControllerAsk.{ControllerAsk}
use Rattle.letters.specs.declared.ControllerAsk.TheVariants as ask
use Rattle.numbers.specs.Numbers.{numbers_means, numbers_back, took, move_back}
use Rattle.ends.specs.AsRules.{Beside, for_controller, for_console_back, report_back}
use Rattle.ends.specs.declared.ToController.{ToController}
use Rattle.ends_controller.specs.declared.Mode.{Mode}
use Rattle.ends_controller.specs.declared.Mode.TheVariants.{Idle, Accept, Ack}
use Rattle.ends_controller.specs.Types.{Turn, End, Acted, Decided}

abbrev pub mode : Mode → rules.ControllerMode
mode Idle = rules.ControllerMode.idle
mode (Accept j i) = rules.in_accept j.0 i.0
mode (Ack last) = rules.in_ack last.0

abbrev pub mode_back : rules.ControllerMode → Mode
mode_back rules.ControllerMode.idle = Idle
mode_back (rules.in_accept j i) = Accept (record { 0 = j }) (record { 0 = i })
mode_back (rules.in_ack last) = Ack (record { 0 = last })

-- ## Its turn

abbrev pub turn : rules.ControllerTurn Beside → Turn
turn t =
    record { numbers = took t.took; mode = mode_back t.mode; report = report_back t.report; sent = for_console_back t.sent }

-- ## Its decision: the rules' step with a number on offer, and every number known: 7 is for the caller to test

abbrev pub given : Option I → maybe.Option ℕ
given None = maybe.none
given (Some i) = maybe.some i.0

abbrev pub on_offer : Mode → Bool → Option I → rules.Controller Offer
on_offer now up next =
    record { numbers = record { next = given next; known = true; move = unmoved }; mode = mode now; up = up }

abbrev pub asked_to : ControllerAsk → Option ToController → rules.ControllerAct Beside
asked_to ask.SendOffer p = rules.send_offer
asked_to ask.SendOk p = rules.send_ok
asked_to ask.Take p = rules.ControllerAct.take (for_controller p)
asked_to ask.GoDown p = rules.ControllerAct.go_down
asked_to ask.ComeBack p = rules.ControllerAct.come_back

abbrev pub decided : rules.ControllerActed Offer Beside → Decided
decided d =
    record {
      report = report_back d.report;
      sent = for_console_back d.sent;
      numbers = move_back d.after.numbers.move;
      mode = mode_back d.after.mode;
      up = d.after.up;
    }

-- ## With its own numbers

abbrev pub end : End → rules.Controller Numbers
end e = record { numbers = numbers_means e.numbers; mode = mode e.mode; up = e.up }

-- none: they are spent
abbrev pub next_of : End → Option I
next_of e = option_map (λ n. record { 0 = n }) (option_back (numbering.next (numbers_means e.numbers)))

abbrev pub acted : rules.ControllerActed Numbers Beside → Acted
acted d =
    record {
      report = report_back d.report;
      sent = for_console_back d.sent;
      after = record { numbers = numbers_back d.after.numbers; mode = mode_back d.after.mode; up = d.after.up };
    }
