-- A change of the messages: f at every message of a packet, an end, a bench, an action, a report. Assumes nothing.
use Rattle.std.proofs.Math.Option
use Rattle.std.specs.Prelude.{map}
use Rattle.rules.specs.Ends.{ToController, need_i, order, done, ConsoleMode, in_need_i, in_send, Console, Report, nothing, delivered}
use Rattle.rules.specs.Ends.{answered_ok, answered_lost, refused, ConsoleAct, put, send_need_i, send_data, tell_ack, ControllerAct, send_offer, send_ok}
use Rattle.rules.specs.Ends.{ConsoleActed, ControllerActed}
use Rattle.rules.specs.Bench.{Bench, Action, Outcome}

module _ {M N : Type 0} (f : M → N) where
  abbrev pub in_packet : ToController M → ToController N
  in_packet (need_i J) = need_i J
  in_packet (order I m) = order I (f m)
  in_packet (done I) = done I

  abbrev pub in_mode : ConsoleMode M → ConsoleMode N
  in_mode ConsoleMode.idle = ConsoleMode.idle
  in_mode (in_need_i j m) = in_need_i j (f m)
  in_mode (in_send last m) = in_send last (f m)

  abbrev pub in_console : {S : Type 0} → Console S M → Console S N
  in_console e = record { numbers = e.numbers; mode = in_mode e.mode; up = e.up }

  -- what is asked of an end, and what comes of it
  abbrev pub in_console_act : ConsoleAct M → ConsoleAct N
  in_console_act (put m) = put (f m)
  in_console_act send_need_i = send_need_i
  in_console_act send_data = send_data
  in_console_act (ConsoleAct.take p) = ConsoleAct.take p
  in_console_act ConsoleAct.go_down = ConsoleAct.go_down
  in_console_act ConsoleAct.come_back = ConsoleAct.come_back
  in_console_act tell_ack = tell_ack

  abbrev pub in_controller_act : ControllerAct M → ControllerAct N
  in_controller_act send_offer = send_offer
  in_controller_act send_ok = send_ok
  in_controller_act (ControllerAct.take p) = ControllerAct.take (Option.map in_packet p)
  in_controller_act ControllerAct.go_down = ControllerAct.go_down
  in_controller_act ControllerAct.come_back = ControllerAct.come_back

  abbrev pub in_report : Report M → Report N
  in_report nothing = nothing
  in_report (delivered m) = delivered (f m)
  in_report answered_ok = answered_ok
  in_report answered_lost = answered_lost
  in_report (refused n) = refused n

  abbrev pub in_console_acted : {S : Type 0} → ConsoleActed S M → ConsoleActed S N
  in_console_acted d =
      record { report = in_report d.report; sent = Option.map in_packet d.sent; after = in_console d.after }

  abbrev pub in_controller_acted : {S : Type 0} → ControllerActed S M → ControllerActed S N
  in_controller_acted d = record { report = in_report d.report; sent = d.sent; after = d.after }

  abbrev pub in_bench : {S : Type 0} → Bench S M → Bench S N
  in_bench b =
      record {
        console = in_console b.console;
        controller = b.controller;
        to_controller = map in_packet b.to_controller;
        to_console = b.to_console;
      }

  abbrev pub in_action : Action M → Action N
  in_action a = record { letter = a.letter; place = a.place; copies = a.copies; message = f a.message }

  abbrev pub in_outcome : {S : Type 0} → Outcome S M → Outcome S N
  in_outcome o = record { report = in_report o.report; after = in_bench o.after }
