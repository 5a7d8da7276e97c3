-- An end run alone, wherever its numbers come from: what is refused before its rules are asked, refusal by refusal in document 01's order. Assumes nothing.
use Rattle.std.specs.Prelude.{ℕ, Bool, List, eqb, Option, None, Some, Result, Ok, Err}
use Rattle.std.proofs.Math.Option as maybe
use Rattle.ground.specs.Choice.{when◌then◌else◌}
use Rattle.ground.specs.Refusals.{number_of}
use Rattle.ground.specs.declared.refusals.Refusal.{Refusal}
use Rattle.wire.specs.declared.Head.{Head}
use Rattle.wire.specs.declared.Packet.{Packet}
use Rattle.rules.specs.Letters.{Letter, line, Asks, the_console, the_controller, neither_end, ConsoleAsk, to_put, to_send_need_i, to_send_data, to_tell_ack, ControllerAsk, to_send_offer, to_send_ok}
use Rattle.rules.specs.Ends as rules
use Rattle.rules.specs.Relabel.{in_packet}
use Rattle.ends.specs.Packets.{head_for_console, head_for_controller}
use Rattle.ends.specs.AsRules.{to_console, to_controller}
use Rattle.ends.specs.declared.ToConsole.{ToConsole}
use Rattle.ends.specs.declared.ToController.{ToController}

-- R is what a step tells and leaves, `refused` that of a refusal
module _ {R : Type 0} (refused : ℕ → R) where
  -- 12 of the reply buffer, whose length is looked at even with nothing to send
  unfoldable pub lent : ℕ → R → R
  lent long asked = when eqb long 32 then asked else refused 12

  -- ## A console, of which `acts` says what its rules do, or refuse

  module _ (acts : rules.ConsoleAct (List ℕ) → R) where
    -- a packet in whose kind goes the other way is 15
    abbrev pub any_console_takes : Option ToConsole → R
    any_console_takes None = refused 15
    any_console_takes (Some p) = acts (rules.ConsoleAct.take (maybe.some (to_console p)))

    -- 12 to 15 of the packet in, as it was read
    abbrev pub any_console_hears : Result Head Refusal → R
    any_console_hears (Err r) = refused (number_of r)
    any_console_hears (Ok h) = any_console_takes (head_for_console h)

    module _ (message : List ℕ) (came : Result Head Refusal) (long : ℕ) where
      -- Q D S are lent the reply buffer, S takes the packet in
      abbrev pub any_console_asked : ConsoleAsk → R
      any_console_asked to_put = acts (rules.put message)
      any_console_asked to_send_need_i = lent long (acts rules.send_need_i)
      any_console_asked to_send_data = lent long (acts rules.send_data)
      any_console_asked ConsoleAsk.to_take = lent long (any_console_hears came)
      any_console_asked ConsoleAsk.to_go_down = acts rules.ConsoleAct.go_down
      any_console_asked ConsoleAsk.to_come_back = acts rules.ConsoleAct.come_back
      any_console_asked to_tell_ack = acts rules.tell_ack

      module _ (ok : Bool) where
        -- 1: a letter that asks the other end, or none. 2: the console is not well formed
        abbrev pub any_console_asks : Asks → R
        any_console_asks (the_console ask) = when ok then any_console_asked ask else refused 2
        any_console_asks (the_controller ask) = refused 1
        any_console_asks neither_end = refused 1

        -- 1: no action has this letter
        abbrev pub any_console_letter : maybe.Option Letter → R
        any_console_letter maybe.none = refused 1
        any_console_letter (maybe.some l) = any_console_asks (line l).asks

  -- ## A controller

  module _ (acts : rules.ControllerAct (List ℕ) → R) where
    -- a packet in whose kind goes the other way is 15; the message is data's
    abbrev pub any_controller_takes : List ℕ → Option ToController → R
    any_controller_takes message None = refused 15
    any_controller_takes message (Some p) =
        acts (rules.ControllerAct.take (maybe.some (in_packet (λ _. message) (to_controller p))))

    -- 12 to 15 of the packet in, as it was read
    abbrev pub any_controller_hears : Result Packet Refusal → R
    any_controller_hears (Err r) = refused (number_of r)
    any_controller_hears (Ok p) = any_controller_takes p.message (head_for_controller p.head)

    module _ (came : Result Packet Refusal) (long : ℕ) where
      -- O K R are lent the reply buffer, R takes the packet in
      abbrev pub any_controller_asked : ControllerAsk → R
      any_controller_asked to_send_offer = lent long (acts rules.send_offer)
      any_controller_asked to_send_ok = lent long (acts rules.send_ok)
      any_controller_asked ControllerAsk.to_take = lent long (any_controller_hears came)
      any_controller_asked ControllerAsk.to_go_down = acts rules.ControllerAct.go_down
      any_controller_asked ControllerAsk.to_come_back = acts rules.ControllerAct.come_back

      module _ (ok : Bool) where
        -- 1: a letter that asks the other end, or none. 2: the controller is not well formed
        abbrev pub any_controller_asks : Asks → R
        any_controller_asks (the_console ask) = refused 1
        any_controller_asks (the_controller ask) = when ok then any_controller_asked ask else refused 2
        any_controller_asks neither_end = refused 1

        -- 1: no action has this letter
        abbrev pub any_controller_letter : maybe.Option Letter → R
        any_controller_letter maybe.none = refused 1
        any_controller_letter (maybe.some l) = any_controller_asks (line l).asks
