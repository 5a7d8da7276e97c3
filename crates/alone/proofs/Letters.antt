-- One letter, one act: on each letter's byte a well-formed end run alone does what the rules ask of that end on a bench at whose place the packet in
-- lies, and says 1 exactly where they ask the other end or none.
use Prim.Native.Nat.{ℕ}
use mathlib.Core.Path.{◌≡◌, refl, ap, ◌∙◌}
use mathlib.Core.Bool.{true}
use mathlib.Core.Option as maybe
use mathlib.Core.List.{List}
use lib.ListN.{length}
use Rattle.std.specs.Prelude.{Option, None, Some, Result, Ok, Err}
use Rattle.ground.specs.Cell.{is_message}
use Rattle.ground.specs.Choice.{chosen}
use Rattle.ground.proofs.Promise.{clash}
use Rattle.ground.specs.declared.refusals.Refusal.{Refusal}
use Rattle.wire.specs.Packet.{head_read, packet_read}
use Rattle.wire.specs.declared.Head.{Head}
use Rattle.wire.specs.declared.Packet.{Packet}
use Rattle.rules.specs.Supply.{numbering}
use Rattle.rules.specs.Letters as letters
use Rattle.rules.specs.Letters.{Letter, line, letter, Asks, the_console, the_controller, neither_end, ConsoleAsk, ControllerAsk}
use Rattle.rules.specs.Ends as rules
use Rattle.rules.specs.Reading.{console_read_step}
use Rattle.rules.specs.Bench.{Bench, Asked, no_end, at, asked_to, asks}
use Rattle.rules.specs.Relabel.{in_packet}
use Rattle.ends_console.specs.Fields.{console_ok}
use Rattle.ends_controller.specs.Fields.{controller_ok}
use Rattle.ends_console.specs.FieldsAsRules.{console_reads}
use Rattle.ends_controller.specs.FieldsAsRules.{controller_means}
use Rattle.ends.specs.AsRules.{for_console, for_controller}
use Rattle.ends.specs.Packets.{head_for_console, head_for_controller, read_for_console}
use Rattle.ends.specs.declared.ToConsole.{ToConsole}
use Rattle.ends.specs.declared.ToController.{ToController}
use Rattle.ends_console.specs.declared.fields.Console.{Console}
use Rattle.ends_controller.specs.declared.fields.Controller.{Controller}
use Rattle.alone.specs.AnyEnd.{lent}
use Rattle.alone.specs.ConsoleAlone.{ConsoleAlone, console_refused, console_told, console_alone_acts, console_alone_takes, console_hears, console_asks, console_letter, console_alone}
use Rattle.alone.specs.ControllerAlone.{ControllerAlone, controller_refused, controller_told, controller_alone_acts, controller_alone_takes, controller_hears, controller_asks, controller_letter, controller_alone}
use Rattle.alone.proofs.Calls.{console_heard, packet_heard, controller_heard_as}

no_packet : {A : Type 0} {B : Type 0} (q : A) → maybe.none ≡ maybe.some q → B
no_packet q e = absurd (clash cc)

module _ {S : Type 0} (b : Bench S (List ℕ)) (place : ℕ) (m packet reply : List ℕ) where
  -- what is lent is as the letter asks: a reply buffer of 32 bytes, and the packet in reads as the one at the place
  abbrev pub Lent : Asks → Type 0
  Lent (the_console letters.to_put) = Unit {0}
  Lent (the_console letters.to_send_need_i) = length reply ≡ 32
  Lent (the_console letters.to_send_data) = length reply ≡ 32
  Lent (the_console ConsoleAsk.to_take) =
      (length reply ≡ 32) × ((q : rules.ToConsole) × ((at b.to_console place ≡ maybe.some q) × (console_heard packet ≡ maybe.some q)))
  Lent (the_console ConsoleAsk.to_go_down) = Unit {0}
  Lent (the_console ConsoleAsk.to_come_back) = Unit {0}
  Lent (the_console letters.to_tell_ack) = Unit {0}
  Lent (the_controller letters.to_send_offer) = length reply ≡ 32
  Lent (the_controller letters.to_send_ok) = length reply ≡ 32
  Lent (the_controller ControllerAsk.to_take) =
      (length reply ≡ 32) × ((q : rules.ToController (List ℕ)) × ((at b.to_controller place ≡ maybe.some q) × (controller_heard_as packet ≡ maybe.some q)))
  Lent (the_controller ControllerAsk.to_go_down) = Unit {0}
  Lent (the_controller ControllerAsk.to_come_back) = Unit {0}
  Lent neither_end = Unit {0}

  -- ## The console

  module _ (c : Console) (ok : console_ok c ≡ true) where
    abbrev pub console_obeys : Asked (List ℕ) → ConsoleAlone
    console_obeys (Asked.console a) = console_told (console_read_step numbering is_message (console_reads c) a) reply
    console_obeys (Asked.controller a) = console_refused 1 c reply
    console_obeys no_end = console_refused 1 c reply

    console_takes : (f : Option ToConsole) (q : rules.ToConsole) → for_console f ≡ maybe.some q → console_alone_takes c reply f ≡ console_alone_acts c reply (rules.ConsoleAct.take (maybe.some q))
    console_takes None q e = no_packet q e
    console_takes (Some p) q e = ap (λ (o : maybe.Option rules.ToConsole). console_alone_acts c reply (rules.ConsoleAct.take o)) e

    console_hears_lem : (h : Result Head Refusal) (q : rules.ToConsole) → for_console (read_for_console h) ≡ maybe.some q → console_hears c reply h ≡ console_alone_acts c reply (rules.ConsoleAct.take (maybe.some q))
    console_hears_lem (Err r) q e = no_packet q e
    console_hears_lem (Ok h) q e = console_takes (head_for_console h) q e

    console_asks_lem : (a : Asks) → Lent a → console_asks c reply m packet a ≡ console_obeys (asked_to a b place m)
    unfolding console_alone_acts lent chosen
    console_asks_lem (the_console letters.to_put) h = rw ok
    console_asks_lem (the_console letters.to_send_need_i) h = rw (ok, h)
    console_asks_lem (the_console letters.to_send_data) h = rw (ok, h)
    console_asks_lem (the_console ConsoleAsk.to_take) h =
        rw (ok, h.0, h.1.1.0) (console_hears_lem (head_read packet) h.1.0 h.1.1.1)
    console_asks_lem (the_console ConsoleAsk.to_go_down) h = rw ok
    console_asks_lem (the_console ConsoleAsk.to_come_back) h = rw ok
    console_asks_lem (the_console letters.to_tell_ack) h = rw ok
    console_asks_lem (the_controller a) h = controller_no a
      where
        controller_no : (a : ControllerAsk) → console_refused 1 c reply ≡ console_obeys (asked_to (the_controller a) b place m)
        controller_no letters.to_send_offer = refl
        controller_no letters.to_send_ok = refl
        controller_no ControllerAsk.to_take = refl
        controller_no ControllerAsk.to_go_down = refl
        controller_no ControllerAsk.to_come_back = refl
    console_asks_lem neither_end h = refl

    pub console_obeys_lem : (byte : ℕ) (l : Letter) → letter byte ≡ maybe.some l → Lent (line l).asks → console_alone c byte m packet reply ≡ console_obeys (asks b l place m)
    unfolding console_alone asks
    console_obeys_lem byte l e h = ap (console_letter c reply m packet) e ∙ console_asks_lem (line l).asks h

  -- ## The controller

  module _ (c : Controller) (ok : controller_ok c ≡ true) where
    abbrev pub controller_obeys : Asked (List ℕ) → ControllerAlone
    controller_obeys (Asked.console a) = controller_refused 1 c reply
    controller_obeys (Asked.controller a) = controller_told (rules.controller_step numbering (controller_means c) a) reply
    controller_obeys no_end = controller_refused 1 c reply

    controller_takes : (m : List ℕ) (f : Option ToController) (q : rules.ToController (List ℕ)) → maybe.map (in_packet (λ _. m)) (for_controller f) ≡ maybe.some q
        → controller_alone_takes c reply m f ≡ controller_alone_acts c reply (rules.ControllerAct.take (maybe.some q))
    controller_takes m None q e = no_packet q e
    controller_takes m (Some p) q e = ap (λ (o : maybe.Option (rules.ToController (List ℕ))). controller_alone_acts c reply (rules.ControllerAct.take o)) e

    controller_hears_lem : (p : Result Packet Refusal) (q : rules.ToController (List ℕ)) → packet_heard p ≡ maybe.some q → controller_hears c reply p ≡ controller_alone_acts c reply (rules.ControllerAct.take (maybe.some q))
    controller_hears_lem (Err r) q e = no_packet q e
    controller_hears_lem (Ok p) q e = controller_takes p.message (head_for_controller p.head) q e

    controller_asks_lem : (a : Asks) → Lent a → controller_asks c reply packet a ≡ controller_obeys (asked_to a b place m)
    unfolding controller_alone_acts lent chosen
    controller_asks_lem (the_console a) h = console_no a
      where
        console_no : (a : ConsoleAsk) → controller_refused 1 c reply ≡ controller_obeys (asked_to (the_console a) b place m)
        console_no letters.to_put = refl
        console_no letters.to_send_need_i = refl
        console_no letters.to_send_data = refl
        console_no ConsoleAsk.to_take = refl
        console_no ConsoleAsk.to_go_down = refl
        console_no ConsoleAsk.to_come_back = refl
        console_no letters.to_tell_ack = refl
    controller_asks_lem (the_controller letters.to_send_offer) h = rw (ok, h)
    controller_asks_lem (the_controller letters.to_send_ok) h = rw (ok, h)
    controller_asks_lem (the_controller ControllerAsk.to_take) h =
        rw (ok, h.0, h.1.1.0) (controller_hears_lem (packet_read packet) h.1.0 h.1.1.1)
    controller_asks_lem (the_controller ControllerAsk.to_go_down) h = rw ok
    controller_asks_lem (the_controller ControllerAsk.to_come_back) h = rw ok
    controller_asks_lem neither_end h = refl

    pub controller_obeys_lem : (byte : ℕ) (l : Letter) → letter byte ≡ maybe.some l → Lent (line l).asks → controller_alone c byte packet reply ≡ controller_obeys (asks b l place m)
    unfolding controller_alone asks
    controller_obeys_lem byte l e h = ap (controller_letter c reply packet) e ∙ controller_asks_lem (line l).asks h
