-- Worked examples of an end run alone, computed: each letter, packets that come too late, and the refusals in their order.
use Prim.Native.Nat.{ℕ}
use mathlib.Core.Path.{◌≡◌, refl}
use mathlib.Core.Bool.{Bool, true, false}
use mathlib.Core.List.{[], List, ◌∷◌, map}
use lib.ListN.{replicate}
use Rattle.ground.specs.Cell.{cells, is_message, spaces}
use Rattle.ground.specs.Every.{filled}
use Rattle.wire.specs.Number.{bytes_of, value}
use Rattle.ground.specs.Refusals.{refusal_of}
use Rattle.wire.specs.Packet.{is_blank, packet_bytes, head_of, head_at, read_refusal, head_read}
use Rattle.wire.specs.declared.Head.{Head}
use Rattle.wire.specs.declared.Head.TheVariants.{NeedI, Offer, Data, Ok, Lost, Done}
use Rattle.rules.specs.Supply.{numbers_rules}
use Rattle.rules.specs.Letters.{line, letters, among, letter}
use Rattle.rules.specs.Ends as rules
use Rattle.rules.specs.Reading.{said, ack_after, console_read_step}
use Rattle.numbers.specs.Numbers.{numbers_fresh}
use Rattle.numbers.specs.declared.Numbers.{Numbers}
use Rattle.ends_console.specs.Fields.{console_ok, console_mode, console_with, fresh_console, downed_console}
use Rattle.ends_controller.specs.Fields.{controller_ok, controller_mode, controller_with, fresh_controller, downed_controller}
use Rattle.ends_console.specs.declared.Mode.TheVariants as mode
use Rattle.ends_controller.specs.declared.Mode.{Mode}
use Rattle.ends_controller.specs.declared.Mode.TheVariants.{Accept, Ack}
use Rattle.ends.specs.declared.Report.{Report}
use Rattle.ends.specs.declared.Report.TheVariants as report
use Rattle.ends_console.specs.declared.fields.Console.{Console}
use Rattle.ends_controller.specs.declared.fields.Controller.{Controller}
use Rattle.ends.specs.Packets.{zeros}
use Rattle.alone.specs.AnyEnd.{lent}
use Rattle.alone.specs.ConsoleAlone.{ConsoleAlone, console_alone_acts, console_alone}
use Rattle.alone.specs.ControllerAlone.{ControllerAlone, controller_alone_acts, controller_alone}

-- all that an example computes with
unfoldable pub opened : Unit {0}
unfolding console_alone console_ok console_mode console_alone_acts lent console_read_step said ack_after controller_alone controller_ok controller_mode controller_alone_acts rules.ends numbers_rules
    packet_bytes head_read read_refusal head_at head_of value bytes_of is_blank is_message cells filled line letters among letter
opened = tt

abbrev pub packet : Head → List ℕ → List ℕ
packet h m = packet_bytes (record { head = h; message = m })

abbrev refused_with : ℕ → Report
refused_with n = report.Refused (refusal_of n)

-- "START FILLER 03 "
abbrev start : List ℕ
start = 0x53 ∷ 0x54 ∷ 0x41 ∷ 0x52 ∷ 0x54 ∷ 0x20 ∷ 0x46 ∷ 0x49 ∷ 0x4C ∷ 0x4C ∷ 0x45 ∷ 0x52 ∷ 0x20 ∷ 0x30 ∷ 0x33 ∷ 0x20 ∷ []

abbrev pub room : List ℕ
room = replicate 32 7

abbrev pub short : List ℕ
short = replicate 31 7

-- ## The controller

-- last used I 3, the first of a block
abbrev at_3 : Numbers
at_3 = record { used = 3; reserved = 66; block = 64 }

abbrev idle_at_3 : Controller
idle_at_3 = controller_with at_3 Mode.Idle true

-- it is offered
abbrev pub accepting : Controller
accepting = controller_with at_3 (Accept (record { 0 = 1 }) (record { 0 = 3 })) true

-- the order with I 3 is delivered
abbrev acking : Controller
acking = controller_with at_3 (Ack (record { 0 = 3 })) true

-- the same, down: nothing is cleared
abbrev acking_down : Controller
acking_down = controller_with at_3 (Ack (record { 0 = 3 })) false

-- nothing to report
abbrev stays : Bool → List ℕ → Controller → ControllerAlone
stays sent reply c = record { outcome = record { report = report.Nothing; message = spaces; sent = sent; controller = c }; reply = reply }

-- a controller, a letter, a packet in, a reply buffer
abbrev alone : Controller × ℕ × List ℕ × List ℕ → ControllerAlone
alone a = controller_alone a.0 a.1 a.2 a.3

-- R of needI: j and the next I; O: offer(j, i); R of data: delivered, with OK for it; K: OK(last); R of done: last cleared; X; Y: last used is what was reserved
each_letter : map alone
    ((fresh_controller (record { 0 = 2 }), 0x52, packet (NeedI (record { 0 = 1 })) zeros, room)
    ∷ (accepting, 0x4F, [], room)
    ∷ (accepting, 0x52, packet (Data (record { 0 = 3 })) start, room)
    ∷ (acking, 0x4B, [], room)
    ∷ (acking, 0x52, packet (Done (record { 0 = 3 })) zeros, room)
    ∷ (acking, 0x58, [], [])
    ∷ (acking_down, 0x59, [], [])
    ∷ [])
    ≡ (stays false room accepting
    ∷ stays true (packet (Offer (record { 0 = 1 }) (record { 0 = 3 })) zeros) accepting
    ∷ record { outcome = record { report = report.Delivered; message = start; sent = true; controller = acking }; reply = packet (Ok (record { 0 = 3 })) zeros }
    ∷ stays true (packet (Ok (record { 0 = 3 })) zeros) acking
    ∷ stays false room idle_at_3
    ∷ stays false [] acking_down
    ∷ stays false [] (fresh_controller (record { 0 = 66 }))
    ∷ [])
unfolding opened
each_letter = refl

-- P Q D S C V L M A, with a packet and a reply buffer that are good
others : map (λ l. (controller_alone accepting l (packet (Offer (record { 0 = 1 }) (record { 0 = 3 })) zeros) room).outcome.report) (0x50 ∷ 0x51 ∷ 0x44 ∷ 0x53 ∷ 0x43 ∷ 0x56 ∷ 0x4C ∷ 0x4D ∷ 0x41 ∷ [])
    ≡ replicate 9 (refused_with 1)
unfolding opened
others = refl

abbrev any_mode : List Controller
any_mode = fresh_controller (record { 0 = 3 }) ∷ accepting ∷ acking ∷ []

abbrev takes : Head → List ℕ → Controller → ControllerAlone
takes h m c = controller_alone c 0x52 (packet h m) room

abbrev spent : Controller
spent = fresh_controller (record { 0 = 4294967295 })

-- needI in accept, in ack, and with the numbers spent: dropped
need_i_dropped : map (takes (NeedI (record { 0 = 2 })) zeros) (accepting ∷ acking ∷ spent ∷ []) ≡ map (stays false room) (accepting ∷ acking ∷ spent ∷ [])
unfolding opened
need_i_dropped = refl

-- data that is neither i nor last: lost for it; data that was delivered: dropped
stray_data : map (takes (Data (record { 0 = 2 })) start) any_mode ≡ map (stays true (packet (Lost (record { 0 = 2 })) zeros)) any_mode
unfolding opened
stray_data = refl

repeat_dropped : takes (Data (record { 0 = 3 })) start acking ≡ stays false room acking
unfolding opened
repeat_dropped = refl

-- done for what is offered: j and i cleared
done_of_an_offer : takes (Done (record { 0 = 3 })) zeros accepting ≡ stays false room idle_at_3
unfolding opened
done_of_an_offer = refl

-- a done that is neither i nor last is dropped
stray_done : map (takes (Done (record { 0 = 2 })) zeros) any_mode ≡ map (stays false room) any_mode
unfolding opened
stray_done = refl

abbrev pub ill_formed : Controller
ill_formed = record { numbers = at_3; j = record { 0 = 1 }; i = record { 0 = 0 }; last = record { 0 = 0 }; up = true }

abbrev tells : Controller × ℕ × List ℕ × List ℕ → Report
tells a = (alone a).outcome.report

-- P, and a byte that is no letter; 2 before 12; 12 of the buffer, with nothing to send; 12, 13 and 15 of the packet; 4, 5, 6, 7
refused : map tells
    ((ill_formed, 0x50, [], short)
    ∷ (accepting, 0x7A, [], short)
    ∷ (ill_formed, 0x4F, [], short)
    ∷ (accepting, 0x52, packet (Done (record { 0 = 3 })) zeros, short)
    ∷ (accepting, 0x52, [], room)
    ∷ (accepting, 0x52, room, room)
    ∷ (accepting, 0x52, packet (Offer (record { 0 = 1 }) (record { 0 = 3 })) zeros, room)
    ∷ (downed_controller (numbers_fresh 3), 0x52, packet (NeedI (record { 0 = 1 })) zeros, room)
    ∷ (accepting, 0x59, [], [])
    ∷ (accepting, 0x4B, [], room)
    ∷ (accepting, 0x52, packet (Data (record { 0 = 5 })) start, room)
    ∷ [])
    ≡ map refused_with (1 ∷ 1 ∷ 2 ∷ 12 ∷ 12 ∷ 13 ∷ 15 ∷ 4 ∷ 5 ∷ 6 ∷ 7 ∷ [])
unfolding opened
refused = refl

-- ## The console

-- last used J 1, the first of a block
abbrev at_1 : Numbers
at_1 = record { used = 1; reserved = 64; block = 64 }

abbrev idle_at_1 : Console
idle_at_1 = console_with at_1 mode.Idle true false spaces

-- it is asked for
abbrev needing : Console
needing = console_with at_1 (mode.NeedI (record { 0 = 1 })) true false start

-- the order with I 3 is being sent
abbrev pub sending : Console
sending = console_with at_1 (mode.Send (record { 0 = 3 })) true false start

-- the same, down: nothing is cleared
abbrev sending_down : Console
sending_down = console_with at_1 (mode.Send (record { 0 = 3 })) false false start

-- nothing to report
abbrev console_stays : Bool → List ℕ → Console → ConsoleAlone
console_stays sent reply c = record { outcome = record { report = report.Nothing; sent = sent; console = c }; reply = reply }

-- a console, a letter, a message, a packet in, a reply buffer
abbrev console_alone_on : Console × ℕ × List ℕ × List ℕ × List ℕ → ConsoleAlone
console_alone_on a = console_alone a.0 a.1 a.2 a.3 a.4

-- as OK arrived for its order
abbrev idle_with_ok : Console
idle_with_ok = console_with at_1 mode.Idle true true spaces

-- P: held, with the next J; Q: needI(j); S of an offer: last; D: data(last, message); S of OK: stored, not told, with done for it; A: told, and then lost;
-- C; V: last used is what was reserved, and the ack is lost
console_each_letter : map console_alone_on
    ((fresh_console (record { 0 = 0 }), 0x50, start, [], [])
    ∷ (needing, 0x51, spaces, [], room)
    ∷ (needing, 0x53, spaces, packet (Offer (record { 0 = 1 }) (record { 0 = 3 })) zeros, room)
    ∷ (sending, 0x44, spaces, [], room)
    ∷ (sending, 0x53, spaces, packet (Ok (record { 0 = 3 })) zeros, room)
    ∷ (idle_with_ok, 0x41, spaces, [], [])
    ∷ (idle_at_1, 0x41, spaces, [], [])
    ∷ (sending, 0x43, spaces, [], [])
    ∷ (sending_down, 0x56, spaces, [], [])
    ∷ (console_with at_1 mode.Idle false true spaces, 0x56, spaces, [], [])
    ∷ [])
    ≡ (console_stays false [] needing
    ∷ console_stays true (packet (NeedI (record { 0 = 1 })) zeros) needing
    ∷ console_stays false room sending
    ∷ console_stays true (packet (Data (record { 0 = 3 })) start) sending
    ∷ console_stays true (packet (Done (record { 0 = 3 })) zeros) idle_with_ok
    ∷ record { outcome = record { report = report.Ok; sent = false; console = idle_at_1 }; reply = [] }
    ∷ record { outcome = record { report = report.Lost; sent = false; console = idle_at_1 }; reply = [] }
    ∷ console_stays false [] sending_down
    ∷ console_stays false [] (fresh_console (record { 0 = 64 }))
    ∷ console_stays false [] (fresh_console (record { 0 = 64 }))
    ∷ [])
unfolding opened
console_each_letter = refl

-- P, C and what arrives for another order leave the ack
ack_left : map (λ a. (console_alone_on a).outcome.console.ack)
    ((idle_with_ok, 0x50, start, [], [])
    ∷ (idle_with_ok, 0x43, spaces, [], [])
    ∷ (idle_with_ok, 0x53, spaces, packet (Lost (record { 0 = 2 })) zeros, room)
    ∷ (sending, 0x53, spaces, packet (Ok (record { 0 = 2 })) zeros, room)
    ∷ [])
    ≡ true ∷ true ∷ true ∷ false ∷ []
unfolding opened
ack_left = refl

-- O K R X Y L M, with a message, a packet and a reply buffer that are good
console_others : map (λ l. (console_alone sending l start (packet (Data (record { 0 = 3 })) start) room).outcome.report) (0x4F ∷ 0x4B ∷ 0x52 ∷ 0x58 ∷ 0x59 ∷ 0x4C ∷ 0x4D ∷ [])
    ≡ replicate 7 (refused_with 1)
unfolding opened
console_others = refl

abbrev any_console : List Console
any_console = fresh_console (record { 0 = 1 }) ∷ needing ∷ sending ∷ []

abbrev hears : Head → Console → ConsoleAlone
hears h c = console_alone c 0x53 spaces (packet h zeros) room

-- an offer that is neither awaited nor of the order being sent: done for it; one that is of that order: dropped
old_offer : map (hears (Offer (record { 0 = 7 }) (record { 0 = 2 }))) any_console ≡ map (console_stays true (packet (Done (record { 0 = 2 })) zeros)) any_console
unfolding opened
old_offer = refl

offer_being_sent : hears (Offer (record { 0 = 1 }) (record { 0 = 3 })) sending ≡ console_stays false room sending
unfolding opened
offer_being_sent = refl

-- lost for the order being sent: stored, whatever the ack was, message and last cleared, no reply
lost_stored : map (hears (Lost (record { 0 = 3 }))) (sending ∷ console_with at_1 (mode.Send (record { 0 = 3 })) true true start ∷ [])
    ≡ console_stays false room idle_at_1 ∷ console_stays false room idle_at_1 ∷ []
unfolding opened
lost_stored = refl

-- an OK that is not last: done for it
old_ok : map (hears (Ok (record { 0 = 2 }))) any_console ≡ map (console_stays true (packet (Done (record { 0 = 2 })) zeros)) any_console
unfolding opened
old_ok = refl

-- a lost that is not last is dropped
old_lost : map (hears (Lost (record { 0 = 2 }))) any_console ≡ map (console_stays false room) any_console
unfolding opened
old_lost = refl

abbrev console_tells : Console × ℕ × List ℕ × List ℕ × List ℕ → Report
console_tells a = (console_alone_on a).outcome.report

-- R; 12 of the buffer before 6, and with nothing to send; 15; 11 before 4; 4, 5, 6, 8; A: 4 and 6, 4 before 6, of any buffer
console_refused_lem : map console_tells
    ((sending, 0x52, spaces, [], room)
    ∷ (fresh_console (record { 0 = 0 }), 0x51, spaces, [], short)
    ∷ (sending, 0x53, spaces, packet (Offer (record { 0 = 1 }) (record { 0 = 3 })) zeros, short)
    ∷ (sending, 0x53, spaces, packet (Data (record { 0 = 3 })) start, room)
    ∷ (downed_console (numbers_fresh 0), 0x50, replicate 16 0x7F, [], [])
    ∷ (downed_console (numbers_fresh 0), 0x50, spaces, [], [])
    ∷ (fresh_console (record { 0 = 0 }), 0x56, [], [], [])
    ∷ (fresh_console (record { 0 = 0 }), 0x51, [], [], room)
    ∷ (sending, 0x50, spaces, [], [])
    ∷ (fresh_console (record { 0 = 4294967295 }), 0x50, spaces, [], [])
    ∷ (downed_console (numbers_fresh 0), 0x41, spaces, [], short)
    ∷ (sending, 0x41, spaces, [], short)
    ∷ (sending_down, 0x41, spaces, [], short)
    ∷ [])
    ≡ map refused_with (1 ∷ 12 ∷ 12 ∷ 15 ∷ 11 ∷ 4 ∷ 5 ∷ 6 ∷ 6 ∷ 8 ∷ 4 ∷ 6 ∷ 4 ∷ [])
unfolding opened
console_refused_lem = refl

-- ## Numbers in blocks: last used, reserved, block

abbrev in_block : ℕ → ℕ → ℕ → Numbers
in_block used reserved block = record { used = used; reserved = reserved; block = block }

abbrev console_at : Numbers → Bool → Console
console_at numbers up = console_with numbers mode.Idle up false spaces

abbrev after_p : List ℕ → Numbers → Numbers
after_p m n = (console_alone (console_at n true) 0x50 m [] []).outcome.console.numbers

-- the first of a block, one within it, its last, the first of the next; a block that stops at the largest number
puts_in_blocks : map (after_p spaces) (in_block 0 0 64 ∷ in_block 1 64 64 ∷ in_block 63 64 64 ∷ in_block 64 64 64 ∷ in_block 4294967292 4294967292 1024 ∷ [])
    ≡ in_block 1 64 64 ∷ in_block 2 64 64 ∷ in_block 64 64 64 ∷ in_block 65 128 64 ∷ in_block 4294967293 4294967295 1024 ∷ []
unfolding opened
puts_in_blocks = refl

-- a put that is refused leaves what is reserved
refused_in_a_block : after_p (replicate 16 0x7F) (in_block 64 64 64) ≡ in_block 64 64 64
unfolding opened
refused_in_a_block = refl

-- V sets last used to reserved; where that is the largest number, the numbers are spent
after_v : map (λ n. (console_alone (console_at n false) 0x56 spaces [] []).outcome.console) (in_block 3 64 64 ∷ in_block 4294967286 4294967295 64 ∷ [])
    ≡ console_at (in_block 64 64 64) true ∷ fresh_console (record { 0 = 4294967295 }) ∷ []
unfolding opened
after_v = refl

-- a block of 0 or 1,025, and last used above reserved, are 2; blocks of 1 and 1,024 are good; last used below the largest is not spent
ill_numbers : map (λ n. (console_alone (console_at n true) 0x50 spaces [] []).outcome.report)
    (in_block 3 64 0 ∷ in_block 3 64 1025 ∷ in_block 65 64 64 ∷ in_block 3 64 1 ∷ in_block 3 64 1024 ∷ in_block 4294967286 4294967295 64 ∷ [])
    ≡ refused_with 2 ∷ refused_with 2 ∷ refused_with 2 ∷ report.Nothing ∷ report.Nothing ∷ report.Nothing ∷ []
unfolding opened
ill_numbers = refl
