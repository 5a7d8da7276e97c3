-- Computed examples of what a step tells, and of the answer in byte 20 of a console's state.
use Prim.Native.Nat.{ℕ}
use mathlib.Core.Path.{◌≡◌, refl}
use mathlib.Core.Bool.{Bool, true, false}
use mathlib.Core.List.{List, [], ◌∷◌, map}
use lib.ListN.{get_or, set, replicate}
use Rattle.ground.specs.Cell.{spaces}
use Rattle.ground.specs.declared.refusals.Refusal.TheVariants.{WrongField}
use Rattle.wire.specs.declared.Head.TheVariants as head
use Rattle.numbers.specs.Numbers.{numbers_fresh}
use Rattle.numbers.specs.declared.Numbers.{Numbers}
use Rattle.ends_console.specs.Fields.{console_ok, console_with, fresh_console, downed_console}
use Rattle.ends_controller.specs.Fields.{controller_with, fresh_controller, downed_controller}
use Rattle.ends.specs.Packets.{zeros}
use Rattle.ends.specs.declared.Report.{Report}
use Rattle.ends.specs.declared.Report.TheVariants.{Nothing, Delivered, Ok, Lost, Refused}
use Rattle.ends_console.specs.declared.Mode.{Mode}
use Rattle.ends_console.specs.declared.Mode.TheVariants.{NeedI, Send}
use Rattle.ends_controller.specs.declared.Mode.TheVariants as controller-mode
use Rattle.ends_controller.specs.declared.Mode.TheVariants.{Accept, Ack}
use Rattle.ends_console.specs.declared.fields.Console.{Console}
use Rattle.ends_controller.specs.declared.fields.Controller.{Controller}
use Rattle.alone.proofs.Vectors.{opened, packet, room}
use Rattle.boundary.specs.State.{marks, told, written, state_record_refusal}
use Rattle.boundary.specs.Console as console
use Rattle.boundary.specs.Controller as controller

-- ## The byte

abbrev telling : Bool → Bool → List ℕ
telling sent keep = map (λ (r : Report). told r sent keep) (Nothing ∷ Delivered ∷ Ok ∷ Lost ∷ Refused WrongField ∷ [])

pub told_plain : telling false false ≡ 0 ∷ 64 ∷ 65 ∷ 66 ∷ 15 ∷ []
unfolding marks
told_plain = refl

pub told_keep : telling false true ≡ 32 ∷ 96 ∷ 97 ∷ 98 ∷ 15 ∷ []
unfolding marks
told_keep = refl

pub told_sent : telling true false ≡ 128 ∷ 192 ∷ 193 ∷ 194 ∷ 15 ∷ []
unfolding marks
told_sent = refl

pub told_both : telling true true ≡ 160 ∷ 224 ∷ 225 ∷ 226 ∷ 15 ∷ []
unfolding marks
told_both = refl

-- ## A console: a state, a letter and a packet in

abbrev console_tells : Console → ℕ → List ℕ → ℕ
console_tells c l p = (console.console_state_step (console.console_bytes c) l spaces p room).told

-- last used J 1, the first of a block
abbrev at_1 : Numbers
at_1 = record { used = 1; reserved = 64; block = 64 }

abbrev needing : Console
needing = console_with at_1 (NeedI (record { 0 = 1 })) true false spaces

-- with any ack: true is OK
abbrev sending_with : Bool → Console
sending_with ack = console_with at_1 (Send (record { 0 = 3 })) true ack spaces

abbrev sending : Console
sending = sending_with false

abbrev idle_with : Bool → Console
idle_with ack = console_with at_1 Mode.Idle true ack spaces

-- P takes the first number of a block, one within it, and none is left at the last; Q and D send; C and V take none
pub console_letters_tell : console_tells (fresh_console (record { 0 = 0 })) 0x50 [] ∷ console_tells (idle_with false) 0x50 [] ∷ console_tells (fresh_console (record { 0 = 4294967295 })) 0x50 [] ∷ console_tells needing 0x51 [] ∷ console_tells sending 0x44 [] ∷ console_tells sending 0x43 [] ∷ console_tells (downed_console (numbers_fresh 1)) 0x56 [] ∷ [] ≡ 32 ∷ 0 ∷ 8 ∷ 128 ∷ 128 ∷ 0 ∷ 0 ∷ []
unfolding opened marks console.console_bytes console.console_at console.is_state console.fields_at
console_letters_tell = refl

-- S: an offer is taken, OK is replied to with done, lost with nothing; neither is told
pub console_packets_tell : console_tells needing 0x53 (packet (head.Offer (record { 0 = 1 }) (record { 0 = 3 })) zeros) ∷ console_tells sending 0x53 (packet (head.Ok (record { 0 = 3 })) zeros) ∷ console_tells sending 0x53 (packet (head.Lost (record { 0 = 3 })) zeros) ∷ [] ≡ 0 ∷ 128 ∷ 0 ∷ []
unfolding opened marks console.console_bytes console.console_at console.is_state console.fields_at
console_packets_tell = refl

-- ## The answer, in byte 20

abbrev console_does : Console → ℕ → List ℕ → console.ConsoleStep
console_does c l p = console.console_state_step (console.console_bytes c) l spaces p room

-- S stores OK and lost, whatever was there; what is for another order leaves it
pub answers_stored : map (λ (s : Console × List ℕ). get_or (console_does s.0 0x53 s.1).state 20 0)
    ((sending, packet (head.Ok (record { 0 = 3 })) zeros)
    ∷ (sending_with true, packet (head.Lost (record { 0 = 3 })) zeros)
    ∷ (idle_with true, packet (head.Lost (record { 0 = 3 })) zeros)
    ∷ (idle_with false, packet (head.Ok (record { 0 = 3 })) zeros)
    ∷ [])
    ≡ 1 ∷ 0 ∷ 1 ∷ 0 ∷ []
unfolding opened marks written console.console_bytes console.console_at console.is_state console.fields_at
answers_stored = refl

-- what a step tells, with all else as it was
abbrev only_tells : ℕ → Console → console.ConsoleStep
only_tells n c = record { told = n; state = console.console_bytes c; reply = room }

-- A tells OK, and lost; byte 20 is then 0, and every other byte is as it was
pub answer_read : map (λ (ack : Bool). console_does (idle_with ack) 0x41 []) (true ∷ false ∷ []) ≡ only_tells 65 (idle_with false) ∷ only_tells 66 (idle_with false) ∷ []
unfolding opened marks written console.console_bytes console.console_at console.is_state console.fields_at
answer_read = refl

abbrev down_with : Mode → Console
down_with mode = console_with at_1 mode false true spaces

-- A of a console that is down is 4, of one that holds an order 6, of one that is and does 4: the answer is not read
pub answer_refused : map (λ (c : Console). console_does c 0x41 []) (down_with Mode.Idle ∷ sending_with true ∷ down_with (Send (record { 0 = 3 })) ∷ [])
    ≡ only_tells 4 (down_with Mode.Idle) ∷ only_tells 6 (sending_with true) ∷ only_tells 4 (down_with (Send (record { 0 = 3 }))) ∷ []
unfolding opened marks written console.console_bytes console.console_at console.is_state console.fields_at
answer_refused = refl

-- byte 20 is 2: no state, whatever is asked, P Q D S C V A and its number record
abbrev no_flag : List ℕ
no_flag = set (console.console_bytes (idle_with true)) 20 2

pub no_flag_refused : map (λ (l : ℕ). console.console_state_step no_flag l spaces [] room) (0x50 ∷ 0x51 ∷ 0x44 ∷ 0x53 ∷ 0x43 ∷ 0x56 ∷ 0x41 ∷ []) ≡ replicate 7 (record { told = 2; state = no_flag; reply = room })
unfolding opened console.console_bytes console.console_at console.is_state
no_flag_refused = refl

pub no_flag_no_record : (out : List ℕ) → state_record_refusal (console_ok (console.console_at no_flag)) (console.console_record (console.console_at no_flag)) out ≡ 2
unfolding opened state_record_refusal console.console_bytes console.console_at console.is_state
no_flag_no_record out = refl

-- ## A controller, likewise

abbrev controller_tells : Controller → ℕ → List ℕ → ℕ
controller_tells c l p = (controller.controller_state_step (controller.controller_bytes c) l p room spaces).told

-- last used I 3, the first of a block
abbrev at_3 : Numbers
at_3 = record { used = 3; reserved = 66; block = 64 }

abbrev accepting : Controller
accepting = controller_with at_3 (Accept (record { 0 = 1 }) (record { 0 = 3 })) true

abbrev acking : Controller
acking = controller_with at_3 (Ack (record { 0 = 3 })) true

-- O and K send; X and Y take no number
pub controller_letters_tell : controller_tells accepting 0x4F [] ∷ controller_tells acking 0x4B [] ∷ controller_tells accepting 0x58 [] ∷ controller_tells (downed_controller (numbers_fresh 3)) 0x59 [] ∷ [] ≡ 128 ∷ 128 ∷ 0 ∷ 0 ∷ []
unfolding opened marks controller.controller_bytes controller.controller_at controller.is_state controller.fields_at
controller_letters_tell = refl

-- R: needI takes the first number of a block, or one within it; data is delivered and answered with OK, a repeat with nothing, an old one with lost; done is answered with nothing
pub controller_packets_tell : controller_tells (fresh_controller (record { 0 = 2 })) 0x52 (packet (head.NeedI (record { 0 = 1 })) zeros) ∷ controller_tells (controller_with at_3 controller-mode.Idle true) 0x52 (packet (head.NeedI (record { 0 = 1 })) zeros) ∷ controller_tells accepting 0x52 (packet (head.Data (record { 0 = 3 })) spaces) ∷ controller_tells acking 0x52 (packet (head.Data (record { 0 = 3 })) spaces) ∷ controller_tells acking 0x52 (packet (head.Data (record { 0 = 2 })) spaces) ∷ controller_tells acking 0x52 (packet (head.Done (record { 0 = 3 })) zeros) ∷ [] ≡ 32 ∷ 0 ∷ 192 ∷ 0 ∷ 128 ∷ 0 ∷ []
unfolding opened marks controller.controller_bytes controller.controller_at controller.is_state controller.fields_at
controller_packets_tell = refl
