-- The packets of the rules as the wire has them, and which of the wire's packets are for which end. Assumes nothing.
use Rattle.std.specs.Prelude.{ℕ, List, replicate, Option, None, Some, Result}
use Rattle.std.specs.Prelude as result
use Rattle.std.proofs.Math.Option as maybe
use Rattle.ground.specs.declared.refusals.Refusal.{Refusal}
use Rattle.wire.specs.declared.Direction.{Direction}
use Rattle.wire.specs.declared.Direction.TheVariants as direction
use Rattle.wire.specs.declared.Head.{Head}
use Rattle.wire.specs.declared.Head.TheVariants.{NeedI, Offer, Data, Ok, Lost, Done}
use Rattle.wire.specs.declared.Packet.{Packet}
use Rattle.rules.specs.Ends.{ToController, need_i, order, done, ToConsole, offer, ok, lost}
use Rattle.rules.specs.Relabel.{in_packet}
use Rattle.ends.specs.AsRules.{for_controller, for_console}
use Rattle.ends.specs.declared.ToController.{ToController as Up}
use Rattle.ends.specs.declared.ToController.TheVariants as up
use Rattle.ends.specs.declared.ToConsole.{ToConsole as Down}
use Rattle.ends.specs.declared.ToConsole.TheVariants as down

-- the message of a packet that has none
abbrev pub zeros : List ℕ
zeros = replicate 16 0

abbrev pub to_controller_packet : ToController (List ℕ) → Packet
to_controller_packet (need_i j) = record { head = NeedI (record { 0 = j }); message = zeros }
to_controller_packet (order i m) = record { head = Data (record { 0 = i }); message = m }
to_controller_packet (done i) = record { head = Done (record { 0 = i }); message = zeros }

abbrev pub to_console_packet : ToConsole → Packet
to_console_packet (offer j i) = record { head = Offer (record { 0 = j }) (record { 0 = i }); message = zeros }
to_console_packet (ok i) = record { head = Ok (record { 0 = i }); message = zeros }
to_console_packet (lost i) = record { head = Lost (record { 0 = i }); message = zeros }

-- ## What is sent, if anything is

-- the message is data's
unfoldable pub to_controller_sent : Option Up → List ℕ → maybe.Option Packet
to_controller_sent sent m = maybe.map to_controller_packet (maybe.map (in_packet (λ _. m)) (for_controller sent))

unfoldable pub to_console_sent : Option Down → maybe.Option Packet
to_console_sent sent = maybe.map to_console_packet (for_console sent)

-- ## What a head is for an end: nothing, if it goes the other way

abbrev pub head_for_controller : Head → Option Up
head_for_controller (NeedI j) = Some (up.NeedI j)
head_for_controller (Offer j i) = None
head_for_controller (Data i) = Some (up.Data i)
head_for_controller (Ok i) = None
head_for_controller (Lost i) = None
head_for_controller (Done i) = Some (up.Done i)

abbrev pub head_for_console : Head → Option Down
head_for_console (NeedI j) = None
head_for_console (Offer j i) = Some (down.Offer j i)
head_for_console (Data i) = None
head_for_console (Ok i) = Some (down.Ok i)
head_for_console (Lost i) = Some (down.Lost i)
head_for_console (Done i) = None

-- a kind that goes the other way is 15
abbrev pub controller_way_refusal : Direction → ℕ
controller_way_refusal direction.ToController = 0
controller_way_refusal direction.ToConsole = 15

abbrev pub console_way_refusal : Direction → ℕ
console_way_refusal direction.ToController = 15
console_way_refusal direction.ToConsole = 0

-- document 01's number of each case, of a packet in
abbrev pub for_controller_refusal : Option Up → ℕ
for_controller_refusal None = 15
for_controller_refusal (Some p) = 0

abbrev pub for_console_refusal : Option Down → ℕ
for_console_refusal None = 15
for_console_refusal (Some p) = 0

-- nor is a head that was not read
abbrev pub read_for_controller : Result Head Refusal → Option Up
read_for_controller (result.Err r) = None
read_for_controller (result.Ok h) = head_for_controller h

abbrev pub read_for_console : Result Head Refusal → Option Down
read_for_console (result.Err r) = None
read_for_console (result.Ok h) = head_for_console h
