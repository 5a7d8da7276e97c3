-- Which head is for which end is what the wire's table says.
use mathlib.Core.Path.{◌≡◌, refl}
use Rattle.std.specs.Prelude.{None, Some}
use Rattle.wire.specs.Packet.{direction_of}
use Rattle.wire.specs.declared.Direction.TheVariants.{ToController, ToConsole}
use Rattle.wire.specs.declared.Head.{Head}
use Rattle.wire.specs.declared.Head.TheVariants.{NeedI, Offer, Data, Ok, Lost, Done}
use Rattle.ends.specs.Packets.{head_for_controller, head_for_console}

-- none for the controller exactly where the table says "to console"
pub for_controller_direction : (h : Head) → direction_of h ≡ elim (head_for_controller h) [ None ↦ ToConsole | Some p ↦ ToController ]
for_controller_direction (NeedI j) = refl
for_controller_direction (Offer j i) = refl
for_controller_direction (Data i) = refl
for_controller_direction (Ok i) = refl
for_controller_direction (Lost i) = refl
for_controller_direction (Done i) = refl

-- none for the console exactly where the table says "to controller"
pub for_console_direction : (h : Head) → direction_of h ≡ elim (head_for_console h) [ None ↦ ToController | Some p ↦ ToConsole ]
for_console_direction (NeedI j) = refl
for_console_direction (Offer j i) = refl
for_console_direction (Data i) = refl
for_console_direction (Ok i) = refl
for_console_direction (Lost i) = refl
for_console_direction (Done i) = refl
