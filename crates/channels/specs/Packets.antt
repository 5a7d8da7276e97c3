-- The packets of the rules as 32 bytes, and back. Assumes nothing.
use Rattle.std.specs.Prelude.{ℕ, List, None, Option, Some, drop, Result}
use Rattle.ground.specs.declared.refusals.Refusal.{Refusal}
use Rattle.wire.specs.declared.Head.{Head}
use Rattle.wire.specs.Packet.{packet_bytes, head_read}
use Rattle.rules.specs.Ends.{ToController, need_i, ToConsole, ok}
use Rattle.rules.specs.Relabel.{in_packet}
use Rattle.ends.specs.AsRules.{to_controller, to_console}
use Rattle.ends.specs.Packets.{to_controller_packet, to_console_packet, read_for_controller, read_for_console}
use Rattle.ends.specs.declared.ToController.{ToController as Up}
use Rattle.ends.specs.declared.ToConsole.{ToConsole as Down}

-- ## To the controller

unfoldable pub to_controller_bytes : ToController (List ℕ) → List ℕ
to_controller_bytes p = packet_bytes (to_controller_packet p)

-- what is no packet to the controller gives needI 0, which is none either
abbrev pub controller_came : Option Up → List ℕ → ToController (List ℕ)
controller_came None m = need_i 0
controller_came (Some p) m = in_packet (λ _. m) (to_controller p)

abbrev pub as_to_controller : Result Head Refusal → List ℕ → ToController (List ℕ)
as_to_controller h m = controller_came (read_for_controller h) m

unfoldable pub to_controller_read : List ℕ → ToController (List ℕ)
to_controller_read s = as_to_controller (head_read s) (drop 16 s)

-- ## To the console

unfoldable pub to_console_bytes : ToConsole → List ℕ
to_console_bytes p = packet_bytes (to_console_packet p)

-- what is no packet to the console gives ok 0, which is none either
abbrev pub console_came : Option Down → ToConsole
console_came None = ok 0
console_came (Some p) = to_console p

abbrev pub as_to_console : Result Head Refusal → ToConsole
as_to_console h = console_came (read_for_console h)

unfoldable pub to_console_read : List ℕ → ToConsole
to_console_read s = as_to_console (head_read s)
