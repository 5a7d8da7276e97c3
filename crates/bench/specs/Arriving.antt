-- The packet at the place, read for the end that takes it. Nothing of it stands in the promise of an entry. Assumes nothing.
use Rattle.std.specs.Prelude.{ℕ, List, ltb, None, Result, Ok, Err}
use Rattle.ground.specs.Choice.{when◌then◌else◌}
use Rattle.ground.specs.Cell.{spaces}
use Rattle.ground.specs.declared.refusals.Refusal.{Refusal}
use Rattle.wire.specs.declared.Packet.{Packet}
use Rattle.letters.specs.declared.Asks.{Asks}
use Rattle.letters.specs.declared.Asks.TheVariants as asked
use Rattle.letters.specs.declared.ConsoleAsk.TheVariants as console
use Rattle.letters.specs.declared.ControllerAsk.TheVariants as controller
use Rattle.ends.specs.Packets.{zeros, head_for_controller, read_for_console}
use Rattle.channels.specs.Table.{head_at, packet_at}
use Rattle.bench.specs.declared.arriving.Came.{Came}

abbrev pub nothing_came : Came
nothing_came = record { console = None; controller = None; message = spaces }

-- if the place is below the count
unfoldable pub came_back : List ℕ → ℕ → ℕ → Came
came_back back returned place =
    when ltb place returned
    then record { console = read_for_console (head_at back place); controller = None; message = spaces }
    else nothing_came

abbrev pub heard : Result Packet Refusal → Came
heard (Ok p) = record { console = None; controller = head_for_controller p.head; message = p.message }
heard (Err r) = record { console = None; controller = None; message = zeros }

unfoldable pub came_out : List ℕ → ℕ → ℕ → Came
came_out out sent place = when ltb place sent then heard (packet_at out place) else nothing_came

-- only an end that takes a packet is given one
abbrev pub came_for : Asks → List ℕ → ℕ → List ℕ → ℕ → ℕ → Came
came_for (asked.Console console.Put) out sent back returned place = nothing_came
came_for (asked.Console console.SendNeedI) out sent back returned place = nothing_came
came_for (asked.Console console.SendData) out sent back returned place = nothing_came
came_for (asked.Console console.Take) out sent back returned place = came_back back returned place
came_for (asked.Console console.GoDown) out sent back returned place = nothing_came
came_for (asked.Console console.ComeBack) out sent back returned place = nothing_came
came_for (asked.Console console.TellAck) out sent back returned place = nothing_came
came_for (asked.Controller controller.SendOffer) out sent back returned place = nothing_came
came_for (asked.Controller controller.SendOk) out sent back returned place = nothing_came
came_for (asked.Controller controller.Take) out sent back returned place = came_out out sent place
came_for (asked.Controller controller.GoDown) out sent back returned place = nothing_came
came_for (asked.Controller controller.ComeBack) out sent back returned place = nothing_came
came_for asked.NoEnd out sent back returned place = nothing_came
