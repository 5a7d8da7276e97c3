-- What the private functions promise of what goes into and out of a table. Nothing of it stands in the promise of an entry. Assumes nothing.
use Rattle.std.specs.Prelude.{ℕ, ◌+◌, ◌-◌, Bool, true, ◌&&◌, List, leb, ltb, Option, None, Some}
use Rattle.ground.specs.Choice.{when◌then◌else◌}
use Rattle.wire.specs.declared.Packet.{Packet}
use Rattle.tables.specs.Table.{taken_out}
use Rattle.channels.specs.Table.{added}

-- is there room for the copies? Of nothing there always is
unfoldable pub room_for : Option Packet → ℕ → ℕ → Bool
room_for None count copies = true
room_for (Some p) count copies = leb (count + copies) 64

unfoldable pub count_sent : Option Packet → ℕ → ℕ → ℕ
count_sent None count copies = count
count_sent (Some p) count copies = count + copies

unfoldable pub table_sent : Option Packet → List ℕ → ℕ → ℕ → List ℕ
table_sent None t count copies = t
table_sent (Some p) t count copies = added t count copies p

unfoldable pub count_taken : Bool → ℕ → ℕ → ℕ
count_taken uses count place = when uses && ltb place count then count - 1 else count

unfoldable pub table_taken : Bool → List ℕ → ℕ → ℕ → List ℕ
table_taken uses t count place = when uses && ltb place count then taken_out t count place else t
