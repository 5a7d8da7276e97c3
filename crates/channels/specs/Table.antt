-- A channel: a table of packets of one direction. When it is well formed, and what adding makes of it. Assumes nothing.
use Rattle.std.specs.Prelude.{ℕ, zero, suc, ◌+◌, ◌*◌, ◌/◌, Bool, true, false, ◌&&◌, List, [], ◌++◌, length, take, drop, replicate, leb, Result, Ok, Err}
use Rattle.ground.specs.Choice.{when◌then◌else◌}
use Rattle.ground.specs.Every.{filled}
use Rattle.ground.specs.declared.refusals.Refusal.{Refusal}
use Rattle.wire.specs.declared.Direction.{Direction}
use Rattle.wire.specs.declared.Direction.TheVariants.{ToController, ToConsole}
use Rattle.wire.specs.declared.Packet.{Packet}
use Rattle.wire.specs.declared.Head.{Head}
use Rattle.wire.specs.Packet.{direction_of, fits, packet_bytes, head_read, packet_read}
use Rattle.tables.specs.Table.{is_table, bytes_at}
-- a list of packets as a table, and back
unfoldable pub use Rattle.tables.specs.Table.{laid, table_of as channel, holds as packets}

-- what the reader says of a place
unfoldable pub packet_at : List ℕ → ℕ → Result Packet Refusal
packet_at t place = packet_read (bytes_at t place)

-- of its head
unfoldable pub head_at : List ℕ → ℕ → Result Head Refusal
head_at t place = head_read (bytes_at t place)

-- the bytes that are lent to the reader: of a place that isn't there none
unfoldable pub lent_at : List ℕ → ℕ → List ℕ
lent_at t place = when leb (length t / 32) place then [] else bytes_at t place

-- ## A well-formed table

abbrev pub same_way : Direction → Direction → Bool
same_way ToController ToController = true
same_way ToController ToConsole = false
same_way ToConsole ToController = false
same_way ToConsole ToConsole = true

-- a head was read, of a packet of this direction
abbrev pub goes : Direction → Result Head Refusal → Bool
goes dir (Err r) = false
goes dir (Ok h) = same_way (direction_of h) dir

-- what the reader says of each of the first n places passes a test
unfoldable pub heads_pass : (Result Head Refusal → Bool) → ℕ → List ℕ → Bool
heads_pass test zero t = true
heads_pass test (suc n) t = test (head_read (take 32 t)) && heads_pass test n (drop 32 t)

-- the first n places hold packets of a direction
abbrev pub places_ok : Direction → ℕ → List ℕ → Bool
places_ok dir n t = heads_pass (goes dir) n t

-- packets of the direction below the count, zero bytes above it
unfoldable pub table_ok : Direction → ℕ → List ℕ → Bool
table_ok dir n t = is_table (length t) n && places_ok dir n t && filled 0 (drop (n * 32) t)

-- ## Copies added. Where it can't be done the table stays as it was

-- the table with n copies of a packet side by side from a place on
abbrev pub with_copies : List ℕ → ℕ → ℕ → Packet → List ℕ
with_copies t place n p = take (place * 32) t ++ (laid packet_bytes (replicate n p) ++ drop ((place + n) * 32) t)

-- copies go to the end, which is the place that the count names
unfoldable pub added : List ℕ → ℕ → ℕ → Packet → List ℕ
added t count copies p = when is_table (length t) (count + copies) && fits p then with_copies t count copies p else t
