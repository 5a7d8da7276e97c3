-- Worked examples, computed: packets and records both ways, and refusals.
use Prim.Native.Nat.{ℕ}
use mathlib.Core.Path.{◌≡◌, refl}
use mathlib.Core.List.{List, [], ◌∷◌, ◌++◌, map}
use lib.ListN.{length, take, set, replicate}
use Rattle.ground.specs.Cell.{cells, is_message, spaces}
use Rattle.std.specs.Prelude as result
use Rattle.ground.specs.Refusals.{refusal_of}
use Rattle.ground.specs.Choice.{chosen}
use Rattle.ground.specs.Every.{filled}
use Rattle.ground.specs.First.{first}
use Rattle.wire.specs.Number.{bytes_of, value}
use Rattle.wire.specs.Packet.{is_blank, direction_of, fits, packet_bytes, head_of, head_at, read_refusal, accepted, refused, head_read, packet_read, write_refusal, packet_written}
use Rattle.wire.specs.Record.{record_bytes, record_of, block_at, record_at, record_refusal, record_read, record_write_refusal, record_written, renewed, aged}
use Rattle.wire.specs.declared.Direction.TheVariants.{ToController, ToConsole}
use Rattle.wire.specs.declared.Head.TheVariants.{NeedI, Offer, Data, Ok, Lost, Done}
use Rattle.wire.specs.declared.NumberRecord.{NumberRecord}
use Rattle.wire.specs.declared.NumberRecord.TheVariants.{ConsoleOld, ControllerOld, Console, Controller}
use Rattle.wire.specs.declared.Packet.{Packet}

-- the example that the packet's layout is given with: needI with J = 1
abbrev pub need_i : ℕ → Packet
need_i n = record { head = NeedI (record { 0 = n }); message = replicate 16 0 }

abbrev pub need_i_1 : List ℕ
need_i_1 = 0x48 ∷ 0x53 ∷ 0x4C ∷ 0x00 ∷ 0x01 ∷ 0x01 ∷ 0x00 ∷ 0x00 ∷ 0x00 ∷ 0x00 ∷ 0x00 ∷ 0x01 ∷ replicate 20 0

pub need_i_1_written : packet_bytes (need_i 1) ≡ need_i_1
unfolding packet_bytes bytes_of
need_i_1_written = refl

pub need_i_1_read : packet_read need_i_1 ≡ accepted (need_i 1)
unfolding head_read read_refusal head_at head_of value bytes_of first chosen is_blank filled
need_i_1_read = refl

abbrev zeros : List ℕ
zeros = replicate 16 0

-- "START FILLER 03 "
abbrev start : List ℕ
start = 0x53 ∷ 0x54 ∷ 0x41 ∷ 0x52 ∷ 0x54 ∷ 0x20 ∷ 0x46 ∷ 0x49 ∷ 0x4C ∷ 0x4C ∷ 0x45 ∷ 0x52 ∷ 0x20 ∷ 0x30 ∷ 0x33 ∷ 0x20 ∷ []

-- byte 5 and the two numbers of a packet, and its message
abbrev laid : ℕ → List ℕ → List ℕ → List ℕ
laid kind numbers m = (0x48 ∷ 0x53 ∷ 0x4C ∷ 0 ∷ 1 ∷ kind ∷ 0 ∷ 0 ∷ numbers) ++ m

-- packets of each kind, and their bytes
abbrev packets : List (Packet × List ℕ)
packets =
    (record { head = NeedI (record { 0 = 0xFFFFFFFF }); message = zeros }, laid 1 (0xFF ∷ 0xFF ∷ 0xFF ∷ 0xFF ∷ 0 ∷ 0 ∷ 0 ∷ 0 ∷ []) zeros)
    ∷ (record { head = Offer (record { 0 = 0x01020304 }) (record { 0 = 0xFFFFFFFF }); message = zeros }, laid 2 (1 ∷ 2 ∷ 3 ∷ 4 ∷ 0xFF ∷ 0xFF ∷ 0xFF ∷ 0xFF ∷ []) zeros)
    ∷ (record { head = Data (record { 0 = 0xFFFFFFFF }); message = start }, laid 3 (0xFF ∷ 0xFF ∷ 0xFF ∷ 0xFF ∷ 0 ∷ 0 ∷ 0 ∷ 0 ∷ []) start)
    ∷ (record { head = Data (record { 0 = 1 }); message = spaces }, laid 3 (0 ∷ 0 ∷ 0 ∷ 1 ∷ 0 ∷ 0 ∷ 0 ∷ 0 ∷ []) spaces)
    ∷ (record { head = Data (record { 0 = 1 }); message = replicate 16 0x7E }, laid 3 (0 ∷ 0 ∷ 0 ∷ 1 ∷ 0 ∷ 0 ∷ 0 ∷ 0 ∷ []) (replicate 16 0x7E))
    ∷ (record { head = Ok (record { 0 = 5 }); message = zeros }, laid 4 (0 ∷ 0 ∷ 0 ∷ 5 ∷ 0 ∷ 0 ∷ 0 ∷ 0 ∷ []) zeros)
    ∷ (record { head = Lost (record { 0 = 256 }); message = zeros }, laid 5 (0 ∷ 0 ∷ 1 ∷ 0 ∷ 0 ∷ 0 ∷ 0 ∷ 0 ∷ []) zeros)
    ∷ (record { head = Done (record { 0 = 65536 }); message = zeros }, laid 6 (0 ∷ 1 ∷ 0 ∷ 0 ∷ 0 ∷ 0 ∷ 0 ∷ 0 ∷ []) zeros)
    ∷ []

-- which way each of them goes
packets_go : map (λ (v : Packet × List ℕ). direction_of v.0.head) packets
    ≡ ToController ∷ ToConsole ∷ ToController ∷ ToController ∷ ToController ∷ ToConsole ∷ ToConsole ∷ ToController ∷ []
packets_go = refl

packets_written : map (λ (v : Packet × List ℕ). packet_written (replicate 32 7) v.0) packets ≡ map (λ (v : Packet × List ℕ). v.1) packets
unfolding packet_written write_refusal fits packet_bytes bytes_of first chosen is_blank is_message cells filled
packets_written = refl

packets_read : map (λ (v : Packet × List ℕ). packet_read v.1) packets ≡ map (λ (v : Packet × List ℕ). accepted v.0) packets
unfolding head_read read_refusal head_at head_of value bytes_of first chosen is_blank is_message cells filled
packets_read = refl

-- bytes that are refused, and their first refusal
abbrev refusals : List (List ℕ × ℕ)
refusals =
    (take 31 need_i_1, 12)
    ∷ (need_i_1 ++ (0 ∷ []), 12)
    ∷ (take 31 (set need_i_1 0 0x49), 12)
    ∷ (set need_i_1 0 0x49, 13)
    ∷ (set need_i_1 2 0x4E, 13)
    ∷ (set (set need_i_1 2 0x4E) 4 2, 13)
    ∷ (set need_i_1 3 1, 14)
    ∷ (set (set need_i_1 4 2) 5 7, 14)
    ∷ (set need_i_1 5 0, 15)
    ∷ (set need_i_1 5 7, 15)
    ∷ (set need_i_1 6 1, 15)
    ∷ (set need_i_1 7 1, 15)
    ∷ (set need_i_1 11 0, 15)
    ∷ (set need_i_1 15 1, 15)
    ∷ (set need_i_1 5 2, 15)
    ∷ (set need_i_1 31 0x20, 15)
    ∷ (laid 3 (0 ∷ 0 ∷ 0 ∷ 1 ∷ 0 ∷ 0 ∷ 0 ∷ 0 ∷ []) (set spaces 15 0x1F), 15)
    ∷ (laid 3 (0 ∷ 0 ∷ 0 ∷ 1 ∷ 0 ∷ 0 ∷ 0 ∷ 0 ∷ []) (set spaces 0 0x7F), 15)
    ∷ []

packets_refused : map (λ (v : List ℕ × ℕ). packet_read v.0) refusals ≡ map (λ (v : List ℕ × ℕ). refused v.1) refusals
unfolding head_read read_refusal head_at head_of value bytes_of first chosen is_blank is_message cells filled
packets_refused = refl

-- packets that can't be written, to 32 bytes and to 31
abbrev unfit : List Packet
unfit =
    need_i 0
    ∷ record { head = Offer (record { 0 = 1 }) (record { 0 = 0 }); message = zeros }
    ∷ record { head = Data (record { 0 = 1 }); message = zeros }
    ∷ record { head = Ok (record { 0 = 1 }); message = spaces }
    ∷ []

unfit_15 : map (write_refusal 32) unfit ≡ replicate 4 15
unfolding write_refusal fits first chosen is_blank is_message cells filled
unfit_15 = refl

unfit_12 : map (write_refusal 31) unfit ≡ replicate 4 12
unfolding write_refusal first chosen
unfit_12 = refl

-- records of both versions and both ends, and their bytes
abbrev records : List (NumberRecord × List ℕ)
records =
    (ConsoleOld (record { 0 = 0 }), 0x48 ∷ 0x53 ∷ 0x4E ∷ 0 ∷ 1 ∷ 1 ∷ 0 ∷ 0 ∷ 0 ∷ 0 ∷ 0 ∷ 0 ∷ [])
    ∷ (ConsoleOld (record { 0 = 0xFFFFFFFF }), 0x48 ∷ 0x53 ∷ 0x4E ∷ 0 ∷ 1 ∷ 1 ∷ 0 ∷ 0 ∷ 0xFF ∷ 0xFF ∷ 0xFF ∷ 0xFF ∷ [])
    ∷ (ControllerOld (record { 0 = 1 }), 0x48 ∷ 0x53 ∷ 0x4E ∷ 0 ∷ 1 ∷ 2 ∷ 0 ∷ 0 ∷ 0 ∷ 0 ∷ 0 ∷ 1 ∷ [])
    ∷ (Console (record { 0 = 7 }) 64, 0x48 ∷ 0x53 ∷ 0x4E ∷ 0 ∷ 2 ∷ 1 ∷ 0 ∷ 0 ∷ 0 ∷ 0 ∷ 0 ∷ 7 ∷ 0 ∷ 0x40 ∷ 0 ∷ 0 ∷ [])
    ∷ (Console (record { 0 = 0 }) 1, 0x48 ∷ 0x53 ∷ 0x4E ∷ 0 ∷ 2 ∷ 1 ∷ 0 ∷ 0 ∷ 0 ∷ 0 ∷ 0 ∷ 0 ∷ 0 ∷ 1 ∷ 0 ∷ 0 ∷ [])
    ∷ (Controller (record { 0 = 0xFFFFFFFF }) 1024, 0x48 ∷ 0x53 ∷ 0x4E ∷ 0 ∷ 2 ∷ 2 ∷ 0 ∷ 0 ∷ 0xFF ∷ 0xFF ∷ 0xFF ∷ 0xFF ∷ 4 ∷ 0 ∷ 0 ∷ 0 ∷ [])
    ∷ []

records_written : map (λ (v : NumberRecord × List ℕ). record_written (replicate (length v.1) 7) v.0) records ≡ map (λ (v : NumberRecord × List ℕ). v.1) records
unfolding record_written record_write_refusal record_bytes bytes_of first chosen
records_written = refl

records_read : map (λ (v : NumberRecord × List ℕ). record_read v.1) records ≡ map (λ (v : NumberRecord × List ℕ). result.Ok v.0) records
unfolding record_read record_refusal record_at block_at record_of value bytes_of first chosen
records_read = refl

-- carried to version 2, and back
records_renewed : map (λ (v : NumberRecord × List ℕ). renewed v.0) records
    ≡ Console (record { 0 = 0 }) 64 ∷ Console (record { 0 = 0xFFFFFFFF }) 64 ∷ Controller (record { 0 = 1 }) 64 ∷ Console (record { 0 = 7 }) 64 ∷ Console (record { 0 = 0 }) 1 ∷ Controller (record { 0 = 0xFFFFFFFF }) 1024 ∷ []
records_renewed = refl

records_aged : map (λ (v : NumberRecord × List ℕ). aged v.0) records
    ≡ ConsoleOld (record { 0 = 0 }) ∷ ConsoleOld (record { 0 = 0xFFFFFFFF }) ∷ ControllerOld (record { 0 = 1 }) ∷ ConsoleOld (record { 0 = 7 }) ∷ ConsoleOld (record { 0 = 0 }) ∷ ControllerOld (record { 0 = 0xFFFFFFFF }) ∷ []
records_aged = refl

-- records that are refused
abbrev old : List ℕ
old = 0x48 ∷ 0x53 ∷ 0x4E ∷ 0 ∷ 1 ∷ 1 ∷ replicate 6 0

abbrev new : List ℕ
new = 0x48 ∷ 0x53 ∷ 0x4E ∷ 0 ∷ 2 ∷ 1 ∷ 0 ∷ 0 ∷ 0 ∷ 0 ∷ 0 ∷ 7 ∷ 0 ∷ 0x40 ∷ 0 ∷ 0 ∷ []

abbrev record_refusals : List (List ℕ × ℕ)
record_refusals =
    (take 11 old, 12)
    ∷ (old ++ (0 ∷ []), 12)
    ∷ (take 15 new, 12)
    ∷ (new ++ (0 ∷ []), 12)
    ∷ (take 11 (set old 2 0x4C), 12)
    ∷ (set old 2 0x4C, 13)
    ∷ (set (set old 2 0x4C) 4 2, 13)
    ∷ (set (set new 2 0x4C) 4 1, 13)
    ∷ (set old 4 2, 14)
    ∷ (take 12 new, 14)
    ∷ (set new 4 1, 14)
    ∷ (set new 3 1, 14)
    ∷ (set (set old 4 2) 5 3, 14)
    ∷ (set old 5 0, 15)
    ∷ (set old 5 3, 15)
    ∷ (set old 7 1, 15)
    ∷ (set new 5 3, 15)
    ∷ (set new 6 1, 15)
    ∷ (set new 13 0, 15)
    ∷ (set (set new 12 4) 13 1, 15)
    ∷ (set new 14 1, 15)
    ∷ (set new 15 1, 15)
    ∷ []

records_refused : map (λ (v : List ℕ × ℕ). record_read v.0) record_refusals ≡ map (λ (v : List ℕ × ℕ). result.Err (refusal_of v.1)) record_refusals
unfolding record_read record_refusal record_at block_at record_of value bytes_of first chosen
records_refused = refl

-- each version to the other's length, and blocks that are none
records_unwritten : record_write_refusal 16 (ConsoleOld (record { 0 = 7 })) ∷ record_write_refusal 12 (Console (record { 0 = 7 }) 64) ∷ record_write_refusal 12 (Console (record { 0 = 7 }) 0) ∷ map (λ (b : ℕ). record_write_refusal 16 (Controller (record { 0 = 7 }) b)) (0 ∷ 1 ∷ 1024 ∷ 1025 ∷ [])
    ≡ 12 ∷ 12 ∷ 12 ∷ 15 ∷ 0 ∷ 0 ∷ 15 ∷ []
unfolding record_write_refusal first chosen
records_unwritten = refl
