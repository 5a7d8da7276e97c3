-- Number records: version 1, 12 bytes, and version 2, 16 bytes. Assumes nothing.
use Rattle.std.specs.Prelude.{ℕ, Bool, true, false, not, ◌&&◌, ◌||◌, List, [], ◌∷◌, ◌++◌, length, get_or, eqb, Result, Ok, Err}
pub use Rattle.ground.specs.Block.{is_block}
use Rattle.ground.specs.Block.{fresh_block}
use Rattle.ground.specs.Choice.{when◌then◌else◌}
use Rattle.ground.specs.First.{first}
use Rattle.ground.specs.Refusals.{refusal_of}
use Rattle.ground.specs.declared.refusals.Refusal.{Refusal}
use Rattle.ground.specs.declared.refusals.Refusal.TheVariants.{WrongField}
use Rattle.wire.specs.Frame.{field, bytes_are, frame, read_refusals, found}
use Rattle.wire.specs.Number.{bytes_of, value}
use Rattle.wire.specs.declared.NumberRecord.{NumberRecord}
use Rattle.wire.specs.declared.NumberRecord.TheVariants.{ConsoleOld, ControllerOld, Console, Controller}
use Rattle.wire.specs.declared.records.RecordFields.{RecordFields}

-- version 1
abbrev pub is_old : NumberRecord → Bool
is_old (ConsoleOld j) = true
is_old (ControllerOld i) = true
is_old (Console j b) = false
is_old (Controller i b) = false

abbrev pub end_of : NumberRecord → ℕ
end_of (ConsoleOld j) = 1
end_of (ControllerOld i) = 2
end_of (Console j b) = 1
end_of (Controller i b) = 2

-- last used of version 1, reserved of version 2
abbrev pub number_of : NumberRecord → ℕ
number_of (ConsoleOld j) = j.0
number_of (ControllerOld i) = i.0
number_of (Console j b) = j.0
number_of (Controller i b) = i.0

-- of version 1 it is 0, which is no block
abbrev pub block_of : NumberRecord → ℕ
block_of (ConsoleOld j) = 0
block_of (ControllerOld i) = 0
block_of (Console j b) = b
block_of (Controller i b) = b

abbrev pub record_fields : NumberRecord → RecordFields
record_fields r = record { end = end_of r; number = number_of r; block = block_of r }

-- the block of version 2 is one
abbrev pub is_good : NumberRecord → Bool
is_good r = is_old r || is_block (block_of r)

-- ## Bytes

-- version 1: 0-2 "HSN"; 3-4 version 1; 5 end; 6-7 zero; 8-11 last used
abbrev pub old_bytes : ℕ → ℕ → List ℕ
old_bytes end used = frame 0x4E 1 end ++ bytes_of 4 used

-- version 2: 0-2 "HSN"; 3-4 version 2; 5 end; 6-7 zero; 8-11 reserved; 12-13 block; 14-15 zero
abbrev pub new_bytes : ℕ → ℕ → ℕ → List ℕ
new_bytes end reserved block = frame 0x4E 2 end ++ (bytes_of 4 reserved ++ (bytes_of 2 block ++ bytes_of 2 0))

unfoldable pub record_bytes : NumberRecord → List ℕ
record_bytes r = when is_old r then old_bytes (end_of r) (number_of r) else new_bytes (end_of r) (number_of r) (block_of r)

-- ## Reading

-- both ends' records with a number and a block: 0 makes version 1, any other block version 2
abbrev pub records : ℕ → ℕ → List NumberRecord
records n b =
    when eqb b 0 then ConsoleOld (record { 0 = n }) ∷ ControllerOld (record { 0 = n }) ∷ []
    else Console (record { 0 = n }) b ∷ Controller (record { 0 = n }) b ∷ []

-- the one of this end
unfoldable pub record_of : ℕ → ℕ → ℕ → Result NumberRecord Refusal
record_of e n b = found (λ r. eqb e (end_of r)) Ok (Err WrongField) (records n b)

-- bytes 12-13 of version 2
unfoldable pub block_at : List ℕ → ℕ
block_at s = when eqb (length s) 16 then value (field s 12 2) else 0

unfoldable pub record_at : List ℕ → Result NumberRecord Refusal
record_at s = record_of (get_or s 5 0) (value (field s 8 4)) (block_at s)

abbrev pub is_read : Result NumberRecord Refusal → Bool
is_read (Err r) = false
is_read (Ok r) = true

-- the first refusal of a read, or 0. 16 bytes are to be version 2; any others are to be version 1, which refuses all but 12 bytes: neither is 12, a
-- version not of that length 14, a block out of range or bytes 14-15 not zero 15
unfoldable pub record_refusal : List ℕ → ℕ
record_refusal s =
    when eqb (length s) 16 then first (read_refusals 16 0x4E 2 s (is_read (record_at s) && is_block (block_at s) && bytes_are s 14 (bytes_of 2 0)))
    else first (read_refusals 12 0x4E 1 s (is_read (record_at s)))

unfoldable pub record_read : List ℕ → Result NumberRecord Refusal
record_read s = when eqb (record_refusal s) 0 then record_at s else Err (refusal_of (record_refusal s))

-- ## Writing

abbrev pub length_of : NumberRecord → ℕ
length_of r = when is_old r then 12 else 16

-- the first refusal of a write to n bytes, or 0, and the bytes after it
unfoldable pub record_write_refusal : ℕ → NumberRecord → ℕ
record_write_refusal n r = first ((12, not (eqb n (length_of r))) ∷ (15, not (is_good r)) ∷ [])

unfoldable pub record_written : List ℕ → NumberRecord → List ℕ
record_written out r = when eqb (record_write_refusal (length out) r) 0 then record_bytes r else out

-- ## Carrying from version to version

-- version 1 to version 2: reserved is last used, the block is 64
abbrev pub renewed : NumberRecord → NumberRecord
renewed (ConsoleOld j) = Console j fresh_block
renewed (ControllerOld i) = Controller i fresh_block
renewed (Console j b) = Console j b
renewed (Controller i b) = Controller i b

-- and back: last used is reserved
abbrev pub aged : NumberRecord → NumberRecord
aged (ConsoleOld j) = ConsoleOld j
aged (ControllerOld i) = ControllerOld i
aged (Console j b) = ConsoleOld j
aged (Controller i b) = ControllerOld i
