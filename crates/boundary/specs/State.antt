-- What the states of both ends share: numbers, flags, what a step tells, and what a start takes from a number record. Assumes nothing.
use Rattle.std.specs.Prelude.{ℕ, ◌+◌, ◌*◌, Bool, true, false, not, ◌&&◌, List, [], ◌++◌, length, eqb, Result, Ok, Err}
use Rattle.ground.specs.Choice.{when◌then◌else◌}
use Rattle.ground.specs.Refusals as refusals
use Rattle.ground.specs.declared.refusals.Refusal.{Refusal}
use Rattle.ground.specs.declared.refusals.Refusal.TheVariants.{WrongField}
use Rattle.wire.specs.Frame.{field}
use Rattle.wire.specs.Number.{bytes_of, value}
use Rattle.wire.specs.Record.{end_of, number_of, block_of, record_write_refusal, record_written, renewed}
use Rattle.wire.specs.declared.NumberRecord.{NumberRecord}
use Rattle.numbers.specs.Numbers.{numbers_kept}
use Rattle.numbers.specs.declared.Numbers.{Numbers}
use Rattle.ends.specs.declared.Report.{Report}
use Rattle.ends.specs.declared.Report.TheVariants as report

-- 0-3 last used; 4-7 reserved; 8-9 block. Numbers are big-endian
abbrev pub numbers_bytes : Numbers → List ℕ
numbers_bytes n = bytes_of 4 n.used ++ (bytes_of 4 n.reserved ++ bytes_of 2 n.block)

abbrev pub numbers_at : List ℕ → Numbers
numbers_at s = record { used = value (field s 0 4); reserved = value (field s 4 4); block = value (field s 8 2) }

-- a flag is one byte, 0 or 1
abbrev pub flag : Bool → ℕ
flag true = 1
flag false = 0

abbrev pub is_refusal : Report → Bool
is_refusal report.Nothing = false
is_refusal report.Delivered = false
is_refusal report.Ok = false
is_refusal report.Lost = false
is_refusal (report.Refused r) = true

-- whether reserved or block is another, and so the end's number record, which has to be kept before the packet leaves and before the report is shown
abbrev pub changed : Numbers → Numbers → Bool
changed before after = not (eqb before.reserved after.reserved && eqb before.block after.block)

-- told beside a report: 128 where a packet was written, 32 where the number record changed
unfoldable pub marks : Bool → Bool → ℕ
marks sent keep = 128 * flag sent + 32 * flag keep

-- the byte that a step returns: a refusal's own number, 1 to 31; else 0 nothing, 64 delivered, 65 OK, 66 lost, and its marks
abbrev pub told : Report → Bool → Bool → ℕ
told report.Nothing sent keep = marks sent keep
told report.Delivered sent keep = 64 + marks sent keep
told report.Ok sent keep = 65 + marks sent keep
told report.Lost sent keep = 66 + marks sent keep
told (report.Refused r) sent keep = refusals.number_of r

-- a record of the other end is 15
unfoldable pub start_of : ℕ → NumberRecord → Result Numbers Refusal
start_of end r = when eqb (end_of r) end then Ok (numbers_kept (number_of r) (block_of r)) else Err WrongField

-- a record of version 1 is carried to version 2 first
abbrev pub start_in : ℕ → Result NumberRecord Refusal → Result Numbers Refusal
start_in end (Err r) = Err r
start_in end (Ok r) = start_of end (renewed r)

-- the bytes of what is started; of a start that is refused there are none
abbrev pub start_bytes : {A : Type 0} → (A → List ℕ) → Result A Refusal → List ℕ
start_bytes bytes (Err r) = []
start_bytes bytes (Ok a) = bytes a

-- ## A state of n bytes

-- it is written where there are n bytes for it
unfoldable pub length_refusal : ℕ → List ℕ → ℕ
length_refusal n s = when eqb (length s) n then 0 else 2

unfoldable pub written : ℕ → List ℕ → List ℕ → List ℕ
written n s bytes = when eqb (length s) n then bytes else s

-- a start after power loss, from the end's own number record: 2, then 12 to 15
unfoldable pub start_refusal : {A : Type 0} → ℕ → List ℕ → Result A Refusal → ℕ
start_refusal n s l = when eqb (length s) n then refusals.refusal_in l else 2

unfoldable pub started : {A : Type 0} → ℕ → List ℕ → Result A Refusal → List ℕ → List ℕ
started n s l bytes = when eqb (start_refusal n s l) 0 then bytes else s

-- the number record of a state that is well formed or not: 2, then 12
unfoldable pub state_record_refusal : Bool → NumberRecord → List ℕ → ℕ
state_record_refusal ok r out = when ok then record_write_refusal (length out) r else 2

unfoldable pub state_record_put : Bool → NumberRecord → List ℕ → List ℕ
state_record_put ok r out = when ok then record_written out r else out
