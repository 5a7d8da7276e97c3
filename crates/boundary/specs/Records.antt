-- Number records by their numbers, as C has them. Assumes nothing.
use Rattle.std.specs.Prelude.{ℕ, ◌||◌, List, length, eqb, Result, Ok, Err}
use Rattle.ground.specs.Choice.{when◌then◌else◌}
use Rattle.ground.specs.Refusals as refusals
use Rattle.ground.specs.declared.refusals.Refusal.{Refusal}
use Rattle.wire.specs.Record.{end_of, number_of, block_of, record_write_refusal, record_written, renewed, aged}
use Rattle.wire.specs.declared.NumberRecord.{NumberRecord}

-- what the places to be written hold after a read, beside its refusal, or 0
pub record RecordOut : Type 0 where
  pub refusal : ℕ
  pub end : ℕ
  pub number : ℕ
  pub block : ℕ

-- a refusal leaves all three
abbrev pub record_out : Result NumberRecord Refusal → ℕ → ℕ → ℕ → RecordOut
record_out (Err r) e n b = record { refusal = refusals.number_of r; end = e; number = n; block = b }
record_out (Ok r) e n b = record { refusal = 0; end = end_of r; number = number_of r; block = block_of r }

-- the length of the version that a block makes
abbrev pub length_with : ℕ → ℕ
length_with b = when eqb b 0 then 12 else 16

-- an end that is no end is 15, after 12
abbrev pub record_put_refusal : ℕ → ℕ → Result NumberRecord Refusal → ℕ
record_put_refusal n b (Err r) = when eqb n (length_with b) then 15 else 12
record_put_refusal n b (Ok r) = record_write_refusal n r

abbrev pub record_put : List ℕ → Result NumberRecord Refusal → List ℕ
record_put out (Err r) = out
record_put out (Ok r) = record_written out r

-- ## Carrying

-- the version that a length names: 12 bytes version 1, 16 version 2, which refuses any other length
abbrev pub in_version : ℕ → NumberRecord → NumberRecord
in_version n r = when eqb n 12 then aged r else renewed r

-- 12 of either length, then 13, 14, 15 of what is carried
abbrev pub carry_refusal : ℕ → Result NumberRecord Refusal → ℕ
carry_refusal n (Err r) = when eqb n 12 || eqb n 16 then refusals.number_of r else 12
carry_refusal n (Ok r) = record_write_refusal n (in_version n r)

-- a refusal leaves the bytes
abbrev pub carried : List ℕ → Result NumberRecord Refusal → List ℕ
carried to (Err r) = to
carried to (Ok r) = record_written to (in_version (length to) r)
