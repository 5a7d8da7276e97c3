-- A report of this link in a line of the list program. Assumes nothing.
use Rattle.std.specs.Prelude.{ℕ, ◌+◌, ◌-◌, ◌*◌, ◌&&◌, List, [], ◌∷◌, eqb}
use Rattle.ground.specs.Refusals.{number_of, refusal_of}
use Rattle.ground.specs.Choice.{when◌then◌else◌}
use Rattle.listing.specs.Line.{decimals, line_bytes}
use Rattle.ends.specs.declared.Report.{Report}
use Rattle.ends.specs.declared.Report.TheVariants as report

-- the letter, or ? for refusal 1
abbrev pub letter_cell : ℕ → Report → ℕ
letter_cell letter report.Nothing = letter
letter_cell letter report.Delivered = letter
letter_cell letter report.Ok = letter
letter_cell letter report.Lost = letter
letter_cell letter (report.Refused r) = when eqb (number_of r) 1 then 0x3F else letter

-- DL, OK, LO (answer lost), -- (nothing to report) or the refusal number
abbrev pub report_cells : Report → List ℕ
report_cells report.Nothing = 0x2D ∷ 0x2D ∷ []
report_cells report.Delivered = 0x44 ∷ 0x4C ∷ []
report_cells report.Ok = 0x4F ∷ 0x4B ∷ []
report_cells report.Lost = 0x4C ∷ 0x4F ∷ []
report_cells (report.Refused r) = decimals 2 (number_of r)

-- the report that two cells say; what is none of the four words is a refusal's number
unfoldable pub cells_say : ℕ → ℕ → Report
cells_say x y =
    when eqb x 0x44 && eqb y 0x4C then report.Delivered
    else when eqb x 0x4F && eqb y 0x4B then report.Ok
    else when eqb x 0x4C && eqb y 0x4F then report.Lost
    else when eqb x 0x2D && eqb y 0x2D then report.Nothing
    else report.Refused (refusal_of (10 * (x - 0x30) + (y - 0x30)))

-- the line of a record with this number and letter, whose step gave this report and message
unfoldable pub report_line : ℕ → ℕ → Report → List ℕ → List ℕ
report_line number letter report message = line_bytes number (letter_cell letter report) (report_cells report) message
