-- Worked examples of the list program, computed: the actions that records are, records that are none, and the lines of reports.
use Prim.Native.Nat.{ℕ}
use mathlib.Core.Path.{◌≡◌, refl}
use mathlib.Core.List.{List, [], ◌∷◌, ◌++◌, map}
use lib.ListN.{set, replicate}
use Rattle.ground.specs.Refusals.{refusal_of}
use Rattle.std.specs.Prelude.{Option, None, Some}
use Rattle.ground.specs.Cell.{cells, is_message, spaces}
use Rattle.ground.specs.Choice.{chosen}
use Rattle.ground.specs.Every.{filled}
use Rattle.listing.specs.Line.{decimals, line_bytes}
use Rattle.listing.specs.Record.{is_place, is_copies, place_fits, copies_fit, message_fits, fields_fit, is_well_formed, fields, list_record}
use Rattle.listing.proofs.Vectors.{start, laid}
use Rattle.rules.specs.Letters.{line, letters, among, letter}
use Rattle.letters.specs.Lines.{line_of}
use Rattle.ends.specs.declared.Report.{Report}
use Rattle.ends.specs.declared.Report.TheVariants as report
use Rattle.bench.specs.Reports.{report_line}
use Rattle.bench.specs.Running.{list_action}
use Rattle.bench.specs.declared.Action.{Action}

-- for proofs: `unfolding reads` opens all that a record's action is made of
unfoldable reads : Unit {0}
unfolding list_action list_record is_well_formed fields fields_fit place_fits copies_fit message_fits is_place is_copies is_message cells filled
    line letters among letter line_of chosen
reads = tt

-- ## Records

abbrev is : ℕ → ℕ → ℕ → List ℕ → Option Action
is letter place copies message = Some (record { letter = letter; place = place; copies = copies; message = message })

-- "P000" with START FILLER 03; "P000", "Q001", "D002", "R001", "S633", "L090", "M630", "X000" and "A000", each with 16 spaces
abbrev good : List (List ℕ × Option Action)
good =
    (laid 0x50 0x30 0x30 0x30 start, is 0x50 0 0 start)
    ∷ (laid 0x50 0x30 0x30 0x30 spaces, is 0x50 0 0 spaces)
    ∷ (laid 0x51 0x30 0x30 0x31 spaces, is 0x51 0 1 spaces)
    ∷ (laid 0x44 0x30 0x30 0x32 spaces, is 0x44 0 2 spaces)
    ∷ (laid 0x52 0x30 0x30 0x31 spaces, is 0x52 0 1 spaces)
    ∷ (laid 0x53 0x36 0x33 0x33 spaces, is 0x53 63 3 spaces)
    ∷ (laid 0x4C 0x30 0x39 0x30 spaces, is 0x4C 9 0 spaces)
    ∷ (laid 0x4D 0x36 0x33 0x30 spaces, is 0x4D 63 0 spaces)
    ∷ (laid 0x58 0x30 0x30 0x30 spaces, is 0x58 0 0 spaces)
    ∷ (laid 0x41 0x30 0x30 0x30 spaces, is 0x41 0 0 spaces)
    ∷ []

good_read : map (λ (v : List ℕ × Option Action). list_action v.0) good ≡ map (λ (v : List ℕ × Option Action). v.1) good
unfolding reads
good_read = refl

-- fields that the letter doesn't use: a place with P, Q and A, copies with P, L and A, a message with Q, V and A
abbrev unused : List (List ℕ)
unused =
    laid 0x50 0x30 0x31 0x30 start
    ∷ laid 0x51 0x31 0x30 0x31 spaces
    ∷ laid 0x50 0x30 0x30 0x31 start
    ∷ laid 0x4C 0x30 0x30 0x31 spaces
    ∷ laid 0x51 0x30 0x30 0x31 start
    ∷ laid 0x56 0x30 0x30 0x30 (set spaces 15 0x2E)
    ∷ laid 0x41 0x30 0x31 0x30 spaces
    ∷ laid 0x41 0x30 0x30 0x31 spaces
    ∷ laid 0x41 0x30 0x30 0x30 start
    ∷ []

-- letters that are none: "p", "B", a space, "?"
abbrev no_letters : List (List ℕ)
no_letters = map (λ b. laid b 0x30 0x30 0x30 spaces) (0x70 ∷ 0x42 ∷ 0x20 ∷ 0x3F ∷ [])

-- and nothing at all
bad_read : map list_action (unused ++ no_letters ++ ([] ∷ [])) ≡ replicate 14 None
unfolding reads
bad_read = refl

-- ## Lines

-- a line's number, letter, report and message, and its first 10 cells
abbrev Row : Type 0
Row = ℕ × ℕ × Report × List ℕ × List ℕ

-- "0001 P -- ", "0007 R DL ", "0008 S OK ", "0010 S 03 ", "0012 S LO ", "9999 ? 01 ", "0999 P 11 ", and "2345 S 15 " for 12,345
abbrev rows : List Row
rows =
    (1, 0x50, report.Nothing, spaces, 0x30 ∷ 0x30 ∷ 0x30 ∷ 0x31 ∷ 0x20 ∷ 0x50 ∷ 0x20 ∷ 0x2D ∷ 0x2D ∷ 0x20 ∷ [])
    ∷ (7, 0x52, report.Delivered, start, 0x30 ∷ 0x30 ∷ 0x30 ∷ 0x37 ∷ 0x20 ∷ 0x52 ∷ 0x20 ∷ 0x44 ∷ 0x4C ∷ 0x20 ∷ [])
    ∷ (8, 0x53, report.Ok, spaces, 0x30 ∷ 0x30 ∷ 0x30 ∷ 0x38 ∷ 0x20 ∷ 0x53 ∷ 0x20 ∷ 0x4F ∷ 0x4B ∷ 0x20 ∷ [])
    ∷ (10, 0x53, report.Refused (refusal_of 3), spaces, 0x30 ∷ 0x30 ∷ 0x31 ∷ 0x30 ∷ 0x20 ∷ 0x53 ∷ 0x20 ∷ 0x30 ∷ 0x33 ∷ 0x20 ∷ [])
    ∷ (12, 0x53, report.Lost, spaces, 0x30 ∷ 0x30 ∷ 0x31 ∷ 0x32 ∷ 0x20 ∷ 0x53 ∷ 0x20 ∷ 0x4C ∷ 0x4F ∷ 0x20 ∷ [])
    ∷ (9999, 0x50, report.Refused (refusal_of 1), spaces, 0x39 ∷ 0x39 ∷ 0x39 ∷ 0x39 ∷ 0x20 ∷ 0x3F ∷ 0x20 ∷ 0x30 ∷ 0x31 ∷ 0x20 ∷ [])
    ∷ (999, 0x50, report.Refused (refusal_of 11), spaces, 0x30 ∷ 0x39 ∷ 0x39 ∷ 0x39 ∷ 0x20 ∷ 0x50 ∷ 0x20 ∷ 0x31 ∷ 0x31 ∷ 0x20 ∷ [])
    ∷ (12345, 0x53, report.Refused (refusal_of 15), spaces, 0x32 ∷ 0x33 ∷ 0x34 ∷ 0x35 ∷ 0x20 ∷ 0x53 ∷ 0x20 ∷ 0x31 ∷ 0x35 ∷ 0x20 ∷ [])
    ∷ []

rows_written : map (λ (v : Row). report_line v.0 v.1 v.2 v.3) rows ≡ map (λ (v : Row). v.4 ++ (v.3 ++ (0x0A ∷ []))) rows
unfolding report_line line_bytes decimals chosen
rows_written = refl
