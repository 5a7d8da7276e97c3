-- Worked examples, computed: records and their bounds, records that are not well formed, and lines.
use Prim.Native.Nat.{ℕ}
use mathlib.Core.Path.{◌≡◌, refl}
use mathlib.Core.Bool.{Bool, true, false}
use mathlib.Core.List.{List, [], ◌∷◌, ◌++◌, map}
use lib.ListN.{take, set, replicate}
use Rattle.std.specs.Prelude.{Option, None, Some}
use Rattle.ground.specs.Cell.{cells, is_message, spaces}
use Rattle.ground.specs.Choice.{chosen}
use Rattle.ground.specs.Every.{filled}
use Rattle.listing.specs.declared.Fields.{Fields}
use Rattle.listing.specs.declared.Uses.{Uses}
use Rattle.listing.specs.Line.{decimals, line_bytes, line_written}
use Rattle.listing.specs.Record.{is_place, is_copies, place_fits, copies_fit, message_fits, fields_fit, is_well_formed, fields, list_record}

-- "START FILLER 03 "
abbrev pub start : List ℕ
start = 0x53 ∷ 0x54 ∷ 0x41 ∷ 0x52 ∷ 0x54 ∷ 0x20 ∷ 0x46 ∷ 0x49 ∷ 0x4C ∷ 0x4C ∷ 0x45 ∷ 0x52 ∷ 0x20 ∷ 0x30 ∷ 0x33 ∷ 0x20 ∷ []

-- 21 bytes by their fields
abbrev pub laid : ℕ → ℕ → ℕ → ℕ → List ℕ → List ℕ
laid letter tens ones copies m = letter ∷ tens ∷ ones ∷ copies ∷ (m ++ (0x0A ∷ []))

-- letters that use a place, copies, both, a message, nothing
abbrev uses : Bool → Bool → Bool → Uses
uses place copies message = record { place = place; copies = copies; message = message }

abbrev pub places : Uses
places = uses true false false

abbrev pub copied : Uses
copied = uses false true false

abbrev pub both : Uses
both = uses true true false

abbrev pub said : Uses
said = uses false false true

abbrev pub bare : Uses
bare = uses false false false

-- for proofs: `unfolding reads` opens all that a read is made of
unfoldable pub reads : Unit {0}
unfolding list_record is_well_formed fields fields_fit place_fits copies_fit message_fits is_place is_copies is_message cells filled chosen
reads = tt

-- ## Records

-- a record that was read
abbrev is : ℕ → ℕ → List ℕ → Option Fields
is place copies message = Some (record { place = place; copies = copies; message = message })

-- "P000START FILLER 03 "
pub start_read : list_record said (laid 0x50 0x30 0x30 0x30 start) ≡ is 0 0 start
unfolding reads
start_read = refl

-- what the letter uses, the record, and what is read: "P000", "Q001", "S633", "L090", "X000", and one whose letter is looked at by nobody
abbrev Row : Type 0
Row = Uses × List ℕ × Option Fields

abbrev good : List Row
good =
    (said, laid 0x50 0x30 0x30 0x30 spaces, is 0 0 spaces)
    ∷ (copied, laid 0x51 0x30 0x30 0x31 spaces, is 0 1 spaces)
    ∷ (both, laid 0x53 0x36 0x33 0x33 spaces, is 63 3 spaces)
    ∷ (places, laid 0x4C 0x30 0x39 0x30 spaces, is 9 0 spaces)
    ∷ (bare, laid 0x58 0x30 0x30 0x30 spaces, is 0 0 spaces)
    ∷ (uses true true true, laid 0 0x31 0x30 0x32 start, is 10 2 start)
    ∷ []

good_read : map (λ (v : Row). list_record v.0 v.1) good ≡ map (λ (v : Row). v.2) good
unfolding reads
good_read = refl

-- place 64, 70 and 99, and bytes beside the digits
abbrev bad_places : List (Uses × List ℕ)
bad_places =
    (both, laid 0x53 0x36 0x34 0x30 spaces)
    ∷ (both, laid 0x52 0x37 0x30 0x30 spaces)
    ∷ (places, laid 0x4C 0x39 0x39 0x30 spaces)
    ∷ (both, laid 0x53 0x2F 0x39 0x30 spaces)
    ∷ (both, laid 0x53 0x30 0x3A 0x30 spaces)
    ∷ (both, laid 0x53 0x20 0x31 0x30 spaces)
    ∷ []

-- copies 4, and bytes beside the digits
abbrev bad_copies : List (Uses × List ℕ)
bad_copies = (copied, laid 0x51 0x30 0x30 0x34 spaces) ∷ (both, laid 0x53 0x30 0x30 0x2F spaces) ∷ (copied, laid 0x44 0x30 0x30 0x20 spaces) ∷ []

-- fields that the letter doesn't use: a place, copies, a message
abbrev unused : List (Uses × List ℕ)
unused =
    (said, laid 0x50 0x30 0x31 0x30 start)
    ∷ (copied, laid 0x51 0x31 0x30 0x31 spaces)
    ∷ (said, laid 0x50 0x30 0x30 0x31 start)
    ∷ (places, laid 0x4C 0x30 0x30 0x31 spaces)
    ∷ (copied, laid 0x51 0x30 0x30 0x31 start)
    ∷ (bare, laid 0x56 0x30 0x30 0x30 (set spaces 15 0x2E))
    ∷ []

-- message bytes that are no cells
abbrev no_cells : List (Uses × List ℕ)
no_cells = (said, laid 0x50 0x30 0x30 0x30 (set start 0 0x1F)) ∷ (said, laid 0x50 0x30 0x30 0x30 (set start 15 0x7F)) ∷ []

-- CR LF, CR alone, a short last record, nothing at all, a byte too many
abbrev bad_ends : List (Uses × List ℕ)
bad_ends =
    (said, 0x50 ∷ 0x30 ∷ 0x30 ∷ 0x30 ∷ (start ++ (0x0D ∷ 0x0A ∷ [])))
    ∷ (said, 0x50 ∷ 0x30 ∷ 0x30 ∷ 0x30 ∷ (start ++ (0x0D ∷ [])))
    ∷ (said, take 20 (laid 0x50 0x30 0x30 0x30 start))
    ∷ (said, [])
    ∷ (said, laid 0x50 0x30 0x30 0x30 start ++ (0x0A ∷ []))
    ∷ []

bad_read : map (λ (v : Uses × List ℕ). list_record v.0 v.1) (bad_places ++ bad_copies ++ unused ++ no_cells ++ bad_ends) ≡ replicate 22 None
unfolding reads
bad_read = refl

-- ## Lines

-- "0001 P -- " and 16 spaces
pub start_line : line_bytes 1 0x50 (0x2D ∷ 0x2D ∷ []) spaces ≡ (0x30 ∷ 0x30 ∷ 0x30 ∷ 0x31 ∷ 0x20 ∷ 0x50 ∷ 0x20 ∷ 0x2D ∷ 0x2D ∷ 0x20 ∷ spaces) ++ (0x0A ∷ [])
unfolding line_bytes decimals
start_line = refl

-- a line's number, letter, two cells and message, and its first 10 cells
abbrev Line : Type 0
Line = ℕ × ℕ × List ℕ × List ℕ × List ℕ

-- "0007 R DL ", "9999 ? 01 ", "0999 P 11 ", and "2345 S 15 " for 12,345
abbrev rows : List Line
rows =
    (7, 0x52, 0x44 ∷ 0x4C ∷ [], start, 0x30 ∷ 0x30 ∷ 0x30 ∷ 0x37 ∷ 0x20 ∷ 0x52 ∷ 0x20 ∷ 0x44 ∷ 0x4C ∷ 0x20 ∷ [])
    ∷ (9999, 0x3F, decimals 2 1, spaces, 0x39 ∷ 0x39 ∷ 0x39 ∷ 0x39 ∷ 0x20 ∷ 0x3F ∷ 0x20 ∷ 0x30 ∷ 0x31 ∷ 0x20 ∷ [])
    ∷ (999, 0x50, decimals 2 11, spaces, 0x30 ∷ 0x39 ∷ 0x39 ∷ 0x39 ∷ 0x20 ∷ 0x50 ∷ 0x20 ∷ 0x31 ∷ 0x31 ∷ 0x20 ∷ [])
    ∷ (12345, 0x53, decimals 2 15, spaces, 0x32 ∷ 0x33 ∷ 0x34 ∷ 0x35 ∷ 0x20 ∷ 0x53 ∷ 0x20 ∷ 0x31 ∷ 0x35 ∷ 0x20 ∷ [])
    ∷ []

rows_written : map (λ (v : Line). line_written (replicate 27 7) v.0 v.1 v.2 v.3) rows ≡ map (λ (v : Line). v.4 ++ (v.3 ++ (0x0A ∷ []))) rows
unfolding line_written line_bytes decimals chosen
rows_written = refl

-- buffers of 26 and 28 bytes stay
others_kept : map (λ n. line_written (replicate n 7) 1 0x50 (0x2D ∷ 0x2D ∷ []) spaces) (26 ∷ 28 ∷ []) ≡ replicate 26 7 ∷ replicate 28 7 ∷ []
unfolding line_written chosen
others_kept = refl
