-- A record of a list program, 21 bytes: letter; place, two digits 00 to 63; copies, one digit 0 to 3; 16 message cells; byte 0x0A. Which letters there are,
-- and what each uses, is not said here. Assumes nothing.
use Rattle.std.specs.Prelude.{ℕ, ◌+◌, ◌*◌, ◌-◌, Bool, ◌&&◌, ◌||◌, List, length, get_or, eqb, leb, ltb, Option, None, Some}
use Rattle.ground.specs.Bytes.{field}
use Rattle.ground.specs.Cell.{is_message}
use Rattle.ground.specs.Choice.{when◌then◌else◌}
use Rattle.ground.specs.Every.{filled}
use Rattle.listing.specs.declared.Fields.{Fields}
use Rattle.listing.specs.declared.Uses.{Uses}

abbrev pub digit : ℕ → Bool
digit b = leb 0x30 b && leb b 0x39

-- what two digits stand for, and one
abbrev pub place_of : ℕ → ℕ → ℕ
place_of tens ones = 10 * (tens - 0x30) + (ones - 0x30)

abbrev pub copies_of : ℕ → ℕ
copies_of b = b - 0x30

-- two digits 00 to 63
unfoldable pub is_place : ℕ → ℕ → Bool
is_place tens ones = digit tens && (digit ones && leb (place_of tens ones) 63)

-- one digit 0 to 3
unfoldable pub is_copies : ℕ → Bool
is_copies b = leb 0x30 b && leb b 0x33

-- each field is as above, and fields that the letter doesn't use are 0 digits and spaces
unfoldable pub place_fits : Bool → ℕ → ℕ → Bool
place_fits used tens ones = is_place tens ones && (used || (eqb tens 0x30 && eqb ones 0x30))

unfoldable pub copies_fit : Bool → ℕ → Bool
copies_fit used b = is_copies b && (used || eqb b 0x30)

unfoldable pub message_fits : Bool → List ℕ → Bool
message_fits used m = is_message m && (used || filled 0x20 m)

unfoldable pub fields_fit : Uses → List ℕ → Bool
fields_fit u s =
    place_fits u.place (get_or s 1 0) (get_or s 2 0)
    && (copies_fit u.copies (get_or s 3 0) && (message_fits u.message (field s 4 16) && eqb (get_or s 20 0) 0x0A))

unfoldable pub is_well_formed : Uses → List ℕ → Bool
is_well_formed u s = eqb (length s) 21 && fields_fit u s

-- what is read of a record that is well formed
unfoldable pub fields : List ℕ → Fields
fields s = record { place = place_of (get_or s 1 0) (get_or s 2 0); copies = copies_of (get_or s 3 0); message = field s 4 16 }

-- with what the letter uses; none: the record is not well formed
unfoldable pub list_record : Uses → List ℕ → Option Fields
list_record u s = when is_well_formed u s then Some (fields s) else None

-- where a record that begins at `start` ends in `len` bytes: 21 bytes on, but the last may be short
unfoldable pub record_end : ℕ → ℕ → ℕ
record_end start len = when ltb len (start + 21) then len else start + 21
