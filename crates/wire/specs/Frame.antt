-- What packets and number records have in common: bytes 0 to 7, and a reading by the table that the writing goes by. Assumes nothing.
use Rattle.std.specs.Prelude.{ℕ, suc, Bool, true, not, ◌&&◌, List, [], ◌∷◌, ◌++◌, length, get_or, eqb}
pub use Rattle.ground.specs.Bytes.{field}
use Rattle.ground.specs.Choice.{when◌then◌else◌}
use Rattle.wire.specs.Number.{bytes_of}

-- whether the bytes from an offset on are these
abbrev pub bytes_are : List ℕ → ℕ → List ℕ → Bool
bytes_are s at [] = true
bytes_are s at (b ∷ bs) = eqb (get_or s at 0) b && bytes_are s (suc at) bs

-- "HS" and a letter, which tells packets ("L") from number records ("N")
abbrev pub mark : ℕ → List ℕ
mark letter = 0x48 ∷ 0x53 ∷ letter ∷ []

-- bytes 0-2 mark; 3-4 version; 5 kind or end; 6-7 zero
abbrev pub frame : ℕ → ℕ → ℕ → List ℕ
frame letter version kind = mark letter ++ bytes_of 2 version ++ (kind ∷ bytes_of 2 0)

-- the refusals of those bytes, but for byte 5, in their order
abbrev pub frame_refusals : ℕ → ℕ → List ℕ → List (ℕ × Bool)
frame_refusals letter version s =
    (13, not (bytes_are s 0 (mark letter)))
    ∷ (14, not (bytes_are s 3 (bytes_of 2 version)))
    ∷ (15, not (bytes_are s 6 (bytes_of 2 0)))
    ∷ []

-- the refusals of a read of n bytes in their order: `good` says whether the other fields are in their tables
abbrev pub read_refusals : ℕ → ℕ → ℕ → List ℕ → Bool → List (ℕ × Bool)
read_refusals n letter version s good = (12, not (eqb (length s) n)) ∷ frame_refusals letter version s ++ ((15, not good) ∷ [])

-- what is made of the first of some candidates that passes a test, and what stands for none
abbrev pub found : {A B : Type 0} → (A → Bool) → (A → B) → B → List A → B
found test is none [] = none
found test is none (a ∷ rest) = when test a then is a else found test is none rest
