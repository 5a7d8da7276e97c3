-- A line of a list program's output, 26 cells and 0x0A. Assumes nothing.
use Rattle.std.specs.Prelude.{ℕ, zero, suc, ◌+◌, ◌/◌, ◌%◌, ◌^◌, List, [], ◌∷◌, ◌++◌, length, eqb}
use Rattle.ground.specs.Choice.{when◌then◌else◌}

-- the last n decimal digits of a number
unfoldable pub decimals : ℕ → ℕ → List ℕ
decimals zero x = []
decimals (suc n) x = (0x30 + x / 10 ^ n % 10) ∷ decimals n x

-- record number, four digits; space; the letter or ?; space; the report's two cells; space; the delivered message or 16 spaces; 0x0A
unfoldable pub line_bytes : ℕ → ℕ → List ℕ → List ℕ → List ℕ
line_bytes number letter cells message =
    decimals 4 number ++ (0x20 ∷ letter ∷ 0x20 ∷ (cells ++ (0x20 ∷ (message ++ (0x0A ∷ [])))))

-- a buffer of 27 bytes afterwards; one of another length stays as it was
unfoldable pub line_written : List ℕ → ℕ → ℕ → List ℕ → List ℕ → List ℕ
line_written out number letter cells message =
    when eqb (length out) 27 then line_bytes number letter cells message else out
