-- A table: 2,048 bytes, 64 places of 32 bytes. What it holds, and what is made of it. Assumes nothing.
use Rattle.std.specs.Prelude.{ℕ, zero, suc, ◌+◌, ◌-◌, ◌*◌, Bool, ◌&&◌, List, [], ◌∷◌, ◌++◌, length, take, drop, replicate, eqb, leb, ltb}
use Rattle.ground.specs.Bytes.{field}
use Rattle.ground.specs.Choice.{when◌then◌else◌}

-- a table's length, and a count that it has places for
abbrev pub is_table : ℕ → ℕ → Bool
is_table n count = eqb n 2048 && leb count 64

-- the 32 bytes at a place
abbrev pub bytes_at : List ℕ → ℕ → List ℕ
bytes_at t place = field t (place * 32) 32

-- ## A list of records of any kind as a table, and back: over a record's 32 bytes and how they are read

module _ {A : Type 0} (bytes : A → List ℕ) where
  -- the records' bytes one after another
  unfoldable pub laid : List A → List ℕ
  laid [] = []
  laid (p ∷ ps) = bytes p ++ laid ps

  -- then zero bytes up to 2,048
  unfoldable pub table_of : List A → List ℕ
  table_of ps = laid ps ++ replicate (2048 - length ps * 32) 0

-- the records of the first n places
module _ {A : Type 0} (reads : List ℕ → A) where
  unfoldable pub holds : ℕ → List ℕ → List A
  holds zero t = []
  holds (suc n) t = reads (take 32 t) ∷ holds n (drop 32 t)

-- ## What is made of a table. Where it can't be done the table stays as it was

-- zero bytes, as many
abbrev pub cleared : List ℕ → List ℕ
cleared t = replicate (length t) 0

-- a record taken out: those before it, the later ones a place down, the freed place cleared, and what is above the count
unfoldable pub taken_out : List ℕ → ℕ → ℕ → List ℕ
taken_out t count place =
    when is_table (length t) count && ltb place count
    then take (place * 32) t ++ (field t (place * 32 + 32) (count * 32 - (place * 32 + 32)) ++ (replicate 32 0 ++ drop (count * 32) t))
    else t
