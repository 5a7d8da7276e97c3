-- Showing what a place holds: the refusal, the bytes, and where they lie. Assumes nothing.
use Rattle.std.specs.Prelude.{ℕ, ◌+◌, ◌*◌, not, ◌&&◌, List, [], ◌∷◌, length, ltb, Result}
use Rattle.ground.specs.First.{first}
use Rattle.ground.specs.Refusals.{unless_refused}
use Rattle.ground.specs.declared.refusals.Refusal.{Refusal}
use Rattle.std.specs.Borrow.{Bor}
use Rattle.tables.specs.declared.shown.Way.{Way}
use Rattle.tables.specs.declared.shown.Way.TheVariants.{Out, Back}
use Rattle.tables.specs.Table.{is_table, bytes_at}

-- the one of the two that was asked for
abbrev pub asked : {A : Type 0} → Way → A → A → A
asked Out out back = out
asked Back out back = back

-- it looks only at the place and at both tables' lengths and counts: 2, then 3
unfoldable pub show_refusal : Way → ℕ → List ℕ → ℕ → List ℕ → ℕ → ℕ
show_refusal way place out sent back returned =
    first
    ((2, not (is_table (length out) sent && is_table (length back) returned))
    ∷ (3, not (ltb place (asked way sent returned)))
    ∷ [])

-- the 32 bytes at a place, in the table itself: a block, and an offset in it
abbrev pub part_at : Bor (List ℕ) → ℕ → Bor (List ℕ)
part_at table place = record { ref_ptr = (table.ref_ptr.0, place * 32 + table.ref_ptr.1); now = bytes_at table.now place }

-- the part of the table that was asked for, or the refusal
unfoldable pub showing : Way → ℕ → Bor (List ℕ) → ℕ → Bor (List ℕ) → ℕ → Result (Bor (List ℕ)) Refusal
showing way place out sent back returned =
    unless_refused
    (show_refusal way place out.now sent back.now returned)
    (part_at (asked way out back) place)
