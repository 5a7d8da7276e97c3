-- The bounds of a cell and of a message, computed.
use Rattle.std.proofs.Common.{◌≡◌, refl, true, false, [], ◌∷◌, map, take, set}
use Rattle.ground.specs.Cell.{cell, cells, is_message, spaces}

bounds : map cell (0x1F ∷ 0x20 ∷ 0x7E ∷ 0x7F ∷ []) ≡ false ∷ true ∷ true ∷ false ∷ []
bounds = refl

-- all spaces is one; not 15 cells, not 17, nor with a byte that is no cell
messages : map is_message (take 15 spaces ∷ spaces ∷ (0x20 ∷ spaces) ∷ set spaces 0 0x1F ∷ set spaces 15 0x7E ∷ set spaces 15 0x7F ∷ [])
    ≡ false ∷ true ∷ false ∷ false ∷ true ∷ false ∷ []
unfolding is_message cells
messages = refl
