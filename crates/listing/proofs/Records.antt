-- For the checks of what is read.
use Prim.Native.Nat.{ℕ}
use mathlib.Core.Path.{◌≡◌, ◌∙◌}
use mathlib.Core.Bool.{true}
use mathlib.Core.List.{List}
use lib.ListN.{length}
use Rattle.ground.specs.Cell.{cells, is_message, spaces}
use Rattle.ground.specs.Choice.{chosen}
use Rattle.ground.specs.Every.{filled}
use Rattle.ground.proofs.Every.{filled_is}
use Rattle.listing.specs.Record.{fields_fit, is_well_formed, fields, list_record, record_end}

-- `unfolding records` opens what a record is, but for its fields
unfoldable pub records : Unit {0}
unfolding fields_fit is_well_formed fields list_record record_end chosen
records = tt

-- spaces are cells
pub spaces_message : (m : List ℕ) → length m ≡ 16 → filled 0x20 m ≡ true → is_message m ≡ true
unfolding is_message cells
spaces_message m l e = let f : m ≡ spaces = filled_is 0x20 m e ∙ rw l in rw f
