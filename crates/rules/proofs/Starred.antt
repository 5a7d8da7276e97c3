-- Every starred check of document 01 and of request 2 comes out as its line says. Assumes nothing.
use mathlib.Core.Path.{◌≡◌, refl}
use mathlib.Core.List.{map}
use Rattle.ground.specs.Cell.{is_message, cells}
use Rattle.ground.specs.Choice.{chosen}
use Rattle.rules.specs.Supply.{numbers_rules}
use Rattle.rules.specs.Bench.{rules}
use Rattle.rules.specs.Reading.{readings}
use Rattle.rules.specs.Starred.{played, starred}

pub starred_hold : map played starred ≡ starred
unfolding starred played readings rules numbers_rules is_message cells chosen
starred_hold = refl
