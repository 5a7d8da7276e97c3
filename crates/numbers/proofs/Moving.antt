-- What a step does to an end's numbers is what the rules do to their supply, where a number is taken only if there is one.
use mathlib.Core.Path.{◌≡◌, refl}
use mathlib.Core.Bool.{Bool, true, false}
use Rattle.ground.specs.Choice.{chosen}
use Rattle.rules.specs.Supply as rules
use Rattle.rules.specs.Supply.{numbering}
use Rattle.rules.specs.Ends.{absent, numbers_after, same}
use Rattle.rules.specs.Offered as offered
use Rattle.rules.specs.Offered.{moved, unmoved}
use Rattle.numbers.specs.Numbers.{numbers_means, numbers_back, numbers_taken, numbers_moved, took, move_back}
use Rattle.numbers.specs.declared.Numbers.{Numbers}

-- a number is taken only where one is next
abbrev pub Takeable : offered.Move → rules.Numbers → Type 0
Takeable offered.unmoved s = Unit {0}
Takeable offered.took_one s = absent (numbering.next s) ≡ false
Takeable offered.came_back s = Unit {0}

pub moved_so : (m : offered.Move) (s : rules.Numbers) → Takeable m s → numbers_moved (move_back m) (numbers_back s) ≡ numbers_back (moved numbering m s)
unfolding moved numbers_taken chosen
moved_so offered.unmoved s h = refl
moved_so offered.took_one s h = rw h
moved_so offered.came_back s h = refl

-- an end that stays up or down, and takes a number or not
pub took_so : (b : Bool) (n : Numbers) → (b ≡ true → absent (numbering.next (numbers_means n)) ≡ false) → numbers_moved (took b) n ≡ numbers_back (numbers_after numbering same b (numbers_means n))
unfolding numbers_taken numbers_after chosen
took_so true n h = rw (h refl)
took_so false n h = refl

-- the same with the number on offer
pub took_offered : (b : Bool) (o : offered.Offer) → o.move ≡ unmoved → took b ≡ move_back (numbers_after offered.offered same b o).move
unfolding numbers_after
took_offered true o h = refl
took_offered false o h = rw h
