-- The numbers count up, in blocks.
use mathlib.Core.Path.{◌≡◌}
use native.Mathlib.Omega.{arith}
use Rattle.std.proofs.lemmas.Bool.Decides.{nat_tests}
use Rattle.ground.specs.Choice.{chosen}
use Rattle.rules.specs.Supply as rules
use Rattle.rules.specs.Supply.{numbering, next_counted, numbers_rules}
use Rattle.rules.specs.Ends.{absent}
use Rattle.numbers.specs.Numbers.{number_or0, given, numbers_taken}

-- `unfolding counting` opens every definition of what the functions promise
unfoldable pub counting : Unit {0}
unfolding numbers_rules numbers_taken absent chosen
counting = tt

-- what is next, handed on as a number or 0, is what is next
pub next_given : (s : rules.Numbers) → given (number_or0 (numbering.next s)) ≡ numbering.next s
unfolding given next_counted chosen
next_given s = grind (arith, nat_tests)
