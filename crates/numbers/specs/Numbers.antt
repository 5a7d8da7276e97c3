-- An end's numbers in the rules, and back. Assumes nothing.
use Rattle.std.specs.Prelude.{ℕ, Bool, true, false, eqb}
use Rattle.std.proofs.Math.Option as maybe
use Rattle.std.proofs.Math.Option.{none, some}
use Rattle.ground.specs.Choice.{when◌then◌else◌}
use Rattle.rules.specs.Supply as rules
use Rattle.rules.specs.Supply.{numbering}
use Rattle.rules.specs.Ends.{absent}
use Rattle.rules.specs.Offered as offered
use Rattle.numbers.specs.declared.Move.{Move}
use Rattle.numbers.specs.declared.Move.TheVariants.{Stay, Take, Back}
use Rattle.numbers.specs.declared.Numbers.{Numbers}

abbrev pub numbers_means : Numbers → rules.Numbers
numbers_means n = record { last = n.used; reserved = n.reserved; block = n.block }

abbrev pub numbers_back : rules.Numbers → Numbers
numbers_back s = record { used = s.last; reserved = s.reserved; block = s.block }

-- as a number record holds them
abbrev pub numbers_kept : ℕ → ℕ → Numbers
numbers_kept reserved block = numbers_back (rules.stored reserved block)

-- a fresh end has used the numbers up to this one
abbrev pub numbers_fresh : ℕ → Numbers
numbers_fresh used = numbers_back (rules.fresh_numbers used)

-- ## A number, or none, which is 0

abbrev pub number_or0 : maybe.Option ℕ → ℕ
number_or0 none = 0
number_or0 (some n) = n

unfoldable pub given : ℕ → maybe.Option ℕ
given n = when eqb n 0 then none else some n

-- ## What a step does to them

-- of numbers that are spent nothing is taken
unfoldable pub numbers_taken : Numbers → Numbers
numbers_taken n = when absent (numbering.next (numbers_means n)) then n else numbers_back (numbering.take (numbers_means n))

abbrev pub numbers_moved : Move → Numbers → Numbers
numbers_moved Stay n = n
numbers_moved Take n = numbers_taken n
numbers_moved Back n = numbers_back (numbering.back (numbers_means n))

-- was a number taken?
abbrev pub took : Bool → Move
took true = Take
took false = Stay

abbrev pub move_means : Move → offered.Move
move_means Stay = offered.unmoved
move_means Take = offered.took_one
move_means Back = offered.came_back

abbrev pub move_back : offered.Move → Move
move_back offered.unmoved = Stay
move_back offered.took_one = Take
move_back offered.came_back = Back
