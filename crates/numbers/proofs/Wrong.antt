-- Programs that the promises rule out, each at one input.
use Prim.Native.Nat.{ℕ}
use mathlib.Core.Path.{◌≡◌, refl, sym, ap, ◌∙◌}
use mathlib.Core.Bool.{true, false, true≢false, false≢true}
use Rattle.std.specs.Prelude.{Option, None, Some}
use Rattle.std.specs.Option.{unwrap_or}
use Rattle.ground.specs.Choice.{chosen}
use Rattle.ground.proofs.Promise.{RulesOut, unequal}
use Rattle.rules.specs.Supply.{numbering, largest, numbers_rules}
use Rattle.rules.specs.Ends.{absent}
use Rattle.ground.specs.Options.{option_back}
use Rattle.numbers.specs.Numbers.{numbers_means, numbers_back, numbers_kept, numbers_fresh, numbers_taken, numbers_moved}
use Rattle.numbers.specs.declared.Move.TheVariants.{Stay, Take, Back}
use Rattle.numbers.specs.declared.Numbers.{Numbers}
use Rattle.numbers.proofs.Numbers.kept.Kinds as kept-kinds
use Rattle.numbers.proofs.Numbers.kept.Reads as kept
use Rattle.numbers.proofs.Numbers.fresh.Kinds as fresh-kinds
use Rattle.numbers.proofs.Numbers.fresh.Reads as fresh
use Rattle.numbers.proofs.Numbers.next.Kinds as next-kinds
use Rattle.numbers.proofs.Numbers.next.Reads as next
use Rattle.numbers.proofs.Numbers.back.Kinds as back-kinds
use Rattle.numbers.proofs.Numbers.back.Reads as back
use Rattle.numbers.proofs.Numbers.after.Kinds as after-kinds
use Rattle.numbers.proofs.Numbers.after.Reads as after
use Rattle.numbers.proofs.Numbers.is_used.Kinds as is-used-kinds
use Rattle.numbers.proofs.Numbers.is_used.Reads as is-used
use Rattle.numbers.proofs.Numbers.is_sound.Kinds as is-sound-kinds
use Rattle.numbers.proofs.Numbers.is_sound.Reads as is-sound

abbrev up_to : ℕ → Numbers
up_to n = numbers_fresh n

-- last used, reserved, block
abbrev in_block : ℕ → ℕ → ℕ → Numbers
in_block used reserved block = record { used = used; reserved = reserved; block = block }

abbrev last : Numbers → ℕ
last n = n.used

abbrev reserved : Numbers → ℕ
reserved n = n.reserved

abbrev number : Option ℕ → ℕ
number o = unwrap_or o 0

-- one number of a record is not used
pub kept_is_one_short : RulesOut kept-kinds.ps kept-kinds.r kept.Post (λ κs a. (a.0 ≡ 64) × (a.1.0 ≡ 64)) (λ κs a x s. x.used ≡ 63)
kept_is_one_short κs a x s e w p = unequal (sym w ∙ ap last (p ∙ (λ i. numbers_kept (e.0 i) (e.1 i)))) refl

-- a record's block is forgotten
pub kept_with_block_64 : RulesOut kept-kinds.ps kept-kinds.r kept.Post (λ κs a. (a.0 ≡ 64) × (a.1.0 ≡ 1)) (λ κs a x s. x.block ≡ 64)
kept_with_block_64 κs a x s e w p = unequal (sym w ∙ ap (λ (n : Numbers). n.block) (p ∙ (λ i. numbers_kept (e.0 i) (e.1 i)))) refl

pub fresh_counts_from_0 : RulesOut fresh-kinds.ps fresh-kinds.r fresh.Post (λ κs a. a.0 ≡ 3) (λ κs a x s. x.used ≡ 0)
fresh_counts_from_0 κs a x s e w p = unequal (sym w ∙ ap last (p ∙ ap numbers_fresh e)) refl

pub fresh_is_one_ahead : RulesOut fresh-kinds.ps fresh-kinds.r fresh.Post (λ κs a. a.0 ≡ 3) (λ κs a x s. x.used ≡ 4)
fresh_is_one_ahead κs a x s e w p = unequal (sym w ∙ ap last (p ∙ ap numbers_fresh e)) refl

pub gives_1_again : RulesOut next-kinds.ps next-kinds.r next.Post (λ κs a. a.0 ≡ up_to 3) (λ κs a x s. x ≡ Some 1)
unfolding numbers_rules chosen
gives_1_again κs a x s e w p = unequal (ap number (sym w ∙ p ∙ ap (λ (n : Numbers). option_back (numbering.next (numbers_means n))) e)) refl

pub starts_over_after_the_largest : RulesOut next-kinds.ps next-kinds.r next.Post (λ κs a. a.0 ≡ up_to largest) (λ κs a x s. x ≡ Some 1)
unfolding numbers_rules chosen
starts_over_after_the_largest κs a x s e w p = unequal (ap number (sym w ∙ p ∙ ap (λ (n : Numbers). option_back (numbering.next (numbers_means n))) e)) refl

-- coming back leaves last used: the numbers that were taken after the record was kept would be given again
pub back_leaves_last_used : RulesOut back-kinds.ps back-kinds.r back.Post (λ κs a. a.0 ≡ in_block 3 64 64) (λ κs a x s. x.used ≡ 3)
unfolding numbers_rules chosen
back_leaves_last_used κs a x s e w p = unequal (sym w ∙ ap last (p ∙ ap (λ (n : Numbers). numbers_back (numbering.back (numbers_means n))) e)) refl

pub back_starts_at_0 : RulesOut back-kinds.ps back-kinds.r back.Post (λ κs a. a.0 ≡ up_to 3) (λ κs a x s. x.used ≡ 0)
unfolding numbers_rules chosen
back_starts_at_0 κs a x s e w p = unequal (sym w ∙ ap last (p ∙ ap (λ (n : Numbers). numbers_back (numbering.back (numbers_means n))) e)) refl

-- the number that was taken last is given again
pub back_gives_one_back : RulesOut back-kinds.ps back-kinds.r back.Post (λ κs a. a.0 ≡ up_to 3) (λ κs a x s. x.used ≡ 2)
unfolding numbers_rules chosen
back_gives_one_back κs a x s e w p = unequal (sym w ∙ ap last (p ∙ ap (λ (n : Numbers). numbers_back (numbering.back (numbers_means n))) e)) refl

pub takes_one_and_stays : RulesOut after-kinds.ps after-kinds.r after.Post (λ κs a. (a.0 ≡ up_to 3) × (a.1.0 ≡ Take)) (λ κs a x s. x.used ≡ 3)
unfolding numbers_taken absent numbers_rules chosen
takes_one_and_stays κs a x s e w p = unequal (sym w ∙ ap last (p ∙ (λ i. numbers_moved (e.1 i) (e.0 i)))) refl

pub stays_and_takes_one : RulesOut after-kinds.ps after-kinds.r after.Post (λ κs a. (a.0 ≡ up_to 3) × (a.1.0 ≡ Stay)) (λ κs a x s. x.used ≡ 4)
stays_and_takes_one κs a x s e w p = unequal (sym w ∙ ap last (p ∙ (λ i. numbers_moved (e.1 i) (e.0 i)))) refl

pub a_number_above_last_used_is_used : RulesOut is-used-kinds.ps is-used-kinds.r is-used.Post (λ κs a. (a.0 ≡ up_to 3) × (a.1.0 ≡ 4)) (λ κs a x s. x ≡ true)
a_number_above_last_used_is_used κs a x s e w p = true≢false (sym w ∙ p ∙ (λ i. numbering.used (numbers_means (e.0 i)) (e.1 i)))

pub last_used_is_not_used : RulesOut is-used-kinds.ps is-used-kinds.r is-used.Post (λ κs a. (a.0 ≡ up_to 3) × (a.1.0 ≡ 3)) (λ κs a x s. x ≡ false)
last_used_is_not_used κs a x s e w p = false≢true (sym w ∙ p ∙ (λ i. numbering.used (numbers_means (e.0 i)) (e.1 i)))

-- spent is last used at the largest, not reserved
pub spent_where_all_is_reserved : RulesOut next-kinds.ps next-kinds.r next.Post (λ κs a. a.0 ≡ in_block 4294967286 largest 64) (λ κs a x s. x ≡ None)
unfolding numbers_rules chosen
spent_where_all_is_reserved κs a x s e w p = unequal (ap number (sym w ∙ p ∙ ap (λ (n : Numbers). option_back (numbering.next (numbers_means n))) e)) refl

-- a number that is reserved and was not taken counts as used
pub a_reserved_number_is_used : RulesOut is-used-kinds.ps is-used-kinds.r is-used.Post (λ κs a. (a.0 ≡ in_block 3 64 64) × (a.1.0 ≡ 5)) (λ κs a x s. x ≡ true)
a_reserved_number_is_used κs a x s e w p = true≢false (sym w ∙ p ∙ (λ i. numbering.used (numbers_means (e.0 i)) (e.1 i)))

pub fresh_numbers_are_unsound : RulesOut is-sound-kinds.ps is-sound-kinds.r is-sound.Post (λ κs a. a.0 ≡ up_to 0) (λ κs a x s. x ≡ false)
fresh_numbers_are_unsound κs a x s e w p = false≢true (sym w ∙ p ∙ ap (λ (n : Numbers). numbering.sound (numbers_means n)) e)

pub spent_numbers_are_unsound : RulesOut is-sound-kinds.ps is-sound-kinds.r is-sound.Post (λ κs a. a.0 ≡ up_to largest) (λ κs a x s. x ≡ false)
spent_numbers_are_unsound κs a x s e w p = false≢true (sym w ∙ p ∙ ap (λ (n : Numbers). numbering.sound (numbers_means n)) e)

-- a block outside 1 to 1,024, last used above reserved: refusal 2
pub block_0_is_sound : RulesOut is-sound-kinds.ps is-sound-kinds.r is-sound.Post (λ κs a. a.0 ≡ in_block 3 64 0) (λ κs a x s. x ≡ true)
block_0_is_sound κs a x s e w p = true≢false (sym w ∙ p ∙ ap (λ (n : Numbers). numbering.sound (numbers_means n)) e)

pub block_1025_is_sound : RulesOut is-sound-kinds.ps is-sound-kinds.r is-sound.Post (λ κs a. a.0 ≡ in_block 3 64 1025) (λ κs a x s. x ≡ true)
block_1025_is_sound κs a x s e w p = true≢false (sym w ∙ p ∙ ap (λ (n : Numbers). numbering.sound (numbers_means n)) e)

pub block_1024_is_unsound : RulesOut is-sound-kinds.ps is-sound-kinds.r is-sound.Post (λ κs a. a.0 ≡ in_block 3 64 1024) (λ κs a x s. x ≡ false)
block_1024_is_unsound κs a x s e w p = false≢true (sym w ∙ p ∙ ap (λ (n : Numbers). numbering.sound (numbers_means n)) e)

pub last_used_above_reserved_is_sound : RulesOut is-sound-kinds.ps is-sound-kinds.r is-sound.Post (λ κs a. a.0 ≡ in_block 65 64 64) (λ κs a x s. x ≡ true)
last_used_above_reserved_is_sound κs a x s e w p = true≢false (sym w ∙ p ∙ ap (λ (n : Numbers). numbering.sound (numbers_means n)) e)

-- ## What is reserved when one is taken

-- it grows at every number: the flash wears as before
pub grows_within_the_block : RulesOut after-kinds.ps after-kinds.r after.Post (λ κs a. (a.0 ≡ in_block 3 64 64) × (a.1.0 ≡ Take)) (λ κs a x s. x.reserved ≡ 128)
unfolding numbers_taken absent numbers_rules chosen
grows_within_the_block κs a x s e w p = unequal (sym w ∙ ap reserved (p ∙ (λ i. numbers_moved (e.1 i) (e.0 i)))) refl

-- it stays where all of it is used: the number is not reserved
pub stays_at_the_end_of_the_block : RulesOut after-kinds.ps after-kinds.r after.Post (λ κs a. (a.0 ≡ in_block 64 64 64) × (a.1.0 ≡ Take)) (λ κs a x s. x.reserved ≡ 64)
unfolding numbers_taken absent numbers_rules chosen
stays_at_the_end_of_the_block κs a x s e w p = unequal (sym w ∙ ap reserved (p ∙ (λ i. numbers_moved (e.1 i) (e.0 i)))) refl

-- it runs over the largest number, and starts again from 0
pub grows_past_the_largest : RulesOut after-kinds.ps after-kinds.r after.Post (λ κs a. (a.0 ≡ in_block 4294967292 4294967292 1024) × (a.1.0 ≡ Take)) (λ κs a x s. x.reserved ≡ 1020)
unfolding numbers_taken absent numbers_rules chosen
grows_past_the_largest κs a x s e w p = unequal (sym w ∙ ap reserved (p ∙ (λ i. numbers_moved (e.1 i) (e.0 i)))) refl

pub taking_starts_over : RulesOut after-kinds.ps after-kinds.r after.Post (λ κs a. (a.0 ≡ up_to largest) × (a.1.0 ≡ Take)) (λ κs a x s. x.used ≡ 0)
unfolding numbers_taken absent numbers_rules chosen
taking_starts_over κs a x s e w p = unequal (sym w ∙ ap last (p ∙ (λ i. numbers_moved (e.1 i) (e.0 i)))) refl

pub coming_back_starts_at_0 : RulesOut after-kinds.ps after-kinds.r after.Post (λ κs a. (a.0 ≡ up_to 3) × (a.1.0 ≡ Back)) (λ κs a x s. x.used ≡ 0)
unfolding numbers_taken numbers_rules chosen
coming_back_starts_at_0 κs a x s e w p = unequal (sym w ∙ ap last (p ∙ (λ i. numbers_moved (e.1 i) (e.0 i)))) refl
