-- Programs that the promises rule out, each at one input.
use Rattle.std.proofs.Common.{◌≡◌, refl, sym, ap, ◌∙◌, true, false, true≢false, [], ◌∷◌, ◌++◌, length, get_or, take, replicate, ◌-◌}
use Rattle.ground.specs.Block.{is_block}
use Rattle.ground.specs.Cell.{cell, cells, is_message, spaces}
use Rattle.ground.specs.Every.{filled}
use Rattle.ground.specs.Refusals.{number_of}
use Rattle.ground.specs.declared.refusals.Refusal.TheVariants.{NoAction, WrongVersion, WrongField}
use Rattle.ground.proofs.Promise.{RulesOut, unequal}
use Rattle.ground.proofs.is_block.Kinds as is-block-kinds
use Rattle.ground.proofs.is_block.Reads as is-block
use Rattle.ground.proofs.all_cells.Kinds as all-cells-kinds
use Rattle.ground.proofs.all_cells.Reads as all-cells
use Rattle.ground.proofs.is_message.Kinds as is-message-kinds
use Rattle.ground.proofs.is_message.Reads as is-message
use Rattle.ground.proofs.all_are.Kinds as all-are-kinds
use Rattle.ground.proofs.all_are.Reads as all-are
use Rattle.ground.proofs.refusals.RefusalPartialEq.eq.Kinds as same-refusal-kinds
use Rattle.ground.proofs.refusals.RefusalPartialEq.eq.Reads as same-refusal
use Rattle.ground.proofs.refusals.U8FromRefusal.from.Kinds as number-kinds
use Rattle.ground.proofs.refusals.U8FromRefusal.from.Reads as number

pub block_0_is_one : RulesOut is-block-kinds.ps is-block-kinds.r is-block.Post (λ κs a. a.0 ≡ 0) (λ κs a x s. x ≡ true)
block_0_is_one κs a x s e w p = true≢false (sym w ∙ p ∙ ap is_block e)

pub block_1024_is_none : RulesOut is-block-kinds.ps is-block-kinds.r is-block.Post (λ κs a. a.0 ≡ 1024) (λ κs a x s. x ≡ false)
block_1024_is_none κs a x s e w p = true≢false (sym (p ∙ ap is_block e) ∙ w)

pub block_1025_is_one : RulesOut is-block-kinds.ps is-block-kinds.r is-block.Post (λ κs a. a.0 ≡ 1025) (λ κs a x s. x ≡ true)
block_1025_is_one κs a x s e w p = true≢false (sym w ∙ p ∙ ap is_block e)

pub all_cells_always_yes : RulesOut all-cells-kinds.ps all-cells-kinds.r all-cells.Post (λ κs a. a.0.now ≡ 0x7F ∷ []) (λ κs a x s. x ≡ true)
unfolding cells
all_cells_always_yes κs a x s e w p = true≢false (sym w ∙ p ∙ ap cells e)

pub all_cells_looks_at_the_first : RulesOut all-cells-kinds.ps all-cells-kinds.r all-cells.Post (λ κs a. a.0.now ≡ 0x20 ∷ 0x7F ∷ []) (λ κs a x s. x ≡ cell (get_or a.0.now 0 0))
unfolding cells
all_cells_looks_at_the_first κs a x s e w p = true≢false (sym (w ∙ ap (λ l. cell (get_or l 0 0)) e) ∙ p ∙ ap cells e)

pub is_message_always_no : RulesOut is-message-kinds.ps is-message-kinds.r is-message.Post (λ κs a. a.0.now ≡ spaces) (λ κs a x s. x ≡ false)
unfolding is_message cells
is_message_always_no κs a x s e w p = true≢false (sym (p ∙ ap is_message e) ∙ w)

pub is_message_leaves_out_the_last : RulesOut is-message-kinds.ps is-message-kinds.r is-message.Post (λ κs a. a.0.now ≡ replicate 15 0x20 ++ (0x7F ∷ [])) (λ κs a x s. x ≡ cells (take 15 a.0.now))
unfolding is_message cells
is_message_leaves_out_the_last κs a x s e w p = true≢false (sym (w ∙ ap (λ l. cells (take 15 l)) e) ∙ p ∙ ap is_message e)

pub all_are_always_yes : RulesOut all-are-kinds.ps all-are-kinds.r all-are.Post (λ κs a. (a.0.now ≡ 1 ∷ []) × (a.1.0 ≡ 0)) (λ κs a x s. x ≡ true)
unfolding filled
all_are_always_yes κs a x s e w p = true≢false (sym w ∙ p ∙ (λ i. filled (e.1 i) (e.0 i)))

pub all_are_leaves_out_the_last : RulesOut all-are-kinds.ps all-are-kinds.r all-are.Post (λ κs a. (a.0.now ≡ 0 ∷ 1 ∷ []) × (a.1.0 ≡ 0)) (λ κs a x s. x ≡ filled a.1.0 (take (length a.0.now - 1) a.0.now))
unfolding filled
all_are_leaves_out_the_last κs a x s e w p = true≢false (sym (w ∙ (λ i. filled (e.1 i) (take (length (e.0 i) - 1) (e.0 i)))) ∙ p ∙ (λ i. filled (e.1 i) (e.0 i)))

-- the first refusal says that nothing was refused
pub counts_refusals_from_0 : RulesOut number-kinds.ps number-kinds.r number.Post (λ κs a. a.0 ≡ NoAction) (λ κs a x s. x ≡ 0)
counts_refusals_from_0 κs a x s e w p = unequal (sym w ∙ p ∙ ap number_of e) refl

-- one number for two refusals
pub field_numbered_as_version : RulesOut number-kinds.ps number-kinds.r number.Post (λ κs a. a.0 ≡ WrongField) (λ κs a x s. x ≡ 14)
field_numbered_as_version κs a x s e w p = unequal (sym w ∙ p ∙ ap number_of e) refl

pub every_refusal_is_the_same : RulesOut same-refusal-kinds.ps same-refusal-kinds.r same-refusal.Post (λ κs a. (a.0.now ≡ WrongVersion) × (a.1.0.now ≡ WrongField)) (λ κs a x s. x ≡ true)
every_refusal_is_the_same κs a x s e w p = let q : x ≡ false = rw (e.0, e.1) at p in true≢false (sym w ∙ q)

pub no_refusal_is_the_same : RulesOut same-refusal-kinds.ps same-refusal-kinds.r same-refusal.Post (λ κs a. (a.0.now ≡ NoAction) × (a.1.0.now ≡ NoAction)) (λ κs a x s. x ≡ false)
no_refusal_is_the_same κs a x s e w p = let q : x ≡ true = rw (e.0, e.1) at p in true≢false (sym q ∙ w)
