-- Each promise of the crate determines its answer.
use Rattle.std.proofs.Common.{sym, ◌∙◌}
use Rattle.ground.proofs.Promise.{Determined}
use Rattle.ground.proofs.is_block.Kinds as is-block-kinds
use Rattle.ground.proofs.is_block.Reads as is-block
use Rattle.ground.proofs.all_cells.Kinds as all-cells-kinds
use Rattle.ground.proofs.all_cells.Reads as all-cells
use Rattle.ground.proofs.is_message.Kinds as is-message-kinds
use Rattle.ground.proofs.is_message.Reads as is-message
use Rattle.ground.proofs.all_are.Kinds as all-are-kinds
use Rattle.ground.proofs.all_are.Reads as all-are
use Rattle.ground.proofs.refusals.RefusalPartialEq.eq.Kinds as same-refusal-kinds
use Rattle.ground.proofs.refusals.RefusalPartialEq.eq.Reads as same-refusal
use Rattle.ground.proofs.refusals.U8FromRefusal.from.Kinds as number-kinds
use Rattle.ground.proofs.refusals.U8FromRefusal.from.Reads as number

pub is_block_determined : Determined is-block-kinds.ps is-block-kinds.r is-block.Post
is_block_determined κs a x y s t p q = p ∙ sym q

pub all_cells_determined : Determined all-cells-kinds.ps all-cells-kinds.r all-cells.Post
all_cells_determined κs a x y s t p q = p ∙ sym q

pub is_message_determined : Determined is-message-kinds.ps is-message-kinds.r is-message.Post
is_message_determined κs a x y s t p q = p ∙ sym q

pub all_are_determined : Determined all-are-kinds.ps all-are-kinds.r all-are.Post
all_are_determined κs a x y s t p q = p ∙ sym q

pub number_determined : Determined number-kinds.ps number-kinds.r number.Post
number_determined κs a x y s t p q = p ∙ sym q

pub same_refusal_determined : Determined same-refusal-kinds.ps same-refusal-kinds.r same-refusal.Post
same_refusal_determined κs a x y s t p q = p ∙ sym q
