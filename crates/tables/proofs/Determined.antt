-- Each promise of the crate determines its answer, and the lent table afterwards.
use Rattle.std.proofs.Common.{refl, sym, ◌∙◌}
use Rattle.ground.proofs.Promise.{Determined, DeterminedWith}
use Rattle.tables.proofs.change.take_out.Kinds as take-out-kinds
use Rattle.tables.proofs.change.take_out.Reads as take-out
use Rattle.tables.proofs.change.clear.Kinds as clear-kinds
use Rattle.tables.proofs.change.clear.Reads as clear
use Rattle.tables.proofs.shown.show_refusal.Kinds as show-refusal-kinds
use Rattle.tables.proofs.shown.show_refusal.Reads as show-refusal
use Rattle.tables.proofs.shown.show.Kinds as show-kinds
use Rattle.tables.proofs.shown.show.Reads as show

pub take_out_determined : DeterminedWith take-out-kinds.ps take-out-kinds.r take-out.Post (λ κs s. s.0.now)
take_out_determined κs a x y s t p q = (refl, p ∙ sym q)

pub clear_determined : DeterminedWith clear-kinds.ps clear-kinds.r clear.Post (λ κs s. s.0.now)
clear_determined κs a x y s t p q = (refl, p ∙ sym q)

pub show_refusal_determined : Determined show-refusal-kinds.ps show-refusal-kinds.r show-refusal.Post
show_refusal_determined κs a x y s t p q = p ∙ sym q

-- of a part, its bytes and where it lies
pub show_determined : Determined show-kinds.ps show-kinds.r show.Post
show_determined κs a x y s t p q = p ∙ sym q
