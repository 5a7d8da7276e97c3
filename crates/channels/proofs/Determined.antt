-- Each promise of the crate determines its answer, and the lent table afterwards.
use mathlib.Core.Path.{refl, sym, ◌∙◌}
use Rattle.ground.proofs.Promise.{Determined, DeterminedWith}
use Rattle.channels.proofs.check.head_at.Kinds as head-at-kinds
use Rattle.channels.proofs.check.head_at.Reads as head-at
use Rattle.channels.proofs.check.packet_at.Kinds as packet-at-kinds
use Rattle.channels.proofs.check.packet_at.Reads as packet-at
use Rattle.channels.proofs.check.table_ok.Kinds as table-ok-kinds
use Rattle.channels.proofs.check.table_ok.Reads as table-ok
use Rattle.channels.proofs.change.add.Kinds as add-kinds
use Rattle.channels.proofs.change.add.Reads as add

pub head_at_determined : Determined head-at-kinds.ps head-at-kinds.r head-at.Post
head_at_determined κs a x y s t p q = p ∙ sym q

pub packet_at_determined : Determined packet-at-kinds.ps packet-at-kinds.r packet-at.Post
packet_at_determined κs a x y s t p q = p ∙ sym q

pub table_ok_determined : Determined table-ok-kinds.ps table-ok-kinds.r table-ok.Post
table_ok_determined κs a x y s t p q = p ∙ sym q

pub add_determined : DeterminedWith add-kinds.ps add-kinds.r add.Post (λ κs s. s.0.now)
add_determined κs a x y s t p q = (refl, p ∙ sym q)
