-- Each promise of the crate determines its answer.
use mathlib.Core.Path.{sym, ◌∙◌}
use Rattle.ground.proofs.Promise.{Determined}
use Rattle.ends.proofs.Report.refusal.Kinds as refusal-kinds
use Rattle.ends.proofs.Report.refusal.Reads as refusal
use Rattle.ends.proofs.packets.to_controller.Kinds as to-controller-kinds
use Rattle.ends.proofs.packets.to_controller.Reads as to-controller
use Rattle.ends.proofs.packets.to_console.Kinds as to-console-kinds
use Rattle.ends.proofs.packets.to_console.Reads as to-console
use Rattle.ends.proofs.packets.for_controller.Kinds as for-controller-kinds
use Rattle.ends.proofs.packets.for_controller.Reads as for-controller
use Rattle.ends.proofs.packets.for_console.Kinds as for-console-kinds
use Rattle.ends.proofs.packets.for_console.Reads as for-console
use Rattle.ends.proofs.packets.delivers.Kinds as delivers-kinds
use Rattle.ends.proofs.packets.delivers.Reads as delivers

pub to_controller_determined : Determined to-controller-kinds.ps to-controller-kinds.r to-controller.Post
to_controller_determined κs a x y s t p q = p ∙ sym q

pub to_console_determined : Determined to-console-kinds.ps to-console-kinds.r to-console.Post
to_console_determined κs a x y s t p q = p ∙ sym q

pub for_controller_determined : Determined for-controller-kinds.ps for-controller-kinds.r for-controller.Post
for_controller_determined κs a x y s t p q = p.0 ∙ sym q.0

pub for_console_determined : Determined for-console-kinds.ps for-console-kinds.r for-console.Post
for_console_determined κs a x y s t p q = p.0 ∙ sym q.0

pub delivers_determined : Determined delivers-kinds.ps delivers-kinds.r delivers.Post
delivers_determined κs a x y s t p q = p ∙ sym q

pub refusal_determined : Determined refusal-kinds.ps refusal-kinds.r refusal.Post
refusal_determined κs a x y s t p q = p ∙ sym q
