-- The promise of each end run alone determines its outcome and the reply buffer afterwards.
use mathlib.Core.Path.{sym, ap, ◌∙◌}
use Rattle.ground.proofs.Promise.{DeterminedWith}
use Rattle.alone.specs.ConsoleAlone.{ConsoleAlone}
use Rattle.alone.specs.ControllerAlone.{ControllerAlone}
use Rattle.alone.proofs.console.step.Kinds as console-step-kinds
use Rattle.alone.proofs.console.step.Reads as console-step
use Rattle.alone.proofs.controller.step.Kinds as controller-step-kinds
use Rattle.alone.proofs.controller.step.Reads as controller-step

pub console_step_determined : DeterminedWith console-step-kinds.ps console-step-kinds.r console-step.Post (λ κs s. s.1.1.1.1.0.now)
console_step_determined κs a x y s t p q =
    let e = p ∙ sym q in (ap (λ (r : ConsoleAlone). r.outcome) e, ap (λ (r : ConsoleAlone). r.reply) e)

pub controller_step_determined : DeterminedWith controller-step-kinds.ps controller-step-kinds.r controller-step.Post (λ κs s. s.1.1.1.0.now)
controller_step_determined κs a x y s t p q =
    let e = p ∙ sym q in (ap (λ (r : ControllerAlone). r.outcome) e, ap (λ (r : ControllerAlone). r.reply) e)
