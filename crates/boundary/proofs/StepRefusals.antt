-- A refusal leaves all as it was: the steps of both ends and of the bench, over their own promises. What is told from 1 to 31 is a refusal.
use Prim.Native.Nat.{ℕ}
use mathlib.Core.Path.{◌≡◌, ap, subst, ◌∙◌}
use mathlib.Core.Bool.{false}
use mathlib.Core.List.{List}
use Rattle.ground.specs.Bytes.{Bytes}
use Rattle.ground.specs.Choice.{chosen}
use Rattle.ground.specs.Refusals.{refusal_of}
use Rattle.ground.proofs.Promise.{RefusalLeaves}
use Rattle.alone.specs.ConsoleAlone.{console_alone}
use Rattle.alone.specs.ControllerAlone.{controller_alone}
use Rattle.alone.proofs.Refusals.{console_refusal_leaves, controller_refusal_leaves}
use Rattle.bench.specs.declared.Action.{Action}
use Rattle.boundary.specs.State.{changed}
use Rattle.boundary.specs.Console as console
use Rattle.boundary.specs.Controller as controller
use Rattle.boundary.specs.Benches.{StepPut, step_result}
use Rattle.boundary.proofs.BenchRefusals.{console_long, bench_refusal_leaves}
use Rattle.boundary.proofs.ToldByte.{Refusal, told_refused}
use Rattle.boundary.proofs.console.nooseless_console_step.Kinds as console-kinds
use Rattle.boundary.proofs.console.nooseless_console_step.Reads as console-step
use Rattle.boundary.proofs.controller.nooseless_controller_step.Kinds as controller-kinds
use Rattle.boundary.proofs.controller.nooseless_controller_step.Reads as controller-step
use Rattle.boundary.proofs.benches.nooseless_bench_step.Kinds as bench-kinds
use Rattle.boundary.proofs.benches.nooseless_bench_step.Reads as bench-step

-- ## A console: its state and the reply buffer

console_left : (s : List ℕ) (l : ℕ) (m packet reply : List ℕ) → Refusal (console.console_state_step s l m packet reply).told → (n : ℕ) × (console.console_state_step s l m packet reply ≡ record { told = n; state = s; reply = reply })
unfolding chosen
console_left s l m packet reply h =
    let a = console_alone (console.console_at s) l m packet reply in
    let q = refusal_of (console.stepped s a).told in
    let e = told_refused a.outcome.report a.outcome.sent (changed (console.console_at s).numbers a.outcome.console.numbers) h in
    (_, ap (console.stepped s) (console_refusal_leaves (console.console_at s) (console_long s) m reply l packet q e))

pub console_step_refusal_leaves : RefusalLeaves console-kinds.ps console-kinds.r console-step.Post (λ κs a. Unit {0}) (λ κs x. Refusal x) {B = List ℕ × List ℕ} (λ κs a. (a.0.now, a.1.1.1.1.0.now)) (λ κs x s. (s.0.now, s.1.1.1.1.0.now))
console_step_refusal_leaves κs a x s t z p =
    let q = console_left a.0.now a.1.0 a.1.1.0.now a.1.1.1.0.now a.1.1.1.1.0.now (subst Refusal (ap (λ (r : console.ConsoleStep). r.told) p) z) in
    ap (λ (r : console.ConsoleStep). (r.state, r.reply)) (p ∙ q.1)

-- ## A controller: its state, the reply buffer and the bytes lent for a delivery

controller_left : (s : List ℕ) (l : ℕ) (packet reply out : List ℕ) → Refusal (controller.controller_state_step s l packet reply out).told → (n : ℕ) × (controller.controller_state_step s l packet reply out ≡ record { told = n; state = s; reply = reply; delivered = out })
unfolding chosen
controller_left s l packet reply out h =
    let a = controller_alone (controller.controller_at s) l packet reply in
    let q = refusal_of (controller.stepped s out a).told in
    let e = told_refused a.outcome.report a.outcome.sent (changed (controller.controller_at s).numbers a.outcome.controller.numbers) h in
    (_, ap (controller.stepped s out) (controller_refusal_leaves (controller.controller_at s) reply l packet q e))

pub controller_step_refusal_leaves : RefusalLeaves controller-kinds.ps controller-kinds.r controller-step.Post (λ κs a. Unit {0}) (λ κs x. Refusal x) {B = List ℕ × List ℕ × List ℕ} (λ κs a. (a.0.now, a.1.1.1.0.now, a.1.1.1.1.0.now)) (λ κs x s. (s.0.now, s.1.1.1.0.now, s.1.1.1.1.0.now))
controller_step_refusal_leaves κs a x s t z p =
    let q = controller_left a.0.now a.1.0 a.1.1.0.now a.1.1.1.0.now a.1.1.1.1.0.now (subst Refusal (ap (λ (r : controller.ControllerStep). r.told) p) z) in
    ap (λ (r : controller.ControllerStep). (r.state, r.reply, r.delivered)) (p ∙ q.1)

-- ## A bench: its state, both tables and the bytes lent for a delivery

pub bench_step_refusal_leaves : RefusalLeaves bench-kinds.ps bench-kinds.r bench-step.Post (λ κs a. Bytes a.0.now × Bytes a.1.0.now × Bytes a.1.1.0.now) (λ κs x. Refusal x) {B = List ℕ × List ℕ × List ℕ × List ℕ} (λ κs a. (a.0.now, a.1.0.now, a.1.1.0.now, a.1.1.1.1.1.1.1.0.now)) (λ κs x s. (s.0.now, s.1.0.now, s.1.1.0.now, s.1.1.1.1.1.1.1.0.now))
bench_step_refusal_leaves κs a x s t z p =
    let does : Action = record { letter = a.1.1.1.0; place = a.1.1.1.1.0; copies = a.1.1.1.1.1.0; message = a.1.1.1.1.1.1.0.now } in
    let r = step_result a.0.now does a.1.0.now a.1.1.0.now in
    let d = a.1.1.1.1.1.1.1.0.now in
    let e = told_refused r.outcome.report false false (subst Refusal (ap (λ (b : StepPut). b.told) p) z) in
    let q = p ∙ bench_refusal_leaves a.0.now a.1.0.now a.1.1.0.now t.0 t.1 t.2 does _ e d in
    λ i. ((q i).state, (q i).out, (q i).back, (q i).delivered)
