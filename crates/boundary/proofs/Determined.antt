-- Each entry's promise determines its answer and every lent buffer afterwards.
use Prim.Native.Nat.{ℕ}
use mathlib.Core.Path.{sym, ap, ◌∙◌}
use mathlib.Core.List.{List}
use Rattle.ground.proofs.Promise.{DeterminedWith}
use Rattle.bench.specs.Running.{Ran}
use Rattle.boundary.proofs.packets.nooseless_read_packet.Kinds as read-packet-kinds
use Rattle.boundary.proofs.packets.nooseless_read_packet.Reads as read-packet
use Rattle.boundary.proofs.packets.nooseless_write_packet.Kinds as write-packet-kinds
use Rattle.boundary.proofs.packets.nooseless_write_packet.Reads as write-packet
use Rattle.boundary.proofs.records.nooseless_read_record.Kinds as read-record-kinds
use Rattle.boundary.proofs.records.nooseless_read_record.Reads as read-record
use Rattle.boundary.proofs.records.nooseless_write_record.Kinds as write-record-kinds
use Rattle.boundary.proofs.records.nooseless_write_record.Reads as write-record
use Rattle.boundary.proofs.records.nooseless_carry_record.Kinds as carry-record-kinds
use Rattle.boundary.proofs.records.nooseless_carry_record.Reads as carry-record
use Rattle.boundary.proofs.console.nooseless_console_fresh.Kinds as console-fresh-kinds
use Rattle.boundary.proofs.console.nooseless_console_fresh.Reads as console-fresh
use Rattle.boundary.proofs.console.nooseless_console_downed.Kinds as console-downed-kinds
use Rattle.boundary.proofs.console.nooseless_console_downed.Reads as console-downed
use Rattle.boundary.proofs.console.nooseless_console_record.Kinds as console-record-kinds
use Rattle.boundary.proofs.console.nooseless_console_record.Reads as console-record
use Rattle.boundary.proofs.console.nooseless_console_step.Kinds as console-step-kinds
use Rattle.boundary.proofs.console.nooseless_console_step.Reads as console-step
use Rattle.boundary.proofs.controller.nooseless_controller_fresh.Kinds as controller-fresh-kinds
use Rattle.boundary.proofs.controller.nooseless_controller_fresh.Reads as controller-fresh
use Rattle.boundary.proofs.controller.nooseless_controller_downed.Kinds as controller-downed-kinds
use Rattle.boundary.proofs.controller.nooseless_controller_downed.Reads as controller-downed
use Rattle.boundary.proofs.controller.nooseless_controller_record.Kinds as controller-record-kinds
use Rattle.boundary.proofs.controller.nooseless_controller_record.Reads as controller-record
use Rattle.boundary.proofs.controller.nooseless_controller_step.Kinds as controller-step-kinds
use Rattle.boundary.proofs.controller.nooseless_controller_step.Reads as controller-step
use Rattle.boundary.proofs.benches.nooseless_bench_fresh.Kinds as bench-fresh-kinds
use Rattle.boundary.proofs.benches.nooseless_bench_fresh.Reads as bench-fresh
use Rattle.boundary.proofs.benches.nooseless_bench_step.Kinds as bench-step-kinds
use Rattle.boundary.proofs.benches.nooseless_bench_step.Reads as bench-step
use Rattle.boundary.proofs.benches.nooseless_bench_show.Kinds as bench-show-kinds
use Rattle.boundary.proofs.benches.nooseless_bench_show.Reads as bench-show
use Rattle.boundary.proofs.lists.nooseless_run.Kinds as run-kinds
use Rattle.boundary.proofs.lists.nooseless_run.Reads as run
use Rattle.boundary.specs.Packets.{PacketOut}
use Rattle.boundary.specs.Records.{RecordOut}
use Rattle.boundary.specs.Console.{ConsoleStep}
use Rattle.boundary.specs.Controller.{ControllerStep}
use Rattle.boundary.specs.Benches.{BenchPut, StepPut}

pub read_packet_determined : DeterminedWith read-packet-kinds.ps read-packet-kinds.r read-packet.Post {B = ℕ × ℕ × ℕ × List ℕ} (λ κs s. (s.1.0.now, s.1.1.0.now, s.1.1.1.0.now, s.1.1.1.1.0.now))
read_packet_determined κs a x y s t p q =
    let e = p ∙ sym q in (ap (λ (r : PacketOut). r.refusal) e, λ i. ((e i).kind, (e i).first, (e i).second, (e i).message))

pub write_packet_determined : DeterminedWith write-packet-kinds.ps write-packet-kinds.r write-packet.Post (λ κs s. s.0.now)
write_packet_determined κs a x y s t p q = (p.0 ∙ sym q.0, p.1 ∙ sym q.1)

pub read_record_determined : DeterminedWith read-record-kinds.ps read-record-kinds.r read-record.Post {B = ℕ × ℕ × ℕ} (λ κs s. (s.1.0.now, s.1.1.0.now, s.1.1.1.0.now))
read_record_determined κs a x y s t p q =
    let e = p ∙ sym q in (ap (λ (r : RecordOut). r.refusal) e, λ i. ((e i).end, (e i).number, (e i).block))

pub write_record_determined : DeterminedWith write-record-kinds.ps write-record-kinds.r write-record.Post (λ κs s. s.0.now)
write_record_determined κs a x y s t p q = (p.0 ∙ sym q.0, p.1 ∙ sym q.1)

pub carry_record_determined : DeterminedWith carry-record-kinds.ps carry-record-kinds.r carry-record.Post (λ κs s. s.1.0.now)
carry_record_determined κs a x y s t p q = (p.0 ∙ sym q.0, p.1 ∙ sym q.1)

pub console_fresh_determined : DeterminedWith console-fresh-kinds.ps console-fresh-kinds.r console-fresh.Post (λ κs s. s.0.now)
console_fresh_determined κs a x y s t p q = (p.0 ∙ sym q.0, p.1 ∙ sym q.1)

pub console_downed_determined : DeterminedWith console-downed-kinds.ps console-downed-kinds.r console-downed.Post (λ κs s. s.0.now)
console_downed_determined κs a x y s t p q = (p.0 ∙ sym q.0, p.1 ∙ sym q.1)

pub console_record_determined : DeterminedWith console-record-kinds.ps console-record-kinds.r console-record.Post (λ κs s. s.1.0.now)
console_record_determined κs a x y s t p q = (p.0 ∙ sym q.0, p.1 ∙ sym q.1)

pub console_step_determined : DeterminedWith console-step-kinds.ps console-step-kinds.r console-step.Post {B = List ℕ × List ℕ} (λ κs s. (s.0.now, s.1.1.1.1.0.now))
console_step_determined κs a x y s t p q =
    let e = p ∙ sym q in (ap (λ (r : ConsoleStep). r.told) e, λ i. ((e i).state, (e i).reply))

pub controller_fresh_determined : DeterminedWith controller-fresh-kinds.ps controller-fresh-kinds.r controller-fresh.Post (λ κs s. s.0.now)
controller_fresh_determined κs a x y s t p q = (p.0 ∙ sym q.0, p.1 ∙ sym q.1)

pub controller_downed_determined : DeterminedWith controller-downed-kinds.ps controller-downed-kinds.r controller-downed.Post (λ κs s. s.0.now)
controller_downed_determined κs a x y s t p q = (p.0 ∙ sym q.0, p.1 ∙ sym q.1)

pub controller_record_determined : DeterminedWith controller-record-kinds.ps controller-record-kinds.r controller-record.Post (λ κs s. s.1.0.now)
controller_record_determined κs a x y s t p q = (p.0 ∙ sym q.0, p.1 ∙ sym q.1)

pub controller_step_determined : DeterminedWith controller-step-kinds.ps controller-step-kinds.r controller-step.Post {B = List ℕ × List ℕ × List ℕ} (λ κs s. (s.0.now, s.1.1.1.0.now, s.1.1.1.1.0.now))
controller_step_determined κs a x y s t p q =
    let e = p ∙ sym q in (ap (λ (r : ControllerStep). r.told) e, λ i. ((e i).state, (e i).reply, (e i).delivered))

pub bench_fresh_determined : DeterminedWith bench-fresh-kinds.ps bench-fresh-kinds.r bench-fresh.Post {B = List ℕ × List ℕ × List ℕ} (λ κs s. (s.0.now, s.1.0.now, s.1.1.0.now))
bench_fresh_determined κs a x y s t p q =
    let e = p ∙ sym q in (ap (λ (r : BenchPut). r.told) e, λ i. ((e i).state, (e i).out, (e i).back))

pub bench_step_determined : DeterminedWith bench-step-kinds.ps bench-step-kinds.r bench-step.Post {B = List ℕ × List ℕ × List ℕ × List ℕ} (λ κs s. (s.0.now, s.1.0.now, s.1.1.0.now, s.1.1.1.1.1.1.1.0.now))
bench_step_determined κs a x y s t p q =
    let e = p ∙ sym q in (ap (λ (r : StepPut). r.told) e, λ i. ((e i).state, (e i).out, (e i).back, (e i).delivered))

pub bench_show_determined : DeterminedWith bench-show-kinds.ps bench-show-kinds.r bench-show.Post (λ κs s. s.1.1.1.1.1.0.now)
bench_show_determined κs a x y s t p q = (p.0 ∙ sym q.0, p.1 ∙ sym q.1)

pub run_determined : DeterminedWith run-kinds.ps run-kinds.r run.Post (λ κs s. s.1.0.now)
run_determined κs a x y s t p q = let e = p ∙ sym q in (ap (λ (r : Ran). r.number) e, ap (λ (r : Ran). r.output) e)
