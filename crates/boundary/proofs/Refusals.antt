-- A refusal leaves all as it was: every entry that refuses, over its own promise. What is left is all that it was lent to write.
use Prim.Native.Nat.{ℕ}
use mathlib.Core.Path.{◌≡◌, refl, ap, ◌∙◌}
use mathlib.Core.Bool.{Bool, true, false, ◌&&◌}
use mathlib.Core.List.{List}
use borrow.Author.Tests.{ne_eqb}
use lib.ListN.{length}
use lib.Dec.{eqb}
use Rattle.std.specs.Prelude.{Result, Ok, Err}
use Rattle.ground.specs.Choice.{chosen, when◌then◌else◌}
use Rattle.ground.specs.declared.refusals.Refusal.{Refusal}
use Rattle.ground.proofs.Promise.{RefusalLeaves}
use Rattle.ground.proofs.Tests.{by_test}
use Rattle.wire.specs.Packet.{head_of, packet_read, write_refusal, packet_written}
use Rattle.wire.specs.Record.{record_of, record_read, record_write_refusal, record_written}
use Rattle.wire.specs.declared.I.{I}
use Rattle.wire.specs.declared.J.{J}
use Rattle.wire.specs.declared.NumberRecord.{NumberRecord}
use Rattle.wire.specs.declared.Head.{Head}
use Rattle.wire.specs.declared.Packet.{Packet}
use Rattle.numbers.specs.declared.Numbers.{Numbers}
use Rattle.ends_console.specs.Fields.{console_ok}
use Rattle.ends_controller.specs.Fields.{controller_ok}
use Rattle.bench.specs.Promise.{bench_refused, bench_told, bench_fresh}
use Rattle.boundary.specs.Packets.{PacketOut, read_out, head_refusal, head_put}
use Rattle.boundary.specs.Records.{RecordOut, record_out, record_put_refusal, record_put, in_version, carry_refusal, carried}
use Rattle.boundary.specs.State.{marks, length_refusal, written, start_refusal, started, state_record_refusal, state_record_put}
use Rattle.boundary.specs.Console as console
use Rattle.boundary.specs.Controller as controller
use Rattle.boundary.specs.Benches.{BenchPut, fresh_put, show_at, offset_at}
use Rattle.boundary.proofs.packets.nooseless_read_packet.Kinds as read-packet-kinds
use Rattle.boundary.proofs.packets.nooseless_read_packet.Reads as read-packet
use Rattle.boundary.proofs.packets.nooseless_write_packet.Kinds as write-packet-kinds
use Rattle.boundary.proofs.packets.nooseless_write_packet.Reads as write-packet
use Rattle.boundary.proofs.records.nooseless_read_record.Kinds as read-record-kinds
use Rattle.boundary.proofs.records.nooseless_read_record.Reads as reads-record
use Rattle.boundary.proofs.records.nooseless_write_record.Kinds as write-record-kinds
use Rattle.boundary.proofs.records.nooseless_write_record.Reads as write-record
use Rattle.boundary.proofs.records.nooseless_carry_record.Kinds as carry-record-kinds
use Rattle.boundary.proofs.records.nooseless_carry_record.Reads as carry-record
use Rattle.boundary.proofs.console.nooseless_console_fresh.Kinds as console-fresh-kinds
use Rattle.boundary.proofs.console.nooseless_console_fresh.Reads as console-fresh
use Rattle.boundary.proofs.console.nooseless_console_downed.Kinds as console-downed-kinds
use Rattle.boundary.proofs.console.nooseless_console_downed.Reads as console-downed
use Rattle.boundary.proofs.console.nooseless_console_record.Kinds as console-record-kinds
use Rattle.boundary.proofs.console.nooseless_console_record.Reads as console-record
use Rattle.boundary.proofs.controller.nooseless_controller_fresh.Kinds as controller-fresh-kinds
use Rattle.boundary.proofs.controller.nooseless_controller_fresh.Reads as controller-fresh
use Rattle.boundary.proofs.controller.nooseless_controller_downed.Kinds as controller-downed-kinds
use Rattle.boundary.proofs.controller.nooseless_controller_downed.Reads as controller-downed
use Rattle.boundary.proofs.controller.nooseless_controller_record.Kinds as controller-record-kinds
use Rattle.boundary.proofs.controller.nooseless_controller_record.Reads as controller-record
use Rattle.boundary.proofs.benches.nooseless_bench_fresh.Kinds as bench-fresh-kinds
use Rattle.boundary.proofs.benches.nooseless_bench_fresh.Reads as bench-fresh
use Rattle.boundary.proofs.benches.nooseless_bench_show.Kinds as bench-show-kinds
use Rattle.boundary.proofs.benches.nooseless_bench_show.Reads as bench-show

-- ## What an entry that tells no report answers: 0, or a refusal

abbrev Refusing : ℕ → Type 0
Refusing n = n ≡ 0 → ⊥

-- what is written only without a refusal
left : {A : Type 0} (n : ℕ) (w s : A) → Refusing n → (when eqb n 0 then w else s) ≡ s
unfolding chosen
left n w s z = rw (ne_eqb n 0 z)

-- ## Packets

abbrev places : PacketOut → ℕ × ℕ × ℕ × List ℕ
places r = (r.kind, r.first, r.second, r.message)

packet_left : (x : Result Packet Refusal) (k a b : ℕ) (o : List ℕ) → Refusing (read_out x k a b o).refusal → places (read_out x k a b o) ≡ (k, a, b, o)
packet_left (Err r) k a b o z = refl
packet_left (Ok p) k a b o z = absurd (z refl)

packet_kept : (x : Result Head Refusal) (m out : List ℕ) → Refusing (head_refusal (length out) x m) → head_put out x m ≡ out
unfolding packet_written
packet_kept (Err r) m out z = refl
packet_kept (Ok h) m out z = left (write_refusal (length out) (record { head = h; message = m })) _ out z

pub read_packet_refusal_leaves : RefusalLeaves read-packet-kinds.ps read-packet-kinds.r read-packet.Post (λ κs a. Unit {0}) (λ κs x. Refusing x) {B = ℕ × ℕ × ℕ × List ℕ} (λ κs a. (a.1.0.now, a.1.1.0.now, a.1.1.1.0.now, a.1.1.1.1.0.now)) (λ κs x s. (s.1.0.now, s.1.1.0.now, s.1.1.1.0.now, s.1.1.1.1.0.now))
read_packet_refusal_leaves κs a x s t z p =
    ap places p ∙ packet_left (packet_read a.0.now) _ _ _ _ (λ e. z (ap (λ (r : PacketOut). r.refusal) p ∙ e))

pub write_packet_refusal_leaves : RefusalLeaves write-packet-kinds.ps write-packet-kinds.r write-packet.Post (λ κs a. Unit {0}) (λ κs x. Refusing x) (λ κs a. a.0.now) (λ κs x s. s.0.now)
write_packet_refusal_leaves κs a x s t z p =
    p.1 ∙ packet_kept (head_of a.1.0 a.1.1.0 a.1.1.1.0) a.1.1.1.1.0.now a.0.now (λ e. z (p.0 ∙ e))

-- ## Number records

abbrev fields : RecordOut → ℕ × ℕ × ℕ
fields r = (r.end, r.number, r.block)

record_left : (x : Result NumberRecord Refusal) (e n b : ℕ) → Refusing (record_out x e n b).refusal → fields (record_out x e n b) ≡ (e, n, b)
record_left (Err r) e n b z = refl
record_left (Ok u) e n b z = absurd (z refl)

written_kept : (u : NumberRecord) (out : List ℕ) → Refusing (record_write_refusal (length out) u) → record_written out u ≡ out
unfolding record_written
written_kept u out z = left (record_write_refusal (length out) u) _ out z

record_kept_lem : (x : Result NumberRecord Refusal) (b : ℕ) (out : List ℕ) → Refusing (record_put_refusal (length out) b x) → record_put out x ≡ out
record_kept_lem (Err r) b out z = refl
record_kept_lem (Ok u) b out z = written_kept u out z

carry_kept : (x : Result NumberRecord Refusal) (to : List ℕ) → Refusing (carry_refusal (length to) x) → carried to x ≡ to
carry_kept (Err r) to z = refl
carry_kept (Ok u) to z = written_kept (in_version (length to) u) to z

pub read_record_refusal_leaves : RefusalLeaves read-record-kinds.ps read-record-kinds.r reads-record.Post (λ κs a. Unit {0}) (λ κs x. Refusing x) {B = ℕ × ℕ × ℕ} (λ κs a. (a.1.0.now, a.1.1.0.now, a.1.1.1.0.now)) (λ κs x s. (s.1.0.now, s.1.1.0.now, s.1.1.1.0.now))
read_record_refusal_leaves κs a x s t z p =
    ap fields p ∙ record_left (record_read a.0.now) a.1.0.now a.1.1.0.now a.1.1.1.0.now (λ e. z (ap (λ (r : RecordOut). r.refusal) p ∙ e))

pub write_record_refusal_leaves : RefusalLeaves write-record-kinds.ps write-record-kinds.r write-record.Post (λ κs a. Unit {0}) (λ κs x. Refusing x) (λ κs a. a.0.now) (λ κs x s. s.0.now)
write_record_refusal_leaves κs a x s t z p = p.1 ∙ record_kept_lem (record_of a.1.0 a.1.1.0 a.1.1.1.0) a.1.1.1.0 a.0.now (λ e. z (p.0 ∙ e))

pub carry_record_refusal_leaves : RefusalLeaves carry-record-kinds.ps carry-record-kinds.r carry-record.Post (λ κs a. Unit {0}) (λ κs x. Refusing x) (λ κs a. a.1.0.now) (λ κs x s. s.1.0.now)
carry_record_refusal_leaves κs a x s t z p = p.1 ∙ carry_kept (record_read a.0.now) a.1.0.now (λ e. z (p.0 ∙ e))

-- ## An end's state: fresh, started after power loss, and its number record. One law for both ends, over the length of a state

fresh_left : (n : ℕ) (s b : List ℕ) → Refusing (length_refusal n s) → written n s b ≡ s
unfolding length_refusal written chosen
fresh_left n s b z = by_test (eqb (length s) n) (λ t. absurd (z (rw t))) (λ f. rw f)

start_left : (n : ℕ) (s : List ℕ) (l : Result Numbers Refusal) (b : List ℕ) → Refusing (start_refusal n s l) → started n s l b ≡ s
unfolding started
start_left n s l b z = left (start_refusal n s l) b s z

state_record_left : (ok : Bool) (u : NumberRecord) (out : List ℕ) → Refusing (state_record_refusal ok u out) → state_record_put ok u out ≡ out
unfolding state_record_refusal state_record_put chosen
state_record_left true u out z = written_kept u out z
state_record_left false u out z = refl

pub console_fresh_refusal_leaves : RefusalLeaves console-fresh-kinds.ps console-fresh-kinds.r console-fresh.Post (λ κs a. Unit {0}) (λ κs x. Refusing x) (λ κs a. a.0.now) (λ κs x s. s.0.now)
console_fresh_refusal_leaves κs a x s t z p = p.1 ∙ fresh_left 37 a.0.now _ (λ e. z (p.0 ∙ e))

pub controller_fresh_refusal_leaves : RefusalLeaves controller-fresh-kinds.ps controller-fresh-kinds.r controller-fresh.Post (λ κs a. Unit {0}) (λ κs x. Refusing x) (λ κs a. a.0.now) (λ κs x s. s.0.now)
controller_fresh_refusal_leaves κs a x s t z p = p.1 ∙ fresh_left 23 a.0.now _ (λ e. z (p.0 ∙ e))

pub console_downed_refusal_leaves : RefusalLeaves console-downed-kinds.ps console-downed-kinds.r console-downed.Post (λ κs a. Unit {0}) (λ κs x. Refusing x) (λ κs a. a.0.now) (λ κs x s. s.0.now)
console_downed_refusal_leaves κs a x s t z p = p.1 ∙ start_left 37 a.0.now (console.start_at a.1.0.now) _ (λ e. z (p.0 ∙ e))

pub controller_downed_refusal_leaves : RefusalLeaves controller-downed-kinds.ps controller-downed-kinds.r controller-downed.Post (λ κs a. Unit {0}) (λ κs x. Refusing x) (λ κs a. a.0.now) (λ κs x s. s.0.now)
controller_downed_refusal_leaves κs a x s t z p = p.1 ∙ start_left 23 a.0.now (controller.start_at a.1.0.now) _ (λ e. z (p.0 ∙ e))

pub console_record_refusal_leaves : RefusalLeaves console-record-kinds.ps console-record-kinds.r console-record.Post (λ κs a. Unit {0}) (λ κs x. Refusing x) (λ κs a. a.1.0.now) (λ κs x s. s.1.0.now)
console_record_refusal_leaves κs a x s t z p = p.1 ∙ state_record_left (console_ok (console.console_at a.0.now)) _ a.1.0.now (λ e. z (p.0 ∙ e))

pub controller_record_refusal_leaves : RefusalLeaves controller-record-kinds.ps controller-record-kinds.r controller-record.Post (λ κs a. Unit {0}) (λ κs x. Refusing x) (λ κs a. a.1.0.now) (λ κs x s. s.1.0.now)
controller_record_refusal_leaves κs a x s t z p = p.1 ∙ state_record_left (controller_ok (controller.controller_at a.0.now)) _ a.1.0.now (λ e. z (p.0 ∙ e))

-- ## A bench: fresh, and a packet shown

abbrev three : BenchPut → List ℕ × List ℕ × List ℕ
three r = (r.state, r.out, r.back)

bench_left : (j : J) (i : I) (s out back : List ℕ) → Refusing (fresh_put j i s out back).told → three (fresh_put j i s out back) ≡ (s, out, back)
unfolding fresh_put bench_fresh bench_told bench_refused marks chosen
bench_left j i s out back z =
    by_test (eqb (length s) 62)
    (λ t. by_test (eqb (length out) 2048 && eqb (length back) 2048) (λ u. absurd (z (rw (t, u)))) (λ f. rw (t, f)))
    (λ f. rw f)

pub bench_fresh_refusal_leaves : RefusalLeaves bench-fresh-kinds.ps bench-fresh-kinds.r bench-fresh.Post (λ κs a. Unit {0}) (λ κs x. Refusing x) {B = List ℕ × List ℕ × List ℕ} (λ κs a. (a.0.now, a.1.0.now, a.1.1.0.now)) (λ κs x s. (s.0.now, s.1.0.now, s.1.1.0.now))
bench_fresh_refusal_leaves κs a x s t z p =
    ap three p ∙ bench_left (record { 0 = a.1.1.1.0 }) (record { 0 = a.1.1.1.1.0 }) a.0.now a.1.0.now a.1.1.0.now (λ e. z (ap (λ (r : BenchPut). r.told) p ∙ e))

pub bench_show_refusal_leaves : RefusalLeaves bench-show-kinds.ps bench-show-kinds.r bench-show.Post (λ κs a. Unit {0}) (λ κs x. Refusing x) (λ κs a. a.1.1.1.1.1.0.now) (λ κs x s. s.1.1.1.1.1.0.now)
unfolding offset_at
bench_show_refusal_leaves κs a x s t z p = p.1 ∙ left (show_at a.0.now a.1.0.now a.1.1.0.now a.1.1.1.0 a.1.1.1.1.0) _ _ (λ e. z (p.0 ∙ e))
