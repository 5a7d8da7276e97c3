-- A refusal of a writer leaves the buffer as it stood.
use mathlib.Core.Path.{◌≡◌, ap, ◌∙◌}
use borrow.Author.Tests.{ne_eqb}
use lib.ListN.{length}
use Rattle.std.specs.Prelude.{Ok}
use Rattle.ground.specs.Refusals.{refused_by}
use Rattle.ground.specs.Choice.{chosen}
use Rattle.ground.proofs.Promise.{RefusalLeaves}
use Rattle.wire.specs.Packet.{write_refusal, packet_written}
use Rattle.wire.specs.Record.{record_write_refusal, record_written}
use Rattle.wire.proofs.packets.write_packet.Kinds as write-packet-kinds
use Rattle.wire.proofs.packets.write_packet.Reads as write-packet
use Rattle.wire.proofs.records.write_record.Kinds as write-record-kinds
use Rattle.wire.proofs.records.write_record.Reads as write-record

pub write_packet_refusal_leaves : RefusalLeaves write-packet-kinds.ps write-packet-kinds.r write-packet.Post (λ κs a. Unit {0}) (λ κs x. x ≡ Ok tt → ⊥) (λ κs a. a.0.now) (λ κs x s. s.0.now)
unfolding packet_written chosen
write_packet_refusal_leaves κs a x s t n p = p.1 ∙ rw (ne_eqb (write_refusal (length a.0.now) a.1.0) 0 (λ z. n (p.0 ∙ ap refused_by z)))

pub write_record_refusal_leaves : RefusalLeaves write-record-kinds.ps write-record-kinds.r write-record.Post (λ κs a. Unit {0}) (λ κs x. x ≡ Ok tt → ⊥) (λ κs a. a.0.now) (λ κs x s. s.0.now)
unfolding record_written chosen
write_record_refusal_leaves κs a x s t n p = p.1 ∙ rw (ne_eqb (record_write_refusal (length a.0.now) a.1.0) 0 (λ z. n (p.0 ∙ ap refused_by z)))
