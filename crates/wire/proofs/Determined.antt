-- Each promise of the crate determines its answer, and the lent buffer afterwards.
use mathlib.Core.Path.{sym, ◌∙◌}
use Rattle.ground.proofs.Promise.{Determined, DeterminedWith}
use Rattle.wire.proofs.packets.direction_of.Kinds as direction-of-kinds
use Rattle.wire.proofs.packets.direction_of.Reads as direction-of
use Rattle.wire.proofs.packets.read_head.Kinds as read-head-kinds
use Rattle.wire.proofs.packets.read_head.Reads as read-head
use Rattle.wire.proofs.packets.read_packet.Kinds as read-packet-kinds
use Rattle.wire.proofs.packets.read_packet.Reads as read-packet
use Rattle.wire.proofs.packets.write_packet.Kinds as write-packet-kinds
use Rattle.wire.proofs.packets.write_packet.Reads as write-packet
use Rattle.wire.proofs.records.read_record.Kinds as read-record-kinds
use Rattle.wire.proofs.records.read_record.Reads as read-record
use Rattle.wire.proofs.records.write_record.Kinds as write-record-kinds
use Rattle.wire.proofs.records.write_record.Reads as write-record
use Rattle.wire.proofs.frame.big_endian.Kinds as big-endian-kinds
use Rattle.wire.proofs.frame.big_endian.Reads as big-endian
use Rattle.wire.proofs.frame.from_big_endian.Kinds as from-big-endian-kinds
use Rattle.wire.proofs.frame.from_big_endian.Reads as from-big-endian
use Rattle.wire.proofs.frame.big_endian_16.Kinds as big-endian-16-kinds
use Rattle.wire.proofs.frame.big_endian_16.Reads as big-endian-16
use Rattle.wire.proofs.frame.from_big_endian_16.Kinds as from-big-endian-16-kinds
use Rattle.wire.proofs.frame.from_big_endian_16.Reads as from-big-endian-16
use Rattle.wire.proofs.packets.HeadTryFromFields.try_from.Kinds as head-of-kinds
use Rattle.wire.proofs.packets.HeadTryFromFields.try_from.Reads as head-of
use Rattle.wire.proofs.records.NumberRecordTryFromRecordFields.try_from.Kinds as record-of-kinds
use Rattle.wire.proofs.records.NumberRecordTryFromRecordFields.try_from.Reads as record-of
use Rattle.wire.proofs.records.RecordFieldsFromNumberRecord.from.Kinds as record-fields-kinds
use Rattle.wire.proofs.records.RecordFieldsFromNumberRecord.from.Reads as record-fields
use Rattle.wire.proofs.records.renewed.Kinds as renewed-kinds
use Rattle.wire.proofs.records.renewed.Reads as renewed
use Rattle.wire.proofs.records.aged.Kinds as aged-kinds
use Rattle.wire.proofs.records.aged.Reads as aged
use Rattle.wire.proofs.packets.FieldsFromHead.from.Kinds as fields-of-kinds
use Rattle.wire.proofs.packets.FieldsFromHead.from.Reads as fields-of
use Rattle.wire.proofs.JPartialEq.eq.Kinds as same-j-kinds
use Rattle.wire.proofs.JPartialEq.eq.Reads as same-j
use Rattle.wire.proofs.IPartialEq.eq.Kinds as same-i-kinds
use Rattle.wire.proofs.IPartialEq.eq.Reads as same-i
use Rattle.wire.proofs.DirectionPartialEq.eq.Kinds as same-direction-kinds
use Rattle.wire.proofs.DirectionPartialEq.eq.Reads as same-direction

pub same_j_determined : Determined same-j-kinds.ps same-j-kinds.r same-j.Post
same_j_determined κs a x y s t p q = p ∙ sym q

pub same_i_determined : Determined same-i-kinds.ps same-i-kinds.r same-i.Post
same_i_determined κs a x y s t p q = p ∙ sym q

pub same_direction_determined : Determined same-direction-kinds.ps same-direction-kinds.r same-direction.Post
same_direction_determined κs a x y s t p q = p ∙ sym q

pub direction_of_determined : Determined direction-of-kinds.ps direction-of-kinds.r direction-of.Post
direction_of_determined κs a x y s t p q = p ∙ sym q

pub read_head_determined : Determined read-head-kinds.ps read-head-kinds.r read-head.Post
read_head_determined κs a x y s t p q = p ∙ sym q

pub read_packet_determined : Determined read-packet-kinds.ps read-packet-kinds.r read-packet.Post
read_packet_determined κs a x y s t p q = p ∙ sym q

pub write_packet_determined : DeterminedWith write-packet-kinds.ps write-packet-kinds.r write-packet.Post (λ κs s. s.0.now)
write_packet_determined κs a x y s t p q = (p.0 ∙ sym q.0, p.1 ∙ sym q.1)

pub read_record_determined : Determined read-record-kinds.ps read-record-kinds.r read-record.Post
read_record_determined κs a x y s t p q = p ∙ sym q

pub write_record_determined : DeterminedWith write-record-kinds.ps write-record-kinds.r write-record.Post (λ κs s. s.0.now)
write_record_determined κs a x y s t p q = (p.0 ∙ sym q.0, p.1 ∙ sym q.1)

pub big_endian_determined : Determined big-endian-kinds.ps big-endian-kinds.r big-endian.Post
big_endian_determined κs a x y s t p q = p ∙ sym q

pub from_big_endian_determined : Determined from-big-endian-kinds.ps from-big-endian-kinds.r from-big-endian.Post
from_big_endian_determined κs a x y s t p q = p ∙ sym q

pub big_endian_16_determined : Determined big-endian-16-kinds.ps big-endian-16-kinds.r big-endian-16.Post
big_endian_16_determined κs a x y s t p q = p ∙ sym q

pub from_big_endian_16_determined : Determined from-big-endian-16-kinds.ps from-big-endian-16-kinds.r from-big-endian-16.Post
from_big_endian_16_determined κs a x y s t p q = p ∙ sym q

pub head_of_determined : Determined head-of-kinds.ps head-of-kinds.r head-of.Post
head_of_determined κs a x y s t p q = p ∙ sym q

pub record_of_determined : Determined record-of-kinds.ps record-of-kinds.r record-of.Post
record_of_determined κs a x y s t p q = p ∙ sym q

pub renewed_determined : Determined renewed-kinds.ps renewed-kinds.r renewed.Post
renewed_determined κs a x y s t p q = p ∙ sym q

pub aged_determined : Determined aged-kinds.ps aged-kinds.r aged.Post
aged_determined κs a x y s t p q = p ∙ sym q

pub fields_of_determined : Determined fields-of-kinds.ps fields-of-kinds.r fields-of.Post
fields_of_determined κs a x y s t p q = p ∙ sym q

pub record_fields_determined : Determined record-fields-kinds.ps record-fields-kinds.r record-fields.Post
record_fields_determined κs a x y s t p q = p ∙ sym q
