-- Programs that the promises shut out, each at one input.
use Prim.Native.Nat.{ℕ, suc}
use mathlib.Core.Path.{◌≡◌, refl, sym, ap, ◌∙◌}
use mathlib.Core.List.{List, [], ◌∷◌, ◌++◌}
use native.Mathlib.Omega.{arith}
use lib.ListN.{length, get_or, take, set, replicate}
use contract.Lifetimes.{Lfts}
use borrow.Fn.Kinds.{Dens, ended_of}
use denote.Triple.Clauses.{AtExit}
use Rattle.std.specs.Prelude.{Result}
use Rattle.std.specs.Prelude as result
use Rattle.ground.specs.Refusals.{refusal_of, refused_by, refusal_in}
use Rattle.ground.specs.declared.refusals.Refusal.{Refusal}
use Rattle.ground.specs.declared.refusals.Refusal.TheVariants.{WrongField}
use Rattle.ground.proofs.RefusalNumbers.{is_one, is_other}
use Rattle.wire.specs.declared.Head.{Head}
use Rattle.wire.specs.declared.packets.Fields.{Fields}
use Rattle.wire.specs.declared.records.RecordFields.{RecordFields}
use Rattle.ground.specs.Choice.{chosen}
use Rattle.ground.specs.Every.{filled}
use Rattle.ground.specs.First.{first}
use Rattle.ground.proofs.Promise.{RulesOut, unequal, clash}
use Rattle.wire.specs.Number.{bytes_of, value}
use Rattle.wire.specs.Packet.{is_blank, fits, head_at, direction_of, fields_of, head_of, read_refusal, accepted, refused, head_read, packet_read, write_refusal, packet_written}
use Rattle.wire.specs.declared.Direction.TheVariants.{ToController, ToConsole}
use Rattle.wire.specs.declared.Head.TheVariants.{NeedI, Offer, Ok}
use Rattle.wire.specs.declared.NumberRecord.{NumberRecord}
use Rattle.wire.specs.declared.NumberRecord.TheVariants.{ConsoleOld, ControllerOld, Console}
use Rattle.wire.specs.declared.Packet.{Packet}
use Rattle.wire.specs.Record.{end_of, number_of, block_of, record_fields, record_of, record_bytes, block_at, record_at, record_refusal, record_read, record_write_refusal, record_written, renewed, aged}
use Rattle.wire.proofs.PacketsFit.{need_i_fits}
use Rattle.wire.proofs.RecordTrips.{record_read_back}
use Rattle.wire.proofs.Trips.{was_read}
use Rattle.wire.proofs.Vectors.{need_i, need_i_1, need_i_1_read, need_i_1_written}
use Rattle.wire.proofs.Writing.{packet_written_lem}
use Rattle.wire.proofs.frame.big_endian.Kinds as big-endian-kinds
use Rattle.wire.proofs.frame.big_endian.Reads as big-endian
use Rattle.wire.proofs.packets.direction_of.Kinds as direction-of-kinds
use Rattle.wire.proofs.packets.direction_of.Reads as direction-of
use Rattle.wire.proofs.packets.FieldsFromHead.from.Kinds as fields-of-kinds
use Rattle.wire.proofs.packets.FieldsFromHead.from.Reads as fields-of
use Rattle.wire.proofs.packets.HeadTryFromFields.try_from.Kinds as head-of-kinds
use Rattle.wire.proofs.packets.HeadTryFromFields.try_from.Reads as head-of
use Rattle.wire.proofs.packets.read_head.Kinds as read-head-kinds
use Rattle.wire.proofs.packets.read_head.Reads as read-head
use Rattle.wire.proofs.packets.read_packet.Kinds as read-packet-kinds
use Rattle.wire.proofs.packets.read_packet.Reads as read-packet
use Rattle.wire.proofs.packets.write_packet.Kinds as write-packet-kinds
use Rattle.wire.proofs.packets.write_packet.Reads as write-packet
use Rattle.wire.proofs.records.RecordFieldsFromNumberRecord.from.Kinds as record-fields-kinds
use Rattle.wire.proofs.records.RecordFieldsFromNumberRecord.from.Reads as record-fields
use Rattle.wire.proofs.records.NumberRecordTryFromRecordFields.try_from.Kinds as record-of-kinds
use Rattle.wire.proofs.records.NumberRecordTryFromRecordFields.try_from.Reads as record-of
use Rattle.wire.proofs.records.renewed.Kinds as renewed-kinds
use Rattle.wire.proofs.records.renewed.Reads as renews
use Rattle.wire.proofs.records.aged.Kinds as aged-kinds
use Rattle.wire.proofs.records.aged.Reads as ages
use Rattle.wire.proofs.records.read_record.Kinds as read-record-kinds
use Rattle.wire.proofs.records.read_record.Reads as read-record
use Rattle.wire.proofs.records.write_record.Kinds as write-record-kinds
use Rattle.wire.proofs.records.write_record.Reads as write-record

abbrev unused : NumberRecord
unused = ConsoleOld (record { 0 = 0 })

-- ## Packets

-- a reader
pub always_refuses : RulesOut read-packet-kinds.ps read-packet-kinds.r read-packet.Post (λ κs a. a.0.now ≡ need_i_1) (λ κs a x s. (n : ℕ) × (x ≡ refused n))
always_refuses κs a x s e w p = is_other (refusal_of w.0) (need_i 1) (sym w.1 ∙ p ∙ ap packet_read e ∙ need_i_1_read)

pub accepts_everything : RulesOut read-packet-kinds.ps read-packet-kinds.r read-packet.Post (λ κs a. a.0.now ≡ []) (λ κs a x s. (p : Packet) × (x ≡ accepted p))
unfolding head_read read_refusal first chosen
accepts_everything κs a x s e w p = is_other (refusal_of 12) w.0 (sym (sym w.1 ∙ p ∙ ap packet_read e))

-- a reader that takes needI with one byte changed, and the number that it should have given
abbrev Takes : ℕ → ℕ → Type 0
Takes at byte = RulesOut read-packet-kinds.ps read-packet-kinds.r read-packet.Post (λ κs a. a.0.now ≡ set need_i_1 at byte) (λ κs a x s. (p : Packet) × (x ≡ accepted p))

taken : (at byte n : ℕ) → packet_read (set need_i_1 at byte) ≡ refused n → Takes at byte
taken at byte n r κs a x s e w p = is_other (refusal_of n) w.0 (sym (p ∙ ap packet_read e ∙ r) ∙ w.1)

pub takes_another_mark : Takes 1 0x54
unfolding head_read read_refusal head_at head_of value bytes_of first chosen is_blank filled
takes_another_mark = taken 1 0x54 13 refl

pub takes_version_2 : Takes 4 2
unfolding head_read read_refusal head_at head_of value bytes_of first chosen is_blank filled
takes_version_2 = taken 4 2 14 refl

pub takes_a_space_for_a_zero : Takes 16 0x20
unfolding head_read read_refusal head_at head_of value bytes_of first chosen is_blank filled
takes_a_space_for_a_zero = taken 16 0x20 15 refl

pub reads_31_bytes_as_13 : RulesOut read-packet-kinds.ps read-packet-kinds.r read-packet.Post (λ κs a. a.0.now ≡ take 31 need_i_1) (λ κs a x s. x ≡ refused 13)
unfolding head_read read_refusal first chosen
reads_31_bytes_as_13 κs a x s e w p = unequal (ap refusal_in (sym w ∙ p ∙ ap packet_read e)) refl

-- a reader of the head alone
pub refuses_every_head : RulesOut read-head-kinds.ps read-head-kinds.r read-head.Post (λ κs a. a.0.now ≡ need_i_1) (λ κs a x s. (r : Refusal) × (x ≡ result.Err r))
refuses_every_head κs a x s e w p =
    is_other w.0 (NeedI (record { 0 = 1 })) (sym w.1 ∙ p ∙ ap head_read e ∙ (was_read need_i_1 need_i_1_read).0)

pub looks_at_no_message : RulesOut read-head-kinds.ps read-head-kinds.r read-head.Post (λ κs a. a.0.now ≡ set need_i_1 31 1) (λ κs a x s. x ≡ result.Ok (NeedI (record { 0 = 1 })))
unfolding head_read read_refusal head_at head_of value bytes_of first chosen is_blank filled
looks_at_no_message κs a x s e w p = is_other WrongField (NeedI (record { 0 = 1 })) (sym (p ∙ ap head_read e) ∙ w)

-- a writer that is lent zero bytes
abbrev Writes : ℕ → Packet → ((κs : Lfts 1) → Dens κs write-packet-kinds.ps → Result Unit Refusal → AtExit (ended_of 1 write-packet-kinds.ps write-packet-kinds.r) κs → Type 0) → Type 0
Writes n q does = RulesOut write-packet-kinds.ps write-packet-kinds.r write-packet.Post (λ κs a. (a.0.now ≡ replicate n 0) × (a.1.0 ≡ q)) does

pub changes_nothing : Writes 32 (need_i 1) (λ κs a x s. s.0.now ≡ a.0.now)
changes_nothing κs a x s e w p =
    let all : packet_written (replicate 32 0) (need_i 1) ≡ need_i_1 = packet_written_lem (replicate 32 0) (need_i 1) refl (need_i_fits (record { 0 = 1 }) (omega arith)) ∙ need_i_1_written in
    let q : replicate 32 0 ≡ need_i_1 = sym e.0 ∙ sym w ∙ p.1 ∙ (λ i. packet_written (e.0 i) (e.1 i)) ∙ all in
    unequal (ap (λ (l : List ℕ). get_or l 0 0) q) refl

pub touches_on_15 : Writes 32 (need_i 0) (λ κs a x s. s.0.now ≡ a.0.now → ⊥)
unfolding packet_written write_refusal fits first chosen
touches_on_15 κs a x s e w p = w (p.1 ∙ (λ i. packet_written (e.0 i) (e.1 i)) ∙ sym e.0)

pub always_writes : Writes 32 (need_i 0) (λ κs a x s. x ≡ refused_by 0)
unfolding write_refusal fits first chosen
always_writes κs a x s e w p = unequal (ap refusal_in (sym w ∙ p.0 ∙ (λ i. refused_by (write_refusal (length (e.0 i)) (e.1 i))))) refl

pub says_12_outside_the_table : Writes 32 (need_i 0) (λ κs a x s. x ≡ refused_by 12)
unfolding write_refusal fits first chosen
says_12_outside_the_table κs a x s e w p = unequal (ap refusal_in (sym w ∙ p.0 ∙ (λ i. refused_by (write_refusal (length (e.0 i)) (e.1 i))))) refl

pub says_15_of_31_bytes : Writes 31 (need_i 0) (λ κs a x s. x ≡ refused_by 15)
unfolding write_refusal first chosen
says_15_of_31_bytes κs a x s e w p = unequal (ap refusal_in (sym w ∙ p.0 ∙ (λ i. refused_by (write_refusal (length (e.0 i)) (e.1 i))))) refl

-- ## Number records

pub always_refuses_record : RulesOut read-record-kinds.ps read-record-kinds.r read-record.Post (λ κs a. a.0.now ≡ record_bytes unused) (λ κs a x s. (r : Refusal) × (x ≡ result.Err r))
always_refuses_record κs a x s e w p = is_other w.0 unused (sym w.1 ∙ p ∙ ap record_read e ∙ record_read_back unused (omega arith) refl)

pub accepts_every_record : RulesOut read-record-kinds.ps read-record-kinds.r read-record.Post (λ κs a. a.0.now ≡ []) (λ κs a x s. (r : NumberRecord) × (x ≡ result.Ok r))
unfolding record_read record_refusal first chosen
accepts_every_record κs a x s e w p = is_other (refusal_of 12) w.0 (sym (p ∙ ap record_read e) ∙ w.1)

-- a reader that takes bytes that it should have refused by this number
abbrev TakesRecord : List ℕ → Type 0
TakesRecord bytes = RulesOut read-record-kinds.ps read-record-kinds.r read-record.Post (λ κs a. a.0.now ≡ bytes) (λ κs a x s. (r : NumberRecord) × (x ≡ result.Ok r))

took : (bytes : List ℕ) (n : ℕ) → record_read bytes ≡ result.Err (refusal_of n) → TakesRecord bytes
took bytes n r κs a x s e w p = is_other (refusal_of n) w.0 (sym (p ∙ ap record_read e ∙ r) ∙ w.1)

-- a record of version 2 with this version and this block in it
abbrev new : ℕ → ℕ → List ℕ
new version block = 0x48 ∷ 0x53 ∷ 0x4E ∷ 0 ∷ version ∷ 1 ∷ 0 ∷ 0 ∷ 0 ∷ 0 ∷ 0 ∷ 7 ∷ bytes_of 2 block ++ (0 ∷ 0 ∷ [])

pub takes_version_2_of_12_bytes : TakesRecord (take 12 (new 2 64))
unfolding record_read record_refusal record_at block_at record_of value bytes_of first chosen
takes_version_2_of_12_bytes = took (take 12 (new 2 64)) 14 refl

pub takes_version_1_of_16_bytes : TakesRecord (new 1 64)
unfolding record_read record_refusal record_at block_at record_of value bytes_of first chosen
takes_version_1_of_16_bytes = took (new 1 64) 14 refl

pub takes_block_0 : TakesRecord (new 2 0)
unfolding record_read record_refusal record_at block_at record_of value bytes_of first chosen
takes_block_0 = took (new 2 0) 15 refl

pub takes_block_1025 : TakesRecord (new 2 1025)
unfolding record_read record_refusal record_at block_at record_of value bytes_of first chosen
takes_block_1025 = took (new 2 1025) 15 refl

pub takes_a_byte_after_the_block : TakesRecord (set (new 2 64) 15 1)
unfolding record_read record_refusal record_at block_at record_of value bytes_of first chosen
takes_a_byte_after_the_block = took (set (new 2 64) 15 1) 15 refl

pub says_14_before_13 : RulesOut read-record-kinds.ps read-record-kinds.r read-record.Post (λ κs a. a.0.now ≡ set (new 1 64) 0 0x49) (λ κs a x s. x ≡ result.Err (refusal_of 14))
unfolding record_read record_refusal bytes_of first chosen
says_14_before_13 κs a x s e w p = unequal (ap refusal_in (sym w ∙ p ∙ ap record_read e)) refl

-- a writer
abbrev WritesRecord : List ℕ → NumberRecord → ((κs : Lfts 1) → Dens κs write-record-kinds.ps → Result Unit Refusal → AtExit (ended_of 1 write-record-kinds.ps write-record-kinds.r) κs → Type 0) → Type 0
WritesRecord out r does = RulesOut write-record-kinds.ps write-record-kinds.r write-record.Post (λ κs a. (a.0.now ≡ out) × (a.1.0 ≡ r)) does

pub changes_no_record : WritesRecord (replicate 12 0) unused (λ κs a x s. s.0.now ≡ a.0.now)
unfolding record_written record_write_refusal record_bytes first chosen
changes_no_record κs a x s e w p =
    let q : replicate 12 0 ≡ record_bytes unused = sym e.0 ∙ sym w ∙ p.1 ∙ (λ i. record_written (e.0 i) (e.1 i)) in
    unequal (ap (λ (l : List ℕ). get_or l 0 0) q) refl

-- one that looks for 12 bytes at least
pub writes_to_13_bytes : WritesRecord (replicate 13 0) unused (λ κs a x s. x ≡ refused_by 0)
unfolding record_write_refusal first chosen
writes_to_13_bytes κs a x s e w p = unequal (ap refusal_in (sym w ∙ p.0 ∙ (λ i. refused_by (record_write_refusal (length (e.0 i)) (e.1 i))))) refl

pub writes_block_1025 : WritesRecord (replicate 16 0) (Console (record { 0 = 7 }) 1025) (λ κs a x s. x ≡ refused_by 0)
unfolding record_write_refusal first chosen
writes_block_1025 κs a x s e w p = unequal (ap refusal_in (sym w ∙ p.0 ∙ (λ i. refused_by (record_write_refusal (length (e.0 i)) (e.1 i))))) refl

pub writes_version_1_to_16_bytes : WritesRecord (replicate 16 0) unused (λ κs a x s. x ≡ refused_by 0)
unfolding record_write_refusal first chosen
writes_version_1_to_16_bytes κs a x s e w p = unequal (ap refusal_in (sym w ∙ p.0 ∙ (λ i. refused_by (record_write_refusal (length (e.0 i)) (e.1 i))))) refl

-- ## Heads

pub always_to_the_controller : RulesOut direction-of-kinds.ps direction-of-kinds.r direction-of.Post (λ κs a. a.0 ≡ Offer (record { 0 = 1 }) (record { 0 = 1 })) (λ κs a x s. x ≡ ToController)
always_to_the_controller κs a x s e w p = let q : ToController ≡ ToConsole = sym w ∙ p ∙ ap direction_of e in clash cc

pub swaps_the_directions : RulesOut direction-of-kinds.ps direction-of-kinds.r direction-of.Post (λ κs a. a.0 ≡ NeedI (record { 0 = 1 })) (λ κs a x s. x ≡ ToConsole)
swaps_the_directions κs a x s e w p = let q : ToConsole ≡ ToController = sym w ∙ p ∙ ap direction_of e in clash cc

abbrev Heads : Fields → Result Head Refusal → Type 0
Heads f h = RulesOut head-of-kinds.ps head-of-kinds.r head-of.Post (λ κs a. a.0 ≡ f) (λ κs a x s. x ≡ h)

abbrev fields : ℕ → ℕ → ℕ → Fields
fields k a b = record { kind = k; first = a; second = b }

abbrev head_in : Fields → Result Head Refusal
head_in f = head_of f.kind f.first f.second

pub need_i_with_a_second_number : Heads (fields 1 1 1) (result.Ok (NeedI (record { 0 = 1 })))
unfolding head_of chosen
need_i_with_a_second_number κs a x s e w p = is_other WrongField (NeedI (record { 0 = 1 })) (sym (p ∙ ap head_in e) ∙ w)

pub refuses_an_offer_of_1 : Heads (fields 2 1 1) (result.Err WrongField)
unfolding head_of chosen
refuses_an_offer_of_1 κs a x s e w p = is_other WrongField (Offer (record { 0 = 1 }) (record { 0 = 1 })) (sym w ∙ p ∙ ap head_in e)

pub takes_an_offer_of_0 : Heads (fields 2 1 0) (result.Ok (Offer (record { 0 = 1 }) (record { 0 = 0 })))
unfolding head_of chosen
takes_an_offer_of_0 κs a x s e w p = is_other WrongField (Offer (record { 0 = 1 }) (record { 0 = 0 })) (sym (p ∙ ap head_in e) ∙ w)

pub first_number_twice : RulesOut fields-of-kinds.ps fields-of-kinds.r fields-of.Post (λ κs a. a.0 ≡ NeedI (record { 0 = 1 })) (λ κs a x s. x.second ≡ x.first)
first_number_twice κs a x s e w p = let q = p ∙ ap fields_of e in unequal (sym (ap (λ (f : Fields). f.first) q) ∙ sym w ∙ ap (λ (f : Fields). f.second) q) refl

pub kind_5_for_ok : RulesOut fields-of-kinds.ps fields-of-kinds.r fields-of.Post (λ κs a. a.0 ≡ Ok (record { 0 = 1 })) (λ κs a x s. x.kind ≡ 5)
kind_5_for_ok κs a x s e w p = unequal (sym w ∙ ap (λ (f : Fields). f.kind) (p ∙ ap fields_of e)) refl

-- ## Numbers

pub least_byte_first : RulesOut big-endian-kinds.ps big-endian-kinds.r big-endian.Post (λ κs a. a.0 ≡ 1) (λ κs a x s. x ≡ 1 ∷ 0 ∷ 0 ∷ 0 ∷ [])
unfolding bytes_of
least_byte_first κs a x s e w p = unequal (ap (λ (l : List ℕ). get_or l 0 0) (sym w ∙ p ∙ ap (bytes_of 4) e)) refl

pub always_zeros : RulesOut big-endian-kinds.ps big-endian-kinds.r big-endian.Post (λ κs a. a.0 ≡ 1) (λ κs a x s. x ≡ replicate 4 0)
unfolding bytes_of
always_zeros κs a x s e w p = unequal (ap (λ (l : List ℕ). get_or l 3 0) (sym w ∙ p ∙ ap (bytes_of 4) e)) refl

-- ## What a number record has

abbrev Says : NumberRecord → (NumberRecord → RecordFields → Type 0) → Type 0
Says r wrong = RulesOut record-fields-kinds.ps record-fields-kinds.r record-fields.Post (λ κs a. a.0 ≡ r) (λ κs a x s. wrong a.0 x)

pub always_end_1 : Says (ControllerOld (record { 0 = 0 })) (λ r f. f.end ≡ 1)
always_end_1 κs a x s e w p = unequal (sym w ∙ ap (λ (f : RecordFields). f.end) (p ∙ ap record_fields e)) refl

pub ends_from_0 : Says unused (λ r f. f.end ≡ 0)
ends_from_0 κs a x s e w p = unequal (sym w ∙ ap (λ (f : RecordFields). f.end) (p ∙ ap record_fields e)) refl

pub always_number_0 : Says (ConsoleOld (record { 0 = 1 })) (λ r f. f.number ≡ 0)
always_number_0 κs a x s e w p = unequal (sym w ∙ ap (λ (f : RecordFields). f.number) (p ∙ ap record_fields e)) refl

pub next_number : Says (ConsoleOld (record { 0 = 1 })) (λ r f. f.number ≡ suc (number_of r))
next_number κs a x s e w p =
    unequal (sym (ap (λ r. suc (number_of r)) e) ∙ sym w ∙ ap (λ (f : RecordFields). f.number) (p ∙ ap record_fields e)) refl

pub block_64_of_version_1 : Says unused (λ r f. f.block ≡ 64)
block_64_of_version_1 κs a x s e w p = unequal (sym w ∙ ap (λ (f : RecordFields). f.block) (p ∙ ap record_fields e)) refl

pub always_block_0 : Says (Console (record { 0 = 7 }) 64) (λ r f. f.block ≡ 0)
always_block_0 κs a x s e w p = unequal (sym w ∙ ap (λ (f : RecordFields). f.block) (p ∙ ap record_fields e)) refl

-- ## A record of an end, a number and a block

abbrev made : RecordFields → Result NumberRecord Refusal
made f = record_of f.end f.number f.block

abbrev Makes : ℕ → ℕ → ℕ → Result NumberRecord Refusal → Type 0
Makes end number block y = RulesOut record-of-kinds.ps record-of-kinds.r record-of.Post (λ κs a. a.0 ≡ record { end = end; number = number; block = block }) (λ κs a x s. x ≡ y)

pub refuses_number_0 : Makes 1 0 0 (result.Err WrongField)
unfolding record_of chosen
refuses_number_0 κs a x s e w p = is_other WrongField unused (sym w ∙ p ∙ ap made e)

pub says_14_of_end_3 : Makes 3 0 0 (result.Err (refusal_of 14))
unfolding record_of chosen
says_14_of_end_3 κs a x s e w p = unequal (ap refusal_in (sym w ∙ p ∙ ap made e)) refl

pub version_2_with_block_0 : Makes 1 7 0 (result.Ok (Console (record { 0 = 7 }) 0))
unfolding record_of chosen
version_2_with_block_0 κs a x s e w p =
    let q = is_one (Console (record { 0 = 7 }) 0) (ConsoleOld (record { 0 = 7 })) (sym w ∙ p ∙ ap made e) in
    clash cc

-- ## A record carried from version to version

abbrev Renews : NumberRecord → NumberRecord → Type 0
Renews r y = RulesOut renewed-kinds.ps renewed-kinds.r renews.Post (λ κs a. a.0 ≡ r) (λ κs a x s. x ≡ y)

pub renews_with_block_1 : Renews unused (Console (record { 0 = 0 }) 1)
renews_with_block_1 κs a x s e w p = unequal (ap block_of (sym w ∙ p ∙ ap renewed e)) refl

pub renews_to_block_64 : Renews (Console (record { 0 = 7 }) 1) (Console (record { 0 = 7 }) 64)
renews_to_block_64 κs a x s e w p = unequal (ap block_of (sym w ∙ p ∙ ap renewed e)) refl

abbrev Ages : NumberRecord → NumberRecord → Type 0
Ages r y = RulesOut aged-kinds.ps aged-kinds.r ages.Post (λ κs a. a.0 ≡ r) (λ κs a x s. x ≡ y)

pub ages_to_number_0 : Ages (Console (record { 0 = 7 }) 64) unused
ages_to_number_0 κs a x s e w p = unequal (ap number_of (sym w ∙ p ∙ ap aged e)) refl

pub ages_to_the_other_end : Ages (Console (record { 0 = 7 }) 64) (ControllerOld (record { 0 = 7 }))
ages_to_the_other_end κs a x s e w p = unequal (ap end_of (sym w ∙ p ∙ ap aged e)) refl
