-- Packets and number records by their numbers: programs that the promises rule out, each at one input.
use Prim.Native.Nat.{ℕ}
use mathlib.Core.Path.{◌≡◌, refl, sym, ap, ◌∙◌}
use mathlib.Core.List.{List}
use native.Mathlib.Omega.{arith}
use contract.Lifetimes.{Lfts}
use borrow.Fn.Kinds.{Dens, ended_of}
use lib.ListN.{length, get_or, replicate}
use denote.Triple.Clauses.{AtExit}
use Rattle.std.specs.Prelude.{Result, Ok}
use Rattle.ground.specs.Choice.{chosen}
use Rattle.ground.specs.First.{first}
use Rattle.ground.specs.declared.refusals.Refusal.{Refusal}
use Rattle.ground.proofs.Promise.{RulesOut, unequal}
use Rattle.wire.specs.Packet.{head_of, read_refusal, head_read}
use Rattle.wire.specs.Number.{bytes_of}
use Rattle.wire.specs.Record.{record_of, record_bytes, record_refusal, record_read, record_write_refusal, record_written}
use Rattle.wire.specs.declared.NumberRecord.{NumberRecord}
use Rattle.wire.specs.declared.NumberRecord.TheVariants.{ConsoleOld, Console, Controller}
use Rattle.wire.specs.declared.Packet.{Packet}
use Rattle.wire.proofs.RecordTrips.{record_read_back}
use Rattle.wire.proofs.Vectors.{need_i_1, need_i_1_read}
use Rattle.boundary.specs.Packets.{PacketOut, read_out, packet_out, head_refusal}
use Rattle.boundary.specs.Records.{RecordOut, record_out, record_put_refusal, carry_refusal, carried}
use Rattle.boundary.proofs.packets.nooseless_read_packet.Kinds as read-packet-kinds
use Rattle.boundary.proofs.packets.nooseless_read_packet.Reads as read-packet
use Rattle.boundary.proofs.packets.nooseless_write_packet.Kinds as write-packet-kinds
use Rattle.boundary.proofs.packets.nooseless_write_packet.Reads as write-packet
use Rattle.boundary.proofs.records.nooseless_read_record.Kinds as read-record-kinds
use Rattle.boundary.proofs.records.nooseless_read_record.Reads as read-record
use Rattle.boundary.proofs.records.nooseless_write_record.Kinds as write-record-kinds
use Rattle.boundary.proofs.records.nooseless_write_record.Reads as write-record
use Rattle.boundary.proofs.records.nooseless_carry_record.Kinds as carry-kinds
use Rattle.boundary.proofs.records.nooseless_carry_record.Reads as carry

-- ## Packets

pub first_number_as_second : RulesOut read-packet-kinds.ps read-packet-kinds.r read-packet.Post (λ κs a. a.0.now ≡ need_i_1) (λ κs a x s. s.1.1.1.0.now ≡ s.1.1.0.now)
first_number_as_second κs a x s e w p =
    let q = p ∙ ap (λ (l : List ℕ). packet_out l a.1.0.now a.1.1.0.now a.1.1.1.0.now a.1.1.1.1.0.now) e ∙ ap (λ (r : Result Packet Refusal). read_out r a.1.0.now a.1.1.0.now a.1.1.1.0.now a.1.1.1.1.0.now) need_i_1_read in
    unequal (sym (ap (λ (r : PacketOut). r.second) q) ∙ w ∙ ap (λ (r : PacketOut). r.first) q) refl

-- what was in the place of the kind is lost
pub clears_on_a_refusal : RulesOut read-packet-kinds.ps read-packet-kinds.r read-packet.Post (λ κs a. (a.0.now ≡ replicate 31 0) × (a.1.0.now ≡ 7)) (λ κs a x s. s.1.0.now ≡ 0)
unfolding head_read read_refusal first chosen
clears_on_a_refusal κs a x s e w p =
    let q = p ∙ ap (λ (l : List ℕ). packet_out l a.1.0.now a.1.1.0.now a.1.1.1.0.now a.1.1.1.1.0.now) e.0 in
    unequal (sym w ∙ ap (λ (r : PacketOut). r.kind) q ∙ e.1) refl

pub takes_kind_7 : RulesOut write-packet-kinds.ps write-packet-kinds.r write-packet.Post (λ κs a. (length a.0.now ≡ 32) × (a.1.0 ≡ 7) × (a.1.1.0 ≡ 1) × (a.1.1.1.0 ≡ 0)) (λ κs a x s. x ≡ 0)
unfolding head_of chosen
takes_kind_7 κs a x s e w p = unequal (sym w ∙ p.0 ∙ (λ i. head_refusal (e.0 i) (head_of (e.1 i) (e.2 i) (e.3 i)) a.1.1.1.1.0.now)) refl

pub packet_15_before_12 : RulesOut write-packet-kinds.ps write-packet-kinds.r write-packet.Post (λ κs a. (length a.0.now ≡ 31) × (a.1.0 ≡ 7) × (a.1.1.0 ≡ 1) × (a.1.1.1.0 ≡ 0)) (λ κs a x s. x ≡ 15)
unfolding head_of chosen
packet_15_before_12 κs a x s e w p = unequal (sym w ∙ p.0 ∙ (λ i. head_refusal (e.0 i) (head_of (e.1 i) (e.2 i) (e.3 i)) a.1.1.1.1.0.now)) refl

-- ## Number records

abbrev controllers : NumberRecord
controllers = Controller (record { 0 = 1 }) 64

controllers_read : record_read (record_bytes controllers) ≡ Ok controllers
controllers_read = record_read_back controllers (omega arith) refl

pub record_always_end_1 : RulesOut read-record-kinds.ps read-record-kinds.r read-record.Post (λ κs a. a.0.now ≡ record_bytes controllers) (λ κs a x s. s.1.0.now ≡ 1)
record_always_end_1 κs a x s e w p =
    let q = p ∙ ap (λ (r : Result NumberRecord Refusal). record_out r a.1.0.now a.1.1.0.now a.1.1.1.0.now) (ap record_read e ∙ controllers_read) in
    unequal (sym w ∙ ap (λ (r : RecordOut). r.end) q) refl

pub record_without_its_block : RulesOut read-record-kinds.ps read-record-kinds.r read-record.Post (λ κs a. a.0.now ≡ record_bytes controllers) (λ κs a x s. s.1.1.1.0.now ≡ 0)
record_without_its_block κs a x s e w p =
    let q = p ∙ ap (λ (r : Result NumberRecord Refusal). record_out r a.1.0.now a.1.1.0.now a.1.1.1.0.now) (ap record_read e ∙ controllers_read) in
    unequal (sym w ∙ ap (λ (r : RecordOut). r.block) q) refl

pub record_clears_on_a_refusal : RulesOut read-record-kinds.ps read-record-kinds.r read-record.Post (λ κs a. (a.0.now ≡ replicate 11 0) × (a.1.0.now ≡ 7)) (λ κs a x s. s.1.0.now ≡ 0)
unfolding record_read record_refusal first chosen
record_clears_on_a_refusal κs a x s e w p =
    let q = p ∙ ap (λ (l : List ℕ). record_out (record_read l) a.1.0.now a.1.1.0.now a.1.1.1.0.now) e.0 in
    unequal (sym w ∙ ap (λ (r : RecordOut). r.end) q ∙ e.1) refl

-- a writer to n bytes that says this of an end, the number 7 and a block
abbrev WritesRecord : ℕ → ℕ → ℕ → ℕ → Type 0
WritesRecord n end block y = RulesOut write-record-kinds.ps write-record-kinds.r write-record.Post (λ κs a. (length a.0.now ≡ n) × (a.1.0 ≡ end) × (a.1.1.0 ≡ 7) × (a.1.1.1.0 ≡ block)) (λ κs a x s. x ≡ y)

pub takes_end_3 : WritesRecord 12 3 0 0
unfolding record_of chosen
takes_end_3 κs a x s e w p = unequal (sym w ∙ p.0 ∙ (λ i. record_put_refusal (e.0 i) (e.3 i) (record_of (e.1 i) (e.2 i) (e.3 i)))) refl

pub record_15_before_12 : WritesRecord 11 3 0 15
unfolding record_of chosen
record_15_before_12 κs a x s e w p = unequal (sym w ∙ p.0 ∙ (λ i. record_put_refusal (e.0 i) (e.3 i) (record_of (e.1 i) (e.2 i) (e.3 i)))) refl

pub writes_block_1025 : WritesRecord 16 1 1025 0
unfolding record_of record_write_refusal first chosen
writes_block_1025 κs a x s e w p = unequal (sym w ∙ p.0 ∙ (λ i. record_put_refusal (e.0 i) (e.3 i) (record_of (e.1 i) (e.2 i) (e.3 i)))) refl

pub writes_version_2_to_12_bytes : WritesRecord 12 1 64 0
unfolding record_of record_write_refusal first chosen
writes_version_2_to_12_bytes κs a x s e w p = unequal (sym w ∙ p.0 ∙ (λ i. record_put_refusal (e.0 i) (e.3 i) (record_of (e.1 i) (e.2 i) (e.3 i)))) refl

-- a carrier of a console's record of version 1 with last used 7 to 16 bytes, and to 13
abbrev sevens : NumberRecord
sevens = ConsoleOld (record { 0 = 7 })

module _ (κs : Lfts 2) (a : Dens κs carry-kinds.ps) (n : ℕ) (s : AtExit (ended_of 2 carry-kinds.ps carry-kinds.r) κs) (from : a.0.now ≡ record_bytes sevens) (meets : carry.Post κs a n s) where
  seven : record_read a.0.now ≡ Ok sevens
  seven = ap record_read from ∙ record_read_back sevens (omega arith) refl

  carried_so : a.1.0.now ≡ replicate 16 0 → s.1.0.now ≡ record_bytes (Console (record { 0 = 7 }) 64)
  unfolding record_written record_write_refusal first chosen
  carried_so e = meets.1 ∙ (λ i. carried (e i) (seven i))

  pub carries_with_block_1 : a.1.0.now ≡ replicate 16 0 → get_or s.1.0.now 13 0 ≡ 1 → ⊥
  unfolding record_bytes bytes_of chosen
  carries_with_block_1 e w = unequal (sym w ∙ ap (λ (l : List ℕ). get_or l 13 0) (carried_so e)) refl

  pub carries_nothing : a.1.0.now ≡ replicate 16 0 → s.1.0.now ≡ a.1.0.now → ⊥
  unfolding record_bytes chosen
  carries_nothing e w = unequal (ap (λ (l : List ℕ). get_or l 0 0) (sym e ∙ sym w ∙ carried_so e)) refl

  pub carries_to_13_bytes : length a.1.0.now ≡ 13 → n ≡ 0 → ⊥
  unfolding record_write_refusal first chosen
  carries_to_13_bytes l w = unequal (sym w ∙ meets.0 ∙ (λ i. carry_refusal (l i) (seven i))) refl
