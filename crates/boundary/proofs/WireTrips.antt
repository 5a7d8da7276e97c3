-- Packets and number records in C's hands: what is written reads back to the same numbers, and what is accepted is written back to the same bytes.
use Prim.Native.Nat.{ℕ, ◌^◌, ◌<◌}
use mathlib.Core.Path.{◌≡◌, refl, sym, ap, ◌∙◌}
use mathlib.Core.Bool.{Bool, true, false}
use mathlib.Core.List.{List}
use lib.ListN.{length}
use lib.Dec.{eqb}
use Rattle.std.specs.Prelude.{Result, Ok, Err}
use Rattle.ground.specs.Bytes.{Bytes}
use Rattle.ground.specs.Choice.{chosen, when◌then◌else◌}
use Rattle.ground.specs.declared.refusals.Refusal.{Refusal}
use Rattle.ground.proofs.Promise.{unequal}
use Rattle.wire.specs.Packet.{head_of, packet_read}
use Rattle.wire.specs.Record.{record_of, record_read, record_write_refusal}
use Rattle.wire.specs.declared.Packet.{Packet}
use Rattle.wire.specs.declared.Head.{Head}
use Rattle.wire.specs.declared.NumberRecord.{NumberRecord}
use Rattle.wire.proofs.PacketsFit.{Typed}
use Rattle.wire.proofs.Heads.{own_head, says}
use Rattle.wire.proofs.Outcomes.{read_numbered}
use Rattle.wire.proofs.RecordTrips.{own_record, made, record_read_back, loaded}
use Rattle.wire.proofs.RecordWriting.{record_writable, record_fits, record_put_lem}
use Rattle.wire.proofs.Trips.{read_back, taken, was_read}
use Rattle.wire.proofs.Writing.{writable, written_fits, packet_written_lem}
use Rattle.boundary.specs.Packets.{PacketOut, read_out, packet_out, head_refusal, head_put}
use Rattle.boundary.proofs.RefusalNumbers.{not_0}
use Rattle.boundary.specs.Records.{RecordOut, record_out, length_with, record_put_refusal, record_put}

-- what no line of the table has is refused
no_line : (b : Bool) → ◌≡◌ {A = ℕ} (when b then 15 else 12) 0 → ⊥
unfolding chosen
no_line true e = unequal e refl
no_line false e = unequal e refl

-- ## Packets

module _ (k a b : ℕ) (m : List ℕ) (typed : (a < 2 ^ 32) × (b < 2 ^ 32)) (out : List ℕ) (k₀ a₀ b₀ : ℕ) (m₀ : List ℕ) where
  of_head : (x : Result Head Refusal) → head_of k a b ≡ x → head_refusal (length out) x m ≡ 0 → packet_out (head_put out x m) k₀ a₀ b₀ m₀ ≡ record { refusal = 0; kind = k; first = a; second = b; message = m }
  of_head (Err r) e z = absurd (no_line (eqb (length out) 32) z)
  of_head (Ok h) e z =
      let p : Packet = record { head = h; message = m } in
      let v = says k a b e in
      let w = written_fits (length out) p z in
      let t : Typed p = record { first = rw v.first at typed.0; second = rw v.second at typed.1 } in
      let r = ap packet_read (packet_written_lem out p w.0 w.1) ∙ read_back p t w.1 in
      ap (λ (x : Result Packet Refusal). read_out x k₀ a₀ b₀ m₀) r
      ∙ λ i. record { refusal = 0; kind = sym v.kind i; first = sym v.first i; second = sym v.second i; message = m }

  pub packet_reads_back : head_refusal (length out) (head_of k a b) m ≡ 0 → packet_out (head_put out (head_of k a b) m) k₀ a₀ b₀ m₀ ≡ record { refusal = 0; kind = k; first = a; second = b; message = m }
  packet_reads_back z = of_head (head_of k a b) refl z

-- written to any 32 bytes
pub record WrittenBack (s : List ℕ) (r : PacketOut) : Type 0 where
  pub taken : head_refusal 32 (head_of r.kind r.first r.second) r.message ≡ 0
  pub same : (out : List ℕ) → length out ≡ 32 → head_put out (head_of r.kind r.first r.second) r.message ≡ s

module _ (s : List ℕ) (bytes : Bytes s) (k a b : ℕ) (m : List ℕ) where
  of_read : (x : Result Packet Refusal) → packet_read s ≡ x → (read_out x k a b m).refusal ≡ 0 → WrittenBack s (read_out x k a b m)
  of_read (Err r) e z = absurd (not_0 r z)
  of_read (Ok p) e z =
      let t = taken s bytes e in
      let own = own_head p.head (read_numbered s (was_read s e).0) in
      record {
        taken = rw own (writable p t.fitting);
        same = λ out l. rw own (packet_written_lem out p l t.fitting ∙ t.same);
      }

  pub packet_writes_back : (packet_out s k a b m).refusal ≡ 0 → WrittenBack s (packet_out s k a b m)
  packet_writes_back z = of_read (packet_read s) refl z

-- ## Number records

module _ (e n b : ℕ) (typed : n < 2 ^ 32) (out : List ℕ) (e₀ n₀ b₀ : ℕ) where
  of_made : (x : Result NumberRecord Refusal) → record_of e n b ≡ x → record_put_refusal (length out) b x ≡ 0 → record_out (record_read (record_put out x)) e₀ n₀ b₀ ≡ record { refusal = 0; end = e; number = n; block = b }
  of_made (Err r) q z = absurd (no_line (eqb (length out) (length_with b)) z)
  of_made (Ok u) q z =
      let m = made e n b q in
      let w = record_fits u (length out) z in
      ap (λ (x : Result NumberRecord Refusal). record_out x e₀ n₀ b₀) (ap record_read (record_put_lem out u z) ∙ record_read_back u (rw m.number at typed) w.1)
      ∙ λ i. record { refusal = 0; end = sym m.end i; number = sym m.number i; block = sym m.block i }

  pub record_reads_back : record_put_refusal (length out) b (record_of e n b) ≡ 0 → record_out (record_read (record_put out (record_of e n b))) e₀ n₀ b₀ ≡ record { refusal = 0; end = e; number = n; block = b }
  record_reads_back z = of_made (record_of e n b) refl z

-- written to any bytes, as many as were read
pub record RecordBack (s : List ℕ) (r : RecordOut) : Type 0 where
  pub taken : record_put_refusal (length s) r.block (record_of r.end r.number r.block) ≡ 0
  pub same : (out : List ℕ) → length out ≡ length s → record_put out (record_of r.end r.number r.block) ≡ s

module _ (s : List ℕ) (bytes : Bytes s) (e n b : ℕ) where
  of_record : (x : Result NumberRecord Refusal) → record_read s ≡ x → (record_out x e n b).refusal ≡ 0 → RecordBack s (record_out x e n b)
  of_record (Err r) q z = absurd (not_0 r z)
  of_record (Ok u) q z =
      let l = loaded s bytes q in
      let w : record_write_refusal (length s) u ≡ 0 = rw l.long (record_writable u l.good) in
      record {
        taken = rw (own_record u l.good) w;
        same = λ out k. rw (own_record u l.good) (record_put_lem out u (rw k w) ∙ l.same);
      }

  pub record_writes_back : (record_out (record_read s) e n b).refusal ≡ 0 → RecordBack s (record_out (record_read s) e n b)
  record_writes_back z = of_record (record_read s) refl z
