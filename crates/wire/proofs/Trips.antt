-- The round trips: what is written reads back to the same fields, and what is accepted is written back to the same bytes.
use Prim.Native.Nat.{ℕ}
use mathlib.Core.Path.{◌≡◌, sym, ap, ◌∙◌}
use mathlib.Core.Bool.{true}
use mathlib.Core.List.{List}
use native.Mathlib.Omega.{arith}
use lib.ListN.{length, get_or, drop}
use Rattle.ground.specs.Bytes.{Bytes}
use Rattle.ground.specs.Choice.{chosen}
use Rattle.ground.specs.First.{first}
use Rattle.std.specs.Prelude.{Result}
use Rattle.std.specs.Prelude as result
use Rattle.ground.specs.declared.refusals.Refusal.{Refusal}
use Rattle.ground.proofs.RefusalNumbers.{is_one, is_other}
use Rattle.wire.specs.declared.Head.{Head}
use Rattle.wire.specs.declared.Packet.{Packet}
use Rattle.wire.specs.Frame.{field}
use Rattle.wire.specs.Number.{bytes_of, value}
use Rattle.wire.specs.Packet.{first_of, second_of, fits, packet_bytes, head_at, carries, read_refusal, head_read, with_message, accepted, packet_read}
use Rattle.wire.proofs.PacketsFit.{Typed, fits_both, fits_numbers, fits_message, message_sixteen}
use Rattle.wire.proofs.Frames.{framed, frame_rest, split_field}
use Rattle.wire.proofs.Heads.{own_head, says}
use Rattle.wire.proofs.Numbers.{value_bytes_of, field_below, field_back}
use Rattle.wire.proofs.Outcomes.{head_read_lem, head_unrefused}

module _ (p : Packet) (t : Typed p) (f : fits p ≡ true) where
  head_back : head_at (packet_bytes p) ≡ result.Ok p.head
  unfolding head_at packet_bytes bytes_of
  head_back = rw (value_bytes_of 4 (first_of p.head) t.first, value_bytes_of 4 (second_of p.head) t.second) (own_head p.head (fits_numbers p f))

  pub packet_passes : read_refusal (packet_bytes p) ≡ 0
  unfolding read_refusal packet_bytes bytes_of first chosen
  packet_passes = rw (message_sixteen p f, head_back, fits_message p f)

  -- a packet that can be written reads back
  pub read_back : packet_read (packet_bytes p) ≡ accepted p
  unfolding packet_bytes bytes_of
  read_back = ap (λ (h : Result Head Refusal). with_message h (drop 16 (packet_bytes p))) (head_read_lem (packet_bytes p) packet_passes ∙ head_back)

-- what a packet has that was read from bytes
pub record Taken (s : List ℕ) (p : Packet) : Type 0 where
  pub long : length s ≡ 32
  pub typed : Typed p
  pub fitting : fits p ≡ true
  pub same : packet_bytes p ≡ s

-- a packet that was read has the head that was read, and the message
with_its_head : (x : Result Head Refusal) (m : List ℕ) {p : Packet} → with_message x m ≡ accepted p → (x ≡ result.Ok p.head) × (m ≡ p.message)
with_its_head (result.Err r) m {p} e = absurd (is_other r p e)
with_its_head (result.Ok h) m {p} e = let q = is_one (record { head = h; message = m }) p e in (ap (λ (r : Packet). result.Ok r.head) q, ap (λ (r : Packet). r.message) q)

pub was_read : (s : List ℕ) {p : Packet} → packet_read s ≡ accepted p → (head_read s ≡ result.Ok p.head) × (drop 16 s ≡ p.message)
was_read s e = with_its_head (head_read s) (drop 16 s) e

pub taken : (s : List ℕ) → Bytes s → {p : Packet} → packet_read s ≡ accepted p → Taken s p
unfolding read_refusal head_at packet_bytes
taken s b {p} e =
    let w = was_read s e in
    let z = head_unrefused s w.0 in
    let h : head_at s ≡ result.Ok p.head = sym (head_read_lem s z) ∙ w.0 in
    let m = w.1 in
    let g = framed 32 0x4C 1 s (carries (head_at s) (drop 16 s)) z in
    let l = g.long in
    let v = says (get_or s 5 0) (value (field s 8 4)) (value (field s 12 4)) h in
    record {
      long = l;
      typed = record {
        first = rw v.first at (field_below s 8 4 b (omega arith));
        second = rw v.second at (field_below s 12 4 b (omega arith));
      };
      fitting = fits_both p v.good (rw (h, m) at g.fields);
      same = rw (← v.kind, ← v.first, ← v.second, ← m, field_back s 8 4 b (omega arith), field_back s 12 4 b (omega arith), ← split_field s 12 4, ← split_field s 8 4) (frame_rest 32 0x4C 1 s _ (omega arith) g);
    }

pub write_back : (s : List ℕ) → Bytes s → {p : Packet} → packet_read s ≡ accepted p → packet_bytes p ≡ s
write_back s b e = (taken s b e).same
