-- Adding copies of a packet, one lent place after another.
use Prim.Native.Nat.{ℕ, ◌+◌, ◌-◌, ◌*◌, ◌≤◌, ◌<◌}
use mathlib.Core.Path.{◌≡◌, sym, ◌∙◌}
use mathlib.Core.List.{List, ◌++◌, append_assoc}
use mathlib.Core.Bool.{true, true≢false}
use native.Mathlib.Omega.{arith}
use native.Mathlib.Nat.{add-zero}
use borrow.Author.Tests.{ne_eqb, le-leb, lt-leb}
use lib.ListN.{length, take, drop, replicate, length-append, length-drop, take-append-drop}
use lib.Seq.{length-take-le, drop-drop}
use Rattle.ground.specs.Choice.{chosen, when◌then◌else◌}
use Rattle.ground.proofs.Tests.{by_test}
use Rattle.wire.specs.declared.Packet.{Packet}
use Rattle.wire.specs.Packet.{fits, packet_bytes, packet_written}
use Rattle.wire.proofs.PacketsFit.{packet_long}
use Rattle.wire.proofs.Writing.{written_fits, out_kept, packet_written_lem}
use Rattle.tables.proofs.LentParts.{part, replaced, part_length, put_back, back_at}
use Rattle.tables.proofs.Places.{copies_length, copies_suc}
use Rattle.channels.specs.Table.{laid, with_copies, added}

module _ (t : List ℕ) (count : ℕ) (p : Packet) where
  -- the table after i copies
  unfoldable pub after : ℕ → List ℕ
  after i = when fits p then with_copies t count i p else t

  pub after_none : t ≡ after 0
  unfolding after chosen laid
  after_none = by_test (fits p) (λ y. rw (y, add-zero, take-append-drop (count * 32) t)) (λ n. rw n)

  one_more : (i : ℕ) → fits p ≡ true → length t ≡ 2048 → count + i < 64 → replaced (with_copies t count i p) ((count + i) * 32) ((count + i) * 32 + 32) (packet_bytes p) ≡ with_copies t count (i + 1) p
  one_more i f l h =
      let a = take (count * 32) t in
      let c = laid packet_bytes (replicate i p) in
      let n = (count + i) * 32 in
      let k = drop n t in
      let u = length-take-le (count * 32) t (omega (arith, l, h)) in
      let v = copies_length packet_bytes i p (packet_long p f) in
      let w = length-append a c in
      let front : length (a ++ c) ≡ n = omega (arith, u, v, w) in
      let r = length-drop n t in
      let o = length-take-le 32 k (omega (arith, l, h, r)) in
      let place : length (take 32 k) ≡ n + 32 - n = omega (arith, o) in
      let d : (count + (i + 1)) * 32 ≡ n + 32 = omega arith in
      let whole : with_copies t count i p ≡ (a ++ c) ++ (take 32 k ++ drop 32 k) = rw (take-append-drop 32 k) (sym (append_assoc a c k)) in
      rw whole (back_at (a ++ c) (take 32 k) (drop 32 k) (packet_bytes p) n (n + 32) front place
      ∙ rw (d, copies_suc packet_bytes i p, drop-drop 32 n t, append_assoc a c (packet_bytes p ++ drop (n + 32) t), append_assoc c (packet_bytes p) (drop (n + 32) t)))

  -- a turn: the place after the copies is lent to the writer
  pub add_on : (copies i : ℕ) (x : List ℕ) {y : List ℕ} → x ≡ after i → length x ≡ length t → i < copies → copies ≤ 64 - count → length t ≡ 2048 → y ≡ packet_written (part x ((count + i) * 32) ((count + i) * 32 + 32)) p → replaced x ((count + i) * 32) ((count + i) * 32 + 32) y ≡ after (i + 1)
  unfolding after chosen
  add_on copies i x {y} e m h k l f =
      let n = (count + i) * 32 in
      let b : count + i < 64 = omega (arith, h, k) in
      let o : length (part x n (n + 32)) ≡ 32 = part_length x n (n + 32) (omega (arith, m, l, b)) ∙ omega arith in
      by_test (fits p)
      (λ g.
      let q : x ≡ with_copies t count i p = rw g at e in
      rw (g, f, packet_written_lem (part x n (n + 32)) p o g, q) (one_more i g l b))
      (λ g.
      let q : x ≡ t = rw g at e in
      let w = out_kept (part x n (n + 32)) p (λ z. true≢false (sym (written_fits (length (part x n (n + 32))) p z).1 ∙ g)) in
      rw (g, f, w, put_back x n (n + 32)) q)

  -- what is left of a table: it is none, the count is too great, there is no room, and it is done
  pub add_short : (copies : ℕ) → (length t ≡ 2048 → ⊥) → t ≡ added t count copies p
  unfolding added chosen
  add_short copies h = rw (ne_eqb (length t) 2048 h)

  full : (copies : ℕ) → length t ≡ 2048 → 64 < count + copies → t ≡ added t count copies p
  unfolding added chosen
  full copies l h = rw (l, lt-leb (count + copies) 64 h)

  pub add_many : (copies : ℕ) → length t ≡ 2048 → 64 < count → t ≡ added t count copies p
  add_many copies l h = full copies l (omega (arith, h))

  pub add_full : (copies : ℕ) → length t ≡ 2048 → count ≤ 64 → 64 - count < copies → t ≡ added t count copies p
  add_full copies l h k = full copies l (omega (arith, h, k))

  pub add_end : (copies i : ℕ) {x : List ℕ} → x ≡ after i → copies ≤ i → i ≤ copies → count ≤ 64 → copies ≤ 64 - count → length t ≡ 2048 → x ≡ added t count copies p
  unfolding added after chosen
  add_end copies i e h k c m l =
      let d : i ≡ copies = omega (arith, h, k) in
      e ∙ rw (d, l, le-leb (count + copies) 64 (omega (arith, c, m)))

pub ruleset adds = (add_short, add_many, add_full, add_end)
