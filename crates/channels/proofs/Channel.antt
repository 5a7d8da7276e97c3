-- A list of packets and its table: the laws that carry bytes up to the rules, once for both directions.
use Prim.Native.Nat.{ℕ, zero, suc, ◌+◌, ◌-◌, ◌*◌, ◌≤◌}
use mathlib.Core.Path.{◌≡◌, refl, sym, ap, subst, ◌∙◌}
use mathlib.Core.List.{List, [], ◌∷◌, ◌++◌, append_assoc}
use mathlib.Core.Bool.{true, ◌&&◌}
use mathlib.Core.Option.{some}
use native.Mathlib.Omega.{arith}
use borrow.Author.Tests.{le-leb}
use lib.ListN.{length, take, drop, replicate, length-append, length-drop, length-replicate, take-append-drop}
use lib.Seq.{take_at, drop_at, take-add}
use Rattle.std.specs.Prelude.{Ok as Okay}
use Rattle.ground.specs.Bytes.{Bytes}
use Rattle.ground.specs.Choice.{chosen}
use Rattle.ground.specs.Every.{filled}
use Rattle.ground.specs.Lists.{at, without, All, Opt}
use Rattle.ground.proofs.Bytes.{bytes_take, bytes_drop}
use Rattle.ground.proofs.Every.{filled_is, filled_replicate}
use Rattle.ground.proofs.Lists.{all_at}
use Rattle.ground.proofs.Tests.{and_left, and_right}
use Rattle.wire.specs.declared.Direction.{Direction}
use Rattle.wire.specs.declared.Packet.{Packet}
use Rattle.wire.specs.Packet.{direction_of, fits, packet_bytes, head_read, packet_read, accepted}
use Rattle.wire.proofs.PacketsFit.{Typed, packet_long}
use Rattle.wire.proofs.Trips.{read_back, was_read}
use Rattle.tables.specs.Table.{is_table, taken_out}
use Rattle.tables.proofs.Places.{Placed, zeros_left, is_long, is_few, laid_append, laid_length, table_none, table_length, above, bytes_at_is, taken_out_is, holds_length, holds_table}
use Rattle.channels.specs.Table.{laid, channel, packets, packet_at, head_at, same_way, goes, heads_pass, places_ok, table_ok, added}

-- ## What a well-formed table is

pub record TableOk (dir : Direction) (n : ℕ) (t : List ℕ) : Type 0 where
  pub long : length t ≡ 2048
  pub few : n ≤ 64
  pub held : places_ok dir n t ≡ true
  pub clear : filled 0 (drop (n * 32) t) ≡ true

pub table_facts : (dir : Direction) (n : ℕ) (t : List ℕ) → table_ok dir n t ≡ true → TableOk dir n t
unfolding table_ok
table_facts dir n t h =
    let a = is_table (length t) n in
    let b = places_ok dir n t in
    let c = filled 0 (drop (n * 32) t) in
    let i = and_left a b (and_left (a && b) c h) in
    record {
      long = is_long (length t) n i;
      few = is_few (length t) n i;
      held = and_right a b (and_left (a && b) c h);
      clear = and_right (a && b) c h;
    }

-- ## Packets of one direction, as the wire's and as bytes

pub record Coded {A : Type 0} (dir : Direction) (packet : A → Packet) (bytes : A → List ℕ) (reads : List ℕ → A) (Ok : A → Type 0) : Type 0 where
  pub same : (p : A) → bytes p ≡ packet_bytes (packet p)
  pub way : (p : A) → same_way (direction_of (packet p).head) dir ≡ true
  pub fitting : (p : A) → Ok p → fits (packet p) ≡ true
  pub typed : (p : A) → Ok p → Typed (packet p)
  pub again : (p : A) → Ok p → reads (bytes p) ≡ p
  pub back : (s : List ℕ) → Bytes s → goes dir (head_read s) ≡ true → (bytes (reads s) ≡ s) × Ok (reads s)

module _ {A : Type 0} {dir : Direction} {packet : A → Packet} {bytes : A → List ℕ} {reads : List ℕ → A} {Ok : A → Type 0} (code : Coded dir packet bytes reads Ok) where
  long : (p : A) → Ok p → length (bytes p) ≡ 32
  long p h = rw (code.same p) (packet_long (packet p) (code.fitting p h))

  placed : Placed bytes reads Ok
  placed = record { long = long; again = code.again }

  -- without a packet the table is clear
  pub channel_none : channel bytes [] ≡ replicate 2048 0
  channel_none = table_none bytes

  -- ## The packet at a place

  at_ok : (ps : List A) (k : ℕ) {p : A} → All Ok ps → at ps k ≡ some p → Ok p
  at_ok ps k h e = subst (Opt Ok) e (all_at Ok ps k h)

  -- what is read there is the packet
  pub packet_at_is : (ps : List A) (k : ℕ) {p : A} → All Ok ps → at ps k ≡ some p → packet_at (channel bytes ps) k ≡ accepted (packet p)
  unfolding packet_at
  packet_at_is ps k {p} h e =
      let o = at_ok ps k h e in
      ap packet_read (bytes_at_is placed ps k h e ∙ code.same p) ∙ read_back (packet p) (code.typed p o) (code.fitting p o)

  pub head_at_is : (ps : List A) (k : ℕ) {p : A} → All Ok ps → at ps k ≡ some p → head_at (channel bytes ps) k ≡ Okay (packet p).head
  unfolding head_at
  head_at_is ps k {p} h e =
      let o = at_ok ps k h e in
      ap head_read (bytes_at_is placed ps k h e ∙ code.same p) ∙ (was_read (packet_bytes (packet p)) (read_back (packet p) (code.typed p o) (code.fitting p o))).0

  -- ## A packet taken out, and copies added

  pub taken_is : (ps : List A) (k : ℕ) → All Ok ps → length ps ≤ 64 → taken_out (channel bytes ps) (length ps) k ≡ channel bytes (without ps k)
  taken_is = taken_out_is placed

  same_copies : (n : ℕ) (p : A) → laid packet_bytes (replicate n (packet p)) ≡ laid bytes (replicate n p)
  unfolding laid
  same_copies zero p = refl
  same_copies (suc n) p = λ i. sym (code.same p) i ++ same_copies n p i

  pub added_is : (ps : List A) (n : ℕ) (p : A) → All Ok ps → Ok p → length ps + n ≤ 64 → added (channel bytes ps) (length ps) n (packet p) ≡ channel bytes (ps ++ replicate n p)
  unfolding added channel chosen
  added_is ps n p h o k =
      let c = length ps in
      let m = 2048 - (c + n) * 32 in
      let l = laid bytes ps in
      let e = laid_length placed ps h in
      let a = length-append ps (replicate n p) in
      let b = length-replicate n p in
      let room : 2048 - c * 32 ≡ n * 32 + m = omega (arith, k) in
      let d : (c + n) * 32 ≡ c * 32 + n * 32 = omega arith in
      let z : drop ((c + n) * 32) (l ++ replicate (2048 - c * 32) 0) ≡ replicate m 0 = ap (λ (j : ℕ). drop j (l ++ replicate (2048 - c * 32) 0)) d ∙ rw room (zeros_left l (c * 32) (n * 32) m e) in
      let r : 2048 - length (ps ++ replicate n p) * 32 ≡ m = omega (arith, a, b) in
      rw (table_length placed ps h (omega (arith, k)), le-leb (c + n) 64 k, code.fitting p o, take_at l (replicate (2048 - c * 32) 0) (c * 32) e, z, same_copies n p, r, laid_append bytes ps (replicate n p))
      (sym (append_assoc l (laid bytes (replicate n p)) (replicate m 0)))

  -- ## The two round trips

  pub packets_channel : (ps : List A) → All Ok ps → packets reads (length ps) (channel bytes ps) ≡ ps
  packets_channel = holds_table placed

  pub packets_length : (n : ℕ) (t : List ℕ) → length (packets reads n t) ≡ n
  packets_length = holds_length reads

  laid_packets : (n : ℕ) (t : List ℕ) → Bytes t → places_ok dir n t ≡ true → laid bytes (packets reads n t) ≡ take (n * 32) t
  unfolding laid packets heads_pass
  laid_packets zero t b h = refl
  laid_packets (suc n) t b h =
      let g = goes dir (head_read (take 32 t)) in
      let r = places_ok dir n (drop 32 t) in
      let f : suc n * 32 ≡ 32 + n * 32 = omega arith in
      rw (f, take-add 32 (n * 32) t, (code.back (take 32 t) (bytes_take 32 t b) (and_left g r h)).0, laid_packets n (drop 32 t) (bytes_drop 32 t b) (and_right g r h))

  pub channel_packets : (n : ℕ) (t : List ℕ) → Bytes t → table_ok dir n t ≡ true → channel bytes (packets reads n t) ≡ t
  unfolding channel
  channel_packets n t b h =
      let w = table_facts dir n t h in
      let l = w.long in
      let d : length (drop (n * 32) t) ≡ 2048 - n * 32 = length-drop (n * 32) t ∙ rw l in
      rw (packets_length n t, laid_packets n t b w.held, ← d, ← filled_is 0 (drop (n * 32) t) w.clear) (take-append-drop (n * 32) t)

  -- ## Good packets, and a well-formed table

  places_good : (n : ℕ) (t : List ℕ) → Bytes t → places_ok dir n t ≡ true → All Ok (packets reads n t)
  unfolding packets heads_pass
  places_good zero t b h = tt
  places_good (suc n) t b h =
      let g = goes dir (head_read (take 32 t)) in
      let r = places_ok dir n (drop 32 t) in
      ((code.back (take 32 t) (bytes_take 32 t b) (and_left g r h)).1, places_good n (drop 32 t) (bytes_drop 32 t b) (and_right g r h))

  pub packets_good : (n : ℕ) (t : List ℕ) → Bytes t → table_ok dir n t ≡ true → All Ok (packets reads n t)
  packets_good n t b h = places_good n t b (table_facts dir n t h).held

  goes_bytes : (p : A) → Ok p → goes dir (head_read (bytes p)) ≡ true
  goes_bytes p o =
      ap (goes dir) (ap head_read (code.same p) ∙ (was_read (packet_bytes (packet p)) (read_back (packet p) (code.typed p o) (code.fitting p o))).0) ∙ code.way p

  places_laid : (ps : List A) (z : List ℕ) → All Ok ps → places_ok dir (length ps) (laid bytes ps ++ z) ≡ true
  unfolding laid heads_pass
  places_laid [] z h = refl
  places_laid (p ∷ ps) z h =
      let l = long p h.0 in
      rw (append_assoc (bytes p) (laid bytes ps) z, take_at (bytes p) (laid bytes ps ++ z) 32 l, drop_at (bytes p) (laid bytes ps ++ z) 32 l, goes_bytes p h.0) (places_laid ps z h.1)

  channel_places : (ps : List A) → All Ok ps → places_ok dir (length ps) (channel bytes ps) ≡ true
  unfolding channel
  channel_places ps h = places_laid ps (replicate (2048 - length ps * 32) 0) h

  pub channel_ok : (ps : List A) → All Ok ps → length ps ≤ 64 → table_ok dir (length ps) (channel bytes ps) ≡ true
  unfolding table_ok
  channel_ok ps h k =
      rw (table_length placed ps h k, le-leb (length ps) 64 k, channel_places ps h, above placed ps h) (filled_replicate (2048 - length ps * 32) 0)
