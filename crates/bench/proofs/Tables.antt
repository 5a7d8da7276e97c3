-- What sending and taking out make of a table that holds a list of packets, once for both directions.
use Prim.Native.Nat.{ℕ, ◌+◌, ◌-◌, ◌≤◌, ◌<◌}
use mathlib.Core.Path.{◌≡◌, refl, sym, ap, ◌∙◌}
use mathlib.Core.Bool.{Bool, true, false}
use mathlib.Core.Option as maybe
use mathlib.Core.List.{List, ◌∷◌, ◌++◌, append-nil}
use native.Mathlib.Omega.{arith}
use lib.Dec.{ltb}
use lib.ListN.{length, replicate, length-append, length-replicate}
use borrow.Author.Tests.{ltb-true, ltb-false, leb-true}
use Rattle.ground.specs.Options.{option_back}
use Rattle.std.specs.Prelude.{Option}
use Rattle.ground.specs.Choice.{chosen, when◌then◌else◌}
use Rattle.ground.proofs.Lists.{split, without_beyond}
use Rattle.ground.proofs.Tests.{by_test}
use Rattle.wire.specs.declared.Direction.{Direction}
use Rattle.wire.specs.declared.Packet.{Packet}
use Rattle.rules.specs.Bench.{without, copies_of}
use Rattle.rules.specs.Lists.{All, Opt}
use Rattle.rules.proofs.Lists.{all_append, all_without, all_copies}
use Rattle.channels.specs.Table.{channel, packets}
use Rattle.channels.proofs.Channel.{Coded, taken_is, added_is, packets_channel}
use Rattle.bench.specs.Traffic.{room_for, count_sent, table_sent, count_taken, table_taken}

-- the packets that are left
unfoldable pub left : {A : Type 0} → Bool → List A → ℕ → List A
left uses ps k = when uses then without ps k else ps

module _ {A : Type 0} where
  one_less : (ps : List A) (k : ℕ) → k < length ps → length ps - 1 ≡ length (without ps k)
  one_less ps k h =
      let s = split ps k h in
      let a = ap length s.whole in
      let b = length-append s.before (s.it ∷ s.behind) in
      let c = length-append s.before s.behind in
      let d = ap length s.rest in
      omega (arith, a, b, c, d)

  count_left : (uses : Bool) (ps : List A) (k : ℕ) → count_taken uses (length ps) k ≡ length (left uses ps k)
  unfolding count_taken left chosen
  count_left false ps k = refl
  count_left true ps k =
      by_test (ltb k (length ps)) (λ y. rw y (one_less ps k (ltb-true k (length ps) y)))
      (λ n. rw n (ap length (sym (without_beyond ps k (ltb-false k (length ps) n)))))

module _ {A : Type 0} {dir : Direction} {packet : A → Packet} {bytes : A → List ℕ} {reads : List ℕ → A} {Ok : A → Type 0} (code : Coded dir packet bytes reads Ok) where
  -- a table and its count hold these packets
  pub record Holds (ps : List A) (t : List ℕ) (count : ℕ) : Type 0 where
    pub table : t ≡ channel bytes ps
    pub number : count ≡ length ps
    pub good : All Ok ps
    pub room : length ps ≤ 64

  pub held : {ps : List A} {t : List ℕ} {count : ℕ} → Holds ps t count → packets reads count t ≡ ps
  held {ps} h = (λ i. packets reads (h.number i) (h.table i)) ∙ packets_channel code ps h.good

  taken_there : (uses : Bool) (ps : List A) (k : ℕ) → All Ok ps → length ps ≤ 64 → table_taken uses (channel bytes ps) (length ps) k ≡ channel bytes (left uses ps k)
  unfolding table_taken left chosen
  taken_there false ps k g r = refl
  taken_there true ps k g r =
      by_test (ltb k (length ps)) (λ y. rw y (taken_is code ps k g r))
      (λ n. rw n (ap (channel bytes) (sym (without_beyond ps k (ltb-false k (length ps) n)))))

  pub taking : {ps : List A} {t : List ℕ} {count : ℕ} (uses : Bool) (k : ℕ) → Holds ps t count
      → (table_taken uses t count k ≡ channel bytes (left uses ps k)) × (count_taken uses count k ≡ length (left uses ps k))
  taking {ps} uses k h =
      ((λ i. table_taken uses (h.table i) (h.number i) k) ∙ taken_there uses ps k h.good h.room, (λ i. count_taken uses (h.number i) k) ∙ count_left uses ps k)

  sent_there : (ps : List A) (n : ℕ) (o : maybe.Option A) → All Ok ps → Opt Ok o → length (ps ++ copies_of n o) ≤ 64
      → table_sent (option_back (maybe.map packet o)) (channel bytes ps) (length ps) n ≡ channel bytes (ps ++ copies_of n o)
  unfolding table_sent copies_of chosen
  sent_there ps n maybe.none g k r = ap (channel bytes) (sym (append-nil ps))
  sent_there ps n (maybe.some p) g k r =
      let a = length-append ps (replicate n p) in
      let b = length-replicate n p in
      added_is code ps n p g k (omega (arith, a, b, r))

  count_there : (ps : List A) (n : ℕ) (o : maybe.Option A) → count_sent (option_back (maybe.map packet o)) (length ps) n ≡ length (ps ++ copies_of n o)
  unfolding count_sent copies_of chosen
  count_there ps n maybe.none = ap length (sym (append-nil ps))
  count_there ps n (maybe.some p) = sym (length-append ps (replicate n p) ∙ ap (λ (m : ℕ). length ps + m) (length-replicate n p))

  pub sending : {ps : List A} {t : List ℕ} {count : ℕ} (n : ℕ) (o : maybe.Option A) → Holds ps t count → Opt Ok o → length (ps ++ copies_of n o) ≤ 64
      → (table_sent (option_back (maybe.map packet o)) t count n ≡ channel bytes (ps ++ copies_of n o)) × (count_sent (option_back (maybe.map packet o)) count n ≡ length (ps ++ copies_of n o))
  sending {ps} n o h k r =
      ((λ i. table_sent (option_back (maybe.map packet o)) (h.table i) (h.number i) n) ∙ sent_there ps n o h.good k r, (λ i. count_sent (option_back (maybe.map packet o)) (h.number i) n) ∙ count_there ps n o)

  -- ## What the table holds then

  all_left : (uses : Bool) (ps : List A) (k : ℕ) → All Ok ps → All Ok (left uses ps k)
  unfolding left chosen
  all_left false ps k g = g
  all_left true ps k g = all_without Ok ps k g

  fewer : (uses : Bool) (ps : List A) (k : ℕ) → length (left uses ps k) ≤ length ps
  unfolding left chosen
  fewer false ps k = omega arith
  fewer true ps k =
      by_test (ltb k (length ps)) (λ y. let h = one_less ps k (ltb-true k (length ps) y) in omega (arith, h))
      (λ n. let h = ap length (without_beyond ps k (ltb-false k (length ps) n)) in omega (arith, h))

  pub taken_holds : {ps : List A} {t t' : List ℕ} {count n : ℕ} (uses : Bool) (k : ℕ) → Holds ps t count → n ≡ count_taken uses count k → t' ≡ table_taken uses t count k → Holds (left uses ps k) t' n
  taken_holds {ps} uses k h e f =
      let r = fewer uses ps k in
      let m = h.room in
      record { table = f ∙ (taking uses k h).0; number = e ∙ (taking uses k h).1; good = all_left uses ps k h.good; room = omega (arith, r, m) }

  room_left : (ps : List A) (n : ℕ) (o : maybe.Option A) (count : ℕ) → count ≡ length ps → length ps ≤ 64 → room_for (option_back (maybe.map packet o)) count n ≡ true → length (ps ++ copies_of n o) ≤ 64
  unfolding room_for copies_of chosen
  room_left ps n maybe.none count e m r = let h = ap length (append-nil ps) in omega (arith, h, m)
  room_left ps n (maybe.some p) count e m r =
      let h = length-append ps (replicate n p) in
      let k = length-replicate n p in
      let q = leb-true (count + n) 64 r in
      omega (arith, h, k, q, e)

  pub sent_holds : {ps : List A} {t t' : List ℕ} {count c : ℕ} {s : Option Packet} (n : ℕ) (o : maybe.Option A) → Holds ps t count → Opt Ok o → s ≡ option_back (maybe.map packet o) → room_for s count n ≡ true
      → c ≡ count_sent s count n → t' ≡ table_sent s t count n → Holds (ps ++ copies_of n o) t' c
  sent_holds {ps} {t} {count = count} n o h g e r f q =
      let room = room_left ps n o count h.number h.room (ap (λ (x : Option Packet). room_for x count n) (sym e) ∙ r) in
      let sends = sending n o h g room in
      record {
        table = q ∙ ap (λ (x : Option Packet). table_sent x t count n) e ∙ sends.0;
        number = f ∙ ap (λ (x : Option Packet). count_sent x count n) e ∙ sends.1;
        good = all_append Ok ps (copies_of n o) h.good (all_copies Ok n o g);
        room = room;
      }
