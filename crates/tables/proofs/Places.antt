-- The laws of places: a list of records and its table, for records of any kind.
use Rattle.std.proofs.Common.{ℕ, zero, suc, ◌+◌, ◌-◌, ◌*◌, ◌≤◌, ◌<◌, ◌≡◌, refl, sym, ap, subst, ◌∙◌, List, [], ◌∷◌, ◌++◌, append-nil, append_assoc, true, arith, le-leb, lt-ltb, eqb-true, leb-true, ltb-true, ltb-false, length, take, drop, replicate, length-append, take_at, drop_at, drop-drop, eqb, leb, ltb}
use mathlib.Core.Option.{some}
use lib.ListN.{length-replicate, replicate-append-replicate}
use Rattle.ground.specs.Bytes.{field}
use Rattle.ground.specs.Choice.{chosen}
use Rattle.ground.specs.Lists.{at, without, All}
use Rattle.ground.proofs.Lists.{Split, split, some_is, at_below, without_beyond, all_before, all_behind}
use Rattle.ground.proofs.Tests.{by_test, and_left, and_right}
use Rattle.tables.specs.Table.{is_table, bytes_at, laid, table_of, holds, taken_out}
use Rattle.tables.proofs.Taking.{out_none}

-- ## What a table is

pub is_long : (n count : ℕ) → is_table n count ≡ true → n ≡ 2048
is_long n count h = eqb-true n 2048 (and_left (eqb n 2048) (leb count 64) h)

pub is_few : (n count : ℕ) → is_table n count ≡ true → count ≤ 64
is_few n count h = leb-true count 64 (and_right (eqb n 2048) (leb count 64) h)

-- ## Bytes one after another

drop_zeros : (n m : ℕ) → drop {A = ℕ} n (replicate (n + m) 0) ≡ replicate m 0
drop_zeros n m =
    ap (λ (l : List ℕ). drop n l) (sym (replicate-append-replicate n m 0)) ∙ drop_at (replicate n 0) (replicate m 0) n (length-replicate n 0)

-- what is left of the zeros after a list
pub zeros_left : (l : List ℕ) (a b m : ℕ) → length l ≡ a → drop (a + b) (l ++ replicate (b + m) 0) ≡ replicate m 0
zeros_left l a b m e =
    sym (drop-drop b a (l ++ replicate (b + m) 0)) ∙ ap (drop b) (drop_at l (replicate (b + m) 0) a e) ∙ drop_zeros b m

-- four lists one after another, of which the second is taken out
taken_lists : (x b y z : List ℕ) (a e : ℕ) → length x ≡ a → length b ≡ 32 → length y ≡ e - (a + 32) → a + 32 ≤ e → take a (x ++ (b ++ (y ++ z))) ++ (field (x ++ (b ++ (y ++ z))) (a + 32) (e - (a + 32)) ++ (replicate 32 0 ++ drop e (x ++ (b ++ (y ++ z))))) ≡ x ++ (y ++ (replicate 32 0 ++ z))
taken_lists x b y z a e h j k m =
    let l₁ = length-append x b in
    let l₂ = length-append (x ++ b) y in
    let p = append_assoc x b (y ++ z) in
    let q = append_assoc (x ++ b) y z in
    let d₁ : drop (a + 32) (x ++ (b ++ (y ++ z))) ≡ y ++ z = ap (drop (a + 32)) (sym p) ∙ drop_at (x ++ b) (y ++ z) (a + 32) (omega (arith, l₁, h, j)) in
    let d₂ : drop e (x ++ (b ++ (y ++ z))) ≡ z = ap (drop e) (sym p ∙ sym q) ∙ drop_at ((x ++ b) ++ y) z e (omega (arith, l₁, l₂, h, j, k, m)) in
    rw (take_at x (b ++ (y ++ z)) a h, d₁, d₂, take_at y z (e - (a + 32)) k)

module _ {A : Type 0} (bytes : A → List ℕ) where
  pub laid_append : (xs ys : List A) → laid bytes (xs ++ ys) ≡ laid bytes xs ++ laid bytes ys
  unfolding laid
  laid_append [] ys = refl
  laid_append (x ∷ xs) ys = ap (λ (l : List ℕ). bytes x ++ l) (laid_append xs ys) ∙ sym (append_assoc (bytes x) (laid bytes xs) (laid bytes ys))

  pub copies_length : (n : ℕ) (p : A) → length (bytes p) ≡ 32 → length (laid bytes (replicate n p)) ≡ n * 32
  unfolding laid
  copies_length zero p h = refl
  copies_length (suc n) p h =
      let e = copies_length n p h in
      length-append (bytes p) (laid bytes (replicate n p)) ∙ omega (arith, e, h)

  pub copies_suc : (n : ℕ) (p : A) → laid bytes (replicate (n + 1) p) ≡ laid bytes (replicate n p) ++ bytes p
  unfolding laid
  copies_suc n p =
      ap (λ (l : List A). laid bytes l) (sym (replicate-append-replicate n 1 p)) ∙ laid_append (replicate n p) (p ∷ []) ∙ ap (λ (l : List ℕ). laid bytes (replicate n p) ++ l) (append-nil (bytes p))

  -- without a record the table is clear
  pub table_none : table_of bytes [] ≡ replicate 2048 0
  unfolding table_of laid
  table_none = refl

module _ {A : Type 0} (reads : List ℕ → A) where
  pub holds_length : (n : ℕ) (t : List ℕ) → length (holds reads n t) ≡ n
  unfolding holds
  holds_length zero t = refl
  holds_length (suc n) t = ap suc (holds_length n (drop 32 t))

-- ## Good records have 32 bytes, and read back

pub record Placed {A : Type 0} (bytes : A → List ℕ) (reads : List ℕ → A) (Ok : A → Type 0) : Type 0 where
  pub long : (p : A) → Ok p → length (bytes p) ≡ 32
  pub again : (p : A) → Ok p → reads (bytes p) ≡ p

module _ {A : Type 0} {bytes : A → List ℕ} {reads : List ℕ → A} {Ok : A → Type 0} (code : Placed bytes reads Ok) where
  pub laid_length : (ps : List A) → All Ok ps → length (laid bytes ps) ≡ length ps * 32
  unfolding laid
  laid_length [] h = refl
  laid_length (p ∷ ps) h =
      let e = laid_length ps h.1 in
      let f = code.long p h.0 in
      length-append (bytes p) (laid bytes ps) ∙ omega (arith, e, f)

  pub table_length : (ps : List A) → All Ok ps → length ps ≤ 64 → length (table_of bytes ps) ≡ 2048
  unfolding table_of
  table_length ps h k =
      let e = laid_length ps h in
      length-append (laid bytes ps) (replicate (2048 - length ps * 32) 0) ∙ rw (length-replicate {A = ℕ} (2048 - length ps * 32) 0) (omega (arith, e, k))

  -- the bytes above the records
  pub above : (ps : List A) → All Ok ps → drop (length ps * 32) (table_of bytes ps) ≡ replicate (2048 - length ps * 32) 0
  unfolding table_of
  above ps h = drop_at (laid bytes ps) (replicate (2048 - length ps * 32) 0) (length ps * 32) (laid_length ps h)

  -- ## The record at a place

  -- the table around a place
  around : (ps : List A) (k : ℕ) (s : Split ps k) (z : List ℕ) → laid bytes ps ++ z ≡ laid bytes s.before ++ (bytes s.it ++ (laid bytes s.behind ++ z))
  unfolding laid
  around ps k s z =
      let x = laid bytes s.before in
      let b = bytes s.it in
      let y = laid bytes s.behind in
      ap (λ (l : List A). laid bytes l ++ z) s.whole ∙ ap (λ (l : List ℕ). l ++ z) (laid_append bytes s.before (s.it ∷ s.behind)) ∙ append_assoc x (b ++ y) z ∙ ap (λ (l : List ℕ). x ++ l) (append_assoc b y z)

  before_length : (ps : List A) (k : ℕ) (s : Split ps k) → All Ok ps → length (laid bytes s.before) ≡ k * 32
  before_length ps k s h =
      laid_length s.before (all_before Ok s.before (s.it ∷ s.behind) (subst (All Ok) s.whole h)) ∙ ap (λ (n : ℕ). n * 32) s.place

  it_ok : (ps : List A) (k : ℕ) (s : Split ps k) → All Ok ps → All Ok (s.it ∷ s.behind)
  it_ok ps k s h = all_behind Ok s.before (s.it ∷ s.behind) (subst (All Ok) s.whole h)

  pub bytes_at_is : (ps : List A) (k : ℕ) {p : A} → All Ok ps → at ps k ≡ some p → bytes_at (table_of bytes ps) k ≡ bytes p
  unfolding table_of
  bytes_at_is ps k {p} h e =
      let s = split ps k (at_below ps k e) in
      let z : List ℕ = replicate (2048 - length ps * 32) 0 in
      let x = laid bytes s.before in
      let y = laid bytes s.behind in
      let q : s.it ≡ p = some_is (sym s.found ∙ e) in
      rw (around ps k s z, drop_at x (bytes s.it ++ (y ++ z)) (k * 32) (before_length ps k s h), take_at (bytes s.it) (y ++ z) 32 (code.long s.it (it_ok ps k s h).0))
      (ap bytes q)

  -- ## A record taken out

  taken_there : (ps : List A) (k : ℕ) → All Ok ps → length ps ≤ 64 → k < length ps → taken_out (table_of bytes ps) (length ps) k ≡ table_of bytes (without ps k)
  unfolding taken_out table_of laid chosen
  taken_there ps k h m b =
      let s = split ps k b in
      let n = length ps in
      let z : List ℕ = replicate (2048 - n * 32) 0 in
      let x = laid bytes s.before in
      let y = laid bytes s.behind in
      let o = it_ok ps k s h in
      let a₁ : n ≡ length (s.before ++ s.it ∷ s.behind) = ap length s.whole in
      let a₂ = length-append s.before (s.it ∷ s.behind) in
      let a₃ = length-append s.before s.behind in
      let a₄ = s.place in
      let a₅ = laid_length s.behind o.1 in
      let l : length y ≡ n * 32 - (k * 32 + 32) = omega (arith, a₁, a₂, a₄, a₅) in
      let v : 2048 - length (s.before ++ s.behind) * 32 ≡ 32 + (2048 - n * 32) = omega (arith, a₁, a₂, a₃, m) in
      rw (table_length ps h m, le-leb n 64 m, lt-ltb k n b, around ps k s z)
      (taken_lists x (bytes s.it) y z (k * 32) (n * 32) (before_length ps k s h) (code.long s.it o.0) l (omega (arith, b))
      ∙ rw (s.rest, v, laid_append bytes s.before s.behind, ← replicate-append-replicate {A = ℕ} 32 (2048 - n * 32) 0, append_assoc x y (replicate 32 0 ++ z)))

  -- where the place isn't below the count, both stay as they are
  pub taken_out_is : (ps : List A) (k : ℕ) → All Ok ps → length ps ≤ 64 → taken_out (table_of bytes ps) (length ps) k ≡ table_of bytes (without ps k)
  taken_out_is ps k h m =
      by_test (ltb k (length ps)) (λ y. taken_there ps k h m (ltb-true k (length ps) y))
      (λ n.
      let b = ltb-false k (length ps) n in
      sym (out_none (table_of bytes ps) (length ps) k (table_length ps h m) m b) ∙ ap (table_of bytes) (sym (without_beyond ps k b)))

  -- ## What a table of good records holds

  holds_laid : (ps : List A) (z : List ℕ) → All Ok ps → holds reads (length ps) (laid bytes ps ++ z) ≡ ps
  unfolding laid holds
  holds_laid [] z h = refl
  holds_laid (p ∷ ps) z h =
      let l = code.long p h.0 in
      rw (append_assoc (bytes p) (laid bytes ps) z, take_at (bytes p) (laid bytes ps ++ z) 32 l, drop_at (bytes p) (laid bytes ps ++ z) 32 l, code.again p h.0, holds_laid ps z h.1)

  pub holds_table : (ps : List A) → All Ok ps → holds reads (length ps) (table_of bytes ps) ≡ ps
  unfolding table_of
  holds_table ps h = holds_laid ps (replicate (2048 - length ps * 32) 0) h
