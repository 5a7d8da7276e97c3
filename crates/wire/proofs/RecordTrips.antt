-- The round trips of number records of both versions.
use Prim.Native.Nat.{ℕ, ◌^◌, ◌<◌}
use mathlib.Core.Path.{◌≡◌, refl, sym, ap, ◌∙◌}
use mathlib.Core.Bool.{true, false, ◌&&◌, false≢true}
use mathlib.Core.List.{List, ◌++◌, append-nil}
use native.Mathlib.Omega.{arith}
use borrow.Author.Tests.{ne_eqb, eqb-true, eqb-false, leb-true}
use lib.ListN.{length, get_or, drop, drop_of_length-le}
use lib.Dec.{eqb, leb}
use Rattle.ground.specs.Bytes.{Bytes}
use Rattle.std.specs.Prelude.{Ok, Err}
use Rattle.ground.specs.Refusals as refusals
use Rattle.ground.specs.Refusals.{refusal_of, refused_by, refusal_in}
use Rattle.ground.specs.declared.refusals.Refusal.{Refusal}
use Rattle.ground.specs.declared.refusals.Refusal.TheVariants.{WrongField}
use Rattle.ground.proofs.RefusalNumbers.{first_comes_back, is_one, is_other, is_refusal, own_number}
use Rattle.ground.specs.Choice.{chosen}
use Rattle.ground.specs.First.{first}
use Rattle.ground.proofs.Elements.{rest_elements}
use Rattle.ground.proofs.Tests.{by_test, and_left, and_right}
use Rattle.wire.specs.declared.NumberRecord.{NumberRecord}
use Rattle.wire.specs.declared.NumberRecord.TheVariants.{ConsoleOld, ControllerOld, Console, Controller}
use Rattle.wire.specs.Frame.{field, bytes_are}
use Rattle.wire.specs.Number.{bytes_of, value}
use Rattle.wire.specs.Record.{is_old, end_of, number_of, block_of, is_block, is_good, old_bytes, new_bytes, record_bytes, records, record_of, block_at, record_at, is_read, record_refusal, record_read, length_of}
use Rattle.wire.proofs.Found.{Each, found_passes}
use Rattle.wire.proofs.Frames.{Framed, bytes_are_lem, framed, frame_rest, split_field}
use Rattle.wire.proofs.Numbers.{value_bytes_of, field_below, field_back}
use Rattle.wire.proofs.RecordReading.{new_fields, as_old, as_new, old_block, new_block, read_so}

-- bytes 14 and 15 of 16
zeros_last : (s : List ℕ) → length s ≡ 16 → bytes_are s 14 (bytes_of 2 0) ≡ true → drop 14 s ≡ bytes_of 2 0
unfolding bytes_of
zeros_last s l e = sym (rest_elements 2 s 14 l) ∙ bytes_are_lem s 14 (bytes_of 2 0) e

-- a block is above 0, and two bytes hold it
above : (b : ℕ) → is_block b ≡ true → eqb b 0 ≡ false
above b g = let h = leb-true 1 b (and_left (leb 1 b) (leb b 1024) g) in ne_eqb b 0 (λ e. omega arith)

below : (b : ℕ) → is_block b ≡ true → b < 256 ^ 2
below b g = let h = leb-true b 1024 (and_right (leb 1 b) (leb b 1024) g) in omega arith

-- ## What is written reads back

pub own_record : (r : NumberRecord) → is_good r ≡ true → record_of (end_of r) (number_of r) (block_of r) ≡ Ok r
unfolding record_of chosen
own_record (ConsoleOld j) g = refl
own_record (ControllerOld i) g = refl
own_record (Console j b) g = rw (above b g)
own_record (Controller i b) g = rw (above b g)

module _ (e n : ℕ) {r : NumberRecord} (t : n < 2 ^ 32) (q : record_of e n 0 ≡ Ok r) where
  old_at : record_at (old_bytes e n) ≡ Ok r
  unfolding record_at block_at bytes_of chosen
  old_at = rw (value_bytes_of 4 n t) q

  old_unrefused : record_refusal (old_bytes e n) ≡ 0
  unfolding record_refusal bytes_of first chosen
  old_unrefused = rw old_at

  old_back : record_read (old_bytes e n) ≡ Ok r
  old_back = read_so (old_bytes e n) old_unrefused ∙ old_at

module _ (e n b : ℕ) {r : NumberRecord} (t : n < 2 ^ 32) (g : is_block b ≡ true) (q : record_of e n b ≡ Ok r) where
  new_laid : block_at (new_bytes e n b) ≡ b
  unfolding block_at bytes_of chosen
  new_laid = value_bytes_of 2 b (below b g)

  new_at : record_at (new_bytes e n b) ≡ Ok r
  unfolding record_at bytes_of
  new_at = rw (new_laid, value_bytes_of 4 n t) q

  new_unrefused : record_refusal (new_bytes e n b) ≡ 0
  unfolding record_refusal bytes_of first chosen
  new_unrefused = rw (new_at, new_laid, g)

  new_back : record_read (new_bytes e n b) ≡ Ok r
  new_back = read_so (new_bytes e n b) new_unrefused ∙ new_at

-- a record whose number fits 32 bits and whose block, if it has one, is good
pub record_read_back : (r : NumberRecord) → number_of r < 2 ^ 32 → is_good r ≡ true → record_read (record_bytes r) ≡ Ok r
unfolding record_bytes chosen
record_read_back (ConsoleOld j) t g = old_back 1 j.0 t (own_record (ConsoleOld j) g)
record_read_back (ControllerOld i) t g = old_back 2 i.0 t (own_record (ControllerOld i) g)
record_read_back (Console j b) t g = new_back 1 j.0 b t g (own_record (Console j b) g)
record_read_back (Controller i b) t g = new_back 2 i.0 b t g (own_record (Controller i b) g)

-- ## A record, its fields and its bytes

-- another record has other bytes
pub bytes_one : (a b : NumberRecord) → number_of a < 2 ^ 32 → is_good a ≡ true → number_of b < 2 ^ 32 → is_good b ≡ true → record_bytes a ≡ record_bytes b → a ≡ b
bytes_one a b t g u h e = is_one a b (sym (record_read_back a t g) ∙ ap record_read e ∙ record_read_back b u h)

-- a record is made of its own end, number and block, and block 0 makes version 1
pub record Made (e n b : ℕ) (r : NumberRecord) : Type 0 where
  pub end : e ≡ end_of r
  pub number : n ≡ number_of r
  pub block : b ≡ block_of r
  pub version : is_old r ≡ eqb b 0

module _ (e n b : ℕ) where
  abbrev As : NumberRecord → Type 0
  As r = (n ≡ number_of r) × (b ≡ block_of r) × (is_old r ≡ eqb b 0)

  each_as : Each As (records n b)
  unfolding chosen
  each_as =
      by_test (eqb b 0)
      (λ t. let z = eqb-true b 0 t in rw t ((refl, z, sym t), ((refl, z, sym t), tt)))
      (λ f. rw f ((refl, refl, sym f), ((refl, refl, sym f), tt)))

  pub made : {r : NumberRecord} → record_of e n b ≡ Ok r → Made e n b r
  unfolding record_of
  made {r} q =
      let p = found_passes (λ v. eqb e (end_of v)) Ok (Err WrongField) is_one (is_other WrongField) As (records n b) each_as q in
      record { end = eqb-true e (end_of r) p.0; number = p.1.0; block = p.1.1; version = p.1.2 }

-- ## What bytes that are not refused have

module _ (s : List ℕ) (z : record_refusal s ≡ 0) where
  old_framed : (length s ≡ 16 → ⊥) → Framed 12 0x4E 1 s (is_read (record_at s))
  old_framed h = framed 12 0x4E 1 s (is_read (record_at s)) (sym (as_old s h) ∙ z)

  new_framed : length s ≡ 16 → Framed 16 0x4E 2 s (new_fields s)
  new_framed l = framed 16 0x4E 2 s (new_fields s) (sym (as_new s l) ∙ z)

  new_passes : length s ≡ 16 → (is_read (record_at s) ≡ true) × (is_block (block_at s) ≡ true) × (bytes_are s 14 (bytes_of 2 0) ≡ true)
  new_passes l =
      let read = is_read (record_at s) in
      let block = is_block (block_at s) in
      let zeros = bytes_are s 14 (bytes_of 2 0) in
      let f = (new_framed l).fields in
      let g = and_left (read && block) zeros f in
      (and_left read block g, and_right read block g, and_right (read && block) zeros f)

  end_passes : is_read (record_at s) ≡ true
  end_passes =
      by_test (eqb (length s) 16) (λ t. (new_passes (eqb-true (length s) 16 t)).0) (λ f. (old_framed (eqb-false (length s) 16 f)).fields)

known : (s : List ℕ) → refusal_in (refused_by (record_refusal s)) ≡ record_refusal s
unfolding record_refusal chosen
known s = by_test (eqb (length s) 16) (λ t. rw t (first_comes_back _ refl)) (λ f. rw f (first_comes_back _ refl))

-- a refusal has the number of the first, which is not 0
pub record_refused : (s : List ℕ) {r : Refusal} → record_read s ≡ Err r → (record_refusal s ≡ refusals.number_of r) × (record_refusal s ≡ 0 → ⊥)
unfolding record_read chosen
record_refused s {r} e =
    by_test (eqb (record_refusal s) 0)
    (λ t. let u : record_at s ≡ Err r = rw t at e in absurd (false≢true (rw u at (end_passes s (eqb-true (record_refusal s) 0 t)))))
    (λ f.
    let z = eqb-false (record_refusal s) 0 f in
    let q = is_refusal (refusal_of (record_refusal s)) r (rw f at e) in
    (sym (own_number (record_refusal s) (known s) z) ∙ ap refusals.number_of q, z))

pub record_unrefused : (s : List ℕ) {r : NumberRecord} → record_read s ≡ Ok r → (record_refusal s ≡ 0) × (record_at s ≡ Ok r)
unfolding record_read chosen
record_unrefused s {r} e =
    by_test (eqb (record_refusal s) 0)
    (λ t. (eqb-true (record_refusal s) 0 t, rw t at e))
    (λ f. absurd (is_other (refusal_of (record_refusal s)) r (rw f at e)))

module _ (s : List ℕ) {r : NumberRecord} (e : record_read s ≡ Ok r) where
  made_of : Made (get_or s 5 0) (value (field s 8 4)) (block_at s) r
  unfolding record_at
  made_of = made (get_or s 5 0) (value (field s 8 4)) (block_at s) (record_unrefused s e).1

  read_old : (length s ≡ 16 → ⊥) → is_old r ≡ true
  read_old h = made_of.version ∙ rw (old_block s h)

  read_block : length s ≡ 16 → is_block (block_at s) ≡ true
  read_block l = (new_passes s (record_unrefused s e).0 l).1

  read_new : length s ≡ 16 → is_old r ≡ false
  read_new l = made_of.version ∙ above (block_at s) (read_block l)

  pub read_good : is_good r ≡ true
  read_good =
      by_test (eqb (length s) 16)
      (λ t. let l = eqb-true (length s) 16 t in rw (read_new l, ← made_of.block) (read_block l))
      (λ f. rw (read_old (eqb-false (length s) 16 f)))

-- ## What is accepted is written back

-- what a record has that was read from bytes
pub record Loaded (s : List ℕ) (r : NumberRecord) : Type 0 where
  pub long : length s ≡ length_of r
  pub typed : number_of r < 2 ^ 32
  pub good : is_good r ≡ true
  pub same : record_bytes r ≡ s

module _ (s : List ℕ) (b : Bytes s) {r : NumberRecord} (e : record_read s ≡ Ok r) where
  loaded_old : (length s ≡ 16 → ⊥) → Loaded s r
  unfolding record_bytes chosen
  loaded_old h =
      let g = old_framed s (record_unrefused s e).0 h in
      let l = g.long in
      let m = made_of s e in
      let o = read_old s e h in
      let rest : drop 8 s ≡ field s 8 4 = split_field s 8 4 ∙ rw (drop_of_length-le s {i = 12} (omega arith), append-nil) in
      record {
        long = rw o l;
        typed = rw m.number at (field_below s 8 4 b (omega arith));
        good = read_good s e;
        same = rw (o, ← m.end, ← m.number, field_back s 8 4 b (omega arith), ← rest) (frame_rest 12 0x4E 1 s _ (omega arith) g);
      }

  loaded_new : length s ≡ 16 → Loaded s r
  unfolding record_bytes chosen
  loaded_new l =
      let z = (record_unrefused s e).0 in
      let m = made_of s e in
      let o = read_new s e l in
      let last = zeros_last s l (new_passes s z l).2 in
      let rest : drop 8 s ≡ field s 8 4 ++ (field s 12 2 ++ bytes_of 2 0) = split_field s 8 4 ∙ ap (λ (x : List ℕ). field s 8 4 ++ x) (split_field s 12 2 ∙ ap (λ (x : List ℕ). field s 12 2 ++ x) last) in
      record {
        long = rw o l;
        typed = rw m.number at (field_below s 8 4 b (omega arith));
        good = read_good s e;
        same = rw (o, ← m.end, ← m.number, ← m.block, new_block s l, field_back s 8 4 b (omega arith), field_back s 12 2 b (omega arith), ← rest) (frame_rest 16 0x4E 2 s _ (omega arith) (new_framed s z l));
      }

pub loaded : (s : List ℕ) → Bytes s → {r : NumberRecord} → record_read s ≡ Ok r → Loaded s r
loaded s b e =
    by_test (eqb (length s) 16) (λ t. loaded_new s b e (eqb-true (length s) 16 t)) (λ f. loaded_old s b e (eqb-false (length s) 16 f))

pub record_write_back : (s : List ℕ) → Bytes s → {r : NumberRecord} → record_read s ≡ Ok r → record_bytes r ≡ s
record_write_back s b e = (loaded s b e).same
