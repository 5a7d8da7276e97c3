-- Number records that are read, from the answers of the calls that read them.
use Prim.Native.Nat.{ℕ}
use mathlib.Core.Path.{◌≡◌, refl, sym, ap, ◌∙◌}
use mathlib.Core.List.{List, [], ◌∷◌}
use mathlib.Core.Bool.{Bool, true, false, not, ◌&&◌, and-true, and-false, true≢false}
use native.Mathlib.Omega.{arith}
use borrow.Author.Tests.{eq-eqb, ne_eqb}
use lib.ListN.{length, get_or}
use lib.Dec.{eqb}
use Rattle.std.specs.Prelude.{Result, Ok, Err}
use Rattle.ground.specs.Refusals.{refusal_of, refused_by}
use Rattle.ground.specs.declared.refusals.Refusal.{Refusal}
use Rattle.ground.specs.declared.refusals.Refusal.TheVariants.{WrongLength, WrongField}
use Rattle.ground.proofs.RefusalNumbers.{passes, refused_as}
use Rattle.ground.specs.Choice.{chosen}
use Rattle.ground.specs.First.{first}
use Rattle.ground.proofs.Elements.{field_elements}
use Rattle.ground.proofs.Promise.{unequal}
use Rattle.ground.proofs.Tests.{by_test}
use Rattle.wire.specs.declared.NumberRecord.{NumberRecord}
use Rattle.wire.proofs.Found.{none_found}
use Rattle.wire.specs.Frame.{field, bytes_are, frame_refusals, read_refusals, found}
use Rattle.wire.specs.Number.{bytes_of, value}
use Rattle.wire.specs.Record.{end_of, is_block, records, record_of, block_at, record_at, is_read, record_refusal, record_read}
use Rattle.wire.proofs.Reading.{refusal_length, refusal_frame, refusal_fields}

-- an end that is no end is 15
is_unread : (x : Result NumberRecord Refusal) → is_read x ≡ false → (r : Refusal) × (x ≡ Err r)
is_unread (Ok r) h = absurd (true≢false h)
is_unread (Err r) h = (r, refl)

no_end : (e n b : ℕ) → is_read (record_of e n b) ≡ false → record_of e n b ≡ Err WrongField
unfolding record_of
no_end e n b h =
    let test : NumberRecord → Bool = λ r. eqb e (end_of r) in
    let u = is_unread (found test Ok (Err WrongField) (records n b)) h in
    u.1 ∙ ap Err (none_found test WrongField (records n b) u.1)

-- what version 2 asks of the bytes after its frame
abbrev pub new_fields : List ℕ → Bool
new_fields s = is_read (record_at s) && is_block (block_at s) && bytes_are s 14 (bytes_of 2 0)

-- the length says by which version bytes are read
module _ (s : List ℕ) where
  pub as_old : (length s ≡ 16 → ⊥) → record_refusal s ≡ first (read_refusals 12 0x4E 1 s (is_read (record_at s)))
  unfolding record_refusal chosen
  as_old h = rw (ne_eqb (length s) 16 h)

  pub as_new : length s ≡ 16 → record_refusal s ≡ first (read_refusals 16 0x4E 2 s (new_fields s))
  unfolding record_refusal chosen
  as_new l = rw (eq-eqb (length s) 16 l)

  pub old_block : (length s ≡ 16 → ⊥) → block_at s ≡ 0
  unfolding block_at chosen
  old_block h = rw (ne_eqb (length s) 16 h)

  pub new_block : length s ≡ 16 → block_at s ≡ value (field s 12 2)
  unfolding block_at chosen
  new_block l = rw (eq-eqb (length s) 16 l)

  -- what is refused, and what is not
  pub refused_so : {n : ℕ} → record_refusal s ≡ n → (n ≡ 0 → ⊥) → Err (refusal_of n) ≡ record_read s
  unfolding record_read chosen
  refused_so {n} e h = rw (e, ne_eqb n 0 h)

  pub read_so : record_refusal s ≡ 0 → record_read s ≡ record_at s
  unfolding record_read chosen
  read_so e = rw e

  -- all but the end passes
  fields_so : record_refusal s ≡ first ((15, not (is_read (record_at s))) ∷ []) → record_at s ≡ record_read s
  unfolding record_at first chosen
  fields_so e =
      by_test (is_read (record_at s)) (λ t. sym (read_so (e ∙ rw t)))
      (λ f. no_end (get_or s 5 0) (value (field s 8 4)) (block_at s) f ∙ refused_so {n = 15} (e ∙ rw f) (λ z. unequal z refl))

  record_is : {k b : ℕ} {x : Result NumberRecord Refusal} → k ≡ value (field s 8 4) → block_at s ≡ b → x ≡ record_of (get_or s 5 0) k b → x ≡ record_at s
  unfolding record_at
  record_is e f g = rw (f, ← e) g

  pub record_12 : (length s ≡ 16 → ⊥) → (length s ≡ 12 → ⊥) → Err WrongLength ≡ record_read s
  record_12 h k = refused_so (as_old h ∙ refusal_length 12 0x4E 1 s (is_read (record_at s)) k) (λ z. unequal z refl)

-- 12 bytes
module _ (s : List ℕ) (l : length s ≡ 12) where
  short : length s ≡ 16 → ⊥
  short h = unequal (sym l ∙ h) refl

  pub old_frame : {r : Refusal} → Err r ≡ refused_by (first (frame_refusals 0x4E 1 s)) → Err r ≡ record_read s
  old_frame e =
      let n = first (frame_refusals 0x4E 1 s) in
      let f = refused_as n e in
      ap Err f.0 ∙ refused_so s (as_old s short ∙ refusal_frame 12 0x4E 1 s (is_read (record_at s)) l f.1) f.1

  pub old_taken : {k : ℕ} {x : Result NumberRecord Refusal} → Ok tt ≡ refused_by (first (frame_refusals 0x4E 1 s)) → k ≡ value (field s 8 4) → x ≡ record_of (get_or s 5 0) k 0 → x ≡ record_read s
  old_taken e f g =
      let z = passes (first (frame_refusals 0x4E 1 s)) (sym e) in
      record_is s f (old_block s short) g ∙ fields_so s (as_old s short ∙ refusal_fields 12 0x4E 1 s (is_read (record_at s)) l z)

regroup : (r v a b : Bool) → (r && v && (a && (b && true))) ≡ (r && (v && a && b))
regroup false v a b = refl
regroup true false a b = refl
regroup true true false b = refl
regroup true true true b = and-true b

-- 16 bytes
module _ (s : List ℕ) (l : length s ≡ 16) where
  pub new_frame : {r : Refusal} → Err r ≡ refused_by (first (frame_refusals 0x4E 2 s)) → Err r ≡ record_read s
  new_frame e =
      let n = first (frame_refusals 0x4E 2 s) in
      let f = refused_as n e in
      ap Err f.0 ∙ refused_so s (as_new s l ∙ refusal_frame 16 0x4E 2 s (new_fields s) l f.1) f.1

  module _ {b : ℕ} {v : Bool} (e : Ok tt ≡ refused_by (first (frame_refusals 0x4E 2 s))) (f : b ≡ value (get_or s 12 0 ∷ get_or s 13 0 ∷ [])) (g : v ≡ is_block b) where
    block : block_at s ≡ b
    block = new_block s l ∙ ap value (field_elements 2 s 12 (omega (arith, l))) ∙ sym f

    tested : record_refusal s ≡ first ((15, not (is_read (record_at s) && (v && eqb (get_or s 14 0) 0 && eqb (get_or s 15 0) 0))) ∷ [])
    unfolding bytes_of
    tested =
        as_new s l ∙ refusal_fields 16 0x4E 2 s (new_fields s) l (passes (first (frame_refusals 0x4E 2 s)) (sym e))
        ∙ rw (block, ← g) (ap (λ (t : Bool). first ((15, not t) ∷ [])) (regroup (is_read (record_at s)) v (eqb (get_or s 14 0) 0) (eqb (get_or s 15 0) 0)))

    pub new_15 : (v && eqb (get_or s 14 0) 0 && eqb (get_or s 15 0) 0) ≡ false → Err WrongField ≡ record_read s
    unfolding first chosen
    new_15 t = refused_so s {n = 15} (tested ∙ rw (t, and-false)) (λ y. unequal y refl)

    pub new_taken : {k : ℕ} {x : Result NumberRecord Refusal} → (v && eqb (get_or s 14 0) 0 && eqb (get_or s 15 0) 0) ≡ true → k ≡ value (field s 8 4) → x ≡ record_of (get_or s 5 0) k b → x ≡ record_read s
    new_taken t h i = record_is s h block i ∙ fields_so s (tested ∙ rw (t, and-true))

pub ruleset old_reads = (old_frame, old_taken)

pub ruleset new_reads = (new_frame, new_15, new_taken)
