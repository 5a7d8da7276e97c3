-- Number records that are written, from the answers of the calls that write them.
use Prim.Native.Nat.{ℕ}
use mathlib.Core.Path.{◌≡◌, refl, sym, ap, ◌∙◌}
use mathlib.Core.List.{List, [], ◌∷◌, ◌++◌}
use mathlib.Core.Bool.{Bool, true, false}
use borrow.Author.Rules.{rules}
use borrow.Author.Tests.{ne_eqb, eq-eqb, eqb-true}
use lib.ListN.{length}
use lib.Dec.{eqb}
use Rattle.std.specs.Prelude.{Ok, Err}
use Rattle.ground.specs.Refusals.{refused_by}
use Rattle.ground.specs.declared.refusals.Refusal.{Refusal}
use Rattle.ground.specs.declared.refusals.Refusal.TheVariants.{WrongLength, WrongField}
use Rattle.ground.proofs.RefusalNumbers.{passes, refused_as}
use Rattle.ground.specs.Choice.{chosen}
use Rattle.ground.specs.First.{first}
use Rattle.ground.proofs.Elements.{elements, rest_elements}
use Rattle.ground.proofs.First.{none_wanting}
use Rattle.wire.specs.declared.NumberRecord.{NumberRecord}
use Rattle.wire.specs.Frame.{frame}
use Rattle.wire.specs.Number.{bytes_of}
use Rattle.wire.specs.Record.{is_old, end_of, number_of, block_of, is_block, is_good, old_bytes, new_bytes, record_bytes, length_of, record_write_refusal, record_written}

-- arrays that are laid out element by element
pub old_bytes_are : (e n : ℕ) {u : List ℕ} → u ≡ bytes_of 4 n → length u ≡ 4 → 0x48 ∷ 0x53 ∷ 0x4E ∷ 0 ∷ 1 ∷ e ∷ 0 ∷ 0 ∷ elements u 0 4 ≡ old_bytes e n
old_bytes_are e n {u} f l =
    let laid : 0x48 ∷ 0x53 ∷ 0x4E ∷ 0 ∷ 1 ∷ e ∷ 0 ∷ 0 ∷ elements u 0 4 ≡ frame 0x4E 1 e ++ u = unfold bytes_of in λ i. frame 0x4E 1 e ++ rest_elements 4 u 0 l i in
    laid ∙ ap (λ (r : List ℕ). frame 0x4E 1 e ++ r) f

pub new_bytes_are : (e n b : ℕ) {u v : List ℕ} → u ≡ bytes_of 4 n → v ≡ bytes_of 2 b → length u ≡ 4 → length v ≡ 2 → (0x48 ∷ 0x53 ∷ 0x4E ∷ 0 ∷ 2 ∷ e ∷ 0 ∷ 0 ∷ elements u 0 4) ++ (elements v 0 2 ++ (0 ∷ 0 ∷ [])) ≡ new_bytes e n b
new_bytes_are e n b {u} {v} f g l m =
    let laid : (0x48 ∷ 0x53 ∷ 0x4E ∷ 0 ∷ 2 ∷ e ∷ 0 ∷ 0 ∷ elements u 0 4) ++ (elements v 0 2 ++ (0 ∷ 0 ∷ [])) ≡ frame 0x4E 2 e ++ (u ++ (v ++ bytes_of 2 0)) = unfold bytes_of in λ i. frame 0x4E 2 e ++ (rest_elements 4 u 0 l i ++ (rest_elements 2 v 0 m i ++ (0 ∷ 0 ∷ []))) in
    laid ∙ λ i. frame 0x4E 2 e ++ (f i ++ (g i ++ bytes_of 2 0))

-- a record can be written to n bytes exactly where they are as many as its version has, and its block is good
module _ (r : NumberRecord) where
  pub record_writable : is_good r ≡ true → record_write_refusal (length_of r) r ≡ 0
  unfolding record_write_refusal first chosen
  record_writable g = rw (g, eq-eqb (length_of r) (length_of r) refl)

  pub record_fits : (n : ℕ) → record_write_refusal n r ≡ 0 → (n ≡ length_of r) × (is_good r ≡ true)
  unfolding record_write_refusal
  record_fits n e =
      let l = none_wanting 12 (eqb n (length_of r)) _ refl e in
      let g = none_wanting 15 (is_good r) [] refl l.1 in
      (eqb-true n (length_of r) l.0, g.0)

module _ (out : List ℕ) (r : NumberRecord) where
  -- a refusal leaves the bytes, and else they are the record's
  pub record_kept_lem : {q : Refusal} → Err q ≡ refused_by (record_write_refusal (length out) r) → out ≡ record_written out r
  unfolding record_written chosen
  record_kept_lem e = let n = record_write_refusal (length out) r in rw (ne_eqb n 0 (refused_as n e).1)

  pub record_put_lem : record_write_refusal (length out) r ≡ 0 → record_written out r ≡ record_bytes r
  unfolding record_written chosen
  record_put_lem e = rw e

  module _ {o : Bool} (e : o ≡ is_old r) where
    -- version 1: of a wrong length, and written
    pub old_refused_12 : o ≡ true → (length out ≡ 12 → ⊥) → Err WrongLength ≡ refused_by (record_write_refusal (length out) r)
    unfolding record_write_refusal first chosen
    old_refused_12 t h = rw (← e, t, ne_eqb (length out) 12 h)

    pub old_refused_0 : o ≡ true → length out ≡ 12 → Ok tt ≡ refused_by (record_write_refusal (length out) r)
    unfolding record_write_refusal first chosen
    old_refused_0 t l = rw (← e, t, l)

    pub old_written_12 : o ≡ true → (length out ≡ 12 → ⊥) → out ≡ record_written out r
    old_written_12 t h = record_kept_lem (old_refused_12 t h)

    pub old_written_0 : {k n : ℕ} {all x : List ℕ} → o ≡ true → length out ≡ 12 → k ≡ end_of r → n ≡ number_of r → all ≡ old_bytes k n → x ≡ all → x ≡ record_written out r
    unfolding record_bytes chosen
    old_written_0 t l f g h c =
        c ∙ h ∙ sym (record_put_lem (passes (record_write_refusal (length out) r) (sym (old_refused_0 t l))) ∙ rw (← e, t, ← f, ← g))

    -- version 2: of a wrong length, with a block that is none, and written
    pub new_refused_12 : o ≡ false → (length out ≡ 16 → ⊥) → Err WrongLength ≡ refused_by (record_write_refusal (length out) r)
    unfolding record_write_refusal first chosen
    new_refused_12 f h = rw (← e, f, ne_eqb (length out) 16 h)

    pub new_written_12 : o ≡ false → (length out ≡ 16 → ⊥) → out ≡ record_written out r
    new_written_12 f h = record_kept_lem (new_refused_12 f h)

    module _ {b : ℕ} {v : Bool} (f : o ≡ false) (l : length out ≡ 16) (g : b ≡ block_of r) (h : v ≡ is_block b) where
      pub new_refused_15 : v ≡ false → Err WrongField ≡ refused_by (record_write_refusal (length out) r)
      unfolding record_write_refusal first chosen
      new_refused_15 t = rw (← e, f, l, ← g, ← h, t)

      pub new_refused_0 : v ≡ true → Ok tt ≡ refused_by (record_write_refusal (length out) r)
      unfolding record_write_refusal first chosen
      new_refused_0 t = rw (← e, f, l, ← g, ← h, t)

      pub new_written_15 : v ≡ false → out ≡ record_written out r
      new_written_15 t = record_kept_lem (new_refused_15 t)

      pub new_written_0 : {k n : ℕ} {all x : List ℕ} → v ≡ true → k ≡ end_of r → n ≡ number_of r → all ≡ new_bytes k n b → x ≡ all → x ≡ record_written out r
      unfolding record_bytes chosen
      new_written_0 t i j a c =
          c ∙ a ∙ sym (record_put_lem (passes (record_write_refusal (length out) r) (sym (new_refused_0 t))) ∙ rw (← e, f, ← i, ← j, ← g))

pub ruleset record_writes = (old_refused_12, old_refused_0, new_refused_12, new_refused_15, new_refused_0, old_written_12, old_written_0, new_written_12, new_written_15, new_written_0, rules)
