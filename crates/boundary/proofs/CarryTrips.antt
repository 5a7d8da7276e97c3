-- Number records carried by C's entry: which are refused, to their own version, and through bytes: old to new to old gives the same bytes, new to
-- old to new too but for block 64.
use Prim.Native.Nat.{ℕ}
use mathlib.Core.Path.{◌≡◌, refl, sym, ap, ◌∙◌}
use mathlib.Core.Bool.{Bool, true, false, ◌||◌}
use mathlib.Core.List.{List}
use borrow.Author.Tests.{eqb-true}
use contract.Lifetimes.{Lfts}
use borrow.Fn.Kinds.{Dens, ended_of}
use denote.Triple.Clauses.{AtExit}
use lib.ListN.{length}
use lib.Dec.{eqb}
use Rattle.std.specs.Prelude.{Result, Ok, Err}
use Rattle.ground.specs.Bytes.{Bytes}
use Rattle.ground.specs.Choice.{chosen, when◌then◌else◌}
use Rattle.ground.specs.First.{first}
use Rattle.ground.specs.Refusals.{number_of}
use Rattle.ground.specs.declared.refusals.Refusal.{Refusal}
use Rattle.ground.proofs.Promise.{unequal}
use Rattle.ground.proofs.Tests.{by_test}
use Rattle.wire.specs.Record.{is_old, is_good, record_bytes, record_refusal, record_read, length_of, record_write_refusal, renewed, aged}
use Rattle.wire.specs.declared.NumberRecord.{NumberRecord}
use Rattle.wire.specs.declared.NumberRecord.TheVariants.{ConsoleOld, ControllerOld, Console, Controller}
use Rattle.wire.proofs.Carrying as carrying
use Rattle.wire.proofs.Carrying.{with_64, renewed_good, aged_good, renewed_new, aged_old}
use Rattle.wire.proofs.RecordTrips.{record_unrefused, read_good, loaded}
use Rattle.wire.proofs.RecordWriting.{record_writable, record_put_lem}
use Rattle.boundary.specs.Records.{record_out, in_version, carry_refusal, carried}
use Rattle.boundary.proofs.RefusalNumbers.{not_0, read_known}
use Rattle.boundary.proofs.records.nooseless_carry_record.Kinds as carry-kinds
use Rattle.boundary.proofs.records.nooseless_carry_record.Reads as carries

-- ## What is refused: of either length 12, then as what is carried is read

writable_1 : (r : NumberRecord) → record_write_refusal 12 (aged r) ≡ 0
unfolding chosen
writable_1 r = rw (aged_old r) at (record_writable (aged r) (aged_good r))

writable_2 : (r : NumberRecord) → is_good r ≡ true → record_write_refusal 16 (renewed r) ≡ 0
unfolding chosen
writable_2 r g = rw (renewed_new r) at (record_writable (renewed r) (renewed_good r g))

unwritable_2 : (n : ℕ) (r : NumberRecord) → eqb n 16 ≡ false → record_write_refusal n (renewed r) ≡ 12
unfolding record_write_refusal first chosen
unwritable_2 n r f = rw (renewed_new r, f)

module _ (s : List ℕ) (n : ℕ) where
  of_read : (x : Result NumberRecord Refusal) → record_read s ≡ x → carry_refusal n x ≡ (when eqb n 12 || eqb n 16 then record_refusal s else 12)
  unfolding chosen
  of_read (Err r) e = rw (read_known s e)
  of_read (Ok r) e =
      by_test (eqb n 12) (λ t. rw ((record_unrefused s e).0, t) (ap (λ (k : ℕ). record_write_refusal k (aged r)) (eqb-true n 12 t) ∙ writable_1 r))
      (λ f.
      by_test (eqb n 16)
      (λ t. rw ((record_unrefused s e).0, f, t) (ap (λ (k : ℕ). record_write_refusal k (renewed r)) (eqb-true n 16 t) ∙ writable_2 r (read_good s e)))
      (λ g. rw (f, g) (unwritable_2 n r g)))

  pub carry_refuses : carry_refusal n (record_read s) ≡ (when eqb n 12 || eqb n 16 then record_refusal s else 12)
  carry_refuses = of_read (record_read s) refl

-- ## To each version

module _ (s to : List ℕ) {r : NumberRecord} (read : record_read s ≡ Ok r) where
  abbrev Into : NumberRecord → Type 0
  Into v = (carry_refusal (length to) (record_read s) ≡ 0) × (carried to (record_read s) ≡ record_bytes v)

  into : {v : NumberRecord} → in_version (length to) r ≡ v → record_write_refusal (length to) v ≡ 0 → Into v
  into {v} f z = (rw (read, f) z, rw (read, f) (record_put_lem to v z))

  to_version_1 : length to ≡ 12 → Into (aged r)
  unfolding chosen
  to_version_1 l = into (rw l) (rw l (writable_1 r))

  to_version_2 : length to ≡ 16 → Into (renewed r)
  unfolding chosen
  to_version_2 l = into (rw l) (rw l (writable_2 r (read_good s read)))

own_version : (r : NumberRecord) → in_version (length_of r) r ≡ r
unfolding chosen
own_version (ConsoleOld j) = refl
own_version (ControllerOld i) = refl
own_version (Console j b) = refl
own_version (Controller i b) = refl

-- to its own version a record is the same bytes
pub carry_own : (s to : List ℕ) → Bytes s → {r : NumberRecord} → record_read s ≡ Ok r → length to ≡ length s → (carry_refusal (length to) (record_read s) ≡ 0) × (carried to (record_read s) ≡ s)
carry_own s to b {r} read l =
    let d = loaded s b read in
    let n = l ∙ d.long in
    let c = into s to read {v = r} (rw n (own_version r)) (rw n (record_writable r d.good)) in
    (c.0, c.1 ∙ d.same)

-- ## There and back

-- what is not refused was accepted
both_not_0 : (b : Bool) (n : ℕ) → (n ≡ 0 → ⊥) → (when b then n else 12) ≡ 0 → ⊥
unfolding chosen
both_not_0 true n h e = h e
both_not_0 false n h e = unequal e refl

accepted : (s : List ℕ) (n : ℕ) (x : Result NumberRecord Refusal) → record_read s ≡ x → carry_refusal n x ≡ 0 → (r : NumberRecord) × (record_read s ≡ Ok r)
accepted s n (Err r) e z = absurd (both_not_0 (eqb n 12 || eqb n 16) (number_of r) (not_0 r) z)
accepted s n (Ok r) e z = (r, e)

is_old_lem : (r : NumberRecord) → length_of r ≡ 12 → is_old r ≡ true
unfolding chosen
is_old_lem (ConsoleOld j) e = refl
is_old_lem (ControllerOld i) e = refl
is_old_lem (Console j b) e = absurd (unequal e refl)
is_old_lem (Controller i b) e = absurd (unequal e refl)

is_new : (r : NumberRecord) → length_of r ≡ 16 → is_old r ≡ false
unfolding chosen
is_new (ConsoleOld j) e = absurd (unequal e refl)
is_new (ControllerOld i) e = absurd (unequal e refl)
is_new (Console j b) e = refl
is_new (Controller i b) e = refl

-- carried to the bytes lent for the way there, and these to those lent for the way back
module _ (s : List ℕ) (bytes : Bytes s) (there back : List ℕ) (taken : carry_refusal (length there) (record_read s) ≡ 0) where
  abbrev ComesBack : List ℕ → Type 0
  ComesBack t = (carry_refusal (length back) (record_read (carried there (record_read s))) ≡ 0) × (carried back (record_read (carried there (record_read s))) ≡ t)

  pub old_new_old : length s ≡ 12 → length there ≡ 16 → length back ≡ 12 → ComesBack s
  old_new_old l m n =
      let a = accepted s (length there) (record_read s) refl taken in
      let o = is_old_lem a.0 (sym (loaded s bytes a.1).long ∙ l) in
      let c = carrying.old_new_old s bytes a.1 o in
      let d = to_version_1 (record_bytes (renewed a.0)) back c.accepted n in
      rw (to_version_2 s there a.1 m).1 (d.0, d.1 ∙ sym c.to)

  pub new_old_new : length s ≡ 16 → length there ≡ 12 → length back ≡ 16 → ComesBack (with_64 s)
  new_old_new l m n =
      let a = accepted s (length there) (record_read s) refl taken in
      let o = is_new a.0 (sym (loaded s bytes a.1).long ∙ l) in
      let c = carrying.new_old_new s bytes a.1 o in
      let d = to_version_2 (record_bytes (aged a.0)) back c.accepted n in
      rw (to_version_1 s there a.1 m).1 (d.0, d.1 ∙ sym c.to)

  -- the very same bytes where the block that is read is 64
  pub block_64 : length s ≡ 16 → (e n b : ℕ) → (record_out (record_read s) e n b).block ≡ 64 → with_64 s ≡ s
  block_64 l e n b h =
      let a = accepted s (length there) (record_read s) refl taken in
      let o = is_new a.0 (sym (loaded s bytes a.1).long ∙ l) in
      carrying.block_64_same s bytes a.1 o (rw a.1 at h)

-- of the entry's own promise: carried there, and what was written then carried back
module _ (κs ρ : Lfts 2) (a : Dens κs carry-kinds.ps) (b : Dens ρ carry-kinds.ps) (x y : ℕ) (s : AtExit (ended_of 2 carry-kinds.ps carry-kinds.r) κs) (t : AtExit (ended_of 2 carry-kinds.ps carry-kinds.r) ρ) (there : carries.Post κs a x s) (back : carries.Post ρ b y t) (bytes : Bytes a.0.now) (taken : x ≡ 0) (same : b.0.now ≡ s.1.0.now) where
  comes : {z : List ℕ} → ComesBack a.0.now bytes a.1.0.now b.1.0.now (sym there.0 ∙ taken) z → (y ≡ 0) × (t.1.0.now ≡ z)
  comes c =
      let q = same ∙ there.1 in
      (back.0 ∙ ap (λ (l : List ℕ). carry_refusal (length b.1.0.now) (record_read l)) q ∙ c.0, back.1 ∙ ap (λ (l : List ℕ). carried b.1.0.now (record_read l)) q ∙ c.1)

  pub entry_old_new_old : length a.0.now ≡ 12 → length a.1.0.now ≡ 16 → length b.1.0.now ≡ 12 → (y ≡ 0) × (t.1.0.now ≡ a.0.now)
  entry_old_new_old l m n = comes (old_new_old a.0.now bytes a.1.0.now b.1.0.now (sym there.0 ∙ taken) l m n)

  pub entry_new_old_new : length a.0.now ≡ 16 → length a.1.0.now ≡ 12 → length b.1.0.now ≡ 16 → (y ≡ 0) × (t.1.0.now ≡ with_64 a.0.now)
  entry_new_old_new l m n = comes (new_old_new a.0.now bytes a.1.0.now b.1.0.now (sym there.0 ∙ taken) l m n)
