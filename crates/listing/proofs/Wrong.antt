-- Programs that the promises shut out, each at one input.
use Prim.Native.Nat.{ℕ}
use mathlib.Core.Path.{◌≡◌, refl, sym, ap, subst, ◌∙◌}
use mathlib.Core.Bool.{false≢true}
use mathlib.Core.List.{List, [], ◌∷◌}
use native.Mathlib.Omega.{arith}
use borrow.Author.Tests.{ne_eqb}
use lib.ListN.{length, get_or, replicate}
use contract.Lifetimes.{Lfts}
use borrow.Fn.Kinds.{Dens, ended_of}
use denote.Triple.Clauses.{AtExit}
use Rattle.std.specs.Prelude.{None, IsSome}
use Rattle.std.proofs.lemmas.Option.{none-some}
use Rattle.ground.specs.Cell.{spaces}
use Rattle.ground.specs.Choice.{chosen}
use Rattle.ground.proofs.Promise.{RulesOut}
use Rattle.listing.specs.declared.Uses.{Uses}
use Rattle.listing.specs.Line.{decimals, line_bytes, line_written}
use Rattle.listing.specs.Record.{list_record, record_end}
use Rattle.listing.proofs.Vectors.{start, laid, said, copied, both, reads, start_read}
use Rattle.listing.proofs.reading.read.Kinds as read-kinds
use Rattle.listing.proofs.reading.read.Reads as read
use Rattle.listing.proofs.reading.record_end.Kinds as record-end-kinds
use Rattle.listing.proofs.reading.record_end.Reads as record-end
use Rattle.listing.proofs.writing.two_digits.Kinds as two-digits-kinds
use Rattle.listing.proofs.writing.two_digits.Reads as two-digits
use Rattle.listing.proofs.writing.write_line.Kinds as write-line-kinds
use Rattle.listing.proofs.writing.write_line.Reads as write-line

-- ## A reader, of a letter that uses the message, the copies, the place and the copies

-- a record that it is handed, with what the letter uses
abbrev Given : Uses → List ℕ → (κs : Lfts 1) → Dens κs read-kinds.ps → Type 0
Given u r κs a = (a.0.now ≡ r) × (a.1.0 ≡ u)

pub always_refuses : RulesOut read-kinds.ps read-kinds.r read.Post (Given said (laid 0x50 0x30 0x30 0x30 start)) (λ κs a x s. x ≡ None)
always_refuses κs a x s g w p = none-some _ (sym w ∙ p ∙ (λ i. list_record (g.1 i) (g.0 i)) ∙ start_read)

-- one that takes a record that is not well formed
abbrev Takes : Uses → List ℕ → Type 0
Takes u r = RulesOut read-kinds.ps read-kinds.r read.Post (Given u r) (λ κs a x s. IsSome x)

takes : (u : Uses) (r : List ℕ) → list_record u r ≡ None → Takes u r
takes u r f κs a x s g w p = false≢true (subst IsSome (p ∙ (λ i. list_record (g.1 i) (g.0 i)) ∙ f) w)

-- "P010START FILLER 03 ": a put uses no place
pub ignores_unused_fields : Takes said (laid 0x50 0x30 0x31 0x30 start)
unfolding reads
ignores_unused_fields = takes said (laid 0x50 0x30 0x31 0x30 start) refl

-- "Q001" and 16 zeros: what is not used is spaces
pub takes_unused_zeros : Takes copied (laid 0x51 0x30 0x30 0x31 (replicate 16 0x30))
unfolding reads
takes_unused_zeros = takes copied (laid 0x51 0x30 0x30 0x31 (replicate 16 0x30)) refl

-- "R640" and "Q004", each with 16 spaces
pub takes_place_64 : Takes both (laid 0x52 0x36 0x34 0x30 spaces)
unfolding reads
takes_place_64 = takes both (laid 0x52 0x36 0x34 0x30 spaces) refl

pub takes_copies_4 : Takes copied (laid 0x51 0x30 0x30 0x34 spaces)
unfolding reads
takes_copies_4 = takes copied (laid 0x51 0x30 0x30 0x34 spaces) refl

-- ## Two digits

-- 12 as "21", and 9 as " 9"
pub last_digit_first : RulesOut two-digits-kinds.ps two-digits-kinds.r two-digits.Post (λ κs a. a.0 ≡ 12) (λ κs a x s. x ≡ 0x32 ∷ 0x31 ∷ [])
unfolding decimals
last_digit_first κs a x s e w p =
    let q : ◌≡◌ {A = ℕ} 0x32 0x31 = ap (λ (l : List ℕ). get_or l 0 0) (sym w ∙ p ∙ ap (decimals 2) e) in
    omega (arith, q)

pub space_for_0 : RulesOut two-digits-kinds.ps two-digits-kinds.r two-digits.Post (λ κs a. a.0 ≡ 9) (λ κs a x s. x ≡ 0x20 ∷ 0x39 ∷ [])
unfolding decimals
space_for_0 κs a x s e w p =
    let q : ◌≡◌ {A = ℕ} 0x20 0x30 = ap (λ (l : List ℕ). get_or l 0 0) (sym w ∙ p ∙ ap (decimals 2) e) in
    omega (arith, q)

-- ## A writer, lent 27 zero bytes

module _ (κs : Lfts 1) (a : Dens κs write-line-kinds.ps) (s : AtExit (ended_of 1 write-line-kinds.ps write-line-kinds.r) κs) (zeros : a.0.now ≡ replicate 27 0) (meets : write-line.Post κs a tt s) where
  written : s.0.now ≡ line_bytes a.1.0 a.1.1.0 a.1.1.1.0 a.1.1.1.1.0
  unfolding line_written chosen
  written = meets ∙ ap (λ (l : List ℕ). line_written l a.1.0 a.1.1.0 a.1.1.1.0 a.1.1.1.1.0) zeros

  pub changes_nothing : s.0.now ≡ a.0.now → ⊥
  unfolding line_bytes decimals
  changes_nothing k =
      let q : replicate 27 0 ≡ line_bytes a.1.0 a.1.1.0 a.1.1.1.0 a.1.1.1.1.0 = sym zeros ∙ sym k ∙ written in
      let z : ◌≡◌ {A = ℕ} 0 0x20 = ap (λ (l : List ℕ). get_or l 4 0) q in
      omega (arith, z)

  -- the first record is 0001
  pub numbers_from_2 : a.1.0 ≡ 1 → get_or s.0.now 3 0 ≡ 0x32 → ⊥
  unfolding line_bytes decimals
  numbers_from_2 e k =
      let q : get_or s.0.now 3 0 ≡ 0x31 = ap (λ (l : List ℕ). get_or l 3 0) (written ∙ ap (λ n. line_bytes n a.1.1.0 a.1.1.1.0 a.1.1.1.1.0) e) in
      omega (arith, q, k)

-- lent 28 bytes
pub writes_to_28_bytes : RulesOut write-line-kinds.ps write-line-kinds.r write-line.Post (λ κs a. length a.0.now ≡ 28) (λ κs a x s. s.0.now ≡ a.0.now → ⊥)
unfolding line_written chosen
writes_to_28_bytes κs a x s e w p = w (rw (ne_eqb (length a.0.now) 27 (λ h. omega (arith, e, h))) at p)

-- ## Where a record ends

-- one that finds where a record ends, of 40 bytes
module _ (κs : Lfts 0) (a : Dens κs record-end-kinds.ps) (x : ℕ) (s : AtExit (ended_of 0 record-end-kinds.ps record-end-kinds.r) κs) (long : a.1.0 ≡ 40) (meets : record-end.Post κs a x s) where
  -- the last record is short
  pub reads_past_the_end : a.0 ≡ 21 → x ≡ 42 → ⊥
  unfolding record_end chosen
  reads_past_the_end b e =
      let q : x ≡ 40 = meets ∙ λ i. record_end (b i) (long i) in
      omega (arith, q, e)

  -- the line feed belongs to the record
  pub leaves_the_line_feed : a.0 ≡ 0 → x ≡ 20 → ⊥
  unfolding record_end chosen
  leaves_the_line_feed b e =
      let q : x ≡ 21 = meets ∙ λ i. record_end (b i) (long i) in
      omega (arith, q, e)
