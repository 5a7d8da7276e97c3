-- What a step tells, read back: 1 to 31 is a refusal; beside any other report bit 32 and bit 128 are its marks.
use Prim.Native.Nat.{ℕ, ◌/◌, ◌%◌}
use mathlib.Core.Path.{◌≡◌, refl, sym, ap}
use mathlib.Core.Bool.{Bool, true, false, not, ◌&&◌, true≢false}
use native.Mathlib.Omega.{arith}
use borrow.Author.Tests.{ne_eqb}
use lib.Dec.{eqb}
use Rattle.ground.specs.Refusals.{number_of, refusal_of}
use Rattle.ground.proofs.RefusalNumbers.{refusal_of-number_of}
use Rattle.ends.specs.declared.Report.{Report}
use Rattle.ends.specs.declared.Report.TheVariants as report
use Rattle.boundary.specs.State.{is_refusal, marks, told}
pub use Rattle.boundary.proofs.RefusalNumbers.{Refusal}
use Rattle.boundary.proofs.RefusalNumbers.{refusal_number}

-- bit 32: the number record has to be kept; bit 128: a packet was written
abbrev pub keeps : ℕ → Bool
keeps n = eqb (n / 32 % 2) 1

abbrev pub sends : ℕ → Bool
sends n = eqb (n / 128 % 2) 1

-- 65 or 66, whatever is marked beside it: what became of an order
abbrev pub answers : ℕ → Bool
answers n = eqb (n / 64 % 2) 1 && not (eqb (n % 32) 0)

by_marks : (P : Bool → Bool → Type 0) → P true true → P true false → P false true → P false false → (sent keep : Bool) → P sent keep
by_marks P a b c d true true = a
by_marks P a b c d true false = b
by_marks P a b c d false true = c
by_marks P a b c d false false = d

marks_refuse_nothing : (sent keep : Bool) → Refusal (marks sent keep) → ⊥
unfolding marks
marks_refuse_nothing =
    by_marks (λ s k. Refusal (marks s k) → ⊥) (λ h. omega (arith, h.1)) (λ h. omega (arith, h.1)) (λ h. omega (arith, h.1)) (λ h. omega (arith, h.0))

-- told as a refusal: it is one, of that number
pub told_refused : (r : Report) (sent keep : Bool) → Refusal (told r sent keep) → r ≡ report.Refused (refusal_of (told r sent keep))
told_refused report.Nothing sent keep h = absurd (marks_refuse_nothing sent keep h)
told_refused report.Delivered sent keep h = absurd (omega (arith, h.1))
told_refused report.Ok sent keep h = absurd (omega (arith, h.1))
told_refused report.Lost sent keep h = absurd (omega (arith, h.1))
told_refused (report.Refused q) sent keep h = ap report.Refused (sym (refusal_of-number_of q))

-- not told as one: it is none
pub unrefused : (r : Report) (sent keep : Bool) → (Refusal (told r sent keep) → ⊥) → is_refusal r ≡ false
unrefused report.Nothing sent keep z = refl
unrefused report.Delivered sent keep z = refl
unrefused report.Ok sent keep z = refl
unrefused report.Lost sent keep z = refl
unrefused (report.Refused q) sent keep z = absurd (z (refusal_number q))

-- without a refusal the two bits are what was to be told
pub keeps_told : (r : Report) (sent keep : Bool) → is_refusal r ≡ false → keeps (told r sent keep) ≡ keep
unfolding marks
keeps_told report.Nothing sent keep e = by_marks (λ s k. keeps (told report.Nothing s k) ≡ k) refl refl refl refl sent keep
keeps_told report.Delivered sent keep e = by_marks (λ s k. keeps (told report.Delivered s k) ≡ k) refl refl refl refl sent keep
keeps_told report.Ok sent keep e = by_marks (λ s k. keeps (told report.Ok s k) ≡ k) refl refl refl refl sent keep
keeps_told report.Lost sent keep e = by_marks (λ s k. keeps (told report.Lost s k) ≡ k) refl refl refl refl sent keep
keeps_told (report.Refused r) sent keep e = absurd (true≢false e)

pub sends_told : (r : Report) (sent keep : Bool) → is_refusal r ≡ false → sends (told r sent keep) ≡ sent
unfolding marks
sends_told report.Nothing sent keep e = by_marks (λ s k. sends (told report.Nothing s k) ≡ s) refl refl refl refl sent keep
sends_told report.Delivered sent keep e = by_marks (λ s k. sends (told report.Delivered s k) ≡ s) refl refl refl refl sent keep
sends_told report.Ok sent keep e = by_marks (λ s k. sends (told report.Ok s k) ≡ s) refl refl refl refl sent keep
sends_told report.Lost sent keep e = by_marks (λ s k. sends (told report.Lost s k) ≡ s) refl refl refl refl sent keep
sends_told (report.Refused r) sent keep e = absurd (true≢false e)

-- what is no answer is not told as one
abbrev pub NoAnswer : Report → Type 0
NoAnswer report.Nothing = Unit {0}
NoAnswer report.Delivered = Unit {0}
NoAnswer report.Ok = ⊥
NoAnswer report.Lost = ⊥
NoAnswer (report.Refused r) = Unit {0}

pub no_answer_told : (r : Report) (sent keep : Bool) → NoAnswer r → answers (told r sent keep) ≡ false
unfolding marks
no_answer_told report.Nothing sent keep q = by_marks (λ s k. answers (told report.Nothing s k) ≡ false) refl refl refl refl sent keep
no_answer_told report.Delivered sent keep q = by_marks (λ s k. answers (told report.Delivered s k) ≡ false) refl refl refl refl sent keep
no_answer_told report.Ok sent keep q = absurd q
no_answer_told report.Lost sent keep q = absurd q
no_answer_told (report.Refused r) sent keep q =
    let n = number_of r in let small = (refusal_number r).1 in rw (ne_eqb (n / 64 % 2) 1 (λ e. omega (arith, small, e)))
