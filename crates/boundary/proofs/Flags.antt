-- Flags: a bool as a byte and back; the marks beside a report.
use Prim.Native.Nat.{ℕ, zero, suc, ◌≤◌}
use mathlib.Core.Path.{◌≡◌, refl}
use mathlib.Core.Bool.{Bool, true, false}
use native.Mathlib.Omega.{arith}
use borrow.Author.Tests.{leb-true}
use lib.Dec.{eqb, leb}
use Rattle.boundary.specs.State.{flag, marks}

pub flag_small : (b : Bool) → leb (flag b) 1 ≡ true
flag_small true = refl
flag_small false = refl

pub flag_most : (b : Bool) → flag b ≤ 1
flag_most true = omega arith
flag_most false = omega arith

pub flag_back : (b : Bool) → eqb (flag b) 1 ≡ b
flag_back true = refl
flag_back false = refl

pub flag_same : (x : ℕ) → leb x 1 ≡ true → flag (eqb x 1) ≡ x
flag_same zero e = refl
flag_same (suc zero) e = refl
flag_same (suc (suc n)) e = let h = leb-true (suc (suc n)) 1 e in absurd (omega (arith, h))

-- a report fits beside the marks
pub marks_most : (sent keep : Bool) → marks sent keep ≤ 160
unfolding marks
marks_most sent keep = let p = flag_most sent in let q = flag_most keep in omega (arith, p, q)
