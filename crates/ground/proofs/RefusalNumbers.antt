-- A refusal and its number say the same.
use Rattle.std.proofs.Common.{ℕ, zero, suc, ◌≤◌, ◌≡◌, refl, sym, ap, ◌∙◌, Bool, true, false, List, [], ◌∷◌, eqb, eqb-true, arith, Result, Ok, Err}
use Rattle.std.specs.Prelude.{IsErrAnd}
use Rattle.std.proofs.lemmas.Result.{err_from_is_err_and}
use Rattle.ground.specs.Choice.{chosen}
use Rattle.ground.specs.Every.{every}
use Rattle.ground.specs.First as order
use Rattle.ground.specs.First.{Rule, first}
use Rattle.ground.specs.Refusals.{number_of, refusal_of, unless_refused, refused_by, refusal_in}
use Rattle.ground.specs.declared.refusals.Refusal.{Refusal}
use Rattle.ground.specs.declared.refusals.Refusal.TheVariants as refusal
use Rattle.ground.proofs.Tests.{and_left, and_right}

pub refusal_of-number_of : (r : Refusal) → refusal_of (number_of r) ≡ r
refusal_of-number_of refusal.NoAction = refl
refusal_of-number_of refusal.IllFormed = refl
refusal_of-number_of refusal.NoPlace = refl
refusal_of-number_of refusal.IsDown = refl
refusal_of-number_of refusal.IsUp = refl
refusal_of-number_of refusal.OtherMode = refl
refusal_of-number_of refusal.UnknownNumber = refl
refusal_of-number_of refusal.NumbersSpent = refl
refusal_of-number_of refusal.NoRoom = refl
refusal_of-number_of refusal.TooManyCopies = refl
refusal_of-number_of refusal.NoMessage = refl
refusal_of-number_of refusal.WrongLength = refl
refusal_of-number_of refusal.WrongMark = refl
refusal_of-number_of refusal.WrongVersion = refl
refusal_of-number_of refusal.WrongField = refl

-- a refusal's number is from 1 to 15
pub number_in_table : (r : Refusal) → (1 ≤ number_of r) × (number_of r ≤ 15)
number_in_table refusal.NoAction = (omega arith, omega arith)
number_in_table refusal.IllFormed = (omega arith, omega arith)
number_in_table refusal.NoPlace = (omega arith, omega arith)
number_in_table refusal.IsDown = (omega arith, omega arith)
number_in_table refusal.IsUp = (omega arith, omega arith)
number_in_table refusal.OtherMode = (omega arith, omega arith)
number_in_table refusal.UnknownNumber = (omega arith, omega arith)
number_in_table refusal.NumbersSpent = (omega arith, omega arith)
number_in_table refusal.NoRoom = (omega arith, omega arith)
number_in_table refusal.TooManyCopies = (omega arith, omega arith)
number_in_table refusal.NoMessage = (omega arith, omega arith)
number_in_table refusal.WrongLength = (omega arith, omega arith)
number_in_table refusal.WrongMark = (omega arith, omega arith)
number_in_table refusal.WrongVersion = (omega arith, omega arith)
number_in_table refusal.WrongField = (omega arith, omega arith)

-- is it 0, or the number of a refusal?
abbrev pub is_known : ℕ → Bool
is_known n = eqb (refusal_in (refused_by n)) n

by_test : (n : ℕ) (b : Bool) (rs : List Rule) → is_known n ≡ true → refusal_in (refused_by (first rs)) ≡ first rs → refusal_in (refused_by (first ((n, b) ∷ rs))) ≡ first ((n, b) ∷ rs)
unfolding first chosen
by_test n true rs e rest = eqb-true (refusal_in (refused_by n)) n e
by_test n false rs e rest = rest

-- of the first of some rules with known numbers, the number comes back
pub first_comes_back : (rs : List Rule) → every (λ (r : Rule). is_known r.0) rs ≡ true → refusal_in (refused_by (first rs)) ≡ first rs
unfolding first
first_comes_back [] e = refl
first_comes_back (r ∷ rs) e =
    let known = and_left (is_known r.0) (every (λ (q : Rule). is_known q.0) rs) e in
    let rest = and_right (is_known r.0) (every (λ (q : Rule). is_known q.0) rs) e in
    by_test r.0 r.1 rs known (first_comes_back rs rest)

-- what the rules refuse by is 0 or the number of a refusal
rules_known : (rs : List Rule) → refusal_in (refused_by (order.refusal rs)) ≡ order.refusal rs
unfolding order.refusal
rules_known rs = first_comes_back _ refl

-- what is not refused is no refusal, and is one thing
module _ {A : Type 0} where
  pub is_other : (r : Refusal) (a : A) → ◌≡◌ {A = Result A Refusal} (Err r) (Ok a) → ⊥
  is_other r a e = let z : ◌≡◌ {A = ℕ} 0 1 = cc in omega arith

  pub is_one : (a b : A) → ◌≡◌ {A = Result A Refusal} (Ok a) (Ok b) → a ≡ b
  is_one a b e = cc

  pub is_refusal : (r s : Refusal) → ◌≡◌ {A = Result A Refusal} (Err r) (Err s) → r ≡ s
  is_refusal r s e = cc

-- a number refuses, exactly if it is not 0
pub refused_so : (n : ℕ) → (n ≡ 0 → ⊥) → refused_by n ≡ Err (refusal_of n)
refused_so zero h = absurd (h refl)
refused_so (suc n) h = refl

-- a known number is that of its refusal
pub own_number : (n : ℕ) → refusal_in (refused_by n) ≡ n → (n ≡ 0 → ⊥) → number_of (refusal_of n) ≡ n
own_number n known h = sym (ap refusal_in (refused_so n h)) ∙ known

-- and so is the one by which rules refuse
pub rules_number : (rs : List Rule) → (order.refusal rs ≡ 0 → ⊥) → number_of (refusal_of (order.refusal rs)) ≡ order.refusal rs
rules_number rs h = own_number (order.refusal rs) (rules_known rs) h

-- what refuses is the refusal with that number
pub refused_as : (n : ℕ) {r : Refusal} → Err r ≡ refused_by n → (r ≡ refusal_of n) × (n ≡ 0 → ⊥)
refused_as n {r} e =
    let h : n ≡ 0 → ⊥ = λ z. is_other r tt (e ∙ ap refused_by z) in
    (is_refusal r (refusal_of n) (e ∙ refused_so n h), h)

-- and so where another value would be
pub refused_with : {A : Type 0} (n : ℕ) (a : A) {r : Refusal} → unless_refused n a ≡ Err r → Err r ≡ refused_by n
refused_with zero a {r} e = absurd (is_other r a (sym e))
refused_with (suc n) a {r} e = ap Err (sym (is_refusal (refusal_of (suc n)) r e))

-- what no number refuses passes
pub passes : (n : ℕ) → refused_by n ≡ Ok tt → n ≡ 0
passes zero e = refl
passes (suc n) e = absurd (is_other (refusal_of (suc n)) tt e)

-- what `?` returns of a refusal is that refusal
pub passed_on : {A : Type 0} {x v : Result A Refusal} {r : Refusal} → IsErrAnd x (λ q. q ≡ r) → Err r ≡ v → x ≡ v
passed_on {x = x} e f = let p = err_from_is_err_and x e in p.1 ∙ ap Err p.2 ∙ f

-- and is that refusal where another value would be
pub still_refused : {A : Type 0} (n : ℕ) (a : A) (r : Refusal) → Err r ≡ refused_by n → Err r ≡ unless_refused n a
still_refused zero a r e = cc
still_refused (suc n) a r e = cc
