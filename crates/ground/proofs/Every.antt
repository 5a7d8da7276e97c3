-- Tests of a whole list: the laws of a scan, said once for every test, and what is filled with one byte.
use Rattle.std.proofs.Common.{ℕ, zero, suc, ◌≡◌, refl, sym, ap, ◌∙◌, List, [], ◌∷◌, Bool, true, ◌&&◌, eq-eqb, eqb-true, length, replicate, eqb, fold}
use Rattle.std.proofs.Math.Bool.{and-true, and_assoc}
use Rattle.std.specs.List.{list_all}
use Rattle.ground.specs.Every.{every, filled}
use Rattle.ground.proofs.Tests.{and_left, and_right, and_both}

-- a fold that looks at all comes to what the tests come to together, from what was seen before
module _ {A : Type 0} (f : A → Bool) where
  folded_from : (all : Bool) (s : List A) → fold (λ seen x. seen && f x) all s ≡ (all && every f s)
  folded_from all [] = sym (and-true all)
  folded_from all (x ∷ s) = folded_from (all && f x) s ∙ and_assoc all (f x) (every f s)

  pub folded : {r : Bool} (s : List A) → r ≡ fold (λ seen x. seen && f x) true s → r ≡ every f s
  folded s e = e ∙ folded_from true s

  pub every_is : (s : List A) → list_all f s ≡ every f s
  every_is [] = refl
  every_is (x ∷ s) = ap (λ b. f x && b) (every_is s)

-- a list filled with b is as many b's
pub filled_is : (b : ℕ) (s : List ℕ) → filled b s ≡ true → s ≡ replicate (length s) b
unfolding filled
filled_is b [] e = refl
filled_is b (x ∷ s) e =
    let t = eqb x b in
    let r = every (λ y. eqb y b) s in
    λ i. eqb-true x b (and_left t r e) i ∷ filled_is b s (and_right t r e) i

pub filled_replicate : (n b : ℕ) → filled b (replicate n b) ≡ true
unfolding filled
filled_replicate zero b = refl
filled_replicate (suc n) b = and_both (eqb b b) _ (eq-eqb b b refl) (filled_replicate n b)
