-- What is found among candidates passes the test, and has what all of them have.
use mathlib.Core.Path.{◌≡◌, sym, subst}
use mathlib.Core.Bool.{Bool, true}
use mathlib.Core.List.{List, [], ◌∷◌}
use Rattle.std.specs.Prelude.{Ok, Err}
use Rattle.ground.specs.Choice.{chosen}
use Rattle.ground.specs.declared.refusals.Refusal.{Refusal}
use Rattle.ground.proofs.RefusalNumbers.{is_other, is_refusal}
use Rattle.ground.proofs.Tests.{by_test}
use Rattle.wire.specs.Frame.{found}

abbrev pub Each : {A : Type 0} → (A → Type 0) → List A → Type 0
Each P [] = Unit
Each P (a ∷ rest) = P a × Each P rest

module _ {A B : Type 0} (test : A → Bool) (is : A → B) (none : B) (one : (a b : A) → is a ≡ is b → a ≡ b) (other : (a : A) → none ≡ is a → ⊥) where
  pub found_passes : (P : A → Type 0) (l : List A) → Each P l → {a : A} → found test is none l ≡ is a → (test a ≡ true) × P a
  unfolding chosen
  found_passes P [] ps e = absurd (other _ e)
  found_passes P (c ∷ l) ps {a} e =
      by_test (test c)
      (λ t. let s = one c a (rw t at e) in (subst (λ (x : A). test x ≡ true) s t, subst P s ps.0))
      (λ f. found_passes P l ps.1 (rw f at e))

-- where nothing is found, the refusal is the one that stands for none
pub none_found : {A : Type 0} (test : A → Bool) (none : Refusal) (l : List A) {r : Refusal} → found test Ok (Err none) l ≡ Err r → r ≡ none
unfolding chosen
none_found test none [] {r} e = is_refusal r none (sym e)
none_found test none (a ∷ l) {r} e =
    by_test (test a) (λ t. absurd (is_other r a (sym (rw t at e)))) (λ f. none_found test none l (rw f at e))
