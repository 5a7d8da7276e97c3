-- Laws of the first refusal that applies.
use Rattle.std.proofs.Common.{ℕ, ◌≡◌, refl, ◌∙◌, Bool, true, false, not, List, [], ◌∷◌, ◌++◌, map, arith, ltb, ltb-true}
use Rattle.std.proofs.lemmas.Bool.{not-false}
use Rattle.ground.specs.Choice.{chosen}
use Rattle.ground.specs.Every.{every}
use Rattle.ground.specs.First.{Rule, first, applies, refusal}
use Rattle.ground.proofs.Tests.{and_left, and_right}

-- the first of them applies, or doesn't
pub first_applies : (n : ℕ) (b : Bool) (rs : List Rule) → b ≡ true → first ((n, b) ∷ rs) ≡ n
unfolding first chosen
first_applies n b rs e = rw e

pub first_passes : (n : ℕ) (b : Bool) (rs : List Rule) → b ≡ false → first ((n, b) ∷ rs) ≡ first rs
unfolding first chosen
first_passes n b rs e = rw e

-- without a refusal the first of them doesn't apply, nor does a later one
pub none_applies : (n : ℕ) (b : Bool) (rs : List Rule) → ltb 0 n ≡ true → first ((n, b) ∷ rs) ≡ 0 → (b ≡ false) × (first rs ≡ 0)
unfolding first chosen
none_applies n true rs h e = let p = ltb-true 0 n h in absurd (omega (arith, p, e))
none_applies n false rs h e = (refl, e)

-- the same of a refusal for want of something
pub none_wanting : (n : ℕ) (b : Bool) (rs : List Rule) → ltb 0 n ≡ true → first ((n, not b) ∷ rs) ≡ 0 → (b ≡ true) × (first rs ≡ 0)
none_wanting n b rs h e = let p = none_applies n (not b) rs h e in (not-false b p.0, p.1)

-- refusals, and more after them: the more count where none of the first applies
kept : (n : ℕ) (b : Bool) (rs qs : List Rule) → ((first rs ≡ 0 → ⊥) → first (rs ++ qs) ≡ first rs) → (first ((n, b) ∷ rs) ≡ 0 → ⊥) → first ((n, b) ∷ (rs ++ qs)) ≡ first ((n, b) ∷ rs)
unfolding first chosen
kept n true rs qs ih h = refl
kept n false rs qs ih h = ih h

pub first_kept : (rs qs : List Rule) → (first rs ≡ 0 → ⊥) → first (rs ++ qs) ≡ first rs
unfolding first
first_kept [] qs h = absurd (h refl)
first_kept (r ∷ rs) qs h = kept r.0 r.1 rs qs (first_kept rs qs) h

pub first_more : (rs qs : List Rule) → every (λ (r : Rule). ltb 0 r.0) rs ≡ true → first rs ≡ 0 → first (rs ++ qs) ≡ first qs
first_more [] qs h e = refl
first_more (r ∷ rs) qs h e =
    let p = none_applies r.0 r.1 rs (and_left (ltb 0 r.0) (every (λ (q : Rule). ltb 0 q.0) rs) h) e in
    first_passes r.0 r.1 (rs ++ qs) p.0 ∙ first_more rs qs (and_right (ltb 0 r.0) (every (λ (q : Rule). ltb 0 q.0) rs) h) p.1

-- where two rules apply, `refusal_order` decides and not the place in the list. Every pair of rules that can apply together, the one that comes first
-- in front: a put of a row with 0x7F by a console that is down is 11, not 4. The last two can't apply together, and stand as document 01 prints them
abbrev pairs : List (ℕ × ℕ)
pairs =
    (11, 4)
    ∷ (11, 6)
    ∷ (11, 8)
    ∷ (10, 4)
    ∷ (10, 6)
    ∷ (10, 3)
    ∷ (10, 7)
    ∷ (10, 9)
    ∷ (4, 6)
    ∷ (4, 8)
    ∷ (4, 3)
    ∷ (4, 7)
    ∷ (4, 9)
    ∷ (6, 8)
    ∷ (7, 9)
    ∷ (6, 9)
    ∷ (3, 7)
    ∷ []

pub order_decides : map (λ (p : ℕ × ℕ). refusal ((p.1, true) ∷ (p.0, true) ∷ [])) pairs ≡ map (λ (p : ℕ × ℕ). p.0) pairs
unfolding refusal first applies chosen
order_decides = refl
