-- Lists by their places, and what is left of a fact of every element when elements are added and taken out.
use Rattle.std.proofs.Common.{ℕ, zero, suc, ◌≤◌, ◌<◌, ◌≡◌, refl, sym, ap, subst, List, [], ◌∷◌, ◌++◌, arith, not-suc-le-zero, le_of_suc-le-suc, length, replicate}
use mathlib.Core.Option.{Option, none, some}
use Rattle.ground.specs.Lists.{at, without, All, Opt}

-- ## Places

-- a list at a place that it has
pub record Split {A : Type 0} (ps : List A) (k : ℕ) : Type 0 where
  pub before : List A
  pub it : A
  pub behind : List A
  pub whole : ps ≡ before ++ it ∷ behind
  pub place : length before ≡ k
  pub found : at ps k ≡ some it
  pub rest : without ps k ≡ before ++ behind

module _ {A : Type 0} where
  pub split : (ps : List A) (k : ℕ) → k < length ps → Split ps k
  unfolding at without
  split [] k h = absurd (not-suc-le-zero h)
  split (x ∷ ps) zero h = record { before = []; it = x; behind = ps; whole = refl; place = refl; found = refl; rest = refl }
  split (x ∷ ps) (suc k) h =
      let s = split ps k (le_of_suc-le-suc h) in
      record {
        before = x ∷ s.before;
        it = s.it;
        behind = s.behind;
        whole = ap (λ (l : List A). x ∷ l) s.whole;
        place = ap suc s.place;
        found = s.found;
        rest = ap (λ (l : List A). x ∷ l) s.rest;
      }

  abbrev IsSome : Option A → Type 0
  IsSome none = ⊥
  IsSome (some x) = Unit

  pub some_is : {x y : A} → some x ≡ some y → x ≡ y
  some_is {x} e = ap (λ (o : Option A). elim o [ none ↦ x | some z ↦ z ]) e

  -- an element stands only below the length
  pub at_below : (ps : List A) (k : ℕ) {p : A} → at ps k ≡ some p → k < length ps
  unfolding at
  at_below [] k e = absurd (subst IsSome (sym e) tt)
  at_below (x ∷ ps) zero e = omega arith
  at_below (x ∷ ps) (suc k) e = let h = at_below ps k e in omega (arith, h)

  pub without_beyond : (ps : List A) (k : ℕ) → length ps ≤ k → without ps k ≡ ps
  unfolding without
  without_beyond [] k h = refl
  without_beyond (x ∷ ps) zero h = absurd (not-suc-le-zero h)
  without_beyond (x ∷ ps) (suc k) h = ap (λ (l : List A). x ∷ l) (without_beyond ps k (le_of_suc-le-suc h))

-- ## A fact of every element

module _ {A : Type 0} (P : A → Type 0) where
  pub all_append : (l l' : List A) → All P l → All P l' → All P (l ++ l')
  all_append [] l' h h' = h'
  all_append (x ∷ l) l' h h' = (h.0, all_append l l' h.1 h')

  pub all_before : (l l' : List A) → All P (l ++ l') → All P l
  all_before [] l' h = tt
  all_before (x ∷ l) l' h = (h.0, all_before l l' h.1)

  pub all_behind : (l l' : List A) → All P (l ++ l') → All P l'
  all_behind [] l' h = h
  all_behind (x ∷ l) l' h = all_behind l l' h.1

  pub all_replicate : (n : ℕ) (x : A) → P x → All P (replicate n x)
  all_replicate zero x h = tt
  all_replicate (suc n) x h = (h, all_replicate n x h)

  pub all_without : (l : List A) (k : ℕ) → All P l → All P (without l k)
  unfolding without
  all_without [] k h = tt
  all_without (x ∷ l) zero h = h.1
  all_without (x ∷ l) (suc k) h = (h.0, all_without l k h.1)

  pub all_at : (l : List A) (k : ℕ) → All P l → Opt P (at l k)
  unfolding at
  all_at [] k h = tt
  all_at (x ∷ l) zero h = h.0
  all_at (x ∷ l) (suc k) h = all_at l k h.1

pub all_map : {A : Type 0} (P Q : A → Type 0) → ((x : A) → P x → Q x) → (l : List A) → All P l → All Q l
all_map P Q f [] h = tt
all_map P Q f (x ∷ l) h = (f x h.0, all_map P Q f l h.1)

-- with a second fact of the same elements
pub all_map₂ : {A : Type 0} (P K Q : A → Type 0) → ((x : A) → K x → P x → Q x) → (l : List A) → All K l → All P l → All Q l
all_map₂ P K Q f [] k h = tt
all_map₂ P K Q f (x ∷ l) k h = (f x k.0 h.0, all_map₂ P K Q f l k.1 h.1)

pub opt_map₂ : {A : Type 0} (P K Q : A → Type 0) → ((x : A) → K x → P x → Q x) → (p : Option A) → Opt K p → Opt P p → Opt Q p
opt_map₂ P K Q f none k h = tt
opt_map₂ P K Q f (some x) k h = f x k h
