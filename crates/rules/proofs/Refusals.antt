-- What a refusal is: the first rule that applies, in document 01's one order. Assumes nothing.
use Prim.Native.Nat.{ℕ}
use mathlib.Core.Path.{◌≡◌, refl, sym, ap, ◌∙◌}
use mathlib.Core.Logic.{◌≢◌}
use mathlib.Core.Bool.{Bool, true, false, ◌||◌, true≢false}
use mathlib.Core.List.{List, [], ◌∷◌, map}
use lib.Dec.{T, eqb}
use borrow.Author.Tests.{eqb-true, eqb-false}
use Rattle.ground.specs.Choice.{chosen, when◌then◌else◌}
use Rattle.ground.specs.First.{Rule, first, refusal_order, applies, refusal}
use Rattle.rules.specs.Lists.{listed}

neither : (a b : Bool) → (a || b) ≡ false → (a ≡ false) × (b ≡ false)
neither true b e = absurd (true≢false e)
neither false b e = (refl, e)

-- f says of each number whether a rule of that number applies
module _ (f : ℕ → Bool) where
  abbrev looked_at : List ℕ → List Rule
  looked_at ns = map (λ n. (n, f n)) ns

  none_applies : (ns : List ℕ) → listed 0 ns ≡ false → first (looked_at ns) ≡ 0 → (k : ℕ) → T (listed k ns) → f k ≡ false
  unfolding first chosen
  none_applies [] z e k h = absurd h
  none_applies (n ∷ ns) z e k h = test (f n) refl (eqb k n) refl e h (λ z e h. none_applies ns z e k h)
    where
      test : (c : Bool) → f n ≡ c → (d : Bool) → eqb k n ≡ d → (when c then n else first (looked_at ns)) ≡ 0 → T (d || listed k ns)
          → (listed 0 ns ≡ false → first (looked_at ns) ≡ 0 → T (listed k ns) → f k ≡ false) → f k ≡ false
      test true q d p e h more = absurd (eqb-false 0 n (neither (eqb 0 n) (listed 0 ns) z).0 (sym e))
      test false q true p e h more = ap f (eqb-true k n p) ∙ q
      test false q false p e h more = more (neither (eqb 0 n) (listed 0 ns) z).1 e h

  one_applies : (ns : List ℕ) (k : ℕ) → first (looked_at ns) ≡ k → k ≢ 0 → f k ≡ true
  unfolding first chosen
  one_applies [] k e z = absurd (z (sym e))
  one_applies (n ∷ ns) k e z = test (f n) refl e (λ e. one_applies ns k e z)
    where
      test : (c : Bool) → f n ≡ c → (when c then n else first (looked_at ns)) ≡ k → (first (looked_at ns) ≡ k → f k ≡ true) → f k ≡ true
      test true q e more = ap f (sym e) ∙ q
      test false q e more = more e

module _ (rules : List Rule) where
  -- an action that is not refused: no rule applies
  pub passed : refusal rules ≡ 0 → (n : ℕ) → T (listed n refusal_order) → applies rules n ≡ false
  unfolding refusal
  passed e n h = none_applies (applies rules) refusal_order refl e n h

  -- one that is refused: the rule of that number applies
  pub applied : (n : ℕ) → refusal rules ≡ n → n ≢ 0 → applies rules n ≡ true
  unfolding refusal
  applied n e z = one_applies (applies rules) refusal_order n e z
