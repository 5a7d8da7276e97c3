-- Counts and rooms.
use Prim.Native.Nat.{ℕ, ◌+◌, ◌-◌, ◌≤◌, ◌<◌, ◌^◌}
use mathlib.Core.Path.{◌≡◌, sym, ◌∙◌}
use mathlib.Core.Bool.{true, false}
use native.Mathlib.Omega.{arith}
use lib.Dec.{leb}
use borrow.Author.Tests.{le-leb, lt-leb, leb-true, leb-false}
use Rattle.ground.proofs.Tests.{by_test}

module _ (count copies : ℕ) where
  pub room_full : 64 < count → false ≡ leb (count + copies) 64
  room_full h = sym (lt-leb (count + copies) 64 (omega (arith, h)))

  pub room_left : count ≤ 64 → leb copies (64 - count) ≡ leb (count + copies) 64
  room_left h =
      by_test (leb copies (64 - count))
      (λ y. let k = leb-true copies (64 - count) y in y ∙ sym (le-leb (count + copies) 64 (omega (arith, h, k))))
      (λ n. let k = leb-false copies (64 - count) n in n ∙ sym (lt-leb (count + copies) 64 (omega (arith, h, k))))

  pub sum_fits : leb (count + copies) 64 ≡ true → count + copies < 2 ^ 64
  sum_fits r = let h = leb-true (count + copies) 64 r in omega (arith, h)
