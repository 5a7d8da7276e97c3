-- Whoever reads a line finds each of its parts at its place.
use Prim.Native.Nat.{ℕ}
use mathlib.Core.Path.{◌≡◌, refl, ap, ◌∙◌}
use mathlib.Core.List.{List, [], ◌∷◌, ◌++◌}
use native.Mathlib.Omega.{arith}
use lib.ListN.{length, get_or, drop, length-append, length-drop}
use lib.Seq.{take_at}
use Rattle.ground.specs.Bytes.{field}
use Rattle.listing.specs.Line.{decimals, line_bytes}

module _ (number letter x y : ℕ) (m : List ℕ) where
  abbrev line : List ℕ
  line = line_bytes number letter (x ∷ y ∷ []) m

  pub letter_at : get_or line 5 0 ≡ letter
  unfolding line_bytes decimals
  letter_at = refl

  pub first_at : get_or line 7 0 ≡ x
  unfolding line_bytes decimals
  first_at = refl

  pub second_at : get_or line 8 0 ≡ y
  unfolding line_bytes decimals
  second_at = refl

  after_cells : drop 10 line ≡ m ++ (0x0A ∷ [])
  unfolding line_bytes decimals
  after_cells = refl

  pub message_at : length m ≡ 16 → field line 10 16 ≡ m
  message_at h = rw after_cells (take_at m (0x0A ∷ []) 16 h)

  pub long : length m ≡ 16 → length line ≡ 27
  long h =
      let a = length-drop 10 line in
      let b = ap length after_cells ∙ length-append m (0x0A ∷ []) in
      omega (arith, a, b, h)
