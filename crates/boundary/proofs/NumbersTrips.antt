-- An end's numbers in bytes 0 to 9 of its state: what is read is written back to the same bytes, and fits.
use Prim.Native.Nat.{ℕ, ◌≤◌}
use mathlib.Core.Path.{◌≡◌, sym, ap, ◌∙◌}
use mathlib.Core.List.{List, ◌++◌, append_assoc}
use native.Mathlib.Omega.{arith}
use lib.ListN.{length, drop}
use Rattle.ground.specs.Bytes.{Bytes}
use Rattle.wire.specs.Frame.{field}
use Rattle.wire.proofs.Frames.{split_field}
use Rattle.wire.proofs.Numbers.{field_below, field_back}
use Rattle.numbers.specs.Numbers.{numbers_means}
use Rattle.numbers.proofs.Range.{Fit}
use Rattle.boundary.specs.State.{numbers_bytes, numbers_at}

module _ (s : List ℕ) (b : Bytes s) (l : 10 ≤ length s) where
  pub numbers_fit : Fit (numbers_means (numbers_at s))
  numbers_fit =
      record {
        last = field_below s 0 4 b (omega (arith, l));
        reserved = field_below s 4 4 b (omega (arith, l));
        block = field_below s 8 2 b (omega (arith, l));
      }

  -- with what follows byte 9 they are all of the bytes
  pub numbers_rest : numbers_bytes (numbers_at s) ++ drop 10 s ≡ s
  numbers_rest =
      let u = field s 0 4 in
      let r = field s 4 4 in
      let k = field s 8 2 in
      let t = drop 10 s in
      let flat : (u ++ (r ++ k)) ++ t ≡ u ++ (r ++ (k ++ t)) = append_assoc u (r ++ k) t ∙ ap (λ (x : List ℕ). u ++ x) (append_assoc r k t) in
      let cut : s ≡ u ++ (r ++ (k ++ t)) = split_field s 0 4 ∙ ap (λ (x : List ℕ). u ++ x) (split_field s 4 4 ∙ ap (λ (x : List ℕ). r ++ x) (split_field s 8 2)) in
      rw (field_back s 0 4 b (omega (arith, l)), field_back s 4 4 b (omega (arith, l)), field_back s 8 2 b (omega (arith, l))) (flat ∙ sym cut)
