-- What is written of a state, part by part.
use Prim.Native.Nat.{ℕ, suc, ◌+◌, ◌-◌, ◌<◌}
use mathlib.Core.Path.{◌≡◌, sym, ◌∙◌}
use mathlib.Core.List.{List, [], ◌∷◌, ◌++◌, append_assoc, append-nil}
use native.Mathlib.Omega.{arith}
use borrow.Rule.Slice.PartMut.{put_mid}
use lib.ListN.{length, get_or, drop, set, length-append, length-drop, drop_of_length-le}
use lib.Seq.{take_at, drop_at, drop-drop, drop-cons, set_at}

-- a part at the front and the next after it, which ends at b
module _ (s : List ℕ) (a n b : ℕ) (x y : List ℕ) (e : length x ≡ a) (f : length y ≡ n) (g : a + n ≡ b) where
  front_long : length (x ++ y) ≡ b
  front_long = length-append x y ∙ omega (arith, e, f, g)

  front : put_mid a n (x ++ drop a s) y ≡ (x ++ y) ++ drop b s
  front = rw (take_at x (drop a s) a e, drop_at x (drop a s) a e, drop-drop n a s, g) (sym (append_assoc x y (drop b s)))

module _ (s : List ℕ) (a n b : ℕ) (x y : List ℕ) where
  -- a third part up to the end
  pub front_parts : (z : List ℕ) → length x ≡ a → length y ≡ n → a + n ≡ b → length s ≡ b + length z → put_mid b (length (put_mid a n (x ++ drop a s) y) - b) (put_mid a n (x ++ drop a s) y) z ≡ (x ++ y) ++ z
  front_parts z e f g l =
      let d = drop b s in
      let long = front_long s a n b x y e f g in
      let none : drop (length ((x ++ y) ++ d) - b) d ≡ [] = drop_of_length-le d {i = length ((x ++ y) ++ d) - b} (omega (arith, length-append (x ++ y) d, length-drop b s, long, l)) in
      rw (front s a n b x y e f g, take_at (x ++ y) d b long, drop_at (x ++ y) d b long, none, append-nil)

  pub three_parts : (z : List ℕ) → length x ≡ a → length y ≡ n → a + n ≡ b → length s ≡ b + length z → put_mid b (length (put_mid a n (x ++ drop a s) y) - b) (put_mid a n (x ++ drop a s) y) z ≡ x ++ (y ++ z)
  three_parts z e f g l = front_parts z e f g l ∙ append_assoc x y z

  -- one byte
  pub parts_and_one : (v : ℕ) → length x ≡ a → length y ≡ n → a + n ≡ b → length s ≡ b + 1 → set (put_mid a n (x ++ drop a s) y) b v ≡ x ++ (y ++ (v ∷ []))
  parts_and_one v e f g l =
      let within : b < length s = omega (arith, l) in
      let long = front_long s a n b x y e f g in
      let none : drop (suc b) s ≡ [] = drop_of_length-le s {i = suc b} (omega (arith, l)) in
      rw (front s a n b x y e f g, drop-cons s b 0, set_at (x ++ y) (get_or s b 0) (drop (suc b) s) v b long, none) (append_assoc x y (v ∷ []))
