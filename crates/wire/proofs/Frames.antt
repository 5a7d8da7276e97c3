-- Frames: bytes that pass as one are one, and one is bytes.
use Prim.Native.Nat.{ℕ, suc, ◌+◌, ◌≤◌}
use mathlib.Core.Path.{◌≡◌, refl, sym, ap, ◌∙◌}
use mathlib.Core.Bool.{Bool, true}
use mathlib.Core.List.{List, [], ◌∷◌, ◌++◌}
use native.Mathlib.Omega.{arith}
use borrow.Author.Tests.{eqb-true}
use lib.ListN.{length, get_or, drop, take-append-drop}
use lib.Seq.{drop-drop}
use lib.Dec.{eqb}
use Rattle.ground.specs.First.{first}
use Rattle.ground.proofs.First.{none_wanting}
use Rattle.ground.proofs.Tests.{and_left, and_right}
use Rattle.wire.specs.Frame.{field, bytes_are, mark, frame, read_refusals}
use Rattle.wire.specs.Number.{bytes_of}
use Rattle.ground.proofs.Elements.{elements, split_elements}

pub bytes_are_lem : (s : List ℕ) (at : ℕ) (bs : List ℕ) → bytes_are s at bs ≡ true → elements s at (length bs) ≡ bs
bytes_are_lem s at [] e = refl
bytes_are_lem s at (b ∷ bs) e =
    let t = eqb (get_or s at 0) b in
    let r = bytes_are s (suc at) bs in
    λ i. eqb-true (get_or s at 0) b (and_left t r e) i ∷ bytes_are_lem s (suc at) bs (and_right t r e) i

-- what a read that is not refused says of the bytes
pub record Framed (n letter version : ℕ) (s : List ℕ) (good : Bool) : Type 0 where
  pub long : length s ≡ n
  pub starts : frame letter version (get_or s 5 0) ≡ elements s 0 8
  pub fields : good ≡ true

pub framed : (n letter version : ℕ) (s : List ℕ) (good : Bool) → first (read_refusals n letter version s good) ≡ 0 → Framed n letter version s good
unfolding bytes_of
framed n letter version s good e =
    let l = none_wanting 12 (eqb (length s) n) _ refl e in
    let m = none_wanting 13 (bytes_are s 0 (mark letter)) _ refl l.1 in
    let v = none_wanting 14 (bytes_are s 3 (bytes_of 2 version)) _ refl m.1 in
    let z = none_wanting 15 (bytes_are s 6 (bytes_of 2 0)) _ refl v.1 in
    let g = none_wanting 15 good [] refl z.1 in
    record {
      long = eqb-true (length s) n l.0;
      starts = sym (λ i.
          bytes_are_lem s 0 (mark letter) m.0 i ++ bytes_are_lem s 3 (bytes_of 2 version) v.0 i ++ (get_or s 5 0 ∷ bytes_are_lem s 6 (bytes_of 2 0) z.0 i));
      fields = g.0;
    }

-- with what follows byte 7 the frame is all of the bytes
pub frame_rest : (n letter version : ℕ) (s : List ℕ) (good : Bool) → 8 ≤ n → Framed n letter version s good → frame letter version (get_or s 5 0) ++ drop 8 s ≡ s
frame_rest n letter version s good h f =
    let l = f.long in
    ap (λ (r : List ℕ). r ++ drop 8 s) f.starts ∙ sym (split_elements 8 s 0 (omega arith))

-- a list from an offset on is a field and the rest
pub split_field : (s : List ℕ) (at n : ℕ) → drop at s ≡ field s at n ++ drop (at + n) s
split_field s at n = sym (take-append-drop n (drop at s)) ∙ ap (λ (r : List ℕ). field s at n ++ r) (drop-drop n at s)
