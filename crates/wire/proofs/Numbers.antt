-- Numbers in bytes: the two round trips, and the four or two bytes that the code computes.
use Prim.Native.Nat.{ℕ, zero, suc, ◌+◌, ◌*◌, ◌/◌, ◌%◌, ◌^◌, ◌≤◌, ◌<◌}
use mathlib.Core.Path.{◌≡◌, refl, ap, ◌∙◌}
use mathlib.Core.List.{List, [], ◌∷◌}
use native.Mathlib.Numerals.{add-one, add-two, add-three}
use native.Mathlib.Omega.{arith}
use native.Mathlib.Nat.{div-add-mod', mod-lt, mod-eq_of_lt, mul-add-mod_self_right, mul-add-div_right, div-eq_of_lt, add-zero, one-le-pow, pow-suc, pow-succ', div-lt_iff_lt-mul, mul-le-mul_right}
use lib.ListN.{length, get_or, drop, length-drop}
use lib.Seq.{length-take-le}
use Rattle.std.specs.Int.{w16, w32, to_be_bytes, from_be_bytes}
use Rattle.ground.specs.Bytes.{Bytes}
use Rattle.ground.proofs.Bytes.{bytes_take, bytes_drop}
use Rattle.wire.specs.Frame.{field}
use Rattle.wire.specs.Number.{bytes_of, value}
use Rattle.ground.proofs.Elements.{elements, rest_elements, field_elements}

power : (n : ℕ) → 0 < 256 ^ n
power n = one-le-pow n 256 (omega arith)

pub length_bytes_of : (n x : ℕ) → length (bytes_of n x) ≡ n
unfolding bytes_of
length_bytes_of zero x = refl
length_bytes_of (suc n) x = ap suc (length_bytes_of n (x % 256 ^ n))

pub value_bytes_of : (n x : ℕ) → x < 256 ^ n → value (bytes_of n x) ≡ x
unfolding value bytes_of
value_bytes_of zero x h = omega arith
value_bytes_of (suc n) x h =
    rw (length_bytes_of n (x % 256 ^ n), value_bytes_of n (x % 256 ^ n) (mod-lt x (power n))) (div-add-mod' x (256 ^ n))

-- bytes stand for a number of their length
pub value_below : (s : List ℕ) → Bytes s → value s < 256 ^ length s
unfolding value
value_below [] b = omega arith
value_below (x ∷ s) b =
    let h : x < 256 = b 0 in
    let v : value s < 256 ^ length s = value_below s (λ i. b (suc i)) in
    let m : (x + 1) * 256 ^ length s ≤ 256 * 256 ^ length s = mul-le-mul_right (256 ^ length s) (omega arith) in
    rw (pow-suc 256 (length s)) (omega (arith, m, v))

pub bytes_of_value : (s : List ℕ) → Bytes s → bytes_of (length s) (value s) ≡ s
unfolding value bytes_of
bytes_of_value [] b = refl
bytes_of_value (x ∷ s) b =
    let v : value s < 256 ^ length s = value_below s (λ i. b (suc i)) in
    rw (
      mul-add-div_right (power (length s)) x (value s),
      div-eq_of_lt v,
      mul-add-mod_self_right x (256 ^ length s) (value s),
      mod-eq_of_lt v,
      bytes_of_value s (λ i. b (suc i)),
      add-zero,
    )

pub bytes_bytes_of : (n x : ℕ) → x < 256 ^ n → Bytes (bytes_of n x)
unfolding bytes_of
bytes_bytes_of zero x h i = omega arith
bytes_bytes_of (suc n) x h zero = (div-lt_iff_lt-mul (power n)).1 (rw (pow-succ' 256 n) at h)
bytes_bytes_of (suc n) x h (suc i) = bytes_bytes_of n (x % 256 ^ n) (mod-lt x (power n)) i

-- the library's bytes of a number, and its number of bytes
pub to_be_bytes_4 : (n : ℕ) → n < 2 ^ 32 → to_be_bytes w32 n ≡ bytes_of 4 n
unfolding bytes_of
to_be_bytes_4 n h =
    let e₀ : n / 0x1000000 % 0x100 ≡ n / 0x1000000 = omega arith in
    let e₁ : n / 0x10000 % 0x100 ≡ n % 0x1000000 / 0x10000 = omega arith in
    let e₂ : n / 0x100 % 0x100 ≡ n % 0x1000000 % 0x10000 / 0x100 = omega arith in
    let e₃ : n % 0x100 ≡ n % 0x1000000 % 0x10000 % 0x100 / 1 = omega arith in
    rw (e₀, e₁, e₂, e₃)

pub to_be_bytes_2 : (n : ℕ) → n < 2 ^ 16 → to_be_bytes w16 n ≡ bytes_of 2 n
unfolding bytes_of
to_be_bytes_2 n h =
    let e₀ : n / 0x100 % 0x100 ≡ n / 0x100 = omega arith in
    let e₁ : n % 0x100 ≡ n % 0x100 / 1 = omega arith in
    λ i. e₀ i ∷ e₁ i ∷ []

pub from_be_bytes_4 : (s : List ℕ) → length s ≡ 4 → from_be_bytes w32 s ≡ value s
unfolding value
from_be_bytes_4 s l =
    let f : from_be_bytes w32 s ≡ value (elements s 0 4) = omega arith in
    f ∙ ap value (rest_elements 4 s 0 l)

pub from_be_bytes_2 : (s : List ℕ) → length s ≡ 2 → from_be_bytes w16 s ≡ value s
unfolding value
from_be_bytes_2 s l =
    let f : from_be_bytes w16 s ≡ value (elements s 0 2) = omega arith in
    f ∙ ap value (rest_elements 2 s 0 l)

-- a number of one byte in two
pub byte_in_two : (n : ℕ) → n < 256 → bytes_of 2 n ≡ 0 ∷ n ∷ []
unfolding bytes_of
byte_in_two n h =
    let e : n / 0x100 ≡ 0 = div-eq_of_lt h in
    let f : n % 0x100 / 1 ≡ n = omega arith in
    rw (e, f)

pub number_at_is : (s : List ℕ) (at : ℕ) {n : ℕ} → at + 4 ≤ length s → n ≡ value (get_or s at 0 ∷ get_or s (at + 1) 0 ∷ get_or s (at + 2) 0 ∷ get_or s (at + 3) 0 ∷ []) → n ≡ value (field s at 4)
number_at_is s at h e = rw (field_elements 4 s at h) (rw (add-one, add-two, add-three) at e)

-- the number at an offset, and its bytes
module _ (s : List ℕ) (at n : ℕ) (b : Bytes s) (h : at + n ≤ length s) where
  long : length (field s at n) ≡ n
  long = length-take-le n (drop at s) (rw (length-drop at s) (omega arith))

  small : Bytes (field s at n)
  small = bytes_take n (drop at s) (bytes_drop at s b)

  pub field_below : value (field s at n) < 256 ^ n
  field_below = rw long at (value_below (field s at n) small)

  pub field_back : bytes_of n (value (field s at n)) ≡ field s at n
  field_back = rw long at (bytes_of_value (field s at n) small)
