-- Packets as their lines say: what they have, their bytes, and each kind of them.
use Prim.Native.Nat.{ℕ, ◌^◌, ◌<◌}
use mathlib.Core.Path.{◌≡◌, refl, sym, ap, ◌∙◌}
use mathlib.Core.Bool.{Bool, true, ◌&&◌, not}
use mathlib.Core.List.{List}
use native.Mathlib.Omega.{arith}
use borrow.Author.Tests.{ne_eqb, eqb-true, eqb-false, not-true}
use lib.ListN.{length, replicate}
use lib.Dec.{eqb}
use Rattle.ground.specs.Cell.{cells, is_message}
use Rattle.ground.specs.Every.{filled}
use Rattle.ground.proofs.Every.{filled_is, filled_replicate}
use Rattle.ground.proofs.Tests.{and_left, and_right, and_both}
use Rattle.wire.specs.declared.Direction.TheVariants.{ToController, ToConsole}
use Rattle.wire.specs.declared.Head.{Head}
use Rattle.wire.specs.declared.Head.TheVariants.{NeedI, Offer, Data, Ok, Lost, Done}
use Rattle.wire.specs.declared.I.{I}
use Rattle.wire.specs.declared.J.{J}
use Rattle.wire.specs.declared.Packet.{Packet}
use Rattle.wire.specs.Number.{bytes_of}
use Rattle.wire.specs.Packet.{is_blank, table, direction_of, first_of, second_of, numbered, fits, packet_bytes}

module _ (p : Packet) where
  pub fits_both : numbered p.head ≡ true → (table p.head).message p.message ≡ true → fits p ≡ true
  unfolding fits
  fits_both n m = and_both (numbered p.head) ((table p.head).message p.message) n m

  pub fits_numbers : fits p ≡ true → numbered p.head ≡ true
  unfolding fits
  fits_numbers f = and_left (numbered p.head) ((table p.head).message p.message) f

  pub fits_message : fits p ≡ true → (table p.head).message p.message ≡ true
  unfolding fits
  fits_message f = and_right (numbered p.head) ((table p.head).message p.message) f

-- 16 zero bytes are those, and a message of either sort is 16 bytes
pub blank_is : (m : List ℕ) → is_blank m ≡ true → m ≡ replicate 16 0
unfolding is_blank
blank_is m e =
    let l = eqb-true (length m) 16 (and_left (eqb (length m) 16) (filled 0 m) e) in
    filled_is 0 m (and_right (eqb (length m) 16) (filled 0 m) e) ∙ ap (λ (n : ℕ). replicate n 0) l

pub zeros_blank : is_blank (replicate 16 0) ≡ true
unfolding is_blank
zeros_blank = filled_replicate 16 0

blank_long : (m : List ℕ) → is_blank m ≡ true → length m ≡ 16
blank_long m e = rw (blank_is m e) refl

message_long : (m : List ℕ) → is_message m ≡ true → length m ≡ 16
unfolding is_message
message_long m e = eqb-true (length m) 16 (and_left (eqb (length m) 16) (cells m) e)

-- what both sorts of message have, every line has
by_sort : (P : List ℕ → Type 0) → ((m : List ℕ) → is_blank m ≡ true → P m) → ((m : List ℕ) → is_message m ≡ true → P m) → (h : Head) (m : List ℕ) → (table h).message m ≡ true → P m
by_sort P b c (NeedI j) m e = b m e
by_sort P b c (Offer j i) m e = b m e
by_sort P b c (Data i) m e = c m e
by_sort P b c (Ok i) m e = b m e
by_sort P b c (Lost i) m e = b m e
by_sort P b c (Done i) m e = b m e

-- what the types of a packet's numbers say, as laws ask it; of its message `fits` says enough
pub record Typed (p : Packet) : Type 0 where
  pub first : first_of p.head < 2 ^ 32
  pub second : second_of p.head < 2 ^ 32

module _ (p : Packet) (f : fits p ≡ true) where
  pub message_sixteen : length p.message ≡ 16
  message_sixteen = by_sort (λ m. length m ≡ 16) blank_long message_long p.head p.message (fits_message p f)

  pub packet_long : length (packet_bytes p) ≡ 32
  unfolding packet_bytes bytes_of
  packet_long = rw message_sixteen

-- a packet of each kind that can be sent
named : (n : ℕ) → 0 < n → not (eqb n 0) ≡ true
named n h = rw (ne_eqb n 0 (λ e. omega arith))

pub need_i_fits : (j : J) → 0 < j.0 → fits (record { head = NeedI j; message = replicate 16 0 }) ≡ true
need_i_fits j h = fits_both _ (rw (named j.0 h)) zeros_blank

pub offer_fits : (j : J) (i : I) → 0 < j.0 → 0 < i.0 → fits (record { head = Offer j i; message = replicate 16 0 }) ≡ true
offer_fits j i h k = fits_both _ (rw (named j.0 h, named i.0 k)) zeros_blank

pub data_fits : (i : I) (m : List ℕ) → 0 < i.0 → is_message m ≡ true → fits (record { head = Data i; message = m }) ≡ true
data_fits i m h e = fits_both _ (rw (named i.0 h)) e

pub ok_fits : (i : I) → 0 < i.0 → fits (record { head = Ok i; message = replicate 16 0 }) ≡ true
ok_fits i h = fits_both _ (rw (named i.0 h)) zeros_blank

pub lost_fits : (i : I) → 0 < i.0 → fits (record { head = Lost i; message = replicate 16 0 }) ≡ true
lost_fits i h = fits_both _ (rw (named i.0 h)) zeros_blank

pub done_fits : (i : I) → 0 < i.0 → fits (record { head = Done i; message = replicate 16 0 }) ≡ true
done_fits i h = fits_both _ (rw (named i.0 h)) zeros_blank

-- no number of a packet is 0
above : (n : ℕ) (r : Bool) → (not (eqb n 0) && r) ≡ true → 0 < n
above n r e = let h = eqb-false n 0 (not-true (eqb n 0) (and_left (not (eqb n 0)) r e)) in omega (arith, h)

pub first_above : (h : Head) → numbered h ≡ true → 0 < first_of h
first_above (NeedI j) e = above j.0 true e
first_above (Offer j i) e = above j.0 (not (eqb i.0 0) && true) e
first_above (Data i) e = above i.0 true e
first_above (Ok i) e = above i.0 true e
first_above (Lost i) e = above i.0 true e
first_above (Done i) e = above i.0 true e

pub second_above : (j : J) (i : I) → numbered (Offer j i) ≡ true → 0 < i.0
second_above j i e = above i.0 true (and_right (not (eqb j.0 0)) (not (eqb i.0 0) && true) e)

-- the heads of each direction
apart : ToController ≡ ToConsole → ⊥
apart e = let z : ◌≡◌ {A = ℕ} 0 1 = cc in omega arith

pub to_controller_all : (P : Head → Type 0) → ((j : J) → P (NeedI j)) → ((i : I) → P (Data i)) → ((i : I) → P (Done i)) → (h : Head) → direction_of h ≡ ToController → P h
to_controller_all P n d e (NeedI j) g = n j
to_controller_all P n d e (Offer j i) g = absurd (apart (sym g))
to_controller_all P n d e (Data i) g = d i
to_controller_all P n d e (Ok i) g = absurd (apart (sym g))
to_controller_all P n d e (Lost i) g = absurd (apart (sym g))
to_controller_all P n d e (Done i) g = e i

pub to_console_all : (P : Head → Type 0) → ((j : J) (i : I) → P (Offer j i)) → ((i : I) → P (Ok i)) → ((i : I) → P (Lost i)) → (h : Head) → direction_of h ≡ ToConsole → P h
to_console_all P o k l (NeedI j) g = absurd (apart g)
to_console_all P o k l (Offer j i) g = o j i
to_console_all P o k l (Data i) g = absurd (apart g)
to_console_all P o k l (Ok i) g = k i
to_console_all P o k l (Lost i) g = l i
to_console_all P o k l (Done i) g = absurd (apart g)
