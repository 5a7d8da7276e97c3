-- The table of kinds, read both ways.
use Prim.Native.Nat.{ℕ}
use mathlib.Core.Path.{◌≡◌, refl}
use mathlib.Core.Bool.{Bool, true, ◌&&◌, not}
use borrow.Author.Tests.{eq-eqb, eqb-true}
use lib.Dec.{eqb}
use Rattle.ground.specs.Choice.{chosen}
use Rattle.ground.proofs.Tests.{and_left, and_right}
use Rattle.wire.specs.declared.Head.{Head}
use Rattle.wire.specs.declared.Head.TheVariants.{NeedI, Offer, Data, Ok, Lost, Done}
use Rattle.std.specs.Prelude as result
use Rattle.ground.specs.declared.refusals.Refusal.TheVariants.{WrongField}
use Rattle.ground.proofs.RefusalNumbers.{is_one, is_other}
use Rattle.wire.specs.Packet.{kind_of, first_of, second_of, numbered, heads, head_of}
use Rattle.ground.specs.declared.refusals.Refusal.{Refusal}
use Rattle.wire.proofs.Found.{found_passes, none_found}

-- a head is the one with its kind and its numbers
pub own_head : (h : Head) → numbered h ≡ true → head_of (kind_of h) (first_of h) (second_of h) ≡ result.Ok h
unfolding head_of chosen
own_head (NeedI j) n = rw (and_left (not (eqb j.0 0)) true n)
own_head (Offer j i) n =
    let a = not (eqb j.0 0) in
    let b = not (eqb i.0 0) in
    rw (and_left a (b && true) n, and_left b true (and_right a (b && true) n), eq-eqb i.0 i.0 refl)
own_head (Data i) n = rw (and_left (not (eqb i.0 0)) true n)
own_head (Ok i) n = rw (and_left (not (eqb i.0 0)) true n)
own_head (Lost i) n = rw (and_left (not (eqb i.0 0)) true n)
own_head (Done i) n = rw (and_left (not (eqb i.0 0)) true n)

-- a head is read from its own kind and numbers
pub record Says (k a b : ℕ) (h : Head) : Type 0 where
  pub kind : k ≡ kind_of h
  pub first : a ≡ first_of h
  pub second : b ≡ second_of h
  pub good : numbered h ≡ true

pub says : (k a b : ℕ) {h : Head} → head_of k a b ≡ result.Ok h → Says k a b h
unfolding head_of
says k a b {h} e =
    let test : Head → Bool = λ g. numbered g && eqb k (kind_of g) && eqb b (second_of g) in
    let f = found_passes test result.Ok (result.Err WrongField) is_one (is_other WrongField) (λ g. a ≡ first_of g) (heads a b) (refl, (refl, (refl, (refl, (refl, (refl, tt)))))) e in
    let l = and_left (numbered h && eqb k (kind_of h)) (eqb b (second_of h)) f.0 in
    record {
      kind = eqb-true k (kind_of h) (and_right (numbered h) (eqb k (kind_of h)) l);
      first = f.1;
      second = eqb-true b (second_of h) (and_right (numbered h && eqb k (kind_of h)) (eqb b (second_of h)) f.0);
      good = and_left (numbered h) (eqb k (kind_of h)) l;
    }

-- numbers of no head are refused by the last number
pub no_head : (k a b : ℕ) {r : Refusal} → head_of k a b ≡ result.Err r → r ≡ WrongField
unfolding head_of
no_head k a b e = none_found (λ g. numbered g && eqb k (kind_of g) && eqb b (second_of g)) WrongField (heads a b) e
