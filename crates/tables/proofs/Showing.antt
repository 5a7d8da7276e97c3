-- Showing: the refusals, and what it says that there is none.
use Rattle.std.proofs.Common.{ℕ, ◌≤◌, ◌<◌, ◌≡◌, refl, sym, ap, ◌∙◌, List, [], ◌&&◌, arith, ne_eqb, le-leb, lt-ltb, le-ltb, ltb-true, length, ltb, Ok, Err, Bor}
use Rattle.std.proofs.lemmas.Bool.{lt-leb}
use Rattle.ground.specs.Choice.{chosen}
use Rattle.ground.specs.First.{first}
use Rattle.ground.specs.Refusals.{number_of, refused_by, refusal_in}
use Rattle.ground.specs.declared.refusals.Refusal.{Refusal}
use Rattle.ground.proofs.First.{none_wanting}
use Rattle.ground.proofs.RefusalNumbers.{first_comes_back, refused_with, refused_as, passes}
use Rattle.ground.proofs.Tests.{and_left, and_right}
use Rattle.tables.specs.declared.shown.Way.{Way}
use Rattle.tables.specs.declared.shown.Way.TheVariants.{Out, Back}
use Rattle.tables.specs.Table.{is_table}
use Rattle.tables.specs.Shown.{asked, show_refusal, part_at, showing}
use Rattle.tables.proofs.Places.{is_long, is_few}

-- the refusals in their order, from the tests that lead to them
module _ (way : Way) (place : ℕ) (out : List ℕ) (sent : ℕ) (back : List ℕ) (returned : ℕ) where
  pub out_short : (length out ≡ 2048 → ⊥) → show_refusal way place out sent back returned ≡ 2
  unfolding show_refusal first chosen
  out_short h = rw (ne_eqb (length out) 2048 h)

  pub sent_many : length out ≡ 2048 → 64 < sent → show_refusal way place out sent back returned ≡ 2
  unfolding show_refusal first chosen
  sent_many l h = rw (l, lt-leb sent 64 h)

  module _ (l : length out ≡ 2048) (h : sent ≤ 64) where
    pub back_short : (length back ≡ 2048 → ⊥) → show_refusal way place out sent back returned ≡ 2
    unfolding show_refusal first chosen
    back_short m = rw (l, le-leb sent 64 h, ne_eqb (length back) 2048 m)

    pub returned_many : length back ≡ 2048 → 64 < returned → show_refusal way place out sent back returned ≡ 2
    unfolding show_refusal first chosen
    returned_many m k = rw (l, le-leb sent 64 h, m, lt-leb returned 64 k)

    module _ (m : length back ≡ 2048) (k : returned ≤ 64) {n : ℕ} (e : n ≡ asked way sent returned) where
      pub none_there : n ≤ place → show_refusal way place out sent back returned ≡ 3
      unfolding show_refusal first chosen
      none_there j = rw (l, le-leb sent 64 h, m, le-leb returned 64 k, ← e, le-ltb place n j)

      pub one_there : place < n → show_refusal way place out sent back returned ≡ 0
      unfolding show_refusal first chosen
      one_there j = rw (l, le-leb sent 64 h, m, le-leb returned 64 k, ← e, lt-ltb place n j)

  -- the number of the refusal that comes of it
  pub show_refusal_number : (r : Refusal) → Err r ≡ refused_by (show_refusal way place out sent back returned) → number_of r ≡ show_refusal way place out sent back returned
  unfolding show_refusal
  show_refusal_number r e = ap refusal_in e ∙ first_comes_back _ refl

pub ruleset show_refusals = (out_short, sent_many, back_short, returned_many, none_there, one_there)

below : (way : Way) (place m n : ℕ) → m ≤ 64 → n ≤ 64 → place < asked way m n → place < 64
below Out place m n h k e = omega (arith, h, e)
below Back place m n h k e = omega (arith, k, e)

pub record Showable (place : ℕ) (out back : List ℕ) : Type 0 where
  pub out_long : length out ≡ 2048
  pub back_long : length back ≡ 2048
  pub least : place < 64

module _ (way : Way) (place : ℕ) (out : List ℕ) (sent : ℕ) (back : List ℕ) (returned : ℕ) where
  pub showable : show_refusal way place out sent back returned ≡ 0 → Showable place out back
  unfolding show_refusal
  showable e =
      let t = is_table (length out) sent in
      let u = is_table (length back) returned in
      let a = none_wanting 2 (t && u) _ refl e in
      let b = none_wanting 3 (ltb place (asked way sent returned)) [] refl a.1 in
      let x = and_left t u a.0 in
      let y = and_right t u a.0 in
      record {
        out_long = is_long (length out) sent x;
        back_long = is_long (length back) returned y;
        least = below way place sent returned (is_few (length out) sent x) (is_few (length back) returned y) (ltb-true place (asked way sent returned) b.0);
      }

-- for every input: what is refused has the number by which it is refused, and shows nothing
module _ (way : Way) (place : ℕ) (out : Bor (List ℕ)) (sent : ℕ) (back : Bor (List ℕ)) (returned : ℕ) where
  pub refused_shows_none : {r : Refusal} → showing way place out sent back returned ≡ Err r → (number_of r ≡ show_refusal way place out.now sent back.now returned) × (show_refusal way place out.now sent back.now returned ≡ 0 → ⊥)
  unfolding showing
  refused_shows_none {r} e =
      let n = show_refusal way place out.now sent back.now returned in
      let q = refused_with n (part_at (asked way out back) place) e in
      (show_refusal_number way place out.now sent back.now returned r q, (refused_as n q).1)

-- the same from the call that found no refusal, of the table that was asked for
module _ (way : Way) (place : ℕ) (out : Bor (List ℕ)) (sent : ℕ) (back : Bor (List ℕ)) (returned : ℕ) (granted : Ok tt ≡ refused_by (show_refusal way place out.now sent back.now returned)) where
  pub place_least : place < 64
  place_least = (showable way place out.now sent back.now returned (passes _ (sym granted))).least

  pub asked_long : length (asked way out back).now ≡ 2048
  asked_long =
      let s = showable way place out.now sent back.now returned (passes _ (sym granted)) in
      elim way as (λ w. length (asked w out back).now ≡ 2048) [ Out ↦ s.out_long | Back ↦ s.back_long ]

  pub shown_is : showing way place out sent back returned ≡ Ok (part_at (asked way out back) place)
  unfolding showing
  shown_is = rw (passes _ (sym granted))

pub ruleset shows = (place_least, asked_long, shown_is)
