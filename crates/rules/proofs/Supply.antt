-- Document 01's own supply keeps the laws, and so does request 1's. Assumes nothing.
use Prim.Native.Nat.{ℕ, suc, ◌+◌, ◌≤◌}
use mathlib.Core.Path.{◌≡◌, refl, sym, subst}
use mathlib.Core.Bool.{Bool, true, false, ◌&&◌}
use mathlib.Core.Option.{none, some, none-ne-some, some-injective}
use lib.Dec.{eqb, leb}
use borrow.Author.Tests.{eqb-true, eqb-false, ne_eqb, leb-true, le-leb, lt-leb}
use native.Mathlib.Omega.{arith}
use Rattle.ground.specs.Block.{is_block, largest_block}
use Rattle.ground.specs.Choice.{chosen, when◌then◌else◌}
use Rattle.ground.proofs.Tests.{by_test, and_left, and_right, and_both}
use Rattle.rules.specs.Supply.{Lawful, largest, next_counted, counted, Blocks, lesser, greater, grown, blocks, Numbers, numbering, stored, fresh_numbers}

next_is : (last n : ℕ) → next_counted last ≡ some n → (n ≡ suc last) × (last ≡ largest → ⊥)
unfolding next_counted chosen
next_is last n e = test (eqb last largest) refl e
  where
    test : (c : Bool) → eqb last largest ≡ c → (when c then none else some (suc last)) ≡ some n → (n ≡ suc last) × (last ≡ largest → ⊥)
    test true q e = absurd (none-ne-some n e)
    test false q e = (sym (some-injective (suc last) n e), eqb-false last largest q)

pub counted_lawful : Lawful ℕ counted
counted_lawful =
    record {
      new = λ s n e. lt-leb n s (omega (arith, (next_is s n e).0));
      taken = λ s n e. le-leb n (suc s) (omega (arith, (next_is s n e).0));
      take_keeps = λ s n u. le-leb n (suc s) (omega (arith, leb-true n s u));
      back_keeps = λ s n u. u;
      next_number =
          λ s n h e. and_both (leb 1 n) (leb n largest) (le-leb 1 n (omega (arith, (next_is s n e).0)))
          (le-leb n largest (omega (arith, next_is s n e, leb-true s largest h)));
      take_sound = λ s n h e. le-leb (suc s) largest (omega (arith, (next_is s n e).1, leb-true s largest h));
      back_sound = λ s h. h;
    }

-- ## In blocks

greater_left : (m n k : ℕ) → k ≤ m → k ≤ greater m n
unfolding greater chosen
greater_left m n k h = by_test (leb m n) (λ t. rw t (omega (arith, h, leb-true m n t))) (λ f. rw f h)

greater_below : (m n : ℕ) → m ≤ n → greater m n ≡ n
unfolding greater chosen
greater_below m n h = rw (le-leb m n h)

-- what sound numbers are
pub record Sound (s : Blocks) : Type 0 where
  pub below : s.last ≤ s.reserved
  pub most : s.reserved ≤ largest
  pub least_block : 1 ≤ s.block
  pub most_block : s.block ≤ largest_block

pub sound_says : (s : Blocks) → blocks.sound s ≡ true → Sound s
sound_says s h =
    let a = leb s.last s.reserved in
    let b = leb s.reserved largest in
    let c = leb 1 s.block in
    let d = leb s.block largest_block in
    let bcd = and_right a (b && (c && d)) h in
    let cd = and_right b (c && d) bcd in
    record {
      below = leb-true s.last s.reserved (and_left a (b && (c && d)) h);
      most = leb-true s.reserved largest (and_left b (c && d) bcd);
      least_block = leb-true 1 s.block (and_left c d cd);
      most_block = leb-true s.block largest_block (and_right c d cd);
    }

pub sound_block : (s : Blocks) → blocks.sound s ≡ true → is_block s.block ≡ true
sound_block s h =
    let a = leb s.last s.reserved in
    let b = leb s.reserved largest in
    and_right b (is_block s.block) (and_right a (b && is_block s.block) h)

pub sound_so : (s : Blocks) → Sound s → blocks.sound s ≡ true
sound_so s h =
    rw (le-leb s.last s.reserved h.below, le-leb s.reserved largest h.most, le-leb 1 s.block h.least_block, le-leb s.block largest_block h.most_block) refl

pub fresh_sound : (n : ℕ) → n ≤ largest → blocks.sound (fresh_numbers n) ≡ true
fresh_sound n h = sound_so (fresh_numbers n) (record { below = omega arith; most = h; least_block = omega arith; most_block = omega arith })

-- coming back sets last used to reserved
pub back_is_reserved : (s : Blocks) → blocks.sound s ≡ true → blocks.back s ≡ stored s.reserved s.block
back_is_reserved s h = λ i. record { last = greater_below s.last s.reserved (sound_says s h).below i; reserved = s.reserved; block = s.block }

-- taking a number leaves what is reserved unless all of it is used
pub reserved_stays : (s : Blocks) → (s.last ≡ s.reserved → ⊥) → (blocks.take s).reserved ≡ s.reserved
unfolding grown chosen
reserved_stays s h = rw (ne_eqb s.last s.reserved h)

-- a number that is taken is reserved, and no more than the largest are
pub grown_fits : (s : Blocks) → Sound s → (s.last ≡ largest → ⊥) → (suc s.last ≤ grown s) × (grown s ≤ largest)
unfolding grown lesser chosen
grown_fits s h e =
    let k = h.below in
    let m = h.most in
    let b = h.least_block in
    by_test (eqb s.last s.reserved)
    (λ t. let r = eqb-true s.last s.reserved t in rw t
    (by_test (leb (s.reserved + s.block) largest)
    (λ u. rw u (omega (arith, r, b), leb-true (s.reserved + s.block) largest u))
    (λ v. rw v (omega (arith, m, k, e), omega arith))))
    (λ f. let r = eqb-false s.last s.reserved f in rw f (omega (arith, k, r), m))

pub blocks_lawful : Lawful Blocks blocks
blocks_lawful =
    let laws = counted_lawful in
    record {
      new = λ s n e. laws.new s.last n e;
      taken = λ s n e. laws.taken s.last n e;
      take_keeps = λ s n u. laws.take_keeps s.last n u;
      back_keeps = λ s n u. le-leb n (greater s.last s.reserved) (greater_left s.last s.reserved n (leb-true n s.last u));
      next_number = λ s n h e. let k = sound_says s h in laws.next_number s.last n (le-leb s.last largest (omega (arith, k.below, k.most))) e;
      take_sound =
          λ s n h e. let k = sound_says s h in let g = grown_fits s k (next_is s.last n e).1 in
          sound_so (blocks.take s) (record { below = g.0; most = g.1; least_block = k.least_block; most_block = k.most_block });
      back_sound =
          λ s h. let k = sound_says s h in
          sound_so (blocks.back s) (record { below = omega (arith, greater_below s.last s.reserved k.below); most = k.most; least_block = k.least_block; most_block = k.most_block });
    }

-- coming back once more changes nothing
pub back_again : (s : Blocks) → blocks.back (blocks.back s) ≡ blocks.back s
unfolding greater chosen
back_again s =
    by_test (leb s.last s.reserved) (λ t. rw (t, le-leb s.reserved s.reserved (omega arith))) (λ f. rw (f, f))

pub stored_sound : (s : Blocks) → blocks.sound s ≡ true → blocks.sound (stored s.reserved s.block) ≡ true
stored_sound s h = subst (λ t. blocks.sound t ≡ true) (back_is_reserved s h) (blocks_lawful.back_sound s h)

-- every number used is reserved
pub used_is_reserved : (s : Blocks) (n : ℕ) → blocks.sound s ≡ true → blocks.used s n ≡ true → n ≤ s.reserved
used_is_reserved s n h u = omega (arith, leb-true n s.last u, (sound_says s h).below)

pub numbering_lawful : Lawful Numbers numbering
numbering_lawful = blocks_lawful
