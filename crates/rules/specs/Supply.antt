-- Where an end takes its numbers from. The rules speak of any supply; document 01's own is `counted`, document 02's request 1 makes it `blocks`,
-- which is this product's `numbering`. Assumes nothing.
use Rattle.std.specs.Prelude.{ℕ, suc, ◌+◌, ◌≡◌, Bool, true, false, ◌&&◌, eqb, leb}
use Rattle.std.proofs.Math.Option.{Option, none, some}
use Rattle.ground.specs.Block.{is_block, fresh_block}
use Rattle.ground.specs.Choice.{when◌then◌else◌}

pub record Supply (S : Type 0) : Type 0 where
  pub next : S → Option ℕ  -- the number that is taken next; none: the numbers are spent
  pub take : S → S  -- what is left when it has been taken
  pub back : S → S  -- what coming back makes of it
  pub used : S → ℕ → Bool  -- is this number used?
  pub number : ℕ → Bool  -- can this be a number of an end or of a packet?
  pub sound : S → Bool  -- what a well-formed end has

-- what the proofs ask of a supply
pub record Lawful (S : Type 0) (U : Supply S) : Type 0 where
  -- freshness
  pub new : (s : S) (n : ℕ) → U.next s ≡ some n → U.used s n ≡ false
  pub taken : (s : S) (n : ℕ) → U.next s ≡ some n → U.used (U.take s) n ≡ true
  pub take_keeps : (s : S) (n : ℕ) → U.used s n ≡ true → U.used (U.take s) n ≡ true
  pub back_keeps : (s : S) (n : ℕ) → U.used s n ≡ true → U.used (U.back s) n ≡ true
  -- range
  pub next_number : (s : S) (n : ℕ) → U.sound s ≡ true → U.next s ≡ some n → U.number n ≡ true
  pub take_sound : (s : S) (n : ℕ) → U.sound s ≡ true → U.next s ≡ some n → U.sound (U.take s) ≡ true
  pub back_sound : (s : S) → U.sound s ≡ true → U.sound (U.back s) ≡ true

-- ## Document 01: "last used", 0 to 4,294,967,295; the next number is last used plus one; at 4,294,967,295 the numbers are spent

abbrev pub largest : ℕ
largest = 4_294_967_295

unfoldable pub next_counted : ℕ → Option ℕ
next_counted last = when eqb last largest then none else some (suc last)

-- both numbers run from 1 to 4,294,967,295. 0 means none
abbrev pub counted : Supply ℕ
counted =
    record {
      next = next_counted;
      take = λ last. suc last;
      back = λ last. last;
      used = λ last n. leb n last;
      number = λ n. leb 1 n && leb n largest;
      sound = λ last. leb last largest;
    }

-- ## Document 02, request 1: each end has last used and a stored "reserved up to", never below it, and a block, 1 to 1,024

pub record Blocks : Type 0 where
  pub last : ℕ
  pub reserved : ℕ
  pub block : ℕ

unfoldable pub lesser : ℕ → ℕ → ℕ
lesser m n = when leb m n then m else n

unfoldable pub greater : ℕ → ℕ → ℕ
greater m n = when leb m n then n else m

-- when both are equal and a number is needed, reserved grows by the block, at most to the largest number
unfoldable pub grown : Blocks → ℕ
grown s = when eqb s.last s.reserved then lesser (s.reserved + s.block) largest else s.reserved

-- the numbers themselves are document 01's. Coming back sets last used to reserved; it is the greater of the two, which needs no premise to forget
-- no used number
abbrev pub blocks : Supply Blocks
blocks =
    record {
      next = λ s. counted.next s.last;
      take = λ s. record { last = counted.take s.last; reserved = grown s; block = s.block };
      back = λ s. record { last = greater s.last s.reserved; reserved = s.reserved; block = s.block };
      used = λ s n. counted.used s.last n;
      number = counted.number;
      sound = λ s. leb s.last s.reserved && (leb s.reserved largest && is_block s.block);
    }

-- ## The numbers of this product: whatever speaks of them outside the rules goes by these names

abbrev pub Numbers : Type 0
Numbers = Blocks

abbrev pub numbering : Supply Numbers
numbering = blocks

-- as a number record holds them: coming back from it, last used is reserved
abbrev pub stored : ℕ → ℕ → Numbers
stored reserved block = record { last = reserved; reserved = reserved; block = block }

-- on a fresh bench the two are equal and the block is 64
abbrev pub fresh_numbers : ℕ → Numbers
fresh_numbers last = stored last fresh_block

-- for proofs: `unfolding numbers_rules` opens every definition of the numbers
unfoldable pub numbers_rules : Unit {0}
unfolding next_counted lesser greater grown
numbers_rules = tt
