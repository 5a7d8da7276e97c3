-- The table of letters at a place, and the byte that is no letter. The code's table is the rules' letters, each with its line: `map line_of letters`.
use Prim.Native.Nat.{ℕ, zero, suc, ◌<◌}
use mathlib.Core.Path.{◌≡◌, refl, sym, ap, ◌∙◌}
use mathlib.Core.Bool.{false}
use mathlib.Core.Option as maybe
use Rattle.std.specs.Prelude.{Option, Some, None}
use mathlib.Core.List.{List, [], ◌∷◌, map}
use native.Mathlib.Nat.{le_of_suc-le-suc, not-suc-le-zero}
use borrow.Author.Tests.{ne_eqb}
use lib.ListN.{length, get_or}
use Rattle.ground.specs.Choice.{chosen}
use Rattle.rules.specs.Bench.{at}
use Rattle.rules.specs.Letters.{Letter, line, letters, among, letter}
use Rattle.letters.specs.Lines.{line_of, found_of, found_refusal, letter_refusal, found_at}
use Rattle.letters.specs.declared.ConsoleAsk.TheVariants as console
use Rattle.letters.specs.declared.Asks.TheVariants as asked
use Rattle.letters.specs.declared.Line.{Line}

-- over any list
line_of_lem : (ls : List Letter) (k : ℕ) (d : Line) → k < length ls → Some (get_or (map line_of ls) k d) ≡ found_of (at ls k)
unfolding at
line_of_lem [] k d h = absurd (not-suc-le-zero h)
line_of_lem (l ∷ ls) zero d h = refl
line_of_lem (l ∷ ls) (suc k) d h = line_of_lem ls k d (le_of_suc-le-suc h)

-- what an array of lines has past its end
abbrev pub no_line : Line
no_line = record { byte = 0; asks = asked.Console console.Put; takes = None; place = false; copies = false; message = false }

pub at_line : (k : ℕ) → k < 14 → Some (get_or (map line_of letters) k no_line) ≡ found_at k
unfolding letters found_at
at_line k h = line_of_lem letters k no_line h

-- what is found, with document 01's number of it
abbrev Numbered : Option Line → maybe.Option Letter → Type 0
Numbered r l = (r ≡ found_of l) × (found_refusal r ≡ letter_refusal l)

numbered : {r : Option Line} (l : maybe.Option Letter) → r ≡ found_of l → Numbered r l
numbered maybe.none e = (e, ap found_refusal e)
numbered (maybe.some l) e = (e, ap found_refusal e)

pub keyed : {b k : ℕ} {r x : Option Line} → b ≡ k → r ≡ x → x ≡ found_of (letter k) → Numbered r (letter b)
keyed {b} e f g = numbered (letter b) (f ∙ g ∙ ap (λ n. found_of (letter n)) (sym e))

-- a byte that is none of the fourteen
pub no_letter : (b : ℕ) → (b ≡ 0x50 → ⊥) → (b ≡ 0x51 → ⊥) → (b ≡ 0x44 → ⊥) → (b ≡ 0x53 → ⊥) → (b ≡ 0x43 → ⊥) → (b ≡ 0x56 → ⊥) → (b ≡ 0x4F → ⊥) → (b ≡ 0x4B → ⊥)
    → (b ≡ 0x52 → ⊥) → (b ≡ 0x58 → ⊥) → (b ≡ 0x59 → ⊥) → (b ≡ 0x4C → ⊥) → (b ≡ 0x4D → ⊥) → (b ≡ 0x41 → ⊥) → Numbered None (letter b)
unfolding letter letters line among chosen
no_letter b p q d s c v o k r x y l m a =
    numbered (letter b) (rw (
      ne_eqb 0x50 b (λ e. p (sym e)),
      ne_eqb 0x51 b (λ e. q (sym e)),
      ne_eqb 0x44 b (λ e. d (sym e)),
      ne_eqb 0x53 b (λ e. s (sym e)),
      ne_eqb 0x43 b (λ e. c (sym e)),
      ne_eqb 0x56 b (λ e. v (sym e)),
      ne_eqb 0x4F b (λ e. o (sym e)),
      ne_eqb 0x4B b (λ e. k (sym e)),
      ne_eqb 0x52 b (λ e. r (sym e)),
      ne_eqb 0x58 b (λ e. x (sym e)),
      ne_eqb 0x59 b (λ e. y (sym e)),
      ne_eqb 0x4C b (λ e. l (sym e)),
      ne_eqb 0x4D b (λ e. m (sym e)),
      ne_eqb 0x41 b (λ e. a (sym e)),
    ))
