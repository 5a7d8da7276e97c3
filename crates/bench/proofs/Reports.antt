-- Whoever reads a line can tell its report: no two reports have the same two cells, and each cell stands at its place.
use Prim.Native.Nat.{ℕ, ◌+◌, ◌-◌, ◌*◌, ◌/◌, ◌%◌}
use mathlib.Core.Path.{◌≡◌, refl, sym, ap, ap₂, ◌∙◌}
use mathlib.Core.List.{List, [], ◌∷◌}
use native.Mathlib.Omega.{arith}
use borrow.Author.Tests.{ne_eqb}
use lib.ListN.{length, get_or}
use Rattle.ground.specs.Bytes.{field}
use Rattle.ground.specs.Choice.{chosen}
use Rattle.ground.specs.Refusals.{number_of, refusal_of}
use Rattle.ground.proofs.RefusalNumbers.{refusal_of-number_of, number_in_table}
use Rattle.listing.specs.Line.{decimals, line_bytes}
use Rattle.listing.proofs.LineWritten.{two_digits_are}
use Rattle.listing.proofs.LineParts as parts
use Rattle.ends.specs.declared.Report.{Report}
use Rattle.ends.specs.declared.Report.TheVariants as report
use Rattle.bench.specs.Reports.{letter_cell, report_cells, cells_say, report_line}

-- ## The two cells

abbrev pub said : List ℕ → Report
said c = cells_say (get_or c 0 0) (get_or c 1 0)

-- a digit is no cell of the four words
pub refusal_said : (n : ℕ) → said (decimals 2 n) ≡ report.Refused (refusal_of (n % 100))
unfolding cells_say chosen
refusal_said n =
    let x = 0x30 + n / 10 % 10 in
    let y = 0x30 + n % 10 in
    let e : 10 * (x - 0x30) + (y - 0x30) ≡ n % 100 = omega arith in
    ap said (sym (two_digits_are n)) ∙ rw (ne_eqb x 0x44 (λ h. omega (arith, h)), ne_eqb x 0x4F (λ h. omega (arith, h)), ne_eqb x 0x4C (λ h. omega (arith, h)), ne_eqb x 0x2D (λ h. omega (arith, h))) (ap (λ (k : ℕ). report.Refused (refusal_of k)) e)

pub report_said : (r : Report) → said (report_cells r) ≡ r
unfolding cells_say chosen
report_said report.Nothing = refl
report_said report.Delivered = refl
report_said report.Ok = refl
report_said report.Lost = refl
report_said (report.Refused q) =
    let n = number_of q in
    let low = (number_in_table q).1 in
    let e : n % 100 ≡ n = omega (arith, low) in
    refusal_said n ∙ ap report.Refused (ap refusal_of e ∙ refusal_of-number_of q)

pub cells_tell : (r t : Report) → report_cells r ≡ report_cells t → r ≡ t
cells_tell r t e = sym (report_said r) ∙ ap said e ∙ report_said t

-- ## A line's parts, with a message of 16 cells

two_cells : (r : Report) → report_cells r ≡ get_or (report_cells r) 0 0 ∷ get_or (report_cells r) 1 0 ∷ []
unfolding decimals
two_cells report.Nothing = refl
two_cells report.Delivered = refl
two_cells report.Ok = refl
two_cells report.Lost = refl
two_cells (report.Refused n) = refl

module _ (k l : ℕ) (m : List ℕ) (r : Report) where
  abbrev x : ℕ
  x = get_or (report_cells r) 0 0

  abbrev y : ℕ
  y = get_or (report_cells r) 1 0

  laid : report_line k l r m ≡ line_bytes k (letter_cell l r) (x ∷ y ∷ []) m
  unfolding report_line
  laid = ap (λ (c : List ℕ). line_bytes k (letter_cell l r) c m) (two_cells r)

  pub line_letter : get_or (report_line k l r m) 5 0 ≡ letter_cell l r
  line_letter = ap (λ (s : List ℕ). get_or s 5 0) laid ∙ parts.letter_at k (letter_cell l r) x y m

  pub line_says : cells_say (get_or (report_line k l r m) 7 0) (get_or (report_line k l r m) 8 0) ≡ said (report_cells r)
  line_says = ap (λ (s : List ℕ). cells_say (get_or s 7 0) (get_or s 8 0)) laid ∙ ap₂ cells_say (parts.first_at k (letter_cell l r) x y m) (parts.second_at k (letter_cell l r) x y m)

  pub line_message : length m ≡ 16 → field (report_line k l r m) 10 16 ≡ m
  line_message h = ap (λ (s : List ℕ). field s 10 16) laid ∙ parts.message_at k (letter_cell l r) x y m h

  pub line_long : length m ≡ 16 → length (report_line k l r m) ≡ 27
  line_long h = ap length laid ∙ parts.long k (letter_cell l r) x y m h
