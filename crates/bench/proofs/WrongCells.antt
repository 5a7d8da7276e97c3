-- Cells of a line that the contracts of `bench::cells` shut out, each at one report.
use Prim.Native.Nat.{ℕ}
use mathlib.Core.Path.{◌≡◌, sym, ap, ◌∙◌}
use mathlib.Core.List.{List, [], ◌∷◌}
use native.Mathlib.Omega.{arith}
use lib.ListN.{get_or}
use Rattle.ground.specs.declared.refusals.Refusal.TheVariants.{NoAction, IllFormed}
use Rattle.ground.specs.Choice.{chosen}
use Rattle.ground.proofs.Promise.{RulesOut}
use Rattle.ends.specs.declared.Report.TheVariants as report
use Rattle.bench.specs.Reports.{letter_cell, report_cells}
use Rattle.bench.proofs.cells.letter_cell.Kinds as letter-kinds
use Rattle.bench.proofs.cells.letter_cell.Reads as letter
use Rattle.bench.proofs.cells.report_cells.Kinds as cells-kinds
use Rattle.bench.proofs.cells.report_cells.Reads as cells

-- a refusal 1 whose letter is shown, and a refusal 2 whose letter is not
pub shows_the_letter : RulesOut letter-kinds.ps letter-kinds.r letter.Post (λ κs a. (a.0 ≡ 0x50) × (a.1.0 ≡ report.Refused NoAction)) (λ κs a x s. x ≡ 0x50)
unfolding chosen
shows_the_letter κs a x s e w p = let q : x ≡ 0x3F = p ∙ (λ i. letter_cell (e.0 i) (e.1 i)) in omega (arith, q, w)

pub question_mark_for_2 : RulesOut letter-kinds.ps letter-kinds.r letter.Post (λ κs a. (a.0 ≡ 0x50) × (a.1.0 ≡ report.Refused IllFormed)) (λ κs a x s. x ≡ 0x3F)
unfolding chosen
question_mark_for_2 κs a x s e w p = let q : x ≡ 0x50 = p ∙ (λ i. letter_cell (e.0 i) (e.1 i)) in omega (arith, q, w)

-- OK for a delivery, and LO for an answer that says OK
pub ok_for_a_delivery : RulesOut cells-kinds.ps cells-kinds.r cells.Post (λ κs a. a.0 ≡ report.Delivered) (λ κs a x s. x ≡ 0x4F ∷ 0x4B ∷ [])
ok_for_a_delivery κs a x s e w p =
    let q : ◌≡◌ {A = ℕ} 0x4F 0x44 = ap (λ (l : List ℕ). get_or l 0 0) (sym w ∙ p ∙ ap report_cells e) in omega (arith, q)

pub lost_for_ok : RulesOut cells-kinds.ps cells-kinds.r cells.Post (λ κs a. a.0 ≡ report.Ok) (λ κs a x s. x ≡ 0x4C ∷ 0x4F ∷ [])
lost_for_ok κs a x s e w p =
    let q : ◌≡◌ {A = ℕ} 0x4C 0x4F = ap (λ (l : List ℕ). get_or l 0 0) (sym w ∙ p ∙ ap report_cells e) in omega (arith, q)
