-- Programs that the promises of an end's turns, and of what an end decides, rule out, each at one input, whatever the end's modes and packets are.
use mathlib.Core.Path.{◌≡◌, refl, sym, ap, ◌∙◌}
use mathlib.Core.Bool.{true, false, true≢false, false≢true}
use denote.Param.Laws.{Laws, IsCopy}
use denote.RattleType.{RattleType}
use mir.Syntax.{Dict}
use Rattle.std.specs.Prelude.{None, Some}
use Rattle.std.specs.declared.clone.Clone.{Ghosts}
use Rattle.ground.specs.Choice.{chosen}
use Rattle.ground.specs.First.{first}
use Rattle.ground.specs.declared.refusals.Refusal.TheVariants.{IsDown, IsUp, OtherMode}
use Rattle.ground.proofs.Options.{none_is_not_some}
use Rattle.ground.proofs.Promise.{RulesOut, unequal, clash}
use Rattle.rules.specs.Ends.{absent}
use Rattle.rules.specs.Supply.{numbering, numbers_rules}
use Rattle.numbers.specs.Numbers.{numbers_means, numbers_back, numbers_taken, numbers_moved}
use Rattle.numbers.specs.declared.Move.TheVariants.{Stay, Take, Back}
use Rattle.numbers.specs.declared.Numbers.{Numbers}
use Rattle.ends.specs.AsRules.{sends, comes_back}
use Rattle.ends.specs.declared.Report.TheVariants as report
use Rattle.ends.specs.declared.decided.Decided as decided-type
use Rattle.ends.specs.declared.turn.Acted as acted-type
use Rattle.ends.specs.declared.turn.Turn as turn-type
use Rattle.ends.proofs.turn.Turn.stays.Kinds as turn-stays-kinds
use Rattle.ends.proofs.turn.Turn.stays.Reads as turn-stays
use Rattle.ends.proofs.turn.Turn.sends.Kinds as turn-sends-kinds
use Rattle.ends.proofs.turn.Turn.sends.Reads as turn-sends
use Rattle.ends.proofs.turn.End.moved.Kinds as moved-kinds
use Rattle.ends.proofs.turn.End.moved.Reads as moved
use Rattle.ends.proofs.turn.End.goes_down.Kinds as goes-down-kinds
use Rattle.ends.proofs.turn.End.goes_down.Reads as goes-down
use Rattle.ends.proofs.turn.End.comes_back.Kinds as comes-back-kinds
use Rattle.ends.proofs.turn.End.comes_back.Reads as comes-back
use Rattle.ends.proofs.decided.Decided.refused.Kinds as decided-refused-kinds
use Rattle.ends.proofs.decided.Decided.refused.Reads as decided-refused
use Rattle.ends.proofs.decided.Decided.turned.Kinds as decided-turned-kinds
use Rattle.ends.proofs.decided.Decided.turned.Reads as decided-turned
use Rattle.ends.proofs.decided.Decided.stays.Kinds as decided-stays-kinds
use Rattle.ends.proofs.decided.Decided.stays.Reads as decided-stays
use Rattle.ends.proofs.decided.Decided.sends.Kinds as decided-sends-kinds
use Rattle.ends.proofs.decided.Decided.sends.Reads as decided-sends
use Rattle.ends.proofs.decided.Decided.comes_back.Kinds as decided-comes-back-kinds
use Rattle.ends.proofs.decided.Decided.comes_back.Reads as decided-comes-back

-- last used 3, reserved 64
abbrev in_block : Numbers
in_block = record { used = 3; reserved = 64; block = 64 }

-- of the modes, M, and of the packets, P
module _ (M P : RattleType) (LM : Laws M) (LP : Laws P) (CM : IsCopy M) (CP : IsCopy P) (GM : Ghosts M.Denot) (DM : Dict) (GP : Ghosts P.Denot) (DP : Dict) where
  abbrev Turn : Type 0
  Turn = turn-type.Turn M.Denot P.Denot

  abbrev Acted : Type 0
  Acted = acted-type.Acted M.Denot P.Denot

  abbrev Decided : Type 0
  Decided = decided-type.Decided M.Denot P.Denot

  -- ## A turn

  pub staying_takes_a_number : (m : M.Denot) → RulesOut (turn-stays-kinds.ps M P LM LP CM CP) (turn-stays-kinds.r M P LM LP CM CP) (turn-stays.Post M P LM LP CM CP GM DM GP DP) (λ κs a. a.0 ≡ m) (λ κs a x s. x.numbers ≡ Take)
  staying_takes_a_number m κs a x s e w p = let q : Take ≡ Stay = sym w ∙ ap (λ (t : Turn). t.numbers) p in clash cc

  pub staying_sends_a_packet : (m : M.Denot) (k : P.Denot) → RulesOut (turn-stays-kinds.ps M P LM LP CM CP) (turn-stays-kinds.r M P LM LP CM CP) (turn-stays.Post M P LM LP CM CP GM DM GP DP) (λ κs a. a.0 ≡ m) (λ κs a x s. x.sent ≡ Some k)
  staying_sends_a_packet m k κs a x s e w p = none_is_not_some k (sym (ap (λ (t : Turn). t.sent) p) ∙ w)

  pub packet_to_be_sent_is_dropped : (k : P.Denot) → RulesOut (turn-sends-kinds.ps M P LM LP CM CP) (turn-sends-kinds.r M P LM LP CM CP) (turn-sends.Post M P LM LP CM CP GM DM GP DP) (λ κs a. a.1.0 ≡ k) (λ κs a x s. x.sent ≡ None)
  packet_to_be_sent_is_dropped k κs a x s e w p = none_is_not_some a.1.0 (sym w ∙ ap (λ (t : Turn). t.sent) p)

  pub sending_takes_a_number : (k : P.Denot) → RulesOut (turn-sends-kinds.ps M P LM LP CM CP) (turn-sends-kinds.r M P LM LP CM CP) (turn-sends.Post M P LM LP CM CP GM DM GP DP) (λ κs a. a.1.0 ≡ k) (λ κs a x s. x.numbers ≡ Take)
  sending_takes_a_number k κs a x s e w p = let q : Take ≡ Stay = sym w ∙ ap (λ (t : Turn). t.numbers) p in clash cc

  -- ## What a turn makes of an end

  pub moving_leaves_the_mode : (m n : M.Denot) → (m ≡ n → ⊥) → RulesOut (moved-kinds.ps M P LM LP CM CP) (moved-kinds.r M P LM LP CM CP) (moved.Post M P LM LP CM CP GM DM GP DP) (λ κs a. (a.0.mode ≡ m) × (a.1.0.mode ≡ n)) (λ κs a x s. x.after.mode ≡ a.0.mode)
  moving_leaves_the_mode m n differ κs a x s e w p = differ (sym e.0 ∙ sym w ∙ ap (λ (d : Acted). d.after.mode) p ∙ e.1)

  -- the number would be given again
  pub moving_takes_no_number : RulesOut (moved-kinds.ps M P LM LP CM CP) (moved-kinds.r M P LM LP CM CP) (moved.Post M P LM LP CM CP GM DM GP DP) (λ κs a. (a.0.numbers ≡ in_block) × (a.1.0.numbers ≡ Take)) (λ κs a x s. x.after.numbers.used ≡ 3)
  unfolding numbers_taken absent numbers_rules chosen
  moving_takes_no_number κs a x s e w p = unequal (sym w ∙ ap (λ (d : Acted). d.after.numbers.used) p ∙ (λ i. (numbers_moved (e.1 i) (e.0 i)).used)) refl

  pub going_down_stays_up : RulesOut (goes-down-kinds.ps M P LM LP CM CP) (goes-down-kinds.r M P LM LP CM CP) (goes-down.Post M P LM LP CM CP GM DM GP DP) (λ κs a. a.0.up ≡ true) (λ κs a x s. x.after.up ≡ true)
  going_down_stays_up κs a x s e w p = true≢false (sym w ∙ ap (λ (d : Acted). d.after.up) p)

  -- as coming back does
  pub going_down_uses_up_what_is_reserved : RulesOut (goes-down-kinds.ps M P LM LP CM CP) (goes-down-kinds.r M P LM LP CM CP) (goes-down.Post M P LM LP CM CP GM DM GP DP) (λ κs a. a.0.numbers ≡ in_block) (λ κs a x s. x.after.numbers.used ≡ 64)
  going_down_uses_up_what_is_reserved κs a x s e w p = unequal (sym w ∙ ap (λ (d : Acted). d.after.numbers.used) p ∙ ap (λ (n : Numbers). n.used) e) refl

  pub coming_back_stays_down : RulesOut (comes-back-kinds.ps M P LM LP CM CP) (comes-back-kinds.r M P LM LP CM CP) (comes-back.Post M P LM LP CM CP GM DM GP DP) (λ κs a. a.0.up ≡ false) (λ κs a x s. x.after.up ≡ false)
  coming_back_stays_down κs a x s e w p = true≢false (sym (ap (λ (d : Acted). d.after.up) p) ∙ w)

  -- numbers that were taken after the record was kept would be given again
  pub coming_back_leaves_last_used : RulesOut (comes-back-kinds.ps M P LM LP CM CP) (comes-back-kinds.r M P LM LP CM CP) (comes-back.Post M P LM LP CM CP GM DM GP DP) (λ κs a. a.0.numbers ≡ in_block) (λ κs a x s. x.after.numbers.used ≡ 3)
  unfolding numbers_rules chosen
  coming_back_leaves_last_used κs a x s e w p = unequal (sym w ∙ ap (λ (d : Acted). d.after.numbers.used) p ∙ ap (λ (n : Numbers). (numbers_back (numbering.back (numbers_means n))).used) e) refl

  -- ## What an end decides

  pub refusal_is_not_reported : RulesOut (decided-refused-kinds.ps M P LM LP CM CP) (decided-refused-kinds.r M P LM LP CM CP) (decided-refused.Post M P LM LP CM CP GM DM GP DP) (λ κs a. a.0 ≡ IsDown) (λ κs a x s. x.report ≡ report.Nothing)
  refusal_is_not_reported κs a x s e w p = let q : report.Nothing ≡ report.Refused a.0 = sym w ∙ ap (λ (d : Decided). d.report) p in clash cc

  pub refusal_takes_the_end_down : RulesOut (decided-refused-kinds.ps M P LM LP CM CP) (decided-refused-kinds.r M P LM LP CM CP) (decided-refused.Post M P LM LP CM CP GM DM GP DP) (λ κs a. (a.0 ≡ IsUp) × (a.1.1.0 ≡ true)) (λ κs a x s. x.up ≡ false)
  refusal_takes_the_end_down κs a x s e w p = false≢true (sym w ∙ ap (λ (d : Decided). d.up) p ∙ e.1)

  -- an end that was down
  pub turn_brings_the_end_up : RulesOut (decided-turned-kinds.ps M P LM LP CM CP) (decided-turned-kinds.r M P LM LP CM CP) (decided-turned.Post M P LM LP CM CP GM DM GP DP) (λ κs a. a.1.0 ≡ false) (λ κs a x s. x.up ≡ true)
  turn_brings_the_end_up κs a x s e w p = true≢false (sym w ∙ ap (λ (d : Decided). d.up) p ∙ e)

  pub packet_of_the_turn_is_dropped : (k : P.Denot) → RulesOut (decided-turned-kinds.ps M P LM LP CM CP) (decided-turned-kinds.r M P LM LP CM CP) (decided-turned.Post M P LM LP CM CP GM DM GP DP) (λ κs a. a.0.sent ≡ Some k) (λ κs a x s. x.sent ≡ None)
  packet_of_the_turn_is_dropped k κs a x s e w p = none_is_not_some k (sym w ∙ ap (λ (d : Decided). d.sent) p ∙ e)

  pub staying_end_drops_its_packet : (k : P.Denot) → RulesOut (decided-stays-kinds.ps M P LM LP CM CP) (decided-stays-kinds.r M P LM LP CM CP) (decided-stays.Post M P LM LP CM CP GM DM GP DP) (λ κs a. a.1.1.0 ≡ Some k) (λ κs a x s. x.sent ≡ None)
  staying_end_drops_its_packet k κs a x s e w p = none_is_not_some k (sym w ∙ ap (λ (d : Decided). d.sent) p ∙ e)

  pub staying_end_takes_a_number : RulesOut (decided-stays-kinds.ps M P LM LP CM CP) (decided-stays-kinds.r M P LM LP CM CP) (decided-stays.Post M P LM LP CM CP GM DM GP DP) (λ κs a. a.1.0 ≡ true) (λ κs a x s. x.numbers ≡ Take)
  staying_end_takes_a_number κs a x s e w p = let q : Take ≡ Stay = sym w ∙ ap (λ (d : Decided). d.numbers) p in clash cc

  pub sends_while_it_is_down : (k : P.Denot) → RulesOut (decided-sends-kinds.ps M P LM LP CM CP) (decided-sends-kinds.r M P LM LP CM CP) (decided-sends.Post M P LM LP CM CP GM DM GP DP) (λ κs a. (a.1.0 ≡ false) × (a.1.1.0 ≡ Some k)) (λ κs a x s. x.sent ≡ Some k)
  unfolding sends first absent chosen
  sends_while_it_is_down k κs a x s e w p = none_is_not_some k (sym (ap (λ (d : Decided). d.sent) (p ∙ (λ i. sends a.0 (e.0 i) (e.1 i)))) ∙ w)

  pub sends_nothing_without_a_refusal : RulesOut (decided-sends-kinds.ps M P LM LP CM CP) (decided-sends-kinds.r M P LM LP CM CP) (decided-sends.Post M P LM LP CM CP GM DM GP DP) (λ κs a. (a.1.0 ≡ true) × (a.1.1.0 ≡ None)) (λ κs a x s. x.report ≡ report.Nothing)
  unfolding sends first absent chosen
  sends_nothing_without_a_refusal κs a x s e w p = let q : report.Nothing ≡ report.Refused OtherMode = sym w ∙ ap (λ (d : Decided). d.report) (p ∙ (λ i. sends a.0 (e.0 i) (e.1 i))) in clash cc

  pub comes_back_while_it_is_up : RulesOut (decided-comes-back-kinds.ps M P LM LP CM CP) (decided-comes-back-kinds.r M P LM LP CM CP) (decided-comes-back.Post M P LM LP CM CP GM DM GP DP) (λ κs a. a.1.1.0 ≡ true) (λ κs a x s. x.report ≡ report.Nothing)
  comes_back_while_it_is_up κs a x s e w p = let q : report.Nothing ≡ report.Refused IsUp = sym w ∙ ap (λ (d : Decided). d.report) (p ∙ ap (comes_back a.0 a.1.0) e) in clash cc

  pub numbers_are_not_told_of_coming_back : RulesOut (decided-comes-back-kinds.ps M P LM LP CM CP) (decided-comes-back-kinds.r M P LM LP CM CP) (decided-comes-back.Post M P LM LP CM CP GM DM GP DP) (λ κs a. a.1.1.0 ≡ false) (λ κs a x s. x.numbers ≡ Stay)
  numbers_are_not_told_of_coming_back κs a x s e w p = let q : Stay ≡ Back = sym w ∙ ap (λ (d : Decided). d.numbers) (p ∙ ap (comes_back a.0 a.1.0) e) in clash cc
