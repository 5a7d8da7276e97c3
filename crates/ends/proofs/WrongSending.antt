-- Programs that the promise of a sending's first refusal rules out, each at one input, whatever is sent.
use mathlib.Core.Path.{◌≡◌, refl, sym, ap, ◌∙◌}
use mathlib.Core.Bool.{true, false}
use mathlib.Core.List.{[], ◌∷◌}
use denote.Param.Laws.{Laws, IsCopy}
use denote.RattleType.{RattleType}
use mir.Syntax.{Dict}
use Rattle.std.specs.Prelude.{None}
use Rattle.std.specs.declared.clone.Clone.{Ghosts}
use Rattle.ground.specs.First.{first}
use Rattle.ground.specs.Choice.{chosen}
use Rattle.ground.specs.Options.{option_means}
use Rattle.ground.specs.Refusals.{refused_by, refusal_in}
use Rattle.ground.proofs.Promise.{RulesOut, unequal}
use Rattle.rules.specs.Ends.{down_4, mode_6, absent}
use Rattle.ends.proofs.decided.send_refusal.Kinds as send-refusal-kinds
use Rattle.ends.proofs.decided.send_refusal.Reads as send-refusal

module _ (T : RattleType) (L : Laws T) (C : IsCopy T) (G : Ghosts T.Denot) (D : Dict) where
  pub send_says_6_before_4 : RulesOut (send-refusal-kinds.ps T L C) (send-refusal-kinds.r T L C) (send-refusal.Post T L C G D) (λ κs a. (a.0 ≡ false) × (a.1.0 ≡ None)) (λ κs a x s. x ≡ refused_by 6)
  unfolding first chosen absent
  send_says_6_before_4 κs a x s e w p = unequal (ap refusal_in (sym w ∙ p ∙ (λ i. refused_by (first (down_4 (e.0 i) ∷ mode_6 (option_means (e.1 i)) ∷ []))))) refl

  pub send_never_says_6 : RulesOut (send-refusal-kinds.ps T L C) (send-refusal-kinds.r T L C) (send-refusal.Post T L C G D) (λ κs a. (a.0 ≡ true) × (a.1.0 ≡ None)) (λ κs a x s. x ≡ refused_by 0)
  unfolding first chosen absent
  send_never_says_6 κs a x s e w p = unequal (ap refusal_in (sym w ∙ p ∙ (λ i. refused_by (first (down_4 (e.0 i) ∷ mode_6 (option_means (e.1 i)) ∷ []))))) refl
