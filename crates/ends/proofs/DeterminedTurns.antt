-- Each promise of an end's turns, and of what an end decides, determines its answer, whatever the end's modes and packets are.
use mathlib.Core.Path.{sym, ◌∙◌}
use denote.Param.Laws.{Laws, IsCopy}
use denote.RattleType.{RattleType}
use mir.Syntax.{Dict}
use Rattle.std.specs.declared.clone.Clone.{Ghosts}
use Rattle.ground.proofs.Promise.{Determined}
use Rattle.ends.proofs.turn.Turn.stays.Kinds as turn-stays-kinds
use Rattle.ends.proofs.turn.Turn.stays.Reads as turn-stays
use Rattle.ends.proofs.turn.Turn.sends.Kinds as turn-sends-kinds
use Rattle.ends.proofs.turn.Turn.sends.Reads as turn-sends
use Rattle.ends.proofs.turn.End.moved.Kinds as moved-kinds
use Rattle.ends.proofs.turn.End.moved.Reads as moved
use Rattle.ends.proofs.turn.End.goes_down.Kinds as goes-down-kinds
use Rattle.ends.proofs.turn.End.goes_down.Reads as goes-down
use Rattle.ends.proofs.turn.End.comes_back.Kinds as comes-back-kinds
use Rattle.ends.proofs.turn.End.comes_back.Reads as comes-back
use Rattle.ends.proofs.decided.Decided.refused.Kinds as decided-refused-kinds
use Rattle.ends.proofs.decided.Decided.refused.Reads as decided-refused
use Rattle.ends.proofs.decided.Decided.turned.Kinds as decided-turned-kinds
use Rattle.ends.proofs.decided.Decided.turned.Reads as decided-turned
use Rattle.ends.proofs.decided.Decided.stays.Kinds as decided-stays-kinds
use Rattle.ends.proofs.decided.Decided.stays.Reads as decided-stays
use Rattle.ends.proofs.decided.Decided.sends.Kinds as decided-sends-kinds
use Rattle.ends.proofs.decided.Decided.sends.Reads as decided-sends
use Rattle.ends.proofs.decided.Decided.comes_back.Kinds as decided-comes-back-kinds
use Rattle.ends.proofs.decided.Decided.comes_back.Reads as decided-comes-back
use Rattle.ends.proofs.decided.send_refusal.Kinds as send-refusal-kinds
use Rattle.ends.proofs.decided.send_refusal.Reads as send-refusal

module _ (T : RattleType) (L : Laws T) (C : IsCopy T) (G : Ghosts T.Denot) (D : Dict) where
  pub send_refusal_determined : Determined (send-refusal-kinds.ps T L C) (send-refusal-kinds.r T L C) (send-refusal.Post T L C G D)
  send_refusal_determined κs a x y s t p q = p ∙ sym q

-- of the modes, M, and of the packets, P
module _ (M P : RattleType) (LM : Laws M) (LP : Laws P) (CM : IsCopy M) (CP : IsCopy P) (GM : Ghosts M.Denot) (DM : Dict) (GP : Ghosts P.Denot) (DP : Dict) where
  pub turn_stays_determined : Determined (turn-stays-kinds.ps M P LM LP CM CP) (turn-stays-kinds.r M P LM LP CM CP) (turn-stays.Post M P LM LP CM CP GM DM GP DP)
  turn_stays_determined κs a x y s t p q = p ∙ sym q

  pub turn_sends_determined : Determined (turn-sends-kinds.ps M P LM LP CM CP) (turn-sends-kinds.r M P LM LP CM CP) (turn-sends.Post M P LM LP CM CP GM DM GP DP)
  turn_sends_determined κs a x y s t p q = p ∙ sym q

  pub moved_determined : Determined (moved-kinds.ps M P LM LP CM CP) (moved-kinds.r M P LM LP CM CP) (moved.Post M P LM LP CM CP GM DM GP DP)
  moved_determined κs a x y s t p q = p ∙ sym q

  pub goes_down_determined : Determined (goes-down-kinds.ps M P LM LP CM CP) (goes-down-kinds.r M P LM LP CM CP) (goes-down.Post M P LM LP CM CP GM DM GP DP)
  goes_down_determined κs a x y s t p q = p ∙ sym q

  pub comes_back_determined : Determined (comes-back-kinds.ps M P LM LP CM CP) (comes-back-kinds.r M P LM LP CM CP) (comes-back.Post M P LM LP CM CP GM DM GP DP)
  comes_back_determined κs a x y s t p q = p ∙ sym q

  pub decided_refused_determined : Determined (decided-refused-kinds.ps M P LM LP CM CP) (decided-refused-kinds.r M P LM LP CM CP) (decided-refused.Post M P LM LP CM CP GM DM GP DP)
  decided_refused_determined κs a x y s t p q = p ∙ sym q

  pub decided_turned_determined : Determined (decided-turned-kinds.ps M P LM LP CM CP) (decided-turned-kinds.r M P LM LP CM CP) (decided-turned.Post M P LM LP CM CP GM DM GP DP)
  decided_turned_determined κs a x y s t p q = p ∙ sym q

  pub decided_stays_determined : Determined (decided-stays-kinds.ps M P LM LP CM CP) (decided-stays-kinds.r M P LM LP CM CP) (decided-stays.Post M P LM LP CM CP GM DM GP DP)
  decided_stays_determined κs a x y s t p q = p ∙ sym q

  pub decided_sends_determined : Determined (decided-sends-kinds.ps M P LM LP CM CP) (decided-sends-kinds.r M P LM LP CM CP) (decided-sends.Post M P LM LP CM CP GM DM GP DP)
  decided_sends_determined κs a x y s t p q = p ∙ sym q

  pub decided_comes_back_determined : Determined (decided-comes-back-kinds.ps M P LM LP CM CP) (decided-comes-back-kinds.r M P LM LP CM CP) (decided-comes-back.Post M P LM LP CM CP GM DM GP DP)
  decided_comes_back_determined κs a x y s t p q = p ∙ sym q
