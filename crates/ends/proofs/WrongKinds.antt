-- Programs that the promises shut out: of each of the two that say what a head is for an end, one that takes every packet, one that takes none.
use mathlib.Core.Path.{◌≡◌, sym, ap, ◌∙◌}
use contract.Lifetimes.{Lfts}
use borrow.Fn.Kinds.{Dens, ended_of}
use denote.Triple.Clauses.{AtExit}
use Rattle.std.specs.Prelude.{Option, None, Some}
use Rattle.ground.proofs.Options.{none_is_not_some}
use Rattle.wire.specs.declared.Head.TheVariants.{NeedI, Ok}
use Rattle.wire.specs.declared.I.{I}
use Rattle.wire.specs.declared.J.{J}
use Rattle.ends.specs.Packets.{head_for_controller, head_for_console}
use Rattle.ends.specs.declared.ToController.{ToController}
use Rattle.ends.specs.declared.ToConsole.{ToConsole}
use Rattle.ends.proofs.packets.for_controller.Kinds as for-controller-kinds
use Rattle.ends.proofs.packets.for_controller.Reads as for-controller-reads
use Rattle.ends.proofs.packets.for_console.Kinds as for-console-kinds
use Rattle.ends.proofs.packets.for_console.Reads as for-console-reads

-- ## For the controller

module _ (κs : Lfts 0) (a : Dens κs for-controller-kinds.ps) (x : Option ToController) (s : AtExit (ended_of 0 for-controller-kinds.ps for-controller-kinds.r) κs) (meets : for-controller-reads.Post κs a x s) where
  pub controller_takes_every_kind : (i : I) (p : ToController) → a.0 ≡ Ok i → x ≡ Some p → ⊥
  controller_takes_every_kind i p h e = none_is_not_some p (sym (meets.0 ∙ ap head_for_controller h) ∙ e)

  pub controller_takes_no_kind : (j : J) → a.0 ≡ NeedI j → x ≡ None → ⊥
  controller_takes_no_kind j h e = none_is_not_some _ (sym e ∙ meets.0 ∙ ap head_for_controller h)

-- ## For the console

module _ (κs : Lfts 0) (a : Dens κs for-console-kinds.ps) (x : Option ToConsole) (s : AtExit (ended_of 0 for-console-kinds.ps for-console-kinds.r) κs) (meets : for-console-reads.Post κs a x s) where
  pub console_takes_every_kind : (j : J) (p : ToConsole) → a.0 ≡ NeedI j → x ≡ Some p → ⊥
  console_takes_every_kind j p h e = none_is_not_some p (sym (meets.0 ∙ ap head_for_console h) ∙ e)

  pub console_takes_no_kind : (i : I) → a.0 ≡ Ok i → x ≡ None → ⊥
  console_takes_no_kind i h e = none_is_not_some _ (sym e ∙ meets.0 ∙ ap head_for_console h)
