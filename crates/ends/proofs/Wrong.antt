-- Programs that the promises rule out, each at one input.
use Prim.Native.Nat.{ℕ}
use mathlib.Core.Path.{◌≡◌, refl, sym, ap, ◌∙◌}
use mathlib.Core.List.{List}
use lib.ListN.{get_or, replicate}
use Rattle.std.specs.Prelude.{None, Some}
use Rattle.ground.specs.Cell.{spaces}
use Rattle.ground.specs.declared.refusals.Refusal.TheVariants.{NoPlace, UnknownNumber}
use Rattle.ground.proofs.Options.{none_is_not_some}
use Rattle.ground.proofs.Promise.{RulesOut, unequal, clash}
use Rattle.wire.specs.declared.Head.TheVariants as head
use Rattle.wire.specs.declared.Packet.{Packet}
use Rattle.rules.specs.Relabel.{in_packet}
use Rattle.ends.specs.AsRules.{to_controller, to_console, delivered_beside, refusal_told}
use Rattle.ends.specs.Packets.{to_controller_packet, to_console_packet}
use Rattle.ends.specs.declared.ToController.TheVariants as up
use Rattle.ends.specs.declared.ToConsole.TheVariants as down
use Rattle.ends.specs.declared.Report.TheVariants as report
use Rattle.ends.proofs.Report.refusal.Kinds as refusal-kinds
use Rattle.ends.proofs.Report.refusal.Reads as refusal
use Rattle.ends.proofs.packets.to_controller.Kinds as to-controller-kinds
use Rattle.ends.proofs.packets.to_controller.Reads as to-controller
use Rattle.ends.proofs.packets.to_console.Kinds as to-console-kinds
use Rattle.ends.proofs.packets.to_console.Reads as to-console
use Rattle.ends.proofs.packets.delivers.Kinds as delivers-kinds
use Rattle.ends.proofs.packets.delivers.Reads as delivers

-- a row of 16 letters A
abbrev row : List ℕ
row = replicate 16 0x41

pub message_in_need_i : RulesOut to-controller-kinds.ps to-controller-kinds.r to-controller.Post (λ κs a. (a.0 ≡ up.NeedI (record { 0 = 1 })) × (a.1.0 ≡ row)) (λ κs a x s. x.message ≡ a.1.0)
message_in_need_i κs a x s e w p = unequal (ap (λ (m : List ℕ). get_or m 0 0) (sym e.1 ∙ sym w ∙ ap (λ (q : Packet). q.message) (p ∙ (λ i. to_controller_packet (in_packet (λ _. e.1 i) (to_controller (e.0 i))))))) refl

pub done_for_data : RulesOut to-controller-kinds.ps to-controller-kinds.r to-controller.Post (λ κs a. (a.0 ≡ up.Data (record { 0 = 1 })) × (a.1.0 ≡ row)) (λ κs a x s. x.head ≡ head.Done (record { 0 = 1 }))
done_for_data κs a x s e w p = let q : head.Done (record { 0 = 1 }) ≡ head.Data (record { 0 = 1 }) = sym w ∙ ap (λ (q : Packet). q.head) (p ∙ (λ i. to_controller_packet (in_packet (λ _. e.1 i) (to_controller (e.0 i))))) in clash cc

pub ok_for_lost : RulesOut to-console-kinds.ps to-console-kinds.r to-console.Post (λ κs a. a.0 ≡ down.Lost (record { 0 = 1 })) (λ κs a x s. x.head ≡ head.Ok (record { 0 = 1 }))
ok_for_lost κs a x s e w p = let q : head.Ok (record { 0 = 1 }) ≡ head.Lost (record { 0 = 1 }) = sym w ∙ ap (λ (q : Packet). q.head) (p ∙ ap (λ l. to_console_packet (to_console l)) e) in clash cc

pub spaces_for_zeros : RulesOut to-console-kinds.ps to-console-kinds.r to-console.Post (λ κs a. a.0 ≡ down.Lost (record { 0 = 1 })) (λ κs a x s. x.message ≡ spaces)
spaces_for_zeros κs a x s e w p = unequal (ap (λ (m : List ℕ). get_or m 0 0) (sym w ∙ ap (λ (q : Packet). q.message) (p ∙ ap (λ l. to_console_packet (to_console l)) e))) refl

pub message_told_with_no_delivery : RulesOut delivers-kinds.ps delivers-kinds.r delivers.Post (λ κs a. (a.0 ≡ report.Nothing) × (a.1.0 ≡ row)) (λ κs a x s. x ≡ a.1.0)
message_told_with_no_delivery κs a x s e w p = unequal (ap (λ (m : List ℕ). get_or m 0 0) (sym e.1 ∙ sym w ∙ p ∙ (λ i. delivered_beside (e.0 i) (e.1 i)))) refl

pub spaces_with_a_delivery : RulesOut delivers-kinds.ps delivers-kinds.r delivers.Post (λ κs a. (a.0 ≡ report.Delivered) × (a.1.0 ≡ row)) (λ κs a x s. x ≡ spaces)
spaces_with_a_delivery κs a x s e w p = unequal (ap (λ (m : List ℕ). get_or m 0 0) (sym w ∙ p ∙ (λ i. delivered_beside (e.0 i) (e.1 i)))) refl

-- ## The refusal of a report

pub refused_with_no_number : RulesOut refusal-kinds.ps refusal-kinds.r refusal.Post (λ κs a. a.0 ≡ report.Refused UnknownNumber) (λ κs a x s. x ≡ None)
refused_with_no_number κs a x s e w p = none_is_not_some UnknownNumber (sym w ∙ p ∙ ap refusal_told e)

pub lost_taken_as_refusal : RulesOut refusal-kinds.ps refusal-kinds.r refusal.Post (λ κs a. a.0 ≡ report.Lost) (λ κs a x s. x ≡ Some NoPlace)
lost_taken_as_refusal κs a x s e w p = none_is_not_some NoPlace (sym (p ∙ ap refusal_told e) ∙ w)
