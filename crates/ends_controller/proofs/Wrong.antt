-- Programs that the promises of a controller's fields rule out, each at one input.
use Prim.Native.Nat.{ℕ}
use mathlib.Core.Path.{◌≡◌, refl, sym, ap, ◌∙◌}
use mathlib.Core.Bool.{Bool, true, false, true≢false, false≢true}
use Rattle.ground.specs.Choice.{chosen}
use Rattle.ground.proofs.Promise.{RulesOut, unequal}
use Rattle.wire.specs.declared.I.{I}
use Rattle.numbers.specs.Numbers.{numbers_fresh}
use Rattle.ends.specs.AsRules.{end_refusal}
use Rattle.ends_controller.specs.Fields.{controller_ok, controller_read_refusal, controller_fields, fresh_controller, downed_controller}
use Rattle.ends_controller.specs.declared.Mode.TheVariants as controller-mode
use Rattle.ends_controller.specs.declared.fields.Controller.{Controller}
use Rattle.ends_controller.proofs.fields.read_controller.Kinds as read-controller-kinds
use Rattle.ends_controller.proofs.fields.read_controller.Reads as read-controller
use Rattle.ends_controller.proofs.fields.controller_of.Kinds as controller-of-kinds
use Rattle.ends_controller.proofs.fields.controller_of.Reads as controller-of
use Rattle.ends_controller.proofs.fields.fresh_controller.Kinds as fresh-controller-kinds
use Rattle.ends_controller.proofs.fields.fresh_controller.Reads as fresh-controller
use Rattle.ends_controller.proofs.fields.downed_controller.Kinds as downed-controller-kinds
use Rattle.ends_controller.proofs.fields.downed_controller.Reads as downed-controller

abbrev controller_with_fields : ℕ → ℕ → ℕ → ℕ → Bool → Controller
controller_with_fields used j i last up =
    record { numbers = numbers_fresh used; j = record { 0 = j }; i = record { 0 = i }; last = record { 0 = last }; up = up }

pub takes_j_without_i : RulesOut read-controller-kinds.ps read-controller-kinds.r read-controller.Post (λ κs a. a.0 ≡ controller_with_fields 1 1 0 0 true) (λ κs a x s. controller_read_refusal x ≡ 0)
unfolding controller_ok chosen
takes_j_without_i κs a x s e w p = unequal (sym w ∙ p.1 ∙ ap (λ c. end_refusal (controller_ok c)) e) refl

pub takes_i_and_last : RulesOut read-controller-kinds.ps read-controller-kinds.r read-controller.Post (λ κs a. a.0 ≡ controller_with_fields 1 1 1 1 true) (λ κs a x s. controller_read_refusal x ≡ 0)
unfolding controller_ok chosen
takes_i_and_last κs a x s e w p = unequal (sym w ∙ p.1 ∙ ap (λ c. end_refusal (controller_ok c)) e) refl

pub takes_i_above_last_used : RulesOut read-controller-kinds.ps read-controller-kinds.r read-controller.Post (λ κs a. a.0 ≡ controller_with_fields 0 1 1 0 true) (λ κs a x s. controller_read_refusal x ≡ 0)
unfolding controller_ok chosen
takes_i_above_last_used κs a x s e w p = unequal (sym w ∙ p.1 ∙ ap (λ c. end_refusal (controller_ok c)) e) refl

pub takes_last_above_last_used : RulesOut read-controller-kinds.ps read-controller-kinds.r read-controller.Post (λ κs a. a.0 ≡ controller_with_fields 0 0 0 1 true) (λ κs a x s. controller_read_refusal x ≡ 0)
unfolding controller_ok chosen
takes_last_above_last_used κs a x s e w p = unequal (sym w ∙ p.1 ∙ ap (λ c. end_refusal (controller_ok c)) e) refl

pub leaves_i_in_ack : RulesOut controller-of-kinds.ps controller-of-kinds.r controller-of.Post (λ κs a. a.0 ≡ record { numbers = numbers_fresh 1; mode = controller-mode.Ack (record { 0 = 1 }); up = true }) (λ κs a x s. x.i ≡ x.last)
leaves_i_in_ack κs a x s e w p = unequal (ap (λ (i : I). i.0) (sym (ap (λ (c : Controller). c.i) (p ∙ ap controller_fields e)) ∙ w ∙ ap (λ (c : Controller). c.last) (p ∙ ap controller_fields e))) refl

pub swaps_j_and_i : RulesOut controller-of-kinds.ps controller-of-kinds.r controller-of.Post (λ κs a. a.0 ≡ record { numbers = numbers_fresh 2; mode = controller-mode.Accept (record { 0 = 1 }) (record { 0 = 2 }); up = true }) (λ κs a x s. x.j.0 ≡ 2)
swaps_j_and_i κs a x s e w p = unequal (sym w ∙ ap (λ (c : Controller). c.j.0) (p ∙ ap controller_fields e)) refl

pub fresh_controller_starts_down : RulesOut fresh-controller-kinds.ps fresh-controller-kinds.r fresh-controller.Post (λ κs a. a.0 ≡ record { 0 = 1 }) (λ κs a x s. x.up ≡ false)
fresh_controller_starts_down κs a x s e w p = false≢true (sym w ∙ ap (λ (c : Controller). c.up) (p ∙ ap fresh_controller e))

pub fresh_controller_counts_from_0 : RulesOut fresh-controller-kinds.ps fresh-controller-kinds.r fresh-controller.Post (λ κs a. a.0 ≡ record { 0 = 1 }) (λ κs a x s. x.numbers.used ≡ 0)
fresh_controller_counts_from_0 κs a x s e w p = unequal (sym w ∙ ap (λ (c : Controller). c.numbers.used) (p ∙ ap fresh_controller e)) refl

pub downed_controller_is_up : RulesOut downed-controller-kinds.ps downed-controller-kinds.r downed-controller.Post (λ κs a. a.0 ≡ numbers_fresh 1) (λ κs a x s. x.up ≡ true)
downed_controller_is_up κs a x s e w p = true≢false (sym w ∙ ap (λ (c : Controller). c.up) (p ∙ ap downed_controller e))

pub downed_controller_counts_from_0 : RulesOut downed-controller-kinds.ps downed-controller-kinds.r downed-controller.Post (λ κs a. a.0 ≡ numbers_fresh 1) (λ κs a x s. x.numbers.used ≡ 0)
downed_controller_counts_from_0 κs a x s e w p = unequal (sym w ∙ ap (λ (c : Controller). c.numbers.used) (p ∙ ap downed_controller e)) refl
