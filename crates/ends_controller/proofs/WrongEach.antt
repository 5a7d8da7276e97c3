-- Programs that the promises of each act's own functions rule out, each at one input.
use mathlib.Core.Path.{◌≡◌, refl, sym, ap, ◌∙◌}
use mathlib.Core.Bool.{Bool, true, false, true≢false, false≢true}
use Rattle.std.specs.Prelude.{None, Some}
use Rattle.ground.specs.Refusals.{refused_by, refusal_in}
use Rattle.ground.specs.First.{refusal}
use Rattle.ground.proofs.Promise.{RulesOut, unequal, clash}
use Rattle.rules.specs.Supply.{numbering, numbers_rules}
use Rattle.rules.specs.Ends as rules
use Rattle.numbers.specs.Numbers.{numbers_means, numbers_fresh}
use Rattle.ends_controller.specs.AsRules as controller
use Rattle.ends.specs.AsRules.{for_controller, for_console_back}
use Rattle.ends.specs.declared.Report.TheVariants as report
use Rattle.ends.specs.declared.ToConsole.TheVariants as down
use Rattle.ends.specs.declared.ToController.TheVariants as up
use Rattle.ends_controller.specs.Types as controller-types
use Rattle.ends_controller.specs.declared.Mode as controller-mode
use Rattle.ends_controller.specs.declared.Mode.TheVariants.{Accept, Ack}
use Rattle.ends_controller.proofs.turns.offer_sent.Kinds as offer-sent-kinds
use Rattle.ends_controller.proofs.turns.offer_sent.Reads as offer-sent
use Rattle.ends_controller.proofs.turns.ok_sent.Kinds as ok-sent-kinds
use Rattle.ends_controller.proofs.turns.ok_sent.Reads as ok-sent
use Rattle.ends_controller.proofs.acts.takes_what_came.Kinds as takes-what-came-kinds
use Rattle.ends_controller.proofs.acts.takes_what_came.Reads as takes-what-came
use Rattle.ends_controller.proofs.acts.goes_down.Kinds as goes-down-kinds
use Rattle.ends_controller.proofs.acts.goes_down.Reads as goes-down
use Rattle.ends_controller.proofs.acts.comes_back.Kinds as comes-back-kinds
use Rattle.ends_controller.proofs.acts.comes_back.Reads as comes-back
use Rattle.ends_controller.proofs.acts.is_unknown.Kinds as is-unknown-kinds
use Rattle.ends_controller.proofs.acts.is_unknown.Reads as is-unknown
use Rattle.ends_controller.proofs.acts.take_refusal.Kinds as take-refusal-kinds
use Rattle.ends_controller.proofs.acts.take_refusal.Reads as take-refusal

-- last used 3
abbrev controller_in : controller-mode.Mode → Bool → controller-types.End
controller_in mode up = record { numbers = numbers_fresh 3; mode = mode; up = up }

abbrev accepting : controller-mode.Mode
accepting = Accept (record { 0 = 1 }) (record { 0 = 3 })

abbrev acking : controller-mode.Mode
acking = Ack (record { 0 = 3 })

pub offer_in_ack : RulesOut offer-sent-kinds.ps offer-sent-kinds.r offer-sent.Post (λ κs a. a.0 ≡ acking) (λ κs a x s. x ≡ Some (down.Offer (record { 0 = 1 }) (record { 0 = 3 })))
unfolding rules.ends numbers_rules
offer_in_ack κs a x s e w p = let q : Some (down.Offer (record { 0 = 1 }) (record { 0 = 3 })) ≡ None = sym w ∙ p ∙ ap (λ (z : controller-mode.Mode). for_console_back (rules.offer_sent (controller.mode z))) e in clash cc

pub no_offer : RulesOut offer-sent-kinds.ps offer-sent-kinds.r offer-sent.Post (λ κs a. a.0 ≡ accepting) (λ κs a x s. x ≡ None)
unfolding rules.ends numbers_rules
no_offer κs a x s e w p = let q : None ≡ Some (down.Offer (record { 0 = 1 }) (record { 0 = 3 })) = sym w ∙ p ∙ ap (λ (z : controller-mode.Mode). for_console_back (rules.offer_sent (controller.mode z))) e in clash cc

pub ok_in_accept : RulesOut ok-sent-kinds.ps ok-sent-kinds.r ok-sent.Post (λ κs a. a.0 ≡ accepting) (λ κs a x s. x ≡ Some (down.Ok (record { 0 = 3 })))
unfolding rules.ends numbers_rules
ok_in_accept κs a x s e w p = let q : Some (down.Ok (record { 0 = 3 })) ≡ None = sym w ∙ p ∙ ap (λ (z : controller-mode.Mode). for_console_back (rules.ok_sent (controller.mode z))) e in clash cc

pub no_ok : RulesOut ok-sent-kinds.ps ok-sent-kinds.r ok-sent.Post (λ κs a. a.0 ≡ acking) (λ κs a x s. x ≡ None)
unfolding rules.ends numbers_rules
no_ok κs a x s e w p = let q : None ≡ Some (down.Ok (record { 0 = 3 })) = sym w ∙ p ∙ ap (λ (z : controller-mode.Mode). for_console_back (rules.ok_sent (controller.mode z))) e in clash cc

pub lost_to_a_repeat : RulesOut takes-what-came-kinds.ps takes-what-came-kinds.r takes-what-came.Post (λ κs a. (a.0 ≡ controller_in acking true) × (a.1.0 ≡ Some (up.Data (record { 0 = 3 })))) (λ κs a x s. x.sent ≡ Some (down.Lost (record { 0 = 3 })))
unfolding rules.ends numbers_rules
lost_to_a_repeat κs a x s e w p = let q : Some (down.Lost (record { 0 = 3 })) ≡ None = sym w ∙ ap (λ (d : controller-types.Acted). d.sent) (p ∙ (λ i. controller.acted (rules.controller_acts numbering (controller.end (e.0 i)) (rules.ControllerAct.take (for_controller (e.1 i)))))) in clash cc

pub delivers_twice : RulesOut takes-what-came-kinds.ps takes-what-came-kinds.r takes-what-came.Post (λ κs a. (a.0 ≡ controller_in acking true) × (a.1.0 ≡ Some (up.Data (record { 0 = 3 })))) (λ κs a x s. x.report ≡ report.Delivered)
unfolding rules.ends numbers_rules
delivers_twice κs a x s e w p = let q : report.Delivered ≡ report.Nothing = sym w ∙ ap (λ (d : controller-types.Acted). d.report) (p ∙ (λ i. controller.acted (rules.controller_acts numbering (controller.end (e.0 i)) (rules.ControllerAct.take (for_controller (e.1 i)))))) in clash cc

pub going_down_clears : RulesOut goes-down-kinds.ps goes-down-kinds.r goes-down.Post (λ κs a. a.0 ≡ controller_in acking true) (λ κs a x s. x.after.mode ≡ controller-mode.Mode.Idle)
unfolding rules.ends numbers_rules
going_down_clears κs a x s e w p = let q : controller-mode.Mode.Idle ≡ acking = sym w ∙ ap (λ (d : controller-types.Acted). d.after.mode) (p ∙ ap (λ (z : controller-types.End). controller.acted (rules.controller_acts numbering (controller.end z) rules.ControllerAct.go_down)) e) in clash cc

pub going_down_stays_up : RulesOut goes-down-kinds.ps goes-down-kinds.r goes-down.Post (λ κs a. a.0 ≡ controller_in acking true) (λ κs a x s. x.after.up ≡ true)
unfolding rules.ends numbers_rules
going_down_stays_up κs a x s e w p = true≢false (sym w ∙ ap (λ (d : controller-types.Acted). d.after.up) (p ∙ ap (λ (z : controller-types.End). controller.acted (rules.controller_acts numbering (controller.end z) rules.ControllerAct.go_down)) e))

pub i_kept_through_y : RulesOut comes-back-kinds.ps comes-back-kinds.r comes-back.Post (λ κs a. a.0 ≡ controller_in accepting false) (λ κs a x s. x.after.mode ≡ accepting)
unfolding rules.ends numbers_rules
i_kept_through_y κs a x s e w p = let q : accepting ≡ controller-mode.Mode.Idle = sym w ∙ ap (λ (d : controller-types.Acted). d.after.mode) (p ∙ ap (λ (z : controller-types.End). controller.acted (rules.controller_acts numbering (controller.end z) rules.ControllerAct.come_back)) e) in clash cc

pub counter_starts_again : RulesOut comes-back-kinds.ps comes-back-kinds.r comes-back.Post (λ κs a. a.0 ≡ controller_in accepting false) (λ κs a x s. x.after.numbers.used ≡ 0)
unfolding rules.ends numbers_rules
counter_starts_again κs a x s e w p = unequal (sym w ∙ ap (λ (d : controller-types.Acted). d.after.numbers.used) (p ∙ ap (λ (z : controller-types.End). controller.acted (rules.controller_acts numbering (controller.end z) rules.ControllerAct.come_back)) e)) refl

-- a controller that forgot its numbers would carry out data of the time before
pub every_number_is_known : RulesOut is-unknown-kinds.ps is-unknown-kinds.r is-unknown.Post (λ κs a. (a.0 ≡ numbers_fresh 3) × (a.1.0 ≡ Some (up.Data (record { 0 = 5 })))) (λ κs a x s. x ≡ false)
unfolding rules.ends
every_number_is_known κs a x s e w p = false≢true (sym w ∙ p ∙ (λ i. rules.unknown (numbering.used (numbers_means (e.0 i))) (for_controller (e.1 i))))

-- the J of needI is the console's: no number of its own is looked up
pub need_i_is_looked_up : RulesOut is-unknown-kinds.ps is-unknown-kinds.r is-unknown.Post (λ κs a. (a.0 ≡ numbers_fresh 3) × (a.1.0 ≡ Some (up.NeedI (record { 0 = 5 })))) (λ κs a x s. x ≡ true)
unfolding rules.ends
need_i_is_looked_up κs a x s e w p = true≢false (sym w ∙ p ∙ (λ i. rules.unknown (numbering.used (numbers_means (e.0 i))) (for_controller (e.1 i))))

pub never_says_7 : RulesOut take-refusal-kinds.ps take-refusal-kinds.r take-refusal.Post (λ κs a. (a.0 ≡ controller_in acking true) × (a.1.0 ≡ Some (up.Data (record { 0 = 5 })))) (λ κs a x s. x ≡ refused_by 0)
unfolding rules.ends numbers_rules
never_says_7 κs a x s e w p = unequal (ap refusal_in (sym w ∙ (p ∙ (λ i. refused_by (refusal (rules.controller_rules numbering (controller.end (e.0 i)) (rules.ControllerAct.take (for_controller (e.1 i))))))))) refl

pub says_7_before_4 : RulesOut take-refusal-kinds.ps take-refusal-kinds.r take-refusal.Post (λ κs a. (a.0 ≡ controller_in acking false) × (a.1.0 ≡ Some (up.Data (record { 0 = 5 })))) (λ κs a x s. x ≡ refused_by 7)
unfolding rules.ends numbers_rules
says_7_before_4 κs a x s e w p = unequal (ap refusal_in (sym w ∙ (p ∙ (λ i. refused_by (refusal (rules.controller_rules numbering (controller.end (e.0 i)) (rules.ControllerAct.take (for_controller (e.1 i))))))))) refl
