-- Mistakes that are easy to make in what a controller decides: the promise rules them out, each at one input.
use mathlib.Core.Path.{◌≡◌, sym, ap, ◌∙◌}
use mathlib.Core.Bool.{Bool, true, false}
use Rattle.std.specs.Prelude.{None, Option, Some}
use Rattle.ground.proofs.Promise.{RulesOut, clash}
use Rattle.wire.specs.declared.I.{I}
use Rattle.rules.specs.Offered.{offered}
use Rattle.rules.specs.Ends as rules
use Rattle.letters.specs.declared.ControllerAsk.{ControllerAsk}
use Rattle.letters.specs.declared.ControllerAsk.TheVariants as ask
use Rattle.numbers.specs.declared.Move.TheVariants.{Stay, Take, Back}
use Rattle.ends.specs.declared.ToController.{ToController}
use Rattle.ends.specs.declared.ToConsole.TheVariants as down
use Rattle.ends.specs.declared.ToController.TheVariants as up
use Rattle.ends_controller.specs.AsRules.{on_offer, asked_to, decided}
use Rattle.ends_controller.specs.declared.Mode.{Mode}
use Rattle.ends_controller.specs.declared.Mode.TheVariants.{Idle, Accept, Ack}
use Rattle.ends_controller.specs.Types.{Decided}
use Rattle.ends_controller.proofs.decides.decides.Kinds as decides-kinds
use Rattle.ends_controller.proofs.decides.decides.Reads as decides

abbrev decision : Mode → Bool → ControllerAsk → Option ToController → Option I → Decided
decision m up k came next = decided (rules.controller_step offered (on_offer m up next) (asked_to k came))

-- data of the order just delivered
pub lost_to_a_repeat : RulesOut decides-kinds.ps decides-kinds.r decides.Post
    (λ κs a. (a.0 ≡ Ack (record { 0 = 3 })) × (a.1.0 ≡ true) × (a.1.1.0 ≡ ask.Take) × (a.1.1.1.0 ≡ Some (up.Data (record { 0 = 3 }))))
    (λ κs a x s. x.sent ≡ Some (down.Lost (record { 0 = 3 })))
unfolding rules.ends
lost_to_a_repeat κs a x s e w p =
    let q : Some (down.Lost (record { 0 = 3 })) ≡ None = sym w ∙ ap (λ (d : Decided). d.sent) (p ∙ (λ i. decision (e.0 i) (e.1 i) (e.2 i) (e.3 i) a.1.1.1.1.0)) in
    clash cc

-- two orders would get one number
pub the_number_offered_is_given_again : RulesOut decides-kinds.ps decides-kinds.r decides.Post
    (λ κs a. (a.0 ≡ Idle) × (a.1.0 ≡ true) × (a.1.1.0 ≡ ask.Take) × (a.1.1.1.0 ≡ Some (up.NeedI (record { 0 = 1 }))) × (a.1.1.1.1.0 ≡ Some (record { 0 = 3 })))
    (λ κs a x s. x.numbers ≡ Stay)
unfolding rules.ends
the_number_offered_is_given_again κs a x s e w p =
    let q : Stay ≡ Take = sym w ∙ ap (λ (d : Decided). d.numbers) (p ∙ (λ i. decision (e.0 i) (e.1 i) (e.2 i) (e.3 i) (e.4 i))) in
    clash cc

pub i_kept_through_y : RulesOut decides-kinds.ps decides-kinds.r decides.Post
    (λ κs a. (a.0 ≡ Accept (record { 0 = 1 }) (record { 0 = 3 })) × (a.1.0 ≡ false) × (a.1.1.0 ≡ ask.ComeBack)) (λ κs a x s. x.mode ≡ a.0)
unfolding rules.ends
i_kept_through_y κs a x s e w p =
    let q : Accept (record { 0 = 1 }) (record { 0 = 3 }) ≡ Idle = sym e.0 ∙ sym w ∙ ap (λ (d : Decided). d.mode) (p ∙ (λ i. decision (e.0 i) (e.1 i) (e.2 i) a.1.1.1.0 a.1.1.1.1.0)) in
    clash cc

-- the numbers are not told that it came back
pub numbers_left_by_y : RulesOut decides-kinds.ps decides-kinds.r decides.Post
    (λ κs a. (a.0 ≡ Accept (record { 0 = 1 }) (record { 0 = 3 })) × (a.1.0 ≡ false) × (a.1.1.0 ≡ ask.ComeBack)) (λ κs a x s. x.numbers ≡ Stay)
unfolding rules.ends
numbers_left_by_y κs a x s e w p =
    let q : Stay ≡ Back = sym w ∙ ap (λ (d : Decided). d.numbers) (p ∙ (λ i. decision (e.0 i) (e.1 i) (e.2 i) a.1.1.1.0 a.1.1.1.1.0)) in
    clash cc
