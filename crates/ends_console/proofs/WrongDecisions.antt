-- Mistakes that are easy to make in what a console decides: the promise rules them out, each at one input.
use mathlib.Core.Path.{◌≡◌, refl, sym, ap, ◌∙◌}
use mathlib.Core.Bool.{Bool, true, false}
use contract.Lifetimes.{Lfts}
use borrow.Fn.Kinds.{Dens}
use Rattle.std.specs.Prelude.{None, Option, Some}
use Rattle.ground.proofs.Promise.{RulesOut, unequal, clash}
use Rattle.wire.specs.declared.J.{J}
use Rattle.rules.specs.Offered.{offered}
use Rattle.rules.specs.Ends as rules
use Rattle.letters.specs.declared.ConsoleAsk.{ConsoleAsk}
use Rattle.letters.specs.declared.ConsoleAsk.TheVariants as ask
use Rattle.ground.specs.declared.refusals.Refusal.TheVariants.{IsDown, NumbersSpent}
use Rattle.numbers.specs.declared.Move.TheVariants.{Stay, Take}
use Rattle.ends.specs.AsRules.{tested, number_in}
use Rattle.ends.specs.declared.ToConsole.{ToConsole}
use Rattle.ends.specs.declared.Report.TheVariants as report
use Rattle.ends.specs.declared.ToConsole.TheVariants as down
use Rattle.ends.specs.declared.ToController.TheVariants as up
use Rattle.ends_console.specs.AsRules.{on_offer, asked_to, decided}
use Rattle.ends_console.specs.declared.Mode.{Mode}
use Rattle.ends_console.specs.declared.Mode.TheVariants.{Idle, NeedI, Send}
use Rattle.ends_console.specs.Types.{Decided}
use Rattle.ends_console.proofs.decides.decides.Kinds as decides-kinds
use Rattle.ends_console.proofs.decides.decides.Reads as decides

abbrev decision : Mode → Bool → ConsoleAsk → Option ToConsole → Bool → Option J → Decided
decision m up k came good next = decided (rules.console_step offered (tested good) (on_offer m up next) (asked_to k came))

-- the offer names the order that is being sent
pub done_for_the_order_being_sent : RulesOut decides-kinds.ps decides-kinds.r decides.Post
    (λ κs a. (a.0 ≡ Send (record { 0 = 3 })) × (a.1.0 ≡ true) × (a.1.1.0 ≡ ask.Take) × (a.1.1.1.0 ≡ Some (down.Offer (record { 0 = 1 }) (record { 0 = 3 }))))
    (λ κs a x s. x.sent ≡ Some (up.Done (record { 0 = 3 })))
unfolding rules.ends
done_for_the_order_being_sent κs a x s e w p =
    let q : Some (up.Done (record { 0 = 3 })) ≡ None = sym w ∙ ap (λ (d : Decided). d.sent) (p ∙ (λ i. decision (e.0 i) (e.1 i) (e.2 i) (e.3 i) a.1.1.1.1.0 a.1.1.1.1.1.0)) in
    clash cc

-- ## P, with a number on offer, or none

abbrev PutTo : Mode → Bool → Bool → Option J → (κs : Lfts 0) → Dens κs decides-kinds.ps → Type 0
PutTo m up good next κs a =
    (a.0 ≡ m) × (a.1.0 ≡ up) × (a.1.1.0 ≡ ask.Put) × (a.1.1.1.1.0 ≡ good) × (a.1.1.1.1.1.0 ≡ next)

-- what came is not looked at
put_so : {m : Mode} {up good : Bool} {next : Option J} (κs : Lfts 0) (a : Dens κs decides-kinds.ps) → PutTo m up good next κs a
    → decision a.0 a.1.0 a.1.1.0 a.1.1.1.0 a.1.1.1.1.0 a.1.1.1.1.1.0 ≡ decision m up ask.Put a.1.1.1.0 good next
put_so κs a e = λ i. decision (e.0 i) (e.1 i) (e.2 i) a.1.1.1.0 (e.3 i) (e.4 i)

-- its success is no delivery
pub put_taken_as_delivery : RulesOut decides-kinds.ps decides-kinds.r decides.Post (PutTo Idle true true (Some (record { 0 = 1 }))) (λ κs a x s. x.report ≡ report.Ok)
unfolding rules.ends tested
put_taken_as_delivery κs a x s e w p =
    let q : report.Ok ≡ report.Nothing = sym w ∙ ap (λ (d : Decided). d.report) (p ∙ put_so κs a e) in clash cc

pub the_number_put_is_given_again : RulesOut decides-kinds.ps decides-kinds.r decides.Post (PutTo Idle true true (Some (record { 0 = 1 }))) (λ κs a x s. x.numbers ≡ Stay)
unfolding rules.ends tested
the_number_put_is_given_again κs a x s e w p =
    let q : Stay ≡ Take = sym w ∙ ap (λ (d : Decided). d.numbers) (p ∙ put_so κs a e) in clash cc

-- down, and the row has a cell outside 0x20 to 0x7E
pub says_4_before_11 : RulesOut decides-kinds.ps decides-kinds.r decides.Post (PutTo Idle false false (Some (record { 0 = 1 }))) (λ κs a x s. x.report ≡ report.Refused IsDown)
unfolding rules.ends tested
says_4_before_11 κs a x s e w p = unequal (ap number_in (sym w ∙ ap (λ (d : Decided). d.report) (p ∙ put_so κs a e))) refl

pub never_says_11 : RulesOut decides-kinds.ps decides-kinds.r decides.Post (PutTo Idle true false (Some (record { 0 = 1 }))) (λ κs a x s. x.report ≡ report.Nothing)
unfolding rules.ends tested
never_says_11 κs a x s e w p = unequal (ap number_in (sym w ∙ ap (λ (d : Decided). d.report) (p ∙ put_so κs a e))) refl

pub says_8_with_a_message_held : RulesOut decides-kinds.ps decides-kinds.r decides.Post (PutTo (NeedI (record { 0 = 1 })) true true None) (λ κs a x s. x.report ≡ report.Refused NumbersSpent)
unfolding rules.ends tested
says_8_with_a_message_held κs a x s e w p = unequal (ap number_in (sym w ∙ ap (λ (d : Decided). d.report) (p ∙ put_so κs a e))) refl
