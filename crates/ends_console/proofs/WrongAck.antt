-- Programs that the promises of what is done with the ack rule out, each at one input.
use mathlib.Core.Path.{◌≡◌, refl, sym, ap, ◌∙◌}
use mathlib.Core.Bool.{true, false, true≢false}
use mathlib.Core.List.{[], ◌∷◌}
use Rattle.ground.specs.First.{first}
use Rattle.ground.specs.Refusals.{refused_by, refusal_in}
use Rattle.ground.proofs.Promise.{RulesOut, unequal, clash}
use Rattle.rules.specs.Ends as rules
use Rattle.rules.specs.Reading.{said, ack_after}
use Rattle.letters.specs.declared.ConsoleAsk.TheVariants as ask
use Rattle.ends.specs.declared.Report.TheVariants as report
use Rattle.ends_console.specs.Ack.{ack_use, use_means, acked}
use Rattle.ends_console.specs.AsRules.{mode}
use Rattle.ends_console.specs.declared.Mode.TheVariants.{NeedI, Send}
use Rattle.ends_console.specs.declared.ack.AckUse.TheVariants.{Leaves, Clears, Tells}
use Rattle.ends_console.specs.declared.ack.Shown.{Shown}
use Rattle.ends_console.proofs.ack.ack_use.Kinds as ack-use-kinds
use Rattle.ends_console.proofs.ack.ack_use.Reads as ack-use
use Rattle.ends_console.proofs.ack.shows.Kinds as shows-kinds
use Rattle.ends_console.proofs.ack.shows.Reads as shows
use Rattle.ends_console.proofs.refusals.ack_refusal.Kinds as ack-refusal-kinds
use Rattle.ends_console.proofs.refusals.ack_refusal.Reads as ack-refusal

-- V would keep it through a restart
pub coming_back_leaves_the_ack : RulesOut ack-use-kinds.ps ack-use-kinds.r ack-use.Post (λ κs a. a.0 ≡ ask.ComeBack) (λ κs a x s. x ≡ Leaves)
coming_back_leaves_the_ack κs a x s e w p = let q : Leaves ≡ Clears = sym w ∙ p ∙ ap ack_use e in clash cc

-- A would tell nothing
pub a_tells_nothing : RulesOut ack-use-kinds.ps ack-use-kinds.r ack-use.Post (λ κs a. a.0 ≡ ask.TellAck) (λ κs a x s. x ≡ Leaves)
a_tells_nothing κs a x s e w p = let q : Leaves ≡ Tells = sym w ∙ p ∙ ap ack_use e in clash cc

-- an OK that arrives would be told at once
pub shows_what_arrives : RulesOut shows-kinds.ps shows-kinds.r shows.Post (λ κs a. a.1.1.0 ≡ report.Ok) (λ κs a x s. x.report ≡ report.Ok)
unfolding acked said
shows_what_arrives κs a x s e w p = let q : report.Ok ≡ report.Nothing = sym w ∙ ap (λ (d : Shown). d.report) (p ∙ ap (acked (use_means a.0) a.1.0) e) in clash cc

-- it would not be stored
pub stores_no_ok : RulesOut shows-kinds.ps shows-kinds.r shows.Post (λ κs a. a.1.1.0 ≡ report.Ok) (λ κs a x s. x.ack ≡ false)
unfolding acked ack_after
stores_no_ok κs a x s e w p = true≢false (sym (ap (λ (d : Shown). d.ack) (p ∙ ap (acked (use_means a.0) a.1.0) e)) ∙ w)

-- what was told would be told again
pub tells_it_again : RulesOut shows-kinds.ps shows-kinds.r shows.Post (λ κs a. (a.0 ≡ Tells) × (a.1.1.0 ≡ report.Nothing)) (λ κs a x s. x.ack ≡ true)
unfolding acked ack_after
tells_it_again κs a x s e w p = true≢false (sym w ∙ ap (λ (d : Shown). d.ack) (p ∙ (λ i. acked (use_means (e.0 i)) a.1.0 (e.1 i))))

-- down, with a message held
pub ack_says_6_before_4 : RulesOut ack-refusal-kinds.ps ack-refusal-kinds.r ack-refusal.Post (λ κs a. (a.0 ≡ NeedI (record { 0 = 3 })) × (a.1.0 ≡ false)) (λ κs a x s. x ≡ refused_by 6)
unfolding rules.ends
ack_says_6_before_4 κs a x s e w p = unequal (ap refusal_in (sym w ∙ (p ∙ (λ i. refused_by (first (rules.down_4 (e.1 i) ∷ (6, rules.holding (mode (e.0 i))) ∷ [])))))) refl

pub ack_told_while_one_is_held : RulesOut ack-refusal-kinds.ps ack-refusal-kinds.r ack-refusal.Post (λ κs a. (a.0 ≡ Send (record { 0 = 3 })) × (a.1.0 ≡ true)) (λ κs a x s. x ≡ refused_by 0)
unfolding rules.ends
ack_told_while_one_is_held κs a x s e w p = unequal (ap refusal_in (sym w ∙ (p ∙ (λ i. refused_by (first (rules.down_4 (e.1 i) ∷ (6, rules.holding (mode (e.0 i))) ∷ [])))))) refl
