-- Programs that the promises of each act's own functions rule out, each at one input.
use mathlib.Core.Path.{◌≡◌, refl, sym, ap, ◌∙◌}
use mathlib.Core.Bool.{Bool, true, false, true≢false}
use Rattle.std.specs.Prelude.{None, Some}
use Rattle.ground.specs.First.{refusal}
use Rattle.ground.specs.Refusals.{refused_by, refusal_in}
use Rattle.ground.proofs.Promise.{RulesOut, unequal, clash}
use Rattle.rules.specs.Supply.{numbering, numbers_rules}
use Rattle.rules.specs.Ends as rules
use Rattle.numbers.specs.Numbers.{numbers_fresh}
use Rattle.ends_console.specs.AsRules as console
use Rattle.ends.specs.AsRules.{tested, for_console, for_controller_back}
use Rattle.ends.specs.declared.Report.TheVariants as report
use Rattle.ends.specs.declared.ToConsole.TheVariants as down
use Rattle.ends.specs.declared.ToController.TheVariants as up
use Rattle.ends_console.specs.Types as console-types
use Rattle.ends_console.specs.declared.Mode as console-mode
use Rattle.ends_console.specs.declared.Mode.TheVariants.{NeedI, Send}
use Rattle.ends_console.proofs.acts.puts.Kinds as puts-kinds
use Rattle.ends_console.proofs.acts.puts.Reads as puts
use Rattle.ends_console.proofs.turns.needi_sent.Kinds as needi-sent-kinds
use Rattle.ends_console.proofs.turns.needi_sent.Reads as needi-sent
use Rattle.ends_console.proofs.turns.data_sent.Kinds as data-sent-kinds
use Rattle.ends_console.proofs.turns.data_sent.Reads as data-sent
use Rattle.ends_console.proofs.acts.takes_what_came.Kinds as takes-what-came-kinds
use Rattle.ends_console.proofs.acts.takes_what_came.Reads as takes-what-came
use Rattle.ends_console.proofs.acts.goes_down.Kinds as goes-down-kinds
use Rattle.ends_console.proofs.acts.goes_down.Reads as goes-down
use Rattle.ends_console.proofs.acts.comes_back.Kinds as comes-back-kinds
use Rattle.ends_console.proofs.acts.comes_back.Reads as comes-back
use Rattle.ends_console.proofs.acts.put_refusal.Kinds as put-refusal-kinds
use Rattle.ends_console.proofs.acts.put_refusal.Reads as put-refusal

-- last used 3
abbrev console_in : console-mode.Mode → Bool → console-types.End
console_in mode up = record { numbers = numbers_fresh 3; mode = mode; up = up }

abbrev sending : console-mode.Mode
sending = Send (record { 0 = 3 })

abbrev needing : console-mode.Mode
needing = NeedI (record { 0 = 3 })

pub put_takes_no_number : RulesOut puts-kinds.ps puts-kinds.r puts.Post (λ κs a. a.0 ≡ console_in console-mode.Mode.Idle true) (λ κs a x s. x.after.numbers.used ≡ 3)
unfolding rules.ends numbers_rules
put_takes_no_number κs a x s e w p = unequal (sym w ∙ ap (λ (d : console-types.Acted). d.after.numbers.used) (p ∙ ap (λ (z : console-types.End). console.acted (rules.console_acts numbering (console.end z) (rules.put tt))) e)) refl

pub put_answers_ok : RulesOut puts-kinds.ps puts-kinds.r puts.Post (λ κs a. a.0 ≡ console_in console-mode.Mode.Idle true) (λ κs a x s. x.report ≡ report.Ok)
unfolding rules.ends numbers_rules
put_answers_ok κs a x s e w p = let q : report.Ok ≡ report.Nothing = sym w ∙ ap (λ (d : console-types.Acted). d.report) (p ∙ ap (λ (z : console-types.End). console.acted (rules.console_acts numbering (console.end z) (rules.put tt))) e) in clash cc

pub need_i_in_send : RulesOut needi-sent-kinds.ps needi-sent-kinds.r needi-sent.Post (λ κs a. a.0 ≡ sending) (λ κs a x s. x ≡ Some (up.NeedI (record { 0 = 3 })))
unfolding rules.ends numbers_rules
need_i_in_send κs a x s e w p = let q : Some (up.NeedI (record { 0 = 3 })) ≡ None = sym w ∙ p ∙ ap (λ (z : console-mode.Mode). for_controller_back (rules.need_i_sent (console.mode z))) e in clash cc

pub no_need_i : RulesOut needi-sent-kinds.ps needi-sent-kinds.r needi-sent.Post (λ κs a. a.0 ≡ needing) (λ κs a x s. x ≡ None)
unfolding rules.ends numbers_rules
no_need_i κs a x s e w p = let q : None ≡ Some (up.NeedI (record { 0 = 3 })) = sym w ∙ p ∙ ap (λ (z : console-mode.Mode). for_controller_back (rules.need_i_sent (console.mode z))) e in clash cc

pub data_in_need_i : RulesOut data-sent-kinds.ps data-sent-kinds.r data-sent.Post (λ κs a. a.0 ≡ needing) (λ κs a x s. x ≡ Some (up.Data (record { 0 = 3 })))
unfolding rules.ends numbers_rules
data_in_need_i κs a x s e w p = let q : Some (up.Data (record { 0 = 3 })) ≡ None = sym w ∙ p ∙ ap (λ (z : console-mode.Mode). for_controller_back (rules.data_sent (console.mode z))) e in clash cc

pub no_data : RulesOut data-sent-kinds.ps data-sent-kinds.r data-sent.Post (λ κs a. a.0 ≡ sending) (λ κs a x s. x ≡ None)
unfolding rules.ends numbers_rules
no_data κs a x s e w p = let q : None ≡ Some (up.Data (record { 0 = 3 })) = sym w ∙ p ∙ ap (λ (z : console-mode.Mode). for_controller_back (rules.data_sent (console.mode z))) e in clash cc

pub done_for_the_order_being_sent : RulesOut takes-what-came-kinds.ps takes-what-came-kinds.r takes-what-came.Post (λ κs a. (a.0 ≡ console_in sending true) × (a.1.0 ≡ Some (down.Offer (record { 0 = 1 }) (record { 0 = 3 })))) (λ κs a x s. x.sent ≡ Some (up.Done (record { 0 = 3 })))
unfolding rules.ends numbers_rules
done_for_the_order_being_sent κs a x s e w p = let q : Some (up.Done (record { 0 = 3 })) ≡ None = sym w ∙ ap (λ (d : console-types.Acted). d.sent) (p ∙ (λ i. console.acted (rules.console_acts numbering (console.end (e.0 i)) (rules.ConsoleAct.take (for_console (e.1 i)))))) in clash cc

pub ok_for_lost : RulesOut takes-what-came-kinds.ps takes-what-came-kinds.r takes-what-came.Post (λ κs a. (a.0 ≡ console_in sending true) × (a.1.0 ≡ Some (down.Lost (record { 0 = 3 })))) (λ κs a x s. x.report ≡ report.Ok)
unfolding rules.ends numbers_rules
ok_for_lost κs a x s e w p = let q : report.Ok ≡ report.Lost = sym w ∙ ap (λ (d : console-types.Acted). d.report) (p ∙ (λ i. console.acted (rules.console_acts numbering (console.end (e.0 i)) (rules.ConsoleAct.take (for_console (e.1 i)))))) in clash cc

pub going_down_clears : RulesOut goes-down-kinds.ps goes-down-kinds.r goes-down.Post (λ κs a. a.0 ≡ console_in sending true) (λ κs a x s. x.after.mode ≡ console-mode.Mode.Idle)
unfolding rules.ends numbers_rules
going_down_clears κs a x s e w p = let q : console-mode.Mode.Idle ≡ sending = sym w ∙ ap (λ (d : console-types.Acted). d.after.mode) (p ∙ ap (λ (z : console-types.End). console.acted (rules.console_acts numbering (console.end z) rules.ConsoleAct.go_down)) e) in clash cc

pub going_down_stays_up : RulesOut goes-down-kinds.ps goes-down-kinds.r goes-down.Post (λ κs a. a.0 ≡ console_in sending true) (λ κs a x s. x.after.up ≡ true)
unfolding rules.ends numbers_rules
going_down_stays_up κs a x s e w p = true≢false (sym w ∙ ap (λ (d : console-types.Acted). d.after.up) (p ∙ ap (λ (z : console-types.End). console.acted (rules.console_acts numbering (console.end z) rules.ConsoleAct.go_down)) e))

pub coming_back_holds : RulesOut comes-back-kinds.ps comes-back-kinds.r comes-back.Post (λ κs a. a.0 ≡ console_in sending false) (λ κs a x s. x.after.mode ≡ sending)
unfolding rules.ends numbers_rules
coming_back_holds κs a x s e w p = let q : sending ≡ console-mode.Mode.Idle = sym w ∙ ap (λ (d : console-types.Acted). d.after.mode) (p ∙ ap (λ (z : console-types.End). console.acted (rules.console_acts numbering (console.end z) rules.ConsoleAct.come_back)) e) in clash cc

pub coming_back_counts_from_0 : RulesOut comes-back-kinds.ps comes-back-kinds.r comes-back.Post (λ κs a. a.0 ≡ console_in sending false) (λ κs a x s. x.after.numbers.used ≡ 0)
unfolding rules.ends numbers_rules
coming_back_counts_from_0 κs a x s e w p = unequal (sym w ∙ ap (λ (d : console-types.Acted). d.after.numbers.used) (p ∙ ap (λ (z : console-types.End). console.acted (rules.console_acts numbering (console.end z) rules.ConsoleAct.come_back)) e)) refl

pub put_never_says_11 : RulesOut put-refusal-kinds.ps put-refusal-kinds.r put-refusal.Post (λ κs a. (a.0 ≡ console_in console-mode.Mode.Idle true) × (a.1.0 ≡ false)) (λ κs a x s. x ≡ refused_by 0)
unfolding rules.ends numbers_rules tested
put_never_says_11 κs a x s e w p = unequal (ap refusal_in (sym w ∙ (p ∙ (λ i. refused_by (refusal (rules.console_rules numbering (tested (e.1 i)) (console.end (e.0 i)) (rules.put tt))))))) refl

pub put_says_4_before_11 : RulesOut put-refusal-kinds.ps put-refusal-kinds.r put-refusal.Post (λ κs a. (a.0 ≡ console_in console-mode.Mode.Idle false) × (a.1.0 ≡ false)) (λ κs a x s. x ≡ refused_by 4)
unfolding rules.ends numbers_rules tested
put_says_4_before_11 κs a x s e w p = unequal (ap refusal_in (sym w ∙ (p ∙ (λ i. refused_by (refusal (rules.console_rules numbering (tested (e.1 i)) (console.end (e.0 i)) (rules.put tt))))))) refl
