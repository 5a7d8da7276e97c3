-- Programs that the promises of a console's fields rule out, each at one input.
use Prim.Native.Nat.{ℕ}
use mathlib.Core.Path.{◌≡◌, refl, sym, ap, ◌∙◌}
use mathlib.Core.Bool.{Bool, true, false, true≢false, false≢true}
use mathlib.Core.List.{List}
use lib.ListN.{get_or, replicate}
use Rattle.ground.specs.Cell.{cells, is_message, spaces}
use Rattle.ground.specs.Choice.{chosen}
use Rattle.ground.specs.Every.{filled}
use Rattle.ground.proofs.Promise.{RulesOut, unequal}
use Rattle.numbers.specs.Numbers.{numbers_fresh}
use Rattle.ends.specs.AsRules.{end_refusal}
use Rattle.ends_console.specs.Fields.{console_ok, console_read_refusal, console_fields, fresh_console, downed_console}
use Rattle.ends_console.specs.declared.Mode.TheVariants as console-mode
use Rattle.ends_console.specs.Types as console
use Rattle.ends_console.specs.declared.fields.Console.{Console}
use Rattle.ends_console.proofs.fields.read_console.Kinds as read-console-kinds
use Rattle.ends_console.proofs.fields.read_console.Reads as read-console
use Rattle.ends_console.proofs.fields.console_of.Kinds as console-of-kinds
use Rattle.ends_console.proofs.fields.console_of.Reads as console-of
use Rattle.ends_console.proofs.fields.fresh_console.Kinds as fresh-console-kinds
use Rattle.ends_console.proofs.fields.fresh_console.Reads as fresh-console
use Rattle.ends_console.proofs.fields.downed_console.Kinds as downed-console-kinds
use Rattle.ends_console.proofs.fields.downed_console.Reads as downed-console

-- a row of 16 letters A
abbrev row : List ℕ
row = replicate 16 0x41

abbrev console_with_fields : ℕ → Bool → List ℕ → ℕ → ℕ → Bool → Console
console_with_fields used held m j last up =
    record { numbers = numbers_fresh used; held = held; message = m; j = record { 0 = j }; last = record { 0 = last }; up = up; ack = false }

abbrev idle_console : ℕ → console.End
idle_console used = record { numbers = numbers_fresh used; mode = console-mode.Idle; up = true }

pub takes_j_and_last : RulesOut read-console-kinds.ps read-console-kinds.r read-console.Post (λ κs a. a.0 ≡ console_with_fields 1 true spaces 1 1 true) (λ κs a x s. console_read_refusal x ≡ 0)
unfolding console_ok is_message cells filled chosen
takes_j_and_last κs a x s e w p = unequal (sym w ∙ p.1 ∙ ap (λ c. end_refusal (console_ok c)) e) refl

pub takes_j_above_last_used : RulesOut read-console-kinds.ps read-console-kinds.r read-console.Post (λ κs a. a.0 ≡ console_with_fields 0 true spaces 1 0 true) (λ κs a x s. console_read_refusal x ≡ 0)
unfolding console_ok is_message cells filled chosen
takes_j_above_last_used κs a x s e w p = unequal (sym w ∙ p.1 ∙ ap (λ c. end_refusal (console_ok c)) e) refl

pub takes_a_row_that_is_not_held : RulesOut read-console-kinds.ps read-console-kinds.r read-console.Post (λ κs a. a.0 ≡ console_with_fields 0 false row 0 0 true) (λ κs a x s. console_read_refusal x ≡ 0)
unfolding console_ok is_message cells filled chosen
takes_a_row_that_is_not_held κs a x s e w p = unequal (sym w ∙ p.1 ∙ ap (λ c. end_refusal (console_ok c)) e) refl

pub takes_a_held_0x7_f : RulesOut read-console-kinds.ps read-console-kinds.r read-console.Post (λ κs a. a.0 ≡ console_with_fields 1 true (replicate 16 0x7F) 1 0 true) (λ κs a x s. console_read_refusal x ≡ 0)
unfolding console_ok is_message cells filled chosen
takes_a_held_0x7_f κs a x s e w p = unequal (sym w ∙ p.1 ∙ ap (λ c. end_refusal (console_ok c)) e) refl

pub keeps_the_message_when_idle : RulesOut console-of-kinds.ps console-of-kinds.r console-of.Post (λ κs a. (a.0 ≡ idle_console 1) × (a.1.1.0 ≡ row)) (λ κs a x s. x.message ≡ a.1.1.0)
keeps_the_message_when_idle κs a x s e w p = unequal (ap (λ (m : List ℕ). get_or m 0 0) (sym e.1 ∙ sym w ∙ ap (λ (c : Console). c.message) (p ∙ (λ i. console_fields (e.0 i) a.1.0 (e.1 i))))) refl

pub leaves_j_in_send : RulesOut console-of-kinds.ps console-of-kinds.r console-of.Post (λ κs a. (a.0 ≡ record { numbers = numbers_fresh 1; mode = console-mode.Send (record { 0 = 5 }); up = true }) × (a.1.1.0 ≡ row)) (λ κs a x s. x.j.0 ≡ 1)
leaves_j_in_send κs a x s e w p = unequal (sym w ∙ ap (λ (c : Console). c.j.0) (p ∙ (λ i. console_fields (e.0 i) a.1.0 (e.1 i)))) refl

pub fresh_console_starts_down : RulesOut fresh-console-kinds.ps fresh-console-kinds.r fresh-console.Post (λ κs a. a.0 ≡ record { 0 = 1 }) (λ κs a x s. x.up ≡ false)
fresh_console_starts_down κs a x s e w p = false≢true (sym w ∙ ap (λ (c : Console). c.up) (p ∙ ap fresh_console e))

pub fresh_console_counts_from_0 : RulesOut fresh-console-kinds.ps fresh-console-kinds.r fresh-console.Post (λ κs a. a.0 ≡ record { 0 = 1 }) (λ κs a x s. x.numbers.used ≡ 0)
fresh_console_counts_from_0 κs a x s e w p = unequal (sym w ∙ ap (λ (c : Console). c.numbers.used) (p ∙ ap fresh_console e)) refl

pub downed_console_is_up : RulesOut downed-console-kinds.ps downed-console-kinds.r downed-console.Post (λ κs a. a.0 ≡ numbers_fresh 1) (λ κs a x s. x.up ≡ true)
downed_console_is_up κs a x s e w p = true≢false (sym w ∙ ap (λ (c : Console). c.up) (p ∙ ap downed_console e))

pub downed_console_counts_from_0 : RulesOut downed-console-kinds.ps downed-console-kinds.r downed-console.Post (λ κs a. a.0 ≡ numbers_fresh 1) (λ κs a x s. x.numbers.used ≡ 0)
downed_console_counts_from_0 κs a x s e w p = unequal (sym w ∙ ap (λ (c : Console). c.numbers.used) (p ∙ ap downed_console e)) refl
