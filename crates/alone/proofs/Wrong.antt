-- Ends that the promises shut out, each at one input: one that always refuses, one that always says OK, one that changes nothing; and
-- refusals out of their order.
use Prim.Native.Nat.{ℕ}
use mathlib.Core.Path.{◌≡◌, refl, sym, ap, ◌∙◌}
use mathlib.Core.Bool.{true, false, false≢true}
use mathlib.Core.List.{List}
use native.Mathlib.Omega.{arith}
use contract.Lifetimes.{Lfts}
use borrow.Fn.Kinds.{Dens, ended_of}
use denote.Triple.Clauses.{AtExit}
use Rattle.ground.specs.Cell.{spaces}
use Rattle.ground.specs.declared.refusals.Refusal.{Refusal}
use Rattle.ground.specs.declared.refusals.Refusal.TheVariants.{IllFormed, WrongMark}
use Rattle.ground.proofs.Promise.{RulesOut, unequal}
use Rattle.wire.specs.declared.Head.TheVariants.{Data, Lost, Done}
use Rattle.numbers.specs.Numbers.{numbers_fresh}
use Rattle.ends_console.specs.Fields.{fresh_console, console_with}
use Rattle.ends_controller.specs.Fields.{fresh_controller, downed_controller}
use Rattle.ends.specs.Packets.{zeros}
use Rattle.ends.specs.AsRules.{number_in}
use Rattle.ends_console.specs.declared.Mode.TheVariants.{NeedI}
use Rattle.ends.specs.declared.Report.TheVariants as report
use Rattle.ends_console.specs.declared.fields.Console.{Console}
use Rattle.ends_controller.specs.declared.fields.Controller.{Controller}
use Rattle.alone.specs.declared.console.ConsoleOutcome.{ConsoleOutcome}
use Rattle.alone.specs.declared.controller.ControllerOutcome.{ControllerOutcome}
use Rattle.alone.specs.ConsoleAlone.{ConsoleAlone, console_alone}
use Rattle.alone.specs.ControllerAlone.{ControllerAlone, controller_alone}
use Rattle.alone.proofs.Vectors.{opened, packet, room, short, accepting, ill_formed, sending}
use Rattle.alone.proofs.console.step.Kinds as console-step-kinds
use Rattle.alone.proofs.console.step.Reads as console-step
use Rattle.alone.proofs.controller.step.Kinds as controller-step-kinds
use Rattle.alone.proofs.controller.step.Reads as controller-step

no_refusal : (q : Refusal) → report.Nothing ≡ report.Refused q → ⊥
no_refusal q e = let z : ◌≡◌ {A = ℕ} 0 1 = cc in omega (arith, z)

no_ok : report.Nothing ≡ report.Ok → ⊥
no_ok e = let z : ◌≡◌ {A = ℕ} 0 1 = cc in omega (arith, z)

-- ## A console: P of 16 spaces, fresh

abbrev putting : ConsoleOutcome
putting = record { report = report.Nothing; sent = false; console = console_with (record { used = 1; reserved = 64; block = 64 }) (NeedI (record { 0 = 1 })) true false spaces }

put_told : (packet reply : List ℕ) → console_alone (fresh_console (record { 0 = 0 })) 0x50 spaces packet reply ≡ record { outcome = putting; reply = reply }
unfolding opened
put_told packet reply = refl

module _ (κs : Lfts 3) (a : Dens κs console-step-kinds.ps) (x : ConsoleOutcome) (s : AtExit (ended_of 3 console-step-kinds.ps console-step-kinds.r) κs) (fresh : a.0 ≡ fresh_console (record { 0 = 0 })) (puts : a.1.0 ≡ 0x50) (message : a.1.1.0.now ≡ spaces) (meets : console-step.Post κs a x s) where
  put_so : x ≡ putting
  put_so =
      ap (λ (r : ConsoleAlone). r.outcome)
      (meets ∙ (λ i. console_alone (fresh i) (puts i) (message i) a.1.1.1.0.now a.1.1.1.1.0.now) ∙ put_told a.1.1.1.0.now a.1.1.1.1.0.now)

  pub console_always_refuses : (q : Refusal) → x.report ≡ report.Refused q → ⊥
  console_always_refuses q e = no_refusal q (sym (ap (λ (o : ConsoleOutcome). o.report) put_so) ∙ e)

  -- the put's success is no delivery
  pub console_always_ok : x.report ≡ report.Ok → ⊥
  console_always_ok e = no_ok (sym (ap (λ (o : ConsoleOutcome). o.report) put_so) ∙ e)

  pub console_changes_nothing : x.console ≡ a.0 → ⊥
  console_changes_nothing e = false≢true (sym (ap (λ (c : Console). c.held) (sym (ap (λ (o : ConsoleOutcome). o.console) put_so) ∙ e ∙ fresh)))

-- ## A controller: X, fresh

abbrev down : ControllerOutcome
down = record { report = report.Nothing; message = spaces; sent = false; controller = downed_controller (numbers_fresh 0) }

down_told : (packet reply : List ℕ) → controller_alone (fresh_controller (record { 0 = 0 })) 0x58 packet reply ≡ record { outcome = down; reply = reply }
unfolding opened
down_told packet reply = refl

module _ (κs : Lfts 2) (a : Dens κs controller-step-kinds.ps) (x : ControllerOutcome) (s : AtExit (ended_of 2 controller-step-kinds.ps controller-step-kinds.r) κs) (fresh : a.0 ≡ fresh_controller (record { 0 = 0 })) (falls : a.1.0 ≡ 0x58) (meets : controller-step.Post κs a x s) where
  down_so : x ≡ down
  down_so =
      ap (λ (r : ControllerAlone). r.outcome)
      (meets ∙ (λ i. controller_alone (fresh i) (falls i) a.1.1.0.now a.1.1.1.0.now) ∙ down_told a.1.1.0.now a.1.1.1.0.now)

  pub controller_always_refuses : (q : Refusal) → x.report ≡ report.Refused q → ⊥
  controller_always_refuses q e = no_refusal q (sym (ap (λ (o : ControllerOutcome). o.report) down_so) ∙ e)

  pub controller_always_ok : x.report ≡ report.Ok → ⊥
  controller_always_ok e = no_ok (sym (ap (λ (o : ControllerOutcome). o.report) down_so) ∙ e)

  pub controller_changes_nothing : x.controller ≡ a.0 → ⊥
  controller_changes_nothing e = false≢true (ap (λ (c : Controller). c.up) (sym (ap (λ (o : ControllerOutcome). o.controller) down_so) ∙ e ∙ fresh))

-- ## Refusals of a console: a letter, a packet in, a reply buffer

abbrev ConsoleGiven : Console → ℕ → List ℕ → List ℕ → (κs : Lfts 3) → Dens κs console-step-kinds.ps → Type 0
ConsoleGiven c l packet reply κs a = (a.0 ≡ c) × (a.1.0 ≡ l) × (a.1.1.1.0.now ≡ packet) × (a.1.1.1.1.0.now ≡ reply)

console_says : (c : Console) (l : ℕ) (p r : List ℕ) (κs : Lfts 3) (a : Dens κs console-step-kinds.ps) (x : ConsoleOutcome) (s : AtExit (ended_of 3 console-step-kinds.ps console-step-kinds.r) κs)
    → ConsoleGiven c l p r κs a → console-step.Post κs a x s → x.report ≡ (console_alone c l a.1.1.0.now p r).outcome.report
console_says c l p r κs a x s e meets = ap (λ (o : ConsoleAlone). o.outcome.report) (meets ∙ (λ i. console_alone (e.0 i) (e.1 i) a.1.1.0.now (e.2 i) (e.3 i)))

-- S of a lost that is not last is dropped, with a reply buffer of 31 bytes
abbrev old_lost : List ℕ
old_lost = packet (Lost (record { 0 = 2 })) zeros

pub console_does_not_look_at_the_reply_buffer : RulesOut console-step-kinds.ps console-step-kinds.r console-step.Post (ConsoleGiven sending 0x53 old_lost short) (λ κs a x s. x.report ≡ report.Nothing)
unfolding opened
console_does_not_look_at_the_reply_buffer κs a x s e w p = unequal (ap number_in (sym w ∙ console_says sending 0x53 old_lost short κs a x s e p)) refl

-- S of data
abbrev some_data : List ℕ
some_data = packet (Data (record { 0 = 3 })) spaces

pub console_says_13_of_the_other_direction : RulesOut console-step-kinds.ps console-step-kinds.r console-step.Post (ConsoleGiven sending 0x53 some_data room) (λ κs a x s. x.report ≡ report.Refused WrongMark)
unfolding opened
console_says_13_of_the_other_direction κs a x s e w p = unequal (ap number_in (sym w ∙ console_says sending 0x53 some_data room κs a x s e p)) refl

-- a message held and neither j nor last, asked R
abbrev no_console : Console
no_console = record { numbers = numbers_fresh 1; held = true; message = spaces; j = record { 0 = 0 }; last = record { 0 = 0 }; up = true; ack = false }

pub console_says_2_before_1 : RulesOut console-step-kinds.ps console-step-kinds.r console-step.Post (ConsoleGiven no_console 0x52 some_data room) (λ κs a x s. x.report ≡ report.Refused IllFormed)
unfolding opened
console_says_2_before_1 κs a x s e w p = unequal (ap number_in (sym w ∙ console_says no_console 0x52 some_data room κs a x s e p)) refl

-- ## The same of a controller

abbrev ControllerGiven : Controller → ℕ → List ℕ → List ℕ → (κs : Lfts 2) → Dens κs controller-step-kinds.ps → Type 0
ControllerGiven c l packet reply κs a = (a.0 ≡ c) × (a.1.0 ≡ l) × (a.1.1.0.now ≡ packet) × (a.1.1.1.0.now ≡ reply)

controller_says : (c : Controller) (l : ℕ) (p r : List ℕ) (κs : Lfts 2) (a : Dens κs controller-step-kinds.ps) (x : ControllerOutcome) (s : AtExit (ended_of 2 controller-step-kinds.ps controller-step-kinds.r) κs)
    → ControllerGiven c l p r κs a → controller-step.Post κs a x s → x.report ≡ (controller_alone c l p r).outcome.report
controller_says c l p r κs a x s e meets = ap (λ (o : ControllerAlone). o.outcome.report) (meets ∙ (λ i. controller_alone (e.0 i) (e.1 i) (e.2 i) (e.3 i)))

-- R of a done that is neither i nor last is dropped, with a reply buffer of 31 bytes
abbrev old_done : List ℕ
old_done = packet (Done (record { 0 = 2 })) zeros

pub controller_does_not_look_at_the_reply_buffer : RulesOut controller-step-kinds.ps controller-step-kinds.r controller-step.Post (ControllerGiven accepting 0x52 old_done short) (λ κs a x s. x.report ≡ report.Nothing)
unfolding opened
controller_does_not_look_at_the_reply_buffer κs a x s e w p = unequal (ap number_in (sym w ∙ controller_says accepting 0x52 old_done short κs a x s e p)) refl

-- R of a lost
pub controller_says_13_of_the_other_direction : RulesOut controller-step-kinds.ps controller-step-kinds.r controller-step.Post (ControllerGiven accepting 0x52 old_lost room) (λ κs a x s. x.report ≡ report.Refused WrongMark)
unfolding opened
controller_says_13_of_the_other_direction κs a x s e w p = unequal (ap number_in (sym w ∙ controller_says accepting 0x52 old_lost room κs a x s e p)) refl

-- asked P
pub controller_says_2_before_1 : RulesOut controller-step-kinds.ps controller-step-kinds.r controller-step.Post (ControllerGiven ill_formed 0x50 old_done room) (λ κs a x s. x.report ≡ report.Refused IllFormed)
unfolding opened
controller_says_2_before_1 κs a x s e w p = unequal (ap number_in (sym w ∙ controller_says ill_formed 0x50 old_done room κs a x s e p)) refl
