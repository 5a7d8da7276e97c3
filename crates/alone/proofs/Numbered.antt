-- The number by which an end run alone refuses is the one that is named for the call, 0 where it is not refused, for every input: 1, 2, 12 to 15 as
-- AnyEnd has them, then the number by which the rules refuse the act.
use Prim.Native.Nat.{ℕ}
use mathlib.Core.Path.{◌≡◌, ap, ◌∙◌}
use mathlib.Core.Bool.{Bool}
use mathlib.Core.Option as maybe
use mathlib.Core.List.{List}
use lib.Dec.{eqb}
use lib.ListN.{length}
use Rattle.std.specs.Prelude.{Option, None, Some, Result, Ok, Err}
use Rattle.ground.specs.Cell.{is_message}
use Rattle.ground.specs.Choice.{chosen}
use Rattle.ground.specs.First as order
use Rattle.ground.specs.Refusals.{number_of}
use Rattle.ground.specs.declared.refusals.Refusal.{Refusal}
use Rattle.ground.specs.declared.refusals.Refusal.TheVariants as refusal
use Rattle.ground.proofs.RefusalNumbers.{refusal_of-number_of}
use Rattle.ground.proofs.Tests.{by_test}
use Rattle.wire.specs.Packet.{head_read, packet_read}
use Rattle.wire.specs.declared.Head.{Head}
use Rattle.wire.specs.declared.Packet.{Packet}
use Rattle.rules.specs.Supply.{numbering}
use Rattle.rules.specs.Letters as letters
use Rattle.rules.specs.Letters.{Letter, letter, line, Asks, the_console, the_controller, neither_end, ConsoleAsk, ControllerAsk}
use Rattle.rules.specs.Ends as rules
use Rattle.rules.specs.Reading.{use_of, console_read_step}
use Rattle.rules.proofs.Ends.{console_refused_lem, controller_refused_lem}
use Rattle.ends.specs.AsRules.{number_in}
use Rattle.ends.specs.Packets.{head_for_console, head_for_controller}
use Rattle.ends.proofs.Reports.{number_told}
use Rattle.ends.specs.declared.ToConsole.{ToConsole}
use Rattle.ends.specs.declared.ToController.{ToController}
use Rattle.ends_console.specs.Fields.{console_ok}
use Rattle.ends_controller.specs.Fields.{controller_ok}
use Rattle.ends_console.specs.FieldsAsRules.{console_means}
use Rattle.ends_controller.specs.FieldsAsRules.{controller_means}
use Rattle.ends_console.proofs.ShownReport.{number_said}
use Rattle.ends_console.specs.declared.fields.Console.{Console}
use Rattle.ends_controller.specs.declared.fields.Controller.{Controller}
use Rattle.alone.specs.AnyEnd.{lent, any_console_takes, any_console_hears, any_console_asked, any_console_asks, any_console_letter, any_controller_takes, any_controller_hears, any_controller_asked, any_controller_asks, any_controller_letter}
use Rattle.alone.specs.ConsoleAlone.{ConsoleAlone, console_refused, console_alone_acts, console_alone}
use Rattle.alone.specs.ControllerAlone.{ControllerAlone, controller_refused, controller_alone_acts, controller_alone}

-- the number itself, for what is refused by it
abbrev itself : ℕ → ℕ
itself n = n

-- told tells of what an end alone comes to the number by which it was refused
module _ {R : Type 0} (refused : ℕ → R) (told : R → ℕ) (own : (q : Refusal) → told (refused (number_of q)) ≡ number_of q) where
  lent_number : (long : ℕ) (x : R) (n : ℕ) → told x ≡ n → told (lent refused long x) ≡ lent itself long n
  unfolding lent chosen
  lent_number long x n e = by_test (eqb long 32) (λ t. rw t e) (λ f. rw f (own refusal.WrongLength))

  -- ## A console's

  module _ (acts : rules.ConsoleAct (List ℕ) → R) (named : rules.ConsoleAct (List ℕ) → ℕ) (same : (a : rules.ConsoleAct (List ℕ)) → told (acts a) ≡ named a) where
    takes_number : (p : Option ToConsole) → told (any_console_takes refused acts p) ≡ any_console_takes itself named p
    takes_number None = own refusal.WrongField
    takes_number (Some p) = same _

    hears_number : (h : Result Head Refusal) → told (any_console_hears refused acts h) ≡ any_console_hears itself named h
    hears_number (Err r) = own r
    hears_number (Ok h) = takes_number (head_for_console h)

    module _ (m : List ℕ) (came : Result Head Refusal) (long : ℕ) where
      asked_number : (k : ConsoleAsk) → told (any_console_asked refused acts m came long k) ≡ any_console_asked itself named m came long k
      asked_number letters.to_put = same _
      asked_number letters.to_send_need_i = lent_number long _ _ (same _)
      asked_number letters.to_send_data = lent_number long _ _ (same _)
      asked_number ConsoleAsk.to_take = lent_number long _ _ (hears_number came)
      asked_number ConsoleAsk.to_go_down = same _
      asked_number ConsoleAsk.to_come_back = same _
      asked_number letters.to_tell_ack = same _

      module _ (ok : Bool) where
        asks_number : (a : Asks) → told (any_console_asks refused acts m came long ok a) ≡ any_console_asks itself named m came long ok a
        unfolding chosen
        asks_number (the_console k) = by_test ok (λ t. rw t (asked_number k)) (λ f. rw f (own refusal.IllFormed))
        asks_number (the_controller k) = own refusal.NoAction
        asks_number neither_end = own refusal.NoAction

        letter_number : (l : maybe.Option Letter) → told (any_console_letter refused acts m came long ok l) ≡ any_console_letter itself named m came long ok l
        letter_number maybe.none = own refusal.NoAction
        letter_number (maybe.some l) = asks_number (line l).asks

  -- ## A controller's

  module _ (acts : rules.ControllerAct (List ℕ) → R) (named : rules.ControllerAct (List ℕ) → ℕ) (same : (a : rules.ControllerAct (List ℕ)) → told (acts a) ≡ named a) where
    controller_takes_number : (m : List ℕ) (p : Option ToController) → told (any_controller_takes refused acts m p) ≡ any_controller_takes itself named m p
    controller_takes_number m None = own refusal.WrongField
    controller_takes_number m (Some p) = same _

    controller_hears_number : (p : Result Packet Refusal) → told (any_controller_hears refused acts p) ≡ any_controller_hears itself named p
    controller_hears_number (Err r) = own r
    controller_hears_number (Ok p) = controller_takes_number p.message (head_for_controller p.head)

    module _ (came : Result Packet Refusal) (long : ℕ) where
      controller_asked_number : (k : ControllerAsk) → told (any_controller_asked refused acts came long k) ≡ any_controller_asked itself named came long k
      controller_asked_number letters.to_send_offer = lent_number long _ _ (same _)
      controller_asked_number letters.to_send_ok = lent_number long _ _ (same _)
      controller_asked_number ControllerAsk.to_take = lent_number long _ _ (controller_hears_number came)
      controller_asked_number ControllerAsk.to_go_down = same _
      controller_asked_number ControllerAsk.to_come_back = same _

      module _ (ok : Bool) where
        controller_asks_number : (a : Asks) → told (any_controller_asks refused acts came long ok a) ≡ any_controller_asks itself named came long ok a
        unfolding chosen
        controller_asks_number (the_console k) = own refusal.NoAction
        controller_asks_number (the_controller k) = by_test ok (λ t. rw t (controller_asked_number k)) (λ f. rw f (own refusal.IllFormed))
        controller_asks_number neither_end = own refusal.NoAction

        controller_letter_number : (l : maybe.Option Letter) → told (any_controller_letter refused acts came long ok l) ≡ any_controller_letter itself named came long ok l
        controller_letter_number maybe.none = own refusal.NoAction
        controller_letter_number (maybe.some l) = controller_asks_number (line l).asks

-- ## The console

module _ (c : Console) (m packet reply : List ℕ) where
  abbrev console_told_number : ConsoleAlone → ℕ
  console_told_number x = number_in x.outcome.report

  -- the number by which the rules refuse an act, or 0
  abbrev pub console_rules_number : rules.ConsoleAct (List ℕ) → ℕ
  console_rules_number a = order.refusal (rules.console_rules numbering is_message (console_means c) a)

  -- the number that is named for the call, or 0
  abbrev pub console_number : ℕ → ℕ
  console_number byte = any_console_letter itself console_rules_number m (head_read packet) (length reply) (console_ok c) (letter byte)

  console_acts_number : (a : rules.ConsoleAct (List ℕ)) → console_told_number (console_alone_acts c reply a) ≡ console_rules_number a
  unfolding console_alone_acts console_read_step
  console_acts_number a =
      let r = (rules.console_step numbering is_message (console_means c) a).report in
      number_said (use_of a) c.ack r
      ∙ number_told (rules.console_rules numbering is_message (console_means c) a) r (λ n. console_refused_lem numbering is_message (console_means c) a n)

  pub console_refused_by : (byte : ℕ) → number_in (console_alone c byte m packet reply).outcome.report ≡ console_number byte
  unfolding console_alone
  console_refused_by byte =
      letter_number (λ n. console_refused n c reply) console_told_number (λ q. ap number_of (refusal_of-number_of q))
      (console_alone_acts c reply) console_rules_number console_acts_number m (head_read packet) (length reply) (console_ok c) (letter byte)

-- ## The controller

module _ (c : Controller) (packet reply : List ℕ) where
  abbrev controller_told_number : ControllerAlone → ℕ
  controller_told_number x = number_in x.outcome.report

  abbrev pub controller_rules_number : rules.ControllerAct (List ℕ) → ℕ
  controller_rules_number a = order.refusal (rules.controller_rules numbering (controller_means c) a)

  abbrev pub controller_number : ℕ → ℕ
  controller_number byte = any_controller_letter itself controller_rules_number (packet_read packet) (length reply) (controller_ok c) (letter byte)

  controller_acts_number : (a : rules.ControllerAct (List ℕ)) → controller_told_number (controller_alone_acts c reply a) ≡ controller_rules_number a
  unfolding controller_alone_acts
  controller_acts_number a =
      number_told (rules.controller_rules numbering (controller_means c) a) (rules.controller_step numbering (controller_means c) a).report
      (λ n. controller_refused_lem numbering (controller_means c) a n)

  pub controller_refused_by : (byte : ℕ) → number_in (controller_alone c byte packet reply).outcome.report ≡ controller_number byte
  unfolding controller_alone
  controller_refused_by byte =
      controller_letter_number (λ n. controller_refused n c reply) controller_told_number (λ q. ap number_of (refusal_of-number_of q))
      (controller_alone_acts c reply) controller_rules_number controller_acts_number (packet_read packet) (length reply) (controller_ok c) (letter byte)
