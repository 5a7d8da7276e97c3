-- A refusal of an end run alone leaves the end and the reply buffer, sends nothing and delivers nothing; for every input that the types allow.
use Prim.Native.Nat.{ℕ}
use mathlib.Core.Path.{◌≡◌, sym, ap, ◌∙◌}
use mathlib.Core.Bool.{true, false, not}
use mathlib.Core.Option as maybe
use mathlib.Core.List.{List}
use lib.ListN.{length}
use Rattle.ground.specs.Cell.{is_message, spaces}
use Rattle.ground.specs.Refusals.{refusal_of, number_of}
use Rattle.ground.specs.declared.refusals.Refusal.{Refusal}
use Rattle.ground.proofs.RefusalNumbers.{refusal_of-number_of}
use Rattle.ground.proofs.Promise.{RefusalLeaves}
use Rattle.rules.specs.Supply.{numbering, Numbers}
use Rattle.rules.specs.Ends as rules
use Rattle.rules.specs.Reading.{Use, use_of, said, ack_after, acted_read, console_read_step}
use Rattle.wire.specs.Packet.{head_read, packet_read}
use Rattle.ends_console.proofs.ShownReport.{refused_below}
use Rattle.rules.proofs.Ends.{console_refused_same, controller_refused_same}
use Rattle.ends_console.specs.Fields.{console_ok}
use Rattle.ends_controller.specs.Fields.{controller_ok}
use Rattle.ends_console.specs.FieldsAsRules.{console_means, console_reads, console_back}
use Rattle.ends_controller.specs.FieldsAsRules.{controller_means, controller_back}
use Rattle.ends.specs.AsRules.{report_back, delivered}
use Rattle.ends.specs.Packets.{to_console_packet}
use Rattle.ends_console.proofs.FieldsAsRules as console
use Rattle.ends_controller.proofs.FieldsAsRules as controller
use Rattle.ends.proofs.Reports.{IsRefused, its_refusal, refused_in_rules}
use Rattle.ends.specs.declared.Report.TheVariants as report
use Rattle.ends_console.specs.declared.fields.Console.{Console}
use Rattle.ends_controller.specs.declared.fields.Controller.{Controller}
use Rattle.alone.specs.Alone.{replied}
use Rattle.alone.specs.ConsoleAlone.{ConsoleAlone, console_refused, console_told, console_alone_acts, console_alone}
use Rattle.alone.specs.ControllerAlone.{ControllerAlone, controller_refused, controller_told, controller_alone_acts, controller_alone}
use Rattle.alone.proofs.Calls.{Whatever, any_head, console_by_act, controller_by_act}
use Rattle.alone.proofs.console.step.Kinds as console-step-kinds
use Rattle.alone.proofs.console.step.Reads as console-step
use Rattle.alone.proofs.controller.step.Kinds as controller-step-kinds
use Rattle.alone.proofs.controller.step.Reads as controller-step

-- ## The console

module _ (c : Console) (long : length c.message ≡ 16) (m reply : List ℕ) where
  -- whatever number it is told by
  console_told_as : (n : ℕ) (q : Refusal) → refusal_of n ≡ q → console_refused n c reply ≡ console_refused (number_of q) c reply
  console_told_as n q e =
      let f = e ∙ sym (refusal_of-number_of q) in
      λ i. record { outcome = record { report = report.Refused (f i); sent = false; console = c }; reply = reply }

  console_told_lem : (u : Use) (d : rules.ConsoleActed Numbers (List ℕ)) (n : ℕ) → d.report ≡ rules.refused n → d.sent ≡ maybe.none → d.after ≡ console_means c → console_back (console_reads c) ≡ c
      → console_told (acted_read u c.ack d) reply ≡ console_refused n c reply
  unfolding rules.absent said ack_after
  console_told_lem u d n r s a same =
      (λ i. console_told (acted_read u c.ack (record { report = r i; sent = s i; after = a i })) reply)
      ∙ λ i. record { outcome = record { report = report.Refused (refusal_of n); sent = false; console = same i }; reply = reply }

  console_acted_lem : (a : rules.ConsoleAct (List ℕ)) → console_ok c ≡ true → (q : Refusal) → (console_alone_acts c reply a).outcome.report ≡ report.Refused q → console_alone_acts c reply a ≡ console_refused (number_of q) c reply
  unfolding console_alone_acts console_read_step
  console_acted_lem a ok q e =
      let d = rules.console_step numbering is_message (console_means c) a in
      let r = refused_below (use_of a) c.ack d.report q e in
      let s = console_refused_same numbering is_message (console_means c) a r.0 r.1 in
      console_told_lem (use_of a) d r.0 r.1 s.0 s.1 (console.unchanged c long ok) ∙ console_told_as r.0 q r.2

  pub console_refusal_leaves : (l : ℕ) (packet : List ℕ) (q : Refusal) → (console_alone c l m packet reply).outcome.report ≡ report.Refused q → console_alone c l m packet reply ≡ console_refused (number_of q) c reply
  console_refusal_leaves l packet =
      console_by_act Whatever tt tt tt tt c m packet reply (λ d. (q : Refusal) → d.outcome.report ≡ report.Refused q → d ≡ console_refused (number_of q) c reply)
      (λ n u q e. console_told_as n q cc) (any_head (head_read packet)) l (λ x k e f a g ok. console_acted_lem a ok)

-- ## The controller

module _ (c : Controller) (reply : List ℕ) where
  controller_told_as : (n : ℕ) (q : Refusal) → refusal_of n ≡ q → controller_refused n c reply ≡ controller_refused (number_of q) c reply
  controller_told_as n q e =
      let f = e ∙ sym (refusal_of-number_of q) in
      λ i. record { outcome = record { report = report.Refused (f i); message = spaces; sent = false; controller = c }; reply = reply }

  controller_told_lem : (d : rules.ControllerActed Numbers (List ℕ)) (n : ℕ) → d.report ≡ rules.refused n → d.sent ≡ maybe.none → d.after ≡ controller_means c → controller_back (controller_means c) ≡ c → controller_told d reply ≡ controller_refused n c reply
  unfolding rules.absent
  controller_told_lem d n r s a u =
      let f = ap controller_back a ∙ u in
      λ i. record { outcome = record { report = report_back (r i); message = delivered (r i); sent = not (rules.absent (s i)); controller = f i }; reply = replied (maybe.map to_console_packet (s i)) reply }

  controller_acted_lem : (a : rules.ControllerAct (List ℕ)) → controller_ok c ≡ true → (q : Refusal) → (controller_alone_acts c reply a).outcome.report ≡ report.Refused q → controller_alone_acts c reply a ≡ controller_refused (number_of q) c reply
  unfolding controller_alone_acts
  controller_acted_lem a ok q e =
      let d = rules.controller_step numbering (controller_means c) a in
      let r = refused_in_rules d.report q e in
      let s = controller_refused_same numbering (controller_means c) a r.0 r.1 in
      controller_told_lem d r.0 r.1 s.0 s.1 (controller.unchanged c ok) ∙ controller_told_as r.0 q r.2

  pub controller_refusal_leaves : (l : ℕ) (packet : List ℕ) (q : Refusal) → (controller_alone c l packet reply).outcome.report ≡ report.Refused q → controller_alone c l packet reply ≡ controller_refused (number_of q) c reply
  controller_refusal_leaves l packet =
      controller_by_act Whatever tt tt tt tt c packet reply (λ d. (q : Refusal) → d.outcome.report ≡ report.Refused q → d ≡ controller_refused (number_of q) c reply)
      (λ n u q e. controller_told_as n q cc) (any_head (packet_read packet)) l (λ x k e f a g ok. controller_acted_lem a ok)

-- ## The entries: the end and the reply buffer after a refusal are those before it

pub console_step_refusal_leaves : RefusalLeaves console-step-kinds.ps console-step-kinds.r console-step.Post
    (λ κs a. length a.0.message ≡ 16) (λ κs x. IsRefused x.report)
    {B = Console × List ℕ} (λ κs a. (a.0, a.1.1.1.1.0.now)) (λ κs x s. (x.console, s.1.1.1.1.0.now))
console_step_refusal_leaves κs a x s long refused p =
    let q = its_refusal x.report refused in
    let e = sym (ap (λ (r : ConsoleAlone). r.outcome.report) p) ∙ q.1 in
    ap (λ (r : ConsoleAlone). (r.outcome.console, r.reply)) (p ∙ console_refusal_leaves a.0 long a.1.1.0.now a.1.1.1.1.0.now a.1.0 a.1.1.1.0.now q.0 e)

pub controller_step_refusal_leaves : RefusalLeaves controller-step-kinds.ps controller-step-kinds.r controller-step.Post
    (λ κs a. Unit {0}) (λ κs x. IsRefused x.report)
    {B = Controller × List ℕ} (λ κs a. (a.0, a.1.1.1.0.now)) (λ κs x s. (x.controller, s.1.1.1.0.now))
controller_step_refusal_leaves κs a x s typed refused p =
    let q = its_refusal x.report refused in
    let e = sym (ap (λ (r : ControllerAlone). r.outcome.report) p) ∙ q.1 in
    ap (λ (r : ControllerAlone). (r.outcome.controller, r.reply)) (p ∙ controller_refusal_leaves a.0 a.1.1.1.0.now a.1.0 a.1.1.0.now q.0 e)
