-- A controller run alone: what it tells, and what stands in the reply buffer afterwards. Assumes nothing.
use Rattle.std.specs.Prelude.{ℕ, false, not, List, length, Option, Result}
use Rattle.std.proofs.Math.Option as maybe
use Rattle.ground.specs.Cell.{spaces}
use Rattle.ground.specs.Refusals.{refusal_of}
use Rattle.ground.specs.declared.refusals.Refusal.{Refusal}
use Rattle.wire.specs.Packet.{packet_read}
use Rattle.wire.specs.declared.Packet.{Packet}
use Rattle.rules.specs.Supply.{numbering, Numbers}
use Rattle.rules.specs.Letters.{Letter, letter, Asks, ControllerAsk}
use Rattle.rules.specs.Ends as rules
use Rattle.ends.specs.Packets.{to_console_packet}
use Rattle.ends.specs.AsRules.{report_back, delivered}
use Rattle.ends_controller.specs.Fields.{controller_ok}
use Rattle.ends_controller.specs.FieldsAsRules.{controller_means, controller_back}
use Rattle.ends.specs.declared.ToController.{ToController}
use Rattle.ends.specs.declared.Report.TheVariants as report
use Rattle.ends_controller.specs.declared.fields.Controller.{Controller}
use Rattle.alone.specs.Alone.{replied}
use Rattle.alone.specs.AnyEnd.{lent, any_controller_takes, any_controller_hears, any_controller_asked, any_controller_asks, any_controller_letter}
use Rattle.alone.specs.declared.controller.ControllerOutcome.{ControllerOutcome}

pub record ControllerAlone : Type 0 where
  pub outcome : ControllerOutcome
  pub reply : List ℕ

-- a refusal leaves the controller and the reply buffer, and delivers nothing
abbrev pub controller_refused : ℕ → Controller → List ℕ → ControllerAlone
controller_refused n c reply =
    record { outcome = record { report = report.Refused (refusal_of n); message = spaces; sent = false; controller = c }; reply = reply }

abbrev pub controller_told : rules.ControllerActed Numbers (List ℕ) → List ℕ → ControllerAlone
controller_told d reply =
    record {
      outcome =
          record {
            report = report_back d.report;
            message = delivered d.report;
            sent = not (rules.absent d.sent);
            controller = controller_back d.after;
          };
      reply = replied (maybe.map to_console_packet d.sent) reply;
    }

module _ (c : Controller) (reply : List ℕ) where
  -- what the rules' controller does, or refuses
  unfoldable pub controller_alone_acts : rules.ControllerAct (List ℕ) → ControllerAlone
  controller_alone_acts act = controller_told (rules.controller_step numbering (controller_means c) act) reply

  -- what any controller alone does, of this one
  abbrev refuses : ℕ → ControllerAlone
  refuses n = controller_refused n c reply

  abbrev pub controller_alone_takes : List ℕ → Option ToController → ControllerAlone
  controller_alone_takes message p = any_controller_takes refuses controller_alone_acts message p

  abbrev pub controller_hears : Result Packet Refusal → ControllerAlone
  controller_hears p = any_controller_hears refuses controller_alone_acts p

  abbrev pub controller_lent : ControllerAlone → ControllerAlone
  controller_lent asked = lent refuses (length reply) asked

  module _ (packet : List ℕ) where
    abbrev pub controller_asked : ControllerAsk → ControllerAlone
    controller_asked ask = any_controller_asked refuses controller_alone_acts (packet_read packet) (length reply) ask

    abbrev pub controller_asks : Asks → ControllerAlone
    controller_asks asks = any_controller_asks refuses controller_alone_acts (packet_read packet) (length reply) (controller_ok c) asks

    abbrev pub controller_letter : maybe.Option Letter → ControllerAlone
    controller_letter l = any_controller_letter refuses controller_alone_acts (packet_read packet) (length reply) (controller_ok c) l

unfoldable pub controller_alone : Controller → ℕ → List ℕ → List ℕ → ControllerAlone
controller_alone c l packet reply = controller_letter c reply packet (letter l)
