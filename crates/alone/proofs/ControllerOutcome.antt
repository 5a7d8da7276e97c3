-- What the code tells of a controller's act is what the rules' act is told as.
use Prim.Native.Nat.{ℕ}
use mathlib.Core.Path.{◌≡◌, ap, ◌∙◌}
use mathlib.Core.Bool.{not}
use mathlib.Core.Option as maybe
use mathlib.Core.List.{List}
use Rattle.rules.specs.Supply.{Numbers}
use Rattle.rules.specs.Ends as rules
use Rattle.rules.specs.Relabel.{in_controller_acted}
use Rattle.ends.specs.AsRules.{Beside}
use Rattle.ends.specs.Packets.{to_console_packet, to_console_sent}
use Rattle.ends.proofs.Reports.{report_told_lem, delivered_told}
use Rattle.ends_controller.specs.AsRules.{acted}
use Rattle.ends_controller.specs.Fields.{controller_fields}
use Rattle.ends_controller.proofs.Decisions.{same_for_console}
use Rattle.alone.specs.Alone.{replied}
use Rattle.alone.specs.ControllerAlone.{controller_told}
use Rattle.alone.specs.ControllerPrivate.{controller_tells}
use Rattle.alone.proofs.Sent.{absent_turned}

-- the acts of the rules at messages of one value, told with the message k beside them
pub told : (d : rules.ControllerActed Numbers Beside) (k reply : List ℕ) → controller_tells (acted d) k reply ≡ controller_told (in_controller_acted (λ _. k) d) reply
unfolding controller_tells to_console_sent
told d k reply =
    λ i.
    record {
      outcome =
          record {
            report = report_told_lem k d.report i;
            message = delivered_told k d.report i;
            sent = not ((absent_turned to_console_packet _ ∙ ap rules.absent (same_for_console d.sent)) i);
            controller = controller_fields (acted d).after;
          };
      reply = replied (maybe.map to_console_packet (same_for_console d.sent i)) reply;
    }
