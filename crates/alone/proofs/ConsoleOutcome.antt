-- What the code tells of a console's act is what the rules' act is told as.
use Prim.Native.Nat.{ℕ}
use mathlib.Core.Path.{◌≡◌, ap, ◌∙◌}
use mathlib.Core.Bool.{Bool, not}
use mathlib.Core.Option as maybe
use mathlib.Core.List.{List}
use Rattle.rules.specs.Supply.{Numbers}
use Rattle.rules.specs.Ends as rules
use Rattle.rules.specs.Reading.{Use, said, ack_after, acted_read}
use Rattle.rules.specs.Relabel.{in_packet, in_report, in_console_acted}
use Rattle.ends.specs.AsRules.{Beside, report_back}
use Rattle.ends.specs.Packets.{to_controller_packet, to_controller_sent}
use Rattle.ends.proofs.Reports.{report_told_lem}
use Rattle.ends_console.specs.Ack.{acked}
use Rattle.ends_console.specs.AsRules.{acted}
use Rattle.ends_console.specs.Fields.{console_fields}
use Rattle.ends_console.specs.declared.ack.Shown.{Shown}
use Rattle.ends_console.proofs.Decisions.{same_for_controller}
use Rattle.ends_console.proofs.FieldsAsRules.{fields_told}
use Rattle.ends_console.proofs.ShownReport.{acked_is}
use Rattle.alone.specs.Alone.{replied}
use Rattle.alone.specs.ConsoleAlone.{console_told}
use Rattle.alone.specs.ConsolePrivate.{console_tells}
use Rattle.alone.proofs.Sent.{absent_turned}

-- the acts of the rules at messages of one value, told with the message k beside them
module _ (u : Use) (ack : Bool) (d : rules.ConsoleActed Numbers Beside) (k reply : List ℕ) where
  -- what is shown of the report
  shown_told : acked u ack (report_back d.report) ≡ record { report = report_back (said u ack (in_report (λ _. k) d.report)); ack = ack_after u ack (in_report (λ _. k) d.report) }
  shown_told = ap (acked u ack) (report_told_lem k d.report) ∙ acked_is u ack (in_report (λ _. k) d.report)

  pub told : console_tells (acted d) u ack k reply ≡ console_told (acted_read u ack (in_console_acted (λ _. k) d)) reply
  unfolding console_tells to_controller_sent
  told =
      let sent = ap (λ (o : maybe.Option (rules.ToController Beside)). maybe.map (in_packet (λ _. k)) o) (same_for_controller d.sent) in
      λ i.
      record {
        outcome =
            record {
              report = (shown_told i).report;
              sent = not ((absent_turned to_controller_packet _ ∙ ap rules.absent sent) i);
              console = (ap (λ (s : Shown). console_fields (acted d).after s.ack k) shown_told ∙ fields_told d.after.numbers d.after.mode d.after.up (ack_after u ack (in_report (λ _. k) d.report)) k) i;
            };
        reply = replied (maybe.map to_controller_packet (sent i)) reply;
      }
