-- What the code does with the ack, in the rules' words. Assumes nothing.
use Rattle.std.specs.Prelude.{Bool}
use Rattle.rules.specs.Reading.{Use, leaves, clears, tells, said, ack_after}
use Rattle.letters.specs.declared.ConsoleAsk.{ConsoleAsk}
use Rattle.letters.specs.declared.ConsoleAsk.TheVariants as ask
use Rattle.ends.specs.AsRules.{report_back, report_means}
use Rattle.ends.specs.declared.Report.{Report}
use Rattle.ends_console.specs.declared.ack.AckUse.{AckUse}
use Rattle.ends_console.specs.declared.ack.AckUse.TheVariants.{Leaves, Clears, Tells}
use Rattle.ends_console.specs.declared.ack.Shown.{Shown}

abbrev pub use_means : AckUse → Use
use_means Leaves = leaves
use_means Clears = clears
use_means Tells = tells

abbrev pub ack_use : ConsoleAsk → AckUse
ack_use ask.Put = Leaves
ack_use ask.SendNeedI = Leaves
ack_use ask.SendData = Leaves
ack_use ask.Take = Leaves
ack_use ask.GoDown = Leaves
ack_use ask.ComeBack = Clears
ack_use ask.TellAck = Tells

-- what is shown of a report of the history, and the ack then
unfoldable pub acked : Use → Bool → Report → Shown
acked u ack r = record { report = report_back (said u ack (report_means r)); ack = ack_after u ack (report_means r) }
