-- A console run alone: what it tells, and what stands in the reply buffer afterwards. Assumes nothing.
use Rattle.std.specs.Prelude.{ℕ, false, not, List, length, Option, Result}
use Rattle.std.proofs.Math.Option as maybe
use Rattle.ground.specs.Cell.{is_message}
use Rattle.ground.specs.Refusals.{refusal_of}
use Rattle.ground.specs.declared.refusals.Refusal.{Refusal}
use Rattle.wire.specs.Packet.{head_read}
use Rattle.wire.specs.declared.Head.{Head}
use Rattle.rules.specs.Supply.{numbering, Numbers}
use Rattle.rules.specs.Letters.{Letter, letter, Asks, ConsoleAsk}
use Rattle.rules.specs.Ends as rules
use Rattle.rules.specs.Reading.{ReadActed, console_read_step}
use Rattle.ends.specs.Packets.{to_controller_packet}
use Rattle.ends.specs.AsRules.{report_back}
use Rattle.ends_console.specs.Fields.{console_ok}
use Rattle.ends_console.specs.FieldsAsRules.{console_reads, console_back}
use Rattle.ends.specs.declared.ToConsole.{ToConsole}
use Rattle.ends.specs.declared.Report.TheVariants as report
use Rattle.ends_console.specs.declared.fields.Console.{Console}
use Rattle.alone.specs.Alone.{replied}
use Rattle.alone.specs.AnyEnd.{lent, any_console_takes, any_console_hears, any_console_asked, any_console_asks, any_console_letter}
use Rattle.alone.specs.declared.console.ConsoleOutcome.{ConsoleOutcome}

pub record ConsoleAlone : Type 0 where
  pub outcome : ConsoleOutcome
  pub reply : List ℕ

-- a refusal leaves the console and the reply buffer
abbrev pub console_refused : ℕ → Console → List ℕ → ConsoleAlone
console_refused n c reply = record { outcome = record { report = report.Refused (refusal_of n); sent = false; console = c }; reply = reply }

abbrev pub console_told : ReadActed Numbers (List ℕ) → List ℕ → ConsoleAlone
console_told d reply =
    record {
      outcome =
          record { report = report_back d.told.report; sent = not (rules.absent d.sent); console = console_back d.told.after };
      reply = replied (maybe.map to_controller_packet d.sent) reply;
    }

module _ (c : Console) (reply : List ℕ) where
  -- what the rules' console does, or refuses, with its ack
  unfoldable pub console_alone_acts : rules.ConsoleAct (List ℕ) → ConsoleAlone
  console_alone_acts act = console_told (console_read_step numbering is_message (console_reads c) act) reply

  -- what any console alone does, of this one
  abbrev refuses : ℕ → ConsoleAlone
  refuses n = console_refused n c reply

  abbrev pub console_alone_takes : Option ToConsole → ConsoleAlone
  console_alone_takes p = any_console_takes refuses console_alone_acts p

  abbrev pub console_hears : Result Head Refusal → ConsoleAlone
  console_hears h = any_console_hears refuses console_alone_acts h

  abbrev pub console_lent : ConsoleAlone → ConsoleAlone
  console_lent asked = lent refuses (length reply) asked

  module _ (message packet : List ℕ) where
    abbrev pub console_asked : ConsoleAsk → ConsoleAlone
    console_asked ask = any_console_asked refuses console_alone_acts message (head_read packet) (length reply) ask

    abbrev pub console_asks : Asks → ConsoleAlone
    console_asks asks = any_console_asks refuses console_alone_acts message (head_read packet) (length reply) (console_ok c) asks

    abbrev pub console_letter : maybe.Option Letter → ConsoleAlone
    console_letter l = any_console_letter refuses console_alone_acts message (head_read packet) (length reply) (console_ok c) l

unfoldable pub console_alone : Console → ℕ → List ℕ → List ℕ → List ℕ → ConsoleAlone
console_alone c l message packet reply = console_letter c reply message packet (letter l)
