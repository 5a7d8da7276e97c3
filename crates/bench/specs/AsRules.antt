-- A bench and its two tables in the rules, and back. Assumes nothing.
use Rattle.std.specs.Prelude.{ℕ, Bool, ◌&&◌, List, length}
use Rattle.wire.specs.declared.Direction.TheVariants.{ToController, ToConsole}
use Rattle.rules.specs.Supply.{Numbers}
use Rattle.rules.specs.Bench as rules
use Rattle.rules.specs.Reading.{Reading, reading}
use Rattle.ends_console.specs.Fields.{console_ok}
use Rattle.ends_controller.specs.Fields.{controller_ok}
use Rattle.ends_console.specs.FieldsAsRules.{console_means, console_back}
use Rattle.ends_controller.specs.FieldsAsRules.{controller_means, controller_back}
use Rattle.channels.specs.Packets.{to_controller_read, to_console_read}
use Rattle.channels.specs.Table.{packets, table_ok}
use Rattle.bench.specs.declared.Bench.{Bench}

-- both ends, both channels; out and back are the tables of the packets to the controller and to the console
unfoldable pub bench_ok : Bench → List ℕ → List ℕ → Bool
bench_ok b out back =
    console_ok b.console && controller_ok b.controller && table_ok ToController b.sent out && table_ok ToConsole b.returned back

unfoldable pub bench_means : Bench → List ℕ → List ℕ → rules.Bench Numbers (List ℕ)
bench_means b out back =
    record {
      console = console_means b.console;
      controller = controller_means b.controller;
      to_controller = packets to_controller_read b.sent out;
      to_console = packets to_console_read b.returned back;
    }

-- with the console's ack beside it
abbrev pub bench_reads : Bench → List ℕ → List ℕ → Reading (rules.Bench Numbers (List ℕ))
bench_reads b out back = reading (bench_means b out back) b.console.ack

unfoldable pub bench_back : Reading (rules.Bench Numbers (List ℕ)) → Bench
bench_back r =
    record {
      console = console_back (reading r.history.console r.ack);
      controller = controller_back r.history.controller;
      sent = length r.history.to_controller;
      returned = length r.history.to_console;
    }
