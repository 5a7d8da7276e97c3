-- What the rules' bench stands for as fields and tables: it passes the check, and means what it was.
use Prim.Native.Nat.{ℕ}
use mathlib.Core.Path.{◌≡◌}
use mathlib.Core.Bool.{true}
use mathlib.Core.List.{List}
use Rattle.ground.specs.Cell.{is_message}
use Rattle.rules.specs.Supply.{Numbers, numbering}
use Rattle.rules.specs.Bench as rules
use Rattle.rules.specs.Reading.{Reading, reading}
use Rattle.rules.specs.WellFormed.{WellFormed}
use Rattle.ends_console.proofs.WellFormed.{ConsoleStands, console_stands}
use Rattle.ends_controller.proofs.WellFormed.{ControllerStands, controller_stands}
use Rattle.channels.specs.Packets.{to_controller_bytes, to_console_bytes}
use Rattle.channels.specs.Table.{channel}
use Rattle.channels.proofs.Channel.{channel_ok, packets_channel}
use Rattle.channels.proofs.Packets.{to_controller_coded, to_console_coded}
use Rattle.bench.specs.AsRules.{bench_ok, bench_means, bench_reads, bench_back}

module _ (r : Reading (rules.Bench Numbers (List ℕ))) (w : WellFormed numbering is_message r.history) where
  abbrev b : rules.Bench Numbers (List ℕ)
  b = r.history

  abbrev out : List ℕ
  out = channel to_controller_bytes b.to_controller

  abbrev back : List ℕ
  back = channel to_console_bytes b.to_console

  abbrev c : ConsoleStands (reading b.console r.ack)
  c = console_stands b.console r.ack w.console

  abbrev d : ControllerStands b.controller
  d = controller_stands b.controller w.controller

  pub stands_ok : bench_ok (bench_back r) out back ≡ true
  unfolding bench_ok bench_back
  stands_ok =
      rw (
        c.0,
        d.0,
        channel_ok to_controller_coded b.to_controller w.to_controller_all w.to_controller_room,
        channel_ok to_console_coded b.to_console w.to_console_all w.to_console_room,
      )

  pub stands_for : bench_reads (bench_back r) out back ≡ r
  unfolding bench_means bench_back
  stands_for =
      λ i.
      reading
      (record {
        console = (c.1 i).history;
        controller = d.1 i;
        to_controller = packets_channel to_controller_coded b.to_controller w.to_controller_all i;
        to_console = packets_channel to_console_coded b.to_console w.to_console_all i;
      }) (c.1 i).ack
