-- What the bench promises: the outcome and both tables afterwards, for every input. Assumes nothing.
use Rattle.std.specs.Prelude.{ℕ, ◌&&◌, List, length, eqb}
use Rattle.std.proofs.Math.Option.{Option, none, some}
use Rattle.ground.specs.Refusals.{refusal_of}
use Rattle.ground.specs.Choice.{when◌then◌else◌}
use Rattle.ground.specs.Cell.{is_message, spaces}
use Rattle.wire.specs.declared.I.{I}
use Rattle.wire.specs.declared.J.{J}
use Rattle.rules.specs.Supply.{numbering, Numbers, fresh_numbers}
use Rattle.rules.specs.Letters.{Letter, letter}
use Rattle.rules.specs.Ends.{nothing}
use Rattle.rules.specs.Bench as rules
use Rattle.rules.specs.Reading.{Reading, Read, read_step, fresh_reading}
use Rattle.ends.specs.AsRules.{report_back, delivered}
use Rattle.ends.specs.declared.Report.TheVariants.{Refused}
use Rattle.channels.specs.Packets.{to_controller_bytes, to_console_bytes}
use Rattle.channels.specs.Table.{channel}
use Rattle.bench.specs.AsRules.{bench_ok, bench_reads, bench_back}
use Rattle.bench.specs.declared.Bench.{Bench}
use Rattle.bench.specs.declared.Action.{Action}
use Rattle.bench.specs.declared.Outcome.{Outcome}

-- an outcome, and the two tables afterwards
pub record Result : Type 0 where
  pub outcome : Outcome
  pub out : List ℕ
  pub back : List ℕ

-- a refusal leaves bench and tables byte for byte
unfoldable pub bench_refused : ℕ → Bench → List ℕ → List ℕ → Result
bench_refused n b out back = record { outcome = record { report = Refused (refusal_of n); message = spaces; bench = b }; out = out; back = back }

-- what the rules' bench comes to, as fields and tables
unfoldable pub bench_told : Read (rules.Bench Numbers (List ℕ)) (List ℕ) → Result
bench_told o =
    record {
      outcome = record { report = report_back o.report; message = delivered o.report; bench = bench_back o.after };
      out = channel to_controller_bytes o.after.history.to_controller;
      back = channel to_console_bytes o.after.history.to_console;
    }

-- ## The step: 1, 2, then what the rules' step does and refuses, with the ack

abbrev pub step_of : Option Letter → Bench → Action → List ℕ → List ℕ → Result
step_of none b a out back = bench_refused 1 b out back
step_of (some l) b a out back =
    when bench_ok b out back
    then bench_told (read_step numbering is_message (bench_reads b out back) (rules.action l a.place a.copies a.message))
    else bench_refused 2 b out back

unfoldable pub bench_step : Bench → Action → List ℕ → List ℕ → Result
bench_step b a out back = step_of (letter a.letter) b a out back

-- ## Fresh: any two last-used numbers; a table of another length is 2, and neither is touched

abbrev pub fresh_rules : J → I → Reading (rules.Bench Numbers (List ℕ))
fresh_rules j i = fresh_reading (fresh_numbers j.0) (fresh_numbers i.0)

unfoldable pub bench_fresh : J → I → List ℕ → List ℕ → Result
bench_fresh j i out back =
    when eqb (length out) 2048 && eqb (length back) 2048
    then bench_told (record { report = nothing; after = fresh_rules j i })
    else bench_refused 2 (bench_back (fresh_rules j i)) out back
