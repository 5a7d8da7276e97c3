-- A bench by its modes with the numbers of both ends, of any supply: what a step of one that is known to be well formed comes to. Nothing of it stands in
-- the promise of an entry. Assumes nothing.
use Rattle.std.specs.Prelude.{ℕ, ◌≡◌, Bool, List, Option, option_map}
use Rattle.std.proofs.Math.Option as maybe
use Rattle.ground.specs.Cell.{is_message}
use Rattle.ground.specs.Options.{option_back}
use Rattle.wire.specs.declared.I.{I}
use Rattle.wire.specs.declared.J.{J}
use Rattle.rules.specs.Supply.{Supply}
use Rattle.rules.specs.Offered.{moved}
use Rattle.rules.specs.Ends as ends
use Rattle.rules.specs.Bench as rules
use Rattle.rules.specs.Reading.{Reading, reading, Read, read_step}
use Rattle.rules.specs.Relabel.{in_mode}
use Rattle.rules.specs.WellFormed.{WellFormed}
use Rattle.letters.specs.declared.Line.{Line}
use Rattle.numbers.specs.Numbers.{move_means}
use Rattle.ends.specs.AsRules.{for_controller, report_back, delivered}
use Rattle.ends.specs.declared.ToController.{ToController}
use Rattle.ends.specs.declared.Report.{Report}
use Rattle.ends_console.specs.AsRules as console
use Rattle.ends_console.specs.declared.ack.Shown.{Shown}
use Rattle.ends_controller.specs.AsRules as controller
use Rattle.channels.specs.Packets.{to_controller_bytes, to_controller_read, to_console_bytes, to_console_read}
use Rattle.channels.specs.Table.{channel, packets}
use Rattle.bench.specs.ByModes.{action_of}
use Rattle.bench.specs.declared.Action.{Action}
use Rattle.bench.specs.declared.modes.Modes.{Modes}
use Rattle.bench.specs.declared.modes.Offered.{Offered}
use Rattle.bench.specs.declared.modes.Told.{Told}

-- ## In the rules: the console's numbers, then the controller's

unfoldable pub with_numbers : {S : Type 0} → Modes → S → S → List ℕ → List ℕ → rules.Bench S (List ℕ)
with_numbers b s t out back =
    record {
      console = record { numbers = s; mode = in_mode (λ _. b.console.held) (console.mode b.console.mode); up = b.console.up };
      controller = record { numbers = t; mode = controller.mode b.controller.mode; up = b.controller.up };
      to_controller = packets to_controller_read b.sent out;
      to_console = packets to_console_read b.returned back;
    }

-- well formed, and the tables hold these packets and zero bytes
pub record WellWith {S : Type 0} (U : Supply S) (b : Modes) (s t : S) (out back : List ℕ) : Type 0 where
  pub well_formed : WellFormed U is_message (with_numbers b s t out back)
  pub out_holds : out ≡ channel to_controller_bytes (with_numbers b s t out back).to_controller
  pub back_holds : back ≡ channel to_console_bytes (with_numbers b s t out back).to_console

-- ## What is offered, and what is moved

-- the numbers on offer, as the code has them
abbrev pub next_j : maybe.Option ℕ → Option J
next_j o = option_map (λ n. record { 0 = n }) (option_back o)

abbrev pub next_i : maybe.Option ℕ → Option I
next_i o = option_map (λ n. record { 0 = n }) (option_back o)

abbrev pub offered_by : {S : Type 0} → Supply S → S → S → Option ToController → Offered
offered_by U s t came =
    record {
      j = next_j (U.next s);
      i = next_i (U.next t);
      unknown = ends.unknown (U.used t) (for_controller came);
    }

-- where no answer arrives, what is told is shown
abbrev pub as_it_is : Bool → Told → Shown
as_it_is ack told = record { report = told.report; ack = ack }

-- an outcome of the rules with readings, with what the code shows of it
pub record ReadOutcome (S : Type 0) : Type 0 where
  pub report : Report
  pub message : List ℕ
  pub after : Reading (rules.Bench S (List ℕ))
  pub out : List ℕ
  pub back : List ℕ

-- what was told and is shown so, with the numbers moved
unfoldable pub moved_with : {S : Type 0} → Supply S → S → S → Shown → Told → List ℕ → List ℕ → ReadOutcome S
moved_with U s t shown told out back =
    record {
      report = shown.report;
      message = told.message;
      after = reading (with_numbers told.after (moved U (move_means told.console) s) (moved U (move_means told.controller) t) out back) shown.ack;
      out = out;
      back = back;
    }

-- ## The step

unfoldable pub read_of : {S : Type 0} → Read (rules.Bench S (List ℕ)) (List ℕ) → ReadOutcome S
read_of o =
    record {
      report = report_back o.report;
      message = delivered o.report;
      after = o.after;
      out = channel to_controller_bytes o.after.history.to_controller;
      back = channel to_console_bytes o.after.history.to_console;
    }

unfoldable pub step_with : {S : Type 0} → Supply S → Modes → S → S → Bool → List ℕ → List ℕ → Line → Action → ReadOutcome S
step_with U b s t ack out back line a = read_of (read_step U is_message (reading (with_numbers b s t out back) ack) (action_of line a))
