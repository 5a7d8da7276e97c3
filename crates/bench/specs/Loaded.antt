-- What the step with its numbers promises, of a bench that is known to be well formed, and what the runner's parts promise. Nothing of it stands in the
-- promise of an entry. Assumes nothing.
use Rattle.std.specs.Prelude.{ℕ, ◌<◌, ◌^◌, ◌≡◌, Bool, true, false, List, length, get_or, Option, None, Some}
use Rattle.std.proofs.Math.Option as maybe
use Rattle.ground.specs.Cell.{is_message, spaces}
use Rattle.rules.specs.Supply as supply
use Rattle.rules.specs.Supply.{numbering}
use Rattle.rules.specs.Ends as ends
use Rattle.rules.specs.Bench as rules
use Rattle.rules.specs.Reading.{Reading, reading, Read, read_step}
use Rattle.rules.specs.Letters.{letter}
use Rattle.letters.specs.Lines.{letter_of, found_of, Lined}
use Rattle.letters.specs.declared.Line.{Line}
use Rattle.listing.specs.Record.{list_record}
use Rattle.listing.specs.declared.Fields.{Fields}
use Rattle.numbers.specs.Numbers.{numbers_means, numbers_fresh, numbers_moved}
use Rattle.numbers.specs.declared.Numbers.{Numbers}
use Rattle.ends.specs.declared.ToController.{ToController}
use Rattle.ends_console.specs.Fields.{console_with}
use Rattle.ends_console.specs.declared.Mode.TheVariants as console-mode
use Rattle.ends_console.specs.Types as console-types
use Rattle.ends_console.specs.declared.ack.Shown.{Shown}
use Rattle.ends_console.specs.declared.fields.Console.{Console}
use Rattle.ends_controller.specs.Fields.{controller_with}
use Rattle.ends_controller.specs.declared.Mode.TheVariants as controller-mode
use Rattle.ends_controller.specs.Types as controller-types
use Rattle.ends_controller.specs.declared.fields.Controller.{Controller}
use Rattle.bench.specs.ByModes.{action_of}
use Rattle.bench.specs.WithNumbers.{with_numbers, WellWith, offered_by, ReadOutcome, read_of, step_with}
use Rattle.bench.specs.Promise.{Result, step_of}
use Rattle.bench.specs.Reports.{report_line}
use Rattle.bench.specs.Running.{uses_of, action_with, played, lines, records_of, limit_of}
use Rattle.bench.specs.declared.Action.{Action}
use Rattle.bench.specs.declared.Bench.{Bench}
use Rattle.bench.specs.declared.Outcome.{Outcome}
use Rattle.bench.specs.declared.loaded.Loaded.{Loaded}
use Rattle.bench.specs.declared.loaded.Stepped.{Stepped}
use Rattle.bench.specs.declared.modes.Offered.{Offered}
use Rattle.bench.specs.declared.modes.Told.{Told}

-- ## A bench by its modes, with its numbers, in the rules

abbrev pub loaded_means : Loaded → List ℕ → List ℕ → rules.Bench supply.Numbers (List ℕ)
loaded_means b out back = with_numbers b.modes (numbers_means b.console) (numbers_means b.controller) out back

-- with the ack beside it
abbrev pub loaded_reads : Loaded → List ℕ → List ℕ → Reading (rules.Bench supply.Numbers (List ℕ))
loaded_reads b out back = reading (loaded_means b out back) b.ack

-- well formed, and the tables hold these packets and zero bytes
abbrev pub Well : Loaded → List ℕ → List ℕ → Type 0
Well b out back = WellWith numbering b.modes (numbers_means b.console) (numbers_means b.controller) out back

-- ## The thin layer

abbrev pub numbers_offered : Numbers → Numbers → Option ToController → Offered
numbers_offered c d came = offered_by numbering (numbers_means c) (numbers_means d) came

-- what is shown, and the ack then
abbrev pub moved_by : Numbers → Numbers → Shown → Told → Stepped
moved_by c d shown told =
    record {
      report = shown.report;
      message = told.message;
      after = record { modes = told.after; console = numbers_moved told.console c; controller = numbers_moved told.controller d; ack = shown.ack };
    }

-- ## The step

unfoldable pub stepped_as : Stepped → List ℕ → List ℕ → ReadOutcome supply.Numbers
stepped_as r out back = record { report = r.report; message = r.message; after = loaded_reads r.after out back; out = out; back = back }

abbrev pub loaded_step : Loaded → List ℕ → List ℕ → Line → Action → ReadOutcome supply.Numbers
loaded_step b out back line a = step_with numbering b.modes (numbers_means b.console) (numbers_means b.controller) b.ack out back line a

-- ## Between the fields and the modes

-- what the types of the ends' fields say
pub record Typed (c : Console) (d : Controller) : Type 0 where
  pub message : length c.message ≡ 16
  pub console_last : c.last.0 < 2 ^ 32
  pub controller_j : d.j.0 < 2 ^ 32

-- the ends that the fields stand for, and the counts
unfoldable pub loaded_of : console-types.End → Bool → List ℕ → controller-types.End → ℕ → ℕ → Loaded
loaded_of e ack held f sent returned =
    record {
      modes = record { console = record { mode = e.mode; up = e.up; held = held }; controller = record { mode = f.mode; up = f.up }; sent = sent; returned = returned };
      console = e.numbers;
      controller = f.numbers;
      ack = ack;
    }

abbrev pub bench_of : Loaded → Bench
bench_of b =
    record {
      console = console_with b.console b.modes.console.mode b.modes.console.up b.ack b.modes.console.held;
      controller = controller_with b.controller b.modes.controller.mode b.modes.controller.up;
      sent = b.modes.sent;
      returned = b.modes.returned;
    }

unfoldable pub outcome_of : Stepped → Outcome
outcome_of t = record { report = t.report; message = t.message; bench = bench_of t.after }

-- the step of a letter that is an action
unfoldable pub lined_step : Bench → Line → Action → List ℕ → List ℕ → Result
lined_step b line a out back = step_of (maybe.some (letter_of line)) b a out back

-- ## What the runner's parts promise

-- a line that was found is one of the table
abbrev pub FoundLined : Option Line → Type 0
FoundLined None = Unit {0}
FoundLined (Some l) = Lined l

-- a record that is not well formed is 1
abbrev pub fields_outcome : Line → Option Fields → Loaded → List ℕ → List ℕ → Read (rules.Bench supply.Numbers (List ℕ)) (List ℕ)
fields_outcome l None b out back = record { report = ends.refused 1; after = loaded_reads b out back }
fields_outcome l (Some r) b out back = read_step numbering is_message (loaded_reads b out back) (action_of l (action_with l r))

-- and so is one whose letter is no action's
abbrev pub record_outcome : Option Line → List ℕ → Loaded → List ℕ → List ℕ → Read (rules.Bench supply.Numbers (List ℕ)) (List ℕ)
record_outcome None s b out back = record { report = ends.refused 1; after = loaded_reads b out back }
record_outcome (Some l) s b out back = fields_outcome l (list_record (uses_of l) s) b out back

unfoldable pub line_step : Loaded → List ℕ → List ℕ → Line → List ℕ → ReadOutcome supply.Numbers
line_step b out back l s = read_of (record_outcome (Some l) s b out back)

unfoldable pub record_step : Loaded → List ℕ → List ℕ → List ℕ → ReadOutcome supply.Numbers
record_step b out back s = read_of (record_outcome (found_of (letter (get_or s 0 0))) s b out back)

-- a record played: its line, and what is known afterwards
pub record Played (b : Loaded) (out back : List ℕ) (s : List ℕ) (number : ℕ) (after : Loaded) (line out' back' : List ℕ) : Type 0 where
  pub known : Well after out' back'
  pub written : line ≡ report_line number (get_or s 0 0) (played (bench_of b) out back s).outcome.report (played (bench_of b) out back s).outcome.message
  pub bench_is : bench_of after ≡ (played (bench_of b) out back s).outcome.bench
  pub out_is : out' ≡ (played (bench_of b) out back s).out
  pub back_is : back' ≡ (played (bench_of b) out back s).back

unfoldable pub lines_on : Loaded → List ℕ → List ℕ → List ℕ → ℕ → List ℕ
lines_on b out back input room = lines 1 (bench_of b) out back (records_of (limit_of room) input)

-- a fresh bench with 0 and 0
abbrev pub started : Loaded
started =
    record {
      modes =
          record {
            console = record { mode = console-mode.Idle; up = true; held = spaces };
            controller = record { mode = controller-mode.Idle; up = true };
            sent = 0;
            returned = 0;
          };
      console = numbers_fresh 0;
      controller = numbers_fresh 0;
      ack = false;
    }
