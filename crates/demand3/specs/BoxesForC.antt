-- Demand 3 of two boxes over any radio, written in C over the header's entries: by the byte that a step returns, the state and the number record in
-- bytes. `console_state_step`, `controller_state_step`, `state_record_put` and `started` are the entries' own promises, so that these calls are the entries'
-- calls. Assumes nothing.
use Rattle.std.specs.Prelude.{ℕ, ◌+◌, ◌*◌, ◌/◌, ◌%◌, ◌<◌, ◌^◌, ◌≡◌, Bool, true, false, List, [], replicate, eqb}
use Rattle.ground.specs.Cell.{spaces}
use Rattle.ground.specs.Choice.{when◌then◌else◌}
use Rattle.wire.specs.Record.{end_of, number_of, block_of, is_good, record_bytes, renewed}
use Rattle.wire.specs.declared.NumberRecord.{NumberRecord}
use Rattle.rules.specs.Supply.{numbering}
use Rattle.numbers.specs.Numbers.{numbers_means, numbers_kept}
use Rattle.numbers.specs.declared.Numbers.{Numbers}
use Rattle.ends_console.specs.Fields.{console_ok, console_with}
use Rattle.ends_console.specs.declared.Mode.TheVariants as console-mode
use Rattle.ends_controller.specs.Fields.{controller_ok, controller_with}
use Rattle.ends_controller.specs.declared.Mode.TheVariants as controller-mode
use Rattle.ends.specs.declared.Report.{Report}
use Rattle.boundary.specs.State.{state_record_put, started}
use Rattle.boundary.specs.Console as console
use Rattle.boundary.specs.Console.{console_at, console_record, console_bytes, console_state_step}
use Rattle.boundary.specs.Controller as controller
use Rattle.boundary.specs.Controller.{controller_at, controller_record, controller_bytes, controller_state_step}
use Rattle.demand3.specs.BenchForC.{byte_says}
use Rattle.demand3.specs.AnyBoxes.{Call, Kind, Boxes, Event, AnyRight}
use Rattle.demand3.specs.Boxes.{is_for_console, is_for_controller}

-- ## What the byte says: NOOSELESS_KEEP, NOOSELESS_SENT, and the report without them

abbrev pub keep_told : ℕ → Bool
keep_told t = eqb (t / 32 % 2) 1

abbrev pub sent_told : ℕ → Bool
sent_told t = eqb (t / 128 % 2) 1

unfoldable pub report_told : ℕ → Report
report_told t = byte_says (t % 32 + 64 * (t / 64 % 2))

-- ## The rule that a box has to keep: the record first, where the byte says so; then the report; then the reply

-- a buffer of 16 bytes
abbrev pub buffer : List ℕ
buffer = replicate 16 0

-- of an end that is well formed or not, and its record
unfoldable pub record_kept : ℕ → Bool → NumberRecord → List ℕ → List ℕ
record_kept t ok r kept = when keep_told t then state_record_put ok r buffer else kept

-- ## What runs in them: each end's state, 37 and 23 bytes, and its number record as it is kept, 16 bytes, or 12 until the first is kept

-- what a step comes to: the byte that it returns, the state, the reply buffer, and the 16 bytes lent for a delivery (none for the console)
pub record Stepped : Type 0 where
  pub told : ℕ
  pub state : List ℕ
  pub reply : List ℕ
  pub delivered : List ℕ

abbrev pub console_steps : List ℕ → Call → Stepped
console_steps s c =
    let t = console_state_step s c.letter c.message c.packet c.reply in
    record { told = t.told; state = t.state; reply = t.reply; delivered = [] }

abbrev pub controller_steps : List ℕ → Call → Stepped
controller_steps s c =
    let t = controller_state_step s c.letter c.packet c.reply c.lent in
    record { told = t.told; state = t.state; reply = t.reply; delivered = t.delivered }

abbrev pub console_keeps : Stepped → List ℕ → List ℕ
console_keeps t kept = record_kept t.told (console_ok (console_at t.state)) (console_record (console_at t.state)) kept

abbrev pub controller_keeps : Stepped → List ℕ → List ℕ
controller_keeps t kept = record_kept t.told (controller_ok (controller_at t.state)) (controller_record (controller_at t.state)) kept

-- by its step, what it keeps, its start after power loss, and the bytes that are for it
abbrev pub in_c : (List ℕ → Call → Stepped) → (Stepped → List ℕ → List ℕ) → (List ℕ → List ℕ → List ℕ) → (List ℕ → Bool) → Kind
in_c step keeps starts is_for =
    record {
      End = List ℕ;
      Kept = List ℕ;
      Told = Stepped;
      step = step;
      left = λ t. t.state;
      report = λ t. report_told t.told;
      cells = λ t. t.delivered;
      sends = λ t. sent_told t.told;
      reply = λ t. t.reply;
      keeps = keeps;
      starts = starts;
      is_for = is_for;
    }

abbrev pub console_in_c : Kind
console_in_c = in_c console_steps console_keeps (λ s kept. started 37 s (console.start_at kept) (console.downed_bytes kept)) is_for_console

abbrev pub controller_in_c : Kind
controller_in_c = in_c controller_steps controller_keeps (λ s kept. started 23 s (controller.start_at kept) (controller.downed_bytes kept)) is_for_controller

-- ## Where they start

-- a number record of this end, of either version, as one that is read is
pub record RecordOf (end : ℕ) (r : NumberRecord) : Type 0 where
  pub own : end_of r ≡ end
  pub fits : number_of r < 2 ^ 32
  pub good : is_good r ≡ true

-- the numbers of a record of either version, as `.._downed` takes them
abbrev pub numbers_of : NumberRecord → Numbers
numbers_of r = numbers_kept (number_of (renewed r)) (block_of (renewed r))

-- up and idle with the numbers of any two records, which are kept; a box that starts after power loss has had a cut before
abbrev pub start : NumberRecord → NumberRecord → Boxes console_in_c controller_in_c
start j i =
    record {
      console = record { end = console_bytes (console_with (numbers_of j) console-mode.Idle true false spaces); kept = record_bytes j; sent = [] };
      controller = record { end = controller_bytes (controller_with (numbers_of i) controller-mode.Idle true); kept = record_bytes i; sent = [] };
    }

-- ## Demand 3 as request 2 words it

abbrev pub BoxesForCRight : NumberRecord → NumberRecord → List Event → Type 0
BoxesForCRight j i es = AnyRight numbering (start j i) (numbers_means (numbers_of j)) (numbers_means (numbers_of i)) es
