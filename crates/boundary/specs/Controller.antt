-- A controller's state as 23 bytes, and what each entry for it does. Assumes nothing.
use Rattle.std.specs.Prelude.{ℕ, Bool, false, ◌&&◌, List, [], ◌∷◌, ◌++◌, length, get_or, eqb, leb, Result}
use Rattle.ground.specs.Choice.{when◌then◌else◌}
use Rattle.ground.specs.declared.refusals.Refusal.{Refusal}
use Rattle.wire.specs.Frame.{field}
use Rattle.wire.specs.Number.{bytes_of, value}
use Rattle.wire.specs.Record.{record_read}
use Rattle.wire.specs.declared.NumberRecord.{NumberRecord}
use Rattle.wire.specs.declared.NumberRecord.TheVariants as number-record
use Rattle.numbers.specs.Numbers.{numbers_fresh}
use Rattle.numbers.specs.declared.Numbers.{Numbers}
use Rattle.ends_controller.specs.Fields.{downed_controller}
use Rattle.ends.specs.declared.Report.{Report}
use Rattle.ends.specs.declared.Report.TheVariants as report
use Rattle.ends_controller.specs.declared.fields.Controller.{Controller}
use Rattle.alone.specs.ControllerAlone.{ControllerAlone, controller_alone}
use Rattle.boundary.specs.State.{numbers_bytes, numbers_at, flag, is_refusal, changed, told, start_in, start_bytes, written}

-- 0-9 its numbers, of I; 10-13 j; 14-17 i; 18-21 last; 22 up. The flag is 0 or 1
unfoldable pub controller_bytes : Controller → List ℕ
controller_bytes c =
    numbers_bytes c.numbers ++ (bytes_of 4 c.j.0 ++ (bytes_of 4 c.i.0 ++ (bytes_of 4 c.last.0 ++ (flag c.up ∷ []))))

-- 23 bytes with a flag
unfoldable pub is_state : List ℕ → Bool
is_state s = eqb (length s) 23 && leb (get_or s 22 0) 1

unfoldable pub fields_at : List ℕ → Controller
fields_at s =
    record {
      numbers = numbers_at s;
      j = record { 0 = value (field s 10 4) };
      i = record { 0 = value (field s 14 4) };
      last = record { 0 = value (field s 18 4) };
      up = eqb (get_or s 22 0) 1;
    }

-- what bytes that are no state stand for: fields that contradict each other, a j with no i
abbrev pub no_controller : Controller
no_controller =
    record { numbers = numbers_fresh 0; j = record { 0 = 1 }; i = record { 0 = 0 }; last = record { 0 = 0 }; up = false }

unfoldable pub controller_at : List ℕ → Controller
controller_at s = when is_state s then fields_at s else no_controller

-- its number record
abbrev pub controller_record : Controller → NumberRecord
controller_record c = number-record.Controller (record { 0 = c.numbers.reserved }) c.numbers.block

-- ## Start after power loss

abbrev pub start_at : List ℕ → Result Numbers Refusal
start_at r = start_in 2 (record_read r)

abbrev pub downed_bytes : List ℕ → List ℕ
downed_bytes r = start_bytes (λ n. controller_bytes (downed_controller n)) (start_at r)

-- ## A step

pub record ControllerStep : Type 0 where
  pub told : ℕ
  pub state : List ℕ
  pub reply : List ℕ
  pub delivered : List ℕ

-- the lent 16 bytes are the delivered message's; with nothing delivered they are untouched
abbrev pub delivered_to : Report → List ℕ → List ℕ → List ℕ
delivered_to report.Nothing m out = out
delivered_to report.Delivered m out = m
delivered_to report.Ok m out = out
delivered_to report.Lost m out = out
delivered_to (report.Refused r) m out = out

-- what the controller run alone does, with its fields in the state; a refusal leaves the state
abbrev pub stepped : List ℕ → List ℕ → ControllerAlone → ControllerStep
stepped s out a =
    record {
      told = told a.outcome.report a.outcome.sent (changed (controller_at s).numbers a.outcome.controller.numbers);
      state = when is_refusal a.outcome.report then s else written 23 s (controller_bytes a.outcome.controller);
      reply = a.reply;
      delivered = delivered_to a.outcome.report a.outcome.message out;
    }

abbrev pub controller_state_step : List ℕ → ℕ → List ℕ → List ℕ → List ℕ → ControllerStep
controller_state_step s letter packet reply out = stepped s out (controller_alone (controller_at s) letter packet reply)
