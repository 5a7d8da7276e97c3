-- A console's state as 37 bytes, and what each entry for it does. Assumes nothing.
use Rattle.std.specs.Prelude.{ℕ, Bool, false, ◌&&◌, List, [], ◌∷◌, ◌++◌, length, get_or, drop, eqb, leb, Result}
use Rattle.ground.specs.Choice.{when◌then◌else◌}
use Rattle.ground.specs.Cell.{spaces}
use Rattle.ground.specs.declared.refusals.Refusal.{Refusal}
use Rattle.wire.specs.Frame.{field}
use Rattle.wire.specs.Number.{bytes_of, value}
use Rattle.wire.specs.Record.{record_read}
use Rattle.wire.specs.declared.NumberRecord.{NumberRecord}
use Rattle.wire.specs.declared.NumberRecord.TheVariants as number-record
use Rattle.numbers.specs.Numbers.{numbers_fresh}
use Rattle.numbers.specs.declared.Numbers.{Numbers}
use Rattle.ends_console.specs.Fields.{downed_console}
use Rattle.ends_console.specs.declared.fields.Console.{Console}
use Rattle.alone.specs.ConsoleAlone.{ConsoleAlone, console_alone}
use Rattle.boundary.specs.State.{numbers_bytes, numbers_at, flag, is_refusal, changed, told, start_in, start_bytes, written}

-- 0-9 its numbers, of J; 10-13 j; 14-17 last; 18 held; 19 up; 20 ack, 1 for OK. Flags are 0 or 1
abbrev pub front : Console → List ℕ
front c = numbers_bytes c.numbers ++ (bytes_of 4 c.j.0 ++ (bytes_of 4 c.last.0 ++ (flag c.held ∷ flag c.up ∷ flag c.ack ∷ [])))

-- 21-36 message
unfoldable pub console_bytes : Console → List ℕ
console_bytes c = front c ++ c.message

-- 37 bytes with three flags
unfoldable pub is_state : List ℕ → Bool
is_state s = eqb (length s) 37 && leb (get_or s 18 0) 1 && leb (get_or s 19 0) 1 && leb (get_or s 20 0) 1

unfoldable pub fields_at : List ℕ → Console
fields_at s =
    record {
      numbers = numbers_at s;
      held = eqb (get_or s 18 0) 1;
      message = drop 21 s;
      j = record { 0 = value (field s 10 4) };
      last = record { 0 = value (field s 14 4) };
      up = eqb (get_or s 19 0) 1;
      ack = eqb (get_or s 20 0) 1;
    }

-- what bytes that are no state stand for: fields that contradict each other, a j with no message held
abbrev pub no_console : Console
no_console =
    record { numbers = numbers_fresh 0; held = false; message = spaces; j = record { 0 = 1 }; last = record { 0 = 0 }; up = false; ack = false }

unfoldable pub console_at : List ℕ → Console
console_at s = when is_state s then fields_at s else no_console

-- its number record
abbrev pub console_record : Console → NumberRecord
console_record c = number-record.Console (record { 0 = c.numbers.reserved }) c.numbers.block

-- ## Start after power loss

abbrev pub start_at : List ℕ → Result Numbers Refusal
start_at r = start_in 1 (record_read r)

abbrev pub downed_bytes : List ℕ → List ℕ
downed_bytes r = start_bytes (λ n. console_bytes (downed_console n)) (start_at r)

-- ## A step

pub record ConsoleStep : Type 0 where
  pub told : ℕ
  pub state : List ℕ
  pub reply : List ℕ

-- what the console run alone does, with its fields in the state; a refusal leaves the state
abbrev pub stepped : List ℕ → ConsoleAlone → ConsoleStep
stepped s a =
    record {
      told = told a.outcome.report a.outcome.sent (changed (console_at s).numbers a.outcome.console.numbers);
      state = when is_refusal a.outcome.report then s else written 37 s (console_bytes a.outcome.console);
      reply = a.reply;
    }

abbrev pub console_state_step : List ℕ → ℕ → List ℕ → List ℕ → List ℕ → ConsoleStep
console_state_step s letter message packet reply = stepped s (console_alone (console_at s) letter message packet reply)
