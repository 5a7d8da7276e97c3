-- The fields of a console: when they are well formed, and the end that they stand for. Assumes nothing.
use Rattle.std.specs.Prelude.{ℕ, Bool, true, false, not, ◌&&◌, List, eqb, Option, None, Some}
use Rattle.ground.specs.Cell.{is_message, spaces}
use Rattle.ground.specs.Every.{filled}
use Rattle.ground.specs.Choice.{when◌then◌else◌}
use Rattle.wire.specs.declared.I.{I}
use Rattle.wire.specs.declared.J.{J}
use Rattle.rules.specs.Supply.{numbering}
use Rattle.numbers.specs.Numbers.{numbers_means, numbers_kept, numbers_fresh}
use Rattle.numbers.specs.declared.Numbers.{Numbers}
use Rattle.ends_console.specs.declared.Mode.{Mode}
use Rattle.ends_console.specs.declared.Mode.TheVariants.{NeedI, Send}
use Rattle.ends_console.specs.Types.{End}
use Rattle.ends_console.specs.declared.fields.Console.{Console}

-- What the variables say by themselves, wherever the numbers come from: with a message held, 16 cells, exactly one of j and last is not 0; with none both are 0 and the
-- message is 16 spaces
abbrev pub variables_fit : Bool → List ℕ → J → I → Bool
variables_fit held message j last =
    when held
    then is_message message && (when eqb j.0 0 then not (eqb last.0 0) else eqb last.0 0)
    else eqb j.0 0 && eqb last.0 0 && filled 0x20 message

-- idle, needI (j set), send (last set)
abbrev pub variables_mode : Bool → J → I → Mode
variables_mode held j last = when held then (when eqb j.0 0 then Send last else NeedI j) else Mode.Idle

unfoldable pub mode_read : Bool → List ℕ → J → I → Option Mode
mode_read held message j last =
    when variables_fit held message j last then Some (variables_mode held j last) else None

-- j is not set, or one of its own numbers
abbrev pub own_or_none : Numbers → J → Bool
own_or_none u j = when eqb j.0 0 then true else numbering.used (numbers_means u) j.0

-- its numbers are sound: last used at most reserved, a block of 1 to 1,024. Its variables fit, and j is one of its own numbers. Any ack is well formed
unfoldable pub console_ok : Console → Bool
console_ok c =
    numbering.sound (numbers_means c.numbers)
    && (variables_fit c.held c.message c.j c.last && own_or_none c.numbers c.j)

unfoldable pub console_mode : Console → Mode
console_mode c = variables_mode c.held c.j c.last

abbrev pub console_end : Console → End
console_end c = record { numbers = c.numbers; mode = console_mode c; up = c.up }

unfoldable pub console_read : Console → Option End
console_read c = when console_ok c then Some (console_end c) else None

-- document 01's number of each case
abbrev pub console_read_refusal : Option End → ℕ
console_read_refusal None = 2
console_read_refusal (Some e) = 0

abbrev pub console_with : Numbers → Mode → Bool → Bool → List ℕ → Console
console_with numbers Mode.Idle up ack m =
    record { numbers = numbers; held = false; message = spaces; j = record { 0 = 0 }; last = record { 0 = 0 }; up = up; ack = ack }
console_with numbers (NeedI j) up ack m =
    record { numbers = numbers; held = true; message = m; j = j; last = record { 0 = 0 }; up = up; ack = ack }
console_with numbers (Send last) up ack m =
    record { numbers = numbers; held = true; message = m; j = record { 0 = 0 }; last = last; up = up; ack = ack }

abbrev pub console_fields : End → Bool → List ℕ → Console
console_fields e ack m = console_with e.numbers e.mode e.up ack m

-- its numbers as its number record holds them, which a box keeps through a power loss
abbrev pub console_kept : Console → Numbers
console_kept c = numbers_kept c.numbers.reserved c.numbers.block

-- at first and after power loss the ack is lost
abbrev pub fresh_console : J → Console
fresh_console used = console_with (numbers_fresh used.0) Mode.Idle true false spaces

abbrev pub downed_console : Numbers → Console
downed_console kept = console_with kept Mode.Idle false false spaces
