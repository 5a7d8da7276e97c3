-- A console's fields in the rules and back, and the message that stands beside its act. Assumes nothing.
use Rattle.std.specs.Prelude.{ℕ, List}
use Rattle.ground.specs.Cell.{spaces}
use Rattle.rules.specs.Ends as rules
use Rattle.rules.specs.Supply.{numbering, Numbers}
use Rattle.rules.specs.Relabel.{in_console, in_console_acted}
use Rattle.rules.specs.Reading.{Reading, reading}
use Rattle.numbers.specs.Numbers.{numbers_back}
use Rattle.ends.specs.AsRules.{Beside}
use Rattle.ends_console.specs.AsRules as console
use Rattle.ends_console.specs.Fields.{console_end, console_with}
use Rattle.ends_console.specs.declared.Mode.TheVariants as mode
use Rattle.ends_console.specs.Types.{End}
use Rattle.ends_console.specs.declared.fields.Console.{Console}

-- the held message stands in the mode
abbrev pub console_means : Console → rules.Console Numbers (List ℕ)
console_means c = in_console (λ _. c.message) (console.end (console_end c))

-- with the ack beside it
abbrev pub console_reads : Console → Reading (rules.Console Numbers (List ℕ))
console_reads c = reading (console_means c) c.ack

abbrev pub console_back : Reading (rules.Console Numbers (List ℕ)) → Console
console_back r = fields r.history.mode
  where
    fields : rules.ConsoleMode (List ℕ) → Console
    fields rules.ConsoleMode.idle = console_with (numbers_back r.history.numbers) mode.Idle r.history.up r.ack spaces
    fields (rules.in_need_i j m) = console_with (numbers_back r.history.numbers) (mode.NeedI (record { 0 = j })) r.history.up r.ack m
    fields (rules.in_send last m) = console_with (numbers_back r.history.numbers) (mode.Send (record { 0 = last })) r.history.up r.ack m

-- a put's message is kept, else the one that is held
abbrev pub kept : rules.ConsoleAct Beside → List ℕ → List ℕ → List ℕ
kept (rules.put x) m held = m
kept rules.send_need_i m held = held
kept rules.send_data m held = held
kept (rules.ConsoleAct.take p) m held = held
kept rules.ConsoleAct.go_down m held = held
kept rules.ConsoleAct.come_back m held = held
kept rules.tell_ack m held = held

-- what an act that is not refused comes to, with the message that is held before it and the one that is put
abbrev pub console_acted : End → List ℕ → rules.ConsoleAct Beside → List ℕ → rules.ConsoleActed Numbers (List ℕ)
console_acted e held act message = in_console_acted (λ _. kept act message held) (rules.console_acts numbering (console.end e) act)
