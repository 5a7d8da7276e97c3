-- The fields that a console's mode stands for, by way of the rules.
use Prim.Native.Nat.{ℕ}
use mathlib.Core.Path.{◌≡◌, refl, ◌∙◌}
use mathlib.Core.Bool.{Bool, true}
use mathlib.Core.List.{List}
use lib.ListN.{length}
use Rattle.rules.specs.Ends as rules
use Rattle.rules.specs.Supply as rules-supply
use Rattle.numbers.specs.Numbers.{numbers_back}
use Rattle.numbers.specs.declared.Numbers.{Numbers}
use Rattle.rules.specs.Reading.{reading}
use Rattle.rules.specs.Relabel.{in_mode, in_console}
use Rattle.ends.specs.AsRules.{Beside}
use Rattle.ends_console.specs.AsRules.{mode_back, end}
use Rattle.ends_console.specs.Fields.{console_ok, console_mode, console_end, console_with}
use Rattle.ends_console.specs.FieldsAsRules.{console_means, console_reads, console_back}
use Rattle.ends_console.specs.declared.Mode.{Mode}
use Rattle.ends_console.specs.declared.Mode.TheVariants.{Idle, NeedI, Send}
use Rattle.ends_console.specs.declared.fields.Console.{Console}
use Rattle.ends_console.proofs.FieldsRead.{fields_back}

-- the fields that an end's mode stands for
pub fields_told : (n : rules-supply.Numbers) (x : rules.ConsoleMode Beside) (up ack : Bool) (k : List ℕ)
    → console_with (numbers_back n) (mode_back x) up ack k ≡ console_back (reading (record { numbers = n; mode = in_mode (λ _. k) x; up = up }) ack)
fields_told n rules.ConsoleMode.idle up ack k = refl
fields_told n (rules.in_need_i j m) up ack k = refl
fields_told n (rules.in_send l m) up ack k = refl

-- the fields of a well-formed console, by way of the rules
pub fields_of : (u : Numbers) (k : Mode) (up ack : Bool) (m : List ℕ)
    → console_back (reading (in_console (λ _. m) (end (record { numbers = u; mode = k; up = up }))) ack) ≡ console_with u k up ack m
fields_of u Idle up ack m = refl
fields_of u (NeedI j) up ack m = refl
fields_of u (Send l) up ack m = refl

pub unchanged : (c : Console) → length c.message ≡ 16 → console_ok c ≡ true → console_back (console_reads c) ≡ c
unchanged c long ok = fields_of c.numbers (console_end c).mode c.up c.ack c.message ∙ fields_back c long ok

-- with another ack
pub only_its_ack : (c : Console) (ack : Bool) → length c.message ≡ 16 → console_ok c ≡ true
    → console_back (reading (console_means c) ack) ≡ record { numbers = c.numbers; held = c.held; message = c.message; j = c.j; last = c.last; up = c.up; ack = ack }
unfolding console_ok console_mode
only_its_ack c ack long ok =
    fields_of c.numbers (console_end c).mode c.up ack c.message
    ∙ fields_back (record { numbers = c.numbers; held = c.held; message = c.message; j = c.j; last = c.last; up = c.up; ack = ack }) long ok
