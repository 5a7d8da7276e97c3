-- Well-formed fields stand for a well-formed console of the rules, and such a console is written back as well-formed fields that mean it.
use Prim.Native.Nat.{ℕ, ◌<◌, ◌^◌}
use mathlib.Core.Path.{◌≡◌, refl}
use mathlib.Core.Bool.{Bool, true}
use mathlib.Core.List.{List}
use native.Mathlib.Omega.{arith}
use lib.ListN.{length}
use borrow.Author.Tests.{ne_eqb}
use Rattle.ground.specs.Cell.{is_message, spaces}
use Rattle.ground.specs.Choice.{chosen}
use Rattle.wire.specs.declared.I.{I}
use Rattle.wire.specs.declared.J.{J}
use Rattle.rules.specs.Supply as supply
use Rattle.rules.specs.Supply.{numbering}
use Rattle.rules.specs.Ends as rules
use Rattle.rules.specs.Bears.{ConsoleBears}
use Rattle.rules.specs.Reading.{Reading, reading}
use Rattle.rules.specs.WellFormed.{Number, Given, Good, ConsoleOk}
use Rattle.numbers.specs.Numbers.{numbers_means, numbers_back}
use Rattle.numbers.specs.declared.Numbers.{Numbers}
use Rattle.numbers.proofs.Range.{number_is, number_above, given_is}
use Rattle.ends_console.specs.Fields.{console_ok, console_mode, console_with}
use Rattle.ends_console.specs.FieldsAsRules.{console_means, console_reads, console_back}
use Rattle.ends_console.specs.declared.Mode.TheVariants.{Idle, NeedI, Send}
use Rattle.ends_console.specs.declared.fields.Console.{Console}
use Rattle.ends_console.proofs.FieldsRead.{Sound, its_own, by_mode, idle_ok}

-- ## Fields, in the rules; `last` is the other end's, and its type says that it fits

abbrev Meant : Console → Type 0
Meant c = c.last.0 < 2 ^ 32 → ConsoleOk numbering is_message (console_means c)

idle_meant : (u : Numbers) (up ack : Bool) → Sound u → Meant (console_with u Idle up ack spaces)
unfolding console_mode chosen
idle_meant u up ack s b = record { numbers = s; mode = tt }

need_i_meant : (u : Numbers) (j : J) (up ack : Bool) (m : List ℕ) → Sound u → 0 < j.0 → its_own u j ≡ true → is_message m ≡ true → Meant (console_with u (NeedI j) up ack m)
unfolding console_mode chosen
need_i_meant u j up ack m s h o g b = rw (ne_eqb j.0 0 (omega arith)) (record { numbers = s; mode = (given_is (numbers_means u) j.0 s h o, g) })

send_meant : (u : Numbers) (l : I) (up ack : Bool) (m : List ℕ) → Sound u → 0 < l.0 → is_message m ≡ true → Meant (console_with u (Send l) up ack m)
unfolding console_mode chosen
send_meant u l up ack m s h g b = record { numbers = s; mode = (number_is l.0 h b, g) }

pub console_good : (c : Console) → length c.message ≡ 16 → console_ok c ≡ true → c.last.0 < 2 ^ 32 → ConsoleOk numbering is_message (console_means c)
console_good c long ok = by_mode Meant idle_meant need_i_meant send_meant c long ok

-- ## A console of the rules, as fields

abbrev pub ConsoleStands : Reading (rules.Console supply.Numbers (List ℕ)) → Type 0
ConsoleStands r = (console_ok (console_back r) ≡ true) × (console_reads (console_back r) ≡ r)

module _ (u : supply.Numbers) (up ack : Bool) (s : numbering.sound u ≡ true) where
  idle_stands : ConsoleStands (reading (record { numbers = u; mode = rules.ConsoleMode.idle; up = up }) ack)
  unfolding console_mode chosen
  idle_stands = (idle_ok (numbers_back u) up ack s, refl)

  need_i_stands : (j : ℕ) (m : List ℕ) → 0 < j → numbering.used u j ≡ true → is_message m ≡ true → ConsoleStands (reading (record { numbers = u; mode = rules.in_need_i j m; up = up }) ack)
  unfolding console_ok console_mode chosen
  need_i_stands j m h o g = rw (s, ne_eqb j 0 (omega (arith, h)), g, o) (refl, refl)

  send_stands : (l : ℕ) (m : List ℕ) → 0 < l → is_message m ≡ true → ConsoleStands (reading (record { numbers = u; mode = rules.in_send l m; up = up }) ack)
  unfolding console_ok console_mode chosen
  send_stands l m h g = rw (s, ne_eqb l 0 (omega (arith, h)), g) (refl, refl)

  mode_stands : (k : rules.ConsoleMode (List ℕ)) → ConsoleBears (Given numbering u) (Number numbering) (Good is_message) k → ConsoleStands (reading (record { numbers = u; mode = k; up = up }) ack)
  mode_stands rules.ConsoleMode.idle h = idle_stands
  mode_stands (rules.in_need_i j m) h = need_i_stands j m (number_above j h.0.0) h.0.1 h.1
  mode_stands (rules.in_send l m) h = send_stands l m (number_above l h.0) h.1

pub console_stands : (e : rules.Console supply.Numbers (List ℕ)) (ack : Bool) → ConsoleOk numbering is_message e → ConsoleStands (reading e ack)
console_stands e ack w = mode_stands e.numbers e.up ack w.numbers e.mode w.mode
