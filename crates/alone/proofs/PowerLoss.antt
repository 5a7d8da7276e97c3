-- Power loss is a crash: an end that starts from its number record, with nothing else, comes back as the very end that went down does.
use Prim.Native.Nat.{ℕ}
use mathlib.Core.Path.{◌≡◌, refl, sym, ◌∙◌}
use mathlib.Core.Bool.{true, false}
use mathlib.Core.List.{List}
use lib.ListN.{length}
use Rattle.ground.specs.Cell.{spaces}
use Rattle.rules.specs.Letters.{line, letters, among, letter}
use Rattle.rules.specs.Ends as rules
use Rattle.rules.specs.Reading.{said, ack_after, console_read_step}
use Rattle.rules.proofs.Supply.{back_is_reserved, stored_sound}
use Rattle.numbers.specs.Numbers.{numbers_means, numbers_back}
use Rattle.ends_console.specs.Fields.{console_ok, console_mode, console_with, console_kept, downed_console}
use Rattle.ends_controller.specs.Fields.{controller_ok, controller_mode, controller_with, controller_kept, downed_controller}
use Rattle.ends_console.proofs.FieldsAsRules as console
use Rattle.ends_console.proofs.FieldsRead as console-read
use Rattle.ends_controller.proofs.FieldsAsRules as controller
use Rattle.ends_controller.proofs.FieldsRead as controller-read
use Rattle.ends.specs.declared.Report.TheVariants as report
use Rattle.ends_console.specs.declared.Mode.TheVariants as console-mode
use Rattle.ends_controller.specs.declared.Mode.TheVariants as controller-mode
use Rattle.ends_console.specs.declared.fields.Console.{Console}
use Rattle.ends_controller.specs.declared.fields.Controller.{Controller}
use Rattle.alone.specs.ConsoleAlone.{ConsoleAlone, console_alone_acts, console_alone}
use Rattle.alone.specs.ControllerAlone.{ControllerAlone, controller_alone_acts, controller_alone}

-- ## The console: C is 0x43, V is 0x56

-- nothing to report and nothing sent
abbrev console_quiet : Console → List ℕ → ConsoleAlone
console_quiet c reply = record { outcome = record { report = report.Nothing; sent = false; console = c }; reply = reply }

-- going down clears nothing
abbrev console_off : Console → Console
console_off c = record { numbers = c.numbers; held = c.held; message = c.message; j = c.j; last = c.last; up = false; ack = c.ack }

console_goes_down : (c : Console) → length c.message ≡ 16 → console_ok c ≡ true → (m packet reply : List ℕ) → console_alone c 0x43 m packet reply ≡ console_quiet (console_off c) reply
unfolding console_alone console_alone_acts console_read_step said ack_after console_ok console_mode rules.ends line letters among letter
console_goes_down c long ok m packet reply = rw ok (λ i. console_quiet (console.unchanged (console_off c) long ok i) reply)

-- up and idle, with all that was reserved used, and the ack lost
abbrev console_back : Console → Console
console_back c = console_with (console_kept c) console-mode.Idle true false spaces

console_comes_back : (c : Console) → console_ok c ≡ true → c.up ≡ false → (m packet reply : List ℕ) → console_alone c 0x56 m packet reply ≡ console_quiet (console_back c) reply
unfolding console_alone console_alone_acts console_read_step said ack_after rules.ends line letters among letter
console_comes_back c ok down m packet reply =
    rw (ok, down) (λ i. console_quiet (console_with (numbers_back (back_is_reserved (numbers_means c.numbers) (console-read.ok_sound c ok) i)) console-mode.Idle true false spaces) reply)

module _ (c : Console) (ok : console_ok c ≡ true) where
  downed_ok : console_ok (downed_console (console_kept c)) ≡ true
  downed_ok = console-read.idle_ok (console_kept c) false false (stored_sound (numbers_means c.numbers) (console-read.ok_sound c ok))

  -- of one that is down already
  pub console_starts_as_down : c.up ≡ false → (m packet reply : List ℕ) → console_alone (downed_console (console_kept c)) 0x56 m packet reply ≡ console_alone c 0x56 m packet reply
  console_starts_as_down down m packet reply =
      console_comes_back (downed_console (console_kept c)) downed_ok refl m packet reply ∙ sym (console_comes_back c ok down m packet reply)

  -- of one that went down by C, whatever C was lent
  pub console_power_loss_is_a_crash : length c.message ≡ 16 → (m packet reply n came room : List ℕ) → console_alone (downed_console (console_kept c)) 0x56 m packet reply ≡ console_alone (console_alone c 0x43 n came room).outcome.console 0x56 m packet reply
  unfolding console_ok
  console_power_loss_is_a_crash long m packet reply n came room =
      console_comes_back (downed_console (console_kept c)) downed_ok refl m packet reply
      ∙ rw (console_goes_down c long ok n came room) (sym (console_comes_back (console_off c) ok refl m packet reply))

-- ## The controller: X is 0x58, Y is 0x59

abbrev controller_quiet : Controller → List ℕ → ControllerAlone
controller_quiet c reply = record { outcome = record { report = report.Nothing; message = spaces; sent = false; controller = c }; reply = reply }

abbrev controller_off : Controller → Controller
controller_off c = record { numbers = c.numbers; j = c.j; i = c.i; last = c.last; up = false }

controller_goes_down : (c : Controller) → controller_ok c ≡ true → (packet reply : List ℕ) → controller_alone c 0x58 packet reply ≡ controller_quiet (controller_off c) reply
unfolding controller_alone controller_alone_acts controller_ok controller_mode rules.ends line letters among letter
controller_goes_down c ok packet reply = rw ok (λ i. controller_quiet (controller.unchanged (controller_off c) ok i) reply)

abbrev controller_back : Controller → Controller
controller_back c = controller_with (controller_kept c) controller-mode.Idle true

controller_comes_back : (c : Controller) → controller_ok c ≡ true → c.up ≡ false → (packet reply : List ℕ) → controller_alone c 0x59 packet reply ≡ controller_quiet (controller_back c) reply
unfolding controller_alone controller_alone_acts rules.ends line letters among letter
controller_comes_back c ok down packet reply =
    rw (ok, down) (λ i. controller_quiet (controller_with (numbers_back (back_is_reserved (numbers_means c.numbers) (controller-read.ok_sound c ok) i)) controller-mode.Idle true) reply)

module _ (c : Controller) (ok : controller_ok c ≡ true) where
  controller_downed_ok : controller_ok (downed_controller (controller_kept c)) ≡ true
  controller_downed_ok = controller-read.idle_ok (controller_kept c) false (stored_sound (numbers_means c.numbers) (controller-read.ok_sound c ok))

  -- of one that is down already
  pub controller_starts_as_down : c.up ≡ false → (packet reply : List ℕ) → controller_alone (downed_controller (controller_kept c)) 0x59 packet reply ≡ controller_alone c 0x59 packet reply
  controller_starts_as_down down packet reply =
      controller_comes_back (downed_controller (controller_kept c)) controller_downed_ok refl packet reply ∙ sym (controller_comes_back c ok down packet reply)

  -- of one that went down by X, whatever X was lent
  pub controller_power_loss_is_a_crash : (packet reply came room : List ℕ) → controller_alone (downed_controller (controller_kept c)) 0x59 packet reply ≡ controller_alone (controller_alone c 0x58 came room).outcome.controller 0x59 packet reply
  unfolding controller_ok
  controller_power_loss_is_a_crash packet reply came room =
      controller_comes_back (downed_controller (controller_kept c)) controller_downed_ok refl packet reply
      ∙ rw (controller_goes_down c ok came room) (sym (controller_comes_back (controller_off c) ok refl packet reply))
