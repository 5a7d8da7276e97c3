-- Demand 3 of two boxes over any radio, as they run: the console by `alone::console::step`, the controller by `alone::controller::step`, whose own
-- promises are `console_alone` and `controller_alone`. Assumes nothing.
use Rattle.std.specs.Prelude.{ℕ, ◌≡◌, Bool, true, false, not, List, []}
use Rattle.ground.specs.Cell.{spaces}
use Rattle.wire.specs.Packet.{head_read}
use Rattle.rules.specs.Supply.{numbering}
use Rattle.rules.specs.Ends.{absent}
use Rattle.numbers.specs.Numbers.{numbers_means, numbers_kept}
use Rattle.numbers.specs.declared.Numbers.{Numbers}
use Rattle.ends_console.specs.Fields.{console_with, console_kept, downed_console}
use Rattle.ends_console.specs.declared.Mode.TheVariants as console-mode
use Rattle.ends_console.specs.declared.fields.Console.{Console}
use Rattle.ends_controller.specs.Fields.{controller_with, controller_kept, downed_controller}
use Rattle.ends_controller.specs.declared.Mode.TheVariants as controller-mode
use Rattle.ends_controller.specs.declared.fields.Controller.{Controller}
use Rattle.ends.specs.AsRules.{for_console, for_controller}
use Rattle.ends.specs.Packets.{read_for_console, read_for_controller}
use Rattle.alone.specs.ConsoleAlone.{ConsoleAlone, console_alone}
use Rattle.alone.specs.ControllerAlone.{ControllerAlone, controller_alone}
use Rattle.demand3.specs.AnyBoxes.{Kind, Boxes, Event, AnyRight}

-- ## What runs in them

-- do bytes read as a packet for the console, for the controller?
abbrev pub is_for_console : List ℕ → Bool
is_for_console s = not (absent (for_console (read_for_console (head_read s))))

abbrev pub is_for_controller : List ℕ → Bool
is_for_controller s = not (absent (for_controller (read_for_controller (head_read s))))

-- what is kept of an end: its numbers as its number record holds them
abbrev pub console_kind : Kind
console_kind =
    record {
      End = Console;
      Kept = Numbers;
      Told = ConsoleAlone;
      step = λ x c. console_alone x c.letter c.message c.packet c.reply;
      left = λ d. d.outcome.console;
      report = λ d. d.outcome.report;
      cells = λ d. [];
      sends = λ d. d.outcome.sent;
      reply = λ d. d.reply;
      keeps = λ d kept. console_kept d.outcome.console;
      starts = λ x kept. downed_console kept;
      is_for = is_for_console;
    }

abbrev pub controller_kind : Kind
controller_kind =
    record {
      End = Controller;
      Kept = Numbers;
      Told = ControllerAlone;
      step = λ x c. controller_alone x c.letter c.packet c.reply;
      left = λ d. d.outcome.controller;
      report = λ d. d.outcome.report;
      cells = λ d. d.outcome.message;
      sends = λ d. d.outcome.sent;
      reply = λ d. d.reply;
      keeps = λ d kept. controller_kept d.outcome.controller;
      starts = λ x kept. downed_controller kept;
      is_for = is_for_controller;
    }

-- ## Where they start

-- numbers as a number record holds them: all that is reserved is used
pub record Stored (n : Numbers) : Type 0 where
  pub all_used : n ≡ numbers_kept n.reserved n.block
  pub sound : numbering.sound (numbers_means n) ≡ true

-- up and idle with the numbers of any two records; a box that starts after power loss has had a cut before
abbrev pub start : Numbers → Numbers → Boxes console_kind controller_kind
start j i =
    record {
      console = record { end = console_with j console-mode.Idle true false spaces; kept = j; sent = [] };
      controller = record { end = controller_with i controller-mode.Idle true; kept = i; sent = [] };
    }

-- ## Demand 3 as request 2 words it

abbrev pub BoxesRight : Numbers → Numbers → List Event → Type 0
BoxesRight j i es = AnyRight numbering (start j i) (numbers_means j) (numbers_means i) es
