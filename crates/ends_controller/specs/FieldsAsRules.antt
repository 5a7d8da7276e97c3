-- A controller's fields in the rules and back, and the message that stands beside its act. Assumes nothing.
use Rattle.std.specs.Prelude.{ℕ, List}
use Rattle.rules.specs.Ends as rules
use Rattle.rules.specs.Supply.{numbering, Numbers}
use Rattle.rules.specs.Relabel.{in_controller_act}
use Rattle.numbers.specs.Numbers.{numbers_back}
use Rattle.ends.specs.AsRules.{Beside}
use Rattle.ends_controller.specs.AsRules as controller
use Rattle.ends_controller.specs.Fields.{controller_end, controller_with}
use Rattle.ends_controller.specs.Types.{End}
use Rattle.ends_controller.specs.declared.fields.Controller.{Controller}

abbrev pub controller_means : Controller → rules.Controller Numbers
controller_means c = controller.end (controller_end c)

abbrev pub controller_back : rules.Controller Numbers → Controller
controller_back e = controller_with (numbers_back e.numbers) (controller.mode_back e.mode) e.up

-- what an act that is not refused comes to; the message is that of the packet in
abbrev pub controller_acted : End → rules.ControllerAct Beside → List ℕ → rules.ControllerActed Numbers (List ℕ)
controller_acted e act message = rules.controller_acts numbering (controller.end e) (in_controller_act (λ _. message) act)
