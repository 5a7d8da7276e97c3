-- The fields that a controller's mode stands for, by way of the rules.
use mathlib.Core.Path.{◌≡◌, refl, ◌∙◌}
use mathlib.Core.Bool.{Bool, true}
use Rattle.numbers.specs.declared.Numbers.{Numbers}
use Rattle.ends_controller.specs.AsRules.{end}
use Rattle.ends_controller.specs.Fields.{controller_ok, controller_end, controller_with}
use Rattle.ends_controller.specs.FieldsAsRules.{controller_means, controller_back}
use Rattle.ends_controller.specs.declared.Mode.{Mode}
use Rattle.ends_controller.specs.declared.Mode.TheVariants.{Idle, Accept, Ack}
use Rattle.ends_controller.specs.declared.fields.Controller.{Controller}
use Rattle.ends_controller.proofs.FieldsRead.{fields_back}

-- the fields of a well-formed controller, by way of the rules
pub fields_of : (u : Numbers) (k : Mode) (up : Bool) → controller_back (end (record { numbers = u; mode = k; up = up })) ≡ controller_with u k up
fields_of u Idle up = refl
fields_of u (Accept j i) up = refl
fields_of u (Ack l) up = refl

pub unchanged : (c : Controller) → controller_ok c ≡ true → controller_back (controller_means c) ≡ c
unchanged c ok = fields_of c.numbers (controller_end c).mode c.up ∙ fields_back c ok
