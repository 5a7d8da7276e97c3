-- The fields of a controller: when they are well formed, and the end that they stand for. Assumes nothing.
use Rattle.std.specs.Prelude.{ℕ, Bool, true, false, not, ◌&&◌, eqb, Option, None, Some}
use Rattle.ground.specs.Choice.{when◌then◌else◌}
use Rattle.wire.specs.declared.I.{I}
use Rattle.wire.specs.declared.J.{J}
use Rattle.rules.specs.Supply.{numbering}
use Rattle.numbers.specs.Numbers.{numbers_means, numbers_kept, numbers_fresh}
use Rattle.numbers.specs.declared.Numbers.{Numbers}
use Rattle.ends_controller.specs.declared.Mode.TheVariants.{Accept, Ack}
use Rattle.ends_controller.specs.declared.Mode as controller
use Rattle.ends_controller.specs.Types.{End}
use Rattle.ends_controller.specs.declared.fields.Controller.{Controller}

-- What the variables say by themselves, wherever the numbers come from: j and i both 0 or neither; i and last are not both set
abbrev pub variables_fit : J → I → I → Bool
variables_fit j i last = when eqb i.0 0 then eqb j.0 0 else not (eqb j.0 0) && eqb last.0 0

-- idle, accept (i set), ack (last set)
abbrev pub variables_mode : J → I → I → controller.Mode
variables_mode j i last =
    when eqb i.0 0 then (when eqb last.0 0 then controller.Mode.Idle else Ack last) else Accept j i

unfoldable pub mode_read : J → I → I → Option controller.Mode
mode_read j i last = when variables_fit j i last then Some (variables_mode j i last) else None

-- i or last is not set, or one of its own numbers
abbrev pub own_or_none : Numbers → I → Bool
own_or_none u i = when eqb i.0 0 then true else numbering.used (numbers_means u) i.0

-- its numbers are sound: last used at most reserved, a block of 1 to 1,024. Its variables fit, and each of i and last is one of its own numbers
unfoldable pub controller_ok : Controller → Bool
controller_ok c =
    numbering.sound (numbers_means c.numbers)
    && (variables_fit c.j c.i c.last && (own_or_none c.numbers c.i && own_or_none c.numbers c.last))

unfoldable pub controller_mode : Controller → controller.Mode
controller_mode c = variables_mode c.j c.i c.last

abbrev pub controller_end : Controller → End
controller_end c = record { numbers = c.numbers; mode = controller_mode c; up = c.up }

unfoldable pub controller_read : Controller → Option End
controller_read c = when controller_ok c then Some (controller_end c) else None

-- document 01's number of each case
abbrev pub controller_read_refusal : Option End → ℕ
controller_read_refusal None = 2
controller_read_refusal (Some e) = 0

abbrev pub controller_with : Numbers → controller.Mode → Bool → Controller
controller_with numbers controller.Mode.Idle up =
    record { numbers = numbers; j = record { 0 = 0 }; i = record { 0 = 0 }; last = record { 0 = 0 }; up = up }
controller_with numbers (Accept j i) up = record { numbers = numbers; j = j; i = i; last = record { 0 = 0 }; up = up }
controller_with numbers (Ack last) up =
    record { numbers = numbers; j = record { 0 = 0 }; i = record { 0 = 0 }; last = last; up = up }

abbrev pub controller_fields : End → Controller
controller_fields e = controller_with e.numbers e.mode e.up

-- its numbers as its number record holds them, which a box keeps through a power loss
abbrev pub controller_kept : Controller → Numbers
controller_kept c = numbers_kept c.numbers.reserved c.numbers.block

abbrev pub fresh_controller : I → Controller
fresh_controller used = controller_with (numbers_fresh used.0) controller.Mode.Idle true

abbrev pub downed_controller : Numbers → Controller
downed_controller kept = controller_with kept controller.Mode.Idle false
