-- A controller is put as its bytes: three parts, one after another.
use Rattle.std.proofs.Common.{arith}
use Rattle.boundary.proofs.Writing.{three_parts}
use Rattle.boundary.specs.Controller.{controller_bytes}
use Rattle.boundary.proofs.controller.ControllerState.put.Goals as goal

pub returns : goal.returns
unfolding controller_bytes
returns c =
    grind (arith, three_parts c.args.state.now 10 4 14 c.put_numbers.new.part c.copy_from_slice.new.self c.put_rest.new.part)
