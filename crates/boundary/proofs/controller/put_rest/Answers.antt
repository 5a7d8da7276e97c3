-- `boundary::controller::put_rest` meets its contract: two parts and a byte, one after another.
use Rattle.std.proofs.Common.{arith}
use Rattle.boundary.proofs.Writing.{parts_and_one}
use Rattle.boundary.proofs.controller.put_rest.Goals as goal

pub returns : goal.returns
returns c =
    grind (arith, parts_and_one c.args.part.now 4 4 8 c.copy_from_slice.new.self c.copy_from_slice-2.new.self c.from.result)
