-- `boundary::state::put_numbers` meets its contract: three parts, one after another.
use Rattle.std.proofs.Common.{arith}
use Rattle.boundary.proofs.Writing.{three_parts}
use Rattle.boundary.proofs.state.put_numbers.Goals as goal

pub returns : goal.returns
returns c =
    grind (arith, three_parts c.args.part.now 4 4 8 c.copy_from_slice.new.self c.copy_from_slice-2.new.self c.copy_from_slice-3.new.self)
