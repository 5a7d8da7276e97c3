-- A console is put as its bytes: its numbers, the rest of the front and the message, one after another.
use Rattle.std.proofs.Common.{arith}
use Rattle.boundary.proofs.Writing.{front_parts}
use Rattle.boundary.specs.Console.{console_bytes}
use Rattle.boundary.proofs.console.ConsoleState.put.Goals as goal

pub returns : goal.returns
unfolding console_bytes
returns c =
    grind (arith, front_parts c.args.state.now 10 11 21 c.put_numbers.new.part c.put_rest.new.part c.copy_from_slice.new.self)
