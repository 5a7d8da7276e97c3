-- `ends_console::acts::puts` meets its contract: its turn is taken with its own numbers.
use Rattle.ends_console.proofs.ActsDone.{puts_moved}
use Rattle.ends_console.proofs.acts.puts.Goals as goal

pub returns : goal.returns
returns c = search puts_moved
