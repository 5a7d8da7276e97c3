-- `ends_controller::acts::takes_what_came` meets its contract: its turn is taken with its own numbers.
use Rattle.ends_controller.proofs.ActsDone.{takes_moved}
use Rattle.ends_controller.proofs.acts.takes_what_came.Goals as goal

pub returns : goal.returns
returns c = search takes_moved
