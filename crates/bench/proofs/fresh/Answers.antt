-- `bench::fresh` meets its contract.
use Rattle.bench.proofs.StepEntry.{freshes}
use Rattle.bench.proofs.fresh.Goals as goal

pub returns-then-out-ne2048 : goal.returns-then-out-ne2048
returns-then-out-ne2048 c = search freshes

pub returns-then-back-ne2048 : goal.returns-then-back-ne2048
returns-then-back-ne2048 c = search freshes

pub returns : goal.returns
returns c = search freshes
