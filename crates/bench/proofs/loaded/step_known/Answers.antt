-- `bench::loaded::step_known` meets its contract.
use Rattle.bench.proofs.NumbersMoved.{too_many_so}
use Rattle.bench.proofs.loaded.step_known.Goals as goal

pub returns-then-too_many : goal.returns-then-too_many
returns-then-too_many c = search too_many_so
