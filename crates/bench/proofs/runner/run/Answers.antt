-- `bench::runner::run` meets its contract.
use Rattle.bench.proofs.Running.{starts_known, starts_run}
use Rattle.bench.proofs.runner.run.Goals as goal

pub run_on-requires : goal.run_on-requires
run_on-requires c = search starts_known

pub returns : goal.returns
returns c = search starts_run
