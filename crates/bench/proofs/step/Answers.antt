-- `bench::step` meets its contract.
use Rattle.bench.proofs.StepEntry.{lined_so, step_unknown, step_lined}
use Rattle.bench.proofs.step.Goals as goal

pub lined_step-requires : goal.lined_step-requires
lined_step-requires c = search lined_so

pub returns-in-None : goal.returns-in-None
returns-in-None c = search step_unknown

pub returns-in-Some : goal.returns-in-Some
returns-in-Some c = search step_lined
