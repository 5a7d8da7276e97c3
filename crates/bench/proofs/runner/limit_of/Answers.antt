-- `bench::runner::limit_of` meets its contract.
use mathlib.Core.Path.{◌∙◌}
use Rattle.bench.proofs.Running.{limit_is}
use Rattle.bench.proofs.runner.limit_of.Goals as goal

pub returns : goal.returns
returns c = c.min.ensures ∙ limit_is _
