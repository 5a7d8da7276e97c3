-- `bench::runner::run_on` meets its contract. The invariant: the lines are those written and those of the records to come.
use Prim.Native.Nat.{◌≤◌, ◌*◌}
use mathlib.Core.Path.{◌≡◌}
use lib.ListN.{length}
use Rattle.bench.specs.Loaded.{Well, lines_on}
use Rattle.bench.proofs.Running.{Along}
use Rattle.bench.proofs.runner.run_on.Given as goal

abbrev pub invariant-loop-n : goal.invariant-loop-n
invariant-loop-n l =
    (l.limit ≤ 9999) × (l.limit * 27 ≤ length l.initial.output) × (length l.output ≡ length l.initial.output)
    × Well l.at l.out l.back × Along (lines_on l.initial.at l.initial.out l.initial.back l.input (length l.initial.output)) l.input l.initial.output l.limit l.n l.at l.output l.out l.back
