-- A bench is put as its bytes: three parts, one after another.
use Rattle.std.proofs.Common.{arith}
use Rattle.boundary.proofs.Writing.{three_parts}
use Rattle.boundary.specs.Benches.{bench_bytes}
use Rattle.boundary.proofs.benches.BenchState.put.Goals as goal

pub returns : goal.returns
unfolding bench_bytes
returns c =
    grind (arith, three_parts c.args.state.now 37 23 60 c.put.new.state c.put-2.new.state c.copy_from_slice.new.self)
