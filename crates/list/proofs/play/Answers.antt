-- `list::play` meets its contract.
use borrow.Author.Rules.{rules}
use Rattle.bench.proofs.Running.{ran_fits, ran_prefix}
use Rattle.list.proofs.play.Goals as goal

pub slice_bounds-write_all-end : goal.slice_bounds-write_all-end
slice_bounds-write_all-end c = search (ran_fits, rules)

pub slice_bounds-write_all-end-2 : goal.slice_bounds-write_all-end-2
slice_bounds-write_all-end-2 c = search (ran_prefix, rules)
