-- `bench::runner::run_on` meets its contract. The invariant: the lines are those written and those of the records to come.
use mathlib.Core.Path.{refl}
use borrow.Author.Rules.{rules}
use Rattle.listing.proofs.Ending.{end_from, end_within}
use Rattle.bench.proofs.Running.{along_first, along_turn, over_limit, over_input, record_some, line_long, limit_low, limit_roomy}
use Rattle.bench.proofs.runner.run_on.Goals as goal

pub loop-n-init : goal.loop-n-init
loop-n-init c = (limit_low _ c.limit_of-limit.ensures, limit_roomy _ c.limit_of-limit.ensures, refl, c.requires, along_first _ _ _ _ _ c.limit_of-limit.ensures)

pub returns-then-input-start : goal.returns-then-input-start
returns-then-input-start c = search over_input

pub slice_bounds-play_record-count : goal.slice_bounds-play_record-count
slice_bounds-play_record-count c = search (end_from, rules)

pub slice_bounds-play_record-start : goal.slice_bounds-play_record-start
slice_bounds-play_record-start c = search (end_from, rules)

pub slice_bounds-play_record-end : goal.slice_bounds-play_record-end
slice_bounds-play_record-end c = end_within _ _ c.record_end-end.ensures

pub play_record-at-requires-clause-part_nonzero : goal.play_record-at-requires-clause-part_nonzero
play_record-at-requires-clause-part_nonzero c = search record_some

pub loop-n-preserved : goal.loop-n-preserved
loop-n-preserved c =
    let i = c.loop-n.invariant in
    let next = along_turn _ _ _ _ _ _ _ _ _ i.4 (search rules) i.1 (search rules) c.record_end-end.ensures c.play_record-at.ensures (search (line_long, rules)) in
    (i.0, i.1, next.0, c.play_record-at.ensures.known, next)

pub returns : goal.returns
returns c =
    let i = c.loop-n.invariant in over_limit _ c.args.input.now _ _ _ _ c.loop-n.at c.loop-n.out c.loop-n.back c.loop-n-test.false c.loop-n.auto.n-end i.4 i.1
