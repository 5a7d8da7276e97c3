-- `ground::all_cells` meets its contract: the closure joins what was seen and the test of the next byte.
use Rattle.std.proofs.Common.{rules, tests}
use Rattle.std.proofs.lemmas.Iterator.{YieldsList-from_slice}
use Rattle.std.proofs.lemmas.Iterator.Consumers.{fold_from_yields_List}
use Rattle.ground.specs.Cell.{cell, cells}
use Rattle.ground.proofs.Every.{folded}
use Rattle.ground.proofs.all_cells.Goals as goal

pub returns : goal.returns
unfolding cells
returns c =
    folded cell c.args.s.now (fold_from_yields_List _ _ _ _ c.fold.ensures.ran (YieldsList-from_slice c.args.s.now cc) (λ all b r q k. search (rules, tests)))
