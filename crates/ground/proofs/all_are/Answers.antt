-- `ground::all_are` meets its contract: the closure joins what was seen and the test of the next byte.
use Rattle.std.proofs.Common.{eqb, rules, tests}
use Rattle.std.proofs.lemmas.Iterator.{YieldsList-from_slice}
use Rattle.std.proofs.lemmas.Iterator.Consumers.{fold_from_yields_List}
use Rattle.ground.specs.Every.{filled}
use Rattle.ground.proofs.Every.{folded}
use Rattle.ground.proofs.all_are.Goals as goal

pub returns : goal.returns
unfolding filled
returns c =
    folded (λ x. eqb x c.args.b) c.args.s.now (fold_from_yields_List _ _ _ _ c.fold.ensures.ran (YieldsList-from_slice c.args.s.now cc) (λ all x r q k. search (rules, tests)))
