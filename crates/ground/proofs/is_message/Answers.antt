-- `ground::is_message` meets its contract: its 16 bytes are as many as the definition asks for.
use Rattle.std.proofs.Common.{◌≡◌, length, ◌∙◌, rules, tests}
use Rattle.std.proofs.lemmas.Iterator.{YieldsList-from_slice}
use Rattle.std.proofs.lemmas.Iterator.Search.{all_from_yields_List}
use Rattle.ground.specs.Cell.{cell, cells, is_message}
use Rattle.ground.proofs.Every.{every_is}
use Rattle.ground.proofs.is_message.Goals as goal

pub returns : goal.returns
unfolding is_message cells
returns c =
    let m = c.args.m.now in
    let n : length m ≡ 16 = search rules in
    rw n
    (all_from_yields_List cell _ _ c.all.result c.all.ensures.ran (YieldsList-from_slice m cc) (λ b r q k. search (rules, tests)) ∙ every_is cell m)
