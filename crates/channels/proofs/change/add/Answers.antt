-- `channels::add` meets its contract. The invariant: the table is the one after so many copies.
use borrow.Author.Rules.{rules}
use Rattle.channels.proofs.Adding.{after_none, add_on, add_end}
use Rattle.channels.proofs.change.add.Goals as goal

pub loop-copy-init : goal.loop-copy-init
loop-copy-init c =
    (search rules, search rules, search rules, search rules, search after_none)

pub loop-copy-preserved : goal.loop-copy-preserved
loop-copy-preserved c =
    let v = c.loop-copy.invariant in
    (search rules, search rules, search rules, search rules, add_on _ _ _ _ _ _ v.4 v.3 (search rules) v.1 v.2 c.write_packet.ensures.1)

pub returns : goal.returns
returns c = search (add_end, rules)
