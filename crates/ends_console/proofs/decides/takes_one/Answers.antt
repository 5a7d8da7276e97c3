-- `ends_console::decides::takes_one` meets its contract, by whether it is up.
use borrow.Author.Rules.{rules}
use Rattle.ends_console.proofs.Decisions.{take_4, take_turns}
use Rattle.ends_console.proofs.decides.takes_one.Goals as goal

pub returns-then-not-up : goal.returns-then-not-up
returns-then-not-up c = search (take_4, rules)

pub returns : goal.returns
returns c = search (take_turns, rules)
