-- `ends_console::decides::decides` meets its contract, by what is asked.
use borrow.Author.Rules.{rules}
use Rattle.ends_console.proofs.Decisions.{decisions}
use Rattle.ends_console.proofs.decides.decides.Goals as goal

pub returns-in-SendNeedI : goal.returns-in-SendNeedI
returns-in-SendNeedI c = search (decisions, rules)

pub returns-in-SendData : goal.returns-in-SendData
returns-in-SendData c = search (decisions, rules)

pub returns-in-GoDown : goal.returns-in-GoDown
returns-in-GoDown c = search (decisions, rules)

pub returns-in-ComeBack : goal.returns-in-ComeBack
returns-in-ComeBack c = search (decisions, rules)
