-- `ends_controller::decides::decides` meets its contract, by what is asked.
use borrow.Author.Rules.{rules}
use Rattle.ends_controller.proofs.Decisions.{decisions}
use Rattle.ends_controller.proofs.decides.decides.Goals as goal

pub returns-in-SendOffer : goal.returns-in-SendOffer
returns-in-SendOffer c = search (decisions, rules)

pub returns-in-SendOk : goal.returns-in-SendOk
returns-in-SendOk c = search (decisions, rules)

pub returns-in-GoDown : goal.returns-in-GoDown
returns-in-GoDown c = search (decisions, rules)

pub returns-in-ComeBack : goal.returns-in-ComeBack
returns-in-ComeBack c = search (decisions, rules)
