-- `bench::modes::loses` meets its contract: a law for each arm.
use borrow.Author.Rules.{rules}
use Rattle.bench.proofs.LostByModes.{out_loses, back_loses}
use Rattle.bench.proofs.modes.loses.Goals as goal

pub returns-in-Some-ToConsole : goal.returns-in-Some-ToConsole
returns-in-Some-ToConsole c = back_loses _ _ _ _ _ _ c.requires.known c.requires.on_losing (search rules) c.lost-report.ensures c.packet_lost.ensures

pub returns-in-Some-ToController : goal.returns-in-Some-ToController
returns-in-Some-ToController c = out_loses _ _ _ _ _ _ c.requires.known c.requires.on_losing (search rules) c.lost-report-in-Some-ToController.ensures c.packet_lost-in-Some-ToController.ensures
