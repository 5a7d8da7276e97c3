-- `bench::modes::controller_asked` meets its contract.
use Rattle.bench.proofs.ControllerByModes.{controller_refused_lem, controller_unknown, controller_absent, controller_ready}
use Rattle.bench.proofs.modes.controller_asked.Goals as goal

pub returns-in-Some : goal.returns-in-Some
returns-in-Some c = search controller_refused_lem

pub returns-then-next : goal.returns-then-next
returns-then-next c = search controller_unknown

pub returns-then-no_place : goal.returns-then-no_place
returns-then-no_place c = search controller_absent

pub controller_moves-requires-clause-controller_ready : goal.controller_moves-requires-clause-controller_ready
controller_moves-requires-clause-controller_ready c = search controller_ready
