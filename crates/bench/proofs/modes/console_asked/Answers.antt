-- `bench::modes::console_asked` meets its contract.
use Rattle.bench.proofs.ConsoleByModes.{console_refused_lem, console_absent, console_ready}
use Rattle.bench.proofs.modes.console_asked.Goals as goal

pub returns-in-Some : goal.returns-in-Some
returns-in-Some c = search console_refused_lem

pub returns-then-no_place : goal.returns-then-no_place
returns-then-no_place c = search console_absent

pub console_moves-requires-clause-console_ready : goal.console_moves-requires-clause-console_ready
console_moves-requires-clause-console_ready c = search console_ready
