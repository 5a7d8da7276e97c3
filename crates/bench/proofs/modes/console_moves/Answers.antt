-- `bench::modes::console_moves` meets its contract.
use Rattle.bench.proofs.ConsoleByModes.{console_full, console_done}
use Rattle.bench.proofs.modes.console_moves.Goals as goal

pub returns-then-not-has_room : goal.returns-then-not-has_room
returns-then-not-has_room c = search console_full

pub returns : goal.returns
returns c = search (console_done, c.keeps-held.ensures, c.requires)
