-- `bench::modes::controller_moves` meets its contract.
use Rattle.bench.proofs.ControllerByModes.{controller_full, controller_done}
use Rattle.bench.proofs.modes.controller_moves.Goals as goal

pub returns-then-not-has_room : goal.returns-then-not-has_room
returns-then-not-has_room c = search controller_full

pub returns : goal.returns
returns c = search controller_done
