-- `bench::loaded::controller_step` meets its contract.
use Rattle.bench.proofs.NumbersMoved.{known_modes, on_controller, controller_stepped}
use Rattle.bench.proofs.loaded.controller_step.Goals as goal

pub controller_asked-told-requires-clause-known : goal.controller_asked-told-requires-clause-known
controller_asked-told-requires-clause-known c = search known_modes

pub controller_asked-told-requires-clause-on_controller : goal.controller_asked-told-requires-clause-on_controller
controller_asked-told-requires-clause-on_controller c = search on_controller

pub returns : goal.returns
returns c = controller_stepped _ _ _ c.requires.well _ _ c.requires.few _ c.offers-next.ensures c.requires.asks_value c.for_the_controller-came.ensures _ _ _ c.controller_asked-told.ensures c.as_it_is.ensures c.moved.ensures
