-- `bench::loaded::losing_step` meets its contract.
use Rattle.bench.proofs.NumbersMoved.{known_modes, on_losing, losing_stepped}
use Rattle.bench.proofs.loaded.losing_step.Goals as goal

pub loses-told-requires-clause-known : goal.loses-told-requires-clause-known
loses-told-requires-clause-known c = search known_modes

pub loses-told-requires-clause-on_losing : goal.loses-told-requires-clause-on_losing
loses-told-requires-clause-on_losing c = search on_losing

pub returns : goal.returns
returns c = losing_stepped _ _ _ c.requires.well _ _ c.requires.few c.requires.asks_value c.offers-next.ensures _ _ _ c.loses-told.ensures c.as_it_is.ensures c.moved.ensures
