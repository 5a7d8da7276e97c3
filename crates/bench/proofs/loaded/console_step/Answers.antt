-- `bench::loaded::console_step` meets its contract.
use Rattle.bench.proofs.NumbersMoved.{known_modes, on_console, console_stepped, console_refused_lem}
use Rattle.bench.proofs.loaded.console_step.Goals as goal

pub console_asked-told-requires-clause-known : goal.console_asked-told-requires-clause-known
console_asked-told-requires-clause-known c = search known_modes

pub console_asked-told-requires-clause-on_console : goal.console_asked-told-requires-clause-on_console
console_asked-told-requires-clause-on_console c = search on_console

pub returns-in-Refused : goal.returns-in-Refused
returns-in-Refused c = console_refused_lem _ _ _ c.requires.well _ _ c.requires.few _ c.offers-next.ensures c.requires.asks_value c.for_the_console-came.ensures _ _ _ c.console_asked-told.ensures c.in-Refused.is c.as_it_is.ensures c.moved.ensures

pub returns-in_default : goal.returns-in_default
returns-in_default c = console_stepped _ _ _ c.requires.well _ _ c.requires.few _ c.offers-next.ensures c.requires.asks_value c.for_the_console-came.ensures _ _ _ c.console_asked-told.ensures c.ack_use.ensures c.shows.ensures c.moved-in_default.ensures
