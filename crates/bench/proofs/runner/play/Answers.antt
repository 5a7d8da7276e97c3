-- `bench::runner::play` meets its contract: no action has the letter, or its line is played.
use Rattle.bench.proofs.RecordPlayed.{play_refused, play_line, lined_letter}
use Rattle.bench.proofs.runner.play.Goals as goal

pub play_line-requires-clause-lined : goal.play_line-requires-clause-lined
play_line-requires-clause-lined c = search lined_letter

pub returns-in-None : goal.returns-in-None
returns-in-None c = search play_refused

pub returns-in-Some : goal.returns-in-Some
returns-in-Some c = search play_line
