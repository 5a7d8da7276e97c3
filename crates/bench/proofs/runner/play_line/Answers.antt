-- `bench::runner::play_line` meets its contract, by whether the record is well formed.
use Rattle.bench.proofs.RecordPlayed.{line_refused, line_played}
use Rattle.bench.proofs.runner.play_line.Goals as goal

pub returns-in-None : goal.returns-in-None
returns-in-None c = search line_refused

pub returns-in-Some : goal.returns-in-Some
returns-in-Some c = search line_played
