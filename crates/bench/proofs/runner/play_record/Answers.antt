-- `bench::runner::play_record` meets its contract: the record is played, and its line written.
use Rattle.bench.proofs.RecordPlayed.{turned}
use Rattle.bench.proofs.runner.play_record.Goals as goal

pub returns : goal.returns
returns c = search turned
