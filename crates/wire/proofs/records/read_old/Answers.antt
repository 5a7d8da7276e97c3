-- `wire::records::read_old` meets its contract: a frame that is refused.
use mathlib.Core.Path.{sym, ◌∙◌}
use Rattle.ground.proofs.RefusalNumbers.{passed_on}
use Rattle.wire.proofs.RecordReading.{old_frame}
use Rattle.wire.proofs.records.read_old.Goals as goal

pub returns-in_err-check_frame : goal.returns-in_err-check_frame
returns-in_err-check_frame c =
    passed_on c.from_residual.ensures.1 (old_frame c.args.bytes.now c.requires (sym c.in_err-check_frame.was ∙ c.check_frame.ensures))
