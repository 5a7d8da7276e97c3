-- `wire::records::read_new` meets its contract: a frame that is refused.
use mathlib.Core.Path.{sym, ◌∙◌}
use Rattle.ground.proofs.RefusalNumbers.{passed_on}
use Rattle.wire.proofs.RecordReading.{new_frame}
use Rattle.wire.proofs.records.read_new.Goals as goal

pub returns-in_err-check_frame : goal.returns-in_err-check_frame
returns-in_err-check_frame c =
    passed_on c.from_residual.ensures.1 (new_frame c.args.bytes.now c.requires (sym c.in_err-check_frame.was ∙ c.check_frame.ensures))
