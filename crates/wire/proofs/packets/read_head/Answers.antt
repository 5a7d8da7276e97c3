-- `wire::packets::read_head` meets its contract, by what its parts say.
use borrow.Author.Rules.{rules}
use mathlib.Core.Path.{sym, ◌∙◌}
use Rattle.ground.proofs.RefusalNumbers.{passed_on}
use Rattle.wire.proofs.Reading.{reads, read_frame, read_no_head}
use Rattle.wire.proofs.packets.read_head.Goals as goal

pub returns-in_err-check_frame : goal.returns-in_err-check_frame
returns-in_err-check_frame c =
    passed_on c.from_residual.ensures.1 (read_frame c.args.bytes.now c.if-bytes-ne32.false (sym c.in_err-check_frame.was ∙ c.check_frame.ensures))

pub returns-in_err-head : goal.returns-in_err-head
returns-in_err-head c =
    let frame = sym c.in_ok-check_frame.was ∙ c.check_frame.ensures in
    passed_on c.from_residual-in_err-head.ensures.1 (read_no_head c.args.bytes.now c.if-bytes-ne32.false frame (sym c.in_err-head.was ∙ c.head_at.ensures))

pub returns-else-message_fits : goal.returns-else-message_fits
returns-else-message_fits c = search (reads, rules)
