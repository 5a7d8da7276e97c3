-- `ends::decided::Decided::sends` meets its contract: a refusal is the first.
use mathlib.Core.Path.{sym, ◌∙◌}
use Rattle.ends.proofs.Sending.{sends_not}
use Rattle.ends.proofs.decided.Decided.sends.Goals as goal

pub returns-in-Err : goal.returns-in-Err
returns-in-Err g c = sends_not c.args.mode c.args.up c.args.sent (sym c.in-Err.is ∙ c.send_refusal.ensures) c.refused.ensures
