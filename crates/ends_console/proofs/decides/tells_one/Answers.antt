-- `ends_console::decides::tells_one` meets its contract, by its refusal.
use mathlib.Core.Path.{sym, ◌∙◌}
use Rattle.ends_console.proofs.Decisions.{tell_refuses, tell_turns}
use Rattle.ends_console.proofs.decides.tells_one.Goals as goal

pub returns-in-Err : goal.returns-in-Err
returns-in-Err c = tell_refuses c.args.mode c.args.up (sym c.in-Err.is ∙ c.ack_refusal.ensures) c.refused.ensures

pub returns-in-Ok : goal.returns-in-Ok
returns-in-Ok c = tell_turns c.args.mode c.args.up (sym c.in-Ok.is ∙ c.ack_refusal.ensures) c.stays.ensures
