-- `ends_console::decides::puts_one` meets its contract, by its refusal.
use mathlib.Core.Path.{sym, ◌∙◌}
use Rattle.ends_console.proofs.Decisions.{put_refuses, put_turns}
use Rattle.ends_console.proofs.decides.puts_one.Goals as goal

pub returns-in-Err : goal.returns-in-Err
returns-in-Err c = put_refuses c.args.mode c.args.up c.args.good c.args.next (sym c.in-Err.is ∙ c.put_refusal.ensures) c.refused.ensures

pub returns-in-Ok : goal.returns-in-Ok
returns-in-Ok c = put_turns c.args.mode c.args.up c.args.good c.args.next (sym c.in-Ok.is ∙ c.put_refusal.ensures) c.puts.ensures c.turned.ensures
