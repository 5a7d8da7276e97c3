-- `ends_console::acts::put_refusal` meets its contract: the number is its own next.
use Rattle.ends_console.proofs.ActsDone.{put_refused}
use Rattle.ends_console.proofs.acts.put_refusal.Goals as goal

pub returns : goal.returns
returns c = search put_refused
