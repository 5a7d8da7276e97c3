-- `tables::show` meets its contract: it passes on the refusal that it was given.
use Rattle.ground.proofs.RefusalNumbers.{still_refused, passed_on}
use Rattle.tables.specs.Shown.{showing}
use Rattle.tables.proofs.shown.show.Goals as goal

pub returns-in_err-show_refusal : goal.returns-in_err-show_refusal
unfolding showing
returns-in_err-show_refusal c = passed_on c.from_residual.ensures.1 (still_refused _ _ _ c.in_err-show_refusal.ensures)
