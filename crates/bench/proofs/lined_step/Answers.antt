-- `bench::lined_step` meets its contract.
use mathlib.Core.Path.{sym, ◌∙◌}
use borrow.Author.Rules.{rules}
use Rattle.bench.proofs.BenchRead.{well_so}
use Rattle.bench.proofs.StepEntry.{console_ill, controller_ill, tables_ill, ends_step}
use Rattle.bench.proofs.lined_step.Goals as goal

pub returns-in_default : goal.returns-in_default
returns-in_default c = search console_ill

pub returns-in_default-read_controller : goal.returns-in_default-read_controller
returns-in_default-read_controller c = controller_ill _ c.read_controller.ensures.0 _ _ _ _ (sym c.read_console.ensures.0 ∙ c.in-Some.is) c.in_default-read_controller.is c.refused-in_default-read_controller.ensures

pub returns-then-not-tables_ok : goal.returns-then-not-tables_ok
returns-then-not-tables_ok c = tables_ill _ _ _ _ _ (sym c.read_console.ensures.0 ∙ c.in-Some.is) (sym c.read_controller.ensures.0 ∙ c.in-Some-read_controller.is) c.tables_ok.ensures c.if-not-tables_ok.true c.refused-then-not-tables_ok.ensures

pub step_known-requires-clause-well : goal.step_known-requires-clause-well
step_known-requires-clause-well c = well_so _ _ _ (sym c.read_console.ensures.0 ∙ c.in-Some.is) (sym c.read_controller.ensures.0 ∙ c.in-Some-read_controller.is) c.tables_ok.ensures c.if-not-tables_ok.false (record { message = search rules; console_last = search rules; controller_j = search rules }) (search rules) (search rules) c.load-loaded.ensures

pub returns : goal.returns
returns c = ends_step _ _ _ _ _ (sym c.read_console.ensures.0 ∙ c.in-Some.is) (sym c.read_controller.ensures.0 ∙ c.in-Some-read_controller.is) c.tables_ok.ensures _ c.if-not-tables_ok.false c.load-loaded.ensures c.step_known.ensures c.outcome_of.ensures
