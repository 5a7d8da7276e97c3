-- Each promise of the bench determines its answer, and what is lent afterwards.
use Prim.Native.Nat.{ℕ}
use mathlib.Core.Path.{sym, ap, ◌∙◌}
use mathlib.Core.List.{List}
use Rattle.ground.proofs.Promise.{DeterminedWith}
use Rattle.bench.specs.Promise.{Result}
use Rattle.bench.specs.Running.{Ran}
use Rattle.bench.proofs.step.Kinds as step-kinds
use Rattle.bench.proofs.step.Reads as step
use Rattle.bench.proofs.fresh.Kinds as fresh-kinds
use Rattle.bench.proofs.fresh.Reads as fresh
use Rattle.bench.proofs.runner.run.Kinds as run-kinds
use Rattle.bench.proofs.runner.run.Reads as run

pub step_determined : DeterminedWith step-kinds.ps step-kinds.r step.Post {B = List ℕ × List ℕ} (λ κs s. (s.1.1.0.now, s.1.1.1.0.now))
step_determined κs a x y s t p q = let e = p ∙ sym q in (ap (λ (r : Result). r.outcome) e, ap (λ (r : Result). (r.out, r.back)) e)

pub fresh_determined : DeterminedWith fresh-kinds.ps fresh-kinds.r fresh.Post {B = List ℕ × List ℕ} (λ κs s. (s.1.1.0.now, s.1.1.1.0.now))
fresh_determined κs a x y s t p q = let e = p ∙ sym q in (ap (λ (r : Result). r.outcome) e, ap (λ (r : Result). (r.out, r.back)) e)

pub run_determined : DeterminedWith run-kinds.ps run-kinds.r run.Post (λ κs s. s.1.0.now)
run_determined κs a x y s t p q = let e = p ∙ sym q in (ap (λ (r : Ran). r.number) e, ap (λ (r : Ran). r.output) e)
