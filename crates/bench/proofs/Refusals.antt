-- A refusal of an entry leaves what it was handed: the step the bench and both tables, fresh both tables.
use mathlib.Core.Path.{◌≡◌, sym, ap, subst, ◌∙◌}
use mathlib.Core.Bool.{◌&&◌}
use mathlib.Core.List.{List}
use Prim.Native.Nat.{ℕ}
use lib.Dec.{eqb}
use lib.ListN.{length}
use Rattle.ground.specs.Bytes.{Bytes}
use Rattle.ground.specs.Choice.{chosen}
use Rattle.ground.proofs.Promise.{RefusalLeaves}
use Rattle.ground.proofs.Tests.{by_test}
use Rattle.wire.specs.declared.I.{I}
use Rattle.wire.specs.declared.J.{J}
use Rattle.ends.proofs.Reports.{IsRefused, its_refusal}
use Rattle.bench.specs.Promise.{Result, bench_refused, bench_told, bench_fresh}
use Rattle.bench.specs.Loaded.{Typed}
use Rattle.bench.specs.declared.Bench.{Bench}
use Rattle.bench.proofs.RefusedSame.{refused_same}
use Rattle.bench.proofs.step.Kinds as step-kinds
use Rattle.bench.proofs.step.Reads as step
use Rattle.bench.proofs.fresh.Kinds as fresh-kinds
use Rattle.bench.proofs.fresh.Reads as fresh

pub step_refusal_leaves : RefusalLeaves step-kinds.ps step-kinds.r step.Post
    (λ κs a. Typed a.0.console a.0.controller × Bytes a.1.1.0.now × Bytes a.1.1.1.0.now) (λ κs x. IsRefused x.report)
    {B = Bench × List ℕ × List ℕ} (λ κs a. (a.0, a.1.1.0.now, a.1.1.1.0.now)) (λ κs x s. (x.bench, s.1.1.0.now, s.1.1.1.0.now))
unfolding bench_refused
step_refusal_leaves κs a x s typed refused p =
    let q = its_refusal x.report refused in
    let e = sym (ap (λ (r : Result). r.outcome.report) p) ∙ q.1 in
    ap (λ (r : Result). (r.outcome.bench, r.out, r.back)) (p ∙ refused_same a.0 a.1.1.0.now a.1.1.1.0.now typed.0 typed.1 typed.2 a.1.0 q.0 e)

fresh_left : (j : J) (i : I) (out back : List ℕ) → IsRefused (bench_fresh j i out back).outcome.report → ◌≡◌ {A = List ℕ × List ℕ} ((bench_fresh j i out back).out, (bench_fresh j i out back).back) (out, back)
unfolding bench_fresh bench_told bench_refused chosen
fresh_left j i out back =
    by_test (eqb (length out) 2048 && eqb (length back) 2048) (λ t r. absurd (rw t at r)) (λ f r. rw f)

pub fresh_refusal_leaves : RefusalLeaves fresh-kinds.ps fresh-kinds.r fresh.Post (λ κs a. Unit {0}) (λ κs x. IsRefused x.report)
    {B = List ℕ × List ℕ} (λ κs a. (a.1.1.0.now, a.1.1.1.0.now)) (λ κs x s. (s.1.1.0.now, s.1.1.1.0.now))
fresh_refusal_leaves κs a x s typed refused p =
    ap (λ (r : Result). (r.out, r.back)) p ∙ fresh_left a.0 a.1.0 a.1.1.0.now a.1.1.1.0.now (subst (λ (r : Result). IsRefused r.outcome.report) p refused)
