-- Demand 3 of the bench for C: of any calls of `nooseless_bench_step` that follow `nooseless_bench_fresh`, by the bytes that they return and leave. Assumes
-- nothing. `fresh_put` and `step_put` are the two entries' own promises, so that these calls are the entries' calls.
use Rattle.ground.specs.Refusals.{refusal_of}
use Rattle.std.specs.Prelude.{ℕ, ◌≡◌, true, false, List, [], ◌∷◌, map, eqb}
use Rattle.std.proofs.Math.Option
use Rattle.ground.specs.Cell.{is_message}
use Rattle.ground.specs.Choice.{when◌then◌else◌}
use Rattle.wire.specs.declared.I.{I}
use Rattle.wire.specs.declared.J.{J}
use Rattle.rules.specs.Supply.{numbering, fresh_numbers}
use Rattle.rules.specs.Log.{Right}
use Rattle.rules.specs.Demand3.{written, log, unnumbered}
use Rattle.rules.specs.ReadLog.{RightRead}
use Rattle.rules.specs.ReadDemand3.{firsts, spares_lost}
use Rattle.ends.specs.declared.Report.{Report}
use Rattle.ends.specs.declared.Report.TheVariants as report
use Rattle.bench.specs.Orders.{shown_by, Rows, lettered, rows_of}
use Rattle.bench.specs.declared.Action.{Action}
use Rattle.boundary.specs.Benches.{fresh_put, step_put}

-- what C hands to a call: letter, place, copies and message; and the 16 bytes lent for a delivery as they stand
pub record Call : Type 0 where
  pub action : Action
  pub lent : List ℕ

-- what C sees of it: the byte returned, and those 16 bytes afterwards
pub record Seen : Type 0 where
  pub told : ℕ
  pub delivered : List ℕ

-- call after call, from a state and two tables on; C hands on what the call before left in them
unfoldable pub calls : List ℕ → List ℕ → List ℕ → List Call → List Seen
calls s out back [] = []
calls s out back (c ∷ l) =
    let p = step_put s c.action out back c.lent in
    record { told = p.told; delivered = p.delivered } ∷ calls p.state p.out p.back l

-- from where `nooseless_bench_fresh` leaves them
unfoldable pub fresh_calls : J → I → List ℕ → List ℕ → List ℕ → List Call → List Seen
fresh_calls j i s out back l = let p = fresh_put j i s out back in calls p.state p.out p.back l

-- the report that a byte returned says: 0 nothing, 64 delivered, 65 OK, 66 lost; any other is a refusal
unfoldable pub byte_says : ℕ → Report
byte_says t =
    when eqb t 0 then report.Nothing
    else when eqb t 64 then report.Delivered
    else when eqb t 65 then report.Ok
    else when eqb t 66 then report.Lost
    else report.Refused (refusal_of t)

-- the row that each call shows, by what C handed in and sees
unfoldable pub calls_show : List Call → List Seen → Rows
calls_show [] xs = []
calls_show (c ∷ l) [] = []
calls_show (c ∷ l) (x ∷ xs) = shown_by c.action (byte_says x.told) x.delivered ∷ calls_show l xs

abbrev pub actions_of : List Call → List Action
actions_of l = map (λ (c : Call). c.action) l

-- as request 2 words it: the log of these actions, with the puts numbered, is right; without the numbers its rows are what the calls show, the first
-- answer after each put; and an A that is no put's answer tells lost. The history is right as document 01 words it
pub record CallsRight (j : J) (i : I) (state out back : List ℕ) (l : List Call) : Type 0 where
  pub begun : (fresh_put j i state out back).told ≡ 0
  pub right : RightRead (written (rows_of j i (actions_of l)) [])
  pub own : map (Option.map unnumbered) (rows_of j i (actions_of l)) ≡ firsts false (calls_show l (fresh_calls j i state out back l))
  pub spare : spares_lost false (calls_show l (fresh_calls j i state out back l)) ≡ true
  pub history : Right (log numbering is_message (fresh_numbers j.0) (fresh_numbers i.0) (lettered (actions_of l)))
