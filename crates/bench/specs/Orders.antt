-- Demand 3 of the bench's own step, as request 2 words it: what its outcomes show, action by action, is a right log without the puts' numbers. Assumes
-- nothing.
use Rattle.std.specs.Prelude.{ℕ, ◌≡◌, true, false, List, [], ◌∷◌, map}
use Rattle.std.proofs.Math.Option
use Rattle.std.proofs.Math.Option.{Option, none, some}
use Rattle.wire.specs.declared.I.{I}
use Rattle.wire.specs.declared.J.{J}
use Rattle.ground.specs.Cell.{is_message}
use Rattle.rules.specs.Supply.{numbering, fresh_numbers}
use Rattle.rules.specs.Letters.{Letter, letter}
use Rattle.rules.specs.Bench as rules
use Rattle.rules.specs.Reading.{fresh_reading}
use Rattle.rules.specs.Log.{Event, Delivered, AnsweredOK, AnsweredLost, Right}
use Rattle.rules.specs.Demand3.{acted, written, log, unnumbered}
use Rattle.rules.specs.ReadLog.{RightRead}
use Rattle.rules.specs.ReadDemand3.{read_rows, firsts, spares_lost}
use Rattle.ends.specs.declared.Report.{Report}
use Rattle.ends.specs.declared.Report.TheVariants as report
use Rattle.bench.specs.Promise.{bench_step, bench_fresh}
use Rattle.bench.specs.declared.Action.{Action}
use Rattle.bench.specs.declared.Bench.{Bench}
use Rattle.bench.specs.declared.Outcome.{Outcome}

-- the outcome of the step at every action, from a bench and its tables on
unfoldable pub outcomes : Bench → List ℕ → List ℕ → List Action → List Outcome
outcomes b out back [] = []
outcomes b out back (a ∷ l) =
    let r = bench_step b a out back in r.outcome ∷ outcomes r.outcome.bench r.out r.back l

-- from where `fresh` leaves them
unfoldable pub fresh_outcomes : J → I → List ℕ → List ℕ → List Action → List Outcome
fresh_outcomes j i out back l = let f = bench_fresh j i out back in outcomes f.outcome.bench f.out f.back l

-- the row that an outcome shows: a put taken, a delivery with its cells, what A tells, C V X Y; nothing of a refusal
abbrev pub acted_by : Option Letter → List ℕ → Option (Event (List ℕ))
acted_by none m = none
acted_by (some l) m = acted 0 l m

abbrev pub shown_by : Action → Report → List ℕ → Option (Event (List ℕ))
shown_by a report.Nothing m = acted_by (letter a.letter) a.message
shown_by a report.Delivered m = some (Delivered 0 m)
shown_by a report.Ok m = some (AnsweredOK 0)
shown_by a report.Lost m = some (AnsweredLost 0)
shown_by a (report.Refused n) m = none

unfoldable pub all_shown_of : List Action → List Outcome → List (Option (Event (List ℕ)))
all_shown_of [] os = []
all_shown_of (a ∷ l) [] = []
all_shown_of (a ∷ l) (o ∷ os) = shown_by a o.report o.message ∷ all_shown_of l os

-- ## The log, with the puts numbered: the rules' run of the actions, each order with the number of its put beside its cells

abbrev pub as_rules : Letter → Action → rules.Action (List ℕ)
as_rules l a = rules.action l a.place a.copies a.message

abbrev pub Rows : Type 0
Rows = List (Option (Event (List ℕ)))

-- the actions whose letter is one
abbrev pub with_letter : Option Letter → Action → List (rules.Action (List ℕ)) → List (rules.Action (List ℕ))
with_letter none a l = l
with_letter (some x) a l = as_rules x a ∷ l

unfoldable pub lettered : List Action → List (rules.Action (List ℕ))
lettered [] = []
lettered (a ∷ l) = with_letter (letter a.letter) a (lettered l)

-- their rows, and none for an action whose letter is none
abbrev pub spread_by : Option Letter → Rows → (Rows → Rows) → Rows
spread_by none os more = none ∷ more os
spread_by (some x) [] more = none ∷ more []
spread_by (some x) (o ∷ os) more = o ∷ more os

unfoldable pub spread : List Action → Rows → Rows
spread [] os = []
spread (a ∷ l) os = spread_by (letter a.letter) os (λ rest. spread l rest)

unfoldable pub rows_of : J → I → List Action → Rows
rows_of j i l = spread l (read_rows numbering is_message [] (fresh_reading (fresh_numbers j.0) (fresh_numbers i.0)) (lettered l))

pub record OrdersRight (j : J) (i : I) (out back : List ℕ) (l : List Action) : Type 0 where
  -- that log is right as request 2 words it
  pub right : RightRead (written (rows_of j i l) [])
  -- without the numbers its rows are what the step shows, the first answer after each put
  pub own : map (Option.map unnumbered) (rows_of j i l) ≡ firsts false (all_shown_of l (fresh_outcomes j i out back l))
  -- an A that is no put's answer tells lost
  pub spare : spares_lost false (all_shown_of l (fresh_outcomes j i out back l)) ≡ true
  -- the history, in which S answers as packets arrive, is right as document 01 words it
  pub history : Right (log numbering is_message (fresh_numbers j.0) (fresh_numbers i.0) (lettered l))

-- ## Where a list of actions leaves the bench and its tables

abbrev pub Left : Type 0
Left = Bench × List ℕ × List ℕ

unfoldable pub leaves : Bench → List ℕ → List ℕ → List Action → Left
leaves b out back [] = (b, out, back)
leaves b out back (a ∷ l) = let r = bench_step b a out back in leaves r.outcome.bench r.out r.back l
