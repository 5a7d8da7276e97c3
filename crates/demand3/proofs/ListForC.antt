-- Demand 3 of the list runner for C, of what `nooseless_run` itself promises.
use Prim.Native.Nat.{ℕ}
use mathlib.Core.List.{[]}
use contract.Lifetimes.{Lfts}
use borrow.Fn.Kinds.{Dens, ended_of}
use denote.Triple.Clauses.{AtExit}
use Rattle.rules.specs.Demand3.{written}
use Rattle.rules.specs.ReadPlain.{PlainRead}
use Rattle.rules.proofs.ReadPlain.{right_read_plain}
use Rattle.bench.specs.Listed.{actions_in, j₀, i₀, ListRight}
use Rattle.bench.specs.Orders.{rows_of}
use Rattle.bench.proofs.Listed.{ran_right}
use Rattle.boundary.proofs.lists.nooseless_run.Kinds as run-kinds
use Rattle.boundary.proofs.lists.nooseless_run.Reads as run

module _ (κs : Lfts 2) (a : Dens κs run-kinds.ps) (x : ℕ) (s : AtExit (ended_of 2 run-kinds.ps run-kinds.r) κs) (meets : run.Post κs a x s) where
  pub list_right : ListRight a.0.now a.1.0.now s.1.0.now x
  list_right = ran_right a.0.now a.1.0.now meets

  -- in plain words
  pub list_plain : PlainRead (written (rows_of j₀ i₀ (actions_in a.0.now a.1.0.now)) [])
  list_plain = right_read_plain _ list_right.orders.right
