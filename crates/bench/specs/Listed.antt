-- Demand 3 of the list program: its lines are those of the step's outcomes at the actions that its records are, from a fresh bench with 0 and 0;
-- and what a reader of records and lines sees is a right log without the puts' numbers. Assumes nothing.
use Rattle.std.specs.Prelude.{ℕ, suc, ◌*◌, ◌≡◌, true, false, List, [], ◌∷◌, ◌++◌, map, length, get_or, take, drop, replicate, Option, None, Some}
use Rattle.std.proofs.Math.Option as maybe
use Rattle.ground.specs.Cell.{spaces}
use Rattle.ground.specs.Bytes.{field}
use Rattle.wire.specs.declared.I.{I}
use Rattle.wire.specs.declared.J.{J}
use Rattle.rules.specs.Log.{Event}
use Rattle.rules.specs.Demand3.{unnumbered}
use Rattle.rules.specs.ReadDemand3.{firsts, spares_lost}
use Rattle.bench.specs.Orders.{fresh_outcomes, shown_by, Rows, rows_of, OrdersRight}
use Rattle.bench.specs.Reports.{cells_say, report_line}
use Rattle.bench.specs.Running.{records_of, list_action, limit_of}
use Rattle.bench.specs.declared.Action.{Action}
use Rattle.bench.specs.declared.Outcome.{Outcome}

-- the action that a record is; of a record that is none one whose letter, ?, is no action's
abbrev pub action_or : Option Action → Action
action_or None = record { letter = 0x3F; place = 0; copies = 0; message = spaces }
action_or (Some a) = a

abbrev pub action_of : List ℕ → Action
action_of s = action_or (list_action s)

-- the records of an input that an output has room for, and their actions
abbrev pub records_in : List ℕ → List ℕ → List (List ℕ)
records_in input output = records_of (limit_of (length output)) input

abbrev pub actions_in : List ℕ → List ℕ → List Action
actions_in input output = map action_of (records_in input output)

-- a line for each record, by the outcome of its action
unfoldable pub lines_of : ℕ → List (List ℕ) → List Outcome → List ℕ
lines_of k [] os = []
lines_of k (s ∷ ss) [] = []
lines_of k (s ∷ ss) (o ∷ os) = report_line k (get_or s 0 0) o.report o.message ++ lines_of (suc k) ss os

-- ## What a reader sees

-- the row that a line shows, by its letter, its two cells and its message; the cells of a put stand in the record
unfoldable pub line_shows : List ℕ → List ℕ → maybe.Option (Event (List ℕ))
line_shows s line =
    shown_by (record { letter = get_or line 5 0; place = 0; copies = 0; message = field s 4 16 })
    (cells_say (get_or line 7 0) (get_or line 8 0)) (field line 10 16)

-- of each record, with its 27 bytes of the output
unfoldable pub lines_show : List (List ℕ) → List ℕ → Rows
lines_show [] output = []
lines_show (s ∷ ss) output = line_shows s (take 27 output) ∷ lines_show ss (drop 27 output)

-- ## The output of n bytes, and demand 3 of it

abbrev pub j₀ : J
j₀ = record { 0 = 0 }

abbrev pub i₀ : I
i₀ = record { 0 = 0 }

abbrev pub clear : List ℕ
clear = replicate 2048 0

pub record ListRight (input before after : List ℕ) (n : ℕ) : Type 0 where
  pub number : n ≡ 27 * length (records_in input before)
  pub lines : take n after ≡ lines_of 1 (records_in input before) (fresh_outcomes j₀ i₀ clear clear (actions_in input before))
  pub rest : drop n after ≡ drop n before
  pub orders : OrdersRight j₀ i₀ clear clear (actions_in input before)
  -- the log whose orders are right, without the puts' numbers, is what the lines show, the first answer after each put
  pub shown : map (maybe.map unnumbered) (rows_of j₀ i₀ (actions_in input before)) ≡ firsts false (lines_show (records_in input before) after)
  -- and a line of an A that is no put's answer says lost
  pub spare : spares_lost false (lines_show (records_in input before) after) ≡ true
