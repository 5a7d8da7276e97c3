-- The list program: its records, the step at every record, and a line for each. Assumes nothing.
use Rattle.std.specs.Prelude.{ℕ, zero, suc, ◌/◌, List, [], ◌∷◌, ◌++◌, ltb, length, get_or, take, drop, replicate, Option, None, Some, option_map}
use Rattle.ground.specs.Choice.{when◌then◌else◌}
use Rattle.rules.specs.Letters.{letter}
use Rattle.letters.specs.Lines.{found_of}
use Rattle.letters.specs.declared.Line.{Line}
use Rattle.listing.specs.Record.{list_record}
use Rattle.listing.specs.declared.Fields.{Fields}
use Rattle.listing.specs.declared.Uses.{Uses}
use Rattle.bench.specs.AsRules.{bench_back}
use Rattle.bench.specs.Promise.{Result, bench_refused, bench_step, fresh_rules}
use Rattle.bench.specs.Reports.{report_line}
use Rattle.bench.specs.declared.Action.{Action}
use Rattle.bench.specs.declared.Bench.{Bench}

-- the first n records: 21 bytes each, the last may be short
unfoldable pub records_of : ℕ → List ℕ → List (List ℕ)
records_of zero s = []
records_of (suc n) [] = []
records_of (suc n) (x ∷ s) = take 21 (x ∷ s) ∷ records_of n (drop 21 (x ∷ s))

-- what a letter's line says of a record's fields
abbrev pub uses_of : Line → Uses
uses_of l = record { place = l.place; copies = l.copies; message = l.message }

abbrev pub action_with : Line → Fields → Action
action_with l r = record { letter = l.byte; place = r.place; copies = r.copies; message = r.message }

-- the action that a record is: none if no action has its letter, or if it is not well formed
abbrev pub action_as : Option Line → List ℕ → Option Action
action_as None s = None
action_as (Some l) s = option_map (action_with l) (list_record (uses_of l) s)

unfoldable pub list_action : List ℕ → Option Action
list_action s = action_as (found_of (letter (get_or s 0 0))) s

-- a record that is no action is 1; any other is a step
abbrev pub played_as : Option Action → Bench → List ℕ → List ℕ → Result
played_as None b out back = bench_refused 1 b out back
played_as (Some a) b out back = bench_step b a out back

unfoldable pub played : Bench → List ℕ → List ℕ → List ℕ → Result
played b out back s = played_as (list_action s) b out back

-- a line for each record, the first of which has the number k
unfoldable pub lines : ℕ → Bench → List ℕ → List ℕ → List (List ℕ) → List ℕ
lines k b out back [] = []
lines k b out back (s ∷ ss) =
    let r = played b out back s in
    report_line k (get_or s 0 0) r.outcome.report r.outcome.message ++ lines (suc k) r.outcome.bench r.out r.back ss

-- at most 9,999 records are read; and no more than there is room for lines of 27 bytes
unfoldable pub limit_of : ℕ → ℕ
limit_of room = when ltb 9999 (room / 27) then 9999 else room / 27

-- the bench starts fresh with 0 and 0
unfoldable pub list_lines : ℕ → List ℕ → List ℕ
list_lines n s = lines 1 (bench_back (fresh_rules (record { 0 = 0 }) (record { 0 = 0 }))) (replicate 2048 0) (replicate 2048 0) (records_of n s)

-- the whole output of the list program
unfoldable pub list_output : List ℕ → List ℕ
list_output s = list_lines 9999 s

-- what the runner comes to: how many bytes it wrote, and the output afterwards
pub record Ran : Type 0 where
  pub number : ℕ
  pub output : List ℕ

-- lines stand at the front of the output, and the rest of it is as it was
abbrev pub at_front : List ℕ → List ℕ → Ran
at_front all before = record { number = length all; output = all ++ drop (length all) before }

unfoldable pub list_run : List ℕ → List ℕ → Ran
list_run input before = at_front (list_lines (limit_of (length before)) input) before
