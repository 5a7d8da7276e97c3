-- The runner's promise shuts out a runner that works the first record and echoes the rest.
use Prim.Native.Nat.{ℕ, ◌+◌}
use mathlib.Core.Path.{◌≡◌, refl, sym, ap, ◌∙◌}
use mathlib.Core.List.{List, [], ◌∷◌, ◌++◌}
use native.Mathlib.Omega.{arith}
use contract.Lifetimes.{Lfts}
use borrow.Fn.Kinds.{Dens, ended_of}
use denote.Triple.Clauses.{AtExit}
use lib.ListN.{length, get_or, drop, replicate}
use Rattle.ground.specs.declared.refusals.Refusal.TheVariants.{OtherMode}
use Rattle.ground.specs.Cell.{cells, is_message, spaces}
use Rattle.ground.specs.Choice.{chosen}
use Rattle.ground.specs.Every.{filled}
use Rattle.rules.specs.Supply.{numbering, fresh_numbers}
use Rattle.rules.specs.Reading.{read_step, fresh_reading, readings}
use Rattle.rules.specs.Letters.{p_put, line, letters, among, letter}
use Rattle.rules.specs.Ends as ends
use Rattle.rules.specs.Bench as rules
use Rattle.rules.specs.WellFormed.{WellFormed}
use Rattle.rules.proofs.WellFormed.{fresh_well_formed}
use Rattle.letters.specs.Lines.{line_of}
use Rattle.ends.specs.AsRules.{delivered, report_back}
use Rattle.ends.specs.declared.Report.TheVariants.{Nothing, Refused}
use Rattle.listing.specs.Line.{decimals, line_bytes}
use Rattle.listing.specs.Record.{list_record, is_well_formed, fields_fit, place_fits, copies_fit, message_fits, is_place, is_copies, fields}
use Rattle.channels.proofs.Channel.{channel_none}
use Rattle.channels.proofs.Packets.{to_controller_coded, to_console_coded}
use Rattle.bench.specs.AsRules.{bench_back}
use Rattle.bench.specs.Promise.{Result, bench_told, bench_step}
use Rattle.bench.specs.Reports.{report_line}
use Rattle.bench.specs.Running.{records_of, list_action, played, lines, limit_of, list_lines, Ran, list_run}
use Rattle.bench.specs.declared.Action.{Action}
use Rattle.bench.specs.Orders.{as_rules}
use Rattle.bench.proofs.Orders.{Here, out, back, step_of, next_ok}
use Rattle.bench.proofs.runner.run.Kinds as run-kinds
use Rattle.bench.proofs.runner.run.Reads as run

-- ## Two puts: the second is 6

-- P000, 16 spaces
abbrev pub put : List ℕ
put = 0x50 ∷ 0x30 ∷ 0x30 ∷ 0x30 ∷ (spaces ++ 0x0A ∷ [])

abbrev putting : Action
putting = record { letter = 0x50; place = 0; copies = 0; message = spaces }

abbrev fresh : Here
fresh = fresh_reading (fresh_numbers 0) (fresh_numbers 0)

abbrev asked : rules.Action (List ℕ)
asked = as_rules p_put putting

abbrev after : Here
after = (read_step numbering is_message fresh asked).after

fresh_ok : WellFormed numbering is_message fresh.history
fresh_ok = fresh_well_formed numbering is_message (fresh_numbers 0) (fresh_numbers 0) refl refl

after_ok : WellFormed numbering is_message after.history
after_ok = next_ok fresh asked fresh_ok

-- the record is the action
put_played : (b : Here) → played (bench_back b) (out b) (back b) put ≡ bench_step (bench_back b) putting (out b) (back b)
unfolding played list_action list_record is_well_formed fields_fit place_fits copies_fit message_fits is_place is_copies fields is_message cells filled chosen line letters among letter line_of
put_played b = refl

first : played (bench_back fresh) (replicate 2048 0) (replicate 2048 0) put ≡ bench_told (read_step numbering is_message fresh asked)
unfolding rules.fresh letter among letters line chosen
first =
    (λ i. played (bench_back fresh) (sym (channel_none to_controller_coded) i) (sym (channel_none to_console_coded) i) put)
    ∙ put_played fresh ∙ step_of fresh fresh_ok putting p_put refl

second : played (bench_back after) (out after) (back after) put ≡ bench_told (read_step numbering is_message after asked)
unfolding letter among letters line chosen
second = put_played after ∙ step_of after after_ok putting p_put refl

accepted : (read_step numbering is_message fresh asked).report ≡ ends.nothing
unfolding rules.rules readings is_message cells
accepted = refl

refused : (read_step numbering is_message after asked).report ≡ ends.refused 6
unfolding rules.rules readings is_message cells
refused = refl

-- the line of a record, and those that follow
abbrev told : ℕ → Result → List (List ℕ) → List ℕ
told k r ss = report_line k 0x50 r.outcome.report r.outcome.message ++ lines (k + 1) r.outcome.bench r.out r.back ss

two_lines : list_lines 2 (put ++ put) ≡ report_line 1 0x50 Nothing spaces ++ (report_line 2 0x50 (Refused OtherMode) spaces ++ [])
unfolding list_lines records_of lines bench_told
two_lines =
    ap (λ (r : Result). told 1 r (put ∷ [])) first
    ∙ ap (λ (x : ends.Report (List ℕ)). report_line 1 0x50 (report_back x) (delivered x) ++ lines 2 (bench_back after) (out after) (back after) (put ∷ [])) accepted
    ∙ ap (λ (x : List ℕ). report_line 1 0x50 Nothing spaces ++ x)
    (ap (λ (r : Result). told 2 r []) second
    ∙ ap (λ (x : ends.Report (List ℕ)). report_line 2 0x50 (report_back x) (delivered x) ++ []) refused)

-- the second line begins with its number and says 06, whatever follows it
pub second_line : (rest : List ℕ) → (get_or (list_lines 2 (put ++ put) ++ rest) 27 0 ≡ 0x30) × (get_or (list_lines 2 (put ++ put) ++ rest) 34 0 ≡ 0x30)
unfolding report_line line_bytes decimals
second_line rest = (ap (λ (l : List ℕ). get_or (l ++ rest) 27 0) two_lines, ap (λ (l : List ℕ). get_or (l ++ rest) 34 0) two_lines)

-- of two puts with room for two lines, the second line says 06; a runner that says of it what it said of the first does not meet the promise
module _ (κs : Lfts 2) (a : Dens κs run-kinds.ps) (x : ℕ) (s : AtExit (ended_of 2 run-kinds.ps run-kinds.r) κs) (two : a.0.now ≡ put ++ put) (room : length a.1.0.now ≡ 54) (meets : run.Post κs a x s) where
  written_so : s.1.0.now ≡ (report_line 1 0x50 Nothing spaces ++ (report_line 2 0x50 (Refused OtherMode) spaces ++ [])) ++ drop (length (list_lines 2 (put ++ put))) a.1.0.now
  unfolding list_run limit_of chosen
  written_so =
      ap (λ (r : Ran). r.output) meets
      ∙ (λ i. list_lines (limit_of (room i)) (two i) ++ drop (length (list_lines (limit_of (room i)) (two i))) a.1.0.now)
      ∙ ap (λ (l : List ℕ). l ++ drop (length (list_lines 2 (put ++ put))) a.1.0.now) two_lines

  pub works_the_first_echoes_the_rest : s.1.0.now ≡ report_line 1 0x50 Nothing spaces ++ (report_line 2 0x50 Nothing spaces ++ []) → ⊥
  unfolding report_line line_bytes decimals
  works_the_first_echoes_the_rest e =
      let byte : ◌≡◌ {A = ℕ} 0x2D 0x30 = ap (λ (l : List ℕ). get_or l 34 0) (sym e ∙ written_so) in omega (arith, byte)

  -- nor does one that copies the record itself
  pub copies_the_rest : (rest : List ℕ) → s.1.0.now ≡ report_line 1 0x50 Nothing spaces ++ (put ++ rest) → ⊥
  unfolding report_line line_bytes decimals
  copies_the_rest rest e = let byte : ◌≡◌ {A = ℕ} 0x50 0x30 = ap (λ (l : List ℕ). get_or l 27 0) (sym e ∙ written_so) in omega (arith, byte)
