-- Runners of a list in C's hands that the promise shuts out: one that works the first record and echoes the rest, one that writes where
-- there is no record.
use Prim.Native.Nat.{ℕ, zero, suc}
use mathlib.Core.Path.{◌≡◌, refl, sym, ap, ◌∙◌}
use mathlib.Core.List.{List, [], ◌++◌}
use native.Mathlib.Omega.{arith}
use contract.Lifetimes.{Lfts}
use borrow.Fn.Kinds.{Dens, ended_of}
use denote.Triple.Clauses.{AtExit}
use lib.ListN.{length, get_or, drop}
use Rattle.ground.specs.Choice.{chosen}
use Rattle.bench.specs.Running.{records_of, lines, limit_of, list_lines, Ran, list_run}
use Rattle.bench.proofs.Echoes.{put, second_line}
use Rattle.boundary.proofs.lists.nooseless_run.Kinds as run-kinds
use Rattle.boundary.proofs.lists.nooseless_run.Reads as run

-- two puts with room for two lines: the second is 06
module _ (κs : Lfts 2) (a : Dens κs run-kinds.ps) (n : ℕ) (s : AtExit (ended_of 2 run-kinds.ps run-kinds.r) κs) (two : a.0.now ≡ put ++ put) (room : length a.1.0.now ≡ 54) (meets : run.Post κs a n s) where
  abbrev rest : List ℕ
  rest = drop (length (list_lines 2 (put ++ put))) a.1.0.now

  written_so : s.1.0.now ≡ list_lines 2 (put ++ put) ++ rest
  unfolding list_run limit_of chosen
  written_so = ap (λ (r : Ran). r.output) meets ∙ (λ i. list_lines (limit_of (room i)) (two i) ++ drop (length (list_lines (limit_of (room i)) (two i))) a.1.0.now)

  -- it says -- of the second, as it said of the first
  pub run_echoes : get_or s.1.0.now 34 0 ≡ 0x2D → ⊥
  run_echoes e =
      let byte : ◌≡◌ {A = ℕ} 0x2D 0x30 = sym e ∙ ap (λ (l : List ℕ). get_or l 34 0) written_so ∙ (second_line rest).1 in omega (arith, byte)

  -- it copies the second as it stands
  pub run_copies : get_or s.1.0.now 27 0 ≡ 0x50 → ⊥
  run_copies e =
      let byte : ◌≡◌ {A = ℕ} 0x50 0x30 = sym e ∙ ap (λ (l : List ℕ). get_or l 27 0) written_so ∙ (second_line rest).0 in omega (arith, byte)

-- no input, whatever the room
no_records : (n : ℕ) → records_of n [] ≡ []
unfolding records_of
no_records zero = refl
no_records (suc n) = refl

no_lines : (n : ℕ) → list_lines n [] ≡ []
unfolding list_lines lines
no_lines n = rw (no_records n)

module _ (κs : Lfts 2) (a : Dens κs run-kinds.ps) (n : ℕ) (s : AtExit (ended_of 2 run-kinds.ps run-kinds.r) κs) (none : a.0.now ≡ []) (meets : run.Post κs a n s) where
  nothing : list_lines (limit_of (length a.1.0.now)) a.0.now ≡ []
  nothing = rw none (no_lines (limit_of (length a.1.0.now)))

  pub run_writes_without_a_record : (s.1.0.now ≡ a.1.0.now → ⊥) → ⊥
  unfolding list_run
  run_writes_without_a_record h = h (ap (λ (r : Ran). r.output) meets ∙ ap (λ (l : List ℕ). l ++ drop (length l) a.1.0.now) nothing)

  pub run_counts_without_a_record : (n ≡ 0 → ⊥) → ⊥
  unfolding list_run
  run_counts_without_a_record h = h (ap (λ (r : Ran). r.number) meets ∙ ap (λ (l : List ℕ). length l) nothing)
