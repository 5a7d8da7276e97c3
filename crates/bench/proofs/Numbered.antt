-- The number by which the bench's step refuses is the one that is named for the action, 0 where it is not refused, for every input: 1, then 2, then the
-- number by which the rules refuse it.
use Prim.Native.Nat.{ℕ}
use mathlib.Core.Path.{◌≡◌, refl, ◌∙◌}
use mathlib.Core.Option.{Option, none, some}
use mathlib.Core.List.{List}
use Rattle.ground.specs.Cell.{is_message}
use Rattle.ground.specs.Choice.{chosen, when◌then◌else◌}
use Rattle.ground.specs.First.{refusal}
use Rattle.ground.proofs.Tests.{by_test}
use Rattle.rules.specs.Supply.{numbering}
use Rattle.rules.specs.Letters.{Letter, letter}
use Rattle.rules.specs.Bench as rules
use Rattle.rules.specs.Reading.{use_by, read_step}
use Rattle.rules.proofs.Bench.{step_refused}
use Rattle.ends.specs.AsRules.{number_in}
use Rattle.ends.proofs.Reports.{number_told}
use Rattle.ends_console.proofs.ShownReport.{number_said}
use Rattle.bench.specs.AsRules.{bench_ok, bench_means, bench_reads}
use Rattle.bench.specs.Promise.{bench_refused, bench_told, step_of, bench_step}
use Rattle.bench.specs.declared.Action.{Action}
use Rattle.bench.specs.declared.Bench.{Bench}

module _ (b : Bench) (a : Action) (out back : List ℕ) where
  -- the number by which the rules refuse the action, or 0
  abbrev pub rules_number : Letter → ℕ
  rules_number l = refusal (rules.rules_of numbering is_message (bench_means b out back) (rules.action l a.place a.copies a.message))

  -- the number that is named for it, or 0
  abbrev pub named : Option Letter → ℕ
  named none = 1
  named (some l) = when bench_ok b out back then rules_number l else 2

  told_number : (l : Letter) → number_in (bench_told (read_step numbering is_message (bench_reads b out back) (rules.action l a.place a.copies a.message))).outcome.report ≡ rules_number l
  unfolding bench_told read_step
  told_number l =
      let m = bench_means b out back in
      let act = rules.action l a.place a.copies a.message in
      let r = (rules.step numbering is_message m act).report in
      number_said (use_by (rules.asks m l a.place a.message)) b.console.ack r ∙ number_told (rules.rules_of numbering is_message m act) r (step_refused numbering is_message m act)

  letter_number : (l : Option Letter) → number_in (step_of l b a out back).outcome.report ≡ named l
  unfolding bench_refused chosen
  letter_number none = refl
  letter_number (some l) = by_test (bench_ok b out back) (λ t. rw t (told_number l)) (λ f. rw f refl)

  pub step_refused_by : number_in (bench_step b a out back).outcome.report ≡ named (letter a.letter)
  unfolding bench_step
  step_refused_by = letter_number (letter a.letter)
