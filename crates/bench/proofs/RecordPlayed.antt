-- A record played on a well-formed bench is the promise's step, or its refusal 1.
use Prim.Native.Nat.{ℕ}
use mathlib.Core.Path.{◌≡◌, refl, sym, ap, subst, ◌∙◌}
use mathlib.Core.Bool.{true}
use mathlib.Core.Option as maybe
use mathlib.Core.List.{List, []}
use lib.ListN.{length, get_or}
use borrow.Author.Tests.{eq-eqb}
use Rattle.ground.specs.declared.refusals.Refusal.TheVariants.{NoAction}
use Rattle.std.specs.Prelude.{Option, None, Some, option_map}
use Rattle.ground.specs.Cell.{is_message, spaces}
use Rattle.ground.specs.Choice.{chosen}
use Rattle.listing.specs.Line.{line_written}
use Rattle.listing.specs.Record.{list_record}
use Rattle.listing.specs.declared.Fields.{Fields}
use Rattle.rules.specs.Supply.{numbering, Numbers}
use Rattle.rules.specs.Letters as letters
use Rattle.rules.specs.Letters.{letter}
use Rattle.rules.specs.Bench as rules
use Rattle.rules.specs.Reading.{Reading, Read, read_step}
use Rattle.rules.specs.WellFormed.{WellFormed}
use Rattle.rules.proofs.Letters.{letter_of_lem}
use Rattle.rules.proofs.Supply.{numbering_lawful}
use Rattle.rules.proofs.WellFormed.{step_well_formed}
use Rattle.letters.specs.Lines.{letter_of, line_of, found_of, Lined}
use Rattle.letters.proofs.Asking.{found_lined}
use Rattle.letters.specs.declared.Line.{Line}
use Rattle.ends.specs.declared.Report.TheVariants.{Refused}
use Rattle.channels.specs.Packets.{to_controller_bytes, to_console_bytes}
use Rattle.channels.specs.Table.{channel}
use Rattle.bench.specs.AsRules.{bench_ok, bench_reads, bench_back}
use Rattle.bench.specs.Promise.{Result, bench_refused, bench_told, bench_step}
use Rattle.bench.specs.Reports.{letter_cell, report_cells, report_line}
use Rattle.bench.specs.Running.{uses_of, action_with, action_as, list_action, played_as, played}
use Rattle.bench.specs.ByModes.{action_of}
use Rattle.bench.specs.WithNumbers.{ReadOutcome, read_of, step_with}
use Rattle.bench.specs.Loaded.{Well, stepped_as, loaded_means, loaded_reads, loaded_step, bench_of, outcome_of, FoundLined, fields_outcome, record_outcome, line_step, record_step, Played}
use Rattle.bench.specs.declared.loaded.Loaded.{Loaded}
use Rattle.bench.specs.declared.loaded.Stepped.{Stepped}
use Rattle.bench.proofs.BenchStands.{stands_ok, stands_for}
use Rattle.bench.proofs.StepEntry.{bench_of_lem, told_so}

-- ## The ways through a record

module _ (b : Loaded) (out back s : List ℕ) (k : Well b out back) where
  -- a refusal 1 leaves the bench
  refused_1 : {t : Stepped} → t ≡ record { report = Refused NoAction; message = spaces; after = b } → stepped_as t out back ≡ read_of (record_outcome None s b out back)
  unfolding stepped_as read_of
  refused_1 q =
      ap (λ (x : Stepped). stepped_as x out back) q
      ∙ (λ i. record { report = Refused NoAction; message = spaces; after = loaded_reads b out back; out = k.out_holds i; back = k.back_holds i })

  -- with the letter's line
  module _ (l : Line) {o : Option Fields} (e : o ≡ list_record (uses_of l) s) where
    pub line_refused : {t : Stepped} → o ≡ None → t ≡ record { report = Refused NoAction; message = spaces; after = b } → stepped_as t out back ≡ line_step b out back l s
    unfolding line_step chosen
    line_refused f q = refused_1 q ∙ ap (λ (x : Option Fields). read_of (fields_outcome l x b out back)) (sym f ∙ e)

    pub line_played : {r : Fields} {w : ReadOutcome Numbers} → o ≡ Some r → w ≡ loaded_step b out back l (action_with l r) → w ≡ line_step b out back l s
    unfolding line_step step_with chosen
    line_played f q = q ∙ ap (λ (x : Option Fields). read_of (fields_outcome l x b out back)) (sym f ∙ e)

  module _ {f : Option Line} (e : f ≡ found_of (letter (get_or s 0 0))) where
    pub play_refused : {t : Stepped} → f ≡ None → t ≡ record { report = Refused NoAction; message = spaces; after = b } → stepped_as t out back ≡ record_step b out back s
    unfolding record_step
    play_refused h q = refused_1 q ∙ ap (λ (x : Option Line). read_of (record_outcome x s b out back)) (sym h ∙ e)

    pub play_line : {l : Line} {w : ReadOutcome Numbers} → f ≡ Some l → w ≡ line_step b out back l s → w ≡ record_step b out back s
    unfolding record_step line_step
    play_line h q = q ∙ ap (λ (x : Option Line). read_of (record_outcome x s b out back)) (sym h ∙ e)

-- what was found is a line of the table
pub lined_letter : {f : Option Line} (s : List ℕ) {l : Line} → f ≡ found_of (letter (get_or s 0 0)) → f ≡ Some l → Lined l
lined_letter s {l} e h = (found_lined (letter (get_or s 0 0)) (sym e ∙ h)).1

lined_found : (o : maybe.Option letters.Letter) → FoundLined (found_of o)
lined_found maybe.none = tt
lined_found (maybe.some l) = (found_lined (maybe.some l) refl).1

-- ## What is known afterwards

outcome_ok : (f : Option Line) (s : List ℕ) (b : Loaded) (out back : List ℕ) → Well b out back → WellFormed numbering is_message (record_outcome f s b out back).after.history
unfolding read_step chosen
outcome_ok None s b out back k = k.well_formed
outcome_ok (Some l) s b out back k = fields_ok (list_record (uses_of l) s)
  where
    fields_ok : (o : Option Fields) → WellFormed numbering is_message (fields_outcome l o b out back).after.history
    fields_ok None = k.well_formed
    fields_ok (Some r) = step_well_formed numbering numbering_lawful is_message (loaded_means b out back) (action_of l (action_with l r)) k.well_formed

known_after : (t : Stepped) (out back : List ℕ) (o : Read (rules.Bench Numbers (List ℕ)) (List ℕ)) → WellFormed numbering is_message o.after.history → stepped_as t out back ≡ read_of o → Well t.after out back
unfolding stepped_as read_of
known_after t out back o w e =
    let a : loaded_means t.after out back ≡ o.after.history = ap (λ (x : ReadOutcome Numbers). x.after.history) e in
    record {
      well_formed = subst (WellFormed numbering is_message) (sym a) w;
      out_holds = ap (λ (x : ReadOutcome Numbers). x.out) e ∙ ap (λ (x : rules.Bench Numbers (List ℕ)). channel to_controller_bytes x.to_controller) (sym a);
      back_holds = ap (λ (x : ReadOutcome Numbers). x.back) e ∙ ap (λ (x : rules.Bench Numbers (List ℕ)). channel to_console_bytes x.to_console) (sym a);
    }

-- ## The promise's step

module _ (b : Loaded) (out back : List ℕ) (k : Well b out back) where
  abbrev B : Reading (rules.Bench Numbers (List ℕ))
  B = loaded_reads b out back

  same_bench : bench_of b ≡ bench_back B
  same_bench = bench_of_lem b out back

  passes : bench_ok (bench_of b) out back ≡ true
  passes = (λ i. bench_ok (same_bench i) (k.out_holds i) (k.back_holds i)) ∙ stands_ok B k.well_formed

  means : bench_reads (bench_of b) out back ≡ B
  means = (λ i. bench_reads (same_bench i) (k.out_holds i) (k.back_holds i)) ∙ stands_for B k.well_formed

  -- a refusal 1 leaves the bench
  one : bench_told (record_outcome None [] b out back) ≡ bench_refused 1 (bench_of b) out back
  unfolding bench_told bench_refused
  one = λ i. record { outcome = record { report = Refused NoAction; message = spaces; bench = sym same_bench i }; out = sym k.out_holds i; back = sym k.back_holds i }

  as_told : (f : Option Line) (s : List ℕ) → FoundLined f → bench_told (record_outcome f s b out back) ≡ played_as (action_as f s) (bench_of b) out back
  unfolding bench_told bench_refused bench_step action_of line_of Lined chosen
  as_told None s h = one
  as_told (Some l) s h = told_fields (list_record (uses_of l) s)
    where
      e : letter l.byte ≡ maybe.some (letter_of l)
      e = ap (λ (x : Line). letter x.byte) h ∙ letter_of_lem (letter_of l)

      told_fields : (o : Option Fields) → bench_told (fields_outcome l o b out back) ≡ played_as (option_map (action_with l) o) (bench_of b) out back
      told_fields None = one
      told_fields (Some r) = rw (e, passes, means)

  module _ (s : List ℕ) (t : Stepped) (out' back' : List ℕ) (e : stepped_as t out' back' ≡ record_step b out back s) where
    abbrev f : Option Line
    f = found_of (letter (get_or s 0 0))

    result_is : record { outcome = outcome_of t; out = out'; back = back' } ≡ played (bench_of b) out back s
    unfolding record_step played list_action
    result_is = told_so t out' back' (record_outcome f s b out back) e ∙ as_told f s (lined_found (letter (get_or s 0 0)))

    next_known : Well t.after out' back'
    unfolding record_step
    next_known = known_after t out' back' (record_outcome f s b out back) (outcome_ok f s b out back k) e

-- a turn: a record is played, and its line is written
module _ {line cells : List ℕ} {cell : ℕ} (t : Stepped) (b : Loaded) (out back s : List ℕ) (number : ℕ) (out' back' before : List ℕ) where
  pub turned : Well b out back → length before ≡ 27 → stepped_as t out' back' ≡ record_step b out back s → cell ≡ letter_cell (get_or s 0 0) t.report → cells ≡ report_cells t.report
      → line ≡ line_written before number cell cells t.message → Played b out back s number t.after line out' back'
  unfolding outcome_of line_written report_line chosen
  turned k l h c d w =
      let same : record { outcome = outcome_of t; out = out'; back = back' } ≡ played (bench_of b) out back s = result_is b out back k s t out' back' h in
      record {
        known = next_known b out back k s t out' back' h;
        written = w ∙ rw (eq-eqb (length before) 27 l, c, d) (ap (λ (x : Result). report_line number (get_or s 0 0) x.outcome.report x.outcome.message) same);
        bench_is = ap (λ (x : Result). x.outcome.bench) same;
        out_is = ap (λ (x : Result). x.out) same;
        back_is = ap (λ (x : Result). x.back) same;
      }
