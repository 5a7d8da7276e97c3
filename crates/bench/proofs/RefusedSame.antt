-- A refusal leaves the bench and both tables byte for byte, and delivers nothing; for every input that the types allow.
use Prim.Native.Nat.{ℕ}
use mathlib.Core.Path.{◌≡◌, sym, ap, ◌∙◌}
use mathlib.Core.Bool.{true}
use mathlib.Core.Option.{Option, none, some}
use mathlib.Core.List.{List}
use Rattle.ground.proofs.RefusalNumbers.{refusal_of-number_of}
use Rattle.ground.specs.Refusals.{number_of, refusal_of}
use Rattle.ground.specs.declared.refusals.Refusal.{Refusal}
use Rattle.ground.specs.Bytes.{Bytes}
use Rattle.ground.specs.Cell.{is_message, spaces}
use Rattle.ground.specs.Choice.{chosen}
use Rattle.ground.proofs.Tests.{by_test}
use Rattle.rules.specs.Supply.{numbering}
use Rattle.rules.specs.Letters.{Letter, letter}
use Rattle.rules.specs.Ends as ends
use Rattle.rules.specs.Bench as rules
use Rattle.rules.specs.Reading.{use_by, said, ack_after, read, read_step}
use Rattle.ends_console.proofs.ShownReport.{refused_below}
use Rattle.rules.proofs.Bench.{step_refused_same}
use Rattle.ends_console.proofs.FieldsAsRules.{unchanged}
use Rattle.ends_controller.proofs.FieldsAsRules as controller-fields
use Rattle.ends.specs.declared.Report.{Report}
use Rattle.ends.specs.declared.Report.TheVariants as report
use Rattle.channels.proofs.Channel.{packets_length}
use Rattle.channels.proofs.Packets.{to_controller_coded, to_console_coded}
use Rattle.bench.specs.AsRules.{bench_ok, bench_means, bench_reads, bench_back}
use Rattle.bench.specs.Promise.{Result, bench_refused, bench_told, step_of, bench_step}
use Rattle.bench.specs.WithNumbers.{with_numbers}
use Rattle.bench.specs.Loaded.{Typed, loaded_of}
use Rattle.bench.specs.declared.Action.{Action}
use Rattle.bench.specs.declared.Bench.{Bench}
use Rattle.bench.proofs.BenchRead.{console_passes, controller_passes, passes_well}

module _ (b : Bench) (out back : List ℕ) where
  as_refused : {r t : Report} → r ≡ t → ◌≡◌ {A = Result} (record { outcome = record { report = r; message = spaces; bench = b }; out = out; back = back }) (record { outcome = record { report = t; message = spaces; bench = b }; out = out; back = back })
  as_refused e i = record { outcome = record { report = e i; message = spaces; bench = b }; out = out; back = back }

  -- what is refused before the rules are asked
  refused_early : (k : ℕ) (q : Refusal) → (bench_refused k b out back).outcome.report ≡ report.Refused q → bench_refused k b out back ≡ bench_refused (number_of q) b out back
  unfolding bench_refused
  refused_early k q e = as_refused (e ∙ ap report.Refused (sym (refusal_of-number_of q)))

  module _ (typed : Typed b.console b.controller) (p : Bytes out) (q : Bytes back) where
    numbered_as : (n : ℕ) (q : Refusal) → refusal_of n ≡ q → bench_refused n b out back ≡ bench_refused (number_of q) b out back
    unfolding bench_refused
    numbered_as n q e = as_refused (ap report.Refused (e ∙ sym (refusal_of-number_of q)))

    -- a well-formed bench is what it means, as fields and tables
    same : bench_ok b out back ≡ true → (n : ℕ) → bench_told (record { report = ends.refused n; after = bench_reads b out back }) ≡ bench_refused n b out back
    unfolding bench_told bench_refused bench_back bench_means loaded_of with_numbers
    same ok n =
        let k = passes_well b out back ok typed p q in
        λ i.
        record {
          outcome =
              record {
                report = report.Refused (refusal_of n);
                message = spaces;
                bench =
                    record {
                      console = unchanged b.console typed.message (console_passes b out back ok) i;
                      controller = controller-fields.unchanged b.controller (controller_passes b out back ok) i;
                      sent = packets_length to_controller_coded b.sent out i;
                      returned = packets_length to_console_coded b.returned back i;
                    };
              };
          out = sym k.out_holds i;
          back = sym k.back_holds i;
        }

    told_same : (a : rules.Action (List ℕ)) (q : Refusal) → bench_ok b out back ≡ true
        → (bench_told (read_step numbering is_message (bench_reads b out back) a)).outcome.report ≡ report.Refused q
        → bench_told (read_step numbering is_message (bench_reads b out back) a) ≡ bench_refused (number_of q) b out back
    unfolding bench_told read_step said ack_after
    told_same a q ok e =
        let B = bench_means b out back in
        let u = use_by (rules.asks B a.letter a.place a.message) in
        let o = rules.step numbering is_message B a in
        let f = refused_below u b.console.ack o.report q e in
        (λ i. bench_told (read u b.console.ack (f.1 i) (step_refused_same numbering is_message B a f.0 f.1 i)))
        ∙ same ok f.0
        ∙ numbered_as f.0 q f.2

    of_letter : (l : Option Letter) (a : Action) (q : Refusal) → (step_of l b a out back).outcome.report ≡ report.Refused q → step_of l b a out back ≡ bench_refused (number_of q) b out back
    unfolding chosen
    of_letter none a q e = refused_early 1 q e
    of_letter (some l) a q e =
        by_test (bench_ok b out back)
        (λ y. rw y (told_same (rules.action l a.place a.copies a.message) q y (rw y at e)))
        (λ z. rw z (refused_early 2 q (rw z at e)))

    pub refused_same : (a : Action) (q : Refusal) → (bench_step b a out back).outcome.report ≡ report.Refused q → bench_step b a out back ≡ bench_refused (number_of q) b out back
    unfolding bench_step
    refused_same a q e = of_letter (letter a.letter) a q e
