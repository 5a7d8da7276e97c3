-- The public step and the fresh bench: the ways through them.
use Prim.Native.Nat.{ℕ}
use mathlib.Core.Path.{◌≡◌, refl, sym, ap, subst, ◌∙◌}
use mathlib.Core.Bool.{Bool, true, false, ◌&&◌}
use mathlib.Core.Option as maybe
use mathlib.Core.List.{List}
use lib.ListN.{length, replicate}
use borrow.Author.Tests.{eq-eqb, ne_eqb}
use Rattle.ground.specs.declared.refusals.Refusal.TheVariants.{IllFormed}
use Rattle.ground.specs.Refusals.{refusal_of}
use Rattle.std.specs.Prelude.{Option, None, Some}
use Rattle.ground.specs.Cell.{is_message, spaces}
use Rattle.ground.specs.Choice.{chosen}
use Rattle.wire.specs.declared.I.{I}
use Rattle.wire.specs.declared.J.{J}
use Rattle.rules.specs.Supply.{numbering, Numbers}
use Rattle.rules.specs.Letters as letters
use Rattle.rules.specs.Letters.{letter}
use Rattle.rules.specs.Bench as rules
use Rattle.rules.specs.Reading.{Reading, reading, Read, read_step}
use Rattle.rules.specs.Relabel.{in_console}
use Rattle.wire.specs.declared.Direction.TheVariants.{ToController, ToConsole}
use Rattle.letters.specs.Lines.{found_of, Lined}
use Rattle.letters.proofs.Asking.{found_lined}
use Rattle.letters.specs.declared.Line.{Line}
use Rattle.ends_console.specs.AsRules as console-rules
use Rattle.ends_console.specs.Fields.{console_read, fresh_console}
use Rattle.ends_console.specs.Types as console-end
use Rattle.ends_controller.specs.AsRules as controller-rules
use Rattle.ends_controller.specs.Fields.{controller_read, fresh_controller}
use Rattle.ends_controller.specs.Types as controller-end
use Rattle.ends_console.proofs.FieldsAsRules as console-fields
use Rattle.ends_console.proofs.FieldsRead as console-read-fields
use Rattle.ends_controller.proofs.FieldsAsRules as controller-fields
use Rattle.ends_controller.proofs.FieldsRead as controller-read-fields
use Rattle.ends.specs.declared.Report.TheVariants.{Nothing, Refused}
use Rattle.ends_console.specs.declared.fields.Console.{Console}
use Rattle.ends_controller.specs.declared.fields.Controller.{Controller}
use Rattle.channels.specs.Packets.{to_controller_read, to_console_read}
use Rattle.channels.specs.Table.{packets, table_ok}
use Rattle.channels.proofs.Channel.{packets_length, channel_none}
use Rattle.channels.proofs.Packets.{to_controller_coded, to_console_coded}
use Rattle.bench.specs.AsRules.{bench_ok, bench_means, bench_reads, bench_back}
use Rattle.bench.specs.Promise.{Result, bench_refused, bench_told, step_of, bench_step, fresh_rules, bench_fresh}
use Rattle.bench.specs.ByModes.{action_of}
use Rattle.bench.specs.WithNumbers.{read_of, with_numbers, step_with}
use Rattle.bench.specs.Loaded.{loaded_reads, loaded_of, stepped_as, loaded_step, bench_of, outcome_of, lined_step}
use Rattle.bench.specs.declared.Action.{Action}
use Rattle.bench.specs.declared.Bench.{Bench}
use Rattle.bench.specs.declared.Outcome.{Outcome}
use Rattle.bench.specs.declared.loaded.Loaded.{Loaded}
use Rattle.bench.specs.declared.loaded.Stepped.{Stepped}
use Rattle.bench.proofs.BenchRead.{passes}

-- ## The step of a letter that is an action

-- the fields of a bench by its modes are those of what it means
pub bench_of_lem : (b : Loaded) (out back : List ℕ) → bench_of b ≡ bench_back (loaded_reads b out back)
unfolding bench_back with_numbers
bench_of_lem b out back =
    λ i.
    record {
      console = sym (console-fields.fields_of b.console b.modes.console.mode b.modes.console.up b.ack b.modes.console.held) i;
      controller = sym (controller-fields.fields_of b.controller b.modes.controller.mode b.modes.controller.up) i;
      sent = sym (packets_length to_controller_coded b.modes.sent out) i;
      returned = sym (packets_length to_console_coded b.modes.returned back) i;
    }

-- what the private step tells, as the outcome has it
pub told_so : (t : Stepped) (out back : List ℕ) (o : Read (rules.Bench Numbers (List ℕ)) (List ℕ)) → stepped_as t out back ≡ read_of o → record { outcome = outcome_of t; out = out; back = back } ≡ bench_told o
unfolding stepped_as read_of outcome_of bench_told
told_so t out back o e =
    (λ i. record { outcome = record { report = t.report; message = t.message; bench = bench_of_lem t.after out back i }; out = out; back = back })
    ∙ λ i. record { outcome = record { report = (e i).report; message = (e i).message; bench = bench_back (e i).after }; out = (e i).out; back = (e i).back }

abbrev refusing : ℕ → Bench → Outcome
refusing n b = record { report = Refused (refusal_of n); message = spaces; bench = b }

ill_so : {r : Outcome} (b : Bench) (line : Line) (a : Action) (out back : List ℕ) → bench_ok b out back ≡ false → r ≡ refusing 2 b → record { outcome = r; out = out; back = back } ≡ lined_step b line a out back
unfolding lined_step bench_refused chosen
ill_so b line a out back f q = (λ i. record { outcome = q i; out = out; back = back }) ∙ rw f

module _ {read : Option console-end.End} (b : Bench) (e : read ≡ console_read b.console) where
  pub console_ill : {r : Outcome} (line : Line) (a : Action) (out back : List ℕ) → read ≡ None → r ≡ refusing 2 b → record { outcome = r; out = out; back = back } ≡ lined_step b line a out back
  unfolding bench_ok
  console_ill line a out back h q = ill_so b line a out back (rw (console-read-fields.not_read b.console (sym e ∙ h))) q

  pub console_is : {x : console-end.End} → read ≡ Some x → console_read b.console ≡ Some x
  console_is h = sym e ∙ h

module _ {read : Option controller-end.End} (b : Bench) (e : read ≡ controller_read b.controller) where
  pub controller_ill : {r : Outcome} (line : Line) (a : Action) (out back : List ℕ) → {x : console-end.End} → console_read b.console ≡ Some x → read ≡ None → r ≡ refusing 2 b → record { outcome = r; out = out; back = back } ≡ lined_step b line a out back
  unfolding bench_ok
  controller_ill line a out back k h q =
      ill_so b line a out back (rw ((console-read-fields.was_read b.console k).0, controller-read-fields.not_read b.controller (sym e ∙ h))) q

  pub controller_is : {x : controller-end.End} → read ≡ Some x → controller_read b.controller ≡ Some x
  controller_is h = sym e ∙ h

module _ (b : Bench) (line : Line) (a : Action) (out back : List ℕ) {e : console-end.End} {f : controller-end.End} {ok : Bool} (r : console_read b.console ≡ Some e)
    (s : controller_read b.controller ≡ Some f) (t : ok ≡ (table_ok ToController b.sent out && table_ok ToConsole b.returned back)) where
  pub tables_ill : {x : Outcome} → ok ≡ false → x ≡ refusing 2 b → record { outcome = x; out = out; back = back } ≡ lined_step b line a out back
  tables_ill n q = ill_so b line a out back (passes b out back r s t ∙ n) q

  means_is : bench_reads b out back ≡ loaded_reads (loaded_of e b.console.ack b.console.message f b.sent b.returned) out back
  unfolding bench_means with_numbers loaded_of
  means_is =
      λ i.
      reading
      (record {
        console = in_console (λ _. b.console.message) (console-rules.end (sym (console-read-fields.was_read b.console r).1 i));
        controller = controller-rules.end (sym (controller-read-fields.was_read b.controller s).1 i);
        to_controller = packets to_controller_read b.sent out;
        to_console = packets to_console_read b.returned back;
      }) b.console.ack

  pub ends_step : {l : Loaded} (w : Stepped) {x : Outcome} {out' back' : List ℕ} → ok ≡ true → l ≡ loaded_of e b.console.ack b.console.message f b.sent b.returned → stepped_as w out' back' ≡ loaded_step l out back line a
      → x ≡ outcome_of w → record { outcome = x; out = out'; back = back' } ≡ lined_step b line a out back
  unfolding lined_step step_with action_of chosen
  ends_step {l} w {x} {out'} {back'} n g h q =
      (λ j. record { outcome = q j; out = out'; back = back' })
      ∙ told_so w out' back' (read_step numbering is_message (bench_reads b out back) (action_of line a))
      (h ∙ ap (λ (y : Loaded). loaded_step y out back line a) g ∙ ap (λ (y : Reading (rules.Bench Numbers (List ℕ))). read_of (read_step numbering is_message y (action_of line a))) (sym means_is))
      ∙ rw (passes b out back r s t, n)

-- ## The step

found_none : (o : maybe.Option letters.Letter) → found_of o ≡ None → o ≡ maybe.none
found_none maybe.none e = refl
found_none (maybe.some l) e = absurd (subst IsLine e tt)
  where
    IsLine : Option Line → Type 0
    IsLine f = elim f [ None ↦ ⊥ | Some l ↦ Unit {0} ]

module _ {f : Option Line} (b : Bench) (a : Action) (e : f ≡ found_of (letter a.letter)) where
  pub lined_so : {line : Line} → f ≡ Some line → Lined line
  lined_so h = (found_lined (letter a.letter) (sym e ∙ h)).1

  pub step_unknown : {r : Outcome} (out back : List ℕ) → f ≡ None → r ≡ refusing 1 b → record { outcome = r; out = out; back = back } ≡ bench_step b a out back
  unfolding bench_step bench_refused
  step_unknown out back h q =
      (λ i. record { outcome = q i; out = out; back = back })
      ∙ ap (λ (o : maybe.Option letters.Letter). step_of o b a out back) (sym (found_none (letter a.letter) (sym e ∙ h)))

  pub step_lined : {line : Line} {x : Result} (out back : List ℕ) → f ≡ Some line → x ≡ lined_step b line a out back → x ≡ bench_step b a out back
  unfolding bench_step lined_step
  step_lined out back h q = q ∙ ap (λ (o : maybe.Option letters.Letter). step_of o b a out back) (sym (found_lined (letter a.letter) (sym e ∙ h)).0)

-- ## Fresh

module _ {c : Console} {d : Controller} (j : J) (i : I) (out back : List ℕ) (e : c ≡ fresh_console j) (f : d ≡ fresh_controller i) where
  bench_is : record { console = c; controller = d; sent = 0; returned = 0 } ≡ bench_back (fresh_rules j i)
  unfolding bench_back rules.fresh
  bench_is = λ k. record { console = e k; controller = f k; sent = 0; returned = 0 }

  pub fresh_out_ill : {r : Outcome} → (length out ≡ 2048 → ⊥) → r ≡ record { report = Refused IllFormed; message = spaces; bench = record { console = c; controller = d; sent = 0; returned = 0 } }
      → record { outcome = r; out = out; back = back } ≡ bench_fresh j i out back
  unfolding bench_fresh bench_refused chosen
  fresh_out_ill n q =
      (λ k. record { outcome = q k; out = out; back = back })
      ∙ (λ k. record { outcome = record { report = Refused IllFormed; message = spaces; bench = bench_is k }; out = out; back = back })
      ∙ rw (ne_eqb (length out) 2048 n)

  pub fresh_back_ill : {r : Outcome} → length out ≡ 2048 → (length back ≡ 2048 → ⊥) → r ≡ record { report = Refused IllFormed; message = spaces; bench = record { console = c; controller = d; sent = 0; returned = 0 } }
      → record { outcome = r; out = out; back = back } ≡ bench_fresh j i out back
  unfolding bench_fresh bench_refused chosen
  fresh_back_ill m n q =
      (λ k. record { outcome = q k; out = out; back = back })
      ∙ (λ k. record { outcome = record { report = Refused IllFormed; message = spaces; bench = bench_is k }; out = out; back = back })
      ∙ rw (eq-eqb (length out) 2048 m, ne_eqb (length back) 2048 n)

  pub fresh_does : {out' back' : List ℕ} → length out ≡ 2048 → length back ≡ 2048 → out' ≡ replicate (length out) 0 → back' ≡ replicate (length back) 0
      → record { outcome = record { report = Nothing; message = spaces; bench = record { console = c; controller = d; sent = 0; returned = 0 } }; out = out'; back = back' } ≡ bench_fresh j i out back
  unfolding bench_fresh bench_told rules.fresh chosen
  fresh_does m n p q =
      (λ k.
      record {
        outcome = record { report = Nothing; message = spaces; bench = bench_is k };
        out = (p ∙ ap (λ (x : ℕ). replicate x 0) m ∙ sym (channel_none to_controller_coded)) k;
        back = (q ∙ ap (λ (x : ℕ). replicate x 0) n ∙ sym (channel_none to_console_coded)) k;
      })
      ∙ rw (eq-eqb (length out) 2048 m, eq-eqb (length back) 2048 n)

pub ruleset freshes = (fresh_out_ill, fresh_back_ill, fresh_does)
