-- What became of an order, in byte 20 of a console's state. A that is not refused tells it, 65 for 1 and 66 for 0, with no mark, sets it to 0 and changes
-- no other byte. S tells no answer, whatever arrives. Of any bytes.
use Prim.Native.Nat.{ℕ}
use mathlib.Core.Path.{◌≡◌, refl, sym, ap, subst, ◌∙◌}
use mathlib.Core.Bool.{Bool, true, false, true≢false}
use mathlib.Core.Option as maybe
use mathlib.Core.List.{List}
use borrow.Author.Tests.{eq-eqb}
use contract.Lifetimes.{Lfts}
use borrow.Fn.Kinds.{Dens, ended_of}
use denote.Triple.Clauses.{AtExit}
use lib.ListN.{length, get_or, set}
use lib.Dec.{eqb}
use Rattle.std.specs.Prelude.{None, Option, Some, Result, Ok, Err}
use Rattle.ground.specs.Bytes.{Bytes}
use Rattle.ground.specs.Cell.{is_message}
use Rattle.ground.specs.Choice.{chosen, when◌then◌else◌}
use Rattle.ground.specs.First.{refusal}
use Rattle.ground.specs.declared.refusals.Refusal as refusals
use Rattle.ground.proofs.Tests.{by_test, and_both}
use Rattle.wire.specs.Number.{bytes_of}
use Rattle.wire.specs.Packet.{head_read}
use Rattle.wire.specs.declared.Head.{Head}
use Rattle.rules.specs.Supply.{numbering}
use Rattle.rules.specs.Letters.{line, letters, among, letter}
use Rattle.rules.specs.Ends as rules
use Rattle.rules.specs.Reading.{leaves, said, ack_after, ack_says, console_read_step}
use Rattle.numbers.specs.declared.Numbers.{Numbers}
use Rattle.ends.specs.AsRules.{report_back, to_console}
use Rattle.ends.specs.Packets.{head_for_console}
use Rattle.ends.specs.declared.ToConsole.{ToConsole}
use Rattle.ends.specs.declared.Report.{Report}
use Rattle.ends_console.specs.Fields.{console_ok}
use Rattle.ends_console.specs.FieldsAsRules.{console_means}
use Rattle.ends_console.specs.declared.fields.Console.{Console}
use Rattle.ends_console.proofs.FieldsAsRules.{only_its_ack}
use Rattle.alone.specs.AnyEnd.{lent}
use Rattle.alone.specs.ConsoleAlone.{ConsoleAlone, console_alone_acts, console_alone_takes, console_hears, console_alone}
use Rattle.boundary.specs.State.{flag, is_refusal, changed, marks, told}
use Rattle.boundary.specs.Console.{console_bytes, console_at, ConsoleStep, stepped, console_state_step}
use Rattle.boundary.proofs.BenchRefusals.{console_long}
use Rattle.boundary.proofs.ConsoleTrips.{console_ok_lem, console_step_leaves, console_write_back}
use Rattle.boundary.proofs.ToldByte.{Refusal, unrefused, answers, NoAnswer, no_answer_told}
use Rattle.boundary.proofs.console.nooseless_console_step.Kinds as console-kinds
use Rattle.boundary.proofs.console.nooseless_console_step.Reads as console-step

-- ## A

-- the same console, with its ack read
abbrev read_of : Console → Console
read_of c = record { numbers = c.numbers; held = c.held; message = c.message; j = c.j; last = c.last; up = c.up; ack = false }

abbrev says : Bool → Report
says ack = report_back {M = List ℕ} (ack_says ack)

alone_reads : (c : Console) → length c.message ≡ 16 → console_ok c ≡ true → (m packet reply : List ℕ) → is_refusal (console_alone c 0x41 m packet reply).outcome.report ≡ false
    → console_alone c 0x41 m packet reply ≡ record { outcome = record { report = says c.ack; sent = false; console = read_of c }; reply = reply }
unfolding console_alone console_alone_acts console_read_step said ack_after rules.console_step rules.console_acts rules.console_turn rules.end_after rules.numbers_after rules.up_after rules.absent line letters among letter chosen
alone_reads c long ok m packet reply e =
    by_test (eqb (refusal (rules.console_rules numbering is_message (console_means c) rules.tell_ack)) 0)
    (λ z. rw (ok, z) (λ i. record { outcome = record { report = says c.ack; sent = false; console = only_its_ack c false long ok i }; reply = reply }))
    (λ z. absurd (true≢false (rw (ok, z) at e)))

unchanged : (n : Numbers) → changed n n ≡ false
unchanged n = rw (and_both (eqb n.reserved n.reserved) (eqb n.block n.block) (eq-eqb n.reserved n.reserved refl) (eq-eqb n.block n.block refl))

-- what is told of byte 20
abbrev pub answer_in : List ℕ → ℕ
answer_in s = when eqb (get_or s 20 0) 1 then 65 else 66

told_so : (ack keep : Bool) → keep ≡ false → told (says ack) false keep ≡ (when eqb (flag ack) 1 then 65 else 66)
unfolding marks chosen
told_so true keep e = rw e
told_so false keep e = rw e

-- the fields of a state, at their bytes
ack_byte : (c : Console) → get_or (console_bytes c) 20 0 ≡ flag c.ack
unfolding console_bytes bytes_of
ack_byte c = refl

only_that_byte : (c : Console) → console_bytes (read_of c) ≡ set (console_bytes c) 20 0
unfolding console_bytes bytes_of
only_that_byte c = refl

pub console_reads_the_answer : (s m packet reply : List ℕ) → Bytes s → (Refusal (console_state_step s 0x41 m packet reply).told → ⊥)
    → console_state_step s 0x41 m packet reply ≡ record { told = answer_in s; state = set s 20 0; reply = reply }
console_reads_the_answer s m packet reply b z =
    let c = console_at s in
    let a = console_alone c 0x41 m packet reply in
    let f = unrefused a.outcome.report a.outcome.sent (changed c.numbers a.outcome.console.numbers) z in
    let ok = console_ok_lem s 0x41 m packet reply f in
    let same = console_write_back s b ok in
    let byte = sym (ack_byte c) ∙ ap (λ (l : List ℕ). get_or l 20 0) same in
    let tells = told_so c.ack (changed c.numbers c.numbers) (unchanged c.numbers) ∙ ap (λ (n : ℕ). when eqb n 1 then 65 else 66) byte in
    let left = only_that_byte c ∙ ap (λ (l : List ℕ). set l 20 0) same in
    let read = alone_reads c (console_long s) ok m packet reply f in
    let p : (console_state_step s 0x41 m packet reply).told ≡ answer_in s = ap (λ (d : ConsoleAlone). (stepped s d).told) read ∙ tells in
    let q : (console_state_step s 0x41 m packet reply).state ≡ set s 20 0 = console_step_leaves s 0x41 m packet reply f ∙ ap (λ (d : ConsoleAlone). console_bytes d.outcome.console) read ∙ left in
    λ i. record { told = p i; state = q i; reply = (read i).reply }

-- of the entry's own promise
module _ (κs : Lfts 4) (a : Dens κs console-kinds.ps) (x : ℕ) (s : AtExit (ended_of 4 console-kinds.ps console-kinds.r) κs) (meets : console-step.Post κs a x s) (bytes : Bytes a.0.now) (asks : a.1.0 ≡ 0x41) (done : Refusal x → ⊥) where
  pub console_step_reads_the_answer : ◌≡◌ {A = ConsoleStep} (record { told = x; state = s.0.now; reply = s.1.1.1.1.0.now }) (record { told = answer_in a.0.now; state = set a.0.now 20 0; reply = a.1.1.1.1.0.now })
  console_step_reads_the_answer =
      let so = meets ∙ ap (λ (l : ℕ). console_state_step a.0.now l a.1.1.0.now a.1.1.1.0.now a.1.1.1.1.0.now) asks in
      so ∙ console_reads_the_answer a.0.now a.1.1.0.now a.1.1.1.0.now a.1.1.1.1.0.now bytes (λ r. done (subst Refusal (sym (ap (λ (d : ConsoleStep). d.told) so)) r))

-- ## S

-- what arrives is stored
stored : (ack : Bool) (r : rules.Report (List ℕ)) → NoAnswer (report_back (said leaves ack r))
unfolding said
stored ack rules.nothing = tt
stored ack (rules.delivered m) = tt
stored ack rules.answered_ok = tt
stored ack rules.answered_lost = tt
stored ack (rules.refused n) = tt

module _ (c : Console) (m packet reply : List ℕ) where
  abbrev Quiet : ConsoleAlone → Type 0
  Quiet d = NoAnswer d.outcome.report

  takes_quiet : (p : Option ToConsole) → Quiet (console_alone_takes c reply p)
  unfolding console_alone_acts console_read_step
  takes_quiet None = tt
  takes_quiet (Some p) = stored c.ack (rules.console_step numbering is_message (console_means c) (rules.ConsoleAct.take (maybe.some (to_console p)))).report

  hears_quiet : (h : Result Head refusals.Refusal) → Quiet (console_hears c reply h)
  hears_quiet (Err r) = tt
  hears_quiet (Ok h) = takes_quiet (head_for_console h)

  alone_quiet : Quiet (console_alone c 0x53 m packet reply)
  unfolding console_alone lent line letters among letter chosen
  alone_quiet =
      by_test (console_ok c)
      (λ t. rw t (by_test (eqb (length reply) 32) (λ l. rw l (hears_quiet (head_read packet))) (λ l. rw l tt)))
      (λ f. rw f tt)

pub console_take_tells_no_answer : (s m packet reply : List ℕ) → answers (console_state_step s 0x53 m packet reply).told ≡ false
console_take_tells_no_answer s m packet reply =
    let c = console_at s in
    let a = console_alone c 0x53 m packet reply in
    no_answer_told a.outcome.report a.outcome.sent (changed c.numbers a.outcome.console.numbers) (alone_quiet c m packet reply)
