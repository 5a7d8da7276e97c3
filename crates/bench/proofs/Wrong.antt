-- Benches that the promises shut out. A step: one that always refuses, one that always says OK, one that changes nothing, and some that look at what they
-- shouldn't or don't look at what they should. A fresh bench: one that always refuses, one that leaves the tables as they were.
use Prim.Native.Nat.{ℕ}
use mathlib.Core.Path.{◌≡◌, refl, sym, ap, ◌∙◌}
use mathlib.Core.Bool.{true, false}
use mathlib.Core.List.{List, [], ◌∷◌}
use native.Mathlib.Omega.{arith}
use lib.ListN.{length, replicate, get_or}
use borrow.Author.Tests.{eq-eqb}
use contract.Lifetimes.{Lfts}
use borrow.Fn.Kinds.{Dens, ended_of}
use denote.Triple.Clauses.{AtExit}
use Rattle.ground.specs.declared.refusals.Refusal.TheVariants.{IllFormed, NoPlace, NoRoom, TooManyCopies}
use Rattle.ground.specs.declared.refusals.Refusal.{Refusal}
use Rattle.ground.specs.Cell.{spaces}
use Rattle.ground.specs.Choice.{chosen}
use Rattle.ground.proofs.Promise.{RulesOut}
use Rattle.wire.specs.declared.I.{I}
use Rattle.wire.specs.declared.J.{J}
use Rattle.wire.specs.Number.{bytes_of}
use Rattle.wire.specs.Packet.{packet_bytes}
use Rattle.rules.specs.Ends.{need_i, ok}
use Rattle.rules.specs.Bench as rules
use Rattle.ends_console.specs.Fields.{console_with, fresh_console}
use Rattle.ends_controller.specs.Fields.{fresh_controller}
use Rattle.ends_console.specs.declared.Mode.TheVariants.{NeedI}
use Rattle.ends.specs.declared.Report.{Report}
use Rattle.ends.specs.declared.Report.TheVariants as report
use Rattle.channels.specs.Packets.{to_controller_bytes, to_console_bytes}
use Rattle.channels.specs.Table.{laid, channel}
use Rattle.bench.specs.Promise.{Result, bench_told, bench_step, bench_fresh}
use Rattle.bench.specs.declared.Action.{Action}
use Rattle.bench.specs.declared.Bench.{Bench}
use Rattle.bench.specs.declared.Outcome.{Outcome}
use Rattle.bench.proofs.step.Kinds as step-kinds
use Rattle.bench.proofs.step.Reads as step
use Rattle.bench.proofs.fresh.Kinds as fresh-kinds
use Rattle.bench.proofs.fresh.Reads as fresh
use Rattle.bench.proofs.Vectors.{computes}

no_refusal : (q : Refusal) → report.Nothing ≡ report.Refused q → ⊥
no_refusal n e = let z : ◌≡◌ {A = ℕ} 0 1 = cc in omega (arith, z)

no_ok : report.Nothing ≡ report.Ok → ⊥
no_ok e = let z : ◌≡◌ {A = ℕ} 0 1 = cc in omega (arith, z)

abbrev clear : List ℕ
clear = replicate 2048 0

-- ## The step: Q with one copy, in needI, nothing in the air

abbrev asking : ℕ → Bench
asking sent =
    record {
      console = console_with (record { used = 1; reserved = 64; block = 64 }) (NeedI (record { 0 = 1 })) true false spaces;
      controller = fresh_controller (record { 0 = 0 });
      sent = sent;
      returned = 0;
    }

abbrev asks_once : Action
asks_once = record { letter = 0x51; place = 0; copies = 1; message = spaces }

abbrev asked : Outcome
asked = record { report = report.Nothing; message = spaces; bench = asking 1 }

-- needI, and zero bytes
abbrev needed : List ℕ
needed = channel to_controller_bytes (need_i 1 ∷ [])

sends : bench_step (asking 0) asks_once clear clear ≡ record { outcome = asked; out = needed; back = clear }
unfolding computes
sends = refl

-- the first byte of the table
begins : get_or needed 0 0 ≡ 0x48
unfolding channel laid to_controller_bytes packet_bytes bytes_of
begins = refl

module _ (κs : Lfts 2) (a : Dens κs step-kinds.ps) (x : Outcome) (s : AtExit (ended_of 2 step-kinds.ps step-kinds.r) κs) (bench : a.0 ≡ asking 0) (does : a.1.0 ≡ asks_once) (out : a.1.1.0.now ≡ clear) (back : a.1.1.1.0.now ≡ clear) (meets : step.Post κs a x s) where
  so : ◌≡◌ {A = Result} (record { outcome = x; out = s.1.1.0.now; back = s.1.1.1.0.now }) (record { outcome = asked; out = needed; back = clear })
  so = meets ∙ (λ i. bench_step (bench i) (does i) (out i) (back i)) ∙ sends

  pub step_always_refuses : (q : Refusal) → x.report ≡ report.Refused q → ⊥
  step_always_refuses n e = no_refusal n (sym (ap (λ (r : Result). r.outcome.report) so) ∙ e)

  -- a packet sent is no answer
  pub step_always_ok : x.report ≡ report.Ok → ⊥
  step_always_ok e = no_ok (sym (ap (λ (r : Result). r.outcome.report) so) ∙ e)

  pub step_leaves_the_bench : x.bench ≡ a.0 → ⊥
  step_leaves_the_bench e =
      let z : ◌≡◌ {A = ℕ} 1 0 = ap (λ (b : Bench). b.sent) (sym (ap (λ (r : Result). r.outcome.bench) so) ∙ e ∙ bench) in omega (arith, z)

  pub step_leaves_the_tables : s.1.1.0.now ≡ a.1.1.0.now → ⊥
  step_leaves_the_tables e =
      let z : ◌≡◌ {A = ℕ} 0x48 0 = sym begins ∙ ap (λ (t : List ℕ). get_or t 0 0) (sym (ap (λ (r : Result). r.out) so) ∙ e ∙ out) in omega (arith, z)

-- ## Fresh: with tables of 2,048 bytes

fresh_clears : (j : J) (i : I) (out back : List ℕ) → length out ≡ 2048 → length back ≡ 2048 → ((bench_fresh j i out back).outcome.report ≡ report.Nothing) × ((bench_fresh j i out back).out ≡ clear) × ((bench_fresh j i out back).back ≡ clear)
unfolding bench_fresh bench_told rules.fresh channel laid chosen
fresh_clears j i out back m n = rw (eq-eqb (length out) 2048 m, eq-eqb (length back) 2048 n) (refl, refl, refl)

module _ (κs : Lfts 2) (a : Dens κs fresh-kinds.ps) (x : Outcome) (s : AtExit (ended_of 2 fresh-kinds.ps fresh-kinds.r) κs) (out_long : length a.1.1.0.now ≡ 2048) (back_long : length a.1.1.1.0.now ≡ 2048) (meets : fresh.Post κs a x s) where
  pub fresh_always_refuses : (q : Refusal) → x.report ≡ report.Refused q → ⊥
  fresh_always_refuses n e =
      no_refusal n (sym (ap (λ (r : Result). r.outcome.report) meets ∙ (fresh_clears a.0 a.1.0 a.1.1.0.now a.1.1.1.0.now out_long back_long).0) ∙ e)

  -- whatever was in them
  pub fresh_leaves_out : (a.1.1.0.now ≡ clear → ⊥) → s.1.1.0.now ≡ a.1.1.0.now → ⊥
  fresh_leaves_out dirty e =
      dirty (sym e ∙ ap (λ (r : Result). r.out) meets ∙ (fresh_clears a.0 a.1.0 a.1.1.0.now a.1.1.1.0.now out_long back_long).1)

  pub fresh_leaves_back : (a.1.1.1.0.now ≡ clear → ⊥) → s.1.1.1.0.now ≡ a.1.1.1.0.now → ⊥
  fresh_leaves_back dirty e =
      dirty (sym e ∙ ap (λ (r : Result). r.back) meets ∙ (fresh_clears a.0 a.1.0 a.1.1.0.now a.1.1.1.0.now out_long back_long).2)

-- ## The step: what it looks at

abbrev started : Bench
started =
    record { console = fresh_console (record { 0 = 0 }); controller = fresh_controller (record { 0 = 0 }); sent = 0; returned = 0 }

-- j set with no message held
abbrev contradicts : Bench
contradicts =
    record {
      console =
          record { numbers = record { used = 1; reserved = 64; block = 64 }; held = false; message = spaces; j = record { 0 = 1 }; last = record { 0 = 0 }; up = true; ack = false };
      controller = fresh_controller (record { 0 = 0 });
      sent = 0;
      returned = 0;
    }

-- needI is asked for, with 64 packets on their way to the console
abbrev answered : Bench
answered = record { console = (asking 0).console; controller = fresh_controller (record { 0 = 0 }); sent = 0; returned = 64 }

abbrev answers : List ℕ
answers = channel to_console_bytes (replicate 64 (ok 1))

abbrev act : ℕ → ℕ → ℕ → Action
act letter place copies = record { letter = letter; place = place; copies = copies; message = spaces }

-- handed this, one that reports that
abbrev Reports : Bench → Action → List ℕ → List ℕ → Report → Type 0
Reports b act out back r =
    RulesOut step-kinds.ps step-kinds.r step.Post
    (λ κs a. (a.0 ≡ b) × (a.1.0 ≡ act) × (a.1.1.0.now ≡ out) × (a.1.1.1.0.now ≡ back)) (λ κs a x s. x.report ≡ r)

reports_other : (b : Bench) (a : Action) (out back : List ℕ) (r : Report) → (r ≡ (bench_step b a out back).outcome.report → ⊥) → Reports b a out back r
reports_other b a out back r differ κs d x s e w p =
    differ (sym w ∙ ap (λ (z : Result). z.outcome.report) p ∙ λ i. (bench_step (e.0 i) (e.1 i) (e.2 i) (e.3 i)).outcome.report)

-- L0 on a fresh bench is 3: no place is below the count
pub step_place_off_by_one : Reports started (act 0x4C 0 0) clear clear report.Nothing
unfolding computes
step_place_off_by_one = reports_other started (act 0x4C 0 0) clear clear report.Nothing (no_refusal NoPlace)

-- P doesn't use copies
pub step_looks_at_unused_copies : Reports started (act 0x50 0 4) clear clear (report.Refused TooManyCopies)
unfolding computes
step_looks_at_unused_copies = reports_other started (act 0x50 0 4) clear clear (report.Refused TooManyCopies) (λ e. no_refusal TooManyCopies (sym e))

-- Q goes to the controller
pub step_room_of_the_other_channel : Reports answered (act 0x51 0 1) clear answers (report.Refused NoRoom)
unfolding computes
step_room_of_the_other_channel = reports_other answered (act 0x51 0 1) clear answers (report.Refused NoRoom) (λ e. no_refusal NoRoom (sym e))

-- C on a bench that is not well formed
pub step_looks_at_no_end : Reports contradicts (act 0x43 0 0) clear clear report.Nothing
unfolding computes
step_looks_at_no_end = reports_other contradicts (act 0x43 0 0) clear clear report.Nothing (no_refusal IllFormed)

pub step_takes_a_short_table : Reports started (act 0x43 0 0) (replicate 2047 0) clear report.Nothing
unfolding computes
step_takes_a_short_table = reports_other started (act 0x43 0 0) (replicate 2047 0) clear report.Nothing (no_refusal IllFormed)
