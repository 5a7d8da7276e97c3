-- Bit 32 is told exactly where the number record to be kept is another: the one that the end's own entry writes of the state after the step is not
-- the one of the state before. Of any bytes and any step that is not refused.
use Prim.Native.Nat.{ℕ, ◌^◌, ◌<◌}
use mathlib.Core.Path.{◌≡◌, refl, sym, ap, subst, ◌∙◌}
use mathlib.Core.Bool.{Bool, true, false, ◌&&◌, true≢false}
use mathlib.Core.List.{List}
use borrow.Author.Tests.{eqb-true, eq-eqb, not-true, not-false}
use contract.Lifetimes.{Lfts}
use borrow.Fn.Kinds.{Dens, ended_of}
use denote.Triple.Clauses.{AtExit}
use lib.ListN.{length}
use lib.Dec.{eqb}
use Rattle.ground.specs.Bytes.{Bytes}
use Rattle.ground.specs.Choice.{chosen}
use Rattle.ground.specs.First.{first}
use Rattle.ground.proofs.Tests.{and_left, and_right, and_both}
use Rattle.wire.specs.Record.{is_old, number_of, block_of, is_block, is_good, record_bytes, record_write_refusal, record_written}
use Rattle.wire.specs.declared.NumberRecord.{NumberRecord}
use Rattle.wire.specs.declared.NumberRecord.TheVariants as number-record
use Rattle.wire.proofs.RecordTrips.{bytes_one}
use Rattle.rules.proofs.Supply.{sound_block}
use Rattle.numbers.specs.Numbers.{numbers_means}
use Rattle.numbers.specs.declared.Numbers.{Numbers}
use Rattle.numbers.proofs.Range.{Fit}
use Rattle.ends_console.specs.Fields.{console_ok}
use Rattle.ends_console.proofs.FieldsRead as console-read
use Rattle.ends_controller.proofs.FieldsRead as controller-read
use Rattle.ends_controller.specs.Fields.{controller_ok}
use Rattle.ends_console.specs.declared.fields.Console.{Console}
use Rattle.ends_controller.specs.declared.fields.Controller.{Controller}
use Rattle.alone.specs.ConsoleAlone.{console_alone}
use Rattle.alone.specs.ControllerAlone.{controller_alone}
use Rattle.boundary.specs.State.{changed, state_record_put}
use Rattle.boundary.specs.Console as console
use Rattle.boundary.specs.Controller as controller
use Rattle.boundary.proofs.BenchRefusals.{console_typed, controller_typed}
use Rattle.boundary.proofs.ConsoleWellFormed.{console_left}
use Rattle.boundary.proofs.ConsoleTrips as console-trips
use Rattle.boundary.proofs.ControllerWellFormed.{controller_left}
use Rattle.boundary.proofs.ControllerTrips as controller-trips
use Rattle.boundary.proofs.ToldByte.{Refusal, keeps, keeps_told, unrefused}
use Rattle.boundary.proofs.console.nooseless_console_record.Kinds as console-record-kinds
use Rattle.boundary.proofs.console.nooseless_console_record.Reads as console-writes
use Rattle.boundary.proofs.console.nooseless_console_step.Kinds as console-step-kinds
use Rattle.boundary.proofs.console.nooseless_console_step.Reads as console-steps
use Rattle.boundary.proofs.controller.nooseless_controller_record.Kinds as controller-record-kinds
use Rattle.boundary.proofs.controller.nooseless_controller_record.Reads as controller-writes
use Rattle.boundary.proofs.controller.nooseless_controller_step.Kinds as controller-step-kinds
use Rattle.boundary.proofs.controller.nooseless_controller_step.Reads as controller-steps

-- told: they differ; not told: they are the same
abbrev pub Exactly : Bool → List ℕ → List ℕ → Type 0
Exactly k before after = (k ≡ true → before ≡ after → ⊥) × (k ≡ false → before ≡ after)

exactly_as : {j k : Bool} {x y before after : List ℕ} → j ≡ k → x ≡ before → y ≡ after → Exactly k before after → Exactly j x y
exactly_as e p q h = (λ t same. h.0 (sym e ∙ t) (sym p ∙ same ∙ q), λ f. p ∙ h.1 (sym e ∙ f) ∙ sym q)

-- ## One law for both ends, over the end whose record it is

abbrev Block : ℕ → Type 0
Block b = is_block b ≡ true

module _ (end : ℕ → ℕ → NumberRecord) (numbered : (r b : ℕ) → number_of (end r b) ≡ r) (blocked : (r b : ℕ) → block_of (end r b) ≡ b) (new : (r b : ℕ) → is_old (end r b) ≡ false) (out : List ℕ) (long : length out ≡ 16) where
  abbrev record_of : Numbers → List ℕ
  record_of n = state_record_put true (end n.reserved n.block) out

  good : (r b : ℕ) → Block b → is_good (end r b) ≡ true
  good r b h = rw (new r b, blocked r b) h

  written : (n : Numbers) → Block n.block → record_of n ≡ record_bytes (end n.reserved n.block)
  unfolding state_record_put record_written record_write_refusal first chosen
  written n h = rw (long, good n.reserved n.block h, new n.reserved n.block)

  -- other numbers have another record
  module _ (m n : Numbers) (h : Fit (numbers_means m)) (k : Fit (numbers_means n)) (u : Block m.block) (v : Block n.block) where
    fits : (i : Numbers) → Fit (numbers_means i) → number_of (end i.reserved i.block) < 2 ^ 32
    fits i l = subst (λ (x : ℕ). x < 2 ^ 32) (sym (numbered i.reserved i.block)) l.reserved

    same_record : record_of m ≡ record_of n → (m.reserved ≡ n.reserved) × (m.block ≡ n.block)
    same_record e =
        let both = bytes_one (end m.reserved m.block) (end n.reserved n.block) (fits m h) (good m.reserved m.block u) (fits n k) (good n.reserved n.block v) (sym (written m u) ∙ e ∙ written n v) in (
          sym (numbered m.reserved m.block) ∙ ap number_of both ∙ numbered n.reserved n.block,
          sym (blocked m.reserved m.block) ∙ ap block_of both ∙ blocked n.reserved n.block,
        )

    differ : Exactly (changed m n) (record_of m) (record_of n)
    differ =
        let r = eqb m.reserved n.reserved in
        let b = eqb m.block n.block in (
          λ t same.
              let e = same_record same in
              true≢false (sym (and_both r b (eq-eqb m.reserved n.reserved e.0) (eq-eqb m.block n.block e.1)) ∙ not-true (r && b) t),
          λ f.
              let g = not-false (r && b) f in
              let x = eqb-true m.reserved n.reserved (and_left r b g) in
              let y = eqb-true m.block n.block (and_right r b g) in
              λ i. state_record_put true (end (x i) (y i)) out,
        )

-- ## A console

-- what `nooseless_console_record` leaves in the bytes lent for it
abbrev pub console_record_put : List ℕ → List ℕ → List ℕ
console_record_put s out = state_record_put (console_ok (console.console_at s)) (console.console_record (console.console_at s)) out

pub console_keeps_exactly : (s : List ℕ) (l : ℕ) (m packet reply out : List ℕ) → Bytes s → Bytes packet → length out ≡ 16
    → (Refusal (console.console_state_step s l m packet reply).told → ⊥)
    → Exactly (keeps (console.console_state_step s l m packet reply).told) (console_record_put s out) (console_record_put (console.console_state_step s l m packet reply).state out)
console_keeps_exactly s l m packet reply out b p long z =
    let c = console.console_at s in
    let a = console_alone c l m packet reply in
    let after = a.outcome.console in
    let marked = changed c.numbers after.numbers in
    let f = unrefused a.outcome.report a.outcome.sent marked z in
    let ok = console-trips.console_ok_lem s l m packet reply f in
    let w = console_left c (console_typed s b) m packet reply p l f in
    let read = ap console.console_at (console-trips.console_step_leaves s l m packet reply f) ∙ console-trips.console_read_back after w.1 in
    exactly_as
    (keeps_told a.outcome.report a.outcome.sent marked f)
    (ap (λ (k : Bool). state_record_put k (console.console_record c) out) ok)
    (ap (λ (d : Console). state_record_put (console_ok d) (console.console_record d) out) read ∙ ap (λ (k : Bool). state_record_put k (console.console_record after) out) w.0)
    (differ (λ r k. number-record.Console (record { 0 = r }) k) (λ r k. refl) (λ r k. refl) (λ r k. refl) out long c.numbers after.numbers (console_typed s b).numbers w.1.numbers
    (sound_block (numbers_means c.numbers) (console-read.ok_sound c ok)) (sound_block (numbers_means after.numbers) (console-read.ok_sound after w.0)))

-- of the entries' own promises: a step, the record written of the state before it, and of the state after it, each into 16 bytes
module _ (κs : Lfts 4) (a : Dens κs console-step-kinds.ps) (x : ℕ) (s : AtExit (ended_of 4 console-step-kinds.ps console-step-kinds.r) κs) (steps : console-steps.Post κs a x s) (bytes : Bytes a.0.now) (packet : Bytes a.1.1.1.0.now) (done : Refusal x → ⊥) (out : List ℕ) (long : length out ≡ 16) where
  module _ (ρ τ : Lfts 2) (b : Dens ρ console-record-kinds.ps) (d : Dens τ console-record-kinds.ps) (n m : ℕ) (u : AtExit (ended_of 2 console-record-kinds.ps console-record-kinds.r) ρ) (v : AtExit (ended_of 2 console-record-kinds.ps console-record-kinds.r) τ) (before : console-writes.Post ρ b n u) (after : console-writes.Post τ d m v) where
    pub console_step_keeps_exactly : b.0.now ≡ a.0.now → b.1.0.now ≡ out → d.0.now ≡ s.0.now → d.1.0.now ≡ out → Exactly (keeps x) u.1.0.now v.1.0.now
    console_step_keeps_exactly e f g h =
        let told = ap (λ (r : console.ConsoleStep). r.told) steps in
        let left = ap (λ (r : console.ConsoleStep). r.state) steps in
        exactly_as (ap keeps told) (before.1 ∙ (λ i. console_record_put (e i) (f i))) (after.1 ∙ (λ i. console_record_put ((g ∙ left) i) (h i)))
        (console_keeps_exactly a.0.now a.1.0 a.1.1.0.now a.1.1.1.0.now a.1.1.1.1.0.now out bytes packet long (λ r. done (subst Refusal (sym told) r)))

-- ## A controller

-- what `nooseless_controller_record` leaves in the bytes lent for it
abbrev pub controller_record_put : List ℕ → List ℕ → List ℕ
controller_record_put s out = state_record_put (controller_ok (controller.controller_at s)) (controller.controller_record (controller.controller_at s)) out

pub controller_keeps_exactly : (s : List ℕ) (l : ℕ) (packet reply delivered out : List ℕ) → Bytes s → Bytes packet → length out ≡ 16
    → (Refusal (controller.controller_state_step s l packet reply delivered).told → ⊥)
    → Exactly (keeps (controller.controller_state_step s l packet reply delivered).told) (controller_record_put s out) (controller_record_put (controller.controller_state_step s l packet reply delivered).state out)
controller_keeps_exactly s l packet reply delivered out b p long z =
    let c = controller.controller_at s in
    let a = controller_alone c l packet reply in
    let after = a.outcome.controller in
    let marked = changed c.numbers after.numbers in
    let f = unrefused a.outcome.report a.outcome.sent marked z in
    let ok = controller-trips.controller_ok_lem s l packet reply f in
    let w = controller_left c (controller_typed s b) packet reply p l f in
    let read = ap controller.controller_at (controller-trips.controller_step_leaves s l packet reply delivered f) ∙ controller-trips.controller_read_back after w.1 in
    exactly_as
    (keeps_told a.outcome.report a.outcome.sent marked f)
    (ap (λ (k : Bool). state_record_put k (controller.controller_record c) out) ok)
    (ap (λ (d : Controller). state_record_put (controller_ok d) (controller.controller_record d) out) read ∙ ap (λ (k : Bool). state_record_put k (controller.controller_record after) out) w.0)
    (differ (λ r k. number-record.Controller (record { 0 = r }) k) (λ r k. refl) (λ r k. refl) (λ r k. refl) out long c.numbers after.numbers (controller_typed s b).numbers w.1.numbers
    (sound_block (numbers_means c.numbers) (controller-read.ok_sound c ok)) (sound_block (numbers_means after.numbers) (controller-read.ok_sound after w.0)))

-- of the entries' own promises, likewise
module _ (κs : Lfts 4) (a : Dens κs controller-step-kinds.ps) (x : ℕ) (s : AtExit (ended_of 4 controller-step-kinds.ps controller-step-kinds.r) κs) (steps : controller-steps.Post κs a x s) (bytes : Bytes a.0.now) (packet : Bytes a.1.1.0.now) (done : Refusal x → ⊥) (out : List ℕ) (long : length out ≡ 16) where
  module _ (ρ τ : Lfts 2) (b : Dens ρ controller-record-kinds.ps) (d : Dens τ controller-record-kinds.ps) (n m : ℕ) (u : AtExit (ended_of 2 controller-record-kinds.ps controller-record-kinds.r) ρ) (v : AtExit (ended_of 2 controller-record-kinds.ps controller-record-kinds.r) τ) (before : controller-writes.Post ρ b n u) (after : controller-writes.Post τ d m v) where
    pub controller_step_keeps_exactly : b.0.now ≡ a.0.now → b.1.0.now ≡ out → d.0.now ≡ s.0.now → d.1.0.now ≡ out → Exactly (keeps x) u.1.0.now v.1.0.now
    controller_step_keeps_exactly e f g h =
        let told = ap (λ (r : controller.ControllerStep). r.told) steps in
        let left = ap (λ (r : controller.ControllerStep). r.state) steps in
        exactly_as (ap keeps told) (before.1 ∙ (λ i. controller_record_put (e i) (f i))) (after.1 ∙ (λ i. controller_record_put ((g ∙ left) i) (h i)))
        (controller_keeps_exactly a.0.now a.1.0 a.1.1.0.now a.1.1.1.0.now a.1.1.1.1.0.now out bytes packet long (λ r. done (subst Refusal (sym told) r)))
