-- Benches in C's hands that the promises shut out. A step: one that always refuses, one that always says OK, one that changes nothing, one
-- that swaps its counts, one that trusts its bytes, one that is changed by a refusal, one that leaves an answer that was read. Fresh: one that always refuses, one that leaves a table. Showing: one that always gives the first place, one that
-- never refuses, one that takes the other channel.
use Prim.Native.Nat.{ℕ}
use mathlib.Core.Path.{◌≡◌, refl, sym, ap, ◌∙◌}
use mathlib.Core.Bool.{Bool, true, false}
use mathlib.Core.List.{List, [], ◌∷◌}
use native.Mathlib.Omega.{arith}
use borrow.Author.Tests.{eq-eqb}
use contract.Lifetimes.{Lfts}
use borrow.Fn.Kinds.{Dens, ended_of}
use denote.Triple.Clauses.{AtExit}
use lib.ListN.{length, get_or, set, replicate}
use Rattle.ground.specs.Bytes.{Bytes}
use Rattle.ground.specs.Cell.{cells, is_message, spaces}
use Rattle.ground.specs.Choice.{chosen}
use Rattle.ground.specs.Every.{filled}
use Rattle.ground.specs.First.{first}
use Rattle.ground.proofs.Promise.{RulesOut, unequal}
use Rattle.wire.specs.declared.I.{I}
use Rattle.wire.specs.declared.J.{J}
use Rattle.wire.specs.Number.{bytes_of, value}
use Rattle.wire.specs.Packet.{packet_bytes}
use Rattle.rules.specs.Letters.{line, letters, among, letter}
use Rattle.rules.specs.Ends.{need_i}
use Rattle.rules.specs.Bench as rules
use Rattle.rules.specs.Reading.{readings}
use Rattle.ends_console.specs.Fields.{console_ok, console_mode, console_with}
use Rattle.ends_controller.specs.Fields.{controller_ok, controller_mode, fresh_controller}
use Rattle.numbers.specs.declared.Numbers.{Numbers}
use Rattle.ends_console.specs.declared.Mode.{Mode}
use Rattle.ends_console.specs.declared.Mode.TheVariants.{NeedI}
use Rattle.ends.specs.declared.Report.TheVariants as report
use Rattle.channels.specs.Packets.{to_controller_bytes}
use Rattle.tables.specs.Shown.{show_refusal}
use Rattle.channels.specs.Table.{laid, channel, packets, heads_pass, table_ok}
use Rattle.bench.specs.AsRules.{bench_ok, bench_means, bench_back}
use Rattle.bench.specs.Promise.{Result, bench_refused, bench_told, bench_step, bench_fresh}
use Rattle.bench.specs.declared.Action.{Action}
use Rattle.bench.specs.declared.Bench.{Bench}
use Rattle.boundary.specs.Console as console
use Rattle.boundary.specs.Controller as controller
use Rattle.boundary.specs.State.{marks, written}
use Rattle.boundary.specs.Benches.{bench_bytes, parts_at, bench_at, BenchPut, fresh_put, StepPut, stepped, step_put, show_to, show_at, offset_at}
use Rattle.boundary.proofs.StepRefusals.{bench_step_refusal_leaves}
use Rattle.boundary.proofs.ToldByte.{Refusal}
use Rattle.boundary.proofs.benches.nooseless_bench_step.Kinds as step-kinds
use Rattle.boundary.proofs.benches.nooseless_bench_step.Reads as step
use Rattle.boundary.proofs.benches.nooseless_bench_fresh.Kinds as fresh-kinds
use Rattle.boundary.proofs.benches.nooseless_bench_fresh.Reads as fresh
use Rattle.boundary.proofs.benches.nooseless_bench_show.Kinds as show-kinds
use Rattle.boundary.proofs.benches.nooseless_bench_show.Reads as show

abbrev clear : List ℕ
clear = replicate 2048 0

-- last used J 1, the first of a block
abbrev at_1 : Numbers
at_1 = record { used = 1; reserved = 64; block = 64 }

-- ## The step: Q with one copy, in needI, nothing in the air

abbrev asking : ℕ → Bench
asking sent =
    record {
      console = console_with at_1 (NeedI (record { 0 = 1 })) true false spaces;
      controller = fresh_controller (record { 0 = 0 });
      sent = sent;
      returned = 0;
    }

abbrev asks_once : Action
asks_once = record { letter = 0x51; place = 0; copies = 1; message = spaces }

-- needI, and zero bytes
abbrev needed : List ℕ
needed = channel to_controller_bytes (need_i 1 ∷ [])

abbrev asked : Result
asked = record { outcome = record { report = report.Nothing; message = spaces; bench = asking 1 }; out = needed; back = clear }

reads_back : bench_at (bench_bytes (asking 0)) ≡ asking 0
unfolding bench_at parts_at bench_bytes console.console_bytes console.console_at console.is_state console.fields_at controller.controller_bytes controller.controller_at controller.is_state controller.fields_at bytes_of value chosen
reads_back = refl

sends : bench_step (asking 0) asks_once clear clear ≡ asked
unfolding bench_step bench_told bench_back bench_means bench_ok console_ok console_mode controller_ok controller_mode table_ok heads_pass packets channel laid
    readings rules.rules is_message cells filled letters among letter chosen
sends = refl

writes : (d : List ℕ) → stepped (bench_bytes (asking 0)) d asked ≡ record { told = 0; state = bench_bytes (asking 1); out = needed; back = clear; delivered = d }
unfolding bench_bytes console.console_bytes controller.controller_bytes bytes_of marks written chosen
writes d = refl

sent : (d : List ℕ) → step_put (bench_bytes (asking 0)) asks_once clear clear d ≡ record { told = 0; state = bench_bytes (asking 1); out = needed; back = clear; delivered = d }
sent d =
    ap (λ (b : Bench). stepped (bench_bytes (asking 0)) d (bench_step b asks_once clear clear)) reads_back
    ∙ ap (stepped (bench_bytes (asking 0)) d) sends
    ∙ writes d

-- the first byte of the table
begins : get_or needed 0 0 ≡ 0x48
unfolding channel laid to_controller_bytes packet_bytes bytes_of
begins = refl

module _ (κs : Lfts 5) (a : Dens κs step-kinds.ps) (n : ℕ) (s : AtExit (ended_of 5 step-kinds.ps step-kinds.r) κs) (state : a.0.now ≡ bench_bytes (asking 0)) (out : a.1.0.now ≡ clear) (back : a.1.1.0.now ≡ clear) (does : ◌≡◌ {A = Action} (record { letter = a.1.1.1.0; place = a.1.1.1.1.0; copies = a.1.1.1.1.1.0; message = a.1.1.1.1.1.1.0.now }) asks_once) (meets : step.Post κs a n s) where
  abbrev lent : List ℕ
  lent = a.1.1.1.1.1.1.1.0.now

  so : ◌≡◌ {A = StepPut} (record { told = n; state = s.0.now; out = s.1.0.now; back = s.1.1.0.now; delivered = s.1.1.1.1.1.1.1.0.now }) (record { told = 0; state = bench_bytes (asking 1); out = needed; back = clear; delivered = lent })
  so = meets ∙ (λ i. step_put (state i) (does i) (out i) (back i) lent) ∙ sent lent

  -- a refusal, an answer and a delivery are numbers above 0
  pub step_always_tells : (n ≡ 0 → ⊥) → ⊥
  step_always_tells h = h (ap (λ (r : StepPut). r.told) so)

  pub step_leaves_the_state : s.0.now ≡ a.0.now → ⊥
  unfolding bench_bytes console.console_bytes controller.controller_bytes bytes_of
  step_leaves_the_state e =
      let q : bench_bytes (asking 1) ≡ bench_bytes (asking 0) = sym (ap (λ (r : StepPut). r.state) so) ∙ e ∙ state in
      let z : ◌≡◌ {A = ℕ} 1 0 = ap (λ (l : List ℕ). get_or l 60 0) q in
      omega (arith, z)

  -- the packet that was sent counted as one that was returned
  pub step_swaps_the_counts : get_or s.0.now 61 0 ≡ 1 → ⊥
  unfolding bench_bytes console.console_bytes controller.controller_bytes bytes_of
  step_swaps_the_counts e =
      let z : ◌≡◌ {A = ℕ} 1 0 = sym e ∙ ap (λ (r : StepPut). get_or r.state 61 0) so in omega (arith, z)

  pub step_leaves_the_tables : s.1.0.now ≡ a.1.0.now → ⊥
  step_leaves_the_tables e =
      let z : ◌≡◌ {A = ℕ} 0x48 0 = sym begins ∙ ap (λ (t : List ℕ). get_or t 0 0) (sym (ap (λ (r : StepPut). r.out) so) ∙ e ∙ out) in omega (arith, z)

-- no bytes at all are a state that is not well formed, whatever the tables
untrusted : (out back d : List ℕ) → step_put [] asks_once out back d ≡ record { told = 2; state = []; out = out; back = back; delivered = d }
unfolding bench_at bench_step bench_refused bench_ok console_ok filled line letters among letter chosen
untrusted out back d = refl

module _ (κs : Lfts 5) (a : Dens κs step-kinds.ps) (n : ℕ) (s : AtExit (ended_of 5 step-kinds.ps step-kinds.r) κs) (none : a.0.now ≡ []) (does : ◌≡◌ {A = Action} (record { letter = a.1.1.1.0; place = a.1.1.1.1.0; copies = a.1.1.1.1.1.0; message = a.1.1.1.1.1.1.0.now }) asks_once) (meets : step.Post κs a n s) where
  pub step_trusts : (n ≡ 2 → ⊥) → ⊥
  step_trusts h =
      let d = a.1.1.1.1.1.1.1.0.now in
      h (ap (λ (r : StepPut). r.told) (meets ∙ (λ i. step_put (none i) (does i) a.1.0.now a.1.1.0.now d) ∙ untrusted a.1.0.now a.1.1.0.now d))

pub step_changed_by_a_refusal : RulesOut step-kinds.ps step-kinds.r step.Post (λ κs a. Bytes a.0.now × Bytes a.1.0.now × Bytes a.1.1.0.now) (λ κs a x s. Refusal x × (s.0.now ≡ a.0.now → ⊥))
step_changed_by_a_refusal κs a x s e w p = w.1 (ap (λ (r : List ℕ × List ℕ × List ℕ × List ℕ). r.0) (bench_step_refusal_leaves κs a x s e w.0 p))

-- ## The step: A, with OK in byte 20 or a byte that is no flag, nothing in the air

abbrev idle_with : Bool → Bench
idle_with ack =
    record {
      console = console_with at_1 Mode.Idle true ack spaces;
      controller = fresh_controller (record { 0 = 0 });
      sent = 0;
      returned = 0;
    }

abbrev reads_once : Action
reads_once = record { letter = 0x41; place = 0; copies = 0; message = spaces }

abbrev told_ok : Result
told_ok = record { outcome = record { report = report.Ok; message = spaces; bench = idle_with false }; out = clear; back = clear }

ok_reads_back : bench_at (bench_bytes (idle_with true)) ≡ idle_with true
unfolding bench_at parts_at bench_bytes console.console_bytes console.console_at console.is_state console.fields_at controller.controller_bytes controller.controller_at controller.is_state controller.fields_at bytes_of value chosen
ok_reads_back = refl

tells_ok : bench_step (idle_with true) reads_once clear clear ≡ told_ok
unfolding bench_step bench_told bench_back bench_means bench_ok console_ok console_mode controller_ok controller_mode table_ok heads_pass packets channel laid
    readings rules.rules is_message cells filled letters among letter chosen
tells_ok = refl

writes_lost : (d : List ℕ) → stepped (bench_bytes (idle_with true)) d told_ok ≡ record { told = 65; state = bench_bytes (idle_with false); out = clear; back = clear; delivered = d }
unfolding bench_bytes console.console_bytes controller.controller_bytes bytes_of marks written chosen
writes_lost d = refl

-- read through the entry: 65, and lost from then on
pub bench_answer_read : (d : List ℕ) → step_put (bench_bytes (idle_with true)) reads_once clear clear d ≡ record { told = 65; state = bench_bytes (idle_with false); out = clear; back = clear; delivered = d }
bench_answer_read d =
    ap (λ (b : Bench). stepped (bench_bytes (idle_with true)) d (bench_step b reads_once clear clear)) ok_reads_back
    ∙ ap (stepped (bench_bytes (idle_with true)) d) tells_ok
    ∙ writes_lost d

pub step_leaves_a_read_answer : RulesOut step-kinds.ps step-kinds.r step.Post (λ κs a. (a.0.now ≡ bench_bytes (idle_with true)) × (a.1.0.now ≡ clear) × (a.1.1.0.now ≡ clear) × (◌≡◌ {A = Action} (record { letter = a.1.1.1.0; place = a.1.1.1.1.0; copies = a.1.1.1.1.1.0; message = a.1.1.1.1.1.1.0.now }) reads_once)) (λ κs a x s. get_or s.0.now 20 0 ≡ 1)
unfolding bench_bytes console.console_bytes controller.controller_bytes bytes_of
step_leaves_a_read_answer κs a x s e w p =
    let lent = a.1.1.1.1.1.1.1.0.now in
    unequal (sym w ∙ ap (λ (r : StepPut). get_or r.state 20 0) (p ∙ (λ i. step_put (e.0 i) (e.3 i) (e.1 i) (e.2 i) lent) ∙ bench_answer_read lent)) refl

-- neither OK nor lost
abbrev no_flag : List ℕ
no_flag = set (bench_bytes (idle_with true)) 20 2

pub bench_no_flag_refused : (out back d : List ℕ) → step_put no_flag reads_once out back d ≡ record { told = 2; state = no_flag; out = out; back = back; delivered = d }
unfolding bench_at parts_at bench_bytes console.console_bytes console.console_at console.is_state controller.controller_bytes bytes_of bench_step bench_refused bench_ok console_ok filled line letters among letter chosen
bench_no_flag_refused out back d = refl

-- ## Fresh: with a state of 62 bytes and tables of 2,048

fresh_clears : (j : J) (i : I) (s out back : List ℕ) → length s ≡ 62 → length out ≡ 2048 → length back ≡ 2048 → ((fresh_put j i s out back).told ≡ 0) × ((fresh_put j i s out back).out ≡ clear) × ((fresh_put j i s out back).back ≡ clear)
unfolding fresh_put bench_fresh bench_told rules.fresh channel laid marks chosen
fresh_clears j i s out back l m n = rw (eq-eqb (length s) 62 l, eq-eqb (length out) 2048 m, eq-eqb (length back) 2048 n) (refl, refl, refl)

module _ (κs : Lfts 3) (a : Dens κs fresh-kinds.ps) (n : ℕ) (s : AtExit (ended_of 3 fresh-kinds.ps fresh-kinds.r) κs) (state_long : length a.0.now ≡ 62) (out_long : length a.1.0.now ≡ 2048) (back_long : length a.1.1.0.now ≡ 2048) (meets : fresh.Post κs a n s) where
  cleared : (n ≡ 0) × (s.1.0.now ≡ clear) × (s.1.1.0.now ≡ clear)
  cleared =
      let e = fresh_clears (record { 0 = a.1.1.1.0 }) (record { 0 = a.1.1.1.1.0 }) a.0.now a.1.0.now a.1.1.0.now state_long out_long back_long in
      (ap (λ (r : BenchPut). r.told) meets ∙ e.0, ap (λ (r : BenchPut). r.out) meets ∙ e.1, ap (λ (r : BenchPut). r.back) meets ∙ e.2)

  pub fresh_always_refuses : (n ≡ 0 → ⊥) → ⊥
  fresh_always_refuses h = h cleared.0

  -- whatever was in them
  pub fresh_leaves_out : (a.1.0.now ≡ clear → ⊥) → s.1.0.now ≡ a.1.0.now → ⊥
  fresh_leaves_out dirty e = dirty (sym e ∙ cleared.1)

  pub fresh_leaves_back : (a.1.1.0.now ≡ clear → ⊥) → s.1.1.0.now ≡ a.1.1.0.now → ⊥
  fresh_leaves_back dirty e = dirty (sym e ∙ cleared.2)

-- ## Showing: two packets on their way to the controller, none to the console

module _ (s out back : List ℕ) (l : length s ≡ 62) (two : get_or s 60 0 ≡ 2) (none : get_or s 61 0 ≡ 0) (m : length out ≡ 2048) (k : length back ≡ 2048) where
  -- the second, a third, and the second to the console
  show_told : (show_at s out back 2 1 ≡ 0) × (show_at s out back 2 2 ≡ 3) × (show_at s out back 1 1 ≡ 3)
  unfolding show_at show_to show_refusal first chosen
  show_told = rw (l, two, none, m, k) (refl, refl, refl)

module _ (κs : Lfts 4) (a : Dens κs show-kinds.ps) (n : ℕ) (s : AtExit (ended_of 4 show-kinds.ps show-kinds.r) κs) (l : length a.0.now ≡ 62) (two : get_or a.0.now 60 0 ≡ 2) (none : get_or a.0.now 61 0 ≡ 0) (m : length a.1.0.now ≡ 2048) (k : length a.1.1.0.now ≡ 2048) (meets : show.Post κs a n s) where
  abbrev at : ℕ → ℕ → ℕ
  at end place = show_at a.0.now a.1.0.now a.1.1.0.now end place

  shows : (at 2 1 ≡ 0) × (at 2 2 ≡ 3) × (at 1 1 ≡ 3)
  shows = show_told a.0.now a.1.0.now a.1.1.0.now l two none m k

  module _ (end : a.1.1.1.0 ≡ 2) where
    pub show_always_first : a.1.1.1.1.0 ≡ 1 → s.1.1.1.1.1.0.now ≡ 0 → ⊥
    unfolding offset_at chosen
    show_always_first place e =
        let q = meets.1 ∙ (λ i. offset_at (at (end i) (place i)) (place i) a.1.1.1.1.1.0.now) ∙ ap (λ (r : ℕ). offset_at r 1 a.1.1.1.1.1.0.now) shows.0 in
        let z : ◌≡◌ {A = ℕ} 0 32 = sym e ∙ q in
        omega (arith, z)

    pub show_never_refuses : a.1.1.1.1.0 ≡ 2 → n ≡ 0 → ⊥
    show_never_refuses place e =
        let z : ◌≡◌ {A = ℕ} 0 3 = sym e ∙ meets.0 ∙ (λ i. at (end i) (place i)) ∙ shows.1 in omega (arith, z)

  pub show_takes_the_other_channel : a.1.1.1.0 ≡ 1 → a.1.1.1.1.0 ≡ 1 → n ≡ 0 → ⊥
  show_takes_the_other_channel end place e =
      let z : ◌≡◌ {A = ℕ} 0 3 = sym e ∙ meets.0 ∙ (λ i. at (end i) (place i)) ∙ shows.2 in omega (arith, z)
