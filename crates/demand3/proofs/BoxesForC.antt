-- Demand 3 of two boxes written in C, from what the ends run alone come to: call by call, states, records and bytes told are those of the ends.
use Prim.Native.Nat.{ℕ, ◌+◌, ◌*◌, ◌/◌, ◌%◌, ◌<◌, ◌≤◌, ◌^◌}
use mathlib.Core.Path.{◌≡◌, refl, sym, ap, subst, ◌∙◌}
use mathlib.Core.Logic.{⊎_map}
use mathlib.Core.Bool.{Bool, true, false, ◌&&◌, true≢false}
use mathlib.Core.List.{List, []}
use native.Mathlib.Nat.{add-zero, div-eq_of_lt, le_refl, mod-eq_of_lt}
use native.Mathlib.Omega.{arith}
use lib.ListN.{length}
use lib.Dec.{eqb, leb}
use borrow.Author.Tests.{eqb-true, eq-eqb, ne_eqb, leb-true, not-false}
use Rattle.ground.proofs.RefusalNumbers.{refusal_of-number_of}
use Rattle.ground.specs.Refusals.{refusal_of}
use Rattle.ground.specs.Refusals as of_refusals
use Rattle.ground.specs.declared.refusals.Refusal as refusals
use Rattle.std.specs.Prelude as result
use Rattle.ground.specs.Cell.{is_message}
use Rattle.ground.specs.Choice.{chosen, when◌then◌else◌}
use Rattle.ground.specs.First.{first}
use Rattle.ground.proofs.Tests.{and_left, and_right}
use Rattle.wire.specs.Number.{bytes_of}
use Rattle.wire.specs.Record.{is_old, end_of, number_of, block_of, is_good, record_bytes, record_read, record_write_refusal, record_written, renewed}
use Rattle.wire.specs.declared.NumberRecord.{NumberRecord}
use Rattle.wire.specs.declared.NumberRecord.TheVariants as number-record
use Rattle.wire.proofs.Carrying.{renewed_end, renewed_number, renewed_block}
use Rattle.wire.proofs.RecordTrips.{record_read_back}
use Rattle.rules.specs.Supply as supply
use Rattle.rules.specs.Supply.{numbering, largest}
use Rattle.rules.specs.Ends as rules
use Rattle.rules.specs.Bench as bench
use Rattle.rules.specs.Bench.{Bench}
use Rattle.rules.specs.ReadPlain.{PlainRead}
use Rattle.rules.specs.Radio as radio
use Rattle.rules.specs.Reading.{unread}
use Rattle.rules.specs.ReadRadio.{radio_read_log}
use Rattle.rules.proofs.ReadPlain.{right_read_plain}
use Rattle.rules.proofs.Supply.{sound_block, sound_so}
use Rattle.numbers.specs.Numbers.{numbers_means, numbers_back, numbers_kept, numbers_fresh}
use Rattle.numbers.specs.declared.Numbers.{Numbers}
use Rattle.numbers.proofs.Range.{sound_fits}
use Rattle.ends_console.specs.Fields.{console_ok, downed_console}
use Rattle.ends_console.specs.FieldsAsRules.{console_back}
use Rattle.ends_console.specs.declared.fields.Console.{Console}
use Rattle.ends_console.proofs.FieldsRead as console-read
use Rattle.ends_controller.specs.Fields.{controller_ok, downed_controller}
use Rattle.ends_controller.specs.FieldsAsRules.{controller_back}
use Rattle.ends_controller.specs.declared.fields.Controller.{Controller}
use Rattle.ends_controller.proofs.FieldsRead as controller-read
use Rattle.ends.specs.AsRules.{report_back}
use Rattle.ends.specs.declared.Report.{Report}
use Rattle.ends.specs.declared.Report.TheVariants as report
use Rattle.alone.specs.ConsoleAlone.{ConsoleAlone}
use Rattle.alone.specs.ControllerAlone.{ControllerAlone}
use Rattle.alone.proofs.Refusals.{console_refusal_leaves, controller_refusal_leaves}
use Rattle.boundary.specs.State as state
use Rattle.boundary.specs.State.{is_refusal, changed, marks, told, state_record_put, start_refusal, started, start_in, start_of, start_bytes}
use Rattle.boundary.specs.Console.{console_at, console_bytes}
use Rattle.boundary.specs.Controller.{controller_at, controller_bytes, delivered_to}
use Rattle.boundary.proofs.ConsoleWellFormed as console-left
use Rattle.boundary.proofs.ControllerWellFormed as controller-left
use Rattle.boundary.proofs.ConsoleTrips as console-trips
use Rattle.boundary.proofs.ControllerTrips as controller-trips
use Rattle.boundary.proofs.RefusalNumbers.{refusal_number}
use Rattle.boundary.proofs.ToldByte.{Refusal, keeps_told, sends_told}
use Rattle.demand3.specs.BenchForC.{byte_says}
use Rattle.demand3.specs.AnyBoxes.{Call, Kind, Event, AllHonest}
use Rattle.demand3.specs.BoxesForC.{keep_told, sent_told, report_told, buffer, record_kept, Stepped, in_c, console_in_c, controller_in_c, RecordOf, numbers_of, start, BoxesForCRight}
use Rattle.demand3.proofs.AnyBoxes.{Row, Side, console_side, controller_side, ShownCells, ComesTo, Stays, Runs, BoxesStand, any_right}
use Rattle.demand3.proofs.Boxes.{back_holds, numbering_suits, console_numbers, console_kept_so, console_runs, controller_numbers, controller_kept_so, controller_runs}

-- ## What the byte says

-- of a refusal, 1 to 31
module _ (n : ℕ) (h : Refusal n) where
  above : n ≡ 0 → ⊥
  above e = omega (arith, e, h.0)

  refusal_keeps : keep_told n ≡ false
  refusal_keeps = rw (div-eq_of_lt h.1)

  refusal_sends : sent_told n ≡ false
  refusal_sends = rw (div-eq_of_lt {n = n} {m = 128} (omega (arith, h.1)))

  bare : n % 32 + 64 * (n / 64 % 2) ≡ n
  bare = rw (div-eq_of_lt {n = n} {m = 64} (omega (arith, h.1)), mod-eq_of_lt h.1) (add-zero n)

  byte_refuses : byte_says n ≡ report.Refused (refusal_of n)
  unfolding byte_says chosen
  byte_refuses =
      rw (ne_eqb n 0 above, ne_eqb n 64 (λ e. omega (arith, e, h.1)), ne_eqb n 65 (λ e. omega (arith, e, h.1)), ne_eqb n 66 (λ e. omega (arith, e, h.1)))

  refusal_says : report_told n ≡ report.Refused (refusal_of n)
  unfolding report_told
  refusal_says = ap byte_says bare ∙ byte_refuses

-- of any other report, whatever its marks
by_marks : (P : Bool → Bool → Type 0) → P true true → P true false → P false true → P false false → (sent keep : Bool) → P sent keep
by_marks P a b c d true true = a
by_marks P a b c d true false = b
by_marks P a b c d false true = c
by_marks P a b c d false false = d

says_told : (r : Report) (sent keep : Bool) → is_refusal r ≡ false → report_told (told r sent keep) ≡ r
unfolding report_told byte_says marks chosen
says_told report.Nothing sent keep e = by_marks (λ s k. report_told (told report.Nothing s k) ≡ report.Nothing) refl refl refl refl sent keep
says_told report.Delivered sent keep e = by_marks (λ s k. report_told (told report.Delivered s k) ≡ report.Delivered) refl refl refl refl sent keep
says_told report.Ok sent keep e = by_marks (λ s k. report_told (told report.Ok s k) ≡ report.Ok) refl refl refl refl sent keep
says_told report.Lost sent keep e = by_marks (λ s k. report_told (told report.Lost s k) ≡ report.Lost) refl refl refl refl sent keep
says_told (report.Refused n) sent keep e = absurd (true≢false e)

-- ## Records

-- what is kept holds these numbers: a start takes them from it
abbrev Holds : ℕ → List ℕ → Numbers → Type 0
Holds end kept n = start_in end (record_read kept) ≡ result.Ok (numbers_kept n.reserved n.block)

-- a start from a record of version 1 is a fresh start with its number
pub old_is_fresh : (n : ℕ) → (numbers_of (number-record.ConsoleOld (record { 0 = n })) ≡ numbers_fresh n) × (numbers_of (number-record.ControllerOld (record { 0 = n })) ≡ numbers_fresh n)
old_is_fresh n = (refl, refl)

-- a record of either version holds its numbers
record_holds : (end : ℕ) (r : NumberRecord) → end_of r ≡ end → number_of r < 2 ^ 32 → is_good r ≡ true → Holds end (record_bytes r) (numbers_of r)
unfolding start_of chosen
record_holds end r e h g = ap (start_in end) (record_read_back r h g) ∙ rw (eq-eqb (end_of (renewed r)) end (renewed_end r ∙ e))

-- ## One law for both ends

-- an end that is run alone, in bytes: its fields, its number record, what it stands for, and what its calls come to
pub record InBytes {s : Side numbering} {F : Kind} (R : Runs s F) : Type 1 where
  pub size : ℕ
  pub bytes : F.End → List ℕ
  pub at : List ℕ → F.End
  pub okay : F.End → Bool
  pub numbers : F.End → Numbers
  pub Typed : F.End → Type 0
  pub long : (x : F.End) → Typed x → length (bytes x) ≡ size
  pub read_back : (x : F.End) → Typed x → at (bytes x) ≡ x
  pub sound : (x : F.End) → okay x ≡ true → numbering.sound (numbers_means (numbers x)) ≡ true
  pub end : ℕ
  pub record_of : Numbers → NumberRecord
  pub ended : (n : Numbers) → end_of (record_of n) ≡ end
  pub numbered : (n : Numbers) → number_of (record_of n) ≡ n.reserved
  pub blocked : (n : Numbers) → block_of (record_of n) ≡ n.block
  pub new : (n : Numbers) → is_old (record_of n) ≡ false
  pub same : (n : Numbers) → renewed (record_of n) ≡ record_of n
  pub back : s.E → F.End
  pub is_back : (x : F.End) (e : s.E) → R.Stands x e → x ≡ back e
  pub stands_back : (e : s.E) → R.Stands (back e) e
  pub held : (e : s.E) → (kept : F.Kept) × R.Holds kept (s.numbers e)
  pub well : (e : s.E) → s.Fine e → (okay (back e) ≡ true) × Typed (back e)
  pub back_numbers : (e : s.E) → numbers (back e) ≡ numbers_back (s.numbers e)
  pub downed : Numbers → F.End
  pub back_downed : (n : supply.Numbers) → downed (numbers_back n) ≡ back (s.downed n)
  pub refuses : (x : F.End) (c : Call) → Typed x → (q : refusals.Refusal) → F.report (F.step x c) ≡ report.Refused q → (F.sends (F.step x c) ≡ false) × (F.left (F.step x c) ≡ x)
  pub delivered : F.Told → Call → List ℕ
  pub delivers : (r : rules.Report Row) (d : F.Told) (c : Call) → F.report d ≡ report_back r → s.Cells r (F.cells d) → s.Cells r (delivered d c)

module _ {s : Side numbering} {F : Kind} {R : Runs s F} (I : InBytes R) where
  module _ (n : Numbers) (sound : numbering.sound (numbers_means n) ≡ true) where
    good : is_good (I.record_of n) ≡ true
    good = rw (I.new n, I.blocked n) (sound_block (numbers_means n) sound)

    -- the entry writes it
    record_put_lem : state_record_put true (I.record_of n) buffer ≡ record_bytes (I.record_of n)
    unfolding state_record_put record_written record_write_refusal first chosen
    record_put_lem = rw (good, I.new n)

    own_holds : Holds I.end (record_bytes (I.record_of n)) n
    own_holds =
        record_holds I.end (I.record_of n) (I.ended n) (subst (λ (x : ℕ). x < 2 ^ 32) (sym (I.numbered n)) (sound_fits (numbers_means n) sound).reserved) good
        ∙ rw (I.same n, I.numbered n, I.blocked n)

    -- a record is kept where it has changed: what is kept then holds the numbers after the step
    kept_holds : (before : Numbers) (kept : List ℕ) (keep : Bool) → keep ≡ changed before n → Holds I.end kept before → Holds I.end (when keep then state_record_put true (I.record_of n) buffer else kept) n
    unfolding chosen
    kept_holds before kept true e h = rw record_put_lem own_holds
    kept_holds before kept false e h =
        let r = eqb before.reserved n.reserved in
        let b = eqb before.block n.block in
        let g = not-false (r && b) (sym e) in
        let x = eqb-true before.reserved n.reserved (and_left r b g) in
        let y = eqb-true before.block n.block (and_right r b g) in
        h ∙ (λ i. result.Ok (numbers_kept (x i) (y i)))

  -- what an entry tells, leaves and keeps of a call of the end x that reports r, sends or not, and leaves y
  module _ (x : F.End) (typed : I.Typed x) where
    abbrev byte : Report → Bool → F.End → ℕ
    byte r sent y = told r sent (changed (I.numbers x) (I.numbers y))

    abbrev left : Report → F.End → List ℕ
    left r y = when is_refusal r then I.bytes x else state.written I.size (I.bytes x) (I.bytes y)

    abbrev keeps : Report → Bool → F.End → List ℕ → List ℕ
    keeps r sent y kept = record_kept (byte r sent y) (I.okay (I.at (left r y))) (I.record_of (I.numbers (I.at (left r y)))) kept

    pub record EntryTells (r : Report) (sent : Bool) (y : F.End) : Type 0 where
      pub says : report_told (byte r sent y) ≡ r
      pub sends : sent_told (byte r sent y) ≡ sent
      pub leaves : left r y ≡ I.bytes y
      pub holds : (kept : List ℕ) → Holds I.end kept (I.numbers x) → Holds I.end (keeps r sent y kept) (I.numbers y)
      pub stays : (q : refusals.Refusal) → r ≡ report.Refused q → (kept : List ℕ) → keeps r sent y kept ≡ kept

    refused_told : (q : refusals.Refusal) → EntryTells (report.Refused q) false x
    unfolding record_kept chosen
    refused_told q =
        let n = of_refusals.number_of q in
        let h = refusal_number q in
        record { says = refusal_says n h ∙ ap report.Refused (refusal_of-number_of q); sends = refusal_sends n h; leaves = refl; holds = λ kept k. rw (refusal_keeps n h) k; stays = λ m e kept. rw (refusal_keeps n h) }

    carried_told : (r : Report) (sent : Bool) (y : F.End) → is_refusal r ≡ false → (I.okay y ≡ true) × I.Typed y → EntryTells r sent y
    unfolding record_kept state.written chosen
    carried_told r sent y e h =
        let keep = changed (I.numbers x) (I.numbers y) in
        let long = eq-eqb (length (I.bytes x)) I.size (I.long x typed) in
        record {
          says = says_told r sent keep e;
          sends = sends_told r sent keep e;
          leaves = rw (e, long);
          holds =
              λ kept k. rw (e, long, I.read_back y h.1, h.0)
              (kept_holds (I.numbers y) (I.sound y h.0) (I.numbers x) kept _ (keeps_told r sent keep e) k);
          stays = λ n q kept. absurd (true≢false (sym (ap is_refusal q) ∙ e));
        }

    told_so : (r : Report) (sent : Bool) (y : F.End) → ((q : refusals.Refusal) → r ≡ report.Refused q → (sent ≡ false) × (y ≡ x)) → (is_refusal r ≡ false → (I.okay y ≡ true) × I.Typed y) → EntryTells r sent y
    told_so report.Nothing sent y refuses well = carried_told report.Nothing sent y refl (well refl)
    told_so report.Delivered sent y refuses well = carried_told report.Delivered sent y refl (well refl)
    told_so report.Ok sent y refuses well = carried_told report.Ok sent y refl (well refl)
    told_so report.Lost sent y refuses well = carried_told report.Lost sent y refl (well refl)
    told_so (report.Refused q) sent y refuses well =
        let h = refuses q refl in
        subst (λ (z : F.End). EntryTells (report.Refused q) sent z) (sym h.1) (subst (λ (b : Bool). EntryTells (report.Refused q) b x) (sym h.0) (refused_told q))

  -- what an entry's step makes of a state whose fields are z
  abbrev entry : List ℕ → Call → F.End → Stepped
  entry bytes c z =
      let d = F.step z c in
      record {
        told = told (F.report d) (F.sends d) (changed (I.numbers z) (I.numbers (F.left d)));
        state = when is_refusal (F.report d) then bytes else state.written I.size bytes (I.bytes (F.left d));
        reply = F.reply d;
        delivered = I.delivered d c;
      }

  -- the entries by these
  abbrev kind_of : Kind
  kind_of =
      in_c (λ s c. entry s c (I.at s)) (λ t kept. record_kept t.told (I.okay (I.at t.state)) (I.record_of (I.numbers (I.at t.state))) kept)
      (λ s kept. started I.size s (start_in I.end (record_read kept)) (start_bytes (λ n. I.bytes (I.downed n)) (start_in I.end (record_read kept))))
      F.is_for

  abbrev Stands : List ℕ → s.E → Type 0
  Stands z e = z ≡ I.bytes (I.back e)

  abbrev RecordHolds : List ℕ → supply.Numbers → Type 0
  RecordHolds kept n = Holds I.end kept (numbers_back n)

  starts_so : (z : List ℕ) (e : s.E) (kept : List ℕ) (n : supply.Numbers) → Stands z e → s.Fine e → RecordHolds kept n → numbering.sound n ≡ true → Stands (kind_of.starts z kept) (s.downed (numbering.back n))
  unfolding started start_refusal chosen
  starts_so z e kept n stands fine holds sound =
      (λ i. started I.size z (holds i) (start_bytes (λ m. I.bytes (I.downed m)) (holds i)))
      ∙ rw (eq-eqb (length z) I.size (ap length stands ∙ I.long (I.back e) (I.well e fine).1))
      (ap (λ (m : Numbers). I.bytes (I.downed m)) (back_holds _ n refl sound) ∙ ap I.bytes (I.back_downed (numbering.back n)))

  module _ (b : Bench supply.Numbers Row) (ack : Bool) (kept : List ℕ) (c : Call) (fine : s.Fine (s.end b ack)) where
    abbrev e : s.E
    e = s.end b ack

    abbrev x : F.End
    x = I.back e

    abbrev d : F.Told
    d = F.step x c

    abbrev ComesToInC : List ℕ → Type 0
    ComesToInC z = ComesTo s kind_of Stands RecordHolds b e kept c (kind_of.step z c)

    tells : (is_refusal (F.report d) ≡ false → (I.okay (F.left d) ≡ true) × I.Typed (F.left d)) → EntryTells x (I.well e fine).1 (F.report d) (F.sends d) (F.left d)
    tells well = told_so x (I.well e fine).1 (F.report d) (F.sends d) (F.left d) (I.refuses x c (I.well e fine).1) well

    comes_to_in_c : (k : F.Kept) → RecordHolds kept (s.numbers e) → Stays s b e → ComesTo s F R.Stands R.Holds b e k c d → ComesToInC (I.bytes x)
    comes_to_in_c k holds stays came =
        subst (λ (z : F.End). ComesTo s kind_of Stands RecordHolds b e kept c (entry (I.bytes x) c z)) (sym (I.read_back x (I.well e fine).1))
        (⊎_map
        (λ r.
        let t = tells (λ q. absurd (true≢false (sym (ap is_refusal r.says) ∙ q))) in
        record {
          refusal = r.refusal;
          says = t.says ∙ r.says;
          sends = t.sends ∙ r.sends;
          stands = t.leaves ∙ ap I.bytes (I.is_back (F.left d) e r.stands);
          keeps = t.stays r.refusal r.says kept;
        })
        (λ r.
        let after = s.after e r.act in
        let is = I.is_back (F.left d) after r.stands in
        let t = tells (λ q. subst (λ (y : F.End). (I.okay y ≡ true) × I.Typed y) (sym is) (I.well after (stays r.by r.place c.message r.act r.asked))) in
        record {
          by = r.by;
          named = r.named;
          place = r.place;
          act = r.act;
          asked = r.asked;
          says = t.says ∙ r.says;
          cells = I.delivers (s.report e r.act) d c r.says r.cells;
          sends = t.sends ∙ r.sends;
          reply = r.reply;
          stands = t.leaves ∙ ap I.bytes is;
          holds = subst (Holds I.end _) (ap I.numbers is ∙ I.back_numbers after) (t.holds kept (subst (Holds I.end kept) (sym (I.back_numbers e)) holds));
        })
        came)

  abbrev runs_in_c : Runs s kind_of
  runs_in_c =
      record {
        Stands = Stands;
        Holds = RecordHolds;
        again = λ kept n h. h;
        starts = starts_so;
        call =
            λ b ack z kept c stands fine holds stays finds.
            let e = s.end b ack in
            let k = I.held e in
            subst (ComesToInC b ack kept c fine) (sym stands)
            (comes_to_in_c b ack kept c fine k.0 holds stays (R.call b ack (I.back e) k.0 c (I.stands_back e) fine k.1 stays finds));
      }

-- ## The console

console_long : (x : Console) → console-trips.Typed x → length (console_bytes x) ≡ 37
unfolding console_bytes bytes_of
console_long x typed = rw typed.message

abbrev console_in_bytes : InBytes console_runs
console_in_bytes =
    record {
      size = 37;
      bytes = console_bytes;
      at = console_at;
      okay = console_ok;
      numbers = λ x. x.numbers;
      Typed = console-trips.Typed;
      long = console_long;
      read_back = console-trips.console_read_back;
      sound = console-read.ok_sound;
      end = 1;
      record_of = λ n. number-record.Console (record { 0 = n.reserved }) n.block;
      ended = λ n. refl;
      numbered = λ n. refl;
      blocked = λ n. refl;
      new = λ n. refl;
      same = λ n. refl;
      back = console_back;
      is_back = λ x e stands. stands;
      stands_back = λ e. refl;
      held = λ e. (_, console_kept_so e);
      well = λ e fine. console-left.fields_left e.history e.ack fine;
      back_numbers = console_numbers;
      downed = downed_console;
      back_downed = λ n. refl;
      refuses =
          λ x c typed q says.
          let f = console_refusal_leaves x typed.message c.message c.reply c.letter c.packet q says in
          (ap (λ (d : ConsoleAlone). d.outcome.sent) f, ap (λ (d : ConsoleAlone). d.outcome.console) f);
      delivered = λ d c. [];
      delivers = λ r d c says cells. tt;
    }

abbrev console_runs_in_c : Runs (console_side numbering) console_in_c
console_runs_in_c = runs_in_c console_in_bytes

-- ## The controller

controller_long : (x : Controller) → controller-trips.Typed x → length (controller_bytes x) ≡ 23
unfolding controller_bytes bytes_of
controller_long x typed = refl

-- the bytes lent for a delivery are written with a delivery alone
lent_cells : (r : rules.Report Row) (q : Report) (m lent : List ℕ) → q ≡ report_back r → ShownCells r m → ShownCells r (delivered_to q m lent)
lent_cells rules.nothing q m lent e h = tt
lent_cells (rules.delivered x) q m lent e h = ap (λ (z : Report). delivered_to z m lent) e ∙ h
lent_cells rules.answered_ok q m lent e h = tt
lent_cells rules.answered_lost q m lent e h = tt
lent_cells (rules.refused n) q m lent e h = tt

abbrev controller_in_bytes : InBytes controller_runs
controller_in_bytes =
    record {
      size = 23;
      bytes = controller_bytes;
      at = controller_at;
      okay = controller_ok;
      numbers = λ x. x.numbers;
      Typed = controller-trips.Typed;
      long = controller_long;
      read_back = controller-trips.controller_read_back;
      sound = controller-read.ok_sound;
      end = 2;
      record_of = λ n. number-record.Controller (record { 0 = n.reserved }) n.block;
      ended = λ n. refl;
      numbered = λ n. refl;
      blocked = λ n. refl;
      new = λ n. refl;
      same = λ n. refl;
      back = controller_back;
      is_back = λ x e stands. stands;
      stands_back = λ e. refl;
      held = λ e. (_, controller_kept_so e);
      well = controller-left.fields_left;
      back_numbers = controller_numbers;
      downed = downed_controller;
      back_downed = λ n. refl;
      refuses =
          λ x c typed q says.
          let f = controller_refusal_leaves x c.reply c.letter c.packet q says in
          (ap (λ (d : ControllerAlone). d.outcome.sent) f, ap (λ (d : ControllerAlone). d.outcome.controller) f);
      delivered = λ d c. delivered_to d.outcome.report d.outcome.message c.lent;
      delivers = λ r d c says cells. lent_cells r d.outcome.report d.outcome.message c.lent says cells;
    }

abbrev controller_runs_in_c : Runs (controller_side numbering) controller_in_c
controller_runs_in_c = runs_in_c controller_in_bytes

-- ## The theorem

-- a record's numbers are sound
stored_sound : (end : ℕ) (r : NumberRecord) → RecordOf end r → numbering.sound (numbers_means (numbers_of r)) ≡ true
stored_sound end r p =
    let b = block_of (renewed r) in
    let g = renewed_block r p.good in
    sound_so (numbers_means (numbers_of r))
    (record {
      below = le_refl (number_of (renewed r));
      most = subst (λ (n : ℕ). n ≤ largest) (sym (renewed_number r)) (omega (arith, p.fits));
      least_block = leb-true 1 b (and_left (leb 1 b) (leb b 1024) g);
      most_block = leb-true b 1024 (and_right (leb 1 b) (leb b 1024) g);
    })

module _ (j i : NumberRecord) (p : RecordOf 1 j) (q : RecordOf 2 i) (es : List Event) (honest : AllHonest (start j i) es) where
  abbrev J : Numbers
  J = numbers_of j

  abbrev I : Numbers
  I = numbers_of i

  standing : BoxesStand console_runs_in_c controller_runs_in_c (start j i) (unread (radio.start (numbers_means J) (numbers_means I)))
  unfolding bench.fresh
  standing =
      record {
        console = record { stands = refl; holds = record_holds 1 j p.own p.fits p.good; kept_is = ap numbers_means (back_holds J (numbers_means J) refl (stored_sound 1 j p)); sent_is = refl };
        controller = record { stands = refl; holds = record_holds 2 i q.own q.fits q.good; kept_is = ap numbers_means (back_holds I (numbers_means I) refl (stored_sound 2 i q)); sent_is = refl };
      }

  pub boxes_for_c_right : BoxesForCRight j i es
  boxes_for_c_right = any_right numbering_suits (start j i) (numbers_means J) (numbers_means I) (stored_sound 1 j p) (stored_sound 2 i q) standing es honest

  -- in plain words
  pub boxes_for_c_plain : PlainRead (radio_read_log numbering is_message (numbers_means (numbers_of j)) (numbers_means (numbers_of i)) boxes_for_c_right.happenings)
  boxes_for_c_plain = right_read_plain (radio_read_log numbering is_message (numbers_means (numbers_of j)) (numbers_means (numbers_of i)) boxes_for_c_right.happenings) boxes_for_c_right.right
