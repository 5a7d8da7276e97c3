-- A packet lost on a bench by its modes: the ways through it.
use Prim.Native.Nat.{ℕ, ◌≤◌, ◌<◌}
use mathlib.Core.Path.{◌≡◌, refl, sym, ap, subst, ◌∙◌}
use mathlib.Core.Bool.{Bool, true, false, ◌&&◌}
use mathlib.Core.List.{List}
use native.Mathlib.Omega.{arith}
use lib.Dec.{leb}
use borrow.Author.Tests.{leb-true, leb-false, le-leb, lt-leb, le-ltb}
use Rattle.std.specs.Prelude.{Option, None, Some}
use Rattle.ground.specs.Cell.{is_message, spaces}
use Rattle.ground.specs.Choice.{chosen, when◌then◌else◌}
use Rattle.ground.specs.First.{refusal, first, applies}
use Rattle.ground.proofs.Tests.{by_test}
use Rattle.rules.specs.Offered.{Offer, offered}
use Rattle.rules.specs.Ends as ends
use Rattle.rules.specs.Bench as rules
use Rattle.rules.proofs.Stages.{staged_3, staged_0, step_does}
use Rattle.wire.specs.declared.Direction.{Direction}
use Rattle.wire.specs.declared.Direction.TheVariants.{ToController, ToConsole}
use Rattle.ground.specs.declared.refusals.Refusal.TheVariants.{NoPlace}
use Rattle.letters.specs.declared.Line.{Line}
use Rattle.numbers.specs.declared.Move.TheVariants.{Stay}
use Rattle.ends.specs.declared.Report.{Report}
use Rattle.ends.specs.declared.Report.TheVariants.{Nothing, Refused}
use Rattle.channels.proofs.Channel.{packets_length}
use Rattle.channels.proofs.Packets.{to_controller_coded, to_console_coded}
use Rattle.bench.specs.Traffic.{count_taken, table_taken}
use Rattle.bench.specs.ByModes.{Known, told_as, shown_of, modes_moved, modes_step, action_of, TakesOne, lost_from, OnLosing}
use Rattle.bench.specs.declared.Action.{Action}
use Rattle.bench.specs.declared.modes.Modes.{Modes}
use Rattle.bench.specs.declared.modes.Offered.{Offered}
use Rattle.bench.specs.declared.modes.Told.{Told}
use Rattle.bench.proofs.RefusedByModes.{absent_is, out_held, back_held, B, end_number, three, nine, stages, refused_so}
use Rattle.bench.proofs.Tables.{left, held, taken_holds}

-- ## The pieces

-- what a packet lost leaves, with a report and two counts
abbrev lost : Modes → Report → ℕ → ℕ → Told
lost b p m n = record { report = p; message = spaces; console = Stay; controller = Stay; after = record { console = b.console; controller = b.controller; sent = m; returned = n } }

module _ (b : Modes) (o : Offered) (out back : List ℕ) (line : Line) (a : Action) (k : Known b out back) (w : OnLosing b o out back line a) where
  abbrev bench : rules.Bench Offer (List ℕ)
  bench = B b o out back line a

  end_is : end_number b o out back line a ≡ 0
  unfolding rules.end_rules refusal first applies chosen
  end_is = ap (λ (x : rules.Asked (List ℕ)). refusal (rules.end_rules offered is_message bench x)) w.asks

  silent : (flag : Bool) → (flag && false) ≡ false
  silent true = refl
  silent false = refl

  nine_is : nine b o out back line a ≡ false
  unfolding rules.no_room
  nine_is = ap (λ (x : rules.Asked (List ℕ)). line.copies && rules.no_room offered bench a.copies x) w.asks ∙ silent line.copies

  three_is : {t : Option Direction} → line.takes ≡ t → three b o out back line a ≡ rules.missing (lost_from t) bench a.place
  three_is e = (λ i. w.place i && rules.missing (w.takes i) bench a.place) ∙ ap (λ (t : Option Direction). rules.missing (lost_from t) bench a.place) e

  out_three : line.takes ≡ Some ToController → three b o out back line a ≡ leb b.sent a.place
  unfolding rules.missing modes_moved
  out_three e = three_is e ∙ absent_is bench.to_controller a.place ∙ ap (λ (n : ℕ). leb n a.place) (packets_length to_controller_coded b.sent out)

  back_three : line.takes ≡ Some ToConsole → three b o out back line a ≡ leb b.returned a.place
  unfolding rules.missing modes_moved
  back_three e = three_is e ∙ absent_is bench.to_console a.place ∙ ap (λ (n : ℕ). leb n a.place) (packets_length to_console_coded b.returned back)

  -- 3
  absent_so : {r : Told} → three b o out back line a ≡ true → r ≡ record { report = Refused NoPlace; message = spaces; console = Stay; controller = Stay; after = b } → told_as r o out back ≡ modes_step b o out back line a
  absent_so t q = refused_so b o out back line a k (stages b o out back line a w.begun.lined ∙ staged_3 _ _ _ _ w.begun.few end_is t) (λ x. omega (arith, x)) q

  step_is : {t : Option Direction} → line.takes ≡ t → three b o out back line a ≡ false → rules.step offered is_message bench (action_of line a) ≡ record { report = ends.nothing; after = rules.taken_out (lost_from t) bench a.place }
  unfolding rules.effect action_of rules.does
  step_is e f =
      step_does offered is_message bench (action_of line a) (stages b o out back line a w.begun.lined ∙ staged_0 _ _ _ _ w.begun.few end_is f nine_is)
      ∙ (λ i. rules.does offered (rules.taken_out (w.takes i) bench a.place) a.copies (w.asks i))
      ∙ ap (λ (t : Option Direction). record { report = ends.nothing; after = rules.taken_out (lost_from t) bench a.place }) e

  -- ## The ways

  out_absent : {r : Told} → line.takes ≡ Some ToController → b.sent ≤ a.place → r ≡ record { report = Refused NoPlace; message = spaces; console = Stay; controller = Stay; after = b } → told_as r o out back ≡ modes_step b o out back line a
  out_absent e h q = absent_so (out_three e ∙ le-leb b.sent a.place h) q

  back_absent : {r : Told} → line.takes ≡ Some ToConsole → b.returned ≤ a.place → r ≡ record { report = Refused NoPlace; message = spaces; console = Stay; controller = Stay; after = b } → told_as r o out back ≡ modes_step b o out back line a
  back_absent e h q = absent_so (back_three e ∙ le-leb b.returned a.place h) q

  out_lost : {n : ℕ} {out' : List ℕ} {r : Told} → line.takes ≡ Some ToController → a.place < b.sent
      → (n ≡ count_taken true b.sent a.place) × (out' ≡ table_taken true out b.sent a.place)
      → r ≡ record { report = Nothing; message = spaces; console = Stay; controller = Stay; after = record { console = b.console; controller = b.controller; sent = n; returned = b.returned } }
      → told_as r o out' back ≡ modes_step b o out back line a
  unfolding told_as modes_step shown_of modes_moved rules.taken_out left chosen
  out_lost {out' = out'} e h t q =
      let now_out = taken_holds to_controller_coded true a.place (out_held b out back k) t.0 t.1 in
      ap (λ (x : Told). told_as x o out' back) q
      ∙ (λ i.
      record {
        report = Nothing;
        message = spaces;
        after = record { console = bench.console; controller = bench.controller; to_controller = held to_controller_coded now_out i; to_console = bench.to_console };
        out = now_out.table i;
        back = k.back_holds i;
      })
      ∙ ap shown_of (sym (step_is e (out_three e ∙ lt-leb b.sent a.place h)))

  back_lost : {n : ℕ} {back' : List ℕ} {r : Told} → line.takes ≡ Some ToConsole → a.place < b.returned
      → (n ≡ count_taken true b.returned a.place) × (back' ≡ table_taken true back b.returned a.place)
      → r ≡ record { report = Nothing; message = spaces; console = Stay; controller = Stay; after = record { console = b.console; controller = b.controller; sent = b.sent; returned = n } }
      → told_as r o out back' ≡ modes_step b o out back line a
  unfolding told_as modes_step shown_of modes_moved rules.taken_out left chosen
  back_lost {back' = back'} e h t q =
      let now_back = taken_holds to_console_coded true a.place (back_held b out back k) t.0 t.1 in
      ap (λ (x : Told). told_as x o out back') q
      ∙ (λ i.
      record {
        report = Nothing;
        message = spaces;
        after = record { console = bench.console; controller = bench.controller; to_controller = bench.to_controller; to_console = held to_console_coded now_back i };
        out = k.out_holds i;
        back = now_back.table i;
      })
      ∙ ap shown_of (sym (step_is e (back_three e ∙ lt-leb b.returned a.place h)))

  -- absent or lost, by one way
  pub out_loses : {out' : List ℕ} {r : Told} {p : Report × ℕ} → line.takes ≡ Some ToController
      → (p ≡ (when leb b.sent a.place then Refused NoPlace else Nothing, count_taken true b.sent a.place)) × (out' ≡ table_taken true out b.sent a.place) → r ≡ lost b p.0 p.1 b.returned
      → told_as r o out' back ≡ modes_step b o out back line a
  unfolding count_taken table_taken chosen
  out_loses {r = r} e q m =
      let told = m ∙ λ i. lost b (q.0 i).0 (q.0 i).1 b.returned in
      by_test (leb b.sent a.place)
      (λ t.
      let h = leb-true b.sent a.place t in
      let u = le-ltb a.place b.sent h in
      ap (λ (x : List ℕ). told_as r o x back) (q.1 ∙ rw u) ∙ out_absent e h (told ∙ rw (t, u)))
      (λ f. out_lost e (leb-false b.sent a.place f) (refl, q.1) (told ∙ rw f))

  pub back_loses : {back' : List ℕ} {r : Told} {p : Report × ℕ} → line.takes ≡ Some ToConsole
      → (p ≡ (when leb b.returned a.place then Refused NoPlace else Nothing, count_taken true b.returned a.place)) × (back' ≡ table_taken true back b.returned a.place) → r ≡ lost b p.0 b.sent p.1
      → told_as r o out back' ≡ modes_step b o out back line a
  unfolding count_taken table_taken chosen
  back_loses {r = r} e q m =
      let told = m ∙ λ i. lost b (q.0 i).0 b.sent (q.0 i).1 in
      by_test (leb b.returned a.place)
      (λ t.
      let h = leb-true b.returned a.place t in
      let u = le-ltb a.place b.returned h in
      ap (λ (x : List ℕ). told_as r o out x) (q.1 ∙ rw u) ∙ back_absent e h (told ∙ rw (t, u)))
      (λ f. back_lost e (leb-false b.returned a.place f) (refl, q.1) (told ∙ rw f))

  -- no letter that asks no end takes nothing
  pub takes_nothing : (back' : List ℕ) (r : Told) → line.takes ≡ None → told_as r o out back' ≡ modes_step b o out back line a
  takes_nothing back' r e = absurd (subst TakesOne e w.takes_one)

pub ruleset losings = (out_loses, back_loses, takes_nothing)
