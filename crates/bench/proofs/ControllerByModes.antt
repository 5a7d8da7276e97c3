-- The controller on a bench by its modes: the ways through what it is asked, and through what it does that does not refuse.
use Prim.Native.Nat.{ℕ}
use mathlib.Core.Path.{◌≡◌, refl, sym, ap, subst, ◌∙◌}
use mathlib.Core.Bool.{Bool, true, false, not, ◌&&◌}
use mathlib.Core.Option as maybe
use mathlib.Core.List.{List, ◌++◌}
use native.Mathlib.Omega.{arith}
use lib.Dec.{eqb, leb}
use borrow.Author.Tests.{eq-eqb, ne_eqb}
use Rattle.wire.specs.declared.Packet.{Packet}
use Rattle.ground.specs.declared.refusals.Refusal.TheVariants.{NoPlace, NoRoom, UnknownNumber}
use Rattle.ground.specs.declared.refusals.Refusal.{Refusal}
use Rattle.ground.specs.Options.{option_back}
use Rattle.std.specs.Prelude.{Option, None, Some}
use Rattle.ground.specs.Cell.{is_message, spaces}
use Rattle.ground.specs.Choice.{chosen, when◌then◌else◌}
use Rattle.ground.specs.First.{refusal}
use Rattle.ground.proofs.Tests.{by_test}
use Rattle.rules.specs.Lists.{Opt}
use Rattle.rules.specs.Supply.{numbering}
use Rattle.rules.specs.Offered.{Offer, offered, unmoved}
use Rattle.rules.specs.Ends as ends
use Rattle.rules.specs.Bench as rules
use Rattle.rules.specs.Relabel.{in_controller_act, in_controller_acted}
use Rattle.rules.specs.WellFormed.{ToConsoleOk}
use Rattle.rules.proofs.Ends.{controller_reports}
use Rattle.rules.proofs.Relabel.{nat_controller_acts}
use Rattle.rules.proofs.Stages.{staged_end, staged_3, staged_9, staged_0, step_does}
use Rattle.letters.specs.Lines.{letter_of}
use Rattle.letters.specs.declared.ControllerAsk.{ControllerAsk}
use Rattle.letters.specs.declared.Line.{Line}
use Rattle.numbers.specs.Numbers.{move_means}
use Rattle.numbers.specs.declared.Move.TheVariants.{Stay}
use Rattle.ends.specs.AsRules.{Beside, report_back, refusal_told, delivered, delivered_beside}
use Rattle.ends.specs.Packets.{to_console_packet, to_console_sent}
use Rattle.ends.specs.declared.Report.TheVariants.{Refused}
use Rattle.ends.proofs.Reports.{report_told_lem, delivered_told}
use Rattle.ends_controller.specs.AsRules.{mode, mode_back, given, on_offer, asked_to, decided}
use Rattle.ends_controller.specs.Types.{Decided}
use Rattle.ends_controller.proofs.Decisions.{same_for_console}
use Rattle.ends_controller.proofs.MessageBeside.{same_refusal}
use Rattle.channels.proofs.Channel.{packets_length}
use Rattle.channels.proofs.Packets.{to_controller_coded, to_console_coded}
use Rattle.bench.specs.Traffic.{room_for, count_sent, table_sent, count_taken, table_taken}
use Rattle.bench.specs.ByModes.{Known, told_as, shown_of, modes_moved, modes_step, action_of, staged_7, OnController, ControllerReady}
use Rattle.bench.specs.declared.Action.{Action}
use Rattle.bench.specs.declared.arriving.Came.{Came}
use Rattle.bench.specs.declared.modes.Modes.{Modes}
use Rattle.bench.specs.declared.modes.Offered.{Offered}
use Rattle.bench.specs.declared.modes.Told.{Told}
use Rattle.bench.proofs.Offers.{offer_same, move_again, Handed, handed, controller_sends_lem}
use Rattle.bench.proofs.RefusedByModes.{told_of, told_none, told_some, absent_is, exceed_is, out_held, back_held, B, end_number, three, nine, stages, refused_so}
use Rattle.bench.proofs.Tables.{left, held, taken_holds, sent_holds}

-- ## The refusal in a controller's step

acts_told : (e : ends.Controller Offer) (act : ends.ControllerAct Beside) → refusal_told (report_back (ends.controller_acts offered e act).report) ≡ None
acts_told e act = controller_reports (λ (r : ends.Report Beside). refusal_told (report_back r) ≡ None) refl (λ m. refl) offered e act

step_told : (e : ends.Controller Offer) (act : ends.ControllerAct Beside) → refusal_told (report_back (ends.controller_step offered e act).report) ≡ told_of (refusal (ends.controller_rules offered e act))
unfolding ends.controller_step told_of chosen
step_told e act = by_test (eqb (refusal (ends.controller_rules offered e act)) 0) (λ t. rw t (acts_told e act)) (λ f. rw f)

step_acts : (e : ends.Controller Offer) (act : ends.ControllerAct Beside) → refusal (ends.controller_rules offered e act) ≡ 0 → ends.controller_step offered e act ≡ ends.controller_acts offered e act
unfolding ends.controller_step chosen
step_acts e act z = rw (eq-eqb (refusal (ends.controller_rules offered e act)) 0 z)

-- ## 7 among the controller's refusals

earlier : (n : ℕ) (u : Bool) → (n ≡ 0 → ⊥) → staged_7 n u ≡ n
unfolding chosen
earlier n u z = rw (ne_eqb n 0 z)

seventh : (n : ℕ) (u : Bool) → n ≡ 0 → u ≡ true → staged_7 n u ≡ 7
unfolding chosen
seventh n u z t = rw (eq-eqb n 0 z, t)

neither : (n : ℕ) (u : Bool) → n ≡ 0 → u ≡ false → staged_7 n u ≡ 0
unfolding chosen
neither n u z f = rw (eq-eqb n 0 z, f)

mode_again : (x : ends.ControllerMode) → mode (mode_back x) ≡ x
mode_again ends.ControllerMode.idle = refl
mode_again (ends.in_accept j i) = refl
mode_again (ends.in_ack l) = refl

-- ## The stages

module _ (b : Modes) (o : Offered) (out back : List ℕ) (line : Line) (a : Action) (ask : ControllerAsk) (came : Came) (k : Known b out back) where
  -- to which every number is known, and as it stands on the bench
  abbrev e : ends.Controller Offer
  e = on_offer b.controller.mode b.controller.up o.i

  abbrev E : ends.Controller Offer
  E = record { numbers = record { next = given o.i; known = not o.unknown; move = unmoved }; mode = mode b.controller.mode; up = b.controller.up }

  abbrev act : ends.ControllerAct Beside
  act = asked_to ask came.controller

  abbrev ract : ends.ControllerAct (List ℕ)
  ract = in_controller_act (λ _. came.message) act

  abbrev d : ends.ControllerActed Offer (List ℕ)
  d = ends.controller_acts offered E ract

  module _ (w : OnController b o out back line a ask came) where
    end_is : end_number b o out back line a ≡ staged_7 (refusal (ends.controller_rules offered e act)) o.unknown
    unfolding rules.end_rules modes_moved
    end_is =
        ap (λ (x : rules.Asked (List ℕ)). refusal (rules.end_rules offered is_message (B b o out back line a) x)) w.asks
        ∙ same_refusal offered E act came.message
        ∙ w.seven E refl

    missing_is : (uses : Bool) → (uses && rules.missing (when uses then rules.from_to_controller else rules.from_neither) (B b o out back line a) a.place) ≡ (uses && leb b.sent a.place)
    unfolding rules.missing chosen modes_moved
    missing_is false = refl
    missing_is true = absent_is (B b o out back line a).to_controller a.place ∙ ap (λ (n : ℕ). leb n a.place) (packets_length to_controller_coded b.sent out)

    three_is : three b o out back line a ≡ (line.place && leb b.sent a.place)
    three_is = ap (λ (t : rules.Taken). line.place && rules.missing t (B b o out back line a) a.place) w.takes ∙ missing_is line.place

    nine_is : nine b o out back line a ≡ not (room_for (option_back (maybe.map to_console_packet d.sent)) b.returned a.copies)
    unfolding rules.no_room modes_moved
    nine_is =
        ap (λ (x : rules.Asked (List ℕ)). line.copies && rules.no_room offered (B b o out back line a) a.copies x) w.asks
        ∙ exceed_is to_console_packet line.copies (B b o out back line a).to_console a.copies d.sent (λ f. w.silent f (B b o out back line a).controller) k.to_console_room
        ∙ ap (λ (n : ℕ). not (room_for (option_back (maybe.map to_console_packet d.sent)) n a.copies)) (packets_length to_console_coded b.returned back)

    -- ## Refused by the end, for a number that it never gave, or for want of the packet

    module _ {t : Option Refusal} {dd : Decided} (h : dd ≡ decided (ends.controller_step offered e act)) (q : t ≡ refusal_told dd.report) where
      abbrev N : ℕ
      N = refusal (ends.controller_rules offered e act)

      told_is : t ≡ told_of N
      told_is = q ∙ ap (λ (x : Decided). refusal_told x.report) h ∙ step_told e act

      passes : t ≡ None → N ≡ 0
      passes z = told_none N (sym told_is ∙ z)

      pub controller_refused_lem : {r : Told} {y : Refusal} → t ≡ Some y → r ≡ record { report = Refused y; message = spaces; console = Stay; controller = Stay; after = b } → told_as r o out back ≡ modes_step b o out back line a
      controller_refused_lem z x =
          let f = told_some N (sym told_is ∙ z) in
          let g = end_is ∙ earlier N o.unknown f.0 in
          refused_so b o out back line a k (stages b o out back line a w.begun.lined ∙ staged_end _ _ _ _ w.begun.few (λ y. f.0 (sym g ∙ y)) ∙ g) f.0
          (x ∙ λ i. record { report = Refused (sym f.1 i); message = spaces; console = Stay; controller = Stay; after = b })

      pub controller_unknown : {r : Told} → t ≡ None → o.unknown ≡ true → r ≡ record { report = Refused UnknownNumber; message = spaces; console = Stay; controller = Stay; after = b } → told_as r o out back ≡ modes_step b o out back line a
      controller_unknown z t x =
          let f = end_is ∙ seventh N o.unknown (passes z) t in
          refused_so b o out back line a k (stages b o out back line a w.begun.lined ∙ staged_end _ _ _ _ w.begun.few (λ y. let p = sym f ∙ y in omega (arith, p)) ∙ f) (λ y. omega (arith, y)) x

      pub controller_absent : {p : Bool} {r : Told} → t ≡ None → o.unknown ≡ false → p ≡ (line.place && leb b.sent a.place) → p ≡ true
          → r ≡ record { report = Refused NoPlace; message = spaces; console = Stay; controller = Stay; after = b } → told_as r o out back ≡ modes_step b o out back line a
      controller_absent z v p t x =
          refused_so b o out back line a k
          (stages b o out back line a w.begun.lined ∙ staged_3 _ _ _ _ w.begun.few (end_is ∙ neither N o.unknown (passes z) v) (three_is ∙ sym p ∙ t)) (λ y. omega (arith, y)) x

      pub controller_ready : {p : Bool} → t ≡ None → o.unknown ≡ false → p ≡ (line.place && leb b.sent a.place) → p ≡ false → ControllerReady b o out back line a ask came dd
      controller_ready z v p f =
          record { on = w; decided = h ∙ ap decided (step_acts e act (passes z)); accepts = passes z; known = v; there = sym p ∙ f }

  -- ## What is decided, with the message beside it

  module _ {dd : Decided} (w : ControllerReady b o out back line a ask came dd) where
    abbrev x : ends.ControllerActed Offer Beside
    x = ends.controller_acts offered E act

    same : in_controller_acted (λ _. came.message) x ≡ d
    same = sym (nat_controller_acts (λ _. came.message) offered E act)

    done_report : dd.report ≡ report_back d.report
    unfolding ends.controller_acts
    done_report = ap (λ (r : Decided). r.report) w.decided ∙ report_told_lem came.message x.report ∙ ap (λ (r : ends.ControllerActed Offer (List ℕ)). report_back r.report) same

    done_message : {t : List ℕ} → t ≡ delivered_beside dd.report came.message → t ≡ delivered d.report
    unfolding ends.controller_acts
    done_message f =
        f ∙ ap (λ (r : Decided). delivered_beside r.report came.message) w.decided ∙ delivered_told came.message x.report ∙ ap (λ (r : ends.ControllerActed Offer (List ℕ)). delivered r.report) same

    done_sent : to_console_sent dd.sent ≡ maybe.map to_console_packet d.sent
    unfolding to_console_sent ends.controller_acts
    done_sent =
        ap (λ (r : Decided). to_console_sent r.sent) w.decided
        ∙ ap (λ (y : maybe.Option ends.ToConsole). maybe.map to_console_packet y) (same_for_console x.sent)
        ∙ ap (λ (r : ends.ControllerActed Offer (List ℕ)). maybe.map to_console_packet r.sent) same

    -- what became of the number does not go by what is known
    same_move : (power : ends.Power) (took : Bool) → (ends.numbers_after offered power took e.numbers).move ≡ (ends.numbers_after offered power took E.numbers).move
    unfolding ends.numbers_after
    same_move ends.same true = refl
    same_move ends.same false = refl
    same_move ends.falls took = refl
    same_move ends.returns took = refl

    done_after : record { numbers = record { next = given o.i; known = not o.unknown; move = move_means dd.numbers }; mode = mode dd.mode; up = dd.up } ≡ d.after
    unfolding ends.controller_acts ends.end_after
    done_after =
        let y = ends.controller_acts offered e act in
        let power = ends.controller_power act in
        let took = (ends.controller_turn (given o.i) (mode b.controller.mode) act).took in
        (λ i. record { numbers = record { next = given o.i; known = not o.unknown; move = move_means (w.decided i).numbers }; mode = mode (w.decided i).mode; up = (w.decided i).up })
        ∙ (λ i. record { numbers = record { next = given o.i; known = not o.unknown; move = (move_again y.after.numbers.move ∙ same_move power took) i }; mode = mode_again y.after.mode i; up = y.after.up })
        ∙ (λ i. record { numbers = sym (offer_same power took E.numbers) i; mode = x.after.mode; up = x.after.up })
        ∙ ap (λ (r : ends.ControllerActed Offer (List ℕ)). r.after) same

    -- ## What it does

    abbrev after : rules.Bench Offer (List ℕ)
    after =
        record {
          console = (B b o out back line a).console;
          controller = d.after;
          to_controller = left line.place (B b o out back line a).to_controller a.place;
          to_console = (B b o out back line a).to_console ++ rules.copies_of a.copies d.sent;
        }

    taken_does : (uses : Bool) → rules.does offered (rules.taken_out (when uses then rules.from_to_controller else rules.from_neither) (B b o out back line a) a.place) a.copies (rules.Asked.controller ract)
        ≡ record { report = d.report; after = record { console = (B b o out back line a).console; controller = d.after; to_controller = left uses (B b o out back line a).to_controller a.place; to_console = (B b o out back line a).to_console ++ rules.copies_of a.copies d.sent } }
    unfolding rules.does rules.taken_out left chosen modes_moved
    taken_does false = refl
    taken_does true = refl

    effect_is : rules.effect offered (B b o out back line a) (action_of line a) ≡ record { report = d.report; after = after }
    unfolding rules.effect action_of
    effect_is = (λ i. rules.does offered (rules.taken_out (w.on.takes i) (B b o out back line a) a.place) a.copies (w.on.asks i)) ∙ taken_does line.place

    sends_ok : Opt (ToConsoleOk numbering) d.sent
    unfolding modes_moved
    sends_ok =
        let h : Handed (rules.Asked.controller ract) = subst Handed w.on.asks (handed (B b o out back line a) k.to_controller_all k.to_console_all (letter_of line) a.place a.message) in
        controller_sends_lem E ract w.on.offers k.controller h

    module _ {sent : Option Packet} {room : Bool} (s : sent ≡ option_back (to_console_sent dd.sent)) (r : room ≡ room_for sent b.returned a.copies) where
      sent_is : sent ≡ option_back (maybe.map to_console_packet d.sent)
      sent_is = s ∙ ap option_back done_sent

      room_is : nine b o out back line a ≡ not room
      room_is = nine_is w.on ∙ ap (λ (y : Option Packet). not (room_for y b.returned a.copies)) (sym sent_is) ∙ ap not (sym r)

      end_0 : end_number b o out back line a ≡ 0
      end_0 = end_is w.on ∙ neither _ o.unknown w.accepts w.known

      three_0 : three b o out back line a ≡ false
      three_0 = three_is w.on ∙ w.there

      pub controller_full : {t : Told} → room ≡ false → t ≡ record { report = Refused NoRoom; message = spaces; console = Stay; controller = Stay; after = b } → told_as t o out back ≡ modes_step b o out back line a
      controller_full n q =
          refused_so b o out back line a k (stages b o out back line a w.on.begun.lined ∙ staged_9 _ _ _ _ w.on.begun.few end_0 three_0 (room_is ∙ ap not n)) (λ y. omega (arith, y)) q

      pub controller_room : room ≡ true → room_for sent b.returned a.copies ≡ true
      controller_room n = sym r ∙ n

      pub controller_done : {lft cnt : ℕ} {m out' back' : List ℕ} → room ≡ true
          → (lft ≡ count_taken line.place b.sent a.place) × (out' ≡ table_taken line.place out b.sent a.place)
          → (cnt ≡ count_sent sent b.returned a.copies) × (back' ≡ table_sent sent back b.returned a.copies)
          → m ≡ delivered_beside dd.report came.message
          → told_as (record { report = dd.report; message = m; console = Stay; controller = dd.numbers; after = record { console = b.console; controller = record { mode = dd.mode; up = dd.up }; sent = lft; returned = cnt } }) o out' back'
          ≡ modes_step b o out back line a
      unfolding told_as modes_step shown_of modes_moved
      controller_done n t u f =
          let now_back = sent_holds to_console_coded a.copies d.sent (back_held b out back k) sends_ok sent_is (controller_room n) u.0 u.1 in
          let now_out = taken_holds to_controller_coded line.place a.place (out_held b out back k) t.0 t.1 in
          (λ i.
          record {
            report = done_report i;
            message = done_message f i;
            after =
                record {
                  console = (B b o out back line a).console;
                  controller = done_after i;
                  to_controller = held to_controller_coded now_out i;
                  to_console = held to_console_coded now_back i;
                };
            out = now_out.table i;
            back = now_back.table i;
          })
          ∙ ap shown_of
          (sym (step_does offered is_message (B b o out back line a) (action_of line a) (stages b o out back line a w.on.begun.lined ∙ staged_0 _ _ _ _ w.on.begun.few end_0 three_0 (room_is ∙ ap not n))
          ∙ effect_is))
