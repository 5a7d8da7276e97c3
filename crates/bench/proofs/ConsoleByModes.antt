-- The console on a bench by its modes: the ways through what it is asked, and through what it does that does not refuse.
use Prim.Native.Nat.{ℕ}
use mathlib.Core.Path.{◌≡◌, refl, sym, ap, subst, ◌∙◌}
use mathlib.Core.Bool.{Bool, true, false, not, ◌&&◌}
use mathlib.Core.Option as maybe
use mathlib.Core.List.{List, ◌++◌}
use native.Mathlib.Omega.{arith}
use lib.Dec.{eqb, leb}
use borrow.Author.Tests.{eq-eqb}
use Rattle.wire.specs.declared.Packet.{Packet}
use Rattle.ground.specs.declared.refusals.Refusal.TheVariants.{NoPlace, NoRoom}
use Rattle.ground.specs.declared.refusals.Refusal.{Refusal}
use Rattle.ground.specs.Options.{option_back}
use Rattle.std.specs.Prelude.{Option, None, Some}
use Rattle.ground.specs.Cell.{is_message, spaces}
use Rattle.ground.specs.Choice.{chosen, when◌then◌else◌}
use Rattle.ground.specs.First.{refusal}
use Rattle.ground.proofs.Tests.{by_test}
use Rattle.rules.specs.Lists.{Opt}
use Rattle.rules.specs.Supply.{numbering}
use Rattle.rules.specs.Offered.{Offer, offered}
use Rattle.rules.specs.Ends as ends
use Rattle.rules.specs.Bench as rules
use Rattle.rules.specs.Relabel.{in_packet, in_mode, in_console, in_console_act, in_console_acted}
use Rattle.rules.specs.WellFormed.{ToControllerOk}
use Rattle.rules.proofs.Ends.{console_reports}
use Rattle.rules.proofs.Stages.{staged_end, staged_3, staged_9, staged_0, step_does}
use Rattle.letters.specs.Lines.{letter_of}
use Rattle.letters.specs.declared.ConsoleAsk.{ConsoleAsk}
use Rattle.letters.specs.declared.ConsoleAsk.TheVariants.{Put, SendNeedI, SendData, Take, GoDown, ComeBack, TellAck}
use Rattle.letters.specs.declared.Line.{Line}
use Rattle.numbers.specs.Numbers.{move_means}
use Rattle.numbers.specs.declared.Move.TheVariants.{Stay}
use Rattle.ends.specs.AsRules.{Beside, tested, report_back, refusal_told, delivered}
use Rattle.ends.specs.Packets.{to_controller_packet, to_controller_sent}
use Rattle.ends.specs.declared.ToConsole.{ToConsole}
use Rattle.ends.specs.declared.Report.TheVariants.{Refused}
use Rattle.ends.proofs.Reports.{report_told_lem}
use Rattle.ends_console.specs.AsRules.{mode, mode_back, given, on_offer, asked_to, decided}
use Rattle.ends_console.specs.FieldsAsRules.{kept}
use Rattle.ends_console.specs.Types.{Decided}
use Rattle.ends_console.proofs.Decisions.{same_for_controller}
use Rattle.ends_console.proofs.MessageBeside.{refusal_of, same_refusal, acts_kept}
use Rattle.channels.proofs.Channel.{packets_length}
use Rattle.channels.proofs.Packets.{to_controller_coded, to_console_coded}
use Rattle.bench.specs.Traffic.{room_for, count_sent, table_sent, count_taken, table_taken}
use Rattle.bench.specs.ByModes.{Known, told_as, shown_of, modes_moved, modes_step, action_of, puts, OnConsole, ConsoleReady}
use Rattle.bench.specs.declared.Action.{Action}
use Rattle.bench.specs.declared.arriving.Came.{Came}
use Rattle.bench.specs.declared.modes.Modes.{Modes}
use Rattle.bench.specs.declared.modes.Offered.{Offered}
use Rattle.bench.specs.declared.modes.Told.{Told}
use Rattle.bench.proofs.Offers.{offer_same, move_again, Handed, handed, console_sends_lem}
use Rattle.bench.proofs.RefusedByModes.{told_of, told_none, told_some, absent_is, exceed_is, out_held, back_held, B, end_number, three, nine, stages, refused_so}
use Rattle.bench.proofs.Tables.{left, held, taken_holds, sent_holds}

-- ## What a put alone looks at and keeps

same_flag : (e : ends.Console Offer Beside) (ask : ConsoleAsk) (p : Option ToConsole) (good : Bool) → refusal (ends.console_rules offered (tested (when puts ask then good else true)) e (asked_to ask p)) ≡ refusal (ends.console_rules offered (tested good) e (asked_to ask p))
unfolding ends.console_rules chosen
same_flag e Put p good = refl
same_flag e SendNeedI p good = refl
same_flag e SendData p good = refl
same_flag e Take p good = refl
same_flag e GoDown p good = refl
same_flag e ComeBack p good = refl
same_flag e TellAck p good = refl

kept_flag : (ask : ConsoleAsk) (p : Option ToConsole) (m h : List ℕ) → (when puts ask then m else h) ≡ kept (asked_to ask p) m h
unfolding chosen
kept_flag Put p m h = refl
kept_flag SendNeedI p m h = refl
kept_flag SendData p m h = refl
kept_flag Take p m h = refl
kept_flag GoDown p m h = refl
kept_flag ComeBack p m h = refl
kept_flag TellAck p m h = refl

-- ## The refusal in a console's step

acts_told : (e : ends.Console Offer Beside) (act : ends.ConsoleAct Beside) → refusal_told (report_back (ends.console_acts offered e act).report) ≡ None
acts_told e act = console_reports (λ (r : ends.Report Beside). refusal_told (report_back r) ≡ None) refl refl refl offered e act

step_told : (g : Beside → Bool) (e : ends.Console Offer Beside) (act : ends.ConsoleAct Beside) → refusal_told (report_back (ends.console_step offered g e act).report) ≡ told_of (refusal (ends.console_rules offered g e act))
unfolding ends.console_step told_of chosen
step_told g e act = by_test (eqb (refusal (ends.console_rules offered g e act)) 0) (λ t. rw t (acts_told e act)) (λ f. rw f)

step_acts : (g : Beside → Bool) (e : ends.Console Offer Beside) (act : ends.ConsoleAct Beside) → refusal (ends.console_rules offered g e act) ≡ 0 → ends.console_step offered g e act ≡ ends.console_acts offered e act
unfolding ends.console_step chosen
step_acts g e act z = rw (eq-eqb (refusal (ends.console_rules offered g e act)) 0 z)

-- ## The stages

module _ (b : Modes) (o : Offered) (out back : List ℕ) (line : Line) (a : Action) (ask : ConsoleAsk) (came : Came) (k : Known b out back) where
  abbrev e : ends.Console Offer Beside
  e = on_offer b.console.mode b.console.up o.j

  abbrev act : ends.ConsoleAct Beside
  act = asked_to ask came.console

  abbrev ract : ends.ConsoleAct (List ℕ)
  ract = in_console_act (λ _. a.message) act

  abbrev d : ends.ConsoleActed Offer (List ℕ)
  d = ends.console_acts offered (in_console (λ _. b.console.held) e) ract

  module _ (w : OnConsole b o out back line a ask came) where
    end_is : end_number b o out back line a ≡ refusal_of offered e act a.message
    unfolding rules.end_rules modes_moved
    end_is = ap (λ (x : rules.Asked (List ℕ)). refusal (rules.end_rules offered is_message (B b o out back line a) x)) w.asks ∙ same_refusal offered e b.console.held act a.message

    missing_is : (uses : Bool) → (uses && rules.missing (when uses then rules.from_to_console else rules.from_neither) (B b o out back line a) a.place) ≡ (uses && leb b.returned a.place)
    unfolding rules.missing chosen modes_moved
    missing_is false = refl
    missing_is true = absent_is (B b o out back line a).to_console a.place ∙ ap (λ (n : ℕ). leb n a.place) (packets_length to_console_coded b.returned back)

    three_is : three b o out back line a ≡ (line.place && leb b.returned a.place)
    three_is = ap (λ (t : rules.Taken). line.place && rules.missing t (B b o out back line a) a.place) w.takes ∙ missing_is line.place

    nine_is : nine b o out back line a ≡ not (room_for (option_back (maybe.map to_controller_packet d.sent)) b.sent a.copies)
    unfolding rules.no_room modes_moved
    nine_is =
        ap (λ (x : rules.Asked (List ℕ)). line.copies && rules.no_room offered (B b o out back line a) a.copies x) w.asks
        ∙ exceed_is to_controller_packet line.copies (B b o out back line a).to_controller a.copies d.sent (λ f. w.silent f (B b o out back line a).console) k.to_controller_room
        ∙ ap (λ (n : ℕ). not (room_for (option_back (maybe.map to_controller_packet d.sent)) n a.copies)) (packets_length to_controller_coded b.sent out)

    -- ## Refused by the end, or for want of the packet

    module _ {t : Option Refusal} {good : Bool} {dd : Decided} (g : good ≡ (when line.message then is_message a.message else true))
        (h : dd ≡ decided (ends.console_step offered (tested good) e act)) (q : t ≡ refusal_told dd.report) where
      flagged : refusal (ends.console_rules offered (tested good) e act) ≡ refusal_of offered e act a.message
      flagged =
          ap (λ (x : Bool). refusal (ends.console_rules offered (tested x) e act)) (g ∙ ap (λ (x : Bool). when x then is_message a.message else true) w.message)
          ∙ same_flag e ask came.console (is_message a.message)

      told_is : t ≡ told_of (refusal_of offered e act a.message)
      told_is = q ∙ ap (λ (x : Decided). refusal_told x.report) h ∙ step_told (tested good) e act ∙ ap told_of flagged

      passes : t ≡ None → refusal_of offered e act a.message ≡ 0
      passes z = told_none (refusal_of offered e act a.message) (sym told_is ∙ z)

      pub console_refused_lem : {r : Told} {y : Refusal} → t ≡ Some y → r ≡ record { report = Refused y; message = spaces; console = Stay; controller = Stay; after = b } → told_as r o out back ≡ modes_step b o out back line a
      console_refused_lem z x =
          let f = told_some (refusal_of offered e act a.message) (sym told_is ∙ z) in
          refused_so b o out back line a k (stages b o out back line a w.begun.lined ∙ staged_end _ _ _ _ w.begun.few (λ y. f.0 (sym end_is ∙ y)) ∙ end_is) f.0
          (x ∙ λ i. record { report = Refused (sym f.1 i); message = spaces; console = Stay; controller = Stay; after = b })

      pub console_absent : {p : Bool} {r : Told} → t ≡ None → p ≡ (line.place && leb b.returned a.place) → p ≡ true → r ≡ record { report = Refused NoPlace; message = spaces; console = Stay; controller = Stay; after = b }
          → told_as r o out back ≡ modes_step b o out back line a
      console_absent z p t x =
          refused_so b o out back line a k (stages b o out back line a w.begun.lined ∙ staged_3 _ _ _ _ w.begun.few (end_is ∙ passes z) (three_is ∙ sym p ∙ t)) (λ y. omega (arith, y)) x

      pub console_ready : {p : Bool} → t ≡ None → p ≡ (line.place && leb b.returned a.place) → p ≡ false → ConsoleReady b o out back line a ask came dd
      console_ready z p f =
          record { on = w; decided = h ∙ ap decided (step_acts (tested good) e act (flagged ∙ passes z)); accepts = passes z; there = sym p ∙ f }

  -- ## What is decided, with the message beside it

  mode_again : (x : ends.ConsoleMode Beside) → mode (mode_back x) ≡ x
  mode_again ends.ConsoleMode.idle = refl
  mode_again (ends.in_need_i j m) = refl
  mode_again (ends.in_send l m) = refl

  module _ {dd : Decided} (w : ConsoleReady b o out back line a ask came dd) {h : List ℕ} (f : h ≡ (when line.message then a.message else b.console.held)) where
    abbrev x : ends.ConsoleActed Offer Beside
    x = ends.console_acts offered e act

    held_is : h ≡ kept act a.message b.console.held
    held_is = f ∙ ap (λ (y : Bool). when y then a.message else b.console.held) w.on.message ∙ kept_flag ask came.console a.message b.console.held

    same : in_console_acted (λ _. h) x ≡ d
    same = ap (λ (m : List ℕ). in_console_acted (λ _. m) x) held_is ∙ sym (acts_kept offered e b.console.held act a.message w.accepts)

    done_report : dd.report ≡ report_back d.report
    done_report = ap (λ (r : Decided). r.report) w.decided ∙ report_told_lem h x.report ∙ ap (λ (r : ends.ConsoleActed Offer (List ℕ)). report_back r.report) same

    -- a console delivers nothing
    done_message : spaces ≡ delivered d.report
    done_message = console_reports (λ (r : ends.Report (List ℕ)). spaces ≡ delivered r) refl refl refl offered (in_console (λ _. b.console.held) e) ract

    done_sent : to_controller_sent dd.sent h ≡ maybe.map to_controller_packet d.sent
    unfolding to_controller_sent
    done_sent =
        ap (λ (r : Decided). to_controller_sent r.sent h) w.decided
        ∙ ap (λ (y : maybe.Option (ends.ToController Beside)). maybe.map to_controller_packet (maybe.map (in_packet (λ _. h)) y)) (same_for_controller x.sent)
        ∙ ap (λ (r : ends.ConsoleActed Offer (List ℕ)). maybe.map to_controller_packet r.sent) same

    done_after : record { numbers = record { next = given o.j; known = true; move = move_means dd.numbers }; mode = in_mode (λ _. h) (mode dd.mode); up = dd.up } ≡ d.after
    unfolding ends.console_acts ends.end_after
    done_after =
        (λ i. record { numbers = record { next = given o.j; known = true; move = move_means (w.decided i).numbers }; mode = in_mode (λ _. h) (mode (w.decided i).mode); up = (w.decided i).up })
        ∙ (λ i. record { numbers = record { next = given o.j; known = true; move = move_again x.after.numbers.move i }; mode = in_mode (λ _. h) (mode_again x.after.mode i); up = x.after.up })
        ∙ (λ i. record { numbers = sym (offer_same (ends.console_power act) (ends.console_turn (given o.j) (mode b.console.mode) act).took e.numbers) i; mode = in_mode (λ _. h) x.after.mode; up = x.after.up })
        ∙ ap (λ (r : ends.ConsoleActed Offer (List ℕ)). r.after) same

    -- ## What it does

    abbrev after : rules.Bench Offer (List ℕ)
    after =
        record {
          console = d.after;
          controller = (B b o out back line a).controller;
          to_controller = (B b o out back line a).to_controller ++ rules.copies_of a.copies d.sent;
          to_console = left line.place (B b o out back line a).to_console a.place;
        }

    taken_does : (uses : Bool) → rules.does offered (rules.taken_out (when uses then rules.from_to_console else rules.from_neither) (B b o out back line a) a.place) a.copies (rules.Asked.console ract)
        ≡ record { report = d.report; after = record { console = d.after; controller = (B b o out back line a).controller; to_controller = (B b o out back line a).to_controller ++ rules.copies_of a.copies d.sent; to_console = left uses (B b o out back line a).to_console a.place } }
    unfolding rules.does rules.taken_out left chosen modes_moved
    taken_does false = refl
    taken_does true = refl

    effect_is : rules.effect offered (B b o out back line a) (action_of line a) ≡ record { report = d.report; after = after }
    unfolding rules.effect action_of
    effect_is = (λ i. rules.does offered (rules.taken_out (w.on.takes i) (B b o out back line a) a.place) a.copies (w.on.asks i)) ∙ taken_does line.place

    sends_ok : Opt (ToControllerOk numbering is_message) d.sent
    unfolding modes_moved
    sends_ok =
        let h : Handed (rules.Asked.console ract) = subst Handed w.on.asks (handed (B b o out back line a) k.to_controller_all k.to_console_all (letter_of line) a.place a.message) in
        console_sends_lem (in_console (λ _. b.console.held) e) ract w.on.offers k.console (same_refusal offered e b.console.held act a.message ∙ w.accepts) h

    module _ {sent : Option Packet} {room : Bool} (s : sent ≡ option_back (to_controller_sent dd.sent h)) (r : room ≡ room_for sent b.sent a.copies) where
      sent_is : sent ≡ option_back (maybe.map to_controller_packet d.sent)
      sent_is = s ∙ ap option_back done_sent

      room_is : nine b o out back line a ≡ not room
      room_is = nine_is w.on ∙ ap (λ (y : Option Packet). not (room_for y b.sent a.copies)) (sym sent_is) ∙ ap not (sym r)

      end_0 : end_number b o out back line a ≡ 0
      end_0 = end_is w.on ∙ w.accepts

      three_0 : three b o out back line a ≡ false
      three_0 = three_is w.on ∙ w.there

      pub console_full : {t : Told} → room ≡ false → t ≡ record { report = Refused NoRoom; message = spaces; console = Stay; controller = Stay; after = b } → told_as t o out back ≡ modes_step b o out back line a
      console_full n q =
          refused_so b o out back line a k (stages b o out back line a w.on.begun.lined ∙ staged_9 _ _ _ _ w.on.begun.few end_0 three_0 (room_is ∙ ap not n)) (λ y. omega (arith, y)) q

      pub console_room : room ≡ true → room_for sent b.sent a.copies ≡ true
      console_room n = sym r ∙ n

      pub console_done : {x : Told} {ret cnt : ℕ} {out' back' : List ℕ} → room ≡ true
          → (ret ≡ count_taken line.place b.returned a.place) × (back' ≡ table_taken line.place back b.returned a.place)
          → (cnt ≡ count_sent sent b.sent a.copies) × (out' ≡ table_sent sent out b.sent a.copies)
          → x ≡ record { report = dd.report; message = spaces; console = dd.numbers; controller = Stay; after = record { console = record { mode = dd.mode; up = dd.up; held = h }; controller = b.controller; sent = cnt; returned = ret } }
          → told_as x o out' back' ≡ modes_step b o out back line a
      unfolding told_as modes_step shown_of modes_moved
      console_done {out' = out'} {back' = back'} n t u f =
          let now_out = sent_holds to_controller_coded a.copies d.sent (out_held b out back k) sends_ok sent_is (console_room n) u.0 u.1 in
          let now_back = taken_holds to_console_coded line.place a.place (back_held b out back k) t.0 t.1 in
          ap (λ (y : Told). told_as y o out' back') f
          ∙ (λ i.
          record {
            report = done_report i;
            message = done_message i;
            after =
                record {
                  console = done_after i;
                  controller = (B b o out back line a).controller;
                  to_controller = held to_controller_coded now_out i;
                  to_console = held to_console_coded now_back i;
                };
            out = now_out.table i;
            back = now_back.table i;
          })
          ∙ ap shown_of
          (sym (step_does offered is_message (B b o out back line a) (action_of line a) (stages b o out back line a w.on.begun.lined ∙ staged_0 _ _ _ _ w.on.begun.few end_0 three_0 (room_is ∙ ap not n))
          ∙ effect_is))
