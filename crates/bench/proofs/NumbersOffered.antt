-- The step with the numbers of any supply is the step by modes with these numbers on offer, and then their move.
use Prim.Native.Nat.{ℕ}
use mathlib.Core.Path.{◌≡◌, refl, sym, ap, subst, ◌∙◌}
use mathlib.Core.Bool.{Bool, true, false, not, ◌&&◌}
use mathlib.Core.Option as maybe
use mathlib.Core.List.{List}
use native.Mathlib.Omega.{arith}
use lib.Dec.{ltb}
use Rattle.ground.proofs.RefusalNumbers.{refusal_of-number_of}
use Rattle.ends_controller.specs.AsRules as controller
use Rattle.ends_console.specs.AsRules as console
use Rattle.ground.specs.declared.refusals.Refusal.TheVariants.{TooManyCopies}
use Rattle.ground.specs.declared.refusals.Refusal.{Refusal}
use Rattle.std.specs.Prelude.{None}
use Rattle.ground.specs.Cell.{is_message, spaces}
use Rattle.ground.specs.First.{refusal}
use Rattle.rules.specs.Supply.{Supply, numbering}
use Rattle.rules.specs.Offered as offered
use Rattle.rules.specs.Offered.{Offer, moved, packet_of, moved_on, bench_offering}
use Rattle.rules.specs.Letters as letters
use Rattle.rules.specs.Ends as ends
use Rattle.rules.specs.Bench as rules
use Rattle.rules.specs.Reading.{Use, leaves, use_by, said, ack_after, reading, read, read_step}
use Rattle.rules.specs.WellFormed.{Number, Given, Good}
use Rattle.rules.proofs.Lists.{all_map}
use Rattle.rules.proofs.BenchBears.{weaken_to_controller, weaken_to_console, weaken_console, weaken_controller}
use Rattle.rules.proofs.Offered.{unknown_by_offer, AskedSame7, step_offering, TakenOne, step_there}
use Rattle.rules.proofs.Stages.{staged_10, in_stages, step_refuses}
use Rattle.letters.specs.Lines.{line_of, letter_of, Lined}
use Rattle.letters.specs.declared.Asks.{Asks}
use Rattle.letters.specs.declared.Asks.TheVariants as asks
use Rattle.letters.specs.declared.ConsoleAsk.{ConsoleAsk}
use Rattle.letters.specs.declared.ControllerAsk.{ControllerAsk}
use Rattle.letters.specs.declared.Line.{Line}
use Rattle.numbers.specs.Numbers.{move_means}
use Rattle.numbers.specs.declared.Move.{Move}
use Rattle.ends.specs.AsRules.{for_controller}
use Rattle.ends.specs.declared.Report.TheVariants.{Refused}
use Rattle.ends_console.specs.Ack.{use_means, ack_use, acked}
use Rattle.ends_console.specs.declared.ack.AckUse.{AckUse}
use Rattle.ends_console.specs.declared.ack.Shown.{Shown}
use Rattle.ends_controller.proofs.MessageBeside.{same_unknown}
use Rattle.bench.specs.Arriving.{nothing_came, came_out, came_for}
use Rattle.bench.specs.ByModes.{RulesOutcome, Known, Offers, Arrived, Few, OnConsole, OnController, OnLosing, told_as, shown_of, modes_moved, modes_means, modes_step, action_of}
use Rattle.bench.specs.WithNumbers.{with_numbers, WellWith, next_j, next_i, offered_by, as_it_is, moved_with, read_of, step_with}
use Rattle.bench.specs.declared.Action.{Action}
use Rattle.bench.specs.declared.arriving.Came.{Came}
use Rattle.bench.specs.declared.modes.Modes.{Modes}
use Rattle.bench.specs.declared.modes.Offered.{Offered}
use Rattle.bench.specs.declared.modes.Told.{Told}
use Rattle.bench.proofs.AckShown.{shown_with, read_shown, kept_with, read_kept, use_of, Elsewhere, use_by_line, step_quiet}
use Rattle.bench.proofs.PacketAtPlace.{out_is}
use Rattle.bench.proofs.RefusedByModes.{out_held}
use Rattle.bench.proofs.WhoIsAsked.{asked_console, asked_controller, asked_no_end}

-- a number as it is handed on is the same number
pub given_j : (n : maybe.Option ℕ) → console.given (next_j n) ≡ n
given_j maybe.none = refl
given_j (maybe.some n) = refl

pub given_i : (n : maybe.Option ℕ) → controller.given (next_i n) ≡ n
given_i maybe.none = refl
given_i (maybe.some n) = refl

-- what is asked of a supply whose numbers are offered
pub record Offering {S : Type 0} (U : Supply S) : Type 0 where
  pub next_number : (s : S) (n : ℕ) → U.sound s ≡ true → U.next s ≡ maybe.some n → Number U n
  -- each can be written in a packet
  pub fits : (n : ℕ) → Number U n → Number numbering n

-- if a move takes a number, there is a next one
abbrev pub OfferedOne : {S : Type 0} → Supply S → S → Move → Type 0
OfferedOne U s m = TakenOne (move_means m) → ends.absent (U.next s) ≡ false

module _ {S : Type 0} {U : Supply S} (offering : Offering U) (b : Modes) (s t : S) (out back : List ℕ) (k : WellWith U b s t out back) where
  -- ## What is known by modes

  abbrev B : rules.Bench S (List ℕ)
  B = with_numbers b s t out back

  pub known_modes : Known b out back
  unfolding with_numbers
  known_modes =
      let w = k.well_formed in
      let fits = offering.fits in
      record {
        console = weaken_console (Given U s) (Number numbering) (Number U) (Number numbering) (λ n h. fits n h.0) fits (Good is_message) B.console.mode w.console.mode;
        controller = weaken_controller (Number U) (Number numbering) (Given U t) (Number numbering) fits (λ n h. fits n h.0) B.controller.mode w.controller.mode;
        to_controller_all = all_map _ _ (weaken_to_controller (Number U) (Number numbering) (Number U) (Number numbering) fits fits (Good is_message)) B.to_controller w.to_controller_all;
        to_controller_room = w.to_controller_room;
        to_console_all = all_map _ _ (weaken_to_console (Number U) (Number numbering) (Number U) (Number numbering) fits fits) B.to_console w.to_console_all;
        to_console_room = w.to_console_room;
        out_holds = k.out_holds;
        back_holds = k.back_holds;
      }

  offers_so : (q : S) → U.sound q ≡ true → Offers (U.next q)
  offers_so q h m e = offering.fits m (offering.next_number q m h e)

  module _ (line : Line) (a : Action) (came : Came) {o : Offered} (c : came ≡ came_for line.asks out b.sent back b.returned a.place)
      (f : o ≡ offered_by U s t came.controller) where
    pub arrived_so : Arrived b o out back line a came
    unfolding with_numbers
    arrived_so =
        record {
          came_is = c;
          unknown_is =
              ap (λ (x : Offered). ends.unknown (λ n. not x.unknown) (for_controller came.controller)) f
              ∙ unknown_by_offer (U.used t) (for_controller came.controller)
              ∙ sym (ap (λ (x : Offered). x.unknown) f);
          j_offered = subst Offers (sym (ap (λ (x : Offered). console.given x.j) f ∙ given_j (U.next s))) (offers_so s k.well_formed.console.numbers);
          i_offered = subst Offers (sym (ap (λ (x : Offered). controller.given x.i) f ∙ given_i (U.next t))) (offers_so t k.well_formed.controller.numbers);
        }

    -- ## The bench with its numbers on offer

    abbrev known : Bool
    known = not o.unknown

    offered-is : modes_means b o out back ≡ bench_offering U known B
    unfolding modes_moved with_numbers
    offered-is =
        (λ i.
        record {
          console = record { numbers = record { next = console.given (f i).j; known = true; move = offered.unmoved }; mode = B.console.mode; up = B.console.up };
          controller = record { numbers = record { next = controller.given (f i).i; known = known; move = offered.unmoved }; mode = B.controller.mode; up = B.controller.up };
          to_controller = B.to_controller;
          to_console = B.to_console;
        })
        ∙ λ i.
        record {
          console = record { numbers = record { next = given_j (U.next s) i; known = true; move = offered.unmoved }; mode = B.console.mode; up = B.console.up };
          controller = record { numbers = record { next = given_i (U.next t) i; known = known; move = offered.unmoved }; mode = B.controller.mode; up = B.controller.up };
          to_controller = B.to_controller;
          to_console = B.to_console;
        }

    -- of the packet that R takes, `known` says what the controller's numbers say
    taken_7 : (p : maybe.Option (ends.ToController (List ℕ))) → ends.unknown (U.used t) p ≡ o.unknown → ends.unknown (λ n. known) p ≡ ends.unknown (U.used t) p
    taken_7 p h = ap (λ (x : Bool). ends.unknown (λ n. not x) p) (sym h) ∙ unknown_by_offer (U.used t) p

    r_same : came ≡ came_out out b.sent a.place → ends.unknown (U.used t) (rules.at B.to_controller a.place) ≡ o.unknown
    unfolding with_numbers
    r_same e =
        ap (ends.unknown (U.used t)) (sym (out_is B.to_controller out b.sent a.place (out_held b out back known_modes)))
        ∙ same_unknown (U.used t) (for_controller (came_out out b.sent a.place).controller) (came_out out b.sent a.place).message
        ∙ ap (λ (x : Came). ends.unknown (U.used t) (for_controller x.controller)) (sym e)
        ∙ sym (ap (λ (x : Offered). x.unknown) f)

    seven_by_letter : (x : letters.Letter) → came ≡ came_for (line_of x).asks out b.sent back b.returned a.place → AskedSame7 U known B (rules.asks B x a.place a.message)
    unfolding line_of letters.line rules.asks packet_of ends.unknown with_numbers
    seven_by_letter letters.p_put e = tt
    seven_by_letter letters.q_need e = tt
    seven_by_letter letters.d_data e = tt
    seven_by_letter letters.s_take e = tt
    seven_by_letter letters.c_down e = tt
    seven_by_letter letters.v_back e = tt
    seven_by_letter letters.o_offer e = refl
    seven_by_letter letters.k_ok e = refl
    seven_by_letter letters.r_take e = taken_7 (rules.at B.to_controller a.place) (r_same e)
    seven_by_letter letters.x_down e = refl
    seven_by_letter letters.y_back e = refl
    seven_by_letter letters.l_lose e = tt
    seven_by_letter letters.m_lose e = tt
    seven_by_letter letters.a_ack e = tt

    seven : Lined line → AskedSame7 U known B (rules.asks B (action_of line a).letter a.place a.message)
    unfolding action_of Lined
    seven l = seven_by_letter (letter_of line) (c ∙ ap (λ (x : Line). came_for x.asks out b.sent back b.returned a.place) l)

    -- ## The numbers moved

    abbrev O : rules.Outcome Offer (List ℕ)
    O = rules.step offered.offered is_message (modes_means b o out back) (action_of line a)

    step_is : Lined line → rules.step U is_message B (action_of line a) ≡ moved_on U B O
    unfolding action_of
    step_is l =
        step_offering U is_message known B (action_of line a) (seven l)
        ∙ ap (λ (x : rules.Bench Offer (List ℕ)). moved_on U B (rules.step offered.offered is_message x (action_of line a))) (sym offered-is)

    module _ (told : Told) (out' back' : List ℕ) (e : told_as told o out' back' ≡ modes_step b o out back line a) where
      after_is : modes_moved told.after o told.console told.controller out' back' ≡ O.after
      unfolding told_as modes_step shown_of
      after_is = ap (λ (x : RulesOutcome Offer). x.after) e

      -- a number that was taken was on offer
      pub there : OfferedOne U s told.console × OfferedOne U t told.controller
      unfolding modes_moved
      there =
          let z = step_there (modes_means b o out back) refl refl is_message (action_of line a) in
          let w = subst (λ (x : rules.Bench Offer (List ℕ)). (TakenOne x.console.numbers.move → ends.absent (console.given o.j) ≡ false) × (TakenOne x.controller.numbers.move → ends.absent (controller.given o.i) ≡ false)) (sym after_is) z in
          let p = ap (λ (x : Offered). ends.absent (console.given x.j)) f ∙ ap ends.absent (given_j (U.next s)) in
          let q = ap (λ (x : Offered). ends.absent (controller.given x.i)) f ∙ ap ends.absent (given_i (U.next t)) in
          (λ h. sym p ∙ w.0 h, λ h. sym q ∙ w.1 h)

      -- what is told, with the numbers moved
      abbrev history : RulesOutcome S
      history =
          record {
            report = told.report;
            message = told.message;
            after = with_numbers told.after (moved U (move_means told.console) s) (moved U (move_means told.controller) t) out' back';
            out = out';
            back = back';
          }

      -- is the history's step
      history_is : Lined line → history ≡ shown_of (rules.step U is_message B (action_of line a))
      unfolding with_numbers told_as modes_step shown_of modes_moved moved_on
      history_is l =
          (λ i. record { report = (e i).report; message = (e i).message; after = (moved_on U B (record { report = O.report; after = (e i).after })).after; out = (e i).out; back = (e i).back })
          ∙ ap shown_of (sym (step_is l))

      -- ## What is shown, and the ack

      module _ (ack : Bool) where
        used_as : {u : Use} (l : Lined line) → u ≡ use_of line.asks
            → read_of (read u ack (rules.step U is_message B (action_of line a)).report (rules.step U is_message B (action_of line a)).after) ≡ step_with U b s t ack out back line a
        unfolding step_with read_step action_of
        used_as l h =
            let x = rules.step U is_message B (action_of line a) in
            ap (λ (u : Use). read_of (read u ack x.report x.after)) (h ∙ sym (use_by_line U B a.place a.copies a.message line l))

        pub shown_so : {u : Use} (l : Lined line) → u ≡ use_of line.asks → moved_with U s t (acked u ack told.report) told out' back' ≡ step_with U b s t ack out back line a
        unfolding moved_with
        shown_so {u} l h =
            ap (shown_with u ack) (history_is l) ∙ read_shown u ack (rules.step U is_message B (action_of line a)) ∙ used_as l h

        pub kept_so : (l : Lined line) → leaves ≡ use_of line.asks → Elsewhere line.asks → moved_with U s t (as_it_is ack told) told out' back' ≡ step_with U b s t ack out back line a
        unfolding moved_with action_of
        kept_so l h w =
            ap (kept_with ack) (history_is l)
            ∙ read_kept ack (rules.step U is_message B (action_of line a)) (step_quiet U B a.place a.copies a.message line l w)
            ∙ used_as l h

-- ## By whom is asked

-- copies above 3 are 10
pub ten_so : {S : Type 0} (U : Supply S) (b : Modes) (s t : S) (ack : Bool) (out back : List ℕ) → WellWith U b s t out back → (line : Line) (a : Action) → Lined line → (line.copies && ltb 3 a.copies) ≡ true
    → record { report = Refused TooManyCopies; message = spaces; after = reading (with_numbers b s t out back) ack; out = out; back = back } ≡ step_with U b s t ack out back line a
unfolding step_with read_of read_step said ack_after action_of Lined line_of
ten_so {S = S} U b s t ack out back k line a l many =
    let B = with_numbers b s t out back in
    let A = action_of line a in
    let flag = ap (λ (x : Line). x.copies && ltb 3 a.copies) (sym l) ∙ many in
    let x = letters.line (letter_of line) in
    let asked = rules.asks B (letter_of line) a.place a.message in
    let end = refusal (rules.end_rules U is_message B asked) in
    let ten = in_stages U is_message B (letter_of line) a.place a.copies a.message
    ∙ staged_10 (x.copies && ltb 3 a.copies) end (x.place && rules.missing (rules.takes (letter_of line)) B a.place) (x.copies && rules.no_room U B a.copies asked) flag in
    (λ i. record { report = Refused TooManyCopies; message = spaces; after = reading B ack; out = k.out_holds i; back = k.back_holds i })
    ∙ ap (λ (o : rules.Outcome S (List ℕ)). read_of (read (use_by asked) ack o.report o.after)) (sym (step_refuses U is_message B A 10 ten (λ y. omega (arith, y))))

pub few_so : (line : Line) (a : Action) {many : Bool} → Lined line → many ≡ (line.copies && ltb 3 a.copies) → many ≡ false → Few line a
few_so line a l p f = record { lined = l; few = sym p ∙ f }

module _ {S : Type 0} {U : Supply S} (offering : Offering U) (b : Modes) (s t : S) (ack : Bool) (out back : List ℕ) (k : WellWith U b s t out back) (line : Line) (a : Action) (n : Few line a) where
  -- a number that was taken was on offer
  abbrev There : Told → Type 0
  There told = OfferedOne U s told.console × OfferedOne U t told.controller

  abbrev By : Shown → Told → List ℕ → List ℕ → Type 0
  By shown told out' back' = moved_with U s t shown told out' back' ≡ step_with U b s t ack out back line a

  module _ {o : Offered} (came : Came) (f : o ≡ offered_by U s t came.controller) where
    -- what came by what is asked is what came for the line
    abbrev came_by : Asks → Came
    came_by x = came_for x out b.sent back b.returned a.place

    line_came : {x : Asks} → line.asks ≡ x → came ≡ came_by x → came ≡ came_by line.asks
    line_came h c = c ∙ ap came_by (sym h)

    module _ {ask : ConsoleAsk} (h : line.asks ≡ asks.Console ask) (c : (q : List ℕ) (m : ℕ) → came ≡ came_for (asks.Console ask) q m back b.returned a.place) where
      abbrev c_came : came ≡ came_by line.asks
      c_came = line_came h (c out b.sent)

      pub on_console : OnConsole b o out back line a ask came
      on_console = asked_console b o out back a (known_modes offering b s t out back k) line came n (arrived_so offering b s t out back k line a came c_came f) h

      module _ (told : Told) (out' back' : List ℕ) (e : told_as told o out' back' ≡ modes_step b o out back line a) where
        pub console_there : There told
        console_there = there offering b s t out back k line a came c_came f told out' back' e

        pub console_by : {u : AckUse} → u ≡ ack_use ask → By (acked (use_means u) ack told.report) told out' back'
        console_by v = shown_so offering b s t out back k line a came c_came f told out' back' e ack n.lined (ap use_means v ∙ ap use_of (sym h))

        -- a refusal is shown as it is
        pub console_refused_by : {q : Refusal} → told.report ≡ Refused q → By (as_it_is ack told) told out' back'
        unfolding acked said ack_after
        console_refused_by {q} refuses =
            ap (λ (x : Shown). moved_with U s t x told out' back')
            ((λ i. record { report = refuses i; ack = ack })
            ∙ (λ i. record { report = Refused (sym (refusal_of-number_of q) i); ack = ack })
            ∙ sym (ap (acked (use_means (ack_use ask)) ack) refuses))
            ∙ console_by refl

    module _ {ask : ControllerAsk} (h : line.asks ≡ asks.Controller ask) (c : (q : List ℕ) (m : ℕ) → came ≡ came_for (asks.Controller ask) out b.sent q m a.place) where
      abbrev d_came : came ≡ came_by line.asks
      d_came = line_came h (c back b.returned)

      pub on_controller : OnController b o out back line a ask came
      on_controller = asked_controller b o out back a (known_modes offering b s t out back k) line came n (arrived_so offering b s t out back k line a came d_came f) h

      module _ (told : Told) (out' back' : List ℕ) (e : told_as told o out' back' ≡ modes_step b o out back line a) where
        pub controller_there : There told
        controller_there = there offering b s t out back k line a came d_came f told out' back' e

        pub controller_by : By (as_it_is ack told) told out' back'
        controller_by = kept_so offering b s t out back k line a came d_came f told out' back' e ack n.lined (ap use_of (sym h)) (subst Elsewhere (sym h) tt)

  -- no end is asked, and nothing came
  module _ {o : Offered} (h : line.asks ≡ asks.NoEnd) (f : o ≡ offered_by U s t None) where
    abbrev e_came : nothing_came ≡ came_for line.asks out b.sent back b.returned a.place
    e_came = line_came nothing_came f h refl

    pub on_losing : OnLosing b o out back line a
    on_losing = asked_no_end b o out back a (known_modes offering b s t out back k) line nothing_came n (arrived_so offering b s t out back k line a nothing_came e_came f) h

    module _ (told : Told) (out' back' : List ℕ) (e : told_as told o out' back' ≡ modes_step b o out back line a) where
      pub losing_there : There told
      losing_there = there offering b s t out back k line a nothing_came e_came f told out' back' e

      pub losing_by : By (as_it_is ack told) told out' back'
      losing_by = kept_so offering b s t out back k line a nothing_came e_came f told out' back' e ack n.lined (ap use_of (sym h)) (subst Elsewhere (sym h) tt)
