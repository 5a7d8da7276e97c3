-- Demand 3 of two boxes over any radio, for every lawful supply of numbers, any two starting records and any list of what may happen: the same judge
-- accepts the log, by the same invariant. Assumes nothing.
use Prim.Native.Nat.{ℕ, suc}
use mathlib.Core.Path.{◌≡◌, refl, sym, ap, ap₂, subst, ◌∙◌}
use mathlib.Core.Logic.{◌⊎◌, inl, inr}
use mathlib.Core.Bool.{Bool, true, false}
use mathlib.Core.Option
use mathlib.Core.Option.{Option, none}
use mathlib.Core.List.{List, [], ◌∷◌, ◌++◌, map, append-nil}
use lib.Dec.{eqb}
use Rattle.ground.specs.First.{refusal}
use Rattle.ground.proofs.Tests.{by_test}
use Rattle.rules.specs.Supply.{Supply, Lawful}
use Rattle.rules.specs.Letters.{Letter, c_down, x_down, ConsoleAsk, to_put, to_send_need_i, to_send_data, to_tell_ack, ControllerAsk, to_send_offer, to_send_ok, Asks, the_console, the_controller, neither_end, line}
use Rattle.rules.specs.Ends.{End, Console, Controller, ConsoleMode, ControllerMode, ToController, ToConsole, ConsoleAct, ControllerAct, put, send_need_i, send_data, tell_ack, send_offer, send_ok}
use Rattle.rules.specs.Ends.{Acted, Report, nothing, delivered, answered_ok, answered_lost, refused, ConsoleActed, ControllerActed, console_rules, controller_rules, console_step, controller_step, ends}
use Rattle.rules.specs.Bench.{Bench, Action, action, Outcome, Asked, console, controller, no_end, copies_of, asked_to, asks, end_rules, fresh}
use Rattle.rules.specs.Relabel.{in_packet, in_bench, in_action, in_report, in_outcome}
use Rattle.rules.specs.Bears.{Any}
use Rattle.rules.specs.WellFormed.{Used}
use Rattle.rules.specs.Log.{Labelled, labelled, Event, ConsoleDown, ControllerDown, Log, put_count}
use Rattle.rules.specs.Judge.{judge}
use Rattle.rules.specs.Plain.{Plain}
use Rattle.rules.specs.Demand3.{row, held_label, write, written, unnumbered, shown}
use Rattle.rules.specs.Radio.{Link, Happening, acts, kept_and_cut, cut, downed, aired, keeps, goes_on, fails, Came, asked, happens, start, in_happening, fall_of, labelled_happens, row_left, rows_left, shown_of, rows_shown, radio_log, RadioRight}
use Rattle.rules.proofs.Lists.{all_map, if_holds}
use Rattle.rules.proofs.Numbers.{BorneByAll, used_tracked}
use Rattle.rules.proofs.Bears.{console_grows, controller_grows}
use Rattle.rules.proofs.BenchBears.{BenchBears, Handed, asks_handed, does_bears, weaken_to_controller, weaken_to_console, weaken_console, weaken_controller, unchanged}
use Rattle.rules.proofs.Relabel.{in_asked, nat_asks, nat_console_step, nat_controller_step, map_append, map_copies}
use Rattle.rules.proofs.Judge.{Accepted, accepted_right, counted_puts}
use Rattle.rules.proofs.Invariant.{Inv}
use Rattle.rules.proofs.RunAccepted.{Kept, write_accepted, judge_write, fresh_kept}
use Rattle.rules.proofs.Plain.{right_plain}
use Rattle.rules.proofs.Demand3.{bare, row_shown}
use Rattle.rules.proofs.Said.{NoAnswer, controller_no_answer}
use Rattle.rules.proofs.RadioSteps.{aired_is, aired_keeps}

-- ## A step of one end keeps what holds between two steps

module _ {S M : Type 0} (U : Supply S) (laws : Lawful S U) where
  abbrev Bears : Bench S M → Type 0
  Bears z = BenchBears Any Any (Used U) (Used U) (Used U) (Used U) Any z

  abbrev Stands : Bench S M → Type 0
  Stands b = BorneByAll (Used U b.console.numbers) (Used U b.controller.numbers) b

  -- every number that stands somewhere is used; a refused step adds nothing
  aired_bears : (good : M → Bool) (b : Bench S M) (x : Asked M) → Bears b → Handed Any Any (Used U) (Used U) (Used U) (Used U) Any b.console.numbers b.controller.numbers x
      → Bears (aired U good b x).after
  aired_bears good b x h u =
      rw (aired_is U good b x)
      (if_holds (λ (o : Outcome S M). Bears o.after) (eqb (refusal (end_rules U good b x)) 0) _ _
      (λ e. does_bears Any Any (Used U) (Used U) (Used U) (Used U) Any U (used_tracked U laws) (used_tracked U laws) b 1 x h u) (λ e. h))

  aired_stands : (good : M → Bool) (b : Bench S M) (l : Letter) (x : ℕ) (m : M) → Stands b → Stands (aired U good b (asks b l x m)).after
  aired_stands good b l x m h =
      let all : Bears b = record { console_sound = tt; console = h.console; controller_sound = tt; controller = h.controller; to_controller_all = h.to_controller_all; to_console_all = h.to_console_all } in
      let d = aired_bears good b (asks b l x m) all (asks_handed Any Any (Used U) (Used U) (Used U) (Used U) Any b l x m all (λ e. tt)) in
      record { console = d.console; controller = d.controller; to_controller_all = d.to_controller_all; to_console_all = d.to_console_all }

-- the cells of an order are tested, its number is not
abbrev pub fit : {M : Type 0} → (M → Bool) → Labelled M → Bool
fit good m = good m.cells

module _ {S M : Type 0} (U : Supply S) (laws : Lawful S U) (good : M → Bool) where
  abbrev Holds : Log M → Bench S (Labelled M) → Type 1
  Holds past b = Kept U laws good past b

  -- the row and the bench after a step, by its action
  abbrev stepped : Log M → Bench S (Labelled M) → Action M → Outcome S (Labelled M)
  stepped past b a = aired U (fit good) b (asks b a.letter a.place (labelled (suc (put_count past)) a.message))

  abbrev row_by : Log M → Bench S (Labelled M) → Action M → Option (Event M)
  row_by past b a = row (suc (put_count past)) (held_label b.console.mode) a (stepped past b a).report

  step_holds : (past : Log M) (b : Bench S (Labelled M)) (a : Action M) → Holds past b → Holds (write (row_by past b a) past) (stepped past b a).after
  step_holds past b a h =
      let n = suc (put_count past) in
      let numbered = ap suc (sym (counted_puts past h.accepted)) in
      let g = aired_keeps U laws b (judge past) h.inv h.known n a.place a.message (fit good) numbered a.letter a.copies in
      let o = row_by past b a in
      record {
        accepted = write_accepted past o h.accepted g.allowed;
        inv = subst (λ w. Inv S M (stepped past b a).after w) (judge_write past o) g.inv;
        known = aired_stands U laws (fit good) b a.letter a.place (labelled n a.message) h.known;
      }

-- ## A downed end's mode does not matter: what a power cut leaves of an end acts as the end that went down with all it had

-- e is what the end g is, or g is down and e is what a cut leaves of it
abbrev pub Alike : {S Mode : Type 0} → Mode → End S Mode → End S Mode → Type 0
Alike idle g e = (g ≡ e) ⊎ ((g.up ≡ false) × (e ≡ downed g.numbers idle))

-- what holds of an end and itself, and of a downed end and what a cut leaves of it
alike_either : {S Mode : Type 0} (idle : Mode) (P : End S Mode → End S Mode → Type 0) → ((e : End S Mode) → P e e) → ((s : S) (k : Mode) → P (downed s k) (downed s idle))
    → (g e : End S Mode) → Alike idle g e → P g e
alike_either idle P same fallen g e (inl p) = subst (P g) p (same g)
alike_either idle P same fallen g e (inr (u, q)) =
    let down : g ≡ downed g.numbers g.mode = λ i. record { numbers = g.numbers; mode = g.mode; up = u i } in
    subst (P g) (sym q) (subst (λ z. P z (downed g.numbers idle)) (sym down) (fallen g.numbers g.mode))

alike_numbers : {S Mode : Type 0} (idle : Mode) (g e : End S Mode) → Alike idle g e → e.numbers ≡ g.numbers
alike_numbers idle g e h = alike_either idle (λ g e. e.numbers ≡ g.numbers) (λ e. refl) (λ s k. refl) g e h

-- a report that is no answer: the row that it leaves does not depend on the order that is held
row_held : {M : Type 0} (n x y : ℕ) (a : Action M) (r : Report (Labelled M)) → NoAnswer r → row n x a r ≡ row n y a r
row_held n x y a nothing h = refl
row_held n x y a (delivered m) h = refl
row_held n x y a answered_ok h = absurd h
row_held n x y a answered_lost h = absurd h
row_held n x y a (refused k) h = refl

-- the same step of both: the same report, the same packet, and ends that are alike
pub record SameStep {S M Mode Packet : Type 0} (idle : Mode) (x y : Acted S M Mode Packet) : Type 0 where
  pub report : x.report ≡ y.report
  pub sent : x.sent ≡ y.sent
  pub after : Alike idle x.after y.after

-- an end with itself; and where a downed end reports r and stays as it is
same_self : {S M Mode Packet : Type 0} (idle : Mode) (x : Acted S M Mode Packet) → SameStep idle x x
same_self idle x = record { report = refl; sent = refl; after = inl refl }

same_down : {S M Mode Packet : Type 0} (idle : Mode) (s : S) (k : Mode) (r : Report M)
    → SameStep {Packet = Packet} idle (record { report = r; sent = none; after = downed s k }) (record { report = r; sent = none; after = downed s idle })
same_down idle s k r = record { report = refl; sent = refl; after = inr (refl, refl) }

module _ {S M : Type 0} (U : Supply S) (good : M → Bool) where
  abbrev ConsoleSame : Console S M → Console S M → ConsoleAct M → Type 0
  ConsoleSame g e act =
      SameStep ConsoleMode.idle (console_step U good g act) (console_step U good e act) × ((g ≡ e) ⊎ NoAnswer (console_step U good g act).report)

  down_console : (s : S) (k : ConsoleMode M) (act : ConsoleAct M) → ConsoleSame (downed s k) (downed s ConsoleMode.idle) act
  unfolding ends
  down_console s k (put m) =
      by_test (good m) (λ t. rw t (same_down _ s k _, inr tt)) (λ f. rw f (same_down _ s k _, inr tt))
  down_console s k send_need_i = (same_down _ s k _, inr tt)
  down_console s k send_data = (same_down _ s k _, inr tt)
  down_console s k (ConsoleAct.take p) = (same_down _ s k _, inr tt)
  down_console s k ConsoleAct.go_down = (same_down _ s k _, inr tt)
  down_console s k ConsoleAct.come_back = (same_self _ _, inr tt)
  down_console s k tell_ack = (same_down _ s k _, inr tt)

  console_same : (g e : Console S M) (act : ConsoleAct M) → Alike ConsoleMode.idle g e → ConsoleSame g e act
  console_same g e act h =
      alike_either ConsoleMode.idle (λ g e. ConsoleSame g e act) (λ e. (same_self _ _, inl refl)) (λ s k. down_console s k act) g e h

  abbrev ControllerSame : Controller S → Controller S → ControllerAct M → Type 0
  ControllerSame g e act = SameStep ControllerMode.idle (controller_step U g act) (controller_step U e act)

  down_controller : (s : S) (k : ControllerMode) (act : ControllerAct M) → ControllerSame (downed s k) (downed s ControllerMode.idle) act
  unfolding ends
  down_controller s k send_offer = same_down _ s k _
  down_controller s k send_ok = same_down _ s k _
  down_controller s k (ControllerAct.take p) = same_down _ s k _
  down_controller s k ControllerAct.go_down = same_down _ s k _
  down_controller s k ControllerAct.come_back = same_self _ _

  controller_same : (g e : Controller S) (act : ControllerAct M) → Alike ControllerMode.idle g e → ControllerSame g e act
  controller_same g e act h =
      alike_either ControllerMode.idle (λ g e. ControllerSame g e act) (λ e. same_self _ _) (λ s k. down_controller s k act) g e h

-- ## The link follows a bench in which a downed end still has all it had

module _ {S M : Type 0} where
  -- these two ends in place of the link's, with what is on the radio
  abbrev ghost : Console S M → Controller S → Bench S M → Bench S M
  ghost c r b = record { console = c; controller = r; to_controller = b.to_controller; to_console = b.to_console }

  same_asked : (x : Asks) (c : Console S M) (r : Controller S) (b : Bench S M) (k : ℕ) (m : M) → asked_to x (ghost c r b) k m ≡ asked_to x b k m
  same_asked (the_console to_put) c r b k m = refl
  same_asked (the_console to_send_need_i) c r b k m = refl
  same_asked (the_console to_send_data) c r b k m = refl
  same_asked (the_console ConsoleAsk.to_take) c r b k m = refl
  same_asked (the_console ConsoleAsk.to_go_down) c r b k m = refl
  same_asked (the_console ConsoleAsk.to_come_back) c r b k m = refl
  same_asked (the_console to_tell_ack) c r b k m = refl
  same_asked (the_controller to_send_offer) c r b k m = refl
  same_asked (the_controller to_send_ok) c r b k m = refl
  same_asked (the_controller ControllerAsk.to_take) c r b k m = refl
  same_asked (the_controller ControllerAsk.to_go_down) c r b k m = refl
  same_asked (the_controller ControllerAsk.to_come_back) c r b k m = refl
  same_asked neither_end c r b k m = refl

  same_asks : (c : Console S M) (r : Controller S) (b : Bench S M) (l : Letter) (k : ℕ) (m : M) → asks (ghost c r b) l k m ≡ asks b l k m
  unfolding asks
  same_asks c r b l k m = same_asked (line l).asks c r b k m

module _ {S M : Type 0} (U : Supply S) (laws : Lawful S U) (good : M → Bool) where
  -- no number is taken back by a step
  console_step_grows : (e : Console S (Labelled M)) (act : ConsoleAct (Labelled M)) (k : ℕ) → Used U e.numbers k → Used U (console_step U (fit good) e act).after.numbers k
  unfolding console_step
  console_step_grows e act k u =
      if_holds (λ (d : ConsoleActed S (Labelled M)). Used U d.after.numbers k) (eqb (refusal (console_rules U (fit good) e act)) 0) _ _
      (λ p. console_grows U Any (Used U) (Used U) (used_tracked U laws) e act k u) (λ p. u)

  controller_step_grows : (e : Controller S) (act : ControllerAct (Labelled M)) (k : ℕ) → Used U e.numbers k → Used U (controller_step U e act).after.numbers k
  unfolding controller_step
  controller_step_grows e act k u =
      if_holds (λ (d : ControllerActed S (Labelled M)). Used U d.after.numbers k) (eqb (refusal (controller_rules U e act)) 0) _ _
      (λ p. controller_grows U Any (Used U) (Used U) (used_tracked U laws) e act k u) (λ p. u)

  -- numbers of which none is taken back
  abbrev More : S → S → Type 0
  More s s' = (k : ℕ) → Used U s k → Used U s' k

  -- every number that an end has used, its kept record has used too
  pub record Follows (past : Log M) (l : Link S (Labelled M)) : Type 1 where
    pub ghost_console : Console S (Labelled M)
    pub ghost_controller : Controller S
    pub holds : Kept U laws good past (ghost ghost_console ghost_controller l.bench)
    pub console : Alike ConsoleMode.idle ghost_console l.bench.console
    pub controller : Alike ControllerMode.idle ghost_controller l.bench.controller
    pub console_kept : More ghost_console.numbers l.console_kept
    pub controller_kept : More ghost_controller.numbers l.controller_kept

  module _ (past : Log M) (l : Link S (Labelled M)) (f : Follows past l) (a : Action M) where
    abbrev n : ℕ
    n = suc (put_count past)

    abbrev c : Console S (Labelled M)
    c = f.ghost_console

    abbrev r : Controller S
    r = f.ghost_controller

    abbrev g : Bench S (Labelled M)
    g = ghost c r l.bench

    -- what the bench that is followed leaves, by what the link is asked
    followed : (x : Asked (Labelled M)) → asks l.bench a.letter a.place (labelled n a.message) ≡ x
        → Kept U laws good (write (row n (held_label c.mode) a (aired U (fit good) g x).report) past) (aired U (fit good) g x).after
    followed x e =
        subst (λ (y : Asked (Labelled M)). Kept U laws good (write (row n (held_label c.mode) a (aired U (fit good) g y).report) past) (aired U (fit good) g y).after)
        (same_asks c r l.bench a.letter a.place (labelled n a.message) ∙ e) (step_holds U laws good past g a f.holds)

    abbrev After : Asked (Labelled M) → Type 1
    After x =
        let o = aired U (fit good) l.bench x in
        Follows (write (row n (held_label l.bench.console.mode) a o.report) past) (goes_on o.after (keeps U x o.after l))

    -- the row is the same where the console is, or where nothing is answered
    row_same : (x : Report (Labelled M)) → (c ≡ l.bench.console) ⊎ NoAnswer x → row n (held_label c.mode) a x ≡ row n (held_label l.bench.console.mode) a x
    row_same x (inl p) = ap (λ (z : Console S (Labelled M)). row n (held_label z.mode) a x) p
    row_same x (inr h) = row_held n (held_label c.mode) (held_label l.bench.console.mode) a x h

    -- what is kept has used all that the end has
    kept_so : {s s' : S} → s ≡ s' → More s' (U.back s)
    kept_so {s} e k u = laws.back_keeps s k (subst (λ z. Used U z k) (sym e) u)

    -- a step that goes through
    goes_through : (x : Asked (Labelled M)) → asks l.bench a.letter a.place (labelled n a.message) ≡ x → After x
    unfolding aired keeps
    goes_through (console act) e =
        let e' = l.bench.console in
        let same = console_same U (fit good) c e' act f.console in
        let d = console_step U (fit good) c act in
        let d' = console_step U (fit good) e' act in
        let left : Option (ToController (Labelled M)) → Bench S (Labelled M) = λ p. record { console = d.after; controller = r; to_controller = l.bench.to_controller ++ copies_of 1 p; to_console = l.bench.to_console } in
        record {
          ghost_console = d.after;
          ghost_controller = r;
          holds =
              subst (λ (z : Option (Event M)). Kept U laws good (write z past) (left d'.sent))
              (row_same d.report same.1 ∙ ap (row n (held_label e'.mode) a) same.0.report)
              (subst (λ (p : Option (ToController (Labelled M))). Kept U laws good (write (row n (held_label c.mode) a d.report) past) (left p)) same.0.sent (followed (console act) e));
          console = same.0.after;
          controller = f.controller;
          console_kept = kept_so (alike_numbers ConsoleMode.idle d.after d'.after same.0.after);
          controller_kept = f.controller_kept;
        }
    goes_through (controller act) e =
        let e' = l.bench.controller in
        let same = controller_same U (fit good) r e' act f.controller in
        let d = controller_step U r act in
        let d' = controller_step U e' act in
        let left : Option ToConsole → Bench S (Labelled M) = λ p. record { console = c; controller = d.after; to_controller = l.bench.to_controller; to_console = l.bench.to_console ++ copies_of 1 p } in
        record {
          ghost_console = c;
          ghost_controller = d.after;
          holds =
              subst (λ (z : Option (Event M)). Kept U laws good (write z past) (left d'.sent))
              (row_same d.report (inr (controller_no_answer U r act)) ∙ ap (row n (held_label l.bench.console.mode) a) same.report)
              (subst (λ (p : Option ToConsole). Kept U laws good (write (row n (held_label c.mode) a d.report) past) (left p)) same.sent (followed (controller act) e));
          console = f.console;
          controller = same.after;
          console_kept = f.console_kept;
          controller_kept = kept_so (alike_numbers ControllerMode.idle d.after d'.after same.after);
        }
    goes_through no_end e =
        record {
          ghost_console = c;
          ghost_controller = r;
          holds = subst (λ (z : Option (Event M)). Kept U laws good (write z past) g) (row_same nothing (inr tt)) (followed no_end e);
          console = f.console;
          controller = f.controller;
          console_kept = f.console_kept;
          controller_kept = f.controller_kept;
        }

    -- ## A power cut: the end that is followed goes down with all it has, and with the numbers of its kept record

    with_numbers_lem : (j i : S) → More c.numbers j → More r.numbers i
        → Kept U laws good past (ghost (record { numbers = j; mode = c.mode; up = c.up }) (record { numbers = i; mode = r.mode; up = r.up }) l.bench)
    with_numbers_lem j i f' g' =
        let h = f.holds in
        let F = Used U j in
        let G = Used U i in
        record {
          accepted = h.accepted;
          inv =
              record {
                on = h.inv.on;
                core = h.inv.core;
                ready_ups = h.inv.ready_ups;
                ready_downs = h.inv.ready_downs;
                ups = h.inv.ups;
                downs = h.inv.downs;
                console = h.inv.console;
                controller = h.inv.controller;
                held = h.inv.held;
              };
          known =
              record {
                console = weaken_console _ F _ G f' g' Any c.mode h.known.console;
                controller = weaken_controller _ F _ G f' g' r.mode h.known.controller;
                to_controller_all = all_map _ _ (weaken_to_controller _ F _ G f' g' Any) l.bench.to_controller h.known.to_controller_all;
                to_console_all = all_map _ _ (weaken_to_console _ F _ G f' g') l.bench.to_console h.known.to_console_all;
              };
        }

    -- by the end whose power is cut, and the numbers of its record
    console_cut : (s : S) → More c.numbers s
        → Follows (ConsoleDown ∷ past) (record { bench = ghost (downed s ConsoleMode.idle) l.bench.controller l.bench; console_kept = s; controller_kept = l.controller_kept })
    unfolding aired asks ends copies_of
    console_cut s more =
        record {
          ghost_console = downed s c.mode;
          ghost_controller = r;
          holds =
              subst (λ (p : List (ToController (Labelled M))). Kept U laws good (ConsoleDown ∷ past) (record { console = downed s c.mode; controller = r; to_controller = p; to_console = l.bench.to_console }))
              (append-nil l.bench.to_controller)
              (step_holds U laws good past _ (action c_down 0 0 a.message) (with_numbers_lem s r.numbers more (unchanged (Used U r.numbers))));
          console = inr (refl, refl);
          controller = f.controller;
          console_kept = unchanged (Used U s);
          controller_kept = f.controller_kept;
        }

    controller_cut : (s : S) → More r.numbers s
        → Follows (ControllerDown ∷ past) (record { bench = ghost l.bench.console (downed s ControllerMode.idle) l.bench; console_kept = l.console_kept; controller_kept = s })
    unfolding aired asks ends copies_of
    controller_cut s more =
        record {
          ghost_console = c;
          ghost_controller = downed s r.mode;
          holds =
              subst (λ (p : List ToConsole). Kept U laws good (ControllerDown ∷ past) (record { console = c; controller = downed s r.mode; to_controller = l.bench.to_controller; to_console = p }))
              (append-nil l.bench.to_console)
              (step_holds U laws good past _ (action x_down 0 0 a.message) (with_numbers_lem c.numbers s (unchanged (Used U c.numbers)) more));
          console = f.console;
          controller = inr (refl, refl);
          console_kept = f.console_kept;
          controller_kept = unchanged (Used U s);
        }

    abbrev Cut : Asked (Labelled M) → Link S (Labelled M) → Type 1
    Cut x k = Follows (write (fall_of x) past) (fails x k)

    -- before the record was kept
    cut_unkept : (x : Asked (Labelled M)) → Cut x l
    unfolding fails
    cut_unkept (console act) = console_cut l.console_kept f.console_kept
    cut_unkept (controller act) = controller_cut l.controller_kept f.controller_kept
    cut_unkept no_end = f

    -- after it was kept
    cut_kept : (x : Asked (Labelled M)) → Cut x (keeps U x (aired U (fit good) l.bench x).after l)
    unfolding fails keeps aired
    cut_kept (console act) =
        console_cut _ (λ k u. laws.back_keeps _ k (console_step_grows l.bench.console act k (subst (λ z. Used U z k) (sym (alike_numbers ConsoleMode.idle c l.bench.console f.console)) u)))
    cut_kept (controller act) =
        controller_cut _ (λ k u. laws.back_keeps _ k (controller_step_grows l.bench.controller act k (subst (λ z. Used U z k) (sym (alike_numbers ControllerMode.idle r l.bench.controller f.controller)) u)))
    cut_kept no_end = f

  -- ## Whatever happens

  pub happening_follows : (past : Log M) (l : Link S (Labelled M)) (h : Happening M) → Follows past l
      → let k = suc (put_count past) in Follows (write (row_left U good k l h) past) (labelled_happens U good k l h).after
  unfolding happens
  happening_follows past l (acts a) f = goes_through past l f a (asked l (in_action (labelled (suc (put_count past))) a)) refl
  happening_follows past l (kept_and_cut a) f = cut_kept past l f a (asked l (in_action (labelled (suc (put_count past))) a))
  happening_follows past l (cut a) f = cut_unkept past l f a (asked l (in_action (labelled (suc (put_count past))) a))

  all_accepted : (past : Log M) (l : Link S (Labelled M)) (hs : List (Happening M)) → Follows past l → Accepted (written (rows_left U good past l hs) past)
  unfolding rows_left written
  all_accepted past l [] f = f.holds.accepted
  all_accepted past l (h ∷ hs) f =
      let k = suc (put_count past) in
      all_accepted (write (row_left U good k l h) past) (labelled_happens U good k l h).after hs (happening_follows past l h f)

  pub start_follows : (j i : S) → Follows [] (start j i)
  unfolding fresh
  start_follows j i =
      record {
        ghost_console = record { numbers = j; mode = ConsoleMode.idle; up = true };
        ghost_controller = record { numbers = i; mode = ControllerMode.idle; up = true };
        holds = fresh_kept U laws good j i;
        console = inl refl;
        controller = inl refl;
        console_kept = unchanged (Used U j);
        controller_kept = unchanged (Used U i);
      }

-- ## The numbers taken off

module _ {M N : Type 0} (f : M → N) where
  abbrev pub in_link : {S : Type 0} → Link S M → Link S N
  in_link l = record { bench = in_bench f l.bench; console_kept = l.console_kept; controller_kept = l.controller_kept }

  abbrev pub in_came : {S : Type 0} → Came S M → Came S N
  in_came d = record { report = in_report f d.report; after = in_link d.after }

  module _ {S : Type 0} (U : Supply S) (good : M → Bool) (good' : N → Bool) (same : (m : M) → good' (f m) ≡ good m) where
    nat_aired : (b : Bench S M) (x : Asked M) → aired U good' (in_bench f b) (in_asked f x) ≡ in_outcome f (aired U good b x)
    unfolding aired
    nat_aired b (console act) = simp (nat_console_step f U good good' same, map_append (in_packet f), ← map_copies (in_packet f))
    nat_aired b (controller act) = simp (nat_controller_step f U)
    nat_aired b no_end = refl

    nat_keeps : (x : Asked M) (b : Bench S M) (l : Link S M) → keeps U (in_asked f x) (in_bench f b) (in_link l) ≡ in_link (keeps U x b l)
    unfolding keeps
    nat_keeps (console act) b l = refl
    nat_keeps (controller act) b l = refl
    nat_keeps no_end b l = refl

    nat_fails : (x : Asked M) (l : Link S M) → fails (in_asked f x) (in_link l) ≡ in_link (fails x l)
    unfolding fails
    nat_fails (console act) l = refl
    nat_fails (controller act) l = refl
    nat_fails no_end l = refl

    nat_happens : (l : Link S M) (h : Happening M) → happens U good' (in_link l) (in_happening f h) ≡ in_came (happens U good l h)
    unfolding happens
    nat_happens l (acts a) = rw (nat_asks f U l.bench a.letter a.place a.message, nat_aired, nat_keeps) refl
    nat_happens l (kept_and_cut a) = rw (nat_asks f U l.bench a.letter a.place a.message, nat_aired, nat_keeps, nat_fails) refl
    nat_happens l (cut a) = rw (nat_asks f U l.bench a.letter a.place a.message, nat_fails) refl

module _ {S M : Type 0} (U : Supply S) (good : M → Bool) where
  -- one happening: what the boxes do is the labelled step with the numbers taken off
  pub bare_happens : (n : ℕ) (l : Link S (Labelled M)) (h : Happening M) → happens U good (in_link bare l) h ≡ in_came bare (labelled_happens U good n l h)
  bare_happens n l (acts a) = nat_happens bare U (λ m. good m.cells) good (λ m. refl) l (acts (in_action (labelled n) a))
  bare_happens n l (kept_and_cut a) = nat_happens bare U (λ m. good m.cells) good (λ m. refl) l (kept_and_cut (in_action (labelled n) a))
  bare_happens n l (cut a) = nat_happens bare U (λ m. good m.cells) good (λ m. refl) l (cut (in_action (labelled n) a))

  fall_shown : (x : Asked (Labelled M)) → Option.map unnumbered (fall_of {M = M} x) ≡ fall_of (in_asked bare x)
  fall_shown (console act) = refl
  fall_shown (controller act) = refl
  fall_shown no_end = refl

  pub fallen_shown : (n : ℕ) (l : Link S (Labelled M)) (a : Action M) → Option.map unnumbered (fall_of {M = M} (asked l (in_action (labelled n) a))) ≡ fall_of (asked (in_link bare l) a)
  fallen_shown n l a = fall_shown (asked l (in_action (labelled n) a)) ∙ ap (λ (x : Asked M). fall_of x) (sym (nat_asks bare U l.bench a.letter a.place (labelled n a.message)))

  left_shown : (n : ℕ) (l : Link S (Labelled M)) (h : Happening M) → Option.map unnumbered (row_left U good n l h) ≡ shown_of U good (in_link bare l) h
  left_shown n l (acts a) =
      row_shown n (held_label l.bench.console.mode) a (labelled_happens U good n l (acts a)).report
      ∙ ap (λ (d : Came S M). shown a d.report) (sym (bare_happens n l (acts a)))
  left_shown n l (kept_and_cut a) = fallen_shown n l a
  left_shown n l (cut a) = fallen_shown n l a

  all_left_shown : (past : Log M) (l : Link S (Labelled M)) (hs : List (Happening M)) → map (Option.map unnumbered) (rows_left U good past l hs) ≡ rows_shown U good (in_link bare l) hs
  unfolding rows_left rows_shown
  all_left_shown past l [] = refl
  all_left_shown past l (h ∷ hs) =
      let n = suc (put_count past) in
      ap₂ (λ x y. x ∷ y) (left_shown n l h) (all_left_shown (write (row_left U good n l h) past) (labelled_happens U good n l h).after hs)
      ∙ ap (λ (d : Came S M). shown_of U good (in_link bare l) h ∷ rows_shown U good d.after hs) (sym (bare_happens n l h))

-- ## The theorem

module _ {S M : Type 0} (U : Supply S) (good : M → Bool) (laws : Lawful S U) (j i : S) (hs : List (Happening M)) where
  pub radio_right : RadioRight U good j i hs
  unfolding fresh
  radio_right =
      record {
        right = accepted_right (radio_log U good j i hs) (all_accepted U laws good [] (start j i) hs (start_follows U laws good j i));
        own = all_left_shown U good [] (start j i) hs;
      }

  -- in plain words
  pub radio_plain : Plain (radio_log U good j i hs)
  radio_plain = right_plain (radio_log U good j i hs) radio_right.right
