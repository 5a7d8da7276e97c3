-- Whatever happens over the radio, both ends stay well formed, what is sent can be written as packets, and the kept records are sound. Assumes nothing.
use Prim.Native.Nat.{ℕ}
use mathlib.Core.Path.{◌≡◌}
use mathlib.Core.Bool.{Bool, true}
use lib.Dec.{eqb}
use borrow.Author.Tests.{eqb-true}
use Rattle.ground.specs.First.{refusal}
use Rattle.rules.specs.Supply.{Supply, Lawful}
use Rattle.rules.specs.Letters.{Letter, ConsoleAsk, to_put, to_send_need_i, to_send_data, to_tell_ack, ControllerAsk, to_send_offer, to_send_ok, Asks, the_console, the_controller, neither_end, line}
use Rattle.rules.specs.Ends.{Console, Controller, ConsoleAct, ControllerAct, ConsoleActed, ControllerActed, console_rules, controller_rules, console_step, controller_step}
use Rattle.rules.specs.Bench.{Bench, Asked, console, controller, no_end, copies_of, asked_to, asks, fresh}
use Rattle.rules.specs.Lists.{All, Opt}
use Rattle.rules.specs.WellFormed.{ConsoleHandedOk, ControllerHandedOk, ConsoleOk, ControllerOk, ToControllerOk, ToConsoleOk}
use Rattle.rules.specs.Radio.{Link, Happening, acts, kept_and_cut, cut, aired, keeps, fails, asked, happens, start}
use Rattle.rules.proofs.Lists.{all_append, all_copies, all_at, if_holds}
use Rattle.rules.proofs.WellFormed.{console_acts_ok, controller_acts_ok}

module _ {S M : Type 0} (U : Supply S) (good : M → Bool) where
  pub record LinkOk (l : Link S M) : Type 0 where
    pub console : ConsoleOk U good l.bench.console
    pub controller : ControllerOk U l.bench.controller
    pub ups : All (ToControllerOk U good) l.bench.to_controller
    pub downs : All (ToConsoleOk U) l.bench.to_console
    pub console_kept : U.sound l.console_kept ≡ true
    pub controller_kept : U.sound l.controller_kept ≡ true

  -- ## What an end is handed

  abbrev HandedOk : Asked M → Type 0
  HandedOk (console act) = ConsoleHandedOk U act
  HandedOk (controller act) = ControllerHandedOk U good act
  HandedOk no_end = Unit {0}

  asked_ok : (x : Asks) (b : Bench S M) (k : ℕ) (m : M) → All (ToControllerOk U good) b.to_controller → All (ToConsoleOk U) b.to_console → HandedOk (asked_to x b k m)
  asked_ok (the_console to_put) b k m u d = tt
  asked_ok (the_console to_send_need_i) b k m u d = tt
  asked_ok (the_console to_send_data) b k m u d = tt
  asked_ok (the_console ConsoleAsk.to_take) b k m u d = all_at _ b.to_console k d
  asked_ok (the_console ConsoleAsk.to_go_down) b k m u d = tt
  asked_ok (the_console ConsoleAsk.to_come_back) b k m u d = tt
  asked_ok (the_console to_tell_ack) b k m u d = tt
  asked_ok (the_controller to_send_offer) b k m u d = tt
  asked_ok (the_controller to_send_ok) b k m u d = tt
  asked_ok (the_controller ControllerAsk.to_take) b k m u d = all_at _ b.to_controller k u
  asked_ok (the_controller ControllerAsk.to_go_down) b k m u d = tt
  asked_ok (the_controller ControllerAsk.to_come_back) b k m u d = tt
  asked_ok neither_end b k m u d = tt

  asks_ok : (b : Bench S M) (l : Letter) (k : ℕ) (m : M) → All (ToControllerOk U good) b.to_controller → All (ToConsoleOk U) b.to_console → HandedOk (asks b l k m)
  unfolding asks
  asks_ok b l k m u d = asked_ok (line l).asks b k m u d

  module _ (laws : Lawful S U) where
    -- ## A step, refused or not

    console_step_ok : (e : Console S M) (act : ConsoleAct M) → ConsoleOk U good e → ConsoleHandedOk U act
        → let d = console_step U good e act in ConsoleOk U good d.after × Opt (ToControllerOk U good) d.sent
    unfolding console_step
    console_step_ok e act h x =
        if_holds (λ (d : ConsoleActed S M). ConsoleOk U good d.after × Opt (ToControllerOk U good) d.sent) (eqb (refusal (console_rules U good e act)) 0) _ _
        (λ p. console_acts_ok U laws good e act (eqb-true (refusal (console_rules U good e act)) 0 p) h x) (λ p. (h, tt))

    controller_step_ok : (e : Controller S) (act : ControllerAct M) → ControllerOk U e → ControllerHandedOk U good act
        → let d = controller_step U e act in ControllerOk U d.after × Opt (ToConsoleOk U) d.sent
    unfolding controller_step
    controller_step_ok e act h x =
        if_holds (λ (d : ControllerActed S M). ControllerOk U d.after × Opt (ToConsoleOk U) d.sent) (eqb (refusal (controller_rules U e act)) 0) _ _
        (λ p. controller_acts_ok U laws good e act h x) (λ p. (h, tt))

    -- ## Whatever happens

    aired_ok : (l : Link S M) (x : Asked M) → LinkOk l → HandedOk x → let o = aired U good l.bench x in LinkOk (record { bench = o.after; console_kept = (keeps U x o.after l).console_kept; controller_kept = (keeps U x o.after l).controller_kept })
    unfolding aired keeps
    aired_ok l (console act) h x =
        let d = console_step U good l.bench.console act in
        let k = console_step_ok l.bench.console act h.console x in
        record {
          console = k.0;
          controller = h.controller;
          ups = all_append _ l.bench.to_controller (copies_of 1 d.sent) h.ups (all_copies _ 1 d.sent k.1);
          downs = h.downs;
          console_kept = laws.back_sound _ k.0.numbers;
          controller_kept = h.controller_kept;
        }
    aired_ok l (controller act) h x =
        let d = controller_step U l.bench.controller act in
        let k = controller_step_ok l.bench.controller act h.controller x in
        record {
          console = h.console;
          controller = k.0;
          ups = h.ups;
          downs = all_append _ l.bench.to_console (copies_of 1 d.sent) h.downs (all_copies _ 1 d.sent k.1);
          console_kept = h.console_kept;
          controller_kept = laws.back_sound _ k.0.numbers;
        }
    aired_ok l no_end h x = h

    -- a cut leaves an end with nothing but its kept record
    fails_ok : (x : Asked M) (l : Link S M) → LinkOk l → LinkOk (fails x l)
    unfolding fails
    fails_ok (console act) l h =
        record {
          console = record { numbers = h.console_kept; mode = tt };
          controller = h.controller;
          ups = h.ups;
          downs = h.downs;
          console_kept = h.console_kept;
          controller_kept = h.controller_kept;
        }
    fails_ok (controller act) l h =
        record {
          console = h.console;
          controller = record { numbers = h.controller_kept; mode = tt };
          ups = h.ups;
          downs = h.downs;
          console_kept = h.console_kept;
          controller_kept = h.controller_kept;
        }
    fails_ok no_end l h = h

    with_kept : (l : Link S M) (j i : S) → LinkOk l → U.sound j ≡ true → U.sound i ≡ true
        → LinkOk (record { bench = l.bench; console_kept = j; controller_kept = i })
    with_kept l j i h p q =
        record { console = h.console; controller = h.controller; ups = h.ups; downs = h.downs; console_kept = p; controller_kept = q }

    keeps_ok : (x : Asked M) (l : Link S M) → LinkOk l → HandedOk x → LinkOk (keeps U x (aired U good l.bench x).after l)
    unfolding keeps aired
    keeps_ok (console act) l h x = with_kept l _ _ h (laws.back_sound _ (console_step_ok l.bench.console act h.console x).0.numbers) h.controller_kept
    keeps_ok (controller act) l h x = with_kept l _ _ h h.console_kept (laws.back_sound _ (controller_step_ok l.bench.controller act h.controller x).0.numbers)
    keeps_ok no_end l h x = h

    pub happens_ok : (l : Link S M) (h : Happening M) → LinkOk l → LinkOk (happens U good l h).after
    unfolding happens
    happens_ok l (acts a) k = aired_ok l (asked l a) k (asks_ok l.bench a.letter a.place a.message k.ups k.downs)
    happens_ok l (kept_and_cut a) k =
        fails_ok (asked l a) (keeps U (asked l a) (aired U good l.bench (asked l a)).after l)
        (keeps_ok (asked l a) l k (asks_ok l.bench a.letter a.place a.message k.ups k.downs))
    happens_ok l (cut a) k = fails_ok (asked l a) l k

  pub start_ok : (j i : S) → U.sound j ≡ true → U.sound i ≡ true → LinkOk (start j i)
  unfolding fresh
  start_ok j i p q =
      record {
        console = record { numbers = p; mode = tt };
        controller = record { numbers = q; mode = tt };
        ups = tt;
        downs = tt;
        console_kept = p;
        controller_kept = q;
      }
