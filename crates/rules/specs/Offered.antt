-- A supply for one step: the number on offer and what became of it, so that what an end does is said without where its numbers come from.
-- Assumes nothing.
use Rattle.std.specs.Prelude.{ℕ, Bool, true, not}
use Rattle.std.proofs.Math.Option.{Option, none}
use Rattle.rules.specs.Supply.{Supply}
use Rattle.rules.specs.Ends.{ToController, End, Console, Controller, ControllerAct, send_offer, send_ok, unknown, Acted, ConsoleActed, ControllerActed}
use Rattle.rules.specs.Bench.{Bench, Action, Outcome, at}

-- what a step does to an end's numbers
pub data Move : Type 0 where
  unmoved took_one came_back : Move

pub record Offer : Type 0 where
  pub next : Option ℕ  -- the number on offer; none: the numbers are spent
  pub known : Bool  -- is the number of the packet that is taken one that this end gave?
  pub move : Move  -- what became of it

-- it serves one step, after which it is read: so it keeps no law, and tells one number from another only as `known` does
abbrev pub offered : Supply Offer
offered =
    record {
      next = λ o. o.next;
      take = λ o. record { next = o.next; known = o.known; move = took_one };
      back = λ o. record { next = o.next; known = o.known; move = came_back };
      used = λ o n. o.known;
      number = λ n. true;
      sound = λ o. true;
    }

-- the same done to the numbers of a supply
unfoldable pub moved : {S : Type 0} → Supply S → Move → S → S
moved U unmoved s = s
moved U took_one s = U.take s
moved U came_back s = U.back s

-- ## An end: its numbers put on offer, and the end afterwards from what became of the offer

module _ {S : Type 0} (U : Supply S) where
  abbrev pub OnOffer : Bool → S → Offer
  OnOffer known s = record { next = U.next s; known = known; move = unmoved }

  abbrev pub end_offering : {Mode : Type 0} → Bool → End S Mode → End Offer Mode
  end_offering known e = record { numbers = OnOffer known e.numbers; mode = e.mode; up = e.up }

  abbrev pub end_moved_on : {Mode : Type 0} → End S Mode → End Offer Mode → End S Mode
  end_moved_on e o = record { numbers = moved U o.numbers.move e.numbers; mode = o.mode; up = o.up }

  abbrev pub acted_moved_on : {M Mode Packet : Type 0} → End S Mode → Acted Offer M Mode Packet → Acted S M Mode Packet
  acted_moved_on e d = record { report = d.report; sent = d.sent; after = end_moved_on e d.after }

-- the packet that an act takes
unfoldable pub packet_of : {M : Type 0} → ControllerAct M → Option (ToController M)
packet_of send_offer = none
packet_of send_ok = none
packet_of (ControllerAct.take p) = p
packet_of ControllerAct.go_down = none
packet_of ControllerAct.come_back = none

module _ {S M : Type 0} (U : Supply S) where
  -- the console is refused nothing by number
  unfoldable pub console_offering : Console S M → Console Offer M
  console_offering e = end_offering U true e

  unfoldable pub console_moved_on : Console S M → ConsoleActed Offer M → ConsoleActed S M
  console_moved_on e d = acted_moved_on U e d

  -- 7 does not apply to the packet
  abbrev pub gave : S → Option (ToController M) → Bool
  gave s p = not (unknown (U.used s) p)

  unfoldable pub controller_offering : Controller S → ControllerAct M → Controller Offer
  unfolding packet_of
  controller_offering e act = end_offering U (gave e.numbers (packet_of act)) e

  unfoldable pub controller_moved_on : Controller S → ControllerActed Offer M → ControllerActed S M
  controller_moved_on e d = acted_moved_on U e d

  -- ## The bench: both ends so, the channels as they are

  abbrev pub bench_offering : Bool → Bench S M → Bench Offer M
  bench_offering known b =
      record {
        console = end_offering U true b.console;
        controller = end_offering U known b.controller;
        to_controller = b.to_controller;
        to_console = b.to_console;
      }

  unfoldable pub offering : Bench S M → Action M → Bench Offer M
  offering b a = bench_offering (gave b.controller.numbers (at b.to_controller a.place)) b

  unfoldable pub moved_on : Bench S M → Outcome Offer M → Outcome S M
  moved_on b o =
      record {
        report = o.report;
        after =
            record {
              console = end_moved_on U b.console o.after.console;
              controller = end_moved_on U b.controller o.after.controller;
              to_controller = o.after.to_controller;
              to_console = o.after.to_console;
            };
      }
