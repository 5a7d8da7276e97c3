-- The bench of document 01: two ends, two channels, the fourteen actions and their refusals. Assumes nothing.
use Rattle.std.specs.Prelude.{ℕ, ◌+◌, ◌≡◌, Bool, true, false, ◌&&◌, List, [], ◌∷◌, ◌++◌, length, replicate, T, eqb, ltb}
use Rattle.std.proofs.Math.Option.{Option, none, some}
use Rattle.ground.specs.Choice.{when◌then◌else◌}
use Rattle.ground.specs.First.{Rule, refusal}
unfoldable pub use Rattle.ground.specs.Lists.{at, without}
use Rattle.rules.specs.Supply.{Supply, next_counted}
use Rattle.rules.specs.Letters.{Letter, ConsoleAsk, to_put, to_send_need_i, to_send_data, to_tell_ack, ControllerAsk, to_send_offer, to_send_ok, Asks, the_console, the_controller, neither_end}
use Rattle.rules.specs.Letters.{line}
pub use Rattle.rules.specs.Letters.{Taken, from_neither, from_to_controller, from_to_console}
use Rattle.rules.specs.Ends.{ToController, ToConsole, ConsoleMode, ControllerMode, Console, Controller, ConsoleAct, ControllerAct, put}
use Rattle.rules.specs.Ends.{send_need_i, send_data, tell_ack, send_offer, send_ok, Report, nothing, refused, absent, console_rules, controller_rules}
use Rattle.rules.specs.Ends.{ConsoleActed, ControllerActed, console_acts, controller_acts, ends}

-- ## Channels: lists of packets. New packets go to the end

abbrev pub places : ℕ
places = 64

module _ {A : Type 0} where
  -- copies of what is sent, side by side; of nothing, none
  unfoldable pub copies_of : ℕ → Option A → List A
  copies_of n none = []
  copies_of n (some p) = replicate n p

-- ## Bench and action

pub record Bench (S M : Type 0) : Type 0 where
  pub console : Console S M
  pub controller : Controller S
  pub to_controller : List (ToController M)
  pub to_console : List ToConsole

pub record Action (M : Type 0) : Type 0 where
  pub letter : Letter
  pub place : ℕ
  pub copies : ℕ
  pub message : M

abbrev pub action : {M : Type 0} → Letter → ℕ → ℕ → M → Action M
action letter place copies message = record { letter = letter; place = place; copies = copies; message = message }

-- the same letter, and the same in the fields that its line says it uses
pub record Agree {M : Type 0} (a a' : Action M) : Type 0 where
  pub letter : a.letter ≡ a'.letter
  pub place : T (line a.letter).place → a.place ≡ a'.place
  pub copies : T (line a.letter).copies → a.copies ≡ a'.copies
  pub message : T (line a.letter).message → a.message ≡ a'.message

pub record Outcome (S M : Type 0) : Type 0 where
  pub report : Report M
  pub after : Bench S M

-- whom an action asks to do what; L and M ask no end
pub data Asked (M : Type 0) : Type 0 where
  console : ConsoleAct M → Asked M
  controller : ControllerAct M → Asked M
  no_end : Asked M

module _ {S M : Type 0} where
  -- an end that takes a packet is given the one at the place
  abbrev pub asked_to : Asks → Bench S M → ℕ → M → Asked M
  asked_to (the_console to_put) b k m = console (put m)
  asked_to (the_console to_send_need_i) b k m = console send_need_i
  asked_to (the_console to_send_data) b k m = console send_data
  asked_to (the_console ConsoleAsk.to_take) b k m = console (ConsoleAct.take (at b.to_console k))
  asked_to (the_console ConsoleAsk.to_go_down) b k m = console ConsoleAct.go_down
  asked_to (the_console ConsoleAsk.to_come_back) b k m = console ConsoleAct.come_back
  asked_to (the_console to_tell_ack) b k m = console tell_ack
  asked_to (the_controller to_send_offer) b k m = controller send_offer
  asked_to (the_controller to_send_ok) b k m = controller send_ok
  asked_to (the_controller ControllerAsk.to_take) b k m = controller (ControllerAct.take (at b.to_controller k))
  asked_to (the_controller ControllerAsk.to_go_down) b k m = controller ControllerAct.go_down
  asked_to (the_controller ControllerAsk.to_come_back) b k m = controller ControllerAct.come_back
  asked_to neither_end b k m = no_end

  unfoldable pub asks : Bench S M → Letter → ℕ → M → Asked M
  unfolding line
  asks b l k m = asked_to (line l).asks b k m

-- R and L take a packet out of the channel to the controller, S and M out of the channel to the console
unfoldable pub takes : Letter → Taken
unfolding line
takes l = (line l).takes

module _ {S M : Type 0} where
  -- is the place not below the count of the channel that the letter takes from?
  unfoldable pub missing : Taken → Bench S M → ℕ → Bool
  missing from_neither b k = false
  missing from_to_controller b k = absent (at b.to_controller k)
  missing from_to_console b k = absent (at b.to_console k)

  unfoldable pub taken_out : Taken → Bench S M → ℕ → Bench S M
  taken_out from_neither b k = b
  taken_out from_to_controller b k =
      record { console = b.console; controller = b.controller; to_controller = without b.to_controller k; to_console = b.to_console }
  taken_out from_to_console b k =
      record { console = b.console; controller = b.controller; to_controller = b.to_controller; to_console = without b.to_console k }

-- ## What an action does that is not refused

module _ {S M : Type 0} where
  -- an end acted: n copies of what it sends go to the end of the channel to the other
  abbrev pub console_did : Bench S M → ℕ → ConsoleActed S M → Outcome S M
  console_did b n d =
      record {
        report = d.report;
        after =
            record {
              console = d.after;
              controller = b.controller;
              to_controller = b.to_controller ++ copies_of n d.sent;
              to_console = b.to_console;
            };
      }

  abbrev pub controller_did : Bench S M → ℕ → ControllerActed S M → Outcome S M
  controller_did b n d =
      record {
        report = d.report;
        after =
            record {
              console = b.console;
              controller = d.after;
              to_controller = b.to_controller;
              to_console = b.to_console ++ copies_of n d.sent;
            };
      }

module _ {S M : Type 0} (U : Supply S) where
  unfoldable pub does : Bench S M → ℕ → Asked M → Outcome S M
  does b n (console act) = console_did b n (console_acts U b.console act)
  does b n (controller act) = controller_did b n (controller_acts U b.controller act)
  does b n no_end = record { report = nothing; after = b }

  unfoldable pub effect : Bench S M → Action M → Outcome S M
  effect b a =
      does (taken_out (takes a.letter) b a.place) a.copies (asks b a.letter a.place a.message)

-- ## Refusals

-- 9: the copies exceed the free places
unfoldable pub exceed : {A : Type 0} → List A → ℕ → Option A → Bool
exceed channel n sent = ltb places (length channel + length (copies_of n sent))

unfoldable pub no_room : {S M : Type 0} → Supply S → Bench S M → ℕ → Asked M → Bool
no_room U b n (console act) = exceed b.to_controller n (console_acts U b.console act).sent
no_room U b n (controller act) = exceed b.to_console n (controller_acts U b.controller act).sent
no_room U b n no_end = false

module _ {S M : Type 0} (U : Supply S) (good : M → Bool) where
  -- the rules of the end that is asked: 11, 4, 5, 6, 8, 7
  unfoldable pub end_rules : Bench S M → Asked M → List Rule
  end_rules b (console act) = console_rules U good b.console act
  end_rules b (controller act) = controller_rules U b.controller act
  end_rules b no_end = []

  -- with places and copies: 3, 10, 9, of the letters that use them
  unfoldable pub rules_of : Bench S M → Action M → List Rule
  rules_of b a =
      let asked = asks b a.letter a.place a.message in
      (3, (line a.letter).place && missing (takes a.letter) b a.place)
      ∷ (10, (line a.letter).copies && ltb 3 a.copies)
      ∷ (9, (line a.letter).copies && no_room U b a.copies asked)
      ∷ end_rules b asked

  -- ## The step and the run

  unfoldable pub step : Bench S M → Action M → Outcome S M
  step b a =
      let n = refusal (rules_of b a) in when eqb n 0 then effect U b a else record { report = refused n; after = b }

  -- the bench at the end, and what each action reports
  unfoldable pub run : Bench S M → List (Action M) → Bench S M
  run b [] = b
  run b (a ∷ l) = run (step b a).after l

  unfoldable pub reports : Bench S M → List (Action M) → List (Report M)
  reports b [] = []
  reports b (a ∷ l) = (step b a).report ∷ reports (step b a).after l

-- both ends up and idle, empty channels
unfoldable pub fresh : {S M : Type 0} → S → S → Bench S M
fresh j i =
    record {
      console = record { numbers = j; mode = ConsoleMode.idle; up = true };
      controller = record { numbers = i; mode = ControllerMode.idle; up = true };
      to_controller = [];
      to_console = [];
    }

-- for proofs: `unfolding rules` opens every definition of the rules
unfoldable pub rules : Unit {0}
unfolding ends next_counted line at without copies_of asks takes missing taken_out does effect exceed end_rules no_room rules_of step run reports fresh
rules = tt
