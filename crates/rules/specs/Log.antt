-- Demand 3: which logs of a run are right. A log lists what happened, NEWEST ROW FIRST, so that in `e ∷ past` the past is all that happened
-- before e. M is the type of a message's cells. Assumes nothing.
use Rattle.std.specs.Prelude.{ℕ, suc, ◌<◌, ◌≡◌, Bool, true, false, not, ◌||◌, List, [], ◌∷◌, T}
use Rattle.std.proofs.Math.Option.{Option, none, some}
use Rattle.rules.specs.Lists.{In}

-- a message with the number of its put
pub record Labelled (M : Type 0) : Type 0 where
  pub label : ℕ
  pub cells : M

abbrev pub labelled : {M : Type 0} → ℕ → M → Labelled M
labelled n c = record { label = n; cells = c }

-- the puts that were taken are numbered 1, 2, ..: two orders may have the same cells, and only the number tells them apart
pub data Event (M : Type 0) : Type 0 where
  Put Delivered : ℕ → M → Event M
  AnsweredOK AnsweredLost : ℕ → Event M
  ConsoleDown ConsoleBack ControllerDown ControllerBack : Event M  -- C V X Y

abbrev pub Log : Type 0 → Type 0
Log M = List (Event M)

-- ## What a log tells of the moment after it

module _ {M : Type 0} where
  -- is the console up?
  abbrev pub console_up : Log M → Bool
  console_up [] = true
  console_up (ConsoleDown ∷ past) = false
  console_up (ConsoleBack ∷ past) = true
  console_up (ControllerDown ∷ past) = console_up past
  console_up (ControllerBack ∷ past) = console_up past
  console_up (Put n c ∷ past) = console_up past
  console_up (Delivered n c ∷ past) = console_up past
  console_up (AnsweredOK n ∷ past) = console_up past
  console_up (AnsweredLost n ∷ past) = console_up past

  -- is the controller up?
  abbrev pub controller_up : Log M → Bool
  controller_up [] = true
  controller_up (ControllerDown ∷ past) = false
  controller_up (ControllerBack ∷ past) = true
  controller_up (ConsoleDown ∷ past) = controller_up past
  controller_up (ConsoleBack ∷ past) = controller_up past
  controller_up (Put n c ∷ past) = controller_up past
  controller_up (Delivered n c ∷ past) = controller_up past
  controller_up (AnsweredOK n ∷ past) = controller_up past
  controller_up (AnsweredLost n ∷ past) = controller_up past

  -- the put that waits for its answer: the last one, unless it was answered or the console has come back since
  abbrev pub waiting : Log M → Option ℕ
  waiting [] = none
  waiting (Put n c ∷ past) = some n
  waiting (AnsweredOK n ∷ past) = none
  waiting (AnsweredLost n ∷ past) = none
  waiting (ConsoleBack ∷ past) = none
  waiting (ConsoleDown ∷ past) = waiting past
  waiting (ControllerDown ∷ past) = waiting past
  waiting (ControllerBack ∷ past) = waiting past
  waiting (Delivered n c ∷ past) = waiting past

  -- how many puts there were
  abbrev pub put_count : Log M → ℕ
  put_count [] = 0
  put_count (Put n c ∷ past) = suc (put_count past)
  put_count (Delivered n c ∷ past) = put_count past
  put_count (AnsweredOK n ∷ past) = put_count past
  put_count (AnsweredLost n ∷ past) = put_count past
  put_count (ConsoleDown ∷ past) = put_count past
  put_count (ConsoleBack ∷ past) = put_count past
  put_count (ControllerDown ∷ past) = put_count past
  put_count (ControllerBack ∷ past) = put_count past

  -- has the controller, being up, gone down since the last put?
  abbrev pub fell : Log M → Bool
  fell [] = false
  fell (Put n c ∷ past) = false
  fell (ControllerDown ∷ past) = controller_up past || fell past
  fell (ControllerBack ∷ past) = fell past
  fell (Delivered n c ∷ past) = fell past
  fell (AnsweredOK n ∷ past) = fell past
  fell (AnsweredLost n ∷ past) = fell past
  fell (ConsoleDown ∷ past) = fell past
  fell (ConsoleBack ∷ past) = fell past

  -- and come back after that?
  abbrev pub fell_and_back : Log M → Bool
  fell_and_back [] = false
  fell_and_back (Put n c ∷ past) = false
  fell_and_back (ControllerBack ∷ past) = fell past
  fell_and_back (ControllerDown ∷ past) = fell_and_back past
  fell_and_back (Delivered n c ∷ past) = fell_and_back past
  fell_and_back (AnsweredOK n ∷ past) = fell_and_back past
  fell_and_back (AnsweredLost n ∷ past) = fell_and_back past
  fell_and_back (ConsoleDown ∷ past) = fell_and_back past
  fell_and_back (ConsoleBack ∷ past) = fell_and_back past

-- ## Right logs: every row fits what was before it

module _ {M : Type 0} where
  -- a put: by a console that is up and holds none; it has the next number
  pub record PutFits (past : Log M) (n : ℕ) : Type 0 where
    pub by_one_up : T (console_up past)
    pub none_held : waiting past ≡ none
    pub counted : n ≡ suc (put_count past)

  -- a delivery: of what was put, with its own cells; in the order of the puts and at most once; and not after it was answered lost
  pub record DeliveryFits (past : Log M) (n : ℕ) (c : M) : Type 0 where
    pub by_one_up : T (controller_up past)
    pub its_own_put : In (Put n c) past
    pub in_order : (m : ℕ) (d : M) → In (Delivered m d) past → m < n
    pub not_lost : In (AnsweredLost n) past → ⊥

  -- answered OK: at most once and not at all if the console went down first, for its put waits; it was delivered before
  pub record OkFits (past : Log M) (n : ℕ) : Type 0 where
    pub by_one_up : T (console_up past)
    pub waits : waiting past ≡ some n
    pub delivered : (c : M) × In (Delivered n c) past

  -- answered lost: likewise; the controller went down and came back since the put
  pub record LostFits (past : Log M) (n : ℕ) : Type 0 where
    pub by_one_up : T (console_up past)
    pub waits : waiting past ≡ some n
    pub restarted : T (fell_and_back past)

  abbrev pub Fits : Log M → Event M → Type 0
  Fits past (Put n c) = PutFits past n
  Fits past (Delivered n c) = DeliveryFits past n c
  Fits past (AnsweredOK n) = OkFits past n
  Fits past (AnsweredLost n) = LostFits past n
  Fits past ConsoleDown = Unit {0}
  Fits past ConsoleBack = T (not (console_up past))
  Fits past ControllerDown = Unit {0}
  Fits past ControllerBack = T (not (controller_up past))

  abbrev pub Right : Log M → Type 0
  Right [] = Unit {0}
  Right (e ∷ past) = Right past × Fits past e
