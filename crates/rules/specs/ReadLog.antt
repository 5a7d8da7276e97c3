-- Demand 3 as request 2 words it: which logs of a run are right now. The rows are those of specs/Log.antt; an answer is what A tells to the put
-- before it. NEWEST ROW FIRST. Assumes nothing.
use Rattle.std.specs.Prelude.{ℕ, suc, ◌<◌, ◌≡◌, Bool, false, not, ◌||◌, [], ◌∷◌, ◌++◌, T}
use Rattle.std.proofs.Math.Option.{Option, none, some}
use Rattle.rules.specs.Lists.{In}
use Rattle.rules.specs.Log.{Event, Put, Delivered, AnsweredOK, AnsweredLost, ConsoleDown, ConsoleBack, ControllerDown, ControllerBack, Log}
use Rattle.rules.specs.Log.{console_up, controller_up, put_count, fell_and_back}

-- ## What a log tells of the moment after it

module _ {M : Type 0} where
  -- the put that no A has answered: the last one, unless one has
  abbrev pub unanswered : Log M → Option ℕ
  unanswered [] = none
  unanswered (Put n c ∷ past) = some n
  unanswered (AnsweredOK n ∷ past) = none
  unanswered (AnsweredLost n ∷ past) = none
  unanswered (Delivered n c ∷ past) = unanswered past
  unanswered (ConsoleDown ∷ past) = unanswered past
  unanswered (ConsoleBack ∷ past) = unanswered past
  unanswered (ControllerDown ∷ past) = unanswered past
  unanswered (ControllerBack ∷ past) = unanswered past

  -- has the console, being up, gone down since the last put?
  abbrev pub console_fell : Log M → Bool
  console_fell [] = false
  console_fell (Put n c ∷ past) = false
  console_fell (ConsoleDown ∷ past) = console_up past || console_fell past
  console_fell (ConsoleBack ∷ past) = console_fell past
  console_fell (Delivered n c ∷ past) = console_fell past
  console_fell (AnsweredOK n ∷ past) = console_fell past
  console_fell (AnsweredLost n ∷ past) = console_fell past
  console_fell (ControllerDown ∷ past) = console_fell past
  console_fell (ControllerBack ∷ past) = console_fell past

  -- and come back after that?
  abbrev pub console_fell_and_back : Log M → Bool
  console_fell_and_back [] = false
  console_fell_and_back (Put n c ∷ past) = false
  console_fell_and_back (ConsoleBack ∷ past) = console_fell past
  console_fell_and_back (ConsoleDown ∷ past) = console_fell_and_back past
  console_fell_and_back (Delivered n c ∷ past) = console_fell_and_back past
  console_fell_and_back (AnsweredOK n ∷ past) = console_fell_and_back past
  console_fell_and_back (AnsweredLost n ∷ past) = console_fell_and_back past
  console_fell_and_back (ControllerDown ∷ past) = console_fell_and_back past
  console_fell_and_back (ControllerBack ∷ past) = console_fell_and_back past

-- ## Right logs: every row fits what was before it

module _ {M : Type 0} where
  -- a put: by a console that is up; it has the next number
  pub record PutFitsRead (past : Log M) (n : ℕ) : Type 0 where
    pub by_one_up : T (console_up past)
    pub counted : n ≡ suc (put_count past)

  -- a delivery: of what was put, with its own cells; in the order of the puts and at most once; after an answer lost only if the console had gone
  -- down between the put and that answer
  pub record DeliveryFitsRead (past : Log M) (n : ℕ) (c : M) : Type 0 where
    pub by_one_up : T (controller_up past)
    pub its_own_put : In (Put n c) past
    pub in_order : (m : ℕ) (d : M) → In (Delivered m d) past → m < n
    pub not_lost : (z x : Log M) → past ≡ z ++ AnsweredLost n ∷ x → T (console_fell x)

  -- answered OK: by the first A after the put; it was delivered before, and the console did not go down since the put
  pub record OkFitsRead (past : Log M) (n : ℕ) : Type 0 where
    pub by_one_up : T (console_up past)
    pub first : unanswered past ≡ some n
    pub delivered : (c : M) × In (Delivered n c) past
    pub stayed : T (not (console_fell past))

  -- answered lost: likewise by the first A; since the put either end went down and came back
  pub record LostFitsRead (past : Log M) (n : ℕ) : Type 0 where
    pub by_one_up : T (console_up past)
    pub first : unanswered past ≡ some n
    pub restarted : T (fell_and_back past || console_fell_and_back past)

  abbrev pub FitsRead : Log M → Event M → Type 0
  FitsRead past (Put n c) = PutFitsRead past n
  FitsRead past (Delivered n c) = DeliveryFitsRead past n c
  FitsRead past (AnsweredOK n) = OkFitsRead past n
  FitsRead past (AnsweredLost n) = LostFitsRead past n
  FitsRead past ConsoleDown = Unit {0}
  FitsRead past ConsoleBack = T (not (console_up past))
  FitsRead past ControllerDown = Unit {0}
  FitsRead past ControllerBack = T (not (controller_up past))

  abbrev pub RightRead : Log M → Type 0
  RightRead [] = Unit {0}
  RightRead (e ∷ past) = RightRead past × FitsRead past e
