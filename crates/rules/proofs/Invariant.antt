-- The invariant of demand 3: what holds of a bench and the judge of its log after every step of a run from a fresh bench. No clause orders the
-- numbers J and I: they are only compared for equality, and a number that is taken was not used. Twelve clauses, named beside them: CLEAN, D-PUT,
-- D-CUR, D-NEW, DONE, OKAY and LOST of packets; HELD, BOUND, LOSTB and LIVE of the ends; SYNC of the bench and the judge. Assumes nothing.
use Prim.Native.Nat.{ℕ, ◌≤◌, ◌<◌}
use mathlib.Core.Path.{◌≡◌}
use mathlib.Core.Logic.{◌⊎◌, ◌≢◌}
use mathlib.Core.Bool.{Bool}
use mathlib.Core.Option.{Option, none, some}
use mathlib.Core.List.{List}
use lib.Dec.{T}
use Rattle.rules.specs.Ends.{ToController, need_i, order, done, ToConsole, offer, ok, lost, ConsoleMode, in_need_i, in_send, ControllerMode}
use Rattle.rules.specs.Ends.{in_accept, in_ack, holding}
use Rattle.rules.specs.Lists.{All, In, Opt}
use Rattle.rules.specs.Bench.{Bench}
use Rattle.rules.specs.Bears.{Any, ToControllerBears, ToConsoleBears}
use Rattle.rules.specs.Log.{Labelled}
use Rattle.rules.specs.Judge.{Since, steady, fallen, returned, is_returned, Judge}

-- ## Modes, as facts: in every other mode the fact is ⊥

module _ {M : Type 0} where
  -- the console asks for j
  abbrev pub Asks : ConsoleMode M → ℕ → Type 0
  Asks ConsoleMode.idle j = ⊥
  Asks (in_need_i j' m) j = j ≡ j'
  Asks (in_send last m) j = ⊥

  -- i is the console's last
  abbrev pub Last : ConsoleMode M → ℕ → Type 0
  Last ConsoleMode.idle i = ⊥
  Last (in_need_i j m) i = ⊥
  Last (in_send last m) i = i ≡ last

  abbrev pub Holds : ConsoleMode M → Type 0
  Holds ConsoleMode.idle = ⊥
  Holds (in_need_i j m) = Unit {0}
  Holds (in_send last m) = Unit {0}

  abbrev pub Needs : ConsoleMode M → Type 0
  Needs ConsoleMode.idle = ⊥
  Needs (in_need_i j m) = Unit {0}
  Needs (in_send last m) = ⊥

  abbrev pub message : ConsoleMode M → Option M
  message ConsoleMode.idle = none
  message (in_need_i j m) = some m
  message (in_send last m) = some m

  -- the packet that the console would send if it were told to: it counts as sent
  abbrev pub ready_up : ConsoleMode M → Option (ToController M)
  ready_up ConsoleMode.idle = none
  ready_up (in_need_i j m) = some (need_i j)
  ready_up (in_send last m) = some (order last m)

-- the controller would deliver i
abbrev pub Accepts : ControllerMode → ℕ → Type 0
Accepts ControllerMode.idle i = ⊥
Accepts (in_accept j i') i = i ≡ i'
Accepts (in_ack last) i = ⊥

-- the controller stands at i: it accepts it, or has delivered it
abbrev pub At : ControllerMode → ℕ → Type 0
At ControllerMode.idle i = ⊥
At (in_accept j i') i = i ≡ i'
At (in_ack last) i = i ≡ last

abbrev pub ready_down : ControllerMode → Option ToConsole
ready_down ControllerMode.idle = none
ready_down (in_accept j i) = some (offer j i)
ready_down (in_ack last) = some (ok last)

-- ## What is looked at: both modes, the I's on offer, and the judge. No supply and no up or down

-- I is on offer if the console asks for a j and offer(j, I) is on its way or ready
pub record View (M : Type 0) : Type 1 where
  pub console : ConsoleMode (Labelled M)
  pub controller : ControllerMode
  pub OnOffer : ℕ → Type 0
  pub count : ℕ
  pub put : List (Labelled M)
  pub top : ℕ
  pub gone : List ℕ

abbrev pub view : {M : Type 0} → ConsoleMode (Labelled M) → ControllerMode → (ℕ → Type 0) → Judge M → View M
view s r on w =
    record { console = s; controller = r; OnOffer = on; count = w.count; put = w.put; top = w.top; gone = w.gone }

-- ## Packets on their way or ready

module _ {M : Type 0} (v : View M) where
  -- data(i, m)
  pub record Order (i : ℕ) (m : Labelled M) : Type 0 where
    -- CLEAN: nothing about a number is in the air before the console takes it up
    pub clean : v.OnOffer i → ⊥
    -- D-PUT: data carry what was put
    pub was_put : (m.label ≤ v.count) × In m v.put
    -- D-CUR: a number names one order, and the held order has one number
    pub last_is : Last v.console i → m.label ≡ v.count
    pub is_last : Holds v.console → m.label ≡ v.count → Last v.console i
    -- D-NEW: what would be delivered is still to come
    pub new : Accepts v.controller i → (v.top < m.label) × (In m.label v.gone → ⊥)

  pub record Done (i : ℕ) : Type 0 where
    -- CLEAN
    pub clean : v.OnOffer i → ⊥
    -- DONE: never for the order being sent
    pub not_last : Last v.console i → ⊥

  pub record Offer (j i : ℕ) : Type 0 where
    pub asked : Asks v.console j → v.OnOffer i
    -- CLEAN: a number is offered to one j
    pub own : v.OnOffer i → Asks v.console j

  pub record Okay (i : ℕ) : Type 0 where
    -- CLEAN
    pub clean : v.OnOffer i → ⊥
    -- OKAY: OK for the held order means delivered
    pub delivered : Last v.console i → v.top ≡ v.count

  pub record Lost (i : ℕ) : Type 0 where
    -- LOST: what is called lost is not good any more
    pub out : At v.controller i → ⊥

  abbrev pub Up : ToController (Labelled M) → Type 0
  Up (need_i j) = Unit {0}
  Up (order i m) = Order i m
  Up (done i) = Done i

  abbrev pub Down : ToConsole → Type 0
  Down (offer j i) = Offer j i
  Down (ok i) = Okay i
  Down (lost i) = Lost i

-- ## The ends

abbrev pub Returned : Since → Type 0
Returned since = T (is_returned since)

abbrev pub Fallen : Since → Type 0
Fallen steady = ⊥
Fallen fallen = Unit {0}
Fallen returned = ⊥

-- i is live: the controller has come back since the put, or stands at i and is up or has just gone down
abbrev pub Live : ControllerMode → Bool → Since → ℕ → Type 0
Live r awake since i = Returned since ⊎ (At r i × (T awake ⊎ Fallen since))

-- `awake` and `since` are the judge's: is the controller up, and what became of it since the last put
pub record Core (M : Type 0) (v : View M) (awake : Bool) (since : Since) : Type 0 where
  -- HELD: what is held is the latest put
  pub held : Opt (λ (m : Labelled M). (m.label ≡ v.count) × In m v.put) (message v.console)
  -- BOUND: what was delivered was put; an order without a number was not delivered
  pub bound : v.top ≤ v.count
  pub needs : Needs v.console → v.top < v.count
  -- LOSTB: an order is no longer held when it is answered
  pub gone : (n : ℕ) → In n v.gone → (n ≤ v.count) × (Holds v.console → n ≢ v.count)
  -- LIVE: the controller forgets the number of the held order only by a restart
  pub live_offer : (i : ℕ) → v.OnOffer i → Live v.controller awake since i
  pub live_last : (i : ℕ) → Last v.console i → Live v.controller awake since i

-- ## The bench and the judge of its log

pub record Inv (S M : Type 0) (b : Bench S (Labelled M)) (w : Judge M) : Type 1 where
  pub on : ℕ → Type 0  -- the I's on offer
  pub core : Core M (view b.console.mode b.controller.mode on w) w.controller w.since
  pub ready_ups : Opt (Up (view b.console.mode b.controller.mode on w)) (ready_up b.console.mode)
  pub ready_downs : Opt (Down (view b.console.mode b.controller.mode on w)) (ready_down b.controller.mode)
  pub ups : All (Up (view b.console.mode b.controller.mode on w)) b.to_controller
  pub downs : All (Down (view b.console.mode b.controller.mode on w)) b.to_console
  -- SYNC: the judge follows the bench
  pub console : w.console ≡ b.console.up
  pub controller : w.controller ≡ b.controller.up
  pub held : w.held ≡ holding b.console.mode

-- ## A change of an end that keeps it. F and G are what is known of the J's and I's that stand before it

module _ (F G : ℕ → Type 0) where
  abbrev pub UpBears : {M : Type 0} → ToController M → Type 0
  UpBears p = ToControllerBears F G Any p

  abbrev pub DownBears : ToConsole → Type 0
  DownBears p = ToConsoleBears F G p

pub record Moves (F G : ℕ → Type 0) (M : Type 0) (v v' : View M) (awake : Bool) (since : Since) : Type 0 where
  pub core : Core M v' awake since
  pub ups : (p : ToController (Labelled M)) → UpBears F G p → Up v p → Up v' p
  pub downs : (p : ToConsole) → DownBears F G p → Down v p → Down v' p

abbrev pub NothingOn : ℕ → Type 0
NothingOn i = ⊥

-- nothing changes
pub stay : (F G : ℕ → Type 0) {M : Type 0} (v : View M) (awake : Bool) (since : Since) → Core M v awake since → Moves F G M v v awake since
stay F G v awake since c = record { core = c; ups = λ p k h. h; downs = λ p k h. h }
