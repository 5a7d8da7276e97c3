-- The two ends of document 01: what each is, does and refuses. An end run alone obeys these rules; the bench (specs/Bench.antt) adds
-- places and copies. Over messages of any type M and any supply of numbers. Assumes nothing.
use Rattle.std.specs.Prelude.{ℕ, Bool, true, false, not, List, [], ◌∷◌, eqb}
use Rattle.std.proofs.Math.Option.{Option, none, some}
use Rattle.ground.specs.Choice.{chosen, when◌then◌else◌}
use Rattle.ground.specs.First.{Rule, first, applies, refusal}
use Rattle.rules.specs.Supply.{Supply}

-- ## Packets, by direction

pub data ToController (M : Type 0) : Type 0 where
  need_i : ℕ → ToController M
  order : ℕ → M → ToController M  -- document 01's data
  done : ℕ → ToController M

pub data ToConsole : Type 0 where
  offer : ℕ → ℕ → ToConsole
  ok : ℕ → ToConsole
  lost : ℕ → ToConsole

-- ## Modes. A mode holds what is set in it: j and the message, last and the message; j and i, last

pub data ConsoleMode (M : Type 0) : Type 0 where
  idle : ConsoleMode M
  in_need_i : ℕ → M → ConsoleMode M
  in_send : ℕ → M → ConsoleMode M

pub data ControllerMode : Type 0 where
  idle : ControllerMode
  in_accept : ℕ → ℕ → ControllerMode
  in_ack : ℕ → ControllerMode

pub record End (S Mode : Type 0) : Type 0 where
  pub numbers : S
  pub mode : Mode
  pub up : Bool

abbrev pub Console : Type 0 → Type 0 → Type 0
Console S M = End S (ConsoleMode M)

abbrev pub Controller : Type 0 → Type 0
Controller S = End S ControllerMode

-- ## What an end is asked to do, and what comes of it

-- P Q D S C V A. S is given the packet; a bench has none where the place is not below the count
pub data ConsoleAct (M : Type 0) : Type 0 where
  put : M → ConsoleAct M
  send_need_i send_data : ConsoleAct M
  take : Option ToConsole → ConsoleAct M
  go_down come_back : ConsoleAct M
  tell_ack : ConsoleAct M

-- O K R X Y
pub data ControllerAct (M : Type 0) : Type 0 where
  send_offer send_ok : ControllerAct M
  take : Option (ToController M) → ControllerAct M
  go_down come_back : ControllerAct M

pub data Report (M : Type 0) : Type 0 where
  nothing : Report M
  delivered : M → Report M
  answered_ok answered_lost : Report M
  refused : ℕ → Report M

-- did it take a number? its mode then, what it reports, and the packet that it sends, if any
pub record Turn (M Mode Packet : Type 0) : Type 0 where
  pub took : Bool
  pub mode : Mode
  pub report : Report M
  pub sent : Option Packet

abbrev pub ConsoleTurn : Type 0 → Type 0
ConsoleTurn M = Turn M (ConsoleMode M) (ToController M)

abbrev pub ControllerTurn : Type 0 → Type 0
ControllerTurn M = Turn M ControllerMode ToConsole

abbrev pub turn : {M Mode Packet : Type 0} → Bool → Mode → Report M → Option Packet → Turn M Mode Packet
turn took mode report sent = record { took = took; mode = mode; report = report; sent = sent }

-- nothing is taken and nothing reported: the mode then, and the packet that goes out, or none
abbrev pub stays : {M Mode Packet : Type 0} → Mode → Option Packet → Turn M Mode Packet
stays mode sent = turn false mode nothing sent

-- ## What each action does. `next` is the number that the end's supply has next

module _ {M : Type 0} where
  -- P: hold the message, j := next J
  unfoldable pub puts : Option ℕ → ConsoleMode M → M → ConsoleTurn M
  puts none mode m = stays mode none
  puts (some j) mode m = turn true (in_need_i j m) nothing none

  -- Q, in needI: needI(j)
  unfoldable pub need_i_sent : ConsoleMode M → Option (ToController M)
  need_i_sent idle = none
  need_i_sent (in_need_i j m) = some (need_i j)
  need_i_sent (in_send last m) = none

  -- D, in send: data(last, message)
  unfoldable pub data_sent : ConsoleMode M → Option (ToController M)
  data_sent idle = none
  data_sent (in_need_i j m) = none
  data_sent (in_send last m) = some (order last m)

  -- S, by kind
  unfoldable pub console_takes : ConsoleMode M → ToConsole → ConsoleTurn M
  -- offer(J, I): in needI with J = j: j cleared, last := I. Otherwise, if I differs from last, reply done(I); if equal, dropped
  console_takes idle (offer J I) = stays idle (some (done I))
  console_takes (in_need_i j m) (offer J I) =
      when eqb J j then stays (in_send I m) none else stays (in_need_i j m) (some (done I))
  console_takes (in_send last m) (offer J I) =
      when eqb I last then stays (in_send last m) none else stays (in_send last m) (some (done I))
  -- OK(I): I = last: answer OK, message and last cleared, reply done(I). Any other: reply done(I)
  console_takes idle (ok I) = stays idle (some (done I))
  console_takes (in_need_i j m) (ok I) = stays (in_need_i j m) (some (done I))
  console_takes (in_send last m) (ok I) =
      when eqb I last then turn false idle answered_ok (some (done I)) else stays (in_send last m) (some (done I))
  -- lost(I): I = last: answer lost, message and last cleared, no reply. Any other: dropped
  console_takes idle (lost I) = stays idle none
  console_takes (in_need_i j m) (lost I) = stays (in_need_i j m) none
  console_takes (in_send last m) (lost I) =
      when eqb I last then turn false idle answered_lost none else stays (in_send last m) none

  -- R, by kind
  unfoldable pub controller_takes : Option ℕ → ControllerMode → ToController M → ControllerTurn M
  -- needI(J): if idle and numbers are not spent, j := J, i := next I. Otherwise dropped
  controller_takes none idle (need_i J) = stays idle none
  controller_takes (some i) idle (need_i J) = turn true (in_accept J i) nothing none
  controller_takes next (in_accept j i) (need_i J) = stays (in_accept j i) none
  controller_takes next (in_ack last) (need_i J) = stays (in_ack last) none
  -- data(I, m): I = i: deliver m, j and i cleared, last := I, reply OK(I). I = last: dropped. Any other: reply lost(I)
  controller_takes next idle (order I m) = stays idle (some (lost I))
  controller_takes next (in_accept j i) (order I m) =
      when eqb I i then turn false (in_ack I) (delivered m) (some (ok I)) else stays (in_accept j i) (some (lost I))
  controller_takes next (in_ack last) (order I m) =
      when eqb I last then stays (in_ack last) none else stays (in_ack last) (some (lost I))
  -- done(I): I = i: j and i cleared. I = last: last cleared. Any other: dropped
  controller_takes next idle (done I) = stays idle none
  controller_takes next (in_accept j i) (done I) = when eqb I i then stays idle none else stays (in_accept j i) none
  controller_takes next (in_ack last) (done I) = when eqb I last then stays idle none else stays (in_ack last) none

-- O, in accept: offer(j, i)
unfoldable pub offer_sent : ControllerMode → Option ToConsole
offer_sent idle = none
offer_sent (in_accept j i) = some (offer j i)
offer_sent (in_ack last) = none

-- K, in ack: OK(last)
unfoldable pub ok_sent : ControllerMode → Option ToConsole
ok_sent idle = none
ok_sent (in_accept j i) = none
ok_sent (in_ack last) = some (ok last)

module _ {M : Type 0} where
  -- going down clears nothing; coming back does
  unfoldable pub console_turn : Option ℕ → ConsoleMode M → ConsoleAct M → ConsoleTurn M
  console_turn next mode (put m) = puts next mode m
  console_turn next mode send_need_i = stays mode (need_i_sent mode)
  console_turn next mode send_data = stays mode (data_sent mode)
  console_turn next mode (take none) = stays mode none
  console_turn next mode (take (some p)) = console_takes mode p
  console_turn next mode go_down = stays mode none
  console_turn next mode come_back = stays idle none
  console_turn next mode tell_ack = stays mode none

  unfoldable pub controller_turn : Option ℕ → ControllerMode → ControllerAct M → ControllerTurn M
  controller_turn next mode send_offer = stays mode (offer_sent mode)
  controller_turn next mode send_ok = stays mode (ok_sent mode)
  controller_turn next mode (take none) = stays mode none
  controller_turn next mode (take (some p)) = controller_takes next mode p
  controller_turn next mode go_down = stays mode none
  controller_turn next mode come_back = stays idle none

-- ## The end afterwards

-- does an act bring the end down or back?
pub data Power : Type 0 where
  same falls returns : Power

module _ {M : Type 0} where
  abbrev pub console_power : ConsoleAct M → Power
  console_power (put m) = same
  console_power send_need_i = same
  console_power send_data = same
  console_power (take p) = same
  console_power go_down = falls
  console_power come_back = returns
  console_power tell_ack = same

  abbrev pub controller_power : ControllerAct M → Power
  controller_power send_offer = same
  controller_power send_ok = same
  controller_power (take p) = same
  controller_power go_down = falls
  controller_power come_back = returns

unfoldable pub up_after : Power → Bool → Bool
up_after same up = up
up_after falls up = false
up_after returns up = true

-- a number that was taken is used; last used survives a crash
unfoldable pub numbers_after : {S : Type 0} → Supply S → Power → Bool → S → S
numbers_after U same true s = U.take s
numbers_after U same false s = s
numbers_after U falls took s = s
numbers_after U returns took s = U.back s

unfoldable pub end_after : {S M Mode Packet : Type 0} → Supply S → Power → End S Mode → Turn M Mode Packet → End S Mode
end_after U power e t =
    record { numbers = numbers_after U power t.took e.numbers; mode = t.mode; up = up_after power e.up }

-- ## Refusals of an end: the rules that speak of each act. `refusal` looks at them in document 01's order

unfoldable pub absent : {A : Type 0} → Option A → Bool
absent none = true
absent (some x) = false

unfoldable pub holding : {M : Type 0} → ConsoleMode M → Bool
holding idle = false
holding (in_need_i j m) = true
holding (in_send last m) = true

-- 7: data or done whose I is above the controller's last used; of no packet it says nothing
unfoldable pub unknown : {M : Type 0} → (ℕ → Bool) → Option (ToController M) → Bool
unknown used none = false
unknown used (some (need_i J)) = false
unknown used (some (order I m)) = not (used I)
unknown used (some (done I)) = not (used I)

-- 4, of an act that asks for an end that is up; 5, of coming back
abbrev pub down_4 : Bool → Rule
down_4 up = (4, not up)

abbrev pub up_5 : Bool → Rule
up_5 up = (5, up)

-- 6, of an act that sends: the mode has nothing for it to send
abbrev pub mode_6 : {Packet : Type 0} → Option Packet → Rule
mode_6 sent = (6, absent sent)

module _ {S M : Type 0} (U : Supply S) where
  unfoldable pub console_rules : (M → Bool) → Console S M → ConsoleAct M → List Rule
  console_rules good e (put m) =
      (11, not (good m)) ∷ down_4 e.up ∷ (6, holding e.mode) ∷ (8, absent (U.next e.numbers)) ∷ []
  console_rules good e send_need_i = down_4 e.up ∷ mode_6 (need_i_sent e.mode) ∷ []
  console_rules good e send_data = down_4 e.up ∷ mode_6 (data_sent e.mode) ∷ []
  console_rules good e (take p) = down_4 e.up ∷ []
  console_rules good e go_down = []
  console_rules good e come_back = up_5 e.up ∷ []
  console_rules good e tell_ack = down_4 e.up ∷ (6, holding e.mode) ∷ []

  unfoldable pub controller_rules : Controller S → ControllerAct M → List Rule
  controller_rules e send_offer = down_4 e.up ∷ mode_6 (offer_sent e.mode) ∷ []
  controller_rules e send_ok = down_4 e.up ∷ mode_6 (ok_sent e.mode) ∷ []
  controller_rules e (take p) = down_4 e.up ∷ (7, unknown (U.used e.numbers) p) ∷ []
  controller_rules e go_down = []
  controller_rules e come_back = up_5 e.up ∷ []

-- ## An end's step: what it reports and sends, and the end afterwards

pub record Acted (S M Mode Packet : Type 0) : Type 0 where
  pub report : Report M
  pub sent : Option Packet
  pub after : End S Mode

abbrev pub ConsoleActed : Type 0 → Type 0 → Type 0
ConsoleActed S M = Acted S M (ConsoleMode M) (ToController M)

abbrev pub ControllerActed : Type 0 → Type 0 → Type 0
ControllerActed S M = Acted S M ControllerMode ToConsole

module _ {S M : Type 0} (U : Supply S) where
  unfoldable pub console_acts : Console S M → ConsoleAct M → ConsoleActed S M
  console_acts e act =
      let t = console_turn (U.next e.numbers) e.mode act in
      record { report = t.report; sent = t.sent; after = end_after U (console_power act) e t }

  unfoldable pub controller_acts : Controller S → ControllerAct M → ControllerActed S M
  controller_acts e act =
      let t = controller_turn (U.next e.numbers) e.mode act in
      record { report = t.report; sent = t.sent; after = end_after U (controller_power act) e t }

  unfoldable pub console_step : (M → Bool) → Console S M → ConsoleAct M → ConsoleActed S M
  console_step good e act =
      let n = refusal (console_rules U good e act) in
      when eqb n 0 then console_acts e act else record { report = refused n; sent = none; after = e }

  unfoldable pub controller_step : Controller S → ControllerAct M → ControllerActed S M
  controller_step e act =
      let n = refusal (controller_rules U e act) in
      when eqb n 0 then controller_acts e act else record { report = refused n; sent = none; after = e }

-- for proofs: `unfolding ends` opens every definition of the ends' rules
unfoldable pub ends : Unit {0}
unfolding chosen first applies refusal puts need_i_sent data_sent console_takes controller_takes offer_sent ok_sent
    console_turn controller_turn up_after numbers_after end_after absent holding unknown console_rules controller_rules
    console_acts controller_acts console_step controller_step
ends = tt
