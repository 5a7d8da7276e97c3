-- Every step, of an end and of the bench, is the step on what its numbers put on offer, and then the move of the numbers: for every supply,
-- whatever its laws. Assumes nothing.
use Prim.Native.Nat.{ℕ}
use mathlib.Core.Path.{◌≡◌, refl, sym, subst, ◌∙◌}
use mathlib.Core.Bool.{Bool, true, false, not, not-not, true≢false}
use mathlib.Core.Option.{Option, none, some}
use lib.Dec.{eqb}
use Rattle.ground.specs.First.{refusal}
use Rattle.rules.specs.Supply.{Supply}
use Rattle.rules.specs.Letters.{ConsoleAsk, to_put, to_send_need_i, to_send_data, to_tell_ack, ControllerAsk, to_send_offer, to_send_ok, Asks, the_console, the_controller, neither_end, line}
use Rattle.rules.specs.Ends.{ToController, need_i, order, done, Console, Controller, ConsoleAct, ControllerAct, put, send_need_i, send_data, tell_ack}
use Rattle.rules.specs.Ends.{send_offer, send_ok, Power, same, falls, returns, numbers_after, end_after, unknown, console_rules, controller_rules}
use Rattle.rules.specs.Ends.{console_acts, controller_acts, console_step, controller_step, ConsoleMode, in_need_i, in_send, ControllerMode, in_accept, in_ack}
use Rattle.rules.specs.Ends.{ToConsole, offer, ok, lost, ConsoleTurn, ControllerTurn, puts, absent, console_takes, controller_takes, console_turn, controller_turn}
use Rattle.rules.specs.Bench.{Bench, Action, Outcome, Asked, console, controller, no_end, Taken, from_neither, from_to_controller, from_to_console, at}
use Rattle.rules.specs.Bench.{asked_to, asks, takes, missing, taken_out, does, effect, end_rules, no_room, rules_of, step}
use Rattle.rules.specs.Offered.{Move, unmoved, took_one, came_back, Offer, offered, moved, OnOffer, end_offering, packet_of, gave, console_offering}
use Rattle.rules.specs.Offered.{console_moved_on, controller_offering, controller_moved_on, bench_offering, offering, moved_on}
use Rattle.rules.proofs.Lists.{if_map, if_holds}

-- 7 on the offer is 7 on the numbers
pub unknown_by_offer : {M : Type 0} (used : ℕ → Bool) (p : Option (ToController M)) → unknown (λ n. not (unknown used p)) p ≡ unknown used p
unfolding unknown
unknown_by_offer used none = refl
unknown_by_offer used (some (need_i J)) = refl
unknown_by_offer used (some (order I m)) = not-not _
unknown_by_offer used (some (done I)) = not-not _

module _ {S : Type 0} (U : Supply S) where
  numbers_by_offer : (known : Bool) (power : Power) (took : Bool) (s : S)
      → numbers_after U power took s ≡ moved U (numbers_after offered power took (OnOffer U known s)).move s
  unfolding numbers_after moved
  numbers_by_offer known same true s = refl
  numbers_by_offer known same false s = refl
  numbers_by_offer known falls took s = refl
  numbers_by_offer known returns took s = refl

module _ {S M : Type 0} (U : Supply S) where
  -- ## The ends. Without refusals the controller's `known` is not looked at

  pub console_acts_by_offer : (e : Console S M) (act : ConsoleAct M)
      → console_acts U e act ≡ console_moved_on U e (console_acts offered (console_offering U e) act)
  unfolding console_acts end_after console_offering console_moved_on
  console_acts_by_offer e act = rw (numbers_by_offer U true)

  controller_acts_known : (known : Bool) (e : Controller S) (act : ControllerAct M)
      → controller_acts U e act ≡ controller_moved_on U e (controller_acts offered (end_offering U known e) act)
  unfolding controller_acts end_after controller_moved_on
  controller_acts_known known e act = rw (numbers_by_offer U known)

  pub controller_acts_by_offer : (e : Controller S) (act : ControllerAct M)
      → controller_acts U e act ≡ controller_moved_on U e (controller_acts offered (controller_offering U e act) act)
  unfolding controller_offering
  controller_acts_by_offer e act = controller_acts_known _ e act

  console_rules_by_offer : (good : M → Bool) (e : Console S M) (act : ConsoleAct M)
      → console_rules offered good (end_offering U true e) act ≡ console_rules U good e act
  unfolding console_rules
  console_rules_by_offer good e (put m) = refl
  console_rules_by_offer good e send_need_i = refl
  console_rules_by_offer good e send_data = refl
  console_rules_by_offer good e (ConsoleAct.take p) = refl
  console_rules_by_offer good e ConsoleAct.go_down = refl
  console_rules_by_offer good e ConsoleAct.come_back = refl
  console_rules_by_offer good e tell_ack = refl

  -- of the packet that the act takes, `known` makes 7 say what the numbers make it say
  abbrev pub Same7 : Bool → S → ControllerAct M → Type 0
  Same7 known s act = unknown (λ n. known) (packet_of act) ≡ unknown (U.used s) (packet_of act)

  controller_rules_by_offer : (known : Bool) (e : Controller S) (act : ControllerAct M) → Same7 known e.numbers act
      → controller_rules offered (end_offering U known e) act ≡ controller_rules U e act
  unfolding controller_rules packet_of
  controller_rules_by_offer known e send_offer h = refl
  controller_rules_by_offer known e send_ok h = refl
  controller_rules_by_offer known e (ControllerAct.take p) h = rw h
  controller_rules_by_offer known e ControllerAct.go_down h = refl
  controller_rules_by_offer known e ControllerAct.come_back h = refl

  pub console_step_by_offer : (good : M → Bool) (e : Console S M) (act : ConsoleAct M)
      → console_step U good e act ≡ console_moved_on U e (console_step offered good (console_offering U e) act)
  unfolding console_step console_offering console_moved_on moved
  console_step_by_offer good e act =
      rw (console_rules_by_offer, console_acts_by_offer) (sym (if_map (console_moved_on U e) (eqb (refusal (console_rules U good e act)) 0) _ _))

  pub controller_step_by_offer : (e : Controller S) (act : ControllerAct M)
      → controller_step U e act ≡ controller_moved_on U e (controller_step offered (controller_offering U e act) act)
  unfolding controller_step controller_offering controller_moved_on moved
  controller_step_by_offer e act =
      let seven = unknown_by_offer (U.used e.numbers) (packet_of act) in
      rw (controller_rules_by_offer, controller_acts_by_offer)
      (sym (if_map (controller_moved_on U e) (eqb (refusal (controller_rules U e act)) 0) _ _))

  -- ## The bench

  module _ (known : Bool) (b : Bench S M) where
    abbrev pub on : Bench Offer M
    on = bench_offering U known b

    does_by_offer : (n : ℕ) (x : Asked M) → does U b n x ≡ moved_on U b (does offered on n x)
    unfolding does moved moved_on console_offering console_moved_on controller_moved_on
    does_by_offer n (console act) = rw console_acts_by_offer
    does_by_offer n (controller act) = rw (controller_acts_known known)
    does_by_offer n no_end = refl

    no_room_by_offer : (n : ℕ) (x : Asked M) → no_room offered on n x ≡ no_room U b n x
    unfolding no_room console_acts controller_acts
    no_room_by_offer n (console act) = refl
    no_room_by_offer n (controller act) = refl
    no_room_by_offer n no_end = refl

    missing_by_offer : (t : Taken) (k : ℕ) → missing t on k ≡ missing t b k
    unfolding missing
    missing_by_offer from_neither k = refl
    missing_by_offer from_to_controller k = refl
    missing_by_offer from_to_console k = refl

    abbrev pub AskedSame7 : Asked M → Type 0
    AskedSame7 (console act) = Unit {0}
    AskedSame7 (controller act) = Same7 known b.controller.numbers act
    AskedSame7 no_end = Unit {0}

    end_rules_by_offer : (good : M → Bool) (x : Asked M) → AskedSame7 x → end_rules offered good on x ≡ end_rules U good b x
    unfolding end_rules
    end_rules_by_offer good (console act) h = console_rules_by_offer good b.console act
    end_rules_by_offer good (controller act) h = controller_rules_by_offer known b.controller act h
    end_rules_by_offer good no_end h = refl

  -- `known` is of the packet that is taken, so it stays when the packet is out of the channel
  left_by_offer : (known : Bool) (b : Bench S M) (t : Taken) (k n : ℕ) (x : Asked M)
      → does U (taken_out t b k) n x ≡ moved_on U b (does offered (taken_out t (on known b) k) n x)
  unfolding taken_out moved_on
  left_by_offer known b from_neither k n x = does_by_offer known b n x
  left_by_offer known b from_to_controller k n x = does_by_offer known (taken_out from_to_controller b k) n x
  left_by_offer known b from_to_console k n x = does_by_offer known (taken_out from_to_console b k) n x

  -- what is asked is the same, whatever is known
  asked_so : (known : Bool) (b : Bench S M) (k : ℕ) (m : M) (x : Asks) → asked_to x (on known b) k m ≡ asked_to x b k m
  asked_so known b k m (the_console to_put) = refl
  asked_so known b k m (the_console to_send_need_i) = refl
  asked_so known b k m (the_console to_send_data) = refl
  asked_so known b k m (the_console ConsoleAsk.to_take) = refl
  asked_so known b k m (the_console ConsoleAsk.to_go_down) = refl
  asked_so known b k m (the_console ConsoleAsk.to_come_back) = refl
  asked_so known b k m (the_console to_tell_ack) = refl
  asked_so known b k m (the_controller to_send_offer) = refl
  asked_so known b k m (the_controller to_send_ok) = refl
  asked_so known b k m (the_controller ControllerAsk.to_take) = refl
  asked_so known b k m (the_controller ControllerAsk.to_go_down) = refl
  asked_so known b k m (the_controller ControllerAsk.to_come_back) = refl
  asked_so known b k m neither_end = refl

  -- `known` need be right of the packet that is taken only
  module _ (good : M → Bool) (known : Bool) (b : Bench S M) (a : Action M) (seven : AskedSame7 known b (asks b a.letter a.place a.message)) where
    rules_so : rules_of offered good (on known b) a ≡ rules_of U good b a
    unfolding rules_of asks
    rules_so = rw (asked_so known b a.place a.message (line a.letter).asks, missing_by_offer, no_room_by_offer, end_rules_by_offer)

    effect_so : effect U b a ≡ moved_on U b (effect offered (on known b) a)
    unfolding effect asks
    effect_so = rw (asked_so known b a.place a.message (line a.letter).asks) (left_by_offer _ b (takes a.letter) a.place a.copies _)

    pub step_offering : step U good b a ≡ moved_on U b (step offered good (on known b) a)
    unfolding step moved_on moved
    step_offering = rw (rules_so, effect_so) (sym (if_map (moved_on U b) (eqb (refusal (rules_of U good b a)) 0) _ _))

  same_7 : (b : Bench S M) (k : ℕ) (m : M) (x : Asks) → AskedSame7 (gave U b.controller.numbers (at b.to_controller k)) b (asked_to x b k m)
  unfolding packet_of unknown
  same_7 b k m (the_console to_put) = tt
  same_7 b k m (the_console to_send_need_i) = tt
  same_7 b k m (the_console to_send_data) = tt
  same_7 b k m (the_console ConsoleAsk.to_take) = tt
  same_7 b k m (the_console ConsoleAsk.to_go_down) = tt
  same_7 b k m (the_console ConsoleAsk.to_come_back) = tt
  same_7 b k m (the_console to_tell_ack) = tt
  same_7 b k m (the_controller to_send_offer) = refl
  same_7 b k m (the_controller to_send_ok) = refl
  same_7 b k m (the_controller ControllerAsk.to_take) = unknown_by_offer _ (at b.to_controller k)
  same_7 b k m (the_controller ControllerAsk.to_go_down) = refl
  same_7 b k m (the_controller ControllerAsk.to_come_back) = refl
  same_7 b k m neither_end = tt

  pub step_by_offer : (good : M → Bool) (b : Bench S M) (a : Action M) → step U good b a ≡ moved_on U b (step offered good (offering U b a) a)
  unfolding offering asks
  step_by_offer good b a = step_offering good _ b a (same_7 b a.place a.message (line a.letter).asks)

-- ## A number is taken only where one is on offer

abbrev pub TakenOne : Move → Type 0
TakenOne unmoved = ⊥
TakenOne took_one = Unit {0}
TakenOne came_back = ⊥

module _ {M : Type 0} where
  abbrev Stays : ConsoleTurn M → Type 0
  Stays t = t.took ≡ false

  console_takes_stay : (mode : ConsoleMode M) (p : ToConsole) → Stays (console_takes mode p)
  unfolding console_takes
  console_takes_stay ConsoleMode.idle (offer J I) = refl
  console_takes_stay (in_need_i j m) (offer J I) = if_holds Stays _ _ _ (λ e. refl) (λ e. refl)
  console_takes_stay (in_send last m) (offer J I) = if_holds Stays _ _ _ (λ e. refl) (λ e. refl)
  console_takes_stay ConsoleMode.idle (ok I) = refl
  console_takes_stay (in_need_i j m) (ok I) = refl
  console_takes_stay (in_send last m) (ok I) = if_holds Stays _ _ _ (λ e. refl) (λ e. refl)
  console_takes_stay ConsoleMode.idle (lost I) = refl
  console_takes_stay (in_need_i j m) (lost I) = refl
  console_takes_stay (in_send last m) (lost I) = if_holds Stays _ _ _ (λ e. refl) (λ e. refl)

  pub console_took : (next : Option ℕ) (mode : ConsoleMode M) (act : ConsoleAct M) → (console_turn next mode act).took ≡ true → absent next ≡ false
  unfolding console_turn puts absent
  console_took none mode (put m) h = absurd (true≢false (sym h))
  console_took (some j) mode (put m) h = refl
  console_took next mode send_need_i h = absurd (true≢false (sym h))
  console_took next mode send_data h = absurd (true≢false (sym h))
  console_took next mode (ConsoleAct.take none) h = absurd (true≢false (sym h))
  console_took next mode (ConsoleAct.take (some p)) h = absurd (true≢false (sym h ∙ console_takes_stay mode p))
  console_took next mode ConsoleAct.go_down h = absurd (true≢false (sym h))
  console_took next mode ConsoleAct.come_back h = absurd (true≢false (sym h))
  console_took next mode tell_ack h = absurd (true≢false (sym h))

  abbrev StaysPut : ControllerTurn M → Type 0
  StaysPut t = t.took ≡ false

  -- only a needI takes one
  abbrev NoNeed : ToController M → Type 0
  NoNeed (need_i J) = ⊥
  NoNeed (order I m) = Unit {0}
  NoNeed (done I) = Unit {0}

  controller_takes_stay : (next : Option ℕ) (mode : ControllerMode) (p : ToController M) → NoNeed p → StaysPut (controller_takes next mode p)
  unfolding controller_takes
  controller_takes_stay next mode (need_i J) h = absurd h
  controller_takes_stay next ControllerMode.idle (order I m) h = refl
  controller_takes_stay next (in_accept j i) (order I m) h = if_holds StaysPut _ _ _ (λ e. refl) (λ e. refl)
  controller_takes_stay next (in_ack last) (order I m) h = if_holds StaysPut _ _ _ (λ e. refl) (λ e. refl)
  controller_takes_stay next ControllerMode.idle (done I) h = refl
  controller_takes_stay next (in_accept j i) (done I) h = if_holds StaysPut _ _ _ (λ e. refl) (λ e. refl)
  controller_takes_stay next (in_ack last) (done I) h = if_holds StaysPut _ _ _ (λ e. refl) (λ e. refl)

  pub controller_took : (next : Option ℕ) (mode : ControllerMode) (act : ControllerAct M) → (controller_turn next mode act).took ≡ true → absent next ≡ false
  unfolding controller_turn controller_takes absent
  controller_took next mode send_offer h = absurd (true≢false (sym h))
  controller_took next mode send_ok h = absurd (true≢false (sym h))
  controller_took next mode (ControllerAct.take none) h = absurd (true≢false (sym h))
  controller_took none ControllerMode.idle (ControllerAct.take (some (need_i J))) h = absurd (true≢false (sym h))
  controller_took (some i) ControllerMode.idle (ControllerAct.take (some (need_i J))) h = refl
  controller_took next (in_accept j i) (ControllerAct.take (some (need_i J))) h = absurd (true≢false (sym h))
  controller_took next (in_ack last) (ControllerAct.take (some (need_i J))) h = absurd (true≢false (sym h))
  controller_took next mode (ControllerAct.take (some (order I m))) h = absurd (true≢false (sym h ∙ controller_takes_stay next mode (order I m) tt))
  controller_took next mode (ControllerAct.take (some (done I))) h = absurd (true≢false (sym h ∙ controller_takes_stay next mode (done I) tt))
  controller_took next mode ControllerAct.go_down h = absurd (true≢false (sym h))
  controller_took next mode ControllerAct.come_back h = absurd (true≢false (sym h))

numbers_took : (power : Power) (took : Bool) (o : Offer) → o.move ≡ unmoved → TakenOne (numbers_after offered power took o).move → took ≡ true
unfolding numbers_after
numbers_took same true o h t = refl
numbers_took same false o h t = absurd (subst TakenOne h t)
numbers_took falls took o h t = absurd (subst TakenOne h t)
numbers_took returns took o h t = absurd t

module _ {M : Type 0} (b : Bench Offer M) (c : b.console.numbers.move ≡ unmoved) (d : b.controller.numbers.move ≡ unmoved) where
  -- of either end: what was taken was on offer
  abbrev There : Bench Offer M → Type 0
  There x =
      (TakenOne x.console.numbers.move → absent b.console.numbers.next ≡ false)
      × (TakenOne x.controller.numbers.move → absent b.controller.numbers.next ≡ false)

  there_still : There b
  there_still = (λ t. absurd (subst TakenOne c t), λ t. absurd (subst TakenOne d t))

  does_there : (t : Taken) (k n : ℕ) (x : Asked M) → There (does offered (taken_out t b k) n x).after
  unfolding does taken_out console_acts controller_acts end_after
  does_there t k n (console act) = acting t
    where
      acting : (t : Taken) → There (does offered (taken_out t b k) n (console act)).after
      acting from_neither = (λ h. console_took _ _ act (numbers_took _ _ _ c h), λ h. absurd (subst TakenOne d h))
      acting from_to_controller = (λ h. console_took _ _ act (numbers_took _ _ _ c h), λ h. absurd (subst TakenOne d h))
      acting from_to_console = (λ h. console_took _ _ act (numbers_took _ _ _ c h), λ h. absurd (subst TakenOne d h))
  does_there t k n (controller act) = acting t
    where
      acting : (t : Taken) → There (does offered (taken_out t b k) n (controller act)).after
      acting from_neither = (λ h. absurd (subst TakenOne c h), λ h. controller_took _ _ act (numbers_took _ _ _ d h))
      acting from_to_controller = (λ h. absurd (subst TakenOne c h), λ h. controller_took _ _ act (numbers_took _ _ _ d h))
      acting from_to_console = (λ h. absurd (subst TakenOne c h), λ h. controller_took _ _ act (numbers_took _ _ _ d h))
  does_there from_neither k n no_end = there_still
  does_there from_to_controller k n no_end = there_still
  does_there from_to_console k n no_end = there_still

  pub step_there : (good : M → Bool) (a : Action M) → There (step offered good b a).after
  unfolding step effect
  step_there good a =
      if_holds (λ (o : Outcome Offer M). There o.after) (eqb (refusal (rules_of offered good b a)) 0) _ _
      (λ e. does_there (takes a.letter) a.place a.copies (asks b a.letter a.place a.message)) (λ e. there_still)
