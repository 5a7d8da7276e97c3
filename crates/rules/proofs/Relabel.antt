-- A bench does not look into its messages: a change of the messages goes through every step. Assumes nothing.
use Prim.Native.Nat.{ℕ, zero, suc}
use mathlib.Core.Path.{◌≡◌, refl, ap, sym}
use mathlib.Core.Bool.{Bool}
use mathlib.Core.Option
use mathlib.Core.Option.{Option, none, some}
use mathlib.Core.List.{List, [], ◌∷◌, ◌++◌, map}
use lib.ListN.{replicate, length-map}
use lib.Dec.{eqb}
use Rattle.ground.specs.First.{refusal}
use Rattle.rules.specs.Supply.{Supply}
use Rattle.rules.specs.Letters.{Letter, ConsoleAsk, to_put, to_send_need_i, to_send_data, to_tell_ack, ControllerAsk, to_send_offer, to_send_ok, Asks, the_console, the_controller, neither_end, line}
use Rattle.rules.specs.Ends.{ControllerTurn, ConsoleTurn, ToController, need_i, order, done, ToConsole, offer}
use Rattle.rules.specs.Ends.{ok, lost, ConsoleMode, in_need_i, in_send, ControllerMode, in_accept, in_ack, Console, Controller, ConsoleAct}
use Rattle.rules.specs.Ends.{put, send_need_i, send_data, tell_ack, ControllerAct, send_offer, send_ok, puts, need_i_sent, data_sent, console_takes}
use Rattle.rules.specs.Ends.{controller_takes, console_turn, controller_turn, console_power, controller_power, end_after, absent, holding}
use Rattle.rules.specs.Ends.{unknown, console_rules, controller_rules, console_acts, controller_acts, console_step, controller_step}
use Rattle.rules.specs.Bench.{Bench, Action, Asked, console, controller, no_end, Taken, from_neither, from_to_controller, from_to_console, at}
use Rattle.rules.specs.Bench.{without, copies_of, asked_to, asks, missing, taken_out, does, effect, exceed, end_rules, no_room, rules_of, step}
use Rattle.rules.specs.Relabel.{in_packet, in_mode, in_console, in_console_act, in_controller_act, in_console_acted, in_controller_acted, in_bench, in_action, in_report, in_outcome}
use Rattle.rules.proofs.Lists.{if_map}

-- ## Lists

module _ {A B : Type 0} (f : A → B) where
  pub map_append : (s t : List A) → map f (s ++ t) ≡ map f s ++ map f t
  map_append [] t = refl
  map_append (x ∷ s) t = ap {B = List B} (λ r. f x ∷ r) (map_append s t)

  map_replicate : (n : ℕ) (a : A) → map f (replicate n a) ≡ replicate n (f a)
  map_replicate zero a = refl
  map_replicate (suc n) a = ap {B = List B} (λ r. f a ∷ r) (map_replicate n a)

  map_at : (l : List A) (k : ℕ) → at (map f l) k ≡ Option.map f (at l k)
  unfolding at
  map_at [] k = refl
  map_at (x ∷ l) zero = refl
  map_at (x ∷ l) (suc k) = map_at l k

  map_without : (l : List A) (k : ℕ) → without (map f l) k ≡ map f (without l k)
  unfolding without
  map_without [] k = refl
  map_without (x ∷ l) zero = refl
  map_without (x ∷ l) (suc k) = ap {B = List B} (λ r. f x ∷ r) (map_without l k)

  pub map_copies : (n : ℕ) (p : Option A) → copies_of n (Option.map f p) ≡ map f (copies_of n p)
  unfolding copies_of
  map_copies n none = refl
  map_copies n (some p) = sym (map_replicate n p)

  map_absent : (p : Option A) → absent (Option.map f p) ≡ absent p
  unfolding absent
  map_absent none = refl
  map_absent (some p) = refl

  map_exceed : (l : List A) (n : ℕ) (p : Option A) → exceed (map f l) n (Option.map f p) ≡ exceed l n p
  unfolding exceed
  map_exceed l n p = simp (map_copies, length-map)

module _ {M N : Type 0} (f : M → N) where
  -- ## An end's turn

  in_console_turn : ConsoleTurn M → ConsoleTurn N
  in_console_turn t = record { took = t.took; mode = in_mode f t.mode; report = in_report f t.report; sent = Option.map (in_packet f) t.sent }

  in_controller_turn : ControllerTurn M → ControllerTurn N
  in_controller_turn t = record { took = t.took; mode = t.mode; report = in_report f t.report; sent = t.sent }

  nat_puts : (next : Option ℕ) (mode : ConsoleMode M) (m : M) → puts next (in_mode f mode) (f m) ≡ in_console_turn (puts next mode m)
  unfolding puts in_console_turn
  nat_puts none mode m = refl
  nat_puts (some j) mode m = refl

  nat_need_i_sent : (mode : ConsoleMode M) → need_i_sent (in_mode f mode) ≡ Option.map (in_packet f) (need_i_sent mode)
  unfolding need_i_sent
  nat_need_i_sent ConsoleMode.idle = refl
  nat_need_i_sent (in_need_i j m) = refl
  nat_need_i_sent (in_send last m) = refl

  nat_data_sent : (mode : ConsoleMode M) → data_sent (in_mode f mode) ≡ Option.map (in_packet f) (data_sent mode)
  unfolding data_sent
  nat_data_sent ConsoleMode.idle = refl
  nat_data_sent (in_need_i j m) = refl
  nat_data_sent (in_send last m) = refl

  nat_console_takes : (mode : ConsoleMode M) (p : ToConsole) → console_takes (in_mode f mode) p ≡ in_console_turn (console_takes mode p)
  unfolding console_takes in_console_turn
  nat_console_takes ConsoleMode.idle (offer J I) = refl
  nat_console_takes (in_need_i j m) (offer J I) = sym (if_map in_console_turn _ _ _)
  nat_console_takes (in_send last m) (offer J I) = sym (if_map in_console_turn _ _ _)
  nat_console_takes ConsoleMode.idle (ok I) = refl
  nat_console_takes (in_need_i j m) (ok I) = refl
  nat_console_takes (in_send last m) (ok I) = sym (if_map in_console_turn _ _ _)
  nat_console_takes ConsoleMode.idle (lost I) = refl
  nat_console_takes (in_need_i j m) (lost I) = refl
  nat_console_takes (in_send last m) (lost I) = sym (if_map in_console_turn _ _ _)

  nat_controller_takes : (next : Option ℕ) (mode : ControllerMode) (p : ToController M)
      → controller_takes next mode (in_packet f p) ≡ in_controller_turn (controller_takes next mode p)
  unfolding controller_takes in_controller_turn
  nat_controller_takes none ControllerMode.idle (need_i J) = refl
  nat_controller_takes (some i) ControllerMode.idle (need_i J) = refl
  nat_controller_takes next (in_accept j i) (need_i J) = refl
  nat_controller_takes next (in_ack last) (need_i J) = refl
  nat_controller_takes next ControllerMode.idle (order I m) = refl
  nat_controller_takes next (in_accept j i) (order I m) = sym (if_map in_controller_turn _ _ _)
  nat_controller_takes next (in_ack last) (order I m) = sym (if_map in_controller_turn _ _ _)
  nat_controller_takes next ControllerMode.idle (done I) = refl
  nat_controller_takes next (in_accept j i) (done I) = sym (if_map in_controller_turn _ _ _)
  nat_controller_takes next (in_ack last) (done I) = sym (if_map in_controller_turn _ _ _)

  -- ## What an action asks of an end

  abbrev pub in_asked : Asked M → Asked N
  in_asked (console act) = console (in_console_act f act)
  in_asked (controller act) = controller (in_controller_act f act)
  in_asked no_end = no_end

  nat_console_turn : (next : Option ℕ) (mode : ConsoleMode M) (act : ConsoleAct M)
      → console_turn next (in_mode f mode) (in_console_act f act) ≡ in_console_turn (console_turn next mode act)
  unfolding console_turn in_console_turn
  nat_console_turn next mode (put m) = nat_puts next mode m
  nat_console_turn next mode send_need_i = rw nat_need_i_sent
  nat_console_turn next mode send_data = rw nat_data_sent
  nat_console_turn next mode (ConsoleAct.take none) = refl
  nat_console_turn next mode (ConsoleAct.take (some p)) = nat_console_takes mode p
  nat_console_turn next mode ConsoleAct.go_down = refl
  nat_console_turn next mode ConsoleAct.come_back = refl
  nat_console_turn next mode tell_ack = refl

  nat_controller_turn : (next : Option ℕ) (mode : ControllerMode) (act : ControllerAct M)
      → controller_turn next mode (in_controller_act f act) ≡ in_controller_turn (controller_turn next mode act)
  unfolding controller_turn in_controller_turn
  nat_controller_turn next mode send_offer = refl
  nat_controller_turn next mode send_ok = refl
  nat_controller_turn next mode (ControllerAct.take none) = refl
  nat_controller_turn next mode (ControllerAct.take (some p)) = nat_controller_takes next mode p
  nat_controller_turn next mode ControllerAct.go_down = refl
  nat_controller_turn next mode ControllerAct.come_back = refl

  same_console_power : (act : ConsoleAct M) → console_power (in_console_act f act) ≡ console_power act
  same_console_power (put m) = refl
  same_console_power send_need_i = refl
  same_console_power send_data = refl
  same_console_power (ConsoleAct.take p) = refl
  same_console_power ConsoleAct.go_down = refl
  same_console_power ConsoleAct.come_back = refl
  same_console_power tell_ack = refl

  same_controller_power : (act : ControllerAct M) → controller_power (in_controller_act f act) ≡ controller_power act
  same_controller_power send_offer = refl
  same_controller_power send_ok = refl
  same_controller_power (ControllerAct.take p) = refl
  same_controller_power ControllerAct.go_down = refl
  same_controller_power ControllerAct.come_back = refl

  nat_holding : (mode : ConsoleMode M) → holding (in_mode f mode) ≡ holding mode
  unfolding holding
  nat_holding ConsoleMode.idle = refl
  nat_holding (in_need_i j m) = refl
  nat_holding (in_send last m) = refl

  nat_unknown : (used : ℕ → Bool) (p : Option (ToController M)) → unknown used (Option.map (in_packet f) p) ≡ unknown used p
  unfolding unknown
  nat_unknown used none = refl
  nat_unknown used (some (need_i J)) = refl
  nat_unknown used (some (order I m)) = refl
  nat_unknown used (some (done I)) = refl

  module _ {S : Type 0} (U : Supply S) where
    pub nat_console_acts : (e : Console S M) (act : ConsoleAct M)
        → console_acts U (in_console f e) (in_console_act f act) ≡ in_console_acted f (console_acts U e act)
    unfolding console_acts end_after in_console_turn
    nat_console_acts e act = rw (same_console_power, nat_console_turn)

    pub nat_controller_acts : (e : Controller S) (act : ControllerAct M)
        → controller_acts U e (in_controller_act f act) ≡ in_controller_acted f (controller_acts U e act)
    unfolding controller_acts end_after in_controller_turn
    nat_controller_acts e act = rw (same_controller_power, nat_controller_turn)

    module _ (good : M → Bool) (good' : N → Bool) (same : (m : M) → good' (f m) ≡ good m) where
      nat_console_rules : (e : Console S M) (act : ConsoleAct M)
          → console_rules U good' (in_console f e) (in_console_act f act) ≡ console_rules U good e act
      unfolding console_rules
      nat_console_rules e (put m) = simp (same, nat_holding)
      nat_console_rules e send_need_i = simp (nat_need_i_sent, map_absent)
      nat_console_rules e send_data = simp (nat_data_sent, map_absent)
      nat_console_rules e (ConsoleAct.take p) = refl
      nat_console_rules e ConsoleAct.go_down = refl
      nat_console_rules e ConsoleAct.come_back = refl
      nat_console_rules e tell_ack = simp nat_holding

      pub nat_console_step : (e : Console S M) (act : ConsoleAct M)
          → console_step U good' (in_console f e) (in_console_act f act) ≡ in_console_acted f (console_step U good e act)
      unfolding console_step
      nat_console_step e act =
          rw (nat_console_rules, nat_console_acts) (sym (if_map (in_console_acted f) (eqb (refusal (console_rules U good e act)) 0) _ _))

    nat_controller_rules : (e : Controller S) (act : ControllerAct M)
        → controller_rules U e (in_controller_act f act) ≡ controller_rules U e act
    unfolding controller_rules
    nat_controller_rules e send_offer = refl
    nat_controller_rules e send_ok = refl
    nat_controller_rules e (ControllerAct.take p) = simp nat_unknown
    nat_controller_rules e ControllerAct.go_down = refl
    nat_controller_rules e ControllerAct.come_back = refl

    pub nat_controller_step : (e : Controller S) (act : ControllerAct M)
        → controller_step U e (in_controller_act f act) ≡ in_controller_acted f (controller_step U e act)
    unfolding controller_step
    nat_controller_step e act =
        rw (nat_controller_rules, nat_controller_acts) (sym (if_map (in_controller_acted f) (eqb (refusal (controller_rules U e act)) 0) _ _))

    -- ## The bench

    nat_asked_to : (x : Asks) (b : Bench S M) (k : ℕ) (m : M) → asked_to x (in_bench f b) k (f m) ≡ in_asked (asked_to x b k m)
    nat_asked_to (the_console to_put) b k m = refl
    nat_asked_to (the_console to_send_need_i) b k m = refl
    nat_asked_to (the_console to_send_data) b k m = refl
    nat_asked_to (the_console ConsoleAsk.to_take) b k m = refl
    nat_asked_to (the_console ConsoleAsk.to_go_down) b k m = refl
    nat_asked_to (the_console ConsoleAsk.to_come_back) b k m = refl
    nat_asked_to (the_console to_tell_ack) b k m = refl
    nat_asked_to (the_controller to_send_offer) b k m = refl
    nat_asked_to (the_controller to_send_ok) b k m = refl
    nat_asked_to (the_controller ControllerAsk.to_take) b k m = rw map_at
    nat_asked_to (the_controller ControllerAsk.to_go_down) b k m = refl
    nat_asked_to (the_controller ControllerAsk.to_come_back) b k m = refl
    nat_asked_to neither_end b k m = refl

    pub nat_asks : (b : Bench S M) (l : Letter) (k : ℕ) (m : M) → asks (in_bench f b) l k (f m) ≡ in_asked (asks b l k m)
    unfolding asks
    nat_asks b l k m = nat_asked_to (line l).asks b k m

    nat_missing : (t : Taken) (b : Bench S M) (k : ℕ) → missing t (in_bench f b) k ≡ missing t b k
    unfolding missing
    nat_missing from_neither b k = refl
    nat_missing from_to_controller b k = rw (map_at, map_absent)
    nat_missing from_to_console b k = refl

    nat_taken_out : (t : Taken) (b : Bench S M) (k : ℕ) → taken_out t (in_bench f b) k ≡ in_bench f (taken_out t b k)
    unfolding taken_out
    nat_taken_out from_neither b k = refl
    nat_taken_out from_to_controller b k = rw map_without
    nat_taken_out from_to_console b k = refl

    nat_does : (b : Bench S M) (n : ℕ) (x : Asked M) → does U (in_bench f b) n (in_asked x) ≡ in_outcome f (does U b n x)
    unfolding does
    nat_does b n (console act) = simp (nat_console_acts, map_append, ← map_copies)
    nat_does b n (controller act) = simp nat_controller_acts
    nat_does b n no_end = refl

    nat_effect : (b : Bench S M) (a : Action M) → effect U (in_bench f b) (in_action f a) ≡ in_outcome f (effect U b a)
    unfolding effect
    nat_effect b a = rw (nat_asks, nat_taken_out) (nat_does _ a.copies (asks b a.letter a.place a.message))

    nat_no_room : (b : Bench S M) (n : ℕ) (x : Asked M) → no_room U (in_bench f b) n (in_asked x) ≡ no_room U b n x
    unfolding no_room
    nat_no_room b n (console act) = simp (nat_console_acts, map_exceed)
    nat_no_room b n (controller act) = simp nat_controller_acts
    nat_no_room b n no_end = refl

    module _ (good : M → Bool) (good' : N → Bool) (same : (m : M) → good' (f m) ≡ good m) where
      nat_end_rules : (b : Bench S M) (x : Asked M) → end_rules U good' (in_bench f b) (in_asked x) ≡ end_rules U good b x
      unfolding end_rules
      nat_end_rules b (console act) = nat_console_rules good good' same b.console act
      nat_end_rules b (controller act) = nat_controller_rules b.controller act
      nat_end_rules b no_end = refl

      nat_rules_of : (b : Bench S M) (a : Action M) → rules_of U good' (in_bench f b) (in_action f a) ≡ rules_of U good b a
      unfolding rules_of
      nat_rules_of b a = simp (nat_asks, nat_missing, nat_no_room, nat_end_rules)

      -- `good` and `good'` agree, so a refused action stays refused
      pub nat_step : (b : Bench S M) (a : Action M) → step U good' (in_bench f b) (in_action f a) ≡ in_outcome f (step U good b a)
      unfolding step
      nat_step b a = rw (nat_rules_of, nat_effect) (sym (if_map (in_outcome f) (eqb (refusal (rules_of U good b a)) 0) _ _))
