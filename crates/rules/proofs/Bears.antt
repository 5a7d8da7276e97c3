-- What an end brings into its mode and its packet: only what it bore, what it took in, and the number that it took from its supply.
-- Assumes nothing.
use Prim.Native.Nat.{ℕ}
use mathlib.Core.Path.{◌≡◌, refl, sym, subst}
use mathlib.Core.Bool.{Bool, true, false}
use mathlib.Core.Option.{Option, none, some}
use lib.Dec.{eqb}
use borrow.Author.Tests.{eqb-true}
use Rattle.rules.specs.Supply.{Supply}
use Rattle.rules.specs.Ends.{ControllerTurn, ConsoleTurn, ToController, need_i, order, done, ToConsole, offer, ok, lost, ConsoleMode}
use Rattle.rules.specs.Ends.{in_need_i, in_send, ControllerMode, in_accept, in_ack, Console, Controller, ConsoleAct, put, send_need_i}
use Rattle.rules.specs.Ends.{send_data, tell_ack, ControllerAct, send_offer, send_ok, puts, need_i_sent, data_sent, offer_sent, ok_sent, console_takes}
use Rattle.rules.specs.Ends.{controller_takes, console_turn, controller_turn, numbers_after, console_power, controller_power, end_after}
use Rattle.rules.specs.Ends.{console_acts, controller_acts, Power, same, falls, returns}
use Rattle.rules.specs.Lists.{Opt}
use Rattle.rules.specs.Bears.{ConsoleActBears, ControllerActBears, ToControllerBears, ConsoleBears, ToConsoleBears, ControllerBears}
use Rattle.rules.proofs.Lists.{if_holds}

-- facts that go with a supply: `Sound` of itself, `Own` of the numbers that its end holds from it, `Borne` of those that stand anywhere
pub record Tracked (S : Type 0) (U : Supply S) (Sound : S → Type 0) (Own Borne : S → ℕ → Type 0) : Type 0 where
  pub gets : (s : S) (n : ℕ) → Sound s → U.next s ≡ some n → Own (U.take s) n
  pub sound_take : (s : S) (n : ℕ) → Sound s → U.next s ≡ some n → Sound (U.take s)
  pub sound_back : (s : S) → Sound s → Sound (U.back s)
  pub borne_take : (s : S) (n : ℕ) → Borne s n → Borne (U.take s) n
  pub borne_back : (s : S) (n : ℕ) → Borne s n → Borne (U.back s) n
  pub shows : (s : S) (n : ℕ) → Own s n → Borne s n

module _ {S : Type 0} (U : Supply S) (Sound : S → Type 0) (Own Borne : S → ℕ → Type 0) (t : Tracked S U Sound Own Borne) where
  grows : (power : Power) (took : Bool) (s : S) (n : ℕ) → Borne s n → Borne (numbers_after U power took s) n
  unfolding numbers_after
  grows same true s n h = t.borne_take s n h
  grows same false s n h = h
  grows falls took s n h = h
  grows returns took s n h = t.borne_back s n h

  -- a number that is borne stays so when an end acts
  pub console_grows : {M : Type 0} (e : Console S M) (act : ConsoleAct M) (n : ℕ) → Borne e.numbers n
      → Borne (console_acts U e act).after.numbers n
  unfolding console_acts end_after
  console_grows e act n h = grows (console_power act) (console_turn (U.next e.numbers) e.mode act).took e.numbers n h

  pub controller_grows : {M : Type 0} (e : Controller S) (act : ControllerAct M) (n : ℕ) → Borne e.numbers n
      → Borne (controller_acts U e act).after.numbers n
  unfolding controller_acts end_after
  controller_grows e act n h = grows (controller_power act) (controller_turn (U.next e.numbers) e.mode act).took e.numbers n h

-- ## The console

module _ {S M : Type 0} (Sound : S → Type 0) (Own Borne : S → ℕ → Type 0) (G : ℕ → Type 0) (P : M → Type 0) where
  -- what it leaves: its supply, its mode and the packet that it sends
  pub record ConsoleLeaves (s : S) (k : ConsoleMode M) (p : Option (ToController M)) : Type 0 where
    pub sound : Sound s
    pub mode : ConsoleBears (Own s) G P k
    pub sent : Opt (ToControllerBears (Borne s) G P) p

module _ {S M : Type 0} (U : Supply S) (Sound : S → Type 0) (Own Borne : S → ℕ → Type 0) (t : Tracked S U Sound Own Borne)
    (G : ℕ → Type 0) (P : M → Type 0) where
  module _ (s : S) (sound : Sound s) where
    abbrev After : Power → ConsoleTurn M → Type 0
    After power d = ConsoleLeaves Sound Own Borne G P (numbers_after U power d.took s) d.mode d.sent

    puts_bears : (next : Option ℕ) → U.next s ≡ next → (mode : ConsoleMode M) (m : M) → ConsoleBears (Own s) G P mode → P m
        → After same (puts next mode m)
    unfolding puts numbers_after
    puts_bears none e mode m h p = search
    puts_bears (some j) e mode m h p = record { sound = t.sound_take s j sound e; mode = (t.gets s j sound e, p); sent = tt }

    console_takes_bears : (mode : ConsoleMode M) (p : ToConsole) → ConsoleBears (Own s) G P mode → ToConsoleBears (Borne s) G p
        → After same (console_takes mode p)
    unfolding console_takes numbers_after
    console_takes_bears ConsoleMode.idle (offer J I) h u = search
    console_takes_bears (in_need_i j m) (offer J I) h u =
        if_holds (After same) _ _ _ (λ e. search) (λ e. search)
    console_takes_bears (in_send last m) (offer J I) h u =
        if_holds (After same) _ _ _ (λ e. search) (λ e. search)
    console_takes_bears ConsoleMode.idle (ok I) h u = search
    console_takes_bears (in_need_i j m) (ok I) h u = search
    console_takes_bears (in_send last m) (ok I) h u =
        if_holds (After same) _ _ _ (λ e. search) (λ e. search)
    console_takes_bears ConsoleMode.idle (lost I) h u = search
    console_takes_bears (in_need_i j m) (lost I) h u = search
    console_takes_bears (in_send last m) (lost I) h u =
        if_holds (After same) _ _ _ (λ e. search) (λ e. search)

    need_i_sent_bears : (mode : ConsoleMode M) → ConsoleBears (Own s) G P mode → Opt (ToControllerBears (Borne s) G P) (need_i_sent mode)
    unfolding need_i_sent
    need_i_sent_bears ConsoleMode.idle h = tt
    need_i_sent_bears (in_need_i j m) h = t.shows s j h.0
    need_i_sent_bears (in_send last m) h = tt

    data_sent_bears : (mode : ConsoleMode M) → ConsoleBears (Own s) G P mode → Opt (ToControllerBears (Borne s) G P) (data_sent mode)
    unfolding data_sent
    data_sent_bears ConsoleMode.idle h = tt
    data_sent_bears (in_need_i j m) h = tt
    data_sent_bears (in_send last m) h = h

    console_turn_bears : (mode : ConsoleMode M) (act : ConsoleAct M) → ConsoleBears (Own s) G P mode → ConsoleActBears (Borne s) G P act
        → After (console_power act) (console_turn (U.next s) mode act)
    unfolding console_turn numbers_after
    console_turn_bears mode (put m) h x = puts_bears (U.next s) refl mode m h x
    console_turn_bears mode send_need_i h x = record { sound = sound; mode = h; sent = need_i_sent_bears mode h }
    console_turn_bears mode send_data h x = record { sound = sound; mode = h; sent = data_sent_bears mode h }
    console_turn_bears mode (ConsoleAct.take none) h x = search
    console_turn_bears mode (ConsoleAct.take (some p)) h x = console_takes_bears mode p h x
    console_turn_bears mode ConsoleAct.go_down h x = search
    console_turn_bears mode ConsoleAct.come_back h x = record { sound = t.sound_back s sound; mode = tt; sent = tt }
    console_turn_bears mode tell_ack h x = search

  pub console_acts_bears : (e : Console S M) (act : ConsoleAct M) → Sound e.numbers → ConsoleBears (Own e.numbers) G P e.mode
      → ConsoleActBears (Borne e.numbers) G P act
      → let d = console_acts U e act in ConsoleLeaves Sound Own Borne G P d.after.numbers d.after.mode d.sent
  unfolding console_acts end_after
  console_acts_bears e act sound h x = console_turn_bears e.numbers sound e.mode act h x

-- ## The controller

module _ {S : Type 0} (Sound : S → Type 0) (Own Borne : S → ℕ → Type 0) (F : ℕ → Type 0) where
  pub record ControllerLeaves (s : S) (k : ControllerMode) (p : Option ToConsole) : Type 0 where
    pub sound : Sound s
    pub mode : ControllerBears F (Own s) k
    pub sent : Opt (ToConsoleBears F (Borne s)) p

module _ {S M : Type 0} (U : Supply S) (Sound : S → Type 0) (Own Borne : S → ℕ → Type 0) (t : Tracked S U Sound Own Borne)
    (F : ℕ → Type 0) (P : M → Type 0) where
  module _ (s : S) (sound : Sound s) where
    abbrev Then : Power → ControllerTurn M → Type 0
    Then power d = ControllerLeaves Sound Own Borne F (numbers_after U power d.took s) d.mode d.sent

    controller_takes_bears : (next : Option ℕ) → U.next s ≡ next → (mode : ControllerMode) (p : ToController M) → ControllerBears F (Own s) mode
        → ToControllerBears F (Borne s) P p → Then same (controller_takes next mode p)
    unfolding controller_takes numbers_after
    controller_takes_bears none e ControllerMode.idle (need_i J) h u = search
    controller_takes_bears (some i) e ControllerMode.idle (need_i J) h u =
        record { sound = t.sound_take s i sound e; mode = (u, t.gets s i sound e); sent = tt }
    controller_takes_bears next e (in_accept j i) (need_i J) h u = search
    controller_takes_bears next e (in_ack last) (need_i J) h u = search
    controller_takes_bears next e ControllerMode.idle (order I m) h u = search
    controller_takes_bears next e (in_accept j i) (order I m) h u =
        if_holds (Then same) (eqb I i) _ _
        (λ q. record { sound = sound; mode = subst (Own s) (sym (eqb-true I i q)) h.1; sent = search })
        (λ q. search)
    controller_takes_bears next e (in_ack last) (order I m) h u =
        if_holds (Then same) _ _ _ (λ q. search) (λ q. search)
    controller_takes_bears next e ControllerMode.idle (done I) h u = search
    controller_takes_bears next e (in_accept j i) (done I) h u =
        if_holds (Then same) _ _ _ (λ q. search) (λ q. search)
    controller_takes_bears next e (in_ack last) (done I) h u =
        if_holds (Then same) _ _ _ (λ q. search) (λ q. search)

    offer_sent_bears : (mode : ControllerMode) → ControllerBears F (Own s) mode → Opt (ToConsoleBears F (Borne s)) (offer_sent mode)
    unfolding offer_sent
    offer_sent_bears ControllerMode.idle h = tt
    offer_sent_bears (in_accept j i) h = (h.0, t.shows s i h.1)
    offer_sent_bears (in_ack last) h = tt

    ok_sent_bears : (mode : ControllerMode) → ControllerBears F (Own s) mode → Opt (ToConsoleBears F (Borne s)) (ok_sent mode)
    unfolding ok_sent
    ok_sent_bears ControllerMode.idle h = tt
    ok_sent_bears (in_accept j i) h = tt
    ok_sent_bears (in_ack last) h = t.shows s last h

    controller_turn_bears : (mode : ControllerMode) (act : ControllerAct M) → ControllerBears F (Own s) mode → ControllerActBears F (Borne s) P act
        → Then (controller_power act) (controller_turn (U.next s) mode act)
    unfolding controller_turn numbers_after
    controller_turn_bears mode send_offer h x = record { sound = sound; mode = h; sent = offer_sent_bears mode h }
    controller_turn_bears mode send_ok h x = record { sound = sound; mode = h; sent = ok_sent_bears mode h }
    controller_turn_bears mode (ControllerAct.take none) h x = search
    controller_turn_bears mode (ControllerAct.take (some p)) h x = controller_takes_bears (U.next s) refl mode p h x
    controller_turn_bears mode ControllerAct.go_down h x = search
    controller_turn_bears mode ControllerAct.come_back h x = record { sound = t.sound_back s sound; mode = tt; sent = tt }

  pub controller_acts_bears : (e : Controller S) (act : ControllerAct M) → Sound e.numbers → ControllerBears F (Own e.numbers) e.mode
      → ControllerActBears F (Borne e.numbers) P act
      → let d = controller_acts U e act in ControllerLeaves Sound Own Borne F d.after.numbers d.after.mode d.sent
  unfolding controller_acts end_after
  controller_acts_bears e act sound h x = controller_turn_bears e.numbers sound e.mode act h x
