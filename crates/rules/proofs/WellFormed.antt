-- Every step keeps a well-formed end and a well-formed bench well formed; what an end sends can be written as a packet. Assumes nothing.
use Prim.Native.Nat.{ℕ, zero, suc, ◌≤◌}
use mathlib.Core.Path.{◌≡◌, refl}
use mathlib.Core.Bool.{Bool, true, false, ◌&&◌}
use mathlib.Core.Option.{Option, none}
use mathlib.Core.List.{List, [], ◌∷◌, ◌++◌}
use lib.ListN.{length, length-append}
use lib.Dec.{eqb}
use borrow.Author.Tests.{eqb-true, ltb-false, not-false}
use native.Mathlib.Omega.{arith}
use Rattle.ground.specs.Choice.{chosen}
use Rattle.ground.specs.First.{refusal, applies}
use Rattle.rules.specs.Supply.{Supply, Lawful}
use Rattle.rules.specs.Letters.{Letter, p_put, q_need, d_data, s_take, c_down, v_back, o_offer, k_ok, r_take, x_down, y_back, l_lose, m_lose, a_ack}
use Rattle.rules.specs.Letters.{line}
use Rattle.rules.specs.Ends.{ControllerActed, ConsoleActed, Console, Controller, ConsoleAct, put, send_need_i, send_data, tell_ack, ControllerAct}
use Rattle.rules.specs.Ends.{console_turn, controller_turn, console_acts, controller_acts, console_rules}
use Rattle.rules.specs.Bench.{Bench, Action, action, Outcome, without, copies_of, places, asks, takes, taken_out, does, effect, exceed}
use Rattle.rules.specs.Bench.{end_rules, no_room, rules_of, step, run, fresh}
use Rattle.rules.specs.Lists.{Opt}
use Rattle.rules.specs.Bears.{ConsoleActBears, Any}
use Rattle.rules.specs.WellFormed.{Number, Given, Good, ConsoleHandedOk, ControllerHandedOk, ConsoleOk, ControllerOk, ToControllerOk}
use Rattle.rules.specs.WellFormed.{ToConsoleOk, WellFormed}
use Rattle.rules.proofs.Lists.{if_holds}
use Rattle.rules.proofs.Refusals.{passed}
use Rattle.rules.proofs.Bears.{Tracked, console_acts_bears, controller_acts_bears}
use Rattle.rules.proofs.Bench.{puts_sends}
use Rattle.rules.proofs.BenchBears.{effect_bears}

abbrev Sound : {S : Type 0} → Supply S → S → Type 0
Sound U s = U.sound s ≡ true

given_tracked : {S : Type 0} (U : Supply S) → Lawful S U → Tracked S U (Sound U) (Given U) (λ _. Number U)
given_tracked U laws =
    record {
      gets = λ s n h e. (laws.next_number s n h e, laws.taken s n e);
      sound_take = laws.take_sound;
      sound_back = laws.back_sound;
      borne_take = λ _ _ h. h;
      borne_back = λ _ _ h. h;
      shows = λ _ _ h. h.0;
    }

-- ## An end alone

module _ {S M : Type 0} (U : Supply S) (laws : Lawful S U) where
  module _ (good : M → Bool) (e : Console S M) where
    -- the message of a put that is not refused is good
    handed_good : (F G : ℕ → Type 0) (act : ConsoleAct M) → refusal (console_rules U good e act) ≡ 0 → ConsoleActBears F G Any act
        → ConsoleActBears F G (Good good) act
    unfolding console_rules applies chosen
    handed_good F G (put m) q h = not-false (good m) (passed (console_rules U good e (put m)) q 11 tt)
    handed_good F G send_need_i q h = tt
    handed_good F G send_data q h = tt
    handed_good F G (ConsoleAct.take p) q h = h
    handed_good F G ConsoleAct.go_down q h = tt
    handed_good F G ConsoleAct.come_back q h = tt
    handed_good F G tell_ack q h = tt

    abbrev ConsoleLeft : ConsoleActed S M → Type 0
    ConsoleLeft d = ConsoleOk U good d.after × Opt (ToControllerOk U good) d.sent

    pub console_acts_ok : (act : ConsoleAct M) → refusal (console_rules U good e act) ≡ 0 → ConsoleOk U good e → ConsoleHandedOk U act
        → ConsoleLeft (console_acts U e act)
    console_acts_ok act q h x =
        let d = console_acts_bears U (Sound U) (Given U) (λ _. Number U) (given_tracked U laws) (Number U) (Good good) e act h.numbers h.mode (handed_good (Number U) (Number U) act q x) in
        (record { numbers = d.sound; mode = d.mode }, d.sent)

  module _ (good : M → Bool) (e : Controller S) where
    abbrev ControllerLeft : ControllerActed S M → Type 0
    ControllerLeft d = ControllerOk U d.after × Opt (ToConsoleOk U) d.sent

    pub controller_acts_ok : (act : ControllerAct M) → ControllerOk U e → ControllerHandedOk U good act → ControllerLeft (controller_acts U e act)
    controller_acts_ok act h x =
        let d = controller_acts_bears U (Sound U) (Given U) (λ _. Number U) (given_tracked U laws) (Number U) (Good good) e act h.numbers h.mode x in
        (record { numbers = d.sound; mode = d.mode }, d.sent)

-- ## Room in the channels

module _ {A : Type 0} where
  fits : (l : List A) (n : ℕ) (p : Option A) → exceed l n p ≡ false → length (l ++ copies_of n p) ≤ places
  unfolding exceed
  fits l n p e = simp length-append (ltb-false _ _ e)

  as_before : (l : List A) (n : ℕ) (p : Option A) → p ≡ none → length l ≤ places → length (l ++ copies_of n p) ≤ places
  unfolding copies_of
  as_before l n p e h = rw e (simp length-append (omega arith))

  shorter : (l : List A) (k : ℕ) → length (without l k) ≤ length l
  unfolding without
  shorter [] k = omega arith
  shorter (x ∷ l) zero = omega arith
  shorter (x ∷ l) (suc k) = omega (arith, shorter l k)

module _ {S M : Type 0} (U : Supply S) (b : Bench S M) where
  abbrev Room : Bench S M → Type 0
  Room c = (length c.to_controller ≤ places) × (length c.to_console ≤ places)

  effect_room : (l : Letter) (k n : ℕ) (m : M) → ((line l).copies && no_room U b n (asks b l k m)) ≡ false → Room b
      → Room (effect U b (action l k n m)).after
  unfolding line asks no_room effect takes taken_out does console_acts controller_acts console_turn controller_turn
  effect_room p_put k n m e h = (as_before b.to_controller n _ (puts_sends (U.next b.console.numbers) b.console.mode m) h.0, h.1)
  effect_room q_need k n m e h = (fits _ n _ e, h.1)
  effect_room d_data k n m e h = (fits _ n _ e, h.1)
  effect_room s_take k n m e h = (fits _ n _ e, omega (arith, shorter b.to_console k))
  effect_room c_down k n m e h = (as_before b.to_controller n none refl h.0, h.1)
  effect_room v_back k n m e h = (as_before b.to_controller n none refl h.0, h.1)
  effect_room o_offer k n m e h = (h.0, fits _ n _ e)
  effect_room k_ok k n m e h = (h.0, fits _ n _ e)
  effect_room r_take k n m e h = (omega (arith, shorter b.to_controller k), fits _ n _ e)
  effect_room x_down k n m e h = (h.0, as_before b.to_console n none refl h.1)
  effect_room y_back k n m e h = (h.0, as_before b.to_console n none refl h.1)
  effect_room l_lose k n m e h = (omega (arith, shorter b.to_controller k), h.1)
  effect_room m_lose k n m e h = (h.0, omega (arith, shorter b.to_console k))
  effect_room a_ack k n m e h = (as_before b.to_controller n none refl h.0, h.1)

-- ## The bench

module _ {S M : Type 0} (U : Supply S) (laws : Lawful S U) (good : M → Bool) where
  -- the message of a put that is not refused is good
  put_good : (b : Bench S M) (l : Letter) (k n : ℕ) (m : M) → refusal (rules_of U good b (action l k n m)) ≡ 0 → l ≡ p_put → Good good m
  unfolding rules_of applies chosen line asks end_rules console_rules
  put_good b l k n m e q = not-false (good m) (passed (rules_of U good b (action p_put k n m)) (rw q at e) 11 tt)

  effect_well_formed : (b : Bench S M) (a : Action M) → refusal (rules_of U good b a) ≡ 0 → WellFormed U good b
      → WellFormed U good (effect U b a).after
  unfolding rules_of applies chosen
  effect_well_formed b a e h =
      let d = effect_bears (Sound U) (Sound U) (Given U) (λ _. Number U) (Given U) (λ _. Number U) (Good good) U (given_tracked U laws) (given_tracked U laws) b a
      (record {
        console_sound = h.console.numbers;
        console = h.console.mode;
        controller_sound = h.controller.numbers;
        controller = h.controller.mode;
        to_controller_all = h.to_controller_all;
        to_console_all = h.to_console_all;
      }) (put_good b a.letter a.place a.copies a.message e) in
      let r = effect_room U b a.letter a.place a.copies a.message (passed (rules_of U good b a) e 9 tt) (h.to_controller_room, h.to_console_room) in
      record {
        console = record { numbers = d.console_sound; mode = d.console };
        controller = record { numbers = d.controller_sound; mode = d.controller };
        to_controller_all = d.to_controller_all;
        to_controller_room = r.0;
        to_console_all = d.to_console_all;
        to_console_room = r.1;
      }

  pub step_well_formed : (b : Bench S M) (a : Action M) → WellFormed U good b → WellFormed U good (step U good b a).after
  unfolding step
  step_well_formed b a h =
      if_holds (λ (o : Outcome S M). WellFormed U good o.after) (eqb (refusal (rules_of U good b a)) 0) _ _
      (λ e. effect_well_formed b a (eqb-true (refusal (rules_of U good b a)) 0 e) h) (λ e. h)

  pub run_well_formed : (b : Bench S M) (l : List (Action M)) → WellFormed U good b → WellFormed U good (run U good b l)
  unfolding run
  run_well_formed b [] h = h
  run_well_formed b (a ∷ l) h = run_well_formed (step U good b a).after l (step_well_formed b a h)

pub fresh_well_formed : {S M : Type 0} (U : Supply S) (good : M → Bool) (j i : S) → U.sound j ≡ true → U.sound i ≡ true
    → WellFormed U good (fresh j i)
unfolding fresh
fresh_well_formed U good j i p q =
    record {
      console = record { numbers = p; mode = tt };
      controller = record { numbers = q; mode = tt };
      to_controller_all = tt;
      to_controller_room = omega arith;
      to_console_all = tt;
      to_console_room = omega arith;
    }
