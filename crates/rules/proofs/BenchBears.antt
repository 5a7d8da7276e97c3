-- What a bench bears after a step: only what it bore, the message of a put that is taken, and numbers that the ends took from their supplies.
-- Assumes nothing.
use Prim.Native.Nat.{ℕ}
use mathlib.Core.Path.{◌≡◌, refl}
use mathlib.Core.Bool.{Bool}
use lib.Dec.{eqb}
use borrow.Author.Tests.{eqb-true}
use Rattle.ground.specs.First.{refusal}
use Rattle.rules.specs.Supply.{Supply}
use Rattle.rules.specs.Letters.{Letter, p_put, q_need, d_data, s_take, c_down, v_back, o_offer, k_ok, r_take, x_down, y_back, l_lose, m_lose, a_ack}
use Rattle.rules.specs.Ends.{ToController, need_i, order, done, ToConsole, offer, ok, lost, ConsoleMode, in_need_i, in_send, ControllerMode}
use Rattle.rules.specs.Ends.{in_accept, in_ack, console_acts, controller_acts}
use Rattle.rules.specs.Bench.{Bench, Action, Outcome, Asked, console, controller, no_end, Taken, from_neither, from_to_controller}
use Rattle.rules.specs.Bench.{from_to_console, copies_of, asks, takes, taken_out, does, effect, rules_of, step}
use Rattle.rules.specs.Lists.{All}
use Rattle.rules.specs.Bears.{ConsoleActBears, ControllerActBears, ToControllerBears, ConsoleBears, ToConsoleBears, ControllerBears}
use Rattle.rules.proofs.Lists.{all_append, all_copies, all_without, all_at, all_map, if_holds}
use Rattle.rules.proofs.Bears.{Tracked, console_grows, controller_grows, console_acts_bears, controller_acts_bears}

-- ## A weaker property

module _ (F F' G G' : ℕ → Type 0) (f : (n : ℕ) → F n → F' n) (g : (n : ℕ) → G n → G' n) where
  pub weaken_to_controller : {M : Type 0} (P : M → Type 0) (p : ToController M) → ToControllerBears F G P p → ToControllerBears F' G' P p
  weaken_to_controller P (need_i j) h = f j h
  weaken_to_controller P (order i m) h = (g i h.0, h.1)
  weaken_to_controller P (done i) h = g i h

  pub weaken_to_console : (p : ToConsole) → ToConsoleBears F G p → ToConsoleBears F' G' p
  weaken_to_console (offer j i) h = (f j h.0, g i h.1)
  weaken_to_console (ok i) h = g i h
  weaken_to_console (lost i) h = g i h

  pub weaken_console : {M : Type 0} (P : M → Type 0) (k : ConsoleMode M) → ConsoleBears F G P k → ConsoleBears F' G' P k
  weaken_console P ConsoleMode.idle h = tt
  weaken_console P (in_need_i j m) h = (f j h.0, h.1)
  weaken_console P (in_send last m) h = (g last h.0, h.1)

  pub weaken_controller : (k : ControllerMode) → ControllerBears F G k → ControllerBears F' G' k
  weaken_controller ControllerMode.idle h = tt
  weaken_controller (in_accept j i) h = (f j h.0, g i h.1)
  weaken_controller (in_ack last) h = g last h

pub unchanged : (F : ℕ → Type 0) (n : ℕ) → F n → F n
unchanged F n h = h

-- ## The bench

module _ {S M : Type 0} (SoundJ SoundI : S → Type 0) (OwnJ BorneJ OwnI BorneI : S → ℕ → Type 0) (P : M → Type 0) where
  pub record BenchBears (b : Bench S M) : Type 0 where
    pub console_sound : SoundJ b.console.numbers
    pub console : ConsoleBears (OwnJ b.console.numbers) (BorneI b.controller.numbers) P b.console.mode
    pub controller_sound : SoundI b.controller.numbers
    pub controller : ControllerBears (BorneJ b.console.numbers) (OwnI b.controller.numbers) b.controller.mode
    pub to_controller_all : All (ToControllerBears (BorneJ b.console.numbers) (BorneI b.controller.numbers) P) b.to_controller
    pub to_console_all : All (ToConsoleBears (BorneJ b.console.numbers) (BorneI b.controller.numbers)) b.to_console

  abbrev pub Handed : S → S → Asked M → Type 0
  Handed j i (console act) = ConsoleActBears (BorneJ j) (BorneI i) P act
  Handed j i (controller act) = ControllerActBears (BorneJ j) (BorneI i) P act
  Handed j i no_end = Unit {0}

  pub asks_handed : (b : Bench S M) (l : Letter) (k : ℕ) (m : M) → BenchBears b → (l ≡ p_put → P m)
      → Handed b.console.numbers b.controller.numbers (asks b l k m)
  unfolding asks
  asks_handed b p_put k m h p = p refl
  asks_handed b q_need k m h p = tt
  asks_handed b d_data k m h p = tt
  asks_handed b s_take k m h p = all_at _ b.to_console k h.to_console_all
  asks_handed b c_down k m h p = tt
  asks_handed b v_back k m h p = tt
  asks_handed b o_offer k m h p = tt
  asks_handed b k_ok k m h p = tt
  asks_handed b r_take k m h p = all_at _ b.to_controller k h.to_controller_all
  asks_handed b x_down k m h p = tt
  asks_handed b y_back k m h p = tt
  asks_handed b l_lose k m h p = tt
  asks_handed b m_lose k m h p = tt
  asks_handed b a_ack k m h p = tt

  module _ (U : Supply S) (x : Tracked S U SoundJ OwnJ BorneJ) (y : Tracked S U SoundI OwnI BorneI) where
    pub does_bears : (b : Bench S M) (n : ℕ) (asked : Asked M) → BenchBears b → Handed b.console.numbers b.controller.numbers asked
        → BenchBears (does U b n asked).after
    unfolding does
    does_bears b n (console act) h u =
        let d = console_acts U b.console act in
        let i = b.controller.numbers in
        let c = console_acts_bears U SoundJ OwnJ BorneJ x (BorneI i) P b.console act h.console_sound h.console u in
        let more = console_grows U SoundJ OwnJ BorneJ x b.console act in
        record {
          console_sound = c.sound;
          console = c.mode;
          controller_sound = h.controller_sound;
          controller = weaken_controller _ (BorneJ d.after.numbers) _ (OwnI i) more (unchanged (OwnI i)) b.controller.mode h.controller;
          to_controller_all =
              all_append _ b.to_controller (copies_of n d.sent)
              (all_map _ _ (weaken_to_controller _ (BorneJ d.after.numbers) _ (BorneI i) more (unchanged (BorneI i)) P) b.to_controller h.to_controller_all)
              (all_copies _ n d.sent c.sent);
          to_console_all = all_map _ _ (weaken_to_console _ (BorneJ d.after.numbers) _ (BorneI i) more (unchanged (BorneI i))) b.to_console h.to_console_all;
        }
    does_bears b n (controller act) h u =
        let d = controller_acts U b.controller act in
        let j = b.console.numbers in
        let c = controller_acts_bears U SoundI OwnI BorneI y (BorneJ j) P b.controller act h.controller_sound h.controller u in
        let more = controller_grows U SoundI OwnI BorneI y b.controller act in
        record {
          console_sound = h.console_sound;
          console = weaken_console _ (OwnJ j) _ (BorneI d.after.numbers) (unchanged (OwnJ j)) more P b.console.mode h.console;
          controller_sound = c.sound;
          controller = c.mode;
          to_controller_all = all_map _ _ (weaken_to_controller _ (BorneJ j) _ (BorneI d.after.numbers) (unchanged (BorneJ j)) more P) b.to_controller h.to_controller_all;
          to_console_all =
              all_append _ b.to_console (copies_of n d.sent)
              (all_map _ _ (weaken_to_console _ (BorneJ j) _ (BorneI d.after.numbers) (unchanged (BorneJ j)) more) b.to_console h.to_console_all)
              (all_copies _ n d.sent c.sent);
        }
    does_bears b n no_end h u = h

    taken_out_bears : (t : Taken) (b : Bench S M) (k n : ℕ) (asked : Asked M) → BenchBears b
        → Handed b.console.numbers b.controller.numbers asked
        → BenchBears (does U (taken_out t b k) n asked).after
    unfolding taken_out
    taken_out_bears from_neither b k n asked h u = does_bears b n asked h u
    taken_out_bears from_to_controller b k n asked h u =
        does_bears _ n asked
        (record {
          console_sound = h.console_sound;
          console = h.console;
          controller_sound = h.controller_sound;
          controller = h.controller;
          to_controller_all = all_without _ b.to_controller k h.to_controller_all;
          to_console_all = h.to_console_all;
        }) u
    taken_out_bears from_to_console b k n asked h u =
        does_bears _ n asked
        (record {
          console_sound = h.console_sound;
          console = h.console;
          controller_sound = h.controller_sound;
          controller = h.controller;
          to_controller_all = h.to_controller_all;
          to_console_all = all_without _ b.to_console k h.to_console_all;
        }) u

    pub effect_bears : (b : Bench S M) (a : Action M) → BenchBears b → (a.letter ≡ p_put → P a.message) → BenchBears (effect U b a).after
    unfolding effect
    effect_bears b a h p =
        taken_out_bears (takes a.letter) b a.place a.copies _ h (asks_handed b a.letter a.place a.message h p)

    -- where the message of a put that is not refused has the property P
    pub step_bears : (good : M → Bool) (b : Bench S M) (a : Action M) → BenchBears b
        → (refusal (rules_of U good b a) ≡ 0 → a.letter ≡ p_put → P a.message)
        → BenchBears (step U good b a).after
    unfolding step
    step_bears good b a h p =
        if_holds (λ (o : Outcome S M). BenchBears o.after) (eqb (refusal (rules_of U good b a)) 0) _ _
        (λ e. effect_bears b a h (p (eqb-true (refusal (rules_of U good b a)) 0 e))) (λ e. h)
