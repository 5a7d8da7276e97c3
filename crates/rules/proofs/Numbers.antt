-- The number layer: each of UJ and UI is kept by every step, from any bench that has it; so refusal 7 is never met in a run from a fresh bench.
-- Nothing here speaks of deliveries or answers. Assumes nothing.
use Prim.Native.Nat.{ℕ}
use mathlib.Core.Path.{◌≡◌, refl, sym, ◌∙◌}
use mathlib.Core.Logic.{◌≢◌}
use mathlib.Core.Bool.{Bool, true, false, true≢false}
use mathlib.Core.Option.{Option, none, some}
use mathlib.Core.List.{List, [], ◌∷◌}
use Rattle.ground.specs.Choice.{chosen}
use Rattle.ground.specs.First.{applies}
use Rattle.rules.specs.Supply.{Supply, Lawful}
use Rattle.rules.specs.Letters.{Letter, p_put, q_need, d_data, s_take, c_down, v_back, o_offer, k_ok, r_take, x_down, y_back, l_lose, m_lose, a_ack}
use Rattle.rules.specs.Letters.{line}
use Rattle.rules.specs.Ends.{ToController, need_i, order, done, unknown, console_rules, controller_rules, refused}
use Rattle.rules.specs.Bench.{Bench, Action, action, at, asks, end_rules, rules_of, step, run, fresh}
use Rattle.rules.specs.Lists.{All, Opt}
use Rattle.rules.specs.Bears.{Any, ToControllerBears, ConsoleBears, ToConsoleBears, ControllerBears}
use Rattle.rules.specs.WellFormed.{Used}
use Rattle.rules.proofs.Lists.{all_at}
use Rattle.rules.proofs.Refusals.{applied}
use Rattle.rules.proofs.Bears.{Tracked}
use Rattle.rules.proofs.Bench.{step_refused}
use Rattle.rules.proofs.BenchBears.{step_bears}

-- ## The numbers that stand somewhere in a bench: in an end, up or down, or in a packet

-- while each of them is used, a number that is newly taken stands nowhere
module _ {S M : Type 0} where
  -- every J that stands has the property F, every I the property G
  pub record BorneByAll (F G : ℕ → Type 0) (b : Bench S M) : Type 0 where
    pub console : ConsoleBears F G Any b.console.mode
    pub controller : ControllerBears F G b.controller.mode
    pub to_controller_all : All (ToControllerBears F G Any) b.to_controller
    pub to_console_all : All (ToConsoleBears F G) b.to_console

  -- every J that stands is used; every I that stands is used
  abbrev pub UJ : Supply S → Bench S M → Type 0
  UJ U b = BorneByAll (Used U b.console.numbers) Any b

  abbrev pub UI : Supply S → Bench S M → Type 0
  UI U b = BorneByAll Any (Used U b.controller.numbers) b

-- ## Used numbers, and numbers of which nothing is asked

pub used_tracked : {S : Type 0} (U : Supply S) → Lawful S U → Tracked S U Any (Used U) (Used U)
used_tracked U laws =
    record {
      gets = λ s n h e. laws.taken s n e;
      sound_take = λ _ _ _ _. tt;
      sound_back = λ _ _. tt;
      borne_take = laws.take_keeps;
      borne_back = laws.back_keeps;
      shows = λ _ _ h. h;
    }

pub any_tracked : {S : Type 0} (U : Supply S) → Tracked S U Any (λ _. Any) (λ _. Any)
any_tracked U =
    record {
      gets = λ _ _ _ _. tt;
      sound_take = λ _ _ _ _. tt;
      sound_back = λ _ _. tt;
      borne_take = λ _ _ _. tt;
      borne_back = λ _ _ _. tt;
      shows = λ _ _ _. tt;
    }

-- F of the J's and G of the I's, each going with its supply, are kept by every step
module _ {S M : Type 0} (U : Supply S) (F G : S → ℕ → Type 0) (f : Tracked S U Any F F) (g : Tracked S U Any G G) (good : M → Bool) where
  abbrev Stands : Bench S M → Type 0
  Stands b = BorneByAll (F b.console.numbers) (G b.controller.numbers) b

  pub step_stands : (b : Bench S M) (a : Action M) → Stands b → Stands (step U good b a).after
  step_stands b a h =
      let d = step_bears Any Any F F G G Any U f g good b a
      (record {
        console_sound = tt;
        console = h.console;
        controller_sound = tt;
        controller = h.controller;
        to_controller_all = h.to_controller_all;
        to_console_all = h.to_console_all;
      }) (λ _ _. tt) in
      record { console = d.console; controller = d.controller; to_controller_all = d.to_controller_all; to_console_all = d.to_console_all }

-- ## UJ and UI

module _ {S M : Type 0} (U : Supply S) (laws : Lawful S U) (good : M → Bool) where
  pub step_uj : (b : Bench S M) (a : Action M) → UJ U b → UJ U (step U good b a).after
  step_uj b a h = step_stands U (Used U) (λ _. Any) (used_tracked U laws) (any_tracked U) good b a h

  pub step_ui : (b : Bench S M) (a : Action M) → UI U b → UI U (step U good b a).after
  step_ui b a h = step_stands U (λ _. Any) (Used U) (any_tracked U) (used_tracked U laws) good b a h

  pub run_uj : (b : Bench S M) (l : List (Action M)) → UJ U b → UJ U (run U good b l)
  unfolding run
  run_uj b [] h = h
  run_uj b (a ∷ l) h = run_uj (step U good b a).after l (step_uj b a h)

  pub run_ui : (b : Bench S M) (l : List (Action M)) → UI U b → UI U (run U good b l)
  unfolding run
  run_ui b [] h = h
  run_ui b (a ∷ l) h = run_ui (step U good b a).after l (step_ui b a h)

module _ {S M : Type 0} (U : Supply S) where
  pub fresh_ui : (j i : S) → UI {M = M} U (fresh j i)
  unfolding fresh
  fresh_ui j i = record { console = tt; controller = tt; to_controller_all = tt; to_console_all = tt }

-- the number that is taken next is not used, so it stands nowhere
pub unlike : {S : Type 0} (U : Supply S) → Lawful S U → (s : S) (n : ℕ) → U.next s ≡ some n → Used U s n → ⊥
unlike U laws s n e u = true≢false (sym u ∙ laws.new s n e)

-- ## Refusal 7

module _ {S M : Type 0} (U : Supply S) (good : M → Bool) where
  known : (used : ℕ → Bool) (p : Option (ToController M)) → Opt (ToControllerBears Any (λ n. used n ≡ true) Any) p → unknown used p ≡ false
  unfolding unknown
  known used none h = refl
  known used (some (need_i j)) h = refl
  known used (some (order i m)) h = rw h.0
  known used (some (done i)) h = rw h

  seven : (b : Bench S M) (l : Letter) (k n : ℕ) (m : M) → UI U b → applies (rules_of U good b (action l k n m)) 7 ≡ false
  unfolding rules_of applies chosen line asks end_rules console_rules controller_rules
  seven b p_put k n m h = refl
  seven b q_need k n m h = refl
  seven b d_data k n m h = refl
  seven b s_take k n m h = refl
  seven b c_down k n m h = refl
  seven b v_back k n m h = refl
  seven b o_offer k n m h = refl
  seven b k_ok k n m h = refl
  seven b r_take k n m h = known (U.used b.controller.numbers) (at b.to_controller k) (all_at _ b.to_controller k h.to_controller_all)
  seven b x_down k n m h = refl
  seven b y_back k n m h = refl
  seven b l_lose k n m h = refl
  seven b m_lose k n m h = refl
  seven b a_ack k n m h = refl

  -- a bench with UI never refuses with 7, nor does one in a run from a fresh bench
  pub no_seven : (b : Bench S M) (a : Action M) → UI U b → (step U good b a).report ≢ refused 7
  no_seven b a h e =
      let q = (step_refused U good b a 7).0 e in
      true≢false (sym (applied (rules_of U good b a) 7 q.0 q.1) ∙ seven b a.letter a.place a.copies a.message h)

  pub never_seven : Lawful S U → (j i : S) (l : List (Action M)) (a : Action M) → (step U good (run U good (fresh j i) l) a).report ≢ refused 7
  never_seven laws j i l a = no_seven (run U good (fresh j i) l) a (run_ui U laws good (fresh j i) l (fresh_ui U j i))
