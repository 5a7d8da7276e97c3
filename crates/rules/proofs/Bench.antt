-- The bench's step: a refusal changes nothing, only a rule refuses, and a field that an action doesn't use does not matter. Assumes nothing.
use Prim.Native.Nat.{ℕ}
use mathlib.Core.Path.{◌≡◌, refl, ap, ◌∙◌}
use mathlib.Core.Logic.{◌≢◌, ◌↔◌}
use mathlib.Core.Bool.{Bool}
use mathlib.Core.Option.{Option, none, some}
use lib.Dec.{T}
use Rattle.ground.specs.First.{refusal}
use Rattle.rules.specs.Supply.{Supply}
use Rattle.rules.specs.Letters.{Letter, p_put, q_need, d_data, s_take, c_down, v_back, o_offer, k_ok, r_take, x_down, y_back, l_lose, m_lose, a_ack}
use Rattle.rules.specs.Letters.{line}
use Rattle.rules.specs.Ends.{ConsoleMode, refused, puts, console_turn, controller_turn, console_acts, controller_acts}
use Rattle.rules.specs.Bench.{Bench, Action, action, Agree, Asked, console, controller, no_end, copies_of, asks, takes, missing, taken_out}
use Rattle.rules.specs.Bench.{does, effect, end_rules, no_room, rules_of, step}
use Rattle.rules.proofs.Ends.{NotRefused, console_acts_accepts, controller_acts_accepts, refused_exactly, refused_is}

-- ## Refusals

module _ {S M : Type 0} (U : Supply S) where
  does_accepts : (b : Bench S M) (n : ℕ) (x : Asked M) → NotRefused (does U b n x).report
  unfolding does
  does_accepts b n (console act) = console_acts_accepts U b.console act
  does_accepts b n (controller act) = controller_acts_accepts U b.controller act
  does_accepts b n no_end = tt

  module _ (good : M → Bool) (b : Bench S M) (a : Action M) where
    effect_accepts : NotRefused (effect U b a).report
    unfolding effect
    effect_accepts = does_accepts _ a.copies (asks b a.letter a.place a.message)

    pub step_refused : (n : ℕ) → ((step U good b a).report ≡ refused n) ↔ ((refusal (rules_of U good b a) ≡ n) × (n ≢ 0))
    unfolding step
    step_refused n = refused_exactly (λ o. o.report) _ (effect U b a) _ effect_accepts refl n

    pub step_refused_same : (n : ℕ) → (step U good b a).report ≡ refused n → (step U good b a).after ≡ b
    unfolding step
    step_refused_same n q = ap (λ o. o.after) (refused_is (λ o. o.report) (refusal (rules_of U good b a)) (effect U b a) _ effect_accepts refl n q)

-- ## Fields that an action doesn't use

module _ {M : Type 0} where
  -- a put sends nothing
  pub puts_sends : (next : Option ℕ) (mode : ConsoleMode M) (m : M) → (puts next mode m).sent ≡ none
  unfolding puts
  puts_sends none mode m = refl
  puts_sends (some j) mode m = refl

module _ {S M : Type 0} (U : Supply S) (good : M → Bool) (b : Bench S M) where
  unused : (l : Letter) (k k' n n' : ℕ) (m m' : M) → (T (line l).place → k ≡ k') → (T (line l).copies → n ≡ n') → (T (line l).message → m ≡ m')
      → step U good b (action l k n m) ≡ step U good b (action l k' n' m')
  unfolding step rules_of effect line asks takes missing taken_out does end_rules no_room console_acts controller_acts console_turn
      controller_turn copies_of
  unused p_put k k' n n' m m' p q r = rw (r tt, puts_sends)
  unused q_need k k' n n' m m' p q r = rw (q tt)
  unused d_data k k' n n' m m' p q r = rw (q tt)
  unused s_take k k' n n' m m' p q r = rw (p tt, q tt)
  unused c_down k k' n n' m m' p q r = refl
  unused v_back k k' n n' m m' p q r = refl
  unused o_offer k k' n n' m m' p q r = rw (q tt)
  unused k_ok k k' n n' m m' p q r = rw (q tt)
  unused r_take k k' n n' m m' p q r = rw (p tt, q tt)
  unused x_down k k' n n' m m' p q r = refl
  unused y_back k k' n n' m m' p q r = refl
  unused l_lose k k' n n' m m' p q r = rw (p tt)
  unused m_lose k k' n n' m m' p q r = rw (p tt)
  unused a_ack k k' n n' m m' p q r = refl

  pub unused_fields : (a a' : Action M) → Agree a a' → step U good b a ≡ step U good b a'
  unused_fields a a' h =
      unused a.letter _ a'.place _ a'.copies _ a'.message h.place h.copies h.message
      ∙ ap (λ l. step U good b (action l a'.place a'.copies a'.message)) h.letter
