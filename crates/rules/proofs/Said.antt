-- What the layer of readings does with a report: a refusal goes through, what is no answer of a step that doesn't use the ack is shown as it is, and
-- only A tells an answer. Assumes nothing.
use Prim.Native.Nat.{ℕ}
use mathlib.Core.Path.{◌≡◌, refl, sym, subst}
use mathlib.Core.Bool.{Bool, true, false}
use lib.Dec.{eqb}
use Rattle.ground.specs.First.{refusal}
use Rattle.rules.specs.Supply.{Supply}
use Rattle.rules.specs.Letters.{Letter, p_put, q_need, d_data, s_take, c_down, v_back, o_offer, k_ok, r_take, x_down, y_back, l_lose, m_lose, a_ack}
use Rattle.rules.specs.Bench.{Bench, Action, asks, step}
use Rattle.rules.specs.Ends.{Controller, ControllerAct, Report, nothing, delivered, answered_ok, answered_lost, refused, ControllerActed, controller_rules, controller_step}
use Rattle.rules.specs.Reading.{Use, leaves, clears, tells, use_by, said, ack_after, Reading, read_step}
use Rattle.rules.proofs.Lists.{if_holds}
use Rattle.rules.proofs.Ends.{controller_reports}

module _ {M : Type 0} where
  abbrev Refuses : Report M → Type 0
  Refuses nothing = ⊥
  Refuses (delivered m) = ⊥
  Refuses answered_ok = ⊥
  Refuses answered_lost = ⊥
  Refuses (refused n) = Unit {0}

  none_refuses : {A : Type 0} (r : Report M) (n : ℕ) → r ≡ refused n → (Refuses r → ⊥) → A
  none_refuses r n e f = absurd (f (subst Refuses (sym e) tt))

  pub refusal_through : (u : Use) (ack : Bool) (r : Report M) (n : ℕ) → said u ack r ≡ refused n → r ≡ refused n
  unfolding said
  refusal_through u ack (delivered m) n e = none_refuses (delivered m) n e (λ x. x)
  refusal_through u ack answered_ok n e = none_refuses nothing n e (λ x. x)
  refusal_through u ack answered_lost n e = none_refuses nothing n e (λ x. x)
  refusal_through u ack (refused k) n e = e
  refusal_through leaves ack nothing n e = none_refuses nothing n e (λ x. x)
  refusal_through clears ack nothing n e = none_refuses nothing n e (λ x. x)
  refusal_through tells true nothing n e = none_refuses answered_ok n e (λ x. x)
  refusal_through tells false nothing n e = none_refuses answered_lost n e (λ x. x)

  -- what doesn't tell an answer from nothing is the same of what is said
  pub said_same : {A : Type 0} (f : Report M → A) → f answered_ok ≡ f nothing → f answered_lost ≡ f nothing → (u : Use) (ack : Bool) (r : Report M) → f (said u ack r) ≡ f r
  unfolding said
  said_same f ok lost u ack (delivered m) = refl
  said_same f ok lost u ack answered_ok = sym ok
  said_same f ok lost u ack answered_lost = sym lost
  said_same f ok lost u ack (refused n) = refl
  said_same f ok lost leaves ack nothing = refl
  said_same f ok lost clears ack nothing = refl
  said_same f ok lost tells true nothing = ok
  said_same f ok lost tells false nothing = lost

  -- no answer arrives
  abbrev pub NoAnswer : Report M → Type 0
  NoAnswer nothing = Unit {0}
  NoAnswer (delivered m) = Unit {0}
  NoAnswer answered_ok = ⊥
  NoAnswer answered_lost = ⊥
  NoAnswer (refused n) = Unit {0}

  pub said_as_it_is : (ack : Bool) (r : Report M) → NoAnswer r → said leaves ack r ≡ r
  unfolding said
  said_as_it_is ack nothing h = refl
  said_as_it_is ack (delivered m) h = refl
  said_as_it_is ack answered_ok h = absurd h
  said_as_it_is ack answered_lost h = absurd h
  said_as_it_is ack (refused n) h = refl

  pub ack_as_it_is : (ack : Bool) (r : Report M) → NoAnswer r → ack_after leaves ack r ≡ ack
  unfolding ack_after
  ack_as_it_is ack nothing h = refl
  ack_as_it_is ack (delivered m) h = refl
  ack_as_it_is ack answered_ok h = absurd h
  ack_as_it_is ack answered_lost h = absurd h
  ack_as_it_is ack (refused n) h = refl

  -- a controller answers nothing
  pub controller_no_answer : {S : Type 0} (U : Supply S) (e : Controller S) (act : ControllerAct M) → NoAnswer (controller_step U e act).report
  unfolding controller_step
  controller_no_answer {S} U e act =
      if_holds (λ (d : ControllerActed S M). NoAnswer d.report) (eqb (refusal (controller_rules U e act)) 0) _ _
      (λ p. controller_reports NoAnswer tt (λ m. tt) U e act) (λ p. tt)

  -- ## Only A tells an answer

  said_no_answer : (u : Use) (ack : Bool) (r : Report M) → (u ≡ tells → ⊥) → NoAnswer (said u ack r)
  unfolding said
  said_no_answer u ack (delivered m) h = tt
  said_no_answer u ack answered_ok h = tt
  said_no_answer u ack answered_lost h = tt
  said_no_answer u ack (refused n) h = tt
  said_no_answer leaves ack nothing h = tt
  said_no_answer clears ack nothing h = tt
  said_no_answer tells ack nothing h = absurd (h refl)

abbrev Telling : Use → Type 0
Telling leaves = ⊥
Telling clears = ⊥
Telling tells = Unit {0}

not_telling : (u : Use) → (Telling u → ⊥) → u ≡ tells → ⊥
not_telling u h e = h (subst Telling (sym e) tt)

module _ {S M : Type 0} (b : Bench S M) (k : ℕ) (m : M) where
  use_of_others : (l : Letter) → (l ≡ a_ack → ⊥) → use_by (asks b l k m) ≡ tells → ⊥
  unfolding asks
  use_of_others p_put h = not_telling leaves (λ x. x)
  use_of_others q_need h = not_telling leaves (λ x. x)
  use_of_others d_data h = not_telling leaves (λ x. x)
  use_of_others s_take h = not_telling leaves (λ x. x)
  use_of_others c_down h = not_telling leaves (λ x. x)
  use_of_others v_back h = not_telling clears (λ x. x)
  use_of_others o_offer h = not_telling leaves (λ x. x)
  use_of_others k_ok h = not_telling leaves (λ x. x)
  use_of_others r_take h = not_telling leaves (λ x. x)
  use_of_others x_down h = not_telling leaves (λ x. x)
  use_of_others y_back h = not_telling leaves (λ x. x)
  use_of_others l_lose h = not_telling leaves (λ x. x)
  use_of_others m_lose h = not_telling leaves (λ x. x)
  use_of_others a_ack h = absurd (h refl)

-- of every bench's step
pub only_a_tells : {S M : Type 0} (U : Supply S) (good : M → Bool) (r : Reading (Bench S M)) (a : Action M) → (a.letter ≡ a_ack → ⊥) → NoAnswer (read_step U good r a).report
unfolding read_step
only_a_tells U good r a h =
    said_no_answer (use_by (asks r.history a.letter a.place a.message)) r.ack (step U good r.history a).report
    (use_of_others r.history a.place a.message a.letter h)
