-- What the promise shuts out: logs that are not right, each for its own reason; two that look odd and are right; and lists of actions on which
-- one changed rule would make the log wrong. Newest row first. Assumes nothing.
use Prim.Native.Nat.{ℕ}
use mathlib.Core.Path.{◌≡◌, refl}
use mathlib.Core.Logic.{◌↔◌, inl, ⊎_elim}
use mathlib.Core.Bool.{true}
use mathlib.Core.Option.{none-ne-some, some-ne-none}
use mathlib.Core.List.{List, [], ◌∷◌, map}
use lib.ListN.{replicate}
use lib.Dec.{eqb}
use borrow.Author.Tests.{eqb-true, eq-eqb}
use native.Mathlib.Omega.{arith}
use Rattle.ground.specs.Cell.{is_message, cells}
use Rattle.rules.specs.Supply.{counted}
use Rattle.rules.specs.Bench.{Action, rules}
use Rattle.rules.specs.Log.{Put, Delivered, AnsweredOK, AnsweredLost, ConsoleDown, ConsoleBack, ControllerDown, ControllerBack, Log, Right}
use Rattle.rules.specs.Judge.{was_put, allows, accepts}
use Rattle.rules.specs.Demand3.{rows, written, log}
use Rattle.rules.specs.Starred.{Row, P, Q, D, S, C, «V», O, R, X, Y, ◌with◌, a, b, start_filler, the_listing}
use Rattle.rules.proofs.Accepts.{accepts_exactly}

-- ## Wrong logs

-- the cells of two messages; a number serves
abbrev c₁ : ℕ
c₁ = 10

abbrev c₂ : ℕ
c₂ = 20

-- delivered, and never put
pub no_put : Right (Delivered 1 c₁ ∷ []) → ⊥
no_put h = h.1.its_own_put

-- delivered with the cells of another put
pub other_cells : Right (Delivered 2 c₁ ∷ Put 2 c₂ ∷ ConsoleBack ∷ ConsoleDown ∷ Put 1 c₁ ∷ []) → ⊥
other_cells h =
    ⊎_elim (λ e. let z : c₁ ≡ c₂ = cc in omega arith)
    (⊎_elim (λ e. let z : ◌≡◌ {A = ℕ} 0 1 = cc in omega arith)
    (⊎_elim (λ e. let z : ◌≡◌ {A = ℕ} 0 1 = cc in omega arith)
    (⊎_elim (λ e. let z : ◌≡◌ {A = ℕ} 2 1 = cc in omega arith) (λ z. z)))) h.1.its_own_put

-- delivered twice
pub twice : Right (Delivered 1 c₁ ∷ Delivered 1 c₁ ∷ Put 1 c₁ ∷ []) → ⊥
twice h = omega (arith, h.1.in_order 1 c₁ (inl refl))

-- delivered in another order than put
pub out_of_order : Right (Delivered 1 c₁ ∷ Delivered 2 c₂ ∷ Put 2 c₂ ∷ ConsoleBack ∷ ConsoleDown ∷ Put 1 c₁ ∷ []) → ⊥
out_of_order h = omega (arith, h.1.in_order 2 c₂ (inl refl))

-- delivered by a controller that is down
pub by_one_down : Right (Delivered 1 c₁ ∷ ControllerDown ∷ Put 1 c₁ ∷ []) → ⊥
by_one_down h = h.1.by_one_up

-- delivered after it was answered lost
pub after_lost : Right (Delivered 1 c₁ ∷ AnsweredLost 1 ∷ ControllerBack ∷ ControllerDown ∷ Put 1 c₁ ∷ []) → ⊥
after_lost h = h.1.not_lost (inl refl)

-- answered OK before it was delivered: the put's success is no delivery
pub too_early : Right (AnsweredOK 1 ∷ Put 1 c₁ ∷ []) → ⊥
too_early h = ⊎_elim (λ e. let z : ◌≡◌ {A = ℕ} 0 1 = cc in omega arith) (λ z. z) h.1.delivered.1

-- answered lost with the controller up all the time
pub no_restart : Right (AnsweredLost 1 ∷ Put 1 c₁ ∷ []) → ⊥
no_restart h = h.1.restarted

-- answered lost while the controller is still down
pub not_back : Right (AnsweredLost 1 ∷ ControllerDown ∷ Put 1 c₁ ∷ []) → ⊥
not_back h = h.1.restarted

-- answered lost with a restart before the put only
pub restart_before : Right (AnsweredLost 1 ∷ Put 1 c₁ ∷ ControllerBack ∷ ControllerDown ∷ []) → ⊥
restart_before h = h.1.restarted

-- the controller was down already at the put, and an X on a downed end counts for nothing
pub down_before : Right (AnsweredLost 1 ∷ ControllerBack ∷ ControllerDown ∷ Put 1 c₁ ∷ ControllerDown ∷ []) → ⊥
down_before h = h.1.restarted

-- answered a second time
pub second_answer : Right (AnsweredOK 1 ∷ AnsweredOK 1 ∷ Delivered 1 c₁ ∷ Put 1 c₁ ∷ []) → ⊥
second_answer h = none-ne-some 1 h.1.waits

-- answered after the console went down, be it back or not
pub after_restart : Right (AnsweredOK 1 ∷ ConsoleBack ∷ ConsoleDown ∷ Delivered 1 c₁ ∷ Put 1 c₁ ∷ []) → ⊥
after_restart h = none-ne-some 1 h.1.waits

pub while_down : Right (AnsweredOK 1 ∷ ConsoleDown ∷ Delivered 1 c₁ ∷ Put 1 c₁ ∷ []) → ⊥
while_down h = h.1.by_one_up

-- put while another waits, and put with a number left out
pub while_held : Right (Put 2 c₂ ∷ Put 1 c₁ ∷ []) → ⊥
while_held h = some-ne-none 1 h.1.none_held

pub left_out : Right (Put 2 c₁ ∷ []) → ⊥
left_out h = omega (arith, h.1.counted)

-- ## Odd, and right: the judge accepts them

same_number : (c d : ℕ) → (eqb c d ≡ true) ↔ (c ≡ d)
same_number c d = (eqb-true c d, eq-eqb c d)

-- delivered and then answered lost: the answer only says that it won't be delivered later
unfoldable pub lost_delivered : Log ℕ
lost_delivered = AnsweredLost 1 ∷ ControllerBack ∷ ControllerDown ∷ Delivered 1 c₁ ∷ Put 1 c₁ ∷ []

pub lost_though_delivered : Right lost_delivered
unfolding lost_delivered accepts allows was_put
lost_though_delivered = (accepts_exactly eqb same_number lost_delivered).0 refl

-- 1 was never answered and may still be delivered, though 2 was answered lost
unfoldable pub old_delivered : Log ℕ
old_delivered =
    Delivered 1 c₁ ∷ AnsweredLost 2 ∷ ControllerBack ∷ ControllerDown ∷ Put 2 c₂ ∷ ConsoleBack ∷ ConsoleDown ∷ Put 1 c₁ ∷ []

pub old_order_delivered : Right old_delivered
unfolding old_delivered accepts allows was_put
old_order_delivered = (accepts_exactly eqb same_number old_delivered).0 refl

-- ## The log of the listing of document 01

pub listing : log counted is_message 0 0 the_listing
    ≡ AnsweredOK 1 ∷ Delivered 1 start_filler ∷ Put 1 start_filler ∷ []
unfolding written rows rules is_message cells
listing = refl

-- ## Lists on which one changed rule makes the log wrong

unfoldable pub near_misses : List (List (Action Row))
near_misses =
    -- lost for a repeat of the order just delivered: answered lost with no restart
    (P a ∷ Q 1 ∷ R 0 ∷ O 1 ∷ S 0 ∷ D 2 ∷ R 0 ∷ R 0 with 1 ∷ S 0 ∷ [])
    -- done for an offer that names the order now being sent: the same
    ∷ (P a ∷ Q 1 ∷ R 0 ∷ O 2 ∷ S 0 ∷ S 0 with 1 ∷ R 0 ∷ D 1 ∷ R 0 with 1 ∷ S 0 ∷ [])
    -- needI taken in ack: delivered twice
    ∷ (P a ∷ Q 2 ∷ R 0 ∷ O 1 ∷ S 0 ∷ D 2 ∷ R 1 ∷ R 0 ∷ R 0 ∷ [])
    -- needI taken in accept: OK for another order's delivery
    ∷ (P a ∷ Q 1 ∷ R 0 ∷ O 1 ∷ S 0 ∷ D 1 ∷ C ∷ «V» ∷ P b ∷ Q 1 ∷ R 1 ∷ O 1 ∷ S 0 ∷ R 0 with 1 ∷ S 0 ∷ [])
    -- an offer taken in send: delivered twice
    ∷ (P a ∷ Q 2 ∷ R 0 ∷ O 1 ∷ S 0 ∷ D 1 ∷ R 1 ∷ X ∷ Y ∷ R 0 ∷ O 1 ∷ S 0 ∷ D 1 ∷ R 0 ∷ [])
    -- the message kept through the console's restart: answered after it
    ∷ (P a ∷ Q 1 ∷ R 0 ∷ O 1 ∷ S 0 ∷ D 1 ∷ R 0 with 1 ∷ C ∷ «V» ∷ S 0 ∷ [])
    -- the counter started again by a restart: OK for another order's delivery
    ∷ (P a ∷ Q 1 ∷ R 0 ∷ O 1 ∷ S 0 ∷ D 1 ∷ C ∷ «V» ∷ X ∷ Y ∷ P b ∷ Q 1 ∷ R 1 ∷ O 1 ∷ S 0 ∷ R 0 with 1 ∷ S 0 ∷ [])
    ∷ []

-- under document 01's rules each is right, as demand 3 says of all (the cells aside: no test compares them here)
pub all_right : map (λ l. accepts (λ c d. true) (log counted is_message 0 0 l)) near_misses ≡ replicate 7 true
unfolding near_misses accepts allows was_put written rows rules is_message cells
all_right = refl
