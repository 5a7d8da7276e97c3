-- What request 2's promise shuts out: logs that are not right with readings, each for its own reason, and readings that no step tells; what it allows,
-- computed; and lists of actions on which one changed rule would make the log or a spare reading wrong. Newest row first. Assumes nothing.
use Prim.Native.Nat.{ℕ}
use mathlib.Core.Path.{◌≡◌, refl}
use mathlib.Core.Logic.{⊎_elim}
use mathlib.Core.Bool.{Bool, true, false}
use mathlib.Core.Option.{some, none-ne-some, some-injective}
use mathlib.Core.List.{List, [], ◌∷◌, ◌++◌, map}
use lib.ListN.{replicate}
use lib.Dec.{eqb}
use native.Mathlib.Omega.{arith}
use Rattle.ground.specs.Cell.{is_message, cells}
use Rattle.ground.specs.First.{refusal}
use Rattle.ground.proofs.Tests.{by_test}
use Rattle.rules.specs.Lists.{All}
use Rattle.rules.specs.Supply.{Supply, counted}
use Rattle.rules.specs.Letters.{p_put, a_ack, line}
use Rattle.rules.specs.Ends.{Report, nothing, delivered, answered_ok, answered_lost, refused, holding, console_turn, console_acts}
use Rattle.rules.specs.Bench.{Bench, Action, action, Outcome, asks, takes, taken_out, does, effect, rules_of, step, rules}
use Rattle.rules.specs.Log.{Put, Delivered, AnsweredOK, AnsweredLost, ConsoleDown, ConsoleBack, ControllerDown, ControllerBack, Log}
use Rattle.rules.specs.Demand3.{written}
use Rattle.rules.specs.Reading.{Use, leaves, tells, said, ack_after, Reading, read_step, read_reports, fresh_reading, readings}
use Rattle.rules.specs.ReadLog.{RightRead}
use Rattle.rules.specs.ReadDemand3.{read_rows, read_log, spares_lost}
use Rattle.rules.specs.Starred.{Row, P, Q, D, S, C, «V», O, R, X, Y, A, ◌with◌, a, b, start_filler, the_listing}
use Rattle.rules.proofs.Lists.{if_holds}
use Rattle.rules.proofs.Ends.{NotRefused}
use Rattle.rules.proofs.Steps.{puts_says}
use Rattle.rules.proofs.Supply.{counted_lawful}
use Rattle.rules.proofs.ReadDemand3.{demand3_read}

-- ## Wrong logs

-- the cells of a message; a number serves
abbrev c₁ : ℕ
c₁ = 10

-- told OK, and never delivered
pub not_delivered : RightRead (AnsweredOK 1 ∷ Put 1 c₁ ∷ []) → ⊥
not_delivered h = ⊎_elim (λ e. let z : ◌≡◌ {A = ℕ} 0 1 = cc in omega arith) (λ z. z) h.1.delivered.1

-- told OK after the console's restart, though it was delivered
pub ok_after_restart : RightRead (AnsweredOK 1 ∷ ConsoleBack ∷ ConsoleDown ∷ Delivered 1 c₁ ∷ Put 1 c₁ ∷ []) → ⊥
ok_after_restart h = h.1.stayed

-- told lost with no restart of either end since the put
pub no_restart : RightRead (AnsweredLost 1 ∷ Put 1 c₁ ∷ []) → ⊥
no_restart h = h.1.restarted

-- with the controller still down; with restarts of both ends before the put only
pub not_back : RightRead (AnsweredLost 1 ∷ ControllerDown ∷ Put 1 c₁ ∷ []) → ⊥
not_back h = h.1.restarted

pub restart_before : RightRead (AnsweredLost 1 ∷ Put 1 c₁ ∷ ConsoleBack ∷ ConsoleDown ∷ ControllerBack ∷ ControllerDown ∷ []) → ⊥
restart_before h = h.1.restarted

-- told by a console that is down
pub while_down : RightRead (AnsweredLost 1 ∷ ConsoleDown ∷ ControllerBack ∷ ControllerDown ∷ Put 1 c₁ ∷ []) → ⊥
while_down h = h.1.by_one_up

-- a second answer to one put
pub second_answer : RightRead (AnsweredLost 1 ∷ AnsweredOK 1 ∷ Delivered 1 c₁ ∷ Put 1 c₁ ∷ []) → ⊥
second_answer h = none-ne-some 1 h.1.first

-- an answer to a put that another came after
pub late_answer : RightRead (AnsweredLost 1 ∷ Put 2 c₁ ∷ ConsoleBack ∷ ConsoleDown ∷ Put 1 c₁ ∷ []) → ⊥
late_answer h = omega (arith, some-injective 2 1 h.1.first)

-- delivered after lost with the console up all the time
pub after_lost : RightRead (Delivered 1 c₁ ∷ AnsweredLost 1 ∷ ControllerBack ∷ ControllerDown ∷ Put 1 c₁ ∷ []) → ⊥
after_lost h = h.1.not_lost [] (ControllerBack ∷ ControllerDown ∷ Put 1 c₁ ∷ []) refl

-- an OK told before any put, and one told again: the rows cannot say so, `spare` does
pub spare_ok : spares_lost {M = ℕ} false (some (AnsweredOK 0) ∷ []) ≡ false
unfolding spares_lost
spare_ok = refl

pub ok_again : spares_lost false (some (Put 0 c₁) ∷ some (Delivered 0 c₁) ∷ some (AnsweredOK 0) ∷ some (AnsweredOK 0) ∷ []) ≡ false
unfolding spares_lost
ok_again = refl

-- ## Of every bench's step

-- only a refusal is shown as one
said_refused : {M : Type 0} (u : Use) (ack : Bool) (r : Report M) → NotRefused (said u ack r) → NotRefused r
unfolding said
said_refused u ack nothing h = tt
said_refused u ack (delivered m) h = tt
said_refused u ack answered_ok h = tt
said_refused u ack answered_lost h = tt
said_refused u ack (refused n) h = h

module _ {S M : Type 0} (U : Supply S) (good : M → Bool) where
  -- a console that is up and holds none takes A, and is that afterwards
  a_taken : (z : Bench S M) (x y : ℕ) (m : M) → z.console.up ≡ true → holding z.console.mode ≡ false
      → let o = step U good z (action a_ack x y m) in (o.report ≡ nothing) × (o.after.console.up ≡ true) × (holding o.after.console.mode ≡ false)
  unfolding rules
  a_taken z x y m u q = rw (u, q) (refl, refl, q)

  a_found : (z : Bench S M) (x y : ℕ) (m : M) → NotRefused (step U good z (action a_ack x y m)).report
      → (z.console.up ≡ true) × (holding z.console.mode ≡ false)
  unfolding rules
  a_found z x y m h =
      by_test z.console.up (λ u. by_test (holding z.console.mode) (λ q. absurd (rw (u, q) at h)) (λ q. (u, q))) (λ u. absurd (rw u at h))

  module _ (r : Reading (Bench S M)) where
    -- an A that is taken leaves the ack lost: the next one tells lost
    pub second_reading_is_lost : (x y x' y' : ℕ) (m m' : M) → let d = read_step U good r (action a_ack x y m) in
        NotRefused d.report → (read_step U good d.after (action a_ack x' y' m')).report ≡ answered_lost
    unfolding read_step said ack_after asks line
    second_reading_is_lost x y x' y' m m' h =
        let o = step U good r.history (action a_ack x y m) in
        let (u, q) = a_found r.history x y m (said_refused tells r.ack o.report h) in
        let t = a_taken r.history x y m u q in
        rw ((a_taken o.after x' y' m' t.1 t.2).0, t.0) refl

    -- a put leaves it: nothing that is reported would show it if it did not
    pub put_leaves_the_ack : (x y : ℕ) (m : M) → (read_step U good r (action p_put x y m)).after.ack ≡ r.ack
    unfolding read_step step effect asks line takes taken_out does console_acts console_turn ack_after
    put_leaves_the_ack x y m =
        if_holds (λ (o : Outcome S M). ack_after leaves r.ack o.report ≡ r.ack) (eqb (refusal (rules_of U good r.history (action p_put x y m))) 0) _ _
        (λ e. rw puts_says) (λ e. refl)

-- ## Odd, and right; and lists on which one changed rule makes the log or a spare reading wrong

abbrev log_of : List (Action Row) → Log Row
log_of l = read_log counted is_message 0 0 l

-- a delivered order whose OK has arrived and was not read
abbrev ok_unread : List (Action Row)
ok_unread = P a ∷ Q 1 ∷ R 0 ∷ O 1 ∷ S 0 ∷ D 1 ∷ R 0 with 1 ∷ S 0 with 1 ∷ R 0 ∷ []

unfoldable pub told : List (List (Action Row) × Log Row)
told =
    -- lost is read and then the order delivered, for the console went down before
    (P a ∷ Q 1 ∷ R 0 ∷ O 1 ∷ S 0 ∷ D 1 ∷ C ∷ «V» ∷ A ∷ R 0 ∷ [], Delivered 1 a ∷ AnsweredLost 1 ∷ ConsoleBack ∷ ConsoleDown ∷ Put 1 a ∷ [])
    -- OK was kept and the console restarted: lost, although it was delivered. Would V keep the ack: OK after a restart
    ∷ (ok_unread ++ C ∷ «V» ∷ A ∷ [], AnsweredLost 1 ∷ ConsoleBack ∷ ConsoleDown ∷ Delivered 1 a ∷ Put 1 a ∷ [])
    -- OK is read. Would S of OK store nothing: lost with no restart
    ∷ (ok_unread ++ A ∷ [], AnsweredOK 1 ∷ Delivered 1 a ∷ Put 1 a ∷ [])
    -- the first order's OK was not read, the second is lost. Would S of lost store nothing: OK and never delivered
    ∷ (
      ok_unread ++ P b ∷ Q 1 ∷ R 0 ∷ O 1 ∷ S 0 ∷ X ∷ Y ∷ D 1 ∷ R 0 with 1 ∷ S 0 ∷ A ∷ [],
      AnsweredLost 2 ∷ ControllerBack ∷ ControllerDown ∷ Put 2 b ∷ Delivered 1 a ∷ Put 1 a ∷ [],
    )
    -- the first order's OK is never the second's answer. Would A be taken while one is held: OK and not delivered
    ∷ (ok_unread ++ P b ∷ A ∷ C ∷ «V» ∷ A ∷ [], AnsweredLost 2 ∷ ConsoleBack ∷ ConsoleDown ∷ Put 2 b ∷ Delivered 1 a ∷ Put 1 a ∷ [])
    -- the listing, read twice: the second leaves no row
    ∷ (the_listing ++ A ∷ A ∷ [], AnsweredOK 1 ∷ Delivered 1 start_filler ∷ Put 1 start_filler ∷ [])
    ∷ []

pub told_so : map (λ t. (t.0, log_of t.0)) told ≡ told
unfolding told written read_rows readings rules is_message cells
told_so = refl

-- as demand 3 says of all
pub told_right : All (λ t. RightRead (log_of t.0)) told
unfolding told
told_right = all_right told
  where
    all_right : (ts : List (List (Action Row) × Log Row)) → All (λ t. RightRead (log_of t.0)) ts
    all_right [] = tt
    all_right (t ∷ ts) = ((demand3_read counted is_message counted_lawful 0 0 t.0).right, all_right ts)

-- what A tells in a fresh bench, and a second time: would the ack be OK at first, or stay after A, a spare reading is OK
pub spare_readings : read_reports counted is_message (fresh_reading 0 0) (A ∷ ok_unread ++ A ∷ A ∷ [])
    ≡ answered_lost ∷ replicate 6 nothing ++ delivered a ∷ nothing ∷ nothing ∷ answered_ok ∷ answered_lost ∷ []
unfolding readings rules is_message cells
spare_readings = refl
