-- Computed examples of two boxes over a radio: an old copy of an order, heard after a restart, is not taken as fresh where the number record was
-- kept; where it was not, the order is delivered twice, and the judge refuses the log. Assumes nothing.
use Prim.Native.Nat.{ℕ, suc}
use mathlib.Core.Path.{◌≡◌, refl}
use mathlib.Core.Bool.{Bool, true, false}
use mathlib.Core.List.{List, [], ◌∷◌, ◌++◌}
use lib.Dec.{eqb}
use Rattle.ground.specs.Choice.{chosen}
use Rattle.rules.specs.Supply.{counted, numbering, fresh_numbers, numbers_rules}
use Rattle.rules.specs.Letters.{Letter, p_put, q_need, d_data, s_take, o_offer, r_take, x_down, y_back}
use Rattle.rules.specs.Bench.{action, rules}
use Rattle.rules.specs.Log.{Labelled, Log, Put, Delivered, AnsweredLost, ControllerDown, ControllerBack, put_count}
use Rattle.rules.specs.Judge.{was_put, allows, accepts}
use Rattle.rules.specs.Demand3.{write, written}
use Rattle.rules.specs.Radio.{Link, Happening, acts, cut, aired, keeps, fails, happens, start, labelled_happens, row_left, rows_left, radio_log}

-- messages are numbers here, and all are good
abbrev any : ℕ → Bool
any m = true

abbrev does : Letter → ℕ → Happening ℕ
does l k = acts (action l k 0 0)

-- an order 7 is put, permitted and delivered; then the controller's power is cut, and it comes back
abbrev delivered_once : List (Happening ℕ)
delivered_once = acts (action p_put 0 0 7) ∷ does q_need 0 ∷ does r_take 0 ∷ does o_offer 0 ∷ does s_take 0 ∷ does d_data 0 ∷ does r_take 1 ∷ []

abbrev restarted : List (Happening ℕ)
restarted = cut (action x_down 0 0 0) ∷ does y_back 0 ∷ []

-- what was sent before is heard again: the request, and the order
abbrev heard_again : List (Happening ℕ)
heard_again = does r_take 0 ∷ does r_take 1 ∷ []

pub old_copy_not_fresh : radio_log counted any 0 0 (delivered_once ++ (restarted ++ heard_again)) ≡ ControllerBack ∷ ControllerDown ∷ Delivered 1 7 ∷ Put 1 7 ∷ []
unfolding rules aired keeps fails happens rows_left written
old_copy_not_fresh = refl

-- and the console, told lost, says so: the controller went down and came back
pub told_lost : radio_log counted any 0 0 (delivered_once ++ (restarted ++ (heard_again ++ (does s_take 2 ∷ [])))) ≡ AnsweredLost 1 ∷ ControllerBack ∷ ControllerDown ∷ Delivered 1 7 ∷ Put 1 7 ∷ []
unfolding rules aired keeps fails happens rows_left written
told_lost = refl

-- the same with numbers in blocks: the controller comes back with all that it had reserved used
pub old_copy_not_fresh_in_blocks : radio_log numbering any (fresh_numbers 0) (fresh_numbers 0) (delivered_once ++ (restarted ++ heard_again)) ≡ ControllerBack ∷ ControllerDown ∷ Delivered 1 7 ∷ Put 1 7 ∷ []
unfolding rules numbers_rules chosen aired keeps fails happens rows_left written
old_copy_not_fresh_in_blocks = refl

-- ## A box that breaks the rule: its record is still the one that it started with

-- the link after a list
unfoldable pub left : Log ℕ → Link ℕ (Labelled ℕ) → List (Happening ℕ) → Link ℕ (Labelled ℕ)
left past l [] = l
left past l (h ∷ hs) =
    let n = suc (put_count past) in
    left (write (row_left counted any n l h) past) (labelled_happens counted any n l h).after hs

abbrev unkept : Link ℕ (Labelled ℕ) → Link ℕ (Labelled ℕ)
unkept l = record { bench = l.bench; console_kept = l.console_kept; controller_kept = 0 }

abbrev once : Log ℕ
once = radio_log counted any 0 0 delivered_once

abbrev unkept_log : Log ℕ
unkept_log = written (rows_left counted any once (unkept (left [] (start 0 0) delivered_once)) (restarted ++ heard_again)) once

pub unkept_doubles : unkept_log ≡ Delivered 1 7 ∷ ControllerBack ∷ ControllerDown ∷ Delivered 1 7 ∷ Put 1 7 ∷ []
unfolding rules aired keeps fails happens rows_left written left
unkept_doubles = refl

pub judge_refuses : accepts eqb unkept_log ≡ false
unfolding rules aired keeps fails happens rows_left written left accepts allows was_put
judge_refuses = refl
