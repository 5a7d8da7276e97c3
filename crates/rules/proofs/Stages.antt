-- The refusals of the bench in stages, as a program can look for them: 10; those of the end that is asked; 3; 9. Document 01's one order comes to
-- the same: 11 is for P alone, which has no copies, and 7 is for a packet, which is not there where 3 applies. Assumes nothing.
use Prim.Native.Nat.{ℕ}
use mathlib.Core.Path.{◌≡◌, refl}
use mathlib.Core.Bool.{Bool, true, false, ◌&&◌}
use mathlib.Core.Option.{Option, none, some}
use mathlib.Core.List.{[], ◌∷◌}
use lib.Dec.{eqb, ltb}
use borrow.Author.Tests.{eq-eqb, ne_eqb}
use Rattle.ground.specs.Choice.{chosen, when◌then◌else◌}
use Rattle.ground.specs.First.{first, applies, refusal}
use Rattle.rules.specs.Supply.{Supply}
use Rattle.rules.specs.Letters.{Letter, p_put, q_need, d_data, s_take, c_down, v_back, o_offer, k_ok, r_take, x_down, y_back, l_lose, m_lose, a_ack, line}
use Rattle.rules.specs.Ends.{ToController, refused, absent, unknown, console_rules, controller_rules}
use Rattle.rules.specs.Bench.{Bench, Action, action, at, asks, takes, missing, no_room, end_rules, rules_of, effect, step}

abbrev pub staged : Bool → ℕ → Bool → Bool → ℕ
staged ten end three nine = when ten then 10 else (when eqb end 0 then (when three then 3 else (when nine then 9 else 0)) else end)

module _ (ten : Bool) (end : ℕ) (three nine : Bool) where
  pub staged_10 : ten ≡ true → staged ten end three nine ≡ 10
  unfolding chosen
  staged_10 t = rw t

  pub staged_end : ten ≡ false → (end ≡ 0 → ⊥) → staged ten end three nine ≡ end
  unfolding chosen
  staged_end t e = rw (t, ne_eqb end 0 e)

  pub staged_3 : ten ≡ false → end ≡ 0 → three ≡ true → staged ten end three nine ≡ 3
  unfolding chosen
  staged_3 t e p = rw (t, eq-eqb end 0 e, p)

  pub staged_9 : ten ≡ false → end ≡ 0 → three ≡ false → nine ≡ true → staged ten end three nine ≡ 9
  unfolding chosen
  staged_9 t e p q = rw (t, eq-eqb end 0 e, p, q)

  pub staged_0 : ten ≡ false → end ≡ 0 → three ≡ false → nine ≡ false → staged ten end three nine ≡ 0
  unfolding chosen
  staged_0 t e p q = rw (t, eq-eqb end 0 e, p, q)

put_staged : (c d m s : Bool) → refusal ((3, false) ∷ (10, false) ∷ (9, false) ∷ (11, c) ∷ (4, d) ∷ (6, m) ∷ (8, s) ∷ [])
    ≡ staged false (refusal ((11, c) ∷ (4, d) ∷ (6, m) ∷ (8, s) ∷ [])) false false
unfolding refusal first applies chosen
put_staged true d m s = refl
put_staged false true m s = refl
put_staged false false true s = refl
put_staged false false false true = refl
put_staged false false false false = refl

sending_staged : (ten nine d m : Bool) → refusal ((3, false) ∷ (10, ten) ∷ (9, nine) ∷ (4, d) ∷ (6, m) ∷ [])
    ≡ staged ten (refusal ((4, d) ∷ (6, m) ∷ [])) false nine
unfolding refusal first applies chosen
sending_staged true nine d m = refl
sending_staged false nine true m = refl
sending_staged false nine false true = refl
sending_staged false true false false = refl
sending_staged false false false false = refl

hearing_staged : (three ten nine d : Bool) → refusal ((3, three) ∷ (10, ten) ∷ (9, nine) ∷ (4, d) ∷ []) ≡ staged ten (refusal ((4, d) ∷ [])) three nine
unfolding refusal first applies chosen
hearing_staged three true nine d = refl
hearing_staged three false nine true = refl
hearing_staged true false nine false = refl
hearing_staged false false true false = refl
hearing_staged false false false false = refl

-- R: no packet, so 7 says nothing; or one, so 3 says nothing
absent_staged : (ten nine d : Bool) → refusal ((3, true) ∷ (10, ten) ∷ (9, nine) ∷ (4, d) ∷ (7, false) ∷ []) ≡ staged ten (refusal ((4, d) ∷ (7, false) ∷ [])) true nine
unfolding refusal first applies chosen
absent_staged true nine d = refl
absent_staged false nine true = refl
absent_staged false nine false = refl

present_staged : (ten nine d u : Bool) → refusal ((3, false) ∷ (10, ten) ∷ (9, nine) ∷ (4, d) ∷ (7, u) ∷ []) ≡ staged ten (refusal ((4, d) ∷ (7, u) ∷ [])) false nine
unfolding refusal first applies chosen
present_staged true nine d u = refl
present_staged false nine true u = refl
present_staged false nine false true = refl
present_staged false true false false = refl
present_staged false false false false = refl

r_staged : {M : Type 0} (used : ℕ → Bool) (o : Option (ToController M)) (ten nine d : Bool) → refusal ((3, absent o) ∷ (10, ten) ∷ (9, nine) ∷ (4, d) ∷ (7, unknown used o) ∷ [])
    ≡ staged ten (refusal ((4, d) ∷ (7, unknown used o) ∷ [])) (absent o) nine
unfolding absent unknown
r_staged used none ten nine d = absent_staged ten nine d
r_staged used (some p) ten nine d = present_staged ten nine d _

back_staged : (d : Bool) → refusal ((3, false) ∷ (10, false) ∷ (9, false) ∷ (5, d) ∷ []) ≡ staged false (refusal ((5, d) ∷ [])) false false
unfolding refusal first applies chosen
back_staged true = refl
back_staged false = refl

still_staged : (three : Bool) → refusal ((3, three) ∷ (10, false) ∷ (9, false) ∷ []) ≡ staged false (refusal []) three false
unfolding refusal first applies chosen
still_staged true = refl
still_staged false = refl

module _ {S M : Type 0} (U : Supply S) (good : M → Bool) (b : Bench S M) where
  pub in_stages : (l : Letter) (k n : ℕ) (m : M) → refusal (rules_of U good b (action l k n m))
      ≡ staged ((line l).copies && ltb 3 n) (refusal (end_rules U good b (asks b l k m))) ((line l).place && missing (takes l) b k) ((line l).copies && no_room U b n (asks b l k m))
  unfolding line asks takes missing end_rules rules_of console_rules controller_rules
  in_stages p_put k n m = put_staged _ _ _ _
  in_stages q_need k n m = sending_staged _ _ _ _
  in_stages d_data k n m = sending_staged _ _ _ _
  in_stages s_take k n m = hearing_staged _ _ _ _
  in_stages c_down k n m = still_staged false
  in_stages v_back k n m = back_staged _
  in_stages o_offer k n m = sending_staged _ _ _ _
  in_stages k_ok k n m = sending_staged _ _ _ _
  in_stages r_take k n m = r_staged _ (at b.to_controller k) _ _ _
  in_stages x_down k n m = still_staged false
  in_stages y_back k n m = back_staged _
  in_stages l_lose k n m = still_staged _
  in_stages m_lose k n m = still_staged _
  in_stages a_ack k n m = sending_staged false false _ _

  pub step_refuses : (a : Action M) (n : ℕ) → refusal (rules_of U good b a) ≡ n → (n ≡ 0 → ⊥) → step U good b a ≡ record { report = refused n; after = b }
  unfolding step chosen
  step_refuses a n e z = rw (e, ne_eqb n 0 z)

  pub step_does : (a : Action M) → refusal (rules_of U good b a) ≡ 0 → step U good b a ≡ effect U b a
  unfolding step chosen
  step_does a e = rw (eq-eqb (refusal (rules_of U good b a)) 0 e)
