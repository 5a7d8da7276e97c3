-- A step of one end, on a bench whose channels keep all that was ever sent: it keeps the invariant of demand 3 and leaves a row that the judge allows.
-- Assumes nothing.
use Prim.Native.Nat.{ℕ, suc}
use mathlib.Core.Path.{◌≡◌, refl, sym, subst, ◌∙◌}
use mathlib.Core.Bool.{Bool, true}
use mathlib.Core.Option.{Option}
use mathlib.Core.List.{[], append-nil}
use lib.Dec.{eqb}
use borrow.Author.Tests.{eqb-true, not-false}
use Rattle.ground.specs.Choice.{chosen, when◌then◌else◌}
use Rattle.ground.specs.First.{first, refusal, applies}
use Rattle.rules.specs.Supply.{Supply, Lawful}
use Rattle.rules.specs.Letters.{Letter, p_put, q_need, d_data, s_take, c_down, v_back, o_offer, k_ok, r_take, x_down, y_back, l_lose, m_lose, a_ack}
use Rattle.rules.specs.Ends.{ConsoleAct, ControllerAct, put, Report, nothing, delivered, answered_ok, answered_lost, refused}
use Rattle.rules.specs.Ends.{console_turn, controller_turn, up_after, console_rules, controller_rules, console_acts, controller_acts, console_step, controller_step}
use Rattle.rules.specs.Bench.{Bench, action, Outcome, Asked, console, controller, no_end, at, copies_of, asks, takes, taken_out, console_did, controller_did, does, effect, end_rules}
use Rattle.rules.specs.WellFormed.{Used}
use Rattle.rules.specs.Log.{Labelled, labelled, Event}
use Rattle.rules.specs.Judge.{Judge}
use Rattle.rules.specs.Demand3.{row, held_label}
use Rattle.rules.specs.Radio.{aired}
use Rattle.rules.proofs.Lists.{all_at, if_holds, if_map}
use Rattle.rules.proofs.Refusals.{passed}
use Rattle.rules.proofs.Numbers.{BorneByAll}
use Rattle.rules.proofs.Invariant.{Inv}
use Rattle.rules.proofs.Turns.{console_takes_good, controller_takes_good}
use Rattle.rules.proofs.Steps.{Good, s_console, r_controller, by_console, by_controller, unused, console_up, controller_up, p_keeps, q_keeps, d_keeps, c_keeps, v_keeps, a_keeps, o_keeps, k_keeps, x_keeps, y_keeps}

-- ## The row does not depend on place and copies

pub row_fields : {M : Type 0} (n held : ℕ) (l : Letter) (x x' y y' : ℕ) (c : M) (r : Report (Labelled M)) → row n held (action l x y c) r ≡ row n held (action l x' y' c) r
row_fields n held l x x' y y' c nothing = refl
row_fields n held l x x' y y' c (delivered m) = refl
row_fields n held l x x' y y' c answered_ok = refl
row_fields n held l x x' y y' c answered_lost = refl
row_fields n held l x x' y y' c (refused k) = refl

-- ## A step over the radio: what the end that is asked does, with one copy; or its refusal, which leaves all

none_refuses : {A : Type 0} (x y : A) → (when eqb (refusal []) 0 then x else y) ≡ x
unfolding refusal first applies chosen
none_refuses x y = refl

module _ {S M : Type 0} (U : Supply S) (good : M → Bool) (b : Bench S M) where
  pub aired_is : (x : Asked M) → let n = refusal (end_rules U good b x) in aired U good b x ≡ (when eqb n 0 then does U b 1 x else record { report = refused n; after = b })
  unfolding aired does end_rules console_step controller_step copies_of
  aired_is (console act) = if_map (console_did b 1) _ _ _ ∙ rw (append-nil b.to_controller)
  aired_is (controller act) = if_map (controller_did b 1) _ _ _ ∙ rw (append-nil b.to_console)
  aired_is no_end = sym (none_refuses _ _)

module _ {S M : Type 0} (U : Supply S) (laws : Lawful S U) (b : Bench S (Labelled M)) (w : Judge M) (h : Inv S M b w)
    (k : BorneByAll (Used U b.console.numbers) (Used U b.controller.numbers) b) (n x : ℕ) (c : M) (good : Labelled M → Bool) (q : n ≡ suc w.count) where
  abbrev held : ℕ
  held = held_label b.console.mode

  abbrev Fine : Letter → Outcome S (Labelled M) → Type 1
  Fine l o = Good S M w (row n held (action l x 1 c) o.report) o

  -- ## S and R: the packet stays on the radio

  s_fine : b.console.up ≡ true → Fine s_take (does U b 1 (console (ConsoleAct.take (at b.to_console x))))
  unfolding does console_acts up_after
  s_fine u =
      by_console U laws b w h k (ConsoleAct.take (at b.to_console x)) b.to_console 1 _
      (console_takes_good _ _ w b.controller.mode h.on n x 1 c _ b.console.mode (at b.to_console x) (console_up U laws b w h k u) h.core h.ready_ups h.held
      (all_at _ b.to_console x h.downs))
      (s_console w n held x 1 c (console_turn (U.next b.console.numbers) b.console.mode (ConsoleAct.take (at b.to_console x))).report ∙ h.console)
      k.to_console_all h.downs

  r_fine : b.controller.up ≡ true → Fine r_take (does U b 1 (controller (ControllerAct.take (at b.to_controller x))))
  unfolding does controller_acts up_after
  r_fine u =
      by_controller U laws b w h k (ControllerAct.take (at b.to_controller x)) b.to_controller 1 _
      (controller_takes_good _ _ w b.console.mode h.on n x 1 c _ b.controller.mode (at b.to_controller x) (controller_up U laws b w h k u) (unused U laws b w h k b.controller.numbers _ refl)
      h.core h.ready_downs (all_at _ b.to_controller x h.ups))
      (r_controller w n held x 1 c (controller_turn (U.next b.controller.numbers) b.controller.mode (ControllerAct.take (at b.to_controller x))).report ∙ h.controller)
      k.to_controller_all h.ups

  -- ## Every letter

  does_fine : (l : Letter) → let asked = asks b l x (labelled n c) in refusal (end_rules U good b asked) ≡ 0 → Fine l (does U b 1 asked)
  unfolding asks effect takes taken_out does end_rules applies chosen console_rules controller_rules
  does_fine p_put e =
      let rules = console_rules U good b.console (put (labelled n c)) in
      p_keeps U laws b w h k n x 1 c q (not-false _ (passed rules e 4 tt)) (passed rules e 6 tt) (passed rules e 8 tt)
  does_fine q_need e = q_keeps U laws b w h k n x 1 c
  does_fine d_data e = d_keeps U laws b w h k n x 1 c
  does_fine s_take e = s_fine (not-false _ (passed (console_rules U good b.console (ConsoleAct.take (at b.to_console x))) e 4 tt))
  does_fine c_down e = c_keeps U laws b w h k n x 1 c
  does_fine v_back e = v_keeps U laws b w h k n x 1 c (passed (console_rules U good b.console ConsoleAct.come_back) e 5 tt)
  does_fine o_offer e = o_keeps U laws b w h k n x 1 c
  does_fine k_ok e = k_keeps U laws b w h k n x 1 c
  does_fine r_take e = r_fine (not-false _ (passed (controller_rules U b.controller (ControllerAct.take (at b.to_controller x))) e 4 tt))
  does_fine x_down e = x_keeps U laws b w h k n x 1 c
  does_fine y_back e = y_keeps U laws b w h k n x 1 c (passed (controller_rules {M = Labelled M} U b.controller ControllerAct.come_back) e 5 tt)
  does_fine l_lose e = record { allowed = tt; inv = h }
  does_fine m_lose e = record { allowed = tt; inv = h }
  does_fine a_ack e = a_keeps U laws b w h k n x 1 c

  fine : (l : Letter) → Fine l (aired U good b (asks b l x (labelled n c)))
  fine l =
      let asked = asks b l x (labelled n c) in
      rw (aired_is U good b asked)
      (if_holds (Fine l) (eqb (refusal (end_rules U good b asked)) 0) _ _
      (λ e. does_fine l (eqb-true (refusal (end_rules U good b asked)) 0 e)) (λ e. record { allowed = tt; inv = h }))

  -- with any copies in the action
  pub aired_keeps : (l : Letter) (y : ℕ) → let o = aired U good b (asks b l x (labelled n c)) in Good S M w (row n held (action l x y c) o.report) o
  aired_keeps l y =
      let o = aired U good b (asks b l x (labelled n c)) in
      subst (λ (z : Option (Event M)). Good S M w z o) (row_fields n held l x x 1 y c o.report) (fine l)
