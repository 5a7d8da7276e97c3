-- Every run of the bench is a run of two boxes over a radio: what is lost is never heard, a copy is heard again, a place is a choice of what is heard.
-- Assumes nothing.
use Prim.Native.Nat.{ℕ, suc}
use mathlib.Core.Path.{◌≡◌, refl, sym, ap, subst, ◌∙◌}
use mathlib.Core.Logic.{◌⊎◌, inl, inr}
use mathlib.Core.Bool.{Bool, true, false, ◌&&◌, true≢false}
use mathlib.Core.Option.{Option, none, some}
use mathlib.Core.List.{List, [], ◌∷◌, ◌++◌}
use native.Mathlib.Omega.{arith}
use lib.Dec.{eqb}
use borrow.Author.Tests.{eq-eqb, eqb-true}
use Rattle.ground.specs.Choice.{chosen, when◌then◌else◌}
use Rattle.ground.specs.First.{refusal}
use Rattle.ground.proofs.Tests.{by_test}
use Rattle.rules.specs.Supply.{Supply}
use Rattle.rules.specs.Letters.{Letter, p_put, q_need, d_data, s_take, c_down, v_back, o_offer, k_ok, r_take, x_down, y_back, l_lose, m_lose, a_ack, line}
use Rattle.rules.specs.Ends.{ToController, ToConsole, Console, Controller, ConsoleAct, ControllerAct, ConsoleActed, ControllerActed, absent}
use Rattle.rules.specs.Ends.{console_rules, controller_rules, console_acts, controller_acts, console_step, controller_step}
use Rattle.rules.specs.Bench.{Bench, Action, action, Outcome, Asked, console, controller, no_end, Taken, from_neither, from_to_controller, from_to_console, at, copies_of, asks, takes, missing, taken_out, console_did, controller_did, does, effect, end_rules, rules_of, step, fresh}
use Rattle.rules.specs.Relabel.{in_action}
use Rattle.rules.specs.Lists.{All, Opt, In}
use Rattle.rules.specs.Log.{Labelled, labelled, Event, Log, put_count}
use Rattle.rules.specs.Demand3.{row, held_label, write, labelled_step, row_of, rows, written}
use Rattle.rules.specs.Radio.{Link, Happening, acts, aired, happens, start, labelled_happens, row_left, rows_left, OnRadio}
use Rattle.rules.proofs.Lists.{all_append, all_copies, all_without, all_at, all_map, if_holds}
use Rattle.rules.proofs.Stages.{staged, in_stages}
use Rattle.rules.proofs.RadioSteps.{row_fields}

-- ## Lists

module _ {A : Type 0} (x : A) where
  in_left : (l r : List A) → In x l → In x (l ++ r)
  in_left [] r h = absurd h
  in_left (y ∷ l) r (inl e) = inl e
  in_left (y ∷ l) r (inr h) = inr (in_left l r h)

  in_right : (l r : List A) → In x r → In x (l ++ r)
  in_right [] r h = h
  in_right (y ∷ l) r h = inr (in_right l r h)

  -- what is in a list stands at a place of it
  pub place_of : (l : List A) → In x l → (k : ℕ) × (at l k ≡ some x)
  unfolding at
  place_of [] h = absurd h
  place_of (y ∷ l) (inl e) = (0, ap some (sym e))
  place_of (y ∷ l) (inr h) = let p = place_of l h in (suc p.0, p.1)

-- copies of what is sent are what was sent
sent_copies : {A : Type 0} (n : ℕ) (l : List A) (p : Option A) → All (λ x. In x (l ++ copies_of 1 p)) (copies_of n p)
unfolding copies_of
sent_copies n l none = tt
sent_copies n l (some x) = all_copies (λ y. In y (l ++ copies_of 1 (some x))) n (some x) (in_right x l (x ∷ []) (inl refl))

-- ## A bench, and a radio that has whatever is in its channels

-- the same ends; every packet that is on its way was sent
record Over {S N : Type 0} (b k : Bench S N) : Type 0 where
  pub console : k.console ≡ b.console
  pub controller : k.controller ≡ b.controller
  pub ups : All (λ p. In p k.to_controller) b.to_controller
  pub downs : All (λ p. In p k.to_console) b.to_console

taken_over : {S N : Type 0} (t : Taken) (b k : Bench S N) (p : ℕ) → Over b k → Over (taken_out t b p) k
unfolding taken_out
taken_over from_neither b k p o = o
taken_over from_to_controller b k p o = record { console = o.console; controller = o.controller; ups = all_without _ b.to_controller p o.ups; downs = o.downs }
taken_over from_to_console b k p o = record { console = o.console; controller = o.controller; ups = o.ups; downs = all_without _ b.to_console p o.downs }

module _ {S N : Type 0} (U : Supply S) (good : N → Bool) where
  taken_rules : (t : Taken) (b : Bench S N) (p : ℕ) (x : Asked N) → end_rules U good (taken_out t b p) x ≡ end_rules U good b x
  unfolding taken_out end_rules
  taken_rules from_neither b p x = refl
  taken_rules from_to_controller b p (console act) = refl
  taken_rules from_to_controller b p (controller act) = refl
  taken_rules from_to_controller b p no_end = refl
  taken_rules from_to_console b p (console act) = refl
  taken_rules from_to_console b p (controller act) = refl
  taken_rules from_to_console b p no_end = refl

  console_does : (e : Console S N) (act : ConsoleAct N) → refusal (console_rules U good e act) ≡ 0 → console_step U good e act ≡ console_acts U e act
  unfolding console_step chosen
  console_does e act z = rw (eq-eqb (refusal (console_rules U good e act)) 0 z)

  controller_does : (e : Controller S) (act : ControllerAct N) → refusal (controller_rules U e act) ≡ 0 → controller_step U e act ≡ controller_acts U e act
  unfolding controller_step chosen
  controller_does e act z = rw (eq-eqb (refusal (controller_rules U e act)) 0 z)

  -- what an end does on the bench it does over the radio
  abbrev Alike : Outcome S N → Outcome S N → Type 0
  Alike o o' = (o'.report ≡ o.report) × Over o.after o'.after

  does_over : (b k : Bench S N) (n : ℕ) (x : Asked N) → refusal (end_rules U good b x) ≡ 0 → Over b k → Alike (does U b n x) (aired U good k x)
  unfolding does aired end_rules
  does_over b k n (console act) z o =
      let d = console_acts U b.console act in
      subst (λ (y : ConsoleActed S N). Alike (does U b n (console act)) (console_did k 1 y))
      (sym (ap (λ (e : Console S N). console_step U good e act) o.console ∙ console_does b.console act z)) (
        refl,
        record {
          console = refl;
          controller = o.controller;
          ups =
              all_append _ b.to_controller (copies_of n d.sent) (all_map _ _ (λ p h. in_left p k.to_controller (copies_of 1 d.sent) h) b.to_controller o.ups)
              (sent_copies n k.to_controller d.sent);
          downs = o.downs;
        },
      )
  does_over b k n (controller act) z o =
      let d = controller_acts U b.controller act in
      subst (λ (y : ControllerActed S N). Alike (does U b n (controller act)) (controller_did k 1 y))
      (sym (ap (λ (e : Controller S). controller_step U e act) o.controller ∙ controller_does b.controller act z)) (
        refl,
        record {
          console = o.console;
          controller = refl;
          ups = o.ups;
          downs =
              all_append _ b.to_console (copies_of n d.sent) (all_map _ _ (λ p h. in_left p k.to_console (copies_of 1 d.sent) h) b.to_console o.downs)
              (sent_copies n k.to_console d.sent);
        },
      )
  does_over b k n no_end z o = (refl, o)

  -- ## The same is asked over the radio, at the place among all that was sent where the packet stands

  present : {A : Type 0} (p : Option A) → absent p ≡ false → (x : A) × (p ≡ some x)
  unfolding absent
  present none e = absurd (true≢false e)
  present (some x) e = (x, refl)

  heard : {A : Type 0} (l sent : List A) (p : ℕ) → All (λ x. In x sent) l → absent (at l p) ≡ false → (q : ℕ) × (at sent q ≡ at l p)
  heard l sent p h e =
      let x = present (at l p) e in
      let i = subst (λ o. Opt (λ y. In y sent) o) x.1 (all_at _ l p h) in
      let q = place_of x.0 sent i in
      (q.0, q.1 ∙ sym x.1)

  asked_over : (b k : Bench S N) (l : Letter) (p : ℕ) (m : N) → Over b k → ((line l).place && missing (takes l) b p) ≡ false → (q : ℕ) × (asks k l q m ≡ asks b l p m)
  unfolding asks takes missing line
  asked_over b k p_put p m o e = (p, refl)
  asked_over b k q_need p m o e = (p, refl)
  asked_over b k d_data p m o e = (p, refl)
  asked_over b k s_take p m o e = let h = heard b.to_console k.to_console p o.downs e in (h.0, ap (λ (x : Option ToConsole). console (ConsoleAct.take x)) h.1)
  asked_over b k c_down p m o e = (p, refl)
  asked_over b k v_back p m o e = (p, refl)
  asked_over b k o_offer p m o e = (p, refl)
  asked_over b k k_ok p m o e = (p, refl)
  asked_over b k r_take p m o e = let h = heard b.to_controller k.to_controller p o.ups e in (h.0, ap (λ (x : Option (ToController N)). controller (ControllerAct.take x)) h.1)
  asked_over b k x_down p m o e = (p, refl)
  asked_over b k y_back p m o e = (p, refl)
  asked_over b k l_lose p m o e = (p, refl)
  asked_over b k m_lose p m o e = (p, refl)
  asked_over b k a_ack p m o e = (p, refl)

-- an action that is not refused: neither by the end that is asked, nor for its place
staged_passes : (ten : Bool) (end : ℕ) (three nine : Bool) → staged ten end three nine ≡ 0 → (end ≡ 0) × (three ≡ false)
unfolding chosen
staged_passes true end three nine e = absurd (omega (arith, e))
staged_passes false end three nine e = by_test (eqb end 0) (λ t. (eqb-true end 0 t, not_three three (rw t at e))) (λ f. let z : end ≡ 0 = rw f at e in (z, absurd (true≢false (sym (eq-eqb end 0 z) ∙ f))))
  where
    not_three : (t : Bool) → ◌≡◌ {A = ℕ} (when t then 3 else (when nine then 9 else 0)) 0 → t ≡ false
    not_three true e = absurd (omega (arith, e))
    not_three false e = refl

-- ## A list of actions

module _ {S M : Type 0} (U : Supply S) (good : M → Bool) where
  abbrev fit : Labelled M → Bool
  fit m = good m.cells

  -- an action leaves no row and the radio has it all still; or the same happens over the radio
  abbrev Moved : Log M → Bench S (Labelled M) → Link S (Labelled M) → Action M → Type 0
  Moved past b k a =
      let n = suc (put_count past) in
      let after = (labelled_step U good past b a).after in
      ((row_of U good past b a ≡ none) × Over after k.bench)
      ⊎ ((h : Happening M) × ((row_left U good n k h ≡ row_of U good past b a) × Over after (labelled_happens U good n k h).after.bench))

  moved : (past : Log M) (b : Bench S (Labelled M)) (k : Link S (Labelled M)) (a : Action M) → Over b k.bench → Moved past b k a
  unfolding step happens effect
  moved past b k a o =
      let n = suc (put_count past) in
      let m = labelled n a.message in
      let rules = rules_of U fit b (in_action (labelled n) a) in
      if_holds
      (λ (z : Outcome S (Labelled M)).
      ((row n (held_label b.console.mode) a z.report ≡ none) × Over z.after k.bench)
      ⊎ ((h : Happening M) × ((row_left U good n k h ≡ row n (held_label b.console.mode) a z.report) × Over z.after (labelled_happens U good n k h).after.bench)))
      (eqb (refusal rules) 0) _ _
      (λ e.
      let s = staged_passes _ _ _ _ (sym (in_stages U fit b a.letter a.place a.copies m) ∙ eqb-true (refusal rules) 0 e) in
      let q = asked_over U fit b k.bench a.letter a.place m o s.1 in
      let t = takes a.letter in
      let x = asks b a.letter a.place m in
      let d = does_over U fit (taken_out t b a.place) k.bench a.copies x (ap refusal (taken_rules U fit t b a.place x) ∙ s.0) (taken_over t b k.bench a.place o) in
      let a'' = action a.letter q.0 0 a.message in
      let held = held_label k.bench.console.mode in
      let z = does U (taken_out t b a.place) a.copies x in
      inr (
        acts a'',
        (
          ap (λ (y : Asked (Labelled M)). row n held a'' (aired U fit k.bench y).report) q.1 ∙ ap (row n held a'') d.0
              ∙ ap (λ (c : Console S (Labelled M)). row n (held_label c.mode) a'' z.report) o.console
              ∙ row_fields n (held_label b.console.mode) a.letter q.0 a.place 0 a.copies a.message z.report,
          subst (λ (y : Asked (Labelled M)). Over z.after (aired U fit k.bench y).after) (sym q.1) d.1,
        ),
      ))
      (λ e. inl (refl, o))

  onto : (past : Log M) (b : Bench S (Labelled M)) (k : Link S (Labelled M)) (l : List (Action M)) → Over b k.bench
      → (hs : List (Happening M)) × (written (rows_left U good past k hs) past ≡ written (rows U good past b l) past)
  unfolding rows_left rows written
  onto past b k [] o = ([], refl)
  onto past b k (a ∷ l) o = by (moved past b k a o) (λ p c q v. onto p c q l v)
    where
      by : Moved past b k a
          → ((p : Log M) (c : Bench S (Labelled M)) (q : Link S (Labelled M)) → Over c q.bench
          → (hs : List (Happening M)) × (written (rows_left U good p q hs) p ≡ written (rows U good p c l) p))
          → (hs : List (Happening M)) × (written (rows_left U good past k hs) past ≡ written (rows U good past b (a ∷ l)) past)
      by (inl (e, v)) more =
          let c = (labelled_step U good past b a).after in
          let m = more past c k v in
          (m.0, m.1 ∙ ap (λ (r : Option (Event M)). written (rows U good (write r past) c l) (write r past)) (sym e))
      by (inr (h, (e, v))) more =
          let c = (labelled_step U good past b a).after in
          let n = suc (put_count past) in
          let m = more (write (row_left U good n k h) past) c (labelled_happens U good n k h).after v in
          (h ∷ m.0, m.1 ∙ ap (λ (r : Option (Event M)). written (rows U good (write r past) c l) (write r past)) e)

  pub bench_on_radio : (j i : S) (l : List (Action M)) → OnRadio U good j i l
  unfolding fresh
  bench_on_radio j i l =
      let m = onto [] (fresh j i) (start j i) l (record { console = refl; controller = refl; ups = tt; downs = tt }) in
      record { happenings = m.0; same_log = m.1 }
