-- The judge of specs/Judge.antt, run as a test, accepts a log exactly if it is right. Assumes nothing.
use Prim.Native.Nat.{ℕ, suc}
use mathlib.Core.Path.{◌≡◌, refl, sym, ap, subst, ◌∙◌}
use mathlib.Core.Logic.{◌⊎◌, inl, inr, ⊎_elim, ◌↔◌}
use mathlib.Core.Bool.{Bool, true, false, not, ◌&&◌, ◌||◌, true≢false, false≢true}
use mathlib.Core.List.{List, [], ◌∷◌}
use lib.Dec.{T, eqb, ltb}
use borrow.Author.Tests.{eqb-true, eq-eqb, ltb-true, lt-ltb, not-true}
use Rattle.rules.specs.Lists.{In, listed}
use Rattle.rules.specs.Log.{Labelled, labelled, Event, Put, Delivered, AnsweredOK, AnsweredLost, ConsoleDown, ConsoleBack, ControllerDown, ControllerBack, Log}
use Rattle.rules.specs.Log.{Right}
use Rattle.rules.specs.Judge.{is_returned, Judge, judge, was_put, allows, accepts}
use Rattle.rules.proofs.Judge.{Allowed, Accepted, accepted_right, right_accepted}

-- ## Tests and facts

T_true : (b : Bool) → T b → b ≡ true
T_true true h = refl
T_true false h = absurd h

true_t : (b : Bool) → b ≡ true → T b
true_t b e = subst T (sym e) tt

both : (a b : Bool) → (a && b) ≡ true → (a ≡ true) × (b ≡ true)
both true b e = (refl, e)
both false b e = absurd (false≢true e)

and : (a b : Bool) → a ≡ true → b ≡ true → (a && b) ≡ true
and a b p q = rw (p, q)

either : (a b : Bool) → (a || b) ≡ true → (a ≡ true) ⊎ (b ≡ true)
either true b e = inl refl
either false b e = inr e

left : (a b : Bool) → a ≡ true → (a || b) ≡ true
left a b e = rw e

right : (a b : Bool) → b ≡ true → (a || b) ≡ true
right true b e = refl
right false b e = e

is_listed : (n : ℕ) (l : List ℕ) → listed n l ≡ true → In n l
is_listed n [] e = absurd (false≢true e)
is_listed n (k ∷ l) e = ⊎_elim (λ q. inl (eqb-true n k q)) (λ q. inr (is_listed n l q)) (either (eqb n k) (listed n l) e)

in_listed : (n : ℕ) (l : List ℕ) → In n l → listed n l ≡ true
in_listed n [] h = absurd h
in_listed n (k ∷ l) h = ⊎_elim (λ q. left (eqb n k) (listed n l) (eq-eqb n k q)) (λ q. right (eqb n k) (listed n l) (in_listed n l q)) h

not_listed : (n : ℕ) (l : List ℕ) → (In n l → ⊥) → not (listed n l) ≡ true
not_listed n l h = test (listed n l) refl
  where
    test : (b : Bool) → listed n l ≡ b → not b ≡ true
    test true e = absurd (h (is_listed n l e))
    test false e = refl

-- ## `same` compares the cells of messages

module _ {M : Type 0} (same : M → M → Bool) (alike : (c d : M) → (same c d ≡ true) ↔ (c ≡ d)) where
  put_in : (n : ℕ) (c : M) (l : List (Labelled M)) → was_put same n c l ≡ true → In (labelled n c) l
  unfolding was_put
  put_in n c [] e = absurd (false≢true e)
  put_in n c (m ∷ l) e = ⊎_elim (λ q. inl (is_m q)) (λ q. inr (put_in n c l q)) (either (eqb n m.label && same c m.cells) (was_put same n c l) e)
    where
      is_m : (eqb n m.label && same c m.cells) ≡ true → labelled n c ≡ m
      is_m q =
          let p = both (eqb n m.label) (same c m.cells) q in
          rw (eqb-true n m.label p.0, (alike c m.cells).0 p.1)

  in_put : (n : ℕ) (c : M) (l : List (Labelled M)) → In (labelled n c) l → was_put same n c l ≡ true
  unfolding was_put
  in_put n c [] h = absurd h
  in_put n c (m ∷ l) h =
      ⊎_elim
      (λ q. left (eqb n m.label && same c m.cells) (was_put same n c l)
      (and (eqb n m.label) (same c m.cells) (eq-eqb n m.label (ap (λ x. x.label) q)) ((alike c m.cells).1 (ap (λ x. x.cells) q))))
      (λ q. right (eqb n m.label && same c m.cells) (was_put same n c l) (in_put n c l q)) h

  allows_allowed : (w : Judge M) (e : Event M) → allows same w e ≡ true → Allowed w e
  unfolding allows
  allows_allowed w (Put n c) e =
      let p = both w.console _ e in
      let q = both (not w.held) (eqb n (suc w.count)) p.1 in
      (true_t w.console p.0, true_t (not w.held) q.0, eqb-true n (suc w.count) q.1)
  allows_allowed w (Delivered n c) e =
      let p = both w.controller _ e in
      let q = both (was_put same n c w.put) _ p.1 in
      let r = both (ltb w.top n) (not (listed n w.gone)) q.1 in (
        true_t w.controller p.0,
        put_in n c w.put q.0,
        ltb-true w.top n r.0,
        λ h. true≢false (sym (in_listed n w.gone h) ∙ not-true (listed n w.gone) r.1),
      )
  allows_allowed w (AnsweredOK n) e =
      let p = both w.console _ e in
      let q = both w.held _ p.1 in
      let r = both (eqb n w.count) (eqb w.top w.count) q.1 in
      (true_t w.console p.0, true_t w.held q.0, eqb-true n w.count r.0, eqb-true w.top w.count r.1)
  allows_allowed w (AnsweredLost n) e =
      let p = both w.console _ e in
      let q = both w.held _ p.1 in
      let r = both (eqb n w.count) (is_returned w.since) q.1 in
      (true_t w.console p.0, true_t w.held q.0, eqb-true n w.count r.0, true_t (is_returned w.since) r.1)
  allows_allowed w ConsoleDown e = tt
  allows_allowed w ConsoleBack e = true_t (not w.console) e
  allows_allowed w ControllerDown e = tt
  allows_allowed w ControllerBack e = true_t (not w.controller) e

  Allowed-allows : (w : Judge M) (e : Event M) → Allowed w e → allows same w e ≡ true
  unfolding allows
  Allowed-allows w (Put n c) h =
      and w.console _ (T_true w.console h.0)
      (and (not w.held) (eqb n (suc w.count)) (T_true (not w.held) h.1) (eq-eqb n (suc w.count) h.2))
  Allowed-allows w (Delivered n c) h =
      and w.controller _ (T_true w.controller h.0)
      (and (was_put same n c w.put) _ (in_put n c w.put h.1)
      (and (ltb w.top n) (not (listed n w.gone)) (lt-ltb w.top n h.2) (not_listed n w.gone h.3)))
  Allowed-allows w (AnsweredOK n) h =
      and w.console _ (T_true w.console h.0)
      (and w.held _ (T_true w.held h.1)
      (and (eqb n w.count) (eqb w.top w.count) (eq-eqb n w.count h.2) (eq-eqb w.top w.count h.3)))
  Allowed-allows w (AnsweredLost n) h =
      and w.console _ (T_true w.console h.0)
      (and w.held _ (T_true w.held h.1)
      (and (eqb n w.count) (is_returned w.since) (eq-eqb n w.count h.2) (T_true (is_returned w.since) h.3)))
  Allowed-allows w ConsoleDown h = refl
  Allowed-allows w ConsoleBack h = T_true (not w.console) h
  Allowed-allows w ControllerDown h = refl
  Allowed-allows w ControllerBack h = T_true (not w.controller) h

  -- ## Whole logs

  all_allowed : (l : Log M) → accepts same l ≡ true → Accepted l
  unfolding accepts
  all_allowed [] e = tt
  all_allowed (x ∷ past) e =
      let p = both (accepts same past) (allows same (judge past) x) e in
      (all_allowed past p.0, allows_allowed (judge past) x p.1)

  allowed_all : (l : Log M) → Accepted l → accepts same l ≡ true
  unfolding accepts
  allowed_all [] h = refl
  allowed_all (x ∷ past) h = and (accepts same past) (allows same (judge past) x) (allowed_all past h.0) (Allowed-allows (judge past) x h.1)

  pub accepts_exactly : (l : Log M) → (accepts same l ≡ true) ↔ Right l
  accepts_exactly l = (λ e. accepted_right l (all_allowed l e), λ h. allowed_all l (right_accepted l h))
