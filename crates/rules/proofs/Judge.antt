-- The judge allows a row exactly if it fits what was before it; so it accepts a log exactly if the log is right. Assumes nothing.
use Prim.Native.Nat.{ℕ, zero, suc, ◌≤◌, ◌<◌}
use mathlib.Core.Path.{◌≡◌, refl, sym, ap, subst, ◌∙◌}
use mathlib.Core.Logic.{inl, inr, ⊎_elim, ◌≢◌}
use mathlib.Core.Bool.{Bool, true, false, not, ◌||◌}
use mathlib.Core.Option.{Option, none, some, none-ne-some, some-injective}
use mathlib.Core.List.{List, [], ◌∷◌}
use lib.Dec.{T}
use native.Mathlib.Omega.{arith}
use Rattle.rules.specs.Lists.{In}
use Rattle.rules.specs.Log.{Labelled, labelled, Event, Put, Delivered, AnsweredOK, AnsweredLost, ConsoleDown, ConsoleBack, ControllerDown, ControllerBack, Log}
use Rattle.rules.specs.Log.{console_up, controller_up, waiting, put_count, fell, fell_and_back, Fits, Right}
use Rattle.rules.specs.Judge.{Since, steady, fallen, returned, on_fall, on_return, is_returned, Judge, start, enter}
use Rattle.rules.specs.Judge.{judge}

-- ## The judge's test as a fact. Messages of any type: no test compares their cells here

module _ {M : Type 0} where
  abbrev pub Allowed : Judge M → Event M → Type 0
  Allowed w (Put n c) = T w.console × T (not w.held) × (n ≡ suc w.count)
  Allowed w (Delivered n c) = T w.controller × In (labelled n c) w.put × (w.top < n) × (In n w.gone → ⊥)
  Allowed w (AnsweredOK n) = T w.console × T w.held × (n ≡ w.count) × (w.top ≡ w.count)
  Allowed w (AnsweredLost n) = T w.console × T w.held × (n ≡ w.count) × T (is_returned w.since)
  Allowed w ConsoleDown = Unit {0}
  Allowed w ConsoleBack = T (not w.console)
  Allowed w ControllerDown = Unit {0}
  Allowed w ControllerBack = T (not w.controller)

  -- every row was allowed
  abbrev pub Accepted : Log M → Type 0
  Accepted [] = Unit {0}
  Accepted (e ∷ past) = Accepted past × Allowed (judge past) e

-- ## Rows of different kinds

abbrev kind : {M : Type 0} → Event M → ℕ
kind (Put n c) = 0
kind (Delivered n c) = 1
kind (AnsweredOK n) = 2
kind (AnsweredLost n) = 3
kind ConsoleDown = 4
kind ConsoleBack = 5
kind ControllerDown = 6
kind ControllerBack = 7

abbrev number : {M : Type 0} → Event M → ℕ
number (Put n c) = n
number (Delivered n c) = n
number (AnsweredOK n) = n
number (AnsweredLost n) = n
number ConsoleDown = 0
number ConsoleBack = 0
number ControllerDown = 0
number ControllerBack = 0

module _ {M : Type 0} where
  earlier : (x e : Event M) (l : Log M) → kind x ≢ kind e → In x (e ∷ l) → In x l
  earlier x e l d (inl q) = absurd (d (ap kind q))
  earlier x e l d (inr h) = h

-- ## What the judge keeps, and what the log tells

abbrev waits : Bool → ℕ → Option ℕ
waits true n = some n
waits false n = none

abbrev is_fallen : Since → Bool
is_fallen steady = false
is_fallen fallen = true
is_fallen returned = true

module _ {M : Type 0} where
  record Puts (count : ℕ) (put : List (Labelled M)) (l : Log M) : Type 0 where
    there : (t : Labelled M) → In t put → In (Put t.label t.cells) l
    here : (n : ℕ) (c : M) → In (Put n c) l → In (labelled n c) put
    low : (t : Labelled M) → In t put → (0 < t.label) × (t.label ≤ count)

  record Deliveries (top : ℕ) (l : Log M) : Type 0 where
    below : (n : ℕ) (c : M) → In (Delivered n c) l → n ≤ top
    there : 0 < top → (c : M) × In (Delivered top c) l

  record Losses (gone : List ℕ) (l : Log M) : Type 0 where
    there : (n : ℕ) → In n gone → In (AnsweredLost n) l
    here : (n : ℕ) → In (AnsweredLost n) l → In n gone

  record Agrees (w : Judge M) (l : Log M) : Type 0 where
    console : w.console ≡ console_up l
    controller : w.controller ≡ controller_up l
    held : waiting l ≡ waits w.held w.count
    since : is_fallen w.since ≡ fell l
    back : is_returned w.since ≡ fell_and_back l
    count : w.count ≡ put_count l
    started : T w.held → 0 < w.count
    bound : w.top ≤ w.count
    put : Puts w.count w.put l
    got : Deliveries w.top l
    gone : Losses w.gone l

  -- a row that is no put, no delivery, no loss
  puts_on : (k : ℕ) (p : List (Labelled M)) (l : Log M) (e : Event M) → 0 ≢ kind e → Puts k p l → Puts k p (e ∷ l)
  puts_on k p l e d h = record { there = λ t x. inr (h.there t x); here = λ n c x. h.here n c (earlier (Put n c) e l d x); low = h.low }

  got_on : (k : ℕ) (l : Log M) (e : Event M) → 1 ≢ kind e → Deliveries k l → Deliveries k (e ∷ l)
  got_on k l e d h = record { below = λ n c x. h.below n c (earlier (Delivered n c) e l d x); there = λ z. let x = h.there z in (x.0, inr x.1) }

  gone_on : (g : List ℕ) (l : Log M) (e : Event M) → 3 ≢ kind e → Losses g l → Losses g (e ∷ l)
  gone_on g l e d h = record { there = λ n x. inr (h.there n x); here = λ n x. h.here n (earlier (AnsweredLost n) e l d x) }

fall_fell : (c : Bool) (s : Since) → is_fallen (on_fall c s) ≡ (c || is_fallen s)
fall_fell false s = refl
fall_fell true steady = refl
fall_fell true fallen = refl
fall_fell true returned = refl

fall_back : (c : Bool) (s : Since) → is_returned (on_fall c s) ≡ is_returned s
fall_back false s = refl
fall_back true steady = refl
fall_back true fallen = refl
fall_back true returned = refl

return_fell : (s : Since) → is_fallen (on_return s) ≡ is_fallen s
return_fell steady = refl
return_fell fallen = refl
return_fell returned = refl

return_back : (s : Since) → is_returned (on_return s) ≡ is_fallen s
return_back steady = refl
return_back fallen = refl
return_back returned = refl

-- ## They go on agreeing

module _ {M : Type 0} where
  agree_start : Agrees {M = M} start []
  agree_start =
      record {
        console = refl;
        controller = refl;
        held = refl;
        since = refl;
        back = refl;
        count = refl;
        started = λ x. absurd x;
        bound = omega arith;
        put = record { there = λ _ x. x; here = λ _ _ x. x; low = λ _ x. absurd x };
        got = record { below = λ _ _ x. absurd x; there = λ z. absurd (omega arith) };
        gone = record { there = λ _ x. x; here = λ _ x. x };
      }

  same_put : (k n : ℕ) (d c : M) → Put k d ≡ Put n c → labelled k d ≡ labelled n c
  same_put k n d c q =
      let x : k ≡ n = cc in
      let y : d ≡ c = cc in
      rw (x, y)

  agree_on : (w : Judge M) (l : Log M) (e : Event M) → Agrees w l → Allowed w e → Agrees (enter w e) (e ∷ l)
  agree_on w l (Put n c) a h =
      record {
        console = a.console;
        controller = a.controller;
        held = refl;
        since = refl;
        back = refl;
        count = h.2 ∙ ap suc a.count;
        started = λ _. omega (arith, h.2);
        bound = omega (arith, a.bound, h.2);
        put = record {
          there = λ t. ⊎_elim (λ q. inl (rw q refl)) (λ x. inr (a.put.there t x));
          here = λ k d. ⊎_elim (λ q. inl (same_put k n d c q)) (λ x. inr (a.put.here k d x));
          low =
              λ t. ⊎_elim (λ q. let z = ap {B = ℕ} (λ (z : Labelled M). z.label) q in (omega (arith, h.2), omega arith))
              (λ x. let z = a.put.low t x in (z.0, omega (arith, h.2)));
        };
        got = got_on _ l _ (omega arith) a.got;
        gone = gone_on _ l _ (omega arith) a.gone;
      }
  agree_on w l (Delivered n c) a h =
      record {
        console = a.console;
        controller = a.controller;
        held = a.held;
        since = a.since;
        back = a.back;
        count = a.count;
        started = a.started;
        bound = omega (arith, a.put.low (labelled n c) h.1);
        put = puts_on _ _ l _ (omega arith) a.put;
        got = record {
          below = λ k d. ⊎_elim (λ q. omega (arith, ap number q)) (λ x. omega (arith, a.got.below k d x, h.2));
          there = λ _. (c, inl refl);
        };
        gone = gone_on _ l _ (omega arith) a.gone;
      }
  agree_on w l (AnsweredOK n) a h =
      record {
        console = a.console;
        controller = a.controller;
        held = refl;
        since = a.since;
        back = a.back;
        count = a.count;
        started = λ x. absurd x;
        bound = a.bound;
        put = puts_on _ _ l _ (omega arith) a.put;
        got = got_on _ l _ (omega arith) a.got;
        gone = gone_on _ l _ (omega arith) a.gone;
      }
  agree_on w l (AnsweredLost n) a h =
      record {
        console = a.console;
        controller = a.controller;
        held = refl;
        since = a.since;
        back = a.back;
        count = a.count;
        started = λ x. absurd x;
        bound = a.bound;
        put = puts_on _ _ l _ (omega arith) a.put;
        got = got_on _ l _ (omega arith) a.got;
        gone = record {
          there = λ k. ⊎_elim (λ q. inl (ap AnsweredLost q)) (λ x. inr (a.gone.there k x));
          here = λ k. ⊎_elim (λ q. inl (ap number q)) (λ x. inr (a.gone.here k x));
        };
      }
  agree_on w l ConsoleDown a h =
      record {
        console = refl;
        controller = a.controller;
        held = a.held;
        since = a.since;
        back = a.back;
        count = a.count;
        started = a.started;
        bound = a.bound;
        put = puts_on _ _ l _ (omega arith) a.put;
        got = got_on _ l _ (omega arith) a.got;
        gone = gone_on _ l _ (omega arith) a.gone;
      }
  agree_on w l ConsoleBack a h =
      record {
        console = refl;
        controller = a.controller;
        held = refl;
        since = a.since;
        back = a.back;
        count = a.count;
        started = λ x. absurd x;
        bound = a.bound;
        put = puts_on _ _ l _ (omega arith) a.put;
        got = got_on _ l _ (omega arith) a.got;
        gone = gone_on _ l _ (omega arith) a.gone;
      }
  agree_on w l ControllerDown a h =
      record {
        console = a.console;
        controller = refl;
        held = a.held;
        since = fall_fell w.controller w.since ∙ cc (a.controller, a.since);
        back = fall_back w.controller w.since ∙ a.back;
        count = a.count;
        started = a.started;
        bound = a.bound;
        put = puts_on _ _ l _ (omega arith) a.put;
        got = got_on _ l _ (omega arith) a.got;
        gone = gone_on _ l _ (omega arith) a.gone;
      }
  agree_on w l ControllerBack a h =
      record {
        console = a.console;
        controller = refl;
        held = a.held;
        since = return_fell w.since ∙ a.since;
        back = return_back w.since ∙ a.since;
        count = a.count;
        started = a.started;
        bound = a.bound;
        put = puts_on _ _ l _ (omega arith) a.put;
        got = got_on _ l _ (omega arith) a.got;
        gone = gone_on _ l _ (omega arith) a.gone;
      }

-- ## A row is allowed exactly if it fits

none_waits : (b : Bool) (n : ℕ) → waits b n ≡ none → T (not b)
none_waits true n e = absurd (none-ne-some n (sym e))
none_waits false n e = tt

waits_none : (b : Bool) (n : ℕ) → T (not b) → waits b n ≡ none
waits_none true n h = absurd h
waits_none false n h = refl

some_waits : (b : Bool) (n k : ℕ) → waits b n ≡ some k → T b × (k ≡ n)
some_waits true n k e = (tt, sym (some-injective n k e))
some_waits false n k e = absurd (none-ne-some k e)

waits_some : (b : Bool) (n : ℕ) → T b → waits b n ≡ some n
waits_some true n h = refl
waits_some false n h = absurd h

module _ {M : Type 0} (w : Judge M) (l : Log M) (a : Agrees w l) where
  allowed_fits : (e : Event M) → Allowed w e → Fits l e
  allowed_fits (Put n c) h =
      record {
        by_one_up = subst T a.console h.0;
        none_held = a.held ∙ waits_none w.held w.count h.1;
        counted = h.2 ∙ ap suc a.count;
      }
  allowed_fits (Delivered n c) h =
      record {
        by_one_up = subst T a.controller h.0;
        its_own_put = a.put.there (labelled n c) h.1;
        in_order = λ m d x. omega (arith, a.got.below m d x, h.2);
        not_lost = λ x. h.3 (a.gone.here n x);
      }
  allowed_fits (AnsweredOK n) h =
      record {
        by_one_up = subst T a.console h.0;
        waits = a.held ∙ waits_some w.held w.count h.1 ∙ ap some (sym h.2);
        delivered =
            let x = a.got.there (omega (arith, h.3, a.started h.1)) in
            (x.0, subst (λ k. In (Delivered k x.0) l) (omega (arith, h.2, h.3)) x.1);
      }
  allowed_fits (AnsweredLost n) h =
      record {
        by_one_up = subst T a.console h.0;
        waits = a.held ∙ waits_some w.held w.count h.1 ∙ ap some (sym h.2);
        restarted = subst T a.back h.3;
      }
  allowed_fits ConsoleDown h = tt
  allowed_fits ConsoleBack h = subst (λ b. T (not b)) a.console h
  allowed_fits ControllerDown h = tt
  allowed_fits ControllerBack h = subst (λ b. T (not b)) a.controller h

  fits_allowed : (e : Event M) → Fits l e → Allowed w e
  fits_allowed (Put n c) h =
      (subst T (sym a.console) h.by_one_up, none_waits w.held w.count (sym a.held ∙ h.none_held), h.counted ∙ ap suc (sym a.count))
  fits_allowed (Delivered n c) h = (
    subst T (sym a.controller) h.by_one_up,
    a.put.here n c h.its_own_put,
    above w.top refl,
    λ x. h.not_lost (a.gone.there n x),
  )
    where
      above : (k : ℕ) → w.top ≡ k → w.top < n
      above zero e = omega (arith, a.put.low (labelled n c) (a.put.here n c h.its_own_put))
      above (suc k) e = let x = a.got.there (omega arith) in h.in_order w.top x.0 x.1
  fits_allowed (AnsweredOK n) h =
      let q = some_waits w.held w.count n (sym a.held ∙ h.waits) in
      (subst T (sym a.console) h.by_one_up, q.0, q.1, omega (arith, a.got.below n h.delivered.0 h.delivered.1, a.bound, q.1))
  fits_allowed (AnsweredLost n) h =
      let q = some_waits w.held w.count n (sym a.held ∙ h.waits) in
      (subst T (sym a.console) h.by_one_up, q.0, q.1, subst T (sym a.back) h.restarted)
  fits_allowed ConsoleDown h = tt
  fits_allowed ConsoleBack h = subst (λ b. T (not b)) (sym a.console) h
  fits_allowed ControllerDown h = tt
  fits_allowed ControllerBack h = subst (λ b. T (not b)) (sym a.controller) h

-- ## So for whole logs

module _ {M : Type 0} where
  agrees : (l : Log M) → Accepted l → Agrees (judge l) l
  agrees [] h = agree_start
  agrees (e ∷ l) h = agree_on (judge l) l e (agrees l h.0) h.1

  pub counted_puts : (l : Log M) → Accepted l → (judge l).count ≡ put_count l
  counted_puts l h = (agrees l h).count

  pub accepted_right : (l : Log M) → Accepted l → Right l
  accepted_right [] h = tt
  accepted_right (e ∷ l) h = (accepted_right l h.0, allowed_fits (judge l) l (agrees l h.0) e h.1)

  pub right_accepted : (l : Log M) → Right l → Accepted l
  right_accepted [] h = tt
  right_accepted (e ∷ l) h =
      let p = right_accepted l h.0 in (p, fits_allowed (judge l) l (agrees l p) e h.1)
