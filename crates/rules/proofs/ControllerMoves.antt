-- What a change of the controller keeps of the invariant: one lemma for each kind of change. Assumes nothing.
use Prim.Native.Nat.{ℕ, ◌<◌}
use mathlib.Core.Path.{◌≡◌, refl, subst}
use mathlib.Core.Logic.{◌⊎◌, inl, inr, ⊎_elim, ◌≢◌}
use mathlib.Core.Bool.{Bool, true, false}
use lib.Dec.{T}
use native.Mathlib.Omega.{arith}
use Rattle.rules.specs.Ends.{ToController, need_i, order, done, ToConsole, offer, ok, lost, ConsoleMode, in_need_i, in_send, ControllerMode}
use Rattle.rules.specs.Ends.{in_accept, in_ack}
use Rattle.rules.specs.Log.{Labelled}
use Rattle.rules.specs.Judge.{Since, steady, fallen, returned, on_fall, on_return, Judge}
use Rattle.rules.proofs.Invariant.{Moves, UpBears, DownBears, Asks, Last, Holds, Needs, At, View, view, Up, Down, Returned, Live, Core}

module _ {M : Type 0} where
  needs_holds : (s : ConsoleMode M) → Needs s → Holds s
  needs_holds ConsoleMode.idle h = h
  needs_holds (in_need_i j m) h = tt
  needs_holds (in_send last m) h = absurd h

  needs_no_last : (s : ConsoleMode M) (i : ℕ) → Needs s → Last s i → ⊥
  needs_no_last ConsoleMode.idle i h x = h
  needs_no_last (in_need_i j m) i h x = x
  needs_no_last (in_send last m) i h x = h

-- ## R takes needI(j) when idle, with an i that was not used

-- the I's on offer then
abbrev pub IsOffered : {M : Type 0} → ConsoleMode M → (ℕ → Type 0) → ℕ → ℕ → ℕ → Type 0
IsOffered s on j i n = ((n ≢ i) × on n) ⊎ ((n ≡ i) × Asks s j)

module _ (F G : ℕ → Type 0) {M : Type 0} (w : Judge M) (awake : Bool) (since : Since) where
  module _ (s : ConsoleMode (Labelled M)) (on : ℕ → Type 0) (j i : ℕ) (new : G i → ⊥) (c : Core M (view s ControllerMode.idle on w) awake since) where
    pub assign : T awake → Moves F G M (view s ControllerMode.idle on w) (view s (in_accept j i) (IsOffered s on j i) w) awake since
    assign u =
        record {
          core =
              record {
                held = c.held;
                bound = c.bound;
                needs = c.needs;
                gone = c.gone;
                live_offer = λ n. ⊎_elim (λ x. inl (stood n (c.live_offer n x.1))) (λ x. inr (x.0, inl u));
                live_last = λ n x. inl (stood n (c.live_last n x));
              };
          ups = ups;
          downs = downs;
        }
      where
        -- an idle controller stands at no number
        stood : (n : ℕ) → Live ControllerMode.idle awake since n → Returned since
        stood n (inl x) = x
        stood n (inr x) = absurd x.0

        ups : (p : ToController (Labelled M)) → UpBears F G p → Up (view s ControllerMode.idle on w) p
            → Up (view s (in_accept j i) (IsOffered s on j i) w) p
        ups (need_i k) _ h = tt
        ups (order k n) u h =
            record {
              clean = ⊎_elim (λ x. h.clean x.1) (λ x. new (subst G x.0 u.0));
              was_put = h.was_put;
              last_is = h.last_is;
              is_last = h.is_last;
              new = λ e. absurd (new (subst G e u.0));
            }
        ups (done k) u h = record { clean = ⊎_elim (λ x. h.clean x.1) (λ x. new (subst G x.0 u)); not_last = h.not_last }

        downs : (p : ToConsole) → DownBears F G p → Down (view s ControllerMode.idle on w) p → Down (view s (in_accept j i) (IsOffered s on j i) w) p
        downs (offer k n) u h =
            record {
              asked = λ a. inl (λ e. new (subst G e u.1), h.asked a);
              own = ⊎_elim (λ x. h.own x.1) (λ x. absurd (new (subst G x.0 u.1)));
            }
        downs (ok k) u h = record { clean = ⊎_elim (λ x. h.clean x.1) (λ x. new (subst G x.0 u)); delivered = h.delivered }
        downs (lost k) u h = record { out = λ e. new (subst G e u) }

    pub assign_ready : Down (view s (in_accept j i) (IsOffered s on j i) w) (offer j i)
    assign_ready = record { asked = λ a. inr (refl, a); own = ⊎_elim (λ x. absurd (x.0 refl)) (λ x. x.1) }

-- ## R takes data(i, m) in accept: m is delivered

abbrev pub with_delivery : {M : Type 0} → View M → ℕ → ℕ → View M
with_delivery v i n =
    record {
      console = v.console;
      controller = in_ack i;
      OnOffer = v.OnOffer;
      count = v.count;
      put = v.put;
      top = n;
      gone = v.gone;
    }

module _ (F G : ℕ → Type 0) {M : Type 0} (w : Judge M) (awake : Bool) (since : Since) (s : ConsoleMode (Labelled M))
    (on : ℕ → Type 0) (j i : ℕ) (m : Labelled M)
    (c : Core M (view s (in_accept j i) on w) awake since) (o : Up (view s (in_accept j i) on w) (order i m)) where
  pub deliver : Moves F G M (view s (in_accept j i) on w) (with_delivery (view s (in_accept j i) on w) i m.label) awake since
  deliver =
      record {
        core =
            record {
              held = c.held;
              bound = o.was_put.0;
              needs = λ x. below x (λ e. needs_no_last s i x (o.is_last (needs_holds s x) e));
              gone = c.gone;
              live_offer = c.live_offer;
              live_last = c.live_last;
            };
        ups = ups;
        downs = downs;
      }
    where
      below : Needs s → m.label ≢ w.count → m.label < w.count
      below _ d = omega (arith, o.was_put.0)

      ups : (p : ToController (Labelled M)) → UpBears F G p → Up (view s (in_accept j i) on w) p
          → Up (with_delivery (view s (in_accept j i) on w) i m.label) p
      ups (need_i k) _ h = tt
      ups (order k n) _ h = record { clean = h.clean; was_put = h.was_put; last_is = h.last_is; is_last = h.is_last; new = λ x. absurd x }
      ups (done k) _ h = record { clean = h.clean; not_last = h.not_last }

      downs : (p : ToConsole) → DownBears F G p → Down (view s (in_accept j i) on w) p
          → Down (with_delivery (view s (in_accept j i) on w) i m.label) p
      downs (offer k n) _ h = record { asked = h.asked; own = h.own }
      downs (ok k) _ h = record { clean = h.clean; delivered = λ x. absurd (omega (arith, h.delivered x, (o.new refl).0, o.was_put.0)) }
      downs (lost k) _ h = record { out = h.out }

  pub deliver_ready : Down (with_delivery (view s (in_accept j i) on w) i m.label) (ok i)
  deliver_ready = record { clean = o.clean; delivered = o.last_is }

-- ## The controller is idle again, by a done or by Y

module _ (F G : ℕ → Type 0) {M : Type 0} (w : Judge M) (s : ConsoleMode (Labelled M)) (r : ControllerMode) (on : ℕ → Type 0) where
  forget_ups : (p : ToController (Labelled M)) → UpBears F G p → Up (view s r on w) p → Up (view s ControllerMode.idle on w) p
  forget_ups (need_i k) _ h = tt
  forget_ups (order k n) _ h = record { clean = h.clean; was_put = h.was_put; last_is = h.last_is; is_last = h.is_last; new = λ x. absurd x }
  forget_ups (done k) _ h = record { clean = h.clean; not_last = h.not_last }

  forget_downs : (p : ToConsole) → DownBears F G p → Down (view s r on w) p → Down (view s ControllerMode.idle on w) p
  forget_downs (offer k n) _ h = record { asked = h.asked; own = h.own }
  forget_downs (ok k) _ h = record { clean = h.clean; delivered = h.delivered }
  forget_downs (lost k) _ h = record { out = λ x. x }

  forget_core : (awake awake' : Bool) (since since' : Since)
      → ((i : ℕ) → on i ⊎ Last s i → Live r awake since i → Live ControllerMode.idle awake' since' i)
      → Core M (view s r on w) awake since → Core M (view s ControllerMode.idle on w) awake' since'
  forget_core awake awake' since since' f c =
      record {
        held = c.held;
        bound = c.bound;
        needs = c.needs;
        gone = c.gone;
        live_offer = λ i x. f i (inl x) (c.live_offer i x);
        live_last = λ i x. f i (inr x) (c.live_last i x);
      }

  -- by a done: what it stood at is neither on offer nor being sent
  pub clear : (awake : Bool) (since : Since) → ((i : ℕ) → At r i → on i ⊎ Last s i → ⊥) → Core M (view s r on w) awake since
      → Moves F G M (view s r on w) (view s ControllerMode.idle on w) awake since
  clear awake since out c =
      record {
        core = forget_core awake awake since since (λ i x. ⊎_elim (λ y. inl y) (λ y. absurd (out i y.0 x))) c;
        ups = forget_ups;
        downs = forget_downs;
      }

  -- by Y: it was down, so the judge saw it fall
  came_back : (since : Since) (i : ℕ) → Live r false since i → Live ControllerMode.idle true (on_return since) i
  came_back steady i (inl x) = absurd x
  came_back steady i (inr x) = ⊎_elim (λ y. absurd y) (λ y. absurd y) x.1
  came_back fallen i x = inl tt
  came_back returned i x = inl tt

  pub come_back : (since : Since) → Core M (view s r on w) false since
      → Moves F G M (view s r on w) (view s ControllerMode.idle on w) true (on_return since)
  come_back since c = record { core = forget_core false true since (on_return since) (λ i _ y. came_back since i y) c; ups = forget_ups; downs = forget_downs }

-- ## X

went_down : (r : ControllerMode) (awake : Bool) (since : Since) (i : ℕ) → Live r awake since i → Live r false (on_fall awake since) i
went_down r false since i (inl x) = inl x
went_down r false since i (inr x) = inr (x.0, ⊎_elim (λ y. absurd y) (λ y. inr y) x.1)
went_down r true steady i (inl x) = absurd x
went_down r true steady i (inr x) = inr (x.0, inr tt)
went_down r true fallen i (inl x) = absurd x
went_down r true fallen i (inr x) = inr (x.0, inr tt)
went_down r true returned i x = inl tt

pub fall : (F G : ℕ → Type 0) {M : Type 0} (v : View M) (awake : Bool) (since : Since) → Core M v awake since
    → Moves F G M v v false (on_fall awake since)
fall F G v awake since c =
    record {
      core =
          record {
            held = c.held;
            bound = c.bound;
            needs = c.needs;
            gone = c.gone;
            live_offer = λ i x. went_down v.controller awake since i (c.live_offer i x);
            live_last = λ i x. went_down v.controller awake since i (c.live_last i x);
          };
      ups = λ p k h. h;
      downs = λ p k h. h;
    }
