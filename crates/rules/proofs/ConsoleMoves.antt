-- What a change of the console keeps of the invariant: one lemma for each kind of change. Assumes nothing.
use Prim.Native.Nat.{ℕ, suc}
use mathlib.Core.Path.{◌≡◌, refl, sym, subst, ◌∙◌}
use mathlib.Core.Logic.{inl, inr, ⊎_elim}
use mathlib.Core.Bool.{Bool}
use mathlib.Core.List.{◌∷◌}
use native.Mathlib.Omega.{arith}
use Rattle.rules.specs.Ends.{ToController, need_i, order, done, ToConsole, offer, ok, lost, ConsoleMode, in_need_i, in_send, ControllerMode}
use Rattle.rules.specs.Ends.{in_accept, in_ack}
use Rattle.rules.specs.Log.{Labelled}
use Rattle.rules.specs.Judge.{Since, steady, Judge}
use Rattle.rules.proofs.Invariant.{Moves, UpBears, DownBears, NothingOn, Accepts, At, View, view, Up, Down, Core}

accepts_at : (r : ControllerMode) (i : ℕ) → Accepts r i → At r i
accepts_at ControllerMode.idle i a = a
accepts_at (in_accept j i') i a = a
accepts_at (in_ack last) i a = absurd a

module _ (F G : ℕ → Type 0) {M : Type 0} (w : Judge M) where
  -- ## S takes offer(j, i) in needI: the console sends i
  module _ (r : ControllerMode) (on : ℕ → Type 0) (j i : ℕ) (m : Labelled M)
      (c : Core M (view (in_need_i j m) r on w) w.controller w.since) (o : Down (view (in_need_i j m) r on w) (offer j i)) where
    pub choose : Moves F G M (view (in_need_i j m) r on w) (view (in_send i m) r NothingOn w) w.controller w.since
    choose =
        record {
          core =
              record {
                held = c.held;
                bound = c.bound;
                needs = λ x. absurd x;
                gone = c.gone;
                live_offer = λ _ x. absurd x;
                live_last = λ k e. rw e (c.live_offer i (o.asked refl));
              };
          ups = ups;
          downs = downs;
        }
      where
        ups : (p : ToController (Labelled M)) → UpBears F G p → Up (view (in_need_i j m) r on w) p → Up (view (in_send i m) r NothingOn w) p
        ups (need_i k) _ h = tt
        ups (order k n) _ h =
            record {
              clean = λ x. x;
              was_put = h.was_put;
              last_is = λ e. absurd (h.clean (subst on (sym e) (o.asked refl)));
              is_last = λ _ e. absurd (h.is_last tt e);
              new = h.new;
            }
        ups (done k) _ h = record { clean = λ x. x; not_last = λ e. h.clean (subst on (sym e) (o.asked refl)) }

        downs : (p : ToConsole) → DownBears F G p → Down (view (in_need_i j m) r on w) p → Down (view (in_send i m) r NothingOn w) p
        downs (offer k n) _ h = record { asked = λ x. x; own = λ x. x }
        downs (ok k) _ h = record { clean = λ x. x; delivered = λ e. absurd (h.clean (subst on (sym e) (o.asked refl))) }
        downs (lost k) _ h = record { out = h.out }

    pub choose_ready : Up (view (in_send i m) r NothingOn w) (order i m)
    choose_ready =
        record {
          clean = λ x. x;
          was_put = (omega (arith, c.held.0), c.held.1);
          last_is = λ _. c.held.0;
          is_last = λ _ _. refl;
          new = λ _. (omega (arith, c.held.0, c.needs tt), λ g. (c.gone m.label g).1 tt c.held.0);
        }

  -- ## The console is idle again, by V or by OK
  pub rest : (s : ConsoleMode (Labelled M)) (r : ControllerMode) (on : ℕ → Type 0) → Core M (view s r on w) w.controller w.since
      → Moves F G M (view s r on w) (view ConsoleMode.idle r NothingOn w) w.controller w.since
  rest s r on c =
      record {
        core =
            record {
              held = tt;
              bound = c.bound;
              needs = λ x. absurd x;
              gone = λ n g. ((c.gone n g).0, λ x. absurd x);
              live_offer = λ _ x. absurd x;
              live_last = λ _ x. absurd x;
            };
        ups = ups;
        downs = downs;
      }
    where
      ups : (p : ToController (Labelled M)) → UpBears F G p → Up (view s r on w) p → Up (view ConsoleMode.idle r NothingOn w) p
      ups (need_i k) _ h = tt
      ups (order k n) _ h = record { clean = λ x. x; was_put = h.was_put; last_is = λ x. absurd x; is_last = λ x. absurd x; new = h.new }
      ups (done k) _ h = record { clean = λ x. x; not_last = λ x. x }

      downs : (p : ToConsole) → DownBears F G p → Down (view s r on w) p → Down (view ConsoleMode.idle r NothingOn w) p
      downs (offer k n) _ h = record { asked = λ x. x; own = λ x. x }
      downs (ok k) _ h = record { clean = λ x. x; delivered = λ x. absurd x }
      downs (lost k) _ h = record { out = h.out }

-- ## P, with a j that was not used
abbrev pub with_put : {M : Type 0} → View M → ConsoleMode (Labelled M) → Labelled M → View M
with_put v s m =
    record {
      console = s;
      controller = v.controller;
      OnOffer = NothingOn;
      count = m.label;
      put = m ∷ v.put;
      top = v.top;
      gone = v.gone;
    }

module _ (F G : ℕ → Type 0) {M : Type 0} (v : View M) (awake : Bool) (since : Since) (c : Core M v awake since) where
  pub putting : (j : ℕ) (m : Labelled M) → (F j → ⊥) → m.label ≡ suc v.count → Moves F G M v (with_put v (in_need_i j m) m) awake steady
  putting j m new e =
      record {
        core =
            record {
              held = (refl, inl refl);
              bound = omega (arith, c.bound);
              needs = λ _. omega (arith, c.bound);
              gone = λ n g. let x = c.gone n g in (omega arith, λ _. omega arith);
              live_offer = λ _ x. absurd x;
              live_last = λ _ x. absurd x;
            };
        ups = ups;
        downs = downs;
      }
    where
      ups : (p : ToController (Labelled M)) → UpBears F G p → Up v p → Up (with_put v (in_need_i j m) m) p
      ups (need_i k) _ h = tt
      ups (order k n) _ h =
          record {
            clean = λ x. x;
            was_put = (omega (arith, h.was_put.0), inr h.was_put.1);
            last_is = λ x. absurd x;
            is_last = λ _ q. absurd (omega (arith, h.was_put.0));
            new = h.new;
          }
      ups (done k) _ h = record { clean = λ x. x; not_last = λ x. x }

      downs : (p : ToConsole) → DownBears F G p → Down v p → Down (with_put v (in_need_i j m) m) p
      downs (offer k n) u h = record { asked = λ q. new (subst F q u.0); own = λ x. absurd x }
      downs (ok k) _ h = record { clean = λ x. x; delivered = λ x. absurd x }
      downs (lost k) _ h = record { out = h.out }

-- ## S takes lost(l) in send: no data that bear the held put's number can be delivered any more

abbrev pub with_loss : {M : Type 0} → View M → ℕ → View M
with_loss v n =
    record {
      console = ConsoleMode.idle;
      controller = v.controller;
      OnOffer = NothingOn;
      count = v.count;
      put = v.put;
      top = v.top;
      gone = n ∷ v.gone;
    }

module _ (F G : ℕ → Type 0) {M : Type 0} (w : Judge M) (awake : Bool) (since : Since) where
  pub give_up : (l : ℕ) (m : Labelled M) (r : ControllerMode) (on : ℕ → Type 0) → Core M (view (in_send l m) r on w) awake since
      → Down (view (in_send l m) r on w) (lost l)
      → Moves F G M (view (in_send l m) r on w) (with_loss (view (in_send l m) r on w) m.label) awake since
  give_up l m r on c o =
      record {
        core =
            record {
              held = tt;
              bound = c.bound;
              needs = λ x. absurd x;
              gone = λ n. ⊎_elim (λ e. (omega (arith, c.held.0), λ x. absurd x)) (λ g. ((c.gone n g).0, λ x. absurd x));
              live_offer = λ _ x. absurd x;
              live_last = λ _ x. absurd x;
            };
        ups = ups;
        downs = downs;
      }
    where
      ups : (p : ToController (Labelled M)) → UpBears F G p → Up (view (in_send l m) r on w) p
          → Up (with_loss (view (in_send l m) r on w) m.label) p
      ups (need_i k) _ h = tt
      ups (order k n) _ h =
          record {
            clean = λ x. x;
            was_put = h.was_put;
            last_is = λ x. absurd x;
            is_last = λ x. absurd x;
            new = λ a. ((h.new a).0, ⊎_elim (λ e. o.out (subst (At r) (h.is_last tt (e ∙ c.held.0)) (accepts_at r k a))) (h.new a).1);
          }
      ups (done k) _ h = record { clean = λ x. x; not_last = λ x. x }

      downs : (p : ToConsole) → DownBears F G p → Down (view (in_send l m) r on w) p → Down (with_loss (view (in_send l m) r on w) m.label) p
      downs (offer k n) _ h = record { asked = λ x. x; own = λ x. x }
      downs (ok k) _ h = record { clean = λ x. x; delivered = λ x. absurd x }
      downs (lost k) _ h = record { out = h.out }
