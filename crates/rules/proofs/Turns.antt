-- A turn of an end, from a state in which the invariant holds: the judge allows the row that it leaves in the log, and the invariant holds of the
-- state and the packet that it leaves. Assumes nothing.
use Prim.Native.Nat.{ℕ, suc}
use mathlib.Core.Path.{◌≡◌, refl, sym, subst, ◌∙◌}
use mathlib.Core.Logic.{⊎_elim}
use mathlib.Core.Bool.{true, false, not, true≢false}
use mathlib.Core.Option.{Option, none, some}
use lib.Dec.{T, eqb}
use borrow.Author.Tests.{eqb-true, eqb-false}
use Rattle.rules.specs.Letters.{s_take, r_take}
use Rattle.rules.specs.Ends.{ControllerTurn, ConsoleTurn, ToController, need_i, order, done, ToConsole, offer, ok, lost, ConsoleMode}
use Rattle.rules.specs.Ends.{in_need_i, in_send, ControllerMode, in_accept, in_ack, ConsoleAct, ControllerAct, turn, stays, nothing}
use Rattle.rules.specs.Ends.{delivered, answered_ok, answered_lost, puts, console_takes, controller_takes, console_turn, controller_turn}
use Rattle.rules.specs.Ends.{need_i_sent, data_sent, offer_sent, ok_sent, holding, absent}
use Rattle.rules.specs.Bench.{action}
use Rattle.rules.specs.Lists.{Opt}
use Rattle.rules.specs.Log.{Labelled, Event, Put}
use Rattle.rules.specs.Judge.{Judge, enter}
use Rattle.rules.specs.Demand3.{row, held_label}
use Rattle.rules.proofs.Lists.{if_holds}
use Rattle.rules.proofs.Judge.{Allowed}
use Rattle.rules.proofs.Invariant.{Last, At, ready_up, ready_down, view, Up, Down, Core, Moves, NothingOn, stay}
use Rattle.rules.proofs.ConsoleMoves.{choose, choose_ready, rest, putting, give_up}
use Rattle.rules.proofs.ControllerMoves.{IsOffered, assign, assign_ready, deliver, deliver_ready, clear}

-- the judge after a row, or after none
abbrev pub judged : {M : Type 0} → Judge M → Option (Event M) → Judge M
judged w none = w
judged w (some e) = enter w e

module _ (F G : ℕ → Type 0) {M : Type 0} (w : Judge M) where
  -- what is to be shown of a turn that leaves the row o
  pub record ConsoleAfter (s : ConsoleMode (Labelled M)) (r : ControllerMode) (on : ℕ → Type 0) (o : Option (Event M))
      (t : ConsoleTurn (Labelled M)) : Type 1 where
    pub On' : ℕ → Type 0
    pub allowed : Opt (Allowed w) o
    pub moves : Moves F G M (view s r on w) (view t.mode r On' (judged w o)) (judged w o).controller (judged w o).since
    pub ready : Opt (Up (view t.mode r On' (judged w o))) (ready_up t.mode)
    pub sent : Opt (Up (view t.mode r On' (judged w o))) t.sent
    pub held : (judged w o).held ≡ holding t.mode
    pub controller : (judged w o).controller ≡ w.controller

  pub record ControllerAfter (s : ConsoleMode (Labelled M)) (r : ControllerMode) (on : ℕ → Type 0) (o : Option (Event M))
      (t : ControllerTurn (Labelled M)) : Type 1 where
    pub On' : ℕ → Type 0
    pub allowed : Opt (Allowed w) o
    pub moves : Moves F G M (view s r on w) (view s t.mode On' (judged w o)) (judged w o).controller (judged w o).since
    pub ready : Opt (Down (view s t.mode On' (judged w o))) (ready_down t.mode)
    pub sent : Opt (Down (view s t.mode On' (judged w o))) t.sent
    pub held : (judged w o).held ≡ w.held
    pub console : (judged w o).console ≡ w.console

  -- ## P

  pub put_good : (s : ConsoleMode (Labelled M)) (r : ControllerMode) (on : ℕ → Type 0) (new : Option ℕ) (m : Labelled M) → absent new ≡ false
      → Opt (λ j. F j → ⊥) new
      → m.label ≡ suc w.count → T w.console → T (not w.held) → Core M (view s r on w) w.controller w.since
      → ConsoleAfter s r on (some (Put m.label m.cells)) (puts new s m)
  unfolding puts holding absent
  put_good s r on none m q f e u h c = absurd (true≢false q)
  put_good s r on (some j) m q f e u h c =
      record {
        On' = NothingOn;
        allowed = (u, h, e);
        moves = putting F G (view s r on w) w.controller w.since c j m f e;
        ready = tt;
        sent = tt;
        held = refl;
        controller = refl;
      }

  -- ## S

  pub console_still : (r : ControllerMode) (on : ℕ → Type 0) (s : ConsoleMode (Labelled M)) (p : Option (ToController (Labelled M)))
      → Core M (view s r on w) w.controller w.since
      → Opt (Up (view s r on w)) (ready_up s) → w.held ≡ holding s → Opt (Up (view s r on w)) p → ConsoleAfter s r on none (stays s p)
  console_still r on s p c q h o =
      record { On' = on; allowed = tt; moves = stay F G (view s r on w) w.controller w.since c; ready = q; sent = o; held = h; controller = refl }

  module _ (r : ControllerMode) (on : ℕ → Type 0) (n place copies : ℕ) (cells : M) where
    abbrev SGood : ConsoleMode (Labelled M) → ConsoleTurn (Labelled M) → Type 1
    SGood s t = ConsoleAfter s r on (row n (held_label s) (action s_take place copies cells) t.report) t

    take_offer : (j i : ℕ) (m : Labelled M) → Core M (view (in_need_i j m) r on w) w.controller w.since → w.held ≡ holding (in_need_i j m)
        → Down (view (in_need_i j m) r on w) (offer j i) → SGood (in_need_i j m) (stays (in_send i m) none)
    unfolding holding
    take_offer j i m c h o =
        record {
          On' = NothingOn;
          allowed = tt;
          moves = choose F G w r on j i m c o;
          ready = choose_ready F G w r on j i m c o;
          sent = tt;
          held = h;
          controller = refl;
        }

    -- the console holds the put that is counted last
    answer_ok : (l : ℕ) (m : Labelled M) → T w.console → Core M (view (in_send l m) r on w) w.controller w.since
        → w.held ≡ holding (in_send l m)
        → Down (view (in_send l m) r on w) (ok l) → SGood (in_send l m) (turn false ConsoleMode.idle answered_ok (some (done l)))
    unfolding holding
    answer_ok l m u c h o =
        record {
          On' = NothingOn;
          allowed = (u, subst T (sym h) tt, c.held.0, o.delivered refl);
          moves = rest F G w (in_send l m) r on c;
          ready = tt;
          sent = record { clean = λ z. z; not_last = λ z. z };
          held = refl;
          controller = refl;
        }

    answer_lost : (l : ℕ) (m : Labelled M) → T w.console → Core M (view (in_send l m) r on w) w.controller w.since
        → w.held ≡ holding (in_send l m)
        → Down (view (in_send l m) r on w) (lost l) → SGood (in_send l m) (turn false ConsoleMode.idle answered_lost none)
    unfolding holding
    answer_lost l m u c h o =
        record {
          On' = NothingOn;
          allowed = (u, subst T (sym h) tt, c.held.0, ⊎_elim (λ z. z) (λ z. absurd (o.out z.0)) (c.live_last l refl));
          moves = give_up F G w w.controller w.since l m r on c o;
          ready = tt;
          sent = tt;
          held = refl;
          controller = refl;
        }

    console_take_good : (s : ConsoleMode (Labelled M)) (p : ToConsole) → T w.console → Core M (view s r on w) w.controller w.since
        → Opt (Up (view s r on w)) (ready_up s)
        → w.held ≡ holding s → Down (view s r on w) p → SGood s (console_takes s p)
    unfolding console_takes
    console_take_good ConsoleMode.idle (offer j i) u c q h o = console_still r on ConsoleMode.idle _ c q h (record { clean = o.own; not_last = λ z. z })
    console_take_good (in_need_i j m) (offer k i) u c q h o =
        if_holds (SGood (in_need_i j m)) (eqb k j) _ _
        (λ e. take_offer j i m c h (rw (eqb-true k j e) at o))
        (λ e. console_still r on (in_need_i j m) _ c q h (record { clean = λ z. eqb-false k j e (o.own z); not_last = λ z. z }))
    console_take_good (in_send l m) (offer j i) u c q h o =
        if_holds (SGood (in_send l m)) (eqb i l) _ _
        (λ e. console_still r on (in_send l m) _ c q h (search))
        (λ e. console_still r on (in_send l m) _ c q h (record { clean = o.own; not_last = eqb-false i l e }))
    console_take_good ConsoleMode.idle (ok i) u c q h o = console_still r on ConsoleMode.idle _ c q h (record { clean = o.clean; not_last = λ z. z })
    console_take_good (in_need_i j m) (ok i) u c q h o = console_still r on (in_need_i j m) _ c q h (record { clean = o.clean; not_last = λ z. z })
    console_take_good (in_send l m) (ok i) u c q h o =
        if_holds (SGood (in_send l m)) (eqb i l) _ _
        (λ e. rw (eqb-true i l e) (answer_ok l m u c h (rw (eqb-true i l e) at o)))
        (λ e. console_still r on (in_send l m) _ c q h (record { clean = o.clean; not_last = eqb-false i l e }))
    console_take_good ConsoleMode.idle (lost i) u c q h o = console_still r on ConsoleMode.idle _ c q h (search)
    console_take_good (in_need_i j m) (lost i) u c q h o = console_still r on (in_need_i j m) _ c q h (search)
    console_take_good (in_send l m) (lost i) u c q h o =
        if_holds (SGood (in_send l m)) (eqb i l) _ _
        (λ e. answer_lost l m u c h (rw (eqb-true i l e) at o))
        (λ e. console_still r on (in_send l m) _ c q h (search))

    pub console_takes_good : (next : Option ℕ) (s : ConsoleMode (Labelled M)) (p : Option ToConsole) → T w.console
        → Core M (view s r on w) w.controller w.since → Opt (Up (view s r on w)) (ready_up s)
        → w.held ≡ holding s → Opt (Down (view s r on w)) p → SGood s (console_turn next s (ConsoleAct.take p))
    unfolding console_turn
    console_takes_good next s none u c q h o = console_still r on s none c q h tt
    console_takes_good next s (some p) u c q h o = console_take_good s p u c q h o

  -- ## R

  pub controller_still : (s : ConsoleMode (Labelled M)) (on : ℕ → Type 0) (r : ControllerMode) (p : Option ToConsole)
      → Core M (view s r on w) w.controller w.since
      → Opt (Down (view s r on w)) (ready_down r) → Opt (Down (view s r on w)) p → ControllerAfter s r on none (stays r p)
  controller_still s on r p c q o =
      record { On' = on; allowed = tt; moves = stay F G (view s r on w) w.controller w.since c; ready = q; sent = o; held = refl; console = refl }

  module _ (s : ConsoleMode (Labelled M)) (on : ℕ → Type 0) (n place copies : ℕ) (cells : M) where
    abbrev RGood : ControllerMode → ControllerTurn (Labelled M) → Type 1
    RGood r t = ControllerAfter s r on (row n (held_label s) (action r_take place copies cells) t.report) t

    take_need : (j i : ℕ) → T w.controller → (G i → ⊥) → Core M (view s ControllerMode.idle on w) w.controller w.since
        → RGood ControllerMode.idle (turn true (in_accept j i) nothing none)
    take_need j i u f c =
        record {
          On' = IsOffered s on j i;
          allowed = tt;
          moves = assign F G w w.controller w.since s on j i f c u;
          ready = assign_ready F G w w.controller w.since s on j i f c;
          sent = tt;
          held = refl;
          console = refl;
        }

    take_order : (j i : ℕ) (m : Labelled M) → T w.controller → Core M (view s (in_accept j i) on w) w.controller w.since
        → Up (view s (in_accept j i) on w) (order i m)
        → RGood (in_accept j i) (turn false (in_ack i) (delivered m) (some (ok i)))
    take_order j i m u c o =
        let k = deliver_ready F G w w.controller w.since s on j i m c o in
        record {
          On' = on;
          allowed = (u, o.was_put.1, (o.new refl).0, (o.new refl).1);
          moves = deliver F G w w.controller w.since s on j i m c o;
          ready = k;
          sent = k;
          held = refl;
          console = refl;
        }

    take_done : (r : ControllerMode) (k : ℕ) → ((i : ℕ) → At r i → i ≡ k) → Core M (view s r on w) w.controller w.since
        → Up (view s r on w) (done k)
        → RGood r (stays ControllerMode.idle none)
    take_done r k one c o =
        record {
          On' = on;
          allowed = tt;
          moves =
              clear F G w s r on w.controller w.since
              (λ i a. ⊎_elim (λ z. o.clean (subst on (one i a) z)) (λ z. o.not_last (subst (Last s) (one i a) z))) c;
          ready = tt;
          sent = tt;
          held = refl;
          console = refl;
        }

    controller_take_good : (new : Option ℕ) (r : ControllerMode) (p : ToController (Labelled M)) → T w.controller → Opt (λ i. G i → ⊥) new
        → Core M (view s r on w) w.controller w.since
        → Opt (Down (view s r on w)) (ready_down r) → Up (view s r on w) p → RGood r (controller_takes new r p)
    unfolding controller_takes
    controller_take_good none ControllerMode.idle (need_i j) u f c q o = controller_still s on ControllerMode.idle _ c q (search)
    controller_take_good (some i) ControllerMode.idle (need_i j) u f c q o = take_need j i u f c
    controller_take_good new (in_accept j i) (need_i k) u f c q o = controller_still s on (in_accept j i) _ c q (search)
    controller_take_good new (in_ack l) (need_i k) u f c q o = controller_still s on (in_ack l) _ c q (search)
    controller_take_good new ControllerMode.idle (order k m) u f c q o = controller_still s on ControllerMode.idle _ c q (record { out = λ z. z })
    controller_take_good new (in_accept j i) (order k m) u f c q o =
        if_holds (RGood (in_accept j i)) (eqb k i) _ _
        (λ e. rw (eqb-true k i e) (take_order j i m u c (rw (eqb-true k i e) at o)))
        (λ e. controller_still s on (in_accept j i) _ c q (record { out = eqb-false k i e }))
    controller_take_good new (in_ack l) (order k m) u f c q o =
        if_holds (RGood (in_ack l)) (eqb k l) _ _
        (λ e. controller_still s on (in_ack l) _ c q (search))
        (λ e. controller_still s on (in_ack l) _ c q (record { out = eqb-false k l e }))
    controller_take_good new ControllerMode.idle (done k) u f c q o = controller_still s on ControllerMode.idle _ c q (search)
    controller_take_good new (in_accept j i) (done k) u f c q o =
        if_holds (RGood (in_accept j i)) (eqb k i) _ _
        (λ e. take_done (in_accept j i) k (λ n a. a ∙ sym (eqb-true k i e)) c o)
        (λ e. controller_still s on (in_accept j i) _ c q (search))
    controller_take_good new (in_ack l) (done k) u f c q o =
        if_holds (RGood (in_ack l)) (eqb k l) _ _
        (λ e. take_done (in_ack l) k (λ n a. a ∙ sym (eqb-true k l e)) c o)
        (λ e. controller_still s on (in_ack l) _ c q (search))

    pub controller_takes_good : (new : Option ℕ) (r : ControllerMode) (p : Option (ToController (Labelled M))) → T w.controller
        → Opt (λ i. G i → ⊥) new
        → Core M (view s r on w) w.controller w.since → Opt (Down (view s r on w)) (ready_down r) → Opt (Up (view s r on w)) p
        → RGood r (controller_turn new r (ControllerAct.take p))
    unfolding controller_turn
    controller_takes_good new r none u f c q o = controller_still s on r none c q tt
    controller_takes_good new r (some p) u f c q o = controller_take_good new r p u f c q o

-- ## What Q, D, O and K send is ready

pub need_i_sent_good : {M : Type 0} (P : ToController M → Type 0) (s : ConsoleMode M) → Opt P (ready_up s) → Opt P (need_i_sent s)
unfolding need_i_sent
need_i_sent_good P ConsoleMode.idle h = tt
need_i_sent_good P (in_need_i j m) h = h
need_i_sent_good P (in_send l m) h = tt

pub data_sent_good : {M : Type 0} (P : ToController M → Type 0) (s : ConsoleMode M) → Opt P (ready_up s) → Opt P (data_sent s)
unfolding data_sent
data_sent_good P ConsoleMode.idle h = tt
data_sent_good P (in_need_i j m) h = tt
data_sent_good P (in_send l m) h = h

pub offer_sent_good : (P : ToConsole → Type 0) (r : ControllerMode) → Opt P (ready_down r) → Opt P (offer_sent r)
unfolding offer_sent
offer_sent_good P ControllerMode.idle h = tt
offer_sent_good P (in_accept j i) h = h
offer_sent_good P (in_ack l) h = tt

pub ok_sent_good : (P : ToConsole → Type 0) (r : ControllerMode) → Opt P (ready_down r) → Opt P (ok_sent r)
unfolding ok_sent
ok_sent_good P ControllerMode.idle h = tt
ok_sent_good P (in_accept j i) h = tt
ok_sent_good P (in_ack l) h = h
