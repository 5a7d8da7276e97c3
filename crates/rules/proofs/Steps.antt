-- Every step, the refused ones included, keeps the invariant and leaves a row that the judge allows. Assumes nothing.
use Prim.Native.Nat.{ℕ, suc}
use mathlib.Core.Path.{◌≡◌, refl, sym, subst, ◌∙◌}
use mathlib.Core.Bool.{Bool, true, false, not}
use mathlib.Core.Option.{Option, none, some}
use mathlib.Core.List.{List}
use lib.Dec.{T, eqb}
use borrow.Author.Tests.{eqb-true, not-false}
use Rattle.ground.specs.Choice.{chosen}
use Rattle.ground.specs.First.{Rule, refusal, applies}
use Rattle.rules.specs.Supply.{Supply, Lawful}
use Rattle.rules.specs.Letters.{Letter, p_put, q_need, d_data, s_take, c_down, v_back, o_offer, k_ok, r_take, x_down, y_back, l_lose, m_lose, a_ack}
use Rattle.rules.specs.Letters.{line}
use Rattle.rules.specs.Ends.{ToController, ToConsole, ConsoleMode, in_need_i, in_send, ControllerMode, in_accept, in_ack, ConsoleAct, put}
use Rattle.rules.specs.Ends.{send_need_i, send_data, tell_ack, ControllerAct, send_offer, send_ok, Report, nothing, delivered, answered_ok}
use Rattle.rules.specs.Ends.{answered_lost, refused, puts, console_turn, controller_turn, console_power, controller_power, up_after}
use Rattle.rules.specs.Ends.{end_after, absent, holding, console_rules, controller_rules, console_acts, controller_acts}
use Rattle.rules.specs.Bench.{Bench, action, Outcome, console, controller, no_end, at, without, copies_of, asks, takes, taken_out, does}
use Rattle.rules.specs.Bench.{effect, end_rules, rules_of, step}
use Rattle.rules.specs.Relabel.{in_action}
use Rattle.rules.specs.Lists.{All, Opt}
use Rattle.rules.specs.Bears.{Any, ToControllerBears, ConsoleBears, ToConsoleBears, ControllerBears}
use Rattle.rules.specs.WellFormed.{Used}
use Rattle.rules.specs.Log.{Labelled, labelled, Event, Put, ConsoleDown, ConsoleBack, ControllerDown, ControllerBack}
use Rattle.rules.specs.Judge.{Judge}
use Rattle.rules.specs.Demand3.{row, held_label}
use Rattle.rules.proofs.Lists.{all_append, all_copies, all_without, all_at, all_map₂, opt_map₂, if_holds}
use Rattle.rules.proofs.Refusals.{passed}
use Rattle.rules.proofs.Numbers.{BorneByAll, unlike}
use Rattle.rules.proofs.Judge.{Allowed}
use Rattle.rules.proofs.Invariant.{Inv, ready_up, ready_down, View, view, Up, Down, NothingOn, stay}
use Rattle.rules.proofs.ConsoleMoves.{rest}
use Rattle.rules.proofs.ControllerMoves.{come_back, fall}
use Rattle.rules.proofs.Turns.{judged, ConsoleAfter, ControllerAfter, put_good, console_still, controller_still, need_i_sent_good}
use Rattle.rules.proofs.Turns.{data_sent_good, offer_sent_good, ok_sent_good, console_takes_good, controller_takes_good}

-- an outcome whose row is allowed and whose bench keeps it
pub record Good (S M : Type 0) (w : Judge M) (o : Option (Event M)) (x : Outcome S (Labelled M)) : Type 1 where
  pub allowed : Opt (Allowed w) o
  pub inv : Inv S M x.after (judged w o)

-- what an end has ready bears no other numbers than its mode
ready_up_bears : (F G : ℕ → Type 0) {M : Type 0} (s : ConsoleMode M) → ConsoleBears F G Any s → Opt (ToControllerBears F G Any) (ready_up s)
ready_up_bears F G ConsoleMode.idle h = tt
ready_up_bears F G (in_need_i j m) h = h.0
ready_up_bears F G (in_send last m) h = h

ready_down_bears : (F G : ℕ → Type 0) (r : ControllerMode) → ControllerBears F G r → Opt (ToConsoleBears F G) (ready_down r)
ready_down_bears F G ControllerMode.idle h = tt
ready_down_bears F G (in_accept j i) h = h
ready_down_bears F G (in_ack last) h = h

-- the answers at S and the deliveries at R leave the judge's flags of the two ends
module _ {M : Type 0} (w : Judge M) (n held x y : ℕ) (c : M) where
  pub s_console : (r : Report (Labelled M)) → (judged w (row n held (action s_take x y c) r)).console ≡ w.console
  s_console nothing = refl
  s_console (delivered m) = refl
  s_console answered_ok = refl
  s_console answered_lost = refl
  s_console (refused k) = refl

  pub r_controller : (r : Report (Labelled M)) → (judged w (row n held (action r_take x y c) r)).controller ≡ w.controller
  r_controller nothing = refl
  r_controller (delivered m) = refl
  r_controller answered_ok = refl
  r_controller answered_lost = refl
  r_controller (refused k) = refl

-- a put reports nothing
pub puts_says : {M : Type 0} (next : Option ℕ) (s : ConsoleMode M) (m : M) → (puts next s m).report ≡ nothing
unfolding puts
puts_says none s m = refl
puts_says (some j) s m = refl

module _ {S M : Type 0} (U : Supply S) (laws : Lawful S U) (b : Bench S (Labelled M)) (w : Judge M) (h : Inv S M b w)
    (k : BorneByAll (Used U b.console.numbers) (Used U b.controller.numbers) b) where
  abbrev F : ℕ → Type 0
  F = Used U b.console.numbers

  abbrev G : ℕ → Type 0
  G = Used U b.controller.numbers

  abbrev s : ConsoleMode (Labelled M)
  s = b.console.mode

  abbrev r : ControllerMode
  r = b.controller.mode

  abbrev next_j : Option ℕ
  next_j = U.next b.console.numbers

  abbrev next_i : Option ℕ
  next_i = U.next b.controller.numbers

  abbrev v : View M
  v = view s r h.on w

  -- ## An end acts, and the channels. `left` is what is left of the channel that it took from

  abbrev console_left : List ToConsole → Bench S (Labelled M)
  console_left left = record { console = b.console; controller = b.controller; to_controller = b.to_controller; to_console = left }

  abbrev controller_left : List (ToController (Labelled M)) → Bench S (Labelled M)
  controller_left left = record { console = b.console; controller = b.controller; to_controller = left; to_console = b.to_console }

  pub by_console : (act : ConsoleAct (Labelled M)) (left : List ToConsole) (n : ℕ) (o : Option (Event M))
      → ConsoleAfter F G w s r h.on o (console_turn next_j s act)
      → (judged w o).console ≡ up_after (console_power act) b.console.up → All (ToConsoleBears F G) left → All (Down v) left
      → Good S M w o (does U (console_left left) n (console act))
  unfolding does console_acts end_after
  by_console act left n o c e l d =
      let t = console_turn next_j s act in
      let v' = view t.mode r c.On' (judged w o) in
      record {
        allowed = c.allowed;
        inv =
            record {
              on = c.On';
              core = c.moves.core;
              ready_ups = c.ready;
              ready_downs =
                  opt_map₂ (Down v) (ToConsoleBears F G) (Down v') c.moves.downs (ready_down r) (ready_down_bears F G r k.controller)
                  h.ready_downs;
              ups =
                  all_append (Up v') b.to_controller (copies_of n t.sent)
                  (all_map₂ (Up v) (ToControllerBears F G Any) (Up v') c.moves.ups b.to_controller k.to_controller_all h.ups)
                  (all_copies (Up v') n t.sent c.sent);
              downs = all_map₂ (Down v) (ToConsoleBears F G) (Down v') c.moves.downs left l d;
              console = e;
              controller = c.controller ∙ h.controller;
              held = c.held;
            };
      }

  pub by_controller : (act : ControllerAct (Labelled M)) (left : List (ToController (Labelled M))) (n : ℕ) (o : Option (Event M))
      → ControllerAfter F G w s r h.on o (controller_turn next_i r act)
      → (judged w o).controller ≡ up_after (controller_power act) b.controller.up → All (ToControllerBears F G Any) left → All (Up v) left
      → Good S M w o (does U (controller_left left) n (controller act))
  unfolding does controller_acts end_after
  by_controller act left n o c e l d =
      let t = controller_turn next_i r act in
      let v' = view s t.mode c.On' (judged w o) in
      record {
        allowed = c.allowed;
        inv =
            record {
              on = c.On';
              core = c.moves.core;
              ready_ups =
                  opt_map₂ (Up v) (ToControllerBears F G Any) (Up v') c.moves.ups (ready_up s) (ready_up_bears F G s k.console)
                  h.ready_ups;
              ready_downs = c.ready;
              ups = all_map₂ (Up v) (ToControllerBears F G Any) (Up v') c.moves.ups left l d;
              downs =
                  all_append (Down v') b.to_console (copies_of n t.sent)
                  (all_map₂ (Down v) (ToConsoleBears F G) (Down v') c.moves.downs b.to_console k.to_console_all h.downs)
                  (all_copies (Down v') n t.sent c.sent);
              console = c.console ∙ h.console;
              controller = e;
              held = c.held ∙ h.held;
            };
      }

  -- a packet is lost
  loses : (ups : List (ToController (Labelled M))) (downs : List ToConsole) (n : ℕ) → All (Up v) ups → All (Down v) downs
      → Good S M w none (does U (record { console = b.console; controller = b.controller; to_controller = ups; to_console = downs }) n no_end)
  unfolding does
  loses ups downs n x y =
      record {
        allowed = tt;
        inv =
            record {
              on = h.on;
              core = h.core;
              ready_ups = h.ready_ups;
              ready_downs = h.ready_downs;
              ups = x;
              downs = y;
              console = h.console;
              controller = h.controller;
              held = h.held;
            };
      }

  -- ## Every action that is not refused

  -- the number that is next is not used
  pub unused : (q : S) (next : Option ℕ) → U.next q ≡ next → Opt (λ n. Used U q n → ⊥) next
  unused q none e = tt
  unused q (some n) e = unlike U laws q n e

  pub console_up : b.console.up ≡ true → T w.console
  console_up u = subst T (sym (h.console ∙ u)) tt

  pub controller_up : b.controller.up ≡ true → T w.controller
  controller_up u = subst T (sym (h.controller ∙ u)) tt

  module _ (n x y : ℕ) (c : M) where
    abbrev Keeps : Letter → Type 1
    Keeps l =
        let o = effect U b (in_action (labelled n) (action l x y c)) in
        Good S M w (row n (held_label s) (action l x y c) o.report) o

    pub p_keeps : n ≡ suc w.count → b.console.up ≡ true → holding s ≡ false → absent next_j ≡ false → Keeps p_put
    unfolding effect asks takes taken_out does console_acts console_turn up_after
    p_keeps e u q p =
        subst (λ z. Good S M w (row n (held_label s) (action p_put x y c) z) (effect U b (in_action (labelled n) (action p_put x y c))))
        (sym (puts_says next_j s (labelled n c)))
        (by_console (put (labelled n c)) b.to_console y (some (Put n c))
        (put_good F G w s r h.on next_j (labelled n c) p (unused b.console.numbers _ refl) e (console_up u)
        (subst (λ z. T (not z)) (sym (h.held ∙ q)) tt) h.core)
        h.console k.to_console_all h.downs)

    s_keeps : b.console.up ≡ true → Keeps s_take
    unfolding effect asks takes taken_out does console_acts up_after
    s_keeps u =
        by_console (ConsoleAct.take (at b.to_console x)) (without b.to_console x) y _
        (console_takes_good F G w r h.on n x y c next_j s (at b.to_console x) (console_up u) h.core h.ready_ups h.held
        (all_at _ b.to_console x h.downs))
        (s_console w n (held_label s) x y c (console_turn next_j s (ConsoleAct.take (at b.to_console x))).report ∙ h.console)
        (all_without _ b.to_console x k.to_console_all) (all_without _ b.to_console x h.downs)

    pub c_keeps : Keeps c_down
    unfolding effect asks takes taken_out does console_acts console_turn up_after
    c_keeps =
        by_console ConsoleAct.go_down b.to_console y (some ConsoleDown)
        (record { On' = h.on; allowed = tt; moves = stay F G v w.controller w.since h.core; ready = h.ready_ups; sent = tt; held = h.held; controller = refl })
        refl k.to_console_all h.downs

    pub v_keeps : b.console.up ≡ false → Keeps v_back
    unfolding effect asks takes taken_out does console_acts console_turn up_after holding
    v_keeps u =
        by_console ConsoleAct.come_back b.to_console y (some ConsoleBack)
        (record {
          On' = NothingOn;
          allowed = subst (λ z. T (not z)) (sym (h.console ∙ u)) tt;
          moves = rest F G w s r h.on h.core;
          ready = tt;
          sent = tt;
          held = refl;
          controller = refl;
        })
        refl k.to_console_all h.downs

    r_keeps : b.controller.up ≡ true → Keeps r_take
    unfolding effect asks takes taken_out does controller_acts up_after
    r_keeps u =
        by_controller (ControllerAct.take (at b.to_controller x)) (without b.to_controller x) y _
        (controller_takes_good F G w s h.on n x y c next_i r (at b.to_controller x) (controller_up u) (unused b.controller.numbers _ refl)
        h.core h.ready_downs (all_at _ b.to_controller x h.ups))
        (r_controller w n (held_label s) x y c (controller_turn next_i r (ControllerAct.take (at b.to_controller x))).report ∙ h.controller)
        (all_without _ b.to_controller x k.to_controller_all) (all_without _ b.to_controller x h.ups)

    pub x_keeps : Keeps x_down
    unfolding effect asks takes taken_out does controller_acts controller_turn up_after
    x_keeps =
        by_controller ControllerAct.go_down b.to_controller y (some ControllerDown)
        (record {
          On' = h.on;
          allowed = tt;
          moves = fall F G v w.controller w.since h.core;
          ready = h.ready_downs;
          sent = tt;
          held = refl;
          console = refl;
        })
        refl k.to_controller_all h.ups

    pub y_keeps : b.controller.up ≡ false → Keeps y_back
    unfolding effect asks takes taken_out does controller_acts controller_turn up_after
    y_keeps u =
        by_controller ControllerAct.come_back b.to_controller y (some ControllerBack)
        (record {
          On' = h.on;
          allowed = subst (λ z. T (not z)) (sym (h.controller ∙ u)) tt;
          moves = come_back F G w s r h.on w.since (rw (h.controller ∙ u) at h.core);
          ready = tt;
          sent = tt;
          held = refl;
          console = refl;
        })
        refl k.to_controller_all h.ups

    -- what Q, D, O and K send is ready
    pub q_keeps : Keeps q_need
    unfolding effect asks takes taken_out does console_acts console_turn up_after
    q_keeps =
        by_console send_need_i b.to_console y none
        (console_still F G w r h.on s _ h.core h.ready_ups h.held (need_i_sent_good (Up v) s h.ready_ups))
        h.console k.to_console_all h.downs

    pub d_keeps : Keeps d_data
    unfolding effect asks takes taken_out does console_acts console_turn up_after
    d_keeps =
        by_console send_data b.to_console y none
        (console_still F G w r h.on s _ h.core h.ready_ups h.held (data_sent_good (Up v) s h.ready_ups))
        h.console k.to_console_all h.downs

    -- A sends nothing
    pub a_keeps : Keeps a_ack
    unfolding effect asks takes taken_out does console_acts console_turn up_after
    a_keeps =
        by_console tell_ack b.to_console y none
        (console_still F G w r h.on s _ h.core h.ready_ups h.held tt)
        h.console k.to_console_all h.downs

    pub o_keeps : Keeps o_offer
    unfolding effect asks takes taken_out does controller_acts controller_turn up_after
    o_keeps =
        by_controller send_offer b.to_controller y none
        (controller_still F G w s h.on r _ h.core h.ready_downs (offer_sent_good (Down v) r h.ready_downs))
        h.controller k.to_controller_all h.ups

    pub k_keeps : Keeps k_ok
    unfolding effect asks takes taken_out does controller_acts controller_turn up_after
    k_keeps =
        by_controller send_ok b.to_controller y none
        (controller_still F G w s h.on r _ h.core h.ready_downs (ok_sent_good (Down v) r h.ready_downs))
        h.controller k.to_controller_all h.ups

    module _ (good : Labelled M → Bool) (q : n ≡ suc w.count) where
      abbrev rules_for : Letter → List Rule
      rules_for l = rules_of U good b (in_action (labelled n) (action l x y c))

      effect_keeps : (l : Letter) → refusal (rules_for l) ≡ 0 → Keeps l
      unfolding rules_of applies chosen line asks end_rules console_rules controller_rules effect takes taken_out does
      effect_keeps p_put e =
          p_keeps q (not-false _ (passed (rules_for p_put) e 4 tt)) (passed (rules_for p_put) e 6 tt) (passed (rules_for p_put) e 8 tt)
      effect_keeps q_need e = q_keeps
      effect_keeps d_data e = d_keeps
      effect_keeps s_take e = s_keeps (not-false _ (passed (rules_for s_take) e 4 tt))
      effect_keeps c_down e = c_keeps
      effect_keeps v_back e = v_keeps (passed (rules_for v_back) e 5 tt)
      effect_keeps o_offer e = o_keeps
      effect_keeps k_ok e = k_keeps
      effect_keeps r_take e = r_keeps (not-false _ (passed (rules_for r_take) e 4 tt))
      effect_keeps x_down e = x_keeps
      effect_keeps y_back e = y_keeps (passed (rules_for y_back) e 5 tt)
      effect_keeps l_lose e =
          loses (without b.to_controller x) b.to_console y (all_without _ b.to_controller x h.ups) h.downs
      effect_keeps m_lose e =
          loses b.to_controller (without b.to_console x) y h.ups (all_without _ b.to_console x h.downs)
      effect_keeps a_ack e = a_keeps

      -- the refused ones included
      pub step_keeps : (l : Letter)
          → let o = step U good b (in_action (labelled n) (action l x y c)) in Good S M w (row n (held_label s) (action l x y c) o.report) o
      unfolding step
      step_keeps l =
          if_holds (λ o. Good S M w (row n (held_label s) (action l x y c) o.report) o) (eqb (refusal (rules_for l)) 0) _ _
          (λ e. effect_keeps l (eqb-true (refusal (rules_for l)) 0 e)) (λ e. record { allowed = tt; inv = h })
