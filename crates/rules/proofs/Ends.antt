-- An end's step: a refusal changes nothing and sends nothing, and only a rule refuses. No end that always refuses, always says OK or never
-- changes is such an end. Assumes nothing.
use Prim.Native.Nat.{ℕ}
use mathlib.Core.Path.{◌≡◌, refl, sym, ap, subst, ◌∙◌}
use mathlib.Core.Logic.{◌≢◌, ◌↔◌}
use mathlib.Core.Bool.{Bool, true}
use mathlib.Core.Option.{Option, none, some}
use lib.ListN.{replicate}
use mathlib.Core.List.{List}
use lib.Dec.{eqb}
use borrow.Author.Tests.{eqb-true, eqb-false}
use native.Mathlib.Omega.{arith}
use Rattle.ground.specs.Choice.{when◌then◌else◌}
use Rattle.ground.specs.First.{refusal}
use Rattle.ground.specs.Cell.{is_message, cells}
use Rattle.rules.specs.Supply.{Supply, counted}
use Rattle.rules.specs.Ends.{ControllerActed, ConsoleActed, ToController, need_i, order, done, ToConsole, offer, ok, lost, ConsoleMode}
use Rattle.rules.specs.Ends.{in_need_i, in_send, ControllerMode, in_accept, in_ack, Console, Controller, ConsoleAct, put, send_need_i}
use Rattle.rules.specs.Ends.{send_data, tell_ack, ControllerAct, send_offer, send_ok, Report, nothing, delivered, answered_ok, answered_lost, refused}
use Rattle.rules.specs.Ends.{ConsoleTurn, ControllerTurn, puts, console_takes, controller_takes, console_turn, controller_turn, console_rules, controller_rules}
use Rattle.rules.specs.Ends.{console_acts, controller_acts, console_step, controller_step}
use Rattle.rules.specs.Bench.{rules}
use Rattle.rules.proofs.Lists.{if_holds}

-- ## Only a rule refuses

module _ {M : Type 0} where
  abbrev pub NotRefused : Report M → Type 0
  NotRefused nothing = Unit {0}
  NotRefused (delivered m) = Unit {0}
  NotRefused answered_ok = Unit {0}
  NotRefused answered_lost = Unit {0}
  NotRefused (refused n) = ⊥

-- what a console reports: nothing, OK or lost
module _ {M : Type 0} (P : Report M → Type 0) (n : P nothing) (o : P answered_ok) (l : P answered_lost) where
  abbrev Told : ConsoleTurn M → Type 0
  Told t = P t.report

  puts_report : (next : Option ℕ) (mode : ConsoleMode M) (m : M) → Told (puts next mode m)
  unfolding puts
  puts_report none mode m = n
  puts_report (some j) mode m = n

  console_takes_report : (mode : ConsoleMode M) (p : ToConsole) → Told (console_takes mode p)
  unfolding console_takes
  console_takes_report ConsoleMode.idle (offer J I) = n
  console_takes_report (in_need_i j m) (offer J I) = if_holds Told _ _ _ (λ e. n) (λ e. n)
  console_takes_report (in_send last m) (offer J I) = if_holds Told _ _ _ (λ e. n) (λ e. n)
  console_takes_report ConsoleMode.idle (ok I) = n
  console_takes_report (in_need_i j m) (ok I) = n
  console_takes_report (in_send last m) (ok I) = if_holds Told _ _ _ (λ e. o) (λ e. n)
  console_takes_report ConsoleMode.idle (lost I) = n
  console_takes_report (in_need_i j m) (lost I) = n
  console_takes_report (in_send last m) (lost I) = if_holds Told _ _ _ (λ e. l) (λ e. n)

  pub console_reports : {S : Type 0} (U : Supply S) (e : Console S M) (act : ConsoleAct M) → P (console_acts U e act).report
  unfolding console_acts console_turn
  console_reports U e (put m) = puts_report _ _ m
  console_reports U e send_need_i = n
  console_reports U e send_data = n
  console_reports U e (ConsoleAct.take none) = n
  console_reports U e (ConsoleAct.take (some p)) = console_takes_report _ p
  console_reports U e ConsoleAct.go_down = n
  console_reports U e ConsoleAct.come_back = n
  console_reports U e tell_ack = n

-- what a controller reports: nothing, or a message delivered
module _ {M : Type 0} (P : Report M → Type 0) (n : P nothing) (d : (m : M) → P (delivered m)) where
  abbrev Shown : ControllerTurn M → Type 0
  Shown t = P t.report

  controller_takes_report : (next : Option ℕ) (mode : ControllerMode) (p : ToController M) → Shown (controller_takes next mode p)
  unfolding controller_takes
  controller_takes_report none ControllerMode.idle (need_i J) = n
  controller_takes_report (some i) ControllerMode.idle (need_i J) = n
  controller_takes_report next (in_accept j i) (need_i J) = n
  controller_takes_report next (in_ack last) (need_i J) = n
  controller_takes_report next ControllerMode.idle (order I m) = n
  controller_takes_report next (in_accept j i) (order I m) = if_holds Shown _ _ _ (λ e. d m) (λ e. n)
  controller_takes_report next (in_ack last) (order I m) = if_holds Shown _ _ _ (λ e. n) (λ e. n)
  controller_takes_report next ControllerMode.idle (done I) = n
  controller_takes_report next (in_accept j i) (done I) = if_holds Shown _ _ _ (λ e. n) (λ e. n)
  controller_takes_report next (in_ack last) (done I) = if_holds Shown _ _ _ (λ e. n) (λ e. n)

  pub controller_reports : {S : Type 0} (U : Supply S) (e : Controller S) (act : ControllerAct M) → P (controller_acts U e act).report
  unfolding controller_acts controller_turn
  controller_reports U e send_offer = n
  controller_reports U e send_ok = n
  controller_reports U e (ControllerAct.take none) = n
  controller_reports U e (ControllerAct.take (some p)) = controller_takes_report _ _ p
  controller_reports U e ControllerAct.go_down = n
  controller_reports U e ControllerAct.come_back = n

module _ {S M : Type 0} (U : Supply S) where
  pub console_acts_accepts : (e : Console S M) (act : ConsoleAct M) → NotRefused (console_acts U e act).report
  console_acts_accepts e act = console_reports NotRefused tt tt tt U e act

  pub controller_acts_accepts : (e : Controller S) (act : ControllerAct M) → NotRefused (controller_acts U e act).report
  controller_acts_accepts e act = controller_reports NotRefused tt (λ m. tt) U e act

-- ## A refusal is reported exactly if a rule refuses

-- x is what an accepted action comes to, y what one comes to that is refused with k
module _ {M A : Type 0} (says : A → Report M) (k : ℕ) (x y : A) (accepts : NotRefused (says x)) (refuses : says y ≡ refused k) where
  pub refused_exactly : (n : ℕ) → (says (when eqb k 0 then x else y) ≡ refused n) ↔ ((k ≡ n) × (n ≢ 0))
  refused_exactly n =
      if_holds (λ z. (says z ≡ refused n) ↔ ((k ≡ n) × (n ≢ 0))) (eqb k 0) x y
      (λ e. (λ q. absurd (subst NotRefused q accepts), λ h. absurd (h.1 (sym h.0 ∙ eqb-true k 0 e))))
      (λ e. (λ q. let same : k ≡ n = cc in (same, λ z. eqb-false k 0 e (same ∙ z)), λ h. refuses ∙ ap refused h.0))

  -- and then it is y
  pub refused_is : (n : ℕ) → says (when eqb k 0 then x else y) ≡ refused n → (when eqb k 0 then x else y) ≡ y
  refused_is n =
      if_holds (λ z. says z ≡ refused n → z ≡ y) (eqb k 0) x y (λ e q. absurd (subst NotRefused q accepts)) (λ e q. refl)

module _ {S M : Type 0} (U : Supply S) where
  module _ (good : M → Bool) (e : Console S M) (act : ConsoleAct M) (n : ℕ) where
    pub console_refused_lem : ((console_step U good e act).report ≡ refused n) ↔ ((refusal (console_rules U good e act) ≡ n) × (n ≢ 0))
    unfolding console_step
    console_refused_lem = refused_exactly (λ d. d.report) _ (console_acts U e act) _ (console_acts_accepts U e act) refl n

    pub console_refused_same : (console_step U good e act).report ≡ refused n
        → ((console_step U good e act).sent ≡ none) × ((console_step U good e act).after ≡ e)
    unfolding console_step
    console_refused_same q =
        let d = refused_is (λ d. d.report) (refusal (console_rules U good e act)) (console_acts U e act) _ (console_acts_accepts U e act) refl n q in
        (ap (λ d. d.sent) d, ap (λ d. d.after) d)

  module _ (e : Controller S) (act : ControllerAct M) (n : ℕ) where
    pub controller_refused_lem : ((controller_step U e act).report ≡ refused n) ↔ ((refusal (controller_rules U e act) ≡ n) × (n ≢ 0))
    unfolding controller_step
    controller_refused_lem = refused_exactly (λ d. d.report) _ (controller_acts U e act) _ (controller_acts_accepts U e act) refl n

    pub controller_refused_same : (controller_step U e act).report ≡ refused n
        → ((controller_step U e act).sent ≡ none) × ((controller_step U e act).after ≡ e)
    unfolding controller_step
    controller_refused_same q =
        let d = refused_is (λ d. d.report) (refusal (controller_rules U e act)) (controller_acts U e act) _ (controller_acts_accepts U e act) refl n q in
        (ap (λ d. d.sent) d, ap (λ d. d.after) d)

-- ## Ends that are none: each differs from the step at a fresh end's first action

abbrev Row : Type 0
Row = List ℕ

abbrev a : Row
a = replicate 16 0x41

abbrev console : Console ℕ Row
console = record { numbers = 0; mode = ConsoleMode.idle; up = true }

put_taken : console_step counted is_message console (put a)
    ≡ record { report = nothing; sent = none; after = record { numbers = 1; mode = in_need_i 1 a; up = true } }
unfolding rules is_message cells
put_taken = refl

module _ (other : Console ℕ Row → ConsoleAct Row → ConsoleActed ℕ Row)
    (same : other console (put a) ≡ console_step counted is_message console (put a)) where
  pub console_not_always_refusing : ((e : Console ℕ Row) (act : ConsoleAct Row) → NotRefused (other e act).report → ⊥) → ⊥
  console_not_always_refusing always = always console (put a) (rw (same, put_taken) tt)

  pub console_not_always_ok : ((e : Console ℕ Row) (act : ConsoleAct Row) → (other e act).report ≡ answered_ok) → ⊥
  console_not_always_ok always =
      let h = always console (put a) in
      let z : ◌≡◌ {A = ℕ} 0 1 = cc (put_taken) in
      omega arith

  pub console_not_unchanging : ((e : Console ℕ Row) (act : ConsoleAct Row) → (other e act).after ≡ e) → ⊥
  console_not_unchanging always =
      omega (arith, ap {B = ℕ} (λ d. d.after.numbers) (sym put_taken ∙ sym same) ∙ ap (λ e. e.numbers) (always console (put a)))

abbrev controller : Controller ℕ
controller = record { numbers = 0; mode = ControllerMode.idle; up = true }

abbrev asked : ControllerAct Row
asked = ControllerAct.take (some (need_i 1))

need_i_taken : controller_step counted controller asked
    ≡ record { report = nothing; sent = none; after = record { numbers = 1; mode = in_accept 1 1; up = true } }
unfolding rules
need_i_taken = refl

module _ (other : Controller ℕ → ControllerAct Row → ControllerActed ℕ Row)
    (same : other controller asked ≡ controller_step counted controller asked) where
  pub controller_not_always_refusing : ((e : Controller ℕ) (act : ControllerAct Row) → NotRefused (other e act).report → ⊥) → ⊥
  controller_not_always_refusing always = always controller asked (rw (same, need_i_taken) tt)

  pub controller_not_always_ok : ((e : Controller ℕ) (act : ControllerAct Row) → (i : ℕ) × ((other e act).sent ≡ some (ok i))) → ⊥
  controller_not_always_ok always =
      let h = (always controller asked).1 in
      let z : ◌≡◌ {A = ℕ} 0 1 = cc (need_i_taken) in
      omega arith

  pub controller_not_unchanging : ((e : Controller ℕ) (act : ControllerAct Row) → (other e act).after ≡ e) → ⊥
  controller_not_unchanging always =
      omega (arith, ap {B = ℕ} (λ d. d.after.numbers) (sym need_i_taken ∙ sym same) ∙ ap (λ e. e.numbers) (always controller asked))
