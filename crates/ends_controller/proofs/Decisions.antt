-- What a controller decides is the rules' step with a number on offer.
use Prim.Native.Nat.{ℕ}
use mathlib.Core.Path.{◌≡◌, refl, ap, ◌∙◌}
use mathlib.Core.Bool.{Bool, true, false, not}
use mathlib.Core.List.{[], ◌∷◌}
use mathlib.Core.Option as maybe
use lib.Dec.{eqb}
use borrow.Author.Tests.{eq-eqb, ne_eqb}
use Rattle.std.specs.Prelude.{Option, None, Some, Err}
use Rattle.ground.specs.Refusals.{refused_by}
use Rattle.ground.specs.declared.refusals.Refusal.{Refusal}
use Rattle.ground.specs.declared.refusals.Refusal.TheVariants.{IsDown, IsUp, OtherMode}
use Rattle.ground.proofs.RefusalNumbers.{refused_as}
use Rattle.ground.proofs.Tests.{by_test}
use Rattle.ground.specs.Choice.{chosen, when◌then◌else◌}
use Rattle.ground.specs.First.{first, refusal, applies}
use Rattle.wire.specs.declared.I.{I}
use Rattle.rules.specs.Offered.{offered}
use Rattle.rules.specs.Ends as rules
use Rattle.letters.specs.declared.ControllerAsk.{ControllerAsk}
use Rattle.letters.specs.declared.ControllerAsk.TheVariants as ask
use Rattle.numbers.proofs.Moving.{took_offered}
use Rattle.numbers.specs.declared.Move.TheVariants.{Stay}
use Rattle.ends.specs.AsRules.{Beside, for_controller, for_console, for_console_back, to_console_back, report_back, sends, comes_back}
use Rattle.ends.specs.declared.ToController.{ToController}
use Rattle.ends.specs.declared.ToConsole.{ToConsole}
use Rattle.ends.specs.declared.ToController.TheVariants as to-controller
use Rattle.ends.specs.declared.Report.TheVariants as report
use Rattle.ends_controller.specs.AsRules.{mode, mode_back, turn, given, on_offer, asked_to, decided}
use Rattle.ends_controller.specs.declared.Mode.{Mode}
use Rattle.ends_controller.specs.declared.Mode.TheVariants.{Idle}
use Rattle.ends_controller.specs.Types.{Turn, Decided}
use Rattle.ends_controller.proofs.ActsDone.{same_mode}

abbrev refusing : Refusal → Mode → Bool → Decided
refusing q m up = record { report = report.Refused q; sent = None; numbers = Stay; mode = m; up = up }

abbrev turning : Turn → Bool → Decided
turning t up = record { report = t.report; sent = t.sent; numbers = t.numbers; mode = t.mode; up = up }

abbrev staying : Mode → Bool → Option ToConsole → Decided
staying m up sent = record { report = report.Nothing; sent = sent; numbers = Stay; mode = m; up = up }

-- ## The rules' step, by its refusal

module _ (m : Mode) (up : Bool) (next : Option I) (act : rules.ControllerAct Beside) where
  abbrev number : ℕ
  number = refusal (rules.controller_rules offered (on_offer m up next) act)

  abbrev stepped : Decided
  stepped = decided (rules.controller_step offered (on_offer m up next) act)

  pub refuses_so : {q : Refusal} {x : Decided} → Err q ≡ refused_by number → x ≡ refusing q m up → x ≡ stepped
  unfolding rules.controller_step chosen
  refuses_so {q} e h =
      let f = refused_as number e in
      h ∙ (λ i. refusing (f.0 i) (same_mode m i) up) ∙ rw (ne_eqb number 0 f.1)

  does_so : {x : Decided} → number ≡ 0 → x ≡ decided (rules.controller_acts offered (on_offer m up next) act) → x ≡ stepped
  unfolding rules.controller_step chosen
  does_so z h = h ∙ rw (eq-eqb number 0 z)

  turns_so : {t : Turn} {x : Decided} → number ≡ 0 → rules.controller_power act ≡ rules.same → t ≡ turn (rules.controller_turn (given next) (mode m) act) → x ≡ turning t up → x ≡ stepped
  unfolding rules.controller_acts rules.end_after rules.up_after
  turns_so z s g h =
      let T = rules.controller_turn (given next) (mode m) act in
      does_so z
      (h
      ∙ (λ i. turning (g i) up)
      ∙ (λ i. record { report = report_back T.report; sent = for_console_back T.sent; numbers = took_offered T.took (on_offer m up next).numbers refl i; mode = mode_back T.mode; up = up })
      ∙ rw s)

-- ## By what is asked

-- what is sent, as the code has it, is what the rules send
pub same_for_console : (p : maybe.Option rules.ToConsole) → for_console (for_console_back p) ≡ p
same_for_console maybe.none = refl
same_for_console (maybe.some (rules.offer j i)) = refl
same_for_console (maybe.some (rules.ok i)) = refl
same_for_console (maybe.some (rules.lost i)) = refl

-- O and K, by what the rules' turn sends
sending : (m : Mode) (up : Bool) (next : Option I) (sent : maybe.Option rules.ToConsole) →
    sends m up (for_console_back sent)
    ≡ decided
    (when eqb (first (rules.down_4 up ∷ rules.mode_6 sent ∷ [])) 0
    then record { report = rules.nothing; sent = sent; after = on_offer m up next }
    else record { report = rules.refused (first (rules.down_4 up ∷ rules.mode_6 sent ∷ [])); sent = maybe.none; after = on_offer m up next })
unfolding sends chosen first applies rules.absent
sending m true next maybe.none = λ i. refusing OtherMode (same_mode m i) true
sending m true next (maybe.some p) = λ i. staying (same_mode m i) true (Some (to_console_back p))
sending m false next maybe.none = λ i. refusing IsDown (same_mode m i) false
sending m false next (maybe.some p) = λ i. refusing IsDown (same_mode m i) false

module _ (m : Mode) (up : Bool) where
  pub back_so : {x : Decided} → x ≡ comes_back Idle m up → (next : Option I) → x ≡ stepped m up next rules.ControllerAct.come_back
  unfolding rules.controller_step rules.controller_rules refusal first applies chosen rules.controller_acts rules.controller_turn rules.end_after rules.numbers_after rules.up_after
  back_so h next = h ∙ by_test up (λ u. rw u (λ i. refusing IsUp (same_mode m i) true)) (λ u. rw u)

module _ (m : Mode) (up : Bool) (next : Option I) (p : Option ToController) where
  abbrev step_of : ControllerAsk → Decided
  step_of a = decided (rules.controller_step offered (on_offer m up next) (asked_to a p))

  pub decides_offer : {a : ControllerAsk} {s : Option ToConsole} {x : Decided} → a ≡ ask.SendOffer → s ≡ for_console_back (rules.offer_sent (mode m)) → x ≡ sends m up s → x ≡ step_of a
  unfolding rules.controller_step rules.controller_rules refusal first applies chosen rules.controller_acts rules.controller_turn rules.end_after rules.numbers_after rules.up_after
  decides_offer f g h = rw f (h ∙ ap (λ (y : Option ToConsole). sends m up y) g ∙ sending m up next (rules.offer_sent (mode m)))

  pub decides_ok : {a : ControllerAsk} {s : Option ToConsole} {x : Decided} → a ≡ ask.SendOk → s ≡ for_console_back (rules.ok_sent (mode m)) → x ≡ sends m up s → x ≡ step_of a
  unfolding rules.controller_step rules.controller_rules refusal first applies chosen rules.controller_acts rules.controller_turn rules.end_after rules.numbers_after rules.up_after
  decides_ok f g h = rw f (h ∙ ap (λ (y : Option ToConsole). sends m up y) g ∙ sending m up next (rules.ok_sent (mode m)))

  pub decides_take : {a : ControllerAsk} {x : Decided} → a ≡ ask.Take → x ≡ stepped m up next (rules.ControllerAct.take (for_controller p)) → x ≡ step_of a
  decides_take f h = rw f h

  pub decides_down : {a : ControllerAsk} {x : Decided} → a ≡ ask.GoDown → x ≡ staying m false None → x ≡ step_of a
  unfolding rules.controller_step rules.controller_rules refusal first applies chosen rules.controller_acts rules.controller_turn rules.end_after rules.numbers_after rules.up_after
  decides_down f h = rw f (h ∙ λ i. staying (same_mode m i) false None)

  pub decides_back : {a : ControllerAsk} {x : Decided} → a ≡ ask.ComeBack → x ≡ comes_back Idle m up → x ≡ step_of a
  decides_back f h = rw f (back_so m up h next)

-- every number on offer is known
pub known : (p : Option ToController) → rules.unknown (λ n. true) (for_controller p) ≡ false
unfolding rules.unknown
known None = refl
known (Some (to-controller.NeedI j)) = refl
known (Some (to-controller.Data i)) = refl
known (Some (to-controller.Done i)) = refl

module _ (m : Mode) (up : Bool) where
  pub take_4 : {x : Decided} (p : Option ToController) (next : Option I) → not up ≡ true → x ≡ refusing IsDown m up → x ≡ stepped m up next (rules.ControllerAct.take (for_controller p))
  unfolding rules.controller_rules refusal first applies chosen
  take_4 p next u h = refuses_so m up next (rules.ControllerAct.take (for_controller p)) (rw u) h

  pub take_turns : {x : Decided} {t : Turn} (p : Option ToController) (next : Option I) → not up ≡ false → t ≡ turn (rules.controller_turn (given next) (mode m) (rules.ControllerAct.take (for_controller p))) → x ≡ turning t up
      → x ≡ stepped m up next (rules.ControllerAct.take (for_controller p))
  unfolding rules.controller_rules refusal first applies chosen
  take_turns p next u g h = turns_so m up next (rules.ControllerAct.take (for_controller p)) (rw (u, known p)) refl g h

pub ruleset decisions = (decides_offer, decides_ok, decides_down, decides_back)
