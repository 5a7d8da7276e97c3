-- What a console decides is the rules' step with a number on offer.
use Prim.Native.Nat.{ℕ}
use mathlib.Core.Path.{◌≡◌, refl, sym, ap, ◌∙◌}
use mathlib.Core.Bool.{Bool, true, false, not}
use mathlib.Core.List.{[], ◌∷◌}
use mathlib.Core.Option as maybe
use lib.Dec.{eqb}
use borrow.Author.Tests.{eq-eqb, ne_eqb, not-true, not-false}
use Rattle.std.specs.Prelude.{Option, None, Some, Ok, Err}
use Rattle.ground.specs.Refusals.{refused_by}
use Rattle.ground.specs.declared.refusals.Refusal.{Refusal}
use Rattle.ground.specs.declared.refusals.Refusal.TheVariants.{IsDown, IsUp, OtherMode}
use Rattle.ground.proofs.RefusalNumbers.{passes, refused_as}
use Rattle.ground.specs.Choice.{chosen, when◌then◌else◌}
use Rattle.ground.specs.First.{first, refusal, applies}
use Rattle.ground.proofs.Tests.{by_test}
use Rattle.wire.specs.declared.J.{J}
use Rattle.rules.specs.Offered.{offered}
use Rattle.rules.specs.Ends as rules
use Rattle.letters.specs.declared.ConsoleAsk.{ConsoleAsk}
use Rattle.letters.specs.declared.ConsoleAsk.TheVariants as ask
use Rattle.numbers.proofs.Moving.{took_offered}
use Rattle.numbers.specs.declared.Move.TheVariants.{Stay}
use Rattle.ends.specs.AsRules.{Beside, tested, for_console, for_controller, for_controller_back, to_controller_back, report_back, sends, comes_back}
use Rattle.ends.specs.declared.ToConsole.{ToConsole}
use Rattle.ends.specs.declared.ToController.{ToController}
use Rattle.ends.specs.declared.Report.TheVariants as report
use Rattle.ends_console.specs.AsRules.{mode, mode_back, turn, given, on_offer, asked_to, decided}
use Rattle.ends_console.specs.declared.Mode.{Mode}
use Rattle.ends_console.specs.declared.Mode.TheVariants.{Idle}
use Rattle.ends_console.specs.Types.{Turn, Decided}
use Rattle.ends_console.proofs.ActsDone.{same_mode}

abbrev refusing : Refusal → Mode → Bool → Decided
refusing q m up = record { report = report.Refused q; sent = None; numbers = Stay; mode = m; up = up }

abbrev turning : Turn → Bool → Decided
turning t up = record { report = t.report; sent = t.sent; numbers = t.numbers; mode = t.mode; up = up }

abbrev staying : Mode → Bool → Option ToController → Decided
staying m up sent = record { report = report.Nothing; sent = sent; numbers = Stay; mode = m; up = up }

-- ## The rules' step, by its refusal

module _ (m : Mode) (up good : Bool) (next : Option J) (act : rules.ConsoleAct Beside) where
  abbrev number : ℕ
  number = refusal (rules.console_rules offered (tested good) (on_offer m up next) act)

  abbrev stepped : Decided
  stepped = decided (rules.console_step offered (tested good) (on_offer m up next) act)

  pub refuses_so : {q : Refusal} {x : Decided} → Err q ≡ refused_by number → x ≡ refusing q m up → x ≡ stepped
  unfolding rules.console_step chosen
  refuses_so {q} e h =
      let f = refused_as number e in
      h ∙ (λ i. refusing (f.0 i) (same_mode m i) up) ∙ rw (ne_eqb number 0 f.1)

  does_so : {x : Decided} → number ≡ 0 → x ≡ decided (rules.console_acts offered (on_offer m up next) act) → x ≡ stepped
  unfolding rules.console_step chosen
  does_so z h = h ∙ rw (eq-eqb number 0 z)

  turns_so : {t : Turn} {x : Decided} → number ≡ 0 → rules.console_power act ≡ rules.same → t ≡ turn (rules.console_turn (given next) (mode m) act) → x ≡ turning t up → x ≡ stepped
  unfolding rules.console_acts rules.end_after rules.up_after
  turns_so z s g h =
      let T = rules.console_turn (given next) (mode m) act in
      does_so z
      (h
      ∙ (λ i. turning (g i) up)
      ∙ (λ i. record { report = report_back T.report; sent = for_controller_back T.sent; numbers = took_offered T.took (on_offer m up next).numbers refl i; mode = mode_back T.mode; up = up })
      ∙ rw s)

-- ## By what is asked

module _ (m : Mode) (up good : Bool) (next : Option J) where
  pub put_refuses : {q : Refusal} {x : Decided} → Err q ≡ refused_by (number m up good next (rules.put tt)) → x ≡ refusing q m up → x ≡ stepped m up good next (rules.put tt)
  put_refuses e h = refuses_so m up good next (rules.put tt) e h

  pub put_turns : {t : Turn} {x : Decided} → Ok tt ≡ refused_by (number m up good next (rules.put tt)) → t ≡ turn (rules.puts (given next) (mode m) tt) → x ≡ turning t up → x ≡ stepped m up good next (rules.put tt)
  unfolding rules.console_turn
  put_turns e g h = turns_so m up good next (rules.put tt) (passes (number m up good next (rules.put tt)) (sym e)) refl g h

-- what is sent, as the code has it, is what the rules send
pub same_for_controller : (p : maybe.Option (rules.ToController Beside)) → for_controller (for_controller_back p) ≡ p
same_for_controller maybe.none = refl
same_for_controller (maybe.some (rules.need_i j)) = refl
same_for_controller (maybe.some (rules.order i m)) = refl
same_for_controller (maybe.some (rules.done i)) = refl

-- Q and D, by what the rules' turn sends
sending : (m : Mode) (up : Bool) (next : Option J) (sent : maybe.Option (rules.ToController Beside)) →
    sends m up (for_controller_back sent)
    ≡ decided
    (when eqb (first (rules.down_4 up ∷ rules.mode_6 sent ∷ [])) 0
    then record { report = rules.nothing; sent = sent; after = on_offer m up next }
    else record { report = rules.refused (first (rules.down_4 up ∷ rules.mode_6 sent ∷ [])); sent = maybe.none; after = on_offer m up next })
unfolding sends chosen first applies rules.absent
sending m true next maybe.none = λ i. refusing OtherMode (same_mode m i) true
sending m true next (maybe.some p) = λ i. staying (same_mode m i) true (Some (to_controller_back p))
sending m false next maybe.none = λ i. refusing IsDown (same_mode m i) false
sending m false next (maybe.some p) = λ i. refusing IsDown (same_mode m i) false

module _ (m : Mode) (up : Bool) where
  pub back_so : {x : Decided} → x ≡ comes_back Idle m up → (next : Option J) (good : Bool) → x ≡ stepped m up good next rules.ConsoleAct.come_back
  unfolding rules.console_step rules.console_rules refusal first applies chosen rules.console_acts rules.console_turn rules.end_after rules.numbers_after rules.up_after
  back_so h next good =
      h
      ∙ by_test up (λ u. rw u (λ i. refusing IsUp (same_mode m i) true)) (λ u. rw u)

module _ (m : Mode) (up good : Bool) (next : Option J) (p : Option ToConsole) where
  abbrev step_of : ConsoleAsk → Decided
  step_of a = decided (rules.console_step offered (tested good) (on_offer m up next) (asked_to a p))

  pub decides_put : {a : ConsoleAsk} {x : Decided} → a ≡ ask.Put → x ≡ stepped m up good next (rules.put tt) → x ≡ step_of a
  decides_put f h = rw f h

  pub decides_need_i : {a : ConsoleAsk} {s : Option ToController} {x : Decided} → a ≡ ask.SendNeedI → s ≡ for_controller_back (rules.need_i_sent (mode m)) → x ≡ sends m up s → x ≡ step_of a
  unfolding rules.console_step rules.console_rules refusal first applies chosen rules.console_acts rules.console_turn rules.end_after rules.numbers_after rules.up_after
  decides_need_i f g h = rw f (h ∙ ap (λ (y : Option ToController). sends m up y) g ∙ sending m up next (rules.need_i_sent (mode m)))

  pub decides_data : {a : ConsoleAsk} {s : Option ToController} {x : Decided} → a ≡ ask.SendData → s ≡ for_controller_back (rules.data_sent (mode m)) → x ≡ sends m up s → x ≡ step_of a
  unfolding rules.console_step rules.console_rules refusal first applies chosen rules.console_acts rules.console_turn rules.end_after rules.numbers_after rules.up_after
  decides_data f g h = rw f (h ∙ ap (λ (y : Option ToController). sends m up y) g ∙ sending m up next (rules.data_sent (mode m)))

  pub decides_take : {a : ConsoleAsk} {x : Decided} → a ≡ ask.Take → ((n : Option J) (g : Bool) → x ≡ stepped m up g n (rules.ConsoleAct.take (for_console p))) → x ≡ step_of a
  decides_take f h = rw f (h next good)

  pub decides_down : {a : ConsoleAsk} {x : Decided} → a ≡ ask.GoDown → x ≡ staying m false None → x ≡ step_of a
  unfolding rules.console_step rules.console_rules refusal first applies chosen rules.console_acts rules.console_turn rules.end_after rules.numbers_after rules.up_after
  decides_down f h = rw f (h ∙ λ i. staying (same_mode m i) false None)

  pub decides_back : {a : ConsoleAsk} {x : Decided} → a ≡ ask.ComeBack → x ≡ comes_back Idle m up → x ≡ step_of a
  decides_back f h = rw f (back_so m up h next good)

  pub decides_tell : {a : ConsoleAsk} {x : Decided} → a ≡ ask.TellAck → ((n : Option J) (g : Bool) → x ≡ stepped m up g n rules.tell_ack) → x ≡ step_of a
  decides_tell f h = rw f (h next good)

module _ (m : Mode) (up : Bool) where
  pub take_4 : {x : Decided} (p : Option ToConsole) → not up ≡ true → x ≡ refusing IsDown m up → (next : Option J) (good : Bool) → x ≡ stepped m up good next (rules.ConsoleAct.take (for_console p))
  unfolding rules.console_rules refusal first applies chosen
  take_4 p u h next good = refuses_so m up good next (rules.ConsoleAct.take (for_console p)) (rw (not-true up u)) h

  pub take_turns : {x : Decided} {t : Turn} (p : Option ToConsole) → not up ≡ false → ((n : maybe.Option ℕ) → t ≡ turn (rules.console_turn n (mode m) (rules.ConsoleAct.take (for_console p)))) → x ≡ turning t up
      → (next : Option J) (good : Bool) → x ≡ stepped m up good next (rules.ConsoleAct.take (for_console p))
  unfolding rules.console_rules refusal first applies chosen
  take_turns p u g h next good = turns_so m up good next (rules.ConsoleAct.take (for_console p)) (rw (not-false up u)) refl (g (given next)) h

  -- A
  telling : (next : Option J) (good : Bool) → first (rules.down_4 up ∷ (6, rules.holding (mode m)) ∷ []) ≡ number m up good next rules.tell_ack
  unfolding rules.console_rules refusal first applies chosen
  telling next good = by_test up (λ u. rw u) (λ u. rw u)

  pub tell_refuses : {q : Refusal} {x : Decided} → Err q ≡ refused_by (first (rules.down_4 up ∷ (6, rules.holding (mode m)) ∷ [])) → x ≡ refusing q m up
      → (next : Option J) (good : Bool) → x ≡ stepped m up good next rules.tell_ack
  tell_refuses e h next good = refuses_so m up good next rules.tell_ack (e ∙ ap refused_by (telling next good)) h

  pub tell_turns : {x : Decided} → Ok tt ≡ refused_by (first (rules.down_4 up ∷ (6, rules.holding (mode m)) ∷ [])) → x ≡ staying m up None
      → (next : Option J) (good : Bool) → x ≡ stepped m up good next rules.tell_ack
  unfolding rules.console_acts rules.console_turn rules.end_after rules.numbers_after rules.up_after
  tell_turns e h next good =
      does_so m up good next rules.tell_ack (sym (telling next good) ∙ passes (first (rules.down_4 up ∷ (6, rules.holding (mode m)) ∷ [])) (sym e)) (h ∙ λ i. staying (same_mode m i) up None)

pub ruleset decisions = (decides_need_i, decides_data, decides_down, decides_back)
