-- A console's step with its message beside it: what the rules say of messages of one value, said of the message itself.
use Prim.Native.Nat.{ℕ}
use mathlib.Core.Path.{◌≡◌, refl, sym, ap}
use mathlib.Core.Bool.{Bool, false, false≢true}
use mathlib.Core.Option.{Option, none, some}
use mathlib.Core.List.{List}
use borrow.Author.Tests.{ne_eqb, eq-eqb}
use Rattle.ground.specs.Choice.{chosen}
use Rattle.ground.specs.Cell.{is_message}
use Rattle.ground.specs.First.{refusal, applies}
use Rattle.rules.specs.Supply.{Supply}
use Rattle.rules.specs.Ends as rules
use Rattle.rules.specs.Relabel.{in_console, in_console_act, in_console_acted}
use Rattle.rules.proofs.Refusals.{passed}
use Rattle.rules.proofs.Relabel.{nat_console_acts}
use Rattle.ends.specs.AsRules.{Beside, tested}
use Rattle.ends_console.specs.FieldsAsRules.{kept}

-- of any supply: the bench's step takes it with a number on offer
module _ {S : Type 0} (U : Supply S) where
  abbrev pub stepped : rules.Console S Beside → List ℕ → rules.ConsoleAct Beside → List ℕ → rules.ConsoleActed S (List ℕ)
  stepped e h a m = rules.console_step U is_message (in_console (λ _. h) e) (in_console_act (λ _. m) a)

  abbrev pub refusal_of : rules.Console S Beside → rules.ConsoleAct Beside → List ℕ → ℕ
  refusal_of e a m = refusal (rules.console_rules U (tested (is_message m)) e a)

  -- the rules that speak of an act don't look into the held message
  same_rules : (u : S) (k : rules.ConsoleMode Beside) (up : Bool) (h : List ℕ) (a : rules.ConsoleAct Beside) (m : List ℕ) → rules.console_rules U is_message (in_console (λ _. h) (record { numbers = u; mode = k; up = up })) (in_console_act (λ _. m) a) ≡ rules.console_rules U (tested (is_message m)) (record { numbers = u; mode = k; up = up }) a
  unfolding rules.ends tested
  same_rules u rules.ConsoleMode.idle up h (rules.put x) m = refl
  same_rules u (rules.in_need_i j y) up h (rules.put x) m = refl
  same_rules u (rules.in_send l y) up h (rules.put x) m = refl
  same_rules u rules.ConsoleMode.idle up h rules.send_need_i m = refl
  same_rules u (rules.in_need_i j y) up h rules.send_need_i m = refl
  same_rules u (rules.in_send l y) up h rules.send_need_i m = refl
  same_rules u rules.ConsoleMode.idle up h rules.send_data m = refl
  same_rules u (rules.in_need_i j y) up h rules.send_data m = refl
  same_rules u (rules.in_send l y) up h rules.send_data m = refl
  same_rules u k up h (rules.ConsoleAct.take p) m = refl
  same_rules u k up h rules.ConsoleAct.go_down m = refl
  same_rules u k up h rules.ConsoleAct.come_back m = refl
  same_rules u rules.ConsoleMode.idle up h rules.tell_ack m = refl
  same_rules u (rules.in_need_i j y) up h rules.tell_ack m = refl
  same_rules u (rules.in_send l y) up h rules.tell_ack m = refl

  pub same_refusal : (e : rules.Console S Beside) (h : List ℕ) (a : rules.ConsoleAct Beside) (m : List ℕ) → refusal (rules.console_rules U is_message (in_console (λ _. h) e) (in_console_act (λ _. m) a)) ≡ refusal_of e a m
  same_refusal e h a m = ap refusal (same_rules e.numbers e.mode e.up h a m)

  -- a refusal leaves the end
  pub step_refused : (e : rules.Console S Beside) (h : List ℕ) (a : rules.ConsoleAct Beside) (m : List ℕ) → (refusal_of e a m ≡ 0 → ⊥) → stepped e h a m ≡ record { report = rules.refused (refusal_of e a m); sent = none; after = in_console (λ _. h) e }
  unfolding rules.console_step chosen
  step_refused e h a m n = rw (same_refusal e h a m, ne_eqb (refusal_of e a m) 0 n)

  -- 8 does not apply: there is a number left
  number_left : (e : rules.Console S Beside) (m : List ℕ) → refusal_of e (rules.put tt) m ≡ 0 → rules.absent (U.next e.numbers) ≡ false
  unfolding rules.console_rules applies chosen
  number_left e m z = passed (rules.console_rules U (tested (is_message m)) e (rules.put tt)) z 8 tt

  -- a put that finds a number
  put_kept : (e : rules.Console S Beside) (h m : List ℕ) (next : Option ℕ) → U.next e.numbers ≡ next → rules.absent next ≡ false → rules.console_acts U (in_console (λ _. h) e) (rules.put m) ≡ in_console_acted (λ _. m) (rules.console_acts U e (rules.put tt))
  unfolding rules.console_acts rules.console_turn rules.puts rules.end_after rules.numbers_after rules.up_after rules.absent
  put_kept e h m none q f = absurd (false≢true (sym f))
  put_kept e h m (some j) q f = rw q

  -- what is done has the message that is kept
  pub acts_kept : (e : rules.Console S Beside) (h : List ℕ) (a : rules.ConsoleAct Beside) (m : List ℕ) → refusal_of e a m ≡ 0 → rules.console_acts U (in_console (λ _. h) e) (in_console_act (λ _. m) a) ≡ in_console_acted (λ _. kept a m h) (rules.console_acts U e a)
  acts_kept e h (rules.put x) m z = put_kept e h m (U.next e.numbers) refl (number_left e m z)
  acts_kept e h rules.send_need_i m z = nat_console_acts (λ _. h) U e rules.send_need_i
  acts_kept e h rules.send_data m z = nat_console_acts (λ _. h) U e rules.send_data
  acts_kept e h (rules.ConsoleAct.take p) m z = nat_console_acts (λ _. h) U e (rules.ConsoleAct.take p)
  acts_kept e h rules.ConsoleAct.go_down m z = nat_console_acts (λ _. h) U e rules.ConsoleAct.go_down
  acts_kept e h rules.ConsoleAct.come_back m z = nat_console_acts (λ _. h) U e rules.ConsoleAct.come_back
  acts_kept e h rules.tell_ack m z = nat_console_acts (λ _. h) U e rules.tell_ack

  pub step_done : (e : rules.Console S Beside) (h : List ℕ) (a : rules.ConsoleAct Beside) (m : List ℕ) → refusal_of e a m ≡ 0 → stepped e h a m ≡ in_console_acted (λ _. kept a m h) (rules.console_acts U e a)
  unfolding rules.console_step chosen
  step_done e h a m z = rw (same_refusal e h a m, eq-eqb (refusal_of e a m) 0 z) (acts_kept e h a m z)
