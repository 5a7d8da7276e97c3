-- A controller's step with the message of the packet in beside it: what the rules say of messages of one value, said of the message itself.
use Prim.Native.Nat.{ℕ}
use mathlib.Core.Path.{◌≡◌, refl, sym, ap, ◌∙◌}
use mathlib.Core.Bool.{Bool}
use mathlib.Core.Option.{Option, none, some, map}
use mathlib.Core.List.{List, [], ◌∷◌}
use borrow.Author.Tests.{ne_eqb, eq-eqb}
use Rattle.ground.specs.Choice.{chosen}
use Rattle.ground.specs.First.{refusal}
use Rattle.rules.specs.Supply.{Supply}
use Rattle.rules.specs.Ends as rules
use Rattle.rules.specs.Relabel.{in_packet, in_controller_act, in_controller_acted}
use Rattle.rules.proofs.Relabel.{nat_controller_acts, nat_controller_step}
use Rattle.ends.specs.AsRules.{Beside}

-- the rules that speak of an act don't look into data's message
pub same_unknown : (used : ℕ → Bool) (p : Option (rules.ToController Beside)) (m : List ℕ) → rules.unknown used (map (in_packet (λ _. m)) p) ≡ rules.unknown used p
unfolding rules.unknown
same_unknown used none m = refl
same_unknown used (some (rules.need_i j)) m = refl
same_unknown used (some (rules.order i x)) m = refl
same_unknown used (some (rules.done i)) m = refl

-- of any supply: the bench's step takes it with a number on offer
module _ {S : Type 0} (U : Supply S) where
  abbrev stepped : rules.Controller S → rules.ControllerAct Beside → List ℕ → rules.ControllerActed S (List ℕ)
  stepped e a m = rules.controller_step U e (in_controller_act (λ _. m) a)

  abbrev pub refusal_of : rules.Controller S → rules.ControllerAct Beside → ℕ
  refusal_of e a = refusal (rules.controller_rules U e a)

  pub same_refusal : (e : rules.Controller S) (a : rules.ControllerAct Beside) (m : List ℕ) → refusal (rules.controller_rules U e (in_controller_act (λ _. m) a)) ≡ refusal_of e a
  unfolding rules.controller_rules
  same_refusal e rules.send_offer m = refl
  same_refusal e rules.send_ok m = refl
  same_refusal e (rules.ControllerAct.take p) m = ap (λ (u : Bool). refusal (rules.down_4 e.up ∷ (7, u) ∷ [])) (same_unknown (U.used e.numbers) p m)
  same_refusal e rules.ControllerAct.go_down m = refl
  same_refusal e rules.ControllerAct.come_back m = refl

  -- a refusal leaves the end
  beside_refused : (e : rules.Controller S) (a : rules.ControllerAct Beside) → (refusal_of e a ≡ 0 → ⊥) → rules.controller_step U e a ≡ record { report = rules.refused (refusal_of e a); sent = none; after = e }
  unfolding rules.controller_step chosen
  beside_refused e a n = rw (ne_eqb (refusal_of e a) 0 n)

  pub step_refused : (e : rules.Controller S) (a : rules.ControllerAct Beside) (m : List ℕ) → (refusal_of e a ≡ 0 → ⊥) → stepped e a m ≡ record { report = rules.refused (refusal_of e a); sent = none; after = e }
  step_refused e a m n =
      nat_controller_step (λ _. m) U e a
      ∙ ap (λ (d : rules.ControllerActed S Beside). in_controller_acted (λ _. m) d) (beside_refused e a n)

  beside_done : (e : rules.Controller S) (a : rules.ControllerAct Beside) → refusal_of e a ≡ 0 → rules.controller_step U e a ≡ rules.controller_acts U e a
  unfolding rules.controller_step chosen
  beside_done e a z = rw (eq-eqb (refusal_of e a) 0 z)

  pub step_done : (e : rules.Controller S) (a : rules.ControllerAct Beside) (m : List ℕ) → refusal_of e a ≡ 0 → stepped e a m ≡ rules.controller_acts U e (in_controller_act (λ _. m) a)
  step_done e a m z =
      nat_controller_step (λ _. m) U e a
      ∙ ap (λ (d : rules.ControllerActed S Beside). in_controller_acted (λ _. m) d) (beside_done e a z)
      ∙ sym (nat_controller_acts (λ _. m) U e a)
