-- Reports in the rules and back, with the message beside them; and the number that is told of a refusal.
use Prim.Native.Nat.{ℕ}
use mathlib.Core.Path.{◌≡◌, refl, sym, ap, subst, ◌∙◌}
use mathlib.Core.Logic.{◌↔◌}
use mathlib.Core.List.{List}
use native.Mathlib.Omega.{arith}
use lib.Dec.{eqb}
use borrow.Author.Tests.{eqb-true, eqb-false}
use Rattle.ground.specs.First.{Rule, refusal}
use Rattle.ground.specs.Refusals.{refusal_of, number_of}
use Rattle.ground.specs.declared.refusals.Refusal.{Refusal}
use Rattle.ground.proofs.RefusalNumbers.{refusal_of-number_of, rules_number, number_in_table}
use Rattle.ground.proofs.Tests.{by_test}
use Rattle.rules.specs.Ends as rules
use Rattle.rules.specs.Relabel.{in_report}
use Rattle.ends.specs.AsRules.{Beside, report_back, number_in, delivered, delivered_beside}
use Rattle.ends.specs.declared.Report.{Report}
use Rattle.ends.specs.declared.Report.TheVariants as report

-- a message beside the report changes nothing of what is reported
pub report_told_lem : (k : List ℕ) (r : rules.Report Beside) → report_back r ≡ report_back (in_report (λ _. k) r)
report_told_lem k rules.nothing = refl
report_told_lem k (rules.delivered m) = refl
report_told_lem k rules.answered_ok = refl
report_told_lem k rules.answered_lost = refl
report_told_lem k (rules.refused n) = refl

abbrev pub IsRefused : Report → Type 0
IsRefused report.Nothing = ⊥
IsRefused report.Delivered = ⊥
IsRefused report.Ok = ⊥
IsRefused report.Lost = ⊥
IsRefused (report.Refused q) = Unit {0}

pub its_refusal : (r : Report) → IsRefused r → (q : Refusal) × (r ≡ report.Refused q)
its_refusal report.Nothing h = absurd h
its_refusal report.Delivered h = absurd h
its_refusal report.Ok h = absurd h
its_refusal report.Lost h = absurd h
its_refusal (report.Refused q) h = (q, refl)

-- it is the refusal with the report's number
pub its_number : (r : Report) → IsRefused r → r ≡ report.Refused (refusal_of (number_in r))
its_number r h = let q = its_refusal r h in q.1 ∙ ap report.Refused (sym (refusal_of-number_of q.0) ∙ ap (λ (x : Report). refusal_of (number_in x)) (sym q.1))

-- the rules refused too, by a number of this refusal
pub refused_in_rules : (r : rules.Report (List ℕ)) (q : Refusal) → report_back r ≡ report.Refused q → (n : ℕ) × (r ≡ rules.refused n) × (refusal_of n ≡ q)
refused_in_rules rules.nothing q e = absurd (subst IsRefused (sym e) tt)
refused_in_rules (rules.delivered m) q e = absurd (subst IsRefused (sym e) tt)
refused_in_rules rules.answered_ok q e = absurd (subst IsRefused (sym e) tt)
refused_in_rules rules.answered_lost q e = absurd (subst IsRefused (sym e) tt)
refused_in_rules (rules.refused n) q e = (n, refl, cc)

-- ## The number that is told is the one by which these rules refuse, 0 where they don't

module _ {M : Type 0} (rs : List Rule) where
  -- a report is a refusal by these rules, exactly if they refuse
  abbrev pub RefusesBy : rules.Report M → Type 0
  RefusesBy r = (n : ℕ) → (r ≡ rules.refused n) ↔ ((refusal rs ≡ n) × (n ≡ 0 → ⊥))

  accepted : (r : rules.Report M) → RefusesBy r → refusal rs ≡ 0 → number_in (report_back r) ≡ 0
  accepted rules.nothing h z = refl
  accepted (rules.delivered m) h z = refl
  accepted rules.answered_ok h z = refl
  accepted rules.answered_lost h z = refl
  accepted (rules.refused n) h z = let q = (h n).0 refl in absurd (q.1 (sym q.0 ∙ z))

  pub number_told : (r : rules.Report M) → RefusesBy r → number_in (report_back r) ≡ refusal rs
  number_told r h =
      by_test (eqb (refusal rs) 0)
      (λ t. let z = eqb-true (refusal rs) 0 t in accepted r h z ∙ sym z)
      (λ f. let n = eqb-false (refusal rs) 0 f in ap (λ (x : rules.Report M). number_in (report_back x)) ((h (refusal rs)).1 (refl, n)) ∙ rules_number rs n)

  -- a report that is told as refused is refused by that number
  pub refused_by_number : (r : rules.Report M) (q : Refusal) → RefusesBy r → report_back r ≡ report.Refused q → r ≡ rules.refused (number_of q)
  refused_by_number r q h e =
      let k : number_of q ≡ refusal rs = sym (ap number_in e) ∙ number_told r h in
      let above : number_of q ≡ 0 → ⊥ = λ z. let t = (number_in_table q).0 in omega (arith, t, z) in
      (h (number_of q)).1 (sym k, above)

-- the message that is told
pub delivered_told : (k : List ℕ) (r : rules.Report Beside) → delivered_beside (report_back r) k ≡ delivered (in_report (λ _. k) r)
delivered_told k rules.nothing = refl
delivered_told k (rules.delivered m) = refl
delivered_told k rules.answered_ok = refl
delivered_told k rules.answered_lost = refl
delivered_told k (rules.refused n) = refl
