-- What is shown of a report of the rules, whatever its messages are.
use Prim.Native.Nat.{ℕ}
use mathlib.Core.Path.{◌≡◌, refl}
use mathlib.Core.Bool.{Bool, true, false}
use mathlib.Core.List.{List}
use Rattle.ground.specs.Refusals.{refusal_of}
use Rattle.ground.specs.declared.refusals.Refusal.{Refusal}
use Rattle.ground.proofs.RefusalNumbers.{refusal_of-number_of}
use Rattle.rules.specs.Ends as rules
use Rattle.rules.specs.Reading.{Use, leaves, clears, tells, said, ack_after}
use Rattle.rules.proofs.Said.{refusal_through, said_same}
use Rattle.ends.specs.AsRules.{report_back, number_in}
use Rattle.ends.proofs.Reports.{refused_in_rules}
use Rattle.ends.specs.declared.Report.TheVariants as report
use Rattle.ends_console.specs.Ack.{acked}
use Rattle.ends_console.specs.declared.ack.Shown.{Shown}

pub acked_is : {M : Type 0} (u : Use) (ack : Bool) (r : rules.Report M) → ◌≡◌ {A = Shown} (acked u ack (report_back r)) (record { report = report_back (said u ack r); ack = ack_after u ack r })
unfolding acked said ack_after
acked_is u ack (rules.delivered m) = refl
acked_is u ack rules.answered_ok = refl
acked_is u ack rules.answered_lost = refl
acked_is u ack (rules.refused n) = λ i. record { report = report.Refused (refusal_of-number_of (refusal_of n) i); ack = ack }
acked_is leaves ack rules.nothing = refl
acked_is clears ack rules.nothing = refl
acked_is tells true rules.nothing = refl
acked_is tells false rules.nothing = refl

-- what is shown as refused was refused in the history
pub refused_below : (u : Use) (ack : Bool) (r : rules.Report (List ℕ)) (q : Refusal) → report_back (said u ack r) ≡ report.Refused q → (n : ℕ) × (r ≡ rules.refused n) × (refusal_of n ≡ q)
refused_below u ack r q e = let f = refused_in_rules (said u ack r) q e in (f.0, refusal_through u ack r f.0 f.1, f.2)

-- the number that is shown is that of the history's report
pub number_said : {M : Type 0} (u : Use) (ack : Bool) (r : rules.Report M) → number_in (report_back (said u ack r)) ≡ number_in (report_back r)
number_said u ack r = said_same (λ x. number_in (report_back x)) refl refl u ack r
