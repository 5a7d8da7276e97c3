-- What an end that is to send decides, by the first refusal.
use mathlib.Core.Path.{◌≡◌, sym, ◌∙◌}
use mathlib.Core.Bool.{Bool}
use mathlib.Core.List.{[], ◌∷◌}
use borrow.Author.Tests.{ne_eqb}
use Rattle.std.specs.Prelude.{ℕ, Option, None, Ok, Err}
use Rattle.ground.specs.Choice.{chosen}
use Rattle.ground.specs.First.{first}
use Rattle.ground.specs.Options.{option_means}
use Rattle.ground.specs.Refusals.{refused_by}
use Rattle.ground.specs.declared.refusals.Refusal.{Refusal}
use Rattle.ground.proofs.RefusalNumbers.{passes, refused_as}
use Rattle.rules.specs.Ends.{down_4, mode_6}
use Rattle.numbers.specs.declared.Move.TheVariants.{Stay}
use Rattle.ends.specs.AsRules.{sends}
use Rattle.ends.specs.declared.Report.TheVariants as report
use Rattle.ends.specs.declared.decided.Decided.{Decided}

module _ {Mode Packet : Type 0} (m : Mode) (up : Bool) (sent : Option Packet) where
  abbrev number : ℕ
  number = first (down_4 up ∷ mode_6 (option_means sent) ∷ [])

  abbrev refusing : Refusal → Decided Mode Packet
  refusing q = record { report = report.Refused q; sent = None; numbers = Stay; mode = m; up = up }

  pub sends_it : {x : Decided Mode Packet} → Ok tt ≡ refused_by number → x ≡ record { report = report.Nothing; sent = sent; numbers = Stay; mode = m; up = up } → x ≡ sends m up sent
  unfolding sends chosen
  sends_it e h = h ∙ rw (passes number (sym e))

  pub sends_not : {q : Refusal} {x : Decided Mode Packet} → Err q ≡ refused_by number → x ≡ refusing q → x ≡ sends m up sent
  unfolding sends chosen
  sends_not e h = let f = refused_as number e in h ∙ (λ i. refusing (f.0 i)) ∙ rw (ne_eqb number 0 f.1)

pub ruleset sending = (sends_it, sends_not)
