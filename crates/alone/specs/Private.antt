-- What the private functions of either end run alone promise each other. Nothing of it stands in an entry's promise. Assumes nothing.
use Rattle.std.specs.Prelude.{ℕ, [], ◌∷◌, Option, Result, Err}
use Rattle.ground.specs.First.{first}
use Rattle.ground.specs.Options.{option_means}
use Rattle.ground.specs.Refusals.{refusal_of, unless_refused}
use Rattle.ground.specs.declared.refusals.Refusal.{Refusal}
use Rattle.rules.specs.Ends.{down_4, mode_6}
use Rattle.ends.specs.declared.turn.Acted.{Acted}
use Rattle.ends.specs.declared.turn.End.{End}
use Rattle.ends.specs.declared.Report.TheVariants as report
use Rattle.alone.specs.AnyEnd.{lent}

-- the refusal with this number
abbrev pub refuses : {A : Type 0} → ℕ → Result A Refusal
refuses n = Err (refusal_of n)

-- Q, D, O and K, which would send this: 12 of the reply buffer, 4, 6; else nothing of the end changes, and it is sent
abbrev pub sends : {Mode Packet : Type 0} → End Mode → Option Packet → ℕ → Result (Acted Mode Packet) Refusal
sends e sent long =
    lent refuses long
    (unless_refused (first (down_4 e.up ∷ mode_6 (option_means sent) ∷ []))
    (record { report = report.Nothing; sent = sent; after = e }))
