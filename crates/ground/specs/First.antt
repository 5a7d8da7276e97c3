-- The first refusal that applies decides. Assumes nothing.
use Rattle.std.specs.Prelude.{ℕ, Bool, false, List, [], ◌∷◌, map, eqb}
use Rattle.ground.specs.Choice.{when◌then◌else◌}

-- a rule: the number of a refusal, and whether it applies
abbrev pub Rule : Type 0
Rule = ℕ × Bool

-- rules in their order: the number of the first that applies, or 0 where none does
unfoldable pub first : List Rule → ℕ
first [] = 0
first (r ∷ rs) = when r.1 then r.0 else first rs

-- ## Bench and ends: document 01's one order for all rules that speak of an action. 1, 2, 12, 13, 14 and 15 come before these, and before any of them
-- is looked at: they are of the letter, of the bench or end, and of what is lent to an end run alone

abbrev pub refusal_order : List ℕ
refusal_order = 11 ∷ 10 ∷ 4 ∷ 5 ∷ 6 ∷ 8 ∷ 3 ∷ 7 ∷ 9 ∷ []

-- does the rule of this number apply? Not where none of that number speaks of the action
unfoldable pub applies : List Rule → ℕ → Bool
applies [] n = false
applies (r ∷ rs) n = when eqb r.0 n then r.1 else applies rs n

-- the refusal of an action by the rules that speak of it, or 0
unfoldable pub refusal : List Rule → ℕ
refusal rules = first (map (λ n. (n, applies rules n)) refusal_order)
