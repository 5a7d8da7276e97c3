-- Worked examples of showing, computed: 2 where 2 and 3 both apply, the bounds of places and counts, and no part on each refusal.
use Rattle.std.proofs.Common.{ℕ, ◌≡◌, refl, List, [], ◌∷◌, map, replicate, Result, Ok, Err, Bor}
use Rattle.ground.specs.Choice.{chosen}
use Rattle.ground.specs.First.{first}
use Rattle.ground.specs.declared.refusals.Refusal.{Refusal}
use Rattle.ground.specs.declared.refusals.Refusal.TheVariants.{IllFormed, NoPlace}
use Rattle.tables.specs.declared.shown.Way.{Way}
use Rattle.tables.specs.declared.shown.Way.TheVariants.{Out, Back}
use Rattle.tables.specs.Shown.{show_refusal, showing}

-- which table, the place, the length and the count of the one out, then of the one back
pub record Asked : Type 0 where
  pub way : Way
  pub place : ℕ
  pub out : ℕ
  pub sent : ℕ
  pub back : ℕ
  pub returned : ℕ

abbrev asks : Way → ℕ → ℕ → ℕ → ℕ → ℕ → Asked
asks way place out sent back returned = record { way = way; place = place; out = out; sent = sent; back = back; returned = returned }

abbrev refusal_of : Asked → ℕ
refusal_of q = show_refusal q.way q.place (replicate q.out 1) q.sent (replicate q.back 1) q.returned

-- a table of ones at the start of a block
abbrev lent : ℕ → ℕ → Bor (List ℕ)
lent block n = record { ref_ptr = (block, 0); now = replicate n 1 }

abbrev part_of : Asked → Result (Bor (List ℕ)) Refusal
part_of q = showing q.way q.place (lent 1 q.out) q.sent (lent 2 q.back) q.returned

-- another length or a count above 64, of either table, and a place that isn't below the count
abbrev both_apply : List Asked
both_apply =
    asks Out 5 2047 0 2048 0
    ∷ asks Out 5 2049 0 2048 0
    ∷ asks Out 65 2048 65 2048 0
    ∷ asks Back 5 2048 0 2047 0
    ∷ asks Back 5 2048 65 2048 0
    ∷ asks Out 5 2048 0 2048 65
    ∷ []

pub two_before_three : map refusal_of both_apply ≡ replicate 6 2
unfolding show_refusal first chosen
two_before_three = refl

-- an empty table, one of 64 records, and the other table's count
abbrev no_place : List Asked
no_place = asks Out 0 2048 0 2048 64 ∷ asks Back 0 2048 64 2048 0 ∷ asks Out 64 2048 64 2048 0 ∷ asks Back 64 2048 0 2048 64 ∷ []

pub then_three : map refusal_of no_place ≡ replicate 4 3
unfolding show_refusal first chosen
then_three = refl

pub refused_shows_none : map part_of both_apply ≡ replicate 6 (Err IllFormed) × map part_of no_place ≡ replicate 4 (Err NoPlace)
unfolding showing show_refusal first chosen
refused_shows_none = (refl, refl)

-- the last place of a full table
pub last_place_shown : part_of (asks Back 63 2048 0 2048 64) ≡ Ok (record { ref_ptr = (2, 2016); now = replicate 32 1 })
unfolding showing show_refusal first chosen
last_place_shown = refl
