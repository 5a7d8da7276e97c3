-- Programs that the promise of `==` on numbers rules out, each at one input: a J is compared with a J, an I with an I; 0 means none.
use mathlib.Core.Path.{◌≡◌, sym, ◌∙◌}
use mathlib.Core.Bool.{true, false, true≢false, false≢true}
use lib.Dec.{eqb}
use Rattle.ground.proofs.Promise.{RulesOut}
use Rattle.wire.proofs.JPartialEq.eq.Kinds as same-j-kinds
use Rattle.wire.proofs.JPartialEq.eq.Reads as same-j
use Rattle.wire.proofs.IPartialEq.eq.Kinds as same-i-kinds
use Rattle.wire.proofs.IPartialEq.eq.Reads as same-i
use Rattle.wire.specs.declared.Direction.TheVariants.{ToController, ToConsole}
use Rattle.wire.proofs.DirectionPartialEq.eq.Kinds as same-direction-kinds
use Rattle.wire.proofs.DirectionPartialEq.eq.Reads as same-direction

-- ## Numbers compared

pub every_j_is_the_same : RulesOut same-j-kinds.ps same-j-kinds.r same-j.Post (λ κs a. (a.0.now ≡ record { 0 = 1 }) × (a.1.0.now ≡ record { 0 = 2 })) (λ κs a x s. x ≡ true)
every_j_is_the_same κs a x s e w p = true≢false (sym w ∙ p ∙ (λ i. eqb (e.0 i).0 (e.1 i).0))

pub no_j_is_the_same : RulesOut same-j-kinds.ps same-j-kinds.r same-j.Post (λ κs a. (a.0.now ≡ record { 0 = 1 }) × (a.1.0.now ≡ record { 0 = 1 })) (λ κs a x s. x ≡ false)
no_j_is_the_same κs a x s e w p = false≢true (sym w ∙ p ∙ (λ i. eqb (e.0 i).0 (e.1 i).0))

-- the low 16 bits alone compared
pub an_i_by_its_low_bits : RulesOut same-i-kinds.ps same-i-kinds.r same-i.Post (λ κs a. (a.0.now ≡ record { 0 = 1 }) × (a.1.0.now ≡ record { 0 = 65_537 })) (λ κs a x s. x ≡ true)
an_i_by_its_low_bits κs a x s e w p = true≢false (sym w ∙ p ∙ (λ i. eqb (e.0 i).0 (e.1 i).0))

pub no_i_is_the_same : RulesOut same-i-kinds.ps same-i-kinds.r same-i.Post (λ κs a. (a.0.now ≡ record { 0 = 1 }) × (a.1.0.now ≡ record { 0 = 1 })) (λ κs a x s. x ≡ false)
no_i_is_the_same κs a x s e w p = false≢true (sym w ∙ p ∙ (λ i. eqb (e.0 i).0 (e.1 i).0))

-- ## 0 means none

pub j_1_is_none : RulesOut same-j-kinds.ps same-j-kinds.r same-j.Post (λ κs a. (a.0.now ≡ record { 0 = 1 }) × (a.1.0.now ≡ record { 0 = 0 })) (λ κs a x s. x ≡ true)
j_1_is_none κs a x s e w p = true≢false (sym w ∙ p ∙ (λ i. eqb (e.0 i).0 (e.1 i).0))

pub j_0_is_one : RulesOut same-j-kinds.ps same-j-kinds.r same-j.Post (λ κs a. (a.0.now ≡ record { 0 = 0 }) × (a.1.0.now ≡ record { 0 = 0 })) (λ κs a x s. x ≡ false)
j_0_is_one κs a x s e w p = false≢true (sym w ∙ p ∙ (λ i. eqb (e.0 i).0 (e.1 i).0))

pub the_largest_i_is_none : RulesOut same-i-kinds.ps same-i-kinds.r same-i.Post (λ κs a. (a.0.now ≡ record { 0 = 4_294_967_295 }) × (a.1.0.now ≡ record { 0 = 0 })) (λ κs a x s. x ≡ true)
the_largest_i_is_none κs a x s e w p = true≢false (sym w ∙ p ∙ (λ i. eqb (e.0 i).0 (e.1 i).0))

pub i_0_is_one : RulesOut same-i-kinds.ps same-i-kinds.r same-i.Post (λ κs a. (a.0.now ≡ record { 0 = 0 }) × (a.1.0.now ≡ record { 0 = 0 })) (λ κs a x s. x ≡ false)
i_0_is_one κs a x s e w p = false≢true (sym w ∙ p ∙ (λ i. eqb (e.0 i).0 (e.1 i).0))

-- ## Directions

pub every_direction_is_the_same : RulesOut same-direction-kinds.ps same-direction-kinds.r same-direction.Post (λ κs a. (a.0.now ≡ ToController) × (a.1.0.now ≡ ToConsole)) (λ κs a x s. x ≡ true)
every_direction_is_the_same κs a x s e w p = let q : x ≡ false = rw (e.0, e.1) at p in true≢false (sym w ∙ q)

pub no_direction_is_the_same : RulesOut same-direction-kinds.ps same-direction-kinds.r same-direction.Post (λ κs a. (a.0.now ≡ ToConsole) × (a.1.0.now ≡ ToConsole)) (λ κs a x s. x ≡ false)
no_direction_is_the_same κs a x s e w p = let q : x ≡ true = rw (e.0, e.1) at p in true≢false (sym q ∙ w)
