-- Programs that the promises of numbers in bytes shut out, each at one input: at the bytes 0, 0, 0, 1, and, of two bytes, at 0, 1 and at 1.
use Prim.Native.Nat.{ℕ}
use mathlib.Core.Path.{◌≡◌, refl, sym, ap, ◌∙◌}
use mathlib.Core.List.{List, [], ◌∷◌}
use lib.ListN.{get_or}
use Rattle.ground.proofs.Promise.{RulesOut, unequal}
use Rattle.wire.specs.Number.{bytes_of, value}
use Rattle.wire.proofs.frame.from_big_endian.Kinds as from-big-endian-kinds
use Rattle.wire.proofs.frame.from_big_endian.Reads as from-big-endian
use Rattle.wire.proofs.frame.big_endian_16.Kinds as big-endian-16-kinds
use Rattle.wire.proofs.frame.big_endian_16.Reads as big-endian-16
use Rattle.wire.proofs.frame.from_big_endian_16.Kinds as from-big-endian-16-kinds
use Rattle.wire.proofs.frame.from_big_endian_16.Reads as from-big-endian-16

pub least_byte_first : RulesOut from-big-endian-kinds.ps from-big-endian-kinds.r from-big-endian.Post (λ κs a. a.0 ≡ 0 ∷ 0 ∷ 0 ∷ 1 ∷ []) (λ κs a x s. x ≡ 0x1000000)
unfolding value
least_byte_first κs a x s e w p = unequal (sym w ∙ p ∙ ap value e) refl

pub always_0 : RulesOut from-big-endian-kinds.ps from-big-endian-kinds.r from-big-endian.Post (λ κs a. a.0 ≡ 0 ∷ 0 ∷ 0 ∷ 1 ∷ []) (λ κs a x s. x ≡ 0)
unfolding value
always_0 κs a x s e w p = unequal (sym w ∙ p ∙ ap value e) refl

pub least_of_two_first : RulesOut from-big-endian-16-kinds.ps from-big-endian-16-kinds.r from-big-endian-16.Post (λ κs a. a.0 ≡ 0 ∷ 1 ∷ []) (λ κs a x s. x ≡ 0x100)
unfolding value
least_of_two_first κs a x s e w p = unequal (sym w ∙ p ∙ ap value e) refl

pub two_always_0 : RulesOut from-big-endian-16-kinds.ps from-big-endian-16-kinds.r from-big-endian-16.Post (λ κs a. a.0 ≡ 0 ∷ 1 ∷ []) (λ κs a x s. x ≡ 0)
unfolding value
two_always_0 κs a x s e w p = unequal (sym w ∙ p ∙ ap value e) refl

pub writes_least_of_two_first : RulesOut big-endian-16-kinds.ps big-endian-16-kinds.r big-endian-16.Post (λ κs a. a.0 ≡ 1) (λ κs a x s. x ≡ 1 ∷ 0 ∷ [])
unfolding bytes_of
writes_least_of_two_first κs a x s e w p = unequal (ap (λ (l : List ℕ). get_or l 0 0) (sym w ∙ p ∙ ap (bytes_of 2) e)) refl

pub writes_two_zeros : RulesOut big-endian-16-kinds.ps big-endian-16-kinds.r big-endian-16.Post (λ κs a. a.0 ≡ 1) (λ κs a x s. x ≡ 0 ∷ 0 ∷ [])
unfolding bytes_of
writes_two_zeros κs a x s e w p = unequal (ap (λ (l : List ℕ). get_or l 1 0) (sym w ∙ p ∙ ap (bytes_of 2) e)) refl
