-- Each promise of the crate determines its answer.
use mathlib.Core.Path.{sym, ◌∙◌}
use Rattle.ground.proofs.Promise.{Determined}
use Rattle.numbers.proofs.Numbers.kept.Kinds as kept-kinds
use Rattle.numbers.proofs.Numbers.kept.Reads as kept
use Rattle.numbers.proofs.Numbers.fresh.Kinds as fresh-kinds
use Rattle.numbers.proofs.Numbers.fresh.Reads as fresh
use Rattle.numbers.proofs.Numbers.next.Kinds as next-kinds
use Rattle.numbers.proofs.Numbers.next.Reads as next
use Rattle.numbers.proofs.Numbers.back.Kinds as back-kinds
use Rattle.numbers.proofs.Numbers.back.Reads as back
use Rattle.numbers.proofs.Numbers.after.Kinds as after-kinds
use Rattle.numbers.proofs.Numbers.after.Reads as after
use Rattle.numbers.proofs.Numbers.is_used.Kinds as is-used-kinds
use Rattle.numbers.proofs.Numbers.is_used.Reads as is-used
use Rattle.numbers.proofs.Numbers.is_sound.Kinds as is-sound-kinds
use Rattle.numbers.proofs.Numbers.is_sound.Reads as is-sound

pub kept_determined : Determined kept-kinds.ps kept-kinds.r kept.Post
kept_determined κs a x y s t p q = p ∙ sym q

pub fresh_determined : Determined fresh-kinds.ps fresh-kinds.r fresh.Post
fresh_determined κs a x y s t p q = p ∙ sym q

pub next_determined : Determined next-kinds.ps next-kinds.r next.Post
next_determined κs a x y s t p q = p ∙ sym q

pub back_determined : Determined back-kinds.ps back-kinds.r back.Post
back_determined κs a x y s t p q = p ∙ sym q

pub after_determined : Determined after-kinds.ps after-kinds.r after.Post
after_determined κs a x y s t p q = p ∙ sym q

pub is_used_determined : Determined is-used-kinds.ps is-used-kinds.r is-used.Post
is_used_determined κs a x y s t p q = p ∙ sym q

pub is_sound_determined : Determined is-sound-kinds.ps is-sound-kinds.r is-sound.Post
is_sound_determined κs a x y s t p q = p ∙ sym q
