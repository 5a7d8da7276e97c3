-- Each promise of the crate determines its answer, or the lent buffer afterwards.
use mathlib.Core.Path.{refl, sym, ◌∙◌}
use Rattle.ground.proofs.Promise.{Determined, DeterminedWith}
use Rattle.listing.proofs.reading.read.Kinds as read-kinds
use Rattle.listing.proofs.reading.read.Reads as read
use Rattle.listing.proofs.reading.record_end.Kinds as record-end-kinds
use Rattle.listing.proofs.reading.record_end.Reads as record-end
use Rattle.listing.proofs.writing.two_digits.Kinds as two-digits-kinds
use Rattle.listing.proofs.writing.two_digits.Reads as two-digits
use Rattle.listing.proofs.writing.write_line.Kinds as write-line-kinds
use Rattle.listing.proofs.writing.write_line.Reads as write-line

pub read_determined : Determined read-kinds.ps read-kinds.r read.Post
read_determined κs a x y s t p q = p ∙ sym q

pub record_end_determined : Determined record-end-kinds.ps record-end-kinds.r record-end.Post
record_end_determined κs a x y s t p q = p ∙ sym q

pub two_digits_determined : Determined two-digits-kinds.ps two-digits-kinds.r two-digits.Post
two_digits_determined κs a x y s t p q = p ∙ sym q

pub write_line_determined : DeterminedWith write-line-kinds.ps write-line-kinds.r write-line.Post (λ κs s. s.0.now)
write_line_determined κs a x y s t p q = (refl, p ∙ sym q)
