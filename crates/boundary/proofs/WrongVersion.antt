-- Versions that the promise shuts out: the one before, and the next.
use mathlib.Core.Path.{◌≡◌, refl, sym, ◌∙◌}
use Rattle.ground.proofs.Promise.{RulesOut, unequal}
use Rattle.boundary.proofs.version.nooseless_version.Kinds as version-kinds
use Rattle.boundary.proofs.version.nooseless_version.Reads as version

pub version_2 : RulesOut version-kinds.ps version-kinds.r version.Post (λ κs a. Unit {0}) (λ κs a x s. x ≡ 2)
version_2 κs a x s given does meets = unequal (sym does ∙ meets) refl

pub version_4 : RulesOut version-kinds.ps version-kinds.r version.Post (λ κs a. Unit {0}) (λ κs a x s. x ≡ 4)
version_4 κs a x s given does meets = unequal (sym does ∙ meets) refl
