-- The promise of the version determines it.
use mathlib.Core.Path.{sym, ◌∙◌}
use Rattle.ground.proofs.Promise.{Determined}
use Rattle.boundary.proofs.version.nooseless_version.Kinds as version-kinds
use Rattle.boundary.proofs.version.nooseless_version.Reads as version

pub version_determined : Determined version-kinds.ps version-kinds.r version.Post
version_determined κs a x y s t p q = p ∙ sym q
