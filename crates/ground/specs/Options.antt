-- An option of the rules as the code has it, and back. Assumes nothing.
use Rattle.std.specs.Prelude.{Option, None, Some}
use Rattle.std.proofs.Math.Option as maybe

abbrev pub option_back : {A : Type 0} → maybe.Option A → Option A
option_back maybe.none = None
option_back (maybe.some x) = Some x

abbrev pub option_means : {A : Type 0} → Option A → maybe.Option A
option_means None = maybe.none
option_means (Some x) = maybe.some x
