-- The version that header and archive share. Assumes nothing.
use Rattle.std.specs.Prelude.{ℕ}

-- the header's NOOSELESS_VERSION; it changes with what an entry takes, gives or means
abbrev pub version : ℕ
version = 3
