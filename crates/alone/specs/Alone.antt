-- What both ends run alone share: the reply buffer. Assumes nothing.
use Rattle.std.specs.Prelude.{ℕ, ◌<◌, ◌≡◌, List}
use Rattle.std.proofs.Math.Option.{Option, none, some}
use Rattle.wire.specs.Packet.{packet_bytes, write_refusal}
use Rattle.wire.specs.declared.Packet.{Packet}

-- a number that is not 0
abbrev pub Above : ℕ → Type 0
Above n = 0 < n

-- what is sent can be written to n bytes
abbrev pub Writable : Option Packet → ℕ → Type 0
Writable none n = Unit {0}
Writable (some p) n = write_refusal n p ≡ 0

-- what is sent is written once to the reply buffer; with nothing to send it is untouched
abbrev pub replied : Option Packet → List ℕ → List ℕ
replied none reply = reply
replied (some p) reply = packet_bytes p
