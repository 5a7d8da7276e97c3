-- Packets by their numbers, as C has them. Assumes nothing.
use Rattle.std.specs.Prelude.{ℕ, List, eqb, Result, Ok, Err}
use Rattle.ground.specs.Choice.{when◌then◌else◌}
use Rattle.ground.specs.Refusals.{number_of}
use Rattle.ground.specs.declared.refusals.Refusal.{Refusal}
use Rattle.wire.specs.Packet.{kind_of, first_of, second_of, write_refusal, packet_written, packet_read}
use Rattle.wire.specs.declared.Head.{Head}
use Rattle.wire.specs.declared.Packet.{Packet}

-- what the places to be written hold after a read, beside its refusal, or 0
pub record PacketOut : Type 0 where
  pub refusal : ℕ
  pub kind : ℕ
  pub first : ℕ
  pub second : ℕ
  pub message : List ℕ

-- a refusal leaves all of them
abbrev pub read_out : Result Packet Refusal → ℕ → ℕ → ℕ → List ℕ → PacketOut
read_out (Err r) k a b o = record { refusal = number_of r; kind = k; first = a; second = b; message = o }
read_out (Ok p) k a b o = record { refusal = 0; kind = kind_of p.head; first = first_of p.head; second = second_of p.head; message = p.message }

abbrev pub packet_out : List ℕ → ℕ → ℕ → ℕ → List ℕ → PacketOut
packet_out s k a b o = read_out (packet_read s) k a b o

-- kind and numbers that no line of the table has are 15, after 12
abbrev pub head_refusal : ℕ → Result Head Refusal → List ℕ → ℕ
head_refusal n (Err r) m = when eqb n 32 then 15 else 12
head_refusal n (Ok h) m = write_refusal n (record { head = h; message = m })

abbrev pub head_put : List ℕ → Result Head Refusal → List ℕ → List ℕ
head_put out (Err r) m = out
head_put out (Ok h) m = packet_written out (record { head = h; message = m })
