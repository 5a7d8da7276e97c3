-- The number of every refusal is from 1 to 31, and it is the number by which the rules, a read, a write or showing refuses.
use Prim.Native.Nat.{ℕ, ◌<◌}
use mathlib.Core.Path.{◌≡◌, refl, sym}
use mathlib.Core.List.{List}
use native.Mathlib.Omega.{arith}
use Rattle.std.specs.Prelude.{Err}
use Rattle.ground.specs.Refusals.{number_of, refused_by, refusal_in}
use Rattle.ground.specs.declared.refusals.Refusal as refusals
use Rattle.ground.proofs.RefusalNumbers.{first_comes_back, number_in_table}
use Rattle.tables.specs.Shown.{show_refusal}
use Rattle.tables.specs.declared.shown.Way.{Way}
use Rattle.wire.specs.Packet.{read_refusal, head_read, write_refusal}
use Rattle.wire.specs.Record.{record_refusal, record_read, record_write_refusal}
use Rattle.wire.specs.declared.NumberRecord.{NumberRecord}
use Rattle.wire.specs.declared.Packet.{Packet}
use Rattle.wire.proofs.Outcomes.{head_refused}
use Rattle.wire.proofs.RecordTrips.{record_refused}

-- what is told as a refusal
abbrev pub Refusal : ℕ → Type 0
Refusal n = (0 < n) × (n < 32)

pub refusal_number : (r : refusals.Refusal) → Refusal (number_of r)
refusal_number r = let h = number_in_table r in (h.0, omega (arith, h.1))

pub not_0 : (r : refusals.Refusal) → number_of r ≡ 0 → ⊥
not_0 r z = let h = (refusal_number r).0 in omega (arith, h, z)

-- what C is told of a packet or number record that is written, and of showing, is the number by which that refuses
pub packet_known : (n : ℕ) (p : Packet) → refusal_in (refused_by (write_refusal n p)) ≡ write_refusal n p
unfolding write_refusal
packet_known n p = first_comes_back _ refl

pub record_known : (n : ℕ) (r : NumberRecord) → refusal_in (refused_by (record_write_refusal n r)) ≡ record_write_refusal n r
unfolding record_write_refusal
record_known n r = first_comes_back _ refl

pub show_known : (way : Way) (place : ℕ) (out : List ℕ) (sent : ℕ) (back : List ℕ) (returned : ℕ) → refusal_in (refused_by (show_refusal way place out sent back returned)) ≡ show_refusal way place out sent back returned
unfolding show_refusal
show_known way place out sent back returned = first_comes_back _ refl

-- and of a number record or a packet that is read
pub read_known : (s : List ℕ) {r : refusals.Refusal} → record_read s ≡ Err r → number_of r ≡ record_refusal s
read_known s e = sym (record_refused s e).0

pub head_known : (s : List ℕ) {r : refusals.Refusal} → head_read s ≡ Err r → number_of r ≡ read_refusal s
head_known s e = sym (head_refused s e).0
