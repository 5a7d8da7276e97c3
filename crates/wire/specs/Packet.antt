-- Packets, 32 bytes: the table of kinds, and what reading and writing are by it. Assumes nothing.
use Rattle.std.specs.Prelude.{ℕ, Bool, false, not, ◌&&◌, List, [], ◌∷◌, ◌++◌, length, get_or, drop, eqb, Result}
use Rattle.std.specs.Prelude as result
use Rattle.ground.specs.Cell.{is_message}
use Rattle.ground.specs.Choice.{when◌then◌else◌}
use Rattle.ground.specs.Every.{every, filled}
use Rattle.ground.specs.First.{first}
use Rattle.ground.specs.Refusals.{refusal_of}
use Rattle.ground.specs.declared.refusals.Refusal.{Refusal}
use Rattle.ground.specs.declared.refusals.Refusal.TheVariants.{WrongField}
use Rattle.wire.specs.Frame.{field, frame, read_refusals, found}
use Rattle.wire.specs.Number.{bytes_of, value}
use Rattle.wire.specs.declared.Direction.{Direction}
use Rattle.wire.specs.declared.Direction.TheVariants.{ToController, ToConsole}
use Rattle.wire.specs.declared.Head.{Head}
use Rattle.wire.specs.declared.Head.TheVariants.{NeedI, Offer, Data, Ok, Lost, Done}
use Rattle.wire.specs.declared.Packet.{Packet}
use Rattle.wire.specs.declared.packets.Fields.{Fields}

-- 16 zero bytes
unfoldable pub is_blank : List ℕ → Bool
is_blank m = eqb (length m) 16 && filled 0 m

-- a line of the table: the numbers are the first and, where there is one, the second, and none of them is 0
pub record Line : Type 0 where
  pub kind : ℕ
  pub direction : Direction
  pub numbers : List ℕ
  pub message : List ℕ → Bool

abbrev pub line : ℕ → Direction → List ℕ → (List ℕ → Bool) → Line
line k d ns m = record { kind = k; direction = d; numbers = ns; message = m }

-- the table of kinds
abbrev pub table : Head → Line
table (NeedI j) = line 1 ToController (j.0 ∷ []) is_blank
table (Offer j i) = line 2 ToConsole (j.0 ∷ i.0 ∷ []) is_blank
table (Data i) = line 3 ToController (i.0 ∷ []) is_message
table (Ok i) = line 4 ToConsole (i.0 ∷ []) is_blank
table (Lost i) = line 5 ToConsole (i.0 ∷ []) is_blank
table (Done i) = line 6 ToController (i.0 ∷ []) is_blank

abbrev pub kind_of : Head → ℕ
kind_of h = (table h).kind

abbrev pub direction_of : Head → Direction
direction_of h = (table h).direction

-- a second number that is not there is 0
abbrev pub first_of : Head → ℕ
first_of h = get_or (table h).numbers 0 0

abbrev pub second_of : Head → ℕ
second_of h = get_or (table h).numbers 1 0

abbrev pub fields_of : Head → Fields
fields_of h = record { kind = kind_of h; first = first_of h; second = second_of h }

abbrev pub numbered : Head → Bool
numbered h = every (λ n. not (eqb n 0)) (table h).numbers

-- a packet as its line says
unfoldable pub fits : Packet → Bool
fits p = numbered p.head && (table p.head).message p.message

-- bytes 0-2 "HSL"; 3-4 version 1; 5 kind; 6-7 zero; 8-11 first number; 12-15 second number; 16-31 message
unfoldable pub packet_bytes : Packet → List ℕ
packet_bytes p = frame 0x4C 1 (kind_of p.head) ++ (bytes_of 4 (first_of p.head) ++ (bytes_of 4 (second_of p.head) ++ p.message))

-- the heads that two numbers can make, one of each kind
abbrev pub heads : ℕ → ℕ → List Head
heads a b =
    NeedI (record { 0 = a })
    ∷ Offer (record { 0 = a }) (record { 0 = b })
    ∷ Data (record { 0 = a })
    ∷ Ok (record { 0 = a })
    ∷ Lost (record { 0 = a })
    ∷ Done (record { 0 = a })
    ∷ []

-- the head with this kind and these numbers in the table
unfoldable pub head_of : ℕ → ℕ → ℕ → Result Head Refusal
head_of k a b = found (λ h. numbered h && eqb k (kind_of h) && eqb b (second_of h)) result.Ok (result.Err WrongField) (heads a b)

unfoldable pub head_at : List ℕ → Result Head Refusal
head_at s = head_of (get_or s 5 0) (value (field s 8 4)) (value (field s 12 4))

abbrev pub carries : Result Head Refusal → List ℕ → Bool
carries (result.Err r) m = false
carries (result.Ok h) m = (table h).message m

-- the first refusal of a read, or 0
unfoldable pub read_refusal : List ℕ → ℕ
read_refusal s = first (read_refusals 32 0x4C 1 s (carries (head_at s) (drop 16 s)))

abbrev pub refused : {A : Type 0} → ℕ → Result A Refusal
refused n = result.Err (refusal_of n)

unfoldable pub head_read : List ℕ → Result Head Refusal
head_read s = when eqb (read_refusal s) 0 then head_at s else refused (read_refusal s)

-- a head that was read, with the message
abbrev pub with_message : Result Head Refusal → List ℕ → Result Packet Refusal
with_message (result.Err r) m = result.Err r
with_message (result.Ok h) m = result.Ok (record { head = h; message = m })

abbrev pub packet_read : List ℕ → Result Packet Refusal
packet_read s = with_message (head_read s) (drop 16 s)

abbrev pub accepted : Packet → Result Packet Refusal
accepted p = result.Ok p

-- the first refusal of a write to n bytes, or 0, and the bytes after it
unfoldable pub write_refusal : ℕ → Packet → ℕ
write_refusal n p = first ((12, not (eqb n 32)) ∷ (15, not (fits p)) ∷ [])

unfoldable pub packet_written : List ℕ → Packet → List ℕ
packet_written out p = when eqb (write_refusal (length out) p) 0 then packet_bytes p else out
