-- Programs that the promises rule out, each at one input or at one sort of tables.
use Prim.Native.Nat.{ℕ, ◌-◌}
use mathlib.Core.Path.{◌≡◌, refl, sym, ap, ◌∙◌}
use mathlib.Core.Bool.{true, false, true≢false, false≢true}
use mathlib.Core.List.{List, [], ◌∷◌, ◌++◌}
use native.Mathlib.Omega.{arith}
use lib.ListN.{length, get_or, take, replicate, drop_of_length-le}
use Rattle.std.specs.Prelude.{Result}
use Rattle.std.specs.Prelude as result
use Rattle.ground.specs.Refusals.{refusal_of}
use Rattle.ground.specs.declared.refusals.Refusal.{Refusal}
use Rattle.ground.proofs.RefusalNumbers.{is_other}
use Rattle.ground.specs.Choice.{chosen}
use Rattle.ground.specs.Every.{filled}
use Rattle.ground.specs.First.{first}
use Rattle.ground.proofs.Promise.{RulesOut, unequal}
use Rattle.wire.specs.Number.{bytes_of, value}
use Rattle.wire.specs.Packet.{fits, is_blank, packet_bytes, head_of, head_at as wire-head-at, read_refusal, accepted, refused, head_read}
use Rattle.wire.specs.declared.Direction.{Direction}
use Rattle.wire.specs.declared.Direction.TheVariants.{ToController, ToConsole}
use Rattle.wire.specs.declared.Head.{Head}
use Rattle.wire.specs.declared.Head.TheVariants.{NeedI, Ok}
use Rattle.wire.specs.declared.Packet.{Packet}
use Rattle.channels.specs.Table.{laid, packet_at, head_at, goes, heads_pass, table_ok, with_copies, added}
use Rattle.channels.proofs.change.add.Kinds as add-kinds
use Rattle.channels.proofs.change.add.Reads as add
use Rattle.channels.proofs.check.head_at.Kinds as head-at-kinds
use Rattle.channels.proofs.check.head_at.Reads as head-at
use Rattle.channels.proofs.check.packet_at.Kinds as packet-at-kinds
use Rattle.channels.proofs.check.packet_at.Reads as packet-at
use Rattle.channels.proofs.check.table_ok.Kinds as table-ok-kinds
use Rattle.channels.proofs.check.table_ok.Reads as table-ok

-- a packet without a message
abbrev blank : Head → Packet
blank h = record { head = h; message = replicate 16 0 }

abbrev needs_1 : Packet
needs_1 = blank (NeedI (record { 0 = 1 }))

-- needI, then OK
abbrev two : List ℕ
two = packet_bytes needs_1 ++ packet_bytes (blank (Ok (record { 0 = 1 })))

-- ## Changing a table

added_none : (t : List ℕ) (p : Packet) → length t ≡ 2048 → added t 64 1 p ≡ t
unfolding added chosen
added_none t p l = rw l

pub adds_to_a_full_table : RulesOut add-kinds.ps add-kinds.r add.Post (λ κs a. (length a.0.now ≡ 2048) × (a.1.0 ≡ 64) × (a.1.1.0 ≡ 1)) (λ κs a x s. s.0.now ≡ a.0.now → ⊥)
adds_to_a_full_table κs a x s e w p = w (p ∙ (λ i. added a.0.now (e.1 i) (e.2 i) a.1.1.1.0) ∙ added_none a.0.now a.1.1.1.0 e.0)

second_copy : (get_or (added (replicate 2048 0) 0 2 needs_1) 32 0 ≡ 0x48) × (get_or (with_copies (replicate 2048 0) 0 1 needs_1) 32 0 ≡ 0)
unfolding added laid packet_bytes bytes_of fits chosen is_blank filled
second_copy = (refl, refl)

-- two copies for an empty table
pub copies_on_one_place : RulesOut add-kinds.ps add-kinds.r add.Post (λ κs a. (a.0.now ≡ replicate 2048 0) × (a.1.0 ≡ 0) × (a.1.1.0 ≡ 2) × (a.1.1.1.0 ≡ needs_1)) (λ κs a x s. s.0.now ≡ with_copies a.0.now 0 1 needs_1)
copies_on_one_place κs a x s e w p =
    let q = sym (p ∙ (λ i. added (e.0 i) (e.1 i) (e.2 i) (e.3 i))) ∙ w ∙ ap (λ (t : List ℕ). with_copies t 0 1 needs_1) e.0 in
    unequal (sym second_copy.0 ∙ ap (λ (t : List ℕ). get_or t 32 0) q ∙ second_copy.1) refl

-- ## Reading a table

abbrev its_head : Result Packet Refusal → Result Head Refusal
its_head (result.Ok p) = result.Ok p.head
its_head (result.Err r) = result.Err r

pub reads_the_place_before : RulesOut packet-at-kinds.ps packet-at-kinds.r packet-at.Post (λ κs a. (a.0.now ≡ two) × (a.1.0 ≡ 1)) (λ κs a x s. x ≡ packet_at a.0.now (a.1.0 - 1))
unfolding packet_at head_read read_refusal wire-head-at head_of packet_bytes bytes_of value first chosen is_blank filled
reads_the_place_before κs a x s e w p =
    let q = sym (λ i. packet_at (e.0 i) (e.1 i - 1)) ∙ sym w ∙ p ∙ (λ i. packet_at (e.0 i) (e.1 i)) in
    false≢true (ap (λ (r : Result Packet Refusal). goes ToConsole (its_head r)) q)

packet_at_end : (t : List ℕ) → length t ≡ 2048 → packet_at t 64 ≡ refused 12
unfolding packet_at head_read read_refusal first chosen
packet_at_end t l = rw (drop_of_length-le t {i = 2048} (omega (arith, l)))

head_at_end : (t : List ℕ) → length t ≡ 2048 → head_at t 64 ≡ result.Err (refusal_of 12)
unfolding head_at head_read read_refusal first chosen
head_at_end t l = rw (drop_of_length-le t {i = 2048} (omega (arith, l)))

pub a_packet_beyond_the_table : RulesOut packet-at-kinds.ps packet-at-kinds.r packet-at.Post (λ κs a. (length a.0.now ≡ 2048) × (a.1.0 ≡ 64)) (λ κs a x s. (q : Packet) × (x ≡ accepted q))
a_packet_beyond_the_table κs a x s e w p = is_other (refusal_of 12) w.0 (sym (sym w.1 ∙ p ∙ ap (packet_at a.0.now) e.1 ∙ packet_at_end a.0.now e.0))

pub head_of_the_place_before : RulesOut head-at-kinds.ps head-at-kinds.r head-at.Post (λ κs a. (a.0.now ≡ two) × (a.1.0 ≡ 1)) (λ κs a x s. x ≡ head_at a.0.now (a.1.0 - 1))
unfolding head_at head_read read_refusal wire-head-at head_of packet_bytes bytes_of value first chosen is_blank filled
head_of_the_place_before κs a x s e w p =
    let q = sym (λ i. head_at (e.0 i) (e.1 i - 1)) ∙ sym w ∙ p ∙ (λ i. head_at (e.0 i) (e.1 i)) in
    false≢true (ap (goes ToConsole) q)

pub a_head_beyond_the_table : RulesOut head-at-kinds.ps head-at-kinds.r head-at.Post (λ κs a. (length a.0.now ≡ 2048) × (a.1.0 ≡ 64)) (λ κs a x s. (h : Head) × (x ≡ result.Ok h))
a_head_beyond_the_table κs a x s e w p =
    is_other (refusal_of 12) w.0 (sym (sym w.1 ∙ p ∙ ap (head_at a.0.now) e.1 ∙ head_at_end a.0.now e.0))

other_way : (t : List ℕ) → length t ≡ 2048 → take 32 t ≡ packet_bytes (blank (Ok (record { 0 = 1 }))) → table_ok ToController 1 t ≡ false
unfolding table_ok heads_pass head_read read_refusal wire-head-at head_of packet_bytes bytes_of value first chosen is_blank filled
other_way t l h = rw (l, h)

-- a table whose first packet is an OK, on its way to the controller
pub takes_the_other_direction : RulesOut table-ok-kinds.ps table-ok-kinds.r table-ok.Post (λ κs a. (length a.0.now ≡ 2048) × (take 32 a.0.now ≡ packet_bytes (blank (Ok (record { 0 = 1 })))) × (a.1.0 ≡ 1) × (a.1.1.0 ≡ ToController)) (λ κs a x s. x ≡ true)
takes_the_other_direction κs a x s e w p = true≢false (sym w ∙ p ∙ (λ i. table_ok (e.3 i) (e.2 i) a.0.now) ∙ other_way a.0.now e.0 e.1)

one_above : (d : Direction) → table_ok d 0 (replicate 2047 0 ++ 1 ∷ []) ≡ false
unfolding table_ok heads_pass filled
one_above d = refl

-- no packets, and a byte above that is not zero
pub zeros_above_not_looked_at : RulesOut table-ok-kinds.ps table-ok-kinds.r table-ok.Post (λ κs a. (a.0.now ≡ replicate 2047 0 ++ 1 ∷ []) × (a.1.0 ≡ 0)) (λ κs a x s. x ≡ true)
zeros_above_not_looked_at κs a x s e w p = true≢false (sym w ∙ p ∙ (λ i. table_ok a.1.1.0 (e.1 i) (e.0 i)) ∙ one_above a.1.1.0)
