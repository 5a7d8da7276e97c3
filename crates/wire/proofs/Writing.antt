-- What is written, from the answers of the calls that write it.
use Prim.Native.Nat.{ℕ, ◌-◌}
use mathlib.Core.Path.{◌≡◌, refl, sym, ap, ◌∙◌}
use mathlib.Core.List.{List, [], ◌∷◌, ◌++◌, append-nil, append_assoc}
use mathlib.Core.Bool.{Bool, true, false}
use native.Mathlib.Nat.{le_refl}
use borrow.Author.Tests.{ne_eqb, eqb-true}
use borrow.Rule.Slice.PartMut.{put_mid}
use lib.ListN.{length, drop, drop_of_length-le, length-drop, length-append}
use lib.Seq.{take_at}
use lib.Dec.{eqb}
use Rattle.std.specs.Prelude as result
use Rattle.ground.specs.Refusals.{refused_by}
use Rattle.ground.specs.declared.refusals.Refusal.TheVariants.{WrongLength, WrongField}
use Rattle.ground.proofs.RefusalNumbers.{passes, refused_as}
use Rattle.ground.specs.Choice.{chosen}
use Rattle.ground.specs.First.{first}
use Rattle.ground.proofs.First.{none_wanting}
use Rattle.wire.specs.declared.Head.{Head}
use Rattle.wire.specs.declared.Packet.{Packet}
use Rattle.wire.specs.declared.packets.Fields.{Fields}
use Rattle.wire.specs.Frame.{frame}
use Rattle.wire.specs.Number.{bytes_of}
use Rattle.wire.specs.Packet.{fields_of, kind_of, first_of, second_of, numbered, table, fits, packet_bytes, write_refusal, packet_written}
use Rattle.ground.proofs.Elements.{elements, rest_elements}

pub fits_numbered : (p : Packet) {n r : Bool} → n ≡ numbered p.head → n ≡ true → r ≡ (table p.head).message p.message → r ≡ fits p
unfolding fits
fits_numbered p e t f = rw (← e, t) f

pub fits_unnumbered : (p : Packet) {n : Bool} → n ≡ numbered p.head → n ≡ false → false ≡ fits p
unfolding fits
fits_unnumbered p e f = rw (← e, f)

-- arrays that are laid out element by element
pub head_bytes_are : (h : Head) {f : Fields} {u v : List ℕ} → f ≡ fields_of h → u ≡ bytes_of 4 f.first → v ≡ bytes_of 4 f.second → length u ≡ 4 → length v ≡ 4 → (0x48 ∷ 0x53 ∷ 0x4C ∷ 0 ∷ 1 ∷ f.kind ∷ 0 ∷ 0 ∷ elements u 0 4) ++ elements v 0 4 ≡ frame 0x4C 1 (kind_of h) ++ (bytes_of 4 (first_of h) ++ bytes_of 4 (second_of h))
head_bytes_are h {f} {u} {v} e i j l m =
    let laid : (0x48 ∷ 0x53 ∷ 0x4C ∷ 0 ∷ 1 ∷ f.kind ∷ 0 ∷ 0 ∷ elements u 0 4) ++ elements v 0 4 ≡ frame 0x4C 1 f.kind ++ (u ++ v) = unfold bytes_of in λ n. frame 0x4C 1 f.kind ++ (rest_elements 4 u 0 l n ++ rest_elements 4 v 0 m n) in
    laid ∙ rw (i, j, e)

-- the head over the first 16 of 32 bytes, the message over those after them
pub packet_put : (p : Packet) (out : List ℕ) {x y : List ℕ} → x ≡ frame 0x4C 1 (kind_of p.head) ++ (bytes_of 4 (first_of p.head) ++ bytes_of 4 (second_of p.head)) → y ≡ p.message → length x ≡ 16 → length out ≡ 32 → put_mid 16 (length (x ++ drop 16 out) - 16) (x ++ drop 16 out) y ≡ packet_bytes p
unfolding packet_bytes
packet_put p out {x} {y} h e l k =
    let whole : length (x ++ drop 16 out) ≡ 32 = rw (length-append x (drop 16 out), l, length-drop 16 out, k) in
    let rest : drop (length (x ++ drop 16 out) - 16) (drop 16 (x ++ drop 16 out)) ≡ [] = drop_of_length-le (drop 16 (x ++ drop 16 out)) {i = length (x ++ drop 16 out) - 16} (rw (length-drop 16 (x ++ drop 16 out)) (le_refl (length (x ++ drop 16 out) - 16))) in
    let f₁ = bytes_of 4 (first_of p.head) in
    let f₂ = bytes_of 4 (second_of p.head) in
    let k₁ = frame 0x4C 1 (kind_of p.head) in
    rw (take_at x (drop 16 out) 16 l, rest, append-nil, h, e) (append_assoc k₁ (f₁ ++ f₂) p.message ∙ ap (λ (r : List ℕ). k₁ ++ r) (append_assoc f₁ f₂ p.message))

-- a packet can be written to 32 bytes exactly where it fits
pub writable : (p : Packet) → fits p ≡ true → write_refusal 32 p ≡ 0
unfolding write_refusal first chosen
writable p f = rw f

pub written_fits : (n : ℕ) (p : Packet) → write_refusal n p ≡ 0 → (n ≡ 32) × (fits p ≡ true)
unfolding write_refusal
written_fits n p e =
    let l = none_wanting 12 (eqb n 32) _ refl e in
    let f = none_wanting 15 (fits p) [] refl l.1 in
    (eqb-true n 32 l.0, f.0)

-- a write of a packet: its length is wrong, it doesn't fit, and it is written
module _ (out : List ℕ) (p : Packet) where
  pub write_12 : (length out ≡ 32 → ⊥) → result.Err WrongLength ≡ refused_by (write_refusal (length out) p)
  unfolding write_refusal first chosen
  write_12 h = rw (ne_eqb (length out) 32 h)

  pub write_15 : {r : Bool} → length out ≡ 32 → r ≡ fits p → r ≡ false → result.Err WrongField ≡ refused_by (write_refusal (length out) p)
  unfolding write_refusal first chosen
  write_15 l e f = rw (l, ← e, f)

  pub write_0 : {r : Bool} → length out ≡ 32 → r ≡ fits p → r ≡ true → result.Ok tt ≡ refused_by (write_refusal (length out) p)
  unfolding write_refusal first chosen
  write_0 l e t = rw (l, ← e, t)

  -- a refusal leaves the bytes, and else they are the packet's
  pub out_kept : (write_refusal (length out) p ≡ 0 → ⊥) → packet_written out p ≡ out
  unfolding packet_written chosen
  out_kept h = rw (ne_eqb (write_refusal (length out) p) 0 h)

  pub packet_written_lem : length out ≡ 32 → fits p ≡ true → packet_written out p ≡ packet_bytes p
  unfolding packet_written chosen
  packet_written_lem l f = rw (passes (write_refusal (length out) p) (sym (write_0 l (sym f) refl)))

  pub written_12 : (length out ≡ 32 → ⊥) → out ≡ packet_written out p
  written_12 h = sym (out_kept (refused_as (write_refusal (length out) p) (write_12 h)).1)

  pub written_15 : {r : Bool} → length out ≡ 32 → r ≡ fits p → r ≡ false → out ≡ packet_written out p
  written_15 l e f = sym (out_kept (refused_as (write_refusal (length out) p) (write_15 l e f)).1)

  pub written_0 : {r : Bool} {x : List ℕ} → length out ≡ 32 → r ≡ fits p → r ≡ true → x ≡ packet_bytes p → x ≡ packet_written out p
  written_0 l e t b = b ∙ sym (packet_written_lem l (sym e ∙ t))

pub ruleset writes = (write_12, write_15, write_0, written_12, written_15, written_0)
