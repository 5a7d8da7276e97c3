-- What the outcome of a read says of the first refusal.
use Prim.Native.Nat.{ℕ}
use mathlib.Core.Path.{◌≡◌, refl, sym, ap, ◌∙◌}
use mathlib.Core.List.{List}
use mathlib.Core.Bool.{true, false≢true}
use borrow.Author.Tests.{ne_eqb, eqb-true, eqb-false}
use lib.ListN.{length, get_or, drop}
use lib.Dec.{eqb}
use Rattle.ground.specs.Choice.{chosen}
use Rattle.ground.proofs.Tests.{by_test}
use Rattle.std.specs.Prelude as result
use Rattle.ground.specs.Refusals.{number_of, refusal_of, refused_by, refusal_in}
use Rattle.ground.specs.declared.refusals.Refusal.{Refusal}
use Rattle.ground.proofs.RefusalNumbers.{first_comes_back, is_other, is_refusal, own_number}
use Rattle.wire.specs.declared.Head.{Head}
use Rattle.wire.specs.Packet.{numbered, head_at, carries, read_refusal, head_read, with_message, packet_read}
use Rattle.wire.specs.Frame.{field}
use Rattle.wire.specs.Number.{value}
use Rattle.wire.proofs.Frames.{framed}
use Rattle.wire.proofs.Heads.{says}

module _ (s : List ℕ) where
  -- what is not refused is read as it stands
  pub head_read_lem : read_refusal s ≡ 0 → head_read s ≡ head_at s
  unfolding head_read chosen
  head_read_lem e = rw e

  pub refused_read : (read_refusal s ≡ 0 → ⊥) → head_read s ≡ result.Err (refusal_of (read_refusal s))
  unfolding head_read chosen
  refused_read h = rw (ne_eqb (read_refusal s) 0 h)

  -- a head was read from what is not refused, and a refusal is the first
  pub head_unrefused : {h : Head} → head_read s ≡ result.Ok h → read_refusal s ≡ 0
  unfolding head_read chosen
  head_unrefused {h} e =
      by_test (eqb (read_refusal s) 0) (λ t. eqb-true (read_refusal s) 0 t) (λ f. absurd (is_other (refusal_of (read_refusal s)) h (rw f at e)))

  -- the numbers of a head that was read are in their table
  pub read_numbered : {h : Head} → head_read s ≡ result.Ok h → numbered h ≡ true
  unfolding head_at
  read_numbered {h} e =
      let q : head_at s ≡ result.Ok h = sym (head_read_lem (head_unrefused e)) ∙ e in
      (says (get_or s 5 0) (value (field s 8 4)) (value (field s 12 4)) q).good

  carried : read_refusal s ≡ 0 → carries (head_at s) (drop 16 s) ≡ true
  unfolding read_refusal
  carried z = (framed 32 0x4C 1 s (carries (head_at s) (drop 16 s)) z).fields

  pub unrefused_long : read_refusal s ≡ 0 → length s ≡ 32
  unfolding read_refusal
  unrefused_long z = (framed 32 0x4C 1 s (carries (head_at s) (drop 16 s)) z).long

  known : refusal_in (refused_by (read_refusal s)) ≡ read_refusal s
  unfolding read_refusal
  known = first_comes_back _ refl

  -- the refusal that a read tells has the number by which it refuses
  pub head_refused : {r : Refusal} → head_read s ≡ result.Err r → (read_refusal s ≡ number_of r) × (read_refusal s ≡ 0 → ⊥)
  head_refused {r} e =
      by_test (eqb (read_refusal s) 0)
      (λ t.
      let z = eqb-true (read_refusal s) 0 t in
      let h : head_at s ≡ result.Err r = sym (head_read_lem z) ∙ e in
      absurd (false≢true (rw h at (carried z))))
      (λ f.
      let z = eqb-false (read_refusal s) 0 f in
      let q = is_refusal (refusal_of (read_refusal s)) r (sym (refused_read z) ∙ e) in
      (sym (own_number (read_refusal s) known z) ∙ ap number_of q, z))

  beside : (h : result.Result Head Refusal) {r : Refusal} → with_message h (drop 16 s) ≡ result.Err r → h ≡ result.Err r
  beside (result.Err q) {r} e = ap result.Err (is_refusal q r e)
  beside (result.Ok h) {r} e = absurd (is_other r (record { head = h; message = drop 16 s }) (sym e))

  -- and so of a packet
  pub packet_refused : {r : Refusal} → packet_read s ≡ result.Err r → (read_refusal s ≡ number_of r) × (read_refusal s ≡ 0 → ⊥)
  packet_refused e = head_refused (beside (head_read s) e)
