-- What is read, from the answers of the calls that read it: laws that the code's proofs cite.
use Prim.Native.Nat.{ℕ, ◌-◌}
use mathlib.Core.Path.{◌≡◌, refl, sym, ap, ◌∙◌}
use mathlib.Core.List.{List, [], ◌∷◌}
use mathlib.Core.Bool.{Bool, true, false, not}
use borrow.Author.Tests.{ne_eqb, eq-eqb}
use lib.ListN.{length, get_or, take, drop}
use Rattle.std.specs.Prelude as result
use Rattle.ground.specs.Choice.{chosen}
use Rattle.ground.specs.First.{first}
use Rattle.ground.specs.Refusals.{refused_by}
use Rattle.ground.specs.declared.refusals.Refusal.{Refusal}
use Rattle.ground.specs.declared.refusals.Refusal.TheVariants.{WrongLength, WrongField}
use Rattle.ground.proofs.Copies.{rest_lent}
use Rattle.ground.proofs.First.{first_applies, first_passes, first_kept, first_more}
use Rattle.ground.proofs.RefusalNumbers.{refused_as, passes}
use Rattle.wire.specs.declared.Head.{Head}
use Rattle.wire.specs.Number.{value}
use Rattle.wire.specs.Frame.{field, frame_refusals, read_refusals}
use Rattle.wire.specs.Packet.{table, head_at, read_refusal, head_read, with_message, packet_read}
use Rattle.wire.proofs.Heads.{no_head}
use Rattle.wire.proofs.Outcomes.{head_unrefused, unrefused_long}

-- the first refusal of a read: of the length, of bytes 0 to 7, and of the other fields
module _ (n letter version : ℕ) (s : List ℕ) (good : Bool) where
  pub refusal_length : (length s ≡ n → ⊥) → first (read_refusals n letter version s good) ≡ 12
  refusal_length h = first_applies 12 _ _ (rw (ne_eqb (length s) n h))

  pub refusal_frame : length s ≡ n → (first (frame_refusals letter version s) ≡ 0 → ⊥) → first (read_refusals n letter version s good) ≡ first (frame_refusals letter version s)
  refusal_frame l h = first_passes 12 _ _ (rw (eq-eqb (length s) n l)) ∙ first_kept (frame_refusals letter version s) _ h

  pub refusal_fields : length s ≡ n → first (frame_refusals letter version s) ≡ 0 → first (read_refusals n letter version s good) ≡ first ((15, not good) ∷ [])
  refusal_fields l e = first_passes 12 _ _ (rw (eq-eqb (length s) n l)) ∙ first_more (frame_refusals letter version s) _ refl e

-- the message, copied from the part that is lent
pub message_copied : (s : List ℕ) {x : List ℕ} → length s ≡ 32 → x ≡ take 16 (drop 16 s) → x ≡ drop 16 s
message_copied s l e = e ∙ sym (ap (λ (n : ℕ). take (n - 16) (drop 16 s)) l) ∙ rest_lent s 16

module _ (s : List ℕ) where
  unknown_head : {r : Refusal} → head_at s ≡ result.Err r → r ≡ WrongField
  unfolding head_at
  unknown_head e = no_head (get_or s 5 0) (value (field s 8 4)) (value (field s 12 4)) e

  pub read_length : (length s ≡ 32 → ⊥) → result.Err WrongLength ≡ head_read s
  unfolding head_read read_refusal chosen
  read_length h = rw (refusal_length 32 0x4C 1 s _ h)

  pub read_frame : {r : Refusal} → length s ≡ 32 → result.Err r ≡ refused_by (first (frame_refusals 0x4C 1 s)) → result.Err r ≡ head_read s
  unfolding head_read read_refusal chosen
  read_frame l e =
      let n = first (frame_refusals 0x4C 1 s) in
      let f = refused_as n e in
      ap result.Err f.0 ∙ rw (refusal_frame 32 0x4C 1 s _ l f.1, ne_eqb n 0 f.1)

  pub unrefused : result.Ok tt ≡ refused_by (first (frame_refusals 0x4C 1 s)) → first (frame_refusals 0x4C 1 s) ≡ 0
  unrefused e = passes (first (frame_refusals 0x4C 1 s)) (sym e)

  module _ (l : length s ≡ 32) (e : result.Ok tt ≡ refused_by (first (frame_refusals 0x4C 1 s))) where
    -- a head that is none of the table
    pub read_no_head : {r : Refusal} → result.Err r ≡ head_at s → result.Err r ≡ head_read s
    unfolding head_read read_refusal first chosen
    read_no_head f = ap result.Err (unknown_head (sym f)) ∙ rw (refusal_fields 32 0x4C 1 s _ l (unrefused e), ← f)

    module _ {h : Head} {b : Bool} (f : result.Ok h ≡ head_at s) (g : b ≡ (table h).message (take (length s - 16) (drop 16 s))) where
      pub read_fields : b ≡ false → result.Err WrongField ≡ head_read s
      unfolding head_read read_refusal first chosen
      read_fields t = rw (refusal_fields 32 0x4C 1 s _ l (unrefused e), ← f, ← rest_lent s 16, ← g, t)

      pub read_taken : b ≡ true → result.Ok h ≡ head_read s
      unfolding head_read read_refusal first chosen
      read_taken t = rw (refusal_fields 32 0x4C 1 s _ l (unrefused e), ← f, ← rest_lent s 16, ← g, t)

  -- the message beside a head that was read
  pub read_long : {h : Head} → result.Ok h ≡ head_read s → length s ≡ 32
  read_long e = unrefused_long s (head_unrefused s (sym e))

  pub read_beside : {h : Head} {m : List ℕ} → result.Ok h ≡ head_read s → m ≡ drop 16 s → result.Ok (record { head = h; message = m }) ≡ packet_read s
  read_beside e f = λ i. with_message (e i) (f i)

  pub refused_beside : {r : Refusal} → result.Err r ≡ head_read s → result.Err r ≡ packet_read s
  refused_beside e = λ i. with_message (e i) (drop 16 s)

pub ruleset reads = (read_length, read_frame, read_no_head, read_fields, read_taken)

pub ruleset packet_reads = (read_long, read_beside, refused_beside)
