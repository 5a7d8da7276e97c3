-- Number records carried from version to version and back: old to new to old gives the same bytes, new to old to new too but for block 64.
use Prim.Native.Nat.{ℕ, ◌^◌, ◌<◌}
use mathlib.Core.Path.{◌≡◌, refl, sym, ap, ◌∙◌}
use mathlib.Core.Bool.{true, false, true≢false, false≢true}
use mathlib.Core.List.{List}
use lib.ListN.{set}
use Rattle.std.specs.Prelude.{Ok}
use Rattle.ground.specs.Bytes.{Bytes}
use Rattle.ground.specs.Choice.{chosen}
use Rattle.wire.specs.declared.NumberRecord.{NumberRecord}
use Rattle.wire.specs.declared.NumberRecord.TheVariants.{ConsoleOld, ControllerOld, Console, Controller}
use Rattle.wire.specs.Number.{bytes_of}
use Rattle.wire.specs.Record.{is_old, end_of, number_of, block_of, is_block, is_good, record_bytes, record_read, renewed, aged}
use Rattle.wire.proofs.RecordTrips.{loaded, record_read_back}

-- t is what s, which is accepted, is carried to
pub record Carried (change : NumberRecord → NumberRecord) (s t : List ℕ) : Type 0 where
  pub from : NumberRecord
  pub accepted : record_read s ≡ Ok from
  pub to : t ≡ record_bytes (change from)

-- bytes 12 and 13, the block, made 64
abbrev pub with_64 : List ℕ → List ℕ
with_64 s = set (set s 12 0x00) 13 0x40

-- carrying keeps the number, and makes a good record of a good one
pub renewed_number : (r : NumberRecord) → number_of (renewed r) ≡ number_of r
renewed_number (ConsoleOld j) = refl
renewed_number (ControllerOld i) = refl
renewed_number (Console j b) = refl
renewed_number (Controller i b) = refl

pub renewed_end : (r : NumberRecord) → end_of (renewed r) ≡ end_of r
renewed_end (ConsoleOld j) = refl
renewed_end (ControllerOld i) = refl
renewed_end (Console j b) = refl
renewed_end (Controller i b) = refl

aged_number : (r : NumberRecord) → number_of (aged r) ≡ number_of r
aged_number (ConsoleOld j) = refl
aged_number (ControllerOld i) = refl
aged_number (Console j b) = refl
aged_number (Controller i b) = refl

pub renewed_good : (r : NumberRecord) → is_good r ≡ true → is_good (renewed r) ≡ true
renewed_good (ConsoleOld j) g = refl
renewed_good (ControllerOld i) g = refl
renewed_good (Console j b) g = g
renewed_good (Controller i b) g = g

pub aged_good : (r : NumberRecord) → is_good (aged r) ≡ true
aged_good (ConsoleOld j) = refl
aged_good (ControllerOld i) = refl
aged_good (Console j b) = refl
aged_good (Controller i b) = refl

pub renewed_new : (r : NumberRecord) → is_old (renewed r) ≡ false
renewed_new (ConsoleOld j) = refl
renewed_new (ControllerOld i) = refl
renewed_new (Console j b) = refl
renewed_new (Controller i b) = refl

pub aged_old : (r : NumberRecord) → is_old (aged r) ≡ true
aged_old (ConsoleOld j) = refl
aged_old (ControllerOld i) = refl
aged_old (Console j b) = refl
aged_old (Controller i b) = refl

pub renewed_block : (r : NumberRecord) → is_good r ≡ true → is_block (block_of (renewed r)) ≡ true
renewed_block r g = rw (renewed_new r) at (renewed_good r g)

pub renewed_read : (r : NumberRecord) → number_of r < 2 ^ 32 → is_good r ≡ true → record_read (record_bytes (renewed r)) ≡ Ok (renewed r)
renewed_read r t g = record_read_back (renewed r) (rw (renewed_number r) t) (renewed_good r g)

pub aged_read : (r : NumberRecord) → number_of r < 2 ^ 32 → record_read (record_bytes (aged r)) ≡ Ok (aged r)
aged_read r t = record_read_back (aged r) (rw (aged_number r) t) (aged_good r)

-- ## Old to new to old

aged_renewed : (r : NumberRecord) → is_old r ≡ true → aged (renewed r) ≡ r
aged_renewed (ConsoleOld j) o = refl
aged_renewed (ControllerOld i) o = refl
aged_renewed (Console j b) o = absurd (false≢true o)
aged_renewed (Controller i b) o = absurd (false≢true o)

module _ (s : List ℕ) (bytes : Bytes s) {r : NumberRecord} (read : record_read s ≡ Ok r) (old : is_old r ≡ true) where
  pub old_new : Carried renewed s (record_bytes (renewed r))
  old_new = record { from = r; accepted = read; to = refl }

  pub old_new_old : Carried aged (record_bytes (renewed r)) s
  old_new_old =
      let l = loaded s bytes read in
      record { from = renewed r; accepted = renewed_read r l.typed l.good; to = sym (ap record_bytes (aged_renewed r old) ∙ l.same) }

-- ## New to old to new

renewed_aged : (r : NumberRecord) → is_old r ≡ false → record_bytes (renewed (aged r)) ≡ with_64 (record_bytes r)
unfolding record_bytes bytes_of chosen
renewed_aged (ConsoleOld j) o = absurd (true≢false o)
renewed_aged (ControllerOld i) o = absurd (true≢false o)
renewed_aged (Console j b) o = refl
renewed_aged (Controller i b) o = refl

same_64 : (r : NumberRecord) → is_old r ≡ false → block_of r ≡ 64 → with_64 (record_bytes r) ≡ record_bytes r
unfolding record_bytes bytes_of chosen
same_64 (ConsoleOld j) o e = absurd (true≢false o)
same_64 (ControllerOld i) o e = absurd (true≢false o)
same_64 (Console j b) o e = rw e
same_64 (Controller i b) o e = rw e

module _ (s : List ℕ) (bytes : Bytes s) {r : NumberRecord} (read : record_read s ≡ Ok r) (new : is_old r ≡ false) where
  pub new_old : Carried aged s (record_bytes (aged r))
  new_old = record { from = r; accepted = read; to = refl }

  pub new_old_new : Carried renewed (record_bytes (aged r)) (with_64 s)
  new_old_new =
      let l = loaded s bytes read in
      record { from = aged r; accepted = aged_read r l.typed; to = sym (renewed_aged r new ∙ ap with_64 l.same) }

  -- and so, where the block is 64, the very same bytes
  pub block_64_same : block_of r ≡ 64 → with_64 s ≡ s
  block_64_same e = let l = loaded s bytes read in ap with_64 (sym l.same) ∙ same_64 r new e ∙ l.same
