-- The scans of a table.
use Prim.Native.Nat.{ℕ, suc, ◌+◌, ◌-◌, ◌*◌, ◌/◌, ◌≤◌, ◌<◌}
use mathlib.Core.Path.{◌≡◌, sym, ◌∙◌}
use mathlib.Core.List.{List, []}
use mathlib.Core.Bool.{Bool, true, false, ◌&&◌}
use native.Mathlib.Omega.{arith}
use borrow.Author.Tests.{ne_eqb, le-leb, lt-leb, leb-true}
use lib.ListN.{length, take, drop, length-take, length-drop}
use lib.Seq.{drop-drop}
use lib.Dec.{leb}
use Rattle.std.specs.Prelude.{Result}
use Rattle.ground.specs.Choice.{chosen}
use Rattle.ground.specs.declared.refusals.Refusal.{Refusal}
use Rattle.ground.specs.Every.{filled}
use Rattle.ground.proofs.Tests.{by_test}
use Rattle.wire.specs.declared.Direction.{Direction}
use Rattle.wire.specs.declared.Head.{Head}
use Rattle.wire.specs.declared.Packet.{Packet}
use Rattle.wire.specs.Packet.{head_read, packet_read}
use Rattle.ground.proofs.Copies.{rest_lent}
use Rattle.wire.proofs.Reading.{read_length, refused_beside}
use Rattle.tables.specs.Table.{bytes_at}
use Rattle.channels.specs.Table.{head_at, lent_at, packet_at, heads_pass, places_ok, table_ok}

-- a place of the table, and one that isn't there
module _ (t : List ℕ) (place : ℕ) where
  no_place : leb (length t / 32) place ≡ true → length (bytes_at t place) ≡ 32 → ⊥
  no_place y z =
      let l = length-take 32 (drop (place * 32) t) in
      let d = length-drop (place * 32) t in
      omega (arith, leb-true (length t / 32) place y, l, d, z)

  no_bytes : length {A = ℕ} [] ≡ 32 → ⊥
  no_bytes z = omega (arith, z)

  pub lent_head : {r : Result Head Refusal} → r ≡ head_read (lent_at t place) → r ≡ head_at t place
  unfolding head_at lent_at chosen
  lent_head e =
      e
      ∙ by_test (leb (length t / 32) place)
      (λ y. rw y (sym (read_length [] no_bytes) ∙ read_length (bytes_at t place) (no_place y)))
      (λ n. rw n)

  pub lent_packet : {r : Result Packet Refusal} → r ≡ packet_read (lent_at t place) → r ≡ packet_at t place
  unfolding packet_at lent_at chosen
  lent_packet e =
      e
      ∙ by_test (leb (length t / 32) place)
      (λ y. rw y (sym (refused_beside [] (read_length [] no_bytes)) ∙ refused_beside (bytes_at t place) (read_length (bytes_at t place) (no_place y))))
      (λ n. rw n)

-- a scan of the places from the i-th of n on, where what is left decides as x does: one that passes, one that doesn't, and the end
module _ (test : Result Head Refusal → Bool) (t : List ℕ) (n i : ℕ) {x : Bool} (known : x ≡ heads_pass test (n - i) (drop (i * 32) t)) where
  place_step : i < n → heads_pass test (n - i) (drop (i * 32) t) ≡ (test (head_at t i) && heads_pass test (n - (i + 1)) (drop ((i + 1) * 32) t))
  unfolding heads_pass head_at
  place_step h =
      let e : n - i ≡ suc (n - (i + 1)) = omega (arith, h) in
      let g : (i + 1) * 32 ≡ i * 32 + 32 = omega arith in
      rw (e, g, drop-drop 32 (i * 32) t)

  pub place_on : {r : Result Head Refusal} {g : Bool} → i < n → r ≡ head_at t i → g ≡ test r → g ≡ true → x ≡ heads_pass test (n - (i + 1)) (drop ((i + 1) * 32) t)
  place_on h e f y = known ∙ place_step h ∙ rw (← e, ← f, y)

  pub place_off : {r : Result Head Refusal} {g : Bool} → i < n → r ≡ head_at t i → g ≡ test r → g ≡ false → false ≡ x
  place_off h e f y = sym (known ∙ place_step h ∙ rw (← e, ← f, y))

  pub place_end : n ≤ i → true ≡ x
  unfolding heads_pass
  place_end h = let e : n - i ≡ 0 = omega (arith, h) in sym (known ∙ rw e)

-- the test of a table
module _ (dir : Direction) (n : ℕ) (t : List ℕ) where
  pub table_short : (length t ≡ 2048 → ⊥) → false ≡ table_ok dir n t
  unfolding table_ok
  table_short h = rw (ne_eqb (length t) 2048 h)

  pub table_many : length t ≡ 2048 → 64 < n → false ≡ table_ok dir n t
  unfolding table_ok
  table_many l h = rw (l, lt-leb n 64 h)

  pub table_wrong : {p : Bool} → length t ≡ 2048 → n ≤ 64 → p ≡ places_ok dir n t → p ≡ false → false ≡ table_ok dir n t
  unfolding table_ok
  table_wrong l h e f = rw (l, le-leb n 64 h, ← e, f)

  pub table_is : {p r : Bool} → length t ≡ 2048 → n ≤ 64 → p ≡ places_ok dir n t → p ≡ true → r ≡ filled 0 (take (length t - n * 32) (drop (n * 32) t)) → r ≡ table_ok dir n t
  unfolding table_ok
  table_is l h e y f = f ∙ rw (rest_lent t (n * 32), l, le-leb n 64 h, ← e, y)

pub ruleset table_tests = (table_short, table_many, table_wrong, table_is)
