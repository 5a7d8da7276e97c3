-- Taking a record out: the later ones moved down, then the freed last place cleared.
use Rattle.std.proofs.Common.{ℕ, ◌+◌, ◌-◌, ◌*◌, ◌≤◌, ◌<◌, ◌≡◌, sym, ap, ◌∙◌, List, ◌++◌, append_assoc, arith, ne_eqb, le-leb, lt-ltb, le-ltb, length, take, drop, replicate, length-drop, length-take-le, take_all, take-add, take_at, drop_at, drop-drop}
use Rattle.std.proofs.lemmas.Bool.{lt-leb}
use borrow.Rule.Slice.PartMut.{Post-is, same_len_mid}
use lib.Seq.{length-paste}
use Rattle.std.specs.List.{copy_within}
use Rattle.std.proofs.lemmas.List.{drop-take, take-append-le}
use Rattle.std.proofs.lemmas.Slice.{drop-put_mid}
use Rattle.ground.specs.Choice.{chosen}
use Rattle.ground.specs.Bytes.{field}
use Rattle.tables.specs.Table.{cleared, taken_out}
use Rattle.tables.proofs.LentParts.{part, replaced, part_length}

-- the part from the record on with the later ones moved down, then the freed place filled with zeros
pub closed_up : (t : List ℕ) (a e : ℕ) → a + 32 ≤ e → e ≤ length t → {m y : List ℕ} → m ≡ copy_within (part t a e) 32 (length (part t a e)) 0 → y ≡ cleared (part (replaced t a e m) (e - 32) e) → replaced (replaced t a e m) (e - 32) e y ≡ take a t ++ (field t (a + 32) (e - (a + 32)) ++ (replicate 32 0 ++ drop e t))
closed_up t a e h k {m} {y} f g =
    let n = e - (a + 32) in
    let q = part t a e in
    let u = replaced t a e m in
    let later = field t (a + 32) n in
    let l = part_length t a e k in
    let i : 32 + n ≡ e - a = omega (arith, h) in
    let j : length q - 32 ≡ n = omega (arith, h, l) in
    let few : length later ≡ n = length-take-le n (drop (a + 32) t) (omega (arith, h, k, length-drop (a + 32) t)) in
    let moved : drop 32 q ≡ later = rw (← i, drop-take 32 n (drop a t), drop-drop 32 a t) in
    let front : take n m ≡ later = rw (f, j, moved, take_all n later (omega (arith, few)), take_at later (drop (0 + n) q) n few) in
    let long : length m ≡ e - a = ap length f ∙ length-paste q 0 (drop 32 q) (length q - 32) (omega (arith, l, h)) (omega (arith, length-drop 32 q)) ∙ l in
    let whole = same_len_mid a (e - a) t m (long ∙ sym l) in
    let freed : length (part u (e - 32) e) ≡ 32 = part_length u (e - 32) e (omega (arith, k, whole)) ∙ omega (arith, h) in
    let c = length-take-le a t (omega (arith, h, k)) in
    let d : e - 32 ≡ a + n = omega (arith, h) in
    let before : take (e - 32) u ≡ take a t ++ take n m = rw (d, take-add a n u, take_at (take a t) _ a c, drop_at (take a t) _ a c, take-append-le n m _ (omega (arith, long))) in
    rw (g, freed, Post-is (e - 32) e u (omega arith), before, front, drop-put_mid a (e - a) t m e (omega (arith, h)) (omega (arith, h, k)) long)
    (append_assoc (take a t) later (replicate 32 0 ++ drop e t))

-- what is left of a table: it is none, the count is too great, the place isn't there, and it is done
module _ (t : List ℕ) (count place : ℕ) where
  pub out_short : (length t ≡ 2048 → ⊥) → t ≡ taken_out t count place
  unfolding taken_out chosen
  out_short h = rw (ne_eqb (length t) 2048 h)

  pub out_many : length t ≡ 2048 → 64 < count → t ≡ taken_out t count place
  unfolding taken_out chosen
  out_many l h = rw (l, lt-leb count 64 h)

  pub out_none : length t ≡ 2048 → count ≤ 64 → count ≤ place → t ≡ taken_out t count place
  unfolding taken_out chosen
  out_none l h k = rw (l, le-leb count 64 h, le-ltb place count k)

  pub out_done : {m y : List ℕ} → length t ≡ 2048 → count ≤ 64 → place < count → m ≡ copy_within (part t (place * 32) (count * 32)) 32 (length (part t (place * 32) (count * 32))) 0 → y ≡ cleared (part (replaced t (place * 32) (count * 32) m) (count * 32 - 32) (count * 32)) → replaced (replaced t (place * 32) (count * 32) m) (count * 32 - 32) (count * 32) y ≡ taken_out t count place
  unfolding taken_out chosen
  out_done l h k e f =
      rw (l, le-leb count 64 h, lt-ltb place count k)
      (closed_up t (place * 32) (count * 32) (omega (arith, k)) (omega (arith, l, h)) e f)

pub ruleset takes = (out_short, out_many, out_none, out_done)
