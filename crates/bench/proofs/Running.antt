-- The runner's loop: the lines that are written, and those that are to come.
use Prim.Native.Nat.{ℕ, zero, suc, ◌+◌, ◌-◌, ◌*◌, ◌/◌, ◌≤◌, ◌<◌, min}
use mathlib.Core.Path.{◌≡◌, refl, sym, ap, subst, ◌∙◌}
use mathlib.Core.List.{List, [], ◌∷◌, ◌++◌, append-nil, append_assoc}
use native.Mathlib.Omega.{arith}
use native.Mathlib.Nat.{not-suc-le-zero}
use lib.Dec.{ltb}
use lib.ListN.{length, get_or, take, drop, replicate, length-drop, length-append, take-append-drop, drop_of_length-le}
use lib.Seq.{length-take-le, take_all, take_at, drop_at, drop-drop}
use borrow.Author.Tests.{ltb-true, ltb-false}
use Rattle.ground.specs.Choice.{chosen}
use Rattle.ground.proofs.Tests.{by_test}
use Rattle.ground.specs.Cell.{is_message}
use Rattle.rules.specs.Supply.{numbering, fresh_numbers}
use Rattle.rules.specs.Bench as rules
use Rattle.rules.proofs.WellFormed.{fresh_well_formed}
use Rattle.listing.specs.Record.{record_end}
use Rattle.listing.proofs.Ending.{end_within, end_after}
use Rattle.channels.specs.Table.{packets}
use Rattle.channels.proofs.Channel.{channel_none}
use Rattle.channels.proofs.Packets.{to_controller_coded, to_console_coded}
use Rattle.bench.specs.AsRules.{bench_back}
use Rattle.tables.proofs.LentParts.{part, replaced, part_length}
use Rattle.bench.specs.Reports.{report_line}
use Rattle.bench.specs.Running.{records_of, played, lines, limit_of, list_lines, list_output, Ran, at_front, list_run}
use Rattle.bench.specs.WithNumbers.{with_numbers}
use Rattle.bench.specs.Loaded.{Well, bench_of, Played, lines_on, started}
use Rattle.bench.specs.declared.Bench.{Bench}
use Rattle.bench.specs.declared.loaded.Loaded.{Loaded}

-- ## Records

records_next : (m : ℕ) (s : List ℕ) → 0 < length s → records_of (suc m) s ≡ take 21 s ∷ records_of m (drop 21 s)
unfolding records_of
records_next m [] h = absurd (not-suc-le-zero h)
records_next m (x ∷ s) h = refl

records_none : (m : ℕ) → records_of m [] ≡ []
unfolding records_of
records_none zero = refl
records_none (suc m) = refl

-- the record that begins at a place
pub record_is : (s : List ℕ) (start : ℕ) {end : ℕ} → start < length s → end ≡ record_end start (length s) → part s start end ≡ take 21 (drop start s)
unfolding record_end chosen
record_is s start h e =
    let l = length-drop start s in
    by_test (ltb (length s) (start + 21))
    (λ y.
    let k = ltb-true (length s) (start + 21) y in
    let f = rw y at e in
    rw f (take_all (length s - start) (drop start s) (omega (arith, l)) ∙ sym (take_all 21 (drop start s) (omega (arith, l, k)))))
    (λ n.
    let f = rw n at e in
    let g : start + 21 - start ≡ 21 = omega arith in
    rw (f, g))

pub record_some : (s : List ℕ) (start end : ℕ) → start < length s → end ≡ record_end start (length s) → 0 < length (part s start end)
record_some s start end h e =
    let l = part_length s start end (end_within start (length s) e) in
    let k = end_after start (length s) e h in
    omega (arith, l, k)

pub line_long : (output : List ℕ) (n limit room : ℕ) → n < limit → limit * 27 ≤ room → length output ≡ room → length (part output (n * 27) (n * 27 + 27)) ≡ 27
line_long output n limit room h r l = part_length output (n * 27) (n * 27 + 27) (omega (arith, h, r, l)) ∙ omega arith

-- ## The limit

pub limit_is : (room : ℕ) → min (room / 27) 9999 ≡ limit_of room
unfolding limit_of chosen
limit_is room =
    by_test (ltb 9999 (room / 27))
    (λ y. let k = ltb-true 9999 (room / 27) y in rw y (omega (arith, k)))
    (λ n. let k = ltb-false 9999 (room / 27) n in rw n (omega (arith, k)))

pub limit_fits : (room : ℕ) → (limit_of room * 27 ≤ room) × (limit_of room ≤ 9999)
unfolding limit_of chosen
limit_fits room =
    by_test (ltb 9999 (room / 27)) (λ y. let k = ltb-true 9999 (room / 27) y in rw y (omega (arith, k), omega arith))
    (λ n. let k = ltb-false 9999 (room / 27) n in rw n (omega (arith, k), omega (arith, k)))

pub limit_low : (room : ℕ) {limit : ℕ} → limit ≡ limit_of room → limit ≤ 9999
limit_low room e = let p = (limit_fits room).1 in omega (arith, p, e)

pub limit_roomy : (room : ℕ) {limit : ℕ} → limit ≡ limit_of room → limit * 27 ≤ room
limit_roomy room e = let p = (limit_fits room).0 in omega (arith, p, e)

-- ## The loop

-- what is written, and what is to come
abbrev pub Along : List ℕ → List ℕ → List ℕ → ℕ → ℕ → Loaded → List ℕ → List ℕ → List ℕ → Type 0
Along all input before limit n b output out back =
    (length output ≡ length before) × (drop (n * 27) output ≡ drop (n * 27) before) × (all ≡ take (n * 27) output ++ lines (n + 1) (bench_of b) out back (records_of (limit - n) (drop (n * 21) input)))

pub along_first : (b : Loaded) (input before out back : List ℕ) {limit : ℕ} → limit ≡ limit_of (length before) → Along (lines_on b out back input (length before)) input before limit 0 b before out back
unfolding lines_on
along_first b input before out back {limit} e =
    (refl, refl, ap (λ (m : ℕ). lines 1 (bench_of b) out back (records_of m input)) (sym e ∙ omega arith))

lines_next : (k : ℕ) (b : Bench) (out back s : List ℕ) (ss : List (List ℕ)) → lines k b out back (s ∷ ss)
    ≡ report_line k (get_or s 0 0) (played b out back s).outcome.report (played b out back s).outcome.message ++ lines (k + 1) (played b out back s).outcome.bench (played b out back s).out (played b out back s).back ss
unfolding lines
lines_next k b out back s ss =
    let r = played b out back s in
    let f : suc k ≡ k + 1 = omega arith in
    ap (λ (m : ℕ). report_line k (get_or s 0 0) r.outcome.report r.outcome.message ++ lines m r.outcome.bench r.out r.back ss) f

module _ (all input before output : List ℕ) (limit n : ℕ) (b : Loaded) (out back : List ℕ) where
  abbrev s : List ℕ
  s = take 21 (drop (n * 21) input)

  come : n < limit → n * 21 < length input → records_of (limit - n) (drop (n * 21) input) ≡ s ∷ records_of (limit - (n + 1)) (drop ((n + 1) * 21) input)
  come h k =
      let l = length-drop (n * 21) input in
      let f : limit - n ≡ suc (limit - (n + 1)) = omega (arith, h) in
      let g : n * 21 + 21 ≡ (n + 1) * 21 = omega arith in
      ap (λ (m : ℕ). records_of m (drop (n * 21) input)) f ∙ records_next (limit - (n + 1)) (drop (n * 21) input) (omega (arith, l, k))
      ∙ ap (λ (x : List ℕ). s ∷ records_of (limit - (n + 1)) x) (drop-drop 21 (n * 21) input ∙ ap (λ (m : ℕ). drop m input) g)

  pub along_next : {after : Loaded} {line out' back' : List ℕ} → Along all input before limit n b output out back → n < limit → limit * 27 ≤ length before → n * 21 < length input
      → Played b out back s (n + 1) after line out' back' → length line ≡ 27
      → Along all input before limit (n + 1) after (replaced output (n * 27) (n * 27 + 27) line) out' back'
  along_next {after} {line} {out'} {back'} v h r k p l =
      let a = take (n * 27) output in
      let z = drop 27 (drop (n * 27) output) in
      let d : n * 27 + 27 - n * 27 ≡ 27 = omega arith in
      let whole : replaced output (n * 27) (n * 27 + 27) line ≡ a ++ (line ++ z) = ap (λ (m : ℕ). a ++ (line ++ drop m (drop (n * 27) output))) d in
      let la : length a ≡ n * 27 = length-take-le (n * 27) output (omega (arith, v.0, h, r)) in
      let lz = length-drop 27 (drop (n * 27) output) in
      let lo = length-drop (n * 27) output in
      let l₁ = length-append a (line ++ z) in
      let l₂ = length-append line z in
      let l₃ = length-append a line in
      let g : (n + 1) * 27 ≡ n * 27 + 27 = omega arith in
      let front : length (a ++ line) ≡ (n + 1) * 27 = omega (arith, l₃, la, l) in
      let split : a ++ (line ++ z) ≡ (a ++ line) ++ z = sym (append_assoc a line z) in
      let taken : take ((n + 1) * 27) (a ++ (line ++ z)) ≡ a ++ line = ap (take ((n + 1) * 27)) split ∙ take_at (a ++ line) z ((n + 1) * 27) front in
      let dropped : drop ((n + 1) * 27) (a ++ (line ++ z)) ≡ z = ap (drop ((n + 1) * 27)) split ∙ drop_at (a ++ line) z ((n + 1) * 27) front in
      let rest : z ≡ drop ((n + 1) * 27) before = ap (drop 27) v.1 ∙ drop-drop 27 (n * 27) before ∙ ap (λ (m : ℕ). drop m before) (sym g) in
      let w = played (bench_of b) out back s in
      let more : lines (n + 1) (bench_of b) out back (records_of (limit - n) (drop (n * 21) input))
      ≡ line ++ lines (n + 1 + 1) (bench_of after) out' back' (records_of (limit - (n + 1)) (drop ((n + 1) * 21) input)) =
      ap (lines (n + 1) (bench_of b) out back) (come h k)
      ∙ lines_next (n + 1) (bench_of b) out back s (records_of (limit - (n + 1)) (drop ((n + 1) * 21) input))
      ∙ (λ i. sym p.written i ++ lines (n + 1 + 1) (sym p.bench_is i) (sym p.out_is i) (sym p.back_is i) (records_of (limit - (n + 1)) (drop ((n + 1) * 21) input))) in (
        ap length whole ∙ omega (arith, l₁, l₂, lz, lo, la, l, v.0, h, r),
        ap (drop ((n + 1) * 27)) whole ∙ dropped ∙ rest,
        v.2 ∙ ap (λ (x : List ℕ). a ++ x) more
            ∙ sym (append_assoc a line (lines (n + 1 + 1) (bench_of after) out' back' (records_of (limit - (n + 1)) (drop ((n + 1) * 21) input))))
            ∙ ap (λ (x : List ℕ). x ++ lines (n + 1 + 1) (bench_of after) out' back' (records_of (limit - (n + 1)) (drop ((n + 1) * 21) input))) (sym taken ∙ ap (take ((n + 1) * 27)) (sym whole)),
      )

  pub along_turn : {end : ℕ} {after : Loaded} {line out' back' : List ℕ} → Along all input before limit n b output out back → n < limit → limit * 27 ≤ length before → n * 21 < length input
      → end ≡ record_end (n * 21) (length input) → Played b out back (part input (n * 21) end) (n + 1) after line out' back' → length line ≡ 27
      → Along all input before limit (n + 1) after (replaced output (n * 27) (n * 27 + 27) line) out' back'
  along_turn {end} {after} {line} {out'} {back'} v h r k e p l =
      along_next v h r k (subst (λ (x : List ℕ). Played b out back x (n + 1) after line out' back') (record_is input (n * 21) k e) p) l

  -- no record is left
  over : records_of (limit - n) (drop (n * 21) input) ≡ [] → Along all input before limit n b output out back → n ≤ limit → limit * 27 ≤ length before → ◌≡◌ {A = Ran} (record { number = n * 27; output = output }) (at_front all before)
  unfolding lines
  over e v h r =
      let la : length (take (n * 27) output) ≡ n * 27 = length-take-le (n * 27) output (omega (arith, v.0, h, r)) in
      let same : all ≡ take (n * 27) output = v.2 ∙ ap (λ (x : List (List ℕ)). take (n * 27) output ++ lines (n + 1) (bench_of b) out back x) e ∙ append-nil (take (n * 27) output) in
      let number : n * 27 ≡ length all = sym la ∙ ap length (sym same) in
      let whole : output ≡ all ++ drop (length all) before = sym (take-append-drop (n * 27) output) ∙ (λ i. sym same i ++ v.1 i) ∙ ap (λ (m : ℕ). all ++ drop m before) number in
      λ i. record { number = number i; output = whole i }

  pub over_limit : limit ≤ n → n ≤ limit → Along all input before limit n b output out back → limit * 27 ≤ length before → ◌≡◌ {A = Ran} (record { number = limit * 27; output = output }) (at_front all before)
  unfolding records_of
  over_limit q h v r =
      let f : limit - n ≡ 0 = omega (arith, q) in
      let same : limit ≡ n = omega (arith, q, h) in
      (λ i. record { number = same i * 27; output = output }) ∙ over (ap (λ (m : ℕ). records_of m (drop (n * 21) input)) f) v h r

  pub over_input : length input ≤ n * 21 → Along all input before limit n b output out back → n ≤ limit → limit * 27 ≤ length before → ◌≡◌ {A = Ran} (record { number = n * 27; output = output }) (at_front all before)
  over_input q v h r = over (ap (records_of (limit - n)) (drop_of_length-le input {i = n * 21} q) ∙ records_none (limit - n)) v h r

-- ## From a fresh bench

pub starts_known : {b : Loaded} (out back : List ℕ) → b ≡ started → out ≡ replicate 2048 0 → back ≡ replicate 2048 0 → Well b out back
unfolding with_numbers packets rules.fresh
starts_known out back e f g =
    subst (λ (x : Loaded). Well x out back) (sym e)
    (record { well_formed = fresh_well_formed numbering is_message (fresh_numbers 0) (fresh_numbers 0) refl refl; out_holds = f ∙ sym (channel_none to_controller_coded); back_holds = g ∙ sym (channel_none to_console_coded) })

pub starts_run : (b : Loaded) (out back input before after : List ℕ) {n : ℕ} → b ≡ started → out ≡ replicate 2048 0 → back ≡ replicate 2048 0
    → record { number = n; output = after } ≡ at_front (lines_on b out back input (length before)) before → record { number = n; output = after } ≡ list_run input before
unfolding lines_on list_lines list_run bench_back rules.fresh
starts_run b out back input before after {n} e f g h =
    h ∙ λ i. at_front (lines 1 (bench_of (e i)) (f i) (g i) (records_of (limit_of (length before)) input)) before

-- what is given is within the output
pub ran_fits : (input before after : List ℕ) {n : ℕ} → record { number = n; output = after } ≡ list_run input before → n ≤ length after
unfolding list_run
ran_fits input before after {n} h =
    let all = list_lines (limit_of (length before)) input in
    let a : length after ≡ length (all ++ drop (length all) before) = ap (λ (r : Ran). length r.output) h in
    let b = length-append all (drop (length all) before) in
    let c : n ≡ length all = ap (λ (r : Ran). r.number) h in
    omega (arith, a, b, c)

pub ran_prefix : (input before after : List ℕ) {n : ℕ} → record { number = n; output = after } ≡ list_run input before → n ≡ length (take n after)
ran_prefix input before after {n} h = sym (length-take-le n after (ran_fits input before after h))

-- with room for 9,999 lines it is the whole output of the list program
pub whole_list : (s : List ℕ) → list_lines (limit_of 269_973) s ≡ list_output s
unfolding limit_of list_output chosen
whole_list s = refl
