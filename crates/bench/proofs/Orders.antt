-- Demand 3 of the bench's own step, from the rules' theorem: the step's outcomes are those of the rules' run.
use Prim.Native.Nat.{ℕ, ◌<◌, ◌^◌}
use mathlib.Core.Path.{◌≡◌, refl, sym, ap, ap₂, subst, ◌∙◌}
use mathlib.Core.Bool.{Bool, true, false, ◌&&◌}
use mathlib.Core.Option
use mathlib.Core.Option.{Option, none, some}
use mathlib.Core.List.{List, [], ◌∷◌, map}
use lib.ListN.{length}
use borrow.Author.Tests.{eq-eqb}
use Rattle.ground.specs.Cell.{is_message}
use Rattle.ground.specs.Choice.{chosen}
use Rattle.wire.specs.declared.I.{I}
use Rattle.wire.specs.declared.J.{J}
use Rattle.rules.specs.Supply.{Numbers, numbering, fresh_numbers}
use Rattle.rules.specs.Letters.{Letter, line, letter}
use Rattle.rules.proofs.Letters.{letter_of_lem}
use Rattle.ends.specs.declared.Report.{Report}
use Rattle.rules.specs.Ends as ends
use Rattle.rules.specs.Bench as rules
use Rattle.rules.specs.Log.{Labelled, Log, Event}
use Rattle.rules.specs.Demand3.{write, written, unnumbered, shown, all_shown}
use Rattle.rules.specs.Reading.{Reading, read_step, read_run, read_reports, fresh_reading}
use Rattle.rules.specs.ReadLog.{RightRead}
use Rattle.rules.specs.ReadDemand3.{labelled_read_step, read_row_of, read_rows, its_answer, waits_after, lost_if_spare, firsts, spares_lost}
use Rattle.rules.specs.ReadPlain.{PlainRead}
use Rattle.rules.proofs.ReadPlain.{right_read_plain}
use Rattle.rules.proofs.ReadRows.{none_kept}
use Rattle.rules.specs.WellFormed.{WellFormed}
use Rattle.rules.proofs.Blocks.{demand3_blocks, demand3_read_messages}
use Rattle.numbers.proofs.Range.{fresh_sound}
use Rattle.rules.proofs.Supply.{numbering_lawful}
use Rattle.rules.proofs.WellFormed.{step_well_formed, fresh_well_formed}
use Rattle.ends.specs.AsRules.{report_back, delivered}
use Rattle.channels.specs.Packets.{to_controller_bytes, to_console_bytes}
use Rattle.channels.specs.Table.{channel}
use Rattle.bench.specs.AsRules.{bench_ok, bench_back}
use Rattle.bench.specs.Promise.{Result, bench_refused, bench_told, bench_step, bench_fresh, fresh_rules}
use Rattle.bench.specs.Orders.{as_rules, Rows, with_letter, lettered, spread_by, spread, rows_of, outcomes, fresh_outcomes, shown_by, all_shown_of, OrdersRight, leaves}
use Rattle.bench.specs.declared.Action.{Action}
use Rattle.bench.specs.declared.Outcome.{Outcome}
use Rattle.bench.proofs.BenchStands.{stands_ok, stands_for}

-- ## One step

abbrev pub Here : Type 0
Here = Reading (rules.Bench Numbers (List ℕ))

abbrev pub out : Here → List ℕ
out b = channel to_controller_bytes b.history.to_controller

abbrev pub back : Here → List ℕ
back b = channel to_console_bytes b.history.to_console

-- where the rules' bench stands, the promise's step is the rules' step
pub step_of : (b : Here) → WellFormed numbering is_message b.history → (a : Action) (l : Letter) → letter a.letter ≡ some l
    → bench_step (bench_back b) a (out b) (back b) ≡ bench_told (read_step numbering is_message b (as_rules l a))
unfolding bench_step chosen
step_of b w a l e = rw (e, stands_ok b w, stands_for b w)

pub step_none : (b : Here) (a : Action) → letter a.letter ≡ none → bench_step (bench_back b) a (out b) (back b) ≡ bench_refused 1 (bench_back b) (out b) (back b)
unfolding bench_step
step_none b a e = rw e

pub next_ok : (b : Here) (a : rules.Action (List ℕ)) → WellFormed numbering is_message b.history → WellFormed numbering is_message (read_step numbering is_message b a).after.history
unfolding read_step
next_ok b a w = step_well_formed numbering numbering_lawful is_message b.history a w

-- well-formedness is kept: what a step leaves passes the check again
pub step_keeps : (b : Here) → WellFormed numbering is_message b.history → (a : Action) (l : Letter) → letter a.letter ≡ some l
    → let r = bench_step (bench_back b) a (out b) (back b) in bench_ok r.outcome.bench r.out r.back ≡ true
unfolding bench_told
step_keeps b w a l e =
    let o = read_step numbering is_message b (as_rules l a) in
    ap (λ (r : Result). bench_ok r.outcome.bench r.out r.back) (step_of b w a l e) ∙ stands_ok o.after (next_ok b (as_rules l a) w)

-- what the outcome shows is what the rules' report shows
same_shown : (a : Action) (l : Letter) → letter a.letter ≡ some l → (r : ends.Report (List ℕ)) → shown_by a (report_back r) (delivered r) ≡ shown (as_rules l a) r
same_shown a l e ends.nothing = rw e
same_shown a l e (ends.delivered m) = refl
same_shown a l e ends.answered_ok = refl
same_shown a l e ends.answered_lost = refl
same_shown a l e (ends.refused n) = refl

-- ## What the outcomes show is what the rules' run shows, spread over the actions

-- what follows a result
abbrev after : Action → List Action → Result → Rows
after a l r = shown_by a r.outcome.report r.outcome.message ∷ all_shown_of l (outcomes r.outcome.bench r.out r.back l)

abbrev seen : Here → List Action → Rows
seen b l = all_shown_of l (outcomes (bench_back b) (out b) (back b) l)

abbrev ruled : Here → List (rules.Action (List ℕ)) → Rows
ruled b l = all_shown l (read_reports numbering is_message b l)

all_seen : (b : Here) → WellFormed numbering is_message b.history → (l : List Action) → seen b l ≡ spread l (ruled b (lettered l))
unfolding outcomes all_shown_of lettered spread bench_refused bench_told read_reports all_shown
all_seen b w [] = refl
all_seen b w (a ∷ l) = one (letter a.letter) refl (λ c v. all_seen c v l)
  where
    one : (o : Option Letter) → letter a.letter ≡ o → ((c : Here) → WellFormed numbering is_message c.history → seen c l ≡ spread l (ruled c (lettered l)))
        → after a l (bench_step (bench_back b) a (out b) (back b)) ≡ spread_by o (ruled b (with_letter o a (lettered l))) (λ rest. spread l rest)
    one none e more = ap (after a l) (step_none b a e) ∙ ap (λ (x : Rows). none ∷ x) (more b w)
    one (some x) e more =
        let o = read_step numbering is_message b (as_rules x a) in
        ap (after a l) (step_of b w a x e)
        ∙ ap₂ (λ (y : Option (Event (List ℕ))) (z : Rows). y ∷ z) (same_shown a x e o.report) (more o.after (next_ok b (as_rules x a) w))

-- ## Rows that are spread

-- one for each letter
abbrev FillsBy : Option Letter → Rows → (Rows → Type 0) → Type 0
FillsBy none os more = more os
FillsBy (some x) [] more = ⊥
FillsBy (some x) (o ∷ os) more = more os

Fills : List Action → Rows → Type 0
Fills [] [] = Unit {0}
Fills [] (o ∷ os) = ⊥
Fills (a ∷ l) os = FillsBy (letter a.letter) os (Fills l)

module _ (f : Option (Event (List ℕ)) → Option (Event (List ℕ))) (f-none : f none ≡ none) where
  map_spread : (l : List Action) (os : Rows) → map f (spread l os) ≡ spread l (map f os)
  unfolding spread
  map_spread [] os = refl
  map_spread (a ∷ l) os = one (letter a.letter) os (map_spread l)
    where
      one : (o : Option Letter) (os : Rows) → ((rest : Rows) → map f (spread l rest) ≡ spread l (map f rest))
          → map f (spread_by o os (λ rest. spread l rest)) ≡ spread_by o (map f os) (λ rest. spread l rest)
      one none os more = ap₂ (λ (y : Option (Event (List ℕ))) (z : Rows). y ∷ z) f-none (more os)
      one (some x) [] more = ap₂ (λ (y : Option (Event (List ℕ))) (z : Rows). y ∷ z) f-none (more [])
      one (some x) (o ∷ os) more = ap (λ (z : Rows). f o ∷ z) (more os)

firsts_spread : (waits : Bool) (l : List Action) (os : Rows) → firsts waits (spread l os) ≡ spread l (firsts waits os)
unfolding spread firsts
firsts_spread waits [] os = refl
firsts_spread waits (a ∷ l) os = one (letter a.letter) os (λ w rest. firsts_spread w l rest)
  where
    one : (o : Option Letter) (os : Rows) → ((w : Bool) (rest : Rows) → firsts w (spread l rest) ≡ spread l (firsts w rest))
        → firsts waits (spread_by o os (λ rest. spread l rest)) ≡ spread_by o (firsts waits os) (λ rest. spread l rest)
    one none os more = ap₂ (λ (y : Option (Event (List ℕ))) (z : Rows). y ∷ z) (none_kept waits) (more waits os)
    one (some x) [] more = ap₂ (λ (y : Option (Event (List ℕ))) (z : Rows). y ∷ z) (none_kept waits) (more waits [])
    one (some x) (o ∷ os) more = ap (λ (z : Rows). its_answer waits o ∷ z) (more (waits_after waits o) os)

written_spread : (l : List Action) (os : Rows) (past : Log (List ℕ)) → Fills l os → written (spread l os) past ≡ written os past
unfolding spread written Fills
written_spread [] [] past h = refl
written_spread [] (o ∷ os) past h = absurd h
written_spread (a ∷ l) os past h = one (letter a.letter) os h (λ rest p k. written_spread l rest p k)
  where
    one : (o : Option Letter) (os : Rows) → FillsBy o os (Fills l) → ((rest : Rows) (p : Log (List ℕ)) → Fills l rest → written (spread l rest) p ≡ written rest p)
        → written (spread_by o os (λ rest. spread l rest)) past ≡ written os past
    one none os h more = more os past h
    one (some x) [] h more = absurd h
    one (some x) (o ∷ os) h more = more os (write o past) h

spares_spread : (waits : Bool) (l : List Action) (os : Rows) → Fills l os → spares_lost waits (spread l os) ≡ spares_lost waits os
unfolding spread spares_lost Fills
spares_spread waits [] [] h = refl
spares_spread waits [] (o ∷ os) h = absurd h
spares_spread waits (a ∷ l) os h = one (letter a.letter) os h (λ w rest k. spares_spread w l rest k)
  where
    one : (o : Option Letter) (os : Rows) → FillsBy o os (Fills l) → ((w : Bool) (rest : Rows) → Fills l rest → spares_lost w (spread l rest) ≡ spares_lost w rest)
        → spares_lost waits (spread_by o os (λ rest. spread l rest)) ≡ spares_lost waits os
    one none os h more = more waits os h
    one (some x) [] h more = absurd h
    one (some x) (o ∷ os) h more = ap (λ (z : Bool). lost_if_spare waits o && z) (more (waits_after waits o) os h)

rows_fill : (past : Log (List ℕ)) (r : Reading (rules.Bench Numbers (Labelled (List ℕ)))) (l : List Action) → Fills l (read_rows numbering is_message past r (lettered l))
unfolding lettered read_rows Fills
rows_fill past r [] = tt
rows_fill past r (a ∷ l) = one (letter a.letter) (λ p c. rows_fill p c l)
  where
    one : (o : Option Letter) → ((p : Log (List ℕ)) (c : Reading (rules.Bench Numbers (Labelled (List ℕ)))) → Fills l (read_rows numbering is_message p c (lettered l)))
        → FillsBy o (read_rows numbering is_message past r (with_letter o a (lettered l))) (Fills l)
    one none more = more past r
    one (some x) more = more (write (read_row_of numbering is_message past r (as_rules x a)) past) (labelled_read_step numbering is_message past r (as_rules x a)).after

shown_fill : (b : Here) (l : List Action) → Fills l (ruled b (lettered l))
unfolding lettered read_reports all_shown Fills
shown_fill b [] = tt
shown_fill b (a ∷ l) = one (letter a.letter) (λ c. shown_fill c l)
  where
    one : (o : Option Letter) → ((c : Here) → Fills l (ruled c (lettered l))) → FillsBy o (ruled b (with_letter o a (lettered l))) (Fills l)
    one none more = more b
    one (some x) more = more (read_step numbering is_message b (as_rules x a)).after

-- ## From a fresh bench

module _ (j : J) (i : I) (out₀ back₀ : List ℕ) (p : j.0 < 2 ^ 32) (q : i.0 < 2 ^ 32) (m : length out₀ ≡ 2048) (n : length back₀ ≡ 2048) (l : List Action) where
  fresh_is : bench_fresh j i out₀ back₀ ≡ bench_told (record { report = ends.nothing; after = fresh_rules j i })
  unfolding bench_fresh chosen
  fresh_is = rw (eq-eqb (length out₀) 2048 m, eq-eqb (length back₀) 2048 n)

  fresh_ok : WellFormed numbering is_message (fresh_rules j i).history
  fresh_ok = fresh_well_formed numbering is_message (fresh_numbers j.0) (fresh_numbers i.0) (fresh_sound j.0 p) (fresh_sound i.0 q)

  abbrev acts : List (rules.Action (List ℕ))
  acts = lettered l

  abbrev numbered : Rows
  numbered = read_rows numbering is_message [] (fresh_reading (fresh_numbers j.0) (fresh_numbers i.0)) acts

  -- the outcomes show what the rules' run shows
  seen_is : all_shown_of l (fresh_outcomes j i out₀ back₀ l) ≡ spread l (ruled (fresh_rules j i) acts)
  unfolding fresh_outcomes bench_told
  seen_is = ap (λ (r : Result). all_shown_of l (outcomes r.outcome.bench r.out r.back l)) fresh_is ∙ all_seen (fresh_rules j i) fresh_ok l

  -- the step's deliveries and answers are as demand 3 says
  pub orders_right : OrdersRight j i out₀ back₀ l
  unfolding rows_of
  orders_right =
      let d = demand3_read_messages j.0 i.0 acts in
      record {
        right = subst RightRead (sym (written_spread l numbered [] (rows_fill [] _ l))) d.right;
        own = map_spread (Option.map unnumbered) refl l numbered ∙ ap (spread l) d.own ∙ sym (firsts_spread false l (ruled (fresh_rules j i) acts)) ∙ ap (firsts false) (sym seen_is);
        spare = ap (spares_lost false) seen_is ∙ spares_spread false l (ruled (fresh_rules j i) acts) (shown_fill (fresh_rules j i) l) ∙ d.spare;
        history = (demand3_blocks is_message j.0 i.0 acts).right;
      }

  -- in plain words
  pub orders_plain : PlainRead (written (rows_of j i l) [])
  orders_plain = right_read_plain (written (rows_of j i l) []) orders_right.right

-- ## The step does on any well-formed bench what the rules do

-- an action of the rules, with its letter's byte
abbrev pub coded : rules.Action (List ℕ) → Action
coded a = record { letter = (line a.letter).byte; place = a.place; copies = a.copies; message = a.message }

-- what is told: the report and the 16 cells beside it
abbrev pub told : Outcome → Report × List ℕ
told o = (o.report, o.message)

abbrev pub told_of : ends.Report (List ℕ) → Report × List ℕ
told_of r = (report_back r, delivered r)

pub reports_are : (b : Here) → WellFormed numbering is_message b.history → (l : List (rules.Action (List ℕ)))
    → map told (outcomes (bench_back b) (out b) (back b) (map coded l)) ≡ map told_of (read_reports numbering is_message b l)
unfolding outcomes read_reports bench_told
reports_are b w [] = refl
reports_are b w (a ∷ l) =
    let o = read_step numbering is_message b a in
    ap (λ (r : Result). told r.outcome ∷ map told (outcomes r.outcome.bench r.out r.back (map coded l))) (step_of b w (coded a) a.letter (letter_of_lem a.letter))
    ∙ ap (λ (rs : List (Report × List ℕ)). told_of o.report ∷ rs) (reports_are o.after (next_ok b a w) l)

pub leaves_are : (b : Here) → WellFormed numbering is_message b.history → (l : List (rules.Action (List ℕ)))
    → let c = read_run numbering is_message b l in leaves (bench_back b) (out b) (back b) (map coded l) ≡ (bench_back c, out c, back c)
unfolding leaves read_run bench_told
leaves_are b w [] = refl
leaves_are b w (a ∷ l) =
    ap (λ (r : Result). leaves r.outcome.bench r.out r.back (map coded l)) (step_of b w (coded a) a.letter (letter_of_lem a.letter))
    ∙ leaves_are (read_step numbering is_message b a).after (next_ok b a w) l
