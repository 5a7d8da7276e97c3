-- Demand 3 of two boxes over any radio as request 2 words it, for every lawful supply of numbers, any two starting records and any list of what may
-- happen: a power cut of the console takes the ack with it. Assumes nothing.
use Prim.Native.Nat.{ℕ, suc}
use mathlib.Core.Path.{◌≡◌, refl, sym, ap, subst, ◌∙◌}
use mathlib.Core.Logic.{inl, inr}
use mathlib.Core.Bool.{Bool, true, false, true≢false}
use mathlib.Core.Option.{none, map}
use mathlib.Core.List.{List, [], ◌∷◌}
use lib.Dec.{T, eqb}
use borrow.Author.Tests.{eqb-true, not-false}
use Rattle.ground.specs.Choice.{chosen}
use Rattle.ground.specs.First.{refusal, applies}
use Rattle.rules.specs.Supply.{Supply, Lawful}
use Rattle.rules.specs.Letters.{Letter, a_ack, line}
use Rattle.rules.specs.Ends.{End, ConsoleMode, holding, nothing, console_rules}
use Rattle.rules.specs.Bench.{Action, Outcome, Asked, console, controller, no_end, asks, end_rules, fresh}
use Rattle.rules.specs.Relabel.{in_action}
use Rattle.rules.specs.Log.{Labelled, labelled, ConsoleDown, ControllerDown, Log, console_up, waiting, put_count}
use Rattle.rules.specs.Demand3.{held_label, write, unnumbered, shown}
use Rattle.rules.specs.Radio.{Link, Happening, acts, kept_and_cut, cut, aired, asked, happens, start, in_happening}
use Rattle.rules.specs.Radio.{fall_of, labelled_happens, row_left}
use Rattle.rules.specs.Reading.{use_by, ack_after, Reading, Read, unread}
use Rattle.rules.specs.ReadRadio.{use_cut, use_at, read_happens, labelled_read_happens, read_row_left, read_rows_left, read_shown_of}
use Rattle.rules.specs.ReadRadio.{read_rows_shown, RadioRightRead}
use Rattle.rules.proofs.Lists.{if_holds}
use Rattle.rules.proofs.Refusals.{passed}
use Rattle.rules.proofs.Relabel.{in_asked, nat_asks}
use Rattle.rules.proofs.Demand3.{bare}
use Rattle.rules.proofs.RadioSteps.{aired_is}
use Rattle.rules.proofs.Radio.{fit, Alike, Follows, happening_follows, start_follows, in_link, bare_happens, fallen_shown}
use Rattle.rules.proofs.Readings.{Reads, ack_forgotten, start_reads}
use Rattle.rules.proofs.ReadRows.{Faithful, faithful_log, Goes, Next, still, left, Fair, action_goes, nat_use}
use Rattle.rules.proofs.ReadRows.{in_reading, in_read, nat_read}
use Rattle.rules.proofs.ReadDemand3.{found_idle, does_fair, written_fits}

-- ## A step that goes through

-- an end that is up is what it is followed by
up_same : {S Mode : Type 0} (idle : Mode) (g e : End S Mode) → Alike idle g e → e.up ≡ true → g ≡ e
up_same idle g e (inl q) u = q
up_same idle g e (inr (d, q)) u = absurd (true≢false (sym u ∙ ap (λ e. e.up) q))

module _ {S M : Type 0} (U : Supply S) (laws : Lawful S U) (good : M → Bool) where
  -- A is taken from a console that is up and holds none
  a_idle : (h : Log M) (l : Link S (Labelled M)) (x : ℕ) (m : Labelled M) → Follows U laws good h l
      → refusal (end_rules U (fit good) l.bench (asks l.bench a_ack x m)) ≡ 0 → T (console_up h) × (waiting h ≡ none)
  unfolding applies chosen line asks end_rules console_rules
  a_idle h l x m f e =
      let rules = end_rules U (fit good) l.bench (asks l.bench a_ack x m) in
      let u = not-false _ (passed rules e 4 tt) in
      let same = up_same ConsoleMode.idle f.ghost_console l.bench.console f.console u in
      found_idle U laws good h _ m.cells f.holds (ap (λ e. e.up) same ∙ u) (ap (λ e. holding e.mode) same ∙ passed rules e 6 tt)

  aired_fair : (h : Log M) (l : Link S (Labelled M)) (k : Letter) (x : ℕ) (m : Labelled M) → Follows U laws good h l
      → Fair h k (aired U (fit good) l.bench (asks l.bench k x m)).report
  aired_fair h l k x m f =
      let rules = end_rules U (fit good) l.bench (asks l.bench k x m) in
      rw (aired_is U (fit good) l.bench (asks l.bench k x m))
      (if_holds (λ (o : Outcome S (Labelled M)). Fair h k o.report) (eqb (refusal rules) 0) _ _
      (λ e. does_fair U h l.bench l.bench x 1 m k (λ q. idle k q (eqb-true (refusal rules) 0 e))) (λ e. tt))
    where
      idle : (k : Letter) → k ≡ a_ack → refusal (end_rules U (fit good) l.bench (asks l.bench k x m)) ≡ 0 → T (console_up h) × (waiting h ≡ none)
      idle k q e = a_idle h l x m f (rw q at e)

  -- ## A power cut

  fall_goes : (h p : Log M) (ack : Bool) → Reads h p ack → (x : Asked (Labelled M))
      → Goes h p (fall_of x) (fall_of x) (map unnumbered (fall_of x)) (ack_after {M = Labelled M} (use_cut x) ack nothing)
  unfolding ack_after
  fall_goes h p ack g (console act) =
      let d = left h p ack g ConsoleDown (λ k a. a) tt in record { shows = d.shows; reads = ack_forgotten d.reads tt false }
  fall_goes h p ack g (controller act) = left h p ack g ControllerDown (λ k a. a) tt
  fall_goes h p ack g no_end = still h p ack g

  -- ## The numbers taken off

  nat_cut : {N : Type 0} (f : Labelled M → N) (x : Asked (Labelled M)) → use_cut (in_asked f x) ≡ use_cut x
  nat_cut f (console act) = refl
  nat_cut f (controller act) = refl
  nat_cut f no_end = refl

  bare_asked : (n : ℕ) (l : Link S (Labelled M)) (a : Action M) → asked (in_link bare l) a ≡ in_asked bare (asked l (in_action (labelled n) a))
  bare_asked n l a = nat_asks bare U l.bench a.letter a.place (labelled n a.message)

  bare_use : (n : ℕ) (l : Link S (Labelled M)) (x : Happening M) → use_at (in_link bare l) x ≡ use_at l (in_happening (labelled n) x)
  bare_use n l (acts a) = ap use_by (bare_asked n l a) ∙ nat_use bare (asked l (in_action (labelled n) a))
  bare_use n l (kept_and_cut a) = ap use_cut (bare_asked n l a) ∙ nat_cut bare (asked l (in_action (labelled n) a))
  bare_use n l (cut a) = ap use_cut (bare_asked n l a) ∙ nat_cut bare (asked l (in_action (labelled n) a))

  -- what the boxes do is the labelled step with the numbers taken off
  bare_read_happens : (n : ℕ) (r : Reading (Link S (Labelled M))) (x : Happening M)
      → read_happens U good (in_reading (in_link bare) r) x ≡ in_read bare (in_link bare) (labelled_read_happens U good n r x)
  unfolding read_happens
  bare_read_happens n r x =
      let c = labelled_happens U good n r.history x in
      rw (bare_happens U good n r.history x, bare_use n r.history x)
      (nat_read bare (in_link bare) (use_at r.history (in_happening (labelled n) x)) r.ack c.report c.after)

  -- ## Whatever happens

  abbrev After : (h p : Log M) (r : Reading (Link S (Labelled M))) (x : Happening M) → Type 1
  After h p r x =
      Next (Follows U laws good) h p (read_row_left U good p r x) (read_shown_of U good (in_reading (in_link bare) r) x)
      (labelled_read_happens U good (suc (put_count p)) r x).after

  -- the history goes on, by whichever log the puts are counted
  followed_on : (h : Log M) (l : Link S (Labelled M)) (x : Happening M) (n : ℕ) → suc (put_count h) ≡ n → Follows U laws good h l
      → Follows U laws good (write (row_left U good n l x) h) (labelled_happens U good n l x).after
  followed_on h l x n q f =
      subst (λ n. Follows U laws good (write (row_left U good n l x) h) (labelled_happens U good n l x).after) q (happening_follows U laws good h l x f)

  cut_goes : (h p : Log M) (r : Reading (Link S (Labelled M))) (a : Action M) → Reads h p r.ack
      → let x = asked r.history (in_action (labelled (suc (put_count p))) a) in
      Goes h p (fall_of x) (fall_of x) (fall_of (asked (in_link bare r.history) a)) (ack_after {M = Labelled M} (use_cut x) r.ack nothing)
  cut_goes h p r a g =
      let n = suc (put_count p) in
      let x = asked r.history (in_action (labelled n) a) in
      subst (λ s. Goes h p (fall_of x) (fall_of x) s (ack_after {M = Labelled M} (use_cut x) r.ack nothing)) (fallen_shown U good n r.history a)
      (fall_goes h p r.ack g x)

  happening_goes : (h p : Log M) (r : Reading (Link S (Labelled M))) (x : Happening M) → Follows U laws good h r.history → Reads h p r.ack → After h p r x
  unfolding read_happens happens
  happening_goes h p r (acts a) f g =
      let n = suc (put_count p) in
      let l = r.history in
      let report = (labelled_happens U good n l (acts a)).report in
      let o = row_left U good n l (acts a) in
      let next = followed_on h l (acts a) n (ap suc g.alike.same.count) f in
      record {
        row = o;
        holds = next;
        goes =
            subst (λ s. Goes h p o (read_row_left U good p r (acts a)) s (labelled_read_happens U good n r (acts a)).after.ack)
            (ap (λ (d : Read (Link S M) M). shown a d.report) (sym (bare_read_happens n r (acts a))))
            (action_goes l.bench h p r.ack g (held_label l.bench.console.mode) a.place a.copies a.message a.letter report
            (aired_fair h l a.letter a.place (labelled n a.message) f) (written_fits h o next.holds.accepted));
      }
  happening_goes h p r (kept_and_cut a) f g =
      let n = suc (put_count p) in
      record {
        row = fall_of (asked r.history (in_action (labelled n) a));
        holds = followed_on h r.history (kept_and_cut a) n (ap suc g.alike.same.count) f;
        goes = cut_goes h p r a g;
      }
  happening_goes h p r (cut a) f g =
      let n = suc (put_count p) in
      record {
        row = fall_of (asked r.history (in_action (labelled n) a));
        holds = followed_on h r.history (cut a) n (ap suc g.alike.same.count) f;
        goes = cut_goes h p r a g;
      }

  all_faithful : (h p : Log M) (r : Reading (Link S (Labelled M))) (xs : List (Happening M)) → Follows U laws good h r.history → Reads h p r.ack
      → Faithful p (read_rows_left U good p r xs) (read_rows_shown U good (in_reading (in_link bare) r) xs)
  unfolding read_rows_left read_rows_shown
  all_faithful h p r [] f g = tt
  all_faithful h p r (x ∷ xs) f g =
      let d = labelled_read_happens U good (suc (put_count p)) r x in
      let o = read_row_left U good p r x in
      let s = happening_goes h p r x f g in
      rw (bare_read_happens (suc (put_count p)) r x) (s.goes.shows, all_faithful (write s.row h) (write o p) d.after xs s.holds s.goes.reads)

-- ## The theorem

module _ {S M : Type 0} (U : Supply S) (good : M → Bool) (laws : Lawful S U) (j i : S) (hs : List (Happening M)) where
  pub radio_right_read : RadioRightRead U good j i hs
  unfolding fresh
  radio_right_read =
      let f = all_faithful U laws good [] [] (unread (start j i)) hs (start_follows U laws good j i) start_reads in
      let rows = read_rows_left U good [] (unread (start j i)) hs in
      let (right, own, spare) = faithful_log [] rows (read_rows_shown U good (unread (start j i)) hs) f tt in
      record { right = right; own = own; spare = spare }
