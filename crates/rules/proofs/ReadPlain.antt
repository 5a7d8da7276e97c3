-- A log that is right with its readings has all that demand 3 says of it in plain words, as request 2 has them. Assumes nothing.
use Prim.Native.Nat.{ℕ, ◌≤◌, ◌<◌}
use mathlib.Core.Path.{◌≡◌, refl, sym, ap, subst, ◌∙◌}
use mathlib.Core.Logic.{◌⊎◌, inl, inr, ⊎_elim}
use mathlib.Core.Bool.{Bool}
use mathlib.Core.Option.{some, none-ne-some, some-injective}
use mathlib.Core.List.{List, [], ◌∷◌, ◌++◌, append_assoc}
use lib.Dec.{T, T_not}
use native.Mathlib.Omega.{arith}
use Rattle.rules.specs.Supply.{Supply, Lawful}
use Rattle.rules.specs.Bench.{Action}
use Rattle.rules.specs.Radio.{Happening}
use Rattle.rules.specs.Lists.{In}
use Rattle.rules.specs.Log.{Event, Put, Delivered, AnsweredOK, AnsweredLost, ConsoleDown, ConsoleBack, ControllerDown, ControllerBack, Log}
use Rattle.rules.specs.Log.{console_up, put_count, fell_and_back}
use Rattle.rules.specs.Plain.{Answer}
use Rattle.rules.specs.ReadLog.{unanswered, console_fell, console_fell_and_back, FitsRead, RightRead}
use Rattle.rules.specs.ReadDemand3.{read_log}
use Rattle.rules.specs.ReadRadio.{radio_read_log}
use Rattle.rules.specs.ReadPlain.{Awaits, ConsoleFell, ConsoleRestarted, PlainRead}
use Rattle.rules.proofs.Plain.{either, there, more_puts, last_put, find_restart}
use Rattle.rules.proofs.Readings.{or_left, or_right}
use Rattle.rules.proofs.ReadDemand3.{demand3_read}
use Rattle.rules.proofs.ReadRadio.{radio_right_read}

apart : ◌≡◌ {A = ℕ} 0 1 → ⊥
apart e = omega arith

module _ {M : Type 0} where
  right_part : (z l : Log M) → RightRead (z ++ l) → RightRead l
  right_part [] l h = h
  right_part (e ∷ z) l h = right_part z l h.0

  -- the row e of a right log fits what was before it
  row_fits : (l z x : Log M) (e : Event M) → RightRead l → l ≡ z ++ e ∷ x → RightRead x × FitsRead x e
  row_fits l z x e r q = right_part z (e ∷ x) (subst RightRead q r)

  -- ## The put that no A has answered

  -- a row that is neither put nor answer
  quiet : (n : ℕ) (e : Event M) (l : Log M) → ((k : ℕ) (c : M) → Put k c ≡ e → ⊥) → ((k : ℕ) → Answer k e → ⊥) → Awaits n l → Awaits n (e ∷ l)
  quiet n e l p a h =
      record {
        cells = h.cells;
        before = h.before;
        since = e ∷ h.since;
        splits = ap {B = Log M} (λ x. e ∷ x) h.splits;
        no_put = λ k c. ⊎_elim (p k c) (h.no_put k c);
        no_answer = λ k d x. ⊎_elim (λ q. a k (subst (Answer k) q x)) (h.no_answer k d x);
      }

  awaits : (l : Log M) (n : ℕ) → unanswered l ≡ some n → Awaits n l
  awaits [] n e = absurd (none-ne-some n e)
  awaits (Put k c ∷ l) n e =
      record {
        cells = c;
        before = l;
        since = [];
        splits = ap {B = Log M} (λ x. Put x c ∷ l) (some-injective k n e);
        no_put = λ _ _ x. x;
        no_answer = λ _ _ _ x. x;
      }
  awaits (Delivered k c ∷ l) n e = quiet n _ l (λ _ _ q. apart (cc)) (λ _ a. a) (awaits l n e)
  awaits (AnsweredOK k ∷ l) n e = absurd (none-ne-some n e)
  awaits (AnsweredLost k ∷ l) n e = absurd (none-ne-some n e)
  awaits (ConsoleDown ∷ l) n e = quiet n _ l (λ _ _ q. apart (cc)) (λ _ a. a) (awaits l n e)
  awaits (ConsoleBack ∷ l) n e = quiet n _ l (λ _ _ q. apart (cc)) (λ _ a. a) (awaits l n e)
  awaits (ControllerDown ∷ l) n e = quiet n _ l (λ _ _ q. apart (cc)) (λ _ a. a) (awaits l n e)
  awaits (ControllerBack ∷ l) n e = quiet n _ l (λ _ _ q. apart (cc)) (λ _ a. a) (awaits l n e)

  -- it is the last put
  is_last_put : (l : Log M) (n : ℕ) → unanswered l ≡ some n → last_put l ≡ some n
  is_last_put [] n e = e
  is_last_put (Put k c ∷ l) n e = e
  is_last_put (Delivered k c ∷ l) n e = is_last_put l n e
  is_last_put (AnsweredOK k ∷ l) n e = absurd (none-ne-some n e)
  is_last_put (AnsweredLost k ∷ l) n e = absurd (none-ne-some n e)
  is_last_put (ConsoleDown ∷ l) n e = is_last_put l n e
  is_last_put (ConsoleBack ∷ l) n e = is_last_put l n e
  is_last_put (ControllerDown ∷ l) n e = is_last_put l n e
  is_last_put (ControllerBack ∷ l) n e = is_last_put l n e

  -- an answer is for it
  answers_it : (n : ℕ) (e : Event M) (l : Log M) → Answer n e → FitsRead l e → unanswered l ≡ some n
  answers_it n (AnsweredOK k) l a f = f.first ∙ ap some (sym a)
  answers_it n (AnsweredLost k) l a f = f.first ∙ ap some (sym a)
  answers_it n (Put k c) l a f = absurd a
  answers_it n (Delivered k c) l a f = absurd a
  answers_it n ConsoleDown l a f = absurd a
  answers_it n ConsoleBack l a f = absurd a
  answers_it n ControllerDown l a f = absurd a
  answers_it n ControllerBack l a f = absurd a

  -- ## The console went down since that put, and came back

  later_fall : (n : ℕ) (e : Event M) (l : Log M) → ConsoleFell n l → ConsoleFell n (e ∷ l)
  later_fall n e l h =
      record { cells = h.cells; before = h.before; since = h.since; after = e ∷ h.after; splits = ap {B = Log M} (λ x. e ∷ x) h.splits; was_up = h.was_up }

  falls_now : (n : ℕ) (l : Log M) → Awaits n l → T (console_up l) → ConsoleFell n (ConsoleDown ∷ l)
  falls_now n l h u =
      record {
        cells = h.cells;
        before = h.before;
        since = h.since;
        after = [];
        splits = ap {B = Log M} (λ x. ConsoleDown ∷ x) h.splits;
        was_up = subst (λ x. T (console_up x)) h.splits u;
      }

  find_fall : (l : Log M) (n : ℕ) → T (console_fell l) → unanswered l ≡ some n → ConsoleFell n l
  find_fall [] n f e = absurd f
  find_fall (Put k c ∷ l) n f e = absurd f
  find_fall (Delivered k c ∷ l) n f e = later_fall n _ l (find_fall l n f e)
  find_fall (AnsweredOK k ∷ l) n f e = absurd (none-ne-some n e)
  find_fall (AnsweredLost k ∷ l) n f e = absurd (none-ne-some n e)
  find_fall (ConsoleDown ∷ l) n f e =
      ⊎_elim (λ u. falls_now n l (awaits l n e) u) (λ x. later_fall n _ l (find_fall l n x e)) (either (console_up l) (console_fell l) f)
  find_fall (ConsoleBack ∷ l) n f e = later_fall n _ l (find_fall l n f e)
  find_fall (ControllerDown ∷ l) n f e = later_fall n _ l (find_fall l n f e)
  find_fall (ControllerBack ∷ l) n f e = later_fall n _ l (find_fall l n f e)

  later_back : (n : ℕ) (e : Event M) (l : Log M) → ConsoleRestarted n l → ConsoleRestarted n (e ∷ l)
  later_back n e l h = record { down = h.down; after = e ∷ h.after; splits = ap {B = Log M} (λ x. e ∷ x) h.splits; fell = h.fell }

  find_back : (l : Log M) (n : ℕ) → T (console_fell_and_back l) → unanswered l ≡ some n → ConsoleRestarted n l
  find_back [] n f e = absurd f
  find_back (Put k c ∷ l) n f e = absurd f
  find_back (Delivered k c ∷ l) n f e = later_back n _ l (find_back l n f e)
  find_back (AnsweredOK k ∷ l) n f e = absurd (none-ne-some n e)
  find_back (AnsweredLost k ∷ l) n f e = absurd (none-ne-some n e)
  find_back (ConsoleDown ∷ l) n f e = later_back n _ l (find_back l n f e)
  find_back (ConsoleBack ∷ l) n f e = record { down = l; after = []; splits = refl; fell = find_fall l n f e }
  find_back (ControllerDown ∷ l) n f e = later_back n _ l (find_back l n f e)
  find_back (ControllerBack ∷ l) n f e = later_back n _ l (find_back l n f e)

  -- a fall is remembered until the next put
  fell_stays : (y l : Log M) (n : ℕ) → RightRead (y ++ l) → n ≤ put_count l → T (console_fell l) → unanswered (y ++ l) ≡ some n → T (console_fell (y ++ l))
  fell_stays [] l n r k f e = f
  fell_stays (Put m c ∷ y) l n r k f e = absurd (omega (arith, some-injective m n e, r.1.counted, more_puts y l))
  fell_stays (Delivered m c ∷ y) l n r k f e = fell_stays y l n r.0 k f e
  fell_stays (AnsweredOK m ∷ y) l n r k f e = absurd (none-ne-some n e)
  fell_stays (AnsweredLost m ∷ y) l n r k f e = absurd (none-ne-some n e)
  fell_stays (ConsoleDown ∷ y) l n r k f e = or_right (console_up (y ++ l)) (console_fell (y ++ l)) (fell_stays y l n r.0 k f e)
  fell_stays (ConsoleBack ∷ y) l n r k f e = fell_stays y l n r.0 k f e
  fell_stays (ControllerDown ∷ y) l n r k f e = fell_stays y l n r.0 k f e
  fell_stays (ControllerBack ∷ y) l n r k f e = fell_stays y l n r.0 k f e

  fell_then : (l : Log M) (n : ℕ) → RightRead l → unanswered l ≡ some n → ConsoleFell n l → T (console_fell l)
  fell_then l n r e h =
      let put = Put n h.cells ∷ h.before in
      let w = h.since ++ put in
      let right : RightRead (h.after ++ ConsoleDown ∷ w) = subst RightRead h.splits r in
      let counted = (right_part h.since put (right_part h.after (ConsoleDown ∷ w) right).0).1.counted in
      rw h.splits
      (fell_stays h.after (ConsoleDown ∷ w) n right (omega (arith, counted, more_puts h.since put))
      (or_left (console_up w) (console_fell w) h.was_up) (rw h.splits at e))

  -- ## All of it

  in_append : (e : Event M) (y l : Log M) → In e (y ++ l) → In e y ⊎ In e l
  in_append e [] l i = inr i
  in_append e (d ∷ y) l (inl q) = inl (inl q)
  in_append e (d ∷ y) l (inr i) = ⊎_elim (λ j. inl (inr j)) inr (in_append e y l i)

  in_splits : (e : Event M) (l : Log M) → In e l → (z x : Log M) × (l ≡ z ++ e ∷ x)
  in_splits e [] i = absurd i
  in_splits e (d ∷ l) (inl q) = ([], l, ap {B = Log M} (λ c. c ∷ l) (sym q))
  in_splits e (d ∷ l) (inr i) = let (z, x, s) = in_splits e l i in (d ∷ z, x, ap {B = Log M} (λ y. d ∷ y) s)

  later : (m n : ℕ) (c d : M) (y x : Log M) → RightRead (y ++ Put m c ∷ x) × FitsRead (y ++ Put m c ∷ x) (Put n d) → m < n
  later m n c d y x f = omega (arith, f.1.counted, (right_part y (Put m c ∷ x) f.0).1.counted, more_puts y (Put m c ∷ x))

  -- the first of two answers to one put would be before that put
  twice : (n : ℕ) (e d : Event M) (y x : Log M) → Answer n e → Answer n d → RightRead (y ++ d ∷ x) × FitsRead (y ++ d ∷ x) e → ⊥
  twice n e d y x a b f =
      let w = awaits (y ++ d ∷ x) n (answers_it n e (y ++ d ∷ x) a f.1) in
      let put = Put n w.cells ∷ w.before in
      let right = right_part w.since put (subst RightRead w.splits f.0) in
      ⊎_elim (w.no_answer n d b) (⊎_elim (λ q. subst (Answer n) q b) (before w.cells w.before right))
      (in_append d w.since put (subst (In d) w.splits (there d y x)))
    where
      before : (c : M) (l : Log M) → RightRead l × FitsRead l (Put n c) → In d l → ⊥
      before c l r i =
          let (z, u, s) = in_splits d l i in
          let v = awaits u n (answers_it n d u b (row_fits l z u d r.0 s).1) in
          let put = Put n v.cells ∷ v.before in
          let q = s ∙ ap {B = Log M} (λ x. z ++ d ∷ x) v.splits ∙ sym (append_assoc z (d ∷ v.since) put) in
          omega (arith, later n n v.cells c (z ++ d ∷ v.since) v.before (subst (λ x. RightRead x × FitsRead x (Put n c)) q r))

  pub right_read_plain : (l : Log M) → RightRead l → PlainRead l
  right_read_plain l r =
      record {
        numbered = λ m n c d z y x q. later m n c d y x (row_fits l z (y ++ Put m c ∷ x) (Put n d) r q);
        own_cells = λ n c z x q. (row_fits l z x (Delivered n c) r q).1.its_own_put;
        in_order = λ m n c d z y x q. (row_fits l z (y ++ Delivered m c ∷ x) (Delivered n d) r q).1.in_order m c (there (Delivered m c) y x);
        first = λ n e z x a q. awaits x n (answers_it n e x a (row_fits l z x e r q).1);
        once = λ n e d z y x a b q. twice n e d y x a b (row_fits l z (y ++ d ∷ x) e r q);
        ok_means = λ n z x q. (row_fits l z x (AnsweredOK n) r q).1.delivered;
        ok_stayed = λ n z x q h. let f = row_fits l z x (AnsweredOK n) r q in T_not (console_fell x) f.1.stayed (fell_then x n f.0 f.1.first h);
        lost_means =
            λ n z x q. let f = (row_fits l z x (AnsweredLost n) r q).1 in
            ⊎_elim (λ t. inl (find_restart x n t (is_last_put x n f.first))) (λ t. inr (find_back x n t f.first))
            (either (fell_and_back x) (console_fell_and_back x) f.restarted);
        lost_is_final =
            λ n c z y x q stayed. let f = row_fits l z (y ++ AnsweredLost n ∷ x) (Delivered n c) r q in
            stayed (find_fall x n (f.1.not_lost y x refl) (right_part y (AnsweredLost n ∷ x) f.0).1.first);
      }

-- ## The log of every run is so: of the bench, and of two boxes over any radio

module _ {S M : Type 0} (U : Supply S) (good : M → Bool) (laws : Lawful S U) (j i : S) where
  pub demand3_read_plain : (l : List (Action M)) → PlainRead (read_log U good j i l)
  demand3_read_plain l = right_read_plain (read_log U good j i l) (demand3_read U good laws j i l).right

  pub radio_read_plain : (hs : List (Happening M)) → PlainRead (radio_read_log U good j i hs)
  radio_read_plain hs = right_read_plain (radio_read_log U good j i hs) (radio_right_read U good laws j i hs).right
