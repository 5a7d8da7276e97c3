-- A right log has all that demand 3 says of it in plain words. Assumes nothing.
use Prim.Native.Nat.{ℕ, ◌≤◌, ◌<◌}
use mathlib.Core.Path.{◌≡◌, refl, sym, ap, subst, ◌∙◌}
use mathlib.Core.Logic.{◌⊎◌, inl, inr, ⊎_elim}
use mathlib.Core.Bool.{Bool, true, false, ◌||◌}
use mathlib.Core.Option.{Option, none, some, none-ne-some, some-injective}
use mathlib.Core.List.{[], ◌∷◌, ◌++◌}
use lib.Dec.{T}
use native.Mathlib.Omega.{arith}
use Rattle.rules.specs.Log.{Event, Put, Delivered, AnsweredOK, AnsweredLost, ConsoleDown, ConsoleBack, ControllerDown, ControllerBack, Log}
use Rattle.rules.specs.Log.{console_up, controller_up, waiting, put_count, fell, fell_and_back, Fits, Right}
use Rattle.rules.specs.Lists.{In}
use Rattle.rules.specs.Plain.{Answer, Restarted, Plain}

pub either : (a b : Bool) → T (a || b) → T a ⊎ T b
either true b h = inl tt
either false b h = inr h

module _ {M : Type 0} where
  -- a part of a right log is right
  right_part : (z l : Log M) → Right (z ++ l) → Right l
  right_part [] l h = h
  right_part (e ∷ z) l h = right_part z l h.0

  pub there : (e : Event M) (y x : Log M) → In e (y ++ e ∷ x)
  there e [] x = inl refl
  there e (d ∷ y) x = inr (there e y x)

  pub more_puts : (y l : Log M) → put_count l ≤ put_count (y ++ l)
  more_puts [] l = omega arith
  more_puts (Put k c ∷ y) l = omega (arith, more_puts y l)
  more_puts (Delivered k c ∷ y) l = omega (arith, more_puts y l)
  more_puts (AnsweredOK k ∷ y) l = omega (arith, more_puts y l)
  more_puts (AnsweredLost k ∷ y) l = omega (arith, more_puts y l)
  more_puts (ConsoleDown ∷ y) l = omega (arith, more_puts y l)
  more_puts (ConsoleBack ∷ y) l = omega (arith, more_puts y l)
  more_puts (ControllerDown ∷ y) l = omega (arith, more_puts y l)
  more_puts (ControllerBack ∷ y) l = omega (arith, more_puts y l)

  -- the put that waits is the last one
  waits_last : (l : Log M) (n : ℕ) → Right l → waiting l ≡ some n → n ≡ put_count l
  waits_last [] n r e = absurd (none-ne-some n e)
  waits_last (Put k c ∷ l) n r e = sym (some-injective k n e) ∙ r.1.counted
  waits_last (Delivered k c ∷ l) n r e = waits_last l n r.0 e
  waits_last (AnsweredOK k ∷ l) n r e = absurd (none-ne-some n e)
  waits_last (AnsweredLost k ∷ l) n r e = absurd (none-ne-some n e)
  waits_last (ConsoleDown ∷ l) n r e = waits_last l n r.0 e
  waits_last (ConsoleBack ∷ l) n r e = absurd (none-ne-some n e)
  waits_last (ControllerDown ∷ l) n r e = waits_last l n r.0 e
  waits_last (ControllerBack ∷ l) n r e = waits_last l n r.0 e

  -- where none waited, one that waits later was put later
  put_later : (y l : Log M) (n : ℕ) → Right (y ++ l) → waiting l ≡ none → waiting (y ++ l) ≡ some n → put_count l < n
  put_later [] l n r q e = absurd (none-ne-some n (sym q ∙ e))
  put_later (Put k c ∷ y) l n r q e = omega (arith, some-injective k n e, r.1.counted, more_puts y l)
  put_later (Delivered k c ∷ y) l n r q e = put_later y l n r.0 q e
  put_later (AnsweredOK k ∷ y) l n r q e = absurd (none-ne-some n e)
  put_later (AnsweredLost k ∷ y) l n r q e = absurd (none-ne-some n e)
  put_later (ConsoleDown ∷ y) l n r q e = put_later y l n r.0 q e
  put_later (ConsoleBack ∷ y) l n r q e = absurd (none-ne-some n e)
  put_later (ControllerDown ∷ y) l n r q e = put_later y l n r.0 q e
  put_later (ControllerBack ∷ y) l n r q e = put_later y l n r.0 q e

  -- where the console was down, one that waits while it is up was put later
  put_since_down : (y l : Log M) (n : ℕ) → Right (y ++ l) → (T (console_up l) → ⊥) → T (console_up (y ++ l)) → waiting (y ++ l) ≡ some n
      → put_count l < n
  put_since_down [] l n r q u e = absurd (q u)
  put_since_down (Put k c ∷ y) l n r q u e = omega (arith, some-injective k n e, r.1.counted, more_puts y l)
  put_since_down (Delivered k c ∷ y) l n r q u e = put_since_down y l n r.0 q u e
  put_since_down (AnsweredOK k ∷ y) l n r q u e = absurd (none-ne-some n e)
  put_since_down (AnsweredLost k ∷ y) l n r q u e = absurd (none-ne-some n e)
  put_since_down (ConsoleDown ∷ y) l n r q u e = absurd u
  put_since_down (ConsoleBack ∷ y) l n r q u e = absurd (none-ne-some n e)
  put_since_down (ControllerDown ∷ y) l n r q u e = put_since_down y l n r.0 q u e
  put_since_down (ControllerBack ∷ y) l n r q u e = put_since_down y l n r.0 q u e

  -- an answer is for the put that waits, by a console that is up; after it none waits
  answer_waits : (n : ℕ) (e : Event M) (l : Log M) → Answer n e → Fits l e
      → T (console_up l) × (waiting l ≡ some n) × (waiting (e ∷ l) ≡ none) × (put_count (e ∷ l) ≡ put_count l)
  answer_waits n (AnsweredOK k) l a f = (f.by_one_up, f.waits ∙ ap some (sym a), refl, refl)
  answer_waits n (AnsweredLost k) l a f = (f.by_one_up, f.waits ∙ ap some (sym a), refl, refl)
  answer_waits n (Put k c) l a f = absurd a
  answer_waits n (Delivered k c) l a f = absurd a
  answer_waits n ConsoleDown l a f = absurd a
  answer_waits n ConsoleBack l a f = absurd a
  answer_waits n ControllerDown l a f = absurd a
  answer_waits n ControllerBack l a f = absurd a

  -- ## Went down and came back

  -- since the put n the controller, which was up, went down
  record Fell (n : ℕ) (l : Log M) : Type 0 where
    cells : M
    before : Log M
    since : Log M
    down : Log M
    splits : l ≡ down ++ ControllerDown ∷ (since ++ Put n cells ∷ before)
    was_up : T (controller_up (since ++ Put n cells ∷ before))

  record LastPut (n : ℕ) (l : Log M) : Type 0 where
    cells : M
    before : Log M
    since : Log M
    splits : l ≡ since ++ Put n cells ∷ before

  abbrev pub last_put : Log M → Option ℕ
  last_put [] = none
  last_put (Put k c ∷ l) = some k
  last_put (Delivered k c ∷ l) = last_put l
  last_put (AnsweredOK k ∷ l) = last_put l
  last_put (AnsweredLost k ∷ l) = last_put l
  last_put (ConsoleDown ∷ l) = last_put l
  last_put (ConsoleBack ∷ l) = last_put l
  last_put (ControllerDown ∷ l) = last_put l
  last_put (ControllerBack ∷ l) = last_put l

  waits_put : (l : Log M) (n : ℕ) → waiting l ≡ some n → last_put l ≡ some n
  waits_put [] n e = e
  waits_put (Put k c ∷ l) n e = e
  waits_put (Delivered k c ∷ l) n e = waits_put l n e
  waits_put (AnsweredOK k ∷ l) n e = absurd (none-ne-some n e)
  waits_put (AnsweredLost k ∷ l) n e = absurd (none-ne-some n e)
  waits_put (ConsoleDown ∷ l) n e = waits_put l n e
  waits_put (ConsoleBack ∷ l) n e = absurd (none-ne-some n e)
  waits_put (ControllerDown ∷ l) n e = waits_put l n e
  waits_put (ControllerBack ∷ l) n e = waits_put l n e

  later_put : (n : ℕ) (e : Event M) (l : Log M) → LastPut n l → LastPut n (e ∷ l)
  later_put n e l h = record { cells = h.cells; before = h.before; since = e ∷ h.since; splits = ap {B = Log M} (λ x. e ∷ x) h.splits }

  find_put : (l : Log M) (n : ℕ) → last_put l ≡ some n → LastPut n l
  find_put [] n e = absurd (none-ne-some n e)
  find_put (Put k c ∷ l) n e = record { cells = c; before = l; since = []; splits = ap {B = Log M} (λ x. Put x c ∷ l) (some-injective k n e) }
  find_put (Delivered k c ∷ l) n e = later_put n (Delivered k c) l (find_put l n e)
  find_put (AnsweredOK k ∷ l) n e = later_put n (AnsweredOK k) l (find_put l n e)
  find_put (AnsweredLost k ∷ l) n e = later_put n (AnsweredLost k) l (find_put l n e)
  find_put (ConsoleDown ∷ l) n e = later_put n ConsoleDown l (find_put l n e)
  find_put (ConsoleBack ∷ l) n e = later_put n ConsoleBack l (find_put l n e)
  find_put (ControllerDown ∷ l) n e = later_put n ControllerDown l (find_put l n e)
  find_put (ControllerBack ∷ l) n e = later_put n ControllerBack l (find_put l n e)

  later_fall : (n : ℕ) (e : Event M) (l : Log M) → Fell n l → Fell n (e ∷ l)
  later_fall n e l h =
      record { cells = h.cells; before = h.before; since = h.since; down = e ∷ h.down; splits = ap {B = Log M} (λ x. e ∷ x) h.splits; was_up = h.was_up }

  falls_now : (n : ℕ) (l : Log M) → LastPut n l → T (controller_up l) → Fell n (ControllerDown ∷ l)
  falls_now n l p u =
      record {
        cells = p.cells;
        before = p.before;
        since = p.since;
        down = [];
        splits = ap {B = Log M} (λ x. ControllerDown ∷ x) p.splits;
        was_up = subst (λ x. T (controller_up x)) p.splits u;
      }

  find_fall : (l : Log M) (n : ℕ) → T (fell l) → last_put l ≡ some n → Fell n l
  find_fall [] n f e = absurd f
  find_fall (Put k c ∷ l) n f e = absurd f
  find_fall (Delivered k c ∷ l) n f e = later_fall n (Delivered k c) l (find_fall l n f e)
  find_fall (AnsweredOK k ∷ l) n f e = later_fall n (AnsweredOK k) l (find_fall l n f e)
  find_fall (AnsweredLost k ∷ l) n f e = later_fall n (AnsweredLost k) l (find_fall l n f e)
  find_fall (ConsoleDown ∷ l) n f e = later_fall n ConsoleDown l (find_fall l n f e)
  find_fall (ConsoleBack ∷ l) n f e = later_fall n ConsoleBack l (find_fall l n f e)
  find_fall (ControllerDown ∷ l) n f e =
      ⊎_elim (λ u. falls_now n l (find_put l n e) u) (λ x. later_fall n ControllerDown l (find_fall l n x e)) (either (controller_up l) (fell l) f)
  find_fall (ControllerBack ∷ l) n f e = later_fall n ControllerBack l (find_fall l n f e)

  later_restart : (n : ℕ) (e : Event M) (l : Log M) → Restarted n l → Restarted n (e ∷ l)
  later_restart n e l h =
      record {
        cells = h.cells;
        before = h.before;
        since = h.since;
        down = h.down;
        after = e ∷ h.after;
        splits = ap {B = Log M} (λ x. e ∷ x) h.splits;
        was_up = h.was_up;
      }

  returns_now : (n : ℕ) (l : Log M) → Fell n l → Restarted n (ControllerBack ∷ l)
  returns_now n l h =
      record {
        cells = h.cells;
        before = h.before;
        since = h.since;
        down = h.down;
        after = [];
        splits = ap {B = Log M} (λ x. ControllerBack ∷ x) h.splits;
        was_up = h.was_up;
      }

  pub find_restart : (l : Log M) (n : ℕ) → T (fell_and_back l) → last_put l ≡ some n → Restarted n l
  find_restart [] n f e = absurd f
  find_restart (Put k c ∷ l) n f e = absurd f
  find_restart (Delivered k c ∷ l) n f e = later_restart n (Delivered k c) l (find_restart l n f e)
  find_restart (AnsweredOK k ∷ l) n f e = later_restart n (AnsweredOK k) l (find_restart l n f e)
  find_restart (AnsweredLost k ∷ l) n f e = later_restart n (AnsweredLost k) l (find_restart l n f e)
  find_restart (ConsoleDown ∷ l) n f e = later_restart n ConsoleDown l (find_restart l n f e)
  find_restart (ConsoleBack ∷ l) n f e = later_restart n ConsoleBack l (find_restart l n f e)
  find_restart (ControllerDown ∷ l) n f e = later_restart n ControllerDown l (find_restart l n f e)
  find_restart (ControllerBack ∷ l) n f e = returns_now n l (find_fall l n f e)

  -- ## All of it

  -- the row e of a right log fits what was before it
  row_fits : (l z x : Log M) (e : Event M) → Right l → l ≡ z ++ e ∷ x → Right x × Fits x e
  row_fits l z x e r q = right_part z (e ∷ x) (subst Right q r)

  pub right_plain : (l : Log M) → Right l → Plain l
  right_plain l r =
      record {
        numbered = λ m n c d z y x q. later m n c d y x (row_fits l z (y ++ Put m c ∷ x) (Put n d) r q);
        own_cells = λ n c z x q. (row_fits l z x (Delivered n c) r q).1.its_own_put;
        in_order = λ m n c d z y x q. (row_fits l z (y ++ Delivered m c ∷ x) (Delivered n d) r q).1.in_order m c (there (Delivered m c) y x);
        once = λ n e d z y x a b q. twice n e d y x a b (row_fits l z (y ++ d ∷ x) e r q);
        not_after_down = λ n c e z y x u a q. downed n c e y x u a (row_fits l z (y ++ ConsoleDown ∷ (x ++ Put n c ∷ u)) e r q);
        ok_means = λ n z x q. (row_fits l z x (AnsweredOK n) r q).1.delivered;
        lost_means = λ n z x q. let f = (row_fits l z x (AnsweredLost n) r q).1 in find_restart x n f.restarted (waits_put x n f.waits);
        lost_is_final = λ n c z y x q. (row_fits l z (y ++ AnsweredLost n ∷ x) (Delivered n c) r q).1.not_lost (there (AnsweredLost n) y x);
      }
    where
      later : (m n : ℕ) (c d : M) (y x : Log M) → Right (y ++ Put m c ∷ x) × Fits (y ++ Put m c ∷ x) (Put n d) → m < n
      later m n c d y x f = omega (arith, f.1.counted, (right_part y (Put m c ∷ x) f.0).1.counted, more_puts y (Put m c ∷ x))

      twice : (n : ℕ) (e d : Event M) (y x : Log M) → Answer n e → Answer n d → Right (y ++ d ∷ x) × Fits (y ++ d ∷ x) e → ⊥
      twice n e d y x a b f =
          let h = right_part y (d ∷ x) f.0 in
          let s = answer_waits n d x b h.1 in
          let t = answer_waits n e (y ++ d ∷ x) a f.1 in
          omega (arith, put_later y (d ∷ x) n f.0 s.2 t.1, waits_last x n h.0 s.1, s.3)

      downed : (n : ℕ) (c : M) (e : Event M) (y x u : Log M) → Answer n e
          → Right (y ++ ConsoleDown ∷ (x ++ Put n c ∷ u)) × Fits (y ++ ConsoleDown ∷ (x ++ Put n c ∷ u)) e → ⊥
      downed n c e y x u a f =
          let t = answer_waits n e (y ++ ConsoleDown ∷ (x ++ Put n c ∷ u)) a f.1 in
          let p = right_part x (Put n c ∷ u) (right_part y (ConsoleDown ∷ (x ++ Put n c ∷ u)) f.0).0 in
          omega (arith, put_since_down y (ConsoleDown ∷ (x ++ Put n c ∷ u)) n f.0 (λ z. z) t.0 t.1, more_puts x (Put n c ∷ u), p.1.counted)
