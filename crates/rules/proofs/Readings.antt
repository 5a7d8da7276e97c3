-- What is read of a right history is right: the pure part of demand 3 as request 2 words it. Beside the log of the history go the log of what is read
-- and the ack; whatever happens, the row that is read fits, and what A would tell fits. Assumes nothing.
use Prim.Native.Nat.{ℕ, suc}
use mathlib.Core.Path.{◌≡◌, refl, sym, ap, subst, ◌∙◌}
use mathlib.Core.Logic.{◌⊎◌, inl, inr, ⊎_elim}
use mathlib.Core.Bool.{Bool, true, false, not, ◌||◌}
use mathlib.Core.Option.{Option, none, some, map, none-ne-some, some-ne-none, some-injective}
use mathlib.Core.List.{[], ◌∷◌, ◌++◌}
use lib.Dec.{T, T_not}
use native.Mathlib.Omega.{arith}
use Rattle.rules.specs.Lists.{In, Opt}
use Rattle.rules.specs.Log.{Event, Put, Delivered, AnsweredOK, AnsweredLost, ConsoleDown, ConsoleBack, ControllerDown, ControllerBack, Log}
use Rattle.rules.specs.Log.{console_up, controller_up, waiting, put_count, fell, fell_and_back, OkFits, LostFits, Fits}
use Rattle.rules.specs.Plain.{Answer}
use Rattle.rules.specs.Demand3.{write}
use Rattle.rules.specs.ReadLog.{unanswered, console_fell, console_fell_and_back, OkFitsRead, LostFitsRead, FitsRead}

-- ## Tests

pub or_left : (a b : Bool) → T a → T (a || b)
or_left true b h = tt
or_left false b h = absurd h

pub or_right : (a b : Bool) → T b → T (a || b)
or_right true b h = tt
or_right false b h = h

-- the one that is left
or_other : (a b : Bool) → T (not a) → T (a || b) → T b
or_other true b n h = absurd n
or_other false b n h = h

or_map : (a b c : Bool) → (T a → T c) → T (a || b) → T (c || b)
or_map true b c f h = or_left c b (f tt)
or_map false b c f h = or_right c b h

module _ {M : Type 0} where
  -- what came back had gone down
  back_fell : (l : Log M) → T (fell_and_back l) → T (fell l)
  back_fell [] h = h
  back_fell (Put n c ∷ l) h = h
  back_fell (Delivered n c ∷ l) h = back_fell l h
  back_fell (AnsweredOK n ∷ l) h = back_fell l h
  back_fell (AnsweredLost n ∷ l) h = back_fell l h
  back_fell (ConsoleDown ∷ l) h = back_fell l h
  back_fell (ConsoleBack ∷ l) h = back_fell l h
  back_fell (ControllerDown ∷ l) h = or_right (controller_up l) (fell l) (back_fell l h)
  back_fell (ControllerBack ∷ l) h = h

-- ## The two logs have the same rows, the answers aside

module _ {M : Type 0} where
  abbrev Same : Log M → Log M → Type 0
  Same h p =
      record {
        console : console_up h ≡ console_up p;
        controller : controller_up h ≡ controller_up p;
        count : put_count h ≡ put_count p;
        fallen : fell h ≡ fell p;
        back : fell_and_back h ≡ fell_and_back p;
      }

  pub record Alike (h p : Log M) : Type 0 where
    pub same : Same h p
    pub puts : (n : ℕ) (c : M) → In (Put n c) h → In (Put n c) p
    pub there : (n : ℕ) (c : M) → In (Delivered n c) h → In (Delivered n c) p
    pub here : (n : ℕ) (c : M) → In (Delivered n c) p → In (Delivered n c) h

  same_row : (h p : Log M) (e : Event M) → Same h p → Same (e ∷ h) (e ∷ p)
  same_row h p (Put n c) s = record { console = s.console; controller = s.controller; count = ap suc s.count; fallen = refl; back = refl }
  same_row h p (Delivered n c) s = s
  same_row h p (AnsweredOK n) s = s
  same_row h p (AnsweredLost n) s = s
  same_row h p ConsoleDown s = record { console = refl; controller = s.controller; count = s.count; fallen = s.fallen; back = s.back }
  same_row h p ConsoleBack s = record { console = refl; controller = s.controller; count = s.count; fallen = s.fallen; back = s.back }
  same_row h p ControllerDown s = record { console = s.console; controller = refl; count = s.count; fallen = cc; back = s.back }
  same_row h p ControllerBack s = record { console = s.console; controller = refl; count = s.count; fallen = s.fallen; back = s.fallen }

  in_both : (x e : Event M) (h p : Log M) → (In x h → In x p) → In x (e ∷ h) → In x (e ∷ p)
  in_both x e h p f = ⊎_elim inl (λ i. inr (f i))

  alike_row : (h p : Log M) (e : Event M) → Alike h p → Alike (e ∷ h) (e ∷ p)
  alike_row h p e a =
      record {
        same = same_row h p e a.same;
        puts = λ n c. in_both (Put n c) e h p (a.puts n c);
        there = λ n c. in_both (Delivered n c) e h p (a.there n c);
        here = λ n c. in_both (Delivered n c) e p h (a.here n c);
      }

  -- ## An answer is in one of the two only

  module _ (h p : Log M) (k : ℕ) (e : Event M) (answer : Answer k e) where
    earlier : (x : Event M) → (Answer k x → ⊥) → (l : Log M) → In x (e ∷ l) → In x l
    earlier x other l = ⊎_elim (λ q. absurd (other (subst (Answer k) (sym q) answer))) (λ i. i)

    alike_arrived : Same (e ∷ h) p → Alike h p → Alike (e ∷ h) p
    alike_arrived s a =
        record {
          same = s;
          puts = λ n c x. a.puts n c (earlier (Put n c) (λ z. z) h x);
          there = λ n c x. a.there n c (earlier (Delivered n c) (λ z. z) h x);
          here = λ n c x. inr (a.here n c x);
        }

    alike_told : Same h (e ∷ p) → Alike h p → Alike h (e ∷ p)
    alike_told s a =
        record {
          same = s;
          puts = λ n c x. inr (a.puts n c x);
          there = λ n c x. inr (a.there n c x);
          here = λ n c x. a.here n c (earlier (Delivered n c) (λ z. z) p x);
        }

-- ## What is read goes with the history

module _ {M : Type 0} where
  -- an answer lost that was read: the console had gone down since the put, or lost had arrived
  abbrev Losses : Log M → Log M → Type 0
  Losses h p = (n : ℕ) (z x : Log M) → p ≡ z ++ AnsweredLost n ∷ x → T (console_fell x) ⊎ In (AnsweredLost n) h

  no_rows : (z : Log M) (e : Event M) (x : Log M) → [] ≡ z ++ e ∷ x → ⊥
  no_rows [] e x q = let z : ◌≡◌ {A = ℕ} 0 1 = cc in omega arith
  no_rows (d ∷ z) e x q = let z : ◌≡◌ {A = ℕ} 0 1 = cc in omega arith

  -- the same of one row more
  abbrev Loss : Log M → Log M → Event M → Type 0
  Loss h p e = (n : ℕ) → e ≡ AnsweredLost n → T (console_fell p) ⊎ In (AnsweredLost n) h

  losses_on : (h p : Log M) (e : Event M) → Loss h p e → Losses h p → Losses h (e ∷ p)
  losses_on h p e now known n [] x q =
      let head : e ≡ AnsweredLost n = cc in
      let tail : p ≡ x = cc in
      ⊎_elim (λ t. inl (subst (λ l. T (console_fell l)) tail t)) inr (now n head)
  losses_on h p e now known n (d ∷ z) x q = known n z x (cc)

  losses_arrived : (h p : Log M) (e : Event M) → Losses h p → Losses (e ∷ h) p
  losses_arrived h p e known n z x q = ⊎_elim inl (λ i. inr (inr i)) (known n z x q)

  -- what A would tell fits
  abbrev Ready : Log M → Log M → Bool → Type 0
  Ready h p true = (n : ℕ) × OkFitsRead p n
  Ready h p false = (n : ℕ) → unanswered p ≡ some n → LostFitsRead p n × (T (console_fell p) ⊎ In (AnsweredLost n) h)

  -- h: the history; p: what is read
  pub record Reads (h p : Log M) (ack : Bool) : Type 0 where
    pub alike : Alike h p
    pub losses : Losses h p
    -- the put that waits in the history is the one that no A has answered; while the console is up it has not gone down since
    pub waits : (n : ℕ) → waiting h ≡ some n → (unanswered p ≡ some n) × (T (console_up p) → T (not (console_fell p)))
    -- a console that is down went down since the last put
    pub down : T (console_up p || console_fell p)
    -- A is taken from a console that is up and holds none
    pub ready : T (console_up p) → waiting h ≡ none → Ready h p ack

  pub start_reads : Reads [] [] false
  start_reads =
      record {
        alike = record {
          same = record { console = refl; controller = refl; count = refl; fallen = refl; back = refl };
          puts = λ _ _ x. x;
          there = λ _ _ x. x;
          here = λ _ _ x. x;
        };
        losses = λ n z x q. absurd (no_rows z (AnsweredLost n) x q);
        waits = λ n e. absurd (none-ne-some n e);
        down = tt;
        ready = λ _ _ n e. absurd (none-ne-some n e);
      }

-- ## A row that is no answer: it is left in both logs

module _ {M : Type 0} where
  -- the console's coming back sets the ack lost
  abbrev pub ack_row : Event M → Bool → Bool
  ack_row (Put n c) ack = ack
  ack_row (Delivered n c) ack = ack
  ack_row (AnsweredOK n) ack = ack
  ack_row (AnsweredLost n) ack = ack
  ack_row ConsoleDown ack = ack
  ack_row ConsoleBack ack = false
  ack_row ControllerDown ack = ack
  ack_row ControllerBack ack = ack

  -- what A would tell still fits after a row that is not the console's: a delivery, X or Y
  ready_later : (h p : Log M) (e : Event M) (ack : Bool)
      → (console_up p ≡ console_up (e ∷ p)) → (unanswered p ≡ unanswered (e ∷ p)) → (console_fell p ≡ console_fell (e ∷ p))
      → (T (fell_and_back p || console_fell_and_back p) → T (fell_and_back (e ∷ p) || console_fell_and_back (e ∷ p))) → Ready h p ack → Ready (e ∷ h) (e ∷ p) ack
  ready_later h p e true up first fall back ready =
      let (n, f) = ready in
      let (c, got) = f.delivered in
      (n, record { by_one_up = subst T up f.by_one_up; first = sym first ∙ f.first; delivered = (c, inr got); stayed = subst (λ b. T (not b)) fall f.stayed })
  ready_later h p e false up first fall back ready = λ n q. let (f, why) = ready n (first ∙ q) in (
    record { by_one_up = subst T up f.by_one_up; first = q; restarted = back f.restarted },
    ⊎_elim (λ t. inl (subst T fall t)) (λ i. inr (inr i)) why,
  )

  abbrev pub OtherRow : Event M → Type 0
  OtherRow e = (n : ℕ) → Answer n e → ⊥

module _ {M : Type 0} {h p : Log M} {ack : Bool} (r : Reads h p ack) where
  pub row_fits : (e : Event M) → OtherRow e → Fits h e → FitsRead p e
  row_fits (Put n c) s f = record { by_one_up = subst T r.alike.same.console f.by_one_up; counted = f.counted ∙ ap suc r.alike.same.count }
  row_fits (Delivered n c) s f =
      record {
        by_one_up = subst T r.alike.same.controller f.by_one_up;
        its_own_put = r.alike.puts n c f.its_own_put;
        in_order = λ m d x. f.in_order m d (r.alike.here m d x);
        not_lost = λ z x q. ⊎_elim (λ t. t) (λ i. absurd (f.not_lost i)) (r.losses n z x q);
      }
  row_fits (AnsweredOK n) s f = absurd (s n refl)
  row_fits (AnsweredLost n) s f = absurd (s n refl)
  row_fits ConsoleDown s f = tt
  row_fits ConsoleBack s f = subst (λ b. T (not b)) r.alike.same.console f
  row_fits ControllerDown s f = tt
  row_fits ControllerBack s f = subst (λ b. T (not b)) r.alike.same.controller f

  losses_row : (e : Event M) → OtherRow e → Losses (e ∷ h) (e ∷ p)
  losses_row e s =
      losses_on (e ∷ h) p e (λ n q. absurd (s n (subst (Answer n) (sym q) refl))) (losses_arrived h p e r.losses)

  pub row_reads : (e : Event M) → OtherRow e → Fits h e → Reads (e ∷ h) (e ∷ p) (ack_row e ack)
  row_reads (Put n c) s f =
      record {
        alike = alike_row h p (Put n c) r.alike;
        losses = losses_row (Put n c) s;
        waits = λ k q. (q, λ _. tt);
        down = or_left (console_up p) false (row_fits (Put n c) s f).by_one_up;
        ready = λ _ q. absurd (some-ne-none n q);
      }
  row_reads (Delivered n c) s f =
      record {
        alike = alike_row h p (Delivered n c) r.alike;
        losses = losses_row (Delivered n c) s;
        waits = r.waits;
        down = r.down;
        ready = λ u q. ready_later h p (Delivered n c) ack refl refl refl (λ t. t) (r.ready u q);
      }
  row_reads (AnsweredOK n) s f = absurd (s n refl)
  row_reads (AnsweredLost n) s f = absurd (s n refl)
  row_reads ConsoleDown s f =
      record {
        alike = alike_row h p ConsoleDown r.alike;
        losses = losses_row ConsoleDown s;
        waits = λ n q. ((r.waits n q).0, λ u. absurd u);
        down = r.down;
        ready = λ u. absurd u;
      }
  row_reads ConsoleBack s f =
      record {
        alike = alike_row h p ConsoleBack r.alike;
        losses = losses_row ConsoleBack s;
        waits = λ n q. absurd (none-ne-some n q);
        down = tt;
        ready =
            λ _ _ n q. let fallen = or_other (console_up p) (console_fell p) (row_fits ConsoleBack s f) r.down in
            (record { by_one_up = tt; first = q; restarted = or_right (fell_and_back p) (console_fell p) fallen }, inl fallen);
      }
  row_reads ControllerDown s f =
      record {
        alike = alike_row h p ControllerDown r.alike;
        losses = losses_row ControllerDown s;
        waits = r.waits;
        down = r.down;
        ready = λ u q. ready_later h p ControllerDown ack refl refl refl (λ t. t) (r.ready u q);
      }
  row_reads ControllerBack s f =
      record {
        alike = alike_row h p ControllerBack r.alike;
        losses = losses_row ControllerBack s;
        waits = r.waits;
        down = r.down;
        ready =
            λ u q. ready_later h p ControllerBack ack refl refl refl (or_map (fell_and_back p) (console_fell_and_back p) (fell p) (back_fell p)) (r.ready u q);
      }

  -- the ack of a console that is down does not matter: coming back sets it lost
  pub ack_forgotten : T (not (console_up p)) → (ack' : Bool) → Reads h p ack'
  ack_forgotten d ack' =
      record { alike = r.alike; losses = r.losses; waits = r.waits; down = r.down; ready = λ u q. absurd (T_not (console_up p) d u) }

  -- ## An answer arrives: nothing is read

  pub ok_arrives : (n : ℕ) → OkFits h n → Reads (AnsweredOK n ∷ h) p true
  ok_arrives n f =
      let (first, stayed) = r.waits n f.waits in
      let up = subst T r.alike.same.console f.by_one_up in
      let got = f.delivered in
      record {
        alike = alike_arrived h p n (AnsweredOK n) refl r.alike.same r.alike;
        losses = losses_arrived h p (AnsweredOK n) r.losses;
        waits = λ k q. absurd (none-ne-some k q);
        down = r.down;
        ready = λ _ _. (n, record { by_one_up = up; first = first; delivered = (got.0, r.alike.there n got.0 got.1); stayed = stayed up });
      }

  pub lost_arrives : (n : ℕ) → LostFits h n → Reads (AnsweredLost n ∷ h) p false
  lost_arrives n f =
      let up = subst T r.alike.same.console f.by_one_up in
      let back = subst T r.alike.same.back f.restarted in
      record {
        alike = alike_arrived h p n (AnsweredLost n) refl r.alike.same r.alike;
        losses = losses_arrived h p (AnsweredLost n) r.losses;
        waits = λ k q. absurd (none-ne-some k q);
        down = r.down;
        ready =
            λ _ _ k q. let same : k ≡ n = some-injective k n (sym q ∙ (r.waits n f.waits).0) in
            (record { by_one_up = up; first = q; restarted = or_left (fell_and_back p) (console_fell_and_back p) back }, inr (inl (ap AnsweredLost same)));
      }

-- ## A is taken: nothing happens in the history

module _ {M : Type 0} where
  -- the row that A leaves: the ack is told to the put that no A has answered
  abbrev pub answer : Bool → Option ℕ → Option (Event M)
  answer true = map AnsweredOK
  answer false = map AnsweredLost

  -- and is lost from then on
  told : {h p : Log M} {ack : Bool} → Reads h p ack → waiting h ≡ none → (k : ℕ) (e : Event M) → Answer k e → Same h (e ∷ p) → unanswered (e ∷ p) ≡ none
      → Loss h p e → T (console_up (e ∷ p) || console_fell (e ∷ p)) → Reads h (e ∷ p) false
  told {h} {p} r q k e a same none' now down =
      record {
        alike = alike_told h p k e a same r.alike;
        losses = losses_on h p e now r.losses;
        waits = λ n w. absurd (none-ne-some n (sym q ∙ w));
        down = down;
        ready = λ _ _ n w. absurd (none-ne-some n (sym none' ∙ w));
      }

  pub record Tells (h p : Log M) (ack : Bool) (o : Option (Event M)) : Type 0 where
    pub fits : Opt (FitsRead p) o
    pub after : Reads h (write o p) false

  pub a_tells : (h p : Log M) (ack : Bool) → Reads h p ack → T (console_up h) → waiting h ≡ none → Tells h p ack (answer ack (unanswered p))
  a_tells h p true r u q =
      let (n, f) = r.ready (subst T r.alike.same.console u) q in
      rw f.first
      (record {
        fits = f;
        after = told r q n (AnsweredOK n) refl r.alike.same refl (λ m e. let z : ◌≡◌ {A = ℕ} 0 1 = cc in absurd (omega arith)) r.down;
      })
  a_tells h p false r u q = tells (unanswered p) refl
    where
      tells : (o : Option ℕ) → unanswered p ≡ o → Tells h p false (map AnsweredLost o)
      tells none e =
          record {
            fits = tt;
            after = record { alike = r.alike; losses = r.losses; waits = r.waits; down = r.down; ready = λ _ _ n w. absurd (none-ne-some n (sym e ∙ w)) };
          }
      tells (some n) e =
          let (f, why) = r.ready (subst T r.alike.same.console u) q n e in
          let now : Loss h p (AnsweredLost n) = λ m x. let same : n ≡ m = cc in rw same at why in
          record { fits = f; after = told r q n (AnsweredLost n) refl r.alike.same refl now r.down }

  -- an OK is some put's
  pub ok_is_awaited : (h p : Log M) → Reads h p true → T (console_up h) → waiting h ≡ none → (n : ℕ) × (unanswered p ≡ some n)
  ok_is_awaited h p r u q = let (n, f) = r.ready (subst T r.alike.same.console u) q in (n, f.first)
