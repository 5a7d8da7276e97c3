-- Demand 3 in the user's words, of a whole log: what `Right` comes to. Newest row first, so that in `z ++ e ∷ (y ++ d ∷ x)` the row d is before e.
-- Assumes nothing.
use Rattle.std.specs.Prelude.{ℕ, ◌<◌, ◌≡◌, ◌∷◌, ◌++◌, T}
use Rattle.rules.specs.Lists.{In}
use Rattle.rules.specs.Log.{Event, Put, Delivered, AnsweredOK, AnsweredLost, ConsoleDown, ConsoleBack, ControllerDown, ControllerBack, Log}
use Rattle.rules.specs.Log.{controller_up}

module _ {M : Type 0} where
  -- the row is an answer for the put n
  abbrev pub Answer : ℕ → Event M → Type 0
  Answer n (AnsweredOK k) = n ≡ k
  Answer n (AnsweredLost k) = n ≡ k
  Answer n (Put k c) = ⊥
  Answer n (Delivered k c) = ⊥
  Answer n ConsoleDown = ⊥
  Answer n ConsoleBack = ⊥
  Answer n ControllerDown = ⊥
  Answer n ControllerBack = ⊥

  -- since the put n the controller, which was up, went down and came back
  pub record Restarted (n : ℕ) (l : Log M) : Type 0 where
    pub cells : M
    pub before : Log M
    pub since : Log M
    pub down : Log M
    pub after : Log M
    pub splits : l ≡ after ++ ControllerBack ∷ (down ++ ControllerDown ∷ (since ++ Put n cells ∷ before))
    pub was_up : T (controller_up (since ++ Put n cells ∷ before))

  pub record Plain (l : Log M) : Type 0 where
    -- a put's number tells its place among the puts
    pub numbered : (m n : ℕ) (c d : M) (z y x : Log M) → l ≡ z ++ Put n d ∷ (y ++ Put m c ∷ x) → m < n
    -- an order is delivered with its own cells, after its put
    pub own_cells : (n : ℕ) (c : M) (z x : Log M) → l ≡ z ++ Delivered n c ∷ x → In (Put n c) x
    -- orders are delivered in the order of their puts, each at most once
    pub in_order : (m n : ℕ) (c d : M) (z y x : Log M) → l ≡ z ++ Delivered n d ∷ (y ++ Delivered m c ∷ x) → m < n
    -- a put is answered at most once
    pub once : (n : ℕ) (e d : Event M) (z y x : Log M) → Answer n e → Answer n d → l ≡ z ++ e ∷ (y ++ d ∷ x) → ⊥
    -- and not at all once the console has gone down after it
    pub not_after_down : (n : ℕ) (c : M) (e : Event M) (z y x u : Log M) → Answer n e → l ≡ z ++ e ∷ (y ++ ConsoleDown ∷ (x ++ Put n c ∷ u)) → ⊥
    -- OK: it was delivered before
    pub ok_means : (n : ℕ) (z x : Log M) → l ≡ z ++ AnsweredOK n ∷ x → (c : M) × In (Delivered n c) x
    -- lost: the controller went down and came back since the put, and it won't be delivered later
    pub lost_means : (n : ℕ) (z x : Log M) → l ≡ z ++ AnsweredLost n ∷ x → Restarted n x
    pub lost_is_final : (n : ℕ) (c : M) (z y x : Log M) → l ≡ z ++ Delivered n c ∷ (y ++ AnsweredLost n ∷ x) → ⊥
