-- Demand 3 as request 2 words it, in the user's words, of a whole log: what `RightRead` comes to. Newest row first, so that in `z ++ e ∷ (y ++ d ∷ x)`
-- the row d is before e. Assumes nothing.
use Rattle.std.specs.Prelude.{ℕ, ◌<◌, ◌≡◌, ◌⊎◌, ◌∷◌, ◌++◌, T}
use Rattle.rules.specs.Lists.{In}
use Rattle.rules.specs.Log.{Event, Put, Delivered, AnsweredOK, AnsweredLost, ConsoleDown, ConsoleBack, Log, console_up}
use Rattle.rules.specs.Plain.{Answer, Restarted}

module _ {M : Type 0} where
  -- the put n, and since then no other put and no answer
  pub record Awaits (n : ℕ) (l : Log M) : Type 0 where
    pub cells : M
    pub before : Log M
    pub since : Log M
    pub splits : l ≡ since ++ Put n cells ∷ before
    pub no_put : (k : ℕ) (c : M) → In (Put k c) since → ⊥
    pub no_answer : (k : ℕ) (e : Event M) → Answer k e → In e since → ⊥

  -- since the put n the console, which was up, went down
  pub record ConsoleFell (n : ℕ) (l : Log M) : Type 0 where
    pub cells : M
    pub before : Log M
    pub since : Log M
    pub after : Log M
    pub splits : l ≡ after ++ ConsoleDown ∷ (since ++ Put n cells ∷ before)
    pub was_up : T (console_up (since ++ Put n cells ∷ before))

  -- and came back; `Restarted` says the same of the controller
  pub record ConsoleRestarted (n : ℕ) (l : Log M) : Type 0 where
    pub down : Log M
    pub after : Log M
    pub splits : l ≡ after ++ ConsoleBack ∷ down
    pub fell : ConsoleFell n down

  pub record PlainRead (l : Log M) : Type 0 where
    -- a put's number tells its place among the puts
    pub numbered : (m n : ℕ) (c d : M) (z y x : Log M) → l ≡ z ++ Put n d ∷ (y ++ Put m c ∷ x) → m < n
    -- an order is delivered with its own cells, after its put
    pub own_cells : (n : ℕ) (c : M) (z x : Log M) → l ≡ z ++ Delivered n c ∷ x → In (Put n c) x
    -- orders are delivered in the order of their puts, each at most once
    pub in_order : (m n : ℕ) (c d : M) (z y x : Log M) → l ≡ z ++ Delivered n d ∷ (y ++ Delivered m c ∷ x) → m < n
    -- a put's answer is the first after it and before the next put
    pub first : (n : ℕ) (e : Event M) (z x : Log M) → Answer n e → l ≡ z ++ e ∷ x → Awaits n x
    -- and the only one
    pub once : (n : ℕ) (e d : Event M) (z y x : Log M) → Answer n e → Answer n d → l ≡ z ++ e ∷ (y ++ d ∷ x) → ⊥
    -- OK: it was delivered before, and since the put the console has not gone down
    pub ok_means : (n : ℕ) (z x : Log M) → l ≡ z ++ AnsweredOK n ∷ x → (c : M) × In (Delivered n c) x
    pub ok_stayed : (n : ℕ) (z x : Log M) → l ≡ z ++ AnsweredOK n ∷ x → ConsoleFell n x → ⊥
    -- lost: since the put either end went down and came back
    pub lost_means : (n : ℕ) (z x : Log M) → l ≡ z ++ AnsweredLost n ∷ x → Restarted n x ⊎ ConsoleRestarted n x
    -- and if the console stayed up since the put, it won't be delivered later
    pub lost_is_final : (n : ℕ) (c : M) (z y x : Log M) → l ≡ z ++ Delivered n c ∷ (y ++ AnsweredLost n ∷ x) → (ConsoleFell n x → ⊥) → ⊥
