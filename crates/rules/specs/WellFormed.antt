-- What document 01 calls well formed, of the rules' ends and bench. (That a mode has j or last, j and i or last, is in the modes.)
-- Assumes nothing.
use Rattle.std.specs.Prelude.{ℕ, ◌≤◌, ◌≡◌, Bool, true, length}
use Rattle.rules.specs.Supply.{Supply}
use Rattle.rules.specs.Ends.{ToController, ToConsole, Console, Controller, ConsoleAct, ControllerAct}
use Rattle.rules.specs.Bench.{Bench, places}
use Rattle.rules.specs.Lists.{All}
use Rattle.rules.specs.Bears.{ToControllerBears, ConsoleBears, ToConsoleBears, ControllerBears, ConsoleActBears, ControllerActBears}
use Rattle.rules.specs.Bears.{Any}

-- a number of an end or of a packet
abbrev pub Number : {S : Type 0} → Supply S → ℕ → Type 0
Number U n = U.number n ≡ true

abbrev pub Used : {S : Type 0} → Supply S → S → ℕ → Type 0
Used U s n = U.used s n ≡ true

-- a number that an end holds and its own supply gave
abbrev pub Given : {S : Type 0} → Supply S → S → ℕ → Type 0
Given U s n = Number U n × Used U s n

abbrev pub Good : {M : Type 0} → (M → Bool) → M → Type 0
Good good m = good m ≡ true

-- ## Packets, and what an act hands to an end alone

module _ {S M : Type 0} (U : Supply S) (good : M → Bool) where
  abbrev pub ToControllerOk : ToController M → Type 0
  ToControllerOk p = ToControllerBears (Number U) (Number U) (Good good) p

  abbrev pub ControllerHandedOk : ControllerAct M → Type 0
  ControllerHandedOk act = ControllerActBears (Number U) (Number U) (Good good) act

module _ {S : Type 0} (U : Supply S) where
  abbrev pub ToConsoleOk : ToConsole → Type 0
  ToConsoleOk p = ToConsoleBears (Number U) (Number U) p

  -- a put's message may be any: refusal 11 looks at it
  abbrev pub ConsoleHandedOk : {M : Type 0} → ConsoleAct M → Type 0
  ConsoleHandedOk act = ConsoleActBears (Number U) (Number U) Any act

-- ## The ends

-- j is at most last used J; last is an I, and the other end's
pub record ConsoleOk {S M : Type 0} (U : Supply S) (good : M → Bool) (e : Console S M) : Type 0 where
  pub numbers : U.sound e.numbers ≡ true
  pub mode : ConsoleBears (Given U e.numbers) (Number U) (Good good) e.mode

-- i and last are at most last used I; j is the other end's
pub record ControllerOk {S : Type 0} (U : Supply S) (e : Controller S) : Type 0 where
  pub numbers : U.sound e.numbers ≡ true
  pub mode : ControllerBears (Number U) (Given U e.numbers) e.mode

-- ## The bench

pub record WellFormed {S M : Type 0} (U : Supply S) (good : M → Bool) (b : Bench S M) : Type 0 where
  pub console : ConsoleOk U good b.console
  pub controller : ControllerOk U b.controller
  pub to_controller_all : All (ToControllerOk U good) b.to_controller
  pub to_controller_room : length b.to_controller ≤ places
  pub to_console_all : All (ToConsoleOk U) b.to_console
  pub to_console_room : length b.to_console ≤ places
