-- What ends and packets bear: J numbers, I numbers and messages; and facts of all that is borne. Assumes nothing.
use Rattle.std.specs.Prelude.{ℕ}
use Rattle.rules.specs.Ends.{ToController, need_i, order, done, ToConsole, offer, ok, lost, ConsoleMode, in_need_i, in_send, ControllerMode}
use Rattle.rules.specs.Ends.{in_accept, in_ack, ConsoleAct, put, send_need_i, send_data, tell_ack, ControllerAct, send_offer, send_ok}
use Rattle.rules.specs.Lists.{Opt}

-- ## Every J there has the property F, every I the property G, every message the property P

module _ {M : Type 0} (F G : ℕ → Type 0) (P : M → Type 0) where
  abbrev pub ToControllerBears : ToController M → Type 0
  ToControllerBears (need_i j) = F j
  ToControllerBears (order i m) = G i × P m
  ToControllerBears (done i) = G i

  abbrev pub ConsoleBears : ConsoleMode M → Type 0
  ConsoleBears ConsoleMode.idle = Unit {0}
  ConsoleBears (in_need_i j m) = F j × P m
  ConsoleBears (in_send last m) = G last × P m

module _ (F G : ℕ → Type 0) where
  abbrev pub ToConsoleBears : ToConsole → Type 0
  ToConsoleBears (offer j i) = F j × G i
  ToConsoleBears (ok i) = G i
  ToConsoleBears (lost i) = G i

  abbrev pub ControllerBears : ControllerMode → Type 0
  ControllerBears ControllerMode.idle = Unit {0}
  ControllerBears (in_accept j i) = F j × G i
  ControllerBears (in_ack last) = G last

-- what an act hands to the end: the message of a put, the packet that is taken
module _ {M : Type 0} (F G : ℕ → Type 0) (P : M → Type 0) where
  abbrev pub ConsoleActBears : ConsoleAct M → Type 0
  ConsoleActBears (put m) = P m
  ConsoleActBears send_need_i = Unit {0}
  ConsoleActBears send_data = Unit {0}
  ConsoleActBears (ConsoleAct.take p) = Opt (ToConsoleBears F G) p
  ConsoleActBears ConsoleAct.go_down = Unit {0}
  ConsoleActBears ConsoleAct.come_back = Unit {0}
  ConsoleActBears tell_ack = Unit {0}

  abbrev pub ControllerActBears : ControllerAct M → Type 0
  ControllerActBears send_offer = Unit {0}
  ControllerActBears send_ok = Unit {0}
  ControllerActBears (ControllerAct.take p) = Opt (ToControllerBears F G P) p
  ControllerActBears ControllerAct.go_down = Unit {0}
  ControllerActBears ControllerAct.come_back = Unit {0}

-- nothing is asked
abbrev pub Any : {A : Type 0} → A → Type 0
Any x = Unit {0}
