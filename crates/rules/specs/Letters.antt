-- The fourteen letters, document 01's thirteen and request 2's A: whom each asks, what it takes from a channel, and which fields of an action it uses. Assumes nothing.
use Rattle.std.specs.Prelude.{ℕ, Bool, true, false, List, [], ◌∷◌, eqb}
use Rattle.std.proofs.Math.Option.{Option, none, some}
use Rattle.ground.specs.Choice.{when◌then◌else◌}

pub data Letter : Type 0 where
  p_put q_need d_data s_take c_down v_back o_offer k_ok r_take x_down y_back l_lose m_lose a_ack : Letter

-- what the console, or the controller, can be asked to do
pub data ConsoleAsk : Type 0 where
  to_put to_send_need_i to_send_data to_take to_go_down to_come_back to_tell_ack : ConsoleAsk

pub data ControllerAsk : Type 0 where
  to_send_offer to_send_ok to_take to_go_down to_come_back : ControllerAsk

-- whom a letter asks, and to do what
pub data Asks : Type 0 where
  the_console : ConsoleAsk → Asks
  the_controller : ControllerAsk → Asks
  neither_end : Asks

-- the channel that it takes a packet out of
pub data Taken : Type 0 where
  from_neither from_to_controller from_to_console : Taken

-- a line of document 01's table: the letter's byte, whom it asks what, what it takes from which channel, and whether it uses the place, the
-- copies, the message
pub record Line : Type 0 where
  pub byte : ℕ
  pub asks : Asks
  pub takes : Taken
  pub place : Bool
  pub copies : Bool
  pub message : Bool

abbrev row : ℕ → Asks → Taken → Bool → Bool → Bool → Line
row byte asks takes place copies message =
    record { byte = byte; asks = asks; takes = takes; place = place; copies = copies; message = message }

-- THE ONE TABLE: bench, ends run alone and the list program's records go by it
unfoldable pub line : Letter → Line
line p_put = row 0x50 (the_console to_put) from_neither false false true
line q_need = row 0x51 (the_console to_send_need_i) from_neither false true false
line d_data = row 0x44 (the_console to_send_data) from_neither false true false
line s_take = row 0x53 (the_console ConsoleAsk.to_take) from_to_console true true false
line c_down = row 0x43 (the_console ConsoleAsk.to_go_down) from_neither false false false
line v_back = row 0x56 (the_console ConsoleAsk.to_come_back) from_neither false false false
line o_offer = row 0x4F (the_controller to_send_offer) from_neither false true false
line k_ok = row 0x4B (the_controller to_send_ok) from_neither false true false
line r_take = row 0x52 (the_controller ControllerAsk.to_take) from_to_controller true true false
line x_down = row 0x58 (the_controller ControllerAsk.to_go_down) from_neither false false false
line y_back = row 0x59 (the_controller ControllerAsk.to_come_back) from_neither false false false
line l_lose = row 0x4C neither_end from_to_controller true false false
line m_lose = row 0x4D neither_end from_to_console true false false
line a_ack = row 0x41 (the_console to_tell_ack) from_neither false false false

-- the table's order
unfoldable pub letters : List Letter
letters =
    p_put ∷ q_need ∷ d_data ∷ s_take ∷ c_down ∷ v_back ∷ o_offer ∷ k_ok ∷ r_take ∷ x_down ∷ y_back ∷ l_lose ∷ m_lose ∷ a_ack ∷ []

unfoldable pub among : List Letter → ℕ → Option Letter
among [] b = none
among (l ∷ ls) b = when eqb (line l).byte b then some l else among ls b

-- the letter of a byte; none: no action
unfoldable pub letter : ℕ → Option Letter
letter b = among letters b
