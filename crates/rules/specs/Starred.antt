-- The starred bench checks of document 01, with those of request 2, one table. A line gives the bench and its ack at the start, the actions, what each
-- reports, and the bench and its ack at the end. Assumes nothing.
use Rattle.std.specs.Prelude.{ℕ, true, false, List, [], ◌∷◌, ◌++◌, replicate}
use Rattle.ground.specs.Block.{fresh_block}
use Rattle.ground.specs.Cell.{is_message, spaces}
use Rattle.rules.specs.Supply.{largest, Numbers, numbering, fresh_numbers}
use Rattle.rules.specs.Letters.{p_put, q_need, d_data, s_take, c_down, v_back, o_offer, r_take, x_down, y_back, l_lose, a_ack}
use Rattle.rules.specs.Ends.{ToController, need_i, order, ToConsole, ok, lost, ConsoleMode, in_need_i, in_send, ControllerMode, in_ack, End}
use Rattle.rules.specs.Ends.{Console, Controller, Report, nothing, delivered, answered_ok, answered_lost, refused}
use Rattle.rules.specs.Bench.{Bench, Action, action}
use Rattle.rules.specs.Reading.{Reading, reading, unread, read_run, read_reports, fresh_reading}

-- ## Actions as document 01 writes them: the figure is the copies of Q D O, and the place of R S L

abbrev pub Row : Type 0
Row = List ℕ

abbrev pub P : Row → Action Row
P m = action p_put 0 0 m

abbrev pub Q : ℕ → Action Row
Q n = action q_need 0 n spaces

abbrev pub D : ℕ → Action Row
D n = action d_data 0 n spaces

abbrev pub S : ℕ → Action Row
S k = action s_take k 0 spaces

abbrev pub C : Action Row
C = action c_down 0 0 spaces

abbrev pub «V» : Action Row
«V» = action v_back 0 0 spaces

abbrev pub O : ℕ → Action Row
O n = action o_offer 0 n spaces

abbrev pub R : ℕ → Action Row
R k = action r_take k 0 spaces

abbrev pub X : Action Row
X = action x_down 0 0 spaces

abbrev pub Y : Action Row
Y = action y_back 0 0 spaces

abbrev L : ℕ → Action Row
L k = action l_lose k 0 spaces

abbrev pub A : Action Row
A = action a_ack 0 0 spaces

-- R and S have no copies unless said
infix 70 ◌with◌
abbrev pub ◌with◌ : Action Row → ℕ → Action Row
a with n = action a.letter a.place n a.message

-- ## Rows of 16 cells

abbrev pub a : Row
a = replicate 16 0x41

abbrev pub b : Row
b = replicate 16 0x42

-- a row with 0x7F
abbrev bad : Row
bad = 0x7F ∷ replicate 15 0x20

-- records 1 to 7 of the listing, with START FILLER 03
abbrev pub start_filler : Row
start_filler =
    0x53 ∷ 0x54 ∷ 0x41 ∷ 0x52 ∷ 0x54 ∷ 0x20 ∷ 0x46 ∷ 0x49 ∷ 0x4C ∷ 0x4C ∷ 0x45 ∷ 0x52 ∷ 0x20 ∷ 0x30 ∷ 0x33 ∷ 0x20 ∷ []

abbrev pub records_1_to_7 : List (Action Row)
records_1_to_7 = P start_filler ∷ Q 1 ∷ R 0 ∷ O 1 ∷ S 0 ∷ D 2 ∷ R 0 with 1 ∷ []

-- and all ten: the last one is refused
abbrev pub the_listing : List (Action Row)
the_listing = records_1_to_7 ++ S 0 ∷ R 0 with 1 ∷ S 0 ∷ []

-- ## A line

-- each end with its last used and what is reserved; the block is a fresh end's
abbrev at : ℕ → ℕ → Numbers
at last reserved = record { last = last; reserved = reserved; block = fresh_block }

abbrev up : {Mode : Type 0} → Numbers → Mode → End Numbers Mode
up numbers mode = record { numbers = numbers; mode = mode; up = true }

abbrev down : {Mode : Type 0} → Numbers → Mode → End Numbers Mode
down numbers mode = record { numbers = numbers; mode = mode; up = false }

-- the ack is lost unless said
abbrev bench : Console Numbers Row → Controller Numbers → List (ToController Row) → List ToConsole → Reading (Bench Numbers Row)
bench console controller to_controller to_console =
    unread (record { console = console; controller = controller; to_controller = to_controller; to_console = to_console })

abbrev keeps_ok : Reading (Bench Numbers Row) → Reading (Bench Numbers Row)
keeps_ok r = reading r.history true

abbrev starting : ℕ → ℕ → Reading (Bench Numbers Row)
starting j i = fresh_reading (fresh_numbers j) (fresh_numbers i)

pub record Check : Type 0 where
  pub start : Reading (Bench Numbers Row)
  pub actions : List (Action Row)
  pub said : List (Report Row)
  pub left : Reading (Bench Numbers Row)

abbrev check : Reading (Bench Numbers Row) → List (Action Row) → List (Report Row) → Reading (Bench Numbers Row) → Check
check start actions said left = record { start = start; actions = actions; said = said; left = left }

-- what is then seen
unfoldable pub played : Check → Check
played c =
    check c.start c.actions (read_reports numbering is_message c.start c.actions) (read_run numbering is_message c.start c.actions)

-- ## The table

unfoldable pub starred : List Check
starred =
    -- P, P: the second is 6
    check (starting 0 0) (P a ∷ P b ∷ []) (nothing ∷ refused 6 ∷ [])
    (bench (up (at 1 64) (in_need_i 1 a)) (up (at 0 0) ControllerMode.idle) [] [])
    -- starting J 4,294,967,294: P is accepted; starting at 4,294,967,295: 8
    ∷ check (starting 4_294_967_294 0) (P a ∷ []) (nothing ∷ [])
    (bench (up (at largest largest) (in_need_i 4_294_967_295 a)) (up (at 0 0) ControllerMode.idle) [] [])
    ∷ check (starting 4_294_967_295 0) (P a ∷ []) (refused 8 ∷ [])
    (bench (up (at largest largest) ConsoleMode.idle) (up (at 0 0) ControllerMode.idle) [] [])
    -- starting I 4,294,967,295: P, Q1, R0 takes the packet and the controller stays idle
    ∷ check (starting 0 4_294_967_295) (P a ∷ Q 1 ∷ R 0 ∷ []) (nothing ∷ nothing ∷ nothing ∷ [])
    (bench (up (at 1 64) (in_need_i 1 a)) (up (at largest largest) ControllerMode.idle) [] [])
    -- fresh: L0 is 3
    ∷ check (starting 0 0) (L 0 ∷ []) (refused 3 ∷ []) (starting 0 0)
    -- fresh: V is 5; C, C, both accepted
    ∷ check (starting 0 0) («V» ∷ C ∷ C ∷ []) (refused 5 ∷ nothing ∷ nothing ∷ [])
    (bench (down (at 0 0) ConsoleMode.idle) (up (at 0 0) ControllerMode.idle) [] [])
    -- after C: P of a good row is 4; P of a row with 0x7F is 11
    ∷ check (starting 0 0) (C ∷ P a ∷ P bad ∷ []) (nothing ∷ refused 4 ∷ refused 11 ∷ [])
    (bench (down (at 0 0) ConsoleMode.idle) (up (at 0 0) ControllerMode.idle) [] [])
    -- records 1 to 7, then X, Y, D1, R0 with one copy: the first OK is still in the air at place 0, lost stands at place 1
    ∷ check (starting 0 0) (records_1_to_7 ++ X ∷ Y ∷ D 1 ∷ R 0 with 1 ∷ [])
    (replicate 6 nothing ++ delivered start_filler ∷ replicate 4 nothing)
    (bench (up (at 1 64) (in_send 1 start_filler)) (up (at 64 64) ControllerMode.idle) (order 1 start_filler ∷ []) (ok 1 ∷ lost 1 ∷ []))
    -- then S1 reports nothing, and A tells lost although the order was delivered
    ∷ check (starting 0 0) (records_1_to_7 ++ X ∷ Y ∷ D 1 ∷ R 0 with 1 ∷ S 1 ∷ A ∷ [])
    (replicate 6 nothing ++ delivered start_filler ∷ replicate 5 nothing ++ answered_lost ∷ [])
    (bench (up (at 1 64) ConsoleMode.idle) (up (at 64 64) ControllerMode.idle) (order 1 start_filler ∷ []) (ok 1 ∷ []))
    -- in its place S0, which stores OK; and A tells it
    ∷ check (starting 0 0) (records_1_to_7 ++ X ∷ Y ∷ D 1 ∷ R 0 with 1 ∷ S 0 ∷ [])
    (replicate 6 nothing ++ delivered start_filler ∷ replicate 5 nothing)
    (keeps_ok (bench (up (at 1 64) ConsoleMode.idle) (up (at 64 64) ControllerMode.idle) (order 1 start_filler ∷ []) (lost 1 ∷ [])))
    ∷ check (starting 0 0) (records_1_to_7 ++ X ∷ Y ∷ D 1 ∷ R 0 with 1 ∷ S 0 ∷ A ∷ [])
    (replicate 6 nothing ++ delivered start_filler ∷ replicate 5 nothing ++ answered_ok ∷ [])
    (bench (up (at 1 64) ConsoleMode.idle) (up (at 64 64) ControllerMode.idle) (order 1 start_filler ∷ []) (lost 1 ∷ []))
    -- P a, Q1, R0, O1, S0, D1, C, V, P b, R0: a is delivered while b is held
    ∷ check (starting 0 0) (P a ∷ Q 1 ∷ R 0 ∷ O 1 ∷ S 0 ∷ D 1 ∷ C ∷ «V» ∷ P b ∷ R 0 ∷ [])
    (replicate 9 nothing ++ delivered a ∷ []) (bench (up (at 65 128) (in_need_i 65 b)) (up (at 1 64) (in_ack 1)) [] [])
    -- P, Q1, R0, O1, C, V, P, S0 with one copy, R0: the controller is idle again
    ∷ check (starting 0 0) (P a ∷ Q 1 ∷ R 0 ∷ O 1 ∷ C ∷ «V» ∷ P a ∷ S 0 with 1 ∷ R 0 ∷ [])
    (replicate 9 nothing) (bench (up (at 65 128) (in_need_i 65 a)) (up (at 1 64) ControllerMode.idle) [] [])
    -- P, Q3 21 times, Q1: 64 packets. Q1 is 9, Q0 is accepted
    ∷ check (starting 0 0) (P a ∷ replicate 21 (Q 3) ++ Q 1 ∷ Q 1 ∷ Q 0 ∷ [])
    (replicate 23 nothing ++ refused 9 ∷ nothing ∷ [])
    (bench (up (at 1 64) (in_need_i 1 a)) (up (at 0 0) ControllerMode.idle) (replicate 64 (need_i 1)) [])
    -- fresh: A tells lost. P, A: 6. P, C, A: 4
    ∷ check (starting 0 0) (A ∷ []) (answered_lost ∷ []) (starting 0 0)
    ∷ check (starting 0 0) (P a ∷ A ∷ []) (nothing ∷ refused 6 ∷ [])
    (bench (up (at 1 64) (in_need_i 1 a)) (up (at 0 0) ControllerMode.idle) [] [])
    ∷ check (starting 0 0) (P a ∷ C ∷ A ∷ []) (nothing ∷ nothing ∷ refused 4 ∷ [])
    (bench (down (at 1 64) (in_need_i 1 a)) (up (at 0 0) ControllerMode.idle) [] [])
    -- the listing, A, A: record 8 reports nothing; OK, and then lost
    ∷ check (starting 0 0) (the_listing ++ A ∷ A ∷ [])
    (replicate 6 nothing ++ delivered start_filler ∷ nothing ∷ nothing ∷ refused 3 ∷ answered_ok ∷ answered_lost ∷ [])
    (bench (up (at 1 64) ConsoleMode.idle) (up (at 1 64) (in_ack 1)) [] [])
    -- last used I 3, data with I 5 at place 0: R is 7, although 5 is reserved
    ∷ check (bench (up (at 0 0) ConsoleMode.idle) (up (at 3 64) ControllerMode.idle) (order 5 a ∷ []) []) (R 0 ∷ []) (refused 7 ∷ [])
    (bench (up (at 0 0) ConsoleMode.idle) (up (at 3 64) ControllerMode.idle) (order 5 a ∷ []) [])
    ∷ []
