-- Worked examples of the bench, computed: what is well formed, each refusal and which comes first, the room, and the bounds.
use Prim.Native.Nat.{ℕ}
use mathlib.Core.Path.{◌≡◌, refl}
use mathlib.Core.Bool.{true, false}
use mathlib.Core.List.{List, [], ◌∷◌, ◌++◌, map}
use lib.ListN.{replicate}
use Rattle.ground.specs.Refusals.{refusal_of}
use Rattle.ground.specs.Cell.{cells, is_message, spaces}
use Rattle.ground.specs.Choice.{chosen}
use Rattle.ground.specs.Every.{filled}
use Rattle.wire.specs.Number.{bytes_of, value}
use Rattle.wire.specs.Packet.{is_blank, packet_bytes, head_of, head_at, read_refusal, head_read}
use Rattle.rules.specs.Letters.{letters, among, letter}
use Rattle.rules.specs.Ends.{ToController, need_i, order, done, ToConsole, offer, ok}
use Rattle.rules.specs.Bench as rules
use Rattle.rules.specs.Reading.{readings}
use Rattle.rules.specs.Supply.{numbers_rules}
use Rattle.numbers.specs.Numbers.{numbers_fresh}
use Rattle.ends_console.specs.Fields.{console_ok, console_mode, console_with, fresh_console, downed_console}
use Rattle.ends_controller.specs.Fields.{controller_ok, controller_mode, controller_with, fresh_controller}
use Rattle.ends_console.specs.declared.Mode.TheVariants as console-mode
use Rattle.ends_console.specs.declared.Mode.TheVariants.{Send}
use Rattle.ends_controller.specs.declared.Mode.TheVariants as controller-mode
use Rattle.ends.specs.declared.Report.{Report}
use Rattle.ends.specs.declared.Report.TheVariants as report
use Rattle.ends_console.specs.declared.fields.Console.{Console}
use Rattle.ends_controller.specs.declared.fields.Controller.{Controller}
use Rattle.channels.specs.Packets.{to_controller_bytes, to_controller_read, to_console_bytes, to_console_read}
use Rattle.channels.specs.Table.{laid, channel, packets, heads_pass, table_ok}
use Rattle.bench.specs.AsRules.{bench_ok, bench_means, bench_back}
use Rattle.bench.specs.Promise.{Result, bench_refused, bench_told, bench_step, bench_fresh}
use Rattle.bench.specs.declared.Action.{Action}
use Rattle.bench.specs.declared.Bench.{Bench}

-- for proofs: `unfolding computes` opens all that a step is made of
unfoldable pub computes : Unit {0}
unfolding bench_step bench_fresh bench_refused bench_told bench_back bench_means bench_ok console_ok console_mode controller_ok controller_mode table_ok
    heads_pass packets channel laid to_controller_bytes to_controller_read to_console_bytes to_console_read packet_bytes head_read read_refusal head_at head_of
    value bytes_of is_blank is_message cells filled letters among letter rules.rules readings numbers_rules chosen
computes = tt

-- ## Benches and actions

abbrev out : List (ToController (List ℕ)) → List ℕ
out ps = channel to_controller_bytes ps

abbrev back : List ToConsole → List ℕ
back ps = channel to_console_bytes ps

abbrev clear : List ℕ
clear = replicate 2048 0

abbrev bench : Console → Controller → ℕ → ℕ → Bench
bench c d sent returned = record { console = c; controller = d; sent = sent; returned = returned }

abbrev idle : Console
idle = fresh_console (record { 0 = 0 })

abbrev free : Controller
free = fresh_controller (record { 0 = 3 })

-- an action as an entry is handed it: letter, place, copies, message
abbrev act : ℕ → ℕ → ℕ → List ℕ → Action
act letter place copies message = record { letter = letter; place = place; copies = copies; message = message }

-- a row with a byte in it
abbrev row : ℕ → List ℕ
row b = b ∷ replicate 15 0x41

abbrev refused : ℕ → Report
refused n = report.Refused (refusal_of n)

abbrev Case : Type 0
Case = Bench × Action × List ℕ × List ℕ

abbrev tells : Case → Report
tells c = (bench_step c.0 c.1 c.2 c.3).outcome.report

-- ## 2: each way not to be well formed, met by C, which uses no field. A letter that is no action is 1 all the same

abbrev meets : Console → Controller → ℕ → ℕ → List ℕ → List ℕ → Case
meets c d sent returned to_controller_all to_console_all = (bench c d sent returned, act 0x43 0 0 spaces, to_controller_all, to_console_all)

-- lengths, counts, no packet below the count, a packet or a byte above it, packets of the other direction
tables_ill : map tells
    (meets idle free 0 0 (replicate 2047 0) clear
    ∷ meets idle free 0 0 clear (replicate 2049 0)
    ∷ meets idle free 65 0 clear clear
    ∷ meets idle free 0 65 clear clear
    ∷ meets idle free 1 0 clear clear
    ∷ meets idle free 0 1 clear clear
    ∷ meets idle free 0 0 (out (need_i 1 ∷ [])) clear
    ∷ meets idle free 0 0 clear (replicate 2047 0 ++ 1 ∷ [])
    ∷ meets idle free 1 0 (back (ok 1 ∷ [])) clear
    ∷ meets idle free 0 1 clear (out (done 1 ∷ []))
    ∷ (bench idle free 65 65, act 0x63 64 4 (row 0x7F), [], [])
    ∷ [])
    ≡ map refused (2 ∷ 2 ∷ 2 ∷ 2 ∷ 2 ∷ 2 ∷ 2 ∷ 2 ∷ 2 ∷ 2 ∷ 1 ∷ [])
unfolding computes
tables_ill = refl

abbrev holds : List ℕ → ℕ → ℕ → Console
holds m j last = record { numbers = record { used = 3; reserved = 66; block = 64 }; held = true; message = m; j = record { 0 = j }; last = record { 0 = last }; up = true; ack = false }

abbrev holds_none : List ℕ → ℕ → ℕ → Console
holds_none m j last = record { numbers = record { used = 3; reserved = 66; block = 64 }; held = false; message = m; j = record { 0 = j }; last = record { 0 = last }; up = true; ack = false }

abbrev has : ℕ → ℕ → ℕ → Controller
has j i last = record { numbers = record { used = 3; reserved = 66; block = 64 }; j = record { 0 = j }; i = record { 0 = i }; last = record { 0 = last }; up = true }

-- a message with 0x7F, both numbers, none, j above last used; none held, and a message, j or last; j or i alone, i and last, each above last used
ends_ill : map (λ (e : Console × Controller). tells (meets e.0 e.1 0 0 clear clear))
    ((holds (row 0x7F) 3 0, free)
    ∷ (holds (row 0x41) 3 5, free)
    ∷ (holds (row 0x41) 0 0, free)
    ∷ (holds (row 0x41) 4 0, free)
    ∷ (holds_none (row 0x41) 0 0, free)
    ∷ (holds_none spaces 3 0, free)
    ∷ (holds_none spaces 0 3, free)
    ∷ (idle, has 1 0 0)
    ∷ (idle, has 0 3 0)
    ∷ (idle, has 1 3 3)
    ∷ (idle, has 1 4 0)
    ∷ (idle, has 0 0 4)
    ∷ [])
    ≡ replicate 12 (refused 2)
unfolding computes
ends_ill = refl

abbrev idle_with : ℕ → ℕ → ℕ → Console
idle_with used reserved block = console_with (record { used = used; reserved = reserved; block = block }) console-mode.Idle true false spaces

abbrev free_with : ℕ → ℕ → ℕ → Controller
free_with used reserved block = controller_with (record { used = used; reserved = reserved; block = block }) controller-mode.Idle true

-- a block of 0 or 1,025, last used above reserved; blocks of 1 and 1,024 are good
numbers_ill : map (λ (e : Console × Controller). tells (meets e.0 e.1 0 0 clear clear))
    ((idle_with 3 64 0, free)
    ∷ (idle_with 3 64 1025, free)
    ∷ (idle_with 65 64 64, free)
    ∷ (idle, free_with 3 64 0)
    ∷ (idle, free_with 3 64 1025)
    ∷ (idle, free_with 65 64 64)
    ∷ (idle_with 3 64 1, free_with 3 64 1024)
    ∷ [])
    ≡ replicate 6 (refused 2) ++ report.Nothing ∷ []
unfolding computes
numbers_ill = refl

-- ## Refusals of a well-formed bench, and which comes first

abbrev asking : Console
asking = holds (row 0x41) 3 0

abbrev down : Console
down = downed_console (numbers_fresh 3)

abbrev spent : ℕ
spent = 4294967295

abbrev no_more : Console
no_more = console_with (numbers_fresh spent) (Send (record { 0 = 1 })) true false (row 0x41)

-- nothing in the air: a console, and what it is asked
abbrev told : Console × Action → Report
told c = tells (bench c.0 free 0 0, c.1, clear, clear)

-- P: cells, 11 before 4, 4, 6 before 8, 8. Q: 10, before 4 and 6; 4 before 6, 6. S: 10 and 4 before 3, 3. V: 5
console_refuses : map told
    ((idle, act 0x50 0 0 (row 0x1F))
    ∷ (idle, act 0x50 0 0 (row 0x7F))
    ∷ (down, act 0x50 0 0 (row 0x7F))
    ∷ (down, act 0x50 0 0 (row 0x41))
    ∷ (no_more, act 0x50 0 0 (row 0x41))
    ∷ (fresh_console (record { 0 = spent }), act 0x50 0 0 (row 0x41))
    ∷ (asking, act 0x51 0 4 spaces)
    ∷ (down, act 0x51 0 4 spaces)
    ∷ (idle, act 0x51 0 4 spaces)
    ∷ (down, act 0x51 0 3 spaces)
    ∷ (idle, act 0x51 0 3 spaces)
    ∷ (down, act 0x53 0 4 spaces)
    ∷ (down, act 0x53 0 3 spaces)
    ∷ (idle, act 0x53 0 3 spaces)
    ∷ (idle, act 0x56 0 0 spaces)
    ∷ [])
    ≡ map refused (11 ∷ 11 ∷ 11 ∷ 4 ∷ 6 ∷ 8 ∷ 10 ∷ 10 ∷ 10 ∷ 4 ∷ 6 ∷ 10 ∷ 4 ∷ 3 ∷ 5 ∷ [])
unfolding computes
console_refuses = refl

-- cells 0x20 and 0x7E; fields that are not used: C with place 64, 4 copies and 0x7F, P with place 64 and 4 copies, Q with place 64 and 0x7F
accepted : map told
    ((idle, act 0x50 0 0 (row 0x20))
    ∷ (idle, act 0x50 0 0 (row 0x7E))
    ∷ (idle, act 0x43 64 4 (row 0x7F))
    ∷ (idle, act 0x50 64 4 (row 0x41))
    ∷ (asking, act 0x51 64 3 (row 0x7F))
    ∷ [])
    ≡ replicate 5 report.Nothing
unfolding computes
accepted = refl

-- ## Room: both channels full

abbrev full : Console → ToController (List ℕ) → Action → Case
full c p a = (bench c free 64 64, a, out (replicate 64 p), back (replicate 64 (ok 3)))

-- 9 of Q, and of R's reply; 6 and 7 before 9; place 64
no_room : map tells
    (full asking (need_i 3) (act 0x51 0 1 spaces)
    ∷ full idle (need_i 3) (act 0x51 0 1 spaces)
    ∷ full asking (order 3 (row 0x41)) (act 0x52 63 1 spaces)
    ∷ full asking (order 5 (row 0x41)) (act 0x52 63 1 spaces)
    ∷ full asking (need_i 3) (act 0x52 64 1 spaces)
    ∷ full asking (need_i 3) (act 0x4C 64 0 spaces)
    ∷ [])
    ≡ map refused (9 ∷ 6 ∷ 9 ∷ 7 ∷ 3 ∷ 3 ∷ [])
unfolding computes
no_room = refl

-- no copies, and no reply: copies is without effect on the room
room : map tells
    (full asking (need_i 3) (act 0x51 0 0 spaces)
    ∷ full asking (order 3 (row 0x41)) (act 0x52 63 0 spaces)
    ∷ full asking (need_i 3) (act 0x52 63 3 spaces)
    ∷ full asking (need_i 3) (act 0x4D 63 0 spaces)
    ∷ [])
    ≡ replicate 4 report.Nothing
unfolding computes
room = refl

-- ## A delivery, whole: the packet at place 1 is taken out, and two copies of OK stand side by side

delivery : bench_step (bench asking (has 3 3 0) 3 1) (act 0x52 1 2 spaces) (out (need_i 3 ∷ order 3 (row 0x41) ∷ done 2 ∷ [])) (back (offer 3 3 ∷ []))
    ≡ record {
      outcome = record { report = report.Delivered; message = row 0x41; bench = bench asking (has 0 0 3) 2 3 };
      out = out (need_i 3 ∷ done 2 ∷ []);
      back = back (offer 3 3 ∷ ok 3 ∷ ok 3 ∷ []);
    }
unfolding computes
delivery = refl

-- ## L of place 1, and M of place 0: that packet is out of its channel, and nothing else is done

abbrev loses : ℕ → ℕ → Case
loses letter place = (bench idle free 3 2, act letter place 0 spaces, out (need_i 1 ∷ done 2 ∷ done 3 ∷ []), back (ok 2 ∷ offer 1 3 ∷ []))

abbrev left : ℕ → ℕ → List (ToController (List ℕ)) → List ToConsole → Result
left sent returned ps qs =
    record { outcome = record { report = report.Nothing; message = spaces; bench = bench idle free sent returned }; out = out ps; back = back qs }

lost_on_the_way : map (λ c. bench_step c.0 c.1 c.2 c.3) (loses 0x4C 1 ∷ loses 0x4D 0 ∷ [])
    ≡ left 2 2 (need_i 1 ∷ done 3 ∷ []) (ok 2 ∷ offer 1 3 ∷ []) ∷ left 3 1 (need_i 1 ∷ done 2 ∷ done 3 ∷ []) (offer 1 3 ∷ []) ∷ []
unfolding computes
lost_on_the_way = refl

-- ## Fresh: the tables cleared; a table of another length is 2, and neither is touched

abbrev begun : Bench
begun = bench (fresh_console (record { 0 = spent })) (fresh_controller (record { 0 = 3 })) 0 0

fresh_clears : bench_fresh (record { 0 = spent }) (record { 0 = 3 }) (replicate 2048 7) (replicate 2048 8)
    ≡ record { outcome = record { report = report.Nothing; message = spaces; bench = begun }; out = clear; back = clear }
unfolding computes
fresh_clears = refl

fresh_ill : bench_fresh (record { 0 = spent }) (record { 0 = 3 }) (replicate 2048 7) (replicate 2047 8)
    ≡ record { outcome = record { report = refused 2; message = spaces; bench = begun }; out = replicate 2048 7; back = replicate 2047 8 }
unfolding computes
fresh_ill = refl
