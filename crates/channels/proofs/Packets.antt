-- The packets of the rules and their 32 bytes, at each direction.
use Prim.Native.Nat.{ℕ, ◌^◌, ◌<◌}
use mathlib.Core.Path.{◌≡◌, refl, sym, ap, subst, ◌∙◌}
use mathlib.Core.List.{List}
use mathlib.Core.Bool.{true, false≢true}
use native.Mathlib.Omega.{arith}
use borrow.Author.Tests.{le-leb, leb-true}
use lib.Dec.{leb}
use Rattle.std.specs.Prelude.{Result, drop}
use Rattle.std.specs.Prelude as result
use Rattle.ground.specs.declared.refusals.Refusal.{Refusal}
use Rattle.ground.specs.Bytes.{Bytes}
use Rattle.ground.specs.Cell.{is_message}
use Rattle.ground.proofs.Tests.{and_left, and_right, and_both}
use Rattle.wire.specs.declared.Direction.{Direction}
use Rattle.wire.specs.declared.Direction.TheVariants.{ToController as Out, ToConsole as Back}
use Rattle.wire.specs.declared.Head.{Head}
use Rattle.wire.specs.declared.Head.TheVariants.{NeedI, Offer, Data, Ok, Lost, Done}
use Rattle.wire.specs.declared.I.{I}
use Rattle.wire.specs.declared.J.{J}
use Rattle.wire.specs.declared.Packet.{Packet}
use Rattle.wire.specs.Packet.{direction_of, fits, packet_bytes, head_read, with_message, packet_read, accepted}
use Rattle.wire.proofs.PacketsFit.{Typed, fits_numbers, fits_message, blank_is, need_i_fits, offer_fits, data_fits, ok_fits, lost_fits, done_fits, first_above, second_above, to_controller_all, to_console_all}
use Rattle.wire.proofs.Trips.{read_back, Taken, taken, was_read}
use Rattle.rules.specs.Ends.{ToController, need_i, order, done, ToConsole, offer, ok, lost}
use Rattle.rules.specs.Supply.{numbering, largest}
use Rattle.rules.specs.WellFormed.{ToControllerOk, ToConsoleOk, Number}
use Rattle.channels.specs.Packets.{to_controller_bytes, as_to_controller, to_controller_read, to_console_bytes, as_to_console, to_console_read}
use Rattle.ends.specs.Packets.{to_controller_packet, to_console_packet}
use Rattle.channels.specs.Table.{same_way, goes}
use Rattle.channels.proofs.Channel.{Coded}

-- a number is from 1 to 4,294,967,295
above : (n : ℕ) → Number numbering n → 0 < n
above n h = leb-true 1 n (and_left (leb 1 n) (leb n largest) h)

below : (n : ℕ) → Number numbering n → n < 2 ^ 32
below n h = let k = leb-true n largest (and_right (leb 1 n) (leb n largest) h) in omega (arith, k)

number : (n : ℕ) → 0 < n → n < 2 ^ 32 → Number numbering n
number n h k = and_both (leb 1 n) (leb n largest) (le-leb 1 n h) (le-leb n largest (omega (arith, k)))

-- ## Bytes that hold a packet of a direction

record Sent (dir : Direction) (s : List ℕ) : Type 0 where
  packet : Packet
  read : packet_read s ≡ accepted packet
  way : direction_of packet.head ≡ dir
  held : Taken s packet

same_way_lem : (a b : Direction) → same_way a b ≡ true → a ≡ b
same_way_lem Out Out e = refl
same_way_lem Out Back e = absurd (false≢true e)
same_way_lem Back Out e = absurd (false≢true e)
same_way_lem Back Back e = refl

sent_head : (dir : Direction) (s : List ℕ) → Bytes s → (r : Result Head Refusal) → head_read s ≡ r → goes dir r ≡ true → Sent dir s
sent_head dir s b (result.Err r) e g = absurd (false≢true g)
sent_head dir s b (result.Ok h) e g =
    let a : packet_read s ≡ accepted (record { head = h; message = drop 16 s }) = λ i. with_message (e i) (drop 16 s) in
    record { packet = record { head = h; message = drop 16 s }; read = a; way = same_way_lem (direction_of h) dir g; held = taken s b a }

sent : (dir : Direction) (s : List ℕ) → Bytes s → goes dir (head_read s) ≡ true → Sent dir s
sent dir s b g = sent_head dir s b (head_read s) refl g

-- ## To the controller

abbrev pub ToControllerReadOk : ToController (List ℕ) → Type 0
ToControllerReadOk p = ToControllerOk numbering is_message p

out_fits : (p : ToController (List ℕ)) → ToControllerReadOk p → fits (to_controller_packet p) ≡ true
out_fits (need_i j) h = need_i_fits (record { 0 = j }) (above j h)
out_fits (order i m) h = data_fits (record { 0 = i }) m (above i h.0) h.1
out_fits (done i) h = done_fits (record { 0 = i }) (above i h)

out_typed : (p : ToController (List ℕ)) → ToControllerReadOk p → Typed (to_controller_packet p)
out_typed (need_i j) h = record { first = below j h; second = omega arith }
out_typed (order i m) h = record { first = below i h.0; second = omega arith }
out_typed (done i) h = record { first = below i h; second = omega arith }

out_own : (p : ToController (List ℕ)) → as_to_controller (result.Ok (to_controller_packet p).head) (to_controller_packet p).message ≡ p
out_own (need_i j) = refl
out_own (order i m) = refl
out_own (done i) = refl

out_way : (p : ToController (List ℕ)) → same_way (direction_of (to_controller_packet p).head) Out ≡ true
out_way (need_i j) = refl
out_way (order i m) = refl
out_way (done i) = refl

out_again : (p : ToController (List ℕ)) → ToControllerReadOk p → to_controller_read (to_controller_bytes p) ≡ p
unfolding to_controller_bytes to_controller_read
out_again p h =
    let w = was_read (packet_bytes (to_controller_packet p)) (read_back (to_controller_packet p) (out_typed p h) (out_fits p h)) in (λ i. as_to_controller (w.0 i) (w.1 i)) ∙ out_own p

-- a packet that fits is the one that is read, and a good one
abbrev OutBack : Head → Type 0
OutBack h = (m : List ℕ) → fits (record { head = h; message = m }) ≡ true → Typed (record { head = h; message = m }) → (to_controller_packet (as_to_controller (result.Ok h) m) ≡ record { head = h; message = m }) × ToControllerReadOk (as_to_controller (result.Ok h) m)

out_need_i : (j : J) → OutBack (NeedI j)
out_need_i j m f t =
    (λ n. record { head = NeedI j; message = sym (blank_is m (fits_message _ f)) n }, number j.0 (first_above (NeedI j) (fits_numbers _ f)) t.first)

out_data : (i : I) → OutBack (Data i)
out_data i m f t = (refl, (number i.0 (first_above (Data i) (fits_numbers _ f)) t.first, fits_message _ f))

out_done : (i : I) → OutBack (Done i)
out_done i m f t =
    (λ n. record { head = Done i; message = sym (blank_is m (fits_message _ f)) n }, number i.0 (first_above (Done i) (fits_numbers _ f)) t.first)

out_back : (s : List ℕ) → Bytes s → goes Out (head_read s) ≡ true → (to_controller_bytes (to_controller_read s) ≡ s) × ToControllerReadOk (to_controller_read s)
unfolding to_controller_bytes to_controller_read
out_back s b g =
    let x = sent Out s b g in
    let p = x.packet in
    let w = was_read s x.read in
    let e : as_to_controller (head_read s) (drop 16 s) ≡ as_to_controller (result.Ok p.head) p.message = λ i. as_to_controller (w.0 i) (w.1 i) in
    let q = to_controller_all OutBack out_need_i out_data out_done p.head x.way p.message x.held.fitting x.held.typed in
    (ap (λ (a : ToController (List ℕ)). packet_bytes (to_controller_packet a)) e ∙ ap packet_bytes q.0 ∙ x.held.same, subst ToControllerReadOk (sym e) q.1)

pub to_controller_coded : Coded Out to_controller_packet to_controller_bytes to_controller_read ToControllerReadOk
unfolding to_controller_bytes
to_controller_coded =
    record {
      same = λ p. refl;
      way = out_way;
      fitting = out_fits;
      typed = out_typed;
      again = out_again;
      back = out_back;
    }

-- ## To the console

abbrev pub ToConsoleReadOk : ToConsole → Type 0
ToConsoleReadOk p = ToConsoleOk numbering p

back_fits : (p : ToConsole) → ToConsoleReadOk p → fits (to_console_packet p) ≡ true
back_fits (offer j i) h = offer_fits (record { 0 = j }) (record { 0 = i }) (above j h.0) (above i h.1)
back_fits (ok i) h = ok_fits (record { 0 = i }) (above i h)
back_fits (lost i) h = lost_fits (record { 0 = i }) (above i h)

back_typed : (p : ToConsole) → ToConsoleReadOk p → Typed (to_console_packet p)
back_typed (offer j i) h = record { first = below j h.0; second = below i h.1 }
back_typed (ok i) h = record { first = below i h; second = omega arith }
back_typed (lost i) h = record { first = below i h; second = omega arith }

back_own : (p : ToConsole) → as_to_console (result.Ok (to_console_packet p).head) ≡ p
back_own (offer j i) = refl
back_own (ok i) = refl
back_own (lost i) = refl

back_way : (p : ToConsole) → same_way (direction_of (to_console_packet p).head) Back ≡ true
back_way (offer j i) = refl
back_way (ok i) = refl
back_way (lost i) = refl

back_again : (p : ToConsole) → ToConsoleReadOk p → to_console_read (to_console_bytes p) ≡ p
unfolding to_console_bytes to_console_read
back_again p h =
    ap as_to_console (was_read (packet_bytes (to_console_packet p)) (read_back (to_console_packet p) (back_typed p h) (back_fits p h))).0 ∙ back_own p

abbrev BackBack : Head → Type 0
BackBack h = (m : List ℕ) → fits (record { head = h; message = m }) ≡ true → Typed (record { head = h; message = m }) → (to_console_packet (as_to_console (result.Ok h)) ≡ record { head = h; message = m }) × ToConsoleReadOk (as_to_console (result.Ok h))

back_offer : (j : J) (i : I) → BackBack (Offer j i)
back_offer j i m f t =
    let g = fits_numbers _ f in
    (λ n. record { head = Offer j i; message = sym (blank_is m (fits_message _ f)) n }, (number j.0 (first_above (Offer j i) g) t.first, number i.0 (second_above j i g) t.second))

back_ok : (i : I) → BackBack (Ok i)
back_ok i m f t =
    (λ n. record { head = Ok i; message = sym (blank_is m (fits_message _ f)) n }, number i.0 (first_above (Ok i) (fits_numbers _ f)) t.first)

back_lost : (i : I) → BackBack (Lost i)
back_lost i m f t =
    (λ n. record { head = Lost i; message = sym (blank_is m (fits_message _ f)) n }, number i.0 (first_above (Lost i) (fits_numbers _ f)) t.first)

back_back : (s : List ℕ) → Bytes s → goes Back (head_read s) ≡ true → (to_console_bytes (to_console_read s) ≡ s) × ToConsoleReadOk (to_console_read s)
unfolding to_console_bytes to_console_read
back_back s b g =
    let x = sent Back s b g in
    let p = x.packet in
    let e : as_to_console (head_read s) ≡ as_to_console (result.Ok p.head) = ap as_to_console (was_read s x.read).0 in
    let q = to_console_all BackBack back_offer back_ok back_lost p.head x.way p.message x.held.fitting x.held.typed in
    (ap (λ (a : ToConsole). packet_bytes (to_console_packet a)) e ∙ ap packet_bytes q.0 ∙ x.held.same, subst ToConsoleReadOk (sym e) q.1)

pub to_console_coded : Coded Back to_console_packet to_console_bytes to_console_read ToConsoleReadOk
unfolding to_console_bytes
to_console_coded =
    record {
      same = λ p. refl;
      way = back_way;
      fitting = back_fits;
      typed = back_typed;
      again = back_again;
      back = back_back;
    }
