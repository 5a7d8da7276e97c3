-- The packet at a place of a table that holds these packets is the one at that place of the list.
use Prim.Native.Nat.{ℕ, ◌≤◌, ◌<◌}
use mathlib.Core.Path.{◌≡◌, refl, sym, ap, subst, ◌∙◌}
use mathlib.Core.Bool.{true, true≢false}
use mathlib.Core.Option as maybe
use mathlib.Core.List.{List}
use lib.Dec.{ltb}
use lib.ListN.{length}
use borrow.Author.Tests.{ltb-true, ltb-false, le-leb}
use Rattle.ground.specs.declared.refusals.Refusal.{Refusal}
use Rattle.wire.specs.declared.Head.{Head}
use Rattle.wire.specs.declared.Packet.{Packet}
use Rattle.std.specs.Prelude.{None, Result}
use Rattle.ground.specs.Choice.{chosen}
use Rattle.ground.proofs.Lists.{split}
use Rattle.ground.proofs.Tests.{by_test}
use Rattle.rules.specs.Lists.{All}
use Rattle.rules.specs.Ends as ends
use Rattle.rules.specs.Bench as rules
use Rattle.rules.specs.Relabel.{in_packet}
use Rattle.ends.specs.AsRules.{for_console, for_controller}
use Rattle.ends.specs.Packets.{to_controller_packet, to_console_packet, head_for_controller, head_for_console, read_for_console}
use Rattle.channels.specs.Packets.{to_controller_bytes, to_console_bytes}
use Rattle.channels.specs.Table.{channel, head_at, packet_at}
use Rattle.channels.proofs.Channel.{packet_at_is, head_at_is}
use Rattle.channels.proofs.Packets.{to_controller_coded, to_console_coded, ToControllerReadOk, ToConsoleReadOk}
use Rattle.bench.specs.Arriving.{heard, came_back, came_out}
use Rattle.bench.specs.declared.arriving.Came.{Came}
use Rattle.bench.proofs.RefusedByModes.{absent_is}
use Rattle.bench.proofs.Tables.{Holds}

beyond : {A : Type 0} (ps : List A) (k : ℕ) → length ps ≤ k → rules.at ps k ≡ maybe.none
unfolding ends.absent
beyond ps k h = none_at (rules.at ps k) (absent_is ps k ∙ le-leb (length ps) k h)
  where
    none_at : {A : Type 0} (o : maybe.Option A) → ends.absent o ≡ true → o ≡ maybe.none
    none_at maybe.none e = refl
    none_at (maybe.some x) e = absurd (true≢false (sym e))

-- ## To the console

console_own : (p : ends.ToConsole) → for_console (head_for_console (to_console_packet p).head) ≡ maybe.some p
console_own (ends.offer j i) = refl
console_own (ends.ok i) = refl
console_own (ends.lost i) = refl

back_there : (ps : List ends.ToConsole) (k : ℕ) → All ToConsoleReadOk ps → k < length ps → for_console (read_for_console (head_at (channel to_console_bytes ps) k)) ≡ rules.at ps k
back_there ps k g h =
    let s = split ps k h in
    ap (λ (r : Result Head Refusal). for_console (read_for_console r)) (head_at_is to_console_coded ps k g s.found) ∙ console_own s.it ∙ sym s.found

pub back_is : (ps : List ends.ToConsole) (t : List ℕ) (n k : ℕ) → Holds to_console_coded ps t n → for_console (came_back t n k).console ≡ rules.at ps k
unfolding came_back chosen
back_is ps t n k h =
    by_test (ltb k n)
    (λ y. rw y (ap (λ (x : List ℕ). for_console (read_for_console (head_at x k))) h.table ∙ back_there ps k h.good (subst (λ (x : ℕ). k < x) h.number (ltb-true k n y))))
    (λ f. rw f (sym (beyond ps k (subst (λ (x : ℕ). x ≤ k) h.number (ltb-false k n f)))))

-- ## To the controller, with its message beside it

abbrev pub beside : Came → maybe.Option (ends.ToController (List ℕ))
beside c = maybe.map (in_packet (λ _. c.message)) (for_controller c.controller)

controller_own : (p : ends.ToController (List ℕ)) → beside (record { console = None; controller = head_for_controller (to_controller_packet p).head; message = (to_controller_packet p).message }) ≡ maybe.some p
controller_own (ends.need_i j) = refl
controller_own (ends.order i m) = refl
controller_own (ends.done i) = refl

out_there : (ps : List (ends.ToController (List ℕ))) (k : ℕ) → All ToControllerReadOk ps → k < length ps → beside (heard (packet_at (channel to_controller_bytes ps) k)) ≡ rules.at ps k
out_there ps k g h =
    let s = split ps k h in
    ap (λ (r : Result Packet Refusal). beside (heard r)) (packet_at_is to_controller_coded ps k g s.found) ∙ controller_own s.it ∙ sym s.found

pub out_is : (ps : List (ends.ToController (List ℕ))) (t : List ℕ) (n k : ℕ) → Holds to_controller_coded ps t n → beside (came_out t n k) ≡ rules.at ps k
unfolding came_out chosen
out_is ps t n k h =
    by_test (ltb k n)
    (λ y. rw y (ap (λ (x : List ℕ). beside (heard (packet_at x k))) h.table ∙ out_there ps k h.good (subst (λ (x : ℕ). k < x) h.number (ltb-true k n y))))
    (λ f. rw f (sym (beyond ps k (subst (λ (x : ℕ). x ≤ k) h.number (ltb-false k n f)))))
