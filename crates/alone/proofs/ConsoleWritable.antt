-- What a well-formed console sends can be written.
use Prim.Native.Nat.{ℕ, ◌<◌}
use mathlib.Core.Path.{◌≡◌, refl, sym, ap, ◌∙◌, subst}
use mathlib.Core.Bool.{Bool, true}
use mathlib.Core.Option as maybe
use mathlib.Core.List.{List}
use native.Mathlib.Omega.{arith}
use lib.ListN.{length}
use borrow.Author.Tests.{ne_eqb}
use Rattle.std.specs.Prelude.{Option, None, Some, Result, Ok, Err}
use Rattle.ground.specs.Cell.{is_message, spaces}
use Rattle.ground.specs.Choice.{chosen}
use Rattle.ground.specs.First.{refusal}
use Rattle.ground.specs.declared.refusals.Refusal.{Refusal}
use Rattle.wire.specs.Packet.{numbered, head_read, write_refusal}
use Rattle.wire.specs.declared.Head.{Head}
use Rattle.wire.specs.declared.Head.TheVariants as head
use Rattle.wire.specs.declared.I.{I}
use Rattle.wire.specs.declared.J.{J}
use Rattle.wire.proofs.Outcomes.{read_numbered}
use Rattle.wire.proofs.PacketsFit.{need_i_fits, data_fits, done_fits, first_above, second_above}
use Rattle.rules.specs.Supply as supply
use Rattle.rules.specs.Supply.{numbering}
use Rattle.rules.specs.Lists.{Opt}
use Rattle.rules.specs.Bears.{ConsoleBears, ToControllerBears, ToConsoleBears}
use Rattle.rules.specs.Ends as rules
use Rattle.rules.specs.Letters as letters
use Rattle.rules.specs.Letters.{ConsoleAsk}
use Rattle.rules.specs.Relabel.{in_packet, in_console_act}
use Rattle.rules.proofs.Lists.{if_holds}
use Rattle.rules.proofs.Relabel.{nat_console_acts}
use Rattle.numbers.specs.Numbers.{numbers_means}
use Rattle.numbers.specs.declared.Numbers.{Numbers}
use Rattle.ends.specs.AsRules.{Beside, tested, to_console}
use Rattle.ends.specs.Packets.{to_controller_packet, to_controller_sent, head_for_console}
use Rattle.ends.specs.declared.ToConsole.{ToConsole}
use Rattle.ends_console.specs.AsRules.{mode, end, acted}
use Rattle.ends_console.specs.Fields.{console_ok, console_read, console_mode, console_end, console_with}
use Rattle.ends_console.specs.FieldsAsRules.{console_means}
use Rattle.ends_console.specs.Types.{Acted, End}
use Rattle.ends_console.specs.declared.Mode.TheVariants.{Idle, NeedI, Send}
use Rattle.ends_console.specs.declared.fields.Console.{Console}
use Rattle.ends_console.proofs.Decisions.{same_for_controller}
use Rattle.ends_console.proofs.FieldsRead.{Sound, its_own, by_mode, was_read}
use Rattle.alone.specs.Alone.{Writable, Above}
use Rattle.alone.specs.ConsolePrivate.{console_act, console_came, console_heard, console_does, message_kept}
use Rattle.alone.proofs.Refusing.{unless_holds, lent_holds}
use Rattle.alone.proofs.Sent.{fitting}

-- ## What a well-formed console's mode bears

abbrev Bears : rules.ConsoleMode (List ℕ) → Type 0
Bears k = ConsoleBears Above Above (λ m. is_message m ≡ true) k

abbrev Meant : Console → Type 0
Meant c = Bears (console_means c).mode

idle_meant : (u : Numbers) (up ack : Bool) → Sound u → Meant (console_with u Idle up ack spaces)
unfolding console_mode chosen
idle_meant u up ack s = tt

need_meant : (u : Numbers) (j : J) (up ack : Bool) (m : List ℕ) → Sound u → 0 < j.0 → its_own u j ≡ true → is_message m ≡ true → Meant (console_with u (NeedI j) up ack m)
unfolding console_mode chosen
need_meant u j up ack m s h l g = rw (ne_eqb j.0 0 (omega arith)) (h, g)

send_meant : (u : Numbers) (l : I) (up ack : Bool) (m : List ℕ) → Sound u → 0 < l.0 → is_message m ≡ true → Meant (console_with u (Send l) up ack m)
unfolding console_mode chosen
send_meant u l up ack m s h g = (h, g)

meant : (c : Console) → length c.message ≡ 16 → console_ok c ≡ true → Meant c
meant c long ok = by_mode Meant idle_meant need_meant send_meant c long ok

-- ## What it sends

abbrev Sent : maybe.Option (rules.ToController (List ℕ)) → Type 0
Sent o = Opt (ToControllerBears Above Above (λ m. is_message m ≡ true)) o

abbrev Turned : rules.ConsoleTurn (List ℕ) → Type 0
Turned t = Sent t.sent

need_i_ok : (k : rules.ConsoleMode (List ℕ)) → Bears k → Sent (rules.need_i_sent k)
unfolding rules.need_i_sent
need_i_ok rules.ConsoleMode.idle h = tt
need_i_ok (rules.in_need_i j m) h = h.0
need_i_ok (rules.in_send l m) h = tt

data_ok : (k : rules.ConsoleMode (List ℕ)) → Bears k → Sent (rules.data_sent k)
unfolding rules.data_sent
data_ok rules.ConsoleMode.idle h = tt
data_ok (rules.in_need_i j m) h = tt
data_ok (rules.in_send l m) h = h

reply_ok : (k : rules.ConsoleMode (List ℕ)) (p : rules.ToConsole) → ToConsoleBears Above Above p → Turned (rules.console_takes k p)
unfolding rules.console_takes
reply_ok rules.ConsoleMode.idle (rules.offer j i) h = h.1
reply_ok (rules.in_need_i j m) (rules.offer j' i) h = if_holds Turned _ _ _ (λ e. tt) (λ e. h.1)
reply_ok (rules.in_send l m) (rules.offer j i) h = if_holds Turned _ _ _ (λ e. tt) (λ e. h.1)
reply_ok rules.ConsoleMode.idle (rules.ok i) h = h
reply_ok (rules.in_need_i j m) (rules.ok i) h = h
reply_ok (rules.in_send l m) (rules.ok i) h = if_holds Turned _ _ _ (λ e. h) (λ e. h)
reply_ok rules.ConsoleMode.idle (rules.lost i) h = tt
reply_ok (rules.in_need_i j m) (rules.lost i) h = tt
reply_ok (rules.in_send l m) (rules.lost i) h = if_holds Turned _ _ _ (λ e. tt) (λ e. tt)

-- a put sends nothing
put_silent : (next : maybe.Option ℕ) (k : rules.ConsoleMode Beside) → (rules.puts next k tt).sent ≡ maybe.none
unfolding rules.puts
put_silent maybe.none k = refl
put_silent (maybe.some j) k = refl

-- ## What the rules send fits

packet_fits : (p : rules.ToController (List ℕ)) → ToControllerBears Above Above (λ m. is_message m ≡ true) p → write_refusal 32 (to_controller_packet p) ≡ 0
packet_fits (rules.need_i j) h = fitting _ (need_i_fits (record { 0 = j }) h)
packet_fits (rules.order i m) h = fitting _ (data_fits (record { 0 = i }) m h.0 h.1)
packet_fits (rules.done i) h = fitting _ (done_fits (record { 0 = i }) h)

sent_fits : (o : maybe.Option (rules.ToController (List ℕ))) (n : ℕ) → n ≡ 32 → Sent o → Writable (maybe.map to_controller_packet o) n
sent_fits maybe.none n e h = tt
sent_fits (maybe.some p) n e h = rw e (packet_fits p h)

-- ## What a console that was read sends, with the message that it holds

abbrev Borne : Option ToConsole → Type 0
Borne None = Unit {0}
Borne (Some p) = ToConsoleBears Above Above (to_console p)

-- a packet in that was read bears numbers
borne : (h : Head) → numbered h ≡ true → Borne (head_for_console h)
borne (head.NeedI j) g = tt
borne (head.Offer j i) g = (first_above (head.Offer j i) g, second_above j i g)
borne (head.Data i) g = tt
borne (head.Ok i) g = first_above (head.Ok i) g
borne (head.Lost i) g = first_above (head.Lost i) g
borne (head.Done i) g = tt

module _ (c : Console) (ok : console_ok c ≡ true) (long : length c.message ≡ 16) (m packet : List ℕ) (n : ℕ) where
  abbrev e : End
  e = console_end c

  -- what is done can be written, where k is held then
  abbrev Writes : List ℕ → Result Acted Refusal → Type 0
  Writes k (Err r) = Unit {0}
  Writes k (Ok d) = Writable (to_controller_sent d.sent k) n

  -- an act of the rules' console
  act_writes : (a : rules.ConsoleAct Beside) (good : Bool) (k : List ℕ) → Writable (maybe.map to_controller_packet (maybe.map (in_packet (λ _. k)) (rules.console_acts numbering (end e) a).sent)) n
      → Writes k (console_act e good a)
  unfolding console_act to_controller_sent
  act_writes a good k h =
      let o = (rules.console_acts numbering (end e) a).sent in
      unless_holds (Writes k) (λ r. tt) (refusal (rules.console_rules numbering (tested good) (end e) a)) {a = acted (rules.console_acts numbering (end e) a)}
      (subst (λ (x : maybe.Option (rules.ToController Beside)). Writable (maybe.map to_controller_packet (maybe.map (in_packet (λ _. k)) x)) n) (sym (same_for_controller o)) h)

  -- as the rules' console sends it, with the message that is held
  as_sent : (a : rules.ConsoleAct Beside) → n ≡ 32 → Sent (rules.console_acts numbering (console_means c) (in_console_act (λ _. c.message) a)).sent → Writes c.message (console_act e true a)
  as_sent a l h =
      let k = c.message in
      let there : (rules.console_acts numbering (console_means c) (in_console_act (λ _. k) a)).sent ≡ maybe.map (in_packet (λ _. k)) (rules.console_acts numbering (end e) a).sent =
      ap (λ (d : rules.ConsoleActed supply.Numbers (List ℕ)). d.sent) (nat_console_acts (λ _. k) numbering (end e) a) in
      act_writes a true k (sent_fits _ n l (subst Sent there h))

  came_writes : n ≡ 32 → (p : Option ToConsole) → Borne p → Writes c.message (console_came e p)
  unfolding rules.console_acts rules.console_turn
  came_writes l None h = tt
  came_writes l (Some p) h = as_sent (rules.ConsoleAct.take (maybe.some (to_console p))) l (reply_ok (console_means c).mode (to_console p) h)

  heard_writes : n ≡ 32 → (h : Result Head Refusal) → head_read packet ≡ h → Writes c.message (console_heard e h)
  heard_writes l (Err r) f = tt
  heard_writes l (Ok h) f = came_writes l (head_for_console h) (borne h (read_numbered packet f))

  does_writes : (ask : ConsoleAsk) → Writes (message_kept ask m c.message) (console_does e m packet n ask)
  unfolding rules.console_acts rules.console_turn
  does_writes letters.to_put =
      act_writes (rules.put tt) (is_message m) m (rw (put_silent (numbering.next (numbers_means c.numbers)) (mode e.mode)) tt)
  does_writes letters.to_send_need_i =
      lent_holds (Writes c.message) (λ r. tt) n _ (λ l. as_sent rules.send_need_i l (need_i_ok (console_means c).mode (meant c long ok)))
  does_writes letters.to_send_data =
      lent_holds (Writes c.message) (λ r. tt) n _ (λ l. as_sent rules.send_data l (data_ok (console_means c).mode (meant c long ok)))
  does_writes ConsoleAsk.to_take =
      lent_holds (Writes c.message) (λ r. tt) n _ (λ l. heard_writes l (head_read packet) refl)
  does_writes ConsoleAsk.to_go_down = act_writes rules.ConsoleAct.go_down true c.message tt
  does_writes ConsoleAsk.to_come_back = act_writes rules.ConsoleAct.come_back true c.message tt
  does_writes letters.to_tell_ack = act_writes rules.tell_ack true c.message tt

pub does_writable : {o : Option End} {e : End} {d : Acted} {k : List ℕ} (c : Console) (ask : ConsoleAsk) (m packet : List ℕ) (n : ℕ) → o ≡ console_read c → o ≡ Some e → length c.message ≡ 16
    → Ok d ≡ console_does e m packet n ask → k ≡ message_kept ask m c.message → Writable (to_controller_sent d.sent k) n
does_writable {d = d} c ask m packet n reads f long q g =
    let w = was_read c (sym reads ∙ f) in
    let as_read : Ok d ≡ console_does (console_end c) m packet n ask = q ∙ ap (λ (x : End). console_does x m packet n ask) w.1 in
    subst (λ (x : List ℕ). Writable (to_controller_sent d.sent x) n) (sym g)
    (subst (Writes c w.0 long m packet n (message_kept ask m c.message)) (sym as_read) (does_writes c w.0 long m packet n ask))
