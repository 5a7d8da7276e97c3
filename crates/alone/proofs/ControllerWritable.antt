-- What a well-formed controller sends can be written, and what it delivers was read.
use Prim.Native.Nat.{ℕ, ◌<◌}
use mathlib.Core.Path.{◌≡◌, refl, sym, ap, ◌∙◌, subst}
use mathlib.Core.Bool.{Bool, true}
use mathlib.Core.Option as maybe
use mathlib.Core.List.{List}
use native.Mathlib.Omega.{arith}
use lib.ListN.{length}
use borrow.Author.Tests.{ne_eqb}
use Rattle.std.specs.Prelude.{Option, None, Some, Result, Ok, Err}
use Rattle.ground.specs.Choice.{chosen}
use Rattle.ground.specs.First.{refusal}
use Rattle.ground.specs.declared.refusals.Refusal.{Refusal}
use Rattle.wire.specs.Packet.{numbered, head_read, write_refusal}
use Rattle.wire.specs.declared.Head.{Head}
use Rattle.wire.specs.declared.Head.TheVariants as head
use Rattle.wire.specs.declared.I.{I}
use Rattle.wire.specs.declared.J.{J}
use Rattle.wire.proofs.Outcomes.{read_numbered}
use Rattle.wire.proofs.PacketsFit.{offer_fits, ok_fits, lost_fits, first_above}
use Rattle.wire.proofs.Reading.{read_long}
use Rattle.rules.specs.Supply.{numbering}
use Rattle.rules.specs.Lists.{Opt}
use Rattle.rules.specs.Bears.{ControllerBears, ToControllerBears, ToConsoleBears, Any}
use Rattle.rules.specs.Ends as rules
use Rattle.rules.specs.Letters as letters
use Rattle.rules.specs.Letters.{ControllerAsk}
use Rattle.rules.proofs.Lists.{if_holds}
use Rattle.numbers.specs.Numbers.{numbers_means}
use Rattle.numbers.specs.declared.Numbers.{Numbers}
use Rattle.ends.specs.AsRules.{Beside, to_controller}
use Rattle.ends.specs.Packets.{to_console_packet, to_console_sent, head_for_controller}
use Rattle.ends.specs.declared.Report.TheVariants as report
use Rattle.ends.specs.declared.ToController.{ToController}
use Rattle.ends_controller.specs.AsRules.{mode, end, acted}
use Rattle.ends_controller.specs.Fields.{controller_ok, controller_read, controller_mode, controller_end, controller_with}
use Rattle.ends_controller.specs.FieldsAsRules.{controller_means}
use Rattle.ends_controller.specs.Types.{Acted, End}
use Rattle.ends_controller.specs.declared.Mode.TheVariants.{Idle, Accept, Ack}
use Rattle.ends_controller.specs.declared.fields.Controller.{Controller}
use Rattle.ends_controller.proofs.Decisions.{same_for_console}
use Rattle.ends_controller.proofs.FieldsRead.{Sound, its_own, by_mode, was_read}
use Rattle.alone.specs.Alone.{Writable, Above}
use Rattle.alone.specs.ControllerPrivate.{controller_act, controller_came, controller_heard, controller_does, Delivers}
use Rattle.alone.proofs.Refusing.{unless_holds, lent_holds}
use Rattle.alone.proofs.Sent.{fitting}

-- ## What a well-formed controller's mode bears

abbrev Bears : rules.ControllerMode → Type 0
Bears k = ControllerBears Above Above k

abbrev Meant : Controller → Type 0
Meant c = Bears (controller_means c).mode

idle_meant : (u : Numbers) (up : Bool) → Sound u → Meant (controller_with u Idle up)
unfolding controller_mode chosen
idle_meant u up s = tt

accept_meant : (u : Numbers) (j : J) (i : I) (up : Bool) → Sound u → 0 < j.0 → 0 < i.0 → its_own u i ≡ true → Meant (controller_with u (Accept j i) up)
unfolding controller_mode chosen
accept_meant u j i up s h k o = rw (ne_eqb i.0 0 (omega arith)) (h, k)

ack_meant : (u : Numbers) (l : I) (up : Bool) → Sound u → 0 < l.0 → its_own u l ≡ true → Meant (controller_with u (Ack l) up)
unfolding controller_mode chosen
ack_meant u l up s h o = rw (ne_eqb l.0 0 (omega arith)) h

meant : (c : Controller) → controller_ok c ≡ true → Meant c
meant c ok = by_mode Meant idle_meant accept_meant ack_meant c ok

-- ## What it sends

abbrev Sent : maybe.Option rules.ToConsole → Type 0
Sent o = Opt (ToConsoleBears Above Above) o

abbrev Turned : rules.ControllerTurn Beside → Type 0
Turned t = Sent t.sent

offer_ok : (k : rules.ControllerMode) → Bears k → Sent (rules.offer_sent k)
unfolding rules.offer_sent
offer_ok rules.ControllerMode.idle h = tt
offer_ok (rules.in_accept j i) h = h
offer_ok (rules.in_ack l) h = tt

ok_ok : (k : rules.ControllerMode) → Bears k → Sent (rules.ok_sent k)
unfolding rules.ok_sent
ok_ok rules.ControllerMode.idle h = tt
ok_ok (rules.in_accept j i) h = tt
ok_ok (rules.in_ack l) h = h

reply_ok : (next : maybe.Option ℕ) (k : rules.ControllerMode) (p : rules.ToController Beside) → ToControllerBears Above Above Any p → Turned (rules.controller_takes next k p)
unfolding rules.controller_takes
reply_ok maybe.none rules.ControllerMode.idle (rules.need_i j) h = tt
reply_ok (maybe.some i) rules.ControllerMode.idle (rules.need_i j) h = tt
reply_ok next (rules.in_accept j i) (rules.need_i j') h = tt
reply_ok next (rules.in_ack l) (rules.need_i j) h = tt
reply_ok next rules.ControllerMode.idle (rules.order i m) h = h.0
reply_ok next (rules.in_accept j i) (rules.order i' m) h = if_holds Turned _ _ _ (λ e. h.0) (λ e. h.0)
reply_ok next (rules.in_ack l) (rules.order i m) h = if_holds Turned _ _ _ (λ e. tt) (λ e. h.0)
reply_ok next rules.ControllerMode.idle (rules.done i) h = tt
reply_ok next (rules.in_accept j i) (rules.done i') h = if_holds Turned _ _ _ (λ e. tt) (λ e. tt)
reply_ok next (rules.in_ack l) (rules.done i) h = if_holds Turned _ _ _ (λ e. tt) (λ e. tt)

-- ## What the rules send fits

packet_fits : (p : rules.ToConsole) → ToConsoleBears Above Above p → write_refusal 32 (to_console_packet p) ≡ 0
packet_fits (rules.offer j i) h = fitting _ (offer_fits (record { 0 = j }) (record { 0 = i }) h.0 h.1)
packet_fits (rules.ok i) h = fitting _ (ok_fits (record { 0 = i }) h)
packet_fits (rules.lost i) h = fitting _ (lost_fits (record { 0 = i }) h)

sent_fits : (o : maybe.Option rules.ToConsole) (n : ℕ) → n ≡ 32 → Sent o → Writable (maybe.map to_console_packet o) n
sent_fits maybe.none n e h = tt
sent_fits (maybe.some p) n e h = rw e (packet_fits p h)

-- ## What a controller that was read sends

abbrev Borne : Option ToController → Type 0
Borne None = Unit {0}
Borne (Some p) = ToControllerBears Above Above Any (to_controller p)

-- a packet in that was read bears numbers
borne : (h : Head) → numbered h ≡ true → Borne (head_for_controller h)
borne (head.NeedI j) g = first_above (head.NeedI j) g
borne (head.Offer j i) g = tt
borne (head.Data i) g = (first_above (head.Data i) g, tt)
borne (head.Ok i) g = tt
borne (head.Lost i) g = tt
borne (head.Done i) g = first_above (head.Done i) g

module _ (c : Controller) (ok : controller_ok c ≡ true) (packet : List ℕ) (n : ℕ) where
  abbrev e : End
  e = controller_end c

  -- what is done can be written, and what is delivered was read
  abbrev Writes : Result Acted Refusal → Type 0
  Writes (Err r) = Unit {0}
  Writes (Ok d) = Writable (to_console_sent d.sent) n × Delivers d.report packet

  -- an act of the rules' controller
  act_writes : (a : rules.ControllerAct Beside) → Writable (maybe.map to_console_packet (rules.controller_acts numbering (end e) a).sent) n → Delivers (acted (rules.controller_acts numbering (end e) a)).report packet
      → Writes (controller_act e a)
  unfolding controller_act to_console_sent
  act_writes a h g =
      let o = (rules.controller_acts numbering (end e) a).sent in
      unless_holds Writes (λ r. tt) (refusal (rules.controller_rules numbering (end e) a)) {a = acted (rules.controller_acts numbering (end e) a)}
      (subst (λ (x : maybe.Option rules.ToConsole). Writable (maybe.map to_console_packet x) n) (sym (same_for_console o)) h, g)

  nothing : Delivers report.Nothing packet
  nothing f = cc

  came_writes : n ≡ 32 → length packet ≡ 32 → (p : Option ToController) → Borne p → Writes (controller_came e p)
  unfolding rules.controller_acts rules.controller_turn
  came_writes l k None h = tt
  came_writes l k (Some p) h =
      act_writes (rules.ControllerAct.take (maybe.some (to_controller p)))
      (sent_fits (rules.controller_takes (numbering.next (numbers_means c.numbers)) (mode e.mode) (to_controller p)).sent n l
      (reply_ok (numbering.next (numbers_means c.numbers)) (mode e.mode) (to_controller p) h))
      (λ f. k)

  heard_writes : n ≡ 32 → (h : Result Head Refusal) → h ≡ head_read packet → Writes (controller_heard e h)
  heard_writes l (Err r) f = tt
  heard_writes l (Ok h) f = came_writes l (read_long packet f) (head_for_controller h) (borne h (read_numbered packet (sym f)))

  does_writes : (ask : ControllerAsk) → Writes (controller_does e packet n ask)
  unfolding rules.controller_acts rules.controller_turn
  does_writes letters.to_send_offer =
      lent_holds Writes (λ r. tt) n _ (λ l. act_writes rules.send_offer (sent_fits (rules.offer_sent (mode e.mode)) n l (offer_ok (mode e.mode) (meant c ok))) nothing)
  does_writes letters.to_send_ok =
      lent_holds Writes (λ r. tt) n _ (λ l. act_writes rules.send_ok (sent_fits (rules.ok_sent (mode e.mode)) n l (ok_ok (mode e.mode) (meant c ok))) nothing)
  does_writes ControllerAsk.to_take = lent_holds Writes (λ r. tt) n _ (λ l. heard_writes l (head_read packet) refl)
  does_writes ControllerAsk.to_go_down = act_writes rules.ControllerAct.go_down tt nothing
  does_writes ControllerAsk.to_come_back = act_writes rules.ControllerAct.come_back tt nothing

module _ {o : Option End} {e : End} {d : Acted} (c : Controller) (ask : ControllerAsk) (packet : List ℕ) (n : ℕ) (reads : o ≡ controller_read c) (f : o ≡ Some e) (q : Ok d ≡ controller_does e packet n ask) where
  does_both : Writable (to_console_sent d.sent) n × Delivers d.report packet
  does_both =
      let w = was_read c (sym reads ∙ f) in
      let as_read : Ok d ≡ controller_does (controller_end c) packet n ask = q ∙ ap (λ (x : End). controller_does x packet n ask) w.1 in
      subst (Writes c w.0 packet n) (sym as_read) (does_writes c w.0 packet n ask)

  pub does_writable : Writable (to_console_sent d.sent) n
  does_writable = does_both.0

  pub does_deliver : Delivers d.report packet
  does_deliver = does_both.1

pub ruleset told_well = (does_writable, does_deliver)
