-- Every call of an end run alone is refused before the rules, with a number of which R holds, or it is an act of a well-formed end: the one that
-- its letter asks, with the packet that was read. So a call is refused, or it is what the rules ask of that end on any bench that has the packet in.
use Prim.Native.Nat.{ℕ}
use mathlib.Core.Path.{◌≡◌, refl, sym, ap, ◌∙◌}
use mathlib.Core.Logic.{◌⊎◌, inl, inr}
use mathlib.Core.Bool.{true}
use mathlib.Core.Option as maybe
use mathlib.Core.List.{List}
use lib.ListN.{length}
use lib.Dec.{eqb}
use Rattle.std.specs.Prelude.{Option, None, Some, Result, Ok, Err}
use Rattle.ground.specs.Cell.{is_message}
use Rattle.ground.specs.Choice.{chosen}
use Rattle.ground.specs.Refusals.{number_of}
use Rattle.ground.specs.declared.refusals.Refusal.{Refusal}
use Rattle.ground.proofs.Promise.{clash, unequal}
use Rattle.ground.proofs.Tests.{by_test}
use Rattle.wire.specs.Packet.{head_read, packet_read}
use Rattle.wire.specs.declared.Head.{Head}
use Rattle.wire.specs.declared.Packet.{Packet}
use Rattle.rules.specs.Supply.{numbering}
use Rattle.rules.specs.Letters as letters
use Rattle.rules.specs.Letters.{Letter, line, letter, Asks, the_console, the_controller, neither_end, ConsoleAsk, ControllerAsk}
use Rattle.rules.specs.Ends as rules
use Rattle.rules.specs.Reading.{console_read_step}
use Rattle.rules.specs.Bench.{Bench, Asked, at, asked_to, asks}
use Rattle.rules.specs.Relabel.{in_packet}
use Rattle.ends_console.specs.Fields.{console_ok}
use Rattle.ends_controller.specs.Fields.{controller_ok}
use Rattle.ends_console.specs.FieldsAsRules.{console_reads}
use Rattle.ends_controller.specs.FieldsAsRules.{controller_means}
use Rattle.ends.specs.AsRules.{for_console, for_controller, to_console, to_controller}
use Rattle.ends.specs.Packets.{head_for_console, head_for_controller, read_for_console}
use Rattle.ends.specs.declared.ToConsole.{ToConsole}
use Rattle.ends.specs.declared.ToController.{ToController}
use Rattle.ends_console.specs.declared.fields.Console.{Console}
use Rattle.ends_controller.specs.declared.fields.Controller.{Controller}
use Rattle.alone.specs.AnyEnd.{lent}
use Rattle.alone.specs.ConsoleAlone.{ConsoleAlone, console_refused, console_told, console_alone_acts, console_alone_takes, console_hears, console_lent, console_asked, console_asks, console_letter, console_alone}
use Rattle.alone.specs.ControllerAlone.{ControllerAlone, controller_refused, controller_told, controller_alone_acts, controller_alone_takes, controller_hears, controller_lent, controller_asked, controller_asks, controller_letter, controller_alone}

-- what the packet in reads as, for each end
abbrev pub console_heard : List ℕ → maybe.Option rules.ToConsole
console_heard p = for_console (read_for_console (head_read p))

abbrev pub packet_heard : Result Packet Refusal → maybe.Option (rules.ToController (List ℕ))
packet_heard (Err r) = maybe.none
packet_heard (Ok p) = maybe.map (in_packet (λ _. p.message)) (for_controller (head_for_controller p.head))

abbrev pub controller_heard_as : List ℕ → maybe.Option (rules.ToController (List ℕ))
controller_heard_as p = packet_heard (packet_read p)

-- ## The act that is asked, where m is the message lent and p the packet in

abbrev pub ConsoleActOf : List ℕ → List ℕ → ConsoleAsk → rules.ConsoleAct (List ℕ) → Type 0
ConsoleActOf m p letters.to_put a = a ≡ rules.put m
ConsoleActOf m p letters.to_send_need_i a = a ≡ rules.send_need_i
ConsoleActOf m p letters.to_send_data a = a ≡ rules.send_data
ConsoleActOf m p ConsoleAsk.to_take a = (q : rules.ToConsole) × ((console_heard p ≡ maybe.some q) × (a ≡ rules.ConsoleAct.take (maybe.some q)))
ConsoleActOf m p ConsoleAsk.to_go_down a = a ≡ rules.ConsoleAct.go_down
ConsoleActOf m p ConsoleAsk.to_come_back a = a ≡ rules.ConsoleAct.come_back
ConsoleActOf m p letters.to_tell_ack a = a ≡ rules.tell_ack

abbrev pub ControllerActOf : List ℕ → ControllerAsk → rules.ControllerAct (List ℕ) → Type 0
ControllerActOf p letters.to_send_offer a = a ≡ rules.send_offer
ControllerActOf p letters.to_send_ok a = a ≡ rules.send_ok
ControllerActOf p ControllerAsk.to_take a = (q : rules.ToController (List ℕ)) × ((controller_heard_as p ≡ maybe.some q) × (a ≡ rules.ControllerAct.take (maybe.some q)))
ControllerActOf p ControllerAsk.to_go_down a = a ≡ rules.ControllerAct.go_down
ControllerActOf p ControllerAsk.to_come_back a = a ≡ rules.ControllerAct.come_back

-- ## By act

module _ (R : ℕ → Type 0) (one : R 1) (two : R 2) (twelve : R 12) (fifteen : R 15) where
  -- a packet or head that was read, or that is refused by such a number
  abbrev pub HeadIs : {A : Type 0} → Result A Refusal → Type 0
  HeadIs (Err r) = R (number_of r)
  HeadIs (Ok h) = Unit {0}

  module _ (c : Console) (m packet reply : List ℕ) (Q : ConsoleAlone → Type 0) (refuses : (n : ℕ) → R n → Q (console_refused n c reply)) (good : HeadIs (head_read packet)) where
    abbrev ConsoleDoes : ConsoleAsk → Type 0
    ConsoleDoes k = (a : rules.ConsoleAct (List ℕ)) → ConsoleActOf m packet k a → console_ok c ≡ true → Q (console_alone_acts c reply a)

    console_lent_lem : (x : ConsoleAlone) → Q x → Q (console_lent c reply x)
    unfolding lent chosen
    console_lent_lem x h = by_test (eqb (length reply) 32) (λ t. rw t h) (λ f. rw f (refuses 12 twelve))

    console_came_lem : console_ok c ≡ true → ConsoleDoes ConsoleAsk.to_take → (f : Option ToConsole) → console_heard packet ≡ for_console f → Q (console_alone_takes c reply f)
    console_came_lem ok acts None q = refuses 15 fifteen
    console_came_lem ok acts (Some t) q = acts (rules.ConsoleAct.take (maybe.some (to_console t))) (to_console t, (q, refl)) ok

    console_hears_lem : console_ok c ≡ true → ConsoleDoes ConsoleAsk.to_take → (h : Result Head Refusal) → head_read packet ≡ h → HeadIs h → Q (console_hears c reply h)
    console_hears_lem ok acts (Err r) e g = refuses (number_of r) g
    console_hears_lem ok acts (Ok h) e g =
        console_came_lem ok acts (head_for_console h) (ap (λ (z : Result Head Refusal). for_console (read_for_console z)) e)

    console_asked_lem : console_ok c ≡ true → (k : ConsoleAsk) → ConsoleDoes k → Q (console_asked c reply m packet k)
    console_asked_lem ok letters.to_put acts = acts (rules.put m) refl ok
    console_asked_lem ok letters.to_send_need_i acts = console_lent_lem _ (acts rules.send_need_i refl ok)
    console_asked_lem ok letters.to_send_data acts = console_lent_lem _ (acts rules.send_data refl ok)
    console_asked_lem ok ConsoleAsk.to_take acts = console_lent_lem _ (console_hears_lem ok acts (head_read packet) refl good)
    console_asked_lem ok ConsoleAsk.to_go_down acts = acts rules.ConsoleAct.go_down refl ok
    console_asked_lem ok ConsoleAsk.to_come_back acts = acts rules.ConsoleAct.come_back refl ok
    console_asked_lem ok letters.to_tell_ack acts = acts rules.tell_ack refl ok

    pub console_by_act : (byte : ℕ) → ((l : Letter) (k : ConsoleAsk) → letter byte ≡ maybe.some l → (line l).asks ≡ the_console k → ConsoleDoes k) → Q (console_alone c byte m packet reply)
    unfolding console_alone chosen
    console_by_act byte acts = by_letter (letter byte) refl
      where
        by_asks : (l : Letter) → letter byte ≡ maybe.some l → (a : Asks) → (line l).asks ≡ a → Q (console_asks c reply m packet a)
        by_asks l e (the_console k) f =
            by_test (console_ok c) (λ y. rw y (console_asked_lem y k (acts l k e f))) (λ z. rw z (refuses 2 two))
        by_asks l e (the_controller k) f = refuses 1 one
        by_asks l e neither_end f = refuses 1 one

        by_letter : (o : maybe.Option Letter) → letter byte ≡ o → Q (console_letter c reply m packet o)
        by_letter maybe.none e = refuses 1 one
        by_letter (maybe.some l) e = by_asks l e (line l).asks refl

  module _ (c : Controller) (packet reply : List ℕ) (Q : ControllerAlone → Type 0) (refuses : (n : ℕ) → R n → Q (controller_refused n c reply)) (good : HeadIs (packet_read packet)) where
    abbrev ControllerDoes : ControllerAsk → Type 0
    ControllerDoes k = (a : rules.ControllerAct (List ℕ)) → ControllerActOf packet k a → controller_ok c ≡ true → Q (controller_alone_acts c reply a)

    controller_lent_lem : (x : ControllerAlone) → Q x → Q (controller_lent c reply x)
    unfolding lent chosen
    controller_lent_lem x h = by_test (eqb (length reply) 32) (λ t. rw t h) (λ f. rw f (refuses 12 twelve))

    controller_came_lem : controller_ok c ≡ true → ControllerDoes ControllerAsk.to_take → (m : List ℕ) (f : Option ToController) → controller_heard_as packet ≡ maybe.map (in_packet (λ _. m)) (for_controller f) → Q (controller_alone_takes c reply m f)
    controller_came_lem ok acts m None q = refuses 15 fifteen
    controller_came_lem ok acts m (Some t) q =
        let came = in_packet (λ _. m) (to_controller t) in
        acts (rules.ControllerAct.take (maybe.some came)) (came, (q, refl)) ok

    controller_hears_lem : controller_ok c ≡ true → ControllerDoes ControllerAsk.to_take → (p : Result Packet Refusal) → packet_read packet ≡ p → HeadIs p → Q (controller_hears c reply p)
    controller_hears_lem ok acts (Err r) e g = refuses (number_of r) g
    controller_hears_lem ok acts (Ok p) e g = controller_came_lem ok acts p.message (head_for_controller p.head) (ap packet_heard e)

    controller_asked_lem : controller_ok c ≡ true → (k : ControllerAsk) → ControllerDoes k → Q (controller_asked c reply packet k)
    controller_asked_lem ok letters.to_send_offer acts = controller_lent_lem _ (acts rules.send_offer refl ok)
    controller_asked_lem ok letters.to_send_ok acts = controller_lent_lem _ (acts rules.send_ok refl ok)
    controller_asked_lem ok ControllerAsk.to_take acts = controller_lent_lem _ (controller_hears_lem ok acts (packet_read packet) refl good)
    controller_asked_lem ok ControllerAsk.to_go_down acts = acts rules.ControllerAct.go_down refl ok
    controller_asked_lem ok ControllerAsk.to_come_back acts = acts rules.ControllerAct.come_back refl ok

    pub controller_by_act : (byte : ℕ) → ((l : Letter) (k : ControllerAsk) → letter byte ≡ maybe.some l → (line l).asks ≡ the_controller k → ControllerDoes k) → Q (controller_alone c byte packet reply)
    unfolding controller_alone chosen
    controller_by_act byte acts = by_letter (letter byte) refl
      where
        by_asks : (l : Letter) → letter byte ≡ maybe.some l → (a : Asks) → (line l).asks ≡ a → Q (controller_asks c reply packet a)
        by_asks l e (the_console k) f = refuses 1 one
        by_asks l e (the_controller k) f =
            by_test (controller_ok c) (λ y. rw y (controller_asked_lem y k (acts l k e f))) (λ z. rw z (refuses 2 two))
        by_asks l e neither_end f = refuses 1 one

        by_letter : (o : maybe.Option Letter) → letter byte ≡ o → Q (controller_letter c reply packet o)
        by_letter maybe.none e = refuses 1 one
        by_letter (maybe.some l) e = by_asks l e (line l).asks refl

-- of any number
abbrev pub Whatever : ℕ → Type 0
Whatever n = Unit {0}

pub any_head : {A : Type 0} (h : Result A Refusal) → HeadIs Whatever tt tt tt tt h
any_head (Err r) = tt
any_head (Ok h) = tt

-- ## What the rules ask on a bench. One letter of each end takes a packet

abbrev takes : Asks → ℕ
takes (the_console letters.to_put) = 0
takes (the_console letters.to_send_need_i) = 0
takes (the_console letters.to_send_data) = 0
takes (the_console ConsoleAsk.to_take) = 1
takes (the_console ConsoleAsk.to_go_down) = 0
takes (the_console ConsoleAsk.to_come_back) = 0
takes (the_console letters.to_tell_ack) = 0
takes (the_controller letters.to_send_offer) = 0
takes (the_controller letters.to_send_ok) = 0
takes (the_controller ControllerAsk.to_take) = 2
takes (the_controller ControllerAsk.to_go_down) = 0
takes (the_controller ControllerAsk.to_come_back) = 0
takes neither_end = 0

only_s : (l : Letter) → takes (line l).asks ≡ 1 → l ≡ letters.s_take
unfolding line
only_s letters.p_put e = absurd (clash e)
only_s letters.q_need e = absurd (clash e)
only_s letters.d_data e = absurd (clash e)
only_s letters.s_take e = refl
only_s letters.c_down e = absurd (clash e)
only_s letters.v_back e = absurd (clash e)
only_s letters.o_offer e = absurd (clash e)
only_s letters.k_ok e = absurd (clash e)
only_s letters.r_take e = absurd (unequal e refl)
only_s letters.x_down e = absurd (clash e)
only_s letters.y_back e = absurd (clash e)
only_s letters.l_lose e = absurd (clash e)
only_s letters.m_lose e = absurd (clash e)
only_s letters.a_ack e = absurd (clash e)

only_r : (l : Letter) → takes (line l).asks ≡ 2 → l ≡ letters.r_take
unfolding line
only_r letters.p_put e = absurd (unequal e refl)
only_r letters.q_need e = absurd (unequal e refl)
only_r letters.d_data e = absurd (unequal e refl)
only_r letters.s_take e = absurd (unequal e refl)
only_r letters.c_down e = absurd (unequal e refl)
only_r letters.v_back e = absurd (unequal e refl)
only_r letters.o_offer e = absurd (unequal e refl)
only_r letters.k_ok e = absurd (unequal e refl)
only_r letters.r_take e = refl
only_r letters.x_down e = absurd (unequal e refl)
only_r letters.y_back e = absurd (unequal e refl)
only_r letters.l_lose e = absurd (unequal e refl)
only_r letters.m_lose e = absurd (unequal e refl)
only_r letters.a_ack e = absurd (unequal e refl)

module _ {S : Type 0} (b : Bench S (List ℕ)) (c : Console) (ok : console_ok c ≡ true) (m p y : List ℕ) where
  -- a packet that reads as one for the console lies at a place of the bench
  abbrev pub ConsoleFinds : Type 0
  ConsoleFinds = (q : rules.ToConsole) → console_heard p ≡ maybe.some q → (x : ℕ) × (at b.to_console x ≡ maybe.some q)

  console_place : (l : Letter) (k : ConsoleAsk) (a : rules.ConsoleAct (List ℕ)) → (line l).asks ≡ the_console k → (l ≡ letters.s_take → ConsoleFinds) → ConsoleActOf m p k a → (x : ℕ) × (asks b l x m ≡ Asked.console a)
  unfolding asks
  console_place l letters.to_put a f h g = (0, ap (λ (z : Asks). asked_to z b 0 m) f ∙ ap Asked.console (sym g))
  console_place l letters.to_send_need_i a f h g = (0, ap (λ (z : Asks). asked_to z b 0 m) f ∙ ap Asked.console (sym g))
  console_place l letters.to_send_data a f h g = (0, ap (λ (z : Asks). asked_to z b 0 m) f ∙ ap Asked.console (sym g))
  console_place l ConsoleAsk.to_take a f h g =
      let x = h (only_s l (ap takes f)) g.0 g.1.0 in
      (x.0, ap (λ (z : Asks). asked_to z b x.0 m) f ∙ ap (λ (o : maybe.Option rules.ToConsole). Asked.console (rules.ConsoleAct.take o)) x.1 ∙ ap Asked.console (sym g.1.1))
  console_place l ConsoleAsk.to_go_down a f h g = (0, ap (λ (z : Asks). asked_to z b 0 m) f ∙ ap Asked.console (sym g))
  console_place l ConsoleAsk.to_come_back a f h g = (0, ap (λ (z : Asks). asked_to z b 0 m) f ∙ ap Asked.console (sym g))
  console_place l letters.to_tell_ack a f h g = (0, ap (λ (z : Asks). asked_to z b 0 m) f ∙ ap Asked.console (sym g))

  -- refused, or the console's step in the rules
  abbrev pub ConsoleCall : ℕ → ConsoleAlone → Type 0
  ConsoleCall byte d =
      ((n : ℕ) × (d ≡ console_refused n c y))
      ⊎ ((l : Letter) × ((letter byte ≡ maybe.some l) × ((x : ℕ) × ((act : rules.ConsoleAct (List ℕ)) × ((asks b l x m ≡ Asked.console act) × (d ≡ console_told (console_read_step numbering is_message (console_reads c) act) y))))))

  pub console_call : (byte : ℕ) → (letter byte ≡ maybe.some letters.s_take → ConsoleFinds) → ConsoleCall byte (console_alone c byte m p y)
  unfolding console_alone_acts
  console_call byte h =
      console_by_act Whatever tt tt tt tt c m p y (ConsoleCall byte) (λ n u. inl (n, refl)) (any_head (head_read p)) byte
      (λ l k e f a g o.
      let x = console_place l k a f (λ s. h (e ∙ ap maybe.some s)) g in
      inr (l, (e, (x.0, (a, (x.1, refl))))))

-- ## The controller. Its letters use no message, so that the action's may be any

module _ {S : Type 0} (b : Bench S (List ℕ)) (c : Controller) (ok : controller_ok c ≡ true) (m p y : List ℕ) where
  abbrev pub ControllerFinds : Type 0
  ControllerFinds = (q : rules.ToController (List ℕ)) → controller_heard_as p ≡ maybe.some q → (x : ℕ) × (at b.to_controller x ≡ maybe.some q)

  controller_place : (l : Letter) (k : ControllerAsk) (a : rules.ControllerAct (List ℕ)) → (line l).asks ≡ the_controller k → (l ≡ letters.r_take → ControllerFinds) → ControllerActOf p k a → (x : ℕ) × (asks b l x m ≡ Asked.controller a)
  unfolding asks
  controller_place l letters.to_send_offer a f h g = (0, ap (λ (z : Asks). asked_to z b 0 m) f ∙ ap Asked.controller (sym g))
  controller_place l letters.to_send_ok a f h g = (0, ap (λ (z : Asks). asked_to z b 0 m) f ∙ ap Asked.controller (sym g))
  controller_place l ControllerAsk.to_take a f h g =
      let x = h (only_r l (ap takes f)) g.0 g.1.0 in
      (x.0, ap (λ (z : Asks). asked_to z b x.0 m) f ∙ ap (λ (o : maybe.Option (rules.ToController (List ℕ))). Asked.controller (rules.ControllerAct.take o)) x.1 ∙ ap Asked.controller (sym g.1.1))
  controller_place l ControllerAsk.to_go_down a f h g = (0, ap (λ (z : Asks). asked_to z b 0 m) f ∙ ap Asked.controller (sym g))
  controller_place l ControllerAsk.to_come_back a f h g = (0, ap (λ (z : Asks). asked_to z b 0 m) f ∙ ap Asked.controller (sym g))

  abbrev pub ControllerCall : ℕ → ControllerAlone → Type 0
  ControllerCall byte d =
      ((n : ℕ) × (d ≡ controller_refused n c y))
      ⊎ ((l : Letter) × ((letter byte ≡ maybe.some l) × ((x : ℕ) × ((act : rules.ControllerAct (List ℕ)) × ((asks b l x m ≡ Asked.controller act) × (d ≡ controller_told (rules.controller_step numbering (controller_means c) act) y))))))

  pub controller_call : (byte : ℕ) → (letter byte ≡ maybe.some letters.r_take → ControllerFinds) → ControllerCall byte (controller_alone c byte p y)
  unfolding controller_alone_acts
  controller_call byte h =
      controller_by_act Whatever tt tt tt tt c p y (ControllerCall byte) (λ n u. inl (n, refl)) (any_head (packet_read p)) byte
      (λ l k e f a g o.
      let x = controller_place l k a f (λ s. h (e ∙ ap maybe.some s)) g in
      inr (l, (e, (x.0, (a, (x.1, refl))))))
