-- A controller run alone: what it does that is asked, and what is answered to a letter.
use Prim.Native.Nat.{ℕ, zero, suc}
use mathlib.Core.Path.{◌≡◌, refl, sym, ap, ◌∙◌}
use mathlib.Core.Bool.{true, false}
use mathlib.Core.Option as maybe
use mathlib.Core.List.{List, [], ◌∷◌}
use native.Mathlib.Omega.{arith}
use lib.ListN.{length, drop}
use lib.Dec.{eqb}
use Rattle.std.specs.Prelude.{Option, None, Some, Result, Ok, Err}
use Rattle.ground.specs.Cell.{spaces}
use Rattle.ground.specs.Choice.{chosen}
use Rattle.ground.specs.First.{first, refusal}
use Rattle.ground.specs.Options.{option_means}
use Rattle.ground.specs.Refusals.{refusal_of, unless_refused}
use Rattle.ground.specs.declared.refusals.Refusal.{Refusal}
use Rattle.ground.specs.declared.refusals.Refusal.TheVariants.{NoAction, IllFormed}
use Rattle.ground.proofs.RefusalNumbers.{refusal_of-number_of}
use Rattle.ground.proofs.Tests.{by_test}
use Rattle.wire.specs.Packet.{head_read, with_message}
use Rattle.wire.specs.declared.Head.{Head}
use Rattle.rules.specs.Supply.{numbering, Numbers}
use Rattle.rules.specs.Letters.{Letter, line, letter, Asks, the_console, the_controller, neither_end}
use Rattle.rules.specs.Ends as rules
use Rattle.rules.specs.Relabel.{in_controller_act}
use Rattle.rules.proofs.Relabel.{nat_controller_acts}
use Rattle.letters.specs.Lines.{found_of, controller_ask_means, asks_means}
use Rattle.letters.proofs.Asking.{nothing_found, line_found}
use Rattle.letters.specs.declared.ControllerAsk.{ControllerAsk}
use Rattle.letters.specs.declared.ControllerAsk.TheVariants as asks
use Rattle.letters.specs.declared.Asks as code
use Rattle.letters.specs.declared.Asks.TheVariants as asked
use Rattle.letters.specs.declared.Line.{Line}
use Rattle.ends.specs.AsRules.{Beside, to_controller, for_console_back}
use Rattle.ends.specs.Packets.{head_for_controller}
use Rattle.ends.specs.declared.Report.{Report}
use Rattle.ends.specs.declared.Report.TheVariants as report
use Rattle.ends.specs.declared.ToConsole.{ToConsole}
use Rattle.ends.specs.declared.ToController.{ToController}
use Rattle.ends_controller.specs.AsRules.{mode, mode_back, end, acted}
use Rattle.ends_controller.specs.Fields.{controller_ok, controller_read, controller_end}
use Rattle.ends_controller.specs.Types.{Acted, End}
use Rattle.ends_controller.specs.declared.fields.Controller.{Controller}
use Rattle.ends_controller.proofs.ActsDone.{same_mode}
use Rattle.ends_controller.proofs.FieldsAsRules.{unchanged}
use Rattle.ends_controller.proofs.FieldsRead.{was_read, not_read}
use Rattle.ends_controller.proofs.MessageBeside.{refusal_of as number_of_act, step_done, step_refused}
use Rattle.alone.specs.AnyEnd.{lent}
use Rattle.alone.specs.ControllerAlone.{ControllerAlone, controller_refused, controller_told, controller_alone_acts, controller_alone_takes, controller_hears, controller_lent, controller_asked, controller_asks, controller_letter, controller_alone}
use Rattle.alone.specs.ControllerPrivate.{controller_act, controller_came, controller_heard, controller_does, controller_tells, controller_asked_by, controller_ask_in, controller_answer}
use Rattle.alone.specs.Private.{refuses, sends}
use Rattle.alone.proofs.ControllerOutcome.{told}

-- ## What is asked

same_absent : (o : maybe.Option rules.ToConsole) → rules.absent (option_means (for_console_back o)) ≡ rules.absent o
unfolding rules.absent
same_absent maybe.none = refl
same_absent (maybe.some p) = refl

-- what the rules' turn sends
sending : (e : End) (o : maybe.Option rules.ToConsole) (long : ℕ) →
    sends e (for_console_back o) long
    ≡ lent refuses long
    (unless_refused (first (rules.down_4 e.up ∷ rules.mode_6 o ∷ []))
    (record { report = report.Nothing; sent = for_console_back o; after = record { numbers = e.numbers; mode = mode_back (mode e.mode); up = e.up } }))
sending e o long =
    λ i.
    lent refuses long
    (unless_refused (first (rules.down_4 e.up ∷ (6, same_absent o i) ∷ []))
    (record { report = report.Nothing; sent = for_console_back o; after = record { numbers = e.numbers; mode = same_mode e.mode i; up = e.up } }))

module _ {s : Option ToConsole} {x : Result Acted Refusal} (e : End) (long : ℕ) where
  pub sends_offer : s ≡ for_console_back (rules.offer_sent (mode e.mode)) → x ≡ sends e s long → x ≡ lent refuses long (controller_act e rules.send_offer)
  unfolding controller_act rules.ends
  sends_offer f h = h ∙ ap (λ (o : Option ToConsole). sends e o long) f ∙ sending e (rules.offer_sent (mode e.mode)) long

  pub sends_ok : s ≡ for_console_back (rules.ok_sent (mode e.mode)) → x ≡ sends e s long → x ≡ lent refuses long (controller_act e rules.send_ok)
  unfolding controller_act rules.ends
  sends_ok f h = h ∙ ap (λ (o : Option ToConsole). sends e o long) f ∙ sending e (rules.ok_sent (mode e.mode)) long

pub goes_down : {d : Acted} (e : End) → d ≡ acted (rules.controller_acts numbering (end e) rules.ControllerAct.go_down) → Ok d ≡ controller_act e rules.ControllerAct.go_down
unfolding controller_act rules.ends
goes_down e f = ap Ok f

pub ruleset asking = (sends_offer, sends_ok, goes_down)

-- ## What is answered to it, where m is the message of the packet in

module _ (c : Controller) (reply : List ℕ) where
  abbrev answered : List ℕ → Result Acted Refusal → ControllerAlone
  answered m x = controller_answer c m reply x

  lent_so : (m : List ℕ) (x : Result Acted Refusal) {y : ControllerAlone} → answered m x ≡ y → answered m (lent refuses (length reply) x) ≡ controller_lent c reply y
  unfolding lent chosen
  lent_so m x h = by_test (eqb (length reply) 32) (λ t. rw t h) (λ f. rw f)

  module _ (ok : controller_ok c ≡ true) (m : List ℕ) where
    abbrev e : End
    e = controller_end c

    -- refused or done, it is the rules' step
    by_number : (a : rules.ControllerAct Beside) (n : ℕ) → n ≡ number_of_act numbering (end e) a →
        answered m (unless_refused n (acted (rules.controller_acts numbering (end e) a))) ≡ controller_alone_acts c reply (in_controller_act (λ _. m) a)
    unfolding rules.absent controller_alone_acts
    by_number a zero f =
        told (rules.controller_acts numbering (end e) a) m reply
        ∙ ap (λ (d : rules.ControllerActed Numbers (List ℕ)). controller_told d reply) (sym (nat_controller_acts (λ _. m) numbering (end e) a) ∙ sym (step_done numbering (end e) a m (sym f)))
    by_number a (suc n) f =
        let refuses : number_of_act numbering (end e) a ≡ 0 → ⊥ = λ z. absurd (omega (arith, f ∙ z)) in
        let same = sym (unchanged c ok) in
        (λ i. record { outcome = record { report = report.Refused (refusal_of (f i)); message = spaces; sent = false; controller = same i }; reply = reply })
        ∙ ap (λ (d : rules.ControllerActed Numbers (List ℕ)). controller_told d reply) (sym (step_refused numbering (end e) a m refuses))

    act_so : (a : rules.ControllerAct Beside) → answered m (controller_act e a) ≡ controller_alone_acts c reply (in_controller_act (λ _. m) a)
    unfolding controller_act
    act_so a = by_number a (refusal (rules.controller_rules numbering (end e) a)) refl

    came_so : (p : Option ToController) → answered m (controller_came e p) ≡ controller_alone_takes c reply m p
    came_so None = refl
    came_so (Some p) = act_so (rules.ControllerAct.take (maybe.some (to_controller p)))

    heard_so : (h : Result Head Refusal) → answered m (controller_heard e h) ≡ controller_hears c reply (with_message h m)
    heard_so (Err q) = ap (λ (x : Refusal). answered m (Err x)) (sym (refusal_of-number_of q))
    heard_so (Ok h) = came_so (head_for_controller h)

  asked_so : controller_ok c ≡ true → (packet : List ℕ) (ask : ControllerAsk) →
      answered (drop 16 packet) (controller_does (controller_end c) packet (length reply) (controller_ask_means ask))
      ≡ controller_asked c reply packet (controller_ask_means ask)
  asked_so ok packet asks.SendOffer = let m = drop 16 packet in lent_so m _ (act_so ok m rules.send_offer)
  asked_so ok packet asks.SendOk = let m = drop 16 packet in lent_so m _ (act_so ok m rules.send_ok)
  asked_so ok packet asks.Take = let m = drop 16 packet in lent_so m _ (heard_so ok m (head_read packet))
  asked_so ok packet asks.GoDown = act_so ok (drop 16 packet) rules.ControllerAct.go_down
  asked_so ok packet asks.ComeBack = act_so ok (drop 16 packet) rules.ControllerAct.come_back

-- ## The entry

module _ (c : Controller) (b : ℕ) (packet reply : List ℕ) where
  abbrev by_ask : Option ControllerAsk → ControllerAlone
  by_ask None = controller_refused 1 c reply
  by_ask (Some a) = controller_asks c reply packet (the_controller (controller_ask_means a))

  by_asks : (k : code.Asks) → by_ask (controller_asked_by k) ≡ controller_asks c reply packet (asks_means k)
  by_asks (asked.Console a) = refl
  by_asks (asked.Controller a) = refl
  by_asks asked.NoEnd = refl

  by_letter : (f : Option Line) → f ≡ found_of (letter b) → by_ask (controller_ask_in f) ≡ controller_alone c b packet reply
  unfolding controller_alone
  by_letter None f = ap (controller_letter c reply packet) (sym (nothing_found (letter b) f refl))
  by_letter (Some l) f =
      let o = line_found (letter b) f refl in
      by_asks l.asks ∙ ap (controller_asks c reply packet) (sym o.2) ∙ ap (controller_letter c reply packet) (sym o.1)

  module _ {o : Option ControllerAsk} (asks : o ≡ controller_ask_in (found_of (letter b))) where
    asked_as : {a : Option ControllerAsk} → o ≡ a → by_ask a ≡ controller_alone c b packet reply
    asked_as f = ap by_ask (sym f ∙ asks) ∙ by_letter (found_of (letter b)) refl

    pub no_action : o ≡ None → controller_refused 1 c reply ≡ controller_alone c b packet reply
    no_action f = asked_as f

    module _ {a : ControllerAsk} {r : Option End} (f : o ≡ Some a) (reads : r ≡ controller_read c) where
      pub ill_formed : r ≡ None → controller_refused 2 c reply ≡ controller_alone c b packet reply
      unfolding chosen
      ill_formed n =
          let two : controller_refused 2 c reply ≡ by_ask (Some a) = rw (not_read c (sym reads ∙ n)) in
          two ∙ asked_as f

      module _ {e : End} (g : r ≡ Some e) where
        answered_so : {d : Result Acted Refusal} → d ≡ controller_does e packet (length reply) (controller_ask_means a)
            → answered c reply (drop 16 packet) d ≡ controller_alone c b packet reply
        unfolding chosen
        answered_so q =
            let w = was_read c (sym reads ∙ g) in
            let does : controller_asked c reply packet (controller_ask_means a) ≡ by_ask (Some a) = rw w.0 in
            ap (answered c reply (drop 16 packet)) (q ∙ ap (λ (x : End). controller_does x packet (length reply) (controller_ask_means a)) w.1)
            ∙ asked_so c reply w.0 packet a
            ∙ does ∙ asked_as f

        pub refused_then : {q : Refusal} → Err q ≡ controller_does e packet (length reply) (controller_ask_means a)
            → record { outcome = record { report = report.Refused q; message = spaces; sent = false; controller = c }; reply = reply } ≡ controller_alone c b packet reply
        refused_then q = answered_so q

        pub told_then : {d : Acted} → Ok d ≡ controller_does e packet (length reply) (controller_ask_means a) → controller_tells d (drop 16 packet) reply ≡ controller_alone c b packet reply
        told_then q = answered_so q

pub ruleset entry = (no_action, ill_formed, refused_then, told_then)

-- whatever is asked of a controller that is not well formed is refused
pub ill_refused : (P : Report → Type 0) → ((r : Refusal) → P (report.Refused r)) → (c : Controller) → controller_ok c ≡ false → (l : ℕ) (packet reply : List ℕ) → P (controller_alone c l packet reply).outcome.report
unfolding controller_alone chosen
ill_refused P refuses c f l packet reply = by_letter (letter l)
  where
    by_asks : (a : Asks) → P (controller_asks c reply packet a).outcome.report
    by_asks (the_console a) = refuses NoAction
    by_asks (the_controller a) = rw f (refuses IllFormed)
    by_asks neither_end = refuses NoAction

    by_letter : (o : maybe.Option Letter) → P (controller_letter c reply packet o).outcome.report
    by_letter maybe.none = refuses NoAction
    by_letter (maybe.some k) = by_asks (line k).asks
