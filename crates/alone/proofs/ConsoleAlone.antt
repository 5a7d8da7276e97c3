-- A console run alone: what it does that is asked, and what is answered to a letter.
use Prim.Native.Nat.{ℕ, zero, suc}
use mathlib.Core.Path.{◌≡◌, refl, sym, ap, ◌∙◌}
use mathlib.Core.Bool.{true, false}
use mathlib.Core.Option as maybe
use mathlib.Core.List.{List, [], ◌∷◌}
use lib.ListN.{length}
use native.Mathlib.Omega.{arith}
use lib.Dec.{eqb}
use Rattle.std.specs.Prelude.{Option, None, Some, Result, Ok, Err}
use Rattle.ground.specs.Choice.{chosen}
use Rattle.ground.specs.First.{first, refusal}
use Rattle.ground.specs.Options.{option_means}
use Rattle.ground.specs.Refusals.{refusal_of, unless_refused}
use Rattle.ground.specs.declared.refusals.Refusal.{Refusal}
use Rattle.ground.specs.declared.refusals.Refusal.TheVariants.{NoAction, IllFormed}
use Rattle.ground.proofs.RefusalNumbers.{refusal_of-number_of}
use Rattle.ground.proofs.Tests.{by_test}
use Rattle.wire.specs.Packet.{head_read}
use Rattle.wire.specs.declared.Head.{Head}
use Rattle.rules.specs.Supply.{numbering, Numbers}
use Rattle.rules.specs.Letters.{Letter, line, letter, Asks, the_console, the_controller, neither_end}
use Rattle.rules.specs.Ends as rules
use Rattle.rules.specs.Reading.{Use, leaves, use_of, said, ack_after, acted_read, console_read_step}
use Rattle.rules.specs.Relabel.{in_console_act}
use Rattle.letters.specs.Lines.{found_of, console_ask_means, asks_means}
use Rattle.letters.proofs.Asking.{nothing_found, line_found}
use Rattle.letters.specs.declared.ConsoleAsk.{ConsoleAsk}
use Rattle.letters.specs.declared.ConsoleAsk.TheVariants as asks
use Rattle.letters.specs.declared.Asks as code
use Rattle.letters.specs.declared.Asks.TheVariants as asked
use Rattle.letters.specs.declared.Line.{Line}
use Rattle.ends.specs.AsRules.{Beside, tested, to_console, for_controller_back}
use Rattle.ends.specs.Packets.{head_for_console}
use Rattle.ends.specs.declared.Report.{Report}
use Rattle.ends.specs.declared.Report.TheVariants as report
use Rattle.ends.specs.declared.ToConsole.{ToConsole}
use Rattle.ends.specs.declared.ToController.{ToController}
use Rattle.ends_console.specs.Ack.{ack_use, use_means}
use Rattle.ends_console.specs.AsRules.{mode, mode_back, end, acted}
use Rattle.ends_console.specs.Fields.{console_ok, console_read, console_end}
use Rattle.ends_console.specs.FieldsAsRules.{kept}
use Rattle.ends_console.specs.Types.{Acted, End}
use Rattle.ends_console.specs.declared.fields.Console.{Console}
use Rattle.ends_console.proofs.ActsDone.{same_mode}
use Rattle.ends_console.proofs.FieldsAsRules.{unchanged}
use Rattle.ends_console.proofs.FieldsRead.{was_read, not_read}
use Rattle.ends_console.proofs.MessageBeside.{refusal_of as number_of_act, step_done, step_refused}
use Rattle.alone.specs.AnyEnd.{lent}
use Rattle.alone.specs.ConsoleAlone.{ConsoleAlone, console_refused, console_told, console_alone_acts, console_alone_takes, console_hears, console_lent, console_asked, console_asks, console_letter, console_alone}
use Rattle.alone.specs.ConsolePrivate.{console_act, console_came, console_heard, console_does, message_kept, console_tells, console_asked_by, console_ask_in}
use Rattle.alone.specs.Private.{refuses, sends}
use Rattle.alone.proofs.ConsoleOutcome.{told}

-- ## What is asked

same_absent : (o : maybe.Option (rules.ToController Beside)) → rules.absent (option_means (for_controller_back o)) ≡ rules.absent o
unfolding rules.absent
same_absent maybe.none = refl
same_absent (maybe.some p) = refl

-- what the rules' turn sends
sending : (e : End) (o : maybe.Option (rules.ToController Beside)) (long : ℕ) →
    sends e (for_controller_back o) long
    ≡ lent refuses long
    (unless_refused (first (rules.down_4 e.up ∷ rules.mode_6 o ∷ []))
    (record { report = report.Nothing; sent = for_controller_back o; after = record { numbers = e.numbers; mode = mode_back (mode e.mode); up = e.up } }))
sending e o long =
    λ i.
    lent refuses long
    (unless_refused (first (rules.down_4 e.up ∷ (6, same_absent o i) ∷ []))
    (record { report = report.Nothing; sent = for_controller_back o; after = record { numbers = e.numbers; mode = same_mode e.mode i; up = e.up } }))

module _ {s : Option ToController} {x : Result Acted Refusal} (e : End) (long : ℕ) where
  pub sends_need_i : s ≡ for_controller_back (rules.need_i_sent (mode e.mode)) → x ≡ sends e s long → x ≡ lent refuses long (console_act e true rules.send_need_i)
  unfolding console_act rules.ends
  sends_need_i f h = h ∙ ap (λ (o : Option ToController). sends e o long) f ∙ sending e (rules.need_i_sent (mode e.mode)) long

  pub sends_data : s ≡ for_controller_back (rules.data_sent (mode e.mode)) → x ≡ sends e s long → x ≡ lent refuses long (console_act e true rules.send_data)
  unfolding console_act rules.ends
  sends_data f h = h ∙ ap (λ (o : Option ToController). sends e o long) f ∙ sending e (rules.data_sent (mode e.mode)) long

pub goes_down : {d : Acted} (e : End) → d ≡ acted (rules.console_acts numbering (end e) rules.ConsoleAct.go_down) → Ok d ≡ console_act e true rules.ConsoleAct.go_down
unfolding console_act rules.ends
goes_down e f = ap Ok f

pub ruleset asking = (sends_need_i, sends_data, goes_down)

-- ## What is answered to it, by an act that uses the ack so, where m is held then

module _ (c : Console) (reply : List ℕ) where
  abbrev answered : Use → List ℕ → Result Acted Refusal → ConsoleAlone
  answered u m (Err q) = record { outcome = record { report = report.Refused q; sent = false; console = c }; reply = reply }
  answered u m (Ok d) = console_tells d u c.ack m reply

  lent_so : (u : Use) (m : List ℕ) (x : Result Acted Refusal) {y : ConsoleAlone} → answered u m x ≡ y → answered u m (lent refuses (length reply) x) ≡ console_lent c reply y
  unfolding lent chosen
  lent_so u m x h = by_test (eqb (length reply) 32) (λ t. rw t h) (λ f. rw f)

  module _ (ok : console_ok c ≡ true) (long : length c.message ≡ 16) (m packet : List ℕ) where
    abbrev e : End
    e = console_end c

    -- refused or done, it is the rules' step
    act_so : (a : rules.ConsoleAct Beside) (n : ℕ) → n ≡ number_of_act numbering (end e) a m →
        answered (use_of (in_console_act (λ _. m) a)) (kept a m c.message) (unless_refused n (acted (rules.console_acts numbering (end e) a)))
        ≡ console_alone_acts c reply (in_console_act (λ _. m) a)
    unfolding rules.absent console_alone_acts console_read_step said ack_after
    act_so a zero f =
        let u = use_of (in_console_act (λ _. m) a) in
        told u c.ack (rules.console_acts numbering (end e) a) (kept a m c.message) reply
        ∙ ap (λ (d : rules.ConsoleActed Numbers (List ℕ)). console_told (acted_read u c.ack d) reply) (sym (step_done numbering (end e) c.message a m (sym f)))
    act_so a (suc n) f =
        let u = use_of (in_console_act (λ _. m) a) in
        let refuses : number_of_act numbering (end e) a m ≡ 0 → ⊥ = λ z. absurd (omega (arith, f ∙ z)) in
        let same = sym (unchanged c long ok) in
        (λ i. record { outcome = record { report = report.Refused (refusal_of (f i)); sent = false; console = same i }; reply = reply })
        ∙ ap (λ (d : rules.ConsoleActed Numbers (List ℕ)). console_told (acted_read u c.ack d) reply) (sym (step_refused numbering (end e) c.message a m refuses))

    -- whatever message is put
    acts_so : (a : rules.ConsoleAct Beside) → refusal (rules.console_rules numbering (tested true) (end e) a) ≡ number_of_act numbering (end e) a m →
        answered (use_of (in_console_act (λ _. m) a)) (kept a m c.message) (console_act e true a) ≡ console_alone_acts c reply (in_console_act (λ _. m) a)
    unfolding console_act
    acts_so a f = act_so a (refusal (rules.console_rules numbering (tested true) (end e) a)) f

    came_so : (p : Option ToConsole) → answered leaves c.message (console_came e p) ≡ console_alone_takes c reply p
    unfolding rules.console_rules
    came_so None = refl
    came_so (Some p) = acts_so (rules.ConsoleAct.take (maybe.some (to_console p))) refl

    heard_so : (h : Result Head Refusal) → answered leaves c.message (console_heard e h) ≡ console_hears c reply h
    heard_so (Err q) = ap (λ (x : Refusal). answered leaves c.message (Err x)) (sym (refusal_of-number_of q))
    heard_so (Ok h) = came_so (head_for_console h)

    asked_so : (ask : ConsoleAsk) →
        answered (use_means (ack_use ask)) (message_kept (console_ask_means ask) m c.message) (console_does e m packet (length reply) (console_ask_means ask))
        ≡ console_asked c reply m packet (console_ask_means ask)
    unfolding console_act rules.console_rules
    asked_so asks.Put = act_so (rules.put tt) _ refl
    asked_so asks.SendNeedI = lent_so leaves c.message _ (acts_so rules.send_need_i refl)
    asked_so asks.SendData = lent_so leaves c.message _ (acts_so rules.send_data refl)
    asked_so asks.Take = lent_so leaves c.message _ (heard_so (head_read packet))
    asked_so asks.GoDown = acts_so rules.ConsoleAct.go_down refl
    asked_so asks.ComeBack = acts_so rules.ConsoleAct.come_back refl
    asked_so asks.TellAck = acts_so rules.tell_ack refl

-- ## The entry

module _ (c : Console) (b : ℕ) (m packet reply : List ℕ) where
  abbrev by_ask : Option ConsoleAsk → ConsoleAlone
  by_ask None = console_refused 1 c reply
  by_ask (Some a) = console_asks c reply m packet (the_console (console_ask_means a))

  by_asks : (k : code.Asks) → by_ask (console_asked_by k) ≡ console_asks c reply m packet (asks_means k)
  by_asks (asked.Console a) = refl
  by_asks (asked.Controller a) = refl
  by_asks asked.NoEnd = refl

  by_letter : (f : Option Line) → f ≡ found_of (letter b) → by_ask (console_ask_in f) ≡ console_alone c b m packet reply
  unfolding console_alone
  by_letter None f = ap (console_letter c reply m packet) (sym (nothing_found (letter b) f refl))
  by_letter (Some l) f =
      let o = line_found (letter b) f refl in
      by_asks l.asks ∙ ap (console_asks c reply m packet) (sym o.2) ∙ ap (console_letter c reply m packet) (sym o.1)

  module _ {o : Option ConsoleAsk} (asks : o ≡ console_ask_in (found_of (letter b))) where
    asked_as : {a : Option ConsoleAsk} → o ≡ a → by_ask a ≡ console_alone c b m packet reply
    asked_as f = ap by_ask (sym f ∙ asks) ∙ by_letter (found_of (letter b)) refl

    pub no_action : o ≡ None → console_refused 1 c reply ≡ console_alone c b m packet reply
    no_action f = asked_as f

    module _ {a : ConsoleAsk} {r : Option End} (f : o ≡ Some a) (reads : r ≡ console_read c) where
      pub ill_formed : r ≡ None → console_refused 2 c reply ≡ console_alone c b m packet reply
      unfolding chosen
      ill_formed n =
          let two : console_refused 2 c reply ≡ by_ask (Some a) = rw (not_read c (sym reads ∙ n)) in
          two ∙ asked_as f

      module _ {e : End} (g : r ≡ Some e) (long : length c.message ≡ 16) where
        answered_so : {d : Result Acted Refusal} → d ≡ console_does e m packet (length reply) (console_ask_means a)
            → answered c reply (use_means (ack_use a)) (message_kept (console_ask_means a) m c.message) d ≡ console_alone c b m packet reply
        unfolding chosen
        answered_so q =
            let w = was_read c (sym reads ∙ g) in
            let does : console_asked c reply m packet (console_ask_means a) ≡ by_ask (Some a) = rw w.0 in
            let told = answered c reply (use_means (ack_use a)) (message_kept (console_ask_means a) m c.message) in
            ap told (q ∙ ap (λ (x : End). console_does x m packet (length reply) (console_ask_means a)) w.1)
            ∙ asked_so c reply w.0 long m packet a
            ∙ does ∙ asked_as f

        pub refused_then : {q : Refusal} → Err q ≡ console_does e m packet (length reply) (console_ask_means a)
            → record { outcome = record { report = report.Refused q; sent = false; console = c }; reply = reply } ≡ console_alone c b m packet reply
        refused_then q = answered_so q

        pub told_then : {d : Acted} → Ok d ≡ console_does e m packet (length reply) (console_ask_means a)
            → console_tells d (use_means (ack_use a)) c.ack (message_kept (console_ask_means a) m c.message) reply ≡ console_alone c b m packet reply
        told_then q = answered_so q

pub ruleset entry = (no_action, ill_formed, refused_then, told_then)

-- whatever is asked of a console that is not well formed is refused
pub ill_refused : (P : Report → Type 0) → ((r : Refusal) → P (report.Refused r)) → (c : Console) → console_ok c ≡ false → (l : ℕ) (m packet reply : List ℕ) → P (console_alone c l m packet reply).outcome.report
unfolding console_alone chosen
ill_refused P refuses c f l m packet reply = by_letter (letter l)
  where
    by_asks : (a : Asks) → P (console_asks c reply m packet a).outcome.report
    by_asks (the_console a) = rw f (refuses IllFormed)
    by_asks (the_controller a) = refuses NoAction
    by_asks neither_end = refuses NoAction

    by_letter : (o : maybe.Option Letter) → P (console_letter c reply m packet o).outcome.report
    by_letter maybe.none = refuses NoAction
    by_letter (maybe.some k) = by_asks (line k).asks
