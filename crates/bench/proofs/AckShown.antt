-- The layer of the ack over the history's step: what is shown of an outcome, and what the ack is then.
use Prim.Native.Nat.{ℕ}
use mathlib.Core.Path.{◌≡◌, refl, sym, ap, subst, ◌∙◌}
use mathlib.Core.Bool.{Bool}
use mathlib.Core.List.{List}
use Rattle.ground.specs.Cell.{is_message}
use Rattle.rules.specs.Supply.{Supply}
use Rattle.rules.specs.Letters as letters
use Rattle.rules.specs.Ends as ends
use Rattle.rules.specs.Bench as rules
use Rattle.rules.specs.Reading.{Use, leaves, use_by, said, reading, read}
use Rattle.rules.proofs.Lists.{if_holds}
use Rattle.rules.proofs.Ends.{controller_reports}
use Rattle.rules.proofs.Said.{NoAnswer, said_same, said_as_it_is, ack_as_it_is}
use Rattle.letters.specs.Lines.{line_of, letter_of, Lined}
use Rattle.letters.specs.declared.Asks.{Asks}
use Rattle.letters.specs.declared.Asks.TheVariants as asks
use Rattle.letters.specs.declared.Line.{Line}
use Rattle.ends.specs.AsRules.{report_back, delivered}
use Rattle.ends_console.specs.Ack.{use_means, ack_use, acked}
use Rattle.ends_console.proofs.ShownReport.{acked_is}
use Rattle.channels.specs.Packets.{to_controller_bytes, to_console_bytes}
use Rattle.channels.specs.Table.{channel}
use Rattle.bench.specs.ByModes.{RulesOutcome, shown_of}
use Rattle.bench.specs.WithNumbers.{ReadOutcome, read_of}

-- ## What is shown of an outcome of the history

abbrev pub shown_with : {S : Type 0} → Use → Bool → RulesOutcome S → ReadOutcome S
shown_with u ack x =
    let s = acked u ack x.report in
    record { report = s.report; message = x.message; after = reading x.after s.ack; out = x.out; back = x.back }

-- the message is the delivered one, whatever is shown
pub said_message : (u : Use) (ack : Bool) (r : ends.Report (List ℕ)) → delivered r ≡ delivered (said u ack r)
said_message u ack r = sym (said_same delivered refl refl u ack r)

pub read_shown : {S : Type 0} (u : Use) (ack : Bool) (o : rules.Outcome S (List ℕ)) → shown_with u ack (shown_of o) ≡ read_of (read u ack o.report o.after)
unfolding shown_of read_of
read_shown u ack o =
    λ i.
    record {
      report = (acked_is u ack o.report i).report;
      message = said_message u ack o.report i;
      after = reading o.after (acked_is u ack o.report i).ack;
      out = channel to_controller_bytes o.after.to_controller;
      back = channel to_console_bytes o.after.to_console;
    }

-- where no answer arrives it is shown as it is
abbrev pub kept_with : {S : Type 0} → Bool → RulesOutcome S → ReadOutcome S
kept_with ack x = record { report = x.report; message = x.message; after = reading x.after ack; out = x.out; back = x.back }

pub read_kept : {S : Type 0} (ack : Bool) (o : rules.Outcome S (List ℕ)) → NoAnswer o.report → kept_with ack (shown_of o) ≡ read_of (read leaves ack o.report o.after)
unfolding shown_of read_of
read_kept ack o h =
    λ i.
    record {
      report = report_back (sym (said_as_it_is ack o.report h) i);
      message = delivered (sym (said_as_it_is ack o.report h) i);
      after = reading o.after (sym (ack_as_it_is ack o.report h) i);
      out = channel to_controller_bytes o.after.to_controller;
      back = channel to_console_bytes o.after.to_console;
    }

-- ## By the line: what it does with the ack; and an answer arrives at the console alone

abbrev pub use_of : Asks → Use
use_of (asks.Console ask) = use_means (ack_use ask)
use_of (asks.Controller ask) = leaves
use_of asks.NoEnd = leaves

abbrev pub Elsewhere : Asks → Type 0
Elsewhere (asks.Console ask) = ⊥
Elsewhere (asks.Controller ask) = Unit {0}
Elsewhere asks.NoEnd = Unit {0}

module _ {S : Type 0} (U : Supply S) (b : rules.Bench S (List ℕ)) (k n : ℕ) (m : List ℕ) where
  use_by_letter : (l : letters.Letter) → use_by (rules.asks b l k m) ≡ use_of (line_of l).asks
  unfolding line_of letters.line rules.asks
  use_by_letter letters.p_put = refl
  use_by_letter letters.q_need = refl
  use_by_letter letters.d_data = refl
  use_by_letter letters.s_take = refl
  use_by_letter letters.c_down = refl
  use_by_letter letters.v_back = refl
  use_by_letter letters.o_offer = refl
  use_by_letter letters.k_ok = refl
  use_by_letter letters.r_take = refl
  use_by_letter letters.x_down = refl
  use_by_letter letters.y_back = refl
  use_by_letter letters.l_lose = refl
  use_by_letter letters.m_lose = refl
  use_by_letter letters.a_ack = refl

  controller_quiet : (act : ends.ControllerAct (List ℕ)) → NoAnswer (ends.controller_acts U b.controller act).report
  controller_quiet act = controller_reports NoAnswer tt (λ x. tt) U b.controller act

  effect_quiet : (l : letters.Letter) → Elsewhere (line_of l).asks → NoAnswer (rules.effect U b (rules.action l k n m)).report
  unfolding line_of letters.line rules.effect rules.does rules.asks rules.takes rules.taken_out
  effect_quiet letters.p_put h = absurd h
  effect_quiet letters.q_need h = absurd h
  effect_quiet letters.d_data h = absurd h
  effect_quiet letters.s_take h = absurd h
  effect_quiet letters.c_down h = absurd h
  effect_quiet letters.v_back h = absurd h
  effect_quiet letters.o_offer h = controller_quiet _
  effect_quiet letters.k_ok h = controller_quiet _
  effect_quiet letters.r_take h = controller_quiet _
  effect_quiet letters.x_down h = controller_quiet _
  effect_quiet letters.y_back h = controller_quiet _
  effect_quiet letters.l_lose h = tt
  effect_quiet letters.m_lose h = tt
  effect_quiet letters.a_ack h = absurd h

  module _ (line : Line) (lined : Lined line) where
    pub use_by_line : use_by (rules.asks b (letter_of line) k m) ≡ use_of line.asks
    unfolding Lined
    use_by_line = use_by_letter (letter_of line) ∙ ap (λ (x : Line). use_of x.asks) (sym lined)

    pub step_quiet : Elsewhere line.asks → NoAnswer (rules.step U is_message b (rules.action (letter_of line) k n m)).report
    unfolding Lined rules.step
    step_quiet h =
        if_holds (λ (o : rules.Outcome S (List ℕ)). NoAnswer o.report) _ _ _
        (λ e. effect_quiet (letter_of line) (subst (λ (x : Line). Elsewhere x.asks) lined h)) (λ e. tt)
