-- Demand 3 of two boxes over any radio, as they run: each end run alone runs as the rules' end does.
use mathlib.Core.Path.{◌≡◌, refl, sym, ap, subst, ◌∙◌}
use mathlib.Core.Logic.{inl, inr}
use mathlib.Core.Bool.{Bool, true, not}
use mathlib.Core.Option.{Option, none, some, map, none-ne-some}
use mathlib.Core.List.{List}
use lib.ListN.{drop}
use Rattle.ground.specs.declared.refusals.Refusal.{Refusal}
use Rattle.std.specs.Prelude as prelude
use Rattle.ground.specs.Refusals.{refusal_of}
use Rattle.ground.specs.Cell.{is_message}
use Rattle.wire.specs.Packet.{head_read, with_message}
use Rattle.wire.specs.declared.Head.{Head}
use Rattle.rules.specs.Supply.{numbering, Numbers}
use Rattle.rules.specs.Ends as rules
use Rattle.rules.specs.Bench as bench
use Rattle.rules.specs.Bench.{Bench}
use Rattle.rules.specs.Relabel.{in_packet}
use Rattle.rules.specs.ReadPlain.{PlainRead}
use Rattle.rules.specs.Radio as radio
use Rattle.rules.specs.Reading.{Reading, reading, unread, console_read_step}
use Rattle.rules.specs.ReadRadio.{radio_read_log}
use Rattle.rules.specs.WellFormed.{ConsoleOk, ControllerOk}
use Rattle.rules.proofs.ReadPlain.{right_read_plain}
use Rattle.rules.proofs.Supply.{numbering_lawful, back_is_reserved, back_again}
use Rattle.numbers.specs.Numbers.{numbers_means, numbers_back, numbers_kept}
use Rattle.numbers.specs.declared.Numbers as code
use Rattle.ends_console.specs.Fields.{console_kept, downed_console}
use Rattle.ends_console.specs.FieldsAsRules.{console_back}
use Rattle.ends_console.specs.declared.fields.Console.{Console}
use Rattle.ends_console.proofs.WellFormed.{console_stands}
use Rattle.ends_controller.specs.Fields.{controller_kept, downed_controller}
use Rattle.ends_controller.specs.FieldsAsRules.{controller_back}
use Rattle.ends_controller.specs.declared.fields.Controller.{Controller}
use Rattle.ends_controller.proofs.WellFormed.{controller_stands}
use Rattle.ends.specs.AsRules.{Beside, delivered, for_controller}
use Rattle.ends.specs.Packets.{head_for_controller, read_for_controller}
use Rattle.alone.specs.ConsoleAlone.{ConsoleAlone, console_told}
use Rattle.alone.specs.ControllerAlone.{ControllerAlone, controller_told}
use Rattle.alone.proofs.Calls.{packet_heard, ConsoleCall, console_call, ControllerCall, controller_call}
use Rattle.demand3.specs.AnyBoxes.{Call, Event, AllHonest}
use Rattle.demand3.specs.Boxes.{console_kind, controller_kind, Stored, start, BoxesRight}
use Rattle.demand3.proofs.AnyBoxes.{Row, console_side, controller_side, ShownCells, ComesTo, Finds, Runs, Suits, BoxesStand, any_right}

-- what is kept of an end holds its numbers
abbrev Holds : code.Numbers → Numbers → Type 0
Holds kept n = kept ≡ numbers_kept n.reserved n.block

pub back_holds : (kept : code.Numbers) (n : Numbers) → Holds kept n → numbering.sound n ≡ true → kept ≡ numbers_back (numbering.back n)
back_holds kept n h sound = h ∙ ap numbers_back (sym (back_is_reserved n sound))

-- ## The console

pub console_numbers : (e : Reading (rules.Console Numbers Row)) → (console_back e).numbers ≡ numbers_back e.history.numbers
console_numbers e = of e.history.mode e.history.numbers e.history.up
  where
    of : (x : rules.ConsoleMode Row) (n : Numbers) (up : Bool) → (console_back (reading (record { numbers = n; mode = x; up = up }) e.ack)).numbers ≡ numbers_back n
    of rules.ConsoleMode.idle n up = refl
    of (rules.in_need_i j m) n up = refl
    of (rules.in_send l m) n up = refl

pub console_kept_so : (e : Reading (rules.Console Numbers Row)) → Holds (console_kept (console_back e)) e.history.numbers
console_kept_so e = ap (λ (n : code.Numbers). numbers_kept n.reserved n.block) (console_numbers e)

module _ (b : Bench Numbers Row) (ack : Bool) (kept : code.Numbers) (c : Call) where
  abbrev e : Reading (rules.Console Numbers Row)
  e = reading b.console ack

  abbrev ConsoleComesTo : ConsoleAlone → Type 0
  ConsoleComesTo d = ComesTo (console_side numbering) console_kind (λ x z. x ≡ console_back z) Holds b e kept c d

  pub console_comes_to : ConsoleOk numbering is_message b.console → Holds kept b.console.numbers → Finds (console_side numbering) b console_kind.is_for c → ConsoleComesTo (console_kind.step (console_back e) c)
  unfolding rules.absent
  console_comes_to fine holds finds =
      by _ (console_call b (console_back e) (console_stands b.console ack fine).0 c.message c.packet c.reply c.letter (λ l q h. finds l (ap (λ (o : Option rules.ToConsole). not (rules.absent o)) h) q h))
    where
      by : (d : ConsoleAlone) → ConsoleCall b (console_back e) (console_stands b.console ack fine).0 c.message c.packet c.reply c.letter d → ConsoleComesTo d
      by d (inl (n, f)) =
          subst ConsoleComesTo (sym f) (inl (record { refusal = refusal_of n; says = refl; sends = refl; stands = refl; keeps = console_kept_so e ∙ sym holds }))
      by d (inr (l, (named, (x, (act, (q, f)))))) =
          subst ConsoleComesTo (sym (f ∙ ap (λ (z : Reading (rules.Console Numbers Row)). console_told (console_read_step numbering is_message z act) c.reply) (console_stands b.console ack fine).1))
          (inr (record { by = l; named = named; place = x; act = act; asked = q; says = refl; cells = tt; sends = refl; reply = refl; stands = refl; holds = console_kept_so ((console_side numbering).after e act) }))

abbrev pub console_runs : Runs (console_side numbering) console_kind
console_runs =
    record {
      Stands = λ x e. x ≡ console_back e;
      Holds = Holds;
      again = λ kept n h. h;
      starts = λ x e kept n stands fine holds sound. ap downed_console (back_holds kept n holds sound);
      call =
          λ b ack x kept c stands fine holds stays finds.
          subst (λ (z : Console). ConsoleComesTo b ack kept c (console_kind.step z c)) (sym stands) (console_comes_to b ack kept c fine holds finds);
    }

-- ## The controller

pub controller_numbers : (e : rules.Controller Numbers) → (controller_back e).numbers ≡ numbers_back e.numbers
controller_numbers e = of e.mode e.numbers e.up
  where
    of : (x : rules.ControllerMode) (n : Numbers) (up : Bool) → (controller_back (record { numbers = n; mode = x; up = up })).numbers ≡ numbers_back n
    of rules.ControllerMode.idle n up = refl
    of (rules.in_accept j i) n up = refl
    of (rules.in_ack l) n up = refl

pub controller_kept_so : (e : rules.Controller Numbers) → Holds (controller_kept (controller_back e)) e.numbers
controller_kept_so e = ap (λ (n : code.Numbers). numbers_kept n.reserved n.block) (controller_numbers e)

-- cells stand beside a delivery
told_cells : (r : rules.Report Row) → ShownCells r (delivered r)
told_cells rules.nothing = tt
told_cells (rules.delivered m) = refl
told_cells rules.answered_ok = tt
told_cells rules.answered_lost = tt
told_cells (rules.refused n) = tt

-- what reads as a packet is one
is_packet : (o : Option (rules.ToController Beside)) (m : Row) (q : rules.ToController Row) → map (in_packet (λ _. m)) o ≡ some q → not (rules.absent o) ≡ true
unfolding rules.absent
is_packet none m q e = absurd (none-ne-some q e)
is_packet (some p) m q e = refl

is_read : (h : prelude.Result Head Refusal) (m : Row) (q : rules.ToController Row) → packet_heard (with_message h m) ≡ some q → not (rules.absent (for_controller (read_for_controller h))) ≡ true
is_read (prelude.Err r) m q h = absurd (none-ne-some q h)
is_read (prelude.Ok x) m q h = is_packet (for_controller (head_for_controller x)) m q h

module _ (b : Bench Numbers Row) (kept : code.Numbers) (c : Call) where
  abbrev f : rules.Controller Numbers
  f = b.controller

  abbrev ControllerComesTo : ControllerAlone → Type 0
  ControllerComesTo d = ComesTo (controller_side numbering) controller_kind (λ x z. x ≡ controller_back z) Holds b f kept c d

  pub controller_comes_to : ControllerOk numbering f → Holds kept f.numbers → Finds (controller_side numbering) b controller_kind.is_for c → ControllerComesTo (controller_kind.step (controller_back f) c)
  controller_comes_to fine holds finds =
      by _ (controller_call b (controller_back f) (controller_stands f fine).0 c.message c.packet c.reply c.letter (λ l q h. finds l (is_read (head_read c.packet) (drop 16 c.packet) q h) q h))
    where
      by : (d : ControllerAlone) → ControllerCall b (controller_back f) (controller_stands f fine).0 c.message c.packet c.reply c.letter d → ControllerComesTo d
      by d (inl (n, g)) =
          subst ControllerComesTo (sym g) (inl (record { refusal = refusal_of n; says = refl; sends = refl; stands = refl; keeps = controller_kept_so f ∙ sym holds }))
      by d (inr (l, (named, (x, (act, (q, g)))))) =
          subst ControllerComesTo (sym (g ∙ ap (λ (z : rules.Controller Numbers). controller_told (rules.controller_step numbering z act) c.reply) (controller_stands f fine).1))
          (inr (record { by = l; named = named; place = x; act = act; asked = q; says = refl; cells = told_cells ((controller_side numbering).report f act); sends = refl; reply = refl; stands = refl; holds = controller_kept_so ((controller_side numbering).after f act) }))

abbrev pub controller_runs : Runs (controller_side numbering) controller_kind
controller_runs =
    record {
      Stands = λ x e. x ≡ controller_back e;
      Holds = Holds;
      again = λ kept n h. h;
      starts = λ x e kept n stands fine holds sound. ap downed_controller (back_holds kept n holds sound);
      call =
          λ b ack x kept c stands fine holds stays finds.
          subst (λ (z : Controller). ControllerComesTo b kept c (controller_kind.step z c)) (sym stands) (controller_comes_to b kept c fine holds finds);
    }

-- ## The theorem

pub numbering_suits : Suits numbering
numbering_suits = record { laws = numbering_lawful; back_again = back_again; fits = λ n h. h }

module _ (j i : code.Numbers) (p : Stored j) (q : Stored i) (es : List Event) (honest : AllHonest (start j i) es) where
  standing : BoxesStand console_runs controller_runs (start j i) (unread (radio.start (numbers_means j) (numbers_means i)))
  unfolding bench.fresh
  standing =
      record {
        console = record { stands = refl; holds = p.all_used; kept_is = ap numbers_means (back_holds j (numbers_means j) p.all_used p.sound); sent_is = refl };
        controller = record { stands = refl; holds = q.all_used; kept_is = ap numbers_means (back_holds i (numbers_means i) q.all_used q.sound); sent_is = refl };
      }

  pub boxes_right : BoxesRight j i es
  boxes_right = any_right numbering_suits (start j i) (numbers_means j) (numbers_means i) p.sound q.sound standing es honest

  -- in plain words
  pub boxes_plain : PlainRead (radio_read_log numbering is_message (numbers_means j) (numbers_means i) boxes_right.happenings)
  boxes_plain = right_read_plain (radio_read_log numbering is_message (numbers_means j) (numbers_means i) boxes_right.happenings) boxes_right.right
