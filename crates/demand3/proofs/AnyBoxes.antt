-- Demand 3 of two boxes over any radio, whatever runs in them, over every lawful supply of numbers: if each box runs as the rules' end of its side does
-- (`Runs`), call by call the boxes do what the rules' ends do over the radio.
use Prim.Native.Nat.{ℕ}
use mathlib.Core.Path.{◌≡◌, refl, sym, ap, ap₂, subst, ◌∙◌}
use mathlib.Core.Logic.{◌⊎◌, ⊎_elim}
use mathlib.Core.Bool.{Bool, true, false, not}
use mathlib.Core.Option
use mathlib.Core.Option.{Option, none, some, none-ne-some}
use mathlib.Core.List.{List, [], ◌∷◌, ◌++◌, map, append-nil}
use lib.Dec.{eqb}
use lib.ListN.{drop}
use Rattle.ground.specs.declared.refusals.Refusal.{Refusal}
use Rattle.ground.specs.Cell.{is_message}
use Rattle.ground.specs.First.{refusal}
use Rattle.wire.specs.Packet.{packet_bytes, head_read, with_message}
use Rattle.wire.specs.declared.Head.{Head}
use Rattle.wire.specs.declared.Packet.{Packet}
use Rattle.rules.specs.Supply.{Supply, Lawful, numbering}
use Rattle.rules.specs.Letters as letters
use Rattle.rules.specs.Letters.{Letter, letter}
use Rattle.rules.specs.Ends as rules
use Rattle.rules.specs.Bench as bench
use Rattle.rules.specs.Bench.{Bench, Asked, at, copies_of, asks}
use Rattle.rules.specs.Relabel.{in_packet}
use Rattle.rules.specs.Lists.{In}
use Rattle.rules.specs.Log as log
use Rattle.rules.specs.Demand3.{written, unnumbered, shown}
use Rattle.rules.specs.WellFormed.{ConsoleOk, ControllerOk, ToControllerOk, ToConsoleOk}
use Rattle.rules.specs.Reading.{Use, use_by, said, ack_after, Reading, reading, unread, read, console_read_step}
use Rattle.rules.specs.ReadDemand3.{firsts, spares_lost}
use Rattle.rules.specs.ReadRadio.{use_cut, read_happens, read_rows_left, read_shown_of, read_rows_shown}
use Rattle.rules.specs.Radio as radio
use Rattle.rules.specs.Radio.{Link, Happening, aired, keeps, fails, happens}
use Rattle.rules.proofs.Lists.{if_holds}
use Rattle.rules.proofs.Relabel.{map_append}
use Rattle.rules.proofs.Ends.{console_reports}
use Rattle.rules.proofs.Said.{controller_no_answer, said_as_it_is, ack_as_it_is}
use Rattle.rules.proofs.Radio.{radio_right}
use Rattle.rules.proofs.ReadRadio.{radio_right_read}
use Rattle.rules.proofs.RadioWellFormed.{LinkOk, happens_ok, start_ok}
use Rattle.rules.proofs.BenchOnRadio.{place_of}
use Rattle.ends.specs.AsRules.{report_back, for_console, for_controller, to_console, to_controller}
use Rattle.ends.specs.Packets.{to_controller_packet, to_console_packet, head_for_controller, read_for_console}
use Rattle.ends.specs.declared.Report.{Report}
use Rattle.ends.specs.declared.Report.TheVariants as report
use Rattle.std.specs.Prelude as prelude
use Rattle.ends.specs.declared.ToConsole.{ToConsole}
use Rattle.ends.specs.declared.ToController.{ToController}
use Rattle.alone.specs.Alone.{replied}
use Rattle.alone.proofs.Calls.{console_heard, packet_heard, controller_heard_as}
use Rattle.channels.specs.Packets.{to_controller_bytes, controller_came, as_to_controller, to_controller_read, to_console_bytes, console_came, to_console_read}
use Rattle.channels.proofs.Packets.{ToControllerReadOk, ToConsoleReadOk, to_controller_coded, to_console_coded}
use Rattle.demand3.specs.AnyBoxes.{Call, Kind, Box, Boxes, Reach, through, kept_and_cut, cut, Event, at_console, at_controller, leaves, goes, after, called, shows, all_shown_of, Honest, AllHonest, AnyRight}
use Rattle.demand3.proofs.Lists.{in_map, all_in, map_written}

abbrev pub Row : Type 0
Row = List ℕ

-- what is asked of a supply: beside the laws, that coming back once more changes nothing, and that its numbers fit into packets
pub record Suits {S : Type 0} (U : Supply S) : Type 0 where
  pub laws : Lawful S U
  pub back_again : (n : S) → U.back (U.back n) ≡ U.back n
  pub fits : (n : ℕ) → U.number n ≡ true → numbering.number n ≡ true

-- ## The two sides of the rules

pub record Side {S : Type 0} (U : Supply S) : Type 1 where
  -- its end, the console's with the ack; its acts; the packets that it sends and takes
  pub E : Type 0
  pub Act : Type 0
  pub Out : Type 0
  pub Into : Type 0
  pub end : Bench S Row → Bool → E
  pub numbers : E → S
  pub downed : S → E
  pub downed_numbers : (n : S) → numbers (downed n) ≡ n
  pub Fine : E → Type 0
  pub sound : (e : E) → Fine e → U.sound (numbers e) ≡ true
  -- what an act comes to
  pub asked : Act → Asked Row
  pub report : E → Act → rules.Report Row
  pub after : E → Act → E
  pub sent : E → Act → Option Out
  pub packet : Out → Packet
  -- the cells that are shown beside a report
  pub Cells : rules.Report Row → List ℕ → Type 0
  -- its letter that takes a packet, what bytes read as, and what there is to take
  pub takes : Letter
  pub heard : List ℕ → Option Into
  pub arriving : Bench S Row → List Into

-- those of a delivery
abbrev pub ShownCells : rules.Report Row → List ℕ → Type 0
ShownCells rules.nothing x = Unit {0}
ShownCells (rules.delivered m) x = x ≡ m
ShownCells rules.answered_ok x = Unit {0}
ShownCells rules.answered_lost x = Unit {0}
ShownCells (rules.refused n) x = Unit {0}

module _ {S : Type 0} (U : Supply S) where
  abbrev pub console_side : Side U
  console_side =
      record {
        E = Reading (rules.Console S Row);
        Act = rules.ConsoleAct Row;
        Out = rules.ToController Row;
        Into = rules.ToConsole;
        end = λ b ack. reading b.console ack;
        numbers = λ e. e.history.numbers;
        downed = λ n. unread (radio.downed n rules.ConsoleMode.idle);
        downed_numbers = λ n. refl;
        Fine = λ e. ConsoleOk U is_message e.history;
        sound = λ e fine. fine.numbers;
        asked = Asked.console;
        report = λ e act. (console_read_step U is_message e act).told.report;
        after = λ e act. (console_read_step U is_message e act).told.after;
        sent = λ e act. (console_read_step U is_message e act).sent;
        packet = to_controller_packet;
        Cells = λ r x. Unit {0};
        takes = letters.s_take;
        heard = console_heard;
        arriving = λ b. b.to_console;
      }

  abbrev pub controller_side : Side U
  controller_side =
      record {
        E = rules.Controller S;
        Act = rules.ControllerAct Row;
        Out = rules.ToConsole;
        Into = rules.ToController Row;
        end = λ b ack. b.controller;
        numbers = λ e. e.numbers;
        downed = λ n. radio.downed n rules.ControllerMode.idle;
        downed_numbers = λ n. refl;
        Fine = λ e. ControllerOk U e;
        sound = λ e fine. fine.numbers;
        asked = Asked.controller;
        report = λ e act. (rules.controller_step U e act).report;
        after = λ e act. (rules.controller_step U e act).after;
        sent = λ e act. (rules.controller_step U e act).sent;
        packet = to_console_packet;
        Cells = ShownCells;
        takes = letters.r_take;
        heard = controller_heard_as;
        arriving = λ b. b.to_controller;
      }

-- ## What has to be known of what runs in a box

module _ {S : Type 0} {U : Supply S} (s : Side U) (A : Kind) (Stands : A.End → s.E → Type 0) (Holds : A.Kept → S → Type 0) (b : Bench S Row) (e : s.E) (kept : A.Kept) (c : Call) (t : A.Told) where
  -- a call that is refused before the rules changes nothing
  pub record BeforeRules : Type 0 where
    pub refusal : Refusal
    pub says : A.report t ≡ report.Refused refusal
    pub sends : A.sends t ≡ false
    pub stands : Stands (A.left t) e
    pub keeps : A.keeps t kept ≡ kept

  -- any other is an act of the rules, the one that its letter asks
  pub record ByRules : Type 0 where
    pub by : Letter
    pub named : letter c.letter ≡ some by
    pub place : ℕ
    pub act : s.Act
    pub asked : asks b by place c.message ≡ s.asked act
    pub says : A.report t ≡ report_back (s.report e act)
    pub cells : s.Cells (s.report e act) (A.cells t)
    pub sends : A.sends t ≡ not (rules.absent (s.sent e act))
    pub reply : A.reply t ≡ replied (Option.map s.packet (s.sent e act)) c.reply
    pub stands : Stands (A.left t) (s.after e act)
    pub holds : Holds (A.keeps t kept) (s.numbers (s.after e act))

  abbrev pub ComesTo : Type 0
  ComesTo = BeforeRules ⊎ ByRules

module _ {S : Type 0} {U : Supply S} (s : Side U) (b : Bench S Row) where
  -- whatever a letter asks of the end leaves it well formed
  abbrev pub Stays : s.E → Type 0
  Stays e = (l : Letter) (n : ℕ) (m : Row) (act : s.Act) → asks b l n m ≡ s.asked act → s.Fine (s.after e act)

  -- a packet that is for this end, of a letter that takes it, is one of those that were sent
  abbrev pub Finds : (List ℕ → Bool) → Call → Type 0
  Finds is_for c = letter c.letter ≡ some s.takes → is_for c.packet ≡ true → (q : s.Into) → s.heard c.packet ≡ some q → (x : ℕ) × (at (s.arriving b) x ≡ some q)

pub record Runs {S : Type 0} {U : Supply S} (s : Side U) (A : Kind) : Type 1 where
  -- an end stands for one of the rules; what is kept holds numbers as they are after coming back
  pub Stands : A.End → s.E → Type 0
  pub Holds : A.Kept → S → Type 0
  pub again : (kept : A.Kept) (n : S) → Holds kept n → Holds kept (U.back n)
  pub starts : (x : A.End) (e : s.E) (kept : A.Kept) (n : S) → Stands x e → s.Fine e → Holds kept n → U.sound n ≡ true → Stands (A.starts x kept) (s.downed (U.back n))
  pub call : (b : Bench S Row) (ack : Bool) (x : A.End) (kept : A.Kept) (c : Call) → let e = s.end b ack in
      Stands x e → s.Fine e → Holds kept (s.numbers e) → Stays s b e → Finds s b A.is_for c
      → ComesTo s A Stands Holds b e kept c (A.step x c)

-- ## A box, and the end of the rules that it stands for, with the numbers that are kept of it and what it ever sent

abbrev bytes : {S : Type 0} {U : Supply S} (s : Side U) → s.Out → List ℕ
bytes s q = packet_bytes (s.packet q)

pub record BoxStands {S : Type 0} {U : Supply S} {s : Side U} {A : Kind} (R : Runs s A) (x : Box A) (e : s.E) (kept : S) (sent : List s.Out) : Type 0 where
  pub stands : R.Stands x.end e
  pub holds : R.Holds x.kept (s.numbers e)
  pub kept_is : kept ≡ U.back (s.numbers e)
  pub sent_is : x.sent ≡ map (bytes s) sent

leaves_so : {S : Type 0} {U : Supply S} (s : Side U) (o : Option s.Out) (y : List ℕ) (l : List s.Out)
    → leaves (not (rules.absent o)) (replied (Option.map s.packet o) y) (map (bytes s) l) ≡ map (bytes s) (l ++ copies_of 1 o)
unfolding rules.absent copies_of
leaves_so s none y l = ap (map (bytes s)) (sym (append-nil l))
leaves_so s (some q) y l = sym (map_append (bytes s) l (q ∷ []))

module _ {S : Type 0} {U : Supply S} (suits : Suits U) {s : Side U} {A : Kind} {R : Runs s A} where
  -- a start from what is kept
  fallen : (x : Box A) (e : s.E) (n kept : S) (sent : List s.Out) → R.Stands x.end e → s.Fine e → R.Holds x.kept n → U.sound n ≡ true → kept ≡ U.back n → x.sent ≡ map (bytes s) sent
      → BoxStands R (record { end = A.starts x.end x.kept; kept = x.kept; sent = x.sent }) (s.downed kept) kept sent
  fallen x e n kept sent stands fine holds sound is sent_is =
      let back = sym is ∙ sym (s.downed_numbers kept) in
      record {
        stands = subst (λ (z : S). R.Stands (A.starts x.end x.kept) (s.downed z)) (sym is) (R.starts x.end e x.kept n stands fine holds sound);
        holds = subst (R.Holds x.kept) back (R.again x.kept n holds);
        kept_is = is ∙ sym (suits.back_again n) ∙ ap (λ (z : S). U.back z) back;
        sent_is = sent_is;
      }

  module _ {x : Box A} {e : s.E} {kept : S} {sent : List s.Out} (st : BoxStands R x e kept sent) (fine : s.Fine e) where
    cut_stands : (t : A.Told) → BoxStands R (goes cut t x) (s.downed kept) kept sent
    cut_stands t = fallen x e (s.numbers e) kept sent st.stands fine st.holds (s.sound e fine) st.kept_is st.sent_is

    module _ {b : Bench S Row} {c : Call} {t : A.Told} (d : BeforeRules s A R.Stands R.Holds b e x.kept c t) where
      refused_stands : BoxStands R (goes through t x) e kept sent
      refused_stands =
          record {
            stands = d.stands;
            holds = subst (λ (k : A.Kept). R.Holds k (s.numbers e)) (sym d.keeps) st.holds;
            kept_is = st.kept_is;
            sent_is = ap (λ (z : Bool). leaves z (A.reply t) x.sent) d.sends ∙ st.sent_is;
          }

      refused_cut_stands : BoxStands R (goes kept_and_cut t x) (s.downed kept) kept sent
      refused_cut_stands =
          subst (λ (k : A.Kept). BoxStands R (record { end = A.starts x.end k; kept = k; sent = x.sent }) (s.downed kept) kept sent) (sym d.keeps) (cut_stands t)

      refused_shown : none ≡ called c (A.report t) (A.cells t)
      refused_shown = ap (λ (r : Report). called c r (A.cells t)) (sym d.says)

    module _ {b : Bench S Row} {c : Call} {t : A.Told} (d : ByRules s A R.Stands R.Holds b e x.kept c t) where
      abbrev left : s.E
      left = s.after e d.act

      acted_stands : BoxStands R (goes through t x) left (U.back (s.numbers left)) (sent ++ copies_of 1 (s.sent e d.act))
      acted_stands =
          record {
            stands = d.stands;
            holds = d.holds;
            kept_is = refl;
            sent_is = (λ i. leaves (d.sends i) (d.reply i) (st.sent_is i)) ∙ leaves_so s (s.sent e d.act) c.reply sent;
          }

      acted_cut_stands : s.Fine left → BoxStands R (goes kept_and_cut t x) (s.downed (U.back (s.numbers left))) (U.back (s.numbers left)) sent
      acted_cut_stands well =
          fallen (record { end = x.end; kept = A.keeps t x.kept; sent = x.sent }) e (s.numbers left) (U.back (s.numbers left)) sent st.stands fine d.holds (s.sound left well) refl st.sent_is

      acted_shown : ShownCells (s.report e d.act) (A.cells t) → shown (bench.action d.by d.place 0 c.message) (s.report e d.act) ≡ called c (A.report t) (A.cells t)
      acted_shown h = row (s.report e d.act) h ∙ ap (λ (r : Report). called c r (A.cells t)) (sym d.says)
        where
          row : (r : rules.Report Row) → ShownCells r (A.cells t) → shown (bench.action d.by d.place 0 c.message) r ≡ called c (report_back r) (A.cells t)
          row rules.nothing h = rw d.named
          row (rules.delivered m) h = ap (λ (z : List ℕ). some (log.Delivered 0 z)) (sym h)
          row rules.answered_ok h = refl
          row rules.answered_lost h = refl
          row (rules.refused n) h = refl

-- ## A packet that came was sent: it stands among all that was

console_came_lem : (f : prelude.Option ToConsole) (q : rules.ToConsole) → for_console f ≡ some q → console_came f ≡ q
console_came_lem prelude.None q e = absurd (none-ne-some q e)
console_came_lem (prelude.Some t) q e = let same : to_console t ≡ q = cc in same

controller_came_lem : (f : prelude.Option ToController) (m : Row) (q : rules.ToController Row) → Option.map (in_packet (λ _. m)) (for_controller f) ≡ some q → controller_came f m ≡ q
controller_came_lem prelude.None m q e = absurd (none-ne-some q e)
controller_came_lem (prelude.Some t) m q e = let same : in_packet (λ _. m) (to_controller t) ≡ q = cc in same

controller_read_lem : (h : prelude.Result Head Refusal) (m : Row) (q : rules.ToController Row) → packet_heard (with_message h m) ≡ some q → as_to_controller h m ≡ q
controller_read_lem (prelude.Err r) m q e = absurd (none-ne-some q e)
controller_read_lem (prelude.Ok h) m q e = controller_came_lem (head_for_controller h) m q e

module _ {S : Type 0} {U : Supply S} (suits : Suits U) where
  to_console_fits : (q : rules.ToConsole) → ToConsoleOk U q → ToConsoleReadOk q
  to_console_fits (rules.offer j i) h = (suits.fits j h.0, suits.fits i h.1)
  to_console_fits (rules.ok i) h = suits.fits i h
  to_console_fits (rules.lost i) h = suits.fits i h

  to_controller_fits : (q : rules.ToController Row) → ToControllerOk U is_message q → ToControllerReadOk q
  to_controller_fits (rules.need_i j) h = suits.fits j h
  to_controller_fits (rules.order i m) h = (suits.fits i h.0, h.1)
  to_controller_fits (rules.done i) h = suits.fits i h

  module _ (k : Link S Row) (ok : LinkOk U is_message k) (p : List ℕ) where
    console_finds : In p (map (λ (q : rules.ToConsole). packet_bytes (to_console_packet q)) k.bench.to_console) → (q : rules.ToConsole) → console_heard p ≡ some q → (x : ℕ) × (at k.bench.to_console x ≡ some q)
    unfolding to_console_read to_console_bytes
    console_finds sent q e =
        let i = in_map to_console_bytes p k.bench.to_console sent in
        let good = to_console_fits i.0 (all_in _ i.0 k.bench.to_console ok.downs i.1.0) in
        let same : q ≡ i.0 = sym (console_came_lem (read_for_console (head_read p)) q e) ∙ ap to_console_read i.1.1 ∙ to_console_coded.again i.0 good in
        let x = place_of i.0 k.bench.to_console i.1.0 in
        (x.0, x.1 ∙ ap some (sym same))

    controller_finds : In p (map (λ (q : rules.ToController Row). packet_bytes (to_controller_packet q)) k.bench.to_controller) → (q : rules.ToController Row) → controller_heard_as p ≡ some q → (x : ℕ) × (at k.bench.to_controller x ≡ some q)
    unfolding to_controller_read to_controller_bytes
    controller_finds sent q e =
        let i = in_map to_controller_bytes p k.bench.to_controller sent in
        let good = to_controller_fits i.0 (all_in _ i.0 k.bench.to_controller ok.ups i.1.0) in
        let same : q ≡ i.0 = sym (controller_read_lem (head_read p) (drop 16 p) q e) ∙ ap to_controller_read i.1.1 ∙ to_controller_coded.again i.0 good in
        let x = place_of i.0 k.bench.to_controller i.1.0 in
        (x.0, x.1 ∙ ap some (sym same))

-- ## A console delivers nothing

abbrev AnyCells : rules.Report Row → Type 0
AnyCells r = (x : List ℕ) → ShownCells r x

said_any_cells : (u : Use) (ack : Bool) (r : rules.Report Row) → AnyCells r → AnyCells (said u ack r)
unfolding said
said_any_cells u ack (rules.delivered m) h = h
said_any_cells u ack rules.answered_ok h = λ x. tt
said_any_cells u ack rules.answered_lost h = λ x. tt
said_any_cells u ack (rules.refused n) h = λ x. tt
said_any_cells Use.leaves ack rules.nothing h = λ x. tt
said_any_cells Use.clears ack rules.nothing h = λ x. tt
said_any_cells Use.tells true rules.nothing h = λ x. tt
said_any_cells Use.tells false rules.nothing h = λ x. tt

console_any_cells : {S : Type 0} (U : Supply S) (e : Reading (rules.Console S Row)) (act : rules.ConsoleAct Row) → AnyCells ((console_side U).report e act)
unfolding console_read_step rules.console_step
console_any_cells {S} U e act =
    said_any_cells _ e.ack _
    (if_holds (λ (d : rules.ConsoleActed S Row). AnyCells d.report) (eqb (refusal (rules.console_rules U is_message e.history act)) 0) _ _
    (λ p. console_reports AnyCells (λ x. tt) (λ x. tt) (λ x. tt) U e.history act) (λ p x. tt))

-- ## Every event is one of what may happen to the rules' ends

-- a link of the rules, with the console's ack
abbrev pub Here : Type 0 → Type 0
Here S = Reading (Link S Row)

pub record BoxesStand {S : Type 0} {U : Supply S} {A B : Kind} (C : Runs (console_side U) A) (X : Runs (controller_side U) B) (b : Boxes A B) (r : Here S) : Type 0 where
  pub console : BoxStands C b.console (reading r.history.bench.console r.ack) r.history.console_kept r.history.bench.to_controller
  pub controller : BoxStands X b.controller r.history.bench.controller r.history.controller_kept r.history.bench.to_console

module _ {S : Type 0} {U : Supply S} (suits : Suits U) {A B : Kind} {C : Runs (console_side U) A} {X : Runs (controller_side U) B} where
  module _ (b : Boxes A B) (r : Here S) (ok : LinkOk U is_message r.history) (st : BoxesStand C X b r) where
    abbrev k : Link S Row
    k = r.history

    pub record Moved (v : Event) : Type 0 where
      pub happening : Happening Row
      pub seen : read_shown_of U is_message r happening ≡ shows b v
      pub stands : BoxesStand C X (after b v) (read_happens U is_message r happening).after

    -- what an action comes to where it asks this, what is shown of it, and where the power is cut in it
    abbrev acting : Asked Row → Here S
    acting z = let o = aired U is_message k.bench z in (read (use_by z) r.ack o.report (radio.goes_on o.after (keeps U z o.after k))).after

    abbrev reporting : bench.Action Row → Asked Row → Option (log.Event Row)
    reporting a z = shown a (said (use_by z) r.ack (aired U is_message k.bench z).report)

    abbrev cutting : Asked Row → Here S
    cutting z = let quiet : rules.Report Row = rules.nothing in reading (fails z (keeps U z (aired U is_message k.bench z).after k)) (ack_after (use_cut z) r.ack quiet)

    -- L asks no end, and over a radio nothing comes of it
    abbrev nothing_happens : Happening Row
    nothing_happens = radio.acts (bench.action letters.l_lose 0 0 [])

    -- ## At the console

    abbrev e : Reading (rules.Console S Row)
    e = reading k.bench.console r.ack

    console_stays : Stays (console_side U) k.bench e
    unfolding happens aired console_read_step
    console_stays l n m act q =
        subst (λ (z : Asked Row). ConsoleOk U is_message (aired U is_message k.bench z).after.console) q
        (happens_ok U is_message suits.laws k (radio.acts (bench.action l n 0 m)) ok).console

    module _ (c : Call) where
      abbrev t : A.Told
      t = A.step b.console.end c

      console_cut : Moved (at_console cut c)
      unfolding read_happens ack_after happens fails asks
      console_cut =
          record { happening = radio.cut (bench.action letters.c_down 0 0 []); seen = refl; stands = record { console = cut_stands suits st.console ok.console t; controller = st.controller } }

      console_refused_lem : (w : Reach) → BeforeRules (console_side U) A C.Stands C.Holds k.bench e b.console.kept c t → Moved (at_console w c)
      unfolding read_happens said ack_after happens fails keeps aired asks
      console_refused_lem through d =
          record { happening = nothing_happens; seen = refused_shown suits st.console ok.console d; stands = record { console = refused_stands suits st.console ok.console d; controller = st.controller } }
      console_refused_lem kept_and_cut d =
          record { happening = radio.cut (bench.action letters.c_down 0 0 []); seen = refl; stands = record { console = refused_cut_stands suits st.console ok.console d; controller = st.controller } }
      console_refused_lem cut d = console_cut

      console_acted_lem : (w : Reach) → ByRules (console_side U) A C.Stands C.Holds k.bench e b.console.kept c t → Moved (at_console w c)
      unfolding read_happens console_read_step ack_after happens fails keeps aired
      console_acted_lem through d =
          let a = bench.action d.by d.place 0 c.message in
          record {
            happening = radio.acts a;
            seen = ap (reporting a) d.asked ∙ acted_shown suits st.console ok.console d (console_any_cells U e d.act (A.cells t));
            stands = subst (λ (z : Asked Row). BoxesStand C X (after b (at_console through c)) (acting z)) (sym d.asked) (record { console = acted_stands suits st.console ok.console d; controller = st.controller });
          }
      console_acted_lem kept_and_cut d =
          let well = console_stays d.by d.place c.message d.act d.asked in
          record {
            happening = radio.kept_and_cut (bench.action d.by d.place 0 c.message);
            seen = ap (λ (z : Asked Row). radio.fall_of z) d.asked;
            stands = subst (λ (z : Asked Row). BoxesStand C X (after b (at_console kept_and_cut c)) (cutting z)) (sym d.asked) (record { console = acted_cut_stands suits st.console ok.console d well; controller = st.controller });
          }
      console_acted_lem cut d = console_cut

    -- ## At the controller

    abbrev f : rules.Controller S
    f = k.bench.controller

    controller_stays : Stays (controller_side U) k.bench f
    unfolding happens aired
    controller_stays l n m act q =
        subst (λ (z : Asked Row). ControllerOk U (aired U is_message k.bench z).after.controller) q
        (happens_ok U is_message suits.laws k (radio.acts (bench.action l n 0 m)) ok).controller

    module _ (c : Call) where
      abbrev u : B.Told
      u = B.step b.controller.end c

      controller_cut : Moved (at_controller cut c)
      unfolding read_happens ack_after happens fails asks
      controller_cut =
          record { happening = radio.cut (bench.action letters.x_down 0 0 []); seen = refl; stands = record { console = st.console; controller = cut_stands suits st.controller ok.controller u } }

      controller_refused_lem : (w : Reach) → BeforeRules (controller_side U) B X.Stands X.Holds k.bench f b.controller.kept c u → Moved (at_controller w c)
      unfolding read_happens said ack_after happens fails keeps aired asks
      controller_refused_lem through d =
          record { happening = nothing_happens; seen = refused_shown suits st.controller ok.controller d; stands = record { console = st.console; controller = refused_stands suits st.controller ok.controller d } }
      controller_refused_lem kept_and_cut d =
          record { happening = radio.cut (bench.action letters.x_down 0 0 []); seen = refl; stands = record { console = st.console; controller = refused_cut_stands suits st.controller ok.controller d } }
      controller_refused_lem cut d = controller_cut

      controller_acted_lem : (w : Reach) → ByRules (controller_side U) B X.Stands X.Holds k.bench f b.controller.kept c u → Moved (at_controller w c)
      unfolding read_happens ack_after happens fails keeps aired
      controller_acted_lem through d =
          let a = bench.action d.by d.place 0 c.message in
          let x = (controller_side U).report f d.act in
          let quiet = controller_no_answer U f d.act in
          let console = subst (λ (ack : Bool). BoxStands C b.console (reading k.bench.console ack) k.console_kept k.bench.to_controller) (sym (ack_as_it_is r.ack x quiet)) st.console in
          record {
            happening = radio.acts a;
            seen = ap (reporting a) d.asked ∙ ap (shown a) (said_as_it_is r.ack x quiet) ∙ acted_shown suits st.controller ok.controller d d.cells;
            stands = subst (λ (z : Asked Row). BoxesStand C X (after b (at_controller through c)) (acting z)) (sym d.asked) (record { console = console; controller = acted_stands suits st.controller ok.controller d });
          }
      controller_acted_lem kept_and_cut d =
          let well = controller_stays d.by d.place c.message d.act d.asked in
          record {
            happening = radio.kept_and_cut (bench.action d.by d.place 0 c.message);
            seen = ap (λ (z : Asked Row). radio.fall_of z) d.asked;
            stands = subst (λ (z : Asked Row). BoxesStand C X (after b (at_controller kept_and_cut c)) (cutting z)) (sym d.asked) (record { console = st.console; controller = acted_cut_stands suits st.controller ok.controller d well });
          }
      controller_acted_lem cut d = controller_cut

    moved : (e : Event) → Honest b e → Moved e
    moved (at_console w c) h =
        ⊎_elim (console_refused_lem c w) (console_acted_lem c w)
        (C.call k.bench r.ack b.console.end b.console.kept c st.console.stands ok.console st.console.holds console_stays
        (λ l p. console_finds suits k ok c.packet (subst (In c.packet) st.controller.sent_is (h l p))))
    moved (at_controller w c) h =
        ⊎_elim (controller_refused_lem c w) (controller_acted_lem c w)
        (X.call k.bench r.ack b.controller.end b.controller.kept c st.controller.stands ok.controller st.controller.holds controller_stays
        (λ l p. controller_finds suits k ok c.packet (subst (In c.packet) st.console.sent_is (h l p))))

    next_ok : (h : Happening Row) → LinkOk U is_message (read_happens U is_message r h).after.history
    unfolding read_happens
    next_ok h = happens_ok U is_message suits.laws k h ok

  -- ## All of them

  all_moved : (b : Boxes A B) (r : Here S) → LinkOk U is_message r.history → BoxesStand C X b r → (es : List Event) → AllHonest b es
      → (hs : List (Happening Row)) × (read_rows_shown U is_message r hs ≡ all_shown_of b es)
  unfolding read_rows_shown all_shown_of
  all_moved b r ok st [] h = ([], refl)
  all_moved b r ok st (e ∷ es) h =
      let m = moved b r ok st e h.0 in
      let more = all_moved (after b e) (read_happens U is_message r m.happening).after (next_ok b r ok st m.happening) m.stands es h.1 in
      (m.happening ∷ more.0, ap₂ (λ o os. o ∷ os) m.seen more.1)

  -- ## The theorem

  module _ (b : Boxes A B) (j i : S) (p : U.sound j ≡ true) (q : U.sound i ≡ true) (st : BoxesStand C X b (unread (radio.start j i))) (es : List Event) (honest : AllHonest b es) where
    pub any_right : AnyRight U b j i es
    any_right =
        let m = all_moved b (unread (radio.start j i)) (start_ok U is_message j i p q) st es honest in
        let r = radio_right_read U is_message suits.laws j i m.0 in
        record {
          happenings = m.0;
          right = r.right;
          own =
              sym (map_written unnumbered (read_rows_left U is_message [] (unread (radio.start j i)) m.0) [])
              ∙ ap (λ (l : List (Option (log.Event Row))). written l []) r.own
              ∙ ap (λ (l : List (Option (log.Event Row))). written (firsts false l) []) m.1;
          spare = ap (spares_lost false) (sym m.1) ∙ r.spare;
          history = (radio_right U is_message suits.laws j i m.0).right;
        }
