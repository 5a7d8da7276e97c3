-- The step with a bench's own numbers: they are offered, and moved as the code moves them.
use Prim.Native.Nat.{ℕ}
use mathlib.Core.Path.{◌≡◌, refl, sym, ap, ◌∙◌}
use mathlib.Core.Bool.{Bool, true, ◌&&◌}
use mathlib.Core.List.{List}
use lib.Dec.{ltb}
use Rattle.ground.specs.declared.refusals.Refusal.TheVariants.{TooManyCopies}
use Rattle.ground.specs.declared.refusals.Refusal.{Refusal}
use Rattle.std.specs.Prelude.{None}
use Rattle.ground.specs.Cell.{spaces}
use Rattle.ground.specs.Choice.{chosen}
use Rattle.rules.specs.Supply.{numbering}
use Rattle.rules.specs.Offered.{moved}
use Rattle.rules.specs.Reading.{reading}
use Rattle.rules.proofs.Supply.{numbering_lawful}
use Rattle.letters.specs.Lines.{Lined}
use Rattle.letters.specs.declared.Asks.TheVariants as asks
use Rattle.letters.specs.declared.ConsoleAsk.{ConsoleAsk}
use Rattle.letters.specs.declared.ControllerAsk.{ControllerAsk}
use Rattle.letters.specs.declared.Line.{Line}
use Rattle.numbers.specs.Numbers.{numbers_means, numbers_taken, numbers_moved, move_means}
use Rattle.numbers.specs.declared.Move.{Move}
use Rattle.numbers.specs.declared.Move.TheVariants.{Stay, Take, Back}
use Rattle.numbers.specs.declared.Numbers.{Numbers}
use Rattle.ends.specs.declared.Report.TheVariants.{Refused}
use Rattle.ends_console.specs.Ack.{use_means, ack_use, acked}
use Rattle.ends_console.specs.declared.ack.AckUse.{AckUse}
use Rattle.ends_console.specs.declared.ack.Shown.{Shown}
use Rattle.bench.specs.Arriving.{came_for}
use Rattle.bench.specs.ByModes.{Known, Few, OnConsole, OnController, OnLosing, told_as, modes_step}
use Rattle.bench.specs.WithNumbers.{with_numbers, as_it_is, moved_with}
use Rattle.bench.specs.Loaded.{Well, numbers_offered, moved_by, stepped_as, loaded_step}
use Rattle.bench.specs.declared.Action.{Action}
use Rattle.bench.specs.declared.arriving.Came.{Came}
use Rattle.bench.specs.declared.loaded.Loaded.{Loaded}
use Rattle.bench.specs.declared.loaded.Stepped.{Stepped}
use Rattle.bench.specs.declared.modes.Offered.{Offered}
use Rattle.bench.specs.declared.modes.Told.{Told}
use Rattle.bench.proofs.NumbersOffered as by

numbering_offers : by.Offering numbering
numbering_offers = record { next_number = numbering_lawful.next_number; fits = λ n h. h }

after_so : (m : Move) (n : Numbers) → by.OfferedOne numbering (numbers_means n) m → numbers_means (numbers_moved m n) ≡ moved numbering (move_means m) (numbers_means n)
unfolding moved numbers_taken chosen
after_so Stay n h = refl
after_so Take n h = rw (h tt)
after_so Back n h = refl

module _ (b : Loaded) (out back : List ℕ) (k : Well b out back) where
  pub known_modes : Known b.modes out back
  known_modes = by.known_modes numbering_offers b.modes (numbers_means b.console) (numbers_means b.controller) out back k

-- ## By whom is asked

module _ (b : Loaded) (out back : List ℕ) (k : Well b out back) (line : Line) (a : Action) where
  pub too_many_so : {many : Bool} {r : Stepped} → Lined line → many ≡ (line.copies && ltb 3 a.copies) → many ≡ true → r ≡ record { report = Refused TooManyCopies; message = spaces; after = b }
      → stepped_as r out back ≡ loaded_step b out back line a
  unfolding stepped_as
  too_many_so l p t q =
      ap (λ (x : Stepped). stepped_as x out back) q
      ∙ by.ten_so numbering b.modes (numbers_means b.console) (numbers_means b.controller) b.ack out back k line a l (sym p ∙ t)

  -- what is told and shown, with the numbers moved, is the step's
  stepped_so : (told : Told) {r : Stepped} {s s' : Shown} (out' back' : List ℕ) → by.OfferedOne numbering (numbers_means b.console) told.console × by.OfferedOne numbering (numbers_means b.controller) told.controller
      → moved_with numbering (numbers_means b.console) (numbers_means b.controller) s' told out' back' ≡ loaded_step b out back line a → s ≡ s' → r ≡ moved_by b.console b.controller s told
      → stepped_as r out' back' ≡ loaded_step b out back line a
  unfolding stepped_as moved_with
  stepped_so told {s' = s'} out' back' there e p g =
      ap (λ (x : Stepped). stepped_as x out' back') (g ∙ ap (λ (x : Shown). moved_by b.console b.controller x told) p)
      ∙ (λ i. record { report = s'.report; message = told.message; after = reading (with_numbers told.after (after_so told.console b.console there.0 i) (after_so told.controller b.controller there.1 i) out' back') s'.ack; out = out'; back = back' })
      ∙ e

  module _ (n : Few line a) {o : Offered} (came : Came) (f : o ≡ numbers_offered b.console b.controller came.controller) where
    module _ {ask : ConsoleAsk} (h : line.asks ≡ asks.Console ask) (c : (t : List ℕ) (m : ℕ) → came ≡ came_for (asks.Console ask) t m back b.modes.returned a.place) where
      pub on_console : OnConsole b.modes o out back line a ask came
      on_console = by.on_console numbering_offers b.modes _ _ b.ack out back k line a n came f h c

      pub console_stepped : (told : Told) {r : Stepped} {s : Shown} {u : AckUse} (out' back' : List ℕ) → told_as told o out' back' ≡ modes_step b.modes o out back line a
          → u ≡ ack_use ask → s ≡ acked (use_means u) b.ack told.report → r ≡ moved_by b.console b.controller s told → stepped_as r out' back' ≡ loaded_step b out back line a
      console_stepped told out' back' e v s g =
          stepped_so told out' back' (by.console_there numbering_offers b.modes _ _ b.ack out back k line a n came f h c told out' back' e)
          (by.console_by numbering_offers b.modes _ _ b.ack out back k line a n came f h c told out' back' e v) s g

      -- a refusal is shown as it is
      pub console_refused_lem : (told : Told) {r : Stepped} {s : Shown} {q : Refusal} (out' back' : List ℕ) → told_as told o out' back' ≡ modes_step b.modes o out back line a
          → told.report ≡ Refused q → s ≡ as_it_is b.ack told → r ≡ moved_by b.console b.controller s told → stepped_as r out' back' ≡ loaded_step b out back line a
      console_refused_lem told out' back' e refuses s g =
          stepped_so told out' back' (by.console_there numbering_offers b.modes _ _ b.ack out back k line a n came f h c told out' back' e)
          (by.console_refused_by numbering_offers b.modes _ _ b.ack out back k line a n came f h c told out' back' e refuses) s g

    module _ {ask : ControllerAsk} (h : line.asks ≡ asks.Controller ask) (c : (t : List ℕ) (m : ℕ) → came ≡ came_for (asks.Controller ask) out b.modes.sent t m a.place) where
      pub on_controller : OnController b.modes o out back line a ask came
      on_controller = by.on_controller numbering_offers b.modes _ _ b.ack out back k line a n came f h c

      pub controller_stepped : (told : Told) {r : Stepped} {s : Shown} (out' back' : List ℕ) → told_as told o out' back' ≡ modes_step b.modes o out back line a
          → s ≡ as_it_is b.ack told → r ≡ moved_by b.console b.controller s told → stepped_as r out' back' ≡ loaded_step b out back line a
      controller_stepped told out' back' e s g =
          stepped_so told out' back' (by.controller_there numbering_offers b.modes _ _ b.ack out back k line a n came f h c told out' back' e)
          (by.controller_by numbering_offers b.modes _ _ b.ack out back k line a n came f h c told out' back' e) s g

  -- no end is asked, and nothing came
  module _ (n : Few line a) {o : Offered} (h : line.asks ≡ asks.NoEnd) (f : o ≡ numbers_offered b.console b.controller None) where
    pub on_losing : OnLosing b.modes o out back line a
    on_losing = by.on_losing numbering_offers b.modes _ _ b.ack out back k line a n h f

    pub losing_stepped : (told : Told) {r : Stepped} {s : Shown} (out' back' : List ℕ) → told_as told o out' back' ≡ modes_step b.modes o out back line a
        → s ≡ as_it_is b.ack told → r ≡ moved_by b.console b.controller s told → stepped_as r out' back' ≡ loaded_step b out back line a
    losing_stepped told out' back' e s g =
        stepped_so told out' back' (by.losing_there numbering_offers b.modes _ _ b.ack out back k line a n h f told out' back' e)
        (by.losing_by numbering_offers b.modes _ _ b.ack out back k line a n h f told out' back' e) s g
