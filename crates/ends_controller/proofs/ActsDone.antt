-- What a controller does, with its own numbers, from what it does by its mode and the number that is next.
use Prim.Native.Nat.{ℕ}
use mathlib.Core.Path.{◌≡◌, refl, ap, ◌∙◌}
use mathlib.Core.Bool.{false}
use mathlib.Core.Option as maybe
use Rattle.std.specs.Prelude.{Option, None, option_map}
use Rattle.ground.specs.Options.{option_back}
use Rattle.wire.specs.declared.I.{I}
use Rattle.rules.specs.Supply.{numbering}
use Rattle.rules.specs.Ends as rules
use Rattle.rules.proofs.Offered.{controller_took}
use Rattle.numbers.specs.Numbers.{numbers_means, numbers_moved}
use Rattle.numbers.proofs.Moving.{took_so}
use Rattle.ends.specs.AsRules.{for_controller, for_console_back, report_back}
use Rattle.ends.specs.declared.Report.TheVariants as report
use Rattle.ends.specs.declared.ToController.{ToController}
use Rattle.ends_controller.specs.AsRules.{mode, mode_back, turn, given, end, next_of, acted}
use Rattle.ends_controller.specs.declared.Mode.{Mode}
use Rattle.ends_controller.specs.declared.Mode.TheVariants.{Idle, Accept, Ack}
use Rattle.ends_controller.specs.Types.{End, Acted, Turn}

-- a mode that is read from the code and back is the same
pub same_mode : (m : Mode) → m ≡ mode_back (mode m)
same_mode Idle = refl
same_mode (Accept j i) = refl
same_mode (Ack last) = refl

-- ## Its numbers moved

-- the number that is next, as the rules have it
again : (o : maybe.Option ℕ) → given (option_map (λ (k : ℕ). record { 0 = k }) (option_back o)) ≡ o
again maybe.none = refl
again (maybe.some k) = refl

pub takes_moved : {t : Turn} {x : Acted} {next : Option I} (e : End) (p : Option ToController) → next ≡ next_of e → t ≡ turn (rules.controller_turn (given next) (mode e.mode) (rules.ControllerAct.take (for_controller p)))
    → x ≡ record { report = t.report; sent = t.sent; after = record { numbers = numbers_moved t.numbers e.numbers; mode = t.mode; up = e.up } }
    → x ≡ acted (rules.controller_acts numbering (end e) (rules.ControllerAct.take (for_controller p)))
unfolding rules.controller_acts rules.end_after rules.up_after
takes_moved e p f g k =
    let n = numbering.next (numbers_means e.numbers) in
    let T = rules.controller_turn n (mode e.mode) (rules.ControllerAct.take (for_controller p)) in
    let r = g
    ∙ ap (λ (y : Option I). turn (rules.controller_turn (given y) (mode e.mode) (rules.ControllerAct.take (for_controller p)))) f
    ∙ ap (λ (y : maybe.Option ℕ). turn (rules.controller_turn y (mode e.mode) (rules.ControllerAct.take (for_controller p)))) (again n) in
    k
    ∙ (λ i. record { report = (r i).report; sent = (r i).sent; after = record { numbers = numbers_moved (r i).numbers e.numbers; mode = (r i).mode; up = e.up } })
    ∙ (λ i. record { report = report_back T.report; sent = for_console_back T.sent; after = record { numbers = took_so T.took e.numbers (controller_took n (mode e.mode) (rules.ControllerAct.take (for_controller p))) i; mode = mode_back T.mode; up = e.up } })

pub went_down : {x : Acted} (e : End) → x ≡ record { report = report.Nothing; sent = None; after = record { numbers = e.numbers; mode = e.mode; up = false } } → x ≡ acted (rules.controller_acts numbering (end e) rules.ControllerAct.go_down)
unfolding rules.controller_acts rules.controller_turn rules.end_after rules.numbers_after rules.up_after
went_down e h = h ∙ λ i. record { report = report.Nothing; sent = None; after = record { numbers = e.numbers; mode = same_mode e.mode i; up = false } }
