-- What a console does, with its own numbers, from what it does by its mode and the number that is next.
use Prim.Native.Nat.{ℕ}
use mathlib.Core.Path.{◌≡◌, refl, ap, ◌∙◌}
use mathlib.Core.Bool.{Bool, true, false}
use mathlib.Core.Option as maybe
use Rattle.std.specs.Prelude.{Option, None, option_map, Result}
use Rattle.ground.specs.Options.{option_back}
use Rattle.ground.specs.Refusals.{refused_by}
use Rattle.ground.specs.declared.refusals.Refusal.{Refusal}
use Rattle.ground.specs.First.{refusal}
use Rattle.wire.specs.declared.J.{J}
use Rattle.rules.specs.Supply.{numbering}
use Rattle.rules.specs.Offered.{offered, unmoved}
use Rattle.rules.specs.Ends as rules
use Rattle.rules.proofs.Offered.{console_took}
use Rattle.numbers.specs.Numbers.{numbers_means, numbers_moved}
use Rattle.numbers.specs.declared.Numbers.{Numbers}
use Rattle.numbers.proofs.Moving.{took_so}
use Rattle.ends.specs.AsRules.{Beside, tested, for_console, for_controller_back, report_back}
use Rattle.ends.specs.declared.Report.TheVariants as report
use Rattle.ends.specs.declared.ToConsole.{ToConsole}
use Rattle.ends_console.specs.AsRules.{mode, mode_back, turn, given, on_offer, end, next_of, acted}
use Rattle.ends_console.specs.declared.Mode.{Mode}
use Rattle.ends_console.specs.declared.Mode.TheVariants.{Idle, NeedI, Send}
use Rattle.ends_console.specs.Types.{End, Acted, Turn}

-- a mode that is read from the code and back is the same
pub same_mode : (m : Mode) → m ≡ mode_back (mode m)
same_mode Idle = refl
same_mode (NeedI j) = refl
same_mode (Send last) = refl

-- ## Its numbers moved

-- an end that stays up or down
moved_so : {t : Turn} {x : Acted} (e : End) (act : rules.ConsoleAct Beside) → rules.console_power act ≡ rules.same
    → t ≡ turn (rules.console_turn (numbering.next (numbers_means e.numbers)) (mode e.mode) act)
    → x ≡ record { report = t.report; sent = t.sent; after = record { numbers = numbers_moved t.numbers e.numbers; mode = t.mode; up = e.up } }
    → x ≡ acted (rules.console_acts numbering (end e) act)
unfolding rules.console_acts rules.end_after rules.up_after
moved_so e act s g k =
    let T = rules.console_turn (numbering.next (numbers_means e.numbers)) (mode e.mode) act in
    k
    ∙ (λ i. record { report = (g i).report; sent = (g i).sent; after = record { numbers = numbers_moved (g i).numbers e.numbers; mode = (g i).mode; up = e.up } })
    ∙ (λ i. record { report = report_back T.report; sent = for_controller_back T.sent; after = record { numbers = took_so T.took e.numbers (console_took (numbering.next (numbers_means e.numbers)) (mode e.mode) act) i; mode = mode_back T.mode; up = e.up } })
    ∙ rw s

-- the number that is next, as the rules have it
next_given : (n : Numbers) → given (option_map (λ (k : ℕ). record { 0 = k }) (option_back (numbering.next (numbers_means n)))) ≡ numbering.next (numbers_means n)
next_given n = again (numbering.next (numbers_means n))
  where
    again : (o : maybe.Option ℕ) → given (option_map (λ (k : ℕ). record { 0 = k }) (option_back o)) ≡ o
    again maybe.none = refl
    again (maybe.some k) = refl

pub puts_moved : {t : Turn} {x : Acted} {next : Option J} (e : End) → next ≡ next_of e → t ≡ turn (rules.puts (given next) (mode e.mode) tt)
    → x ≡ record { report = t.report; sent = t.sent; after = record { numbers = numbers_moved t.numbers e.numbers; mode = t.mode; up = e.up } }
    → x ≡ acted (rules.console_acts numbering (end e) (rules.put tt))
unfolding rules.console_turn
puts_moved e f g k =
    moved_so e (rules.put tt) refl
    (g ∙ ap (λ (n : Option J). turn (rules.puts (given n) (mode e.mode) tt)) f ∙ ap (λ (n : maybe.Option ℕ). turn (rules.puts n (mode e.mode) tt)) (next_given e.numbers)) k

pub takes_moved : {t : Turn} {x : Acted} (e : End) (p : Option ToConsole) → ((next : maybe.Option ℕ) → t ≡ turn (rules.console_turn next (mode e.mode) (rules.ConsoleAct.take (for_console p))))
    → x ≡ record { report = t.report; sent = t.sent; after = record { numbers = numbers_moved t.numbers e.numbers; mode = t.mode; up = e.up } }
    → x ≡ acted (rules.console_acts numbering (end e) (rules.ConsoleAct.take (for_console p)))
takes_moved e p g k =
    moved_so e (rules.ConsoleAct.take (for_console p)) refl (g (numbering.next (numbers_means e.numbers))) k

pub went_down : {x : Acted} (e : End) → x ≡ record { report = report.Nothing; sent = None; after = record { numbers = e.numbers; mode = e.mode; up = false } } → x ≡ acted (rules.console_acts numbering (end e) rules.ConsoleAct.go_down)
unfolding rules.console_acts rules.console_turn rules.end_after rules.numbers_after rules.up_after
went_down e h = h ∙ λ i. record { report = report.Nothing; sent = None; after = record { numbers = e.numbers; mode = same_mode e.mode i; up = false } }

pub put_refused : {r : Result Unit Refusal} {next : Option J} (e : End) (good : Bool) → next ≡ next_of e → r ≡ refused_by (refusal (rules.console_rules offered (tested good) (on_offer e.mode e.up next) (rules.put tt)))
    → r ≡ refused_by (refusal (rules.console_rules numbering (tested good) (end e) (rules.put tt)))
unfolding rules.console_rules
put_refused e good f h =
    h
    ∙ ap (λ (x : Option J). refused_by (refusal (rules.console_rules offered (tested good) (on_offer e.mode e.up x) (rules.put tt)))) f
    ∙ ap (λ (x : maybe.Option ℕ). refused_by (refusal (rules.console_rules offered (tested good) (record { numbers = record { next = x; known = true; move = unmoved }; mode = mode e.mode; up = e.up }) (rules.put tt)))) (next_given e.numbers)
