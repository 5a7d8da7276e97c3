-- What the line of a letter that was found asks is what the rules' line of that letter asks.
use mathlib.Core.Path.{◌≡◌, refl, sym, ap, ◌∙◌}
use mathlib.Core.Option as maybe
use Rattle.std.specs.Prelude.{Option, Some, None}
use Rattle.ground.proofs.Options.{none_is_not_some, some_is_one}
use Rattle.rules.specs.Letters as rules
use Rattle.letters.specs.Lines.{asks_of, asks_means, line_of, found_of, letter_of, Lined}
use Rattle.letters.specs.declared.Line.{Line}

asks_back : (a : rules.Asks) → asks_means (asks_of a) ≡ a
asks_back (rules.the_console rules.to_put) = refl
asks_back (rules.the_console rules.to_send_need_i) = refl
asks_back (rules.the_console rules.to_send_data) = refl
asks_back (rules.the_console rules.ConsoleAsk.to_take) = refl
asks_back (rules.the_console rules.ConsoleAsk.to_go_down) = refl
asks_back (rules.the_console rules.ConsoleAsk.to_come_back) = refl
asks_back (rules.the_console rules.to_tell_ack) = refl
asks_back (rules.the_controller rules.to_send_offer) = refl
asks_back (rules.the_controller rules.to_send_ok) = refl
asks_back (rules.the_controller rules.ControllerAsk.to_take) = refl
asks_back (rules.the_controller rules.ControllerAsk.to_go_down) = refl
asks_back (rules.the_controller rules.ControllerAsk.to_come_back) = refl
asks_back rules.neither_end = refl

-- a byte without a line is no letter
pub nothing_found : {f : Option Line} (o : maybe.Option rules.Letter) → f ≡ found_of o → f ≡ None → o ≡ maybe.none
nothing_found maybe.none e g = refl
nothing_found (maybe.some l) e g = absurd (none_is_not_some (line_of l) (sym g ∙ e))

-- one with a line is the letter that asks this
pub line_found : {f : Option Line} {line : Line} (o : maybe.Option rules.Letter) → f ≡ found_of o → f ≡ Some line → (l : rules.Letter) × (o ≡ maybe.some l) × ((rules.line l).asks ≡ asks_means line.asks)
unfolding line_of
line_found {line = line} maybe.none e g = absurd (none_is_not_some line (sym e ∙ g))
line_found {line = line} (maybe.some l) e g =
    let q = some_is_one (line_of l) line (sym e ∙ g) in
    (l, refl, sym (asks_back (rules.line l).asks) ∙ ap (λ (x : Line). asks_means x.asks) q)

-- ## A line that was found is one of the table

letter_again : (l : rules.Letter) → letter_of (line_of l) ≡ l
unfolding line_of rules.line
letter_again rules.p_put = refl
letter_again rules.q_need = refl
letter_again rules.d_data = refl
letter_again rules.s_take = refl
letter_again rules.c_down = refl
letter_again rules.v_back = refl
letter_again rules.o_offer = refl
letter_again rules.k_ok = refl
letter_again rules.r_take = refl
letter_again rules.x_down = refl
letter_again rules.y_back = refl
letter_again rules.l_lose = refl
letter_again rules.m_lose = refl
letter_again rules.a_ack = refl

pub found_lined : {line : Line} (o : maybe.Option rules.Letter) → found_of o ≡ Some line → (o ≡ maybe.some (letter_of line)) × Lined line
unfolding Lined
found_lined {line} maybe.none e = absurd (none_is_not_some line e)
found_lined {line} (maybe.some l) e =
    let h = some_is_one (line_of l) line e in
    let k : l ≡ letter_of line = sym (letter_again l) ∙ ap letter_of h in
    (ap maybe.some k, sym h ∙ ap line_of k)
