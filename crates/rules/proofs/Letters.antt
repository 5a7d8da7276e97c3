-- The table of letters: no byte stands twice, and the letter of a line's byte is that line's. Assumes nothing.
use mathlib.Core.Path.{◌≡◌, refl}
use mathlib.Core.Bool.{true}
use mathlib.Core.Option.{some}
use mathlib.Core.List.{map}
use Rattle.ground.specs.Choice.{chosen}
use Rattle.rules.specs.Lists.{distinct}
use Rattle.rules.specs.Letters.{Letter, p_put, q_need, d_data, s_take, c_down, v_back, o_offer, k_ok, r_take, x_down, y_back, l_lose, m_lose, a_ack}
use Rattle.rules.specs.Letters.{line, letters, among, letter}

pub no_byte_twice : distinct (map (λ l. (line l).byte) letters) ≡ true
unfolding letters line
no_byte_twice = refl

pub letter_of_lem : (l : Letter) → letter (line l).byte ≡ some l
unfolding letter letters among line chosen
letter_of_lem p_put = refl
letter_of_lem q_need = refl
letter_of_lem d_data = refl
letter_of_lem s_take = refl
letter_of_lem c_down = refl
letter_of_lem v_back = refl
letter_of_lem o_offer = refl
letter_of_lem k_ok = refl
letter_of_lem r_take = refl
letter_of_lem x_down = refl
letter_of_lem y_back = refl
letter_of_lem l_lose = refl
letter_of_lem m_lose = refl
letter_of_lem a_ack = refl
