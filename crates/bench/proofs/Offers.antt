-- Numbers on offer: a step leaves the number and what is known, and what an end sends can be written as a packet.
use Prim.Native.Nat.{ℕ}
use mathlib.Core.Path.{◌≡◌, refl}
use mathlib.Core.Bool.{Bool, true, false}
use mathlib.Core.Option.{some}
use mathlib.Core.List.{List}
use borrow.Author.Tests.{not-false}
use Rattle.ground.specs.Cell.{is_message}
use Rattle.ground.specs.Choice.{chosen}
use Rattle.ground.specs.First.{refusal, applies}
use Rattle.rules.specs.Bears.{ConsoleBears, ControllerBears, ConsoleActBears, ControllerActBears, Any}
use Rattle.rules.specs.Lists.{All, Opt}
use Rattle.rules.specs.Supply.{numbering}
use Rattle.rules.specs.Offered.{Offer, offered, Move, unmoved, took_one, came_back}
use Rattle.rules.specs.Ends as ends
use Rattle.rules.specs.Letters as letters
use Rattle.rules.specs.Bench as rules
use Rattle.rules.specs.WellFormed.{Number, Good, ToControllerOk, ToConsoleOk}
use Rattle.rules.proofs.Bears.{Tracked, console_acts_bears, controller_acts_bears}
use Rattle.rules.proofs.Lists.{all_at}
use Rattle.rules.proofs.Refusals.{passed}
use Rattle.numbers.specs.Numbers.{move_means, move_back}

pub move_again : (m : Move) → move_means (move_back m) ≡ m
move_again unmoved = refl
move_again took_one = refl
move_again came_back = refl

pub offer_same : (power : ends.Power) (took : Bool) (o : Offer) → ends.numbers_after offered power took o ≡ record { next = o.next; known = o.known; move = (ends.numbers_after offered power took o).move }
unfolding ends.numbers_after
offer_same ends.same true o = refl
offer_same ends.same false o = refl
offer_same ends.falls took o = refl
offer_same ends.returns took o = refl

-- ## What an end sends

-- what is known of a number on offer
abbrev Sayable : Offer → Type 0
Sayable o = (n : ℕ) → o.next ≡ some n → Number numbering n

tracked : Tracked Offer offered Sayable (λ _. Number numbering) (λ _. Number numbering)
tracked =
    record {
      gets = λ s n h e. h n e;
      sound_take = λ s n h e. h;
      sound_back = λ s h. h;
      borne_take = λ _ _ h. h;
      borne_back = λ _ _ h. h;
      shows = λ _ _ h. h;
    }

-- what is handed to the end that is asked; a put's message may be any: refusal 11 looks at it
abbrev pub Handed : rules.Asked (List ℕ) → Type 0
Handed (rules.Asked.console act) = ConsoleActBears (Number numbering) (Number numbering) Any act
Handed (rules.Asked.controller act) = ControllerActBears (Number numbering) (Number numbering) (Good is_message) act
Handed rules.no_end = Unit {0}

pub handed : (b : rules.Bench Offer (List ℕ)) → All (ToControllerOk numbering is_message) b.to_controller → All (ToConsoleOk numbering) b.to_console → (l : letters.Letter) (k : ℕ) (m : List ℕ) → Handed (rules.asks b l k m)
unfolding rules.asks
handed b u d letters.p_put k m = tt
handed b u d letters.q_need k m = tt
handed b u d letters.d_data k m = tt
handed b u d letters.s_take k m = all_at (ToConsoleOk numbering) b.to_console k d
handed b u d letters.c_down k m = tt
handed b u d letters.v_back k m = tt
handed b u d letters.o_offer k m = tt
handed b u d letters.k_ok k m = tt
handed b u d letters.r_take k m = all_at (ToControllerOk numbering is_message) b.to_controller k u
handed b u d letters.x_down k m = tt
handed b u d letters.y_back k m = tt
handed b u d letters.l_lose k m = tt
handed b u d letters.m_lose k m = tt
handed b u d letters.a_ack k m = tt

-- the message of a put that is not refused is good
handed_good : (e : ends.Console Offer (List ℕ)) (act : ends.ConsoleAct (List ℕ)) → refusal (ends.console_rules offered is_message e act) ≡ 0 → ConsoleActBears (Number numbering) (Number numbering) Any act
    → ConsoleActBears (Number numbering) (Number numbering) (Good is_message) act
unfolding ends.console_rules applies chosen
handed_good e (ends.put m) q h = not-false (is_message m) (passed (ends.console_rules offered is_message e (ends.put m)) q 11 tt)
handed_good e ends.send_need_i q h = tt
handed_good e ends.send_data q h = tt
handed_good e (ends.ConsoleAct.take p) q h = h
handed_good e ends.ConsoleAct.go_down q h = tt
handed_good e ends.ConsoleAct.come_back q h = tt
handed_good e ends.tell_ack q h = tt

pub console_sends_lem : (e : ends.Console Offer (List ℕ)) (act : ends.ConsoleAct (List ℕ)) → Sayable e.numbers → ConsoleBears (Number numbering) (Number numbering) (Good is_message) e.mode
    → refusal (ends.console_rules offered is_message e act) ≡ 0 → Handed (rules.Asked.console act) → Opt (ToControllerOk numbering is_message) (ends.console_acts offered e act).sent
console_sends_lem e act s m q h =
    (console_acts_bears offered Sayable (λ _. Number numbering) (λ _. Number numbering) tracked (Number numbering) (Good is_message) e act s m (handed_good e act q h)).sent

pub controller_sends_lem : (e : ends.Controller Offer) (act : ends.ControllerAct (List ℕ)) → Sayable e.numbers → ControllerBears (Number numbering) (Number numbering) e.mode
    → Handed (rules.Asked.controller act) → Opt (ToConsoleOk numbering) (ends.controller_acts offered e act).sent
controller_sends_lem e act s m h =
    (controller_acts_bears offered Sayable (λ _. Number numbering) (λ _. Number numbering) tracked (Number numbering) (Good is_message) e act s m h).sent
