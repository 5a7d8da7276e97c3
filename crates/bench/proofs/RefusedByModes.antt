-- The refusals of the step by modes, in stages, and what a refusal is told as.
use Prim.Native.Nat.{ℕ, zero, suc, ◌+◌, ◌≤◌}
use mathlib.Core.Path.{◌≡◌, refl, sym, ap, subst, ◌∙◌}
use mathlib.Core.Bool.{Bool, true, false, not, ◌&&◌}
use mathlib.Core.Option as maybe
use mathlib.Core.List.{List, [], ◌∷◌}
use native.Mathlib.Omega.{arith}
use lib.Dec.{eqb, leb, ltb}
use lib.ListN.{length, length-replicate}
use borrow.Author.Tests.{le-leb, lt-leb, le-ltb, lt-ltb, leb-true, leb-false, eqb-true, eqb-false}
use Rattle.ground.proofs.Options.{none_is_not_some, some_is_one}
use Rattle.ground.specs.declared.refusals.Refusal.{Refusal}
use Rattle.ground.specs.Refusals.{refusal_of}
use Rattle.ground.specs.Options.{option_back}
use Rattle.std.specs.Prelude.{Option, None, Some}
use Rattle.ground.specs.Cell.{is_message, spaces}
use Rattle.ground.specs.Choice.{chosen, when◌then◌else◌}
use Rattle.ground.specs.First.{refusal}
use Rattle.ground.proofs.Tests.{by_test}
use Rattle.wire.specs.declared.Packet.{Packet}
use Rattle.rules.specs.Offered.{Offer, offered}
use Rattle.rules.specs.Ends.{absent}
use Rattle.rules.specs.Bench as rules
use Rattle.rules.proofs.Stages.{staged, in_stages, step_refuses}
use Rattle.letters.specs.Lines.{letter_of, line_of, Lined}
use Rattle.letters.specs.declared.Line.{Line}
use Rattle.numbers.specs.declared.Move.TheVariants.{Stay}
use Rattle.ends.specs.declared.Report.TheVariants.{Refused}
use Rattle.channels.specs.Packets.{to_controller_read, to_console_read}
use Rattle.channels.specs.Table.{packets}
use Rattle.channels.proofs.Channel.{packets_length}
use Rattle.channels.proofs.Packets.{to_controller_coded, to_console_coded}
use Rattle.bench.specs.Traffic.{room_for}
use Rattle.bench.specs.ByModes.{Known, told_as, shown_of, modes_moved, modes_means, modes_step, action_of, asks_of}
use Rattle.bench.specs.declared.Action.{Action}
use Rattle.bench.specs.declared.modes.Modes.{Modes}
use Rattle.bench.specs.declared.modes.Offered.{Offered}
use Rattle.bench.specs.declared.modes.Told.{Told}
use Rattle.bench.proofs.Tables.{Holds}

-- ## Tests of the rules, as the code makes them

one_more : (a b : ℕ) → leb a b ≡ leb (suc a) (suc b)
one_more a b =
    by_test (leb a b) (λ y. rw y (sym (le-leb (suc a) (suc b) (let h = leb-true a b y in omega (arith, h)))))
    (λ n. rw n (sym (lt-leb (suc a) (suc b) (let h = leb-false a b n in omega (arith, h)))))

-- 3: there is no packet where the place is not below the count
pub absent_is : {A : Type 0} (ps : List A) (k : ℕ) → absent (rules.at ps k) ≡ leb (length ps) k
unfolding absent rules.at
absent_is [] k = sym (le-leb 0 k (omega arith))
absent_is (p ∷ ps) zero = sym (lt-leb (length (p ∷ ps)) 0 (omega arith))
absent_is (p ∷ ps) (suc k) = absent_is ps k ∙ one_more (length ps) k

full_is : (a b : ℕ) → ltb 64 (a + b) ≡ not (leb (a + b) 64)
full_is a b =
    by_test (leb (a + b) 64) (λ y. rw y (le-ltb 64 (a + b) (leb-true (a + b) 64 y)))
    (λ n. rw n (lt-ltb 64 (a + b) (leb-false (a + b) 64 n)))

abbrev IsNone : {A : Type 0} → maybe.Option A → Type 0
IsNone maybe.none = Unit {0}
IsNone (maybe.some x) = ⊥

-- 9: of nothing there is room; and what has no copies sends nothing
pub exceed_is : {A : Type 0} (packet : A → Packet) (flag : Bool) (ps : List A) (n : ℕ) (o : maybe.Option A) → (flag ≡ false → o ≡ maybe.none) → length ps ≤ 64
    → (flag && rules.exceed ps n o) ≡ not (room_for (option_back (maybe.map packet o)) (length ps) n)
unfolding rules.exceed rules.copies_of room_for chosen
exceed_is packet false ps n maybe.none q h = refl
exceed_is packet true ps n maybe.none q h = le-ltb 64 (length ps + 0) (omega (arith, h))
exceed_is packet false ps n (maybe.some p) q h = absurd (subst IsNone (sym (q refl)) tt)
exceed_is packet true ps n (maybe.some p) q h = ap (λ (k : ℕ). ltb 64 (length ps + k)) (length-replicate n p) ∙ full_is (length ps) n

-- ## The refusal that is told of a number

unfoldable pub told_of : ℕ → Option Refusal
told_of n = when eqb n 0 then None else Some (refusal_of n)

pub told_none : (n : ℕ) → told_of n ≡ None → n ≡ 0
unfolding told_of chosen
told_none n e = by_test (eqb n 0) (λ t. eqb-true n 0 t) (λ f. absurd (none_is_not_some (refusal_of n) (sym (rw f at e))))

pub told_some : (n : ℕ) {q : Refusal} → told_of n ≡ Some q → (n ≡ 0 → ⊥) × (refusal_of n ≡ q)
unfolding told_of chosen
told_some n {q} e =
    by_test (eqb n 0) (λ t. absurd (none_is_not_some q (rw t at e)))
    (λ f. (eqb-false n 0 f, some_is_one (refusal_of n) q (rw f at e)))

-- ## The step by modes

module _ (b : Modes) (out back : List ℕ) (k : Known b out back) where
  -- the tables hold the bench's packets
  pub out_held : Holds to_controller_coded (packets to_controller_read b.sent out) out b.sent
  out_held =
      record { table = k.out_holds; number = sym (packets_length to_controller_coded b.sent out); good = k.to_controller_all; room = k.to_controller_room }

  pub back_held : Holds to_console_coded (packets to_console_read b.returned back) back b.returned
  back_held =
      record { table = k.back_holds; number = sym (packets_length to_console_coded b.returned back); good = k.to_console_all; room = k.to_console_room }

module _ (b : Modes) (o : Offered) (out back : List ℕ) (line : Line) (a : Action) where
  abbrev pub B : rules.Bench Offer (List ℕ)
  B = modes_means b o out back

  abbrev pub end_number : ℕ
  end_number = refusal (rules.end_rules offered is_message B (asks_of b o out back line a))

  abbrev pub three : Bool
  three = line.place && rules.missing (rules.takes (letter_of line)) B a.place

  abbrev pub nine : Bool
  nine = line.copies && rules.no_room offered B a.copies (asks_of b o out back line a)

  -- in stages, with the flags of the line at hand
  pub stages : Lined line → refusal (rules.rules_of offered is_message B (action_of line a)) ≡ staged (line.copies && ltb 3 a.copies) end_number three nine
  unfolding action_of Lined line_of
  stages l =
      in_stages offered is_message B (letter_of line) a.place a.copies a.message
      ∙ λ i.
      staged ((sym l i).copies && ltb 3 a.copies) end_number
      ((sym l i).place && rules.missing (rules.takes (letter_of line)) B a.place) ((sym l i).copies && rules.no_room offered B a.copies (asks_of b o out back line a))

  -- a refusal is told as it is, and changes nothing
  pub refused_so : {r : Told} {n : ℕ} → Known b out back → refusal (rules.rules_of offered is_message B (action_of line a)) ≡ n → (n ≡ 0 → ⊥)
      → r ≡ record { report = Refused (refusal_of n); message = spaces; console = Stay; controller = Stay; after = b } → told_as r o out back ≡ modes_step b o out back line a
  unfolding told_as modes_step shown_of modes_moved
  refused_so {r} {n} k e z q =
      ap (λ (x : Told). told_as x o out back) q
      ∙ (λ i. record { report = Refused (refusal_of n); message = spaces; after = B; out = k.out_holds i; back = k.back_holds i })
      ∙ ap shown_of (sym (step_refuses offered is_message B (action_of line a) n e z))
