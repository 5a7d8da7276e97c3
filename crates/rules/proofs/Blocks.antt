-- Numbers in blocks: demand 3 holds as it reads, with and without readings; every number that stands is at most what its end has reserved; and an
-- end's number record changes only where a number is taken with last used at what is reserved. Assumes nothing.
use Prim.Native.Nat.{ℕ, ◌≤◌}
use mathlib.Core.Path.{◌≡◌, refl}
use mathlib.Core.Logic.{◌⊎◌, inl, inr}
use mathlib.Core.Bool.{Bool, true, false}
use mathlib.Core.List.{List}
use lib.Dec.{eqb}
use borrow.Author.Tests.{eqb-true, eqb-false}
use Rattle.ground.specs.Cell.{is_message}
use Rattle.ground.specs.First.{refusal}
use Rattle.ground.proofs.Tests.{by_test}
use Rattle.rules.specs.Supply.{largest, Blocks, blocks, numbering, fresh_numbers}
use Rattle.rules.specs.Ends.{Power, same, falls, returns, Console, Controller, ConsoleAct, ControllerAct, ConsoleActed, ControllerActed, numbers_after, end_after}
use Rattle.rules.specs.Ends.{console_rules, controller_rules, console_acts, controller_acts, console_step, controller_step, console_turn, controller_turn, console_power, controller_power}
use Rattle.rules.specs.Bench.{Bench, Action, run, fresh}
use Rattle.rules.specs.Bears.{Any}
use Rattle.rules.specs.WellFormed.{Used}
use Rattle.rules.specs.Demand3.{Demand3}
use Rattle.rules.specs.ReadDemand3.{Demand3Read}
use Rattle.rules.proofs.Supply.{blocks_lawful, numbering_lawful, fresh_sound, used_is_reserved, reserved_stays}
use Rattle.rules.proofs.Lists.{all_map, if_holds}
use Rattle.rules.proofs.Numbers.{BorneByAll, UJ, run_uj, run_ui, fresh_ui}
use Rattle.rules.proofs.BenchBears.{weaken_to_controller, weaken_to_console, weaken_console, weaken_controller}
use Rattle.rules.proofs.WellFormed.{run_well_formed, fresh_well_formed}
use Rattle.rules.proofs.Demand3.{demand3}
use Rattle.rules.proofs.ReadDemand3.{demand3_read}

-- ## Demand 3, from any two starting numbers

pub demand3_blocks : {M : Type 0} (good : M → Bool) (j i : ℕ) (l : List (Action M)) → Demand3 blocks good (fresh_numbers j) (fresh_numbers i) l
demand3_blocks good j i l = demand3 blocks good blocks_lawful (fresh_numbers j) (fresh_numbers i) l

-- and as request 2 words it; with document 01's messages
pub demand3_read_blocks : {M : Type 0} (good : M → Bool) (j i : ℕ) (l : List (Action M))
    → Demand3Read numbering good (fresh_numbers j) (fresh_numbers i) l
demand3_read_blocks good j i l = demand3_read numbering good numbering_lawful (fresh_numbers j) (fresh_numbers i) l

pub demand3_read_messages : (j i : ℕ) (l : List (Action (List ℕ))) → Demand3Read numbering is_message (fresh_numbers j) (fresh_numbers i) l
demand3_read_messages j i l = demand3_read_blocks is_message j i l

-- ## Covered: every J that stands is at most what the console has reserved, every I at most what the controller has

abbrev Reserved : Blocks → ℕ → Type 0
Reserved s n = n ≤ s.reserved

module _ {M : Type 0} where
  pub record Covered (b : Bench Blocks M) : Type 0 where
    pub of_j : BorneByAll (Reserved b.console.numbers) Any b
    pub of_i : BorneByAll Any (Reserved b.controller.numbers) b

  -- a property that is asked of all that stands may be one that follows from it
  borne_as : (F G F' G' : ℕ → Type 0) (b : Bench Blocks M) → ((n : ℕ) → F n → F' n) → ((n : ℕ) → G n → G' n) → BorneByAll F G b → BorneByAll F' G' b
  borne_as F G F' G' b f g h =
      record {
        console = weaken_console F F' G G' f g Any b.console.mode h.console;
        controller = weaken_controller F F' G G' f g b.controller.mode h.controller;
        to_controller_all = all_map _ _ (weaken_to_controller F F' G G' f g Any) b.to_controller h.to_controller_all;
        to_console_all = all_map _ _ (weaken_to_console F F' G G' f g) b.to_console h.to_console_all;
      }

  fresh_uj : (j i : Blocks) → UJ {M = M} blocks (fresh j i)
  unfolding fresh
  fresh_uj j i = record { console = tt; controller = tt; to_controller_all = tt; to_console_all = tt }

  pub covered : (good : M → Bool) (j i : ℕ) → j ≤ largest → i ≤ largest → (l : List (Action M)) → Covered (run blocks good (fresh (fresh_numbers j) (fresh_numbers i)) l)
  covered good j i p q l =
      let start = fresh (fresh_numbers j) (fresh_numbers i) in
      let b = run blocks good start l in
      let w = run_well_formed blocks blocks_lawful good start l (fresh_well_formed blocks good (fresh_numbers j) (fresh_numbers i) (fresh_sound j p) (fresh_sound i q)) in
      let J = b.console.numbers in
      let I = b.controller.numbers in
      record {
        of_j = borne_as (Used blocks J) Any (Reserved J) Any b (λ n u. used_is_reserved J n w.console.numbers u) (λ n u. u) (run_uj blocks blocks_lawful good start l (fresh_uj (fresh_numbers j) (fresh_numbers i)));
        of_i = borne_as Any (Used blocks I) Any (Reserved I) b (λ n u. u) (λ n u. used_is_reserved I n w.controller.numbers u) (run_ui blocks blocks_lawful good start l (fresh_ui blocks (fresh_numbers j) (fresh_numbers i)));
      }

-- ## The record stays

-- the number record holds what is reserved and the block
abbrev SameRecord : Blocks → Blocks → Type 0
SameRecord s t = (t.reserved ≡ s.reserved) × (t.block ≡ s.block)

-- a number was taken, and all that was reserved was used before
abbrev Grew : Blocks → Blocks → Type 0
Grew s t = (s.last ≡ s.reserved) × (t ≡ blocks.take s)

moves_stay : (power : Power) (took : Bool) (s : Blocks) → let t = numbers_after blocks power took s in SameRecord s t ⊎ Grew s t
unfolding numbers_after
moves_stay same true s =
    by_test (eqb s.last s.reserved) (λ t. inr (eqb-true s.last s.reserved t, refl))
    (λ f. inl (reserved_stays s (eqb-false s.last s.reserved f), refl))
moves_stay same false s = inl (refl, refl)
moves_stay falls took s = inl (refl, refl)
moves_stay returns took s = inl (refl, refl)

module _ {M : Type 0} (good : M → Bool) where
  pub console_record_stays : (e : Console Blocks M) (act : ConsoleAct M) → let t = (console_step blocks good e act).after.numbers in SameRecord e.numbers t ⊎ Grew e.numbers t
  unfolding console_step console_acts end_after
  console_record_stays e act =
      if_holds (λ (d : ConsoleActed Blocks M). SameRecord e.numbers d.after.numbers ⊎ Grew e.numbers d.after.numbers) (eqb (refusal (console_rules blocks good e act)) 0) _ _
      (λ p. moves_stay (console_power act) (console_turn (blocks.next e.numbers) e.mode act).took e.numbers) (λ p. inl (refl, refl))

  pub controller_record_stays : (e : Controller Blocks) (act : ControllerAct M) → let t = (controller_step blocks e act).after.numbers in SameRecord e.numbers t ⊎ Grew e.numbers t
  unfolding controller_step controller_acts end_after
  controller_record_stays e act =
      if_holds (λ (d : ControllerActed Blocks M). SameRecord e.numbers d.after.numbers ⊎ Grew e.numbers d.after.numbers) (eqb (refusal (controller_rules blocks e act)) 0) _ _
      (λ p. moves_stay (controller_power act) (controller_turn (blocks.next e.numbers) e.mode act).took e.numbers) (λ p. inl (refl, refl))
