-- Starts and number records of both ends: programs that the promises rule out, each at one input.
use Prim.Native.Nat.{ℕ}
use mathlib.Core.Path.{◌≡◌, refl, sym, ap, ◌∙◌}
use mathlib.Core.List.{List, []}
use native.Mathlib.Omega.{arith}
use lib.ListN.{length, get_or, replicate}
use lib.Dec.{eqb}
use Rattle.ground.specs.Choice.{chosen, when◌then◌else◌}
use Rattle.ground.specs.Every.{filled}
use Rattle.ground.specs.First.{first}
use Rattle.ground.specs.Refusals.{refusal_in}
use Rattle.ground.proofs.Promise.{RulesOut, unequal}
use Rattle.wire.specs.Number.{bytes_of, value}
use Rattle.wire.specs.Record.{record_bytes, record_read, record_write_refusal, record_written}
use Rattle.wire.specs.declared.NumberRecord.TheVariants.{ConsoleOld, ControllerOld}
use Rattle.wire.proofs.RecordTrips.{record_read_back}
use Rattle.numbers.specs.Numbers.{numbers_kept}
use Rattle.ends_console.specs.Fields.{console_ok, fresh_console, downed_console}
use Rattle.ends_controller.specs.Fields.{controller_ok, fresh_controller, downed_controller}
use Rattle.boundary.specs.State.{start_in, start_of, start_bytes, length_refusal, written, start_refusal, started, state_record_refusal, state_record_put}
use Rattle.boundary.specs.Console as console
use Rattle.boundary.specs.Controller as controller
use Rattle.boundary.proofs.console.nooseless_console_fresh.Kinds as console-fresh-kinds
use Rattle.boundary.proofs.console.nooseless_console_fresh.Reads as console-fresh
use Rattle.boundary.proofs.console.nooseless_console_downed.Kinds as console-downed-kinds
use Rattle.boundary.proofs.console.nooseless_console_downed.Reads as console-downed
use Rattle.boundary.proofs.console.nooseless_console_record.Kinds as console-record-kinds
use Rattle.boundary.proofs.console.nooseless_console_record.Reads as console-record
use Rattle.boundary.proofs.controller.nooseless_controller_fresh.Kinds as controller-fresh-kinds
use Rattle.boundary.proofs.controller.nooseless_controller_fresh.Reads as controller-fresh
use Rattle.boundary.proofs.controller.nooseless_controller_downed.Kinds as controller-downed-kinds
use Rattle.boundary.proofs.controller.nooseless_controller_downed.Reads as controller-downed
use Rattle.boundary.proofs.controller.nooseless_controller_record.Kinds as controller-record-kinds
use Rattle.boundary.proofs.controller.nooseless_controller_record.Reads as controller-record

-- ## A console

pub console_fresh_changes_nothing : RulesOut console-fresh-kinds.ps console-fresh-kinds.r console-fresh.Post (λ κs a. a.0.now ≡ replicate 37 0xFF) (λ κs a x s. s.0.now ≡ a.0.now)
unfolding written console.console_bytes bytes_of chosen
console_fresh_changes_nothing κs a x s e w p = unequal (ap (λ (l : List ℕ). get_or l 19 0) (sym e ∙ sym w ∙ p.1 ∙ ap (λ (l : List ℕ). written 37 l (console.console_bytes (fresh_console (record { 0 = a.1.0 })))) e)) refl

pub console_fresh_in_36_bytes : RulesOut console-fresh-kinds.ps console-fresh-kinds.r console-fresh.Post (λ κs a. length a.0.now ≡ 36) (λ κs a x s. x ≡ 0)
unfolding length_refusal chosen
console_fresh_in_36_bytes κs a x s e w p = unequal (sym w ∙ p.0 ∙ ap (λ (k : ℕ). when eqb k 37 then 0 else 2) e) refl

pub console_takes_the_other_record : RulesOut console-downed-kinds.ps console-downed-kinds.r console-downed.Post (λ κs a. (length a.0.now ≡ 37) × (a.1.0.now ≡ record_bytes (ControllerOld (record { 0 = 0 })))) (λ κs a x s. x ≡ 0)
unfolding start_refusal start_of chosen
console_takes_the_other_record κs a x s e w p = unequal (sym w ∙ p.0 ∙ (λ i. when eqb (e.0 i) 37 then refusal_in ((ap (start_in 1) (ap record_read e.1 ∙ record_read_back (ControllerOld (record { 0 = 0 })) (omega arith) refl)) i) else 2)) refl

-- what a start leaves in zero bytes, from a record of number 0
downed_so : (s r : List ℕ) → s ≡ replicate 37 0 → r ≡ record_bytes (ConsoleOld (record { 0 = 0 })) → started 37 s (console.start_at r) (console.downed_bytes r) ≡ console.console_bytes (downed_console (numbers_kept 0 64))
unfolding started start_refusal start_of chosen
downed_so s r e f =
    let l = ap (start_in 1) (ap record_read f ∙ record_read_back (ConsoleOld (record { 0 = 0 })) (omega arith) refl) in
    λ i. started 37 (e i) (l i) (start_bytes (λ n. console.console_bytes (downed_console n)) (l i))

pub console_comes_up_by_itself : RulesOut console-downed-kinds.ps console-downed-kinds.r console-downed.Post (λ κs a. (a.0.now ≡ replicate 37 0) × (a.1.0.now ≡ record_bytes (ConsoleOld (record { 0 = 0 })))) (λ κs a x s. get_or s.0.now 19 0 ≡ 1)
unfolding console.console_bytes bytes_of
console_comes_up_by_itself κs a x s e w p =
    unequal (sym w ∙ ap (λ (b : List ℕ). get_or b 19 0) (p.1 ∙ downed_so a.0.now a.1.0.now e.0 e.1)) refl

-- an answer that was not read is lost with the power
pub console_starts_with_an_answer : RulesOut console-downed-kinds.ps console-downed-kinds.r console-downed.Post (λ κs a. (a.0.now ≡ replicate 37 0) × (a.1.0.now ≡ record_bytes (ConsoleOld (record { 0 = 0 })))) (λ κs a x s. get_or s.0.now 20 0 ≡ 1)
unfolding console.console_bytes bytes_of
console_starts_with_an_answer κs a x s e w p =
    unequal (sym w ∙ ap (λ (b : List ℕ). get_or b 20 0) (p.1 ∙ downed_so a.0.now a.1.0.now e.0 e.1)) refl

-- a box in the field has a record of 12 bytes
pub console_refuses_the_old_record : RulesOut console-downed-kinds.ps console-downed-kinds.r console-downed.Post (λ κs a. (length a.0.now ≡ 37) × (a.1.0.now ≡ record_bytes (ConsoleOld (record { 0 = 7 })))) (λ κs a x s. x ≡ 12)
unfolding start_refusal start_of chosen
console_refuses_the_old_record κs a x s e w p = unequal (sym w ∙ p.0 ∙ (λ i. when eqb (e.0 i) 37 then refusal_in ((ap (start_in 1) (ap record_read e.1 ∙ record_read_back (ConsoleOld (record { 0 = 7 })) (omega arith) refl)) i) else 2)) refl

pub console_records_no_state : RulesOut console-record-kinds.ps console-record-kinds.r console-record.Post (λ κs a. a.0.now ≡ []) (λ κs a x s. x ≡ 0)
unfolding state_record_refusal console_ok console.console_at console.is_state chosen
console_records_no_state κs a x s e w p = unequal (sym w ∙ p.0 ∙ ap (λ (l : List ℕ). state_record_refusal (console_ok (console.console_at l)) (console.console_record (console.console_at l)) a.1.0.now) e) refl

pub console_writes_the_other_record : RulesOut console-record-kinds.ps console-record-kinds.r console-record.Post (λ κs a. (a.0.now ≡ console.console_bytes (fresh_console (record { 0 = 0 }))) × (a.1.0.now ≡ replicate 16 0)) (λ κs a x s. get_or s.1.0.now 5 0 ≡ 2)
unfolding state_record_put record_written record_write_refusal record_bytes console_ok console.console_bytes console.console_at console.is_state console.fields_at bytes_of value filled first chosen
console_writes_the_other_record κs a x s e w p = unequal (sym w ∙ ap (λ (l : List ℕ). get_or l 5 0) (p.1 ∙ (λ i. state_record_put (console_ok (console.console_at (e.0 i))) (console.console_record (console.console_at (e.0 i))) (e.1 i)))) refl

-- ## A controller

pub controller_fresh_changes_nothing : RulesOut controller-fresh-kinds.ps controller-fresh-kinds.r controller-fresh.Post (λ κs a. a.0.now ≡ replicate 23 0xFF) (λ κs a x s. s.0.now ≡ a.0.now)
unfolding written controller.controller_bytes bytes_of chosen
controller_fresh_changes_nothing κs a x s e w p = unequal (ap (λ (l : List ℕ). get_or l 22 0) (sym e ∙ sym w ∙ p.1 ∙ ap (λ (l : List ℕ). written 23 l (controller.controller_bytes (fresh_controller (record { 0 = a.1.0 })))) e)) refl

pub controller_fresh_in_17_bytes : RulesOut controller-fresh-kinds.ps controller-fresh-kinds.r controller-fresh.Post (λ κs a. length a.0.now ≡ 17) (λ κs a x s. x ≡ 0)
unfolding length_refusal chosen
controller_fresh_in_17_bytes κs a x s e w p = unequal (sym w ∙ p.0 ∙ ap (λ (k : ℕ). when eqb k 23 then 0 else 2) e) refl

pub controller_takes_the_other_record : RulesOut controller-downed-kinds.ps controller-downed-kinds.r controller-downed.Post (λ κs a. (length a.0.now ≡ 23) × (a.1.0.now ≡ record_bytes (ConsoleOld (record { 0 = 0 })))) (λ κs a x s. x ≡ 0)
unfolding start_refusal start_of chosen
controller_takes_the_other_record κs a x s e w p = unequal (sym w ∙ p.0 ∙ (λ i. when eqb (e.0 i) 23 then refusal_in ((ap (start_in 2) (ap record_read e.1 ∙ record_read_back (ConsoleOld (record { 0 = 0 })) (omega arith) refl)) i) else 2)) refl

pub controller_comes_up_by_itself : RulesOut controller-downed-kinds.ps controller-downed-kinds.r controller-downed.Post (λ κs a. (a.0.now ≡ replicate 23 0) × (a.1.0.now ≡ record_bytes (ControllerOld (record { 0 = 0 })))) (λ κs a x s. get_or s.0.now 22 0 ≡ 1)
unfolding started start_refusal start_of controller.controller_bytes bytes_of chosen
controller_comes_up_by_itself κs a x s e w p =
    let l = ap (start_in 2) (ap record_read e.1 ∙ record_read_back (ControllerOld (record { 0 = 0 })) (omega arith) refl) in
    unequal (sym w ∙ ap (λ (b : List ℕ). get_or b 22 0) (p.1 ∙ (λ i. started 23 (e.0 i) (l i) (start_bytes (λ n. controller.controller_bytes (downed_controller n)) (l i))))) refl

pub controller_refuses_the_old_record : RulesOut controller-downed-kinds.ps controller-downed-kinds.r controller-downed.Post (λ κs a. (length a.0.now ≡ 23) × (a.1.0.now ≡ record_bytes (ControllerOld (record { 0 = 7 })))) (λ κs a x s. x ≡ 12)
unfolding start_refusal start_of chosen
controller_refuses_the_old_record κs a x s e w p = unequal (sym w ∙ p.0 ∙ (λ i. when eqb (e.0 i) 23 then refusal_in ((ap (start_in 2) (ap record_read e.1 ∙ record_read_back (ControllerOld (record { 0 = 7 })) (omega arith) refl)) i) else 2)) refl

pub controller_records_no_state : RulesOut controller-record-kinds.ps controller-record-kinds.r controller-record.Post (λ κs a. a.0.now ≡ []) (λ κs a x s. x ≡ 0)
unfolding state_record_refusal controller_ok controller.controller_at controller.is_state chosen
controller_records_no_state κs a x s e w p = unequal (sym w ∙ p.0 ∙ ap (λ (l : List ℕ). state_record_refusal (controller_ok (controller.controller_at l)) (controller.controller_record (controller.controller_at l)) a.1.0.now) e) refl

pub controller_writes_the_other_record : RulesOut controller-record-kinds.ps controller-record-kinds.r controller-record.Post (λ κs a. (a.0.now ≡ controller.controller_bytes (fresh_controller (record { 0 = 0 }))) × (a.1.0.now ≡ replicate 16 0)) (λ κs a x s. get_or s.1.0.now 5 0 ≡ 1)
unfolding state_record_put record_written record_write_refusal record_bytes controller_ok controller.controller_bytes controller.controller_at controller.is_state controller.fields_at bytes_of value filled first chosen
controller_writes_the_other_record κs a x s e w p = unequal (sym w ∙ ap (λ (l : List ℕ). get_or l 5 0) (p.1 ∙ (λ i. state_record_put (controller_ok (controller.controller_at (e.0 i))) (controller.controller_record (controller.controller_at (e.0 i))) (e.1 i)))) refl
