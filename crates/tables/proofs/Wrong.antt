-- Programs that the promises rule out, each at one input or at one sort of tables.
use Rattle.std.proofs.Common.{ℕ, ◌-◌, ◌≡◌, refl, sym, ap, ◌∙◌, List, [], ◌∷◌, ◌++◌, arith, length, get_or, replicate, length-take-le, Ok, Err, IfOk, IsErr, Bor}
use Rattle.ground.specs.Choice.{chosen}
use Rattle.ground.specs.Refusals.{unless_refused, refused_by}
use Rattle.ground.specs.declared.refusals.Refusal.TheVariants.{NoPlace}
use Rattle.ground.proofs.Promise.{RulesOut, unequal}
use Rattle.ground.proofs.RefusalNumbers.{passes}
use Rattle.ground.proofs.Tests.{by_test}
use Rattle.tables.specs.declared.shown.Way.{Way}
use Rattle.tables.specs.declared.shown.Way.TheVariants.{Out}
use Rattle.tables.specs.Shown.{show_refusal, part_at, showing}
use Rattle.tables.specs.Table.{is_table, taken_out}
use Rattle.tables.proofs.Showing.{back_short, one_there}
use Rattle.tables.proofs.change.take_out.Kinds as take-out-kinds
use Rattle.tables.proofs.change.take_out.Reads as take-out
use Rattle.tables.proofs.change.clear.Kinds as clear-kinds
use Rattle.tables.proofs.change.clear.Reads as clear
use Rattle.tables.proofs.shown.show_refusal.Kinds as show-refusal-kinds
use Rattle.tables.proofs.shown.show_refusal.Reads as show-refusal
use Rattle.tables.proofs.shown.show.Kinds as show-kinds
use Rattle.tables.proofs.shown.show.Reads as show

-- ## Changing a table

-- the first of two records, of ones and of twos, is taken out
abbrev with_two : List ℕ
with_two = replicate 32 1 ++ (replicate 32 2 ++ replicate 1984 0)

first_out : (get_or (taken_out with_two 2 0) 0 0 ≡ 2) × (get_or (taken_out with_two 2 0) 32 0 ≡ 0)
unfolding taken_out chosen
first_out = (refl, refl)

two_begin : (get_or with_two 31 0 ≡ 1) × (get_or with_two 32 0 ≡ 2)
two_begin = (refl, refl)

pub moved_by_31_bytes : RulesOut take-out-kinds.ps take-out-kinds.r take-out.Post (λ κs a. (a.0.now ≡ with_two) × (a.1.0 ≡ 2) × (a.1.1.0 ≡ 0)) (λ κs a x s. get_or s.0.now 0 0 ≡ get_or a.0.now 31 0)
moved_by_31_bytes κs a x s e w p = unequal (sym first_out.0 ∙ sym (ap (λ (t : List ℕ). get_or t 0 0) (p ∙ (λ i. taken_out (e.0 i) (e.1 i) (e.2 i)))) ∙ w ∙ ap (λ (t : List ℕ). get_or t 31 0) e.0 ∙ two_begin.0) refl

pub leaves_the_freed_place : RulesOut take-out-kinds.ps take-out-kinds.r take-out.Post (λ κs a. (a.0.now ≡ with_two) × (a.1.0 ≡ 2) × (a.1.1.0 ≡ 0)) (λ κs a x s. get_or s.0.now 32 0 ≡ get_or a.0.now 32 0)
leaves_the_freed_place κs a x s e w p = unequal (sym first_out.1 ∙ sym (ap (λ (t : List ℕ). get_or t 32 0) (p ∙ (λ i. taken_out (e.0 i) (e.1 i) (e.2 i)))) ∙ w ∙ ap (λ (t : List ℕ). get_or t 32 0) e.0 ∙ two_begin.1) refl

none_out : (t : List ℕ) → taken_out t 1 1 ≡ t
unfolding taken_out chosen
none_out t = by_test (is_table (length t) 1) (λ e. rw e) (λ e. rw e)

-- the place that the count names
pub takes_out_at_the_count : RulesOut take-out-kinds.ps take-out-kinds.r take-out.Post (λ κs a. (a.1.0 ≡ 1) × (a.1.1.0 ≡ 1)) (λ κs a x s. s.0.now ≡ a.0.now → ⊥)
takes_out_at_the_count κs a x s e w p = w (p ∙ (λ i. taken_out a.0.now (e.0 i) (e.1 i)) ∙ none_out a.0.now)

pub clear_changes_nothing : RulesOut clear-kinds.ps clear-kinds.r clear.Post (λ κs a. a.0.now ≡ 1 ∷ []) (λ κs a x s. s.0.now ≡ a.0.now)
clear_changes_nothing κs a x s e w p = unequal (ap (λ (t : List ℕ). get_or t 0 0) (sym e ∙ sym w ∙ p ∙ ap (λ (t : List ℕ). replicate (length t) 0) e)) refl

pub clear_leaves_the_last_byte : RulesOut clear-kinds.ps clear-kinds.r clear.Post (λ κs a. a.0.now ≡ 1 ∷ 1 ∷ []) (λ κs a x s. get_or s.0.now (length a.0.now - 1) 0 ≡ get_or a.0.now (length a.0.now - 1) 0)
clear_leaves_the_last_byte κs a x s e w p = unequal (sym (ap (λ (t : List ℕ). get_or t (length t - 1) 0) e) ∙ sym w ∙ (λ i. get_or (p i) (length a.0.now - 1) 0) ∙ ap (λ (t : List ℕ). get_or (replicate (length t) 0) (length t - 1) 0) e) refl

-- ## Showing

-- place 0 of the table out, one record there and none in the one back
abbrev FirstOut : Way → ℕ → Bor (List ℕ) → ℕ → Bor (List ℕ) → ℕ → ℕ → Type 0
FirstOut way place out sent back returned length_back = (way ≡ Out) × (place ≡ 0) × (length out.now ≡ 2048) × (sent ≡ 1) × (length back.now ≡ length_back) × (returned ≡ 0)

pub looks_at_one_table : RulesOut show-refusal-kinds.ps show-refusal-kinds.r show-refusal.Post (λ κs a. FirstOut a.0 a.1.0 a.1.1.0 a.1.1.1.0 a.1.1.1.1.0 a.1.1.1.1.1.0 2047) (λ κs a x s. x ≡ Ok tt)
looks_at_one_table κs a x s e w p =
    unequal (sym (passes _ (sym p ∙ w)) ∙ (λ i. show_refusal (e.0 i) (e.1 i) a.1.1.0.now (e.3 i) a.1.1.1.1.0.now (e.5 i)) ∙ back_short Out 0 a.1.1.0.now 1 a.1.1.1.1.0.now 0 e.2 (omega arith) (λ h. unequal (sym e.4 ∙ h) refl)) refl

granted : (out back : List ℕ) → length out ≡ 2048 → length back ≡ 2048 → show_refusal Out 0 out 1 back 0 ≡ 0
granted out back l m = one_there Out 0 out 1 back 0 l (omega arith) m (omega arith) refl (omega arith)

pub takes_the_other_count : RulesOut show-refusal-kinds.ps show-refusal-kinds.r show-refusal.Post (λ κs a. FirstOut a.0 a.1.0 a.1.1.0 a.1.1.1.0 a.1.1.1.1.0 a.1.1.1.1.1.0 2048) (λ κs a x s. x ≡ Err NoPlace)
takes_the_other_count κs a x s e w p =
    let q : x ≡ Ok tt = p ∙ (λ i. refused_by (show_refusal (e.0 i) (e.1 i) a.1.1.0.now (e.3 i) a.1.1.1.1.0.now (e.5 i))) ∙ ap (λ n. refused_by n) (granted _ _ e.2 e.4) in
    cc

-- the same of what shows a part
first_shown : (way : Way) (place : ℕ) (out : Bor (List ℕ)) (sent : ℕ) (back : Bor (List ℕ)) (returned : ℕ) → FirstOut way place out sent back returned 2048 → showing way place out sent back returned ≡ Ok (part_at out 0)
unfolding showing
first_shown way place out sent back returned e =
    (λ i. showing (e.0 i) (e.1 i) out (e.3 i) back (e.5 i)) ∙ ap (λ n. unless_refused n (part_at out 0)) (granted out.now back.now e.2 e.4)

pub always_shows_nothing : RulesOut show-kinds.ps show-kinds.r show.Post (λ κs a. FirstOut a.0 a.1.0 a.1.1.0 a.1.1.1.0 a.1.1.1.1.0 a.1.1.1.1.1.0 2048) (λ κs a x s. IfOk x (λ part. part.now ≡ []))
always_shows_nothing κs a x s e w p =
    let n = rw (p ∙ first_shown _ _ _ _ _ _ e) at w in
    unequal (ap length (sym n) ∙ length-take-le 32 a.1.1.0.now (omega (arith, e.2))) refl

-- a part of another block than that of the table
pub shows_a_copy : RulesOut show-kinds.ps show-kinds.r show.Post (λ κs a. FirstOut a.0 a.1.0 a.1.1.0 a.1.1.1.0 a.1.1.1.1.0 a.1.1.1.1.1.0 2048) (λ κs a x s. IfOk x (λ part. part.ref_ptr.0 ≡ a.1.1.0.ref_ptr.0 → ⊥))
shows_a_copy κs a x s e w p = (rw (p ∙ first_shown _ _ _ _ _ _ e) at w) refl

pub always_refuses : RulesOut show-kinds.ps show-kinds.r show.Post (λ κs a. FirstOut a.0 a.1.0 a.1.1.0 a.1.1.1.0 a.1.1.1.1.0 a.1.1.1.1.1.0 2048) (λ κs a x s. IsErr x)
always_refuses κs a x s e w p = let r = rw (p ∙ first_shown _ _ _ _ _ _ e) at w in cc
