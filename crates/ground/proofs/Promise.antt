-- What it is for a promise to determine its outcome, and to rule out a wrong program, over the reading of a function's `ensures` clauses.
use Rattle.std.proofs.Common.{ℕ, ◌≡◌, sym, ◌∙◌, false, true≢false, List, arith, eq-eqb, eqb}
use contract.Lifetimes.{Lfts}
use borrow.Fn.Kinds.{ParamKind, ResultKind, Dens, Out, ended_of, res_t}
use denote.Triple.Clauses.{AtExit}

-- any two answers that it allows are equal
abbrev pub Determined : {n : ℕ} (ps : List (ParamKind n)) (r : ResultKind n) → Out n ps r → Type 0
Determined {n} ps r Post = (κs : Lfts n) (a : Dens κs ps) (x y : (res_t r κs).Denot) (s t : AtExit (ended_of n ps r) κs) → Post κs a x s → Post κs a y t → x ≡ y

-- the same with what is seen in the lent buffers afterwards
abbrev pub DeterminedWith : {n : ℕ} (ps : List (ParamKind n)) (r : ResultKind n) → Out n ps r → {B : Type 0} → ((κs : Lfts n) → AtExit (ended_of n ps r) κs → B) → Type 0
DeterminedWith {n} ps r Post see = (κs : Lfts n) (a : Dens κs ps) (x y : (res_t r κs).Denot) (s t : AtExit (ended_of n ps r) κs) → Post κs a x s → Post κs a y t → (x ≡ y) × (see κs s ≡ see κs t)

-- a program that, given such an input, does this does not meet the promise
abbrev pub RulesOut : {n : ℕ} (ps : List (ParamKind n)) (r : ResultKind n) → Out n ps r → ((κs : Lfts n) → Dens κs ps → Type 0) → ((κs : Lfts n) → Dens κs ps → (res_t r κs).Denot → AtExit (ended_of n ps r) κs → Type 0) → Type 0
RulesOut {n} ps r Post given does = (κs : Lfts n) (a : Dens κs ps) (x : (res_t r κs).Denot) (s : AtExit (ended_of n ps r) κs) → given κs a → does κs a x s → Post κs a x s → ⊥

-- an outcome that is a refusal leaves what was there before it, given an input that its types allow
abbrev pub RefusalLeaves : {n : ℕ} (ps : List (ParamKind n)) (r : ResultKind n) → Out n ps r → ((κs : Lfts n) → Dens κs ps → Type 0) → ((κs : Lfts n) → (res_t r κs).Denot → Type 0) → {B : Type 0} → ((κs : Lfts n) → Dens κs ps → B) → ((κs : Lfts n) → (res_t r κs).Denot → AtExit (ended_of n ps r) κs → B) → Type 0
RefusalLeaves {n} ps r Post typed refused before after = (κs : Lfts n) (a : Dens κs ps) (x : (res_t r κs).Denot) (s : AtExit (ended_of n ps r) κs) → typed κs a → refused κs x → Post κs a x s → after κs x s ≡ before κs a

-- numbers that differ, and values of which one can't be the other
pub unequal : {m n : ℕ} → m ≡ n → eqb m n ≡ false → ⊥
unequal {m} {n} e d = true≢false (sym (eq-eqb m n e) ∙ d)

pub clash : ◌≡◌ {A = ℕ} 0 1 → ⊥
clash z = omega (arith, z)
