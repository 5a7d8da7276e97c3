-- Reading a controller's fields: the ways through the reader, and what they give.
use Prim.Native.Nat.{ℕ, ◌<◌}
use mathlib.Core.Path.{◌≡◌, refl, sym, ap, subst, ◌∙◌}
use mathlib.Core.Bool.{Bool, true, false, not, ◌&&◌}
use native.Mathlib.Omega.{arith}
use borrow.Author.Tests.{ne_eqb, not-true, eqb-true, eqb-false}
use lib.Dec.{eqb}
use Rattle.std.specs.Prelude.{Option, None, Some}
use Rattle.ground.proofs.Options.{none_is_not_some, some_is_one}
use Rattle.ground.proofs.Tests.{by_test, and_left, and_right}
use Rattle.ground.specs.Choice.{chosen}
use Rattle.wire.specs.declared.I.{I}
use Rattle.rules.specs.Supply.{numbering}
use Rattle.numbers.specs.Numbers.{numbers_means}
use Rattle.numbers.specs.declared.Numbers.{Numbers}
use Rattle.wire.specs.declared.J.{J}
use Rattle.ends_controller.specs.Types.{End}
use Rattle.ends_controller.specs.declared.Mode.{Mode}
use Rattle.ends_controller.specs.declared.Mode.TheVariants.{Idle, Accept, Ack}
use Rattle.ends_controller.specs.declared.fields.Controller.{Controller}
use Rattle.ends.specs.AsRules.{end_refusal}
use Rattle.ends_controller.specs.Fields.{variables_fit, variables_mode, mode_read, own_or_none, controller_read_refusal, controller_ok, controller_mode, controller_end, controller_read, controller_with, controller_fields}

-- what a well-formed end's numbers are
abbrev pub Sound : Numbers → Type 0
Sound u = numbering.sound (numbers_means u) ≡ true

-- ## The whole: numbers that are sound, variables that fit, numbers of its own

abbrev fit : Controller → Bool
fit c = variables_fit c.j c.i c.last

-- what the variables that were read are
fitting : (j : J) (i l : I) {k : Mode} → Some k ≡ mode_read j i l → (variables_fit j i l ≡ true) × (k ≡ variables_mode j i l)
unfolding mode_read chosen
fitting j i l {k} h =
    by_test (variables_fit j i l)
    (λ t. (t, some_is_one k (variables_mode j i l) (rw t at h)))
    (λ f. absurd (none_is_not_some k (sym (rw f at h))))

misfit : (j : J) (i l : I) → None ≡ mode_read j i l → variables_fit j i l ≡ false
unfolding mode_read chosen
misfit j i l h = by_test (variables_fit j i l) (λ t. absurd (none_is_not_some (variables_mode j i l) (rw t at h))) (λ f. f)

pub unsound : {s : Bool} (c : Controller) → s ≡ numbering.sound (numbers_means c.numbers) → s ≡ false → None ≡ controller_read c
unfolding controller_read controller_ok chosen
unsound c e n = rw (← e, n)

module _ {s : Bool} (c : Controller) (e : s ≡ numbering.sound (numbers_means c.numbers)) (n : s ≡ true) where
  pub unfit : None ≡ mode_read c.j c.i c.last → None ≡ controller_read c
  unfolding controller_read controller_ok chosen
  unfit h = rw (← e, n, misfit c.j c.i c.last h)

  module _ {o : Bool} {k : Mode} (h : Some k ≡ mode_read c.j c.i c.last) (t : o ≡ own_or_none c.numbers c.i) where
    fits : (fit c ≡ true) × (k ≡ variables_mode c.j c.i c.last)
    fits = fitting c.j c.i c.last h

    pub i_not_its_own : o ≡ false → None ≡ controller_read c
    unfolding controller_read controller_ok chosen
    i_not_its_own f = rw (← e, n, fits.0, ← t, f)

    module _ {v : Bool} (f : o ≡ true) (w : v ≡ own_or_none c.numbers c.last) where
      pub last_not_its_own : v ≡ false → None ≡ controller_read c
      unfolding controller_read controller_ok chosen
      last_not_its_own g = rw (← e, n, fits.0, ← t, f, ← w, g)

      pub well : v ≡ true → Some (record { numbers = c.numbers; mode = k; up = c.up }) ≡ controller_read c
      unfolding controller_read controller_ok controller_mode chosen
      well g = rw (← e, n, fits.0, ← t, f, ← w, g, fits.1)

pub ruleset whole = (unsound, unfit, i_not_its_own, last_not_its_own, well)

-- ## What well-formed fields give, and that reading and writing them back changes nothing

abbrev pub its_own : Numbers → I → Bool
its_own u i = numbering.used (numbers_means u) i.0

pub ok_sound : (c : Controller) → controller_ok c ≡ true → Sound c.numbers
unfolding controller_ok
ok_sound c ok = and_left (numbering.sound (numbers_means c.numbers)) _ ok

ok_fits : (c : Controller) → controller_ok c ≡ true → (fit c ≡ true) × (own_or_none c.numbers c.i ≡ true) × (own_or_none c.numbers c.last ≡ true)
unfolding controller_ok
ok_fits c ok =
    let i = own_or_none c.numbers c.i in
    let l = own_or_none c.numbers c.last in
    let rest = and_right (numbering.sound (numbers_means c.numbers)) (fit c && (i && l)) ok in
    (and_left (fit c) (i && l) rest, and_left i l (and_right (fit c) (i && l) rest), and_right i l (and_right (fit c) (i && l) rest))

above_0 : (n : ℕ) → eqb n 0 ≡ false → 0 < n
above_0 n f = omega (arith, eqb-false n 0 f)

abbrev none_j : J
none_j = record { 0 = 0 }

abbrev none_i : I
none_i = record { 0 = 0 }

no_i : (j : J) (i l : I) → variables_fit j i l ≡ true → eqb i.0 0 ≡ true → j.0 ≡ 0
unfolding chosen
no_i j i l p t = let q : eqb j.0 0 ≡ true = rw t at p in eqb-true j.0 0 q

with_i : (j : J) (i l : I) → variables_fit j i l ≡ true → eqb i.0 0 ≡ false → (0 < j.0) × (l.0 ≡ 0)
unfolding chosen
with_i j i l p f =
    let q : (not (eqb j.0 0) && eqb l.0 0) ≡ true = rw f at p in
    (above_0 j.0 (not-true (eqb j.0 0) (and_left (not (eqb j.0 0)) (eqb l.0 0) q)), eqb-true l.0 0 (and_right (not (eqb j.0 0)) (eqb l.0 0) q))

-- by the mode that the variables stand for
pub by_variables : (P : J → I → I → Type 0)
    → P none_j none_i none_i
    → ((j : J) (i : I) → 0 < j.0 → 0 < i.0 → P j i none_i)
    → ((l : I) → 0 < l.0 → P none_j none_i l)
    → (j : J) (i l : I) → variables_fit j i l ≡ true → P j i l
by_variables P idle accept ack j i l ok =
    by_test (eqb i.0 0)
    (λ t.
    subst (λ (n : ℕ). P j (record { 0 = n }) l) (sym (eqb-true i.0 0 t))
    (subst (λ (n : ℕ). P (record { 0 = n }) none_i l) (sym (no_i j i l ok t))
    (by_test (eqb l.0 0)
    (λ z. subst (λ (n : ℕ). P none_j none_i (record { 0 = n })) (sym (eqb-true l.0 0 z)) idle)
    (λ f. ack l (above_0 l.0 f)))))
    (λ f.
    let w = with_i j i l ok f in
    subst (λ (n : ℕ). P j i (record { 0 = n })) (sym w.1) (accept j i w.0 (above_0 i.0 f)))

set_own : (u : Numbers) (i : I) → 0 < i.0 → own_or_none u i ≡ true → its_own u i ≡ true
unfolding chosen
set_own u i h o = rw (ne_eqb i.0 0 (omega (arith, h))) at o

-- by the mode that the fields stand for
pub by_mode : (P : Controller → Type 0)
    → ((u : Numbers) (up : Bool) → Sound u → P (controller_with u Idle up))
    → ((u : Numbers) (j : J) (i : I) (up : Bool) → Sound u → 0 < j.0 → 0 < i.0 → its_own u i ≡ true → P (controller_with u (Accept j i) up))
    → ((u : Numbers) (l : I) (up : Bool) → Sound u → 0 < l.0 → its_own u l ≡ true → P (controller_with u (Ack l) up))
    → (c : Controller) → controller_ok c ≡ true → P c
by_mode P idle accept ack c ok =
    let u = c.numbers in
    let s = ok_sound c ok in
    by_variables
    (λ j i l. own_or_none u i ≡ true → own_or_none u l ≡ true → P (record { numbers = u; j = j; i = i; last = l; up = c.up }))
    (λ o v. idle u c.up s)
    (λ j i h k o v. accept u j i c.up s h k (set_own u i k o))
    (λ l h o v. ack u l c.up s h (set_own u l h v))
    c.j c.i c.last (ok_fits c ok).0 (ok_fits c ok).1 (ok_fits c ok).2

-- fields that are read and written back are the same
abbrev Same : Controller → Type 0
Same c = controller_fields (controller_end c) ≡ c

idle_same : (u : Numbers) (up : Bool) → Sound u → Same (controller_with u Idle up)
unfolding controller_mode chosen
idle_same u up s = refl

accept_same : (u : Numbers) (j : J) (i : I) (up : Bool) → Sound u → 0 < j.0 → 0 < i.0 → its_own u i ≡ true → Same (controller_with u (Accept j i) up)
unfolding controller_mode chosen
accept_same u j i up s h k o = rw (ne_eqb i.0 0 (omega arith))

ack_same : (u : Numbers) (l : I) (up : Bool) → Sound u → 0 < l.0 → its_own u l ≡ true → Same (controller_with u (Ack l) up)
unfolding controller_mode chosen
ack_same u l up s h o = rw (ne_eqb l.0 0 (omega arith))

pub fields_back : (c : Controller) → controller_ok c ≡ true → Same c
fields_back c ok = by_mode Same idle_same accept_same ack_same c ok

-- what a controller that was read is
pub was_read : (c : Controller) {e : End} → controller_read c ≡ Some e → (controller_ok c ≡ true) × (e ≡ controller_end c)
unfolding controller_read chosen
was_read c {e} h =
    by_test (controller_ok c)
    (λ t. (t, sym (some_is_one (controller_end c) e (rw t at h))))
    (λ f. absurd (none_is_not_some e (rw f at h)))

pub not_read : (c : Controller) → controller_read c ≡ None → controller_ok c ≡ false
unfolding controller_read chosen
not_read c h = by_test (controller_ok c) (λ t. absurd (none_is_not_some (controller_end c) (sym (rw t at h)))) (λ f. f)

pub numbered : {read : Option End} (c : Controller) → read ≡ controller_read c → (read ≡ controller_read c) × (controller_read_refusal read ≡ end_refusal (controller_ok c))
unfolding controller_read chosen
numbered c f = (f, ap controller_read_refusal f ∙ by_test (controller_ok c) (λ t. rw t) (λ f. rw f))

-- an idle controller whose numbers are sound is well formed
pub idle_ok : (u : Numbers) (up : Bool) → Sound u → controller_ok (controller_with u Idle up) ≡ true
unfolding controller_ok chosen
idle_ok u up s = rw s
