-- Reading a console's fields: the ways through the reader.
use Prim.Native.Nat.{ℕ, ◌<◌}
use mathlib.Core.Path.{◌≡◌, refl, sym, ap, ◌∙◌, subst}
use mathlib.Core.Bool.{Bool, true, false, not, ◌&&◌}
use native.Mathlib.Omega.{arith}
use borrow.Author.Tests.{ne_eqb, not-true, eqb-true, eqb-false}
use lib.ListN.{length, replicate}
use lib.Dec.{eqb}
use Rattle.std.specs.Prelude.{Option, None, Some}
use Rattle.ground.proofs.Options.{none_is_not_some, some_is_one}
use Rattle.ground.proofs.Tests.{by_test, and_left, and_right}
use Rattle.ground.proofs.Every.{filled_is}
use Rattle.ends_console.specs.Types.{End}
use Rattle.ground.specs.Cell.{is_message, spaces}
use Rattle.ground.specs.Every.{filled}
use Rattle.ground.specs.Choice.{chosen, when◌then◌else◌}
use Rattle.ends_console.specs.declared.Mode.{Mode}
use Rattle.ends_console.specs.declared.Mode.TheVariants.{Idle, NeedI, Send}
use Rattle.ends_console.specs.declared.fields.Console.{Console}
use Rattle.ends.specs.AsRules.{end_refusal}
use Rattle.ends_console.specs.Fields.{variables_fit, variables_mode, mode_read, own_or_none, console_read_refusal, console_ok, console_mode, console_read, console_with, console_fields, console_end}
use Rattle.rules.specs.Supply.{numbering}
use Rattle.numbers.specs.Numbers.{numbers_means}
use Rattle.numbers.specs.declared.Numbers.{Numbers}
use Rattle.wire.specs.declared.J.{J}
use Rattle.wire.specs.declared.I.{I}
use mathlib.Core.List.{List}

-- what a well-formed end's numbers are
abbrev pub Sound : Numbers → Type 0
Sound u = numbering.sound (numbers_means u) ≡ true

-- ## The whole: numbers that are sound, variables that fit, a j of its own

abbrev fit : Console → Bool
fit c = variables_fit c.held c.message c.j c.last

pub unsound : {s : Bool} (c : Console) → s ≡ numbering.sound (numbers_means c.numbers) → s ≡ false → None ≡ console_read c
unfolding console_read console_ok chosen
unsound c e n = rw (← e, n)

-- what the variables that were read are
fitting : (held : Bool) (m : List ℕ) (j : J) (l : I) {k : Mode} → Some k ≡ mode_read held m j l → (variables_fit held m j l ≡ true) × (k ≡ variables_mode held j l)
unfolding mode_read chosen
fitting held m j l {k} h =
    by_test (variables_fit held m j l)
    (λ t. (t, some_is_one k (variables_mode held j l) (rw t at h)))
    (λ f. absurd (none_is_not_some k (sym (rw f at h))))

misfit : (held : Bool) (m : List ℕ) (j : J) (l : I) → None ≡ mode_read held m j l → variables_fit held m j l ≡ false
unfolding mode_read chosen
misfit held m j l h =
    by_test (variables_fit held m j l) (λ t. absurd (none_is_not_some (variables_mode held j l) (rw t at h))) (λ f. f)

module _ {s : Bool} (c : Console) (e : s ≡ numbering.sound (numbers_means c.numbers)) (n : s ≡ true) where
  pub unfit : None ≡ mode_read c.held c.message c.j c.last → None ≡ console_read c
  unfolding console_read console_ok chosen
  unfit h = rw (← e, n, misfit c.held c.message c.j c.last h)

  module _ {o : Bool} {k : Mode} (h : Some k ≡ mode_read c.held c.message c.j c.last) (t : o ≡ own_or_none c.numbers c.j) where
    fits : (fit c ≡ true) × (k ≡ variables_mode c.held c.j c.last)
    fits = fitting c.held c.message c.j c.last h

    pub not_its_own : o ≡ false → None ≡ console_read c
    unfolding console_read console_ok chosen
    not_its_own f = rw (← e, n, fits.0, ← t, f)

    pub well : o ≡ true → Some (record { numbers = c.numbers; mode = k; up = c.up }) ≡ console_read c
    unfolding console_read console_ok console_mode chosen
    well f = rw (← e, n, fits.0, ← t, f, fits.1)

pub ruleset whole = (unsound, unfit, not_its_own, well)

-- ## What well-formed fields give, and that reading and writing them back changes nothing

abbrev pub its_own : Numbers → J → Bool
its_own u j = numbering.used (numbers_means u) j.0

pub ok_sound : (c : Console) → console_ok c ≡ true → Sound c.numbers
unfolding console_ok
ok_sound c ok = and_left (numbering.sound (numbers_means c.numbers)) _ ok

ok_fits : (c : Console) → console_ok c ≡ true → (fit c ≡ true) × (own_or_none c.numbers c.j ≡ true)
unfolding console_ok
ok_fits c ok =
    let rest = and_right (numbering.sound (numbers_means c.numbers)) (fit c && own_or_none c.numbers c.j) ok in
    (and_left (fit c) (own_or_none c.numbers c.j) rest, and_right (fit c) (own_or_none c.numbers c.j) rest)

abbrev one_set : J → I → Bool
one_set j l = when eqb j.0 0 then not (eqb l.0 0) else eqb l.0 0

one_last : (j : J) (l : I) → one_set j l ≡ true → eqb j.0 0 ≡ true → eqb l.0 0 ≡ false
unfolding chosen
one_last j l o t = let n : not (eqb l.0 0) ≡ true = rw t at o in not-true (eqb l.0 0) n

one_j : (j : J) (l : I) → one_set j l ≡ true → eqb j.0 0 ≡ false → l.0 ≡ 0
unfolding chosen
one_j j l o f = let z : eqb l.0 0 ≡ true = rw f at o in eqb-true l.0 0 z

above_0 : (n : ℕ) → eqb n 0 ≡ false → 0 < n
above_0 n f = omega (arith, eqb-false n 0 f)

abbrev none_j : J
none_j = record { 0 = 0 }

abbrev none_i : I
none_i = record { 0 = 0 }

-- by the mode that the variables stand for
pub by_variables : (P : Bool → List ℕ → J → I → Type 0)
    → P false spaces none_j none_i
    → ((j : J) (m : List ℕ) → 0 < j.0 → is_message m ≡ true → P true m j none_i)
    → ((l : I) (m : List ℕ) → 0 < l.0 → is_message m ≡ true → P true m none_j l)
    → (held : Bool) (m : List ℕ) (j : J) (l : I) → length m ≡ 16 → variables_fit held m j l ≡ true → P held m j l
unfolding chosen
by_variables P idle need send true m j l long ok =
    let row = and_left (is_message m) (one_set j l) ok in
    let one = and_right (is_message m) (one_set j l) ok in
    by_test (eqb j.0 0)
    (λ t. subst (λ (n : ℕ). P true m (record { 0 = n }) l) (sym (eqb-true j.0 0 t)) (send l m (above_0 l.0 (one_last j l one t)) row))
    (λ f. subst (λ (n : ℕ). P true m j (record { 0 = n })) (sym (one_j j l one f)) (need j m (above_0 j.0 f) row))
by_variables P idle need send false m j l long ok =
    let z = eqb j.0 0 && eqb l.0 0 in
    let f = filled 0x20 m in
    let same : m ≡ spaces = filled_is 0x20 m (and_right z f ok) ∙ ap (λ (n : ℕ). replicate n 0x20) long in
    subst (λ (n : ℕ). P false m (record { 0 = n }) l) (sym (eqb-true j.0 0 (and_left (eqb j.0 0) (eqb l.0 0) (and_left z f ok))))
    (subst (λ (n : ℕ). P false m none_j (record { 0 = n })) (sym (eqb-true l.0 0 (and_right (eqb j.0 0) (eqb l.0 0) (and_left z f ok))))
    (subst (λ (x : List ℕ). P false x none_j none_i) (sym same) idle))

set_own : (u : Numbers) (j : J) → 0 < j.0 → own_or_none u j ≡ true → its_own u j ≡ true
unfolding chosen
set_own u j h o = rw (ne_eqb j.0 0 (omega (arith, h))) at o

-- by the mode that the fields stand for
pub by_mode : (P : Console → Type 0)
    → ((u : Numbers) (up ack : Bool) → Sound u → P (console_with u Idle up ack spaces))
    → ((u : Numbers) (j : J) (up ack : Bool) (m : List ℕ) → Sound u → 0 < j.0 → its_own u j ≡ true → is_message m ≡ true → P (console_with u (NeedI j) up ack m))
    → ((u : Numbers) (l : I) (up ack : Bool) (m : List ℕ) → Sound u → 0 < l.0 → is_message m ≡ true → P (console_with u (Send l) up ack m))
    → (c : Console) → length c.message ≡ 16 → console_ok c ≡ true → P c
by_mode P idle need send c long ok =
    let u = c.numbers in
    let s = ok_sound c ok in
    by_variables
    (λ held m j l. own_or_none u j ≡ true → P (record { numbers = u; held = held; message = m; j = j; last = l; up = c.up; ack = c.ack }))
    (λ o. idle u c.up c.ack s)
    (λ j m h g o. need u j c.up c.ack m s h (set_own u j h o) g)
    (λ l m h g o. send u l c.up c.ack m s h g)
    c.held c.message c.j c.last long (ok_fits c ok).0 (ok_fits c ok).1

-- fields that are read and written back are the same
abbrev Same : Console → Type 0
Same c = console_fields (console_end c) c.ack c.message ≡ c

need_same : (u : Numbers) (j : J) (up ack : Bool) (m : List ℕ) → Sound u → 0 < j.0 → its_own u j ≡ true → is_message m ≡ true → Same (console_with u (NeedI j) up ack m)
unfolding console_mode chosen
need_same u j up ack m s h l g = rw (ne_eqb j.0 0 (omega arith))

send_same : (u : Numbers) (l : I) (up ack : Bool) (m : List ℕ) → Sound u → 0 < l.0 → is_message m ≡ true → Same (console_with u (Send l) up ack m)
unfolding console_mode chosen
send_same u l up ack m s h g = refl

idle_same : (u : Numbers) (up ack : Bool) → Sound u → Same (console_with u Idle up ack spaces)
unfolding console_mode chosen
idle_same u up ack s = refl

pub fields_back : (c : Console) → length c.message ≡ 16 → console_ok c ≡ true → Same c
fields_back c long ok = by_mode Same idle_same need_same send_same c long ok

-- what a console that was read is
pub was_read : (c : Console) {e : End} → console_read c ≡ Some e → (console_ok c ≡ true) × (e ≡ console_end c)
unfolding console_read chosen
was_read c {e} h =
    by_test (console_ok c)
    (λ t. (t, sym (some_is_one (console_end c) e (rw t at h))))
    (λ f. absurd (none_is_not_some e (rw f at h)))

pub not_read : (c : Console) → console_read c ≡ None → console_ok c ≡ false
unfolding console_read chosen
not_read c h = by_test (console_ok c) (λ t. absurd (none_is_not_some (console_end c) (sym (rw t at h)))) (λ f. f)

pub numbered : {read : Option End} (c : Console) → read ≡ console_read c → (read ≡ console_read c) × (console_read_refusal read ≡ end_refusal (console_ok c))
unfolding console_read chosen
numbered c f = (f, ap console_read_refusal f ∙ by_test (console_ok c) (λ t. rw t) (λ f. rw f))

-- an idle console whose numbers are sound is well formed
pub idle_ok : (u : Numbers) (up ack : Bool) → Sound u → console_ok (console_with u Idle up ack spaces) ≡ true
unfolding console_ok filled chosen
idle_ok u up ack s = rw s
