-- Well-formed fields stand for a well-formed controller of the rules, and such a controller is written back as well-formed fields that mean it.
use Prim.Native.Nat.{ℕ, ◌<◌, ◌^◌}
use mathlib.Core.Path.{◌≡◌, refl}
use mathlib.Core.Bool.{Bool, true}
use native.Mathlib.Omega.{arith}
use borrow.Author.Tests.{ne_eqb}
use Rattle.ground.specs.Choice.{chosen}
use Rattle.wire.specs.declared.I.{I}
use Rattle.wire.specs.declared.J.{J}
use Rattle.rules.specs.Supply as supply
use Rattle.rules.specs.Supply.{numbering}
use Rattle.rules.specs.Ends as rules
use Rattle.rules.specs.Bears.{ControllerBears}
use Rattle.rules.specs.WellFormed.{Number, Given, ControllerOk}
use Rattle.numbers.specs.Numbers.{numbers_means, numbers_back}
use Rattle.numbers.specs.declared.Numbers.{Numbers}
use Rattle.numbers.proofs.Range.{number_is, number_above, given_is}
use Rattle.ends_controller.specs.Fields.{controller_ok, controller_mode, controller_with}
use Rattle.ends_controller.specs.FieldsAsRules.{controller_means, controller_back}
use Rattle.ends_controller.specs.declared.Mode.TheVariants.{Idle, Accept, Ack}
use Rattle.ends_controller.specs.declared.fields.Controller.{Controller}
use Rattle.ends_controller.proofs.FieldsRead.{Sound, its_own, by_mode, idle_ok}

-- ## Fields, in the rules; `j` is the other end's, and its type says that it fits

abbrev Meant : Controller → Type 0
Meant c = c.j.0 < 2 ^ 32 → ControllerOk numbering (controller_means c)

idle_meant : (u : Numbers) (up : Bool) → Sound u → Meant (controller_with u Idle up)
unfolding controller_mode chosen
idle_meant u up s b = record { numbers = s; mode = tt }

accept_meant : (u : Numbers) (j : J) (i : I) (up : Bool) → Sound u → 0 < j.0 → 0 < i.0 → its_own u i ≡ true → Meant (controller_with u (Accept j i) up)
unfolding controller_mode chosen
accept_meant u j i up s h k o b =
    rw (ne_eqb i.0 0 (omega arith)) (record { numbers = s; mode = (number_is j.0 h b, given_is (numbers_means u) i.0 s k o) })

ack_meant : (u : Numbers) (l : I) (up : Bool) → Sound u → 0 < l.0 → its_own u l ≡ true → Meant (controller_with u (Ack l) up)
unfolding controller_mode chosen
ack_meant u l up s h o b = rw (ne_eqb l.0 0 (omega arith)) (record { numbers = s; mode = given_is (numbers_means u) l.0 s h o })

pub controller_good : (c : Controller) → controller_ok c ≡ true → c.j.0 < 2 ^ 32 → ControllerOk numbering (controller_means c)
controller_good c ok = by_mode Meant idle_meant accept_meant ack_meant c ok

-- ## A controller of the rules, as fields

abbrev pub ControllerStands : rules.Controller supply.Numbers → Type 0
ControllerStands e = (controller_ok (controller_back e) ≡ true) × (controller_means (controller_back e) ≡ e)

module _ (u : supply.Numbers) (up : Bool) (s : numbering.sound u ≡ true) where
  idle_stands : ControllerStands (record { numbers = u; mode = rules.ControllerMode.idle; up = up })
  unfolding controller_mode chosen
  idle_stands = (idle_ok (numbers_back u) up s, refl)

  accept_stands : (j i : ℕ) → 0 < j → 0 < i → numbering.used u i ≡ true → ControllerStands (record { numbers = u; mode = rules.in_accept j i; up = up })
  unfolding controller_ok controller_mode chosen
  accept_stands j i h k o = rw (s, ne_eqb i 0 (omega (arith, k)), ne_eqb j 0 (omega (arith, h)), o) (refl, refl)

  ack_stands : (l : ℕ) → 0 < l → numbering.used u l ≡ true → ControllerStands (record { numbers = u; mode = rules.in_ack l; up = up })
  unfolding controller_ok controller_mode chosen
  ack_stands l h o = rw (s, ne_eqb l 0 (omega (arith, h)), o) (refl, refl)

  mode_stands : (k : rules.ControllerMode) → ControllerBears (Number numbering) (Given numbering u) k → ControllerStands (record { numbers = u; mode = k; up = up })
  mode_stands rules.ControllerMode.idle h = idle_stands
  mode_stands (rules.in_accept j i) h = accept_stands j i (number_above j h.0) (number_above i h.1.0) h.1.1
  mode_stands (rules.in_ack l) h = ack_stands l (number_above l h.0) h.1

pub controller_stands : (e : rules.Controller supply.Numbers) → ControllerOk numbering e → ControllerStands e
controller_stands e w = mode_stands e.numbers e.up w.numbers e.mode w.mode
