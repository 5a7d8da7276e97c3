-- What a controller run alone leaves without a refusal: a well-formed controller, its fields of their types.
use Prim.Native.Nat.{ℕ}
use mathlib.Core.Path.{◌≡◌, refl, sym, subst}
use mathlib.Core.Bool.{Bool, true, false, true≢false}
use mathlib.Core.List.{List}
use native.Mathlib.Omega.{arith}
use lib.Dec.{eqb}
use lib.ListN.{drop}
use Rattle.std.specs.Prelude.{Result}
use Rattle.std.specs.Prelude as result
use Rattle.ground.specs.Bytes.{Bytes}
use Rattle.ground.specs.Cell.{is_message}
use Rattle.ground.specs.Choice.{chosen}
use Rattle.ground.specs.First.{refusal}
use Rattle.ground.specs.declared.refusals.Refusal.{Refusal}
use Rattle.ground.proofs.Tests.{by_test}
use Rattle.wire.specs.Packet.{head_read, packet_read, with_message}
use Rattle.wire.specs.declared.Direction.TheVariants.{ToController}
use Rattle.wire.specs.declared.Head.{Head}
use Rattle.wire.specs.declared.Head.TheVariants as head
use Rattle.rules.specs.Supply.{numbering, Numbers}
use Rattle.rules.specs.Letters.{ControllerAsk, to_send_offer, to_send_ok}
use Rattle.rules.specs.Ends as rules
use Rattle.rules.specs.Bears.{ControllerBears}
use Rattle.rules.specs.Lists.{Opt}
use Rattle.rules.specs.WellFormed.{Number, Given, ControllerHandedOk, ControllerOk}
use Rattle.rules.proofs.Supply.{numbering_lawful}
use Rattle.rules.proofs.WellFormed.{controller_acts_ok}
use Rattle.ends_controller.specs.Fields.{controller_ok}
use Rattle.ends_controller.specs.FieldsAsRules.{controller_means, controller_back}
use Rattle.numbers.proofs.Range.{number_below, Fit, sound_fits}
use Rattle.ends_controller.specs.declared.fields.Controller.{Controller}
use Rattle.ends_controller.proofs.WellFormed.{controller_good, controller_stands}
use Rattle.channels.specs.Packets.{as_to_controller, to_controller_read}
use Rattle.channels.specs.Table.{goes}
use Rattle.channels.proofs.Packets.{ToControllerReadOk, to_controller_coded}
use Rattle.alone.specs.ControllerAlone.{ControllerAlone, controller_alone_acts, controller_alone}
use Rattle.alone.proofs.Calls.{packet_heard, controller_heard_as, ControllerActOf, Whatever, any_head, controller_by_act}
use Rattle.boundary.specs.State.{is_refusal}
use Rattle.boundary.proofs.BenchRefusals.{ControllerTyped}
use Rattle.boundary.proofs.ControllerTrips.{Typed}

-- what was read and goes to the controller bears numbers and cells
packet_good : (packet : List ℕ) → Bytes packet → goes ToController (head_read packet) ≡ true → ToControllerReadOk (as_to_controller (head_read packet) (drop 16 packet))
unfolding to_controller_read
packet_good packet b g = (to_controller_coded.back packet b g).1

head_good : (h : Result Head Refusal) (m : List ℕ) → (goes ToController h ≡ true → ToControllerReadOk (as_to_controller h m)) → Opt ToControllerReadOk (packet_heard (with_message h m))
head_good (result.Err r) m g = tt
head_good (result.Ok (head.NeedI j)) m g = g refl
head_good (result.Ok (head.Offer j i)) m g = tt
head_good (result.Ok (head.Data i)) m g = g refl
head_good (result.Ok (head.Ok i)) m g = tt
head_good (result.Ok (head.Lost i)) m g = tt
head_good (result.Ok (head.Done i)) m g = g refl

handed_good : (packet : List ℕ) → Opt ToControllerReadOk (controller_heard_as packet) → (k : ControllerAsk) (a : rules.ControllerAct (List ℕ)) → ControllerActOf packet k a → ControllerHandedOk numbering is_message a
handed_good packet g to_send_offer a e = subst (ControllerHandedOk numbering is_message) (sym e) tt
handed_good packet g to_send_ok a e = subst (ControllerHandedOk numbering is_message) (sym e) tt
handed_good packet g ControllerAsk.to_take a e =
    subst (ControllerHandedOk numbering is_message) (sym e.1.1) (subst (Opt ToControllerReadOk) e.1.0 g)
handed_good packet g ControllerAsk.to_go_down a e = subst (ControllerHandedOk numbering is_message) (sym e) tt
handed_good packet g ControllerAsk.to_come_back a e = subst (ControllerHandedOk numbering is_message) (sym e) tt

-- numbers of the rules fit into their bytes
fields_typed : (u : Numbers) (k : rules.ControllerMode) (up : Bool) → Fit u → ControllerBears (Number numbering) (Given numbering u) k → Typed (controller_back (record { numbers = u; mode = k; up = up }))
fields_typed u rules.ControllerMode.idle up h b = record { numbers = h; j = omega arith; i = omega arith; last = omega arith }
fields_typed u (rules.in_accept j i) up h b = record { numbers = h; j = number_below j b.0; i = number_below i b.1.0; last = omega arith }
fields_typed u (rules.in_ack l) up h b = record { numbers = h; j = omega arith; i = omega arith; last = number_below l b.0 }

abbrev pub ControllerLeft : Controller → Type 0
ControllerLeft c = (controller_ok c ≡ true) × Typed c

pub fields_left : (e : rules.Controller Numbers) → ControllerOk numbering e → ControllerLeft (controller_back e)
fields_left e w =
    ((controller_stands e w).0, fields_typed e.numbers e.mode e.up (sound_fits e.numbers w.numbers) w.mode)

module _ (c : Controller) (typed : ControllerTyped c) (packet reply : List ℕ) (bytes : Bytes packet) where
  abbrev Leaves : ControllerAlone → Type 0
  Leaves r = is_refusal r.outcome.report ≡ false → ControllerLeft r.outcome.controller

  acts_leave : (k : ControllerAsk) (a : rules.ControllerAct (List ℕ)) → ControllerActOf packet k a → controller_ok c ≡ true → Leaves (controller_alone_acts c reply a)
  unfolding controller_alone_acts rules.controller_step chosen
  acts_leave x a came y e =
      let k = refusal (rules.controller_rules numbering (controller_means c) a) in
      let given = handed_good packet (head_good (head_read packet) (drop 16 packet) (packet_good packet bytes)) x a came in
      by_test (eqb k 0)
      (λ z. rw z (fields_left _ (controller_acts_ok numbering numbering_lawful is_message (controller_means c) a (controller_good c y typed.j) given).0))
      (λ z. absurd (true≢false (rw z at e)))

  pub controller_left : (l : ℕ) → Leaves (controller_alone c l packet reply)
  controller_left l =
      controller_by_act Whatever tt tt tt tt c packet reply Leaves (λ k u e. absurd (true≢false e)) (any_head (packet_read packet)) l (λ x k e f. acts_leave k)
