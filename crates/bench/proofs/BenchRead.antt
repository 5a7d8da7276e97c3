-- A bench that passes its check is well formed in the rules, and its tables are what they stand for.
use Prim.Native.Nat.{ℕ, ◌≤◌}
use mathlib.Core.Path.{◌≡◌, refl, sym, subst, ◌∙◌}
use mathlib.Core.Bool.{Bool, true, ◌&&◌}
use mathlib.Core.List.{List}
use Rattle.std.specs.Prelude.{Some}
use Rattle.ground.specs.Bytes.{Bytes}
use Rattle.ground.specs.Choice.{chosen}
use Rattle.ground.proofs.Tests.{and_left, and_right, and_both}
use Rattle.wire.specs.declared.Direction.TheVariants.{ToController, ToConsole}
use Rattle.ends_console.specs.Fields.{console_ok, console_end, console_read}
use Rattle.ends_controller.specs.Fields.{controller_ok, controller_end, controller_read}
use Rattle.ends_console.proofs.FieldsRead as console-fields
use Rattle.ends_console.proofs.WellFormed.{console_good}
use Rattle.ends_controller.proofs.FieldsRead as controller-fields
use Rattle.ends_controller.proofs.WellFormed.{controller_good}
use Rattle.ends_console.specs.Types as console-types
use Rattle.ends_controller.specs.Types as controller-types
use Rattle.channels.specs.Table.{table_ok}
use Rattle.channels.proofs.Channel.{packets_good, packets_length, channel_packets, table_facts}
use Rattle.channels.proofs.Packets.{to_controller_coded, to_console_coded}
use Rattle.bench.specs.AsRules.{bench_ok}
use Rattle.bench.specs.WithNumbers.{with_numbers}
use Rattle.bench.specs.Loaded.{Well, loaded_of, Typed}
use Rattle.bench.specs.declared.Bench.{Bench}
use Rattle.bench.specs.declared.loaded.Loaded.{Loaded}

-- ## What passes

module _ (b : Bench) (out back : List ℕ) {e : console-types.End} {f : controller-types.End} {ok : Bool} (r : console_read b.console ≡ Some e) (s : controller_read b.controller ≡ Some f)
    (t : ok ≡ (table_ok ToController b.sent out && table_ok ToConsole b.returned back)) where
  pub passes : bench_ok b out back ≡ ok
  unfolding bench_ok
  passes = rw ((console-fields.was_read b.console r).0, (controller-fields.was_read b.controller s).0) (sym t)

  module _ (n : ok ≡ true) where
    out_passes : table_ok ToController b.sent out ≡ true
    out_passes = and_left (table_ok ToController b.sent out) (table_ok ToConsole b.returned back) (sym t ∙ n)

    back_passes : table_ok ToConsole b.returned back ≡ true
    back_passes = and_right (table_ok ToController b.sent out) (table_ok ToConsole b.returned back) (sym t ∙ n)

    loaded_is : loaded_of (console_end b.console) b.console.ack b.console.message (controller_end b.controller) b.sent b.returned ≡ loaded_of e b.console.ack b.console.message f b.sent b.returned
    loaded_is =
        λ i. loaded_of (sym (console-fields.was_read b.console r).1 i) b.console.ack b.console.message (sym (controller-fields.was_read b.controller s).1 i) b.sent b.returned

    well : Typed b.console b.controller → Bytes out → Bytes back → Well (loaded_of (console_end b.console) b.console.ack b.console.message (controller_end b.controller) b.sent b.returned) out back
    unfolding loaded_of with_numbers
    well typed p q =
        record {
          well_formed =
              record {
                console = console_good b.console typed.message (console-fields.was_read b.console r).0 typed.console_last;
                controller = controller_good b.controller (controller-fields.was_read b.controller s).0 typed.controller_j;
                to_controller_all = packets_good to_controller_coded b.sent out p out_passes;
                to_controller_room = subst (λ (m : ℕ). m ≤ 64) (sym (packets_length to_controller_coded b.sent out)) (table_facts ToController b.sent out out_passes).few;
                to_console_all = packets_good to_console_coded b.returned back q back_passes;
                to_console_room = subst (λ (m : ℕ). m ≤ 64) (sym (packets_length to_console_coded b.returned back)) (table_facts ToConsole b.returned back back_passes).few;
              };
          out_holds = sym (channel_packets to_controller_coded b.sent out p out_passes);
          back_holds = sym (channel_packets to_console_coded b.returned back q back_passes);
        }

    pub well_so : {l : Loaded} → Typed b.console b.controller → Bytes out → Bytes back → l ≡ loaded_of e b.console.ack b.console.message f b.sent b.returned → Well l out back
    well_so typed p q g = subst (λ (x : Loaded). Well x out back) (loaded_is ∙ sym g) (well typed p q)

module _ (b : Bench) (out back : List ℕ) (ok : bench_ok b out back ≡ true) where
  abbrev c : Bool
  c = console_ok b.console

  abbrev d : Bool
  d = controller_ok b.controller

  abbrev t : Bool
  t = table_ok ToController b.sent out

  abbrev u : Bool
  u = table_ok ToConsole b.returned back

  pub console_passes : c ≡ true
  unfolding bench_ok
  console_passes = and_left c d (and_left (c && d) t (and_left (c && d && t) u ok))

  pub controller_passes : d ≡ true
  unfolding bench_ok
  controller_passes = and_right c d (and_left (c && d) t (and_left (c && d && t) u ok))

  tables_pass : (t && u) ≡ true
  unfolding bench_ok
  tables_pass = and_both t u (and_right (c && d) t (and_left (c && d && t) u ok)) (and_right (c && d && t) u ok)

  console_is_read : console_read b.console ≡ Some (console_end b.console)
  unfolding console_read chosen
  console_is_read = rw console_passes

  controller_is_read : controller_read b.controller ≡ Some (controller_end b.controller)
  unfolding controller_read chosen
  controller_is_read = rw controller_passes

  pub passes_well : Typed b.console b.controller → Bytes out → Bytes back → Well (loaded_of (console_end b.console) b.console.ack b.console.message (controller_end b.controller) b.sent b.returned) out back
  passes_well typed p q = well_so b out back console_is_read controller_is_read refl tables_pass typed p q refl
