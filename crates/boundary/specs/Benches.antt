-- A bench's state as 62 bytes beside its two tables, and what each entry for it does. Assumes nothing.
use Rattle.std.specs.Prelude.{ℕ, ◌*◌, ◌%◌, false, List, [], ◌∷◌, ◌++◌, length, get_or, eqb}
use Rattle.ground.specs.Choice.{when◌then◌else◌}
use Rattle.wire.specs.Frame.{field}
use Rattle.wire.specs.declared.I.{I}
use Rattle.wire.specs.declared.J.{J}
use Rattle.tables.specs.Shown.{show_refusal}
use Rattle.tables.specs.declared.shown.Way.TheVariants.{Out, Back}
use Rattle.bench.specs.Promise.{Result, bench_step, bench_fresh}
use Rattle.bench.specs.declared.Action.{Action}
use Rattle.bench.specs.declared.Bench.{Bench}
use Rattle.boundary.specs.Console.{console_bytes, no_console, console_at}
use Rattle.boundary.specs.Controller.{controller_bytes, no_controller, controller_at, delivered_to}
use Rattle.boundary.specs.State.{is_refusal, told, written}

-- 60 packets on their way to the controller; 61 to the console. A well-formed bench has at most 64 of each
abbrev pub counts : ℕ → ℕ → List ℕ
counts sent returned = sent % 256 ∷ returned % 256 ∷ []

-- 0-36 the console's state; 37-59 the controller's
unfoldable pub bench_bytes : Bench → List ℕ
bench_bytes b = console_bytes b.console ++ (controller_bytes b.controller ++ counts b.sent b.returned)

unfoldable pub parts_at : List ℕ → Bench
parts_at s =
    record {
      console = console_at (field s 0 37);
      controller = controller_at (field s 37 23);
      sent = get_or s 60 0;
      returned = get_or s 61 0;
    }

-- what bytes of another length stand for: two ends that are none
abbrev pub no_bench : Bench
no_bench = record { console = no_console; controller = no_controller; sent = 0; returned = 0 }

unfoldable pub bench_at : List ℕ → Bench
bench_at s = when eqb (length s) 62 then parts_at s else no_bench

-- ## Fresh, and a step

-- the number that is told, and what is lent afterwards
pub record BenchPut : Type 0 where
  pub told : ℕ
  pub state : List ℕ
  pub out : List ℕ
  pub back : List ℕ

-- what the bench comes to, with its fields in the state; a refusal leaves the state. A bench is no box: nothing is told beside its report
abbrev pub put : List ℕ → Result → BenchPut
put s r =
    record {
      told = told r.outcome.report false false;
      state = when is_refusal r.outcome.report then s else written 62 s (bench_bytes r.outcome.bench);
      out = r.out;
      back = r.back;
    }

-- a state or a table of another length is 2, and all three are left
unfoldable pub fresh_put : J → I → List ℕ → List ℕ → List ℕ → BenchPut
fresh_put j i s out back =
    when eqb (length s) 62 then put s (bench_fresh j i out back) else record { told = 2; state = s; out = out; back = back }

abbrev pub step_result : List ℕ → Action → List ℕ → List ℕ → Result
step_result s a out back = bench_step (bench_at s) a out back

-- a step's, with the 16 bytes lent for a delivery
pub record StepPut : Type 0 where
  pub told : ℕ
  pub state : List ℕ
  pub out : List ℕ
  pub back : List ℕ
  pub delivered : List ℕ

abbrev pub stepped : List ℕ → List ℕ → Result → StepPut
stepped s d r =
    let p = put s r in
    record {
      told = p.told;
      state = p.state;
      out = p.out;
      back = p.back;
      delivered = delivered_to r.outcome.report r.outcome.message d;
    }

abbrev pub step_put : List ℕ → Action → List ℕ → List ℕ → List ℕ → StepPut
step_put s a out back d = stepped s d (step_result s a out back)

-- ## Showing a packet

-- of the channel that leads to an end, 1 console, 2 controller; any other end has no places, and no channel has a place 64
unfoldable pub show_to : ℕ → ℕ → List ℕ → ℕ → List ℕ → ℕ → ℕ
show_to end place out sent back returned =
    when eqb end 1 then show_refusal Back place out sent back returned
    else when eqb end 2 then show_refusal Out place out sent back returned
    else show_refusal Back 64 out sent back returned

-- it looks only at lengths, counts and place: 2, then 3
unfoldable pub show_at : List ℕ → List ℕ → List ℕ → ℕ → ℕ → ℕ
show_at s out back end place = when eqb (length s) 62 then show_to end place out (get_or s 60 0) back (get_or s 61 0) else 2

-- where the 32 bytes begin in that channel's table
unfoldable pub offset_at : ℕ → ℕ → ℕ → ℕ
offset_at refusal place before = when eqb refusal 0 then place * 32 else before
