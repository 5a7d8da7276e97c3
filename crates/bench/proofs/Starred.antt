-- The starred checks of the bench's own step: from the bench of each line on, it tells and leaves what the line says.
use Prim.Native.Nat.{ℕ, ◌≤◌}
use mathlib.Core.Path.{◌≡◌, refl, ap, ap₂, ◌∙◌}
use mathlib.Core.Bool.{true}
use mathlib.Core.List.{List, [], ◌∷◌, map}
use native.Mathlib.Omega.{arith}
use Rattle.ground.specs.Cell.{cells, is_message}
use Rattle.rules.specs.Supply.{numbering, largest, fresh_numbers}
use Rattle.rules.specs.Bench as rules
use Rattle.rules.specs.Ends.{ConsoleMode, ControllerMode, order}
use Rattle.rules.specs.Lists.{All}
use Rattle.rules.specs.Starred.{Check, a, played, starred}
use Rattle.rules.specs.WellFormed.{WellFormed}
use Rattle.rules.proofs.Supply.{fresh_sound}
use Rattle.rules.proofs.Starred.{starred_hold}
use Rattle.rules.proofs.WellFormed.{fresh_well_formed}
use Rattle.ends.specs.declared.Report.{Report}
use Rattle.bench.specs.AsRules.{bench_back}
use Rattle.bench.specs.Orders.{outcomes, leaves}
use Rattle.bench.specs.declared.Bench.{Bench}
use Rattle.bench.proofs.Orders.{out, back, coded, told, told_of, reports_are, leaves_are}

abbrev Seen : Type 0
Seen = List (Report × List ℕ) × (Bench × List ℕ × List ℕ)

-- what the step tells and leaves
abbrev pub seen : Check → Seen
seen c =
    let b = bench_back c.start in
    let l = map coded c.actions in
    (map told (outcomes b (out c.start) (back c.start) l), leaves b (out c.start) (back c.start) l)

-- what the line says
abbrev pub says : Check → Seen
says c = (map told_of c.said, (bench_back c.left, out c.left, back c.left))

abbrev Starts : Check → Type 0
Starts c = WellFormed numbering is_message c.start.history

one : (c : Check) → Starts c → seen c ≡ says (played c)
unfolding played
one c w = λ i. (reports_are c.start w c.actions i, leaves_are c.start w c.actions i)

each : (cs : List Check) → All Starts cs → map seen cs ≡ map says (map played cs)
each [] w = refl
each (c ∷ cs) w = ap₂ (λ (x : Seen) (l : List Seen). x ∷ l) (one c w.0) (each cs w.1)

ready : (j i : ℕ) → j ≤ largest → i ≤ largest → WellFormed numbering is_message (rules.fresh (fresh_numbers j) (fresh_numbers i))
ready j i p q = fresh_well_formed numbering is_message (fresh_numbers j) (fresh_numbers i) (fresh_sound j p) (fresh_sound i q)

-- last used I 3, more reserved, and data with I 5 on its way
stray : WellFormed numbering is_message (record { console = record { numbers = fresh_numbers 0; mode = ConsoleMode.idle; up = true }; controller = record { numbers = record { last = 3; reserved = 64; block = 64 }; mode = ControllerMode.idle; up = true }; to_controller = order 5 a ∷ []; to_console = [] })
unfolding is_message cells
stray =
    record {
      console = record { numbers = refl; mode = tt };
      controller = record { numbers = refl; mode = tt };
      to_controller_all = ((refl, refl), tt);
      to_controller_room = omega arith;
      to_console_all = tt;
      to_console_room = omega arith;
    }

-- every line starts from a well-formed bench
started : All Starts starred
unfolding starred
started =
    let new = ready 0 0 (omega arith) (omega arith) in (
      new,
      (
        ready 4_294_967_294 0 (omega arith) (omega arith),
        (
          ready 4_294_967_295 0 (omega arith) (omega arith),
          (
            ready 0 4_294_967_295 (omega arith) (omega arith),
            (new, (new, (new, (new, (new, (new, (new, (new, (new, (new, (new, (new, (new, (new, (stray, tt))))))))))))))),
          ),
        ),
      ),
    )

pub starred_of_the_step : map seen starred ≡ map says starred
starred_of_the_step = each starred started ∙ ap (map says) starred_hold
