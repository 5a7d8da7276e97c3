-- `channels::places_ok` meets its contract. The invariant: the places that are left decide as all of them do.
use Prim.Native.Nat.{◌-◌, ◌*◌}
use mathlib.Core.Path.{◌≡◌}
use lib.ListN.{drop}
use Rattle.channels.specs.Table.{places_ok}
use Rattle.channels.proofs.check.places_ok.Given as goal

abbrev pub invariant-loop-place : goal.invariant-loop-place
invariant-loop-place l = places_ok l.dir l.count l.table ≡ places_ok l.dir (l.count - l.place) (drop (l.place * 32) l.table)
