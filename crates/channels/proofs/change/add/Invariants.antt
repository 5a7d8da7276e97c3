-- `channels::add` meets its contract. The invariant: the table is the one after so many copies.
use Prim.Native.Nat.{◌≤◌, ◌-◌}
use mathlib.Core.Path.{◌≡◌}
use lib.ListN.{length}
use Rattle.channels.proofs.Adding.{after}
use Rattle.channels.proofs.change.add.Given as goal

abbrev pub invariant-loop-copy : goal.invariant-loop-copy
invariant-loop-copy l = (l.count ≤ 64) × (l.copies ≤ 64 - l.count) × (length l.initial.table ≡ 2048) × (length l.table ≡ length l.initial.table) × (l.table ≡ after l.initial.table l.count l.p l.copy)
