-- `channels::places_ok` meets its contract.
use native.Mathlib.Nat.{sub-zero}
use borrow.Author.Rules.{rules}
use Rattle.channels.proofs.Scans.{place_on, place_off, place_end}
use Rattle.channels.proofs.check.places_ok.Goals as goal

pub loop-place-init : goal.loop-place-init
loop-place-init c = rw sub-zero

pub returns-then-not-head_goes : goal.returns-then-not-head_goes
returns-then-not-head_goes c = search (place_off, rules)

pub loop-place-preserved : goal.loop-place-preserved
loop-place-preserved c = search (place_on, rules)

pub returns : goal.returns
returns c = search (place_end, rules)
