-- What is sent by either end.
use mathlib.Core.Path.{◌≡◌, refl}
use mathlib.Core.Bool.{true}
use mathlib.Core.Option as maybe
use Rattle.ground.specs.Choice.{chosen}
use Rattle.ground.specs.First.{first}
use Rattle.wire.specs.Packet.{fits, write_refusal}
use Rattle.wire.specs.declared.Packet.{Packet}
use Rattle.rules.specs.Ends.{absent}

-- a packet as its line says can be written to 32 bytes
pub fitting : (p : Packet) → fits p ≡ true → write_refusal 32 p ≡ 0
unfolding write_refusal first chosen
fitting p f = rw f

-- whether anything is sent is seen before it is turned into a packet
pub absent_turned : {A B : Type 0} (f : A → B) (o : maybe.Option A) → absent (maybe.map f o) ≡ absent o
unfolding absent
absent_turned f maybe.none = refl
absent_turned f (maybe.some a) = refl
