-- What the ends share, at the console's modes and the packets that it sends. Assumes nothing.
use Rattle.ends.specs.declared.ToController.{ToController}
use Rattle.ends.specs.declared.decided.Decided as shared-decided
use Rattle.ends.specs.declared.turn.Acted as shared-acted
use Rattle.ends.specs.declared.turn.End as shared-end
use Rattle.ends.specs.declared.turn.Turn as shared-turn
use Rattle.ends_console.specs.declared.Mode.{Mode}

abbrev pub Turn : Type 0
Turn = shared-turn.Turn Mode ToController

abbrev pub End : Type 0
End = shared-end.End Mode

abbrev pub Acted : Type 0
Acted = shared-acted.Acted Mode ToController

abbrev pub Decided : Type 0
Decided = shared-decided.Decided Mode ToController
