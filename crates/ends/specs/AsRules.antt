-- What the code's packets and reports mean in the rules. The rules are taken at messages of one value, `Beside`: the code keeps the message
-- beside its mode or head. Assumes nothing.
use Rattle.std.specs.Prelude.{ℕ, Bool, true, false, List, [], ◌∷◌, eqb, Option, None, Some}
use Rattle.std.proofs.Math.Option as maybe
use Rattle.ground.specs.Cell.{spaces}
use Rattle.ground.specs.Choice.{when◌then◌else◌}
use Rattle.ground.specs.First.{first}
use Rattle.ground.specs.Options.{option_means}
use Rattle.ground.specs.Refusals.{refusal_of, number_of}
use Rattle.ground.specs.declared.refusals.Refusal.{Refusal}
use Rattle.ground.specs.declared.refusals.Refusal.TheVariants.{IsUp}
use Rattle.rules.specs.Ends as rules
use Rattle.numbers.specs.declared.Move.TheVariants.{Stay, Back}
use Rattle.ends.specs.declared.ToController.{ToController}
use Rattle.ends.specs.declared.ToController.TheVariants as up
use Rattle.ends.specs.declared.ToConsole.{ToConsole}
use Rattle.ends.specs.declared.ToConsole.TheVariants as down
use Rattle.ends.specs.declared.decided.Decided.{Decided}
use Rattle.ends.specs.declared.Report.{Report}
use Rattle.ends.specs.declared.Report.TheVariants as report

abbrev pub Beside : Type 0
Beside = Unit {0}

-- the message beside was tested before, with this result
unfoldable pub tested : Bool → Beside → Bool
tested good m = good

-- ## Packets, from the code to the rules and back

abbrev pub to_controller : ToController → rules.ToController Beside
to_controller (up.NeedI j) = rules.need_i j.0
to_controller (up.Data i) = rules.order i.0 tt
to_controller (up.Done i) = rules.done i.0

abbrev pub to_console : ToConsole → rules.ToConsole
to_console (down.Offer j i) = rules.offer j.0 i.0
to_console (down.Ok i) = rules.ok i.0
to_console (down.Lost i) = rules.lost i.0

abbrev pub for_controller : Option ToController → maybe.Option (rules.ToController Beside)
for_controller None = maybe.none
for_controller (Some p) = maybe.some (to_controller p)

abbrev pub for_console : Option ToConsole → maybe.Option rules.ToConsole
for_console None = maybe.none
for_console (Some p) = maybe.some (to_console p)

abbrev pub to_controller_back : rules.ToController Beside → ToController
to_controller_back (rules.need_i j) = up.NeedI (record { 0 = j })
to_controller_back (rules.order i m) = up.Data (record { 0 = i })
to_controller_back (rules.done i) = up.Done (record { 0 = i })

abbrev pub to_console_back : rules.ToConsole → ToConsole
to_console_back (rules.offer j i) = down.Offer (record { 0 = j }) (record { 0 = i })
to_console_back (rules.ok i) = down.Ok (record { 0 = i })
to_console_back (rules.lost i) = down.Lost (record { 0 = i })

abbrev pub for_controller_back : maybe.Option (rules.ToController Beside) → Option ToController
for_controller_back maybe.none = None
for_controller_back (maybe.some p) = Some (to_controller_back p)

abbrev pub for_console_back : maybe.Option rules.ToConsole → Option ToConsole
for_console_back maybe.none = None
for_console_back (maybe.some p) = Some (to_console_back p)

-- document 01's values of a report
abbrev pub report_back : {M : Type 0} → rules.Report M → Report
report_back rules.nothing = report.Nothing
report_back (rules.delivered m) = report.Delivered
report_back rules.answered_ok = report.Ok
report_back rules.answered_lost = report.Lost
report_back (rules.refused n) = report.Refused (refusal_of n)

-- and back, where the message stands beside
abbrev pub report_means : Report → rules.Report Beside
report_means report.Nothing = rules.nothing
report_means report.Delivered = rules.delivered tt
report_means report.Ok = rules.answered_ok
report_means report.Lost = rules.answered_lost
report_means (report.Refused r) = rules.refused (number_of r)

-- the number of a refusal, 0 with any other report
abbrev pub number_in : Report → ℕ
number_in report.Nothing = 0
number_in report.Delivered = 0
number_in report.Ok = 0
number_in report.Lost = 0
number_in (report.Refused r) = number_of r

abbrev pub refusal_told : Report → Option Refusal
refusal_told report.Nothing = None
refusal_told report.Delivered = None
refusal_told report.Ok = None
refusal_told report.Lost = None
refusal_told (report.Refused r) = Some r

-- an end that is not well formed is 2
abbrev pub end_refusal : Bool → ℕ
end_refusal true = 0
end_refusal false = 2

-- the 16 cells that are shown: those of the delivered message, else spaces
abbrev pub delivered : rules.Report (List ℕ) → List ℕ
delivered rules.nothing = spaces
delivered (rules.delivered m) = m
delivered rules.answered_ok = spaces
delivered rules.answered_lost = spaces
delivered (rules.refused n) = spaces

-- the same of a report that the message stands beside
abbrev pub delivered_beside : Report → List ℕ → List ℕ
delivered_beside report.Nothing m = spaces
delivered_beside report.Delivered m = m
delivered_beside report.Ok m = spaces
delivered_beside report.Lost m = spaces
delivered_beside (report.Refused r) m = spaces

-- ## What an end decides, over its modes and the packets that it sends

-- Q, D, O and K, which would send this
unfoldable pub sends : {Mode Packet : Type 0} → Mode → Bool → Option Packet → Decided Mode Packet
sends now up sent =
    let n = first (rules.down_4 up ∷ rules.mode_6 (option_means sent) ∷ []) in
    when eqb n 0 then record { report = report.Nothing; sent = sent; numbers = Stay; mode = now; up = up }
    else record { report = report.Refused (refusal_of n); sent = None; numbers = Stay; mode = now; up = up }

-- V and Y, to the mode `idle`
abbrev pub comes_back : {Mode Packet : Type 0} → Mode → Mode → Bool → Decided Mode Packet
comes_back idle now true = record { report = report.Refused IsUp; sent = None; numbers = Stay; mode = now; up = true }
comes_back idle now false = record { report = report.Nothing; sent = None; numbers = Back; mode = idle; up = true }
