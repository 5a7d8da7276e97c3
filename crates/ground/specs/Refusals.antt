-- The refusals by their numbers: document 01's table. Assumes nothing.
use Rattle.std.specs.Prelude.{ℕ, zero, suc, List, [], ◌∷◌, get_or, Result, Ok, Err}
use Rattle.ground.specs.declared.refusals.Refusal.{Refusal}
use Rattle.ground.specs.declared.refusals.Refusal.TheVariants as refusal

abbrev pub number_of : Refusal → ℕ
number_of refusal.NoAction = 1
number_of refusal.IllFormed = 2
number_of refusal.NoPlace = 3
number_of refusal.IsDown = 4
number_of refusal.IsUp = 5
number_of refusal.OtherMode = 6
number_of refusal.UnknownNumber = 7
number_of refusal.NumbersSpent = 8
number_of refusal.NoRoom = 9
number_of refusal.TooManyCopies = 10
number_of refusal.NoMessage = 11
number_of refusal.WrongLength = 12
number_of refusal.WrongMark = 13
number_of refusal.WrongVersion = 14
number_of refusal.WrongField = 15

-- all but the last, in the order of their numbers
abbrev pub refusals : List Refusal
refusals =
    refusal.NoAction
    ∷ refusal.IllFormed
    ∷ refusal.NoPlace
    ∷ refusal.IsDown
    ∷ refusal.IsUp
    ∷ refusal.OtherMode
    ∷ refusal.UnknownNumber
    ∷ refusal.NumbersSpent
    ∷ refusal.NoRoom
    ∷ refusal.TooManyCopies
    ∷ refusal.NoMessage
    ∷ refusal.WrongLength
    ∷ refusal.WrongMark
    ∷ refusal.WrongVersion
    ∷ []

-- the refusal with this number; a number that none has stands for the last
abbrev pub refusal_of : ℕ → Refusal
refusal_of zero = refusal.WrongField
refusal_of (suc n) = get_or refusals n refusal.WrongField

-- a value, unless this number refuses it: 0 refuses nothing
abbrev pub unless_refused : {A : Type 0} → ℕ → A → Result A Refusal
unless_refused zero a = Ok a
unless_refused (suc n) a = Err (refusal_of (suc n))

abbrev pub refused_by : ℕ → Result Unit Refusal
refused_by n = unless_refused n tt

-- the number of a refusal, 0 where there is none
abbrev pub refusal_in : {A : Type 0} → Result A Refusal → ℕ
refusal_in (Ok a) = 0
refusal_in (Err r) = number_of r
