-- A choice by a test. Assumes nothing.
use Rattle.std.specs.Prelude.{Bool, true, false}

unfoldable pub chosen : {A : Type 0} → Bool → A → A → A
chosen true a b = a
chosen false a b = b

infix 20 when◌then◌else◌
abbrev pub when◌then◌else◌ : {A : Type 0} → Bool → A → A → A
when test then a else b = chosen test a b
