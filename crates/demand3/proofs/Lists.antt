-- Lists: what is in a list that was mapped, and rows written after a change of each.
use mathlib.Core.Path.{◌≡◌, refl, sym, ap, subst, ◌∙◌}
use mathlib.Core.Logic.{inl, inr}
use mathlib.Core.Option
use mathlib.Core.Option.{Option, none, some}
use mathlib.Core.List.{List, [], ◌∷◌, map}
use Rattle.rules.specs.Lists.{All, In}
use Rattle.rules.specs.Log.{Event, Log}
use Rattle.rules.specs.Demand3.{write, written}

module _ {A B : Type 0} (f : A → B) where
  pub in_map : (y : B) (l : List A) → In y (map f l) → (x : A) × (In x l × (y ≡ f x))
  in_map y [] h = absurd h
  in_map y (x ∷ l) (inl e) = (x, (inl refl, e))
  in_map y (x ∷ l) (inr h) = let r = in_map y l h in (r.0, (inr r.1.0, r.1.1))

pub all_in : {A : Type 0} (P : A → Type 0) (x : A) (l : List A) → All P l → In x l → P x
all_in P x [] h i = absurd i
all_in P x (y ∷ l) h (inl e) = subst P (sym e) h.0
all_in P x (y ∷ l) h (inr i) = all_in P x l h.1 i

module _ {M : Type 0} (f : Event M → Event M) where
  map_write : (o : Option (Event M)) (past : Log M) → write (Option.map f o) (map f past) ≡ map f (write o past)
  map_write none past = refl
  map_write (some e) past = refl

  pub map_written : (rows : List (Option (Event M))) (past : Log M) → written (map (Option.map f) rows) (map f past) ≡ map f (written rows past)
  unfolding written
  map_written [] past = refl
  map_written (o ∷ rows) past = ap (written (map (Option.map f) rows)) (map_write o past) ∙ map_written rows (write o past)
