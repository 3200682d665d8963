-- The first of the faults that something has.
use Rattle.std.specs.Prelude.{◌≡◌, ℕ, List, [], Option, Some, None, Contains}
use Rattle.place_text.specs.declared.place.Place.{Place}
use Rattle.place_text.specs.Order.{Precedes}

-- the fault that is told, of those that something has: no other one comes before it
pub record IsFirst {F : Type 0} (place : F → Option Place) (rank : F → ℕ) (has : F → Type 0) (fault : F) : Type 0 where
  pub is : has fault
  pub first : (other : F) → has other → Precedes place rank fault other

-- it has no fault
abbrev pub HasNone : {F : Type 0} → (F → Type 0) → Type 0
HasNone {F} has = (fault : F) → ¬ (has fault)

-- a list tells all faults that something has, and no others
pub record Tells {F : Type 0} (has : F → Type 0) (faults : List F) : Type 0 where
  pub told : (fault : F) → has fault → Contains faults fault
  pub had : (fault : F) → Contains faults fault → has fault

-- the first of a list, and none exactly where the list is empty
abbrev pub Best : {F : Type 0} → (F → Option Place) → (F → ℕ) → List F → Option F → Type 0
Best place rank faults (Some fault) = IsFirst place rank (Contains faults) fault
Best place rank faults None = faults ≡ []

-- the earlier of two faults, or the only one
pub data Earlier {F : Type 0} (place : F → Option Place) (rank : F → ℕ) : Option F → F → F → Type 0 where
  only : (fault : F) → Earlier place rank None fault fault
  stays : (best fault : F) → Precedes place rank best fault → Earlier place rank (Some best) fault best
  turns : (best fault : F) → Precedes place rank fault best → Earlier place rank (Some best) fault fault
