-- The order of faults.
use Rattle.std.specs.Prelude.{◌≡◌, ℕ, ◌<◌, ◌≤◌, ⊤, Option, Some, None}
use Rattle.place_text.specs.declared.place.Place.{Place}

-- of two places with ranks the one comes before the other: by line, then by column, and at one place by rank; or both are the same
pub data IsNotLater (place : Place) (rank : ℕ) (there' : Place) (other : ℕ) : Type 0 where
  by_line : place.line < there'.line → IsNotLater place rank there' other
  by_column : place.line ≡ there'.line → place.column < there'.column → IsNotLater place rank there' other
  by_rank : place.line ≡ there'.line → place.column ≡ there'.column → rank ≤ other → IsNotLater place rank there' other

-- want of memory, which stands nowhere, comes before all that stands somewhere
abbrev pub ComesFirst : Option Place → ℕ → Option Place → ℕ → Type 0
ComesFirst None rank None other = rank ≤ other
ComesFirst None rank (Some there') other = ⊤
ComesFirst (Some place) rank None other = ⊥
ComesFirst (Some place) rank (Some there') other = IsNotLater place rank there' other

-- a fault comes before another one, or both are the same, where faults have these places and ranks
abbrev pub Precedes : {F : Type 0} → (F → Option Place) → (F → ℕ) → F → F → Type 0
Precedes place rank fault other = ComesFirst (place fault) (rank fault) (place other) (rank other)
