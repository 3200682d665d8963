-- The search along feeds: places by numbers, and for each number those that it feeds.
use Rattle.std.specs.Prelude.{◌≡◌, ℕ, ◌+◌, ◌*◌, nat_eq, Bool, true, List, [], ◌∷◌, ◌++◌, Option, Some, None, Contains}
use Rattle.std.specs.List.{list_any}
use Rattle.std.specs.Map.{lookup}
use Rattle.reset_search.specs.declared.spot.Spot.{Spot}
use Rattle.reset_search.specs.declared.spot.Spot.TheVariants.{Cast, Declared, OfNode}
use Rattle.reset_search.specs.declared.spot.Feed.{Feed}
use Rattle.reset_search.specs.Feeds.{feed}

-- no two places have one number
abbrev pub number : Spot → ℕ
number Cast = 0
number (Declared n) = 2 * n + 1
number (OfNode n) = 2 * n + 2

abbrev pub holds : List ℕ → ℕ → Bool
holds keys k = list_any (nat_eq k) keys

-- whether a place of the text is among these numbers
abbrev pub marked : List ℕ → ℕ → Bool
marked keys n = holds keys (number (Declared n))

abbrev pub listed_in : Option (List ℕ) → List ℕ
listed_in (Some all) = all
listed_in None = []

-- the numbers in the row of one
abbrev pub targets : List (ℕ × List ℕ) → ℕ → List ℕ
targets rows k = listed_in (lookup (nat_eq k) rows)

-- a feed from a place of the one number to one of the other
pub record FeedsAt (feeds : List Feed) (from to : ℕ) : Type 0 where
  pub source : Spot
  pub driven : Spot
  pub has : Contains feeds (feed source driven)
  pub from' : number source ≡ from
  pub to' : number driven ≡ to

-- the rows have these feeds
pub record AreRows (feeds : List Feed) (rows : List (ℕ × List ℕ)) : Type 0 where
  pub all : (p q : Spot) → Contains feeds (feed p q) → holds (targets rows (number p)) (number q) ≡ true
  pub only : (k t : ℕ) → holds (targets rows k) t ≡ true → FeedsAt feeds k t

-- a way along rows from the number of one of these places
pub data Way (rows : List (ℕ × List ℕ)) (starts : List Spot) : ℕ → Type 0 where
  starts_at : (p : Spot) → Contains starts p → Way rows starts (number p)
  goes_on : (k t : ℕ) → Way rows starts k → holds (targets rows k) t ≡ true → Way rows starts t

-- there are more behind
abbrev pub Grows : List ℕ → List ℕ → Type 0
Grows old new = (more : List ℕ) × (new ≡ old ++ more)
