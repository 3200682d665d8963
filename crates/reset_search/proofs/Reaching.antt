-- A set that has the AsyncReset leaves, is closed under the feeds and has nothing else is that of the reached places: what the search shows.
use Rattle.std.proofs.Common.{◌≡◌, ℕ, Bool, true, List}
use Rattle.std.specs.Prelude.{◌↔◌, Contains}
use Rattle.reset_search.specs.declared.spot.Spot.{Spot}
use Rattle.reset_search.specs.declared.spot.Feeds.{Feeds}
use Rattle.reset_search.specs.Feeds.{feed, IsReached, begins, onward}

pub record IsClosed (all : Feeds) (within : Spot → Bool) : Type 0 where
  pub begins' : (p : Spot) → Contains all.asyncs p → within p ≡ true
  pub onward' : (p q : Spot) → within p ≡ true → Contains all.feeds (feed p q) → within q ≡ true
  pub only : (p : Spot) → within p ≡ true → IsReached all p

reached_within : (all : Feeds) (within : Spot → Bool) → IsClosed all within → (p : Spot) → IsReached all p → within p ≡ true
reached_within all within closed p (begins c) = closed.begins' p c
reached_within all within closed p (onward {p = from} r c) = closed.onward' from p (reached_within all within closed from r) c

pub reached_is : (all : Feeds) (within : Spot → Bool) → IsClosed all within → (p : Spot) → (within p ≡ true) ↔ IsReached all p
reached_is all within closed p = (closed.only p, reached_within all within closed p)
