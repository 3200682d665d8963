-- The search along feeds: places by numbers, where an edge leads from the number of what feeds to that of what is fed, and from 0, the number
-- of `asAsyncReset`, to those of the AsyncReset leaves. Ways from 0 are found by one marking search.
use Rattle.std.specs.Prelude.{◌≡◌, Contains, ℕ, List, slice_get, Some}
use Rattle.reset_search.specs.declared.spot.Spot.{Spot}
use Rattle.reset_search.specs.declared.spot.Spot.TheVariants.{Cast}
use Rattle.reset_search.specs.declared.spot.Feeds.{Feeds}
use Rattle.reset_search.specs.Feeds.{feed}

-- for each node those that edges lead to
abbrev pub Graph : Type 0
Graph = List (List ℕ)

-- an edge
pub record Edge (graph : Graph) (from to : ℕ) : Type 0 where
  pub out : List ℕ
  pub here : slice_get graph from ≡ Some out
  pub stands : Contains out to

-- a way from a node along edges
pub data Leads (graph : Graph) (from : ℕ) : ℕ → Type 0 where
  stays : Leads graph from from
  goes : {middle to : ℕ} → Leads graph from middle → Edge graph middle to → Leads graph from to

-- an edge stands for a feed, or leads to an AsyncReset leaf
pub data StandsFor (all : Feeds) (number : Spot → ℕ) (m k : ℕ) : Type 0 where
  a_leaf : (p : Spot) → Contains all.asyncs p → m ≡ 0 → number p ≡ k → StandsFor all number m k
  a_feed : (p q : Spot) → Contains all.feeds (feed p q) → number p ≡ m → number q ≡ k → StandsFor all number m k

pub record IsNumbered (all : Feeds) (number : Spot → ℕ) (graph : Graph) : Type 0 where
  pub cast : number Cast ≡ 0
  pub counts : Contains all.asyncs Cast
  pub once : (p q : Spot) → number p ≡ number q → p ≡ q
  pub leaves : (p : Spot) → Contains all.asyncs p → Edge graph 0 (number p)
  pub feeds : (p q : Spot) → Contains all.feeds (feed p q) → Edge graph (number p) (number q)
  pub only : (m k : ℕ) → Edge graph m k → StandsFor all number m k
