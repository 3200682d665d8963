-- Ways from 0 lead exactly to the numbers of the places that are reached.
use Rattle.std.proofs.Common.{◌≡◌, ℕ, ◌⊎◌, inl, inr, refl, sym, ◌∙◌, subst}
use Rattle.std.specs.Prelude.{◌↔◌, Contains}
use Rattle.reset_search.specs.declared.spot.Spot.{Spot}
use Rattle.reset_search.specs.declared.spot.Spot.TheVariants.{Cast}
use Rattle.reset_search.specs.declared.spot.Feeds.{Feeds}
use Rattle.reset_search.specs.Feeds.{feed, IsReached, begins, onward}
use Rattle.reset_search.specs.Searched.{Graph, Leads, stays, goes, StandsFor, a_leaf, a_feed, IsNumbered}

pub leads_to : (all : Feeds) (number : Spot → ℕ) (graph : Graph) → IsNumbered all number graph → (p : Spot) → IsReached all p → Leads graph 0 (number p)
leads_to all number graph n p (begins c) = goes stays (n.leaves p c)
leads_to all number graph n p (onward {p = from} r c) = goes (leads_to all number graph n from r) (n.feeds from p c)

-- what a way leads to
pub data Found (all : Feeds) (number : Spot → ℕ) (k : ℕ) : Type 0 where
  found : (p : Spot) → IsReached all p → number p ≡ k → Found all number k

reached_at : (all : Feeds) (number : Spot → ℕ) (graph : Graph) → IsNumbered all number graph → (p : Spot) (m : ℕ) → number p ≡ m → Found all number m → IsReached all p
reached_at all number graph n p m e (found q r f) = subst (IsReached all) (n.once q p (f ∙ sym e)) r

by_edge : (all : Feeds) (number : Spot → ℕ) (graph : Graph) → IsNumbered all number graph → (m k : ℕ) → Found all number m → StandsFor all number m k → Found all number k
by_edge all number graph n m k f (a_leaf p c z e) = found p (begins c) e
by_edge all number graph n m k f (a_feed p q c e g) = found q (onward (reached_at all number graph n p m e f) c) g

finds : (all : Feeds) (number : Spot → ℕ) (graph : Graph) → IsNumbered all number graph → (k : ℕ) → Leads graph 0 k → Found all number k
finds all number graph n k stays = found Cast (begins n.counts) n.cast
finds all number graph n k (goes {middle = m} way edge) = by_edge all number graph n m k (finds all number graph n m way) (n.only m k edge)

pub ways_reach : (all : Feeds) (number : Spot → ℕ) (graph : Graph) → IsNumbered all number graph → (p : Spot) → Leads graph 0 (number p) ↔ IsReached all p
ways_reach all number graph n p = (λ way. reached_at all number graph n p (number p) refl (finds all number graph n (number p) way), leads_to all number graph n p)
