-- The search for the parts of a graph.
use Rattle.std.specs.Prelude.{◌≡◌, ℕ, ◌<◌, length, All}
use Rattle.comb_order.specs.declared.parts.Parts.{Parts}

-- the tables have a place for each vertex, and what is on the path or waits are vertices
pub record IsWithin (count : ℕ) (parts : Parts) : Type 0 where
  pub lows : length parts.lows.items ≡ count
  pub ranks : length parts.ranks.items ≡ count
  pub path : All (λ step. step.vertex < count) parts.path.items
  pub waiting : All (λ v. v < count) parts.waiting.items
