-- All sources of a net.
use Rattle.std.specs.Prelude.{◌≡◌, ℕ, ◌<◌, length, IsSome}
use Rattle.ground_net.specs.declared.net.Net.{Net}
use Rattle.ground_net.specs.Reads.{IsAssigned}
use Rattle.ground_net.specs.Cycles.{element_leaf}
use Rattle.code_draft.specs.declared.sources.Sources.{Sources}
use Rattle.code_emit.specs.Emits.{leaf_source, element_source}
use Rattle.partition_code.specs.FromNets.{AreOf}

-- The sources are those of the net; there is one of each leaf that is no assignment, and of each leaf of a memory's elements.
pub record AreAllOf (net : Net) (S : Sources) : Type 0 where
  pub of : AreOf net S
  pub counted : length S.leaves ≡ length net.leaves
  pub leaves : (x : ℕ) → x < length net.leaves → (IsAssigned net.leaves x → ⊥) → IsSome (leaf_source S x)
  pub elements : (m k : ℕ) → IsSome (element_leaf net m k) → IsSome (element_source S m k)
