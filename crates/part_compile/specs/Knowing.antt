-- Which kinds and widths of a net are known.
use Rattle.std.specs.Prelude.{◌≡◌, ℕ}
use Rattle.ground_net.specs.declared.net.Net.{Net}
use Rattle.ground_net.specs.Reads.{IsAssigned}
use Rattle.ground_net.specs.Shapes.{Table}
use Rattle.ground_net.specs.Nets.{table_of}

-- Those of all elements are known, of all leaves that are no assignment, and of these assignments.
pub record Knows (net : Net) (these : ℕ → Type 0) (table : Table) : Type 0 where
  pub leaf : (x : ℕ) → (IsAssigned net.leaves x → these x) → table.leaf x ≡ (table_of net).leaf x
  pub element : (m k : ℕ) → table.element m k ≡ (table_of net).element m k
