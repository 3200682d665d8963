-- The leaves of a net by their names.
use Rattle.std.specs.Prelude.{◌≡◌, ◌≢◌, ℕ, ◌<◌, List, slice_get, Some}
use Rattle.ground_net.specs.declared.net.Leaf.{Leaf}
use Rattle.ground_net.specs.declared.net.Net.{Net}
use Rattle.ground_net.specs.declared.net.Role.TheVariants as role

-- The leaf of this number has this name, and it has a value: it is no Clock.
pub record IsNamed (net : Net) (name : List ℕ) (x : ℕ) : Type 0 where
  pub leaf : Leaf
  pub there : slice_get net.leaves x ≡ Some leaf
  pub named : leaf.name ≡ name
  pub valued : leaf.role ≢ role.Clock

-- It is the first one in flat order.
pub record IsFirstNamed (net : Net) (name : List ℕ) (x : ℕ) : Type 0 where
  pub is : IsNamed net name x
  pub first : (y : ℕ) → y < x → IsNamed net name y → ⊥
