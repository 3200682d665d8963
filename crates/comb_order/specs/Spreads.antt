-- What leaves read, told by way of vertices: numbers from that of the leaves on, of which each stands for several assignments at once.
use Rattle.std.specs.Prelude.{◌≡◌, ℕ, ◌<◌, ◌≤◌, nat_lt, Bool, true, false, List, [], ◌∷◌, flat_map, filter, length, slice_get, get_or, Contains, Option, Some, None, if◌then◌else◌}
use Rattle.ground_net.specs.declared.net.Net.{Net}
use Rattle.ground_net.specs.declared.net.Leaf.{Leaf}
use Rattle.ground_net.specs.declared.net.Role.{Role}
use Rattle.ground_net.specs.declared.net.Role.TheVariants as role
use Rattle.ground_net.specs.Reads.{direct_reads}

-- whether the leaf of a number is an assignment
abbrev pub is_assigned_role : Role → Bool
is_assigned_role role.Assigned = true
is_assigned_role _ = false

abbrev pub is_assigned_leaf : Option Leaf → Bool
is_assigned_leaf (Some leaf) = is_assigned_role leaf.role
is_assigned_leaf None = false

abbrev pub is_assignment : List Leaf → ℕ → Bool
is_assignment leaves x = is_assigned_leaf (slice_get leaves x)

-- the assignments among these leaves
abbrev pub assignments_among : List Leaf → List ℕ → List ℕ
assignments_among leaves = filter (is_assignment leaves)

-- the row of a number
abbrev pub row_at : List (List ℕ) → ℕ → List ℕ
row_at rows x = get_or rows x []

-- What a row tells: each number below n itself, and in the place of another one the numbers of its row.
abbrev pub told : ℕ → List (List ℕ) → List ℕ → List ℕ
told n rows = flat_map (λ y. if nat_lt y n then y ∷ [] else row_at rows y)

-- The row of each leaf tells the assignments that the leaf reads, and those of the vertices behind have leaves.
pub record IsSpread (net : Net) (rows : List (List ℕ)) : Type 0 where
  pub count : length net.leaves ≤ length rows
  pub reads : (x : ℕ) → x < length net.leaves → told (length net.leaves) rows (row_at rows x) ≡ assignments_among net.leaves (direct_reads net x)
  pub inside : (x y : ℕ) → Contains (row_at rows x) y → y < length rows
  pub leaves : (r y : ℕ) → length net.leaves ≤ r → Contains (row_at rows r) y → y < length net.leaves
