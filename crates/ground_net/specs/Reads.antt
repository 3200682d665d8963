-- What the leaves of a net read within a cycle, combinational loops, and orders of the assignments (FIRRTL specification 3.0,
-- "Combinational Loops").
use Rattle.std.specs.Prelude.{◌≡◌, ◌≢◌, ℕ, ◌<◌, List, [], length, slice_get, slice_index, Option, Some, None, Contains}
use Rattle.place_text.specs.declared.place.Place.{Place}
use Rattle.ground_net.specs.declared.net.Net.{Net}
use Rattle.ground_net.specs.declared.net.Leaf.{Leaf}
use Rattle.ground_net.specs.declared.net.Role.{Role}
use Rattle.ground_net.specs.declared.net.Role.TheVariants as role
use Rattle.ground_net.specs.declared.ground.Ground.{Ground}
use Rattle.ground_net.specs.Grounds.{mentions}

-- The leaf of this number is an assignment: it has its driver's value in each cycle.
pub record IsAssigned (leaves : List Leaf) (x : ℕ) : Type 0 where
  pub leaf : Leaf
  pub there : slice_get leaves x ≡ Some leaf
  pub is : leaf.role ≡ role.Assigned

-- An assignment reads what its driver mentions. Inputs, Clock leaves, registers and captured reads read nothing.
abbrev pub read_by : Role → Option Ground → List ℕ
read_by role.Assigned (Some driver) = mentions driver
read_by _ _ = []

-- the driver of the leaf of this number
abbrev pub lone_driver : Option (Option Ground) → Option Ground
lone_driver (Some driver) = driver
lone_driver None = None

-- The driver of a leaf, where it has one.
abbrev pub driver_of : Net → ℕ → Option Ground
driver_of net x = lone_driver (slice_get net.drivers x)

-- what is read of a leaf and its driver
abbrev pub read_of : Option Leaf → Option (Option Ground) → List ℕ
read_of (Some leaf) driver = read_by leaf.role (lone_driver driver)
read_of None _ = []

-- What the leaf of this number reads directly.
abbrev pub direct_reads : Net → ℕ → List ℕ
direct_reads net x = read_of (slice_get net.leaves x) (slice_get net.drivers x)

abbrev pub Reads : Net → ℕ → ℕ → Type 0
Reads net a b = Contains (direct_reads net a) b

-- A leaf reads another one, directly or through others.
pub data Through (net : Net) : ℕ → ℕ → Type 0 where
  itself : {a b : ℕ} → Reads net a b → Through net a b
  others : {a b c : ℕ} → Reads net a b → Through net b c → Through net a c

-- A leaf is on a loop where it reads itself.
abbrev pub IsOnLoop : Net → ℕ → Type 0
IsOnLoop net x = Through net x x

-- No leaf reads itself.
pub record HasNoLoop (net : Net) : Type 0 where
  pub none : (x : ℕ) → IsOnLoop net x → ⊥

-- The place of the first leaf, in flat order, that is on a loop: the name of its component.
pub record IsFirstLoop (net : Net) (place : Place) : Type 0 where
  pub at : ℕ
  pub leaf : Leaf
  pub there : slice_get net.leaves at ≡ Some leaf
  pub here : IsOnLoop net at
  pub first : (y : ℕ) → y < at → IsOnLoop net y → ⊥
  pub is : leaf.place ≡ place

-- Each assignment once, after all assignments that it reads, and nothing else.
pub record IsOrder (net : Net) (s : List ℕ) : Type 0 where
  pub only : (k : ℕ) → k < length s → IsAssigned net.leaves (slice_index s k)
  pub once : (j k : ℕ) → j < k → k < length s → slice_index s j ≢ slice_index s k
  pub after : (k w : ℕ) → k < length s → Reads net (slice_index s k) w → IsAssigned net.leaves w → (j : ℕ) × (j < k) × (slice_index s j ≡ w)
  pub all : (x : ℕ) → IsAssigned net.leaves x → (k : ℕ) × (k < length s) × (slice_index s k ≡ x)

-- Drivers mention leaves of the net.
abbrev pub MentionsLeaves : Net → Type 0
MentionsLeaves net = (a b : ℕ) → Reads net a b → b < length net.leaves
