-- Code of assignments, one after the other: each leaf is then found in the frame.
use Rattle.std.specs.Prelude.{◌≡◌, ℕ, ◌==◌, List, [], ◌∷◌, slice_get, Option, Some, option_and_then, if◌then◌else◌, Contains}
use Rattle.bit_words.specs.declared.value.Value.{Value}
use Rattle.ground_net.specs.declared.ground.Ground.{Ground}
use Rattle.ground_net.specs.Grounds.{Instant, value}
use Rattle.ground_net.specs.Shapes.{Shape, Table, shape}
use Rattle.code_draft.specs.declared.draft.Draft.{Draft}
use Rattle.code_draft.specs.Drafts.{IsDraft, Solved, Grows}
use Rattle.code_draft.specs.declared.sources.Sources.{Sources}
use Rattle.code_emit.specs.Emits.{sources_table, leaf_source, Sees, AreSources}

-- the driver of a leaf
abbrev pub driver_in : List (Option Ground) → ℕ → Option Ground
driver_in drivers x = option_and_then (λ d. d) (slice_get drivers x)

-- the kinds and widths with those of one leaf more
abbrev pub with_leaf : Table → ℕ → Shape → Table
with_leaf table x s = record { leaf = λ y. if y == x then Some s else table.leaf y; element = table.element }

-- with that of a leaf, where it has any
abbrev pub with_shape : Table → ℕ → Option Shape → Table
with_shape table x o = record { leaf = λ y. if y == x then o else table.leaf y; element = table.element }

-- The kinds and widths that are known behind assignments: each leaf has its driver's.
abbrev pub turned_table : Table → List (Option Ground) → List ℕ → Table
turned_table table drivers [] = table
turned_table table drivers (x ∷ xs) = turned_table (with_shape table x (option_and_then (λ g. shape g table) (driver_in drivers x))) drivers xs

-- Assignments stand in turn: each has a driver, which reads only what has a kind and a width, or stands before.
abbrev pub InTurn : Table → List (Option Ground) → List ℕ → Type 0
InTurn table drivers [] = Unit {0}
InTurn table drivers (x ∷ xs) = (g : Ground) × (driver_in drivers x ≡ Some g) × (s : Shape) × (shape g table ≡ Some s) × InTurn (with_leaf table x s) drivers xs

-- Each of these leaves has its driver's value.
abbrev pub AreAssigned : List (Option Ground) → List ℕ → Instant → Type 0
AreAssigned drivers xs instant = (x : ℕ) (g : Ground) → Contains xs x → driver_in drivers x ≡ Some g → instant.leaf x ≡ value g instant

-- The kinds and widths that are known once the leaf has its driver's.
abbrev pub Turned : List (Option Ground) → ℕ → Sources → Sources → Type 0
Turned drivers x S T = (g : Ground) (s : Shape) → driver_in drivers x ≡ Some g → shape g (sources_table S) ≡ Some s → sources_table T ≡ with_leaf (sources_table S) x s

-- Code that goes on from sources to more sources: an instant that shows what the old ones show, and in which these leaves have their
-- drivers' values, shows what the new ones show.
pub record Goes (drivers : List (Option Ground)) (xs : List ℕ) (S : Sources) (old : Draft) (T : Sources) (new : Draft) : Type 0 where
  pub grows : Grows old new
  pub are : AreSources T new
  pub sees : (words : List ℕ) (inputs : List Value) (F : List ℕ) (instant : Instant) → Solved new words inputs F → Sees S words inputs F instant → AreAssigned drivers xs instant → Sees T words inputs F instant

abbrev pub Assigns : List (Option Ground) → List ℕ → Sources → Draft → Sources → Draft → Type 0
Assigns drivers xs S old T new = IsDraft old → AreSources S old → Goes drivers xs S old T new

-- All that is no leaf of these is found where it was.
pub record StandElsewhere (xs : List ℕ) (S T : Sources) : Type 0 where
  pub leaves : (y : ℕ) → (Contains xs y → ⊥) → leaf_source T y ≡ leaf_source S y
  pub memories : T.memories ≡ S.memories
