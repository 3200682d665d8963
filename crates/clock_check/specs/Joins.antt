-- A link of a module at a path, as one of the run.
use Rattle.std.specs.Prelude.{ℕ, ◌&&◌, Bool, List, nat_eq}
use Rattle.std.specs.Map.{lookup}
use Rattle.fir_meaning.specs.Components.{Leaf, FlatLeaf, flat_through}
use Rattle.drive_check.specs.Keys.{leaf_of_key}
use Rattle.clock_check.specs.declared.walk.Link.{Link}
use Rattle.clock_check.specs.Flats.{same_flat}

-- the leaf of the run, where these are the module's instances
abbrev pub flat_by : List (ℕ × ℕ) → List ℕ → Leaf → FlatLeaf
flat_by targets path leaf = flat_through path leaf.component (lookup (nat_eq leaf.component) targets) leaf.way

-- by this link the first leaf has its value from the second one
abbrev pub joins : List (ℕ × ℕ) → List ℕ → FlatLeaf → FlatLeaf → Link → Bool
joins targets path x y link = same_flat (flat_by targets path (leaf_of_key link.source)) y && same_flat (flat_by targets path (leaf_of_key link.sink)) x
