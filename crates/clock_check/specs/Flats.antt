-- Sets of leaves of the run, as the search keeps them.
use Rattle.std.specs.Prelude.{ℕ, ◌&&◌, Bool, true, false, List, [], ◌∷◌, ◌==◌, map}
use Rattle.std.specs.List.{list_any}
use Rattle.fir_meaning.specs.Components.{FlatLeaf}
use Rattle.fir_meaning.specs.Drives.{same_way}
use Rattle.drive_check.specs.Keys.{step_of}
use Rattle.clock_check.specs.declared.flat_set.FlatKey.{FlatKey}

-- the leaf that is meant
abbrev pub leaf_of_flat : FlatKey → FlatLeaf
leaf_of_flat key = record { path = key.path.items; component = key.component; way = map step_of key.way.items }

abbrev pub same_path : List ℕ → List ℕ → Bool
same_path [] [] = true
same_path (a ∷ path) (b ∷ other) = (a == b) && same_path path other
same_path _ _ = false

abbrev pub same_flat : FlatLeaf → FlatLeaf → Bool
same_flat a b = same_path a.path b.path && ((a.component == b.component) && same_way a.way b.way)

-- the leaf is one of these
abbrev pub is_within : List FlatKey → FlatLeaf → Bool
is_within keys x = list_any (λ key. same_flat (leaf_of_flat key) x) keys
