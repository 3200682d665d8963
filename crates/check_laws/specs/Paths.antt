-- Leaves with different paths.
use Rattle.std.specs.Prelude.{◌≡◌, ℕ, List, slice_get, Some}
use Rattle.fir_types.specs.declared.leaf.TypeLeaf.{TypeLeaf}

-- No two places of the list have leaves of one path.
abbrev pub HaveDifferentPaths : List TypeLeaf → Type 0
HaveDifferentPaths leaves = (j k : ℕ) (a b : TypeLeaf) → slice_get leaves j ≡ Some a → slice_get leaves k ≡ Some b → a.path ≡ b.path → j ≡ k
