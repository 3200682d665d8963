-- The bytes of the names of a type's leaves, and of the ways to them.
use Rattle.std.specs.Prelude.{ℕ, zero, suc, ◌+◌, sum, length, decimal, map, List}
use Rattle.fir_types.specs.declared.fir_type.FirType.{FirType}
use Rattle.fir_types.specs.declared.fir_type.Field.{Field}
use Rattle.fir_types.specs.declared.leaf.TypeLeaf.{TypeLeaf}
use Rattle.fir_types.specs.Leaves.{leaves, field_leaves}
use Rattle.fir_tree.specs.LeafNames.{Texts, way_text, leaf_text}

-- the bytes of the names of all leaves of a component
abbrev pub name_bytes : Texts → ℕ → FirType → ℕ
name_bytes texts id typ = sum (map (λ leaf. length (leaf_text texts id leaf.path)) (leaves typ))

abbrev pub way_length : Texts → TypeLeaf → ℕ
way_length texts leaf = length (way_text texts leaf.path)

abbrev pub ways : Texts → List TypeLeaf → ℕ
ways texts list = sum (map (way_length texts) list)

abbrev pub way_bytes : Texts → FirType → ℕ
way_bytes texts typ = ways texts (leaves typ)

abbrev pub field_bytes : Texts → Field → ℕ
field_bytes texts field = ways texts (field_leaves field)

-- the bytes of `[0]`, `[1]` and so on, below a number
unfoldable pub index_bytes : ℕ → ℕ
index_bytes zero = 0
index_bytes (suc n) = index_bytes n + (2 + length (decimal n))
