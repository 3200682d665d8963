-- The leaves of a memory's elements (FIRRTL specification 3.0, "Memories").
use Rattle.std.specs.Prelude.{ℕ, ◌==◌, min, List, [], ◌∷◌, Option, Some, None, if◌then◌else◌}
use Rattle.bit_words.specs.declared.value.Kind.{Kind}
use Rattle.fir_types.specs.declared.leaf.TypeLeaf.{TypeLeaf}
use Rattle.fir_types.specs.declared.leaf.PathStep.{PathStep}
use Rattle.fir_types.specs.declared.leaf.PathStep.TheVariants as step
use Rattle.fir_tree.specs.LeafNames.{Texts, way_text}
use Rattle.fir_meaning.specs.Components.{kind_of_leaf, width_of_leaf}
use Rattle.ground_net.specs.declared.net.ElementLeaf.{ElementLeaf}

-- What is said of a leaf of an element.
pub record ElementRow : Type 0 where
  pub path : List ℕ
  pub kind : Kind
  pub width : ℕ

abbrev pub element_row : ElementLeaf → ElementRow
element_row leaf = record { path = leaf.path; kind = leaf.kind; width = leaf.width }

abbrev pub row_at : Texts → List PathStep → TypeLeaf → ElementRow
row_at texts way leaf = record { path = way_text texts way; kind = kind_of_leaf leaf; width = min (width_of_leaf leaf) 128 }

abbrev pub own_row : Texts → TypeLeaf → ElementRow
own_row texts leaf = row_at texts leaf.path leaf

-- the way behind this field of a port
abbrev pub way_behind : ℕ → List PathStep → Option (List PathStep)
way_behind field (port ∷ step.Field id ∷ way) = if id == field then Some way else None
way_behind field _ = None

abbrev pub row_before : Texts → TypeLeaf → Option (List PathStep) → List ElementRow → List ElementRow
row_before texts leaf (Some way) rows = row_at texts way leaf ∷ rows
row_before texts leaf None rows = []

-- The leaves of this field of a port, as far as they go.
abbrev pub rows_while : Texts → ℕ → List TypeLeaf → List ElementRow
rows_while texts field [] = []
rows_while texts field (leaf ∷ rest) = row_before texts leaf (way_behind field leaf.path) (rows_while texts field rest)
