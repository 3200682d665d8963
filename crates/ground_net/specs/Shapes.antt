-- Kinds and widths of ground expressions (FIRRTL specification 3.0, "Expressions" and "Primitive Operations").
use Rattle.std.specs.Prelude.{◌≡◌, ℕ, ◌==◌, ◌&&◌, nat_le, nat_lt, Bool, true, false, List, [], ◌∷◌, map, length, slice_index, Option, Some, None, option_and_then, if◌then◌else◌}
use Rattle.std.specs.List.{list_all}
use Rattle.bit_words.specs.declared.value.Kind.{Kind}
use Rattle.bit_words.specs.declared.value.Kind.TheVariants.{Unsigned, Signed}
use Rattle.bit_words.specs.declared.value.Value.{Value}
use Rattle.prim_ops.specs.declared.operation.PrimOp.{PrimOp}
use Rattle.prim_ops.specs.declared.operation.PrimOp.TheVariants as op
use Rattle.prim_ops.specs.Operations.{arity_of}
use Rattle.prim_ops.specs.Kinds.{row_kind}
use Rattle.prim_ops.specs.Widths.{width_number}
use Rattle.ground_net.specs.declared.ground.Ground.{Ground, fold-Ground}
use Rattle.ground_net.specs.declared.ground.Ground.TheOpen.{Ground-F}
use Rattle.ground_net.specs.Grounds.{Instant, element_count}
pub use Rattle.prim_ops.specs.Shapes.{Shape, shaped, shape_of_value, same_kind, same_shape, is_unsigned, all_of, fit_on, params_fit, is_row, width_of_row, shape_of_row}

-- The kinds and widths of the leaves, and of the leaves of the memories' elements; none where there is no such leaf.
pub record Table : Type 0 where
  pub leaf : ℕ → Option Shape
  pub element : ℕ → ℕ → Option Shape

-- An instant shows of each leaf a value of its kind and width, and so do the memories at each address.
pub record HasShapes (table : Table) (instant : Instant) : Type 0 where
  pub leaf : (x : ℕ) (s : Shape) → table.leaf x ≡ Some s → shape_of_value (instant.leaf x) ≡ s
  pub load : (m k : ℕ) (s : Shape) (address : Value) → table.element m k ≡ Some s → shape_of_value (instant.load m k address) ≡ s

-- Of conditions and values in turn and one item at the end each condition is a UInt, and all values have the last item's shape.
abbrev pub shape_of_choice : List Shape → Option Shape
shape_of_choice [] = None
shape_of_choice (last ∷ []) = Some last
shape_of_choice (condition ∷ value ∷ rest) = option_and_then (λ s. if is_unsigned condition && same_shape value s then Some s else None) (shape_of_choice rest)

-- All items have one shape; of no items it is that of 0 of no bits.
abbrev pub shape_of_items : List Shape → Option Shape
shape_of_items [] = Some (shaped Unsigned 0)
shape_of_items (s ∷ more) = if list_all (λ t. same_shape t s) more then Some s else None

-- one UInt
abbrev pub is_index : List Shape → Bool
is_index (s ∷ []) = is_unsigned s
is_index _ = false

abbrev pub shape_of_selection : List Shape → List Shape → Option Shape
shape_of_selection index items = if is_index index then shape_of_items items else None

-- as many indices as lengths, each of them a UInt
abbrev pub are_index_shapes : List Shape → List ℕ → Bool
are_index_shapes [] [] = true
are_index_shapes (s ∷ ss) (n ∷ ns) = is_unsigned s && are_index_shapes ss ns
are_index_shapes _ _ = false

-- Such indices, and as many leaves as elements.
abbrev pub shape_of_indexed : List Shape → List ℕ → List Shape → Option Shape
shape_of_indexed indices lengths items = if are_index_shapes indices lengths && (length items == element_count lengths) then shape_of_items items else None

-- an address and a condition, which are UInts
abbrev pub shape_of_load : Option Shape → List Shape → Option Shape
shape_of_load element (address ∷ condition ∷ []) = if is_unsigned address && is_unsigned condition then element else None
shape_of_load element _ = None

abbrev pub shape_of_fit : Kind → ℕ → List Shape → Option Shape
shape_of_fit kind width (s ∷ []) = if nat_le width 128 then Some (shaped kind width) else None
shape_of_fit kind width _ = None

abbrev pub shape_of_layer : Ground-F (Table → Option Shape) → Table → Option Shape
shape_of_layer (Ground-F.Const v) table = Some (shape_of_value v)
shape_of_layer (Ground-F.Leaf x) table = table.leaf x
shape_of_layer (Ground-F.Op prim operands params) table = option_and_then (shape_of_row prim params) (all_of (map (λ g. g table) operands))
shape_of_layer (Ground-F.Mux items) table = option_and_then shape_of_choice (all_of (map (λ g. g table) items))
shape_of_layer (Ground-F.Select index items) table =
    option_and_then (λ i. option_and_then (shape_of_selection i) (all_of (map (λ g. g table) items))) (all_of (map (λ g. g table) index))
shape_of_layer (Ground-F.Indexed numbers indices lengths) table =
    option_and_then (λ i. option_and_then (shape_of_indexed i lengths) (all_of (map table.leaf numbers))) (all_of (map (λ g. g table) indices))
shape_of_layer (Ground-F.Load memory leaf items) table = option_and_then (shape_of_load (table.element memory leaf)) (all_of (map (λ g. g table) items))
shape_of_layer (Ground-F.Fit kind width items) table = option_and_then (shape_of_fit kind width) (all_of (map (λ g. g table) items))

-- The kind and the width of an expression, where it is well formed: its numbers are those of leaves, and each part has the parts
-- that it takes.
abbrev pub shape : Ground → Table → Option Shape
shape = fold-Ground (Table → Option Shape) shape_of_layer
