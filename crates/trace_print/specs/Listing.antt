-- The listing of a circuit's widths: `MODULE LEAF KIND WIDTH` for each leaf with a width of what is listed, in text order. A leaf is
-- written as in an expression, such as `io.v[2].x`.
use Rattle.std.specs.Prelude.{ℕ, Bool, true, false, List, [], ◌++◌, flat_map, zip, Option, Some, None, codes, decimal}
use Rattle.fir_types.specs.declared.fir_type.FirType.{FirType}
use Rattle.fir_types.specs.declared.fir_type.Shape.{Shape}
use Rattle.fir_types.specs.declared.fir_type.Shape.TheVariants as shape
use Rattle.fir_types.specs.declared.leaf.TypeLeaf.{TypeLeaf}
use Rattle.fir_types.specs.Leaves.{leaves}
use Rattle.fir_tree.specs.declared.scope.Fitted.{Fitted}
use Rattle.fir_tree.specs.LeafNames.{Texts, text_of, way_text}
use Rattle.trace_print.specs.declared.component.Component.{Component}
use Rattle.trace_print.specs.Components.{components_of}

-- the line of a leaf of a kind, where it has a width
abbrev pub width_line : List ℕ → List ℕ → Option ℕ → List ℕ
width_line front kind (Some width) = front ++ codes " " ++ kind ++ codes " " ++ decimal width ++ codes "\n"
width_line front kind None = []

-- A Reset and an AsyncReset are one bit, and a Clock has no line.
abbrev pub shape_line : List ℕ → Shape → List ℕ
shape_line front (shape.Unsigned width) = width_line front (codes "UInt") width
shape_line front (shape.Signed width) = width_line front (codes "SInt") width
shape_line front shape.Reset = width_line front (codes "UInt") (Some 1)
shape_line front shape.AsyncReset = width_line front (codes "UInt") (Some 1)
shape_line front _ = []

-- the line of a leaf, behind the module and the name of the component
abbrev pub leaf_line : Texts → List ℕ → TypeLeaf → List ℕ
leaf_line texts front leaf = shape_line (front ++ way_text texts leaf.path) leaf.typ.shape

abbrev pub lines_where : Bool → List ℕ → List ℕ
lines_where true lines = lines
lines_where false lines = []

-- the lines of a declaration and its type
abbrev pub component_lines : Texts → Component × FirType → List ℕ
component_lines texts (component, typ) =
    lines_where component.listed (flat_map (leaf_line texts (text_of texts component.holder ++ codes " " ++ text_of texts component.name)) (leaves typ))

-- the declarations of a circuit with their fitted types
abbrev pub typed_components : Fitted → List (Component × FirType)
typed_components fitted = zip (components_of fitted.checked.resolved.modules fitted.checked.scope.reached) fitted.declared

-- the whole listing
abbrev pub listing_of : Fitted → List ℕ
listing_of fitted = flat_map (component_lines fitted.checked.resolved.names) (typed_components fitted)
