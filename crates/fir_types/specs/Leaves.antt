-- The leaves of a type (FIRRTL specification 3.0, "Types"): its parts that are no bundles and no vectors, in order.
use Rattle.std.specs.Prelude.{ℕ, zero, suc, ◌*◌, Bool, true, false, not, if◌then◌else◌, List, [], ◌∷◌, ◌++◌, map, sum, flat_map}
use Rattle.std.specs.List.{list_any}
use Rattle.place_text.specs.declared.place.Place.{Place}
use Rattle.fir_types.specs.declared.fir_type.FirType.{FirType, fold-FirType}
use Rattle.fir_types.specs.declared.fir_type.Shape.{Shape, fold-Shape}
use Rattle.fir_types.specs.declared.fir_type.Shape.TheOpen.{Shape-F, Field-F, FirType-F}
use Rattle.fir_types.specs.declared.fir_type.Shape.TheViews.{out-Shape}
use Rattle.fir_types.specs.declared.fir_type.Shape.TheVariants as shape
use Rattle.fir_types.specs.declared.fir_type.Field.{Field, fold-Field}
use Rattle.fir_types.specs.declared.leaf.TypeLeaf.{TypeLeaf}
use Rattle.fir_types.specs.declared.leaf.PathStep.{PathStep}
use Rattle.fir_types.specs.declared.leaf.PathStep.TheVariants as step

-- A leaf of a part, as a leaf of the whole that the path leads from. A flip turns round what was turned round.
abbrev pub under : List PathStep → Bool → TypeLeaf → TypeLeaf
under path flip leaf = record { path = path ++ leaf.path; flip = if flip then not leaf.flip else leaf.flip; typ = leaf.typ }

-- the leaves of the elements below a length, from 0, where an element has these
abbrev pub elements : List TypeLeaf → ℕ → List TypeLeaf
elements leaves zero = []
elements leaves (suc n) = elements leaves n ++ map (under (step.Element n ∷ []) false) leaves

-- A type without parts is its own one leaf.
abbrev pub one_leaf : Place → Shape → List TypeLeaf
one_leaf place s = record { path = []; flip = false; typ = record { place = place; shape = s } } ∷ []

-- One layer, with the leaves of each part in its place. A bundle has those of its fields in order, and a vector those of
-- its elements, from 0.
abbrev pub of_shape : Shape-F (Place → List TypeLeaf) (List TypeLeaf) (List TypeLeaf) → Place → List TypeLeaf
of_shape (Shape-F.Unsigned width) place = one_leaf place (shape.Unsigned width)
of_shape (Shape-F.Signed width) place = one_leaf place (shape.Signed width)
of_shape Shape-F.Clock place = one_leaf place shape.Clock
of_shape Shape-F.Reset place = one_leaf place shape.Reset
of_shape Shape-F.AsyncReset place = one_leaf place shape.AsyncReset
of_shape (Shape-F.Bundle fields) place = flat_map (λ leaves. leaves) fields
of_shape (Shape-F.Vector element n) place = elements element n

abbrev pub of_field : Field-F (Place → List TypeLeaf) (List TypeLeaf) (List TypeLeaf) → List TypeLeaf
of_field f = map (under (step.Field f.name.id ∷ []) f.flip) f.typ

abbrev pub of_type : FirType-F (Place → List TypeLeaf) (List TypeLeaf) (List TypeLeaf) → List TypeLeaf
of_type t = t.shape t.place

-- the leaves of a type, depth first
abbrev pub leaves : FirType → List TypeLeaf
leaves = fold-FirType (Place → List TypeLeaf) (List TypeLeaf) (List TypeLeaf) of_shape of_field of_type

-- those of a field, as leaves of its bundle
abbrev pub field_leaves : Field → List TypeLeaf
field_leaves = fold-Field (Place → List TypeLeaf) (List TypeLeaf) (List TypeLeaf) of_shape of_field of_type

abbrev pub shape_leaves : Shape → Place → List TypeLeaf
shape_leaves = fold-Shape (Place → List TypeLeaf) (List TypeLeaf) (List TypeLeaf) of_shape of_field of_type

-- The number of leaves, without a list of them: a bundle has the sum over its fields, and a vector its length times what
-- an element has.
abbrev pub count_of_shape : Shape-F ℕ ℕ ℕ → ℕ
count_of_shape (Shape-F.Unsigned width) = 1
count_of_shape (Shape-F.Signed width) = 1
count_of_shape Shape-F.Clock = 1
count_of_shape Shape-F.Reset = 1
count_of_shape Shape-F.AsyncReset = 1
count_of_shape (Shape-F.Bundle fields) = sum fields
count_of_shape (Shape-F.Vector element n) = n * element

abbrev pub count : FirType → ℕ
count = fold-FirType ℕ ℕ ℕ count_of_shape (λ f. f.typ) (λ t. t.shape)

abbrev pub field_count : Field → ℕ
field_count = fold-Field ℕ ℕ ℕ count_of_shape (λ f. f.typ) (λ t. t.shape)

abbrev pub shape_count : Shape → ℕ
shape_count = fold-Shape ℕ ℕ ℕ count_of_shape (λ f. f.typ) (λ t. t.shape)

-- whether a type is a Clock
abbrev pub is_clock_shape : Shape-F Shape Field FirType → Bool
is_clock_shape (Shape-F.Unsigned width) = false
is_clock_shape (Shape-F.Signed width) = false
is_clock_shape Shape-F.Clock = true
is_clock_shape Shape-F.Reset = false
is_clock_shape Shape-F.AsyncReset = false
is_clock_shape (Shape-F.Bundle fields) = false
is_clock_shape (Shape-F.Vector element length) = false

-- whether a leaf is a Clock
abbrev pub is_clock : TypeLeaf → Bool
is_clock leaf = is_clock_shape (out-Shape leaf.typ.shape)

-- whether a leaf of a type is one
abbrev pub has_clock : FirType → Bool
has_clock typ = list_any is_clock (leaves typ)

-- whether a type is a signal of its own, which carries no number: a Clock or an AsyncReset
abbrev pub is_signal_shape : Shape-F Shape Field FirType → Bool
is_signal_shape Shape-F.Clock = true
is_signal_shape Shape-F.AsyncReset = true
is_signal_shape _ = false

-- whether a leaf is one
abbrev pub is_signal : TypeLeaf → Bool
is_signal leaf = is_signal_shape (out-Shape leaf.typ.shape)

-- whether a leaf of a type is one
abbrev pub has_signal : FirType → Bool
has_signal typ = list_any is_signal (leaves typ)

-- what is asked of a leaf: whether it is one, or whether it is a Clock
abbrev pub is_asked : Bool → TypeLeaf → Bool
is_asked true leaf = is_signal leaf
is_asked false leaf = is_clock leaf

-- where a leaf stands, and whether it is turned round
abbrev pub way_of : TypeLeaf → List PathStep × Bool
way_of leaf = (leaf.path, leaf.flip)
