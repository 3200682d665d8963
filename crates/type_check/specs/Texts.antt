-- Conditions on the text of a type (FIRRTL specification 3.0, "Types", "Type Equivalence", "Passive Types"), as questions that are
-- answered with yes or no.
use Rattle.std.specs.Prelude.{ℕ, nat_eq, Bool, true, false, not, ◌&&◌, List, [], ◌∷◌, ◌++◌, map, flat_map}
use Rattle.std.specs.List.{list_any}
use Rattle.fir_types.specs.declared.fir_type.FirType.{FirType, fold-FirType}
use Rattle.fir_types.specs.declared.fir_type.Shape.{Shape}
use Rattle.fir_types.specs.declared.fir_type.Shape.TheOpen.{Shape-F, Field-F}
use Rattle.fir_types.specs.declared.fir_type.Shape.TheViews.{out-Shape}
use Rattle.fir_types.specs.declared.fir_type.Field.{Field}
use Rattle.fir_types.specs.declared.name.Name.{Name}
use Rattle.fir_types.specs.Passivity.{has_flip}
use Rattle.type_check.specs.declared.fault.TypeFault.TheVariants.{FieldTwice, OperandKind, NotPassive}
use Rattle.type_check.specs.declared.fault.TypeFault.{TypeFault}
use Rattle.fir_tree.specs.Kinds.{is_clock_layer, is_async_layer}
use Rattle.type_check.specs.Parts.{unless, when}
-- whether a leaf of a type is a `Clock` or an `AsyncReset`
pub use Rattle.fir_types.specs.Leaves.{has_signal}

-- whether no `flip` stands in a type
abbrev pub is_passive : FirType → Bool
is_passive typ = not (has_flip typ)

-- Whether two types are equivalent, as a question: the law says that the answer is yes exactly where they are.

abbrev pub is_unsigned_layer : Shape-F Shape Field FirType → Bool
is_unsigned_layer (Shape-F.Unsigned width) = true
is_unsigned_layer Shape-F.Reset = true
is_unsigned_layer _ = false

abbrev pub is_signed_layer : Shape-F Shape Field FirType → Bool
is_signed_layer (Shape-F.Signed width) = true
is_signed_layer _ = false

-- each of the one list takes the one at its place in the other, and there are as many
abbrev pub all_take : List (Field → Bool) → List Field → Bool
all_take [] [] = true
all_take [] (field ∷ fields) = false
all_take (take' ∷ takes) [] = false
all_take (take' ∷ takes) (field ∷ fields) = take' field && all_take takes fields

abbrev pub bundle_takes : List (Field → Bool) → Shape-F Shape Field FirType → Bool
bundle_takes takes (Shape-F.Bundle fields) = all_take takes fields
bundle_takes takes _ = false

abbrev pub vector_takes : (FirType → Bool) → ℕ → Shape-F Shape Field FirType → Bool
vector_takes takes length (Shape-F.Vector element other) = nat_eq length other && takes element
vector_takes takes length _ = false

abbrev pub shape_takes : Shape-F (Shape → Bool) (Field → Bool) (FirType → Bool) → Shape → Bool
shape_takes (Shape-F.Unsigned width) other = is_unsigned_layer (out-Shape other)
shape_takes (Shape-F.Signed width) other = is_signed_layer (out-Shape other)
shape_takes Shape-F.Clock other = is_clock_layer (out-Shape other)
shape_takes Shape-F.Reset other = is_unsigned_layer (out-Shape other)
shape_takes Shape-F.AsyncReset other = is_async_layer (out-Shape other)
shape_takes (Shape-F.Bundle fields) other = bundle_takes fields (out-Shape other)
shape_takes (Shape-F.Vector element length) other = vector_takes element length (out-Shape other)

abbrev pub same_flip : Bool → Bool → Bool
same_flip true there' = there'
same_flip false there' = not there'

abbrev pub field_takes : Field-F (Shape → Bool) (Field → Bool) (FirType → Bool) → Field → Bool
field_takes f other = nat_eq f.name.id other.name.id && (same_flip f.flip other.flip && f.typ other.typ)

abbrev pub are_equivalent : FirType → FirType → Bool
are_equivalent = fold-FirType (Shape → Bool) (Field → Bool) (FirType → Bool) shape_takes field_takes (λ t other. t.shape other.shape)

-- The names that one before them in the list has as well.

abbrev pub has_name : List Name → Name → Bool
has_name before name = list_any (λ other. nat_eq name.id other.id) before

abbrev pub seconds_behind : List Name → List Name → List TypeFault
seconds_behind before [] = []
seconds_behind before (name ∷ names) = when (has_name before name) (FieldTwice name.place) ++ seconds_behind (before ++ name ∷ []) names

-- a field: its name, and the faults of its type
abbrev pub FieldFaults : Type 0
FieldFaults = Name × List TypeFault

-- the second fields of a name in each bundle of a type
abbrev pub twice_in_shape : Shape-F (List TypeFault) FieldFaults (List TypeFault) → List TypeFault
twice_in_shape (Shape-F.Bundle fields) = seconds_behind [] (map (λ f. f.0) fields) ++ flat_map (λ f. f.1) fields
twice_in_shape (Shape-F.Vector element length) = element
twice_in_shape _ = []

abbrev pub field_faults : Field-F (List TypeFault) FieldFaults (List TypeFault) → FieldFaults
field_faults f = (f.name, f.typ)

abbrev pub twice_in : FirType → List TypeFault
twice_in = fold-FirType (List TypeFault) FieldFaults (List TypeFault) twice_in_shape field_faults (λ t. t.shape)

-- The type of what is stored, in a register or a memory: no `Clock`, no `AsyncReset`, and passive.
abbrev pub stored_faults : FirType → List TypeFault
stored_faults typ = twice_in typ ++ (when (has_signal typ) (OperandKind typ.place) ++ unless (is_passive typ) (NotPassive typ.place))
