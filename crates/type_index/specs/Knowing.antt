-- What is known of a type and of all its parts.
use Rattle.std.specs.Prelude.{◌≡◌, ℕ, ◌-◌, ◌^◌, min, sum, take, Bool, true, false, not, List, [], ◌∷◌, map, Option, Some, None, IfSome}
use Rattle.fir_types.specs.declared.fir_type.FirType.{FirType}
use Rattle.fir_types.specs.declared.fir_type.Shape.{Shape}
use Rattle.fir_types.specs.declared.fir_type.Shape.TheOpen.{Shape-F}
use Rattle.fir_types.specs.declared.fir_type.Shape.TheViews.{out-Shape}
use Rattle.fir_types.specs.declared.fir_type.Shape.TheVariants as shape
use Rattle.fir_types.specs.declared.fir_type.Field.{Field}
use Rattle.fir_types.specs.Leaves.{count, has_clock, has_signal}
use Rattle.fir_types.specs.Passivity.{has_flip}
use Rattle.fir_types.specs.declared.index.FieldIndex.{FieldIndex}
use Rattle.fir_types.specs.declared.index.FieldPlace.{FieldPlace}
use Rattle.fir_types.specs.Indexes.{IsIndexOf, first_at}
use Rattle.fir_types.specs.Spots.{size}
use Rattle.fir_tree.specs.LeafNames.{Texts}
use Rattle.fir_tree.specs.Caps.{cap}
use Rattle.fir_tree.specs.Texts.{way_bytes}
use Rattle.type_index.specs.declared.tree.TypeIndex.{TypeIndex}
use Rattle.type_index.specs.declared.tree.Inside.TheVariants as inside

-- a type without parts
abbrev pub is_ground : Shape-F Shape Field FirType → Bool
is_ground (Shape-F.Bundle fields) = false
is_ground (Shape-F.Vector element length) = false
is_ground _ = true

-- A tree has the shape of a type, and each part of it is right for the type's part.
mutual
  pub data Matches (P : FirType → TypeIndex → Type 0) : FirType → TypeIndex → Type 0 where
    ground : {typ : FirType} {index : TypeIndex} → is_ground (out-Shape typ.shape) ≡ true → P typ index → Matches P typ index
    vector : {typ : FirType} {index : TypeIndex} (element : FirType) (length : ℕ) (inner : TypeIndex) → typ.shape ≡ shape.Vector element length
        → index.inside ≡ inside.Vector inner → P typ index → Matches P element inner → Matches P typ index
    bundle : {typ : FirType} {index : TypeIndex} (fields : List Field) (among : Option FieldIndex) (inners : List TypeIndex) → typ.shape ≡ shape.Bundle fields
        → index.inside ≡ inside.Bundle among inners → P typ index → FieldsMatch P fields inners → Matches P typ index

  pub data FieldsMatch (P : FirType → TypeIndex → Type 0) : List Field → List TypeIndex → Type 0 where
    no_fields : FieldsMatch P [] []
    one_field : {field : Field} {inner : TypeIndex} {fields : List Field} {inners : List TypeIndex} → Matches P field.typ inner
        → FieldsMatch P fields inners → FieldsMatch P (field ∷ fields) (inner ∷ inners)

abbrev pub places_of : TypeIndex → ℕ
places_of index = index.places

-- how many places that have widths a field has, as far as they are counted
abbrev pub weight : Field → ℕ
weight field = min (size field.typ) (2 ^ 64 - 1)

-- an index of these fields by their places, where there is one
abbrev pub IsAmong : Option FieldIndex → List Field → Type 0
IsAmong among fields = IfSome among (λ index. IsIndexOf index fields (map weight fields))

abbrev pub position_of : FieldPlace → ℕ
position_of place = place.position

-- where the first field of a name stands: its position, and how many places the fields before it have, as far as they are counted
pub record IsPlaceIn (fields : List Field) (name : ℕ) (place : FieldPlace) : Type 0 where
  pub position : first_at fields name ≡ Some place.position
  pub before : min place.before (2 ^ 64 - 1) ≡ min (sum (take place.position (map weight fields))) (2 ^ 64 - 1)

-- what is known of one part
pub record IsKnown (typ : FirType) (index : TypeIndex) : Type 0 where
  pub leaves : index.leaves ≡ cap (count typ)
  pub passive : index.passive ≡ not (has_flip typ)
  pub clocked : index.clocked ≡ has_clock typ
  pub signals : index.signals ≡ has_signal typ
  pub places : index.places ≡ min (size typ) (2 ^ 64 - 1)
  pub among : (fields : List Field) (among : Option FieldIndex) (inners : List TypeIndex) → typ.shape ≡ shape.Bundle fields → index.inside ≡ inside.Bundle among inners
      → IsAmong among fields

-- The leaves and the places of each part, whether a flip stands in it, whether a leaf of it is a Clock, or a signal, and the fields of bundles by name.
abbrev pub Knows : FirType → TypeIndex → Type 0
Knows typ index = ∥ Matches IsKnown typ index ∥₁

abbrev pub HasBytes : Texts → FirType → TypeIndex → Type 0
HasBytes texts typ index = index.bytes ≡ cap (way_bytes texts typ)

-- The bytes of the ways to the leaves of each part, where the names have these texts.
abbrev pub HasWays : Texts → FirType → TypeIndex → Type 0
HasWays texts typ index = Matches (HasBytes texts) typ index

-- both
abbrev pub IsRight : Texts → FirType → TypeIndex → Type 0
IsRight texts typ index = IsKnown typ index × HasBytes texts typ index

-- the fields of a bundle, and no field of what is none
abbrev pub fields_in : Shape-F Shape Field FirType → List Field
fields_in (Shape-F.Bundle fields) = fields
fields_in _ = []

-- the element of a vector
abbrev pub element_in : Shape-F Shape Field FirType → Option FirType
element_in (Shape-F.Vector element length) = Some element
element_in _ = None
