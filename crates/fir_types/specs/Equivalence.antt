-- Equivalent types (FIRRTL specification 3.0, "Type Equivalence").
use Rattle.std.specs.Prelude.{◌≡◌, ℕ, List, [], ◌∷◌, Option}
use Rattle.fir_types.specs.declared.fir_type.FirType.{FirType}
use Rattle.fir_types.specs.declared.fir_type.Shape.TheVariants as shape
use Rattle.fir_types.specs.declared.fir_type.Field.{Field}

-- `Reset` is `UInt<1>`.
pub data IsUnsigned (typ : FirType) : Type 0 where
  a_uint : (width : Option ℕ) → typ.shape ≡ shape.Unsigned width → IsUnsigned typ
  a_reset : typ.shape ≡ shape.Reset → IsUnsigned typ

pub data IsSigned (typ : FirType) : Type 0 where
  a_sint : (width : Option ℕ) → typ.shape ≡ shape.Signed width → IsSigned typ

-- Ground types of one kind at any widths; vectors of equal length and with equivalent elements, also where the length is 0;
-- bundles with, place by place, the same name, the same orientation and equivalent types.
mutual
  pub data Equivalent : FirType → FirType → Type 0 where
    unsigned : {left right : FirType} → IsUnsigned left → IsUnsigned right → Equivalent left right
    signed : {left right : FirType} → IsSigned left → IsSigned right → Equivalent left right
    clocks : {left right : FirType} → left.shape ≡ shape.Clock → right.shape ≡ shape.Clock → Equivalent left right
    asyncs : {left right : FirType} → left.shape ≡ shape.AsyncReset → right.shape ≡ shape.AsyncReset → Equivalent left right
    vectors : {left right : FirType} (element other : FirType) (length : ℕ) → left.shape ≡ shape.Vector element length
        → right.shape ≡ shape.Vector other length → Equivalent element other → Equivalent left right
    bundles : {left right : FirType} (fields others : List Field) → left.shape ≡ shape.Bundle fields → right.shape ≡ shape.Bundle others
        → SameFields fields others → Equivalent left right

  pub data SameFields : List Field → List Field → Type 0 where
    no_fields : SameFields [] []
    same_field : {field other : Field} {rest others : List Field} → field.name.id ≡ other.name.id → field.flip ≡ other.flip
        → Equivalent field.typ other.typ → SameFields rest others → SameFields (field ∷ rest) (other ∷ others)

abbrev pub AreSame : Field → Field → Type 0
AreSame field other = (field.name.id ≡ other.name.id) × (field.flip ≡ other.flip) × Equivalent field.typ other.typ
