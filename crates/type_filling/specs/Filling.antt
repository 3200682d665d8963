-- Types with the widths that were found (FIRRTL specification 3.0, "Width Inference").
use Rattle.std.specs.Prelude.{ℕ, List, [], ◌∷◌, Option, Some, None}
use Rattle.fir_types.specs.declared.fir_type.FirType.{FirType, fold-FirType}
use Rattle.fir_types.specs.declared.fir_type.Shape.{Shape}
use Rattle.fir_types.specs.declared.fir_type.Shape.TheOpen.{Shape-F, Field-F, FirType-F}
use Rattle.fir_types.specs.declared.fir_type.Shape.TheVariants as shape
use Rattle.fir_types.specs.declared.fir_type.Field.{Field}
use Rattle.prim_ops.specs.declared.widths.Width.{Width}
use Rattle.prim_ops.specs.declared.widths.Width.TheVariants.{Bits, Over}

-- What takes widths from the front of a list: what it makes of them, and those that are left.
abbrev pub Taking : Type 0 → Type 0
Taking X = List Width → X × List Width

-- the number of a width; Over has none
abbrev pub number : Width → Option ℕ
number (Bits n) = Some n
number Over = None

abbrev pub first_number : List Width → Option ℕ
first_number [] = None
first_number (w ∷ widths) = number w

abbrev pub behind_first : List Width → List Width
behind_first [] = []
behind_first (w ∷ widths) = widths

abbrev pub take_fields : List (Taking Field) → Taking (List Field)
take_fields [] widths = ([], widths)
take_fields (field ∷ fields) widths =
    let first = field widths in
    let rest = take_fields fields first.1 in
    (first.0 ∷ rest.0, rest.1)

-- Each place that has a width takes the next one.
abbrev pub of_shape : Shape-F (Taking Shape) (Taking Field) (Taking FirType) → Taking Shape
of_shape (Shape-F.Unsigned width) widths = (shape.Unsigned (first_number widths), behind_first widths)
of_shape (Shape-F.Signed width) widths = (shape.Signed (first_number widths), behind_first widths)
of_shape Shape-F.Clock widths = (shape.Clock, widths)
of_shape Shape-F.Reset widths = (shape.Unsigned (first_number widths), behind_first widths)
of_shape Shape-F.AsyncReset widths = (shape.AsyncReset, behind_first widths)
of_shape (Shape-F.Bundle fields) widths = let taken = take_fields fields widths in (shape.Bundle taken.0, taken.1)
of_shape (Shape-F.Vector element length) widths = let taken = element widths in (shape.Vector taken.0 length, taken.1)

abbrev pub of_field : Field-F (Taking Shape) (Taking Field) (Taking FirType) → Taking Field
of_field f widths = let taken = f.typ widths in (record { flip = f.flip; name = f.name; typ = taken.0 }, taken.1)

abbrev pub of_type : FirType-F (Taking Shape) (Taking Field) (Taking FirType) → Taking FirType
of_type t widths = let taken = t.shape widths in (record { place = t.place; shape = taken.0 }, taken.1)

abbrev pub taking : FirType → Taking FirType
taking = fold-FirType (Taking Shape) (Taking Field) (Taking FirType) of_shape of_field of_type

-- a type with these widths, in the order of its places
abbrev pub filled : FirType → List Width → FirType
filled typ widths = (taking typ widths).0
