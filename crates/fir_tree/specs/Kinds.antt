-- Kinds of types (FIRRTL specification 3.0, "Ground Types"), and the numbers that a literal holds ("Constant Integer Expressions").
use Rattle.std.specs.Prelude.{ℕ, zero, suc, ◌^◌, Bool, true, false, ◌&&◌, ◌||◌, [], Option, Some, None, ℤ, pos, neg_ℤ, int_le, int_lt}
use Rattle.bit_words.specs.declared.value.Kind.{Kind as Sign}
use Rattle.bit_words.specs.declared.value.Kind.TheVariants.{Unsigned, Signed}
use Rattle.place_text.specs.declared.place.Place.{Place}
use Rattle.fir_types.specs.declared.fir_type.FirType.{FirType}
use Rattle.fir_types.specs.declared.fir_type.Shape.{Shape}
use Rattle.fir_types.specs.declared.fir_type.Shape.TheOpen.{Shape-F}
use Rattle.fir_types.specs.declared.fir_type.Shape.TheViews.{out-Shape}
use Rattle.fir_types.specs.declared.fir_type.Shape.TheVariants as shape
use Rattle.fir_types.specs.declared.fir_type.Field.{Field}

-- The kind of an operand: a `UInt`, a `SInt`, and none for what is no number. `Reset` is `UInt<1>`.
abbrev pub sign_of_shape : Shape-F Shape Field FirType → Option Sign
sign_of_shape (Shape-F.Unsigned width) = Some Unsigned
sign_of_shape (Shape-F.Signed width) = Some Signed
sign_of_shape Shape-F.Reset = Some Unsigned
sign_of_shape _ = None

abbrev pub sign_of : FirType → Option Sign
sign_of typ = sign_of_shape (out-Shape typ.shape)

abbrev pub is_unsigned_sign : Option Sign → Bool
is_unsigned_sign (Some Unsigned) = true
is_unsigned_sign _ = false

-- whether a type is a `UInt`
abbrev pub is_unsigned : FirType → Bool
is_unsigned typ = is_unsigned_sign (sign_of typ)

abbrev pub is_clock_layer : Shape-F Shape Field FirType → Bool
is_clock_layer Shape-F.Clock = true
is_clock_layer _ = false

-- whether a type is a `Clock`
abbrev pub is_a_clock : FirType → Bool
is_a_clock typ = is_clock_layer (out-Shape typ.shape)

abbrev pub is_async_layer : Shape-F Shape Field FirType → Bool
is_async_layer Shape-F.AsyncReset = true
is_async_layer _ = false

-- whether a type is an `AsyncReset`
abbrev pub is_async : FirType → Bool
is_async typ = is_async_layer (out-Shape typ.shape)

-- whether a register may have a reset of this type: a `UInt` or an `AsyncReset`
abbrev pub is_reset : FirType → Bool
is_reset typ = is_unsigned typ || is_async typ

-- a type of this kind
abbrev pub ground : Place → Sign → Option ℕ → FirType
ground place Unsigned width = record { place = place; shape = shape.Unsigned width }
ground place Signed width = record { place = place; shape = shape.Signed width }

-- the kind of a result, and a `UInt` where there is none
abbrev pub sign_or_unsigned : Option Sign → Sign
sign_or_unsigned (Some sign) = sign
sign_or_unsigned None = Unsigned

-- what stands for the type of a node without one
abbrev pub no_type : Place → FirType
no_type place = record { place = place; shape = shape.Bundle [] }

-- whether a literal of this kind and width holds a number: at width 0 only 0
abbrev pub holds : Sign → ℕ → ℤ → Bool
holds sign zero n = int_le n (pos 0) && int_le (pos 0) n
holds Unsigned (suc w) n = int_le (pos 0) n && int_lt n (pos (2 ^ suc w))
holds Signed (suc w) n = int_le (neg_ℤ (pos (2 ^ w))) n && int_lt n (pos (2 ^ w))
