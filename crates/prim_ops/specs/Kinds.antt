-- The kinds of operands and results (FIRRTL specification 3.0, "Primitive Operations").
use Rattle.std.specs.Prelude.{List, [], ◌∷◌, Option, Some, None}
use Rattle.bit_words.specs.declared.value.Kind.{Kind}
use Rattle.bit_words.specs.declared.value.Kind.TheVariants.{Unsigned, Signed}
use Rattle.prim_ops.specs.declared.operation.PrimOp.{PrimOp}
use Rattle.prim_ops.specs.declared.operation.PrimOp.TheVariants.{Add, Sub, Mul, Div, Rem, Lt, Leq, Gt, Geq, Eq, Neq, Pad, AsUInt, AsSInt, AsAsyncReset, Shl, Shr, ShrFour, Dshl, Dshr, Cvt, Neg, Not, And, Or, Xor, Andr, Orr, Xorr, Cat, Bits, Head, Tail}

-- the kind of the result of an operation on one operand of this kind
abbrev pub kind_on_one : PrimOp → Kind → Option Kind
kind_on_one Pad kind = Some kind
kind_on_one AsUInt kind = Some Unsigned
kind_on_one AsSInt kind = Some Signed
kind_on_one AsAsyncReset kind = Some Unsigned
kind_on_one Shl kind = Some kind
kind_on_one Shr kind = Some kind
kind_on_one ShrFour kind = Some kind
kind_on_one Cvt kind = Some Signed
kind_on_one Neg kind = Some Signed
kind_on_one Not kind = Some Unsigned
kind_on_one Andr kind = Some Unsigned
kind_on_one Orr kind = Some Unsigned
kind_on_one Xorr kind = Some Unsigned
kind_on_one Bits kind = Some Unsigned
kind_on_one Head kind = Some Unsigned
kind_on_one Tail kind = Some Unsigned
kind_on_one _ kind = None

-- a row for two operands of one kind
abbrev pub where_same : Kind → Kind → Kind → Option Kind
where_same Unsigned Unsigned result = Some result
where_same Signed Signed result = Some result
where_same Unsigned Signed result = None
where_same Signed Unsigned result = None

-- a row whose second operand is a UInt
abbrev pub where_unsigned : Kind → Kind → Option Kind
where_unsigned Unsigned result = Some result
where_unsigned Signed result = None

-- the kind of the result of an operation on two operands of these kinds
abbrev pub kind_on_two : PrimOp → Kind → Kind → Option Kind
kind_on_two Add a b = where_same a b a
kind_on_two Sub a b = where_same a b a
kind_on_two Mul a b = where_same a b a
kind_on_two Div a b = where_same a b a
kind_on_two Rem a b = where_same a b a
kind_on_two Lt a b = where_same a b Unsigned
kind_on_two Leq a b = where_same a b Unsigned
kind_on_two Gt a b = where_same a b Unsigned
kind_on_two Geq a b = where_same a b Unsigned
kind_on_two Eq a b = where_same a b Unsigned
kind_on_two Neq a b = where_same a b Unsigned
kind_on_two Dshl a b = where_unsigned b a
kind_on_two Dshr a b = where_unsigned b a
kind_on_two And a b = where_same a b Unsigned
kind_on_two Or a b = where_same a b Unsigned
kind_on_two Xor a b = where_same a b Unsigned
kind_on_two Cat a b = where_same a b Unsigned
kind_on_two _ a b = None

-- the kind of the result, where the table has a row for operands of these kinds
abbrev pub row_kind : PrimOp → List Kind → Option Kind
row_kind prim (a ∷ []) = kind_on_one prim a
row_kind prim (a ∷ b ∷ []) = kind_on_two prim a b
row_kind prim _ = None
