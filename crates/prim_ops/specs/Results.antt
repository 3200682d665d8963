-- The integers that operations give (FIRRTL specification 3.0, "Primitive Operations").
use Rattle.std.specs.Prelude.{◌≡◌, ◌==◌, ℕ, ◌+◌, ◌-◌, ◌*◌, ◌/◌, ◌%◌, ◌^◌, max, Bool, not, if◌then◌else◌, List, [], ◌∷◌, map, Some, ℤ, pos, negsuc, neg_ℤ, ◌+ℤ◌, ◌-ℤ◌, ◌*ℤ◌, int_lt, int_le, int_div, int_rem, unsigned_abs, bit_and, bit_or, bit_xor, count_ones, slice_index}
use Rattle.std.specs.Ordering.{int_eq}
use Rattle.bit_words.specs.declared.value.Kind.{Kind}
use Rattle.bit_words.specs.declared.value.Value.{Value}
use Rattle.bit_words.specs.Values.{integer_of, bits_of, fit_of}
use Rattle.prim_ops.specs.declared.operation.PrimOp.{PrimOp}
use Rattle.prim_ops.specs.declared.operation.PrimOp.TheVariants.{Add, Sub, Mul, Div, Rem, Lt, Leq, Gt, Geq, Eq, Neq, Pad, AsUInt, AsSInt, AsAsyncReset, Shl, Shr, ShrFour, Dshl, Dshr, Cvt, Neg, Not, And, Or, Xor, Andr, Orr, Xorr, Cat, Bits, Head, Tail}
use Rattle.prim_ops.specs.Kinds.{row_kind, kind_on_one, kind_on_two}
use Rattle.prim_ops.specs.Widths.{width_number, width_on_one, width_on_two}

-- 1 where a test holds
abbrev pub one_if : Bool → ℤ
one_if test = if test then pos 1 else pos 0

-- the quotient rounded toward zero, and 0 for the divisor 0
abbrev pub quotient : ℤ → ℤ → ℤ
quotient a b = if unsigned_abs b == 0 then pos 0 else int_div a b

-- what the quotient leaves, with the numerator's sign, and 0 for the divisor 0
abbrev pub remainder : ℤ → ℤ → ℤ
remainder a b = if unsigned_abs b == 0 then pos 0 else int_rem a b

-- divided and rounded down
abbrev pub floor_div : ℤ → ℕ → ℤ
floor_div (pos n) by = pos (n / by)
floor_div (negsuc n) by = negsuc (n / by)

-- the integer that an operation gives on one operand; n is the first parameter, low the second
abbrev pub integer_on_one : PrimOp → Value → ℕ → ℕ → ℤ
integer_on_one Pad x n low = integer_of x
integer_on_one AsUInt x n low = pos x.bits
integer_on_one AsSInt x n low = pos x.bits
integer_on_one AsAsyncReset x n low = pos x.bits
integer_on_one Shl x n low = integer_of x *ℤ pos (2 ^ n)
integer_on_one Shr x n low = floor_div (integer_of x) (2 ^ n)
integer_on_one ShrFour x n low = floor_div (integer_of x) (2 ^ n)
integer_on_one Cvt x n low = integer_of x
integer_on_one Neg x n low = neg_ℤ (integer_of x)
integer_on_one Not x n low = pos (2 ^ x.width - 1 - x.bits)
integer_on_one Andr x n low = one_if (x.bits == 2 ^ x.width - 1)
integer_on_one Orr x n low = one_if (not (x.bits == 0))
integer_on_one Xorr x n low = pos (count_ones x.bits % 2)
integer_on_one Bits x n low = pos (x.bits / 2 ^ low)
integer_on_one Head x n low = pos (x.bits / 2 ^ (x.width - n))
integer_on_one Tail x n low = pos x.bits
integer_on_one _ x n low = pos 0

-- the integer that an operation gives on two operands
abbrev pub integer_on_two : PrimOp → Value → Value → ℤ
integer_on_two Add x y = integer_of x +ℤ integer_of y
integer_on_two Sub x y = integer_of x -ℤ integer_of y
integer_on_two Mul x y = integer_of x *ℤ integer_of y
integer_on_two Div x y = quotient (integer_of x) (integer_of y)
integer_on_two Rem x y = remainder (integer_of x) (integer_of y)
integer_on_two Lt x y = one_if (int_lt (integer_of x) (integer_of y))
integer_on_two Leq x y = one_if (int_le (integer_of x) (integer_of y))
integer_on_two Gt x y = one_if (int_lt (integer_of y) (integer_of x))
integer_on_two Geq x y = one_if (int_le (integer_of y) (integer_of x))
integer_on_two Eq x y = one_if (int_eq (integer_of x) (integer_of y))
integer_on_two Neq x y = one_if (not (int_eq (integer_of x) (integer_of y)))
integer_on_two Dshl x y = integer_of x *ℤ pos (2 ^ y.bits)
integer_on_two Dshr x y = floor_div (integer_of x) (2 ^ y.bits)
integer_on_two And x y = let w = max x.width y.width in pos (bit_and (bits_of w (integer_of x)) (bits_of w (integer_of y)))
integer_on_two Or x y = let w = max x.width y.width in pos (bit_or (bits_of w (integer_of x)) (bits_of w (integer_of y)))
integer_on_two Xor x y = let w = max x.width y.width in pos (bit_xor (bits_of w (integer_of x)) (bits_of w (integer_of y)))
integer_on_two Cat x y = pos (x.bits * 2 ^ y.width + y.bits)
integer_on_two _ x y = pos 0

-- a result on one operand: of the table's kind and width, the bits of the width that are congruent to the table's integer
pub record IsOnOne (prim : PrimOp) (x : Value) (n low : ℕ) (result : Value) : Type 0 where
  pub kind : kind_on_one prim x.kind ≡ Some result.kind
  pub width : result.width ≡ width_on_one prim x.kind x.width n low
  pub integer : integer_of result ≡ fit_of result.kind result.width (integer_on_one prim x n low)

-- the same on two operands
pub record IsOnTwo (prim : PrimOp) (x y : Value) (result : Value) : Type 0 where
  pub kind : kind_on_two prim x.kind y.kind ≡ Some result.kind
  pub width : result.width ≡ width_on_two prim x.kind x.width y.width
  pub integer : integer_of result ≡ fit_of result.kind result.width (integer_on_two prim x y)

abbrev pub kinds_of : List Value → List Kind
kinds_of values = map (λ x. x.kind) values

abbrev pub widths_of : List Value → List ℕ
widths_of values = map (λ x. x.width) values

-- the integer of the table
abbrev pub integer_result : PrimOp → List Value → List ℕ → ℤ
integer_result prim (x ∷ []) params = integer_on_one prim x (slice_index params 0) (slice_index params 1)
integer_result prim (x ∷ y ∷ []) params = integer_on_two prim x y
integer_result prim _ params = pos 0

-- what an operation gives: the table's kind and width, and the integer of their range that is congruent to the table's
pub record IsResult (prim : PrimOp) (values : List Value) (params : List ℕ) (result : Value) : Type 0 where
  pub kind : row_kind prim (kinds_of values) ≡ Some result.kind
  pub width : result.width ≡ width_number prim (kinds_of values) (widths_of values) params
  pub integer : integer_of result ≡ fit_of result.kind result.width (integer_result prim values params)
