-- The widths of results, and the parameters that fit (FIRRTL specification 3.0, "Primitive Operations" and "Width Inference").
use Rattle.std.specs.Prelude.{ℕ, ◌+◌, ◌-◌, ◌^◌, ◌<◌, ◌≤◌, min, max, nat_le, if◌then◌else◌, List, [], ◌∷◌, Option, Some, None, option_map, slice_index}
use Rattle.bit_words.specs.declared.value.Kind.{Kind}
use Rattle.bit_words.specs.declared.value.Kind.TheVariants.{Unsigned, Signed}
use Rattle.prim_ops.specs.declared.operation.PrimOp.{PrimOp}
use Rattle.prim_ops.specs.declared.operation.PrimOp.TheVariants.{Add, Sub, Mul, Div, Rem, Lt, Leq, Gt, Geq, Eq, Neq, Pad, AsUInt, AsSInt, AsAsyncReset, Shl, Shr, ShrFour, Dshl, Dshr, Cvt, Neg, Not, And, Or, Xor, Andr, Orr, Xorr, Cat, Head, Tail}
use Rattle.prim_ops.specs.declared.operation.PrimOp.TheVariants.{Bits as BitsOp}
use Rattle.prim_ops.specs.declared.widths.Width.{Width}
use Rattle.prim_ops.specs.declared.widths.Width.TheVariants.{Bits, Over}

-- the width of the result on one operand of this kind and width; n is the first parameter, low the second
abbrev pub width_on_one : PrimOp → Kind → ℕ → ℕ → ℕ → ℕ
width_on_one Pad kind w n low = max w n
width_on_one AsUInt kind w n low = w
width_on_one AsSInt kind w n low = w
width_on_one AsAsyncReset kind w n low = 1
width_on_one Shl kind w n low = w + n
width_on_one Shr kind w n low = max (w - n) 1
width_on_one ShrFour Unsigned w n low = w - n
width_on_one ShrFour Signed w n low = max (w - n) 1
width_on_one Cvt Unsigned w n low = w + 1
width_on_one Cvt Signed w n low = w
width_on_one Neg kind w n low = w + 1
width_on_one Not kind w n low = w
width_on_one Andr kind w n low = 1
width_on_one Orr kind w n low = 1
width_on_one Xorr kind w n low = 1
width_on_one BitsOp kind w n low = n + 1 - low
width_on_one Head kind w n low = n
width_on_one Tail kind w n low = w - n
width_on_one _ kind w n low = 0

-- the width of the result on two operands of these widths, the first of this kind
abbrev pub width_on_two : PrimOp → Kind → ℕ → ℕ → ℕ
width_on_two Add kind v w = max v w + 1
width_on_two Sub kind v w = max v w + 1
width_on_two Mul kind v w = v + w
width_on_two Div Unsigned v w = v
width_on_two Div Signed v w = v + 1
width_on_two Rem kind v w = min v w
width_on_two Lt kind v w = 1
width_on_two Leq kind v w = 1
width_on_two Gt kind v w = 1
width_on_two Geq kind v w = 1
width_on_two Eq kind v w = 1
width_on_two Neq kind v w = 1
width_on_two Dshl kind v w = v + 2 ^ w - 1
width_on_two Dshr kind v w = v
width_on_two And kind v w = max v w
width_on_two Or kind v w = max v w
width_on_two Xor kind v w = max v w
width_on_two Cat kind v w = v + w
width_on_two _ kind v w = 0

-- the width of the result as a number, from the operands' kinds and widths and the parameters
abbrev pub width_number : PrimOp → List Kind → List ℕ → List ℕ → ℕ
width_number prim (a ∷ []) (w ∷ []) params = width_on_one prim a w (slice_index params 0) (slice_index params 1)
width_number prim (a ∷ b ∷ []) (v ∷ w ∷ []) params = width_on_two prim a v w
width_number prim _ _ params = 0

-- the widths as numbers, where none is Over
abbrev pub numbers_of : List Width → Option (List ℕ)
numbers_of [] = Some []
numbers_of (Bits w ∷ widths) = option_map (λ ws. w ∷ ws) (numbers_of widths)
numbers_of (Over ∷ widths) = None

-- the width of this number of bits: at most 128
abbrev pub bounded : ℕ → Width
bounded n = if nat_le n 128 then Bits n else Over

abbrev pub of_numbers : (List ℕ → ℕ) → Option (List ℕ) → Width
of_numbers formula (Some ws) = bounded (formula ws)
of_numbers formula None = Over

-- the width of the result: Over where an operand is, and above 128
abbrev pub row_width : PrimOp → List Kind → List Width → List ℕ → Width
row_width prim kinds widths params = of_numbers (λ ws. width_number prim kinds ws params) (numbers_of widths)

-- the parameters fit one operand of this width
abbrev pub FitOn : PrimOp → ℕ → ℕ → ℕ → Type 0
FitOn BitsOp w high low = (low ≤ high) × (high < w)
FitOn Head w n low = n ≤ w
FitOn Tail w n low = n ≤ w
FitOn _ w n low = Unit {0}

-- the parameters fit operands of these widths
abbrev pub ParamsFit : PrimOp → List ℕ → List ℕ → Type 0
ParamsFit prim (w ∷ []) params = FitOn prim w (slice_index params 0) (slice_index params 1)
ParamsFit prim _ params = Unit {0}
