-- Worked examples of the table.
use Rattle.std.proofs.Common.{◌≡◌, [], ◌∷◌, Some, None, pos, negsuc, refl, lit≤, lit<}
use Rattle.bit_words.specs.declared.value.Kind.TheVariants.{Unsigned, Signed}
use Rattle.bit_words.specs.declared.value.Value.{Value}
use Rattle.bit_words.specs.Values.{fit_of}
use Rattle.prim_ops.specs.declared.operation.PrimOp.TheVariants as op
use Rattle.prim_ops.specs.declared.widths.Width.TheVariants.{Bits, Over}
use Rattle.prim_ops.specs.Kinds.{row_kind}
use Rattle.prim_ops.specs.Widths.{row_width, width_number}
use Rattle.prim_ops.specs.Results.{quotient, remainder, floor_div, integer_on_one, integer_on_two}

-- kinds: operands of one kind, and a shift by a UInt
mixed_sum : row_kind op.Add (Unsigned ∷ Signed ∷ []) ≡ None
mixed_sum = refl

signed_shift : row_kind op.Dshl (Signed ∷ Unsigned ∷ []) ≡ Some Signed
signed_shift = refl

-- widths: a shift that has 128 bits, and one that is too wide
shift_in_bits : row_width op.Dshl (Unsigned ∷ Unsigned ∷ []) (Bits 1 ∷ Bits 7 ∷ []) [] ≡ Bits 128
shift_in_bits = refl

shift_too_wide : row_width op.Dshl (Unsigned ∷ Unsigned ∷ []) (Bits 2 ∷ Bits 7 ∷ []) [] ≡ Over
shift_too_wide = refl

too_wide_already : row_width op.Not (Unsigned ∷ []) (Over ∷ []) [] ≡ Over
too_wide_already = refl

no_bits_between : width_number op.Bits (Unsigned ∷ []) (8 ∷ []) (2 ∷ 5 ∷ []) ≡ 0
no_bits_between = refl

-- division: -7 by 2 is -3 and leaves -1, and by 0 both are 0
toward_zero : quotient (negsuc 6) (pos 2) ≡ negsuc 2
toward_zero = refl

left_over : remainder (negsuc 6) (pos 2) ≡ negsuc 0
left_over = refl

by_zero : quotient (negsuc 6) (pos 0) ≡ pos 0
by_zero = refl

-- a shift to the right: -5 by 1 is -3
down : floor_div (negsuc 4) 2 ≡ negsuc 2
down = refl

abbrev minus_eight : Value
minus_eight = record { kind = Signed; width = 4; bits = 8; narrow = lit≤ tt; within = lit< tt }

abbrev nothing : Value
nothing = record { kind = Unsigned; width = 0; bits = 0; narrow = lit≤ tt; within = lit< tt }

-- the least value negated, divided by -1 and in two's complement
least_negated : integer_on_one op.Neg minus_eight 0 0 ≡ pos 8
least_negated = refl

all_of_no_bits : integer_on_one op.Andr nothing 0 0 ≡ pos 1
all_of_no_bits = refl

joined : integer_on_two op.Cat minus_eight minus_eight ≡ pos 136
joined = refl

-- 1 less 2 as a UInt of five bits
wrapped : fit_of Unsigned 5 (negsuc 0) ≡ pos 31
wrapped = refl
