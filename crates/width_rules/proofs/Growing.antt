-- The numbers of the table's formulas grow with the operands' widths.
use Rattle.std.proofs.Common.{ℕ, ◌≤◌, List, [], ◌∷◌, slice_index, arith}
use Rattle.std.proofs.Math.Nat.{pow-le-pow_right}
use Rattle.bit_words.specs.declared.value.Kind.{Kind}
use Rattle.bit_words.specs.declared.value.Kind.TheVariants.{Unsigned, Signed}
use Rattle.prim_ops.specs.declared.operation.PrimOp.{PrimOp}
use Rattle.prim_ops.specs.declared.operation.PrimOp.TheVariants.{Add, Sub, Mul, Div, Rem, Lt, Leq, Gt, Geq, Eq, Neq, Pad, AsUInt, AsSInt, AsAsyncReset, Shl, Shr, ShrFour, Dshl, Dshr, Cvt, Neg, Not, And, Or, Xor, Andr, Orr, Xorr, Cat, Head, Tail}
use Rattle.prim_ops.specs.declared.operation.PrimOp.TheVariants.{Bits as BitsOp}
use Rattle.prim_ops.specs.Widths.{width_on_one, width_on_two, width_number}

one_grows : (prim : PrimOp) (kind : Kind) (v w n low : ℕ) → v ≤ w → width_on_one prim kind v n low ≤ width_on_one prim kind w n low
one_grows Add kind v w n low h = omega (arith, h)
one_grows Sub kind v w n low h = omega (arith, h)
one_grows Mul kind v w n low h = omega (arith, h)
one_grows Div kind v w n low h = omega (arith, h)
one_grows Rem kind v w n low h = omega (arith, h)
one_grows Lt kind v w n low h = omega (arith, h)
one_grows Leq kind v w n low h = omega (arith, h)
one_grows Gt kind v w n low h = omega (arith, h)
one_grows Geq kind v w n low h = omega (arith, h)
one_grows Eq kind v w n low h = omega (arith, h)
one_grows Neq kind v w n low h = omega (arith, h)
one_grows Pad kind v w n low h = omega (arith, h)
one_grows AsUInt kind v w n low h = omega (arith, h)
one_grows AsSInt kind v w n low h = omega (arith, h)
one_grows AsAsyncReset kind v w n low h = omega (arith, h)
one_grows Shl kind v w n low h = omega (arith, h)
one_grows Shr kind v w n low h = omega (arith, h)
one_grows ShrFour Unsigned v w n low h = omega (arith, h)
one_grows ShrFour Signed v w n low h = omega (arith, h)
one_grows Dshl kind v w n low h = omega (arith, h)
one_grows Dshr kind v w n low h = omega (arith, h)
one_grows Cvt Unsigned v w n low h = omega (arith, h)
one_grows Cvt Signed v w n low h = omega (arith, h)
one_grows Neg kind v w n low h = omega (arith, h)
one_grows Not kind v w n low h = omega (arith, h)
one_grows And kind v w n low h = omega (arith, h)
one_grows Or kind v w n low h = omega (arith, h)
one_grows Xor kind v w n low h = omega (arith, h)
one_grows Andr kind v w n low h = omega (arith, h)
one_grows Orr kind v w n low h = omega (arith, h)
one_grows Xorr kind v w n low h = omega (arith, h)
one_grows Cat kind v w n low h = omega (arith, h)
one_grows BitsOp kind v w n low h = omega (arith, h)
one_grows Head kind v w n low h = omega (arith, h)
one_grows Tail kind v w n low h = omega (arith, h)

two_grows : (prim : PrimOp) (kind : Kind) (u v w x : ℕ) → u ≤ v → w ≤ x → width_on_two prim kind u w ≤ width_on_two prim kind v x
two_grows Add kind u v w x h i = omega (arith, h, i)
two_grows Sub kind u v w x h i = omega (arith, h, i)
two_grows Mul kind u v w x h i = omega (arith, h, i)
two_grows Div Unsigned u v w x h i = omega (arith, h, i)
two_grows Div Signed u v w x h i = omega (arith, h, i)
two_grows Rem kind u v w x h i = omega (arith, h, i)
two_grows Lt kind u v w x h i = omega (arith, h, i)
two_grows Leq kind u v w x h i = omega (arith, h, i)
two_grows Gt kind u v w x h i = omega (arith, h, i)
two_grows Geq kind u v w x h i = omega (arith, h, i)
two_grows Eq kind u v w x h i = omega (arith, h, i)
two_grows Neq kind u v w x h i = omega (arith, h, i)
two_grows Pad kind u v w x h i = omega (arith, h, i)
two_grows AsUInt kind u v w x h i = omega (arith, h, i)
two_grows AsSInt kind u v w x h i = omega (arith, h, i)
two_grows AsAsyncReset kind u v w x h i = omega (arith, h, i)
two_grows Shl kind u v w x h i = omega (arith, h, i)
two_grows Shr kind u v w x h i = omega (arith, h, i)
two_grows ShrFour kind u v w x h i = omega (arith, h, i)
two_grows Dshl kind u v w x h i = omega (arith, h, pow-le-pow_right {n = 2} (omega arith) {i = w} {j = x} i)
two_grows Dshr kind u v w x h i = omega (arith, h, i)
two_grows Cvt kind u v w x h i = omega (arith, h, i)
two_grows Neg kind u v w x h i = omega (arith, h, i)
two_grows Not kind u v w x h i = omega (arith, h, i)
two_grows And kind u v w x h i = omega (arith, h, i)
two_grows Or kind u v w x h i = omega (arith, h, i)
two_grows Xor kind u v w x h i = omega (arith, h, i)
two_grows Andr kind u v w x h i = omega (arith, h, i)
two_grows Orr kind u v w x h i = omega (arith, h, i)
two_grows Xorr kind u v w x h i = omega (arith, h, i)
two_grows Cat kind u v w x h i = omega (arith, h, i)
two_grows BitsOp kind u v w x h i = omega (arith, h, i)
two_grows Head kind u v w x h i = omega (arith, h, i)
two_grows Tail kind u v w x h i = omega (arith, h, i)

-- place by place at or below
abbrev pub AreBelow : List ℕ → List ℕ → Type 0
AreBelow [] [] = Unit {0}
AreBelow (v ∷ vs) (w ∷ ws) = (v ≤ w) × AreBelow vs ws
AreBelow [] (w ∷ ws) = ⊥
AreBelow (v ∷ vs) [] = ⊥

pub number_grows : (prim : PrimOp) (kinds : List Kind) (vs ws params : List ℕ) → AreBelow vs ws → width_number prim kinds vs params ≤ width_number prim kinds ws params
number_grows prim kinds [] [] params h = omega arith
number_grows prim kinds [] (w ∷ ws) params h = absurd h
number_grows prim kinds (v ∷ vs) [] params h = absurd h
number_grows prim [] (v ∷ vs) (w ∷ ws) params h = omega arith
number_grows prim (a ∷ []) (v ∷ []) (w ∷ []) params h = one_grows prim a v w (slice_index params 0) (slice_index params 1) h.0
number_grows prim (a ∷ []) (v ∷ []) (w ∷ x ∷ ws) params h = absurd h.1
number_grows prim (a ∷ []) (v ∷ u ∷ vs) (w ∷ []) params h = absurd h.1
number_grows prim (a ∷ []) (v ∷ u ∷ vs) (w ∷ x ∷ ws) params h = omega arith
number_grows prim (a ∷ b ∷ []) (v ∷ []) (w ∷ []) params h = omega arith
number_grows prim (a ∷ b ∷ []) (v ∷ []) (w ∷ x ∷ ws) params h = absurd h.1
number_grows prim (a ∷ b ∷ []) (v ∷ u ∷ vs) (w ∷ []) params h = absurd h.1
number_grows prim (a ∷ b ∷ []) (v ∷ u ∷ []) (w ∷ x ∷ []) params h = two_grows prim a v w u x h.0 h.1.0
number_grows prim (a ∷ b ∷ []) (v ∷ u ∷ []) (w ∷ x ∷ y ∷ ws) params h = absurd h.1.1
number_grows prim (a ∷ b ∷ []) (v ∷ u ∷ t ∷ vs) (w ∷ x ∷ []) params h = absurd h.1.1
number_grows prim (a ∷ b ∷ []) (v ∷ u ∷ t ∷ vs) (w ∷ x ∷ y ∷ ws) params h = omega arith
number_grows prim (a ∷ b ∷ c ∷ ks) (v ∷ vs) (w ∷ ws) params h = omega arith
