-- A row of the table has as many kinds as the operation has operands.
use Rattle.std.proofs.Common.{◌≡◌, true, List, [], ◌∷◌, length, is_some, refl}
use Rattle.bit_words.specs.declared.value.Kind.{Kind}
use Rattle.prim_ops.specs.declared.operation.PrimOp.{PrimOp}
use Rattle.prim_ops.specs.declared.operation.PrimOp.TheVariants.{Add, Sub, Mul, Div, Rem, Lt, Leq, Gt, Geq, Eq, Neq, Pad, AsUInt, AsSInt, AsAsyncReset, Shl, Shr, ShrFour, Dshl, Dshr, Cvt, Neg, Not, And, Or, Xor, Andr, Orr, Xorr, Cat, Bits, Head, Tail}
use Rattle.prim_ops.specs.Operations.{arity_of}
use Rattle.prim_ops.specs.Kinds.{kind_on_one, kind_on_two, row_kind}

on_one : (op : PrimOp) (a : Kind) → is_some (kind_on_one op a) ≡ true → 1 ≡ (arity_of op).0
on_one Add a h = absurd cc
on_one Sub a h = absurd cc
on_one Mul a h = absurd cc
on_one Div a h = absurd cc
on_one Rem a h = absurd cc
on_one Lt a h = absurd cc
on_one Leq a h = absurd cc
on_one Gt a h = absurd cc
on_one Geq a h = absurd cc
on_one Eq a h = absurd cc
on_one Neq a h = absurd cc
on_one Pad a h = refl
on_one AsUInt a h = refl
on_one AsSInt a h = refl
on_one AsAsyncReset a h = refl
on_one Shl a h = refl
on_one Shr a h = refl
on_one ShrFour a h = refl
on_one Dshl a h = absurd cc
on_one Dshr a h = absurd cc
on_one Cvt a h = refl
on_one Neg a h = refl
on_one Not a h = refl
on_one And a h = absurd cc
on_one Or a h = absurd cc
on_one Xor a h = absurd cc
on_one Andr a h = refl
on_one Orr a h = refl
on_one Xorr a h = refl
on_one Cat a h = absurd cc
on_one Bits a h = refl
on_one Head a h = refl
on_one Tail a h = refl

on_two : (op : PrimOp) (a b : Kind) → is_some (kind_on_two op a b) ≡ true → 2 ≡ (arity_of op).0
on_two Add a b h = refl
on_two Sub a b h = refl
on_two Mul a b h = refl
on_two Div a b h = refl
on_two Rem a b h = refl
on_two Lt a b h = refl
on_two Leq a b h = refl
on_two Gt a b h = refl
on_two Geq a b h = refl
on_two Eq a b h = refl
on_two Neq a b h = refl
on_two Pad a b h = absurd cc
on_two AsUInt a b h = absurd cc
on_two AsSInt a b h = absurd cc
on_two AsAsyncReset a b h = absurd cc
on_two Shl a b h = absurd cc
on_two Shr a b h = absurd cc
on_two ShrFour a b h = absurd cc
on_two Dshl a b h = refl
on_two Dshr a b h = refl
on_two Cvt a b h = absurd cc
on_two Neg a b h = absurd cc
on_two Not a b h = absurd cc
on_two And a b h = refl
on_two Or a b h = refl
on_two Xor a b h = refl
on_two Andr a b h = absurd cc
on_two Orr a b h = absurd cc
on_two Xorr a b h = absurd cc
on_two Cat a b h = refl
on_two Bits a b h = absurd cc
on_two Head a b h = absurd cc
on_two Tail a b h = absurd cc

pub row_arity : (op : PrimOp) (kinds : List Kind) → is_some (row_kind op kinds) ≡ true → length kinds ≡ (arity_of op).0
row_arity op [] h = absurd cc
row_arity op (a ∷ []) h = on_one op a h
row_arity op (a ∷ b ∷ []) h = on_two op a b h
row_arity op (a ∷ b ∷ c ∷ rest) h = absurd cc
