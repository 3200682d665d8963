-- The primitive operations: their names, and how many operands and parameters they take.
use Rattle.std.specs.Prelude.{ℕ, ◌==◌, List, codes, if◌then◌else◌}
use Rattle.prim_ops.specs.declared.operation.PrimOp.{PrimOp}
use Rattle.prim_ops.specs.declared.operation.PrimOp.TheVariants.{Add, Sub, Mul, Div, Rem, Lt, Leq, Gt, Geq, Eq, Neq, Pad, AsUInt, AsSInt, AsAsyncReset, Shl, Shr, ShrFour, Dshl, Dshr, Cvt, Neg, Not, And, Or, Xor, Andr, Orr, Xorr, Cat, Bits, Head, Tail}

-- the name, as bytes
abbrev pub name_of : PrimOp → List ℕ
name_of Add = codes "add"
name_of Sub = codes "sub"
name_of Mul = codes "mul"
name_of Div = codes "div"
name_of Rem = codes "rem"
name_of Lt = codes "lt"
name_of Leq = codes "leq"
name_of Gt = codes "gt"
name_of Geq = codes "geq"
name_of Eq = codes "eq"
name_of Neq = codes "neq"
name_of Pad = codes "pad"
name_of AsUInt = codes "asUInt"
name_of AsSInt = codes "asSInt"
name_of AsAsyncReset = codes "asAsyncReset"
name_of Shl = codes "shl"
name_of Shr = codes "shr"
name_of ShrFour = codes "shr"
name_of Dshl = codes "dshl"
name_of Dshr = codes "dshr"
name_of Cvt = codes "cvt"
name_of Neg = codes "neg"
name_of Not = codes "not"
name_of And = codes "and"
name_of Or = codes "or"
name_of Xor = codes "xor"
name_of Andr = codes "andr"
name_of Orr = codes "orr"
name_of Xorr = codes "xorr"
name_of Cat = codes "cat"
name_of Bits = codes "bits"
name_of Head = codes "head"
name_of Tail = codes "tail"

-- the number of operands, and of parameters behind them
abbrev pub arity_of : PrimOp → ℕ × ℕ
arity_of Add = (2, 0)
arity_of Sub = (2, 0)
arity_of Mul = (2, 0)
arity_of Div = (2, 0)
arity_of Rem = (2, 0)
arity_of Lt = (2, 0)
arity_of Leq = (2, 0)
arity_of Gt = (2, 0)
arity_of Geq = (2, 0)
arity_of Eq = (2, 0)
arity_of Neq = (2, 0)
arity_of Pad = (1, 1)
arity_of AsUInt = (1, 0)
arity_of AsSInt = (1, 0)
arity_of AsAsyncReset = (1, 0)
arity_of Shl = (1, 1)
arity_of Shr = (1, 1)
arity_of ShrFour = (1, 1)
arity_of Dshl = (2, 0)
arity_of Dshr = (2, 0)
arity_of Cvt = (1, 0)
arity_of Neg = (1, 0)
arity_of Not = (1, 0)
arity_of And = (2, 0)
arity_of Or = (2, 0)
arity_of Xor = (2, 0)
arity_of Andr = (1, 0)
arity_of Orr = (1, 0)
arity_of Xorr = (1, 0)
arity_of Cat = (2, 0)
arity_of Bits = (1, 2)
arity_of Head = (1, 1)
arity_of Tail = (1, 1)

-- A text writes the operation by its name. `shr` is written once, and its version says which of the two is meant; until texts have
-- asynchronous resets, none writes `asAsyncReset`.
abbrev pub IsWritten : PrimOp → Type 0
IsWritten AsAsyncReset = ⊥
IsWritten ShrFour = ⊥
IsWritten _ = Unit {0}

-- the operation that a name means in a text of this version
abbrev pub of_version : ℕ → PrimOp → PrimOp
of_version major Shr = if major == 4 then ShrFour else Shr
of_version major prim = prim
