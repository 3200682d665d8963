-- When an operation takes values.
use Rattle.std.specs.Prelude.{◌≡◌, ℕ, ◌≤◌, List, length, IsSome}
use Rattle.bit_words.specs.declared.value.Value.{Value}
use Rattle.prim_ops.specs.declared.operation.PrimOp.{PrimOp}
use Rattle.prim_ops.specs.Operations.{arity_of}
use Rattle.prim_ops.specs.Kinds.{row_kind}
use Rattle.prim_ops.specs.Widths.{width_number, ParamsFit}
use Rattle.prim_ops.specs.Results.{kinds_of, widths_of}

-- Values that an operation of the table takes.
pub record Applies (prim : PrimOp) (params : List ℕ) (values : List Value) : Type 0 where
  pub operands : length values ≡ (arity_of prim).0
  pub parameters : length params ≡ (arity_of prim).1
  pub row : IsSome (row_kind prim (kinds_of values))
  pub fit : ParamsFit prim (widths_of values) params
  pub narrow : width_number prim (kinds_of values) (widths_of values) params ≤ 128
