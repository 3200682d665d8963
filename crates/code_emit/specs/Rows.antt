-- Kinds and widths that a row of the table takes.
use Rattle.std.specs.Prelude.{◌≡◌, ℕ, ◌≤◌, List, length, IsSome}
use Rattle.bit_words.specs.declared.value.Kind.{Kind}
use Rattle.prim_ops.specs.declared.operation.PrimOp.{PrimOp}
use Rattle.prim_ops.specs.declared.widths.Width.{Width}
use Rattle.prim_ops.specs.declared.widths.Width.TheVariants.{Bits}
use Rattle.prim_ops.specs.Operations.{arity_of}
use Rattle.prim_ops.specs.Kinds.{row_kind}
use Rattle.prim_ops.specs.Widths.{row_width}

pub record IsRow (prim : PrimOp) (kinds : List Kind) (widths : List Width) (params : List ℕ) : Type 0 where
  pub operands : length kinds ≡ (arity_of prim).0
  pub widths_too : length widths ≡ (arity_of prim).0
  pub parameters : length params ≡ (arity_of prim).1
  pub kind : IsSome (row_kind prim kinds)
  pub width : ℕ
  pub narrow : width ≤ 128
  pub is_width : row_width prim kinds widths params ≡ Bits width
