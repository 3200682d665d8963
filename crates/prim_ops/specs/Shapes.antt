-- Kinds and widths of values and of operations (FIRRTL specification 3.0, "Types" and "Primitive Operations").
use Rattle.std.specs.Prelude.{ℕ, ◌==◌, ◌&&◌, nat_le, nat_lt, Bool, true, false, List, [], ◌∷◌, map, length, slice_index, Option, Some, None, option_and_then, if◌then◌else◌}
use Rattle.bit_words.specs.declared.value.Kind.{Kind}
use Rattle.bit_words.specs.declared.value.Kind.TheVariants.{Unsigned, Signed}
use Rattle.bit_words.specs.declared.value.Value.{Value}
use Rattle.prim_ops.specs.declared.operation.PrimOp.{PrimOp}
use Rattle.prim_ops.specs.declared.operation.PrimOp.TheVariants as op
use Rattle.prim_ops.specs.Operations.{arity_of}
use Rattle.prim_ops.specs.Kinds.{row_kind}
use Rattle.prim_ops.specs.Widths.{width_number}

-- A kind and a width.
pub record Shape : Type 0 where
  pub kind : Kind
  pub width : ℕ

abbrev pub shaped : Kind → ℕ → Shape
shaped kind width = record { kind = kind; width = width }

-- The kind and the width of a value.
abbrev pub shape_of_value : Value → Shape
shape_of_value v = shaped v.kind v.width

abbrev pub same_kind : Kind → Kind → Bool
same_kind Unsigned Unsigned = true
same_kind Signed Signed = true
same_kind _ _ = false

abbrev pub same_shape : Shape → Shape → Bool
same_shape s t = same_kind s.kind t.kind && (s.width == t.width)

abbrev pub is_unsigned : Shape → Bool
is_unsigned s = same_kind s.kind Unsigned

-- all of them, where each is there
abbrev pub all_of : List (Option Shape) → Option (List Shape)
all_of [] = Some []
all_of (first ∷ rest) = option_and_then (λ s. option_and_then (λ more. Some (s ∷ more)) (all_of rest)) first

-- the parameters fit one operand of this width
abbrev pub fit_on : PrimOp → ℕ → ℕ → ℕ → Bool
fit_on op.Bits w high low = nat_le low high && nat_lt high w
fit_on op.Head w n low = nat_le n w
fit_on op.Tail w n low = nat_le n w
fit_on _ w n low = true

-- the parameters fit operands of these widths
abbrev pub params_fit : PrimOp → List Shape → List ℕ → Bool
params_fit prim (s ∷ []) params = fit_on prim s.width (slice_index params 0) (slice_index params 1)
params_fit prim _ params = true

-- An operation takes as many operands and parameters as its row says, the parameters fit, and the width is at most 128.
abbrev pub is_row : PrimOp → List Shape → List ℕ → ℕ → Bool
is_row prim operands params width =
    ((length operands == (arity_of prim).0) && (length params == (arity_of prim).1)) && (params_fit prim operands params && nat_le width 128)

abbrev pub width_of_row : PrimOp → List Shape → List ℕ → ℕ
width_of_row prim operands params = width_number prim (map (λ s. s.kind) operands) (map (λ s. s.width) operands) params

abbrev pub shape_of_row : PrimOp → List ℕ → List Shape → Option Shape
shape_of_row prim params operands =
    if is_row prim operands params (width_of_row prim operands params)
    then option_and_then (λ kind. Some (shaped kind (width_of_row prim operands params))) (row_kind prim (map (λ s. s.kind) operands)) else None
