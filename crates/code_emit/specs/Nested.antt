-- Operations on the results of operations.
use Rattle.std.specs.Prelude.{◌≡◌, ℕ, ◌⊎◌, List, [], ◌∷◌, slice_index, Option, option_and_then}
use Rattle.prim_ops.specs.declared.operation.PrimOp.{PrimOp}
use Rattle.prim_ops.specs.declared.operation.PrimOp.TheVariants.{Tail, Bits}
use Rattle.prim_ops.specs.Values.{operation}
use Rattle.ground_net.specs.Shapes.{Shape, shape_of_row}
use Rattle.code_emit.specs.Ways.{Given}

-- The value of an operation on the value of an inner one.
abbrev pub nested_value : PrimOp → List ℕ → PrimOp → List ℕ → Given
nested_value inner inner_params outer params values = operation outer (operation inner values inner_params ∷ []) params

-- Its kind and width.
abbrev pub nested_shape : PrimOp → List ℕ → PrimOp → List ℕ → List Shape → Option Shape
nested_shape inner inner_params outer params shapes = option_and_then (λ s. shape_of_row outer params (s ∷ [])) (shape_of_row inner inner_params shapes)

-- An operation that takes lowest bits: `tail`, and `bits` down to the lowest.
abbrev pub TakesLowest : PrimOp → List ℕ → Type 0
TakesLowest prim params = (prim ≡ Tail) ⊎ ((prim ≡ Bits) × (slice_index params 1 ≡ 0))
