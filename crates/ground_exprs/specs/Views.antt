-- Steps from a part to a part of it.
use Rattle.std.specs.Prelude.{◌≡◌, ℕ, ◌+◌}
use Rattle.fir_types.specs.declared.fir_type.FirType.{FirType}
use Rattle.fir_types.specs.declared.leaf.PathStep.{PathStep}
use Rattle.ground_exprs.specs.declared.part.Part.{Part}
use Rattle.ground_exprs.specs.Numbers.{IsInside}

-- The part behind this step begins so many leaves further on as stand before its type in the outer one.
pub record Moves (outer : FirType) (next : PathStep) (part : Part) (inner : FirType) (after : Part) : Type 0 where
  pub before : ℕ
  pub inside : IsInside outer next inner before
  pub first : after.first ≡ part.first + before
  pub picks : after.picks ≡ part.picks
