-- The width that a formula gives under an assignment of widths to the variables (FIRRTL specification 3.0, "Width Inference").
use Rattle.std.specs.Prelude.{◌≡◌, ℕ, ◌<◌, nat_le, if◌then◌else◌, List, [], ◌∷◌, map, length, get_or, IsSome}
use Rattle.prim_ops.specs.declared.widths.Width.{Width}
use Rattle.prim_ops.specs.declared.widths.Width.TheVariants.{Bits, Over}
use Rattle.prim_ops.specs.Operations.{arity_of}
use Rattle.prim_ops.specs.Kinds.{row_kind}
use Rattle.prim_ops.specs.Widths.{bounded, row_width}
use Rattle.width_rules.specs.declared.rule.Formula.{Formula, fold-Formula, every-Formula}
use Rattle.width_rules.specs.declared.rule.Formula.TheOpen.{Formula-F}

-- Widths in order: Over is greater than every number of bits, which is at most 128.
abbrev pub level : Width → ℕ
level (Bits n) = n
level Over = 129

abbrev pub wider : Width → Width → Width
wider v w = if nat_le (level v) (level w) then w else v

-- the greatest of some widths, and 0 bits of none
abbrev pub greatest : List Width → Width
greatest [] = Bits 0
greatest (w ∷ widths) = wider w (greatest widths)

-- One layer, with the width of each part in its place.
abbrev pub of_layer : Formula-F (List Width → Width) → List Width → Width
of_layer (Formula-F.Fixed n) widths = bounded n
of_layer (Formula-F.Var x) widths = get_or widths x (Bits 0)
of_layer (Formula-F.Op prim kinds parts params) widths = row_width prim kinds (map (λ part. part widths) parts) params
of_layer (Formula-F.Greatest parts) widths = greatest (map (λ part. part widths) parts)

-- The width of a formula.
abbrev pub width_under : Formula → List Width → Width
width_under = fold-Formula (List Width → Width) of_layer

-- A formula over this many variables, whose operations have operands and parameters as their rows say.
abbrev pub LayerFits : ℕ → {X : Type 0} → Formula-F X → Type 0
LayerFits count (Formula-F.Fixed n) = Unit {0}
LayerFits count (Formula-F.Var x) = x < count
LayerFits count (Formula-F.Op prim kinds parts params) =
    (length kinds ≡ (arity_of prim).0) × (length parts ≡ (arity_of prim).0) × (length params ≡ (arity_of prim).1) × IsSome (row_kind prim kinds)
LayerFits count (Formula-F.Greatest parts) = Unit {0}

abbrev pub IsFormula : ℕ → Formula → Type 0
IsFormula count = every-Formula (LayerFits count)
