-- Formulas over a number of variables are made of such formulas.
use Rattle.std.proofs.Common.{◌≡◌, ℕ, ◌<◌, List, [], ◌∷◌, map, length, refl, ap, IsSome}
use Rattle.std.specs.List.{AllByRecursion}
use Rattle.bit_words.specs.declared.value.Kind.{Kind}
use Rattle.prim_ops.specs.declared.operation.PrimOp.{PrimOp}
use Rattle.prim_ops.specs.Operations.{arity_of}
use Rattle.prim_ops.specs.Kinds.{row_kind}
use Rattle.width_rules.specs.declared.rule.Formula.{Formula, every_made-Formula}
use Rattle.width_rules.specs.declared.rule.Formula.TheVariants.{Fixed, Var, Op, Greatest, rolls-Fixed, rolls-Var, rolls-Op, rolls-Greatest}
use Rattle.width_rules.specs.declared.rule.Formula.TheOpen.{Formula-F}
use Rattle.width_rules.specs.Formulas.{LayerFits, IsFormula}

pub fixed_is_formula : (count n : ℕ) → IsFormula count (Fixed n)
fixed_is_formula count n = rw (← rolls-Fixed n) (every_made-Formula (LayerFits count) (Formula-F.Fixed n) (Formula-F.Fixed n) refl tt)

pub var_is_formula : (count x : ℕ) → x < count → IsFormula count (Var x)
var_is_formula count x lt = rw (← rolls-Var x) (every_made-Formula (LayerFits count) (Formula-F.Var x) (Formula-F.Var x) refl lt)

abbrev pairs_of : (count : ℕ) (parts : List Formula) → AllByRecursion (IsFormula count) parts → List ((f : Formula) × IsFormula count f)
pairs_of count [] all = []
pairs_of count (f ∷ fs) all = (f, all.0) ∷ pairs_of count fs all.1

parts_of : (count : ℕ) (parts : List Formula) (all : AllByRecursion (IsFormula count) parts) → map (λ p. p.0) (pairs_of count parts all) ≡ parts
parts_of count [] all = refl
parts_of count (f ∷ fs) all = ap (λ gs. f ∷ gs) (parts_of count fs all.1)

pub op_is_formula : (count : ℕ) (prim : PrimOp) (kinds : List Kind) (parts : List Formula) (params : List ℕ) → length kinds ≡ (arity_of prim).0 → length parts ≡ (arity_of prim).0
    → length params ≡ (arity_of prim).1 → IsSome (row_kind prim kinds) → AllByRecursion (IsFormula count) parts → IsFormula count (Op prim kinds parts params)
op_is_formula count prim kinds parts params k p n row all =
    rw (← rolls-Op prim kinds parts params) (every_made-Formula (LayerFits count) (Formula-F.Op prim kinds parts params) (Formula-F.Op prim kinds (pairs_of count parts all) params)
    (ap (λ fs. Formula-F.Op prim kinds fs params) (parts_of count parts all)) (k, p, n, row))

pub greatest_is_formula : (count : ℕ) (parts : List Formula) → AllByRecursion (IsFormula count) parts → IsFormula count (Greatest parts)
greatest_is_formula count parts all =
    rw (← rolls-Greatest parts) (every_made-Formula (LayerFits count) (Formula-F.Greatest parts) (Formula-F.Greatest (pairs_of count parts all)) (ap Formula-F.Greatest (parts_of count parts all)) tt)
