-- Formulas: induction, and what their widths are.
use Rattle.std.proofs.Common.{◌≡◌, ℕ, ◌<◌, List, [], ◌∷◌, map, length, get_or, refl, sym, subst, ap, arith, IsSome}
use Rattle.std.specs.List.{AllByRecursion}
use Rattle.std.proofs.lemmas.Grind.{common_steps}
use Rattle.bit_words.specs.declared.value.Kind.{Kind}
use Rattle.prim_ops.specs.declared.operation.PrimOp.{PrimOp}
use Rattle.prim_ops.specs.declared.widths.Width.{Width}
use Rattle.prim_ops.specs.declared.widths.Width.TheVariants.{Bits}
use Rattle.prim_ops.specs.Operations.{arity_of}
use Rattle.prim_ops.specs.Kinds.{row_kind}
use Rattle.prim_ops.specs.Widths.{bounded, row_width}
use Rattle.width_rules.specs.declared.rule.Formula.{Formula, ind-Formula, roll-Formula, map-Formula, the_lemmas, every_here-Formula, every_held-Formula}
use Rattle.width_rules.specs.declared.rule.Formula.TheVariants.{Fixed, Var, Op, Greatest, rolls-Fixed, rolls-Var, rolls-Op, rolls-Greatest, outs-Var, outs-Op, outs-Greatest}
use Rattle.width_rules.specs.declared.rule.Formula.TheOpen.{Formula-F}
use Rattle.width_rules.specs.Formulas.{greatest, width_under, LayerFits, IsFormula}

module _ (P : Formula → Type 0) (fixed : (n : ℕ) → P (Fixed n)) (var : (x : ℕ) → P (Var x))
    (op : (prim : PrimOp) (kinds : List Kind) (parts : List Formula) (params : List ℕ) → AllByRecursion P parts → P (Op prim kinds parts params))
    (most : (parts : List Formula) → AllByRecursion P parts → P (Greatest parts)) where
  parts_all : (ys : List ((f : Formula) × P f)) → AllByRecursion P (map (λ y. y.0) ys)
  parts_all [] = tt
  parts_all (y ∷ ys) = (y.1, parts_all ys)

  -- what holds of each formula whose parts it holds of holds of every formula
  pub formula_induction : (f : Formula) → P f
  formula_induction = ind-Formula P (λ x y e. elim y as (λ y. map-Formula _ Formula (λ e'. e'.0) y ≡ x → P (roll-Formula x)) [
    | Formula-F.Fixed n ↦ λ e. rw (← e) (subst P (sym (rolls-Fixed n)) (fixed n))
    | Formula-F.Var n ↦ λ e. rw (← e) (subst P (sym (rolls-Var n)) (var n))
    | Formula-F.Op prim kinds ys params ↦ λ e. rw (← e) (subst P (sym (rolls-Op prim kinds (map (λ y. y.0) ys) params)) (op prim kinds (map (λ y. y.0) ys) params (parts_all ys)))
    | Formula-F.Greatest ys ↦ λ e. rw (← e) (subst P (sym (rolls-Greatest (map (λ y. y.0) ys))) (most (map (λ y. y.0) ys) (parts_all ys)))
  ] e)

-- the widths of some formulas
abbrev pub widths_under : List Formula → List Width → List Width
widths_under parts w = map (λ part. width_under part w) parts

map-map : {X Y Z : Type 0} (g : Y → Z) (h : X → Y) (xs : List X) → map g (map h xs) ≡ map (λ x. g (h x)) xs
map-map g h [] = refl
map-map g h (x ∷ xs) = ap (λ zs. g (h x) ∷ zs) (map-map g h xs)

pub width-Fixed : (n : ℕ) (w : List Width) → width_under (Fixed n) w ≡ bounded n
width-Fixed n w = grind (arith, common_steps, the_lemmas)

pub width-Var : (x : ℕ) (w : List Width) → width_under (Var x) w ≡ get_or w x (Bits 0)
width-Var x w = grind (arith, common_steps, the_lemmas)

pub width-Op : (prim : PrimOp) (kinds : List Kind) (parts : List Formula) (params : List ℕ) (w : List Width) → width_under (Op prim kinds parts params) w ≡ row_width prim kinds (widths_under parts w) params
width-Op prim kinds parts params w = grind (arith, common_steps, the_lemmas, map-map)

pub width-Greatest : (parts : List Formula) (w : List Width) → width_under (Greatest parts) w ≡ greatest (widths_under parts w)
width-Greatest parts w = grind (arith, common_steps, the_lemmas, map-map)

pub fits-Var : (count x : ℕ) → IsFormula count (Var x) → x < count
fits-Var count x h = rw outs-Var at (every_here-Formula (LayerFits count) (Var x) h)

pub fits-Op : (count : ℕ) (prim : PrimOp) (kinds : List Kind) (parts : List Formula) (params : List ℕ) → IsFormula count (Op prim kinds parts params)
    → (length kinds ≡ (arity_of prim).0) × (length parts ≡ (arity_of prim).0) × (length params ≡ (arity_of prim).1) × IsSome (row_kind prim kinds)
fits-Op count prim kinds parts params h = rw outs-Op at (every_here-Formula (LayerFits count) (Op prim kinds parts params) h)

parts_fit : (count : ℕ) (ps : List ((f : Formula) × IsFormula count f)) → AllByRecursion (IsFormula count) (map (λ p. p.0) ps)
parts_fit count [] = tt
parts_fit count (p ∷ ps) = (p.1, parts_fit count ps)

layer_op : (count : ℕ) (prim : PrimOp) (kinds : List Kind) (parts : List Formula) (params : List ℕ) (y : Formula-F ((f : Formula) × IsFormula count f))
    → map-Formula ((f : Formula) × IsFormula count f) Formula (λ p. p.0) y ≡ Formula-F.Op prim kinds parts params → AllByRecursion (IsFormula count) parts
layer_op count prim kinds parts params (Formula-F.Fixed n) e = cc
layer_op count prim kinds parts params (Formula-F.Var x) e = cc
layer_op count prim kinds parts params (Formula-F.Op prim' kinds' ps params') e = let same : map (λ p. p.0) ps ≡ parts = cc in rw (← same) (parts_fit count ps)
layer_op count prim kinds parts params (Formula-F.Greatest ps) e = cc

layer_greatest : (count : ℕ) (parts : List Formula) (y : Formula-F ((f : Formula) × IsFormula count f))
    → map-Formula ((f : Formula) × IsFormula count f) Formula (λ p. p.0) y ≡ Formula-F.Greatest parts → AllByRecursion (IsFormula count) parts
layer_greatest count parts (Formula-F.Fixed n) e = cc
layer_greatest count parts (Formula-F.Var x) e = cc
layer_greatest count parts (Formula-F.Op prim kinds ps params) e = cc
layer_greatest count parts (Formula-F.Greatest ps) e = let same : map (λ p. p.0) ps ≡ parts = cc in rw (← same) (parts_fit count ps)

pub fits-operands : (count : ℕ) (prim : PrimOp) (kinds : List Kind) (parts : List Formula) (params : List ℕ) → IsFormula count (Op prim kinds parts params) → AllByRecursion (IsFormula count) parts
fits-operands count prim kinds parts params h =
    let held = every_held-Formula (LayerFits count) (Op prim kinds parts params) h in layer_op count prim kinds parts params held.0 (rw outs-Op at held.1)

pub fits-Greatest : (count : ℕ) (parts : List Formula) → IsFormula count (Greatest parts) → AllByRecursion (IsFormula count) parts
fits-Greatest count parts h = let held = every_held-Formula (LayerFits count) (Greatest parts) h in layer_greatest count parts held.0 (rw outs-Greatest at held.1)
