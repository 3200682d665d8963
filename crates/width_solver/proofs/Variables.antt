-- The variables of a formula.
use Rattle.std.proofs.Common.{◌≡◌, ℕ, ◌<◌, List, [], ◌∷◌, get_or, refl, ap, ap₂, sym, ◌∙◌, arith}
use Rattle.std.specs.List.{AllByRecursion, All, Contains, flat_map}
use Rattle.std.proofs.lemmas.Grind.{common_steps}
use Rattle.std.proofs.lemmas.List.Folds.{flat_map-map}
use Rattle.std.proofs.lemmas.List.Elements.{All-nil, All-cons, All-append, Contains-append_left, Contains-append_right, Contains-push}
use Rattle.bit_words.specs.declared.value.Kind.{Kind}
use Rattle.prim_ops.specs.declared.operation.PrimOp.{PrimOp}
use Rattle.prim_ops.specs.declared.widths.Width.{Width}
use Rattle.prim_ops.specs.declared.widths.Width.TheVariants.{Bits}
use Rattle.prim_ops.specs.Widths.{row_width}
use Rattle.width_rules.specs.declared.rule.Formula.{Formula, the_lemmas}
use Rattle.width_rules.specs.declared.rule.Formula.TheVariants.{Fixed, Var, Op, Greatest}
use Rattle.width_rules.specs.Formulas.{greatest, width_under, IsFormula}
use Rattle.width_rules.proofs.FormulaLemmas.{formula_induction, widths_under, width-Fixed, width-Var, width-Op, width-Greatest, fits-Var, fits-operands, fits-Greatest}
use Rattle.width_solver.specs.Readers.{variables}

variables-Fixed : (n : ℕ) → variables (Fixed n) ≡ []
variables-Fixed n = grind (arith, common_steps, the_lemmas)

variables-Var : (x : ℕ) → variables (Var x) ≡ x ∷ []
variables-Var x = grind (arith, common_steps, the_lemmas)

variables-Op : (prim : PrimOp) (kinds : List Kind) (parts : List Formula) (params : List ℕ) → variables (Op prim kinds parts params) ≡ flat_map variables parts
variables-Op prim kinds parts params = grind (arith, common_steps, the_lemmas, flat_map-map)

variables-Greatest : (parts : List Formula) → variables (Greatest parts) ≡ flat_map variables parts
variables-Greatest parts = grind (arith, common_steps, the_lemmas, flat_map-map)

-- all variables of a formula are below the number of variables

abbrev Within : ℕ → Formula → Type 0
Within count f = IsFormula count f → All (λ x. x < count) (variables f)

parts_within : (count : ℕ) (parts : List Formula) → AllByRecursion (Within count) parts → AllByRecursion (IsFormula count) parts → All (λ x. x < count) (flat_map variables parts)
parts_within count [] all fit = All-nil (λ x. x < count)
parts_within count (f ∷ fs) all fit = All-append (λ x. x < count) (variables f) (flat_map variables fs) (all.0 fit.0) (parts_within count fs all.1 fit.1)

pub variables_within : (count : ℕ) (f : Formula) → IsFormula count f → All (λ x. x < count) (variables f)
variables_within count = formula_induction (Within count)
    (λ n h. rw (variables-Fixed n) (All-nil (λ x. x < count)))
    (λ x h. rw (variables-Var x) (All-cons (λ x. x < count) x [] (fits-Var count x h) (All-nil (λ x. x < count))))
    (λ prim kinds parts params all h. rw (variables-Op prim kinds parts params) (parts_within count parts all (fits-operands count prim kinds parts params h)))
    (λ parts all h. rw (variables-Greatest parts) (parts_within count parts all (fits-Greatest count parts h)))

-- a formula has one width under assignments that agree on its variables

abbrev Agree : List Width → List Width → List ℕ → Type 0
Agree v w xs = (x : ℕ) → Contains xs x → get_or v x (Bits 0) ≡ get_or w x (Bits 0)

abbrev Same : List Width → List Width → Formula → Type 0
Same v w f = Agree v w (variables f) → width_under f v ≡ width_under f w

parts_same : (v w : List Width) (parts : List Formula) → AllByRecursion (Same v w) parts → Agree v w (flat_map variables parts) → widths_under parts v ≡ widths_under parts w
parts_same v w [] all h = refl
parts_same v w (f ∷ fs) all h = ap₂ (λ x xs. x ∷ xs)
    (all.0 (λ x c. h x (Contains-append_left (variables f) (flat_map variables fs) x c)))
    (parts_same v w fs all.1 (λ x c. h x (Contains-append_right (variables f) (flat_map variables fs) x c)))

pub same_width : (v w : List Width) (f : Formula) → ((x : ℕ) → Contains (variables f) x → get_or v x (Bits 0) ≡ get_or w x (Bits 0)) → width_under f v ≡ width_under f w
same_width v w = formula_induction (Same v w)
    (λ n h. width-Fixed n v ∙ sym (width-Fixed n w))
    (λ x h. width-Var x v ∙ h x (rw (variables-Var x) (Contains-push [] x)) ∙ sym (width-Var x w))
    (λ prim kinds parts params all h. width-Op prim kinds parts params v
    ∙ ap (λ ws. row_width prim kinds ws params) (parts_same v w parts all (rw (variables-Op prim kinds parts params) at h)) ∙ sym (width-Op prim kinds parts params w))
    (λ parts all h. width-Greatest parts v ∙ ap greatest (parts_same v w parts all (rw (variables-Greatest parts) at h)) ∙ sym (width-Greatest parts w))
