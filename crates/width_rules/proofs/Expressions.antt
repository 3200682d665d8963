-- Expressions over their parts, and references step by step.
use Rattle.std.proofs.Common.{◌≡◌, ℕ, ◌+◌, ◌≤◌, ◌<◌, List, [], ◌∷◌, ◌++◌, map, length, take, get_or, zip, None, sym, ap, ap₂, ◌∙◌, arith}
use Rattle.std.proofs.lemmas.Grind.{common_steps}
use Rattle.std.proofs.lemmas.List.{map-append, take_more}
use Rattle.std.proofs.lemmas.List.Sums.{fold-append}
use Rattle.std.proofs.lemmas.Simd.{map-map}
use Rattle.bit_words.specs.declared.value.Kind.{Kind}
use Rattle.prim_ops.specs.declared.operation.PrimOp.{PrimOp}
use Rattle.prim_ops.specs.Kinds.{row_kind}
use Rattle.fir_types.specs.declared.fir_type.FirType.{FirType}
use Rattle.fir_types.specs.declared.name.Name.{Name}
use Rattle.fir_tree.specs.declared.expr.Expr.{Expr, the_lemmas}
use Rattle.fir_tree.specs.declared.expr.Suffix.{Suffix}
use Rattle.fir_tree.specs.declared.expr.Form.TheVariants as form
use Rattle.fir_tree.specs.Parts.{source_of}
use Rattle.fir_tree.specs.Kinds.{sign_or_unsigned}
use Rattle.width_rules.specs.declared.rule.Formula.{Formula}
use Rattle.width_rules.specs.declared.component.Component.{Component}
use Rattle.width_rules.specs.Sources.{Known, Measured, measured, measured_reference, component, suffix_step, named, kind_of, lone, result_type, operation, choice, greater_of}
use Rattle.width_rules.specs.Parts.{formula_over, operation_over}

pub measured-ref : (e : Expr) (name : Name) (suffixes : List Suffix) (known : Known) → e.form ≡ form.Ref name suffixes → measured e known ≡ measured_reference (named (map suffix_step suffixes) (component known name.id))
measured-ref e name suffixes known h = grind (arith, common_steps, the_lemmas)

measured-operation : (e : Expr) (op : PrimOp) (operands : List Expr) (params : List ℕ) (known : Known) → e.form ≡ form.Prim op operands params
    → measured e known ≡ operation op e.place (map (λ x. measured x known) operands) params
measured-operation e op operands params known h = grind (arith, common_steps, the_lemmas, map-map)

pub measured-prim : (e : Expr) (op : PrimOp) (operands : List Expr) (params : List ℕ) (known : Known) → e.form ≡ form.Prim op operands params
    → measured e known ≡ operation_over op e.place (map (λ x. kind_of (measured x known)) operands) (map (λ x. lone (measured x known).formulas) operands) params
measured-prim e op operands params known h = measured-operation e op operands params known h
    ∙ ap₂ (λ kinds formulas. operation_over op e.place kinds formulas params) (map-map kind_of (λ x. measured x known) operands) (map-map (λ m. lone m.formulas) (λ x. measured x known) operands)

pub measured-mux : (e : Expr) (operands : List Expr) (known : Known) → e.form ≡ form.Mux operands → measured e known ≡ choice (map (λ x. measured x known) operands)
measured-mux e operands known h = grind (arith, common_steps, the_lemmas, map-map)

-- a choice between the second and the third of three
pub choice_of_three : (f : Expr → Measured) (xs : List Expr) (a b : Expr) → 3 ≤ length xs → length xs ≤ 3 → a ≡ get_or xs 1 a → b ≡ get_or xs 2 b
    → choice (map f xs) ≡ record { part = source_of (f a).part.typ; formulas = map greater_of (zip (f a).formulas (f b).formulas) }
choice_of_three f [] a b ge le is_a is_b = absurd (omega (arith, ge))
choice_of_three f (x ∷ []) a b ge le is_a is_b = absurd (omega (arith, ge))
choice_of_three f (x ∷ y ∷ []) a b ge le is_a is_b = absurd (omega (arith, ge))
choice_of_three f (x ∷ y ∷ z ∷ []) a b ge le is_a is_b =
    ap₂ (λ p q. record { part = source_of (f p).part.typ; formulas = map greater_of (zip (f p).formulas (f q).formulas) }) (sym is_a) (sym is_b)
choice_of_three f (x ∷ y ∷ z ∷ w ∷ ws) a b ge le is_a is_b = absurd (omega (arith, le))

-- one step more of a reference
pub named_more : (suffixes : List Suffix) (i : ℕ) (s : Suffix) (base before after : Component) → i < length suffixes → s ≡ get_or suffixes i s
    → before ≡ named (map suffix_step (take i suffixes)) base → after ≡ suffix_step s before → after ≡ named (map suffix_step (take (i + 1) suffixes)) base
named_more suffixes i s base before after lt is h a =
    let next : map suffix_step (take (i + 1) suffixes) ≡ map suffix_step (take i suffixes) ++ suffix_step s ∷ []
    = ap (map suffix_step) (take_more suffixes i s lt) ∙ map-append suffix_step (take i suffixes) (get_or suffixes i s ∷ []) ∙ ap (λ y. map suffix_step (take i suffixes) ++ suffix_step y ∷ []) (sym is) in
    a ∙ ap (suffix_step s) h ∙ sym (ap (λ steps. named steps base) next ∙ fold-append (λ part step. step part) base (map suffix_step (take i suffixes)) (suffix_step s ∷ []))

-- an operation over what was found of its operands
pub prim_told : (e : Expr) (op : PrimOp) (operands : List Expr) (params ps : List ℕ) (known : Known) (kinds : List Kind) (formulas : List Formula) (typ : FirType) (own : Formula)
    → e.form ≡ form.Prim op operands params → kinds ≡ map (λ x. kind_of (measured x known)) operands → formulas ≡ map (λ x. lone (measured x known).formulas) operands → ps ≡ params
    → typ ≡ result_type op e.place (sign_or_unsigned (row_kind op kinds)) → own ≡ formula_over op kinds formulas ps → record { part = source_of typ; formulas = own ∷ [] } ≡ measured e known
prim_told e op operands params ps known kinds formulas typ own h k f p t o =
    ap₂ (λ typ own. record { part = source_of typ; formulas = own ∷ [] }) t o
    ∙ ap₂ (λ ks fs. operation_over op e.place ks fs ps) k f
    ∙ ap (operation_over op e.place (map (λ x. kind_of (measured x known)) operands) (map (λ x. lone (measured x known).formulas) operands)) p
    ∙ sym (measured-prim e op operands params known h)
