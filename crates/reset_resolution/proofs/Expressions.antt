-- What the definitions say of expressions by their forms.
use Rattle.std.proofs.Common.{arith, ◌≡◌, ℕ, zero, suc, ◌+◌, ◌<◌, ◌≤◌, Bool, true, false, List, [], ◌∷◌, ◌++◌, map, take, drop, length, get_or, Option, Some, None, refl, sym, ap, ap₂, ◌∙◌, nat_eq, if◌then◌else◌}
use Rattle.std.proofs.lemmas.Grind.{common_steps}
use Rattle.std.proofs.lemmas.Simd.{map-map}
use Rattle.std.proofs.lemmas.List.{map-append, take_more}
use Rattle.std.specs.Prelude.{option_map, option_and_then}
use Rattle.std.specs.Map.{lookup}
use Rattle.bit_words.specs.declared.value.Kind.{Kind}
use Rattle.fir_types.specs.declared.name.Name.{Name}
use Rattle.prim_ops.specs.declared.operation.PrimOp.{PrimOp}
use Rattle.prim_ops.specs.Kinds.{row_kind}
use Rattle.fir_tree.specs.declared.expr.Expr.{Expr, the_lemmas}
use Rattle.fir_tree.specs.declared.expr.Suffix.{Suffix}
use Rattle.fir_tree.specs.declared.expr.Form.TheVariants as form
use Rattle.reset_search.specs.declared.spot.Reach.{Reach}
use Rattle.reset_search.specs.Grounds.{are_alike}
use Rattle.reset_search.specs.Feeds.{Known, Step, along, reached_by, operation, result, choice, reach, signs_of, with_sign}
use Rattle.reset_resolution.specs.Layers.{suffix_step}

-- What expressions come to

pub reached-ref : (e : Expr) (name : Name) (suffixes : List Suffix) (known : Known) → e.form ≡ form.Ref name suffixes → reached_by e known ≡ along (map suffix_step suffixes) (lookup (nat_eq name.id) known)
reached-ref e name suffixes known h = grind (arith, common_steps, the_lemmas)

pub reached-prim : (e : Expr) (op : PrimOp) (operands : List Expr) (params : List ℕ) (known : Known) → e.form ≡ form.Prim op operands params
    → reached_by e known ≡ operation op e.place (map (λ x. reached_by x known) operands)
reached-prim e op operands params known h = grind (arith, common_steps, the_lemmas, map-map)

pub reached-mux : (e : Expr) (operands : List Expr) (known : Known) → e.form ≡ form.Mux operands → reached_by e known ≡ choice (map (λ x. reached_by x known) operands)
reached-mux e operands known h = grind (arith, common_steps, the_lemmas, map-map)

three : (f : Expr → Option Reach) (xs : List Expr) (c a b : Expr) → 3 ≤ length xs → length xs ≤ 3 → c ≡ get_or xs 0 c → a ≡ get_or xs 1 a → b ≡ get_or xs 2 b
    → map f xs ≡ f c ∷ f a ∷ f b ∷ []
three f [] c a b ge le is_c is_a is_b = absurd (omega (arith, ge))
three f (x ∷ []) c a b ge le is_c is_a is_b = absurd (omega (arith, ge))
three f (x ∷ y ∷ []) c a b ge le is_c is_a is_b = absurd (omega (arith, ge))
three f (x ∷ y ∷ z ∷ []) c a b ge le is_c is_a is_b = λ i. f (sym is_c i) ∷ f (sym is_a i) ∷ f (sym is_b i) ∷ []
three f (x ∷ y ∷ z ∷ w ∷ ws) c a b ge le is_c is_a is_b = absurd (omega (arith, le))

-- a choice between the second and the third of three that have types
pub choice_three : (f : Expr → Option Reach) (xs : List Expr) (c a b : Expr) (rc ra rb : Reach) (t : Bool) → 3 ≤ length xs → length xs ≤ 3
    → c ≡ get_or xs 0 c → a ≡ get_or xs 1 a → b ≡ get_or xs 2 b → f c ≡ Some rc → f a ≡ Some ra → f b ≡ Some rb → are_alike ra.typ rb.typ ≡ t
    → choice (map f xs) ≡ (if t then Some (reach ra.typ []) else None)
choice_three f xs c a b rc ra rb t ge le is_c is_a is_b fc fa fb alike =
    ap choice (three f xs c a b ge le is_c is_a is_b) ∙ (λ i. choice (fc i ∷ fa i ∷ fb i ∷ [])) ∙ ap (λ q. if q then Some (reach ra.typ []) else None) alike

-- an operation over what was found of its operands
pub prim_told : (e : Expr) (op : PrimOp) (operands : List Expr) (params : List ℕ) (known : Known) (signs : Option (List Kind)) (row : Option Kind) → e.form ≡ form.Prim op operands params
    → signs ≡ signs_of (map (λ x. reached_by x known) operands) → row ≡ option_and_then (row_kind op) signs → reached_by e known ≡ option_map (result op e.place) row
prim_told e op operands params known signs row is s r =
    reached-prim e op operands params known is ∙ ap (λ x. option_map (result op e.place) (option_and_then (row_kind op) x)) (sym s) ∙ ap (option_map (result op e.place)) (sym r)
