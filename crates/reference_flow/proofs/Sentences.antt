-- The flows of the references in expressions and statements, part by part.
use Rattle.std.proofs.Common.{◌≡◌, ◌⊎◌, inl, inr, ℕ, List, [], ◌∷◌, ◌++◌, map, arith}
use Rattle.std.specs.List.{flat_map}
use Rattle.std.proofs.lemmas.Grind.{common_steps}
use Rattle.std.proofs.lemmas.List.Folds.{flat_map-map}
use Rattle.place_text.specs.declared.place.Place.{Place}
use Rattle.fir_types.specs.declared.name.Name.{Name}
use Rattle.fir_types.specs.declared.fir_type.FirType.{FirType}
use Rattle.fir_tree.specs.declared.expr.Expr.{Expr, the_lemmas as of_expressions}
use Rattle.fir_tree.specs.declared.expr.Suffix.{Suffix}
use Rattle.fir_tree.specs.declared.expr.Suffix.TheVariants as suffix
use Rattle.fir_tree.specs.declared.expr.Form.TheVariants as form
use Rattle.fir_tree.specs.declared.stmt.Stmt.{Stmt, the_lemmas as of_statements}
use Rattle.fir_tree.specs.declared.stmt.Arm.{Arm}
use Rattle.fir_tree.specs.declared.stmt.Stmt.TheVariants as stmt
use Rattle.reference_flow.specs.Flows.{Components, expr_flows, suffix_step, named, stmt_flows, arm_flows}
use Rattle.reference_flow.specs.Counting.{suffix_flows}

pub flows-ref : (components : Components) (e : Expr) (name : Name) (suffixes : List Suffix) → e.form ≡ form.Ref name suffixes
    → expr_flows e components ≡ (named (map suffix_step suffixes) (components name.id)).flow ∷ flat_map (λ s. suffix_flows s components) suffixes
flows-ref components e name suffixes is = grind (arith, common_steps, of_expressions, flat_map-map)

pub flows-index : (components : Components) (s : Suffix) (at : Place) (index : Expr) → s ≡ suffix.Index at index → suffix_flows s components ≡ expr_flows index components
flows-index components s at index is = grind (arith, common_steps, of_expressions)

pub flows-no_index : (components : Components) (s : Suffix)
    → ((name : Name) × (s ≡ suffix.Field name)) ⊎ ((bracket : Place) × (at : Place) × (n : ℕ) × (s ≡ suffix.At bracket at n)) → suffix_flows s components ≡ []
flows-no_index components s (inl (name, is)) = grind (arith, common_steps, of_expressions)
flows-no_index components s (inr (bracket, at, n, is)) = grind (arith, common_steps, of_expressions)

pub flows-reset : (components : Components) (s : Stmt) (name : Name) (typ : FirType) (clock reset init : Expr) → s ≡ stmt.RegReset name typ clock reset init
    → stmt_flows s components ≡ expr_flows clock components ++ (expr_flows reset components ++ expr_flows init components)
flows-reset components s name typ clock reset init is = grind (arith, common_steps, of_statements)

pub flows-connect : (components : Components) (s : Stmt) (left right : Expr) → s ≡ stmt.Connect left right
    → stmt_flows s components ≡ expr_flows left components ++ expr_flows right components
flows-connect components s left right is = grind (arith, common_steps, of_statements)

pub flows-when : (components : Components) (s : Stmt) (arms : List Arm) (other : List Stmt) → s ≡ stmt.When arms other
    → stmt_flows s components ≡ flat_map (λ a. arm_flows a components) arms ++ flat_map (λ x. stmt_flows x components) other
flows-when components s arms other is = grind (arith, common_steps, of_statements, flat_map-map)

pub flows-arm : (components : Components) (a : Arm)
    → arm_flows a components ≡ expr_flows a.condition components ++ flat_map (λ s. stmt_flows s components) a.body
flows-arm components a = grind (arith, common_steps, of_statements, flat_map-map)
