-- What the definitions say of sources by the forms of types, expressions and statements.
use Rattle.std.proofs.Common.{arith, ◌≡◌, Bool, true, ◌||◌, List, [], ◌∷◌, map, refl, ap}
use Rattle.std.proofs.lemmas.Grind.{common_steps}
use Rattle.std.specs.List.{list_any}
use Rattle.fir_types.specs.declared.fir_type.FirType.{FirType, the_lemmas as type_lemmas}
use Rattle.fir_types.specs.declared.fir_type.Shape.TheVariants as shape
use Rattle.fir_types.specs.declared.fir_type.Field.{Field}
use Rattle.fir_tree.specs.declared.expr.Expr.{Expr, the_lemmas as expr_lemmas}
use Rattle.fir_tree.specs.declared.expr.Form.TheVariants as form
use Rattle.fir_tree.specs.declared.stmt.Stmt.{Stmt, the_lemmas as stmt_lemmas}
use Rattle.fir_tree.specs.declared.stmt.Stmt.TheVariants as stmt
use Rattle.fir_tree.specs.declared.stmt.Arm.{Arm}
use Rattle.reset_search.specs.Sources.{any_of, holds_async, field_holds_async, is_a_cast, stmt_source, arm_source}

any-map : {A : Type 0} (f : A → Bool) (xs : List A) → any_of (map f xs) ≡ list_any f xs
any-map f [] = refl
any-map f (x ∷ xs) = ap (λ b. f x || b) (any-map f xs)

pub holds-bundle : (t : FirType) (fields : List Field) → t.shape ≡ shape.Bundle fields → holds_async t ≡ list_any field_holds_async fields
holds-bundle t fields e = grind (arith, common_steps, type_lemmas, any-map)

pub holds-async : (t : FirType) → t.shape ≡ shape.AsyncReset → holds_async t ≡ true
holds-async t e = grind (arith, common_steps, type_lemmas)

pub cast-mux : (e : Expr) (operands : List Expr) → e.form ≡ form.Mux operands → is_a_cast e ≡ list_any is_a_cast operands
cast-mux e operands h = grind (arith, common_steps, expr_lemmas, any-map)

pub source-when : (s : Stmt) (arms : List Arm) (other : List Stmt) → s ≡ stmt.When arms other → stmt_source s ≡ (list_any arm_source arms || list_any stmt_source other)
source-when s arms other h = grind (arith, common_steps, stmt_lemmas, any-map)

pub source-arm : (a : Arm) → arm_source a ≡ list_any stmt_source a.body
source-arm a = grind (arith, common_steps, stmt_lemmas, any-map)
