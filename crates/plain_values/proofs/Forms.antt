-- What the definitions say of each form of expression, and of each step of a reference.
use Rattle.std.proofs.Common.{◌≡◌, ℕ, List, map, Option, arith}
use Rattle.std.proofs.lemmas.Grind.{common_steps}
use Rattle.bit_words.specs.declared.value.Kind.{Kind}
use Rattle.bit_words.specs.declared.number.Number.{Number}
use Rattle.place_text.specs.declared.place.Place.{Place}
use Rattle.fir_types.specs.declared.name.Name.{Name}
use Rattle.prim_ops.specs.declared.operation.PrimOp.{PrimOp}
use Rattle.fir_tree.specs.declared.expr.Expr.{Expr, the_lemmas}
use Rattle.fir_tree.specs.declared.expr.Suffix.{Suffix}
use Rattle.fir_tree.specs.declared.expr.Suffix.TheVariants as suffix
use Rattle.fir_tree.specs.declared.expr.Form.TheVariants as form
use Rattle.fir_tree.specs.declared.expr.Form.TheOpen.{Form-F, Suffix-F}
use Rattle.fir_meaning.specs.WellTyped as kinds
use Rattle.fir_meaning.specs.WellTyped.{typed, typed_step}
use Rattle.fir_meaning.specs.Values as tree
use Rattle.fir_meaning.specs.Values.{value, suffix_step}

pub typed-Ref : (e : Expr) (name : Name) (ss : List Suffix) → e.form ≡ form.Ref name ss → typed e ≡ kinds.of_form (Form-F.Ref name (map typed_step ss))
typed-Ref e name ss is = grind (arith, common_steps, the_lemmas)

pub value-Ref : (e : Expr) (name : Name) (ss : List Suffix) → e.form ≡ form.Ref name ss → value e ≡ tree.of_form (Form-F.Ref name (map suffix_step ss))
value-Ref e name ss is = grind (arith, common_steps, the_lemmas)

pub typed-Literal : (e : Expr) (kind : Kind) (width : Option ℕ) (n : Number) → e.form ≡ form.Literal kind width n → typed e ≡ kinds.of_form (Form-F.Literal kind width n)
typed-Literal e kind width n is = grind (arith, common_steps, the_lemmas)

pub value-Literal : (e : Expr) (kind : Kind) (width : Option ℕ) (n : Number) → e.form ≡ form.Literal kind width n → value e ≡ tree.of_form (Form-F.Literal kind width n)
value-Literal e kind width n is = grind (arith, common_steps, the_lemmas)

pub typed-Prim : (e : Expr) (prim : PrimOp) (es : List Expr) (params : List ℕ) → e.form ≡ form.Prim prim es params → typed e ≡ kinds.of_form (Form-F.Prim prim (map typed es) params)
typed-Prim e prim es params is = grind (arith, common_steps, the_lemmas)

pub value-Prim : (e : Expr) (prim : PrimOp) (es : List Expr) (params : List ℕ) → e.form ≡ form.Prim prim es params → value e ≡ tree.of_form (Form-F.Prim prim (map value es) params)
value-Prim e prim es params is = grind (arith, common_steps, the_lemmas)

pub typed-Mux : (e : Expr) (es : List Expr) → e.form ≡ form.Mux es → typed e ≡ kinds.of_form (Form-F.Mux (map typed es))
typed-Mux e es is = grind (arith, common_steps, the_lemmas)

pub value-Mux : (e : Expr) (es : List Expr) → e.form ≡ form.Mux es → value e ≡ tree.of_form (Form-F.Mux (map value es))
value-Mux e es is = grind (arith, common_steps, the_lemmas)

pub typed-Field : (s : Suffix) (name : Name) → s ≡ suffix.Field name → typed_step s ≡ kinds.of_suffix (Suffix-F.Field name)
typed-Field s name is = grind (arith, common_steps, the_lemmas)

pub value-Field : (s : Suffix) (name : Name) → s ≡ suffix.Field name → suffix_step s ≡ tree.of_suffix (Suffix-F.Field name)
value-Field s name is = grind (arith, common_steps, the_lemmas)

pub typed-At : (s : Suffix) (a b : Place) (n : ℕ) → s ≡ suffix.At a b n → typed_step s ≡ kinds.of_suffix (Suffix-F.At a b n)
typed-At s a b n is = grind (arith, common_steps, the_lemmas)

pub value-At : (s : Suffix) (a b : Place) (n : ℕ) → s ≡ suffix.At a b n → suffix_step s ≡ tree.of_suffix (Suffix-F.At a b n)
value-At s a b n is = grind (arith, common_steps, the_lemmas)

pub typed-Index : (s : Suffix) (a : Place) (e : Expr) → s ≡ suffix.Index a e → typed_step s ≡ kinds.of_suffix (Suffix-F.Index a (typed e))
typed-Index s a e is = grind (arith, common_steps, the_lemmas)

pub value-Index : (s : Suffix) (a : Place) (e : Expr) → s ≡ suffix.Index a e → suffix_step s ≡ tree.of_suffix (Suffix-F.Index a (value e))
value-Index s a e is = grind (arith, common_steps, the_lemmas)
