-- Small statements and their sizes.
use Rattle.std.proofs.Common.{◌≡◌, ℕ, [], ◌∷◌, arith}
use Rattle.std.proofs.lemmas.Grind.{common_steps}
use Rattle.place_text.specs.declared.place.Place.{Place}
use Rattle.fir_types.specs.declared.name.Name.{Name}
use Rattle.fir_types.specs.declared.fir_type.FirType.{FirType, the_lemmas as type_lemmas}
use Rattle.fir_types.specs.declared.fir_type.Shape.TheVariants as shape
use Rattle.fir_tree.specs.declared.expr.Expr.{Expr, the_lemmas as expr_lemmas}
use Rattle.fir_tree.specs.declared.expr.Form.TheVariants as form
use Rattle.fir_tree.specs.declared.expr.Suffix.TheVariants as suffix
use Rattle.fir_tree.specs.declared.stmt.Stmt.{the_lemmas as stmt_lemmas}
use Rattle.fir_tree.specs.declared.stmt.Stmt.TheVariants as stmt
use Rattle.fir_tree.specs.LeafNames.{Texts}
use Rattle.size_check.specs.Weights.{Typing, nodes}
use Rattle.size_check.specs.Owns.{stmt_own}

abbrev place : Place
place = record { line = 1; column = 1 }

abbrev name : ℕ → Name
name id = record { id = id; place = place }

abbrev reference : ℕ → Expr
reference id = record { place = place; form = form.Ref (name id) [] }

-- `v[0]` is two nodes.
two_nodes : nodes (record { place = place; form = form.Ref (name 20) (suffix.At place place 0 ∷ []) }) ≡ 2
two_nodes = grind (arith, common_steps, expr_lemmas)

-- `x` and `y` in `connect x, y` are nodes: with the statement they are 3.
three_nodes : (texts : Texts) (types : Typing) (typ : FirType) → types 20 ≡ typ → types 21 ≡ typ → typ.shape ≡ shape.Reset
    → (stmt_own texts types (stmt.Connect (reference 20) (reference 21)) 0).size ≡ 3
three_nodes texts types typ a b c = grind (arith, common_steps, expr_lemmas, stmt_lemmas, type_lemmas)

-- Under a condition of one node `skip` is 2, and the `when` around it is 2 as well.
four : (texts : Texts) (types : Typing) (typ : FirType) → types 20 ≡ typ → typ.shape ≡ shape.Reset
    → (stmt_own texts types (stmt.When (record { condition = reference 20; body = stmt.Skip place ∷ [] } ∷ []) []) 0).size ≡ 4
four texts types typ a c = grind (arith, common_steps, expr_lemmas, stmt_lemmas, type_lemmas)
