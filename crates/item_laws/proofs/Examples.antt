-- What drives a component, and the conditions of items.
use Rattle.std.proofs.Common.{◌≡◌, [], ◌∷◌, Some, None, arith}
use Rattle.std.proofs.lemmas.Grind.{common_steps}
use Rattle.place_text.specs.declared.place.Place.{Place}
use Rattle.fir_types.specs.declared.name.Name.{Name}
use Rattle.fir_tree.specs.declared.expr.Expr.{Expr, the_lemmas as expr_lemmas}
use Rattle.fir_tree.specs.declared.stmt.Stmt.{the_lemmas as stmt_lemmas}
use Rattle.fir_tree.specs.declared.stmt.Stmt.TheVariants as stmt
use Rattle.item_lines.specs.declared.line.Line.{the_lemmas as line_lemmas}
use Rattle.item_lines.specs.declared.line.Line.TheVariants as entry
use Rattle.item_lines.specs.Items.{component}
use Rattle.item_laws.specs.Drivers.{drivers, conditions}

module _ (at : Place) (wire : Name) (source condition clock : Expr) where
  -- a connect, and an `invalidate` within a `when`
  connected_and_invalidated : drivers wire.id (stmt.Connect (component wire) source ∷ stmt.When (record { condition = condition; body = stmt.Invalidate (component wire) ∷ [] } ∷ []) [] ∷ [])
      ≡ Some source ∷ None ∷ []
  connected_and_invalidated = grind (arith, common_steps, stmt_lemmas, expr_lemmas)

  -- a `stop` within a `when`, and a line that is no item
  one_item : conditions (entry.Plain (stmt.Skip at) ∷ entry.Branch (record { condition = source; body = entry.Stop at clock condition 7 ∷ [] } ∷ []) [] ∷ []) ≡ condition ∷ []
  one_item = grind (arith, common_steps, line_lemmas)
