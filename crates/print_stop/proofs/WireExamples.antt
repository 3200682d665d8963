-- What a run of statements connects to the wire of an item, and what stands before the last line of a log.
use Rattle.std.proofs.Common.{◌≡◌, true, false, [], ◌∷◌, Some, None, codes, refl, arith}
use Rattle.std.proofs.lemmas.Grind.{common_steps}
use Rattle.bit_words.specs.declared.value.Value.{Value}
use Rattle.place_text.specs.declared.place.Place.{Place}
use Rattle.fir_types.specs.declared.name.Name.{Name}
use Rattle.fir_tree.specs.declared.expr.Expr.{Expr, the_lemmas as expr_lemmas}
use Rattle.fir_tree.specs.declared.stmt.Stmt.{the_lemmas as stmt_lemmas}
use Rattle.fir_tree.specs.declared.stmt.Stmt.TheVariants as stmt
use Rattle.item_lines.specs.Items.{component}
use Rattle.fir_meaning.specs.Values.{Scene, value, is_one}
use Rattle.print_stop.specs.Printing.{connected, is_odd, with_feed}

module _ (scene : Scene) (wire : Name) (condition choice : Expr) (at : Place) where
  -- an item outside of all conditions is always reached
  always : connected scene wire.id (stmt.Skip at ∷ stmt.Connect (component wire) condition ∷ []) ≡ Some condition
  always = grind (arith, common_steps, stmt_lemmas, expr_lemmas)

  -- one inside a `when` where its condition is 1, and nowhere else
  chosen : is_one (value choice scene) ≡ true → connected scene wire.id (stmt.When (record { condition = choice; body = stmt.Connect (component wire) condition ∷ [] } ∷ []) [] ∷ []) ≡ Some condition
  chosen one = grind (arith, common_steps, stmt_lemmas, expr_lemmas)

  left_out : is_one (value choice scene) ≡ false → connected scene wire.id (stmt.When (record { condition = choice; body = stmt.Connect (component wire) condition ∷ [] } ∷ []) [] ∷ []) ≡ None
  left_out zero = grind (arith, common_steps, stmt_lemmas, expr_lemmas)

-- the lowest bit decides: 2 is even, whatever its width
even : (v : Value) → v.bits ≡ 2 → is_odd (v ∷ []) ≡ false
even v is = rw is refl

odd : (v : Value) → v.bits ≡ 3 → is_odd (v ∷ []) ≡ true
odd v is = rw is refl

-- a line feed goes between what was printed and the last line, where there is none and something was printed
no_feed : with_feed [] ≡ []
no_feed = refl

one_feed : with_feed (codes "r=1") ≡ codes "r=1\n"
one_feed = refl

same_feed : with_feed (codes "r=1\n") ≡ codes "r=1\n"
same_feed = refl
