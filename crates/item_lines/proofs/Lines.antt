-- What each line stands for, and the equations of the definitions.
use Rattle.std.proofs.Common.{◌≡◌, ℕ, List, [], ◌∷◌, map, Some, None, arith}
use Rattle.std.proofs.lemmas.Grind.{common_steps}
use Rattle.place_text.specs.declared.place.Place.{Place}
use Rattle.fir_tree.specs.declared.expr.Expr.{Expr}
use Rattle.fir_tree.specs.declared.stmt.Stmt.{Stmt}
use Rattle.fir_tree.specs.declared.stmt.Stmt.TheVariants as stmt
use Rattle.fir_tree.specs.declared.print.Piece.{Piece}
use Rattle.item_lines.specs.declared.line.Line.{Line, the_lemmas}
use Rattle.item_lines.specs.declared.line.Line.TheVariants as entry
use Rattle.item_lines.specs.declared.line.LineArm.{LineArm}
use Rattle.item_lines.specs.Items.{Before, Stands, in_order, in_block, stmts_of, the_item}
use Rattle.item_lines.specs.Lines.{arm_of}

pub plain_stands : (s : Stmt) (b : Before) → stmts_of (entry.Plain s) b ≡ (s ∷ [], b)
plain_stands s b = grind (arith, common_steps, the_lemmas)

abbrev pub branch_of : List LineArm → List Line → Stands (List Stmt)
branch_of arms other b =
    let made = in_order (map arm_of arms) b in
    let last = in_block (map stmts_of other) made.1 in
    (stmt.When made.0 last.0 ∷ [], last.1)

pub branch_stands : (arms : List LineArm) (other : List Line) (b : Before) → stmts_of (entry.Branch arms other) b ≡ branch_of arms other b
branch_stands arms other b = grind (arith, common_steps, the_lemmas)

pub arm_stands : (condition : Expr) (body : List Line) (b : Before)
    → arm_of (record { condition = condition; body = body }) b ≡ (record { condition = condition; body = (in_block (map stmts_of body) b).0 }, (in_block (map stmts_of body) b).1)
arm_stands condition body b = grind (arith, common_steps, the_lemmas)

pub print_stands : (at : Place) (clock condition : Expr) (pieces : List Piece) (arguments : List Expr) (b : Before)
    → stmts_of (entry.Print at clock condition pieces arguments) b ≡ the_item at clock condition arguments None pieces b
print_stands at clock condition pieces arguments b = grind (arith, common_steps, the_lemmas)

pub stop_stands : (at : Place) (clock condition : Expr) (code : ℕ) (b : Before) → stmts_of (entry.Stop at clock condition code) b ≡ the_item at clock condition [] (Some code) [] b
stop_stands at clock condition code b = grind (arith, common_steps, the_lemmas)
