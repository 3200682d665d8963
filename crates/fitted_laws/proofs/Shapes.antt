-- Trees and lines whose operations have their operands and parameters, layer by layer.
use Rattle.std.proofs.Common.{◌≡◌, ℕ, Bool, true, ◌&&◌, List, [], ◌∷◌, map, length, refl, ap₂, arith}
use Rattle.std.specs.Prelude.{nat_eq}
use Rattle.std.specs.List.{list_all}
use Rattle.std.proofs.lemmas.Grind.{common_steps}
use Rattle.place_text.specs.declared.place.Place.{Place}
use Rattle.bit_words.specs.declared.number.Number.{Number}
use Rattle.bit_words.specs.declared.value.Kind.{Kind}
use Rattle.fir_types.specs.declared.name.Name.{Name}
use Rattle.fir_types.specs.declared.fir_type.FirType.{FirType}
use Rattle.fir_types.specs.declared.memory.Memory.{Memory}
use Rattle.prim_ops.specs.declared.operation.PrimOp.{PrimOp}
use Rattle.prim_ops.specs.Operations.{arity_of}
use Rattle.fir_tree.specs.declared.stmt.Stmt.{Stmt, the_lemmas as stmt_lemmas}
use Rattle.fir_tree.specs.declared.stmt.Stmt.TheVariants as stmt
use Rattle.fir_tree.specs.declared.stmt.Arm.{Arm, fold-Arm}
use Rattle.fir_tree.specs.declared.expr.Expr.{Expr, the_lemmas as expr_lemmas}
use Rattle.fir_tree.specs.declared.expr.Form.TheVariants as form
use Rattle.fir_tree.specs.declared.expr.Suffix.{Suffix, fold-Suffix}
use Rattle.fir_tree.specs.declared.expr.Suffix.TheVariants as suffix
use Rattle.fir_tree.specs.declared.print.Piece.{Piece}
use Rattle.item_lines.specs.declared.line.Line.{Line, fold-Line, the_lemmas as line_lemmas}
use Rattle.item_lines.specs.declared.line.Line.TheVariants as entry
use Rattle.item_lines.specs.declared.line.Line.TheOpen.{Line-F, LineArm-F}
use Rattle.item_lines.specs.declared.line.LineArm.{LineArm, fold-LineArm}
use Rattle.item_lines.specs.declared.line.LineModule.{LineModule}
use Rattle.fitted_laws.specs.Shaped as shaping
use Rattle.fitted_laws.specs.Shaped.{all_are, is_shaped, is_shaped_stmt}
use Rattle.fitted_laws.proofs.Expressions.{and_left, and_right}

abbrev pub shaped_suffix : Suffix → Bool
shaped_suffix = fold-Suffix Bool Bool Bool shaping.of_form shaping.of_suffix shaping.of_expr

abbrev pub shaped_arm : Arm → Bool
shaped_arm = fold-Arm Bool Bool shaping.of_stmt shaping.of_arm

-- layers

pub of-ref : (place : Place) (name : Name) (ss : List Suffix) → is_shaped (record { place = place; form = form.Ref name ss }) ≡ all_are (map shaped_suffix ss)
of-ref place name ss = grind (arith, common_steps, expr_lemmas)

pub of-literal : (place : Place) (kind : Kind) (width : _) (n : Number) → is_shaped (record { place = place; form = form.Literal kind width n }) ≡ true
of-literal place kind width n = grind (arith, common_steps, expr_lemmas)

pub of-prim : (place : Place) (prim : PrimOp) (es : List Expr) (ns : List ℕ) → is_shaped (record { place = place; form = form.Prim prim es ns })
    ≡ (all_are (map is_shaped es) && (nat_eq (length (map is_shaped es)) (arity_of prim).0 && nat_eq (length ns) (arity_of prim).1))
of-prim place prim es ns = grind (arith, common_steps, expr_lemmas)

pub of-mux : (place : Place) (es : List Expr) → is_shaped (record { place = place; form = form.Mux es }) ≡ (all_are (map is_shaped es) && nat_eq (length (map is_shaped es)) 3)
of-mux place es = grind (arith, common_steps, expr_lemmas)

pub of-field : (name : Name) → shaped_suffix (suffix.Field name) ≡ true
of-field name = grind (arith, common_steps, expr_lemmas)

pub of-at : (at number_at : Place) (n : ℕ) → shaped_suffix (suffix.At at number_at n) ≡ true
of-at at number_at n = grind (arith, common_steps, expr_lemmas)

pub of-index : (at : Place) (e : Expr) → shaped_suffix (suffix.Index at e) ≡ is_shaped e
of-index at e = grind (arith, common_steps, expr_lemmas)

pub of-wire : (name : Name) (typ : FirType) → is_shaped_stmt (stmt.Wire name typ) ≡ true
of-wire name typ = grind (arith, common_steps, stmt_lemmas)

pub of-reg : (name : Name) (typ : FirType) (clock : Expr) → is_shaped_stmt (stmt.Reg name typ clock) ≡ is_shaped clock
of-reg name typ clock = grind (arith, common_steps, stmt_lemmas)

pub of-regreset : (name : Name) (typ : FirType) (clock reset init : Expr) → is_shaped_stmt (stmt.RegReset name typ clock reset init) ≡ (is_shaped clock && (is_shaped reset && is_shaped init))
of-regreset name typ clock reset init = grind (arith, common_steps, stmt_lemmas)

pub of-mem : (memory : Memory) → is_shaped_stmt (stmt.Mem memory) ≡ true
of-mem memory = grind (arith, common_steps, stmt_lemmas)

pub of-inst : (name of : Name) → is_shaped_stmt (stmt.Inst name of) ≡ true
of-inst name of = grind (arith, common_steps, stmt_lemmas)

pub of-node : (name : Name) (e : Expr) → is_shaped_stmt (stmt.Node name e) ≡ is_shaped e
of-node name e = grind (arith, common_steps, stmt_lemmas)

pub of-connect : (left right : Expr) → is_shaped_stmt (stmt.Connect left right) ≡ (is_shaped left && is_shaped right)
of-connect left right = grind (arith, common_steps, stmt_lemmas)

pub of-invalidate : (target : Expr) → is_shaped_stmt (stmt.Invalidate target) ≡ is_shaped target
of-invalidate target = grind (arith, common_steps, stmt_lemmas)

pub of-when : (arms : List Arm) (other : List Stmt) → is_shaped_stmt (stmt.When arms other) ≡ (all_are (map shaped_arm arms) && all_are (map is_shaped_stmt other))
of-when arms other = grind (arith, common_steps, stmt_lemmas)

pub of-skip : (at : Place) → is_shaped_stmt (stmt.Skip at) ≡ true
of-skip at = grind (arith, common_steps, stmt_lemmas)

pub of-arm : (condition : Expr) (body : List Stmt) → shaped_arm (record { condition = condition; body = body }) ≡ (is_shaped condition && all_are (map is_shaped_stmt body))
of-arm condition body = grind (arith, common_steps, stmt_lemmas)

pub both : {a b : Bool} → a ≡ true → b ≡ true → (a && b) ≡ true
both e f = ap₂ (λ x y. x && y) e f

pub all_mapped : (ss : List Stmt) → all_are (map is_shaped_stmt ss) ≡ true → list_all is_shaped_stmt ss ≡ true
all_mapped [] e = refl
all_mapped (s ∷ ss) e = both (and_left (is_shaped_stmt s) (all_are (map is_shaped_stmt ss)) e) (all_mapped ss (and_right (is_shaped_stmt s) (all_are (map is_shaped_stmt ss)) e))

-- lines

abbrev pub of_line : Line-F Bool Bool → Bool
of_line (Line-F.Plain s) = is_shaped_stmt s
of_line (Line-F.Branch arms other) = all_are arms && all_are other
of_line (Line-F.Print at clock condition pieces arguments) = is_shaped clock && (is_shaped condition && all_are (map is_shaped arguments))
of_line (Line-F.Stop at clock condition code) = is_shaped clock && is_shaped condition

abbrev pub of_line_arm : LineArm-F Bool Bool → Bool
of_line_arm arm = is_shaped arm.condition && all_are arm.body

abbrev pub shaped_line : Line → Bool
shaped_line = fold-Line Bool Bool of_line of_line_arm

abbrev pub shaped_line_arm : LineArm → Bool
shaped_line_arm = fold-LineArm Bool Bool of_line of_line_arm

abbrev pub shaped_lines : LineModule → Bool
shaped_lines m = all_are (map shaped_line m.body)

pub of-plain : (s : Stmt) → shaped_line (entry.Plain s) ≡ is_shaped_stmt s
of-plain s = grind (arith, common_steps, line_lemmas)

pub of-branch : (arms : List LineArm) (other : List Line) → shaped_line (entry.Branch arms other) ≡ (all_are (map shaped_line_arm arms) && all_are (map shaped_line other))
of-branch arms other = grind (arith, common_steps, line_lemmas)

pub of-print : (at : Place) (clock condition : Expr) (pieces : List Piece) (arguments : List Expr)
    → shaped_line (entry.Print at clock condition pieces arguments) ≡ (is_shaped clock && (is_shaped condition && all_are (map is_shaped arguments)))
of-print at clock condition pieces arguments = grind (arith, common_steps, line_lemmas)

pub of-stop : (at : Place) (clock condition : Expr) (code : ℕ) → shaped_line (entry.Stop at clock condition code) ≡ (is_shaped clock && is_shaped condition)
of-stop at clock condition code = grind (arith, common_steps, line_lemmas)

pub of-line-arm : (condition : Expr) (body : List Line) → shaped_line_arm (record { condition = condition; body = body }) ≡ (is_shaped condition && all_are (map shaped_line body))
of-line-arm condition body = grind (arith, common_steps, line_lemmas)
