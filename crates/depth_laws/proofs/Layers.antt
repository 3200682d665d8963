-- The counts of blocks, brackets and suffixes, layer by layer.
use Rattle.std.proofs.Common.{◌≡◌, ℕ, ◌+◌, List, [], ◌∷◌, map, length, Option, Bool, arith}
use Rattle.std.specs.Prelude.{max}
use Rattle.std.proofs.lemmas.Grind.{common_steps}
use Rattle.place_text.specs.declared.place.Place.{Place}
use Rattle.bit_words.specs.declared.number.Number.{Number}
use Rattle.bit_words.specs.declared.value.Kind.{Kind}
use Rattle.prim_ops.specs.declared.operation.PrimOp.{PrimOp}
use Rattle.fir_types.specs.declared.name.Name.{Name}
use Rattle.fir_types.specs.declared.fir_type.FirType.{FirType, the_lemmas as type_lemmas}
use Rattle.fir_types.specs.declared.fir_type.Field.{Field}
use Rattle.fir_types.specs.declared.fir_type.Shape.TheVariants as shape
use Rattle.fir_types.specs.declared.memory.Memory.{Memory}
use Rattle.fir_tree.specs.declared.expr.Expr.{Expr, the_lemmas as expr_lemmas}
use Rattle.fir_tree.specs.declared.expr.Suffix.{Suffix}
use Rattle.fir_tree.specs.declared.expr.Form.TheVariants as form
use Rattle.fir_tree.specs.declared.expr.Suffix.TheVariants as suffix
use Rattle.fir_tree.specs.declared.stmt.Stmt.{the_lemmas}
use Rattle.fir_tree.specs.declared.stmt.Stmt.TheVariants as stmt
use Rattle.fir_tree.specs.declared.print.Piece.{Piece}
use Rattle.item_lines.specs.declared.line.Line.{Line, the_lemmas as line_lemmas}
use Rattle.item_lines.specs.declared.line.Line.TheVariants as entry
use Rattle.item_lines.specs.declared.line.LineArm.{LineArm}
use Rattle.depth_laws.specs.Blocks.{greatest, block_of, line_blocks, arm_blocks}
use Rattle.depth_laws.specs.Parts.{most_in_memory_line, most_in_line, most_in_arm}
use Rattle.depth_laws.specs.Brackets.{type_brackets, field_brackets, expr_brackets, suffix_brackets}
use Rattle.depth_laws.specs.Suffixes.{type_lengths, type_suffixes, field_suffixes, expr_suffixes, suffix_suffixes}

-- lines, by their blocks

pub of-wire : (name : Name) (typ : FirType) → line_blocks (entry.Plain (stmt.Wire name typ)) ≡ 0
of-wire name typ = grind (arith, common_steps, the_lemmas, line_lemmas)

pub of-reg : (name : Name) (typ : FirType) (clock : Expr) → line_blocks (entry.Plain (stmt.Reg name typ clock)) ≡ 0
of-reg name typ clock = grind (arith, common_steps, the_lemmas, line_lemmas)

pub of-regreset : (name : Name) (typ : FirType) (clock reset init : Expr) → line_blocks (entry.Plain (stmt.RegReset name typ clock reset init)) ≡ 0
of-regreset name typ clock reset init = grind (arith, common_steps, the_lemmas, line_lemmas)

pub of-mem : (memory : Memory) → line_blocks (entry.Plain (stmt.Mem memory)) ≡ 1
of-mem memory = grind (arith, common_steps, the_lemmas, line_lemmas)

pub of-inst : (name of : Name) → line_blocks (entry.Plain (stmt.Inst name of)) ≡ 0
of-inst name of = grind (arith, common_steps, the_lemmas, line_lemmas)

pub of-node : (name : Name) (e : Expr) → line_blocks (entry.Plain (stmt.Node name e)) ≡ 0
of-node name e = grind (arith, common_steps, the_lemmas, line_lemmas)

pub of-connect : (left right : Expr) → line_blocks (entry.Plain (stmt.Connect left right)) ≡ 0
of-connect left right = grind (arith, common_steps, the_lemmas, line_lemmas)

pub of-invalidate : (target : Expr) → line_blocks (entry.Plain (stmt.Invalidate target)) ≡ 0
of-invalidate target = grind (arith, common_steps, the_lemmas, line_lemmas)

pub of-skip : (at : Place) → line_blocks (entry.Plain (stmt.Skip at)) ≡ 0
of-skip at = grind (arith, common_steps, the_lemmas, line_lemmas)

pub of-branch : (arms : List LineArm) (other : List Line) → line_blocks (entry.Branch arms other) ≡ max (greatest (map arm_blocks arms)) (block_of (map line_blocks other))
of-branch arms other = grind (arith, common_steps, line_lemmas)

pub of-print : (at : Place) (clock condition : Expr) (pieces : List Piece) (arguments : List Expr) → line_blocks (entry.Print at clock condition pieces arguments) ≡ 0
of-print at clock condition pieces arguments = grind (arith, common_steps, line_lemmas)

pub of-stop : (at : Place) (clock condition : Expr) (code : ℕ) → line_blocks (entry.Stop at clock condition code) ≡ 0
of-stop at clock condition code = grind (arith, common_steps, line_lemmas)

pub of-arm : (condition : Expr) (body : List Line) → arm_blocks (record { condition = condition; body = body }) ≡ block_of (map line_blocks body)
of-arm condition body = grind (arith, common_steps, line_lemmas)

-- and by any count of types and expressions

module _ (of_type : FirType → ℕ) (of_expr : Expr → ℕ) where
  pub in-wire : (name : Name) (typ : FirType) → most_in_line of_type of_expr (entry.Plain (stmt.Wire name typ)) ≡ of_type typ
  in-wire name typ = grind (arith, common_steps, the_lemmas, line_lemmas)

  pub in-reg : (name : Name) (typ : FirType) (clock : Expr) → most_in_line of_type of_expr (entry.Plain (stmt.Reg name typ clock)) ≡ max (of_type typ) (of_expr clock)
  in-reg name typ clock = grind (arith, common_steps, the_lemmas, line_lemmas)

  pub in-regreset : (name : Name) (typ : FirType) (clock reset init : Expr)
      → most_in_line of_type of_expr (entry.Plain (stmt.RegReset name typ clock reset init)) ≡ greatest (of_type typ ∷ of_expr clock ∷ of_expr reset ∷ of_expr init ∷ [])
  in-regreset name typ clock reset init = grind (arith, common_steps, the_lemmas, line_lemmas)

  pub in-mem : (memory : Memory) → most_in_line of_type of_expr (entry.Plain (stmt.Mem memory)) ≡ greatest (map (most_in_memory_line of_type of_expr) memory.lines)
  in-mem memory = grind (arith, common_steps, the_lemmas, line_lemmas)

  pub in-inst : (name of : Name) → most_in_line of_type of_expr (entry.Plain (stmt.Inst name of)) ≡ 0
  in-inst name of = grind (arith, common_steps, the_lemmas, line_lemmas)

  pub in-node : (name : Name) (e : Expr) → most_in_line of_type of_expr (entry.Plain (stmt.Node name e)) ≡ of_expr e
  in-node name e = grind (arith, common_steps, the_lemmas, line_lemmas)

  pub in-connect : (left right : Expr) → most_in_line of_type of_expr (entry.Plain (stmt.Connect left right)) ≡ max (of_expr left) (of_expr right)
  in-connect left right = grind (arith, common_steps, the_lemmas, line_lemmas)

  pub in-invalidate : (target : Expr) → most_in_line of_type of_expr (entry.Plain (stmt.Invalidate target)) ≡ of_expr target
  in-invalidate target = grind (arith, common_steps, the_lemmas, line_lemmas)

  pub in-skip : (at : Place) → most_in_line of_type of_expr (entry.Plain (stmt.Skip at)) ≡ 0
  in-skip at = grind (arith, common_steps, the_lemmas, line_lemmas)

  pub in-branch : (arms : List LineArm) (other : List Line)
      → most_in_line of_type of_expr (entry.Branch arms other) ≡ max (greatest (map (most_in_arm of_type of_expr) arms)) (greatest (map (most_in_line of_type of_expr) other))
  in-branch arms other = grind (arith, common_steps, line_lemmas)

  pub in-print : (at : Place) (clock condition : Expr) (pieces : List Piece) (arguments : List Expr)
      → most_in_line of_type of_expr (entry.Print at clock condition pieces arguments) ≡ greatest (of_expr clock ∷ of_expr condition ∷ map of_expr arguments)
  in-print at clock condition pieces arguments = grind (arith, common_steps, line_lemmas)

  pub in-stop : (at : Place) (clock condition : Expr) (code : ℕ) → most_in_line of_type of_expr (entry.Stop at clock condition code) ≡ max (of_expr clock) (of_expr condition)
  in-stop at clock condition code = grind (arith, common_steps, line_lemmas)

  pub in-arm : (condition : Expr) (body : List Line)
      → most_in_arm of_type of_expr (record { condition = condition; body = body }) ≡ max (of_expr condition) (greatest (map (most_in_line of_type of_expr) body))
  in-arm condition body = grind (arith, common_steps, line_lemmas)

-- types

pub brackets-unsigned : (at : Place) (width : Option ℕ) → type_brackets (record { place = at; shape = shape.Unsigned width }) ≡ 0
brackets-unsigned at width = grind (arith, common_steps, type_lemmas)

pub brackets-signed : (at : Place) (width : Option ℕ) → type_brackets (record { place = at; shape = shape.Signed width }) ≡ 0
brackets-signed at width = grind (arith, common_steps, type_lemmas)

pub brackets-clock : (at : Place) → type_brackets (record { place = at; shape = shape.Clock }) ≡ 0
brackets-clock at = grind (arith, common_steps, type_lemmas)

pub brackets-reset : (at : Place) → type_brackets (record { place = at; shape = shape.Reset }) ≡ 0
brackets-reset at = grind (arith, common_steps, type_lemmas)

pub brackets-bundle : (at : Place) (fields : List Field) → type_brackets (record { place = at; shape = shape.Bundle fields }) ≡ greatest (map field_brackets fields) + 1
brackets-bundle at fields = grind (arith, common_steps, type_lemmas)

pub brackets-vector : (at : Place) (element : FirType) (n : ℕ) → type_brackets (record { place = at; shape = shape.Vector element n }) ≡ max (type_brackets element) 1
brackets-vector at element n = grind (arith, common_steps, type_lemmas)

pub brackets-field : (flip : Bool) (name : Name) (typ : FirType) → field_brackets (record { flip = flip; name = name; typ = typ }) ≡ type_brackets typ
brackets-field flip name typ = grind (arith, common_steps, type_lemmas)

pub lengths-unsigned : (at : Place) (width : Option ℕ) → type_lengths (record { place = at; shape = shape.Unsigned width }) ≡ (0, 0)
lengths-unsigned at width = grind (arith, common_steps, type_lemmas)

pub lengths-signed : (at : Place) (width : Option ℕ) → type_lengths (record { place = at; shape = shape.Signed width }) ≡ (0, 0)
lengths-signed at width = grind (arith, common_steps, type_lemmas)

pub lengths-clock : (at : Place) → type_lengths (record { place = at; shape = shape.Clock }) ≡ (0, 0)
lengths-clock at = grind (arith, common_steps, type_lemmas)

pub lengths-reset : (at : Place) → type_lengths (record { place = at; shape = shape.Reset }) ≡ (0, 0)
lengths-reset at = grind (arith, common_steps, type_lemmas)

pub lengths-bundle : (at : Place) (fields : List Field) → type_lengths (record { place = at; shape = shape.Bundle fields }) ≡ (0, greatest (map field_suffixes fields))
lengths-bundle at fields = grind (arith, common_steps, type_lemmas)

pub lengths-vector : (at : Place) (element : FirType) (n : ℕ)
    → type_lengths (record { place = at; shape = shape.Vector element n }) ≡ ((type_lengths element).0 + 1, (type_lengths element).1)
lengths-vector at element n = grind (arith, common_steps, type_lemmas)

pub suffixes-field : (flip : Bool) (name : Name) (typ : FirType) → field_suffixes (record { flip = flip; name = name; typ = typ }) ≡ type_suffixes typ
suffixes-field flip name typ = grind (arith, common_steps, type_lemmas)

-- expressions

pub brackets-ref : (at : Place) (name : Name) (suffixes : List Suffix) → expr_brackets (record { place = at; form = form.Ref name suffixes }) ≡ greatest (map suffix_brackets suffixes)
brackets-ref at name suffixes = grind (arith, common_steps, expr_lemmas)

pub brackets-literal : (at : Place) (kind : Kind) (width : Option ℕ) (n : Number) → expr_brackets (record { place = at; form = form.Literal kind width n }) ≡ 1
brackets-literal at kind width n = grind (arith, common_steps, expr_lemmas)

pub brackets-prim : (at : Place) (op : PrimOp) (operands : List Expr) (params : List ℕ)
    → expr_brackets (record { place = at; form = form.Prim op operands params }) ≡ greatest (map expr_brackets operands) + 1
brackets-prim at op operands params = grind (arith, common_steps, expr_lemmas)

pub brackets-mux : (at : Place) (operands : List Expr) → expr_brackets (record { place = at; form = form.Mux operands }) ≡ greatest (map expr_brackets operands) + 1
brackets-mux at operands = grind (arith, common_steps, expr_lemmas)

pub brackets-name : (name : Name) → suffix_brackets (suffix.Field name) ≡ 0
brackets-name name = grind (arith, common_steps, expr_lemmas)

pub brackets-at : (bracket place : Place) (n : ℕ) → suffix_brackets (suffix.At bracket place n) ≡ 1
brackets-at bracket place n = grind (arith, common_steps, expr_lemmas)

pub brackets-index : (bracket : Place) (index : Expr) → suffix_brackets (suffix.Index bracket index) ≡ expr_brackets index + 1
brackets-index bracket index = grind (arith, common_steps, expr_lemmas)

pub suffixes-ref : (at : Place) (name : Name) (suffixes : List Suffix)
    → expr_suffixes (record { place = at; form = form.Ref name suffixes }) ≡ max (length (map suffix_suffixes suffixes)) (greatest (map suffix_suffixes suffixes))
suffixes-ref at name suffixes = grind (arith, common_steps, expr_lemmas)

pub suffixes-literal : (at : Place) (kind : Kind) (width : Option ℕ) (n : Number) → expr_suffixes (record { place = at; form = form.Literal kind width n }) ≡ 0
suffixes-literal at kind width n = grind (arith, common_steps, expr_lemmas)

pub suffixes-prim : (at : Place) (op : PrimOp) (operands : List Expr) (params : List ℕ)
    → expr_suffixes (record { place = at; form = form.Prim op operands params }) ≡ greatest (map expr_suffixes operands)
suffixes-prim at op operands params = grind (arith, common_steps, expr_lemmas)

pub suffixes-mux : (at : Place) (operands : List Expr) → expr_suffixes (record { place = at; form = form.Mux operands }) ≡ greatest (map expr_suffixes operands)
suffixes-mux at operands = grind (arith, common_steps, expr_lemmas)

pub suffixes-name : (name : Name) → suffix_suffixes (suffix.Field name) ≡ 0
suffixes-name name = grind (arith, common_steps, expr_lemmas)

pub suffixes-at : (bracket place : Place) (n : ℕ) → suffix_suffixes (suffix.At bracket place n) ≡ 0
suffixes-at bracket place n = grind (arith, common_steps, expr_lemmas)

pub suffixes-index : (bracket : Place) (index : Expr) → suffix_suffixes (suffix.Index bracket index) ≡ expr_suffixes index
suffixes-index bracket index = grind (arith, common_steps, expr_lemmas)
