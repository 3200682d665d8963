-- Blocks and brackets around one another, and suffixes.
use Rattle.std.proofs.Common.{◌≡◌, ℕ, ◌+◌, false, List, [], ◌∷◌, Some, refl, arith}
use Rattle.std.specs.Prelude.{max}
use Rattle.std.proofs.lemmas.Grind.{common_steps}
use Rattle.place_text.specs.declared.place.Place.{Place}
use Rattle.fir_types.specs.declared.memory.Memory.{Memory}
use Rattle.fir_tree.specs.declared.expr.Expr.{Expr, the_lemmas as expr_lemmas}
use Rattle.bit_words.specs.declared.number.Number.{Number}
use Rattle.bit_words.specs.declared.value.Kind.TheVariants as sign
use Rattle.prim_ops.specs.declared.operation.PrimOp.TheVariants.{Not}
use Rattle.fir_types.specs.declared.name.Name.{Name}
use Rattle.fir_types.specs.declared.fir_type.FirType.{FirType, the_lemmas as type_lemmas}
use Rattle.fir_types.specs.declared.fir_type.Shape.TheVariants as shape
use Rattle.fir_layout.specs.declared.laid.Laid.TheVariants.{Open, Close}
use Rattle.fir_tree.specs.declared.expr.Form.TheVariants as form
use Rattle.fir_tree.specs.declared.expr.Suffix.TheVariants as suffix
use Rattle.fir_grammar.specs.Grammar.{A, Block, Spells, a_rule, a_piece, no_symbol, a_block, last_statement}
use Rattle.fir_tree.specs.declared.stmt.Stmt.{the_lemmas}
use Rattle.fir_tree.specs.declared.stmt.Stmt.TheVariants as stmt
use Rattle.item_lines.specs.declared.line.Line.{the_lemmas as line_lemmas}
use Rattle.item_lines.specs.declared.line.Line.TheVariants as entry
use Rattle.depth_laws.specs.Blocks.{line_blocks, body_blocks}
use Rattle.item_lines.specs.Items.{padded}
use Rattle.depth_laws.specs.Parts.{most_in_line}
use Rattle.depth_laws.specs.Brackets.{type_brackets, expr_brackets}
use Rattle.depth_laws.specs.Suffixes.{type_lengths, type_suffixes, expr_suffixes}
use Rattle.depth_laws.proofs.Layers.{brackets-ref, brackets-index, suffixes-ref, suffixes-index}

-- A `when` with nothing in it may be written without a block, and so it needs none.
an_empty_when : (condition : Expr) → line_blocks (entry.Branch (record { condition = condition; body = [] } ∷ []) []) ≡ 0
an_empty_when condition = grind (arith, common_steps, line_lemmas)

-- One with a statement in it needs one, and so does a branch of `else` alone.
a_when_with : (condition : Expr) (at : Place) → line_blocks (entry.Branch (record { condition = condition; body = entry.Plain (stmt.Skip at) ∷ [] } ∷ []) []) ≡ 1
a_when_with condition at = grind (arith, common_steps, the_lemmas, line_lemmas)

an_else_with : (condition : Expr) (at : Place) → line_blocks (entry.Branch (record { condition = condition; body = [] } ∷ []) (entry.Plain (stmt.Skip at) ∷ [])) ≡ 1
an_else_with condition at = grind (arith, common_steps, the_lemmas, line_lemmas)

-- A memory has one, also without a line. A module without ports and statements needs none.
a_memory : (memory : Memory) → line_blocks (entry.Plain (stmt.Mem memory)) ≡ 1
a_memory memory = grind (arith, common_steps, the_lemmas, line_lemmas)

an_empty_module : body_blocks [] [] ≡ 0
an_empty_module = refl

-- The brackets and suffixes of expressions. Names, places and numbers don't matter.
module _ (at : Place) (a b : Name) (n : ℕ) (one : Number) where
  -- `a`
  abbrev plain : Expr
  plain = record { place = at; form = form.Ref a [] }

  -- `a.b[3].b` has three suffixes, of which one is a bracket.
  abbrev element : Expr
  element = record { place = at; form = form.Ref a (suffix.Field b ∷ suffix.At at at n ∷ suffix.Field b ∷ []) }

  element_counts : (expr_brackets element ≡ 1) × (expr_suffixes element ≡ 3)
  element_counts = (grind (arith, common_steps, expr_lemmas), grind (arith, common_steps, expr_lemmas))

  -- `a[a[a]]` has two brackets around one another. Each reference in it has one suffix or none.
  abbrev indexed : Expr → Expr
  indexed e = record { place = at; form = form.Ref a (suffix.Index at e ∷ []) }

  brackets_indexed : (e : Expr) → expr_brackets (indexed e) ≡ expr_brackets e + 1
  brackets_indexed e = omega (arith, brackets-ref at a (suffix.Index at e ∷ []), brackets-index at e)

  suffixes_indexed : (e : Expr) → expr_suffixes (indexed e) ≡ max 1 (expr_suffixes e)
  suffixes_indexed e = omega (arith, suffixes-ref at a (suffix.Index at e ∷ []), suffixes-index at e)

  index_counts : (expr_brackets (indexed (indexed plain)) ≡ 2) × (expr_suffixes (indexed (indexed plain)) ≡ 1)
  index_counts = (
    omega (arith, brackets_indexed (indexed plain), brackets_indexed plain, brackets-ref at a []),
    omega (arith, suffixes_indexed (indexed plain), suffixes_indexed plain, suffixes-ref at a []),
  )

  -- `UInt<3>(1)` has one, and so has `not(a)`; `not(UInt<3>(1))` has two.
  abbrev literal : Expr
  literal = record { place = at; form = form.Literal sign.Unsigned (Some n) one }

  literal_counts : (expr_brackets literal ≡ 1) × (expr_suffixes literal ≡ 0)
  literal_counts = (grind (arith, common_steps, expr_lemmas), grind (arith, common_steps, expr_lemmas))

  abbrev call : Expr → Expr
  call operand = record { place = at; form = form.Prim Not (operand ∷ []) [] }

  calls_count : (expr_brackets (call plain) ≡ 1) × (expr_brackets (call literal) ≡ 2)
  calls_count = (grind (arith, common_steps, expr_lemmas), grind (arith, common_steps, expr_lemmas))

  -- `printf(a, a, "", not(UInt<3>(1)))` has two, for its own isn't counted, though the node that it stands for holds `pad(not(UInt<3>(1)), 0)`.
  a_print_counts : (most_in_line type_brackets expr_brackets (entry.Print at plain plain [] (call literal ∷ [])) ≡ 2) × (expr_brackets (padded (call literal)) ≡ 3)
  a_print_counts = (grind (arith, common_steps, expr_lemmas, line_lemmas), grind (arith, common_steps, expr_lemmas))

  -- `{ a : UInt<3>[3][3] }[3]` has two brackets around one another. The field's type has two suffixes, and the whole type has one.
  abbrev bundle : FirType
  bundle = record {
    place = at;
    shape = shape.Vector (record {
      place = at;
      shape = shape.Bundle (record {
        flip = false;
        name = a;
        typ = record {
          place = at;
          shape = shape.Vector
              (record { place = at; shape = shape.Vector (record { place = at; shape = shape.Unsigned (Some n) }) n }) n;
        };
      } ∷ []);
    }) n;
  }

  bundle_counts : (type_brackets bundle ≡ 2) × ((type_lengths bundle ≡ (1, 2)) × (type_suffixes bundle ≡ 2))
  bundle_counts = (grind (arith, common_steps, type_lemmas), (grind (arith, common_steps, type_lemmas), grind (arith, common_steps, type_lemmas)))

-- The grammar has blocks with marks and nothing in them: such a list spells no statements, though a block is open in it. No text is laid
-- out so.
an_empty_block : (text : List ℕ) (from to : ℕ) (names : List (List ℕ)) → Spells 3 text (A Block ∷ []) (Open from ∷ Close to ∷ []) names ([], tt) [] names
an_empty_block text from to names = a_rule a_block (a_piece tt (a_rule last_statement (a_piece tt no_symbol) no_symbol)) no_symbol
