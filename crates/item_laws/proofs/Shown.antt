-- In lines that a text spells a `printf` has as many arguments as its format shows values.
use Rattle.std.proofs.Common.{◌≡◌, ℕ, suc, ◌==◌, Bool, true, ◌&&◌, List, [], ◌∷◌, map, length, refl, sym, ap, ◌∙◌, arith}
use Rattle.std.specs.Prelude.{⊤}
use Rattle.std.proofs.lemmas.Bool.{eq-eqb}
use Rattle.std.proofs.lemmas.Grind.{common_steps}
use Rattle.place_text.specs.declared.place.Place.{Place}
use Rattle.fir_types.specs.declared.name.Name.{Name}
use Rattle.fir_lexer.specs.declared.token.TokenKind.{TokenKind}
use Rattle.fir_lexer.specs.declared.token.TokenKind.TheVariants as kind
use Rattle.fir_layout.specs.declared.laid.Laid.{Laid}
use Rattle.fir_layout.specs.Pieces.{A_token, bytes_of}
use Rattle.fir_tree.specs.declared.expr.Expr.{Expr}
use Rattle.fir_tree.specs.declared.print.Piece.{Piece}
use Rattle.fir_tree.specs.declared.stmt.Stmt.{Stmt}
use Rattle.fir_tree.specs.declared.stmt.Stmt.TheVariants as stmt
use Rattle.item_lines.specs.declared.line.Line.{Line, fold-Line, the_lemmas as line_lemmas}
use Rattle.item_lines.specs.declared.line.Line.TheVariants as entry
use Rattle.item_lines.specs.declared.line.Line.TheOpen.{Line-F, LineArm-F}
use Rattle.item_lines.specs.declared.line.LineArm.{LineArm, fold-LineArm}
use Rattle.item_lines.specs.declared.line.LineModule.{LineModule}
use Rattle.item_lines.specs.Formats.{IsQuotedFormat, shows}
use Rattle.item_lines.proofs.Formats.{formats_agree}
use Rattle.fir_grammar.specs.Grammar.{Terminal, A_format, Takes, Symbol, Is, A, Rule, IsCase, Tree, Values, tree, Spells, IsSpelled, Nothing, Its_place, Its_name, Its_magnitude, Its_place_and_magnitude, Its_number, Its_pieces, Text, Circuit_body, Modules, Module, Module_body, Ports, Statements, Statement, Printed, Block, Branches, Expressions, a_text, no_modules, some_modules, last_module, next_module, a_module, a_public_module, no_module_body, a_module_body, next_port, last_port, an_input, an_output, a_type, last_length, next_length, an_unsigned, a_signed, a_clock, a_reset, a_bundle, no_width, a_width, last_field, next_field, plain_field, flipped_field, last_statement, next_statement, a_wire, a_register, a_reset_register, a_memory, an_instance, a_node, a_connect, an_invalidate, a_when, a_skip, a_print, printed, a_stop, without_label, with_label, no_branch, else_when, else_, no_block, a_block, last_memory_line, next_memory_line, a_data_type, a_depth, a_read_latency, a_write_latency, a_read_under_write, under_old, under_new, under_undefined, a_reader, a_writer, a_readwriter, a_reference, a_mux, an_operation, no_more_expressions, one_more_expression, no_more_numbers, one_more_number, a_component, no_suffix, a_field_suffix, an_element_suffix, an_index_suffix, an_unsigned_literal, a_signed_literal, a_wide_unsigned_literal, a_wide_signed_literal, a_plain_integer, a_negative_integer, a_quoted_integer, no_symbol, a_rule, a_piece, a_place, a_name, a_magnitude, a_placed_magnitude, a_quoted, a_format}
use Rattle.item_laws.proofs.Below.{all_are, both, and_left, and_right}

abbrev pub of_line : Line-F Bool Bool → Bool
of_line (Line-F.Plain s) = true
of_line (Line-F.Branch arms other) = all_are arms && all_are other
of_line (Line-F.Print at clock condition pieces arguments) = length arguments == shows pieces
of_line (Line-F.Stop at clock condition code) = true

abbrev pub of_line_arm : LineArm-F Bool Bool → Bool
of_line_arm arm = all_are arm.body

abbrev pub line_shown : Line → Bool
line_shown = fold-Line Bool Bool of_line of_line_arm

abbrev pub arm_shown : LineArm → Bool
arm_shown = fold-LineArm Bool Bool of_line of_line_arm

abbrev pub module_shown : LineModule → Bool
module_shown m = all_are (map line_shown m.body)

-- layers

of-plain : (s : Stmt) → line_shown (entry.Plain s) ≡ true
of-plain s = grind (arith, common_steps, line_lemmas)

of-branch : (arms : List LineArm) (other : List Line) → line_shown (entry.Branch arms other) ≡ (all_are (map arm_shown arms) && all_are (map line_shown other))
of-branch arms other = grind (arith, common_steps, line_lemmas)

of-print : (at : Place) (clock condition : Expr) (pieces : List Piece) (arguments : List Expr) → line_shown (entry.Print at clock condition pieces arguments) ≡ (length arguments == shows pieces)
of-print at clock condition pieces arguments = grind (arith, common_steps, line_lemmas)

of-stop : (at : Place) (clock condition : Expr) (code : ℕ) → line_shown (entry.Stop at clock condition code) ≡ true
of-stop at clock condition code = grind (arith, common_steps, line_lemmas)

of-arm : (condition : Expr) (body : List Line) → arm_shown (record { condition = condition; body = body }) ≡ all_are (map line_shown body)
of-arm condition body = grind (arith, common_steps, line_lemmas)

-- what holds of the tree of each rule

abbrev Good : (r : Rule) → Tree r → Type 0
Good Text t = all_are (map module_shown t.1.1) ≡ true
Good Circuit_body ms = all_are (map module_shown ms) ≡ true
Good Modules ms = all_are (map module_shown ms) ≡ true
Good Module m = module_shown m ≡ true
Good Module_body b = all_are (map line_shown b.1) ≡ true
Good Ports b = all_are (map line_shown b.1) ≡ true
Good Statements ls = all_are (map line_shown ls) ≡ true
Good Statement l = line_shown l ≡ true
Good Printed b = length b.1 ≡ shows b.0
Good Block ls = all_are (map line_shown ls) ≡ true
Good Branches b = (all_are (map arm_shown b.0) && all_are (map line_shown b.1)) ≡ true
Good (Expressions n) es = length es ≡ n
Good _ t = ⊤

-- a format shows as many values as its piece asks
abbrev ShowsFor : Terminal → List Piece → Type 0
ShowsFor (A_format n) pieces = shows pieces ≡ n
ShowsFor _ pieces = ⊤

abbrev AllGood : (ss : List Symbol) → Values ss → Type 0
AllGood [] v = ⊤
AllGood (Is Nothing s ∷ ss) v = AllGood ss v
AllGood (Is Its_place s ∷ ss) v = AllGood ss v.1
AllGood (Is Its_name s ∷ ss) v = AllGood ss v.1
AllGood (Is Its_magnitude s ∷ ss) v = AllGood ss v.1
AllGood (Is Its_place_and_magnitude s ∷ ss) v = AllGood ss v.1.1
AllGood (Is Its_number s ∷ ss) v = AllGood ss v.1
AllGood (Is Its_pieces s ∷ ss) v = ShowsFor s v.0 × AllGood ss v.1
AllGood (A r ∷ ss) v = Good r v.0 × AllGood ss v.1

case_good : (major : ℕ) {r : Rule} {body : List Symbol} (case : IsCase r body) (ws : Values body) → AllGood body ws → Good r (tree major case ws)
case_good major a_text (version, (main, (modules, _))) (g, _) = g
case_good major no_modules _ g = refl
case_good major some_modules (modules, _) (g, _) = g
case_good major last_module _ g = refl
case_good major next_module (first, (others, _)) (g, (h, _)) = both g h
case_good major a_module (name, (body, _)) (g, _) = g
case_good major a_public_module (name, (body, _)) (g, _) = g
case_good major no_module_body _ g = refl
case_good major a_module_body (body, _) (g, _) = g
case_good major next_port (port, (body, _)) (_, (g, _)) = g
case_good major last_port (statements, _) (g, _) = g
case_good major an_input ws g = tt
case_good major an_output ws g = tt
case_good major a_type ws g = tt
case_good major last_length ws g = tt
case_good major next_length ws g = tt
case_good major an_unsigned ws g = tt
case_good major a_signed ws g = tt
case_good major a_clock ws g = tt
case_good major a_reset ws g = tt
case_good major a_bundle ws g = tt
case_good major no_width ws g = tt
case_good major a_width ws g = tt
case_good major last_field ws g = tt
case_good major next_field ws g = tt
case_good major plain_field ws g = tt
case_good major flipped_field ws g = tt
case_good major last_statement _ g = refl
case_good major next_statement (first, (others, _)) (g, (h, _)) = both g h
case_good major a_wire (name, (typ, _)) g = of-plain (stmt.Wire name typ)
case_good major a_register (name, (typ, (clock, _))) g = of-plain (stmt.Reg name typ clock)
case_good major a_reset_register (name, (typ, (clock, (reset, (init, _))))) g = of-plain (stmt.RegReset name typ clock reset init)
case_good major a_memory (name, (lines, _)) g = of-plain (stmt.Mem (record { name = name; lines = lines }))
case_good major an_instance (name, (of, _)) g = of-plain (stmt.Inst name of)
case_good major a_node (name, (value, _)) g = of-plain (stmt.Node name value)
case_good major a_connect (driven, (source, _)) g = of-plain (stmt.Connect driven source)
case_good major an_invalidate (driven, _) g = of-plain (stmt.Invalidate driven)
case_good major a_when (condition, (body, (branches, _))) (_, (h, (k, _))) =
    of-branch (record { condition = condition; body = body } ∷ branches.0) branches.1
    ∙ both (both (of-arm condition body ∙ h) (and_left (all_are (map arm_shown branches.0)) (all_are (map line_shown branches.1)) k))
    (and_right (all_are (map arm_shown branches.0)) (all_are (map line_shown branches.1)) k)
case_good major a_skip (at, _) g = of-plain (stmt.Skip at)
case_good major a_print (at, (clock, (condition, (what, _)))) (_, (_, (g, _))) = of-print at clock condition what.0 what.1 ∙ eq-eqb (length what.1) (shows what.0) g
case_good major (printed n) (pieces, (arguments, _)) (g, (h, _)) = h ∙ sym g
case_good major a_stop (at, (clock, (condition, (code, _)))) g = of-stop at clock condition code
case_good major without_label ws g = tt
case_good major with_label ws g = tt
case_good major no_branch _ g = refl
case_good major else_when (condition, (body, (branches, _))) (_, (h, (k, _))) =
    both (both (of-arm condition body ∙ h) (and_left (all_are (map arm_shown branches.0)) (all_are (map line_shown branches.1)) k))
    (and_right (all_are (map arm_shown branches.0)) (all_are (map line_shown branches.1)) k)
case_good major else_ (body, _) (g, _) = both refl g
case_good major no_block _ g = refl
case_good major a_block (statements, _) (g, _) = g
case_good major last_memory_line ws g = tt
case_good major next_memory_line ws g = tt
case_good major a_data_type ws g = tt
case_good major a_depth ws g = tt
case_good major a_read_latency ws g = tt
case_good major a_write_latency ws g = tt
case_good major a_read_under_write ws g = tt
case_good major under_old ws g = tt
case_good major under_new ws g = tt
case_good major under_undefined ws g = tt
case_good major a_reader ws g = tt
case_good major a_writer ws g = tt
case_good major a_readwriter ws g = tt
case_good major a_reference ws g = tt
case_good major a_mux ws g = tt
case_good major (an_operation prim written) ws g = tt
case_good major no_more_expressions ws g = refl
case_good major (one_more_expression n) (first, (others, _)) (_, (g, _)) = ap suc g
case_good major no_more_numbers ws g = tt
case_good major (one_more_number j) ws g = tt
case_good major a_component ws g = tt
case_good major no_suffix ws g = tt
case_good major a_field_suffix ws g = tt
case_good major an_element_suffix ws g = tt
case_good major an_index_suffix ws g = tt
case_good major an_unsigned_literal ws g = tt
case_good major a_signed_literal ws g = tt
case_good major a_wide_unsigned_literal ws g = tt
case_good major a_wide_signed_literal ws g = tt
case_good major a_plain_integer ws g = tt
case_good major a_negative_integer ws g = tt
case_good major a_quoted_integer ws g = tt

module _ (major : ℕ) (text : List ℕ) where
  shows_for : (s : Terminal) (k : TokenKind) (bytes : List ℕ) (pieces : List Piece) → Takes s (A_token k bytes) → IsQuotedFormat bytes pieces → ShowsFor s pieces
  shows_for (A_format n) kind.Text bytes pieces t f = ap shows (formats_agree bytes pieces t.0 f t.1) ∙ t.2
  shows_for (A_format n) _ bytes pieces t f = absurd t
  shows_for _ k bytes pieces t f = tt

  spelled_good : {ss : List Symbol} {ls rest : List Laid} {names after : List (List ℕ)} {vs : Values ss} → Spells major text ss ls names vs rest after → AllGood ss vs
  spelled_good no_symbol = tt
  spelled_good (a_rule {ws = ws} case inside behind) = (case_good major case ws (spelled_good inside), spelled_good behind)
  spelled_good (a_piece t s) = spelled_good s
  spelled_good (a_place t s) = spelled_good s
  spelled_good (a_name t n s) = spelled_good s
  spelled_good (a_magnitude t n s) = spelled_good s
  spelled_good (a_placed_magnitude t n s) = spelled_good s
  spelled_good (a_quoted t n s) = spelled_good s
  spelled_good (a_format {s = s} {token = token} {pieces = pieces} t f g) = (shows_for s token.kind (bytes_of text token) pieces t f, spelled_good g)

pub spelled_shown : (text : List ℕ) (list : List Laid) (major : ℕ) (main : Name) (modules : List LineModule) (names : List (List ℕ)) → IsSpelled text list major main modules names
    → all_are (map module_shown modules) ≡ true
spelled_shown text list major main modules names is = (spelled_good major text is.spelled).0
