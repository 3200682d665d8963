-- In a circuit that a text spells, operations have their operands and parameters.
use Rattle.std.proofs.Common.{◌≡◌, ℕ, suc, Bool, true, false, if◌then◌else◌, ◌&&◌, List, [], ◌∷◌, map, length, refl, sym, ap, ◌∙◌}
use Rattle.std.specs.Prelude.{⊤, ◌==◌}
use Rattle.std.proofs.lemmas.Bool.{eq-eqb}
use Rattle.std.proofs.lemmas.List.{length-map}
use Rattle.prim_ops.specs.declared.operation.PrimOp.{PrimOp}
use Rattle.prim_ops.specs.declared.operation.PrimOp.TheVariants.{Shr, ShrFour}
use Rattle.prim_ops.specs.Operations.{arity_of, of_version}
use Rattle.fir_tree.specs.declared.circuit.Circuit.{Circuit}
use Rattle.fir_tree.specs.declared.stmt.Stmt.TheVariants as stmt
use Rattle.fir_layout.specs.declared.laid.Laid.{Laid}
use Rattle.fir_grammar.specs.Grammar.{Symbol, Is, A, Rule, IsCase, Tree, Values, tree, Spells, IsCircuit, Nothing, Its_place, Its_name, Its_magnitude, Its_place_and_magnitude, Its_number, Its_pieces, Text, Circuit_body, Modules, Module, Module_body, Ports, Port, Type_of, Lengths, Base_type, Width, Fields, Field, Statements, Statement, Printed, Item_end, Block, Branches, Memory_lines, Memory_line, Under_write, Expression, Expressions, Numbers, Reference, Suffixes, Integer, a_text, no_modules, some_modules, last_module, next_module, a_module, a_public_module, no_module_body, a_module_body, next_port, last_port, an_input, an_output, a_type, last_length, next_length, an_unsigned, a_signed, a_clock, a_reset, a_bundle, no_width, a_width, last_field, next_field, plain_field, flipped_field, last_statement, next_statement, a_wire, a_register, a_reset_register, a_memory, an_instance, a_node, a_connect, an_invalidate, a_when, a_skip, a_print, printed, a_stop, without_label, with_label, no_branch, else_when, else_, no_block, a_block, last_memory_line, next_memory_line, a_data_type, a_depth, a_read_latency, a_write_latency, a_read_under_write, under_old, under_new, under_undefined, a_reader, a_writer, a_readwriter, a_reference, a_mux, an_operation, no_more_expressions, one_more_expression, no_more_numbers, one_more_number, a_component, no_suffix, a_field_suffix, an_element_suffix, an_index_suffix, an_unsigned_literal, a_signed_literal, a_wide_unsigned_literal, a_wide_signed_literal, a_plain_integer, a_negative_integer, a_quoted_integer, no_symbol, a_rule, a_piece, a_place, a_name, a_magnitude, a_placed_magnitude, a_quoted, a_format}
use Rattle.fitted_laws.specs.Shaped.{all_are, is_shaped, is_shaped_circuit}
use Rattle.fitted_laws.proofs.Expressions.{and_left, and_right}
use Rattle.fitted_laws.proofs.Shapes.{shaped_suffix, shaped_line, shaped_line_arm, shaped_lines, of-ref, of-literal, of-prim, of-mux, of-field, of-at, of-index, of-wire, of-reg, of-regreset, of-mem, of-inst, of-node, of-connect, of-invalidate, of-skip, of-plain, of-branch, of-print, of-stop, of-line-arm, both}
use Rattle.fitted_laws.proofs.ItemShapes.{circuit_shaped}

-- What holds of the tree of each rule

abbrev Good : (r : Rule) → Tree r → Type 0
Good Text t = all_are (map shaped_lines t.1.1) ≡ true
Good Circuit_body ms = all_are (map shaped_lines ms) ≡ true
Good Modules ms = all_are (map shaped_lines ms) ≡ true
Good Module m = shaped_lines m ≡ true
Good Module_body b = all_are (map shaped_line b.1) ≡ true
Good Ports b = all_are (map shaped_line b.1) ≡ true
Good Statements ss = all_are (map shaped_line ss) ≡ true
Good Statement s = shaped_line s ≡ true
Good Block ss = all_are (map shaped_line ss) ≡ true
Good Printed b = all_are (map is_shaped b.1) ≡ true
Good Branches b = (all_are (map shaped_line_arm b.0) && all_are (map shaped_line b.1)) ≡ true
Good Expression e = is_shaped e ≡ true
Good (Expressions n) es = (length es ≡ n) × (all_are (map is_shaped es) ≡ true)
Good (Numbers n) ns = length ns ≡ n
Good Reference e = is_shaped e ≡ true
Good Suffixes ss = all_are (map shaped_suffix ss) ≡ true
Good Port t = ⊤
Good Type_of t = ⊤
Good Lengths t = ⊤
Good Base_type t = ⊤
Good Width t = ⊤
Good Fields t = ⊤
Good Field t = ⊤
Good Memory_lines t = ⊤
Good Memory_line t = ⊤
Good Under_write t = ⊤
Good Integer t = ⊤
Good Item_end t = ⊤

abbrev AllGood : (ss : List Symbol) → Values ss → Type 0
AllGood [] v = ⊤
AllGood (Is Nothing s ∷ ss) v = AllGood ss v
AllGood (Is Its_place s ∷ ss) v = AllGood ss v.1
AllGood (Is Its_name s ∷ ss) v = AllGood ss v.1
AllGood (Is Its_magnitude s ∷ ss) v = AllGood ss v.1
AllGood (Is Its_place_and_magnitude s ∷ ss) v = AllGood ss v.1.1
AllGood (Is Its_number s ∷ ss) v = AllGood ss v.1
AllGood (Is Its_pieces s ∷ ss) v = AllGood ss v.1
AllGood (A r ∷ ss) v = Good r v.0 × AllGood ss v.1

arity_version : (major : ℕ) (prim : PrimOp) → arity_of (of_version major prim) ≡ arity_of prim
arity_version major Shr = by (major == 4)
  where
    by : (b : Bool) → arity_of (if b then ShrFour else Shr) ≡ (1, 1)
    by true = refl
    by false = refl
arity_version major _ = refl

case_good : (major : ℕ) {r : Rule} {body : List Symbol} (case : IsCase r body) (ws : Values body) → AllGood body ws → Good r (tree major case ws)
case_good major a_text (version, (main, (modules, _))) (g, _) = g
case_good major no_modules _ g = refl
case_good major some_modules (modules, _) (g, _) = g
case_good major last_module _ g = refl
case_good major next_module (first, (others, _)) (g, (h, _)) = both g h
case_good major a_module (name, (body, _)) (g, _) = g
case_good major a_public_module (name, (body, _)) (g, _) = g
case_good major no_module_body _ g = refl
case_good major a_module_body (body, _) (g, _) = g
case_good major next_port (port, (body, _)) (_, (g, _)) = g
case_good major last_port (statements, _) (g, _) = g
case_good major an_input (name, (typ, _)) g = tt
case_good major an_output (name, (typ, _)) g = tt
case_good major a_type (base, (lengths, _)) g = tt
case_good major last_length _ g = tt
case_good major next_length (n, (ns, _)) g = tt
case_good major an_unsigned (at, (width, _)) g = tt
case_good major a_signed (at, (width, _)) g = tt
case_good major a_clock (at, _) g = tt
case_good major a_reset (at, _) g = tt
case_good major a_bundle (at, (fields, _)) g = tt
case_good major no_width _ g = tt
case_good major a_width (n, _) g = tt
case_good major last_field _ g = tt
case_good major next_field (first, (others, _)) g = tt
case_good major plain_field (name, (typ, _)) g = tt
case_good major flipped_field (name, (typ, _)) g = tt
case_good major last_statement _ g = refl
case_good major next_statement (first, (others, _)) (g, (h, _)) = both g h
case_good major a_wire (name, (typ, _)) g = of-plain (stmt.Wire name typ) ∙ of-wire name typ
case_good major a_register (name, (typ, (clock, _))) (_, (g, _)) = of-plain (stmt.Reg name typ clock) ∙ of-reg name typ clock ∙ g
case_good major a_reset_register (name, (typ, (clock, (reset, (init, _))))) (_, (g, (h, (k, _)))) = of-plain (stmt.RegReset name typ clock reset init) ∙ of-regreset name typ clock reset init ∙ both g (both h k)
case_good major a_memory (name, (lines, _)) g = of-plain (stmt.Mem (record { name = name; lines = lines })) ∙ of-mem (record { name = name; lines = lines })
case_good major an_instance (name, (of, _)) g = of-plain (stmt.Inst name of) ∙ of-inst name of
case_good major a_node (name, (value, _)) (g, _) = of-plain (stmt.Node name value) ∙ of-node name value ∙ g
case_good major a_connect (driven, (source, _)) (g, (h, _)) = of-plain (stmt.Connect driven source) ∙ of-connect driven source ∙ both g h
case_good major an_invalidate (driven, _) (g, _) = of-plain (stmt.Invalidate driven) ∙ of-invalidate driven ∙ g
case_good major a_when (condition, (body, (branches, _))) (g, (h, (k, _))) =
    of-branch (record { condition = condition; body = body } ∷ branches.0) branches.1
    ∙ both (both (of-line-arm condition body ∙ both g h) (and_left (all_are (map shaped_line_arm branches.0)) (all_are (map shaped_line branches.1)) k))
    (and_right (all_are (map shaped_line_arm branches.0)) (all_are (map shaped_line branches.1)) k)
case_good major a_skip (at, _) g = of-plain (stmt.Skip at) ∙ of-skip at
case_good major a_print (at, (clock, (condition, (what, _)))) (g, (h, (k, _))) = of-print at clock condition what.0 what.1 ∙ both g (both h k)
case_good major (printed n) (pieces, (arguments, _)) (g, _) = g.1
case_good major a_stop (at, (clock, (condition, (code, _)))) (g, (h, _)) = of-stop at clock condition code ∙ both g h
case_good major without_label _ g = tt
case_good major with_label _ g = tt
case_good major no_branch _ g = refl
case_good major else_when (condition, (body, (branches, _))) (g, (h, (k, _))) =
    both (both (of-line-arm condition body ∙ both g h) (and_left (all_are (map shaped_line_arm branches.0)) (all_are (map shaped_line branches.1)) k))
    (and_right (all_are (map shaped_line_arm branches.0)) (all_are (map shaped_line branches.1)) k)
case_good major else_ (body, _) (g, _) = both refl g
case_good major no_block _ g = refl
case_good major a_block (statements, _) (g, _) = g
case_good major last_memory_line _ g = tt
case_good major next_memory_line (first, (others, _)) g = tt
case_good major a_data_type (at, (typ, _)) g = tt
case_good major a_depth (at, (n, _)) g = tt
case_good major a_read_latency (at, (n, _)) g = tt
case_good major a_write_latency (at, (n, _)) g = tt
case_good major a_read_under_write (at, (what, _)) g = tt
case_good major under_old _ g = tt
case_good major under_new _ g = tt
case_good major under_undefined _ g = tt
case_good major a_reader (at, (name, _)) g = tt
case_good major a_writer (at, (name, _)) g = tt
case_good major a_readwriter (at, (name, _)) g = tt
case_good major a_reference (expr, _) (g, _) = g
case_good major a_mux (at, (operands, _)) (g, _) = of-mux at operands ∙ both g.1 (eq-eqb (length (map is_shaped operands)) 3 (length-map operands is_shaped ∙ g.0))
case_good major (an_operation prim written) (at, (operands, (parameters, _))) (g, (h, _)) =
    let is : PrimOp = of_version major prim in
    let many = arity_version major prim in
    of-prim at is operands parameters
    ∙ both g.1 (both (eq-eqb (length (map is_shaped operands)) (arity_of is).0 (length-map operands is_shaped ∙ g.0 ∙ ap (λ (p : ℕ × ℕ). p.0) (sym many)))
    (eq-eqb (length parameters) (arity_of is).1 (h ∙ ap (λ (p : ℕ × ℕ). p.1) (sym many))))
case_good major no_more_expressions _ g = (refl, refl)
case_good major (one_more_expression n) (first, (others, _)) (g, (h, _)) = (ap suc h.0, both g h.1)
case_good major no_more_numbers _ g = refl
case_good major (one_more_number n) (first, (others, _)) (g, _) = ap suc g
case_good major a_component (name, (suffixes, _)) (g, _) = of-ref name.place name suffixes ∙ g
case_good major no_suffix _ g = refl
case_good major a_field_suffix (name, (others, _)) (g, _) = both (of-field name) g
case_good major an_element_suffix (at, (number_at, (n, (others, _)))) (g, _) = both (of-at at number_at n) g
case_good major an_index_suffix (at, (index, (others, _))) (g, (h, _)) = both (of-index at index ∙ g) h
case_good major an_unsigned_literal (at, (n, _)) g = of-literal at _ _ n
case_good major a_signed_literal (at, (n, _)) g = of-literal at _ _ n
case_good major a_wide_unsigned_literal (at, (width, (n, _))) g = of-literal at _ _ n
case_good major a_wide_signed_literal (at, (width, (n, _))) g = of-literal at _ _ n
case_good major a_plain_integer (n, _) g = tt
case_good major a_negative_integer (n, _) g = tt
case_good major a_quoted_integer (n, _) g = tt

module _ (major : ℕ) (text : List ℕ) where
  spelled_good : {ss : List Symbol} {ls rest : List Laid} {names after : List (List ℕ)} {vs : Values ss} → Spells major text ss ls names vs rest after → AllGood ss vs
  spelled_good no_symbol = tt
  spelled_good (a_rule {ws = ws} case inside behind) = (case_good major case ws (spelled_good inside), spelled_good behind)
  spelled_good (a_piece t s) = spelled_good s
  spelled_good (a_place t s) = spelled_good s
  spelled_good (a_name t n s) = spelled_good s
  spelled_good (a_magnitude t n s) = spelled_good s
  spelled_good (a_placed_magnitude t n s) = spelled_good s
  spelled_good (a_quoted t n s) = spelled_good s
  spelled_good (a_format t n s) = spelled_good s

pub spelled_shaped : (text : List ℕ) (list : List Laid) (circuit : Circuit) → IsCircuit text list circuit → is_shaped_circuit circuit ≡ true
spelled_shaped text list circuit is = ap is_shaped_circuit is.is ∙ circuit_shaped circuit.main is.lines is.names (spelled_good is.major text is.spelled.spelled).0
