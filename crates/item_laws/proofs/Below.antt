-- In lines that a text spells the references that are driven name components of the text.
use Rattle.std.proofs.Common.{◌≡◌, ℕ, ◌<◌, Bool, true, false, ◌&&◌, List, [], ◌∷◌, map, length, nat_lt, refl, ap₂, ◌∙◌, arith}
use Rattle.std.specs.Prelude.{⊤}
use Rattle.std.specs.List.{list_all}
use Rattle.std.proofs.lemmas.Grind.{common_steps}
use Rattle.std.proofs.lemmas.Bool.{lt-ltb}
use Rattle.std.proofs.lemmas.Option.{slice_get_within}
use Rattle.place_text.specs.declared.place.Place.{Place}
use Rattle.fir_types.specs.declared.name.Name.{Name}
use Rattle.fir_types.specs.declared.fir_type.FirType.{FirType}
use Rattle.fir_types.specs.declared.memory.Memory.{Memory}
use Rattle.fir_tree.specs.declared.expr.Expr.{Expr, the_lemmas as expr_lemmas}
use Rattle.fir_tree.specs.declared.expr.Form.{Form}
use Rattle.fir_tree.specs.declared.expr.Suffix.{Suffix}
use Rattle.fir_tree.specs.declared.expr.Form.TheOpen.{Form-F}
use Rattle.fir_tree.specs.declared.expr.Form.TheViews.{out-Form}
use Rattle.fir_tree.specs.declared.expr.Form.TheVariants as form
use Rattle.fir_tree.specs.declared.print.Piece.{Piece}
use Rattle.fir_tree.specs.declared.stmt.Stmt.{Stmt, the_lemmas as stmt_lemmas}
use Rattle.fir_tree.specs.declared.stmt.Stmt.TheVariants as stmt
use Rattle.fir_tree.specs.declared.stmt.Arm.{Arm}
use Rattle.fir_tree.specs.declared.stmt.Stmt.TheOpen.{Stmt-F}
use Rattle.fir_tree.specs.declared.stmt.Stmt.TheViews.{out-Stmt}
use Rattle.item_lines.specs.declared.line.Line.{Line, fold-Line, the_lemmas as line_lemmas}
use Rattle.item_lines.specs.declared.line.Line.TheVariants as entry
use Rattle.item_lines.specs.declared.line.Line.TheOpen.{Line-F, LineArm-F}
use Rattle.item_lines.specs.declared.line.LineArm.{LineArm, fold-LineArm}
use Rattle.item_lines.specs.declared.line.LineModule.{LineModule}
use Rattle.item_lines.specs.Naming.{Keeps}
use Rattle.item_lines.proofs.Naming.{names_kept}
use Rattle.fir_layout.specs.declared.laid.Laid.{Laid}
use Rattle.fir_grammar.specs.Grammar.{Symbol, Is, A, Rule, IsCase, Tree, Values, tree, Spells, Nothing, Its_place, Its_name, Its_magnitude, Its_place_and_magnitude, Its_number, Its_pieces, Text, Circuit_body, Modules, Module, Module_body, Ports, Statements, Statement, Block, Branches, Reference, a_text, no_modules, some_modules, last_module, next_module, a_module, a_public_module, no_module_body, a_module_body, next_port, last_port, an_input, an_output, a_type, last_length, next_length, an_unsigned, a_signed, a_clock, a_reset, a_bundle, no_width, a_width, last_field, next_field, plain_field, flipped_field, last_statement, next_statement, a_wire, a_register, a_reset_register, a_memory, an_instance, a_node, a_connect, an_invalidate, a_when, a_skip, a_print, printed, a_stop, without_label, with_label, no_branch, else_when, else_, no_block, a_block, last_memory_line, next_memory_line, a_data_type, a_depth, a_read_latency, a_write_latency, a_read_under_write, under_old, under_new, under_undefined, a_reader, a_writer, a_readwriter, a_reference, a_mux, an_operation, no_more_expressions, one_more_expression, no_more_numbers, one_more_number, a_component, no_suffix, a_field_suffix, an_element_suffix, an_index_suffix, an_unsigned_literal, a_signed_literal, a_wide_unsigned_literal, a_wide_signed_literal, a_plain_integer, a_negative_integer, a_quoted_integer, no_symbol, a_rule, a_piece, a_place, a_name, a_magnitude, a_placed_magnitude, a_quoted, a_format, IsSpelled}

abbrev pub all_are : List Bool → Bool
all_are = list_all (λ b. b)

-- the number of the component that a reference names is below n
abbrev pub form_below : ℕ → Form-F Form Suffix Expr → Bool
form_below n (Form-F.Ref name suffixes) = nat_lt name.id n
form_below n _ = true

abbrev pub ref_below : ℕ → Expr → Bool
ref_below n e = form_below n (out-Form e.form)

-- a line of a text has no block in its statement
abbrev pub layer_below : ℕ → Stmt-F Stmt Arm → Bool
layer_below n (Stmt-F.Connect left right) = ref_below n left
layer_below n (Stmt-F.Invalidate target) = ref_below n target
layer_below n (Stmt-F.When arms other) = false
layer_below n _ = true

abbrev pub plain_below : ℕ → Stmt → Bool
plain_below n s = layer_below n (out-Stmt s)

abbrev pub of_line : ℕ → Line-F Bool Bool → Bool
of_line n (Line-F.Plain s) = plain_below n s
of_line n (Line-F.Branch arms other) = all_are arms && all_are other
of_line n _ = true

abbrev pub of_line_arm : LineArm-F Bool Bool → Bool
of_line_arm arm = all_are arm.body

abbrev pub line_below : ℕ → Line → Bool
line_below n = fold-Line Bool Bool (of_line n) of_line_arm

abbrev pub arm_below : ℕ → LineArm → Bool
arm_below n = fold-LineArm Bool Bool (of_line n) of_line_arm

abbrev pub module_below : ℕ → LineModule → Bool
module_below n m = all_are (map (line_below n) m.body)

-- layers

module _ (n : ℕ) where
  of-plain : (s : Stmt) → line_below n (entry.Plain s) ≡ plain_below n s
  of-plain s = grind (arith, common_steps, line_lemmas)

  of-branch : (arms : List LineArm) (other : List Line) → line_below n (entry.Branch arms other) ≡ (all_are (map (arm_below n) arms) && all_are (map (line_below n) other))
  of-branch arms other = grind (arith, common_steps, line_lemmas)

  of-print : (at : Place) (clock condition : Expr) (pieces : List Piece) (arguments : List Expr) → line_below n (entry.Print at clock condition pieces arguments) ≡ true
  of-print at clock condition pieces arguments = grind (arith, common_steps, line_lemmas)

  of-stop : (at : Place) (clock condition : Expr) (code : ℕ) → line_below n (entry.Stop at clock condition code) ≡ true
  of-stop at clock condition code = grind (arith, common_steps, line_lemmas)

  of-arm : (condition : Expr) (body : List Line) → arm_below n (record { condition = condition; body = body }) ≡ all_are (map (line_below n) body)
  of-arm condition body = grind (arith, common_steps, line_lemmas)

  plain-wire : (name : Name) (typ : FirType) → plain_below n (stmt.Wire name typ) ≡ true
  plain-wire name typ = grind (arith, common_steps, stmt_lemmas)

  plain-reg : (name : Name) (typ : FirType) (clock : Expr) → plain_below n (stmt.Reg name typ clock) ≡ true
  plain-reg name typ clock = grind (arith, common_steps, stmt_lemmas)

  plain-regreset : (name : Name) (typ : FirType) (clock reset init : Expr) → plain_below n (stmt.RegReset name typ clock reset init) ≡ true
  plain-regreset name typ clock reset init = grind (arith, common_steps, stmt_lemmas)

  plain-mem : (memory : Memory) → plain_below n (stmt.Mem memory) ≡ true
  plain-mem memory = grind (arith, common_steps, stmt_lemmas)

  plain-inst : (name of : Name) → plain_below n (stmt.Inst name of) ≡ true
  plain-inst name of = grind (arith, common_steps, stmt_lemmas)

  plain-node : (name : Name) (e : Expr) → plain_below n (stmt.Node name e) ≡ true
  plain-node name e = grind (arith, common_steps, stmt_lemmas)

  plain-connect : (left right : Expr) → plain_below n (stmt.Connect left right) ≡ ref_below n left
  plain-connect left right = grind (arith, common_steps, stmt_lemmas)

  plain-invalidate : (target : Expr) → plain_below n (stmt.Invalidate target) ≡ ref_below n target
  plain-invalidate target = grind (arith, common_steps, stmt_lemmas)

  plain-skip : (at : Place) → plain_below n (stmt.Skip at) ≡ true
  plain-skip at = grind (arith, common_steps, stmt_lemmas)

  ref-below : (at : Place) (name : Name) (suffixes : List Suffix) → ref_below n (record { place = at; form = form.Ref name suffixes }) ≡ nat_lt name.id n
  ref-below at name suffixes = grind (arith, common_steps, expr_lemmas)

pub both : {a b : Bool} → a ≡ true → b ≡ true → (a && b) ≡ true
both e f = ap₂ (λ x y. x && y) e f

pub and_left : (a b : Bool) → (a && b) ≡ true → a ≡ true
and_left true b e = refl
and_left false b e = cc

pub and_right : (a b : Bool) → (a && b) ≡ true → b ≡ true
and_right true b e = e
and_right false b e = cc

-- what holds of the tree of each rule

abbrev Good : ℕ → (r : Rule) → Tree r → Type 0
Good n Text t = all_are (map (module_below n) t.1.1) ≡ true
Good n Circuit_body ms = all_are (map (module_below n) ms) ≡ true
Good n Modules ms = all_are (map (module_below n) ms) ≡ true
Good n Module m = module_below n m ≡ true
Good n Module_body b = all_are (map (line_below n) b.1) ≡ true
Good n Ports b = all_are (map (line_below n) b.1) ≡ true
Good n Statements ls = all_are (map (line_below n) ls) ≡ true
Good n Statement l = line_below n l ≡ true
Good n Block ls = all_are (map (line_below n) ls) ≡ true
Good n Branches b = (all_are (map (arm_below n) b.0) && all_are (map (line_below n) b.1)) ≡ true
Good n Reference e = ref_below n e ≡ true
Good n _ t = ⊤

abbrev AllGood : ℕ → (ss : List Symbol) → Values ss → Type 0
AllGood n [] v = ⊤
AllGood n (Is Nothing s ∷ ss) v = AllGood n ss v
AllGood n (Is Its_place s ∷ ss) v = AllGood n ss v.1
AllGood n (Is Its_name s ∷ ss) v = (v.0.id < n) × AllGood n ss v.1
AllGood n (Is Its_magnitude s ∷ ss) v = AllGood n ss v.1
AllGood n (Is Its_place_and_magnitude s ∷ ss) v = AllGood n ss v.1.1
AllGood n (Is Its_number s ∷ ss) v = AllGood n ss v.1
AllGood n (Is Its_pieces s ∷ ss) v = AllGood n ss v.1
AllGood n (A r ∷ ss) v = Good n r v.0 × AllGood n ss v.1

case_good : (n major : ℕ) {r : Rule} {body : List Symbol} (case : IsCase r body) (ws : Values body) → AllGood n body ws → Good n r (tree major case ws)
case_good n major a_text (version, (main, (modules, _))) (_, (g, _)) = g
case_good n major no_modules _ g = refl
case_good n major some_modules (modules, _) (g, _) = g
case_good n major last_module _ g = refl
case_good n major next_module (first, (others, _)) (g, (h, _)) = both g h
case_good n major a_module (name, (body, _)) (_, (g, _)) = g
case_good n major a_public_module (name, (body, _)) (_, (g, _)) = g
case_good n major no_module_body _ g = refl
case_good n major a_module_body (body, _) (g, _) = g
case_good n major next_port (port, (body, _)) (_, (g, _)) = g
case_good n major last_port (statements, _) (g, _) = g
case_good n major an_input ws g = tt
case_good n major an_output ws g = tt
case_good n major a_type ws g = tt
case_good n major last_length ws g = tt
case_good n major next_length ws g = tt
case_good n major an_unsigned ws g = tt
case_good n major a_signed ws g = tt
case_good n major a_clock ws g = tt
case_good n major a_reset ws g = tt
case_good n major a_bundle ws g = tt
case_good n major no_width ws g = tt
case_good n major a_width ws g = tt
case_good n major last_field ws g = tt
case_good n major next_field ws g = tt
case_good n major plain_field ws g = tt
case_good n major flipped_field ws g = tt
case_good n major last_statement _ g = refl
case_good n major next_statement (first, (others, _)) (g, (h, _)) = both g h
case_good n major a_wire (name, (typ, _)) g = of-plain n (stmt.Wire name typ) ∙ plain-wire n name typ
case_good n major a_register (name, (typ, (clock, _))) g = of-plain n (stmt.Reg name typ clock) ∙ plain-reg n name typ clock
case_good n major a_reset_register (name, (typ, (clock, (reset, (init, _))))) g = of-plain n (stmt.RegReset name typ clock reset init) ∙ plain-regreset n name typ clock reset init
case_good n major a_memory (name, (lines, _)) g = of-plain n (stmt.Mem (record { name = name; lines = lines })) ∙ plain-mem n (record { name = name; lines = lines })
case_good n major an_instance (name, (of, _)) g = of-plain n (stmt.Inst name of) ∙ plain-inst n name of
case_good n major a_node (name, (value, _)) g = of-plain n (stmt.Node name value) ∙ plain-node n name value
case_good n major a_connect (driven, (source, _)) (g, _) = of-plain n (stmt.Connect driven source) ∙ (plain-connect n driven source ∙ g)
case_good n major an_invalidate (driven, _) (g, _) = of-plain n (stmt.Invalidate driven) ∙ (plain-invalidate n driven ∙ g)
case_good n major a_when (condition, (body, (branches, _))) (_, (h, (k, _))) =
    of-branch n (record { condition = condition; body = body } ∷ branches.0) branches.1
    ∙ both (both (of-arm n condition body ∙ h) (and_left (all_are (map (arm_below n) branches.0)) (all_are (map (line_below n) branches.1)) k))
    (and_right (all_are (map (arm_below n) branches.0)) (all_are (map (line_below n) branches.1)) k)
case_good n major a_skip (at, _) g = of-plain n (stmt.Skip at) ∙ plain-skip n at
case_good n major a_print (at, (clock, (condition, (what, _)))) g = of-print n at clock condition what.0 what.1
case_good n major (printed j) ws g = tt
case_good n major a_stop (at, (clock, (condition, (code, _)))) g = of-stop n at clock condition code
case_good n major without_label ws g = tt
case_good n major with_label ws g = tt
case_good n major no_branch _ g = refl
case_good n major else_when (condition, (body, (branches, _))) (_, (h, (k, _))) =
    both (both (of-arm n condition body ∙ h) (and_left (all_are (map (arm_below n) branches.0)) (all_are (map (line_below n) branches.1)) k))
    (and_right (all_are (map (arm_below n) branches.0)) (all_are (map (line_below n) branches.1)) k)
case_good n major else_ (body, _) (g, _) = both refl g
case_good n major no_block _ g = refl
case_good n major a_block (statements, _) (g, _) = g
case_good n major last_memory_line ws g = tt
case_good n major next_memory_line ws g = tt
case_good n major a_data_type ws g = tt
case_good n major a_depth ws g = tt
case_good n major a_read_latency ws g = tt
case_good n major a_write_latency ws g = tt
case_good n major a_read_under_write ws g = tt
case_good n major under_old ws g = tt
case_good n major under_new ws g = tt
case_good n major under_undefined ws g = tt
case_good n major a_reader ws g = tt
case_good n major a_writer ws g = tt
case_good n major a_readwriter ws g = tt
case_good n major a_reference ws g = tt
case_good n major a_mux ws g = tt
case_good n major (an_operation prim written) ws g = tt
case_good n major no_more_expressions ws g = tt
case_good n major (one_more_expression j) ws g = tt
case_good n major no_more_numbers ws g = tt
case_good n major (one_more_number j) ws g = tt
case_good n major a_component (name, (suffixes, _)) (less, _) = ref-below n name.place name suffixes ∙ lt-ltb name.id n less
case_good n major no_suffix ws g = tt
case_good n major a_field_suffix ws g = tt
case_good n major an_element_suffix ws g = tt
case_good n major an_index_suffix ws g = tt
case_good n major an_unsigned_literal ws g = tt
case_good n major a_signed_literal ws g = tt
case_good n major a_wide_unsigned_literal ws g = tt
case_good n major a_wide_signed_literal ws g = tt
case_good n major a_plain_integer ws g = tt
case_good n major a_negative_integer ws g = tt
case_good n major a_quoted_integer ws g = tt

module _ (major : ℕ) (text : List ℕ) where
  -- no name changes its number
  spelled_keeps : {ss : List Symbol} {ls rest : List Laid} {names after : List (List ℕ)} {vs : Values ss} → Spells major text ss ls names vs rest after → Keeps names after
  spelled_keeps no_symbol id t h = h
  spelled_keeps (a_rule case inside behind) id t h = spelled_keeps behind id t (spelled_keeps inside id t h)
  spelled_keeps (a_piece t s) id u h = spelled_keeps s id u h
  spelled_keeps (a_place t s) id u h = spelled_keeps s id u h
  spelled_keeps (a_name {names = names} {more = more} {id = number} t adds s) id u h = spelled_keeps s id u (names_kept names more _ number adds id u h)
  spelled_keeps (a_magnitude t m s) id u h = spelled_keeps s id u h
  spelled_keeps (a_placed_magnitude t m s) id u h = spelled_keeps s id u h
  spelled_keeps (a_quoted t m s) id u h = spelled_keeps s id u h
  spelled_keeps (a_format t m s) id u h = spelled_keeps s id u h

  spelled_good : {ss : List Symbol} {ls rest : List Laid} {names after : List (List ℕ)} {vs : Values ss} → Spells major text ss ls names vs rest after
      → (all : List (List ℕ)) → Keeps after all → AllGood (length all) ss vs
  spelled_good no_symbol all k = tt
  spelled_good (a_rule {ws = ws} case inside behind) all k = (
    case_good (length all) major case ws (spelled_good inside all (λ id t h. k id t (spelled_keeps behind id t h))),
    spelled_good behind all k,
  )
  spelled_good (a_piece t s) all k = spelled_good s all k
  spelled_good (a_place t s) all k = spelled_good s all k
  spelled_good (a_name {id = number} t adds s) all k = (slice_get_within all number _ (k number _ (spelled_keeps s number _ adds.number)), spelled_good s all k)
  spelled_good (a_magnitude t m s) all k = spelled_good s all k
  spelled_good (a_placed_magnitude t m s) all k = spelled_good s all k
  spelled_good (a_quoted t m s) all k = spelled_good s all k
  spelled_good (a_format t m s) all k = spelled_good s all k

pub spelled_below : (text : List ℕ) (list : List Laid) (major : ℕ) (main : Name) (modules : List LineModule) (names : List (List ℕ)) → IsSpelled text list major main modules names
    → all_are (map (module_below (length names)) modules) ≡ true
spelled_below text list major main modules names is = (spelled_good major text is.spelled names (λ id t h. h)).0
