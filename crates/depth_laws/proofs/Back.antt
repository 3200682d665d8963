-- From the tree of each case to its parts: where the tree is as small as it may be, the parts are.
use Rattle.std.proofs.Common.{◌≡◌, ℕ, ◌+◌, ◌-◌, ◌≤◌, true, false, List, [], ◌∷◌, map, length, Option, Some, None, sym, ap, subst, arith}
use Rattle.std.specs.Prelude.{⊤, max}
use Rattle.bit_words.specs.declared.value.Kind.TheVariants as sign
use Rattle.fir_types.specs.declared.port.Port.{Port as ModulePort}
use Rattle.fir_tree.specs.declared.expr.Expr.{Expr}
use Rattle.item_lines.specs.declared.line.Line.{Line}
use Rattle.item_lines.specs.declared.line.LineArm.{LineArm}
use Rattle.prim_ops.specs.declared.operation.PrimOp.{PrimOp}
use Rattle.prim_ops.specs.Operations.{of_version}
use Rattle.fir_grammar.specs.Grammar.{Symbol, Rule, IsCase, Values, tree, a_text, no_modules, some_modules, last_module, next_module, a_module, a_public_module, no_module_body, a_module_body, next_port, last_port, an_input, an_output, a_type, last_length, next_length, an_unsigned, a_signed, a_clock, a_reset, a_bundle, no_width, a_width, last_field, next_field, plain_field, flipped_field, last_statement, next_statement, a_wire, a_register, a_reset_register, a_memory, an_instance, a_node, a_connect, an_invalidate, a_when, a_skip, a_print, printed, a_stop, without_label, with_label, no_branch, else_when, else_, no_block, a_block, last_memory_line, next_memory_line, a_data_type, a_depth, a_read_latency, a_write_latency, a_read_under_write, under_old, under_new, under_undefined, a_reader, a_writer, a_readwriter, a_reference, a_mux, an_operation, no_more_expressions, one_more_expression, no_more_numbers, one_more_number, a_component, no_suffix, a_field_suffix, an_element_suffix, an_index_suffix, an_unsigned_literal, a_signed_literal, a_wide_unsigned_literal, a_wide_signed_literal, a_plain_integer, a_negative_integer, a_quoted_integer}
use Rattle.depth_laws.specs.Blocks.{greatest, block_of, line_blocks, arm_blocks, body_blocks, module_blocks}
use Rattle.depth_laws.specs.Brackets.{type_brackets, expr_brackets}
use Rattle.depth_laws.specs.Suffixes.{type_suffixes, expr_suffixes}
use Rattle.depth_laws.proofs.Layers.{of-mem, of-branch, of-arm, in-wire, in-reg, in-regreset, in-mem, in-node, in-connect, in-invalidate, in-branch, in-print, in-stop, in-arm, brackets-bundle, brackets-field, lengths-bundle, suffixes-field, brackets-ref, brackets-literal, brackets-prim, brackets-mux, brackets-at, brackets-index, suffixes-ref, suffixes-literal, suffixes-prim, suffixes-mux, suffixes-at, suffixes-index}
use Rattle.depth_laws.proofs.Classes.{An_opening, operation_class}
use Rattle.depth_laws.proofs.Steps.{start, Wants, call_of, operands_of}
use Rattle.depth_laws.proofs.Within.{bracket_of, Within, AllWithin}
use Rattle.depth_laws.proofs.Forth.{InCall, vectors_brackets, vectors_own, vectors_inner}
use Rattle.depth_laws.proofs.Bounds.{left, right, back, pop, one_open, left_port, right_port, without_length, shorter, first_of, second_of, same, outer, Full, full_map, block_outer}

-- no block of the case is spelled empty
abbrev pub FullBody : List ModulePort → List Line → Type 0
FullBody [] body = Full body
FullBody (port ∷ ports) body = ⊤

abbrev pub Filled : {r : Rule} {body : List Symbol} → IsCase r body → Values body → Type 0
Filled some_modules ws = Full ws.0
Filled a_module_body ws = FullBody ws.0.0 ws.0.1
Filled a_block ws = Full ws.0
Filled _ ws = ⊤

body_outer : (b : ℕ) (ports : List ModulePort) (body : List Line) → FullBody ports body → body_blocks ports (map line_blocks body) ≤ 128 - b
    → (b + 1 ≤ 128) × (greatest (map line_blocks body) ≤ 128 - (b + 1))
body_outer b [] body full h = block_outer b (map line_blocks body) (full_map line_blocks body full) h
body_outer b (port ∷ ports) body full h = outer b (greatest (map line_blocks body)) h

memory_open : (b : ℕ) {n : ℕ} → n ≡ 1 → n ≤ 128 - b → b + 1 ≤ 128
memory_open b e h = omega (arith, e, h)

arm_outer : (b : ℕ) (condition : Expr) (body : List Line) (arms : List LineArm) → greatest (map arm_blocks (record { condition = condition; body = body } ∷ arms)) ≤ 128 - b
    → (block_of (map line_blocks body) ≤ 128 - b) × (greatest (map arm_blocks arms) ≤ 128 - b)
arm_outer b condition body arms h = (
  same b _ _ (sym (of-arm condition body)) (first_of b (arm_blocks (record { condition = condition; body = body })) (greatest (map arm_blocks arms)) h),
  second_of b (arm_blocks (record { condition = condition; body = body })) (greatest (map arm_blocks arms)) h,
)

fewer : {l : ℕ} (ns : List ℕ) → 1 ≤ l → bracket_of ns ≤ l
fewer [] h = omega arith
fewer (n ∷ ns) h = h

from_call : (prim : PrimOp) (b : ℕ) (h : Option ℕ) (o : List (Option ℕ)) (ws : Values (call_of prim ∷ operands_of prim)) → InCall prim An_opening b h o ws → AllWithin (call_of prim ∷ operands_of prim) (start b h o) ws
from_call prim b h o ws g = subst (λ c. InCall prim c b h o ws) (sym (operation_class prim)) g

pub case_parts : (major : ℕ) {r : Rule} {body : List Symbol} (case : IsCase r body) (b : ℕ) (h : Option ℕ) (o : List (Option ℕ)) (ws : Values body)
    → Wants r h o ⊤ → Filled case ws → Within r b h o (tree major case ws) → AllWithin body (start b h o) ws
case_parts major a_text b h o (version, (main, (modules, _))) x full w = (omega arith, (omega arith, (w, tt)))
case_parts major no_modules b h o ws x full w = tt
case_parts major some_modules b h o (modules, _) x full w = let i = block_outer b (map module_blocks modules) (full_map module_blocks modules full) (w.0) in (i.0, ((i.1, w.1), tt))
case_parts major last_module b h o ws x full w = tt
case_parts major next_module b h o (first, (others, _)) x full w = ((first_of b (module_blocks first) (greatest (map module_blocks others)) (w.0), left _ _ (w.1)), ((second_of b (module_blocks first) (greatest (map module_blocks others)) (w.0), right _ _ (w.1)), tt))
case_parts major a_module b h o (name, (body, _)) x full w = (w, tt)
case_parts major a_public_module b h o (name, (body, _)) x full w = (w, tt)
case_parts major no_module_body b h o ws x full w = tt
case_parts major a_module_body b h o (body, _) x full w = let i = body_outer b body.0 body.1 full (w.0) in (i.0, ((i.1, w.1), tt))
case_parts major next_port b h o (port, (body, _)) x full w = (left_port _ _ _ _ (w.1), ((w.0, right_port _ _ _ _ _ _ (w.1)), tt))
case_parts major last_port b h o (statements, _) x full w = ((w.0, right _ _ (w.1)), tt)
case_parts major an_input b h o (name, (typ, _)) x full w = (w, tt)
case_parts major an_output b h o (name, (typ, _)) x full w = (w, tt)
case_parts major a_type b h o (base, (lengths, _)) x full w = (
  (omega (arith, vectors_brackets base lengths, w.0), omega (arith, vectors_inner base lengths, w.1)),
  ((omega (arith, vectors_brackets base lengths, w.0), omega (arith, vectors_own base lengths, w.1)), tt),
)
case_parts major last_length b h o ws x full w = tt
case_parts major next_length b None o ws x full w = absurd x
case_parts major next_length b (Some k) o (n, (ns, _)) x full w = let i = shorter k (w.1) in (omega (arith, w.0), (i.0, ((fewer ns (w.0), i.1), tt)))
case_parts major an_unsigned b h o (at, (width, _)) x full w = (tt, tt)
case_parts major a_signed b h o (at, (width, _)) x full w = (tt, tt)
case_parts major a_clock b h o ws x full w = tt
case_parts major a_reset b h o ws x full w = tt
case_parts major a_bundle b h o (at, (fields, _)) x full w = let i = pop (length o) (back (brackets-bundle at fields) (ap (λ p. p.1) (lengths-bundle at fields)) w) in (i.0, (i.1, tt))
case_parts major no_width b h o ws x full w = tt
case_parts major a_width b h o ws x full w = tt
case_parts major last_field b h o ws x full w = tt
case_parts major next_field b h o (first, (others, _)) x full w = (left _ _ w, (right _ _ w, tt))
case_parts major plain_field b h o (name, (typ, _)) x full w = (back (brackets-field false name typ) (suffixes-field false name typ) w, tt)
case_parts major flipped_field b h o (name, (typ, _)) x full w = (back (brackets-field true name typ) (suffixes-field true name typ) w, tt)
case_parts major last_statement b h o ws x full w = tt
case_parts major next_statement b h o (first, (others, _)) x full w = ((first_of b (line_blocks first) (greatest (map line_blocks others)) (w.0), left _ _ (w.1)), ((second_of b (line_blocks first) (greatest (map line_blocks others)) (w.0), right _ _ (w.1)), tt))
case_parts major a_wire b h o (name, (typ, _)) x full w = (back (in-wire type_brackets expr_brackets name typ) (in-wire type_suffixes expr_suffixes name typ) (w.1), tt)
case_parts major a_register b h o (name, (typ, (clock, _))) x full w = let j = back (in-reg type_brackets expr_brackets name typ clock) (in-reg type_suffixes expr_suffixes name typ clock) (w.1) in (left _ _ j, (right _ _ j, tt))
case_parts major a_reset_register b h o (name, (typ, (clock, (reset, (init, _))))) x full w =
    let j = back (in-regreset type_brackets expr_brackets name typ clock reset init) (in-regreset type_suffixes expr_suffixes name typ clock reset init) (w.1) in
    let k = right _ _ j in
    let l = right _ _ k in
    (left _ _ j, (left _ _ k, (left _ _ l, (left _ _ (right _ _ l), tt))))
case_parts major a_memory b h o (name, (lines, _)) x full w = (memory_open b (of-mem (record { name = name; lines = lines })) (w.0), (back (in-mem type_brackets expr_brackets (record { name = name; lines = lines })) (in-mem type_suffixes expr_suffixes (record { name = name; lines = lines })) (w.1), tt))
case_parts major an_instance b h o ws x full w = tt
case_parts major a_node b h o (name, (value, _)) x full w = (back (in-node type_brackets expr_brackets name value) (in-node type_suffixes expr_suffixes name value) (w.1), tt)
case_parts major a_connect b h o (driven, (source, _)) x full w = let j = back (in-connect type_brackets expr_brackets driven source) (in-connect type_suffixes expr_suffixes driven source) (w.1) in (left _ _ j, (right _ _ j, tt))
case_parts major an_invalidate b h o (driven, _) x full w = (back (in-invalidate type_brackets expr_brackets driven) (in-invalidate type_suffixes expr_suffixes driven) (w.1), tt)
case_parts major a_when b h o (condition, (body, (branches, _))) x full w =
    let n : max (greatest (map arm_blocks (record { condition = condition; body = body } ∷ branches.0))) (block_of (map line_blocks branches.1)) ≤ 128 - b = same b _ _ (sym (of-branch (record { condition = condition; body = body } ∷ branches.0) branches.1)) (w.0) in
    let i = arm_outer b condition body branches.0 (first_of b (greatest (map arm_blocks (record { condition = condition; body = body } ∷ branches.0))) (block_of (map line_blocks branches.1)) n) in
    let j = back (in-branch type_brackets expr_brackets (record { condition = condition; body = body } ∷ branches.0) branches.1) (in-branch type_suffixes expr_suffixes (record { condition = condition; body = body } ∷ branches.0) branches.1) (w.1) in
    let arms = left _ _ j in
    let a = back (in-arm type_brackets expr_brackets condition body) (in-arm type_suffixes expr_suffixes condition body) (left _ _ arms) in
    (left _ _ a, ((i.0, right _ _ a), (((i.1, second_of b (greatest (map arm_blocks (record { condition = condition; body = body } ∷ branches.0))) (block_of (map line_blocks branches.1)) n), (right _ _ arms, right _ _ j)), tt)))
case_parts major a_skip b h o ws x full w = tt
case_parts major a_print b h o (at, (clock, (condition, (what, _)))) x full w =
    let j = back (in-print type_brackets expr_brackets at clock condition what.0 what.1) (in-print type_suffixes expr_suffixes at clock condition what.0 what.1) (w.1) in
    let k = right _ _ j in
    (left _ _ j, (left _ _ k, (right _ _ k, (tt, tt))))
case_parts major (printed n) b h o (pieces, (arguments, _)) x full w = (w, tt)
case_parts major a_stop b h o (at, (clock, (condition, (code, _)))) x full w =
    let j = back (in-stop type_brackets expr_brackets at clock condition code) (in-stop type_suffixes expr_suffixes at clock condition code) (w.1) in
    (left _ _ j, (right _ _ j, (tt, tt)))
case_parts major without_label b h o ws x full w = tt
case_parts major with_label b h o ws x full w = tt
case_parts major no_branch b h o ws x full w = tt
case_parts major else_when b h o (condition, (body, (branches, _))) x full w =
    let i = arm_outer b condition body branches.0 (w.0.0) in
    let a = back (in-arm type_brackets expr_brackets condition body) (in-arm type_suffixes expr_suffixes condition body) (left _ _ (w.1.0)) in
    (left _ _ a, ((i.0, right _ _ a), (((i.1, w.0.1), (right _ _ (w.1.0), w.1.1)), tt)))
case_parts major else_ b h o (body, _) x full w = ((w.0.1, w.1.1), tt)
case_parts major no_block b h o ws x full w = tt
case_parts major a_block b h o (statements, _) x full w = let i = block_outer b (map line_blocks statements) (full_map line_blocks statements full) (w.0) in (i.0, ((i.1, w.1), tt))
case_parts major last_memory_line b h o ws x full w = tt
case_parts major next_memory_line b h o (first, (others, _)) x full w = (left _ _ w, (right _ _ w, tt))
case_parts major a_data_type b h o (at, (typ, _)) x full w = (w, tt)
case_parts major a_depth b h o ws x full w = tt
case_parts major a_read_latency b h o ws x full w = tt
case_parts major a_write_latency b h o ws x full w = tt
case_parts major a_read_under_write b h o ws x full w = (tt, tt)
case_parts major under_old b h o ws x full w = tt
case_parts major under_new b h o ws x full w = tt
case_parts major under_undefined b h o ws x full w = tt
case_parts major a_reader b h o ws x full w = tt
case_parts major a_writer b h o ws x full w = tt
case_parts major a_readwriter b h o ws x full w = tt
case_parts major a_reference b h o (expr, _) x full w = (w, tt)
case_parts major a_mux b h o (at, (operands, _)) x full w = let i = pop (length o) (back (brackets-mux at operands) (suffixes-mux at operands) w) in (i.0, (i.1, tt))
case_parts major (an_operation prim written) b h o (at, (operands, (parameters, _))) x full w =
    let i = pop (length o) (back (brackets-prim at (of_version major prim) operands parameters) (suffixes-prim at (of_version major prim) operands parameters) w) in
    from_call prim b h o (at, (operands, (parameters, tt))) (i.0, (i.1, (tt, tt)))
case_parts major no_more_expressions b h o ws x full w = tt
case_parts major (one_more_expression n) b h o (first, (others, _)) x full w = (left _ _ w, (right _ _ w, tt))
case_parts major no_more_numbers b h o ws x full w = tt
case_parts major (one_more_number n) b h o ws x full w = (tt, tt)
case_parts major a_component b h o (name, (suffixes, _)) x full w = (without_length (back (brackets-ref name.place name suffixes) (suffixes-ref name.place name suffixes) w), tt)
case_parts major no_suffix b h o ws x full w = tt
case_parts major a_field_suffix b None o ws x full w = absurd x
case_parts major a_field_suffix b (Some k) o (name, (others, _)) x full w = let i = shorter k (w.1) in (i.0, ((right _ _ (w.0), i.1), tt))
case_parts major an_element_suffix b None o ws x full w = absurd x
case_parts major an_element_suffix b (Some k) o (at, (number_at, (n, (others, _)))) x full w = let i = shorter k (w.1) in (one_open (length o) (back (brackets-at at number_at n) (suffixes-at at number_at n) (left _ _ (w.0))), (i.0, ((right _ _ (w.0), i.1), tt)))
case_parts major an_index_suffix b None o ws x full w = absurd x
case_parts major an_index_suffix b (Some k) o (at, (index, (others, _))) x full w = let i = shorter k (w.1) in let j = pop (length o) (back (brackets-index at index) (suffixes-index at index) (left _ _ (w.0))) in (j.0, (i.0, (j.1, ((right _ _ (w.0), i.1), tt))))
case_parts major an_unsigned_literal b h o (at, (n, _)) x full w = (one_open (length o) (back (brackets-literal at sign.Unsigned None n) (suffixes-literal at sign.Unsigned None n) w), (tt, tt))
case_parts major a_signed_literal b h o (at, (n, _)) x full w = (one_open (length o) (back (brackets-literal at sign.Signed None n) (suffixes-literal at sign.Signed None n) w), (tt, tt))
case_parts major a_wide_unsigned_literal b h o (at, (width, (n, _))) x full w = (one_open (length o) (back (brackets-literal at sign.Unsigned (Some width) n) (suffixes-literal at sign.Unsigned (Some width) n) w), (tt, tt))
case_parts major a_wide_signed_literal b h o (at, (width, (n, _))) x full w = (one_open (length o) (back (brackets-literal at sign.Signed (Some width) n) (suffixes-literal at sign.Signed (Some width) n) w), (tt, tt))
case_parts major a_plain_integer b h o ws x full w = tt
case_parts major a_negative_integer b h o ws x full w = tt
case_parts major a_quoted_integer b h o ws x full w = tt
