-- From the parts of each case to its tree: where the parts are as small as they may be, the tree is.
use Rattle.std.proofs.Common.{◌≡◌, ℕ, ◌+◌, ◌≤◌, true, false, List, [], ◌∷◌, map, length, Option, Some, None, refl, ap, ◌∙◌, subst, arith}
use Rattle.std.specs.Prelude.{⊤, max}
use Rattle.bit_words.specs.declared.value.Kind.TheVariants as sign
use Rattle.fir_types.specs.declared.fir_type.FirType.{FirType}
use Rattle.fir_types.specs.declared.fir_type.Shape.TheVariants as shape
use Rattle.prim_ops.specs.declared.operation.PrimOp.{PrimOp}
use Rattle.prim_ops.specs.Operations.{of_version}
use Rattle.fir_grammar.specs.Grammar.{Symbol, Rule, IsCase, Values, tree, vectors, a_text, no_modules, some_modules, last_module, next_module, a_module, a_public_module, no_module_body, a_module_body, next_port, last_port, an_input, an_output, a_type, last_length, next_length, an_unsigned, a_signed, a_clock, a_reset, a_bundle, no_width, a_width, last_field, next_field, plain_field, flipped_field, last_statement, next_statement, a_wire, a_register, a_reset_register, a_memory, an_instance, a_node, a_connect, an_invalidate, a_when, a_skip, a_print, printed, a_stop, without_label, with_label, no_branch, else_when, else_, no_block, a_block, last_memory_line, next_memory_line, a_data_type, a_depth, a_read_latency, a_write_latency, a_read_under_write, under_old, under_new, under_undefined, a_reader, a_writer, a_readwriter, a_reference, a_mux, an_operation, no_more_expressions, one_more_expression, no_more_numbers, one_more_number, a_component, no_suffix, a_field_suffix, an_element_suffix, an_index_suffix, an_unsigned_literal, a_signed_literal, a_wide_unsigned_literal, a_wide_signed_literal, a_plain_integer, a_negative_integer, a_quoted_integer}
use Rattle.depth_laws.specs.Blocks.{greatest, block_of, line_blocks, arm_blocks, module_blocks}
use Rattle.depth_laws.specs.Brackets.{type_brackets, expr_brackets}
use Rattle.depth_laws.specs.Suffixes.{type_lengths, type_suffixes, expr_suffixes}
use Rattle.depth_laws.proofs.Layers.{of-wire, of-reg, of-regreset, of-mem, of-inst, of-node, of-connect, of-invalidate, of-branch, of-skip, of-print, of-stop, in-wire, in-reg, in-regreset, in-mem, in-inst, in-node, in-connect, in-invalidate, in-branch, in-skip, in-print, in-stop, in-arm, brackets-unsigned, brackets-signed, brackets-clock, brackets-reset, brackets-bundle, brackets-vector, brackets-field, lengths-unsigned, lengths-signed, lengths-clock, lengths-reset, lengths-bundle, lengths-vector, suffixes-field, brackets-ref, brackets-literal, brackets-prim, brackets-mux, brackets-name, brackets-at, brackets-index, suffixes-ref, suffixes-literal, suffixes-prim, suffixes-mux, suffixes-name, suffixes-at, suffixes-index}
use Rattle.depth_laws.proofs.Classes.{Class, An_opening, operation_class}
use Rattle.depth_laws.proofs.Known.{moves, Behind}
use Rattle.depth_laws.proofs.Steps.{start, Wants, call_of, operands_of}
use Rattle.depth_laws.proofs.Within.{bracket_of, Within, AllWithin}
use Rattle.depth_laws.proofs.Bounds.{zero, join, to, push, one, join_port, join_length, longer, none, both, same, inner, block_inner, body_inner, arm_within}

-- vectors

pub vectors_brackets : (base : FirType) (lengths : List ℕ) → type_brackets (vectors base lengths) ≡ max (type_brackets base) (bracket_of lengths)
vectors_brackets base [] = omega arith
vectors_brackets base (n ∷ ns) =
    let of : ℕ = bracket_of ns in
    omega (arith, vectors_brackets (record { place = base.place; shape = shape.Vector base n }) ns, brackets-vector base.place base n, at_most ns)
  where
    at_most : (ns : List ℕ) → bracket_of ns ≤ 1
    at_most [] = omega arith
    at_most (n ∷ ns) = omega arith

pub vectors_own : (base : FirType) (lengths : List ℕ) → (type_lengths (vectors base lengths)).0 ≡ (type_lengths base).0 + length lengths
vectors_own base [] = omega arith
vectors_own base (n ∷ ns) =
    omega (arith, vectors_own (record { place = base.place; shape = shape.Vector base n }) ns, ap (λ p. p.0) (lengths-vector base.place base n))

pub vectors_inner : (base : FirType) (lengths : List ℕ) → (type_lengths (vectors base lengths)).1 ≡ (type_lengths base).1
vectors_inner base [] = refl
vectors_inner base (n ∷ ns) = vectors_inner (record { place = base.place; shape = shape.Vector base n }) ns ∙ ap (λ p. p.1) (lengths-vector base.place base n)

-- a base type has no lengths
abbrev pub Plain : {r : Rule} {body : List Symbol} → IsCase r body → Values body → Type 0
Plain a_type ws = (type_lengths ws.0).0 ≡ 0
Plain _ ws = ⊤

-- what is known of an operation with its operands is known behind its bracket
abbrev pub InCall : (prim : PrimOp) → Class → ℕ → Option ℕ → List (Option ℕ) → Values (call_of prim ∷ operands_of prim) → Type 0
InCall prim c b h o ws = Behind c (start b h o) (AllWithin (operands_of prim) (moves c (start b h o)) ws.1)

in_call : (prim : PrimOp) (b : ℕ) (h : Option ℕ) (o : List (Option ℕ)) (ws : Values (call_of prim ∷ operands_of prim)) → AllWithin (call_of prim ∷ operands_of prim) (start b h o) ws → InCall prim An_opening b h o ws
in_call prim b h o ws g = subst (λ c. InCall prim c b h o ws) (operation_class prim) g

pub case_within : (major : ℕ) {r : Rule} {body : List Symbol} (case : IsCase r body) (b : ℕ) (h : Option ℕ) (o : List (Option ℕ)) (ws : Values body)
    → Wants r h o ⊤ → Plain case ws → AllWithin body (start b h o) ws → Within r b h o (tree major case ws)
case_within major a_text b h o (version, (main, (modules, _))) x plain (_, (_, (g, _))) = g
case_within major no_modules b h o _ x plain g = (none b 0 refl, zero)
case_within major some_modules b h o (modules, _) x plain (few, (g, _)) = (block_inner b (map module_blocks modules) few g.0, g.1)
case_within major last_module b h o _ x plain g = (none b 0 refl, zero)
case_within major next_module b h o (first, (others, _)) x plain (g, (k, _)) = (both b (module_blocks first) (greatest (map module_blocks others)) g.0 k.0, join g.1 k.1)
case_within major a_module b h o (name, (body, _)) x plain (g, _) = g
case_within major a_public_module b h o (name, (body, _)) x plain (g, _) = g
case_within major no_module_body b h o _ x plain g = (none b 0 refl, zero)
case_within major a_module_body b h o (body, _) x plain (few, (g, _)) = (body_inner b body.0 (map line_blocks body.1) few g.0, g.1)
case_within major next_port b h o (port, (body, _)) x plain (g, (k, _)) = (k.0, join_port _ _ _ _ g k.1)
case_within major last_port b h o (statements, _) x plain (g, _) = (g.0, join zero g.1)
case_within major an_input b h o (name, (typ, _)) x plain (g, _) = g
case_within major an_output b h o (name, (typ, _)) x plain (g, _) = g
case_within major a_type b h o (base, (lengths, _)) x plain (g, (k, _)) = (omega (arith, vectors_brackets base lengths, g.0, k.0), omega (arith, vectors_own base lengths, vectors_inner base lengths, plain, g.1, k.1))
case_within major last_length b h o _ x plain g = (omega arith, omega arith)
case_within major next_length b None o (n, (ns, _)) x plain g = absurd x
case_within major next_length b (Some k) o (n, (ns, _)) x plain (few, (still, (g, _))) = (omega (arith, few), longer k still g.1)
case_within major an_unsigned b h o (at, (width, _)) x plain g = to (brackets-unsigned at width) (ap (λ p. p.1) (lengths-unsigned at width)) zero
case_within major a_signed b h o (at, (width, _)) x plain g = to (brackets-signed at width) (ap (λ p. p.1) (lengths-signed at width)) zero
case_within major a_clock b h o (at, _) x plain g = to (brackets-clock at) (ap (λ p. p.1) (lengths-clock at)) zero
case_within major a_reset b h o (at, _) x plain g = to (brackets-reset at) (ap (λ p. p.1) (lengths-reset at)) zero
case_within major a_bundle b h o (at, (fields, _)) x plain (few, (g, _)) = to (brackets-bundle at fields) (ap (λ p. p.1) (lengths-bundle at fields)) (push (length o) few g)
case_within major no_width b h o ws x plain g = tt
case_within major a_width b h o ws x plain g = tt
case_within major last_field b h o _ x plain g = zero
case_within major next_field b h o (first, (others, _)) x plain (g, (k, _)) = join g k
case_within major plain_field b h o (name, (typ, _)) x plain (g, _) = to (brackets-field false name typ) (suffixes-field false name typ) g
case_within major flipped_field b h o (name, (typ, _)) x plain (g, _) = to (brackets-field true name typ) (suffixes-field true name typ) g
case_within major last_statement b h o _ x plain g = (none b 0 refl, zero)
case_within major next_statement b h o (first, (others, _)) x plain (g, (k, _)) = (both b (line_blocks first) (greatest (map line_blocks others)) g.0 k.0, join g.1 k.1)
case_within major a_wire b h o (name, (typ, _)) x plain (g, _) = (none b _ (of-wire name typ), to (in-wire type_brackets expr_brackets name typ) (in-wire type_suffixes expr_suffixes name typ) g)
case_within major a_register b h o (name, (typ, (clock, _))) x plain (g, (k, _)) = (none b _ (of-reg name typ clock), to (in-reg type_brackets expr_brackets name typ clock) (in-reg type_suffixes expr_suffixes name typ clock) (join g k))
case_within major a_reset_register b h o (name, (typ, (clock, (reset, (init, _))))) x plain (g, (k, (l, (m, _)))) = (none b _ (of-regreset name typ clock reset init), to (in-regreset type_brackets expr_brackets name typ clock reset init) (in-regreset type_suffixes expr_suffixes name typ clock reset init) (join g (join k (join l (join m zero)))))
case_within major a_memory b h o (name, (lines, _)) x plain (few, (g, _)) = (same b _ 1 (of-mem (record { name = name; lines = lines })) (inner b 0 few (none (b + 1) 0 refl)), to (in-mem type_brackets expr_brackets (record { name = name; lines = lines })) (in-mem type_suffixes expr_suffixes (record { name = name; lines = lines })) g)
case_within major an_instance b h o (name, (of, _)) x plain g = (none b _ (of-inst name of), to (in-inst type_brackets expr_brackets name of) (in-inst type_suffixes expr_suffixes name of) zero)
case_within major a_node b h o (name, (value, _)) x plain (g, _) = (none b _ (of-node name value), to (in-node type_brackets expr_brackets name value) (in-node type_suffixes expr_suffixes name value) g)
case_within major a_connect b h o (driven, (source, _)) x plain (g, (k, _)) = (none b _ (of-connect driven source), to (in-connect type_brackets expr_brackets driven source) (in-connect type_suffixes expr_suffixes driven source) (join g k))
case_within major an_invalidate b h o (driven, _) x plain (g, _) = (none b _ (of-invalidate driven), to (in-invalidate type_brackets expr_brackets driven) (in-invalidate type_suffixes expr_suffixes driven) g)
case_within major a_when b h o (condition, (body, (branches, _))) x plain (g, (k, (m, _))) = (
  same b _ (max (greatest (map arm_blocks (record { condition = condition; body = body } ∷ branches.0))) (block_of (map line_blocks branches.1))) (of-branch (record { condition = condition; body = body } ∷ branches.0) branches.1)
      (both b (greatest (map arm_blocks (record { condition = condition; body = body } ∷ branches.0))) (block_of (map line_blocks branches.1)) (arm_within b condition body branches.0 k.0 m.0.0) m.0.1),
  to (in-branch type_brackets expr_brackets (record { condition = condition; body = body } ∷ branches.0) branches.1) (in-branch type_suffixes expr_suffixes (record { condition = condition; body = body } ∷ branches.0) branches.1)
      (join (join (to (in-arm type_brackets expr_brackets condition body) (in-arm type_suffixes expr_suffixes condition body) (join g k.1)) m.1.0) m.1.1),
)
case_within major a_skip b h o (at, _) x plain g = (none b _ (of-skip at), to (in-skip type_brackets expr_brackets at) (in-skip type_suffixes expr_suffixes at) zero)
case_within major a_print b h o (at, (clock, (condition, (what, _)))) x plain (g, (k, (m, _))) =
    (none b _ (of-print at clock condition what.0 what.1), to (in-print type_brackets expr_brackets at clock condition what.0 what.1) (in-print type_suffixes expr_suffixes at clock condition what.0 what.1) (join g (join k m)))
case_within major (printed n) b h o (pieces, (arguments, _)) x plain (g, _) = g
case_within major a_stop b h o (at, (clock, (condition, (code, _)))) x plain (g, (k, _)) =
    (none b _ (of-stop at clock condition code), to (in-stop type_brackets expr_brackets at clock condition code) (in-stop type_suffixes expr_suffixes at clock condition code) (join g k))
case_within major without_label b h o ws x plain g = tt
case_within major with_label b h o ws x plain g = tt
case_within major no_branch b h o _ x plain g = ((none b 0 refl, none b 0 refl), (zero, zero))
case_within major else_when b h o (condition, (body, (branches, _))) x plain (g, (k, (m, _))) =
    ((arm_within b condition body branches.0 k.0 m.0.0, m.0.1), (join (to (in-arm type_brackets expr_brackets condition body) (in-arm type_suffixes expr_suffixes condition body) (join g k.1)) m.1.0, m.1.1))
case_within major else_ b h o (body, _) x plain (g, _) = ((none b 0 refl, g.0), (zero, g.1))
case_within major no_block b h o _ x plain g = (none b 0 refl, zero)
case_within major a_block b h o (statements, _) x plain (few, (g, _)) = (block_inner b (map line_blocks statements) few g.0, g.1)
case_within major last_memory_line b h o _ x plain g = zero
case_within major next_memory_line b h o (first, (others, _)) x plain (g, (k, _)) = join g k
case_within major a_data_type b h o (at, (typ, _)) x plain (g, _) = g
case_within major a_depth b h o (at, (n, _)) x plain g = zero
case_within major a_read_latency b h o (at, (n, _)) x plain g = zero
case_within major a_write_latency b h o (at, (n, _)) x plain g = zero
case_within major a_read_under_write b h o (at, (n, _)) x plain g = zero
case_within major under_old b h o ws x plain g = tt
case_within major under_new b h o ws x plain g = tt
case_within major under_undefined b h o ws x plain g = tt
case_within major a_reader b h o (at, (n, _)) x plain g = zero
case_within major a_writer b h o (at, (n, _)) x plain g = zero
case_within major a_readwriter b h o (at, (n, _)) x plain g = zero
case_within major a_reference b h o (expr, _) x plain (g, _) = g
case_within major a_mux b h o (at, (operands, _)) x plain (few, (g, _)) = to (brackets-mux at operands) (suffixes-mux at operands) (push (length o) few g)
case_within major (an_operation prim written) b h o (at, (operands, (parameters, _))) x plain g =
    let inside = in_call prim b h o (at, (operands, (parameters, tt))) g in
    to (brackets-prim at (of_version major prim) operands parameters) (suffixes-prim at (of_version major prim) operands parameters) (push (length o) inside.0 inside.1.0)
case_within major no_more_expressions b h o _ x plain g = zero
case_within major (one_more_expression n) b h o (first, (others, _)) x plain (g, (k, _)) = join g k
case_within major no_more_numbers b h o ws x plain g = tt
case_within major (one_more_number n) b h o ws x plain g = tt
case_within major a_component b h o (name, (suffixes, _)) x plain (g, _) = to (brackets-ref name.place name suffixes) (suffixes-ref name.place name suffixes) (join_length g.0 g.1)
case_within major no_suffix b h o _ x plain g = (zero, omega arith)
case_within major a_field_suffix b None o (name, (others, _)) x plain g = absurd x
case_within major a_field_suffix b (Some k) o (name, (others, _)) x plain (still, (g, _)) = (join (to (brackets-name name) (suffixes-name name) zero) g.0, longer k still g.1)
case_within major an_element_suffix b None o (at, (number_at, (n, (others, _)))) x plain g = absurd x
case_within major an_element_suffix b (Some k) o (at, (number_at, (n, (others, _)))) x plain (few, (still, (g, _))) = (join (to (brackets-at at number_at n) (suffixes-at at number_at n) (one (length o) few)) g.0, longer k still g.1)
case_within major an_index_suffix b None o (at, (index, (others, _))) x plain g = absurd x
case_within major an_index_suffix b (Some k) o (at, (index, (others, _))) x plain (few, (still, (g, (l, _)))) = (join (to (brackets-index at index) (suffixes-index at index) (push (length o) few g)) l.0, longer k still l.1)
case_within major an_unsigned_literal b h o (at, (n, _)) x plain (few, _) = to (brackets-literal at sign.Unsigned None n) (suffixes-literal at sign.Unsigned None n) (one (length o) few)
case_within major a_signed_literal b h o (at, (n, _)) x plain (few, _) = to (brackets-literal at sign.Signed None n) (suffixes-literal at sign.Signed None n) (one (length o) few)
case_within major a_wide_unsigned_literal b h o (at, (width, (n, _))) x plain (few, _) = to (brackets-literal at sign.Unsigned (Some width) n) (suffixes-literal at sign.Unsigned (Some width) n) (one (length o) few)
case_within major a_wide_signed_literal b h o (at, (width, (n, _))) x plain (few, _) = to (brackets-literal at sign.Signed (Some width) n) (suffixes-literal at sign.Signed (Some width) n) (one (length o) few)
case_within major a_plain_integer b h o ws x plain g = tt
case_within major a_negative_integer b h o ws x plain g = tt
case_within major a_quoted_integer b h o ws x plain g = tt
