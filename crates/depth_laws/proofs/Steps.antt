-- What is known behind the pieces of each rule, and what must be known before them.
use Rattle.std.proofs.Common.{◌≡◌, ℕ, ◌-◌, Bool, true, false, List, [], ◌∷◌, Option, Some, None, refl, sym, ◌∙◌, subst, arith}
use Rattle.std.specs.Prelude.{⊤, zero, suc}
use Rattle.prim_ops.specs.declared.operation.PrimOp.{PrimOp}
use Rattle.prim_ops.specs.Operations.{name_of, arity_of}
use Rattle.fir_grammar.specs.Grammar.{The_call, Its_place, Symbol, Is, A, close, Rule, IsCase, Text, Circuit_body, Modules, Module, Module_body, Ports, Port, Type_of, Lengths, Base_type, Width, Fields, Field, Statements, Statement, Printed, Item_end, Block, Branches, Memory_lines, Memory_line, Under_write, Expression, Expressions, Numbers, Reference, Suffixes, Integer, a_text, no_modules, some_modules, last_module, next_module, a_module, a_public_module, no_module_body, a_module_body, next_port, last_port, an_input, an_output, a_type, last_length, next_length, an_unsigned, a_signed, a_clock, a_reset, a_bundle, no_width, a_width, last_field, next_field, plain_field, flipped_field, last_statement, next_statement, a_wire, a_register, a_reset_register, a_memory, an_instance, a_node, a_connect, an_invalidate, a_when, a_skip, a_print, printed, a_stop, without_label, with_label, no_branch, else_when, else_, no_block, a_block, last_memory_line, next_memory_line, a_data_type, a_depth, a_read_latency, a_write_latency, a_read_under_write, under_old, under_new, under_undefined, a_reader, a_writer, a_readwriter, a_reference, a_mux, an_operation, no_more_expressions, one_more_expression, no_more_numbers, one_more_number, a_component, no_suffix, a_field_suffix, an_element_suffix, an_index_suffix, an_unsigned_literal, a_signed_literal, a_wide_unsigned_literal, a_wide_signed_literal, a_plain_integer, a_negative_integer, a_quoted_integer}
use Rattle.fir_grammar.specs.Faults.{Levels}
use Rattle.depth_laws.proofs.Classes.{class_of, operation_class}
use Rattle.depth_laws.proofs.Known.{Known, more, first, others, moves, Counted, Guard, Knows, Stack, Agrees}

abbrev pub start : ℕ → Option ℕ → List (Option ℕ) → Known
start b h o = record { blocks = b; head = h; outer = o; dotted = false }

-- some rules end with their block or bracket; behind a base type, as before it, there are no lengths
abbrev pub ended : Rule → ℕ → Option ℕ → List (Option ℕ) → Known
ended Modules b h o = start (b - 1) None o
ended Ports b h o = start (b - 1) None o
ended Statements b h o = start (b - 1) None o
ended Memory_lines b h o = start (b - 1) None o
ended Fields b h o = start b (first o) (others o)
ended Base_type b h o = start b (Some 0) o
ended Width b h o = start b (Some 0) o
ended _ b h o = start b None o

abbrev pub past_rule : Rule → Known → Known
past_rule r st = ended r st.blocks st.head st.outer

abbrev pub past_symbols : List Symbol → Known → Known
past_symbols [] st = st
past_symbols (Is k s ∷ ss) st = past_symbols ss (moves (class_of s) st)
past_symbols (A r ∷ ss) st = past_symbols ss (past_rule r st)

abbrev pub Zeroed : Option ℕ → Type 0 → Type 0
Zeroed None X = ⊥
Zeroed (Some zero) X = X
Zeroed (Some (suc k)) X = ⊥

-- outside of all brackets
abbrev pub Outside : List (Option ℕ) → Type 0 → Type 0
Outside [] X = X
Outside (h ∷ hs) X = ⊥

abbrev pub Wants : Rule → Option ℕ → List (Option ℕ) → Type 0 → Type 0
Wants Text h o X = Outside o X
Wants Circuit_body h o X = Outside o X
Wants Modules h o X = Outside o X
Wants Module h o X = Outside o X
Wants Module_body h o X = Outside o X
Wants Ports h o X = Outside o X
Wants Statements h o X = Outside o X
Wants Statement h o X = Outside o X
Wants Printed h o X = Outside o X
Wants Block h o X = Outside o X
Wants Branches h o X = Outside o X
Wants Type_of h o X = Zeroed h X
Wants Base_type h o X = Zeroed h X
Wants Width h o X = Zeroed h X
Wants Lengths h o X = Counted h X
Wants Suffixes h o X = Counted h X
Wants _ h o X = X

abbrev pub Undotted : Bool → Type 0 → Type 0
Undotted true X = ⊥
Undotted false X = X

abbrev pub Ready : List Symbol → Known → Type 0
Ready [] st = ⊤
Ready (Is k s ∷ ss) st = Guard (class_of s) st (Ready ss (moves (class_of s) st))
Ready (A r ∷ ss) st = Undotted st.dotted (Wants r st.head st.outer (Ready ss (past_rule r st)))

-- each rule may begin where it is asked for

outside : (o : List (Option ℕ)) (X : Type 0) → Outside o X → Outside o ⊤ × X
outside [] X x = (tt, x)
outside (h ∷ hs) X x = absurd x

zeroed : (h : Option ℕ) (X : Type 0) → Zeroed h X → Zeroed h ⊤ × X
zeroed None X x = absurd x
zeroed (Some zero) X x = (tt, x)
zeroed (Some (suc k)) X x = absurd x

counted : (h : Option ℕ) (X : Type 0) → Counted h X → Counted h ⊤ × X
counted None X x = absurd x
counted (Some k) X x = (tt, x)

pub wanted : (r : Rule) (h : Option ℕ) (o : List (Option ℕ)) (X : Type 0) → Wants r h o X → Wants r h o ⊤ × X
wanted Text h o X x = outside o X x
wanted Circuit_body h o X x = outside o X x
wanted Modules h o X x = outside o X x
wanted Module h o X x = outside o X x
wanted Module_body h o X x = outside o X x
wanted Ports h o X x = outside o X x
wanted Port h o X x = (tt, x)
wanted Type_of h o X x = zeroed h X x
wanted Lengths h o X x = counted h X x
wanted Base_type h o X x = zeroed h X x
wanted Width h o X x = zeroed h X x
wanted Fields h o X x = (tt, x)
wanted Field h o X x = (tt, x)
wanted Statements h o X x = outside o X x
wanted Statement h o X x = outside o X x
wanted Printed h o X x = outside o X x
wanted Item_end h o X x = (tt, x)
wanted Block h o X x = outside o X x
wanted Branches h o X x = outside o X x
wanted Memory_lines h o X x = (tt, x)
wanted Memory_line h o X x = (tt, x)
wanted Under_write h o X x = (tt, x)
wanted Expression h o X x = (tt, x)
wanted (Expressions n) h o X x = (tt, x)
wanted (Numbers n) h o X x = (tt, x)
wanted Reference h o X x = (tt, x)
wanted Suffixes h o X x = counted h X x
wanted Integer h o X x = (tt, x)

pub rested : (st : Known) (X : Type 0) → Undotted st.dotted X → (st.dotted ≡ false) × X
rested st X x = by st.dotted x
  where
    by : (d : Bool) → Undotted d X → (d ≡ false) × X
    by true x = absurd x
    by false x = (refl, x)

zero_known : (h : Option ℕ) → Zeroed h ⊤ → h ≡ Some 0
zero_known None x = absurd x
zero_known (Some zero) x = refl
zero_known (Some (suc k)) x = absurd x

more_counted : (h : Option ℕ) → Counted h ⊤ → Counted h (Counted (more h) ⊤)
more_counted None x = absurd x
more_counted (Some k) x = tt

still : (o : List (Option ℕ)) → Outside o ⊤ → Outside o (Outside o ⊤)
still [] x = tt
still (h ∷ hs) x = absurd x

no_others : (o : List (Option ℕ)) → Outside o ⊤ → others o ≡ o
no_others [] x = refl
no_others (h ∷ hs) x = absurd x

-- the name of an operation, and the symbols behind it
abbrev pub call_of : PrimOp → Symbol
call_of prim = Is Its_place (The_call (name_of prim))

abbrev pub operands_of : PrimOp → List Symbol
operands_of prim = A (Expressions (arity_of prim).0) ∷ A (Numbers (arity_of prim).1) ∷ close ∷ []

operation_ready : (prim : PrimOp) (b : ℕ) (h : Option ℕ) (o : List (Option ℕ)) → Ready (call_of prim ∷ operands_of prim) (start b h o)
operation_ready prim b h o = subst (λ c. Guard c (start b h o) (Ready (operands_of prim) (moves c (start b h o)))) (sym (operation_class prim)) tt

pub case_ready : {r : Rule} {body : List Symbol} (case : IsCase r body) (b : ℕ) (h : Option ℕ) (o : List (Option ℕ)) → Wants r h o ⊤ → Ready body (start b h o)
case_ready a_text b h o x = x
case_ready no_modules b h o x = tt
case_ready some_modules b h o x = x
case_ready last_module b h o x = tt
case_ready next_module b h o x = still o x
case_ready a_module b h o x = x
case_ready a_public_module b h o x = x
case_ready no_module_body b h o x = tt
case_ready a_module_body b h o x = x
case_ready next_port b h o x = x
case_ready last_port b h o x = x
case_ready an_input b h o x = tt
case_ready an_output b h o x = tt
case_ready a_type b h o x = x
case_ready last_length b h o x = tt
case_ready next_length b h o x = more_counted h x
case_ready an_unsigned b h o x = tt
case_ready a_signed b h o x = tt
case_ready a_clock b h o x = tt
case_ready a_reset b h o x = tt
case_ready a_bundle b h o x = tt
case_ready no_width b h o x = tt
case_ready a_width b h o x = tt
case_ready last_field b h o x = tt
case_ready next_field b h o x = tt
case_ready plain_field b h o x = tt
case_ready flipped_field b h o x = tt
case_ready last_statement b h o x = tt
case_ready next_statement b h o x = still o x
case_ready a_wire b h o x = tt
case_ready a_register b h o x = tt
case_ready a_reset_register b h o x = tt
case_ready a_memory b h o x = tt
case_ready an_instance b h o x = tt
case_ready a_node b h o x = tt
case_ready a_connect b h o x = tt
case_ready an_invalidate b h o x = tt
case_ready a_when b h o x = still o x
case_ready a_skip b h o x = tt
case_ready a_print b h o x = x
case_ready (printed n) b h o x = tt
case_ready a_stop b h o x = tt
case_ready without_label b h o x = tt
case_ready with_label b h o x = tt
case_ready no_branch b h o x = tt
case_ready else_when b h o x = still o x
case_ready else_ b h o x = x
case_ready no_block b h o x = tt
case_ready a_block b h o x = x
case_ready last_memory_line b h o x = tt
case_ready next_memory_line b h o x = tt
case_ready a_data_type b h o x = tt
case_ready a_depth b h o x = tt
case_ready a_read_latency b h o x = tt
case_ready a_write_latency b h o x = tt
case_ready a_read_under_write b h o x = tt
case_ready under_old b h o x = tt
case_ready under_new b h o x = tt
case_ready under_undefined b h o x = tt
case_ready a_reader b h o x = tt
case_ready a_writer b h o x = tt
case_ready a_readwriter b h o x = tt
case_ready a_reference b h o x = tt
case_ready a_mux b h o x = tt
case_ready (an_operation prim written) b h o x = operation_ready prim b h o
case_ready no_more_expressions b h o x = tt
case_ready (one_more_expression n) b h o x = tt
case_ready no_more_numbers b h o x = tt
case_ready (one_more_number n) b h o x = tt
case_ready a_component b h o x = tt
case_ready no_suffix b h o x = tt
case_ready a_field_suffix b h o x = more_counted h x
case_ready an_element_suffix b h o x = more_counted h x
case_ready an_index_suffix b h o x = more_counted h x
case_ready an_unsigned_literal b h o x = tt
case_ready a_signed_literal b h o x = tt
case_ready a_wide_unsigned_literal b h o x = tt
case_ready a_wide_signed_literal b h o x = tt
case_ready a_plain_integer b h o x = tt
case_ready a_negative_integer b h o x = tt
case_ready a_quoted_integer b h o x = tt

-- what is known behind a case is at least what is known behind its rule

abbrev pub Less : Option ℕ → Option ℕ → Type 0
Less h None = ⊤
Less h (Some k) = h ≡ Some k

less_same : (h : Option ℕ) → Less h h
less_same None = tt
less_same (Some k) = refl

abbrev pub Weaker : Known → Known → Type 0
Weaker st to = (st.blocks ≡ to.blocks) × (Less st.head to.head × ((st.outer ≡ to.outer) × (st.dotted ≡ to.dotted)))

operation_past : (prim : PrimOp) (b : ℕ) (h : Option ℕ) (o : List (Option ℕ)) → Weaker (past_symbols (call_of prim ∷ operands_of prim) (start b h o)) (start b None o)
operation_past prim b h o = subst (λ c. Weaker (past_symbols (operands_of prim) (moves c (start b h o))) (start b None o)) (sym (operation_class prim)) (refl, (tt, (refl, refl)))

pub case_past : {r : Rule} {body : List Symbol} (case : IsCase r body) (b : ℕ) (h : Option ℕ) (o : List (Option ℕ)) → Wants r h o ⊤
    → Weaker (past_symbols body (start b h o)) (past_rule r (start b h o))
case_past a_text b h o x = (refl, (tt, (refl, refl)))
case_past no_modules b h o x = (refl, (tt, (refl, refl)))
case_past some_modules b h o x = (omega arith, (tt, (refl, refl)))
case_past last_module b h o x = (refl, (tt, (refl, refl)))
case_past next_module b h o x = (refl, (tt, (refl, refl)))
case_past a_module b h o x = (refl, (tt, (refl, refl)))
case_past a_public_module b h o x = (refl, (tt, (refl, refl)))
case_past no_module_body b h o x = (refl, (tt, (refl, refl)))
case_past a_module_body b h o x = (omega arith, (tt, (refl, refl)))
case_past next_port b h o x = (refl, (tt, (refl, refl)))
case_past last_port b h o x = (refl, (tt, (refl, refl)))
case_past an_input b h o x = (refl, (tt, (refl, refl)))
case_past an_output b h o x = (refl, (tt, (refl, refl)))
case_past a_type b h o x = (refl, (tt, (refl, refl)))
case_past last_length b h o x = (refl, (tt, (refl, refl)))
case_past next_length b h o x = (refl, (tt, (refl, refl)))
case_past an_unsigned b h o x = (refl, (refl, (refl, refl)))
case_past a_signed b h o x = (refl, (refl, (refl, refl)))
case_past a_clock b h o x = (refl, (refl, (refl, refl)))
case_past a_reset b h o x = (refl, (refl, (refl, refl)))
case_past a_bundle b h o x = (refl, (zero_known h x, (refl, refl)))
case_past no_width b h o x = (refl, (zero_known h x, (refl, refl)))
case_past a_width b h o x = (refl, (refl, (refl, refl)))
case_past last_field b h o x = (refl, (less_same (first o), (refl, refl)))
case_past next_field b h o x = (refl, (less_same (first o), (refl, refl)))
case_past plain_field b h o x = (refl, (tt, (refl, refl)))
case_past flipped_field b h o x = (refl, (tt, (refl, refl)))
case_past last_statement b h o x = (refl, (tt, (refl, refl)))
case_past next_statement b h o x = (refl, (tt, (refl, refl)))
case_past a_wire b h o x = (refl, (tt, (refl, refl)))
case_past a_register b h o x = (refl, (tt, (refl, refl)))
case_past a_reset_register b h o x = (refl, (tt, (refl, refl)))
case_past a_memory b h o x = (omega arith, (tt, (refl, refl)))
case_past an_instance b h o x = (refl, (tt, (refl, refl)))
case_past a_node b h o x = (refl, (tt, (refl, refl)))
case_past a_connect b h o x = (refl, (tt, (refl, refl)))
case_past an_invalidate b h o x = (refl, (tt, (refl, refl)))
case_past a_when b h o x = (refl, (tt, (refl, refl)))
case_past a_skip b h o x = (refl, (tt, (refl, refl)))
case_past a_print b h o x = (refl, (tt, (refl, refl)))
case_past (printed n) b h o x = (refl, (tt, (no_others o x, refl)))
case_past a_stop b h o x = (refl, (tt, (no_others o x, refl)))
case_past without_label b h o x = (refl, (tt, (refl, refl)))
case_past with_label b h o x = (refl, (tt, (refl, refl)))
case_past no_branch b h o x = (refl, (tt, (refl, refl)))
case_past else_when b h o x = (refl, (tt, (refl, refl)))
case_past else_ b h o x = (refl, (tt, (refl, refl)))
case_past no_block b h o x = (refl, (tt, (refl, refl)))
case_past a_block b h o x = (omega arith, (tt, (refl, refl)))
case_past last_memory_line b h o x = (refl, (tt, (refl, refl)))
case_past next_memory_line b h o x = (refl, (tt, (refl, refl)))
case_past a_data_type b h o x = (refl, (tt, (refl, refl)))
case_past a_depth b h o x = (refl, (tt, (refl, refl)))
case_past a_read_latency b h o x = (refl, (tt, (refl, refl)))
case_past a_write_latency b h o x = (refl, (tt, (refl, refl)))
case_past a_read_under_write b h o x = (refl, (tt, (refl, refl)))
case_past under_old b h o x = (refl, (tt, (refl, refl)))
case_past under_new b h o x = (refl, (tt, (refl, refl)))
case_past under_undefined b h o x = (refl, (tt, (refl, refl)))
case_past a_reader b h o x = (refl, (tt, (refl, refl)))
case_past a_writer b h o x = (refl, (tt, (refl, refl)))
case_past a_readwriter b h o x = (refl, (tt, (refl, refl)))
case_past a_reference b h o x = (refl, (tt, (refl, refl)))
case_past a_mux b h o x = (refl, (tt, (refl, refl)))
case_past (an_operation prim written) b h o x = operation_past prim b h o
case_past no_more_expressions b h o x = (refl, (tt, (refl, refl)))
case_past (one_more_expression n) b h o x = (refl, (tt, (refl, refl)))
case_past no_more_numbers b h o x = (refl, (tt, (refl, refl)))
case_past (one_more_number n) b h o x = (refl, (tt, (refl, refl)))
case_past a_component b h o x = (refl, (tt, (refl, refl)))
case_past no_suffix b h o x = (refl, (tt, (refl, refl)))
case_past a_field_suffix b h o x = (refl, (tt, (refl, refl)))
case_past an_element_suffix b h o x = (refl, (tt, (refl, refl)))
case_past an_index_suffix b h o x = (refl, (tt, (refl, refl)))
case_past an_unsigned_literal b h o x = (refl, (tt, (refl, refl)))
case_past a_signed_literal b h o x = (refl, (tt, (refl, refl)))
case_past a_wide_unsigned_literal b h o x = (refl, (tt, (refl, refl)))
case_past a_wide_signed_literal b h o x = (refl, (tt, (refl, refl)))
case_past a_plain_integer b h o x = (refl, (tt, (refl, refl)))
case_past a_negative_integer b h o x = (refl, (tt, (refl, refl)))
case_past a_quoted_integer b h o x = (refl, (tt, (refl, refl)))

knows_less : (n : ℕ) (h g : Option ℕ) → Less h g → Knows n h → Knows n g
knows_less n h None l k = tt
knows_less n h (Some m) l k = subst (Knows n) l k

stack_less : (ns : List ℕ) (h g : Option ℕ) (hs : List (Option ℕ)) → Less h g → Stack ns (h ∷ hs) → Stack ns (g ∷ hs)
stack_less [] h g hs l a = absurd a
stack_less (n ∷ ns) h g hs l a = (knows_less n h g l (a.0), a.1)

pub agrees_weaker : (at : Levels) (st to : Known) → Weaker st to → Agrees at st → Agrees at to
agrees_weaker at st to w a = record {
  blocks = a.blocks ∙ w.0;
  dotted = a.dotted ∙ w.1.1.1;
  stack = subst (λ o. Stack at.suffixes (to.head ∷ o)) (w.1.1.0) (stack_less at.suffixes st.head to.head st.outer (w.1.0) a.stack);
}

pub agrees_start : (at : Levels) (st : Known) → st.dotted ≡ false → Agrees at st → Agrees at (start st.blocks st.head st.outer)
agrees_start at st e a = record { blocks = a.blocks; dotted = a.dotted ∙ e; stack = a.stack }
