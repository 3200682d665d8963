-- Lists of pieces that the rules derive, and one that they don't.
use Prim.Native.String.{String}
use Rattle.std.proofs.Common.{ℕ, ◌<◌, List, [], ◌∷◌, ◌++◌, refl, codes, arith, Some, inl, inr, ◌≡◌, sym, ap, ◌∙◌, subst}
use Rattle.bit_words.specs.Numbers.{plain}
use Rattle.fir_lexer.specs.declared.token.TokenKind.TheVariants as kind
use Rattle.place_text.specs.declared.place.Place.{Place}
use Rattle.place_text.specs.Places.{place}
use Rattle.fir_lexer.specs.declared.token.TokenKind.{TokenKind}
use Rattle.fir_layout.specs.declared.laid.Laid.{Laid}
use Rattle.fir_layout.specs.declared.laid.Laid.TheVariants.{Item, LineEnd}
use Rattle.fir_types.specs.declared.fir_type.Shape.TheVariants as shape
use Rattle.fir_tree.specs.declared.stmt.Stmt.{Stmt}
use Rattle.fir_tree.specs.declared.stmt.Stmt.TheVariants as stmt
use Rattle.fir_tree.specs.declared.expr.Form.TheVariants as form
use Rattle.fir_tree.specs.Numbered.{AddsName}
use Rattle.item_lines.specs.declared.line.Line.TheVariants as entry
use Rattle.item_lines.specs.Formats.{quoted, nothing, a_show}
use Rattle.fir_tree.specs.declared.print.Radix.TheVariants.{Dec}
use Rattle.fir_layout.specs.Pieces.{Piece, A_token, A_line_end, A_block_opens, A_block_closes, The_end}
use Rattle.prim_ops.specs.declared.operation.PrimOp.TheVariants.{Add, Tail}
use Rattle.fir_grammar.specs.Grammar.{Takes, A_number, Symbol, A, mark, Expression, Expressions, Printed, Module, Port, Statement, Statements, Text, Type_of, IsCase, a_block, a_bundle, a_clock, a_component, a_connect, a_data_type, a_depth, a_field_suffix, a_memory, a_module, a_negative_integer, a_node, a_plain_integer, a_read_latency, a_read_under_write, a_reader, a_reference, a_register, a_reset_register, a_signed_literal, a_skip, a_print, printed, a_stop, without_label, with_label, a_public_module, a_text, a_type, a_when, a_wide_unsigned_literal, a_width, a_wire, a_write_latency, an_element_suffix, an_index_suffix, an_input, an_instance, an_invalidate, an_operation, an_unsigned, an_unsigned_literal, else_, else_when, flipped_field, last_field, last_length, last_memory_line, last_statement, next_field, next_length, next_memory_line, next_statement, no_block, no_branch, no_module_body, no_modules, some_modules, next_module, last_module, no_more_expressions, no_more_numbers, no_suffix, one_more_expression, one_more_number, plain_field, under_old, Derives, done, meets, expands, Front, Spells, no_symbol, a_rule, a_piece, a_place, a_name, a_magnitude}
use Rattle.fir_grammar.specs.Faults.{IsListed}
use Rattle.fir_grammar.proofs.Fronts.{Front-taken, Front-entered}
use Rattle.fir_grammar.proofs.Follows.{texts_apart, expression_mark}
use Rattle.item_lines.specs.Formats.{shows}
use Rattle.item_lines.proofs.Formats.{quoted_pieces_are, one_shown}
use Rattle.fir_tree.proofs.Distinct.{fresh_none}

abbrev w : String → Piece
w text = A_token kind.Word (codes text)

abbrev c : String → Piece
c text = A_token kind.Call (codes text ++ codes "(")

abbrev d : String → Piece
d text = A_token kind.Digits (codes text)

abbrev m : ℕ → Piece
m mark = A_token (kind.Mark mark) (mark ∷ [])

abbrev is_0 : Takes A_number (d "0")
is_0 = (0, plain (record { some = omega arith; digits = (omega arith, tt); value = refl }))

abbrev is_1 : Takes A_number (d "1")
is_1 = (1, plain (record { some = omega arith; digits = (omega arith, tt); value = refl }))

abbrev is_2 : Takes A_number (d "2")
is_2 = (2, plain (record { some = omega arith; digits = (omega arith, tt); value = refl }))

abbrev is_3 : Takes A_number (d "3")
is_3 = (3, plain (record { some = omega arith; digits = (omega arith, tt); value = refl }))

abbrev is_4 : Takes A_number (d "4")
is_4 = (4, plain (record { some = omega arith; digits = (omega arith, tt); value = refl }))

-- A module line by itself is a module: its body may be missing.
counter_module : Derives (A Module ∷ []) (w "module" ∷ w "Counter" ∷ m 58 ∷ A_line_end ∷ [])
counter_module = expands _ a_module (meets refl (meets tt (meets refl (meets tt (expands _ no_module_body (done))))))

-- A field named flip, and a flipped one of that name.
bundle : Derives (A Type_of ∷ []) (m 123 ∷ w "flip" ∷ m 58 ∷ w "UInt" ∷ m 60 ∷ d "1" ∷ m 62 ∷ w "flip" ∷ w "flip" ∷ m 58 ∷ w "UInt" ∷ m 60 ∷ d "1" ∷ m 62 ∷ m 125 ∷ [])
bundle = expands _ a_type (expands _ a_bundle (meets refl (expands _ next_field (expands _ plain_field (meets tt (meets refl (expands _ a_type (expands _ an_unsigned (meets refl (expands _ a_width (meets refl (meets is_1 (meets refl (expands _ last_length (expands _ next_field (expands _ flipped_field (meets refl (meets tt (meets refl (expands _ a_type (expands _ an_unsigned (meets refl (expands _ a_width (meets refl (meets is_1 (meets refl (expands _ last_length (expands _ last_field (meets refl (expands _ last_length (done)))))))))))))))))))))))))))))))

-- A `when` with two arms and an `else`.
two_arms : Derives (A Statement ∷ []) (w "when" ∷ w "a" ∷ m 58 ∷ A_line_end ∷ A_block_opens ∷ w "skip" ∷ A_line_end ∷ A_block_closes ∷ w "else" ∷ w "when" ∷ w "b" ∷ m 58 ∷ A_line_end ∷ A_block_opens ∷ w "connect" ∷ w "o" ∷ w "a" ∷ A_line_end ∷ A_block_closes ∷ w "else" ∷ m 58 ∷ A_line_end ∷ A_block_opens ∷ w "invalidate" ∷ w "o" ∷ A_line_end ∷ A_block_closes ∷ [])
two_arms = expands _ a_when (meets refl (expands _ a_reference (expands _ a_component (meets tt (expands _ no_suffix (meets refl (meets tt (expands _ a_block (meets tt (expands _ next_statement (expands _ a_skip (meets refl (meets tt (expands _ last_statement (meets tt (expands _ else_when (meets refl (meets refl (expands _ a_reference (expands _ a_component (meets tt (expands _ no_suffix (meets refl (meets tt (expands _ a_block (meets tt (expands _ next_statement (expands _ a_connect (meets refl (expands _ a_component (meets tt (expands _ no_suffix (expands _ a_reference (expands _ a_component (meets tt (expands _ no_suffix (meets tt (expands _ last_statement (meets tt (expands _ else_ (meets refl (meets refl (meets tt (expands _ a_block (meets tt (expands _ next_statement (expands _ an_invalidate (meets refl (expands _ a_component (meets tt (expands _ no_suffix (meets tt (expands _ last_statement (meets tt (done)))))))))))))))))))))))))))))))))))))))))))))))))))))))

-- A `when` without a block.
bare_when : Derives (A Statement ∷ []) (w "when" ∷ w "a" ∷ m 58 ∷ A_line_end ∷ [])
bare_when = expands _ a_when (meets refl (expands _ a_reference (expands _ a_component (meets tt (expands _ no_suffix (meets refl (meets tt (expands _ no_block (expands _ no_branch (done))))))))))

-- An `else` behind a `when` without a block.
bare_else : Derives (A Statement ∷ []) (w "when" ∷ w "a" ∷ m 58 ∷ A_line_end ∷ w "else" ∷ m 58 ∷ A_line_end ∷ A_block_opens ∷ w "skip" ∷ A_line_end ∷ A_block_closes ∷ [])
bare_else = expands _ a_when (meets refl (expands _ a_reference (expands _ a_component (meets tt (expands _ no_suffix (meets refl (meets tt (expands _ no_block (expands _ else_ (meets refl (meets refl (meets tt (expands _ a_block (meets tt (expands _ next_statement (expands _ a_skip (meets refl (meets tt (expands _ last_statement (meets tt (done)))))))))))))))))))))

-- A memory.
memory : Derives (A Statement ∷ []) (w "mem" ∷ w "m" ∷ m 58 ∷ A_line_end ∷ A_block_opens ∷ w "data-type" ∷ A_token kind.Arrow (codes "=>") ∷ w "UInt" ∷ m 60 ∷ d "4" ∷ m 62 ∷ A_line_end ∷ w "depth" ∷ A_token kind.Arrow (codes "=>") ∷ d "2" ∷ A_line_end ∷ w "read-latency" ∷ A_token kind.Arrow (codes "=>") ∷ d "0" ∷ A_line_end ∷ w "write-latency" ∷ A_token kind.Arrow (codes "=>") ∷ d "1" ∷ A_line_end ∷ w "read-under-write" ∷ A_token kind.Arrow (codes "=>") ∷ w "old" ∷ A_line_end ∷ w "reader" ∷ A_token kind.Arrow (codes "=>") ∷ w "r" ∷ A_line_end ∷ A_block_closes ∷ [])
memory = expands _ a_memory (meets refl (meets tt (meets refl (meets tt (meets tt (expands _ next_memory_line (expands _ a_data_type (meets refl (meets tt (expands _ a_type (expands _ an_unsigned (meets refl (expands _ a_width (meets refl (meets is_4 (meets refl (expands _ last_length (meets tt (expands _ next_memory_line (expands _ a_depth (meets refl (meets tt (meets is_2 (meets tt (expands _ next_memory_line (expands _ a_read_latency (meets refl (meets tt (meets is_0 (meets tt (expands _ next_memory_line (expands _ a_write_latency (meets refl (meets tt (meets is_1 (meets tt (expands _ next_memory_line (expands _ a_read_under_write (meets refl (meets tt (expands _ under_old (meets refl (meets tt (expands _ next_memory_line (expands _ a_reader (meets refl (meets tt (meets tt (meets tt (expands _ last_memory_line (meets tt (done))))))))))))))))))))))))))))))))))))))))))))))))))))

-- Keywords are keywords by their position alone: as names they are names.
reg_named_reg : Derives (A Statement ∷ []) (w "reg" ∷ w "reg" ∷ m 58 ∷ w "UInt" ∷ m 60 ∷ d "1" ∷ m 62 ∷ w "clock" ∷ A_line_end ∷ [])
reg_named_reg = expands _ a_register (meets refl (meets tt (meets refl (expands _ a_type (expands _ an_unsigned (meets refl (expands _ a_width (meets refl (meets is_1 (meets refl (expands _ last_length (expands _ a_reference (expands _ a_component (meets tt (expands _ no_suffix (meets tt (done)))))))))))))))))

wire_named_mem : Derives (A Statement ∷ []) (w "wire" ∷ w "mem" ∷ m 58 ∷ w "UInt" ∷ m 60 ∷ d "1" ∷ m 62 ∷ A_line_end ∷ [])
wire_named_mem = expands _ a_wire (meets refl (meets tt (meets refl (expands _ a_type (expands _ an_unsigned (meets refl (expands _ a_width (meets refl (meets is_1 (meets refl (expands _ last_length (meets tt (done)))))))))))))

connect_named_connect : Derives (A Statement ∷ []) (w "connect" ∷ w "connect" ∷ w "skip" ∷ A_line_end ∷ [])
connect_named_connect = expands _ a_connect (meets refl (expands _ a_component (meets tt (expands _ no_suffix (expands _ a_reference (expands _ a_component (meets tt (expands _ no_suffix (meets tt (done))))))))))

inputs_named_in : Derives (A Port ∷ []) (w "input" ∷ w "input" ∷ m 58 ∷ m 123 ∷ w "in" ∷ m 58 ∷ w "UInt" ∷ m 60 ∷ d "1" ∷ m 62 ∷ w "input" ∷ m 58 ∷ w "Clock" ∷ m 125 ∷ m 91 ∷ d "2" ∷ m 93 ∷ [])
inputs_named_in = expands _ an_input (meets refl (meets tt (meets refl (expands _ a_type (expands _ a_bundle (meets refl (expands _ next_field (expands _ plain_field (meets tt (meets refl (expands _ a_type (expands _ an_unsigned (meets refl (expands _ a_width (meets refl (meets is_1 (meets refl (expands _ last_length (expands _ next_field (expands _ plain_field (meets tt (meets refl (expands _ a_type (expands _ a_clock (meets refl (expands _ last_length (expands _ last_field (meets refl (expands _ next_length (meets refl (meets is_2 (meets refl (expands _ last_length (done))))))))))))))))))))))))))))))))))

-- `UInt` is a component where no `<` follows, and a literal where one does.
node_named_uint : Derives (A Statement ∷ []) (w "node" ∷ w "UInt" ∷ m 61 ∷ w "UInt" ∷ m 46 ∷ w "skip" ∷ m 91 ∷ d "1" ∷ m 93 ∷ m 91 ∷ w "in" ∷ m 93 ∷ A_line_end ∷ [])
node_named_uint = expands _ a_node (meets refl (meets tt (meets refl (expands _ a_reference (expands _ a_component (meets tt (expands _ a_field_suffix (meets refl (meets tt (expands _ an_element_suffix (meets refl (meets is_1 (meets refl (expands _ an_index_suffix (meets refl (expands _ a_reference (expands _ a_component (meets tt (expands _ no_suffix (meets refl (expands _ no_suffix (meets tt (done)))))))))))))))))))))))

wide_literal : Derives (A Statement ∷ []) (w "node" ∷ w "n" ∷ m 61 ∷ w "UInt" ∷ m 60 ∷ d "4" ∷ m 62 ∷ m 40 ∷ d "1" ∷ m 41 ∷ A_line_end ∷ [])
wide_literal = expands _ a_node (meets refl (meets tt (meets refl (expands _ a_wide_unsigned_literal (meets refl (meets refl (meets is_4 (meets refl (meets refl (expands _ a_plain_integer (meets is_1 (meets refl (meets tt (done))))))))))))))

-- Operands, then parameters, as many as the operation takes.
short_literal : Derives (A Expression ∷ []) (c "add" ∷ c "tail" ∷ c "UInt" ∷ d "1" ∷ m 41 ∷ d "1" ∷ m 41 ∷ c "SInt" ∷ m 45 ∷ d "2" ∷ m 41 ∷ m 41 ∷ [])
short_literal = expands _ (an_operation Add tt) (meets refl (expands _ (one_more_expression 1) (expands _ (an_operation Tail tt) (meets refl (expands _ (one_more_expression 0) (expands _ an_unsigned_literal (meets refl (expands _ a_plain_integer (meets is_1 (meets refl (expands _ no_more_expressions (expands _ (one_more_number 0) (meets is_1 (expands _ no_more_numbers (meets refl (expands _ (one_more_expression 0) (expands _ a_signed_literal (meets refl (expands _ a_negative_integer (meets refl (meets is_2 (meets refl (expands _ no_more_expressions (expands _ no_more_numbers (meets refl (done))))))))))))))))))))))))))

-- A whole text: its circuit has no module.
empty_text : Derives (A Text ∷ []) (w "FIRRTL" ∷ w "version" ∷ d "3" ∷ m 46 ∷ d "0" ∷ m 46 ∷ d "0" ∷ A_line_end ∷ w "circuit" ∷ w "M" ∷ m 58 ∷ A_line_end ∷ The_end ∷ [])
empty_text = expands _ a_text (meets refl (meets refl (meets (inl is_3.1) (meets refl (meets is_0 (meets refl (meets is_0 (meets tt (meets refl (meets tt (meets refl (meets tt (expands _ no_modules (meets tt (done)))))))))))))))

-- The version may be 4, and a module may be public.
public_text : Derives (A Text ∷ []) (w "FIRRTL" ∷ w "version" ∷ d "4" ∷ m 46 ∷ d "0" ∷ m 46 ∷ d "0" ∷ A_line_end ∷ w "circuit" ∷ w "M" ∷ m 58 ∷ A_line_end ∷ A_block_opens ∷ w "public" ∷ w "module" ∷ w "M" ∷ m 58 ∷ A_line_end ∷ A_block_closes ∷ The_end ∷ [])
public_text = expands _ a_text (meets refl (meets refl (meets (inr is_4.1) (meets refl (meets is_0 (meets refl (meets is_0 (meets tt (meets refl (meets tt (meets refl (meets tt (expands _ some_modules (meets tt (expands _ next_module (expands _ a_public_module (meets refl (meets refl (meets tt (meets refl (meets tt (expands _ no_module_body (expands _ last_module (meets tt (meets tt done)))))))))))))))))))))))))

-- `stop(` with a label; the condition may be any expression
stop_line : Derives (A Statement ∷ []) (c "stop" ∷ w "clock" ∷ w "a" ∷ d "3" ∷ m 41 ∷ m 58 ∷ w "s" ∷ A_line_end ∷ [])
stop_line = expands _ a_stop (meets refl (expands _ a_reference (expands _ a_component (meets tt (expands _ no_suffix (expands _ a_reference (expands _ a_component (meets tt (expands _ no_suffix (meets is_3 (meets refl (expands _ with_label (meets refl (meets tt (meets tt done)))))))))))))))

-- A `printf` takes as many arguments as its format shows.
print_line : Derives (A Statement ∷ []) (c "printf" ∷ w "clock" ∷ w "a" ∷ A_token kind.Text (codes "\"%d\"") ∷ w "a" ∷ m 41 ∷ A_line_end ∷ [])
print_line = expands _ a_print (meets refl (expands _ a_reference (expands _ a_component (meets tt (expands _ no_suffix (expands _ a_reference (expands _ a_component (meets tt (expands _ no_suffix (expands _ (printed 1) (meets (_, quoted (codes "%d") refl (a_show {radix = Dec} nothing), refl) (expands _ (one_more_expression 0) (expands _ a_reference (expands _ a_component (meets tt (expands _ no_suffix (expands _ no_more_expressions (meets refl (expands _ without_label (meets tt done))))))))))))))))))))

-- Behind the format `%d` stands an expression: a `)` is bad there.
print_wants_one : (ss : List Symbol) (ps : List Piece) → ¬ (Front (A Printed ∷ ss) (A_token kind.Text (34 ∷ 37 ∷ 100 ∷ 34 ∷ []) ∷ m 41 ∷ ps))
print_wants_one ss ps f = let e = Front-entered f in by e.0 e.1 e.2
  where
    wanted : (n : ℕ) → n ≡ 1 → ¬ (Front (A (Expressions n) ∷ mark 41 ∷ ss) (m 41 ∷ ps))
    wanted n one g =
        let P : ℕ → Type 0 = λ k. Front (A (Expressions k) ∷ mark 41 ∷ ss) (m 41 ∷ ps) in
        let h = Front-entered (subst P one g) in first h.0 h.1 h.2
      where
        first : (body : List Symbol) → IsCase (Expressions 1) body → ¬ (Front (body ++ mark 41 ∷ ss) (m 41 ∷ ps))
        first _ (one_more_expression _) h = expression_mark (A (Expressions 0) ∷ mark 41 ∷ ss) 41 (41 ∷ []) ps h

    by : (body : List Symbol) → IsCase Printed body → ¬ (Front (body ++ ss) (A_token kind.Text (34 ∷ 37 ∷ 100 ∷ 34 ∷ []) ∷ m 41 ∷ ps))
    by _ (printed n) g = let t = Front-taken g in wanted n (sym t.0.2 ∙ ap shows (sym (quoted_pieces_are _ t.0.1)) ∙ one_shown) t.1

-- `cmem` begins no statement and closes no block, and is one of the listed words: a text that comes to it is Unsupported.
statement_not_cmem : (ss : List Symbol) (body : List Symbol) (ps : List Piece) → IsCase Statement body → ¬ (Front (body ++ ss) (w "cmem" ∷ ps))
statement_not_cmem ss _ ps a_wire f = texts_apart (codes "cmem") (codes "wire") refl (Front-taken f).0
statement_not_cmem ss _ ps a_register f = texts_apart (codes "cmem") (codes "reg") refl (Front-taken f).0
statement_not_cmem ss _ ps a_reset_register f = texts_apart (codes "cmem") (codes "regreset") refl (Front-taken f).0
statement_not_cmem ss _ ps a_memory f = texts_apart (codes "cmem") (codes "mem") refl (Front-taken f).0
statement_not_cmem ss _ ps an_instance f = texts_apart (codes "cmem") (codes "inst") refl (Front-taken f).0
statement_not_cmem ss _ ps a_node f = texts_apart (codes "cmem") (codes "node") refl (Front-taken f).0
statement_not_cmem ss _ ps a_connect f = texts_apart (codes "cmem") (codes "connect") refl (Front-taken f).0
statement_not_cmem ss _ ps an_invalidate f = texts_apart (codes "cmem") (codes "invalidate") refl (Front-taken f).0
statement_not_cmem ss _ ps a_when f = texts_apart (codes "cmem") (codes "when") refl (Front-taken f).0
statement_not_cmem ss _ ps a_skip f = texts_apart (codes "cmem") (codes "skip") refl (Front-taken f).0
statement_not_cmem ss _ ps a_print f = (Front-taken f).0
statement_not_cmem ss _ ps a_stop f = (Front-taken f).0

statements_not_cmem : (ss : List Symbol) (body : List Symbol) (ps : List Piece) → IsCase Statements body → ¬ (Front (body ++ ss) (w "cmem" ∷ ps))
statements_not_cmem ss _ ps last_statement f = (Front-taken f).0
statements_not_cmem ss _ ps next_statement f = let e = Front-entered f in statement_not_cmem (A Statements ∷ ss) e.0 ps e.1 e.2

cmem_cannot : (ss : List Symbol) (ps : List Piece) → ¬ (Front (A Statements ∷ ss) (w "cmem" ∷ ps))
cmem_cannot ss ps f = let e = Front-entered f in statements_not_cmem ss e.0 ps e.1 e.2

cmem_listed : IsListed (w "cmem")
cmem_listed = (30, omega arith, refl)

-- A line with its tree: names are numbered in the order of their first use, and places count from the text's first byte.

abbrev register_line : List ℕ
register_line = codes "reg reg : UInt<1>, clock"

abbrev token : TokenKind → ℕ → ℕ → Laid
token kind start end = Item (record { kind = kind; start = start; end = end })

abbrev register_list : List Laid
register_list =
    token kind.Word 0 3 ∷ token kind.Word 4 7 ∷ token (kind.Mark 58) 8 9 ∷ token kind.Word 10 14 ∷ token (kind.Mark 60) 14 15 ∷ token kind.Digits 15 16 ∷ token (kind.Mark 62) 16 17
    ∷ token kind.Word 19 24 ∷ LineEnd 24 ∷ []

abbrev column : ℕ → Place
column n = record { line = 1; column = n }

abbrev register : Stmt
register = stmt.Reg (record { id = 0; place = column 5 }) (record { place = column 11; shape = shape.Unsigned (Some 1) })
    (record { place = column 20; form = form.Ref (record { id = 1; place = column 20 }) [] })

first_name : AddsName [] (codes "reg" ∷ []) (codes "reg") 0
first_name = record { known = λ c. let within : c.0 < 0 = c.1 in absurd (omega arith); added = λ none. refl; number = refl }

second_name : AddsName (codes "reg" ∷ []) (codes "reg" ∷ codes "clock" ∷ []) (codes "clock") 1
second_name = record { known = λ c. absurd (fresh_none (codes "reg" ∷ []) (codes "clock") refl c); added = λ none. refl; number = refl }

register_spelled : (major : ℕ) → Spells major register_line (A Statement ∷ []) register_list [] (entry.Plain register, tt) [] (codes "reg" ∷ codes "clock" ∷ [])
unfolding place
register_spelled major =
    a_rule a_register (a_piece refl (a_name tt first_name (a_piece refl
    (a_rule a_type (a_rule an_unsigned (a_place refl (a_rule a_width (a_piece refl (a_magnitude is_1 is_1.1 (a_piece refl no_symbol))) no_symbol)) (a_rule last_length no_symbol no_symbol))
    (a_rule a_reference (a_rule a_component (a_name tt second_name (a_rule no_suffix no_symbol no_symbol)) no_symbol) (a_piece tt no_symbol)))))) no_symbol
