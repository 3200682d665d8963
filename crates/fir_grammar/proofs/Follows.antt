-- What may stand behind a rule begins with no piece that the rule could go on with.
use Rattle.std.proofs.Common.{◌≡◌, ℕ, List, ◌∷◌, ◌++◌, refl, subst, codes, eqb, false, true, eq-eqb, bytes_eq}
use Rattle.std.proofs.lemmas.Slice.Eq.{bytes_eq-Decides}
use Rattle.fir_lexer.specs.declared.token.TokenKind.TheVariants as kind
use Rattle.fir_layout.specs.Pieces.{Piece, A_token, A_block_opens}
use Rattle.prim_ops.specs.Operations.{arity_of}
use Rattle.fir_grammar.specs.Grammar.{Terminal, The_word, The_mark, Opens, Takes, Kept, Symbol, Is, A, close, mark, number, line_end, Front, Rule, Modules, Module, Ports, Type_of, Lengths, Base_type, Fields, Field, Statements, Statement, Printed, Item_end, Block, Branches, Memory_lines, Expression, Expressions, Numbers, Reference, Suffixes, IsCase, a_text, no_modules, some_modules, last_module, next_module, a_module, a_public_module, no_module_body, a_module_body, next_port, last_port, an_input, an_output, a_type, last_length, next_length, an_unsigned, a_signed, a_clock, a_reset, a_bundle, no_width, a_width, last_field, next_field, plain_field, flipped_field, last_statement, next_statement, a_wire, a_print, printed, a_stop, without_label, with_label, a_register, a_reset_register, a_memory, an_instance, a_node, a_connect, an_invalidate, a_when, a_skip, no_branch, else_when, else_, no_block, a_block, last_memory_line, next_memory_line, a_data_type, a_depth, a_read_latency, a_write_latency, a_read_under_write, under_old, under_new, under_undefined, a_reader, a_writer, a_readwriter, a_reference, a_mux, an_operation, no_more_expressions, one_more_expression, no_more_numbers, one_more_number, a_component, no_suffix, a_field_suffix, an_element_suffix, an_index_suffix, an_unsigned_literal, a_signed_literal, a_wide_unsigned_literal, a_wide_signed_literal, a_plain_integer, a_negative_integer, a_quoted_integer}
use Rattle.fir_grammar.specs.Reading.{goes_on_with, CannotBegin, CannotBeginAll, IsSettled, Stands, at_first, into_case, behind_rule, behind_piece}
use Rattle.fir_grammar.proofs.Fronts.{Front-taken, Front-entered}

pub apart : (m n : ℕ) → eqb m n ≡ false → m ≡ n → ⊥
apart m n differ same = let equal : eqb m n ≡ true = eq-eqb m n same in cc

pub texts_apart : (xs ys : List ℕ) → bytes_eq xs ys ≡ false → xs ≡ ys → ⊥
texts_apart xs ys differ same = let equal : bytes_eq xs ys ≡ true = (bytes_eq-Decides xs ys).1 same in cc

abbrev Never : List Symbol → Piece → Type 0
Never ss p = (ps : List Piece) → Front ss (p ∷ ps) → ⊥

abbrev a_mark : ℕ → List ℕ → Piece
a_mark m bytes = A_token (kind.Mark m) bytes

abbrev else_word : Piece
else_word = A_token kind.Word (codes "else")

-- a piece that a mark takes is that mark
mark_none : (ss : List Symbol) (m : ℕ) → ((bytes : List ℕ) → Never ss (a_mark m bytes)) → (p : Piece) (ps : List Piece) → Takes (The_mark m) p → Front ss (p ∷ ps) → ⊥
mark_none ss m never (A_token (kind.Mark n) bytes) ps h f = never bytes ps (subst (λ (x : ℕ). Front ss (a_mark x bytes ∷ ps)) h f)
mark_none ss m never _ ps h f = absurd h

cannot_mark : (ss : List Symbol) (m : ℕ) → ((bytes : List ℕ) → Never ss (a_mark m bytes)) → CannotBegin ss (The_mark m)
cannot_mark ss m never = record { none = mark_none ss m never }

open_none : (ss : List Symbol) → Never ss A_block_opens → (p : Piece) (ps : List Piece) → Takes Opens p → Front ss (p ∷ ps) → ⊥
open_none ss never A_block_opens ps h f = never ps f
open_none ss never _ ps h f = absurd h

cannot_open : (ss : List Symbol) → Never ss A_block_opens → CannotBegin ss Opens
cannot_open ss never = record { none = open_none ss never }

else_none : (ss : List Symbol) → Never ss else_word → (p : Piece) (ps : List Piece) → Takes (The_word (codes "else")) p → Front ss (p ∷ ps) → ⊥
else_none ss never (A_token kind.Word bytes) ps h f = never ps (subst (λ (x : List ℕ). Front ss (A_token kind.Word x ∷ ps)) h f)
else_none ss never _ ps h f = absurd h

cannot_else : (ss : List Symbol) → Never ss else_word → CannotBegin ss (The_word (codes "else"))
cannot_else ss never = record { none = else_none ss never }

never_mark : {ss : List Symbol} {m : ℕ} → CannotBegin ss (The_mark m) → (bytes : List ℕ) → Never ss (a_mark m bytes)
never_mark c bytes ps f = c.none _ ps refl f

never_open : {ss : List Symbol} → CannotBegin ss Opens → Never ss A_block_opens
never_open c ps f = c.none _ ps tt f

never_else : {ss : List Symbol} → CannotBegin ss (The_word (codes "else")) → Never ss else_word
never_else c ps f = c.none _ ps refl f

-- a rule begins with no piece that none of its cases begins with
never_rule : (r : Rule) (ss : List Symbol) (p : Piece) → ((body : List Symbol) → IsCase r body → Never (body ++ ss) p) → Never (A r ∷ ss) p
never_rule r ss p none ps f = let e = Front-entered f in none e.0 e.1 ps e.2

reference_mark : (ss : List Symbol) (m : ℕ) (bytes : List ℕ) (body : List Symbol) → IsCase Reference body → Never (body ++ ss) (a_mark m bytes)
reference_mark ss m bytes _ a_component ps f = (Front-taken f).0

expression_mark_case : (ss : List Symbol) (m : ℕ) (bytes : List ℕ) (body : List Symbol) → IsCase Expression body → Never (body ++ ss) (a_mark m bytes)
expression_mark_case ss m bytes _ a_reference ps f = never_rule Reference ss (a_mark m bytes) (reference_mark ss m bytes) ps f
expression_mark_case ss m bytes _ a_mux ps f = (Front-taken f).0
expression_mark_case ss m bytes _ (an_operation prim written) ps f = (Front-taken f).0
expression_mark_case ss m bytes _ an_unsigned_literal ps f = (Front-taken f).0
expression_mark_case ss m bytes _ a_signed_literal ps f = (Front-taken f).0
expression_mark_case ss m bytes _ a_wide_unsigned_literal ps f = (Front-taken f).0
expression_mark_case ss m bytes _ a_wide_signed_literal ps f = (Front-taken f).0

pub expression_mark : (ss : List Symbol) (m : ℕ) (bytes : List ℕ) → Never (A Expression ∷ ss) (a_mark m bytes)
expression_mark ss m bytes = never_rule Expression ss (a_mark m bytes) (expression_mark_case ss m bytes)

expressions_mark_case : (ss : List Symbol) (m : ℕ) (bytes : List ℕ) (n : ℕ) → Never ss (a_mark m bytes) → (body : List Symbol) → IsCase (Expressions n) body → Never (body ++ ss) (a_mark m bytes)
expressions_mark_case ss m bytes _ never _ no_more_expressions = never
expressions_mark_case ss m bytes _ never _ (one_more_expression n) = expression_mark (A (Expressions n) ∷ ss) m bytes

expressions_mark : (ss : List Symbol) (m : ℕ) (bytes : List ℕ) (n : ℕ) → Never ss (a_mark m bytes) → Never (A (Expressions n) ∷ ss) (a_mark m bytes)
expressions_mark ss m bytes n never = never_rule (Expressions n) ss (a_mark m bytes) (expressions_mark_case ss m bytes n never)

numbers_mark_case : (ss : List Symbol) (m : ℕ) (bytes : List ℕ) (n : ℕ) → Never ss (a_mark m bytes) → (body : List Symbol) → IsCase (Numbers n) body → Never (body ++ ss) (a_mark m bytes)
numbers_mark_case ss m bytes _ never _ no_more_numbers = never
numbers_mark_case ss m bytes _ never _ (one_more_number n) = λ ps f. (Front-taken f).0

numbers_mark : (ss : List Symbol) (m : ℕ) (bytes : List ℕ) (n : ℕ) → Never ss (a_mark m bytes) → Never (A (Numbers n) ∷ ss) (a_mark m bytes)
numbers_mark ss m bytes n never = never_rule (Numbers n) ss (a_mark m bytes) (numbers_mark_case ss m bytes n never)

field_mark_case : (ss : List Symbol) (m : ℕ) (bytes : List ℕ) (body : List Symbol) → IsCase Field body → Never (body ++ ss) (a_mark m bytes)
field_mark_case ss m bytes _ plain_field ps f = (Front-taken f).0
field_mark_case ss m bytes _ flipped_field ps f = (Front-taken f).0

fields_mark_case : (ss : List Symbol) (m : ℕ) (bytes : List ℕ) → (m ≡ 125 → ⊥) → (body : List Symbol) → IsCase Fields body → Never (body ++ ss) (a_mark m bytes)
fields_mark_case ss m bytes other _ last_field ps f = other (Front-taken f).0
fields_mark_case ss m bytes other _ next_field ps f = never_rule Field (A Fields ∷ ss) (a_mark m bytes) (field_mark_case (A Fields ∷ ss) m bytes) ps f

fields_mark : (ss : List Symbol) (m : ℕ) (bytes : List ℕ) → (m ≡ 125 → ⊥) → Never (A Fields ∷ ss) (a_mark m bytes)
fields_mark ss m bytes other = never_rule Fields ss (a_mark m bytes) (fields_mark_case ss m bytes other)

lengths_mark_case : (ss : List Symbol) (bytes : List ℕ) → Never ss (a_mark 60 bytes) → (body : List Symbol) → IsCase Lengths body → Never (body ++ ss) (a_mark 60 bytes)
lengths_mark_case ss bytes never _ last_length ps f = never ps f
lengths_mark_case ss bytes never _ next_length ps f = apart 60 91 refl (Front-taken f).0

lengths_mark : (ss : List Symbol) (bytes : List ℕ) → Never ss (a_mark 60 bytes) → Never (A Lengths ∷ ss) (a_mark 60 bytes)
lengths_mark ss bytes never = never_rule Lengths ss (a_mark 60 bytes) (lengths_mark_case ss bytes never)

module_open_case : (ss : List Symbol) (body : List Symbol) → IsCase Module body → Never (body ++ ss) A_block_opens
module_open_case ss _ a_module ps f = (Front-taken f).0
module_open_case ss _ a_public_module ps f = (Front-taken f).0

modules_open_case : (ss : List Symbol) (body : List Symbol) → IsCase Modules body → Never (body ++ ss) A_block_opens
modules_open_case ss _ last_module ps f = (Front-taken f).0
modules_open_case ss _ next_module ps f = never_rule Module (A Modules ∷ ss) A_block_opens (module_open_case (A Modules ∷ ss)) ps f

statement_open_case : (ss : List Symbol) (body : List Symbol) → IsCase Statement body → Never (body ++ ss) A_block_opens
statement_open_case ss _ a_wire ps f = (Front-taken f).0
statement_open_case ss _ a_register ps f = (Front-taken f).0
statement_open_case ss _ a_reset_register ps f = (Front-taken f).0
statement_open_case ss _ a_memory ps f = (Front-taken f).0
statement_open_case ss _ an_instance ps f = (Front-taken f).0
statement_open_case ss _ a_node ps f = (Front-taken f).0
statement_open_case ss _ a_connect ps f = (Front-taken f).0
statement_open_case ss _ an_invalidate ps f = (Front-taken f).0
statement_open_case ss _ a_when ps f = (Front-taken f).0
statement_open_case ss _ a_skip ps f = (Front-taken f).0
statement_open_case ss _ a_print ps f = (Front-taken f).0
statement_open_case ss _ a_stop ps f = (Front-taken f).0

statement_else_case : (ss : List Symbol) (body : List Symbol) → IsCase Statement body → Never (body ++ ss) else_word
statement_else_case ss _ a_wire ps f = texts_apart (codes "else") (codes "wire") refl (Front-taken f).0
statement_else_case ss _ a_register ps f = texts_apart (codes "else") (codes "reg") refl (Front-taken f).0
statement_else_case ss _ a_reset_register ps f = texts_apart (codes "else") (codes "regreset") refl (Front-taken f).0
statement_else_case ss _ a_memory ps f = texts_apart (codes "else") (codes "mem") refl (Front-taken f).0
statement_else_case ss _ an_instance ps f = texts_apart (codes "else") (codes "inst") refl (Front-taken f).0
statement_else_case ss _ a_node ps f = texts_apart (codes "else") (codes "node") refl (Front-taken f).0
statement_else_case ss _ a_connect ps f = texts_apart (codes "else") (codes "connect") refl (Front-taken f).0
statement_else_case ss _ an_invalidate ps f = texts_apart (codes "else") (codes "invalidate") refl (Front-taken f).0
statement_else_case ss _ a_when ps f = texts_apart (codes "else") (codes "when") refl (Front-taken f).0
statement_else_case ss _ a_skip ps f = texts_apart (codes "else") (codes "skip") refl (Front-taken f).0
statement_else_case ss _ a_print ps f = (Front-taken f).0
statement_else_case ss _ a_stop ps f = (Front-taken f).0

statements_open_case : (ss : List Symbol) (body : List Symbol) → IsCase Statements body → Never (body ++ ss) A_block_opens
statements_open_case ss _ last_statement ps f = (Front-taken f).0
statements_open_case ss _ next_statement ps f = never_rule Statement (A Statements ∷ ss) A_block_opens (statement_open_case (A Statements ∷ ss)) ps f

statements_else_case : (ss : List Symbol) (body : List Symbol) → IsCase Statements body → Never (body ++ ss) else_word
statements_else_case ss _ last_statement ps f = (Front-taken f).0
statements_else_case ss _ next_statement ps f = never_rule Statement (A Statements ∷ ss) else_word (statement_else_case (A Statements ∷ ss)) ps f

branches_open_case : (ss : List Symbol) → Never ss A_block_opens → (body : List Symbol) → IsCase Branches body → Never (body ++ ss) A_block_opens
branches_open_case ss never _ no_branch ps f = never ps f
branches_open_case ss never _ else_when ps f = (Front-taken f).0
branches_open_case ss never _ else_ ps f = (Front-taken f).0

-- what stands behind a rule, by the symbol that does

off_mark : (k : Kept) (s : Terminal) (ss : List Symbol) (m : ℕ) → ((bytes : List ℕ) → Takes s (a_mark m bytes) → ⊥) → CannotBegin (Is k s ∷ ss) (The_mark m)
off_mark k s ss m other = cannot_mark (Is k s ∷ ss) m (λ bytes ps f. other bytes (Front-taken f).0)

expression_line : (ss : List Symbol) → CannotBeginAll (line_end ∷ ss) (goes_on_with Expression)
expression_line ss = (off_mark _ _ ss 46 (λ b h. h), (off_mark _ _ ss 91 (λ b h. h), (off_mark _ _ ss 60 (λ b h. h), tt)))

type_line : (ss : List Symbol) → CannotBeginAll (line_end ∷ ss) (goes_on_with Type_of)
type_line ss = (off_mark _ _ ss 60 (λ b h. h), (off_mark _ _ ss 91 (λ b h. h), tt))

reference_line : (ss : List Symbol) → CannotBeginAll (line_end ∷ ss) (goes_on_with Reference)
reference_line ss = (off_mark _ _ ss 46 (λ b h. h), (off_mark _ _ ss 91 (λ b h. h), tt))

expression_mark_next : (ss : List Symbol) (m : ℕ) → (46 ≡ m → ⊥) → (91 ≡ m → ⊥) → (60 ≡ m → ⊥) → CannotBeginAll (mark m ∷ ss) (goes_on_with Expression)
expression_mark_next ss m a b c = (off_mark _ _ ss 46 (λ _ h. a h), (off_mark _ _ ss 91 (λ _ h. b h), (off_mark _ _ ss 60 (λ _ h. c h), tt)))

expression_expression : (ss : List Symbol) → CannotBeginAll (A Expression ∷ ss) (goes_on_with Expression)
expression_expression ss = let c = λ (m : ℕ). cannot_mark (A Expression ∷ ss) m (expression_mark ss m) in (c 46, (c 91, (c 60, tt)))

printed_mark_case : (ss : List Symbol) (m : ℕ) (bytes : List ℕ) (body : List Symbol) → IsCase Printed body → Never (body ++ ss) (a_mark m bytes)
printed_mark_case ss m bytes _ (printed n) ps f = (Front-taken f).0

expression_printed : (ss : List Symbol) → CannotBeginAll (A Printed ∷ ss) (goes_on_with Expression)
expression_printed ss =
    let c = λ (m : ℕ). cannot_mark (A Printed ∷ ss) m (λ bytes. never_rule Printed ss (a_mark m bytes) (printed_mark_case ss m bytes)) in (c 46, (c 91, (c 60, tt)))

expression_number : (ss : List Symbol) → CannotBeginAll (number ∷ ss) (goes_on_with Expression)
expression_number ss = (off_mark _ _ ss 46 (λ b h. h), (off_mark _ _ ss 91 (λ b h. h), (off_mark _ _ ss 60 (λ b h. h), tt)))

type_expression : (ss : List Symbol) → CannotBeginAll (A Expression ∷ ss) (goes_on_with Type_of)
type_expression ss = let c = λ (m : ℕ). cannot_mark (A Expression ∷ ss) m (expression_mark ss m) in (c 60, (c 91, tt))

reference_expression : (ss : List Symbol) → CannotBeginAll (A Expression ∷ ss) (goes_on_with Reference)
reference_expression ss = let c = λ (m : ℕ). cannot_mark (A Expression ∷ ss) m (expression_mark ss m) in (c 46, (c 91, tt))

expressions_close : (n : ℕ) (ss : List Symbol) → CannotBeginAll (A (Numbers n) ∷ close ∷ ss) (goes_on_with (Expressions 0))
expressions_close n ss =
    let none = λ (m : ℕ) (other : m ≡ 41 → ⊥). cannot_mark (A (Numbers n) ∷ close ∷ ss) m (λ bytes. numbers_mark (close ∷ ss) m bytes n (λ ps f. other (Front-taken f).0)) in
    (none 46 (apart 46 41 refl), (none 91 (apart 91 41 refl), (none 60 (apart 60 41 refl), tt)))

expression_expressions : (n : ℕ) (ss : List Symbol) → CannotBeginAll ss (goes_on_with Expression) → CannotBeginAll (A (Expressions n) ∷ ss) (goes_on_with Expression)
expression_expressions n ss c =
    let none = λ (m : ℕ) (at : CannotBegin ss (The_mark m)). cannot_mark (A (Expressions n) ∷ ss) m (λ bytes. expressions_mark ss m bytes n (never_mark at bytes)) in
    (none 46 c.0, (none 91 c.1.0, (none 60 c.1.1.0, tt)))

field_fields : (ss : List Symbol) → CannotBeginAll (A Fields ∷ ss) (goes_on_with Field)
field_fields ss = let none = λ (m : ℕ) (other : m ≡ 125 → ⊥). cannot_mark (A Fields ∷ ss) m (λ bytes. fields_mark ss m bytes other) in (none 60 (apart 60 125 refl), (none 91 (apart 91 125 refl), tt))

module_modules : (ss : List Symbol) → CannotBeginAll (A Modules ∷ ss) (goes_on_with Module)
module_modules ss = (cannot_open (A Modules ∷ ss) (never_rule Modules ss A_block_opens (modules_open_case ss)), tt)

statement_statements : (ss : List Symbol) → CannotBeginAll (A Statements ∷ ss) (goes_on_with Statement)
statement_statements ss =
    (cannot_else (A Statements ∷ ss) (never_rule Statements ss else_word (statements_else_case ss)), (cannot_open (A Statements ∷ ss) (never_rule Statements ss A_block_opens (statements_open_case ss)), tt))

block_branches : (ss : List Symbol) → CannotBegin ss Opens → CannotBeginAll (A Branches ∷ ss) (goes_on_with Block)
block_branches ss c = (cannot_open (A Branches ∷ ss) (never_rule Branches ss A_block_opens (branches_open_case ss (never_open c))), tt)

base_lengths : (ss : List Symbol) → CannotBegin ss (The_mark 60) → CannotBeginAll (A Lengths ∷ ss) (goes_on_with Base_type)
base_lengths ss c = (cannot_mark (A Lengths ∷ ss) 60 (λ bytes. lengths_mark ss bytes (never_mark c bytes)), tt)

-- the symbols of a case are settled in front of what its rule is settled in front of
pub settled_case : {r : Rule} {body : List Symbol} (ss : List Symbol) → IsCase r body → IsSettled (A r ∷ ss) → IsSettled (body ++ ss)
settled_case ss a_text h = ((cannot_open _ (λ ps f. (Front-taken f).0), tt), h.1)
settled_case ss no_modules h = h.1
settled_case ss some_modules h = (tt, h.1)
settled_case ss last_module h = h.1
settled_case ss next_module h = (module_modules ss, (tt, h.1))
settled_case ss a_module h = h
settled_case ss a_public_module h = h
settled_case ss no_module_body h = h.1
settled_case ss a_module_body h = (tt, h.1)
settled_case ss next_port h = (type_line (A Ports ∷ ss), (tt, h.1))
settled_case ss last_port h = (tt, h.1)
settled_case ss an_input h = h
settled_case ss an_output h = h
settled_case ss a_type h = (base_lengths ss h.0.0, ((h.0.1.0, tt), h.1))
settled_case ss last_length h = h.1
settled_case ss next_length h = h
settled_case ss an_unsigned h = h
settled_case ss a_signed h = h
settled_case ss a_clock h = h.1
settled_case ss a_reset h = h.1
settled_case ss a_bundle h = (tt, h.1)
settled_case ss no_width h = h.1
settled_case ss a_width h = h.1
settled_case ss last_field h = h.1
settled_case ss next_field h = (field_fields ss, (tt, h.1))
settled_case ss plain_field h = h
settled_case ss flipped_field h = h
settled_case ss last_statement h = h.1
settled_case ss next_statement h = (statement_statements ss, (tt, h.1))
settled_case ss a_wire h = (type_line ss, h.1)
settled_case ss a_register h = (type_expression (line_end ∷ ss), (expression_line ss, h.1))
settled_case ss a_reset_register h =
    (type_expression _, (expression_expression (A Expression ∷ line_end ∷ ss), (expression_expression (line_end ∷ ss), (expression_line ss, h.1))))
settled_case ss a_memory h = (tt, h.1)
settled_case ss an_instance h = h.1
settled_case ss a_node h = (expression_line ss, h.1)
settled_case ss a_connect h = (reference_expression (line_end ∷ ss), (expression_line ss, h.1))
settled_case ss an_invalidate h = (reference_line ss, h.1)
settled_case ss a_when h =
    (expression_mark_next (line_end ∷ A Block ∷ A Branches ∷ ss) 58 (apart 46 58 refl) (apart 91 58 refl) (apart 60 58 refl), (block_branches ss h.0.1.0, h))
settled_case ss a_skip h = h.1
settled_case ss a_print h = (expression_expression (A Printed ∷ A Item_end ∷ ss), (expression_printed (A Item_end ∷ ss), (tt, (tt, h.1))))
settled_case ss (printed n) h = (expression_mark_next ss 41 (apart 46 41 refl) (apart 91 41 refl) (apart 60 41 refl), h.1)
settled_case ss a_stop h = (expression_expression (number ∷ close ∷ A Item_end ∷ ss), (expression_number (close ∷ A Item_end ∷ ss), (tt, h.1)))
settled_case ss without_label h = h.1
settled_case ss with_label h = h.1
settled_case ss no_branch h = h.1
settled_case ss else_when h =
    (expression_mark_next (line_end ∷ A Block ∷ A Branches ∷ ss) 58 (apart 46 58 refl) (apart 91 58 refl) (apart 60 58 refl), (block_branches ss h.0.1.0, h))
settled_case ss else_ h = ((h.0.1.0, tt), h.1)
settled_case ss no_block h = h.1
settled_case ss a_block h = (tt, h.1)
settled_case ss last_memory_line h = h.1
settled_case ss next_memory_line h = (type_line (A Memory_lines ∷ ss), (tt, h.1))
settled_case ss a_data_type h = h
settled_case ss a_depth h = h.1
settled_case ss a_read_latency h = h.1
settled_case ss a_write_latency h = h.1
settled_case ss a_read_under_write h = (tt, h.1)
settled_case ss under_old h = h.1
settled_case ss under_new h = h.1
settled_case ss under_undefined h = h.1
settled_case ss a_reader h = h.1
settled_case ss a_writer h = h.1
settled_case ss a_readwriter h = h.1
settled_case ss a_reference h = ((h.0.0, (h.0.1.0, tt)), h.1)
settled_case ss a_mux h = (expression_mark_next ss 41 (apart 46 41 refl) (apart 91 41 refl) (apart 60 41 refl), h.1)
settled_case ss (an_operation prim written) h = (expressions_close (arity_of prim).1 ss, (tt, h.1))
settled_case ss no_more_expressions h = h.1
settled_case ss (one_more_expression n) h = (expression_expressions n ss h.0, h)
settled_case ss no_more_numbers h = h.1
settled_case ss (one_more_number n) h = (tt, h.1)
settled_case ss a_component h = h
settled_case ss no_suffix h = h.1
settled_case ss a_field_suffix h = h
settled_case ss an_element_suffix h = h
settled_case ss an_index_suffix h = (expression_mark_next (A Suffixes ∷ ss) 93 (apart 46 93 refl) (apart 91 93 refl) (apart 60 93 refl), h)
settled_case ss an_unsigned_literal h = (tt, h.1)
settled_case ss a_signed_literal h = (tt, h.1)
settled_case ss a_wide_unsigned_literal h = (tt, h.1)
settled_case ss a_wide_signed_literal h = (tt, h.1)
settled_case ss a_plain_integer h = h.1
settled_case ss a_negative_integer h = h.1
settled_case ss a_quoted_integer h = h.1

-- all that may be wanted in a text is settled
pub Stands-settled : {ss : List Symbol} → Stands ss → IsSettled ss
Stands-settled at_first = (tt, tt)
Stands-settled (into_case {ss} case h) = settled_case ss case (Stands-settled h)
Stands-settled (behind_rule h) = (Stands-settled h).1
Stands-settled (behind_piece h) = Stands-settled h
