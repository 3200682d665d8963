-- Which case of a rule a list of pieces goes on by, from its first two pieces.
use Prim.Native.String.{String}
use Rattle.std.proofs.Math.Path.{Path}
use Rattle.std.specs.Prelude.{unwrap_or}
use Rattle.std.proofs.Common.{◌≡◌, ℕ, zero, suc, Bool, true, false, ◌&&◌, if◌then◌else◌, List, [], ◌∷◌, ◌++◌, Option, Some, refl, sym, ap, ◌∙◌, codes, bytes_eq, eqb, eqb→eq}
use Rattle.std.proofs.lemmas.Slice.Eq.{bytes_eq-Decides}
use Rattle.fir_lexer.specs.declared.token.TokenKind.TheVariants as kind
use Rattle.fir_layout.specs.Pieces.{Piece, A_token, A_line_end, A_block_opens, A_block_closes, The_end}
use Rattle.prim_ops.specs.declared.operation.PrimOp.{PrimOp}
use Rattle.prim_ops.specs.declared.operation.PrimOp.TheVariants.{Add, Sub, Mul, Div, Rem, Lt, Leq, Gt, Geq, Eq, Neq, Pad, AsUInt, AsSInt, AsAsyncReset, Shl, Shr, ShrFour, Dshl, Dshr, Cvt, Neg, Not, And, Or, Xor, Andr, Orr, Xorr, Cat, Bits, Head, Tail}
use Rattle.prim_ops.specs.Operations.{name_of, IsWritten}
use Rattle.fir_tree.specs.declared.print.Piece.{Piece as PrintPiece}
use Rattle.item_lines.specs.Formats.{shows}
use Rattle.item_lines.proofs.Formats.{quoted_pieces, quoted_pieces_are}
use Rattle.fir_grammar.specs.Grammar.{Terminal, The_word, The_call, The_mark, A_name, A_field, A_number, A_quoted_number, A_format, Opens, Closes, Line_ends, Takes, Kept, Symbol, Is, A, Rule, Text, Circuit_body, Modules, Module, Module_body, Ports, Port, Type_of, Lengths, Base_type, Width, Fields, Field, Statements, Statement, Printed, Item_end, Block, Branches, Memory_lines, Memory_line, Under_write, Expression, Expressions, Numbers, Reference, Suffixes, Integer, IsCase, a_text, no_modules, some_modules, last_module, next_module, a_module, a_public_module, no_module_body, a_module_body, next_port, last_port, an_input, an_output, a_type, last_length, next_length, an_unsigned, a_signed, a_clock, a_reset, a_bundle, no_width, a_width, last_field, next_field, plain_field, flipped_field, last_statement, next_statement, a_wire, a_print, printed, a_stop, without_label, with_label, a_register, a_reset_register, a_memory, an_instance, a_node, a_connect, an_invalidate, a_when, a_skip, no_branch, else_when, else_, no_block, a_block, last_memory_line, next_memory_line, a_data_type, a_depth, a_read_latency, a_write_latency, a_read_under_write, under_old, under_new, under_undefined, a_reader, a_writer, a_readwriter, a_reference, a_mux, an_operation, no_more_expressions, one_more_expression, no_more_numbers, one_more_number, a_component, no_suffix, a_field_suffix, an_element_suffix, an_index_suffix, an_unsigned_literal, a_signed_literal, a_wide_unsigned_literal, a_wide_signed_literal, a_plain_integer, a_negative_integer, a_quoted_integer, Derives, meets, expands, Front}
use Rattle.fir_grammar.specs.Reading.{CannotBegin, IsSettled}
use Rattle.fir_grammar.proofs.Fronts.{Derives-whole}

-- tests of the first piece

abbrev pub starts_word : String → List Piece → Bool
starts_word text (A_token kind.Word bytes ∷ ps) = bytes_eq bytes (codes text)
starts_word text _ = false

abbrev pub starts_call : List ℕ → List Piece → Bool
starts_call text (A_token kind.Call bytes ∷ ps) = bytes_eq bytes (text ++ codes "(")
starts_call text _ = false

abbrev pub starts_mark : ℕ → List Piece → Bool
starts_mark m (A_token (kind.Mark n) bytes ∷ ps) = eqb n m
starts_mark m _ = false

abbrev pub starts_digits : List Piece → Bool
starts_digits (A_token kind.Digits bytes ∷ ps) = true
starts_digits _ = false

abbrev pub starts_string : List Piece → Bool
starts_string (A_token kind.Text bytes ∷ ps) = true
starts_string _ = false

abbrev pub opens : List Piece → Bool
opens (A_block_opens ∷ ps) = true
opens _ = false

abbrev pub closes : List Piece → Bool
closes (A_block_closes ∷ ps) = true
closes _ = false

abbrev pub behind : List Piece → List Piece
behind [] = []
behind (p ∷ ps) = ps

-- a case with its symbols
abbrev pub Chosen : Rule → Type 0
Chosen r = (body : List Symbol) × IsCase r body

-- an operation that a text writes
abbrev pub Written : Type 0
Written = (prim : PrimOp) × IsWritten prim

abbrev pub operation_in : List Written → List Piece → Option (Chosen Expression) → Option (Chosen Expression)
operation_in [] ps other = other
operation_in (prim ∷ prims) ps other = if starts_call (name_of prim.0) ps then Some (_, an_operation prim.0 prim.1) else operation_in prims ps other

abbrev pub operations : List Written
operations = (Add, tt) ∷ (Sub, tt) ∷ (Mul, tt) ∷ (Div, tt) ∷ (Rem, tt) ∷ (Lt, tt) ∷ (Leq, tt) ∷ (Gt, tt) ∷ (Geq, tt) ∷ (Eq, tt) ∷ (Neq, tt) ∷ (Pad, tt) ∷ (AsUInt, tt) ∷ (AsSInt, tt) ∷ (Shl, tt) ∷ (Shr, tt) ∷ (Dshl, tt) ∷ (Dshr, tt) ∷ (Cvt, tt) ∷ (Neg, tt) ∷ (Not, tt) ∷ (And, tt) ∷ (Or, tt) ∷ (Xor, tt) ∷ (Andr, tt) ∷ (Orr, tt) ∷ (Xorr, tt) ∷ (Cat, tt) ∷ (Bits, tt) ∷ (Head, tt) ∷ (Tail, tt) ∷ []

-- the pieces of the format that stands first
abbrev pub pieces_in : List Piece → List PrintPiece
pieces_in (A_token kind.Text bytes ∷ ps) = quoted_pieces bytes
pieces_in _ = []

abbrev pub choose : (r : Rule) → List Piece → Option (Chosen r)
choose Text ps = Some (_, a_text)
choose Circuit_body ps = if opens ps then Some (_, some_modules) else Some (_, no_modules)
choose Modules ps = if closes ps then Some (_, last_module) else Some (_, next_module)
choose Module ps = if starts_word "public" ps then Some (_, a_public_module) else Some (_, a_module)
choose Module_body ps = if opens ps then Some (_, a_module_body) else Some (_, no_module_body)
choose Ports ps = if starts_word "input" ps then Some (_, next_port) else if starts_word "output" ps then Some (_, next_port) else Some (_, last_port)
choose Port ps = if starts_word "input" ps then Some (_, an_input) else Some (_, an_output)
choose Type_of ps = Some (_, a_type)
choose Lengths ps = if starts_mark 91 ps then Some (_, next_length) else Some (_, last_length)
choose Base_type ps = if starts_word "UInt" ps then Some (_, an_unsigned) else
    if starts_word "SInt" ps then Some (_, a_signed) else
    if starts_word "Clock" ps then Some (_, a_clock) else
    if starts_word "Reset" ps then Some (_, a_reset) else Some (_, a_bundle)
choose Width ps = if starts_mark 60 ps then Some (_, a_width) else Some (_, no_width)
choose Fields ps = if starts_mark 125 ps then Some (_, last_field) else Some (_, next_field)
choose Field ps = if starts_mark 58 (behind ps) then Some (_, plain_field) else Some (_, flipped_field)
choose Statements ps = if closes ps then Some (_, last_statement) else Some (_, next_statement)
choose Statement ps = if starts_word "wire" ps then Some (_, a_wire) else
    if starts_word "reg" ps then Some (_, a_register) else
    if starts_word "regreset" ps then Some (_, a_reset_register) else
    if starts_word "mem" ps then Some (_, a_memory) else
    if starts_word "inst" ps then Some (_, an_instance) else
    if starts_word "node" ps then Some (_, a_node) else
    if starts_word "connect" ps then Some (_, a_connect) else
    if starts_word "invalidate" ps then Some (_, an_invalidate) else
    if starts_word "when" ps then Some (_, a_when) else
    if starts_call (codes "printf") ps then Some (_, a_print) else
    if starts_call (codes "stop") ps then Some (_, a_stop) else Some (_, a_skip)
choose Printed ps = Some (_, printed (shows (pieces_in ps)))
choose Item_end ps = if starts_mark 58 ps then Some (_, with_label) else Some (_, without_label)
choose Block ps = if opens ps then Some (_, a_block) else Some (_, no_block)
choose Branches ps = if starts_word "else" ps then (if starts_mark 58 (behind ps) then Some (_, else_) else Some (_, else_when)) else Some (_, no_branch)
choose Memory_lines ps = if closes ps then Some (_, last_memory_line) else Some (_, next_memory_line)
choose Memory_line ps = if starts_word "data-type" ps then Some (_, a_data_type) else
    if starts_word "depth" ps then Some (_, a_depth) else
    if starts_word "read-latency" ps then Some (_, a_read_latency) else
    if starts_word "write-latency" ps then Some (_, a_write_latency) else
    if starts_word "read-under-write" ps then Some (_, a_read_under_write) else
    if starts_word "reader" ps then Some (_, a_reader) else
    if starts_word "writer" ps then Some (_, a_writer) else Some (_, a_readwriter)
choose Under_write ps = if starts_word "old" ps then Some (_, under_old) else if starts_word "new" ps then Some (_, under_new) else Some (_, under_undefined)
choose Expression ps =
    if starts_word "UInt" ps && starts_mark 60 (behind ps) then Some (_, a_wide_unsigned_literal)
    else if starts_word "SInt" ps && starts_mark 60 (behind ps) then Some (_, a_wide_signed_literal)
    else if starts_call (codes "mux") ps then Some (_, a_mux)
    else if starts_call (codes "UInt") ps then Some (_, an_unsigned_literal)
    else if starts_call (codes "SInt") ps then Some (_, a_signed_literal)
    else operation_in operations ps (Some (_, a_reference))
choose (Expressions zero) ps = Some (_, no_more_expressions)
choose (Expressions (suc n)) ps = Some (_, one_more_expression n)
choose (Numbers zero) ps = Some (_, no_more_numbers)
choose (Numbers (suc n)) ps = Some (_, one_more_number n)
choose Reference ps = Some (_, a_component)
choose Suffixes ps =
    if starts_mark 46 ps then Some (_, a_field_suffix)
    else if starts_mark 91 ps then (if starts_digits (behind ps) then Some (_, an_element_suffix) else Some (_, an_index_suffix))
    else Some (_, no_suffix)
choose Integer ps = if starts_mark 45 ps then Some (_, a_negative_integer) else if starts_string ps then Some (_, a_quoted_integer) else Some (_, a_plain_integer)

-- the first piece of what a terminal and more derive

record Starts (s : Terminal) (ss : List Symbol) (ps : List Piece) : Type 0 where
  piece : Piece
  others : List Piece
  is : ps ≡ piece ∷ others
  taken : Takes s piece
  more : Derives ss others

start : {k : Kept} {s : Terminal} {ss : List Symbol} {ps : List Piece} → Derives (Is k s ∷ ss) ps → Starts s ss ps
start (meets {p} {ps} h d) = record { piece = p; others = ps; is = refl; taken = h; more = d }

word_piece : (text : List ℕ) (p : Piece) → Takes (The_word text) p → p ≡ A_token kind.Word text
word_piece text (A_token kind.Word bytes) h = ap (λ (b : List ℕ). A_token kind.Word b) h
word_piece text _ h = absurd h

call_piece : (text : List ℕ) (p : Piece) → Takes (The_call text) p → p ≡ A_token kind.Call (text ++ codes "(")
call_piece text (A_token kind.Call bytes) h = ap (λ (b : List ℕ). A_token kind.Call b) h
call_piece text _ h = absurd h

mark_piece : (m : ℕ) (p : Piece) → Takes (The_mark m) p → (bytes : List ℕ) × (p ≡ A_token (kind.Mark m) bytes)
mark_piece m (A_token (kind.Mark n) bytes) h = (bytes, ap (λ (x : ℕ). A_token (kind.Mark x) bytes) h)
mark_piece m _ h = absurd h

open_piece : (p : Piece) → Takes Opens p → p ≡ A_block_opens
open_piece A_block_opens h = refl
open_piece _ h = absurd h

close_piece : (p : Piece) → Takes Closes p → p ≡ A_block_closes
close_piece A_block_closes h = refl
close_piece _ h = absurd h

record Word_first (text : List ℕ) (ss : List Symbol) (ps : List Piece) : Type 0 where
  others : List Piece
  is : ps ≡ A_token kind.Word text ∷ others
  more : Derives ss others

word_first : {k : Kept} {text : List ℕ} {ss : List Symbol} {ps : List Piece} → Derives (Is k (The_word text) ∷ ss) ps → Word_first text ss ps
word_first {text} d = let s = start d in record { others = s.others; is = s.is ∙ ap (λ (p : Piece). p ∷ s.others) (word_piece text s.piece s.taken); more = s.more }

record Call_first (text : List ℕ) (ss : List Symbol) (ps : List Piece) : Type 0 where
  others : List Piece
  is : ps ≡ A_token kind.Call (text ++ codes "(") ∷ others

call_first : {k : Kept} {text : List ℕ} {ss : List Symbol} {ps : List Piece} → Derives (Is k (The_call text) ∷ ss) ps → Call_first text ss ps
call_first {text} d = let s = start d in record { others = s.others; is = s.is ∙ ap (λ (p : Piece). p ∷ s.others) (call_piece text s.piece s.taken) }

record Mark_first (m : ℕ) (ss : List Symbol) (ps : List Piece) : Type 0 where
  bytes : List ℕ
  others : List Piece
  is : ps ≡ A_token (kind.Mark m) bytes ∷ others
  more : Derives ss others

mark_first : {k : Kept} {m : ℕ} {ss : List Symbol} {ps : List Piece} → Derives (Is k (The_mark m) ∷ ss) ps → Mark_first m ss ps
mark_first {m} d = let s = start d in let q = mark_piece m s.piece s.taken in
    record { bytes = q.0; others = s.others; is = s.is ∙ ap (λ (p : Piece). p ∷ s.others) q.1; more = s.more }

record Open_first (ps : List Piece) : Type 0 where
  others : List Piece
  is : ps ≡ A_block_opens ∷ others

open_first : {k : Kept} {ss : List Symbol} {ps : List Piece} → Derives (Is k Opens ∷ ss) ps → Open_first ps
open_first d = let s = start d in record { others = s.others; is = s.is ∙ ap (λ (p : Piece). p ∷ s.others) (open_piece s.piece s.taken) }

record Close_first (ps : List Piece) : Type 0 where
  others : List Piece
  is : ps ≡ A_block_closes ∷ others

close_first : {k : Kept} {ss : List Symbol} {ps : List Piece} → Derives (Is k Closes ∷ ss) ps → Close_first ps
close_first d = let s = start d in record { others = s.others; is = s.is ∙ ap (λ (p : Piece). p ∷ s.others) (close_piece s.piece s.taken) }

-- the rule at the front goes on by one of its cases

record Enters (r : Rule) (ss : List Symbol) (ps : List Piece) : Type 0 where
  body : List Symbol
  case : IsCase r body
  more : Derives (body ++ ss) ps

enter : {r : Rule} {ss : List Symbol} {ps : List Piece} → Derives (A r ∷ ss) ps → Enters r ss ps
enter (expands body case d) = record { body = body; case = case; more = d }

-- what doesn't begin with a piece fails its test

open_test : (ss : List Symbol) (ps : List Piece) → CannotBegin ss Opens → Front ss ps → opens ps ≡ false
open_test ss [] c f = refl
open_test ss (A_block_opens ∷ ps) c f = absurd (c.none A_block_opens ps tt f)
open_test ss (A_token k bytes ∷ ps) c f = refl
open_test ss (A_line_end ∷ ps) c f = refl
open_test ss (A_block_closes ∷ ps) c f = refl
open_test ss (The_end ∷ ps) c f = refl

mark_test_at : (ss : List Symbol) (m n : ℕ) (bytes : List ℕ) (ps : List Piece) → CannotBegin ss (The_mark m) → Front ss (A_token (kind.Mark n) bytes ∷ ps) → (b : Bool) → eqb n m ≡ b → eqb n m ≡ false
mark_test_at ss m n bytes ps c f true e = let same : n ≡ m = eqb→eq n m (rw e tt) in absurd (c.none (A_token (kind.Mark n) bytes) ps same f)
mark_test_at ss m n bytes ps c f false e = e

mark_test : (ss : List Symbol) (m : ℕ) (ps : List Piece) → CannotBegin ss (The_mark m) → Front ss ps → starts_mark m ps ≡ false
mark_test ss m (A_token (kind.Mark n) bytes ∷ ps) c f = mark_test_at ss m n bytes ps c f (eqb n m) refl
mark_test ss m _ c f = refl

else_test_at : (ss : List Symbol) (bytes : List ℕ) (ps : List Piece) → CannotBegin ss (The_word (codes "else")) → Front ss (A_token kind.Word bytes ∷ ps) → (b : Bool) → bytes_eq bytes (codes "else") ≡ b
    → bytes_eq bytes (codes "else") ≡ false
else_test_at ss bytes ps c f true e = absurd (c.none (A_token kind.Word bytes) ps ((bytes_eq-Decides bytes (codes "else")).0 e) f)
else_test_at ss bytes ps c f false e = e

else_test : (ss : List Symbol) (ps : List Piece) → CannotBegin ss (The_word (codes "else")) → Front ss ps → starts_word "else" ps ≡ false
else_test ss (A_token kind.Word bytes ∷ ps) c f = else_test_at ss bytes ps c f (bytes_eq bytes (codes "else")) refl
else_test ss _ c f = refl

and_false : (b : Bool) → (b && false) ≡ false
and_false true = refl
and_false false = refl

-- the first piece of what some rules derive

statement_open : (ss : List Symbol) (ps : List Piece) (body : List Symbol) → IsCase Statement body → Derives (body ++ ss) ps → closes ps ≡ false
statement_open ss ps _ a_wire d = ap closes (word_first d).is
statement_open ss ps _ a_register d = ap closes (word_first d).is
statement_open ss ps _ a_reset_register d = ap closes (word_first d).is
statement_open ss ps _ a_memory d = ap closes (word_first d).is
statement_open ss ps _ an_instance d = ap closes (word_first d).is
statement_open ss ps _ a_node d = ap closes (word_first d).is
statement_open ss ps _ a_connect d = ap closes (word_first d).is
statement_open ss ps _ an_invalidate d = ap closes (word_first d).is
statement_open ss ps _ a_when d = ap closes (word_first d).is
statement_open ss ps _ a_skip d = ap closes (word_first d).is
statement_open ss ps _ a_print d = ap closes (call_first d).is
statement_open ss ps _ a_stop d = ap closes (call_first d).is

module_open : (ss : List Symbol) (ps : List Piece) (body : List Symbol) → IsCase Module body → Derives (body ++ ss) ps → closes ps ≡ false
module_open ss ps _ a_module d = ap closes (word_first d).is
module_open ss ps _ a_public_module d = ap closes (word_first d).is

memory_line_open : (ss : List Symbol) (ps : List Piece) (body : List Symbol) → IsCase Memory_line body → Derives (body ++ ss) ps → closes ps ≡ false
memory_line_open ss ps _ a_data_type d = ap closes (word_first d).is
memory_line_open ss ps _ a_depth d = ap closes (word_first d).is
memory_line_open ss ps _ a_read_latency d = ap closes (word_first d).is
memory_line_open ss ps _ a_write_latency d = ap closes (word_first d).is
memory_line_open ss ps _ a_read_under_write d = ap closes (word_first d).is
memory_line_open ss ps _ a_reader d = ap closes (word_first d).is
memory_line_open ss ps _ a_writer d = ap closes (word_first d).is
memory_line_open ss ps _ a_readwriter d = ap closes (word_first d).is

statement_word : (ss : List Symbol) (ps : List Piece) (body : List Symbol) → IsCase Statement body → Derives (body ++ ss) ps → (starts_word "input" ps ≡ false) × (starts_word "output" ps ≡ false)
statement_word ss ps _ a_wire d = (ap (starts_word "input") (word_first d).is, ap (starts_word "output") (word_first d).is)
statement_word ss ps _ a_register d = (ap (starts_word "input") (word_first d).is, ap (starts_word "output") (word_first d).is)
statement_word ss ps _ a_reset_register d = (ap (starts_word "input") (word_first d).is, ap (starts_word "output") (word_first d).is)
statement_word ss ps _ a_memory d = (ap (starts_word "input") (word_first d).is, ap (starts_word "output") (word_first d).is)
statement_word ss ps _ an_instance d = (ap (starts_word "input") (word_first d).is, ap (starts_word "output") (word_first d).is)
statement_word ss ps _ a_node d = (ap (starts_word "input") (word_first d).is, ap (starts_word "output") (word_first d).is)
statement_word ss ps _ a_connect d = (ap (starts_word "input") (word_first d).is, ap (starts_word "output") (word_first d).is)
statement_word ss ps _ an_invalidate d = (ap (starts_word "input") (word_first d).is, ap (starts_word "output") (word_first d).is)
statement_word ss ps _ a_when d = (ap (starts_word "input") (word_first d).is, ap (starts_word "output") (word_first d).is)
statement_word ss ps _ a_skip d = (ap (starts_word "input") (word_first d).is, ap (starts_word "output") (word_first d).is)
statement_word ss ps _ a_print d = (ap (starts_word "input") (call_first d).is, ap (starts_word "output") (call_first d).is)
statement_word ss ps _ a_stop d = (ap (starts_word "input") (call_first d).is, ap (starts_word "output") (call_first d).is)

statements_word : (ss : List Symbol) (ps : List Piece) (body : List Symbol) → IsCase Statements body → Derives (body ++ ss) ps → (starts_word "input" ps ≡ false) × (starts_word "output" ps ≡ false)
statements_word ss ps _ last_statement d = (ap (starts_word "input") (close_first d).is, ap (starts_word "output") (close_first d).is)
statements_word ss ps _ next_statement d = let e = enter d in statement_word (A Statements ∷ ss) ps e.body e.case e.more

port_chosen : (ss : List Symbol) (ps : List Piece) (body : List Symbol) → IsCase Port body → Derives (body ++ ss) ps → choose Ports ps ≡ Some (_, next_port)
port_chosen ss ps _ an_input d = ap (choose Ports) (word_first d).is
port_chosen ss ps _ an_output d = ap (choose Ports) (word_first d).is

-- neither a bracket nor a digit begins a name
field_piece : (p : Piece) → Takes A_field p → (m : ℕ) (ps : List Piece) → starts_mark m (p ∷ ps) ≡ false
field_piece (A_token kind.Word bytes) h m ps = refl
field_piece (A_token kind.Quoted bytes) h m ps = refl
field_piece (A_token kind.Digits bytes) h m ps = refl
field_piece (A_token kind.Call bytes) h m ps = absurd h
field_piece (A_token kind.Text bytes) h m ps = absurd h
field_piece (A_token kind.Arrow bytes) h m ps = absurd h
field_piece (A_token (kind.Mark n) bytes) h m ps = absurd h
field_piece A_line_end h m ps = absurd h
field_piece A_block_opens h m ps = absurd h
field_piece A_block_closes h m ps = absurd h
field_piece The_end h m ps = absurd h

field_mark : (ss : List Symbol) (ps : List Piece) (m : ℕ) (body : List Symbol) → IsCase Field body → Derives (body ++ ss) ps → starts_mark m ps ≡ false
field_mark ss ps m _ plain_field d = let s = start d in ap (starts_mark m) s.is ∙ field_piece s.piece s.taken m s.others
field_mark ss ps m _ flipped_field d = ap (starts_mark m) (word_first d).is

digits_piece : (p : Piece) → Takes A_number p → (bytes : List ℕ) × (p ≡ A_token kind.Digits bytes)
digits_piece (A_token kind.Digits bytes) h = (bytes, refl)
digits_piece _ h = absurd h

-- the pieces of a format, as many shown as it says
record Format_first (n : ℕ) (ps : List Piece) : Type 0 where
  bytes : List ℕ
  others : List Piece
  is : ps ≡ A_token kind.Text bytes ∷ others
  many : shows (quoted_pieces bytes) ≡ n

format_piece : (n : ℕ) (p : Piece) → Takes (A_format n) p → (bytes : List ℕ) × (p ≡ A_token kind.Text bytes) × (shows (quoted_pieces bytes) ≡ n)
format_piece n (A_token kind.Text bytes) h = (bytes, refl, ap shows (quoted_pieces_are bytes h.1) ∙ h.2)
format_piece n _ h = absurd h

format_first : {k : Kept} {n : ℕ} {ss : List Symbol} {ps : List Piece} → Derives (Is k (A_format n) ∷ ss) ps → Format_first n ps
format_first {n} d = let s = start d in let q = format_piece n s.piece s.taken in
    record { bytes = q.0; others = s.others; is = s.is ∙ ap (λ (p : Piece). p ∷ s.others) q.1; many = q.2 }

line_piece : (p : Piece) → Takes Line_ends p → p ≡ A_line_end
line_piece A_line_end h = refl
line_piece _ h = absurd h

record Line_first (ps : List Piece) : Type 0 where
  others : List Piece
  is : ps ≡ A_line_end ∷ others

line_first : {k : Kept} {ss : List Symbol} {ps : List Piece} → Derives (Is k Line_ends ∷ ss) ps → Line_first ps
line_first d = let s = start d in record { others = s.others; is = s.is ∙ ap (λ (p : Piece). p ∷ s.others) (line_piece s.piece s.taken) }

string_piece : (p : Piece) → Takes A_quoted_number p → (bytes : List ℕ) × (p ≡ A_token kind.Text bytes)
string_piece (A_token kind.Text bytes) h = (bytes, refl)
string_piece _ h = absurd h

record Digits_first (ss : List Symbol) (ps : List Piece) : Type 0 where
  bytes : List ℕ
  others : List Piece
  is : ps ≡ A_token kind.Digits bytes ∷ others

digits_first : {k : Kept} {ss : List Symbol} {ps : List Piece} → Derives (Is k A_number ∷ ss) ps → Digits_first ss ps
digits_first d = let s = start d in let q = digits_piece s.piece s.taken in record { bytes = q.0; others = s.others; is = s.is ∙ ap (λ (p : Piece). p ∷ s.others) q.1 }

record String_first (ss : List Symbol) (ps : List Piece) : Type 0 where
  bytes : List ℕ
  others : List Piece
  is : ps ≡ A_token kind.Text bytes ∷ others

string_first : {k : Kept} {ss : List Symbol} {ps : List Piece} → Derives (Is k A_quoted_number ∷ ss) ps → String_first ss ps
string_first d = let s = start d in let q = string_piece s.piece s.taken in record { bytes = q.0; others = s.others; is = s.is ∙ ap (λ (p : Piece). p ∷ s.others) q.1 }

name_piece : (p : Piece) → Takes A_name p → (ps : List Piece) → starts_digits (p ∷ ps) ≡ false
name_piece (A_token kind.Word bytes) h ps = refl
name_piece (A_token kind.Quoted bytes) h ps = refl
name_piece (A_token kind.Call bytes) h ps = absurd h
name_piece (A_token kind.Digits bytes) h ps = absurd h
name_piece (A_token kind.Text bytes) h ps = absurd h
name_piece (A_token kind.Arrow bytes) h ps = absurd h
name_piece (A_token (kind.Mark n) bytes) h ps = absurd h
name_piece A_line_end h ps = absurd h
name_piece A_block_opens h ps = absurd h
name_piece A_block_closes h ps = absurd h
name_piece The_end h ps = absurd h

reference_digits : (ss : List Symbol) (ps : List Piece) (body : List Symbol) → IsCase Reference body → Derives (body ++ ss) ps → starts_digits ps ≡ false
reference_digits ss ps _ a_component d = let s = start d in ap starts_digits s.is ∙ name_piece s.piece s.taken s.others

expression_digits : (ss : List Symbol) (ps : List Piece) (body : List Symbol) → IsCase Expression body → Derives (body ++ ss) ps → starts_digits ps ≡ false
expression_digits ss ps _ a_reference d = let e = enter d in reference_digits ss ps e.body e.case e.more
expression_digits ss ps _ a_mux d = ap starts_digits (call_first d).is
expression_digits ss ps _ (an_operation prim written) d = ap starts_digits (call_first d).is
expression_digits ss ps _ an_unsigned_literal d = ap starts_digits (call_first d).is
expression_digits ss ps _ a_signed_literal d = ap starts_digits (call_first d).is
expression_digits ss ps _ a_wide_unsigned_literal d = ap starts_digits (word_first d).is
expression_digits ss ps _ a_wide_signed_literal d = ap starts_digits (word_first d).is

-- an operation is found by its name
pub operation_chosen : (prim : PrimOp) (written : IsWritten prim) (ps : List Piece) → choose Expression (A_token kind.Call (name_of prim ++ codes "(") ∷ ps) ≡ Some (_, an_operation prim written)
operation_chosen Add written ps = refl
operation_chosen Sub written ps = refl
operation_chosen Mul written ps = refl
operation_chosen Div written ps = refl
operation_chosen Rem written ps = refl
operation_chosen Lt written ps = refl
operation_chosen Leq written ps = refl
operation_chosen Gt written ps = refl
operation_chosen Geq written ps = refl
operation_chosen Eq written ps = refl
operation_chosen Neq written ps = refl
operation_chosen Pad written ps = refl
operation_chosen AsUInt written ps = refl
operation_chosen AsSInt written ps = refl
operation_chosen Shl written ps = refl
operation_chosen Shr written ps = refl
operation_chosen Dshl written ps = refl
operation_chosen Dshr written ps = refl
operation_chosen Cvt written ps = refl
operation_chosen Neg written ps = refl
operation_chosen Not written ps = refl
operation_chosen And written ps = refl
operation_chosen Or written ps = refl
operation_chosen Xor written ps = refl
operation_chosen Andr written ps = refl
operation_chosen Orr written ps = refl
operation_chosen Xorr written ps = refl
operation_chosen Cat written ps = refl
operation_chosen Bits written ps = refl
operation_chosen Head written ps = refl
operation_chosen Tail written ps = refl
operation_chosen AsAsyncReset written ps = absurd written
operation_chosen ShrFour written ps = absurd written

-- a name begins a reference where no `<` follows
reference_piece : (p : Piece) → Takes A_name p → (ps : List Piece) → starts_mark 60 ps ≡ false → choose Expression (p ∷ ps) ≡ Some (_, a_reference)
reference_piece (A_token kind.Word bytes) h ps e = rw (e, and_false (bytes_eq bytes (codes "UInt")), and_false (bytes_eq bytes (codes "SInt"))) refl
reference_piece (A_token kind.Quoted bytes) h ps e = refl
reference_piece (A_token kind.Call bytes) h ps e = absurd h
reference_piece (A_token kind.Digits bytes) h ps e = absurd h
reference_piece (A_token kind.Text bytes) h ps e = absurd h
reference_piece (A_token kind.Arrow bytes) h ps e = absurd h
reference_piece (A_token (kind.Mark n) bytes) h ps e = absurd h
reference_piece A_line_end h ps e = absurd h
reference_piece A_block_opens h ps e = absurd h
reference_piece A_block_closes h ps e = absurd h
reference_piece The_end h ps e = absurd h

suffixes_less : (ss : List Symbol) (ps : List Piece) → CannotBegin ss (The_mark 60) → (body : List Symbol) → IsCase Suffixes body → Derives (body ++ ss) ps → starts_mark 60 ps ≡ false
suffixes_less ss ps c _ no_suffix d = mark_test ss 60 ps c (Derives-whole d)
suffixes_less ss ps c _ a_field_suffix d = ap (starts_mark 60) (mark_first d).is
suffixes_less ss ps c _ an_element_suffix d = ap (starts_mark 60) (mark_first d).is
suffixes_less ss ps c _ an_index_suffix d = ap (starts_mark 60) (mark_first d).is

reference_chosen : (ss : List Symbol) (ps : List Piece) → CannotBegin ss (The_mark 60) → (body : List Symbol) → IsCase Reference body → Derives (body ++ ss) ps → choose Expression ps ≡ Some (_, a_reference)
reference_chosen ss ps c _ a_component d =
    let s = start d in let e = enter s.more in
    ap (choose Expression) s.is ∙ reference_piece s.piece s.taken s.others (suffixes_less ss s.others c e.body e.case e.more)

abbrev printed_case : ℕ → Option (Chosen Printed)
printed_case n = Some (_, printed n)

-- a list that a case derives is one that the case is chosen for
pub chooses : {r : Rule} {body : List Symbol} (ss : List Symbol) (ps : List Piece) → IsSettled (A r ∷ ss) → (case : IsCase r body) → Derives (body ++ ss) ps → choose r ps ≡ Some (body, case)
chooses ss ps h a_text d = refl
chooses ss ps h no_modules d = rw (open_test ss ps h.0.0 (Derives-whole d)) refl
chooses ss ps h some_modules d = ap (choose Circuit_body) (open_first d).is
chooses ss ps h last_module d = ap (choose Modules) (close_first d).is
chooses ss ps h next_module d = let e = enter d in rw (module_open (A Modules ∷ ss) ps e.body e.case e.more) refl
chooses ss ps h a_module d = ap (choose Module) (word_first d).is
chooses ss ps h a_public_module d = ap (choose Module) (word_first d).is
chooses ss ps h no_module_body d = rw (open_test ss ps h.0.0 (Derives-whole d)) refl
chooses ss ps h a_module_body d = ap (choose Module_body) (open_first d).is
chooses ss ps h next_port d = let e = enter d in port_chosen _ ps e.body e.case e.more
chooses ss ps h last_port d = let e = enter d in let w = statements_word ss ps e.body e.case e.more in rw (w.0, w.1) refl
chooses ss ps h an_input d = ap (choose Port) (word_first d).is
chooses ss ps h an_output d = ap (choose Port) (word_first d).is
chooses ss ps h a_type d = refl
chooses ss ps h last_length d = rw (mark_test ss 91 ps h.0.0 (Derives-whole d)) refl
chooses ss ps h next_length d = ap (choose Lengths) (mark_first d).is
chooses ss ps h an_unsigned d = ap (choose Base_type) (word_first d).is
chooses ss ps h a_signed d = ap (choose Base_type) (word_first d).is
chooses ss ps h a_clock d = ap (choose Base_type) (word_first d).is
chooses ss ps h a_reset d = ap (choose Base_type) (word_first d).is
chooses ss ps h a_bundle d = ap (choose Base_type) (mark_first d).is
chooses ss ps h no_width d = rw (mark_test ss 60 ps h.0.0 (Derives-whole d)) refl
chooses ss ps h a_width d = ap (choose Width) (mark_first d).is
chooses ss ps h last_field d = ap (choose Fields) (mark_first d).is
chooses ss ps h next_field d = let e = enter d in rw (field_mark (A Fields ∷ ss) ps 125 e.body e.case e.more) refl
chooses ss ps h plain_field d = let s = start d in let m = mark_first s.more in ap (choose Field) (s.is ∙ ap (λ (qs : List Piece). s.piece ∷ qs) m.is)
chooses ss ps h flipped_field d =
    let w = word_first d in let s = start w.more in
    ap (choose Field) (w.is ∙ ap (λ (qs : List Piece). A_token kind.Word (codes "flip") ∷ qs) s.is) ∙ rw (field_piece s.piece s.taken 58 s.others) refl
chooses ss ps h last_statement d = ap (choose Statements) (close_first d).is
chooses ss ps h next_statement d = let e = enter d in rw (statement_open (A Statements ∷ ss) ps e.body e.case e.more) refl
chooses ss ps h a_wire d = ap (choose Statement) (word_first d).is
chooses ss ps h a_register d = ap (choose Statement) (word_first d).is
chooses ss ps h a_reset_register d = ap (choose Statement) (word_first d).is
chooses ss ps h a_memory d = ap (choose Statement) (word_first d).is
chooses ss ps h an_instance d = ap (choose Statement) (word_first d).is
chooses ss ps h a_node d = ap (choose Statement) (word_first d).is
chooses ss ps h a_connect d = ap (choose Statement) (word_first d).is
chooses ss ps h an_invalidate d = ap (choose Statement) (word_first d).is
chooses ss ps h a_when d = ap (choose Statement) (word_first d).is
chooses ss ps h a_skip d = ap (choose Statement) (word_first d).is
chooses ss ps h a_print d = ap (choose Statement) (call_first d).is
chooses ss ps h a_stop d = ap (choose Statement) (call_first d).is
chooses ss ps h (printed n) d = let f = format_first d in ap printed_case (ap (λ (qs : List Piece). shows (pieces_in qs)) f.is ∙ f.many)
chooses ss ps h without_label d = ap (choose Item_end) (line_first d).is
chooses ss ps h with_label d = ap (choose Item_end) (mark_first d).is
chooses ss ps h no_branch d = rw (else_test ss ps h.0.0 (Derives-whole d)) refl
chooses ss ps h else_when d = let w = word_first d in let v = word_first w.more in ap (choose Branches) (w.is ∙ ap (λ (qs : List Piece). A_token kind.Word (codes "else") ∷ qs) v.is)
chooses ss ps h else_ d = let w = word_first d in let v = mark_first w.more in ap (choose Branches) (w.is ∙ ap (λ (qs : List Piece). A_token kind.Word (codes "else") ∷ qs) v.is)
chooses ss ps h no_block d = rw (open_test ss ps h.0.0 (Derives-whole d)) refl
chooses ss ps h a_block d = ap (choose Block) (open_first d).is
chooses ss ps h last_memory_line d = ap (choose Memory_lines) (close_first d).is
chooses ss ps h next_memory_line d = let e = enter d in rw (memory_line_open _ ps e.body e.case e.more) refl
chooses ss ps h a_data_type d = ap (choose Memory_line) (word_first d).is
chooses ss ps h a_depth d = ap (choose Memory_line) (word_first d).is
chooses ss ps h a_read_latency d = ap (choose Memory_line) (word_first d).is
chooses ss ps h a_write_latency d = ap (choose Memory_line) (word_first d).is
chooses ss ps h a_read_under_write d = ap (choose Memory_line) (word_first d).is
chooses ss ps h a_reader d = ap (choose Memory_line) (word_first d).is
chooses ss ps h a_writer d = ap (choose Memory_line) (word_first d).is
chooses ss ps h a_readwriter d = ap (choose Memory_line) (word_first d).is
chooses ss ps h under_old d = ap (choose Under_write) (word_first d).is
chooses ss ps h under_new d = ap (choose Under_write) (word_first d).is
chooses ss ps h under_undefined d = ap (choose Under_write) (word_first d).is
chooses ss ps h a_reference d = let e = enter d in reference_chosen ss ps h.0.1.1.0 e.body e.case e.more
chooses ss ps h a_mux d = ap (choose Expression) (call_first d).is
chooses ss ps h (an_operation prim written) d = let c = call_first d in ap (choose Expression) c.is ∙ operation_chosen prim written c.others
chooses ss ps h no_more_expressions d = refl
chooses ss ps h (one_more_expression n) d = refl
chooses ss ps h no_more_numbers d = refl
chooses ss ps h (one_more_number n) d = refl
chooses ss ps h a_component d = refl
chooses ss ps h no_suffix d = let f = Derives-whole d in rw (mark_test ss 46 ps h.0.0 f, mark_test ss 91 ps h.0.1.0 f) refl
chooses ss ps h a_field_suffix d = ap (choose Suffixes) (mark_first d).is
chooses ss ps h an_element_suffix d =
    let m = mark_first d in let n = digits_first m.more in ap (choose Suffixes) (m.is ∙ ap (λ (qs : List Piece). A_token (kind.Mark 91) m.bytes ∷ qs) n.is)
chooses ss ps h an_index_suffix d =
    let m = mark_first d in let e = enter m.more in
    ap (choose Suffixes) m.is ∙ rw (expression_digits _ m.others e.body e.case e.more) refl
chooses ss ps h an_unsigned_literal d = ap (choose Expression) (call_first d).is
chooses ss ps h a_signed_literal d = ap (choose Expression) (call_first d).is
chooses ss ps h a_wide_unsigned_literal d = let w = word_first d in let m = mark_first w.more in ap (choose Expression) (w.is ∙ ap (λ (qs : List Piece). A_token kind.Word (codes "UInt") ∷ qs) m.is)
chooses ss ps h a_wide_signed_literal d = let w = word_first d in let m = mark_first w.more in ap (choose Expression) (w.is ∙ ap (λ (qs : List Piece). A_token kind.Word (codes "SInt") ∷ qs) m.is)
chooses ss ps h a_plain_integer d = ap (choose Integer) (digits_first d).is
chooses ss ps h a_negative_integer d = ap (choose Integer) (mark_first d).is
chooses ss ps h a_quoted_integer d = ap (choose Integer) (string_first d).is

pub some_injective : {X : Type 0} {x y : X} → Some x ≡ Some y → x ≡ y
some_injective {X} {x} {y} e = ap (λ (o : Option X). unwrap_or o x) e

-- where two cases of a rule derive one list, they are one case
pub same_case : {r : Rule} {body other : List Symbol} (ss : List Symbol) (ps : List Piece) → IsSettled (A r ∷ ss) → (a : IsCase r body) → (b : IsCase r other)
    → Derives (body ++ ss) ps → Derives (other ++ ss) ps → Path (Chosen r) (body, a) (other, b)
same_case ss ps h a b d e = some_injective (sym (chooses ss ps h a d) ∙ chooses ss ps h b e)
