-- Every front goes on to a list that is derived.
use Rattle.std.proofs.Common.{◌≡◌, ℕ, zero, suc, false, List, [], ◌∷◌, ◌++◌, refl, append_assoc, codes, arith, inl}
use Rattle.bit_words.specs.declared.number.Base.TheVariants.{Hexadecimal}
use Rattle.bit_words.specs.Numbers.{plain}
use Rattle.fir_lexer.specs.declared.token.TokenKind.TheVariants as kind
use Rattle.item_lines.specs.Formats.{quoted}
use Rattle.item_lines.proofs.Formats.{shown_format, shown_pieces, shown_is, shown_many}
use Rattle.fir_layout.specs.Pieces.{Piece, A_token, A_line_end, A_block_opens, A_block_closes, The_end}
use Rattle.fir_grammar.specs.Grammar.{Terminal, The_word, The_call, A_name, A_field, A_number, A_major, A_quoted_number, A_format, The_mark, The_arrow, Line_ends, Opens, Closes, Ends, Takes, quoted as number_quoted, Kept, Symbol, Is, A, Rule, Text, Circuit_body, Modules, Module, Module_body, Ports, Port, Type_of, Lengths, Base_type, Width, Fields, Field, Statements, Statement, Printed, Item_end, Block, Branches, Memory_lines, Memory_line, Under_write, Expression, Expressions, Numbers, Reference, Suffixes, Integer, IsCase, a_text, no_modules, last_module, a_module, no_module_body, last_port, an_input, a_type, last_length, a_clock, no_width, last_field, plain_field, last_statement, a_skip, printed, without_label, no_branch, no_block, last_memory_line, a_depth, under_old, a_reference, no_more_expressions, one_more_expression, no_more_numbers, one_more_number, a_component, no_suffix, a_plain_integer, Derives, done, meets, expands, Front, cut, takes_on, goes_into}

-- what symbols derive one behind the other
Derives-append : {ss others : List Symbol} {ps qs : List Piece} → Derives ss ps → Derives others qs → Derives (ss ++ others) (ps ++ qs)
Derives-append done d = d
Derives-append (meets h more) d = meets h (Derives-append more d)
Derives-append {others} (expands {ss} body case more) d = expands body case (rw (append_assoc body ss others) at (Derives-append more d))

record Somewhere (ss : List Symbol) : Type 0 where
  pieces : List Piece
  derives : Derives ss pieces

some_piece : (s : Terminal) → (p : Piece) × Takes s p
some_piece (The_word bytes) = (A_token kind.Word bytes, refl)
some_piece (The_call bytes) = (A_token kind.Call (bytes ++ codes "("), refl)
some_piece A_name = (A_token kind.Word (codes "a"), tt)
some_piece A_field = (A_token kind.Word (codes "a"), tt)
some_piece A_number = (A_token kind.Digits (codes "3"), (3, plain (record { some = omega arith; digits = (omega arith, tt); value = refl })))
some_piece A_major = (A_token kind.Digits (codes "3"), inl (plain (record { some = omega arith; digits = (omega arith, tt); value = refl })))
some_piece (A_format n) = (A_token kind.Text (34 ∷ (shown_format n ++ 34 ∷ [])), (shown_pieces n, quoted _ refl (shown_is n), shown_many n))
some_piece A_quoted_number =
    (A_token kind.Text (codes "\"h3\""), (false, 3, number_quoted Hexadecimal (codes "3") (λ e. cc) refl refl (record { some = omega arith; digits = (omega arith, tt); value = refl })))
some_piece (The_mark m) = (A_token (kind.Mark m) (m ∷ []), refl)
some_piece The_arrow = (A_token kind.Arrow (codes "=>"), tt)
some_piece Line_ends = (A_line_end, tt)
some_piece Opens = (A_block_opens, tt)
some_piece Closes = (A_block_closes, tt)
some_piece Ends = (The_end, tt)

with_piece : (k : Kept) (s : Terminal) (ss : List Symbol) → Somewhere ss → Somewhere (Is k s ∷ ss)
with_piece k s ss d = let p = some_piece s in record { pieces = p.0 ∷ d.pieces; derives = meets p.1 d.derives }

with_rule : (r : Rule) (ss : List Symbol) → Somewhere (A r ∷ []) → Somewhere ss → Somewhere (A r ∷ ss)
with_rule r ss a b = record { pieces = a.pieces ++ b.pieces; derives = Derives-append a.derives b.derives }

-- the symbols of a case, where each of its rules derives something
abbrev Parts : List Symbol → Type 0
Parts [] = Unit {0}
Parts (Is k s ∷ ss) = Parts ss
Parts (A r ∷ ss) = Somewhere (A r ∷ []) × Parts ss

all_parts : (ss : List Symbol) → Parts ss → Somewhere ss
all_parts [] p = record { pieces = []; derives = done }
all_parts (Is k s ∷ ss) p = with_piece k s ss (all_parts ss p)
all_parts (A r ∷ ss) p = with_rule r ss p.0 (all_parts ss p.1)

append_nil : (ss : List Symbol) → ss ++ [] ≡ ss
append_nil [] = refl
append_nil (s ∷ ss) = rw (append_nil ss) refl

by_case : {r : Rule} {body : List Symbol} → IsCase r body → Parts body → Somewhere (A r ∷ [])
by_case {body} case p = let d = all_parts body p in record { pieces = d.pieces; derives = expands body case (rw (append_nil body) d.derives) }

a_type_somewhere : Somewhere (A Type_of ∷ [])
a_type_somewhere = by_case a_type (by_case a_clock tt, (by_case last_length tt, tt))

a_reference_somewhere : Somewhere (A Reference ∷ [])
a_reference_somewhere = by_case a_component (by_case no_suffix tt, tt)

an_expression_somewhere : Somewhere (A Expression ∷ [])
an_expression_somewhere = by_case a_reference (a_reference_somewhere, tt)

expressions_somewhere : (n : ℕ) → Somewhere (A (Expressions n) ∷ [])
expressions_somewhere zero = by_case no_more_expressions tt
expressions_somewhere (suc n) = by_case (one_more_expression n) (an_expression_somewhere, (expressions_somewhere n, tt))

numbers_somewhere : (n : ℕ) → Somewhere (A (Numbers n) ∷ [])
numbers_somewhere zero = by_case no_more_numbers tt
numbers_somewhere (suc n) = by_case (one_more_number n) (numbers_somewhere n, tt)

some_list : (r : Rule) → Somewhere (A r ∷ [])
some_list Text = by_case a_text (by_case no_modules tt, tt)
some_list Circuit_body = by_case no_modules tt
some_list Modules = by_case last_module tt
some_list Module = by_case a_module (by_case no_module_body tt, tt)
some_list Module_body = by_case no_module_body tt
some_list Ports = by_case last_port (by_case last_statement tt, tt)
some_list Port = by_case an_input (a_type_somewhere, tt)
some_list Type_of = a_type_somewhere
some_list Lengths = by_case last_length tt
some_list Base_type = by_case a_clock tt
some_list Width = by_case no_width tt
some_list Fields = by_case last_field tt
some_list Field = by_case plain_field (a_type_somewhere, tt)
some_list Statements = by_case last_statement tt
some_list Statement = by_case a_skip tt
some_list Printed = by_case (printed 0) (by_case no_more_expressions tt, tt)
some_list Item_end = by_case without_label tt
some_list Block = by_case no_block tt
some_list Branches = by_case no_branch tt
some_list Memory_lines = by_case last_memory_line tt
some_list Memory_line = by_case a_depth tt
some_list Under_write = by_case under_old tt
some_list Expression = an_expression_somewhere
some_list (Expressions n) = expressions_somewhere n
some_list (Numbers n) = numbers_somewhere n
some_list Reference = a_reference_somewhere
some_list Suffixes = by_case no_suffix tt
some_list Integer = by_case a_plain_integer tt

somewhere : (ss : List Symbol) → Somewhere ss
somewhere [] = record { pieces = []; derives = done }
somewhere (Is k s ∷ ss) = with_piece k s ss (somewhere ss)
somewhere (A r ∷ ss) = with_rule r ss (some_list r) (somewhere ss)

pub Front-completes : {ss : List Symbol} {ps : List Piece} → Front ss ps → (qs : List Piece) × Derives ss (ps ++ qs)
Front-completes {ss} cut = let d = somewhere ss in (d.pieces, d.derives)
Front-completes (takes_on h f) = let d = Front-completes f in (d.0, meets h d.1)
Front-completes (goes_into body case f) = let d = Front-completes f in (d.0, expands body case d.1)
