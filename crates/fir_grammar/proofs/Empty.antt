-- Which symbols derive no pieces: rules that have an empty case.
use Prim.Native.String.{String}
use Rattle.std.proofs.Common.{◌≡◌, ℕ, zero, Bool, true, false, ◌&&◌, if◌then◌else◌, List, [], ◌∷◌, ◌++◌, Option, Some, None, refl, subst, codes, eqb→eq, ◌⊎◌, inl, inr}
use Rattle.std.proofs.lemmas.Slice.Eq.{bytes_eq-Decides}
use Rattle.fir_lexer.specs.declared.token.TokenKind.TheVariants as kind
use Rattle.fir_layout.specs.Pieces.{Piece, A_token, A_block_opens}
use Rattle.fir_grammar.specs.Grammar.{The_word, The_mark, Takes, Terminal, Kept, Symbol, Is, A, Rule, Circuit_body, Module_body, Lengths, Width, Block, Branches, Expressions, Numbers, Suffixes, IsCase, a_text, no_modules, some_modules, last_module, next_module, a_module, a_public_module, no_module_body, a_module_body, next_port, last_port, an_input, an_output, a_type, last_length, next_length, an_unsigned, a_signed, a_clock, a_reset, a_bundle, no_width, a_width, last_field, next_field, plain_field, flipped_field, last_statement, next_statement, a_wire, a_print, printed, a_stop, without_label, with_label, a_register, a_reset_register, a_memory, an_instance, a_node, a_connect, an_invalidate, a_when, a_skip, no_branch, else_when, else_, no_block, a_block, last_memory_line, next_memory_line, a_data_type, a_depth, a_read_latency, a_write_latency, a_read_under_write, under_old, under_new, under_undefined, a_reader, a_writer, a_readwriter, a_reference, a_mux, an_operation, no_more_expressions, one_more_expression, no_more_numbers, one_more_number, a_component, no_suffix, a_field_suffix, an_element_suffix, an_index_suffix, an_unsigned_literal, a_signed_literal, a_wide_unsigned_literal, a_wide_signed_literal, a_plain_integer, a_negative_integer, a_quoted_integer, Derives, done, meets, expands, Front, cut, takes_on}
use Rattle.fir_grammar.proofs.Cases.{Chosen, choose, starts_mark, starts_word}

pub no_piece : {k : Kept} {s : Terminal} {ss : List Symbol} → ¬ (Derives (Is k s ∷ ss) [])
no_piece d = elim d [ ]

abbrev has_empty : Rule → Bool
has_empty Circuit_body = true
has_empty Module_body = true
has_empty Lengths = true
has_empty Width = true
has_empty Block = true
has_empty Branches = true
has_empty (Expressions zero) = true
has_empty (Numbers zero) = true
has_empty Suffixes = true
has_empty _ = false

empty_case : {r : Rule} → IsCase r [] → has_empty r ≡ true
empty_case no_modules = refl
empty_case no_module_body = refl
empty_case last_length = refl
empty_case no_width = refl
empty_case no_branch = refl
empty_case no_block = refl
empty_case no_more_expressions = refl
empty_case no_more_numbers = refl
empty_case no_suffix = refl

-- rules that have an empty case, and nothing else
abbrev all_empty : List Symbol → Bool
all_empty [] = true
all_empty (Is k s ∷ ss) = false
all_empty (A r ∷ ss) = has_empty r && all_empty ss

empty_body : {r : Rule} {body : List Symbol} → IsCase r body → (ss : List Symbol) → all_empty (body ++ ss) ≡ true → body ≡ []
empty_body a_text ss h = cc
empty_body no_modules ss h = refl
empty_body some_modules ss h = cc
empty_body last_module ss h = cc
empty_body next_module ss h = cc
empty_body a_module ss h = cc
empty_body a_public_module ss h = cc
empty_body no_module_body ss h = refl
empty_body a_module_body ss h = cc
empty_body next_port ss h = cc
empty_body last_port ss h = cc
empty_body an_input ss h = cc
empty_body an_output ss h = cc
empty_body a_type ss h = cc
empty_body last_length ss h = refl
empty_body next_length ss h = cc
empty_body an_unsigned ss h = cc
empty_body a_signed ss h = cc
empty_body a_clock ss h = cc
empty_body a_reset ss h = cc
empty_body a_bundle ss h = cc
empty_body no_width ss h = refl
empty_body a_width ss h = cc
empty_body last_field ss h = cc
empty_body next_field ss h = cc
empty_body plain_field ss h = cc
empty_body flipped_field ss h = cc
empty_body last_statement ss h = cc
empty_body next_statement ss h = cc
empty_body a_wire ss h = cc
empty_body a_register ss h = cc
empty_body a_reset_register ss h = cc
empty_body a_memory ss h = cc
empty_body an_instance ss h = cc
empty_body a_node ss h = cc
empty_body a_connect ss h = cc
empty_body an_invalidate ss h = cc
empty_body a_when ss h = cc
empty_body a_skip ss h = cc
empty_body a_print ss h = cc
empty_body (printed n) ss h = cc
empty_body a_stop ss h = cc
empty_body without_label ss h = cc
empty_body with_label ss h = cc
empty_body no_branch ss h = refl
empty_body else_when ss h = cc
empty_body else_ ss h = cc
empty_body no_block ss h = refl
empty_body a_block ss h = cc
empty_body last_memory_line ss h = cc
empty_body next_memory_line ss h = cc
empty_body a_data_type ss h = cc
empty_body a_depth ss h = cc
empty_body a_read_latency ss h = cc
empty_body a_write_latency ss h = cc
empty_body a_read_under_write ss h = cc
empty_body under_old ss h = cc
empty_body under_new ss h = cc
empty_body under_undefined ss h = cc
empty_body a_reader ss h = cc
empty_body a_writer ss h = cc
empty_body a_readwriter ss h = cc
empty_body a_reference ss h = cc
empty_body a_mux ss h = cc
empty_body (an_operation prim written) ss h = cc
empty_body no_more_expressions ss h = refl
empty_body no_more_numbers ss h = refl
empty_body a_component ss h = cc
empty_body no_suffix ss h = refl
empty_body a_field_suffix ss h = cc
empty_body an_element_suffix ss h = cc
empty_body an_index_suffix ss h = cc
empty_body an_unsigned_literal ss h = cc
empty_body a_signed_literal ss h = cc
empty_body a_wide_unsigned_literal ss h = cc
empty_body a_wide_signed_literal ss h = cc
empty_body a_plain_integer ss h = cc
empty_body a_negative_integer ss h = cc
empty_body a_quoted_integer ss h = cc
empty_body (one_more_expression n) ss h = cc
empty_body (one_more_number n) ss h = cc

with_empty : {r : Rule} {body : List Symbol} → IsCase r body → (ss : List Symbol) → body ≡ [] → all_empty (body ++ ss) ≡ true → (has_empty r && all_empty ss) ≡ true
with_empty {r} case ss e h = let P : List Symbol → Type 0 = λ b. IsCase r b in let has : has_empty r ≡ true = empty_case (subst P e case) in let Q : List Symbol → Type 0 = λ b. all_empty (b ++ ss) ≡ true in rw has (subst Q e h)

derives_none : {ss : List Symbol} {ps : List Piece} → Derives ss ps → ps ≡ [] → all_empty ss ≡ true
derives_none done e = refl
derives_none (meets h d) e = cc
derives_none (expands {ss} body case d) e = let h = derives_none d e in with_empty case ss (empty_body case ss h) h

-- a rule that derives no pieces has an empty case, and what stands behind it derives none
pub empty_rule : {r : Rule} {rest : List Symbol} → Derives (A r ∷ rest) [] → IsCase r [] × Derives rest []
empty_rule {r} {rest} (expands body case d) =
    let e : body ≡ [] = empty_body case rest (derives_none d refl) in
    let P : List Symbol → Type 0 = λ b. IsCase r b in
    let Q : List Symbol → Type 0 = λ b. Derives (b ++ rest) [] in
    (subst P e case, subst Q e d)

-- the case is empty, or begins with the piece
abbrev EmptyOrBegins : {r : Rule} → List Symbol → Piece → Option (Chosen r) → Type 0
EmptyOrBegins rest p None = Unit {0}
EmptyOrBegins rest p (Some c) = Derives (c.0 ++ rest) [] ⊎ Front (c.0 ++ rest) (p ∷ [])

mark_takes : (m : ℕ) (p : Piece) → starts_mark m (p ∷ []) ≡ true → Takes (The_mark m) p
mark_takes m (A_token (kind.Mark n) bytes) e = eqb→eq n m (rw e tt)
mark_takes m _ e = cc

word_takes : (w : String) (p : Piece) → starts_word w (p ∷ []) ≡ true → Takes (The_word (codes w)) p
word_takes w (A_token kind.Word bytes) e = (bytes_eq-Decides bytes (codes w)).0 e
word_takes w _ e = cc

-- where a rule may be empty, the case that a piece chooses is the empty one or begins with it
chosen_of_empty : {r : Rule} (rest : List Symbol) (p : Piece) → IsCase r [] → Derives rest [] → EmptyOrBegins rest p (choose r (p ∷ []))
chosen_of_empty rest A_block_opens no_modules d = inr (takes_on tt cut)
chosen_of_empty rest _ no_modules d = inl d
chosen_of_empty rest A_block_opens no_module_body d = inr (takes_on tt cut)
chosen_of_empty rest _ no_module_body d = inl d
chosen_of_empty rest A_block_opens no_block d = inr (takes_on tt cut)
chosen_of_empty rest _ no_block d = inl d
chosen_of_empty rest p last_length d = by (starts_mark 91 (p ∷ [])) refl
  where
    by : (b : Bool) → starts_mark 91 (p ∷ []) ≡ b → EmptyOrBegins {r = Lengths} rest p (if b then Some (_, next_length) else Some (_, last_length))
    by true e = inr (takes_on (mark_takes 91 p e) cut)
    by false e = inl d
chosen_of_empty rest p no_width d = by (starts_mark 60 (p ∷ [])) refl
  where
    by : (b : Bool) → starts_mark 60 (p ∷ []) ≡ b → EmptyOrBegins {r = Width} rest p (if b then Some (_, a_width) else Some (_, no_width))
    by true e = inr (takes_on (mark_takes 60 p e) cut)
    by false e = inl d
chosen_of_empty rest p no_branch d = by (starts_word "else" (p ∷ [])) refl
  where
    by : (b : Bool) → starts_word "else" (p ∷ []) ≡ b → EmptyOrBegins {r = Branches} rest p (if b then Some (_, else_when) else Some (_, no_branch))
    by true e = inr (takes_on (word_takes "else" p e) cut)
    by false e = inl d
chosen_of_empty rest p no_more_expressions d = inl d
chosen_of_empty rest p no_more_numbers d = inl d
chosen_of_empty rest p no_suffix d = by (starts_mark 46 (p ∷ [])) refl (starts_mark 91 (p ∷ [])) refl
  where
    by : (a : Bool) → starts_mark 46 (p ∷ []) ≡ a → (b : Bool) → starts_mark 91 (p ∷ []) ≡ b
        → EmptyOrBegins {r = Suffixes} rest p (if a then Some (_, a_field_suffix) else if b then Some (_, an_index_suffix) else Some (_, no_suffix))
    by true e b f = inr (takes_on (mark_takes 46 p e) cut)
    by false e true f = inr (takes_on (mark_takes 91 p f) cut)
    by false e false f = inl d

-- A rule that derives no pieces, before a piece: the case that the piece chooses derives none either, or begins with it.
pub empty_chosen : {r : Rule} {body : List Symbol} (case : IsCase r body) (rest : List Symbol) (p : Piece) → choose r (p ∷ []) ≡ Some (body, case) → Derives (A r ∷ rest) []
    → Derives (body ++ rest) [] ⊎ Front (body ++ rest) (p ∷ [])
empty_chosen {r} {body} case rest p chosen d =
    let e = empty_rule d in
    let P : Option (Chosen r) → Type 0 = λ o. EmptyOrBegins rest p o in
    subst P chosen (chosen_of_empty rest p e.0 e.1)
