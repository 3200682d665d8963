-- What an expression is, from the first pieces that stand there.
use Rattle.std.proofs.Common.{◌≡◌, ℕ, ◌+◌, Bool, true, false, ◌&&◌, List, [], ◌∷◌, ◌++◌, Option, Some, slice_get, codes, bytes_eq, refl, sym, ◌∙◌, ap}
use Rattle.std.proofs.lemmas.Slice.Eq.{bytes_eq-Decides}
use Rattle.bit_words.specs.declared.value.Kind.{Kind}
use Rattle.prim_ops.specs.declared.operation.PrimOp.{PrimOp}
use Rattle.prim_ops.specs.Operations.{name_of, IsWritten}
use Rattle.fir_lexer.specs.declared.token.Token.{Token}
use Rattle.fir_lexer.specs.declared.token.TokenKind.{TokenKind}
use Rattle.fir_lexer.specs.declared.token.TokenKind.TheVariants as kind
use Rattle.fir_layout.specs.declared.laid.Laid.{Laid}
use Rattle.fir_layout.specs.declared.laid.Laid.TheVariants.{Item, LineEnd, Open, Close, End}
use Rattle.fir_layout.specs.Pieces.{Piece, A_token, A_line_end, A_block_opens, A_block_closes, The_end, piece_of, pieces_of, bytes_of}
use Rattle.fir_grammar.specs.Grammar.{The_word, The_call, The_mark, Takes, Expression, a_reference, a_component, cut, takes_on, goes_into}
use Rattle.fir_grammar.proofs.Cases.{choose, Chosen, Written, operation_in, operations}
use Rattle.fir_grammar.proofs.ReadingLaws.{chosen_alone}
use Rattle.fir_expr.specs.declared.literals.Head.{Head as TheHead}
use Rattle.fir_expr.specs.declared.literals.Head.TheVariants as head
use Rattle.token_reader.specs.Parts.{StartsWith}
use Rattle.fir_expr.specs.Parts.{GoesInto, kind_name, IsHeadAt}
use Rattle.fir_expr.specs.LiteralHeads.{NamesNothing, IsHeadBefore, IsHeadOfCall}
use Rattle.token_reader.proofs.Composition.{enters_by_piece, enters_by_two, piece_at}
use Rattle.fir_expr.proofs.Choices.{no_mark_first}

-- a piece that goes on by no other case begins a reference

no_text_so : (xs ys : List ℕ) (b : Bool) → ¬ (xs ≡ ys) → bytes_eq xs ys ≡ b → bytes_eq xs ys ≡ false
no_text_so xs ys true none e = absurd (none ((bytes_eq-Decides xs ys).0 e))
no_text_so xs ys false none e = e

no_text : (xs ys : List ℕ) → ¬ (xs ≡ ys) → bytes_eq xs ys ≡ false
no_text xs ys none = no_text_so xs ys (bytes_eq xs ys) none refl

no_operation_in : (prims : List Written) (bytes : List ℕ) (ps : List Piece) (other : Option (Chosen Expression)) → ((prim : PrimOp) → IsWritten prim → ¬ (bytes ≡ name_of prim ++ codes "("))
    → operation_in prims (A_token kind.Call bytes ∷ ps) other ≡ other
no_operation_in [] bytes ps other none = refl
no_operation_in (prim ∷ prims) bytes ps other none = rw (no_text bytes (name_of prim.0 ++ codes "(") (none prim.0 prim.1)) (no_operation_in prims bytes ps other none)

call_reference : (bytes : List ℕ) (ps : List Piece) → ((word : List ℕ) → bytes ≡ word ++ codes "(" → NamesNothing word)
    → choose Expression (A_token kind.Call bytes ∷ ps) ≡ Some (_, a_reference)
call_reference bytes ps none =
    rw (
      no_text bytes (codes "mux" ++ codes "(") (λ e. (none (codes "mux") e).no_mux refl),
      no_text bytes (codes "UInt" ++ codes "(") (λ e. (none (codes "UInt") e).no_unsigned refl),
      no_text bytes (codes "SInt" ++ codes "(") (λ e. (none (codes "SInt") e).no_signed refl),
    ) (no_operation_in operations bytes ps (Some (_, a_reference)) (λ prim written e. (none (name_of prim) e).no_operation prim written refl))

word_reference : (bytes : List ℕ) (ps : List Piece) → ¬ (bytes ≡ codes "UInt") → ¬ (bytes ≡ codes "SInt") → choose Expression (A_token kind.Word bytes ∷ ps) ≡ Some (_, a_reference)
word_reference bytes ps no_unsigned no_signed = rw (no_text bytes (codes "UInt") no_unsigned, no_text bytes (codes "SInt") no_signed) refl

and_false : (b : Bool) → (b && false) ≡ false
and_false true = refl
and_false false = refl

bare_reference : (bytes : List ℕ) (q : Piece) (ps : List Piece) → ¬ (Takes (The_mark 60) q) → choose Expression (A_token kind.Word bytes ∷ q ∷ ps) ≡ Some (_, a_reference)
bare_reference bytes q ps none = rw (no_mark_first 60 q ps none, and_false (bytes_eq bytes (codes "UInt")), and_false (bytes_eq bytes (codes "SInt"))) refl

word_alone : (bytes : List ℕ) → choose Expression (A_token kind.Word bytes ∷ []) ≡ Some (_, a_reference)
word_alone bytes = rw (and_false (bytes_eq bytes (codes "UInt")), and_false (bytes_eq bytes (codes "SInt"))) refl

-- the pieces that are neither a word nor one with its `(`
abbrev pub IsOther : Piece → Type 0
IsOther (A_token kind.Word bytes) = ⊥
IsOther (A_token kind.Call bytes) = ⊥
IsOther _ = Unit {0}

other_reference : (p : Piece) (ps : List Piece) → IsOther p → choose Expression (p ∷ ps) ≡ Some (_, a_reference)
other_reference (A_token kind.Word bytes) ps h = absurd h
other_reference (A_token kind.Call bytes) ps h = absurd h
other_reference (A_token kind.Quoted bytes) ps h = refl
other_reference (A_token kind.Digits bytes) ps h = refl
other_reference (A_token kind.Text bytes) ps h = refl
other_reference (A_token kind.Arrow bytes) ps h = refl
other_reference (A_token (kind.Mark m) bytes) ps h = refl
other_reference A_line_end ps h = refl
other_reference A_block_opens ps h = refl
other_reference A_block_closes ps h = refl
other_reference The_end ps h = refl

token_here : (text : List ℕ) (list : List Laid) (i : ℕ) (token : Token) (k : TokenKind) (bytes : List ℕ) → slice_get list i ≡ Some (Item token) → token.kind ≡ k → bytes_of text token ≡ bytes
    → slice_get (pieces_of text list) i ≡ Some (A_token k bytes)
token_here text list i token k bytes h e b = rw (sym e, sym b) (piece_at text list i (Item token) h)

call_takes : (k : TokenKind) (bytes word : List ℕ) → k ≡ kind.Call → bytes ≡ word ++ codes "(" → Takes (The_call word) (A_token k bytes)
call_takes k bytes word e w = rw e w

word_takes : (k : TokenKind) (bytes word : List ℕ) → k ≡ kind.Word → bytes ≡ word → Takes (The_word word) (A_token k bytes)
word_takes k bytes word e w = rw e w

-- the parts that are no token, and the tokens of other kinds

pub no_token : (text : List ℕ) (l : Laid) → ((token : Token) → ¬ (l ≡ Item token)) → IsOther (piece_of text l)
no_token text (Item token) none = absurd (none token refl)
no_token text (LineEnd at) none = tt
no_token text (Open at) none = tt
no_token text (Close at) none = tt
no_token text (End at) none = tt

other_kind : (k : TokenKind) (bytes : List ℕ) → ¬ (k ≡ kind.Call) → ¬ (k ≡ kind.Word) → IsOther (A_token k bytes)
other_kind kind.Call bytes no_call no_word = absurd (no_call refl)
other_kind kind.Word bytes no_call no_word = absurd (no_word refl)
other_kind kind.Quoted bytes no_call no_word = tt
other_kind kind.Digits bytes no_call no_word = tt
other_kind kind.Text bytes no_call no_word = tt
other_kind kind.Arrow bytes no_call no_word = tt
other_kind (kind.Mark m) bytes no_call no_word = tt

module _ (text : List ℕ) (list : List Laid) (i : ℕ) where
  goes_by_piece : (p : Piece) → slice_get (pieces_of text list) i ≡ Some p → ((ps : List Piece) → choose Expression (p ∷ ps) ≡ Some (_, a_reference)) → GoesInto a_reference text list i
  goes_by_piece p h chosen = record { into = (enters_by_piece (pieces_of text list) i a_reference p h chosen).into }

  pub other_goes : (l : Laid) → slice_get list i ≡ Some l → IsOther (piece_of text l) → GoesInto a_reference text list i
  other_goes l h other = goes_by_piece (piece_of text l) (piece_at text list i l h) (λ ps. other_reference (piece_of text l) ps other)

  module _ (token : Token) (bytes : List ℕ) (h : slice_get list i ≡ Some (Item token)) (b : bytes_of text token ≡ bytes) where
    pub call_goes : token.kind ≡ kind.Call → ((word : List ℕ) → bytes ≡ word ++ codes "(" → NamesNothing word) → GoesInto a_reference text list i
    call_goes e none = goes_by_piece (A_token kind.Call bytes) (token_here text list i token kind.Call bytes h e b) (λ ps. call_reference bytes ps none)

    pub call_starts : (word : List ℕ) → token.kind ≡ kind.Call → bytes ≡ word ++ codes "(" → StartsWith (The_call word) text list i
    call_starts word e w = record { part = Item token; here = h; takes = call_takes token.kind (bytes_of text token) word e (b ∙ w) }

    pub word_goes : token.kind ≡ kind.Word → ¬ (bytes ≡ codes "UInt") → ¬ (bytes ≡ codes "SInt") → GoesInto a_reference text list i
    word_goes e no_unsigned no_signed = goes_by_piece (A_token kind.Word bytes) (token_here text list i token kind.Word bytes h e b) (λ ps. word_reference bytes ps no_unsigned no_signed)

    pub word_starts : (word : List ℕ) → token.kind ≡ kind.Word → bytes ≡ word → StartsWith (The_word word) text list i
    word_starts word e w = record { part = Item token; here = h; takes = word_takes token.kind (bytes_of text token) word e (b ∙ w) }

    pub bare_goes : (q : Laid) → token.kind ≡ kind.Word → slice_get list (i + 1) ≡ Some q → ¬ (Takes (The_mark 60) (piece_of text q)) → GoesInto a_reference text list i
    bare_goes q e g none = record {
      into = (enters_by_two (pieces_of text list) i a_reference (A_token kind.Word bytes) (piece_of text q) (token_here text list i token kind.Word bytes h e b) (piece_at text list (i + 1) q g)
          (λ rest. goes_into _ a_component (takes_on tt cut)) (λ ps. bare_reference bytes (piece_of text q) ps none) (chosen_alone (word_alone bytes))).into;
    }

    pub other_kind_goes : ¬ (token.kind ≡ kind.Call) → ¬ (token.kind ≡ kind.Word) → GoesInto a_reference text list i
    other_kind_goes no_call no_word = other_goes (Item token) h (other_kind token.kind (bytes_of text token) no_call no_word)

    -- what a word with its `(` says of the place where it stands
    pub call_head : (head : TheHead) → token.kind ≡ kind.Call → IsHeadOfCall bytes head → IsHeadAt head text list i
    call_head head.Component e says = call_goes e says
    call_head head.Mux e says = call_starts (codes "mux") e says
    call_head (head.Literal k) e says = call_starts (kind_name k) e says
    call_head (head.WideLiteral k) e says = absurd says
    call_head (head.Operation prim) e says = (says.0, call_starts (name_of prim) e says.1)

    -- what a word that names a kind says there
    pub kind_head : (head : TheHead) (named : Kind) (q : Laid) → token.kind ≡ kind.Word → bytes ≡ kind_name named → slice_get list (i + 1) ≡ Some q → IsHeadBefore named (piece_of text q) head
        → IsHeadAt head text list i
    kind_head head.Component named q e w g says = bare_goes q e g says
    kind_head head.Mux named q e w g says = absurd says
    kind_head (head.Literal k) named q e w g says = absurd says
    kind_head (head.WideLiteral k) named q e w g says = (word_starts (kind_name k) e (w ∙ ap kind_name (sym says.0)), record { part = q; here = g; takes = says.1 })
    kind_head (head.Operation prim) named q e w g says = absurd says
