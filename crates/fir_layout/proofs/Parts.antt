-- The parts of a laid list: its tokens in order, and that all stand in the text.
use Rattle.std.proofs.Common.{◌≡◌, ℕ, zero, suc, ◌+◌, ◌<◌, ◌≤◌, List, [], ◌∷◌, ◌++◌, length, drop, get_or, refl, ap, sym, ◌∙◌, arith, append_assoc, append-nil, length-drop}
use Rattle.std.specs.Prelude.{if◌then◌else◌, map, replicate, ◌==◌, Result, Ok, Err, IfOk}
use Rattle.std.proofs.lemmas.List.Sums.{prefix_len-le-length}
use Rattle.fir_lexer.specs.declared.token.Token.{Token}
use Rattle.fir_lexer.specs.declared.pieces.PieceKind.{PieceKind}
use Rattle.fir_lexer.specs.declared.pieces.PieceKind.TheVariants.{Blank, Return, LineFeed, Comment, Info, Annotation, TokenOf}
use Rattle.fir_lexer.specs.Tokens.{Lexes, no_piece, then_piece, AreTokens, token_of, tokens_of}
use Rattle.fir_lexer.proofs.Readings.{one_reading, longest_some}
use Rattle.fir_layout.specs.declared.laid.Laid.{Laid}
use Rattle.fir_layout.specs.declared.laid.Laid.TheVariants.{Item, LineEnd, Close, End}
use Rattle.fir_layout.specs.Layout.{Line, Turns, greater, equal, smaller, OfLine, skipped, filled, OfLines, no_line, then_line, IsLaidOut, ends_line, begun_with, lines_of, items, end_of, deeper_count, content, token_in, tokens_in, IsInside, EndsOnce}

tokens_in-append : (xs ys : List Laid) → tokens_in (xs ++ ys) ≡ tokens_in xs ++ tokens_in ys
tokens_in-append [] ys = refl
tokens_in-append (x ∷ xs) ys = ap (λ ts. token_in x ++ ts) (tokens_in-append xs ys) ∙ sym (append_assoc (token_in x) _ _)

closes_have_none : (n at : ℕ) → tokens_in (replicate n (Close at)) ≡ []
closes_have_none zero at = refl
closes_have_none (suc n) at = closes_have_none n at

turns_have_none : {blocks : List ℕ} {i at : ℕ} {ms : List Laid} {after : List ℕ} → Turns blocks i at ms after → tokens_in ms ≡ []
turns_have_none (greater h) = refl
turns_have_none (equal h) = refl
turns_have_none {blocks = blocks} {i = i} {at = at} (smaller h e) = closes_have_none (deeper_count i blocks) at

tokens_in-map : (ts : List Token) → tokens_in (map Item ts) ≡ ts
tokens_in-map [] = refl
tokens_in-map (t ∷ ts) = ap (λ us. t ∷ us) (tokens_in-map ts)

tokens_in-items : (ts : List Token) → tokens_in (items ts) ≡ ts
tokens_in-items ts = tokens_in-append (map Item ts) (LineEnd (end_of ts) ∷ []) ∙ append-nil _ ∙ tokens_in-map ts

line_keeps : {text blocks : List ℕ} {line : Line} {ms : List Laid} {after : List ℕ} → OfLine text blocks line ms after → tokens_in ms ≡ line.tokens
line_keeps (skipped e) = sym e
line_keeps {line = line} (filled turns after some no_tab t) =
    tokens_in-append turns (items line.tokens) ∙ ap (λ ts. ts ++ tokens_in (items line.tokens)) (turns_have_none t) ∙ tokens_in-items line.tokens

-- the tokens of lines
abbrev pub line_tokens : List Line → List Token
line_tokens [] = []
line_tokens (l ∷ ls) = l.tokens ++ line_tokens ls

lines_keep : {text first blocks : List ℕ} {lines rest : List Line} {ms : List Laid} → OfLines text first lines ms blocks rest → tokens_in ms ++ line_tokens rest ≡ line_tokens lines
lines_keep (no_line blocks lines) = refl
lines_keep (then_line blocks next after line lines rest laid more one further) =
    ap (λ ts. ts ++ line_tokens rest) (tokens_in-append laid more) ∙ append_assoc (tokens_in laid) (tokens_in more) (line_tokens rest)
    ∙ ap (λ ts. tokens_in laid ++ ts) (lines_keep further) ∙ ap (λ ts. ts ++ line_tokens lines) (line_keeps one)

begun_tokens : (at : ℕ) (ts : List Token) (ls : List Line) → line_tokens (begun_with at ts ls) ≡ ts ++ line_tokens ls
begun_tokens at ts [] = refl
begun_tokens at ts (l ∷ ls) = append_assoc ts l.tokens (line_tokens ls)

lines_have : (at : ℕ) (ps : List (PieceKind × ℕ)) → line_tokens (lines_of at ps) ≡ tokens_of at ps
lines_have at [] = refl
lines_have at (p ∷ ps) = by_kind p.0 (lines_have (at + p.1) ps)
  where
    by_kind : (kind : PieceKind) → line_tokens (lines_of (at + p.1) ps) ≡ tokens_of (at + p.1) ps
        → line_tokens (if ends_line kind then record { start = at; tokens = [] } ∷ lines_of (at + p.1) ps else begun_with at (token_of kind at (at + p.1)) (lines_of (at + p.1) ps))
        ≡ token_of kind at (at + p.1) ++ tokens_of (at + p.1) ps
    by_kind LineFeed e = e
    by_kind Blank e = begun_tokens at [] (lines_of (at + p.1) ps) ∙ e
    by_kind Return e = begun_tokens at [] (lines_of (at + p.1) ps) ∙ e
    by_kind Comment e = begun_tokens at [] (lines_of (at + p.1) ps) ∙ e
    by_kind Info e = begun_tokens at [] (lines_of (at + p.1) ps) ∙ e
    by_kind Annotation e = begun_tokens at [] (lines_of (at + p.1) ps) ∙ e
    by_kind (TokenOf kind) e = begun_tokens at (token_of (TokenOf kind) at (at + p.1)) (lines_of (at + p.1) ps) ∙ ap (λ ts. token_of (TokenOf kind) at (at + p.1) ++ ts) e

pub laid_tokens : (text : List ℕ) (tokens : List Token) (laid : List Laid) → AreTokens text tokens → IsLaidOut text laid → tokens_in laid ≡ tokens
laid_tokens text tokens laid a l =
    let closes = replicate (length l.blocks) (Close (length text)) in
    let same : l.pieces ≡ a.pieces = one_reading l.lexed a.lexed in
    ap tokens_in l.made ∙ tokens_in-append (l.body ++ closes) (End (length text) ∷ []) ∙ append-nil _ ∙ tokens_in-append l.body closes
    ∙ ap (λ ts. tokens_in l.body ++ ts) (closes_have_none (length l.blocks) (length text)) ∙ lines_keep l.lines ∙ lines_have 0 l.pieces ∙ ap (tokens_of 0) same ∙ sym a.made

-- That all stand in the text.

abbrev AllIn : ℕ → List Laid → Type 0
AllIn size [] = Unit {0}
AllIn size (x ∷ xs) = IsInside size x × AllIn size xs

abbrev TokensIn : ℕ → List Token → Type 0
TokensIn size [] = Unit {0}
TokensIn size (t ∷ ts) = ((t.start < t.end) × (t.end ≤ size)) × TokensIn size ts

abbrev LinesIn : ℕ → List Line → Type 0
LinesIn size [] = Unit {0}
LinesIn size (l ∷ ls) = ((l.start ≤ size) × TokensIn size l.tokens) × LinesIn size ls

AllIn-append : (size : ℕ) (xs ys : List Laid) → AllIn size xs → AllIn size ys → AllIn size (xs ++ ys)
AllIn-append size [] ys a b = b
AllIn-append size (x ∷ xs) ys a b = (a.0, AllIn-append size xs ys a.1 b)

AllIn-at : (size : ℕ) (xs : List Laid) → AllIn size xs → (k : ℕ) (d : Laid) → k < length xs → IsInside size (get_or xs k d)
AllIn-at size [] a k d h = absurd (omega arith)
AllIn-at size (x ∷ xs) a zero d h = a.0
AllIn-at size (x ∷ xs) a (suc k) d h = AllIn-at size xs a.1 k d (omega arith)

closes_in : (size n at : ℕ) → at ≤ size → AllIn size (replicate n (Close at))
closes_in size zero at h = tt
closes_in size (suc n) at h = (h, closes_in size n at h)

turns_in : {blocks : List ℕ} {i at : ℕ} {ms : List Laid} {after : List ℕ} (size : ℕ) → at ≤ size → Turns blocks i at ms after → AllIn size ms
turns_in size h (greater less) = (h, tt)
turns_in size h (equal e) = tt
turns_in {blocks = blocks} {i = i} {at = at} size h (smaller less e) = closes_in size (deeper_count i blocks) at h

end_in : (size : ℕ) (ts : List Token) → TokensIn size ts → end_of ts ≤ size
end_in size [] a = omega arith
end_in size (t ∷ []) a = a.0.1
end_in size (t ∷ u ∷ ts) a = end_in size (u ∷ ts) a.1

tokens_are_in : (size : ℕ) (ts : List Token) → TokensIn size ts → AllIn size (map Item ts)
tokens_are_in size [] a = tt
tokens_are_in size (t ∷ ts) a = (a.0, tokens_are_in size ts a.1)

line_in : {text blocks : List ℕ} {line : Line} {ms : List Laid} {after : List ℕ} → OfLine text blocks line ms after → line.start ≤ length text → TokensIn (length text) line.tokens
    → AllIn (length text) ms
line_in (skipped e) h a = tt
line_in {text = text} {line = line} (filled turns after some no_tab t) h a =
    let inside : content text line ≤ length text = omega (arith, h, prefix_len-le-length (λ b. b == 32) (drop line.start text), length-drop line.start text) in
    AllIn-append (length text) turns (items line.tokens) (turns_in (length text) inside t)
    (AllIn-append (length text) (map Item line.tokens) (LineEnd (end_of line.tokens) ∷ []) (tokens_are_in (length text) line.tokens a) (end_in (length text) line.tokens a, tt))

lines_in : {text first blocks : List ℕ} {lines rest : List Line} {ms : List Laid} → OfLines text first lines ms blocks rest → LinesIn (length text) lines → AllIn (length text) ms
lines_in (no_line blocks lines) a = tt
lines_in {text = text} (then_line blocks next after line lines rest laid more one further) a = AllIn-append (length text) laid more (line_in one a.0.0 a.0.1) (lines_in further a.1)

begun_in : (size at : ℕ) (ts : List Token) (ls : List Line) → at ≤ size → TokensIn size ts → LinesIn size ls → LinesIn size (begun_with at ts ls)
begun_in size at ts [] h t a = ((h, t), tt)
begun_in size at ts (l ∷ ls) h t a = ((h, both ts t), a.1)
  where
    both : (ts : List Token) → TokensIn size ts → TokensIn size (ts ++ l.tokens)
    both [] t = a.0.1
    both (u ∷ us) t = (t.0, both us t.1)

lines_stand : {bytes rest : List ℕ} {ps : List (PieceKind × ℕ)} (size at : ℕ) → Lexes bytes ps rest → at + length bytes ≡ size → LinesIn size (lines_of at ps)
lines_stand size at (no_piece rest) e = tt
lines_stand size at (then_piece k n ps bytes rest one more) e = by_kind k (lines_stand size (at + n) more (omega (arith, length-drop n bytes, one.longest.within)))
  where
    begun : at ≤ size
    begun = omega arith

    end : at + n ≤ size
    end = omega (arith, one.longest.within)

    some : at < at + n
    some = omega (arith, longest_some bytes k n one.longest)

    by_kind : (kind : PieceKind) → LinesIn size (lines_of (at + n) ps)
        → LinesIn size (if ends_line kind then record { start = at; tokens = [] } ∷ lines_of (at + n) ps else begun_with at (token_of kind at (at + n)) (lines_of (at + n) ps))
    by_kind LineFeed a = ((begun, tt), a)
    by_kind Blank a = begun_in size at [] (lines_of (at + n) ps) begun tt a
    by_kind Return a = begun_in size at [] (lines_of (at + n) ps) begun tt a
    by_kind Comment a = begun_in size at [] (lines_of (at + n) ps) begun tt a
    by_kind Info a = begun_in size at [] (lines_of (at + n) ps) begun tt a
    by_kind Annotation a = begun_in size at [] (lines_of (at + n) ps) begun tt a
    by_kind (TokenOf kind) a = begun_in size at (token_of (TokenOf kind) at (at + n)) (lines_of (at + n) ps) begun ((some, end), tt) a

pub laid_ends : (text : List ℕ) (laid : List Laid) → IsLaidOut text laid → EndsOnce (length text) laid
laid_ends text laid l = record {
  front = l.body ++ replicate (length l.blocks) (Close (length text));
  made = l.made;
  inside = AllIn-at (length text) _ (AllIn-append (length text) l.body _ (lines_in l.lines (lines_stand (length text) 0 l.lexed (omega arith)))
      (closes_in (length text) (length l.blocks) (length text) (omega arith)));
}

pub ok_tokens : {V E : Type 0} (parts : V → List Laid) (text : List ℕ) (tokens : List Token) (result : Result V E) → AreTokens text tokens → IfOk result (λ v. IsLaidOut text (parts v))
    → IfOk result (λ v. tokens_in (parts v) ≡ tokens)
ok_tokens parts text tokens (Ok v) a ok = laid_tokens text tokens _ a ok
ok_tokens parts text tokens (Err e) a ok = tt

pub ok_ends : {V E : Type 0} (parts : V → List Laid) (text : List ℕ) (result : Result V E) → IfOk result (λ v. IsLaidOut text (parts v)) → IfOk result (λ v. EndsOnce (length text) (parts v))
ok_ends parts text (Ok v) ok = laid_ends text _ ok
ok_ends parts text (Err e) ok = tt
