-- What stands in a laid list: the parts stand in the text, and the tokens are of their kinds.
use Rattle.std.proofs.Common.{◌≡◌, ℕ, zero, suc, ◌+◌, ◌-◌, ◌<◌, ◌≤◌, List, [], ◌∷◌, ◌++◌, length, take, drop, slice_get, get_or, Some, refl, sym, ◌∙◌, ap, arith, ◌⊎◌, inl, inr, ⊎_elim}
use Rattle.std.proofs.lemmas.Grind.{common_steps}
use Rattle.std.proofs.lemmas.Bool.{cases_lt}
use Rattle.std.proofs.lemmas.Option.{slice_get_within, get_or_from_slice_get}
use Rattle.fir_lexer.specs.declared.token.Token.{Token}
use Rattle.fir_lexer.specs.declared.token.TokenKind.{TokenKind}
use Rattle.fir_lexer.specs.declared.pieces.PieceKind.{PieceKind}
use Rattle.fir_lexer.specs.declared.pieces.PieceKind.TheVariants.{Blank, Return, LineFeed, Comment, Info, Annotation, TokenOf}
use Rattle.fir_lexer.specs.Pieces.{IsOf}
use Rattle.fir_lexer.specs.Tokens.{IsPiece, IsPastRange, Lexes, no_piece, then_piece, token_of, tokens_of}
use Rattle.fir_layout.specs.declared.laid.Laid.{Laid}
use Rattle.fir_layout.specs.declared.laid.Laid.TheVariants.{Item, LineEnd, Open, Close, End}
use Rattle.fir_layout.specs.Layout.{IsInside, EndsOnce, token_in, tokens_in}
use Rattle.fir_layout.specs.Pieces.{bytes_of}
use Rattle.fir_grammar.proofs.Cases.{some_injective}
use Rattle.fir_grammar.specs.Grammar.{start_of}
use Rattle.token_reader.specs.Parts.{IsSource, IsTokenIn, IsPartOf}

-- the bytes of the token are of its kind, and no number past the range
record IsSound (text : List ℕ) (token : Token) : Type 0 where
  behind : List ℕ
  of : IsOf (TokenOf token.kind) (bytes_of text token) behind
  in_range : ¬ (IsPastRange (TokenOf token.kind) (bytes_of text token))

abbrev AllSound : List ℕ → List Token → Type 0
AllSound text [] = Unit {0}
AllSound text (t ∷ ts) = IsSound text t × AllSound text ts

sound_joined : (text : List ℕ) (ts us : List Token) → AllSound text ts → AllSound text us → AllSound text (ts ++ us)
sound_joined text [] us a b = b
sound_joined text (t ∷ ts) us a b = (a.0, sound_joined text ts us a.1 b)

take_of : (text bytes : List ℕ) (at n : ℕ) → bytes ≡ drop at text → take (at + n - at) (drop at text) ≡ take n bytes
take_of text bytes at n e = grind (arith, common_steps)

piece_sound : (text bytes : List ℕ) (at n : ℕ) (kind : TokenKind) → bytes ≡ drop at text → IsPiece bytes (TokenOf kind) n → IsSound text (record { kind = kind; start = at; end = at + n })
piece_sound text bytes at n kind e h = record {
  behind = drop n bytes;
  of = rw (take_of text bytes at n e) h.longest.is;
  in_range = rw (take_of text bytes at n e) h.in_range;
}

token_sound : (text bytes : List ℕ) (at n : ℕ) (kind : PieceKind) → bytes ≡ drop at text → IsPiece bytes kind n → AllSound text (token_of kind at (at + n))
token_sound text bytes at n (TokenOf kind) e h = (piece_sound text bytes at n kind e h, tt)
token_sound text bytes at n Blank e h = tt
token_sound text bytes at n Return e h = tt
token_sound text bytes at n LineFeed e h = tt
token_sound text bytes at n Comment e h = tt
token_sound text bytes at n Info e h = tt
token_sound text bytes at n Annotation e h = tt

drop_of : (text bytes : List ℕ) (at n : ℕ) → bytes ≡ drop at text → drop n bytes ≡ drop (at + n) text
drop_of text bytes at n e = grind (arith, common_steps)

tokens_sound : (text : List ℕ) (at : ℕ) {bytes rest : List ℕ} {pieces : List (PieceKind × ℕ)} → bytes ≡ drop at text → Lexes bytes pieces rest → AllSound text (tokens_of at pieces)
tokens_sound text at e (no_piece rest) = tt
tokens_sound text at e (then_piece kind n pieces bytes rest h more) =
    sound_joined text (token_of kind at (at + n)) (tokens_of (at + n) pieces) (token_sound text bytes at n kind e h) (tokens_sound text (at + n) (drop_of text bytes at n e) more)

part_sound : (text : List ℕ) (l : Laid) (ls : List Laid) (token : Token) → l ≡ Item token → AllSound text (token_in l ++ tokens_in ls) → IsSound text token
part_sound text l ls token e all = (rw e at all).0

rest_sound : (text : List ℕ) (l : Laid) (ls : List Laid) → AllSound text (token_in l ++ tokens_in ls) → AllSound text (tokens_in ls)
rest_sound text (Item token) ls all = all.1
rest_sound text (LineEnd at) ls all = all
rest_sound text (Open at) ls all = all
rest_sound text (Close at) ls all = all
rest_sound text (End at) ls all = all

sound_at : (text : List ℕ) (list : List Laid) (i : ℕ) (token : Token) → AllSound text (tokens_in list) → slice_get list i ≡ Some (Item token) → IsSound text token
sound_at text [] i token all h = absurd (let within : i < 0 = slice_get_within [] i (Item token) h in omega (arith, within))
sound_at text (l ∷ ls) zero token all h = part_sound text l ls token (some_injective h) all
sound_at text (l ∷ ls) (suc i) token all h = sound_at text ls i token (rest_sound text l ls all) h

part_inside_front : (size i : ℕ) (front : List Laid) (l : Laid) → i < length front → get_or (front ++ End size ∷ []) i l ≡ l → get_or front i l ≡ l
part_inside_front size i front l h e = grind (arith, common_steps)

part_inside_last : (size i : ℕ) (front : List Laid) (l : Laid) → length front ≤ i → i < length (front ++ End size ∷ []) → get_or (front ++ End size ∷ []) i l ≡ l → l ≡ End size
part_inside_last size i front l h m e = grind (arith, common_steps)

part_inside : (size : ℕ) (list : List Laid) (i : ℕ) (l : Laid) → EndsOnce size list → slice_get list i ≡ Some l → IsInside size l ⊎ (l ≡ End size)
part_inside size list i l e h =
    let here : get_or list i l ≡ l = get_or_from_slice_get list i l l h in
    let within : i < length list = slice_get_within list i l h in
    let here_so = rw e.made at here in
    let within_so = rw e.made at within in
    ⊎_elim (λ inside. inl (let same : get_or e.front i l ≡ l = part_inside_front size i e.front l inside here_so in rw same at (e.inside i l inside)))
    (λ last. inr (part_inside_last size i e.front l last within_so here_so)) (cases_lt i (length e.front))

token_part : (text : List ℕ) (token : Token) → IsSound text token → IsInside (length text) (Item token) ⊎ (Item token ≡ End (length text)) → IsTokenIn text token
token_part text token s (inl inside) = record { some = inside.0; within = inside.1; behind = s.behind; of = s.of; in_range = s.in_range }
token_part text token s (inr e) = absurd cc

offset_part : (size at : ℕ) (l : Laid) → start_of l ≡ at → (at ≤ size) ⊎ (l ≡ End size) → at ≤ size
offset_part size at l e (inl h) = h
offset_part size at l e (inr h) = let same = sym e ∙ ap start_of h in omega (arith, same)

part_of : (text : List ℕ) (list : List Laid) (i : ℕ) (l : Laid) → IsSource text list → slice_get list i ≡ Some l → IsInside (length text) l ⊎ (l ≡ End (length text)) → IsPartOf text l
part_of text list i (Item token) s h inside = token_part text token (sound_at text list i token (rw s.laid.tokens.made (tokens_sound text 0 refl s.laid.tokens.lexed)) h) inside
part_of text list i (LineEnd at) s h inside = offset_part (length text) at (LineEnd at) refl inside
part_of text list i (Open at) s h inside = offset_part (length text) at (Open at) refl inside
part_of text list i (Close at) s h inside = offset_part (length text) at (Close at) refl inside
part_of text list i (End at) s h inside = ⊎_elim (λ none. absurd none) (λ e. (let same : at ≡ length text = ap start_of e in omega (arith, same))) inside

-- each part of the list stands in the text, and a token is of its kind
pub source_part : (text : List ℕ) (list : List Laid) (i : ℕ) (l : Laid) → IsSource text list → slice_get list i ≡ Some l → IsPartOf text l
source_part text list i l s h = part_of text list i l s h (part_inside (length text) list i l s.laid.ends h)
