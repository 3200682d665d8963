-- From piece to piece along a line.
use Rattle.std.proofs.Common.{◌≡◌, ℕ, ◌+◌, ◌-◌, ◌<◌, ◌≤◌, Bool, true, false, List, [], ◌∷◌, ◌++◌, length, take, drop, refl, ap, sym, ◌∙◌, arith, length-drop, length-append, append_assoc, append-nil}
use Rattle.std.specs.Prelude.{if◌then◌else◌}
use Rattle.std.proofs.lemmas.List.{drop-drop, drop_all, drop_at, take_at}
use Rattle.std.proofs.Math.Seq.{take-add}
use Rattle.fir_lexer.specs.declared.token.Token.{Token}
use Rattle.fir_lexer.specs.declared.pieces.PieceKind.{PieceKind}
use Rattle.fir_lexer.specs.declared.pieces.PieceKind.TheVariants.{Blank, Return, LineFeed, Comment, Info, Annotation, TokenOf}
use Rattle.fir_lexer.specs.Pieces.{IsLongest, BeginsNone}
use Rattle.fir_lexer.specs.Tokens.{Lexes, no_piece, then_piece, token_of, tokens_of}
use Rattle.fir_lexer.proofs.Readings.{longest_unique, nothing_from_none, no_longest_of_none}
use Rattle.fir_layout.specs.Layout.{Line, ends_line, begun_with, lines_of}
use Rattle.fir_layout.specs.Walk.{Ahead, PassesLine}

begun_begun : (at here : ℕ) (ts us : List Token) (ls : List Line) → begun_with at ts (begun_with here us ls) ≡ begun_with at (ts ++ us) ls
begun_begun at here ts us [] = refl
begun_begun at here ts us (l ∷ ls) = ap (λ (x : List Token). record { start = at; tokens = x } ∷ ls) (sym (append_assoc ts us l.tokens))

begun_line : (at : ℕ) (ts : List Token) (ls : List Line) → begun_with at [] (begun_with at ts ls) ≡ begun_with at ts ls
begun_line at ts ls = begun_begun at at [] ts ls

lines_begun : (at : ℕ) (p : PieceKind × ℕ) (ps : List (PieceKind × ℕ)) → lines_of at (p ∷ ps) ≡ begun_with at [] (lines_of at (p ∷ ps))
lines_begun at p ps = by_kind (ends_line p.0)
  where
    by_kind : (v : Bool) → (if v then record { start = at; tokens = [] } ∷ lines_of (at + p.1) ps else begun_with at (token_of p.0 at (at + p.1)) (lines_of (at + p.1) ps))
        ≡ begun_with at [] (if v then record { start = at; tokens = [] } ∷ lines_of (at + p.1) ps else begun_with at (token_of p.0 at (at + p.1)) (lines_of (at + p.1) ps))
    by_kind true = refl
    by_kind false = sym (begun_line at _ _)

-- the pieces that are ahead begin with the longest one
first_ahead : {bytes rest : List ℕ} {pieces : List (PieceKind × ℕ)} {kind : PieceKind} {n : ℕ} → Lexes bytes pieces rest → rest ≡ [] → IsLongest bytes kind n
    → (more : List (PieceKind × ℕ)) × (pieces ≡ (kind, n) ∷ more) × Lexes (drop n bytes) more rest
first_ahead {kind = kind} {n = n} (no_piece rest) e one = absurd (no_longest_of_none kind n (rw e at one))
first_ahead {kind = kind} {n = n} (then_piece k m pieces bytes rest two more) e one =
    let same = longest_unique bytes k kind m n two.longest one in
    (pieces, (rw (same.0, same.1) refl), rw same.1 at more)

-- a walk from the begin of a line, over pieces that don't end it
pub record Going (text : List ℕ) (tokens : List Token) (start next at after : ℕ) (pieces : List (PieceKind × ℕ)) : Type 0 where
  pub left : List (PieceKind × ℕ)
  pub ahead : Ahead text tokens at after left
  pub counted : next ≤ after
  pub onward : start ≤ at
  pub lines : lines_of start pieces ≡ begun_with start (take (after - next) (drop next tokens)) (lines_of at left)

nothing_is_short : (text : List ℕ) (at : ℕ) → at < length text → drop at text ≡ [] → ⊥
nothing_is_short text at h e = let size : length (drop at text) ≡ 0 = rw e refl in omega (arith, size, length-drop at text)

pub going_start : (text : List ℕ) (tokens : List Token) (start next : ℕ) (pieces : List (PieceKind × ℕ)) → start < length text → Ahead text tokens start next pieces
    → Going text tokens start next start next pieces
going_start text tokens start next [] h a = absurd (nothing_is_short text start h (none a.lexed refl))
  where
    none : {bytes rest : List ℕ} {ps : List (PieceKind × ℕ)} → Lexes bytes ps rest → ps ≡ [] → bytes ≡ rest
    none (no_piece rest) e = refl
    none (then_piece k n ps bytes rest one more) e = cc
going_start text tokens start next (p ∷ ps) h a = record {
  left = p ∷ ps;
  ahead = a;
  counted = omega arith;
  onward = omega arith;
  lines = let nothing : next - next ≡ 0 = omega arith in rw nothing (lines_begun start p ps);
}

token_length : (kind : PieceKind) (at end : ℕ) → length (token_of kind at end) ≡ length (token_of kind 0 0)
token_length Blank at end = refl
token_length Return at end = refl
token_length LineFeed at end = refl
token_length Comment at end = refl
token_length Info at end = refl
token_length Annotation at end = refl
token_length (TokenOf kind) at end = refl

-- the same walk behind the next piece
behind_piece : (text : List ℕ) (tokens : List Token) (at after n : ℕ) (kind : PieceKind) (more : List (PieceKind × ℕ)) → Ahead text tokens at after ((kind, n) ∷ more)
    → IsLongest (drop at text) kind n → Lexes (drop n (drop at text)) more [] → Ahead text tokens (at + n) (after + length (token_of kind 0 0)) more
behind_piece text tokens at after n kind more a one lexed =
    let size = token_length kind at (at + n) in
    let all : drop after tokens ≡ token_of kind at (at + n) ++ tokens_of (at + n) more = a.theirs in
    let count : length (drop after tokens) ≡ length (token_of kind at (at + n)) + length (tokens_of (at + n) more) = ap length all ∙ length-append (token_of kind at (at + n)) _ in
    record {
      within = omega (arith, one.within, length-drop at text, a.within);
      counted = omega (arith, count, size, length-drop after tokens, a.counted);
      lexed = rw drop-drop at lexed;
      theirs = sym (drop-drop (length (token_of kind 0 0)) after tokens) ∙ (rw all (drop_at (token_of kind at (at + n)) _ _ size));
    }

pub going_more : {text : List ℕ} {tokens : List Token} {start next at after : ℕ} {pieces : List (PieceKind × ℕ)} {kind : PieceKind} {n : ℕ}
    → Going text tokens start next at after pieces → IsLongest (drop at text) kind n → ends_line kind ≡ false
    → Going text tokens start next (at + n) (after + length (token_of kind 0 0)) pieces
going_more {text = text} {tokens = tokens} {start = start} {next = next} {at = at} {after = after} {pieces = pieces} {kind = kind} {n = n} g one no_end =
    let f = first_ahead g.ahead.lexed refl one in
    let a : Ahead text tokens at after ((kind, n) ∷ f.0) = rw f.1 at g.ahead in
    let size = token_length kind at (at + n) in
    let here : drop (after - next) (drop next tokens) ≡ drop after tokens = (let sum : next + (after - next) ≡ after = omega (arith, g.counted) in drop-drop (after - next) next tokens ∙ ap (λ i. drop i tokens) sum) in
    let slice : take ((after + length (token_of kind 0 0)) - next) (drop next tokens) ≡ take (after - next) (drop next tokens) ++ token_of kind at (at + n) =
    (let sum : (after + length (token_of kind 0 0)) - next ≡ (after - next) + length (token_of kind 0 0) = omega (arith, g.counted) in
    let all : drop (after - next) (drop next tokens) ≡ token_of kind at (at + n) ++ tokens_of (at + n) f.0 = here ∙ a.theirs in
    rw (sum, take-add (after - next) (length (token_of kind 0 0)) (drop next tokens), all) (ap (λ xs. take (after - next) (drop next tokens) ++ xs) (take_at (token_of kind at (at + n)) _ _ size))) in
    let lines : lines_of start pieces ≡ begun_with start (take (after - next) (drop next tokens)) (lines_of at ((kind, n) ∷ f.0)) = rw f.1 at g.lines in
    let more : lines_of at ((kind, n) ∷ f.0) ≡ begun_with at (token_of kind at (at + n)) (lines_of (at + n) f.0) = rw no_end refl in
    record {
      left = f.0;
      ahead = behind_piece text tokens at after n kind f.0 a one f.2;
      counted = omega (arith, g.counted);
      onward = omega (arith, g.onward);
      lines = lines ∙ ap (begun_with start (take (after - next) (drop next tokens))) more ∙ begun_begun start at _ _ _ ∙ ap (λ ts. begun_with start ts (lines_of (at + n) f.0)) (sym slice);
    }

-- an index behind a piece is no greater than the count of the tokens
pub going_fits : {text : List ℕ} {tokens : List Token} {start next at after : ℕ} {pieces : List (PieceKind × ℕ)} {kind : PieceKind} {n : ℕ}
    → Going text tokens start next at after pieces → IsLongest (drop at text) kind n → after + length (token_of kind 0 0) ≤ length tokens
going_fits {text = text} {tokens = tokens} {at = at} {after = after} {kind = kind} {n = n} g one =
    let f = first_ahead g.ahead.lexed refl one in
    let a : Ahead text tokens at after ((kind, n) ∷ f.0) = rw f.1 at g.ahead in
    (behind_piece text tokens at after n kind f.0 a one f.2).counted

no_token : (kind : PieceKind) → ends_line kind ≡ true → length (token_of kind 0 0) ≡ 0
no_token LineFeed e = refl
no_token Blank e = cc
no_token Return e = cc
no_token Comment e = cc
no_token Info e = cc
no_token Annotation e = cc
no_token (TokenOf kind) e = cc

pub going_feed : {text : List ℕ} {tokens : List Token} {start next at after : ℕ} {pieces : List (PieceKind × ℕ)} {kind : PieceKind} {n : ℕ}
    → Going text tokens start next at after pieces → IsLongest (drop at text) kind n → 0 < n → ends_line kind ≡ true
    → PassesLine text tokens start next pieces (at + n) after
going_feed {text = text} {tokens = tokens} {start = start} {next = next} {at = at} {after = after} {pieces = pieces} {kind = kind} {n = n} g one some ends =
    let f = first_ahead g.ahead.lexed refl one in
    let a : Ahead text tokens at after ((kind, n) ∷ f.0) = rw f.1 at g.ahead in
    let none : after + length (token_of kind 0 0) ≡ after = omega (arith, no_token kind ends) in
    let lines : lines_of start pieces ≡ begun_with start (take (after - next) (drop next tokens)) (lines_of at ((kind, n) ∷ f.0)) = rw f.1 at g.lines in
    let more : lines_of at ((kind, n) ∷ f.0) ≡ record { start = at; tokens = [] } ∷ lines_of (at + n) f.0 = rw ends refl in
    record {
      rest = f.0;
      ahead = rw none at (behind_piece text tokens at after n kind f.0 a one f.2);
      onward = omega (arith, g.onward);
      counted = g.counted;
      lines = lines ∙ ap (begun_with start (take (after - next) (drop next tokens))) more
          ∙ ap (λ (ts : List Token). record { start = start; tokens = ts } ∷ lines_of (at + n) f.0) (append-nil _);
    }

pub going_end : {text : List ℕ} {tokens : List Token} {start next at after : ℕ} {pieces : List (PieceKind × ℕ)}
    → Going text tokens start next at after pieces → length text ≤ at → start < length text → PassesLine text tokens start next pieces at after
going_end {text = text} {tokens = tokens} {start = start} {next = next} {at = at} {after = after} {pieces = pieces} g past some =
    let none = nothing_from_none g.ahead.lexed (drop_all at text past) in
    record {
      rest = [];
      ahead = rw none.0 at g.ahead;
      onward = omega arith;
      counted = g.counted;
      lines = rw none.0 at g.lines;
    }

pub going_none : {text : List ℕ} {tokens : List Token} {start next at after : ℕ} {pieces : List (PieceKind × ℕ)}
    → Going text tokens start next at after pieces → at < length text → BeginsNone (drop at text) → ⊥
going_none {text = text} {at = at} g some none = nothing_is_short text at some (stops g.ahead.lexed none)
  where
    stops : {bytes rest : List ℕ} {ps : List (PieceKind × ℕ)} → Lexes bytes ps rest → BeginsNone bytes → bytes ≡ rest
    stops (no_piece rest) none = refl
    stops (then_piece k n ps bytes rest one more) none = absurd (none.none k n one.longest.within one.longest.is)
