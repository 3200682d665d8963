-- Parts between brackets: what opens has closed behind them.
use Rattle.std.proofs.Common.{◌≡◌, ℕ, ◌+◌, ◌<◌, false, List, [], ◌∷◌, ◌++◌, codes, length, take, slice_get, Some, refl, sym, ◌∙◌, ap, arith}
use Rattle.bit_words.specs.declared.value.Kind.{Kind}
use Rattle.bit_words.specs.declared.value.Kind.TheVariants as sign
use Rattle.prim_ops.specs.declared.operation.PrimOp.{PrimOp}
use Rattle.prim_ops.specs.declared.operation.PrimOp.TheVariants.{Add, Sub, Mul, Div, Rem, Lt, Leq, Gt, Geq, Eq, Neq, Pad, AsUInt, AsSInt, AsAsyncReset, Shl, Shr, ShrFour, Dshl, Dshr, Cvt, Neg, Not, And, Or, Xor, Andr, Orr, Xorr, Cat, Bits, Head, Tail}
use Rattle.prim_ops.specs.Operations.{name_of}
use Rattle.fir_lexer.specs.declared.token.TokenKind.TheVariants as kind
use Rattle.fir_layout.specs.declared.laid.Laid.{Laid}
use Rattle.fir_layout.specs.Pieces.{Piece, A_token, piece_of, pieces_of}
use Rattle.fir_grammar.specs.Grammar.{Terminal, The_call, The_mark, Takes}
use Rattle.fir_grammar.specs.Faults.{Levels, levels, past, past_mark, with_suffix, last_suffixes, without_last, most, is_item}
use Rattle.fir_grammar.specs.Faults.{closed as outside}
use Rattle.token_reader.specs.Standing.{StandsIn, BeginsType, IsWhole}
use Rattle.token_reader.specs.Parts.{IsTaken}
use Rattle.token_reader.proofs.Composition.{piece_at}
use Rattle.token_reader.proofs.Depth.{levels_next, whole_stands}
use Rattle.fir_expr.specs.Parts.{kind_name}
use Rattle.fir_expr.proofs.Passing.{mark_past, plain}

-- with one bracket more, of no suffix or of an index, and with one less
abbrev pub opened : Levels → Levels
opened at = record { blocks = at.blocks; suffixes = 0 ∷ at.suffixes; dotted = false }

abbrev pub indexed : Levels → Levels
indexed at = record { blocks = at.blocks; suffixes = 0 ∷ with_suffix at.suffixes; dotted = false }

abbrev pub closed : Levels → Levels
closed at = record { blocks = at.blocks; suffixes = outside at.suffixes; dotted = false }

-- what takes a piece that opens a bracket and begins no suffix
abbrev pub IsOpener : Terminal → Type 0
IsOpener s = (at : Levels) (p : Piece) → Takes s p → past at p ≡ opened at

-- the marks that close a bracket
abbrev pub IsClosing : ℕ → Type 0
IsClosing m = (at : Levels) → past_mark m at ≡ closed at

pub opener_mark : (m : ℕ) → ((at : Levels) → past_mark m at ≡ opened at) → IsOpener (The_mark m)
opener_mark m opens at p t = mark_past at m p t ∙ opens at

pub opener_call : (word : List ℕ) → is_item (word ++ codes "(") ≡ false → IsOpener (The_call word)
opener_call word other at (A_token kind.Call bytes) t = ap (λ (b : List ℕ). past at (A_token kind.Call b)) t ∙ rw other refl
opener_call word other at _ t = absurd t

-- neither a kind nor an operation is an item

pub kind_no_item : (k : Kind) → is_item (kind_name k ++ codes "(") ≡ false
kind_no_item sign.Unsigned = refl
kind_no_item sign.Signed = refl

pub operation_no_item : (prim : PrimOp) → is_item (name_of prim ++ codes "(") ≡ false
operation_no_item Add = refl
operation_no_item Sub = refl
operation_no_item Mul = refl
operation_no_item Div = refl
operation_no_item Rem = refl
operation_no_item Lt = refl
operation_no_item Leq = refl
operation_no_item Gt = refl
operation_no_item Geq = refl
operation_no_item Eq = refl
operation_no_item Neq = refl
operation_no_item Pad = refl
operation_no_item AsUInt = refl
operation_no_item AsSInt = refl
operation_no_item AsAsyncReset = refl
operation_no_item Shl = refl
operation_no_item Shr = refl
operation_no_item ShrFour = refl
operation_no_item Dshl = refl
operation_no_item Dshr = refl
operation_no_item Cvt = refl
operation_no_item Neg = refl
operation_no_item Not = refl
operation_no_item And = refl
operation_no_item Or = refl
operation_no_item Xor = refl
operation_no_item Andr = refl
operation_no_item Orr = refl
operation_no_item Xorr = refl
operation_no_item Cat = refl
operation_no_item Bits = refl
operation_no_item Head = refl
operation_no_item Tail = refl

levels_as : {a b : ℕ} {xs ys : List ℕ} → a ≡ b → xs ≡ ys → ◌≡◌ {A = Levels} (record { blocks = a; suffixes = xs; dotted = false }) (record { blocks = b; suffixes = ys; dotted = false })
levels_as e f = rw (e, f) refl

-- what stands outside of a bracket that closes
outside_of : (xs outer : List ℕ) → without_last xs ≡ outer → 0 < length outer → outside xs ≡ outer
outside_of [] outer e some = absurd (let none : length outer ≡ 0 = ap length (sym e) in omega (arith, none, some))
outside_of (x ∷ []) outer e some = absurd (let none : length outer ≡ 0 = ap length (sym e) in omega (arith, none, some))
outside_of (x ∷ y ∷ xs) outer e some = e

-- A bracket is open at i, outside of it stand these levels, and from i to j all is whole: behind what closes at j they stand again.
pub bracketed : {pieces : List Piece} {i j : ℕ} (blocks : ℕ) (outer : List ℕ) (p : Piece) → 0 < length outer → ◌≡◌ {A = Levels} (levels (take i pieces)) (record { blocks = blocks; suffixes = 0 ∷ outer; dotted = false })
    → IsWhole pieces i j → slice_get pieces j ≡ Some p → ((at : Levels) → past at p ≡ closed at)
    → ◌≡◌ {A = Levels} (levels (take (j + 1) pieces)) (record { blocks = blocks; suffixes = outer; dotted = false })
bracketed {pieces} {i} {j} blocks outer p some begins w h closes =
    levels_next pieces j p h ∙ closes (levels (take j pieces)) ∙ levels_as (w.blocks ∙ ap (λ (l : Levels). l.blocks) begins)
    (outside_of (levels (take j pieces)).suffixes outer (w.outer ∙ ap (λ (l : Levels). without_last l.suffixes) begins) some)

length_more : (x : ℕ) (xs : List ℕ) → length (x ∷ xs) ≡ length xs + 1
length_more x xs = omega arith

length_with_suffix : (xs : List ℕ) → length (with_suffix xs) ≡ length xs
length_with_suffix [] = refl
length_with_suffix (x ∷ xs) = refl

outer_with_suffix : (xs : List ℕ) → without_last (with_suffix xs) ≡ without_last xs
outer_with_suffix [] = refl
outer_with_suffix (x ∷ xs) = refl

last_with_suffix : (xs : List ℕ) → 0 < length xs → last_suffixes (with_suffix xs) ≡ last_suffixes xs + 1
last_with_suffix [] h = absurd (omega (arith, h))
last_with_suffix (x ∷ xs) h = refl

-- behind `(`, `{` or a word with its `(`, and behind the mark that closes it
module _ {s : Terminal} {text : List ℕ} {list : List Laid} {i : ℕ} {l : Laid} (opens : IsOpener s) (t : IsTaken s text list i l) where
  pub levels_opened : levels (take (i + 1) (pieces_of text list)) ≡ opened (levels (take i (pieces_of text list)))
  levels_opened = levels_next (pieces_of text list) i (piece_of text l) (piece_at text list i l t.here) ∙ opens (levels (take i (pieces_of text list))) (piece_of text l) t.takes

  pub stands_opened : {brackets : ℕ} → StandsIn (pieces_of text list) i brackets → brackets < most → StandsIn (pieces_of text list) (i + 1) (brackets + 1)
  stands_opened {brackets} stands few =
      let e : length (levels (take (i + 1) (pieces_of text list))).suffixes ≡ length (levels (take i (pieces_of text list))).suffixes + 1 = ap (λ (l : Levels). length l.suffixes) levels_opened ∙ length_more 0 (levels (take i (pieces_of text list))).suffixes in
      record { counted = omega (arith, e, stands.counted); few = omega (arith, few); no_dot = ap (λ (l : Levels). l.dotted) levels_opened }

  pub begins_opened : {brackets : ℕ} → StandsIn (pieces_of text list) i brackets → brackets < most → BeginsType (pieces_of text list) (i + 1) (brackets + 1)
  begins_opened stands few = record { stands = stands_opened stands few; no_suffix = ap (λ (l : Levels). last_suffixes l.suffixes) levels_opened }

  module _ {m j : ℕ} {c : Laid} (closes : IsClosing m) (w : IsWhole (pieces_of text list) (i + 1) j) (u : IsTaken (The_mark m) text list j c) where
    pub levels_closed : {brackets : ℕ} → StandsIn (pieces_of text list) i brackets → levels (take (j + 1) (pieces_of text list)) ≡ plain (levels (take i (pieces_of text list)))
    levels_closed stands = bracketed (levels (take i (pieces_of text list))).blocks (levels (take i (pieces_of text list))).suffixes (piece_of text c) (rw stands.counted (omega arith)) levels_opened w (piece_at text list j c u.here)
        (λ at. mark_past at m (piece_of text c) u.takes ∙ closes at)

    pub whole_closed : {brackets : ℕ} → StandsIn (pieces_of text list) i brackets → IsWhole (pieces_of text list) i (j + 1)
    whole_closed {brackets} stands = record {
      blocks = ap (λ (l : Levels). l.blocks) (levels_closed stands);
      outer = ap (λ (l : Levels). without_last l.suffixes) (levels_closed stands);
      some = let e : length (levels (take (j + 1) (pieces_of text list))).suffixes ≡ brackets + 1 = ap (λ (l : Levels). length l.suffixes) (levels_closed stands) ∙ stands.counted in omega (arith, e);
      no_dot = ap (λ (l : Levels). l.dotted) (levels_closed stands);
    }

    pub begins_closed : {brackets : ℕ} → BeginsType (pieces_of text list) i brackets → BeginsType (pieces_of text list) (j + 1) brackets
    begins_closed begins = record { stands = whole_stands (whole_closed begins.stands) begins.stands; no_suffix = ap (λ (l : Levels). last_suffixes l.suffixes) (levels_closed begins.stands) ∙ begins.no_suffix }

-- behind `[`, and behind the `]` that closes it
module _ {text : List ℕ} {list : List Laid} {i : ℕ} {l : Laid} (t : IsTaken (The_mark 91) text list i l) where
  pub levels_indexed : levels (take (i + 1) (pieces_of text list)) ≡ indexed (levels (take i (pieces_of text list)))
  levels_indexed = levels_next (pieces_of text list) i (piece_of text l) (piece_at text list i l t.here) ∙ mark_past (levels (take i (pieces_of text list))) 91 (piece_of text l) t.takes

  pub stands_indexed : {brackets : ℕ} → StandsIn (pieces_of text list) i brackets → brackets < most → StandsIn (pieces_of text list) (i + 1) (brackets + 1)
  stands_indexed {brackets} stands few =
      let e : length (levels (take (i + 1) (pieces_of text list))).suffixes ≡ length (with_suffix (levels (take i (pieces_of text list))).suffixes) + 1 = ap (λ (l : Levels). length l.suffixes) levels_indexed ∙ length_more 0 (with_suffix (levels (take i (pieces_of text list))).suffixes) in
      let same = length_with_suffix (levels (take i (pieces_of text list))).suffixes in
      record { counted = omega (arith, e, same, stands.counted); few = omega (arith, few); no_dot = ap (λ (l : Levels). l.dotted) levels_indexed }

  module _ {j : ℕ} {c : Laid} (w : IsWhole (pieces_of text list) (i + 1) j) (u : IsTaken (The_mark 93) text list j c) where
    pub levels_behind_index : {brackets : ℕ} → StandsIn (pieces_of text list) i brackets → ◌≡◌ {A = Levels} (levels (take (j + 1) (pieces_of text list)))
        (record { blocks = (levels (take i (pieces_of text list))).blocks; suffixes = with_suffix (levels (take i (pieces_of text list))).suffixes; dotted = false })
    levels_behind_index {brackets} stands = bracketed (levels (take i (pieces_of text list))).blocks (with_suffix (levels (take i (pieces_of text list))).suffixes) (piece_of text c)
        (let e : length (with_suffix (levels (take i (pieces_of text list))).suffixes) ≡ brackets + 1 = length_with_suffix (levels (take i (pieces_of text list))).suffixes ∙ stands.counted in omega (arith, e)) levels_indexed w (piece_at text list j c u.here)
        (λ at. mark_past at 93 (piece_of text c) u.takes)

    pub whole_index : {brackets : ℕ} → StandsIn (pieces_of text list) i brackets → IsWhole (pieces_of text list) i (j + 1)
    whole_index {brackets} stands = record {
      blocks = ap (λ (l : Levels). l.blocks) (levels_behind_index stands);
      outer = ap (λ (l : Levels). without_last l.suffixes) (levels_behind_index stands) ∙ outer_with_suffix (levels (take i (pieces_of text list))).suffixes;
      some = let e : length (levels (take (j + 1) (pieces_of text list))).suffixes ≡ brackets + 1 = ap (λ (l : Levels). length l.suffixes) (levels_behind_index stands) ∙ length_with_suffix (levels (take i (pieces_of text list))).suffixes ∙ stands.counted in omega (arith, e);
      no_dot = ap (λ (l : Levels). l.dotted) (levels_behind_index stands);
    }

    -- one suffix more
    pub suffixes_index : {brackets : ℕ} → StandsIn (pieces_of text list) i brackets → last_suffixes (levels (take (j + 1) (pieces_of text list))).suffixes ≡ last_suffixes (levels (take i (pieces_of text list))).suffixes + 1
    suffixes_index {brackets} stands = ap (λ (l : Levels). last_suffixes l.suffixes) (levels_behind_index stands) ∙ last_with_suffix (levels (take i (pieces_of text list))).suffixes (rw stands.counted (omega arith))
