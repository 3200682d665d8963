-- A reader that moves behind one part.
use Rattle.std.proofs.Common.{◌≡◌, nat_le, Bool, true, bytes_eq, IsTrue, ℕ, ◌+◌, ◌-◌, ◌<◌, ◌≤◌, false, List, [], ◌∷◌, ◌++◌, codes, length, take, drop, refl, sym, ap, ◌∙◌, subst, arith, slice_get, Option, Some, None, Result, Ok, Err, IfOk, ⊎_elim, length-append}
use Rattle.std.specs.Prelude.{◌↔◌}
use Rattle.std.specs.Option.{IfSome}
use Rattle.std.proofs.lemmas.Slice.Eq.{bytes_eq-Decides}
use Rattle.std.proofs.lemmas.List.{append_cancel_right}
use Rattle.std.proofs.lemmas.Option.{slice_get_within}
use Rattle.fir_lexer.specs.declared.token.TokenKind.TheVariants as kind
use Rattle.fir_lexer.specs.declared.token.TokenKind.{TokenKind}
use Rattle.fir_lexer.specs.declared.token.Token.{Token}
use Rattle.fir_layout.specs.declared.laid.Laid.{Laid}
use Rattle.fir_layout.specs.declared.laid.Laid.TheVariants.{Item, LineEnd, Open, Close, End}
use Rattle.fir_layout.specs.Layout.{tokens_in, token_in}
use Rattle.fir_layout.specs.Pieces.{Piece, A_token, A_line_end, A_block_opens, A_block_closes, The_end, bytes_of, piece_of, pieces_of}
use Rattle.place_text.specs.Places.{place}
use Rattle.fir_tree.specs.declared.fault.ParseFault.{ParseFault}
use Rattle.fir_tree.specs.declared.fault.ParseFault.TheVariants.{NoMemory, TooDeep}
use Rattle.fir_grammar.specs.Grammar.{Terminal, The_word, The_call, The_mark, The_arrow, A_name, A_number, A_format, Line_ends, Opens, Closes, Ends, Takes, Kept, Nothing, Its_place, Its_name, Its_magnitude, Its_pieces, Symbol, Is, A, Rule, Tree, no_symbol, a_piece, a_place, a_name, a_magnitude, a_format, start_of}
use Rattle.fir_grammar.specs.Faults.{Levels, levels, past, is_deep, is_item, closed, afresh, last_suffixes, without_last, most}
use Rattle.fir_grammar.specs.Reading.{HasRead, no_memory}
use Rattle.fir_expr.specs.declared.reader.Reader.{Reader}
use Rattle.token_reader.specs.Standing.{IsWhole, wanted}
use Rattle.token_reader.proofs.Composition.{piece_at, drop_at, read_piece, refused_deep}
use Rattle.fir_types.specs.declared.name.Name.{Name}
use Rattle.place_text.specs.declared.place.Place.{Place}
use Rattle.token_reader.specs.Parts.{IsNumberAt, IsNameAt}
use Rattle.fir_grammar.proofs.Cases.{some_injective}
use Rattle.token_reader.proofs.Depth.{levels_next}
use Rattle.fir_parser.specs.Taking.{pieces, here, blocks_at, StandsAt, IsFresh, HasTaken, Refuses, Passes, Steps, IsInText}
use Rattle.fir_parser.specs.declared.symbols.Expected.{Expected}
use Rattle.fir_parser.specs.declared.symbols.Expected.TheVariants as expected
use Rattle.fir_tree.specs.declared.print.Piece.{Piece as PrintPiece}
use Rattle.item_lines.specs.Formats.{shows, IsFormat, IsQuotedFormat, quoted}
use Rattle.fir_parser.specs.Expected.{terminal, IsQuiet, IsQuietMark, Meets, NamesHere, IsFormatHere}

-- behind the piece as many brackets are open, and it doesn't go too deep
pub record Calms (at : Levels) (p : Piece) : Type 0 where
  pub one : length (past at p).suffixes ≡ 1
  pub no_dot : (past at p).dotted ≡ false
  pub flat : is_deep at p ≡ false

-- and the same blocks
pub record Quiets (at : Levels) (p : Piece) : Type 0 where
  pub calm : Calms at p
  pub blocks : (past at p).blocks ≡ at.blocks
  pub fresh : last_suffixes at.suffixes ≡ 0 → last_suffixes (past at p).suffixes ≡ 0

length_afresh : (ns : List ℕ) → length (afresh ns) ≡ length ns
length_afresh [] = refl
length_afresh (n ∷ ns) = refl

pub last_afresh : (ns : List ℕ) → last_suffixes (afresh ns) ≡ 0
last_afresh [] = refl
last_afresh (n ∷ ns) = refl

pub quiet_word : (at : Levels) (bytes : List ℕ) → length at.suffixes ≡ 1 → at.dotted ≡ false → Quiets at (A_token kind.Word bytes)
quiet_word at bytes one no_dot = record {
  calm = record { one = rw no_dot (length_afresh at.suffixes ∙ one); no_dot = refl; flat = refl };
  blocks = refl;
  fresh = λ h. rw no_dot (last_afresh at.suffixes);
}

pub quiet_quoted : (at : Levels) (bytes : List ℕ) → length at.suffixes ≡ 1 → at.dotted ≡ false → Quiets at (A_token kind.Quoted bytes)
quiet_quoted at bytes one no_dot = record {
  calm = record { one = rw no_dot (length_afresh at.suffixes ∙ one); no_dot = refl; flat = refl };
  blocks = refl;
  fresh = λ h. rw no_dot (last_afresh at.suffixes);
}

pub quiet_digits : (at : Levels) (bytes : List ℕ) → length at.suffixes ≡ 1 → at.dotted ≡ false → Quiets at (A_token kind.Digits bytes)
quiet_digits at bytes one no_dot = record {
  calm = record { one = rw no_dot (length_afresh at.suffixes ∙ one); no_dot = refl; flat = refl };
  blocks = refl;
  fresh = λ h. rw no_dot (last_afresh at.suffixes);
}

pub quiet_plain : (at : Levels) (p : Piece) → length at.suffixes ≡ 1 → (past at p).blocks ≡ at.blocks → (past at p).suffixes ≡ at.suffixes → (past at p).dotted ≡ false → is_deep at p ≡ false → Quiets at p
quiet_plain at p one blocks same no_dot flat = record {
  calm = record { one = ap length same ∙ one; no_dot = no_dot; flat = flat };
  blocks = blocks;
  fresh = λ h. ap last_suffixes same ∙ h;
}

-- words, the words of items with their `(`, names, numbers, formats, `:`, `=`, `)`, `=>`, the end of a line and the end of the text
abbrev pub IsCalm : Terminal → Type 0
IsCalm (The_word text) = Unit {0}
IsCalm (The_call text) = is_item (text ++ codes "(") ≡ true
IsCalm (A_format n) = Unit {0}
IsCalm (The_mark m) = IsQuietMark m
IsCalm The_arrow = Unit {0}
IsCalm A_name = Unit {0}
IsCalm A_number = Unit {0}
IsCalm Line_ends = Unit {0}
IsCalm Ends = Unit {0}
IsCalm _ = ⊥

-- the mark is this one
same_mark : {at : Levels} {m n : ℕ} {bytes : List ℕ} (k : ℕ) → n ≡ m → m ≡ k → Quiets at (A_token (kind.Mark k) bytes) → Quiets at (A_token (kind.Mark n) bytes)
same_mark {at} {m} {n} {bytes} k e c q = subst (λ (x : ℕ). Quiets at (A_token (kind.Mark x) bytes)) (sym (e ∙ c)) q

-- where no bracket is open that is counted, a `)` closes none
closed_alone : (ns : List ℕ) → length ns ≡ 1 → closed ns ≡ ns
closed_alone [] one = cc
closed_alone (n ∷ []) one = refl
closed_alone (n ∷ m ∷ ns) one = absurd (omega (arith, one))

quiet_mark : (at : Levels) (m n : ℕ) (bytes : List ℕ) → length at.suffixes ≡ 1 → n ≡ m → IsQuietMark m → Quiets at (A_token (kind.Mark n) bytes)
quiet_mark at m n bytes one e c = ⊎_elim (λ colon. same_mark 58 e colon (quiet_plain at (A_token (kind.Mark 58) bytes) one refl refl refl refl))
    (λ d. ⊎_elim (λ equals. same_mark 61 e equals (quiet_plain at (A_token (kind.Mark 61) bytes) one refl refl refl refl))
    (λ close. same_mark 41 e close (quiet_plain at (A_token (kind.Mark 41) bytes) one refl (closed_alone at.suffixes one) refl refl)) d) c

-- the word of an item, with a `(` that isn't counted
quiet_call : (at : Levels) (text bytes : List ℕ) → length at.suffixes ≡ 1 → bytes ≡ text ++ codes "(" → is_item (text ++ codes "(") ≡ true → Quiets at (A_token kind.Call bytes)
quiet_call at text bytes one e item = let here : is_item bytes ≡ true = ap is_item e ∙ item in quiet_plain at (A_token kind.Call bytes) one refl (rw here refl) refl (rw here refl)

pub quiets : (at : Levels) (s : Terminal) (p : Piece) → IsCalm s → Takes s p → length at.suffixes ≡ 1 → at.dotted ≡ false → Quiets at p
quiets at (The_word text) (A_token kind.Word bytes) c h one no_dot = quiet_word at bytes one no_dot
quiets at (The_word text) _ c h one no_dot = absurd h
quiets at (The_call text) (A_token kind.Call bytes) c h one no_dot = quiet_call at text bytes one h c
quiets at (The_call text) _ c h one no_dot = absurd h
quiets at (A_format n) (A_token kind.Text bytes) c h one no_dot = quiet_plain at (A_token kind.Text bytes) one refl refl refl refl
quiets at (A_format n) _ c h one no_dot = absurd h
quiets at (The_mark m) (A_token (kind.Mark n) bytes) c h one no_dot = quiet_mark at m n bytes one h c
quiets at (The_mark m) _ c h one no_dot = absurd h
quiets at The_arrow (A_token kind.Arrow bytes) c h one no_dot = quiet_plain at (A_token kind.Arrow bytes) one refl refl refl refl
quiets at The_arrow _ c h one no_dot = absurd h
quiets at A_name (A_token kind.Word bytes) c h one no_dot = quiet_word at bytes one no_dot
quiets at A_name (A_token kind.Quoted bytes) c h one no_dot = quiet_quoted at bytes one no_dot
quiets at A_name _ c h one no_dot = absurd h
quiets at A_number (A_token kind.Digits bytes) c h one no_dot = quiet_digits at bytes one no_dot
quiets at A_number _ c h one no_dot = absurd h
quiets at Line_ends A_line_end c h one no_dot = quiet_plain at A_line_end one refl refl refl refl
quiets at Line_ends _ c h one no_dot = absurd h
quiets at Ends The_end c h one no_dot = quiet_plain at The_end one refl refl refl refl
quiets at Ends _ c h one no_dot = absurd h
quiets at _ _ c h one no_dot = absurd c

-- what is open behind a part, and what is left to read

pub here_next : (old new : Reader) (l : Laid) → new.bytes.now ≡ old.bytes.now → new.laid.now ≡ old.laid.now → new.at ≡ old.at + 1 → slice_get old.laid.now old.at ≡ Some l
    → here new ≡ past (here old) (piece_of old.bytes.now l)
here_next old new l bytes laid at stands =
    rw (bytes, laid, at) (levels_next (pieces_of old.bytes.now old.laid.now) old.at (piece_of old.bytes.now l) (piece_at old.bytes.now old.laid.now old.at l stands))

pub left_tokens : (list : List Laid) (i : ℕ) (l : Laid) → slice_get list i ≡ Some l → length (tokens_in (drop i list)) ≡ length (token_in l) + length (tokens_in (drop (i + 1) list))
left_tokens list i l h = ap (λ (ls : List Laid). length (tokens_in ls)) (drop_at list i l h) ∙ length-append (token_in l) (tokens_in (drop (i + 1) list))

pub stands_next : (old new : Reader) (l : Laid) → StandsAt old → new.bytes.now ≡ old.bytes.now → new.laid.now ≡ old.laid.now → new.at ≡ old.at + 1 → new.brackets ≡ old.brackets
    → slice_get old.laid.now old.at ≡ Some l → length new.names ≤ length old.names + length (token_in l) → Calms (here old) (piece_of old.bytes.now l) → StandsAt new
stands_next old new l s bytes laid at brackets stands grows calm =
    let next : here new ≡ past (here old) (piece_of old.bytes.now l) = here_next old new l bytes laid at stands in
    let inside : old.at < length old.laid.now = slice_get_within old.laid.now old.at l stands in
    let left : length (tokens_in (drop old.at old.laid.now)) ≡ length (token_in l) + length (tokens_in (drop (old.at + 1) old.laid.now)) = left_tokens old.laid.now old.at l stands in
    let before = s.room in
    record {
      short = rw bytes s.short;
      laid = rw (bytes, laid) s.laid;
      within = rw (at, laid) (omega (arith, inside));
      room = rw (at, laid) (omega (arith, before, left, grows));
      outside = brackets ∙ s.outside;
      one = rw next calm.one;
      no_dot = rw next calm.no_dot;
    }

-- the terminals, where a part that they take stands

module _ (old new : Reader) (l : Laid) (s : Terminal) where
  pub stands_behind : StandsAt old → IsCalm s → slice_get old.laid.now old.at ≡ Some l → Takes s (piece_of old.bytes.now l) → Steps old new → StandsAt new
  stands_behind at calm stands takes step =
      let quiet : Quiets (here old) (piece_of old.bytes.now l) = quiets (here old) s (piece_of old.bytes.now l) calm takes at.one at.no_dot in
      stands_next old new l at step.bytes step.laid step.at step.brackets stands (rw step.names (omega arith)) quiet.calm

  pub blocks_behind : StandsAt old → IsCalm s → slice_get old.laid.now old.at ≡ Some l → Takes s (piece_of old.bytes.now l) → Steps old new → blocks_at new ≡ blocks_at old
  blocks_behind at calm stands takes step =
      let quiet : Quiets (here old) (piece_of old.bytes.now l) = quiets (here old) s (piece_of old.bytes.now l) calm takes at.one at.no_dot in
      ap (λ (x : Levels). x.blocks) (here_next old new l step.bytes step.laid step.at stands) ∙ quiet.blocks

  pub fresh_behind : StandsAt old → IsCalm s → slice_get old.laid.now old.at ≡ Some l → Takes s (piece_of old.bytes.now l) → Steps old new → IsFresh old → IsFresh new
  fresh_behind at calm stands takes step fresh =
      let quiet : Quiets (here old) (piece_of old.bytes.now l) = quiets (here old) s (piece_of old.bytes.now l) calm takes at.one at.no_dot in
      record { none = ap (λ (x : Levels). last_suffixes x.suffixes) (here_next old new l step.bytes step.laid step.at stands) ∙ quiet.fresh fresh.none }

  flat_here : StandsAt old → IsCalm s → Takes s (piece_of old.bytes.now l) → is_deep (here old) (piece_of old.bytes.now l) ≡ false
  flat_here at calm takes = (quiets (here old) s (piece_of old.bytes.now l) calm takes at.one at.no_dot).calm.flat

  pub taken_flat : slice_get old.laid.now old.at ≡ Some l → Takes s (piece_of old.bytes.now l) → is_deep (here old) (piece_of old.bytes.now l) ≡ false → Steps old new
      → HasTaken (Is Nothing s ∷ []) old new tt
  taken_flat stands takes flat step = record {
    bytes = step.bytes;
    laid = step.laid;
    major = step.major;
    read = rw (step.at, step.names) (read_piece stands takes flat (a_piece takes no_symbol));
  }

  pub taken : StandsAt old → IsCalm s → slice_get old.laid.now old.at ≡ Some l → Takes s (piece_of old.bytes.now l) → Steps old new → HasTaken (Is Nothing s ∷ []) old new tt
  taken at calm stands takes step = taken_flat stands takes (flat_here at calm takes) step

  pub taken_placed : StandsAt old → IsCalm s → slice_get old.laid.now old.at ≡ Some l → Takes s (piece_of old.bytes.now l) → Steps old new
      → HasTaken (Is Its_place s ∷ []) old new (place old.bytes.now (start_of l), tt)
  taken_placed at calm stands takes step = record {
    bytes = step.bytes;
    laid = step.laid;
    major = step.major;
    read = rw (step.at, step.names) (read_piece stands takes (flat_here at calm takes) (a_place takes no_symbol));
  }

-- a word with its `(` is the text with one exactly where the word is the text
pub same_call : (word text call : List ℕ) (b : Bool) → call ≡ word ++ codes "(" → b ≡ bytes_eq word text → IsTrue b ↔ (call ≡ text ++ codes "(")
same_call word text call true is e = (λ t. is ∙ ap (λ (w : List ℕ). w ++ codes "(") ((bytes_eq-Decides word text).0 (sym e)), λ h. refl)
same_call word text call false is e = (λ t. cc, λ h. let same : word ≡ text = append_cancel_right word text (codes "(") (sym is ∙ h) in let equal : bytes_eq word text ≡ true = (bytes_eq-Decides word text).1 same in cc)

-- a string that is a format of pieces, by what stands between its quotes
pub format_found : {E : Type 0} (reader : Reader) (token : Token) (inside : List ℕ) (result : Result (Option (List PrintPiece)) E) → slice_get reader.laid.now reader.at ≡ Some (Item token) → token.kind ≡ kind.Text
    → bytes_of reader.bytes.now token ≡ 34 ∷ (inside ++ 34 ∷ []) → IfOk result (λ read. IfSome read (λ pieces. IsFormat inside pieces)) → IfOk result (λ read. IfSome read (λ pieces. IsFormatHere reader pieces))
format_found reader token inside (Ok (Some pieces)) stands text is f = record { token = token; stands = stands; text = text; is = quoted inside is f }
format_found reader token inside (Ok None) stands text is f = tt
format_found reader token inside (Err e) stands text is f = tt

-- a format with its pieces
module _ (old new : Reader) (pieces : List PrintPiece) (f : IsFormatHere old pieces) where
  takes_format : Takes (A_format (shows pieces)) (piece_of old.bytes.now (Item f.token))
  takes_format = of f.token.kind f.text
    where
      of : (k : TokenKind) → k ≡ kind.Text → Takes (A_format (shows pieces)) (A_token k (bytes_of old.bytes.now f.token))
      of k e = rw e (pieces, f.is, refl)

  pub format_passed : StandsAt old → Steps old new → Passes (Is Its_pieces (A_format (shows pieces)) ∷ []) old new (blocks_at old) (pieces, tt)
  format_passed at step = record {
    taken = record {
      bytes = step.bytes;
      laid = step.laid;
      major = step.major;
      read = rw (step.at, step.names) (read_piece f.stands takes_format (flat_here old new (Item f.token) (A_format (shows pieces)) at tt takes_format) (a_format takes_format f.is no_symbol));
    };
    at = stands_behind old new (Item f.token) (A_format (shows pieces)) at tt f.stands takes_format step;
    blocks = blocks_behind old new (Item f.token) (A_format (shows pieces)) at tt f.stands takes_format step;
  }

-- a word leaves no suffix behind
pub fresh_word : (old new : Reader) (l : Laid) (text : List ℕ) → StandsAt old → slice_get old.laid.now old.at ≡ Some l → Takes (The_word text) (piece_of old.bytes.now l) → Steps old new → IsFresh new
fresh_word old new l text at stands takes step = record {
  none =
      ap (λ (x : Levels). last_suffixes x.suffixes) (here_next old new l step.bytes step.laid step.at stands) ∙ word_fresh (here old) text (piece_of old.bytes.now l) takes at.no_dot;
}
  where
    word_fresh : (at : Levels) (text : List ℕ) (p : Piece) → Takes (The_word text) p → at.dotted ≡ false → last_suffixes (past at p).suffixes ≡ 0
    word_fresh at text (A_token kind.Word bytes) h no_dot = rw no_dot (last_afresh at.suffixes)
    word_fresh at text _ h no_dot = absurd h

-- a part that isn't taken is refused
pub refuses : (keeps : Kept) (s : Terminal) (old : Reader) (fault : ParseFault) → ¬ (Meets s old) → NamesHere old fault → Refuses (Is keeps s ∷ []) old fault
refuses keeps s old fault none names = record { refused = names.refused s none keeps }

pub refuses_memory : (ss : List Symbol) (old : Reader) (fault : ParseFault) → fault ≡ NoMemory → Refuses ss old fault
refuses_memory ss old fault e = record { refused = rw e no_memory }

pub at_part : (s : Terminal) (old : Reader) (l : Laid) → slice_get old.laid.now old.at ≡ Some l → ¬ (Takes s (piece_of old.bytes.now l)) → ¬ (Meets s old)
at_part s old l stands none m = let same : m.laid ≡ l = some_injective (sym m.stands ∙ stands) in none (subst (λ (x : Laid). Takes s (piece_of old.bytes.now x)) same m.takes)

pub calm_expected : (e : Expected) → IsQuiet e → IsCalm (terminal e)
calm_expected (expected.Word text) h = tt
calm_expected (expected.Call text) h = h
calm_expected expected.Name h = tt
calm_expected (expected.Mark m) h = h
calm_expected expected.Arrow h = tt
calm_expected expected.LineEnd h = tt
calm_expected expected.Open h = absurd h
calm_expected expected.Close h = absurd h
calm_expected expected.End h = tt

-- the end of a block

close_is : (old : Reader) (m : Meets Closes old) → piece_of old.bytes.now m.laid ≡ A_block_closes
close_is old m = closes (piece_of old.bytes.now m.laid) m.takes
  where
    closes : (p : Piece) → Takes Closes p → p ≡ A_block_closes
    closes A_block_closes h = refl
    closes _ h = absurd h

pub taken_close : (old new : Reader) → Meets Closes old → Steps old new → HasTaken (Is Nothing Closes ∷ []) old new tt
taken_close old new m step = taken_flat old new m.laid Closes m.stands m.takes (rw (close_is old m) refl) step

pub stands_closed : (old new : Reader) → StandsAt old → Meets Closes old → Steps old new → StandsAt new
stands_closed old new at m step = stands_next old new m.laid at step.bytes step.laid step.at step.brackets m.stands (rw step.names (omega arith))
    (rw (close_is old m) (record { one = at.one; no_dot = refl; flat = refl }))

pub blocks_closed : (old new : Reader) → Meets Closes old → Steps old new → blocks_at new ≡ blocks_at old - 1
blocks_closed old new m step = ap (λ (x : Levels). x.blocks) (here_next old new m.laid step.bytes step.laid step.at m.stands) ∙ ap (λ (p : Piece). (past (here old) p).blocks) (close_is old m)

-- the beginning of a block

open_is : (p : Piece) → Takes Opens p → p ≡ A_block_opens
open_is A_block_opens h = refl
open_is _ h = absurd h

module _ (old new : Reader) (l : Laid) (blocks : ℕ) where
  pub taken_open : slice_get old.laid.now old.at ≡ Some l → Takes Opens (piece_of old.bytes.now l) → blocks_at old ≡ blocks → blocks < most → Steps old new → HasTaken (Is Nothing Opens ∷ []) old new tt
  taken_open stands takes counted few step = taken_flat old new l Opens stands takes (rw (open_is (piece_of old.bytes.now l) takes, counted) (below blocks few)) step
    where
      below : (n : ℕ) → n < most → nat_le most n ≡ false
      below n h = grind arith

  pub stands_opened : StandsAt old → slice_get old.laid.now old.at ≡ Some l → Takes Opens (piece_of old.bytes.now l) → blocks_at old ≡ blocks → blocks < most → Steps old new → StandsAt new
  stands_opened at stands takes counted few step = stands_next old new l at step.bytes step.laid step.at step.brackets stands (rw step.names (omega arith))
      (rw (open_is (piece_of old.bytes.now l) takes) (record { one = at.one; no_dot = refl; flat = rw counted (below blocks few) }))
    where
      below : (n : ℕ) → n < most → nat_le most n ≡ false
      below n h = grind arith

  pub blocks_opened : slice_get old.laid.now old.at ≡ Some l → Takes Opens (piece_of old.bytes.now l) → blocks_at old ≡ blocks → Steps old new → blocks_at new ≡ blocks + 1
  blocks_opened stands takes counted step = ap (λ (x : Levels). x.blocks) (here_next old new l step.bytes step.laid step.at stands)
      ∙ (ap (λ (p : Piece). (past (here old) p).blocks) (open_is (piece_of old.bytes.now l) takes) ∙ ap (λ (n : ℕ). n + 1) counted)

  pub refuses_deep : slice_get old.laid.now old.at ≡ Some l → Takes Opens (piece_of old.bytes.now l) → blocks_at old ≡ blocks → most ≤ blocks
      → Refuses (Is Nothing Opens ∷ []) old (TooDeep (place old.bytes.now (start_of l)))
  refuses_deep stands takes counted many = record { refused = refused_deep Nothing Opens stands takes (rw (open_is (piece_of old.bytes.now l) takes, counted) (above blocks many)) }
    where
      above : (n : ℕ) → most ≤ n → nat_le most n ≡ true
      above n h = grind arith

-- numbers and names

pub taken_number : (old new : Reader) (at : Place) (n : ℕ) → IsNumberAt old.bytes.now old.laid.now old.at at n → Steps old new → HasTaken (Is Its_magnitude A_number ∷ []) old new (n, tt)
taken_number old new at n h step = record {
  bytes = step.bytes;
  laid = step.laid;
  major = step.major;
  read = rw (step.at, step.names) (read_piece h.taken.here h.taken.takes h.taken.flat (a_magnitude h.taken.takes h.is no_symbol));
}

-- where no part is what the terminal takes, it isn't met
pub not_met : (s : Terminal) (reader : Reader) → ((l : Laid) → slice_get reader.laid.now reader.at ≡ Some l → ¬ (Takes s (piece_of reader.bytes.now l))) → ¬ (Meets s reader)
not_met s reader none m = none m.laid m.stands m.takes

name_quiet : (at : Levels) (p : Piece) → Takes A_name p → at.dotted ≡ false → last_suffixes (past at p).suffixes ≡ 0
name_quiet at (A_token kind.Word bytes) h no_dot = rw no_dot (last_afresh at.suffixes)
name_quiet at (A_token kind.Quoted bytes) h no_dot = rw no_dot (last_afresh at.suffixes)
name_quiet at _ h no_dot = absurd h

-- the reader moved behind a name
pub record StepsName (old new : Reader) (name : Name) : Type 0 where
  pub bytes : new.bytes.now ≡ old.bytes.now
  pub laid : new.laid.now ≡ old.laid.now
  pub at : new.at ≡ old.at + 1
  pub brackets : new.brackets ≡ old.brackets
  pub major : new.major ≡ old.major
  pub named : IsNameAt A_name old.bytes.now old.laid.now old.at old.names name new.names

module _ (old new : Reader) (name : Name) (at : StandsAt old) (step : StepsName old new name) where
  quiet_name : Quiets (here old) (piece_of old.bytes.now (Item step.named.token))
  quiet_name = quiets (here old) A_name (piece_of old.bytes.now (Item step.named.token)) tt step.named.taken.takes at.one at.no_dot

  pub stands_named : StandsAt new
  stands_named = stands_next old new (Item step.named.token) at step.bytes step.laid step.at step.brackets step.named.taken.here step.named.grows quiet_name.calm

  pub blocks_named : blocks_at new ≡ blocks_at old
  blocks_named = ap (λ (x : Levels). x.blocks) (here_next old new (Item step.named.token) step.bytes step.laid step.at step.named.taken.here) ∙ quiet_name.blocks

  pub fresh_named : IsFresh new
  fresh_named = record {
    none =
        ap (λ (x : Levels). last_suffixes x.suffixes) (here_next old new (Item step.named.token) step.bytes step.laid step.at step.named.taken.here)
        ∙ name_quiet (here old) (piece_of old.bytes.now (Item step.named.token)) step.named.taken.takes at.no_dot;
  }

  pub taken_name : HasTaken (Is Its_name A_name ∷ []) old new (name, tt)
  taken_name =
      let same : record { id = name.id; place = place old.bytes.now step.named.token.start } ≡ name = ap (λ (p : Place). record { id = name.id; place = p }) (sym step.named.place) in
      let read = read_piece step.named.taken.here step.named.taken.takes step.named.taken.flat (a_name step.named.taken.takes step.named.adds no_symbol) in
      record {
        bytes = step.bytes;
        laid = step.laid;
        major = step.major;
        read = rw step.at (subst (λ (n : Name). HasRead old.major (Is Its_name A_name ∷ []) old.bytes.now old.laid.now old.at old.names (n, tt) (old.at + 1) new.names) same read);
      }

-- a part begins in its text
pub part_begins : (text : List ℕ) (part : Laid) → IsInText text part → start_of part ≤ length text
part_begins text (Item token) inside = omega (arith, inside.0, inside.1)
part_begins text (LineEnd at) inside = inside
part_begins text (Open at) inside = inside
part_begins text (Close at) inside = inside
part_begins text (End at) inside = inside

-- behind what is whole as many blocks and brackets are open

one_again : (ns ms : List ℕ) → length ns ≡ 1 → without_last ms ≡ without_last ns → 0 < length ms → length ms ≡ 1
one_again [] ms one outer some = omega (arith, one)
one_again (n ∷ ns) [] one outer some = omega (arith, some)
one_again (n ∷ ns) (m ∷ ms) one outer some = let same : length ms ≡ length ns = ap (λ (inner : List ℕ). length inner) outer in omega (arith, same, one)

same_levels : (text as_text : List ℕ) (list as_list : List Laid) (n : ℕ) → text ≡ as_text → list ≡ as_list → levels (take n (pieces_of text list)) ≡ levels (take n (pieces_of as_text as_list))
same_levels text as_text list as_list n e f = rw (e, f) refl

pub stands_whole : (old new : Reader) → StandsAt old → new.bytes.now ≡ old.bytes.now → new.laid.now ≡ old.laid.now → new.brackets ≡ old.brackets → new.at ≤ length old.laid.now
    → IsWhole (pieces old) old.at new.at → wanted new.names old.laid.now new.at ≤ wanted old.names old.laid.now old.at → StandsAt new
stands_whole old new start bytes laid brackets within whole room = record {
  short = rw bytes start.short;
  laid = rw (bytes, laid) start.laid;
  within = rw laid within;
  room = rw laid (omega (arith, room, start.room));
  outside = brackets ∙ start.outside;
  one = ap (λ (l : Levels). length l.suffixes) (same_levels new.bytes.now old.bytes.now new.laid.now old.laid.now new.at bytes laid)
      ∙ one_again (here old).suffixes (levels (take new.at (pieces old))).suffixes start.one whole.outer whole.some;
  no_dot = ap (λ (l : Levels). l.dotted) (same_levels new.bytes.now old.bytes.now new.laid.now old.laid.now new.at bytes laid) ∙ whole.no_dot;
}

pub blocks_whole : (old new : Reader) → new.bytes.now ≡ old.bytes.now → new.laid.now ≡ old.laid.now → IsWhole (pieces old) old.at new.at → blocks_at new ≡ blocks_at old
blocks_whole old new bytes laid whole = ap (λ (l : Levels). l.blocks) (same_levels new.bytes.now old.bytes.now new.laid.now old.laid.now new.at bytes laid) ∙ whole.blocks

pub passes_whole : {r : Rule} {v : Tree r} (old new : Reader) → StandsAt old → new.bytes.now ≡ old.bytes.now → new.laid.now ≡ old.laid.now → new.brackets ≡ old.brackets → new.major ≡ old.major
    → HasRead old.major (A r ∷ []) old.bytes.now old.laid.now old.at old.names (v, tt) new.at new.names → IsWhole (pieces old) old.at new.at → wanted new.names old.laid.now new.at ≤ wanted old.names old.laid.now old.at
    → Passes (A r ∷ []) old new (blocks_at old) (v, tt)
passes_whole old new start bytes laid brackets major read whole room = record {
  taken = record { bytes = bytes; laid = laid; major = major; read = read };
  at = stands_whole old new start bytes laid brackets read.within whole room;
  blocks = blocks_whole old new bytes laid whole;
}
