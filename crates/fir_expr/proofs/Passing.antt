-- What is passed piece by piece is passed as a whole: read, with its brackets closed, and with no more names than tokens.
use Rattle.std.proofs.Common.{◌≡◌, ℕ, ◌+◌, ◌≤◌, Bool, false, if◌then◌else◌, List, [], ◌∷◌, ◌++◌, length, take, drop, slice_get, Some, refl, ◌∙◌, ap, arith, length-append}
use Rattle.place_text.specs.declared.place.Place.{Place}
use Rattle.place_text.specs.Places.{place}
use Rattle.fir_lexer.specs.declared.token.Token.{Token}
use Rattle.fir_lexer.specs.declared.token.TokenKind.TheVariants as kind
use Rattle.fir_types.specs.declared.name.Name.{Name}
use Rattle.fir_layout.specs.declared.laid.Laid.{Laid}
use Rattle.fir_layout.specs.declared.laid.Laid.TheVariants.{Item}
use Rattle.fir_layout.specs.Layout.{token_in, tokens_in}
use Rattle.fir_layout.specs.Pieces.{Piece, A_token, piece_of, pieces_of, bytes_of}
use Rattle.fir_grammar.specs.Grammar.{Terminal, The_word, The_mark, A_name, A_field, A_number, Takes, Nothing, Its_place, Its_name, Its_magnitude, Its_place_and_magnitude, Symbol, Is, A, Rule, IsCase, tree, Values, start_of, name_in, no_symbol, a_piece, a_place, a_name, a_magnitude, a_placed_magnitude}
use Rattle.fir_grammar.specs.Faults.{Levels, levels, past, past_text, past_mark, afresh, last_suffixes, without_last}
use Rattle.fir_tree.specs.Numbered.{AddsName}
use Rattle.fir_grammar.specs.Reading.{HasRead}
use Rattle.token_reader.specs.Standing.{StandsIn, BeginsType, IsWhole, wanted}
use Rattle.token_reader.specs.Parts.{IsTaken, IsNumberAt, IsNameAt}
use Rattle.fir_expr.specs.Parts.{HasPassed}
use Rattle.token_reader.proofs.Composition.{joined, read_then, read_case, read_piece, Enters, piece_at, drop_at}
use Rattle.token_reader.proofs.Depth.{levels_next, whole_stands, whole_then}

-- pieces and levels

outer_afresh : (xs : List ℕ) → without_last (afresh xs) ≡ without_last xs
outer_afresh [] = refl
outer_afresh (x ∷ xs) = refl

length_afresh : (xs : List ℕ) → length (afresh xs) ≡ length xs
length_afresh [] = refl
length_afresh (x ∷ xs) = refl

last_afresh : (xs : List ℕ) → last_suffixes (afresh xs) ≡ 0
last_afresh [] = refl
last_afresh (x ∷ xs) = refl

-- behind a name or digits that belong to no `.` before them
module _ {pieces : List Piece} {i brackets : ℕ} (p : Piece) (s : StandsIn pieces i brackets) (h : slice_get pieces i ≡ Some p) (text : past (levels (take i pieces)) p ≡ past_text (levels (take i pieces))) where
  suffixes_text : (levels (take (i + 1) pieces)).suffixes ≡ afresh (levels (take i pieces)).suffixes
  suffixes_text = ap (λ (l : Levels). l.suffixes) (levels_next pieces i p h ∙ text) ∙ ap (λ (b : Bool). if b then (levels (take i pieces)).suffixes else afresh (levels (take i pieces)).suffixes) s.no_dot

  pub whole_text : IsWhole pieces i (i + 1)
  whole_text = record {
    blocks = ap (λ (l : Levels). l.blocks) (levels_next pieces i p h ∙ text);
    outer = ap without_last suffixes_text ∙ outer_afresh (levels (take i pieces)).suffixes;
    some = let e : length (levels (take (i + 1) pieces)).suffixes ≡ brackets + 1 = ap length suffixes_text ∙ length_afresh (levels (take i pieces)).suffixes ∙ s.counted in omega (arith, e);
    no_dot = ap (λ (l : Levels). l.dotted) (levels_next pieces i p h ∙ text);
  }

  pub begins_text : BeginsType pieces (i + 1) brackets
  begins_text = record { stands = whole_stands whole_text s; no_suffix = ap last_suffixes suffixes_text ∙ last_afresh (levels (take i pieces)).suffixes }

-- the levels with the brackets and suffixes as they are
abbrev pub plain : Levels → Levels
plain at = record { blocks = at.blocks; suffixes = at.suffixes; dotted = false }

-- behind a mark that is no bracket and no `.`
module _ {pieces : List Piece} {i brackets : ℕ} (p : Piece) (s : StandsIn pieces i brackets) (h : slice_get pieces i ≡ Some p) (same : past (levels (take i pieces)) p ≡ plain (levels (take i pieces))) where
  pub whole_plain : IsWhole pieces i (i + 1)
  whole_plain = record {
    blocks = ap (λ (l : Levels). l.blocks) (levels_next pieces i p h ∙ same);
    outer = ap (λ (l : Levels). without_last l.suffixes) (levels_next pieces i p h ∙ same);
    some = let e : length (levels (take (i + 1) pieces)).suffixes ≡ brackets + 1 = ap (λ (l : Levels). length l.suffixes) (levels_next pieces i p h ∙ same) ∙ s.counted in omega (arith, e);
    no_dot = ap (λ (l : Levels). l.dotted) (levels_next pieces i p h ∙ same);
  }

  pub suffixes_plain : last_suffixes (levels (take (i + 1) pieces)).suffixes ≡ last_suffixes (levels (take i pieces)).suffixes
  suffixes_plain = ap (λ (l : Levels). last_suffixes l.suffixes) (levels_next pieces i p h ∙ same)

-- the marks that change nothing
abbrev pub IsPlain : ℕ → Type 0
IsPlain m = (at : Levels) → past_mark m at ≡ plain at

pub mark_past : (at : Levels) (m : ℕ) (p : Piece) → Takes (The_mark m) p → past at p ≡ past_mark m at
mark_past at m (A_token (kind.Mark n) bytes) same = ap (λ (x : ℕ). past_mark x at) same
mark_past at m _ none = absurd none

-- the terminals that take a word, a name or digits
abbrev pub IsTexts : Terminal → Type 0
IsTexts A_number = Unit {0}
IsTexts A_name = Unit {0}
IsTexts A_field = Unit {0}
IsTexts (The_word w) = Unit {0}
IsTexts _ = ⊥

-- room

pub room_step : (names : List (List ℕ)) (list : List Laid) (i : ℕ) (l : Laid) → slice_get list i ≡ Some l → wanted names list (i + 1) ≤ wanted names list i
room_step names list i l h =
    let split : length (tokens_in (drop i list)) ≡ length (token_in l) + length (tokens_in (drop (i + 1) list)) = ap (λ (ls : List Laid). length (tokens_in ls)) (drop_at list i l h) ∙ length-append (token_in l) (tokens_in (drop (i + 1) list)) in
    omega (arith, split)

pub room_name : (names after : List (List ℕ)) (list : List Laid) (i : ℕ) (token : Token) → slice_get list i ≡ Some (Item token) → length after ≤ length names + 1 → wanted after list (i + 1) ≤ wanted names list i
room_name names after list i token h grows =
    let split : length (tokens_in (drop i list)) ≡ 1 + length (tokens_in (drop (i + 1) list)) = ap (λ (ls : List Laid). length (tokens_in ls)) (drop_at list i (Item token) h) ∙ length-append (token ∷ []) (tokens_in (drop (i + 1) list)) in
    omega (arith, split, grows)

-- composition

pub passed_then : {major : ℕ} {ss more : List Symbol} {text : List ℕ} {list : List Laid} {i j k : ℕ} {names between after : List (List ℕ)} {vs : Values ss} {ws : Values more}
    → HasPassed major ss text list i names vs j between → HasPassed major more text list j between ws k after → HasPassed major (ss ++ more) text list i names (joined ss more vs ws) k after
passed_then a b = record { read = read_then a.read b.read; whole = whole_then a.whole b.whole; room = omega (arith, a.room, b.room) }

pub passed_case : {major : ℕ} {r : Rule} {body : List Symbol} {text : List ℕ} {list : List Laid} {i j : ℕ} {names after : List (List ℕ)} {ws : Values body} (case : IsCase r body)
    → Enters (pieces_of text list) i case → HasPassed major body text list i names ws j after → HasPassed major (A r ∷ []) text list i names (tree major case ws, tt) j after
passed_case case enters h = record { read = read_case case enters h.read; whole = h.whole; room = h.room }

-- single pieces

pub read_mark : {major : ℕ} {m : ℕ} {text : List ℕ} {list : List Laid} {i : ℕ} (names : List (List ℕ)) {l : Laid} → IsTaken (The_mark m) text list i l → HasRead major (Is Nothing (The_mark m) ∷ []) text list i names tt (i + 1) names
read_mark names t = read_piece t.here t.takes t.flat (a_piece t.takes no_symbol)

pub read_placed : {major : ℕ} {s : Terminal} {text : List ℕ} {list : List Laid} {i : ℕ} (names : List (List ℕ)) {l : Laid} → IsTaken s text list i l
    → HasRead major (Is Its_place s ∷ []) text list i names (place text (start_of l), tt) (i + 1) names
read_placed names t = read_piece t.here t.takes t.flat (a_place t.takes no_symbol)

pub read_magnitude_at : {major : ℕ} {text : List ℕ} {list : List Laid} {i n : ℕ} (names : List (List ℕ)) {at : Place} → IsNumberAt text list i at n → HasRead major (Is Its_magnitude A_number ∷ []) text list i names (n, tt) (i + 1) names
read_magnitude_at names t = read_piece t.taken.here t.taken.takes t.taken.flat (a_magnitude t.taken.takes t.is no_symbol)

pub read_placed_magnitude : {major : ℕ} {text : List ℕ} {list : List Laid} {i n : ℕ} (names : List (List ℕ)) {at : Place} → IsNumberAt text list i at n
    → HasRead major (Is Its_place_and_magnitude A_number ∷ []) text list i names (at, (n, tt)) (i + 1) names
read_placed_magnitude names t = rw t.place (read_piece t.taken.here t.taken.takes t.taken.flat (a_placed_magnitude t.taken.takes t.is no_symbol))

name_read : {major : ℕ} (s : Terminal) (text : List ℕ) (list : List Laid) (i : ℕ) (names after : List (List ℕ)) (id : ℕ) (at : Place) (token : Token) → IsTaken s text list i (Item token)
    → AddsName names after (name_in token.kind (bytes_of text token)) id → at ≡ place text token.start → HasRead major (Is Its_name s ∷ []) text list i names (record { id = id; place = at }, tt) (i + 1) after
name_read s text list i names after id at token t adds e = rw e (read_piece t.here t.takes t.flat (a_name t.takes adds no_symbol))

pub read_name_at : {major : ℕ} {s : Terminal} {text : List ℕ} {list : List Laid} {i : ℕ} {names after : List (List ℕ)} {name : Name} → IsNameAt s text list i names name after
    → HasRead major (Is Its_name s ∷ []) text list i names (name, tt) (i + 1) after
read_name_at {s} {text} {list} {i} {names} {after} {name} t = name_read s text list i names after name.id name.place t.token t.taken t.adds t.place

pub passed_mark : {major : ℕ} (m : ℕ) {text : List ℕ} {list : List Laid} {i brackets : ℕ} (names : List (List ℕ)) {l : Laid} → StandsIn (pieces_of text list) i brackets → IsPlain m → IsTaken (The_mark m) text list i l
    → HasPassed major (Is Nothing (The_mark m) ∷ []) text list i names tt (i + 1) names
passed_mark m {text} {list} {i} names {l} s simple t = record {
  read = read_mark names t;
  whole = whole_plain (piece_of text l) s (piece_at text list i l t.here) (mark_past (levels (take i (pieces_of text list))) m (piece_of text l) t.takes ∙ simple (levels (take i (pieces_of text list))));
  room = room_step names list i l t.here;
}

pub begins_mark : (m : ℕ) {text : List ℕ} {list : List Laid} {i brackets : ℕ} {l : Laid} → BeginsType (pieces_of text list) i brackets → IsPlain m → IsTaken (The_mark m) text list i l
    → BeginsType (pieces_of text list) (i + 1) brackets
begins_mark m {text} {list} {i} {brackets} {l} s simple t =
    let same = mark_past (levels (take i (pieces_of text list))) m (piece_of text l) t.takes ∙ simple (levels (take i (pieces_of text list))) in
    record {
      stands = whole_stands (whole_plain (piece_of text l) s.stands (piece_at text list i l t.here) same) s.stands;
      no_suffix = suffixes_plain (piece_of text l) s.stands (piece_at text list i l t.here) same ∙ s.no_suffix;
    }

text_past : (s : Terminal) (at : Levels) (p : Piece) → IsTexts s → Takes s p → past at p ≡ past_text at
text_past A_number at (A_token kind.Digits bytes) t h = refl
text_past A_number at _ t h = absurd h
text_past A_name at (A_token kind.Word bytes) t h = refl
text_past A_name at (A_token kind.Quoted bytes) t h = refl
text_past A_name at _ t h = absurd h
text_past A_field at (A_token kind.Word bytes) t h = refl
text_past A_field at (A_token kind.Quoted bytes) t h = refl
text_past A_field at (A_token kind.Digits bytes) t h = refl
text_past A_field at _ t h = absurd h
text_past (The_word w) at (A_token kind.Word bytes) t h = refl
text_past (The_word w) at _ t h = absurd h
text_past _ at p t h = absurd t

-- a piece that is a word, a name or digits
pub whole_texts : (s : Terminal) {text : List ℕ} {list : List Laid} {i brackets : ℕ} {l : Laid} → IsTexts s → StandsIn (pieces_of text list) i brackets → IsTaken s text list i l → IsWhole (pieces_of text list) i (i + 1)
whole_texts s {text} {list} {i} {brackets} {l} is stands t = whole_text (piece_of text l) stands (piece_at text list i l t.here) (text_past s (levels (take i (pieces_of text list))) (piece_of text l) is t.takes)

pub begins_texts : (s : Terminal) {text : List ℕ} {list : List Laid} {i brackets : ℕ} {l : Laid} → IsTexts s → StandsIn (pieces_of text list) i brackets → IsTaken s text list i l → BeginsType (pieces_of text list) (i + 1) brackets
begins_texts s {text} {list} {i} {brackets} {l} is stands t = begins_text (piece_of text l) stands (piece_at text list i l t.here) (text_past s (levels (take i (pieces_of text list))) (piece_of text l) is t.takes)

pub passed_number : {major : ℕ} {text : List ℕ} {list : List Laid} {i brackets n : ℕ} (names : List (List ℕ)) {at : Place} → StandsIn (pieces_of text list) i brackets → IsNumberAt text list i at n
    → HasPassed major (Is Its_magnitude A_number ∷ []) text list i names (n, tt) (i + 1) names
passed_number {text} {list} {i} names s t = record { read = read_magnitude_at names t; whole = whole_texts A_number tt s t.taken; room = room_step names list i (Item t.token) t.taken.here }

pub passed_placed_number : {major : ℕ} {text : List ℕ} {list : List Laid} {i brackets n : ℕ} (names : List (List ℕ)) {at : Place} → StandsIn (pieces_of text list) i brackets → IsNumberAt text list i at n
    → HasPassed major (Is Its_place_and_magnitude A_number ∷ []) text list i names (at, (n, tt)) (i + 1) names
passed_placed_number {text} {list} {i} names s t = record { read = read_placed_magnitude names t; whole = whole_texts A_number tt s t.taken; room = room_step names list i (Item t.token) t.taken.here }

pub passed_name : {major : ℕ} {s : Terminal} {text : List ℕ} {list : List Laid} {i brackets : ℕ} {names after : List (List ℕ)} {name : Name} → IsTexts s → StandsIn (pieces_of text list) i brackets → IsNameAt s text list i names name after
    → HasPassed major (Is Its_name s ∷ []) text list i names (name, tt) (i + 1) after
passed_name {s} {text} {list} {i} {brackets} {names} {after} is stands t = record { read = read_name_at t; whole = whole_texts s is stands t.taken; room = room_name names after list i t.token t.taken.here t.grows }

pub passed_placed : {major : ℕ} {s : Terminal} {text : List ℕ} {list : List Laid} {i brackets : ℕ} (names : List (List ℕ)) {l : Laid} → IsTexts s → StandsIn (pieces_of text list) i brackets → IsTaken s text list i l
    → HasPassed major (Is Its_place s ∷ []) text list i names (place text (start_of l), tt) (i + 1) names
passed_placed {s} {text} {list} {i} names {l} is stands t = record { read = read_placed names t; whole = whole_texts s is stands t; room = room_step names list i l t.here }

pub passed_word : {major : ℕ} {s : Terminal} {text : List ℕ} {list : List Laid} {i brackets : ℕ} (names : List (List ℕ)) {l : Laid} → IsTexts s → StandsIn (pieces_of text list) i brackets → IsTaken s text list i l
    → HasPassed major (Is Nothing s ∷ []) text list i names tt (i + 1) names
passed_word {s} {text} {list} {i} names {l} is stands t = record { read = read_piece t.here t.takes t.flat (a_piece t.takes no_symbol); whole = whole_texts s is stands t; room = room_step names list i l t.here }
