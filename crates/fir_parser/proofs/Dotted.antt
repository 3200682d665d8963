-- The version line.
use Rattle.std.proofs.Common.{◌≡◌, ◌⊎◌, inl, inr, ⊎_elim, ℕ, ◌+◌, ◌<◌, true, false, List, [], ◌∷◌, length, drop, refl, sym, ap, ◌∙◌, subst, arith, nat_le, slice_get, Some}
use Rattle.std.proofs.lemmas.Option.{slice_get_within}
use Rattle.bit_words.specs.Numbers.{IsMagnitude}
use Rattle.fir_lexer.specs.declared.token.TokenKind.TheVariants as kind
use Rattle.fir_lexer.specs.declared.token.TokenKind.{TokenKind}
use Rattle.fir_layout.specs.declared.laid.Laid.{Laid}
use Rattle.fir_layout.specs.declared.laid.Laid.TheVariants.{Item}
use Rattle.fir_layout.specs.Layout.{token_in, tokens_in}
use Rattle.fir_layout.specs.Pieces.{Piece, bytes_of, A_token, piece_of}
use Rattle.place_text.specs.declared.place.Place.{Place}
use Rattle.fir_grammar.proofs.Agreement.{magnitudes_agree}
use Rattle.token_reader.specs.Parts.{IsNumberAt}
use Rattle.token_reader.proofs.Composition.{one_at, read_piece}
use Rattle.fir_tree.specs.declared.fault.ParseFault.{ParseFault}
use Rattle.fir_tree.specs.declared.fault.ParseFault.TheVariants.{BadVersion}
use Rattle.fir_grammar.specs.Grammar.{The_mark, A_number, A_major, Takes, Nothing, Its_magnitude, Is, mark, no_symbol, a_magnitude}
use Rattle.fir_grammar.specs.Faults.{Levels, past, is_deep, last_suffixes, with_suffix, most}
use Rattle.fir_expr.specs.declared.reader.Reader.{Reader}
use Rattle.fir_parser.specs.Taking.{here, blocks_at, StandsAt, HasTaken, Steps}
use Rattle.fir_parser.specs.Expected.{Meets, NamesHere}
use Rattle.fir_parser.specs.Heads.{VersionRefused, no_number, other_number}
use Rattle.fir_parser.proofs.Steps.{Quiets, quiets, stands_next, here_next, left_tokens, last_afresh, taken_flat}
use Rattle.fir_parser.proofs.Joins.{joins}

dot_is : (p : Piece) → Takes (The_mark 46) p → (bytes : List ℕ) × (A_token (kind.Mark 46) bytes ≡ p)
dot_is (A_token (kind.Mark m) bytes) h = (bytes, ap (λ (n : ℕ). A_token (kind.Mark n) bytes) (sym h))
dot_is _ h = absurd h

number_is : (p : Piece) → Takes A_number p → (bytes : List ℕ) × (A_token kind.Digits bytes ≡ p)
number_is (A_token kind.Digits bytes) h = (bytes, refl)
number_is _ h = absurd h

length_with_suffix : (ns : List ℕ) → length (with_suffix ns) ≡ length ns
length_with_suffix [] = refl
length_with_suffix (n ∷ ns) = refl

last_with_suffix : (ns : List ℕ) → length ns ≡ 1 → last_suffixes (with_suffix ns) ≡ last_suffixes ns + 1
last_with_suffix [] h = cc
last_with_suffix (n ∷ ns) h = refl

below : (n : ℕ) → n < most → nat_le most n ≡ false
below n h = grind arith

module _ (old mid new : Reader) where
  dotted : (d : Meets (The_mark 46) old) → Steps old mid → here mid ≡ record { blocks = (here old).blocks; suffixes = with_suffix (here old).suffixes; dotted = true }
  dotted d step =
      let p = dot_is (piece_of old.bytes.now d.laid) d.takes in
      here_next old mid d.laid step.bytes step.laid step.at d.stands ∙ ap (λ (q : Piece). past (here old) q) (sym p.1)

  numbered : (d : Meets (The_mark 46) old) → Steps old mid → (n : Meets A_number mid) → Steps mid new → here new ≡ record { blocks = (here old).blocks; suffixes = with_suffix (here old).suffixes; dotted = false }
  numbered d step n next =
      let p = number_is (piece_of mid.bytes.now n.laid) n.takes in
      here_next mid new n.laid next.bytes next.laid next.at n.stands ∙ (ap (λ (q : Piece). past (here mid) q) (sym p.1) ∙ ap (λ (l : Levels). past l (A_token kind.Digits p.0)) (dotted d step))

  stands_numbered : StandsAt old → (d : Meets (The_mark 46) old) → Steps old mid → (n : Meets A_number mid) → Steps mid new → StandsAt new
  stands_numbered at d step n next =
      let inside : mid.at < length mid.laid.now = slice_get_within mid.laid.now mid.at n.laid n.stands in
      let same : length mid.laid.now ≡ length old.laid.now = ap (λ (ls : List Laid). length ls) step.laid in
      let levels : here new ≡ record { blocks = (here old).blocks; suffixes = with_suffix (here old).suffixes; dotted = false } = numbered d step n next in
      let one : length (tokens_in (drop old.at old.laid.now)) ≡ length (token_in d.laid) + length (tokens_in (drop (old.at + 1) old.laid.now)) = left_tokens old.laid.now old.at d.laid d.stands in
      let two : length (tokens_in (drop mid.at mid.laid.now)) ≡ length (token_in n.laid) + length (tokens_in (drop (mid.at + 1) mid.laid.now)) = left_tokens mid.laid.now mid.at n.laid n.stands in
      let three : length (tokens_in (drop (old.at + 1) old.laid.now)) ≡ length (token_in n.laid) + length (tokens_in (drop (old.at + 1 + 1) old.laid.now)) = rw (step.laid, step.at) at two in
      let before = at.short in
      let room = at.room in
      record {
        short = rw (next.bytes, step.bytes) at.short;
        laid = rw (next.bytes, next.laid, step.bytes, step.laid) at.laid;
        within = rw (next.at, next.laid) (omega (arith, inside));
        room = rw (next.at, next.laid, next.names, step.at, step.laid, step.names) (omega (arith, room, one, three));
        outside = next.brackets ∙ (step.brackets ∙ at.outside);
        one = rw levels (length_with_suffix (here old).suffixes ∙ at.one);
        no_dot = rw levels refl;
      }

  pub next_number : StandsAt old → last_suffixes (here old).suffixes < most → (d : Meets (The_mark 46) old) → Steps old mid → (n : Meets A_number mid) → Steps mid new
      → HasTaken (mark 46 ∷ Is Nothing A_number ∷ []) old new tt
  next_number at few d step n next =
      let p = dot_is (piece_of old.bytes.now d.laid) d.takes in
      let q = number_is (piece_of mid.bytes.now n.laid) n.takes in
      let deep : is_deep (here old) (piece_of old.bytes.now d.laid) ≡ false = subst (λ (x : Piece). is_deep (here old) x ≡ false) p.1 (below (last_suffixes (here old).suffixes) few) in
      let flat : is_deep (here mid) (piece_of mid.bytes.now n.laid) ≡ false = subst (λ (x : Piece). is_deep (here mid) x ≡ false) q.1 refl in
      joins (taken_flat old mid d.laid (The_mark 46) d.stands d.takes deep step) (taken_flat mid new n.laid A_number n.stands n.takes flat next)

  pub stands_next_number : StandsAt old → (d : Meets (The_mark 46) old) → Steps old mid → (n : Meets A_number mid) → Steps mid new → StandsAt new
  stands_next_number = stands_numbered

  pub blocks_next_number : (d : Meets (The_mark 46) old) → Steps old mid → (n : Meets A_number mid) → Steps mid new → blocks_at new ≡ blocks_at old
  blocks_next_number d step n next = ap (λ (l : Levels). l.blocks) (numbered d step n next)

  pub suffixes_next_number : StandsAt old → (d : Meets (The_mark 46) old) → Steps old mid → (n : Meets A_number mid) → Steps mid new
      → last_suffixes (here new).suffixes ≡ last_suffixes (here old).suffixes + 1
  suffixes_next_number at d step n next = ap (λ (l : Levels). last_suffixes l.suffixes) (numbered d step n next) ∙ last_with_suffix (here old).suffixes at.one

-- a number at the place
pub number_met : (reader : Reader) (l : Laid) → slice_get reader.laid.now reader.at ≡ Some l → Takes A_number (piece_of reader.bytes.now l) → Meets A_number reader
number_met reader l stands takes = record { laid = l; stands = stands; takes = takes }

-- the numbers 3 and 4 alone begin a version

major_digits : (k : TokenKind) (bytes : List ℕ) (n : ℕ) → Takes A_number (A_token k bytes) → IsMagnitude bytes n → (n ≡ 3) ⊎ (n ≡ 4) → Takes A_major (A_token k bytes)
major_digits kind.Digits bytes n h is e = ⊎_elim (λ three. inl (rw three at is)) (λ four. inr (rw four at is)) e
major_digits _ bytes n h is e = absurd h

pub takes_major : (text : List ℕ) (list : List Laid) (i : ℕ) (at : Place) (n : ℕ) → (h : IsNumberAt text list i at n) → (n ≡ 3) ⊎ (n ≡ 4) → Takes A_major (piece_of text (Item h.token))
takes_major text list i at n h e = major_digits h.token.kind (bytes_of text h.token) n h.taken.takes h.is e

pub major_is_number : (p : Piece) → Takes A_major p → Takes A_number p
major_is_number (A_token kind.Digits bytes) h = ⊎_elim (λ three. (3, three)) (λ four. (4, four)) h
major_is_number _ h = absurd h

major_known : (k : TokenKind) (bytes : List ℕ) (n : ℕ) → Takes A_major (A_token k bytes) → IsMagnitude bytes n → (n ≡ 3) ⊎ (n ≡ 4)
major_known kind.Digits bytes n h is = ⊎_elim (λ three. inl (magnitudes_agree bytes n 3 is three)) (λ four. inr (magnitudes_agree bytes n 4 is four)) h
major_known _ bytes n h is = absurd h

-- one of them stands there

pub quiet_major : (at : Levels) (p : Piece) → Takes A_major p → length at.suffixes ≡ 1 → at.dotted ≡ false → Quiets at p
quiet_major at p h one no_dot = quiets at A_number p tt (major_is_number p h) one no_dot

pub major_fresh : (at : Levels) (p : Piece) → Takes A_major p → at.dotted ≡ false → last_suffixes (past at p).suffixes ≡ 0
major_fresh at (A_token kind.Digits bytes) h no_dot = rw no_dot (last_afresh at.suffixes)
major_fresh at _ h no_dot = absurd h

pub dot_taken : (old mid : Reader) → last_suffixes (here old).suffixes < most → (d : Meets (The_mark 46) old) → Steps old mid → HasTaken (mark 46 ∷ []) old mid tt
dot_taken old mid few d step =
    let p = dot_is (piece_of old.bytes.now d.laid) d.takes in
    let deep : is_deep (here old) (piece_of old.bytes.now d.laid) ≡ false = subst (λ (x : Piece). is_deep (here old) x ≡ false) p.1 (below (last_suffixes (here old).suffixes) few) in
    taken_flat old mid d.laid (The_mark 46) d.stands d.takes deep step

module _ (old new : Reader) (at : Place) (n : ℕ) (h : IsNumberAt old.bytes.now old.laid.now old.at at n) (known : (n ≡ 3) ⊎ (n ≡ 4)) (step : Steps old new) where
  takes : Takes A_major (piece_of old.bytes.now (Item h.token))
  takes = takes_major old.bytes.now old.laid.now old.at at n h known

  pub major_taken : HasTaken (Is Its_magnitude A_major ∷ []) old new (n, tt)
  major_taken = record {
    bytes = step.bytes;
    laid = step.laid;
    major = step.major;
    read = rw (step.at, step.names) (read_piece h.taken.here takes h.taken.flat (a_magnitude takes h.is no_symbol));
  }

  pub major_stands : StandsAt old → StandsAt new
  major_stands start =
      stands_next old new (Item h.token) start step.bytes step.laid step.at step.brackets h.taken.here (rw step.names (omega arith)) (quiet_major (here old) (piece_of old.bytes.now (Item h.token)) takes start.one start.no_dot).calm

  pub major_blocks : StandsAt old → blocks_at new ≡ blocks_at old
  major_blocks start = ap (λ (x : Levels). x.blocks) (here_next old new (Item h.token) step.bytes step.laid step.at h.taken.here)
      ∙ (quiet_major (here old) (piece_of old.bytes.now (Item h.token)) takes start.one start.no_dot).blocks

  pub major_suffixes : StandsAt old → last_suffixes (here new).suffixes ≡ 0
  major_suffixes start = ap (λ (x : Levels). last_suffixes x.suffixes) (here_next old new (Item h.token) step.bytes step.laid step.at h.taken.here)
      ∙ major_fresh (here old) (piece_of old.bytes.now (Item h.token)) takes start.no_dot

major_met : (reader : Reader) → Meets A_major reader → Meets A_number reader
major_met reader m = record { laid = m.laid; stands = m.stands; takes = major_is_number (piece_of reader.bytes.now m.laid) m.takes }

pub version_absent : (reader : Reader) (fault : ParseFault) → ¬ (Meets A_number reader) → NamesHere reader fault → VersionRefused reader fault
version_absent reader fault none names = no_number fault none (names.refused A_major (λ m. none (major_met reader m)) Its_magnitude)

pub other_version : (reader : Reader) (at : Place) (n : ℕ) → IsNumberAt reader.bytes.now reader.laid.now reader.at at n → ¬ ((n ≡ 3) ⊎ (n ≡ 4)) → VersionRefused reader (BadVersion at)
unfolding number_met
other_version reader at n h differs = rw h.place (other_number (number_met reader (Item h.token) h.taken.here h.taken.takes)
    (λ m. (let same : m.laid ≡ Item h.token = one_at reader.laid.now reader.at m.laid (Item h.token) m.stands h.taken.here in
    let major : Takes A_major (piece_of reader.bytes.now (Item h.token)) = rw same at m.takes in
    differs (major_known h.token.kind (bytes_of reader.bytes.now h.token) n major h.is))))
