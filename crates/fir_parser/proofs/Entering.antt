-- Which case of a rule goes on, by what stands at the reader's place.
use Prim.Native.String.{String}
use Rattle.std.proofs.Common.{◌≡◌, ℕ, ◌+◌, ◌<◌, ◌≤◌, Bool, true, false, List, [], ◌∷◌, ◌++◌, length, Option, Some, None, refl, sym, ap, ◌∙◌, subst, arith, codes, bytes_eq, slice_get, get_or, inl, inr, ◌⊎◌, ⊎_elim, eqb, eqb→eq, eq-eqb}
use Rattle.std.proofs.lemmas.Grind.{common_steps}
use Rattle.std.proofs.lemmas.Option.{slice_get_cases}
use Rattle.std.proofs.lemmas.List.{length-map}
use Rattle.std.proofs.lemmas.Bool.{cases_lt}
use Rattle.std.proofs.lemmas.Slice.Eq.{bytes_eq-Decides}
use Rattle.fir_lexer.specs.declared.token.TokenKind.TheVariants as kind
use Rattle.fir_lexer.specs.declared.token.TokenKind.{TokenKind}
use Rattle.fir_layout.specs.declared.laid.Laid.{Laid}
use Rattle.fir_layout.specs.declared.laid.Laid.TheVariants.{Item}
use Rattle.fir_layout.specs.Pieces.{Piece, A_token, A_line_end, A_block_opens, A_block_closes, The_end, bytes_of, piece_of}
use Rattle.fir_grammar.specs.Grammar.{The_word, The_call, The_mark, Opens, Closes, Takes, Symbol, Rule, Printed, IsCase, next_memory_line, next_statement, no_block, no_branch, else_, else_when, under_undefined, a_readwriter, a_skip, printed, without_label, with_label, cut, takes_on, goes_into}
use Rattle.fir_tree.specs.declared.print.Piece.{Piece as PrintPiece}
use Rattle.item_lines.specs.Formats.{IsQuotedFormat, shows}
use Rattle.item_lines.proofs.Formats.{quoted_pieces_are}
use Rattle.fir_grammar.specs.Reading.{part}
use Rattle.fir_grammar.proofs.Cases.{Chosen, choose, starts_word, starts_call, starts_mark, opens, closes, pieces_in}
use Rattle.fir_grammar.proofs.ReadingLaws.{part-here, part-cons, chosen_alone, takes_both}
use Rattle.fir_expr.specs.declared.reader.Reader.{Reader}
use Rattle.token_reader.proofs.Composition.{Enters, enters_by_piece, enters_by_two, piece_at}
use Rattle.fir_parser.specs.Taking.{pieces}
use Rattle.fir_parser.specs.Expected.{Meets, MeetsNext, IsFormatHere}

word_is : (text : List ℕ) (p : Piece) → Takes (The_word text) p → A_token kind.Word text ≡ p
word_is text (A_token kind.Word bytes) h = sym (ap (λ (b : List ℕ). A_token kind.Word b) h)
word_is text _ h = absurd h

-- a word at the place says which case it is
pub enters_word : {r : Rule} {body : List Symbol} (case : IsCase r body) (text : String) → ((ps : List Piece) → choose r (A_token kind.Word (codes text) ∷ ps) ≡ Some (body, case))
    → (reader : Reader) → Meets (The_word (codes text)) reader → Enters (pieces reader) reader.at case
enters_word {r} {body} case text chosen reader m = enters_by_piece (pieces reader) reader.at case (piece_of reader.bytes.now m.laid) (piece_at reader.bytes.now reader.laid.now reader.at m.laid m.stands)
    (subst (λ (p : Piece). (ps : List Piece) → choose r (p ∷ ps) ≡ Some (body, case)) (word_is (codes text) (piece_of reader.bytes.now m.laid) m.takes) chosen)

call_is : (text : List ℕ) (p : Piece) → Takes (The_call text) p → A_token kind.Call (text ++ codes "(") ≡ p
call_is text (A_token kind.Call bytes) h = sym (ap (λ (b : List ℕ). A_token kind.Call b) h)
call_is text _ h = absurd h

-- and so does a word with its `(`
pub enters_call : {r : Rule} {body : List Symbol} (case : IsCase r body) (text : String) → ((ps : List Piece) → choose r (A_token kind.Call (codes text ++ codes "(") ∷ ps) ≡ Some (body, case))
    → (reader : Reader) → Meets (The_call (codes text)) reader → Enters (pieces reader) reader.at case
enters_call {r} {body} case text chosen reader m = enters_by_piece (pieces reader) reader.at case (piece_of reader.bytes.now m.laid) (piece_at reader.bytes.now reader.laid.now reader.at m.laid m.stands)
    (subst (λ (p : Piece). (ps : List Piece) → choose r (p ∷ ps) ≡ Some (body, case)) (call_is (codes text) (piece_of reader.bytes.now m.laid) m.takes) chosen)

nothing_left : (ps : List Piece) (i k : ℕ) → length ps ≤ i → part ps i k ≡ []
unfolding part
nothing_left ps i k past = grind (arith, common_steps)

-- behind the last part nothing tells the cases apart
enters_nowhere : {r : Rule} {body : List Symbol} (case : IsCase r body) (ps : List Piece) (i : ℕ) → length ps ≤ i → Enters ps i case
enters_nowhere {body} case ps i past = record {
  into = λ rest settled. record {
    onward = omega arith;
    back = λ k l f. goes_into body case f;
    forth = λ k l f. let nothing : part ps i k ≡ [] = nothing_left ps i k past in rw nothing cut;
    whole = λ k l d. let nothing : part ps i (k + 1) ≡ [] = nothing_left ps i (k + 1) past in absurd (d.ends (rw nothing cut));
  };
}

-- the part at the place says which case it is
pub enters_part : {r : Rule} {body : List Symbol} (case : IsCase r body) (reader : Reader)
    → ((l : Laid) → slice_get reader.laid.now reader.at ≡ Some l → (ps : List Piece) → choose r (piece_of reader.bytes.now l ∷ ps) ≡ Some (body, case)) → Enters (pieces reader) reader.at case
enters_part {r} {body} case reader chosen = ⊎_elim
    (λ found. enters_by_piece (pieces reader) reader.at case (piece_of reader.bytes.now found.0) (piece_at reader.bytes.now reader.laid.now reader.at found.0 found.2) (chosen found.0 found.2))
    (λ none. enters_nowhere case (pieces reader) reader.at (rw length-map none.0)) (slice_get_cases reader.laid.now reader.at).1

-- tests of a piece that a terminal doesn't take

never_closes : (p : Piece) (ps : List Piece) → ¬ (Takes Closes p) → closes (p ∷ ps) ≡ false
never_closes (A_token k bytes) ps h = refl
never_closes A_line_end ps h = refl
never_closes A_block_opens ps h = refl
never_closes A_block_closes ps h = absurd (h tt)
never_closes The_end ps h = refl

never_opens : (p : Piece) (ps : List Piece) → ¬ (Takes Opens p) → opens (p ∷ ps) ≡ false
never_opens (A_token k bytes) ps h = refl
never_opens A_line_end ps h = refl
never_opens A_block_opens ps h = absurd (h tt)
never_opens A_block_closes ps h = refl
never_opens The_end ps h = refl

other_word : (text : String) (bytes : List ℕ) (b : Bool) → bytes_eq bytes (codes text) ≡ b → ¬ (bytes ≡ codes text) → bytes_eq bytes (codes text) ≡ false
other_word text bytes true e h = absurd (h ((bytes_eq-Decides bytes (codes text)).0 e))
other_word text bytes false e h = e

never_word : (text : String) (p : Piece) (ps : List Piece) → ¬ (Takes (The_word (codes text)) p) → starts_word text (p ∷ ps) ≡ false
never_word text (A_token kind.Word bytes) ps h = other_word text bytes (bytes_eq bytes (codes text)) refl h
never_word text (A_token kind.Call bytes) ps h = refl
never_word text (A_token kind.Quoted bytes) ps h = refl
never_word text (A_token kind.Digits bytes) ps h = refl
never_word text (A_token kind.Text bytes) ps h = refl
never_word text (A_token kind.Arrow bytes) ps h = refl
never_word text (A_token (kind.Mark m) bytes) ps h = refl
never_word text A_line_end ps h = refl
never_word text A_block_opens ps h = refl
never_word text A_block_closes ps h = refl
never_word text The_end ps h = refl

other_call : (name bytes : List ℕ) (b : Bool) → bytes_eq bytes name ≡ b → ¬ (bytes ≡ name) → bytes_eq bytes name ≡ false
other_call name bytes true e h = absurd (h ((bytes_eq-Decides bytes name).0 e))
other_call name bytes false e h = e

never_call : (text : List ℕ) (p : Piece) (ps : List Piece) → ¬ (Takes (The_call text) p) → starts_call text (p ∷ ps) ≡ false
never_call text (A_token kind.Call bytes) ps h = other_call (text ++ codes "(") bytes (bytes_eq bytes (text ++ codes "(")) refl h
never_call text (A_token kind.Word bytes) ps h = refl
never_call text (A_token kind.Quoted bytes) ps h = refl
never_call text (A_token kind.Digits bytes) ps h = refl
never_call text (A_token kind.Text bytes) ps h = refl
never_call text (A_token kind.Arrow bytes) ps h = refl
never_call text (A_token (kind.Mark m) bytes) ps h = refl
never_call text A_line_end ps h = refl
never_call text A_block_opens ps h = refl
never_call text A_block_closes ps h = refl
never_call text The_end ps h = refl

starts_colon : (p : Piece) (ps : List Piece) → ¬ (Takes (The_mark 58) p) → starts_mark 58 (p ∷ ps) ≡ false
starts_colon (A_token kind.Word bytes) ps h = refl
starts_colon (A_token kind.Call bytes) ps h = refl
starts_colon (A_token kind.Quoted bytes) ps h = refl
starts_colon (A_token kind.Digits bytes) ps h = refl
starts_colon (A_token kind.Text bytes) ps h = refl
starts_colon (A_token kind.Arrow bytes) ps h = refl
starts_colon (A_token (kind.Mark m) bytes) ps h = other_mark m (eqb m 58) refl h
  where
    other_mark : (m : ℕ) (b : Bool) → eqb m 58 ≡ b → ¬ (m ≡ 58) → eqb m 58 ≡ false
    other_mark m true e h = absurd (h (eqb→eq m 58 (rw e tt)))
    other_mark m false e h = e
starts_colon A_line_end ps h = refl
starts_colon A_block_opens ps h = refl
starts_colon A_block_closes ps h = refl
starts_colon The_end ps h = refl

colon_starts : (p : Piece) (ps : List Piece) → Takes (The_mark 58) p → starts_mark 58 (p ∷ ps) ≡ true
colon_starts (A_token (kind.Mark m) bytes) ps h = eq-eqb m 58 h
colon_starts _ ps h = absurd h

-- what doesn't stand at the place, as a test
module _ (reader : Reader) (l : Laid) (stands : slice_get reader.laid.now reader.at ≡ Some l) where
  pub not_closes : ¬ (Meets Closes reader) → (ps : List Piece) → closes (piece_of reader.bytes.now l ∷ ps) ≡ false
  not_closes none ps = never_closes (piece_of reader.bytes.now l) ps (λ takes. none (record { laid = l; stands = stands; takes = takes }))

  pub not_opens : ¬ (Meets Opens reader) → (ps : List Piece) → opens (piece_of reader.bytes.now l ∷ ps) ≡ false
  not_opens none ps = never_opens (piece_of reader.bytes.now l) ps (λ takes. none (record { laid = l; stands = stands; takes = takes }))

  pub not_word : (text : String) → ¬ (Meets (The_word (codes text)) reader) → (ps : List Piece) → starts_word text (piece_of reader.bytes.now l ∷ ps) ≡ false
  not_word text none ps = never_word text (piece_of reader.bytes.now l) ps (λ takes. none (record { laid = l; stands = stands; takes = takes }))

  pub not_call : (text : List ℕ) → ¬ (Meets (The_call text) reader) → (ps : List Piece) → starts_call text (piece_of reader.bytes.now l ∷ ps) ≡ false
  not_call text none ps = never_call text (piece_of reader.bytes.now l) ps (λ takes. none (record { laid = l; stands = stands; takes = takes }))

  pub not_mark : ¬ (Meets (The_mark 58) reader) → (ps : List Piece) → starts_mark 58 (piece_of reader.bytes.now l ∷ ps) ≡ false
  not_mark none ps = starts_colon (piece_of reader.bytes.now l) ps (λ takes. none (record { laid = l; stands = stands; takes = takes }))

close_is : (p : Piece) → Takes Closes p → A_block_closes ≡ p
close_is A_block_closes h = refl
close_is _ h = absurd h

open_is : (p : Piece) → Takes Opens p → A_block_opens ≡ p
open_is A_block_opens h = refl
open_is _ h = absurd h

pub enters_close : {r : Rule} {body : List Symbol} (case : IsCase r body) → ((ps : List Piece) → choose r (A_block_closes ∷ ps) ≡ Some (body, case)) → (reader : Reader) → Meets Closes reader
    → Enters (pieces reader) reader.at case
enters_close {r} {body} case chosen reader m = enters_by_piece (pieces reader) reader.at case (piece_of reader.bytes.now m.laid) (piece_at reader.bytes.now reader.laid.now reader.at m.laid m.stands)
    (subst (λ (p : Piece). (ps : List Piece) → choose r (p ∷ ps) ≡ Some (body, case)) (close_is (piece_of reader.bytes.now m.laid) m.takes) chosen)

pub enters_open : {r : Rule} {body : List Symbol} (case : IsCase r body) → ((ps : List Piece) → choose r (A_block_opens ∷ ps) ≡ Some (body, case)) → (reader : Reader) → Meets Opens reader
    → Enters (pieces reader) reader.at case
enters_open {r} {body} case chosen reader m = enters_by_piece (pieces reader) reader.at case (piece_of reader.bytes.now m.laid) (piece_at reader.bytes.now reader.laid.now reader.at m.laid m.stands)
    (subst (λ (p : Piece). (ps : List Piece) → choose r (p ∷ ps) ≡ Some (body, case)) (open_is (piece_of reader.bytes.now m.laid) m.takes) chosen)

-- the cases of lists that end with their block, where it doesn't end
pub into_memory_line : (reader : Reader) → ¬ (Meets Closes reader) → Enters (pieces reader) reader.at next_memory_line
into_memory_line reader none = enters_part next_memory_line reader (λ l stands ps. rw (not_closes reader l stands none ps) refl)

pub into_statement : (reader : Reader) → ¬ (Meets Closes reader) → Enters (pieces reader) reader.at next_statement
into_statement reader none = enters_part next_statement reader (λ l stands ps. rw (not_closes reader l stands none ps) refl)

pub into_no_block : (reader : Reader) → ¬ (Meets Opens reader) → Enters (pieces reader) reader.at no_block
into_no_block reader none = enters_part no_block reader (λ l stands ps. rw (not_opens reader l stands none ps) refl)

pub into_no_branch : (reader : Reader) → ¬ (Meets (The_word (codes "else")) reader) → Enters (pieces reader) reader.at no_branch
into_no_branch reader none = enters_part no_branch reader (λ l stands ps. rw (not_word reader l stands "else" none ps) refl)

pub into_undefined : (reader : Reader) → ¬ (Meets (The_word (codes "old")) reader) → ¬ (Meets (The_word (codes "new")) reader) → Enters (pieces reader) reader.at under_undefined
into_undefined reader a b = enters_part under_undefined reader (λ l stands ps. rw (not_word reader l stands "old" a ps, not_word reader l stands "new" b ps) refl)

pub into_readwriter : (reader : Reader) → ¬ (Meets (The_word (codes "data-type")) reader) → ¬ (Meets (The_word (codes "depth")) reader) → ¬ (Meets (The_word (codes "read-latency")) reader)
    → ¬ (Meets (The_word (codes "write-latency")) reader) → ¬ (Meets (The_word (codes "read-under-write")) reader) → ¬ (Meets (The_word (codes "reader")) reader) → ¬ (Meets (The_word (codes "writer")) reader)
    → Enters (pieces reader) reader.at a_readwriter
into_readwriter reader a b c d e f g = enters_part a_readwriter reader (λ l stands ps. rw (
  not_word reader l stands "data-type" a ps,
  not_word reader l stands "depth" b ps,
  not_word reader l stands "read-latency" c ps,
  not_word reader l stands "write-latency" d ps,
  not_word reader l stands "read-under-write" e ps,
  not_word reader l stands "reader" f ps,
  not_word reader l stands "writer" g ps,
) refl)

pub into_skip : (reader : Reader) → ¬ (Meets (The_word (codes "wire")) reader) → ¬ (Meets (The_word (codes "reg")) reader) → ¬ (Meets (The_word (codes "regreset")) reader) → ¬ (Meets (The_word (codes "mem")) reader)
    → ¬ (Meets (The_word (codes "inst")) reader) → ¬ (Meets (The_word (codes "node")) reader) → ¬ (Meets (The_word (codes "connect")) reader) → ¬ (Meets (The_word (codes "invalidate")) reader)
    → ¬ (Meets (The_word (codes "when")) reader) → ¬ (Meets (The_call (codes "printf")) reader) → ¬ (Meets (The_call (codes "stop")) reader) → Enters (pieces reader) reader.at a_skip
into_skip reader a b c d e f g h i j k = enters_part a_skip reader (λ l stands ps. rw (
  not_word reader l stands "wire" a ps,
  not_word reader l stands "reg" b ps,
  not_word reader l stands "regreset" c ps,
  not_word reader l stands "mem" d ps,
  not_word reader l stands "inst" e ps,
  not_word reader l stands "node" f ps,
  not_word reader l stands "connect" g ps,
  not_word reader l stands "invalidate" h ps,
  not_word reader l stands "when" i ps,
  not_call reader l stands (codes "printf") j ps,
  not_call reader l stands (codes "stop") k ps,
) refl)

-- `else` with and without a `:` behind it

else_here : (reader : Reader) (m : Meets (The_word (codes "else")) reader) → slice_get (pieces reader) reader.at ≡ Some (A_token kind.Word (codes "else"))
else_here reader m = piece_at reader.bytes.now reader.laid.now reader.at m.laid m.stands ∙ ap (λ (p : Piece). Some p) (sym (word_is (codes "else") (piece_of reader.bytes.now m.laid) m.takes))

pub enters_else : (reader : Reader) → Meets (The_word (codes "else")) reader → MeetsNext (The_mark 58) reader → Enters (pieces reader) reader.at else_
enters_else reader m n = enters_by_two (pieces reader) reader.at else_ (A_token kind.Word (codes "else")) (piece_of reader.bytes.now n.laid) (else_here reader m)
    (piece_at reader.bytes.now reader.laid.now (reader.at + 1) n.laid n.stands) (λ rest. takes_on refl cut) (λ ps. rw (colon_starts (piece_of reader.bytes.now n.laid) ps n.takes) refl)
    (takes_both (λ rest. takes_on refl (takes_on n.takes cut)))

last_else : (ps : List Piece) (i : ℕ) (p : Piece) → slice_get ps i ≡ Some p → length ps ≤ i + 1 → (k : ℕ) → i < k → part ps i k ≡ p ∷ []
last_else ps i p h past k l = part-cons ps i k p h (omega (arith, l)) ∙ ap (λ (qs : List Piece). p ∷ qs) (nothing_left ps (i + 1) k past)

enters_at_last : (ps : List Piece) (i : ℕ) → slice_get ps i ≡ Some (A_token kind.Word (codes "else")) → length ps ≤ i + 1 → Enters ps i else_when
enters_at_last ps i h past = record {
  into = λ rest settled. record {
    onward = omega arith;
    back = λ k l f. goes_into _ else_when f;
    forth = λ k l f. ⊎_elim (λ inside. let one : part ps i k ≡ A_token kind.Word (codes "else") ∷ [] = last_else ps i _ h past k inside in rw one (takes_on refl cut))
        (λ outside. let nothing : part ps i k ≡ [] = part-here ps i k outside in rw nothing cut) (cases_lt i k);
    whole = λ k l d. let one : part ps i (k + 1) ≡ A_token kind.Word (codes "else") ∷ [] = last_else ps i _ h past (k + 1) (omega (arith, l)) in
        absurd (d.ends (rw one (goes_into _ else_when (takes_on refl cut))));
  };
}

else_when_at : (reader : Reader) → Meets (The_word (codes "else")) reader → ¬ (MeetsNext (The_mark 58) reader)
    → ((x : Laid) × (reader.at + 1 < length reader.laid.now) × (slice_get reader.laid.now (reader.at + 1) ≡ Some x) × (get_or reader.laid.now (reader.at + 1) x ≡ x))
    ⊎ ((length reader.laid.now ≤ reader.at + 1) × (slice_get reader.laid.now (reader.at + 1) ≡ None)) → Enters (pieces reader) reader.at else_when
else_when_at reader m none (inl found) = enters_by_two (pieces reader) reader.at else_when (A_token kind.Word (codes "else")) (piece_of reader.bytes.now found.0) (else_here reader m)
    (piece_at reader.bytes.now reader.laid.now (reader.at + 1) found.0 found.2) (λ rest. takes_on refl cut)
    (λ ps. rw (starts_colon (piece_of reader.bytes.now found.0) ps (λ takes. none (record { laid = found.0; stands = found.2; takes = takes }))) refl) (chosen_alone refl)
else_when_at reader m none (inr past) = enters_at_last (pieces reader) reader.at (else_here reader m) (rw length-map past.0)

pub enters_else_when : (reader : Reader) → Meets (The_word (codes "else")) reader → ¬ (MeetsNext (The_mark 58) reader) → Enters (pieces reader) reader.at else_when
enters_else_when reader m none = else_when_at reader m none (slice_get_cases reader.laid.now (reader.at + 1)).1

-- the end of an item's line

pub into_label : (reader : Reader) → Meets (The_mark 58) reader → Enters (pieces reader) reader.at with_label
into_label reader m = enters_by_piece (pieces reader) reader.at with_label (piece_of reader.bytes.now m.laid) (piece_at reader.bytes.now reader.laid.now reader.at m.laid m.stands)
    (λ ps. rw (colon_starts (piece_of reader.bytes.now m.laid) ps m.takes) refl)

pub into_no_label : (reader : Reader) → ¬ (Meets (The_mark 58) reader) → Enters (pieces reader) reader.at without_label
into_no_label reader none = enters_part without_label reader (λ l stands ps. rw (not_mark reader l stands none ps) refl)

-- a format says how many values follow

abbrev printed_chosen : ℕ → Option (Chosen Printed)
printed_chosen n = Some (_, printed n)

format_chosen : (k : TokenKind) (bytes : List ℕ) (shown : List PrintPiece) → k ≡ kind.Text → IsQuotedFormat bytes shown → (ps : List Piece)
    → choose Printed (A_token k bytes ∷ ps) ≡ Some (_, printed (shows shown))
format_chosen k bytes shown text is ps = rw text (ap printed_chosen (ap shows (quoted_pieces_are bytes is)))

pub into_format : (reader : Reader) (shown : List PrintPiece) → IsFormatHere reader shown → Enters (pieces reader) reader.at (printed (shows shown))
into_format reader shown f = enters_by_piece (pieces reader) reader.at (printed (shows shown)) (piece_of reader.bytes.now (Item f.token)) (piece_at reader.bytes.now reader.laid.now reader.at (Item f.token) f.stands)
    (format_chosen f.token.kind (bytes_of reader.bytes.now f.token) shown f.text f.is)

-- where there is none, any number is as good

first_alone : (p : Piece) (ps : List Piece) → pieces_in (p ∷ ps) ≡ pieces_in (p ∷ [])
first_alone (A_token kind.Text bytes) ps = refl
first_alone (A_token kind.Call bytes) ps = refl
first_alone (A_token kind.Word bytes) ps = refl
first_alone (A_token kind.Quoted bytes) ps = refl
first_alone (A_token kind.Digits bytes) ps = refl
first_alone (A_token kind.Arrow bytes) ps = refl
first_alone (A_token (kind.Mark m) bytes) ps = refl
first_alone A_line_end ps = refl
first_alone A_block_opens ps = refl
first_alone A_block_closes ps = refl
first_alone The_end ps = refl

pub into_printed : (reader : Reader) → (n : ℕ) × Enters (pieces reader) reader.at (printed n)
into_printed reader = ⊎_elim (λ found. (
  shows (pieces_in (piece_of reader.bytes.now found.0 ∷ [])),
  enters_by_piece (pieces reader) reader.at (printed (shows (pieces_in (piece_of reader.bytes.now found.0 ∷ [])))) (piece_of reader.bytes.now found.0)
      (piece_at reader.bytes.now reader.laid.now reader.at found.0 found.2) (λ ps. ap printed_chosen (ap shows (first_alone (piece_of reader.bytes.now found.0) ps))),
)) (λ none. (0, enters_nowhere (printed 0) (pieces reader) reader.at (rw length-map none.0))) (slice_get_cases reader.laid.now reader.at).1
