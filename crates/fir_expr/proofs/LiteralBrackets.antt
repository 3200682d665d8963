-- Literals, with and without a width.
use Rattle.std.proofs.Common.{◌≡◌, ℕ, ◌+◌, ◌<◌, List, [], ◌∷◌, ◌++◌, take, true, false, Option, Some, None, refl, eq-eqb, arith}
use Rattle.place_text.specs.declared.place.Place.{Place}
use Rattle.place_text.specs.Places.{place}
use Rattle.bit_words.specs.declared.number.Number.{Number}
use Rattle.bit_words.specs.declared.value.Kind.{Kind}
use Rattle.bit_words.specs.declared.value.Kind.TheVariants as sign
use Rattle.fir_lexer.specs.declared.token.TokenKind.TheVariants as kind
use Rattle.fir_layout.specs.declared.laid.Laid.{Laid}
use Rattle.fir_layout.specs.Pieces.{Piece, A_token, piece_of, pieces_of}
use Rattle.fir_tree.specs.declared.fault.ParseFault.{ParseFault}
use Rattle.fir_tree.specs.declared.expr.Expr.{Expr}
use Rattle.fir_tree.specs.declared.expr.Form.TheVariants as form
use Rattle.fir_grammar.specs.Grammar.{Terminal, The_word, The_call, The_mark, A_number, Takes, Nothing, Its_place, Its_magnitude, Symbol, Is, A, close, mark, number, Expression, Integer, IsCase, Values, tree, start_of, Front, cut, takes_on, an_unsigned_literal, a_signed_literal, a_wide_unsigned_literal, a_wide_signed_literal}
use Rattle.fir_grammar.specs.Faults.{most, Levels, levels, is_deep}
use Rattle.fir_grammar.specs.Reading.{HasRead, IsRefused}
use Rattle.fir_grammar.proofs.Cases.{choose, Chosen, starts_mark}
use Rattle.fir_grammar.proofs.ReadingLaws.{takes_both}
use Rattle.token_reader.specs.Standing.{StandsIn}
use Rattle.token_reader.specs.Parts.{IsTaken, IsNotTaken, IsNumberAt, StartsWith}
use Rattle.fir_expr.specs.Parts.{HasPassed, kind_name}
use Rattle.token_reader.proofs.Composition.{joined, read_then, Enters, enters_by_piece, enters_by_two, piece_at, refused_first, refused_behind, refused_case}
use Rattle.token_reader.proofs.Depth.{whole_stands}
use Rattle.fir_expr.proofs.Passing.{passed_then, passed_case, passed_mark, passed_number, passed_placed, read_mark, read_placed, room_step}
use Rattle.fir_expr.proofs.Bracketed.{IsOpener, opener_call, kind_no_item, opener_mark, stands_opened, whole_closed}

is_mark_first : (m : ℕ) (p : Piece) (ps : List Piece) → Takes (The_mark m) p → starts_mark m (p ∷ ps) ≡ true
is_mark_first m (A_token (kind.Mark n) bytes) ps same = eq-eqb n m same
is_mark_first m _ ps none = absurd none

word_flat : (at : Levels) (word : List ℕ) (p : Piece) → Takes (The_word word) p → is_deep at p ≡ false
word_flat at word (A_token kind.Word bytes) same = refl
word_flat at word _ none = absurd none

-- what stands between a bracket and the `)` that closes it was passed
pub bracket_passed : {major : ℕ} {s : Terminal} {text : List ℕ} {list : List Laid} {i j brackets : ℕ} {l c : Laid} {names after : List (List ℕ)} (o : Symbol) {vs : Values (o ∷ [])} (inner : List Symbol) {ws : Values inner}
    → IsOpener s → IsTaken s text list i l → StandsIn (pieces_of text list) i brackets → HasRead major (o ∷ []) text list i names vs (i + 1) names → HasPassed major inner text list (i + 1) names ws j after → IsTaken (The_mark 41) text list j c
    → HasPassed major ((o ∷ []) ++ (inner ++ close ∷ [])) text list i names (joined (o ∷ []) (inner ++ close ∷ []) vs (joined inner (close ∷ []) ws tt)) (j + 1) after
bracket_passed {s} {text} {list} {i} {j} {brackets} {l} {c} {names} {after} o inner opens t stands opening inside closing = record {
  read = read_then opening (read_then inside.read (read_mark after closing));
  whole = whole_closed opens t (λ at. refl) inside.whole closing stands;
  room = let first = room_step names list i l t.here in let last = room_step after list j c closing.here in omega (arith, first, last, inside.room);
}

-- literals without a width

abbrev pub literal_case : (k : Kind) → IsCase Expression (Is Its_place (The_call (kind_name k)) ∷ A Integer ∷ close ∷ [])
literal_case sign.Unsigned = an_unsigned_literal
literal_case sign.Signed = a_signed_literal

literal_tree : (major : ℕ) (k : Kind) (at : Place) (n : Number) → ◌≡◌ {A = Expr} (tree major (literal_case k) (at, (n, tt))) (record { place = at; form = form.Literal k None n })
literal_tree major sign.Unsigned at n = refl
literal_tree major sign.Signed at n = refl

literal_chosen : (k : Kind) (p : Piece) (ps : List Piece) → Takes (The_call (kind_name k)) p → ◌≡◌ {A = Option (Chosen Expression)} (choose Expression (p ∷ ps)) (Some (_, literal_case k))
literal_chosen sign.Unsigned (A_token kind.Call bytes) ps same = rw same refl
literal_chosen sign.Signed (A_token kind.Call bytes) ps same = rw same refl
literal_chosen k _ ps none = absurd none

module _ (text : List ℕ) (list : List Laid) (i brackets : ℕ) (k : Kind) (s : StandsIn (pieces_of text list) i brackets) (head : StartsWith (The_call (kind_name k)) text list i) where
  enters_literal : Enters (pieces_of text list) i (literal_case k)
  enters_literal = enters_by_piece (pieces_of text list) i (literal_case k) (piece_of text head.part) (piece_at text list i head.part head.here) (λ ps. literal_chosen k (piece_of text head.part) ps head.takes)

  pub literal_not_opened : {fault : ParseFault} → IsNotTaken (The_call (kind_name k)) text list i fault → IsRefused (A Expression ∷ []) text list i fault
  literal_not_opened refused = refused_case (literal_case k) enters_literal (refused_first (A Integer ∷ close ∷ []) (refused.refused Its_place))

  module _ (l : Laid) (call : IsTaken (The_call (kind_name k)) text list i l) where
    pub literal_no_integer : {fault : ParseFault} → IsRefused (A Integer ∷ []) text list (i + 1) fault → IsRefused (A Expression ∷ []) text list i fault
    literal_no_integer refused = refused_case (literal_case k) enters_literal (refused_behind (read_placed {major = 3} [] call) (refused_first (close ∷ []) refused))

    module _ (n : Number) (j : ℕ) (integer : (major : ℕ) (names : List (List ℕ)) → HasPassed major (A Integer ∷ []) text list (i + 1) names (n, tt) j names) where
      pub literal_not_closed : {fault : ParseFault} → IsNotTaken (The_mark 41) text list j fault → IsRefused (A Expression ∷ []) text list i fault
      literal_not_closed refused = refused_case (literal_case k) enters_literal (refused_behind (read_placed {major = 3} [] call) (refused_behind (integer 3 []).read (refused.refused Nothing)))

      pub literal_read : (c : Laid) → IsTaken (The_mark 41) text list j c → (major : ℕ) (names : List (List ℕ))
          → HasPassed major (A Expression ∷ []) text list i names (record { place = place text (start_of l); form = form.Literal k None n }, tt) (j + 1) names
      literal_read c closing major names = rw (← literal_tree major k (place text (start_of l)) n) (passed_case (literal_case k) enters_literal
          (bracket_passed (Is Its_place (The_call (kind_name k))) (A Integer ∷ []) (opener_call (kind_name k) (kind_no_item k)) call s (read_placed names call) (integer major names) closing))

-- literals with a width

abbrev pub wide_case : (k : Kind) → IsCase Expression (Is Its_place (The_word (kind_name k)) ∷ mark 60 ∷ number ∷ mark 62 ∷ mark 40 ∷ A Integer ∷ close ∷ [])
wide_case sign.Unsigned = a_wide_unsigned_literal
wide_case sign.Signed = a_wide_signed_literal

wide_tree : (major : ℕ) (k : Kind) (at : Place) (w : ℕ) (n : Number) → ◌≡◌ {A = Expr} (tree major (wide_case k) (at, (w, (n, tt)))) (record { place = at; form = form.Literal k (Some w) n })
wide_tree major sign.Unsigned at w n = refl
wide_tree major sign.Signed at w n = refl

wide_chosen_at : (k : Kind) (ps : List Piece) → starts_mark 60 ps ≡ true → ◌≡◌ {A = Option (Chosen Expression)} (choose Expression (A_token kind.Word (kind_name k) ∷ ps)) (Some (_, wide_case k))
wide_chosen_at sign.Unsigned ps less = rw less refl
wide_chosen_at sign.Signed ps less = rw less refl

wide_chosen : (k : Kind) (p q : Piece) (ps : List Piece) → Takes (The_word (kind_name k)) p → Takes (The_mark 60) q → ◌≡◌ {A = Option (Chosen Expression)} (choose Expression (p ∷ q ∷ ps)) (Some (_, wide_case k))
wide_chosen k (A_token kind.Word bytes) q ps same less = rw same (wide_chosen_at k (q ∷ ps) (is_mark_first 60 q ps less))
wide_chosen k _ q ps none less = absurd none

wide_front : (k : Kind) (p : Piece) (rest : List Symbol) → Takes (The_word (kind_name k)) p → Front ((Is Its_place (The_word (kind_name k)) ∷ mark 60 ∷ number ∷ mark 62 ∷ mark 40 ∷ A Integer ∷ close ∷ []) ++ rest) (p ∷ [])
wide_front k p rest takes = takes_on takes cut

module _ (text : List ℕ) (list : List Laid) (i brackets : ℕ) (k : Kind) (s : StandsIn (pieces_of text list) i brackets) (head : StartsWith (The_word (kind_name k)) text list i)
    (next : StartsWith (The_mark 60) text list (i + 1)) where
  enters_wide : Enters (pieces_of text list) i (wide_case k)
  enters_wide = enters_by_two (pieces_of text list) i (wide_case k) (piece_of text head.part) (piece_of text next.part) (piece_at text list i head.part head.here) (piece_at text list (i + 1) next.part next.here)
      (λ rest. wide_front k (piece_of text head.part) rest head.takes) (λ ps. wide_chosen k (piece_of text head.part) (piece_of text next.part) ps head.takes next.takes)
      (takes_both (λ rest. takes_on head.takes (takes_on next.takes cut)))

  word : IsTaken (The_word (kind_name k)) text list i head.part
  word = record { here = head.here; takes = head.takes; flat = word_flat (levels (take i (pieces_of text list))) (kind_name k) (piece_of text head.part) head.takes }

  the_word : (major : ℕ) (names : List (List ℕ)) → HasPassed major (Is Its_place (The_word (kind_name k)) ∷ []) text list i names (place text (start_of head.part), tt) (i + 1) names
  the_word major names = passed_placed names tt s word

  stands_one : StandsIn (pieces_of text list) (i + 1) brackets
  stands_one = whole_stands (the_word 3 []).whole s

  pub wide_no_less : {fault : ParseFault} → IsNotTaken (The_mark 60) text list (i + 1) fault → IsRefused (A Expression ∷ []) text list i fault
  wide_no_less refused = refused_case (wide_case k) enters_wide (refused_behind (the_word 3 []).read (refused_first (number ∷ mark 62 ∷ mark 40 ∷ A Integer ∷ close ∷ []) (refused.refused Nothing)))

  module _ (less : Laid) (first : IsTaken (The_mark 60) text list (i + 1) less) where
    to_less : (major : ℕ) (names : List (List ℕ)) → HasPassed major (Is Its_place (The_word (kind_name k)) ∷ mark 60 ∷ []) text list i names (place text (start_of head.part), tt) (i + 1 + 1) names
    to_less major names = passed_then (the_word major names) (passed_mark 60 names stands_one (λ at. refl) first)

    pub wide_no_number : {fault : ParseFault} → IsNotTaken A_number text list (i + 1 + 1) fault → IsRefused (A Expression ∷ []) text list i fault
    wide_no_number refused = refused_case (wide_case k) enters_wide (refused_behind (to_less 3 []).read (refused_first (mark 62 ∷ mark 40 ∷ A Integer ∷ close ∷ []) (refused.refused Its_magnitude)))

    module _ (at : Place) (w : ℕ) (width : IsNumberAt text list (i + 1 + 1) at w) where
      to_width : (major : ℕ) (names : List (List ℕ)) → HasPassed major (Is Its_place (The_word (kind_name k)) ∷ mark 60 ∷ number ∷ []) text list i names (place text (start_of head.part), (w, tt)) (i + 1 + 1 + 1) names
      to_width major names = passed_then (to_less major names) (passed_number names (whole_stands (to_less major names).whole s) width)

      pub wide_no_greater : {fault : ParseFault} → IsNotTaken (The_mark 62) text list (i + 1 + 1 + 1) fault → IsRefused (A Expression ∷ []) text list i fault
      wide_no_greater refused = refused_case (wide_case k) enters_wide (refused_behind (to_width 3 []).read (refused_first (mark 40 ∷ A Integer ∷ close ∷ []) (refused.refused Nothing)))

      module _ (greater : Laid) (second : IsTaken (The_mark 62) text list (i + 1 + 1 + 1) greater) where
        to_greater : (major : ℕ) (names : List (List ℕ)) → HasPassed major (Is Its_place (The_word (kind_name k)) ∷ mark 60 ∷ number ∷ mark 62 ∷ []) text list i names (place text (start_of head.part), (w, tt)) (i + 1 + 1 + 1 + 1) names
        to_greater major names = passed_then (to_width major names) (passed_mark 62 names (whole_stands (to_width major names).whole s) (λ at. refl) second)

        pub wide_stands : StandsIn (pieces_of text list) (i + 1 + 1 + 1 + 1) brackets
        wide_stands = whole_stands (to_greater 3 []).whole s

        pub wide_no_bracket : {fault : ParseFault} → IsNotTaken (The_mark 40) text list (i + 1 + 1 + 1 + 1) fault → IsRefused (A Expression ∷ []) text list i fault
        wide_no_bracket refused = refused_case (wide_case k) enters_wide (refused_behind (to_greater 3 []).read (refused_first (A Integer ∷ close ∷ []) (refused.refused Nothing)))

        module _ (bracket : Laid) (opening : IsTaken (The_mark 40) text list (i + 1 + 1 + 1 + 1) bracket) where
          pub wide_inside : brackets < most → StandsIn (pieces_of text list) (i + 1 + 1 + 1 + 1 + 1) (brackets + 1)
          wide_inside few = stands_opened (opener_mark 40 (λ at. refl)) opening wide_stands few

          pub wide_no_integer : {fault : ParseFault} → IsRefused (A Integer ∷ []) text list (i + 1 + 1 + 1 + 1 + 1) fault → IsRefused (A Expression ∷ []) text list i fault
          wide_no_integer refused = refused_case (wide_case k) enters_wide (refused_behind (to_greater 3 []).read (refused_behind (read_mark {major = 3} [] opening) (refused_first (close ∷ []) refused)))

          module _ (n : Number) (j : ℕ) (integer : (major : ℕ) (names : List (List ℕ)) → HasPassed major (A Integer ∷ []) text list (i + 1 + 1 + 1 + 1 + 1) names (n, tt) j names) where
            pub wide_not_closed : {fault : ParseFault} → IsNotTaken (The_mark 41) text list j fault → IsRefused (A Expression ∷ []) text list i fault
            wide_not_closed refused = refused_case (wide_case k) enters_wide (refused_behind (to_greater 3 []).read (refused_behind (read_mark {major = 3} [] opening) (refused_behind (integer 3 []).read (refused.refused Nothing))))

            pub wide_read : (c : Laid) → IsTaken (The_mark 41) text list j c → (major : ℕ) (names : List (List ℕ))
                → HasPassed major (A Expression ∷ []) text list i names (record { place = place text (start_of head.part); form = form.Literal k (Some w) n }, tt) (j + 1) names
            wide_read c closing major names = rw (← wide_tree major k (place text (start_of head.part)) w n) (passed_case (wide_case k) enters_wide
                (passed_then (to_greater major names) (bracket_passed (mark 40) (A Integer ∷ []) (opener_mark 40 (λ at. refl)) opening wide_stands (read_mark names opening) (integer major names) closing)))
