-- The readers of operations and references, case by case.
use Rattle.std.proofs.Common.{◌≡◌, ℕ, suc, ◌+◌, ◌<◌, ◌≤◌, false, List, [], ◌∷◌, ◌++◌, codes, length, take, refl, ◌∙◌, ap, arith, subst, append_assoc}
use Rattle.std.proofs.lemmas.Grind.{common_steps}
use Rattle.std.proofs.lemmas.Option.{slice_get_within}
use Rattle.place_text.specs.declared.place.Place.{Place}
use Rattle.place_text.specs.Places.{place}
use Rattle.fir_lexer.specs.declared.token.TokenKind.TheVariants as kind
use Rattle.fir_types.specs.declared.name.Name.{Name}
use Rattle.fir_layout.specs.declared.laid.Laid.{Laid}
use Rattle.fir_layout.specs.declared.laid.Laid.TheVariants.{Item}
use Rattle.fir_layout.specs.Pieces.{Piece, A_token, piece_of, pieces_of}
use Rattle.prim_ops.specs.declared.operation.PrimOp.{PrimOp}
use Rattle.prim_ops.specs.Operations.{name_of, arity_of, IsWritten, of_version}
use Rattle.fir_tree.specs.declared.expr.Expr.{Expr}
use Rattle.fir_tree.specs.declared.expr.Form.TheVariants as form
use Rattle.fir_tree.specs.declared.expr.Suffix.{Suffix}
use Rattle.fir_tree.specs.declared.expr.Suffix.TheVariants as suffix
use Rattle.fir_tree.specs.declared.fault.ParseFault.{ParseFault}
use Rattle.fir_grammar.specs.Grammar.{The_call, The_mark, A_name, A_field, A_number, Takes, Nothing, Its_place, Its_name, Its_place_and_magnitude, Is, A, Expression, Expressions, Numbers, Reference, Suffixes, close, field, mark, start_of, a_reference, a_mux, an_operation, no_more_expressions, one_more_expression, a_component, no_suffix, a_field_suffix, an_element_suffix, an_index_suffix}
use Rattle.fir_grammar.specs.Faults.{Levels, levels, past, past_text, with_suffix, last_suffixes, without_last, most}
use Rattle.fir_grammar.specs.Reading.{IsRefused}
use Rattle.token_reader.specs.Standing.{StandsIn, BeginsType, IsWhole}
use Rattle.token_reader.specs.Parts.{IsTaken, IsNotTaken, IsNumberAt, IsNameAt, StartsWith}
use Rattle.fir_expr.specs.Parts.{HasPassed, GoesInto, IsHeadAt}
use Rattle.fir_expr.specs.declared.literals.Head.{Head}
use Rattle.fir_expr.specs.declared.literals.Head.TheVariants as head
use Rattle.fir_expr.specs.Operands.{HasDigits, HasNoDigits, HasNoSuffix, HasOperands, HasSuffixes, HasStepped}
use Rattle.token_reader.proofs.Composition.{piece_at, read_nothing, read_then, read_case, refused_first, refused_behind, refused_case}
use Rattle.token_reader.proofs.Depth.{levels_next, whole_none, whole_stands, whole_then}
use Rattle.fir_expr.proofs.Passing.{mark_past, passed_then, passed_case, passed_name, read_mark, read_placed, read_placed_magnitude, read_name_at, room_step, room_name, whole_texts, begins_texts}
use Rattle.fir_expr.proofs.Bracketed.{opener_call, operation_no_item, whole_closed, stands_indexed, whole_index, suffixes_index}
use Rattle.fir_expr.proofs.OperandsChosen.{enters_none, enters_more, enters_component, enters_mux, enters_operation, enters_no_suffix, enters_field, enters_element, enters_index}

append_nothing : {X : Type 0} (xs : List X) → xs ≡ xs ++ []
append_nothing xs = grind (arith, common_steps)

append_one : {X : Type 0} (xs ys : List X) (x : X) → (xs ++ x ∷ []) ++ ys ≡ xs ++ x ∷ ys
append_one xs ys x = append_assoc xs (x ∷ []) ys

passed_none : {major : ℕ} {text : List ℕ} {list : List Laid} {i brackets : ℕ} (names : List (List ℕ)) → StandsIn (pieces_of text list) i brackets → i ≤ length list → HasPassed major [] text list i names tt i names
passed_none {text} {list} {i} names s within = record { read = read_nothing text list i names within; whole = whole_none s; room = omega arith }

-- an expression that is a reference

pub component_here : {text : List ℕ} {list : List Laid} {i : ℕ} (h : Head) → h ≡ head.Component → IsHeadAt h text list i → GoesInto a_reference text list i
component_here {text} {list} {i} h e is = subst (λ (x : Head). IsHeadAt x text list i) e is

module _ {text : List ℕ} {list : List Laid} {i : ℕ} (into : GoesInto a_reference text list i) where
  pub component_read : {major : ℕ} {names after : List (List ℕ)} {x : Expr} {j : ℕ} → HasPassed major (A Reference ∷ []) text list i names (x, tt) j after → HasPassed major (A Expression ∷ []) text list i names (x, tt) j after
  component_read h = passed_case a_reference (record { into = into.into }) h

  pub component_refused : {fault : ParseFault} → IsRefused (A Reference ∷ []) text list i fault → IsRefused (A Expression ∷ []) text list i fault
  component_refused h = refused_case a_reference (record { into = into.into }) h

-- operands

module _ {text : List ℕ} {list : List Laid} {i : ℕ} where
  pub operands_none : {major : ℕ} {brackets : ℕ} {count : ℕ} (names : List (List ℕ)) (old : List Expr) → StandsIn (pieces_of text list) i brackets → i ≤ length list → count ≡ 0 → HasOperands major count text list i names old old i names
  operands_none names old s within none = rw none (record {
    operands = [];
    added = append_nothing old;
    passed = passed_case no_more_expressions (enters_none (pieces_of text list) i) (passed_none names s within);
  })

  pub operands_no_operand : {count : ℕ} {fault : ParseFault} (n : ℕ) → count ≡ suc n → IsRefused (A Expression ∷ []) text list i fault → IsRefused (A (Expressions count) ∷ []) text list i fault
  operands_no_operand n more refused = rw more (refused_case (one_more_expression n) (enters_more (pieces_of text list) i n) (refused_first (A (Expressions n) ∷ []) refused))

  module _ {major : ℕ} {names between : List (List ℕ)} {x : Expr} {j : ℕ} (first : HasPassed major (A Expression ∷ []) text list i names (x, tt) j between) where
    pub operands_refused : {count : ℕ} {fault : ParseFault} (n : ℕ) → count ≡ suc n → IsRefused (A (Expressions n) ∷ []) text list j fault → IsRefused (A (Expressions count) ∷ []) text list i fault
    operands_refused n more refused = rw more (refused_case (one_more_expression n) (enters_more (pieces_of text list) i n) (refused_behind first.read refused))

    pub operands_more : {count k : ℕ} {after : List (List ℕ)} {old new : List Expr} (n : ℕ) → count ≡ suc n → HasOperands major n text list j between (old ++ x ∷ []) new k after → HasOperands major count text list i names old new k after
    operands_more {old} n more h = rw more (record {
      operands = x ∷ h.operands;
      added = h.added ∙ append_one old h.operands x;
      passed = passed_case (one_more_expression n) (enters_more (pieces_of text list) i n) (passed_then first h.passed);
    })

operands_all : {major : ℕ} {text : List ℕ} {list : List Laid} {i count j : ℕ} {names after : List (List ℕ)} {old new : List Expr} → HasOperands major count text list i names old new j after → old ≡ []
    → HasPassed major (A (Expressions count) ∷ []) text list i names (new, tt) j after
operands_all h none = rw (h.added, none) h.passed

-- multiplexers

module _ {text : List ℕ} {list : List Laid} {i brackets : ℕ} (s : StandsIn (pieces_of text list) i brackets) (head : StartsWith (The_call (codes "mux")) text list i) where
  pub mux_no_call : {fault : ParseFault} → IsNotTaken (The_call (codes "mux")) text list i fault → IsRefused (A Expression ∷ []) text list i fault
  mux_no_call refused = refused_case a_mux (enters_mux head) (refused_first (A (Expressions 3) ∷ close ∷ []) (refused.refused Its_place))

  module _ {l : Laid} (t : IsTaken (The_call (codes "mux")) text list i l) where
    pub mux_no_operand : {fault : ParseFault} → IsRefused (A (Expressions 3) ∷ []) text list (i + 1) fault → IsRefused (A Expression ∷ []) text list i fault
    mux_no_operand refused = refused_case a_mux (enters_mux head) (refused_behind (read_placed {major = 3} [] t) (refused_first (close ∷ []) refused))

    module _ {major : ℕ} {names after : List (List ℕ)} {old new : List Expr} {j : ℕ} (h : HasOperands major 3 text list (i + 1) names old new j after) (none : old ≡ []) where
      pub mux_not_closed : {fault : ParseFault} → IsNotTaken (The_mark 41) text list j fault → IsRefused (A Expression ∷ []) text list i fault
      mux_not_closed refused = refused_case a_mux (enters_mux head) (refused_behind (read_then (read_placed names t) (operands_all h none).read) (refused.refused Nothing))

      pub mux_read : {m : Laid} → IsTaken (The_mark 41) text list j m → HasPassed major (A Expression ∷ []) text list i names (record { place = place text (start_of l); form = form.Mux new }, tt) (j + 1) after
      mux_read {m} u = record {
        read = read_case a_mux (enters_mux head) (read_then (read_then (read_placed names t) (operands_all h none).read) (read_mark after u));
        whole = whole_closed (opener_call (codes "mux") refl) t (λ at. refl) h.passed.whole u s;
        room = omega (arith, room_step names list i l t.here, h.passed.room, room_step after list j m u.here);
      }

-- operations

as_operands : {major : ℕ} {text : List ℕ} {list : List Laid} {i n m j : ℕ} {names after : List (List ℕ)} {xs : List Expr} → n ≡ m → HasPassed major (A (Expressions n) ∷ []) text list i names (xs, tt) j after
    → HasPassed major (A (Expressions m) ∷ []) text list i names (xs, tt) j after
as_operands {major} {text} {list} {i} {j} {names} {after} {xs} e h = subst (λ (k : ℕ). HasPassed major (A (Expressions k) ∷ []) text list i names (xs, tt) j after) e h

as_numbers : {major : ℕ} {text : List ℕ} {list : List Laid} {i n m j : ℕ} {names after : List (List ℕ)} {xs : List ℕ} → n ≡ m → HasPassed major (A (Numbers n) ∷ []) text list i names (xs, tt) j after
    → HasPassed major (A (Numbers m) ∷ []) text list i names (xs, tt) j after
as_numbers {major} {text} {list} {i} {j} {names} {after} {xs} e h = subst (λ (k : ℕ). HasPassed major (A (Numbers k) ∷ []) text list i names (xs, tt) j after) e h

module _ (prim : PrimOp) (written : IsWritten prim) {text : List ℕ} {list : List Laid} {i brackets n k : ℕ} (s : StandsIn (pieces_of text list) i brackets) (head : StartsWith (The_call (name_of prim)) text list i)
    (d : n ≡ (arity_of prim).0) (e : k ≡ (arity_of prim).1) where
  pub operation_no_call : {fault : ParseFault} → IsNotTaken (The_call (name_of prim)) text list i fault → IsRefused (A Expression ∷ []) text list i fault
  operation_no_call refused = refused_case (an_operation prim written) (enters_operation prim written head) (refused_first (A (Expressions (arity_of prim).0) ∷ A (Numbers (arity_of prim).1) ∷ close ∷ []) (refused.refused Its_place))

  module _ {l : Laid} (t : IsTaken (The_call (name_of prim)) text list i l) where
    pub operation_no_operand : {fault : ParseFault} → IsRefused (A (Expressions n) ∷ []) text list (i + 1) fault → IsRefused (A Expression ∷ []) text list i fault
    operation_no_operand {fault} refused = refused_case (an_operation prim written) (enters_operation prim written head)
        (refused_behind (read_placed {major = 3} [] t) (refused_first (A (Numbers (arity_of prim).1) ∷ close ∷ []) (subst (λ (m : ℕ). IsRefused (A (Expressions m) ∷ []) text list (i + 1) fault) d refused)))

    module _ {major : ℕ} {names after : List (List ℕ)} {old new : List Expr} {j : ℕ} (h : HasOperands major n text list (i + 1) names old new j after) (none : old ≡ []) where
      pub operation_no_number : {fault : ParseFault} → IsRefused (A (Numbers k) ∷ []) text list j fault → IsRefused (A Expression ∷ []) text list i fault
      operation_no_number {fault} refused = refused_case (an_operation prim written) (enters_operation prim written head)
          (refused_behind (read_then (read_placed names t) (as_operands d (operands_all h none)).read) (refused_first (close ∷ []) (subst (λ (m : ℕ). IsRefused (A (Numbers m) ∷ []) text list j fault) e refused)))

      module _ {ns : List ℕ} {z : ℕ} (parameters : HasPassed major (A (Numbers k) ∷ []) text list j after (ns, tt) z after) where
        pub operation_not_closed : {fault : ParseFault} → IsNotTaken (The_mark 41) text list z fault → IsRefused (A Expression ∷ []) text list i fault
        operation_not_closed refused = refused_case (an_operation prim written) (enters_operation prim written head)
            (refused_behind (read_then (read_then (read_placed names t) (as_operands d (operands_all h none)).read) (as_numbers e parameters).read) (refused.refused Nothing))

        pub operation_read : {m : Laid} → IsTaken (The_mark 41) text list z m → HasPassed major (A Expression ∷ []) text list i names (record { place = place text (start_of l); form = form.Prim (of_version major prim) new ns }, tt) (z + 1) after
        operation_read {m} u = record {
          read = read_case (an_operation prim written) (enters_operation prim written head)
              (read_then (read_then (read_then (read_placed names t) (as_operands d (operands_all h none)).read) (as_numbers e parameters).read) (read_mark after u));
          whole = whole_closed (opener_call (name_of prim) (operation_no_item prim)) t (λ at. refl) (whole_then h.passed.whole parameters.whole) u s;
          room = omega (arith, room_step names list i l t.here, h.passed.room, parameters.room, room_step after list z m u.here);
        }

-- references

suffixes_all : {major : ℕ} {text : List ℕ} {list : List Laid} {i j : ℕ} {names after : List (List ℕ)} {old new : List Suffix} → HasSuffixes major text list i names old new j after → old ≡ []
    → HasPassed major (A Suffixes ∷ []) text list i names (new, tt) j after
suffixes_all h none = rw (h.added, none) h.passed

module _ {text : List ℕ} {list : List Laid} {i : ℕ} where
  pub reference_no_name : {fault : ParseFault} → IsNotTaken A_name text list i fault → IsRefused (A Reference ∷ []) text list i fault
  reference_no_name refused = refused_case a_component (enters_component (pieces_of text list) i) (refused_first (A Suffixes ∷ []) (refused.refused Its_name))

  module _ {names between : List (List ℕ)} {name : Name} (n : IsNameAt A_name text list i names name between) where
    pub name_begins : {brackets : ℕ} → StandsIn (pieces_of text list) i brackets → BeginsType (pieces_of text list) (i + 1) brackets
    name_begins s = begins_texts A_name tt s n.taken

    pub reference_refused : {fault : ParseFault} → IsRefused (A Suffixes ∷ []) text list (i + 1) fault → IsRefused (A Reference ∷ []) text list i fault
    reference_refused refused = refused_case a_component (enters_component (pieces_of text list) i) (refused_behind (read_name_at {major = 3} n) refused)

    pub reference_read : {major : ℕ} {brackets j : ℕ} {after : List (List ℕ)} {old new : List Suffix} → StandsIn (pieces_of text list) i brackets → HasSuffixes major text list (i + 1) between old new j after → old ≡ []
        → HasPassed major (A Reference ∷ []) text list i names (record { place = name.place; form = form.Ref name new }, tt) j after
    reference_read s h none = passed_case a_component (enters_component (pieces_of text list) i) (passed_then (passed_name tt s n) (suffixes_all h none))

-- suffixes

pub suffixes_none : {major : ℕ} {text : List ℕ} {list : List Laid} {i brackets : ℕ} {names after : List (List ℕ)} (old : List Suffix) → StandsIn (pieces_of text list) i brackets → HasNoSuffix text list i → after ≡ names
    → HasSuffixes major text list i names old old i after
suffixes_none {text} {list} {i} {brackets} {names} old s h same = let w = slice_get_within list i h.part h.here in rw same (record {
  suffixes = [];
  added = append_nothing old;
  passed = passed_case no_suffix (enters_no_suffix text list i h.part h.here h.no_dot h.no_bracket) (passed_none names s (omega (arith, w)));
})

pub suffixes_more : {major : ℕ} {text : List ℕ} {list : List Laid} {i j k : ℕ} {names between after : List (List ℕ)} {x : Suffix} {old new : List Suffix} → HasStepped major text list i names x j between
    → HasSuffixes major text list j between (old ++ x ∷ []) new k after → HasSuffixes major text list i names old new k after
suffixes_more {x} {old} step h = record { suffixes = x ∷ h.suffixes; added = h.added ∙ append_one old h.suffixes x; passed = step.goes_on h.passed }

-- with one suffix more
abbrev suffixed : Levels → Levels
suffixed at = record { blocks = at.blocks; suffixes = with_suffix at.suffixes; dotted = false }

field_past : (at : Levels) (p : Piece) → Takes A_field p → past at p ≡ past_text at
field_past at (A_token kind.Word bytes) h = refl
field_past at (A_token kind.Quoted bytes) h = refl
field_past at (A_token kind.Digits bytes) h = refl
field_past at _ h = absurd h

length_suffixed : (xs : List ℕ) → length (with_suffix xs) ≡ length xs
length_suffixed [] = refl
length_suffixed (x ∷ xs) = refl

outer_suffixed : (xs : List ℕ) → without_last (with_suffix xs) ≡ without_last xs
outer_suffixed [] = refl
outer_suffixed (x ∷ xs) = refl

last_suffixed : (xs : List ℕ) → 0 < length xs → last_suffixes (with_suffix xs) ≡ last_suffixes xs + 1
last_suffixed [] h = absurd (omega (arith, h))
last_suffixed (x ∷ xs) h = refl

module _ {text : List ℕ} {list : List Laid} {i : ℕ} (head : StartsWith (The_mark 46) text list i) where
  pub field_no_mark : {fault : ParseFault} → IsNotTaken (The_mark 46) text list i fault → IsRefused (A Suffixes ∷ []) text list i fault
  field_no_mark refused = refused_case a_field_suffix (enters_field head) (refused_first (field ∷ A Suffixes ∷ []) (refused.refused Nothing))

  module _ {l : Laid} (t : IsTaken (The_mark 46) text list i l) where
    pub field_no_field : {fault : ParseFault} → IsNotTaken A_field text list (i + 1) fault → IsRefused (A Suffixes ∷ []) text list i fault
    field_no_field refused = refused_case a_field_suffix (enters_field head) (refused_behind (read_mark {major = 3} [] t) (refused_first (A Suffixes ∷ []) (refused.refused Its_name)))

    module _ {names after : List (List ℕ)} {name : Name} (n : IsNameAt A_field text list (i + 1) names name after) where
      field_levels : levels (take (i + 1 + 1) (pieces_of text list)) ≡ suffixed (levels (take i (pieces_of text list)))
      field_levels =
          levels_next (pieces_of text list) (i + 1) (piece_of text (Item n.token)) (piece_at text list (i + 1) (Item n.token) n.taken.here)
          ∙ field_past (levels (take (i + 1) (pieces_of text list))) (piece_of text (Item n.token)) n.taken.takes
          ∙ ap past_text (levels_next (pieces_of text list) i (piece_of text l) (piece_at text list i l t.here) ∙ mark_past (levels (take i (pieces_of text list))) 46 (piece_of text l) t.takes)

      field_whole : {brackets : ℕ} → StandsIn (pieces_of text list) i brackets → IsWhole (pieces_of text list) i (i + 1 + 1)
      field_whole {brackets} s = record {
        blocks = ap (λ (l : Levels). l.blocks) field_levels;
        outer = ap (λ (l : Levels). without_last l.suffixes) field_levels ∙ outer_suffixed (levels (take i (pieces_of text list))).suffixes;
        some = let e : length (levels (take (i + 1 + 1) (pieces_of text list))).suffixes ≡ brackets + 1 = ap (λ (l : Levels). length l.suffixes) field_levels ∙ length_suffixed (levels (take i (pieces_of text list))).suffixes ∙ s.counted in omega (arith, e);
        no_dot = ap (λ (l : Levels). l.dotted) field_levels;
      }

      pub field_stepped : {major : ℕ} {brackets : ℕ} → StandsIn (pieces_of text list) i brackets → HasStepped major text list i names (suffix.Field name) (i + 1 + 1) after
      field_stepped s = record {
        goes_on = λ h. record {
          read = read_case a_field_suffix (enters_field head) (read_then (read_then (read_mark names t) (read_name_at n)) h.read);
          whole = whole_then (field_whole s) h.whole;
          room = omega (arith, room_step names list i l t.here, room_name names after list (i + 1) n.token n.taken.here n.grows, h.room);
        };
        refuses = λ h. refused_case a_field_suffix (enters_field head) (refused_behind (read_then (read_mark {major = 3} names t) (read_name_at n)) h);
        stands = λ other. whole_stands (field_whole other) other;
        counted = ap (λ (l : Levels). last_suffixes l.suffixes) field_levels ∙ last_suffixed (levels (take i (pieces_of text list))).suffixes (rw s.counted (omega arith));
        room = omega (arith, room_step names list i l t.here, room_name names after list (i + 1) n.token n.taken.here n.grows);
      }

module _ {text : List ℕ} {list : List Laid} {i : ℕ} (head : StartsWith (The_mark 91) text list i) (digits : HasDigits text list (i + 1)) where
  pub element_no_mark : {fault : ParseFault} → IsNotTaken (The_mark 91) text list i fault → IsRefused (A Suffixes ∷ []) text list i fault
  element_no_mark refused = refused_case an_element_suffix (enters_element head digits) (refused_first (Is Its_place_and_magnitude A_number ∷ mark 93 ∷ A Suffixes ∷ []) (refused.refused Its_place))

  module _ {l : Laid} (t : IsTaken (The_mark 91) text list i l) where
    pub element_no_number : {fault : ParseFault} → IsNotTaken A_number text list (i + 1) fault → IsRefused (A Suffixes ∷ []) text list i fault
    element_no_number refused = refused_case an_element_suffix (enters_element head digits) (refused_behind (read_placed {major = 3} [] t) (refused_first (mark 93 ∷ A Suffixes ∷ []) (refused.refused Its_place_and_magnitude)))

    module _ {at : Place} {x : ℕ} (n : IsNumberAt text list (i + 1) at x) where
      pub element_not_closed : {fault : ParseFault} → IsNotTaken (The_mark 93) text list (i + 1 + 1) fault → IsRefused (A Suffixes ∷ []) text list i fault
      element_not_closed refused = refused_case an_element_suffix (enters_element head digits)
          (refused_behind (read_then (read_placed {major = 3} [] t) (read_placed_magnitude [] n)) (refused_first (A Suffixes ∷ []) (refused.refused Nothing)))

      pub element_stepped : {major : ℕ} {brackets : ℕ} {m : Laid} (names : List (List ℕ)) → StandsIn (pieces_of text list) i brackets → brackets < most → IsTaken (The_mark 93) text list (i + 1 + 1) m
          → HasStepped major text list i names (suffix.At (place text (start_of l)) at x) (i + 1 + 1 + 1) names
      element_stepped {brackets} {m} names s few u =
          record {
            goes_on = λ h. record {
              read = read_case an_element_suffix (enters_element head digits) (read_then (read_then (read_then (read_placed names t) (read_placed_magnitude names n)) (read_mark names u)) h.read);
              whole = whole_then (whole_index t (whole_texts A_number tt (stands_indexed t s few) n.taken) u s) h.whole;
              room = omega (arith, room_step names list i l t.here, room_step names list (i + 1) (Item n.token) n.taken.here, room_step names list (i + 1 + 1) m u.here, h.room);
            };
            refuses = λ h. refused_case an_element_suffix (enters_element head digits) (refused_behind (read_then (read_then (read_placed {major = 3} names t) (read_placed_magnitude names n)) (read_mark names u)) h);
            stands = λ other. whole_stands (whole_index t (whole_texts A_number tt (stands_indexed t s few) n.taken) u other) other;
            counted = suffixes_index t (whole_texts A_number tt (stands_indexed t s few) n.taken) u s;
            room = omega (arith, room_step names list i l t.here, room_step names list (i + 1) (Item n.token) n.taken.here, room_step names list (i + 1 + 1) m u.here);
          }

module _ {text : List ℕ} {list : List Laid} {i : ℕ} (head : StartsWith (The_mark 91) text list i) (digits : HasNoDigits text list (i + 1)) where
  pub index_no_mark : {fault : ParseFault} → IsNotTaken (The_mark 91) text list i fault → IsRefused (A Suffixes ∷ []) text list i fault
  index_no_mark refused = refused_case an_index_suffix (enters_index head digits) (refused_first (A Expression ∷ mark 93 ∷ A Suffixes ∷ []) (refused.refused Its_place))

  module _ {l : Laid} (t : IsTaken (The_mark 91) text list i l) where
    pub index_refused : {fault : ParseFault} → IsRefused (A Expression ∷ []) text list (i + 1) fault → IsRefused (A Suffixes ∷ []) text list i fault
    index_refused refused = refused_case an_index_suffix (enters_index head digits) (refused_behind (read_placed {major = 3} [] t) (refused_first (mark 93 ∷ A Suffixes ∷ []) refused))

    module _ {major : ℕ} {names after : List (List ℕ)} {x : Expr} {j : ℕ} (h : HasPassed major (A Expression ∷ []) text list (i + 1) names (x, tt) j after) where
      pub index_not_closed : {fault : ParseFault} → IsNotTaken (The_mark 93) text list j fault → IsRefused (A Suffixes ∷ []) text list i fault
      index_not_closed refused = refused_case an_index_suffix (enters_index head digits) (refused_behind (read_then (read_placed names t) h.read) (refused_first (A Suffixes ∷ []) (refused.refused Nothing)))

      pub index_stepped : {brackets : ℕ} {m : Laid} → StandsIn (pieces_of text list) i brackets → IsTaken (The_mark 93) text list j m
          → HasStepped major text list i names (suffix.Index (place text (start_of l)) x) (j + 1) after
      index_stepped {brackets} {m} s u = record {
        goes_on = λ g. record {
          read = read_case an_index_suffix (enters_index head digits) (read_then (read_then (read_then (read_placed names t) h.read) (read_mark after u)) g.read);
          whole = whole_then (whole_index t h.whole u s) g.whole;
          room = omega (arith, room_step names list i l t.here, h.room, room_step after list j m u.here, g.room);
        };
        refuses = λ g. refused_case an_index_suffix (enters_index head digits) (refused_behind (read_then (read_then (read_placed names t) h.read) (read_mark after u)) g);
        stands = λ other. whole_stands (whole_index t h.whole u other) other;
        counted = suffixes_index t h.whole u s;
        room = omega (arith, room_step names list i l t.here, h.room, room_step after list j m u.here);
      }
