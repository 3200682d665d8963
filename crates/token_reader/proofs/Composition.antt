-- Laws of composition for the readers of a laid list: what is read piece by piece is read as a whole.
--
-- A reader of a rule enters a case by the piece that stands there (`Enters`), reads the symbols of the case one behind the
-- other (`read_then`), and has read the rule (`read_case`). A refusal in a case is one of the rule. A reader with a loop
-- keeps what it still awaits (`Awaits`).
use Rattle.std.proofs.Common.{◌≡◌, ℕ, ◌+◌, ◌<◌, ◌≤◌, true, false, List, [], ◌∷◌, ◌++◌, length, take, drop, sym, ◌∙◌, ap, append_assoc, arith, slice_get, get_or, Option, Some, option_map, ⊎_elim, subst}
use Rattle.std.proofs.Math.Path.{Path}
use Rattle.std.proofs.lemmas.Grind.{common_steps}
use Rattle.std.proofs.lemmas.Option.{slice_get_within, slice_get-map, get_or_from_slice_get}
use Rattle.std.proofs.lemmas.Bool.{cases_lt}
use Rattle.place_text.specs.Places.{place}
use Rattle.fir_layout.specs.declared.laid.Laid.{Laid}
use Rattle.fir_layout.specs.Pieces.{Piece, piece_of, pieces_of}
use Rattle.fir_tree.specs.declared.fault.ParseFault.{ParseFault}
use Rattle.fir_tree.specs.declared.fault.ParseFault.TheVariants.{TooDeep}
use Rattle.fir_grammar.specs.Grammar.{Terminal, Takes, Kept, Nothing, Its_place, Its_name, Its_magnitude, Its_place_and_magnitude, Its_number, Its_pieces, Symbol, Is, A, Rule, IsCase, Derives, expands, Front, cut, takes_on, goes_into, Values, tree, start_of, Spells, no_symbol, a_rule, a_piece, a_place, a_name, a_magnitude, a_placed_magnitude, a_quoted, a_format}
use Rattle.fir_grammar.specs.Faults.{IsShallow, IsDeepAt, IsNamed, is_deep, levels}
use Rattle.fir_grammar.specs.Reading.{part, Leads, IsSettled, HasRead, IsRefused, no_memory, at_bad_piece, at_deep_piece}
use Rattle.fir_grammar.proofs.Cases.{choose, some_injective}
use Rattle.fir_grammar.proofs.Follows.{settled_case}
use Rattle.fir_grammar.proofs.Fronts.{Front-entered, Derives-entered, Derives-whole}
use Rattle.fir_grammar.proofs.ReadingLaws.{part-here, part-cons, Leads-refl, Leads-trans, Stops-trans, Leads-piece, Stops-piece, Leads-case, Leads-case-of-two, Alone}
use Rattle.fir_grammar.proofs.Empty.{empty_rule}

-- the values of symbols, and then those of the symbols behind them
abbrev pub joined : (ss more : List Symbol) → Values ss → Values more → Values (ss ++ more)
joined [] more vs ws = ws
joined (Is Nothing s ∷ ss) more vs ws = joined ss more vs ws
joined (Is Its_place s ∷ ss) more vs ws = (vs.0, joined ss more vs.1 ws)
joined (Is Its_name s ∷ ss) more vs ws = (vs.0, joined ss more vs.1 ws)
joined (Is Its_magnitude s ∷ ss) more vs ws = (vs.0, joined ss more vs.1 ws)
joined (Is Its_place_and_magnitude s ∷ ss) more vs ws = (vs.0, (vs.1.0, joined ss more vs.1.1 ws))
joined (Is Its_number s ∷ ss) more vs ws = (vs.0, joined ss more vs.1 ws)
joined (Is Its_pieces s ∷ ss) more vs ws = (vs.0, joined ss more vs.1 ws)
joined (A r ∷ ss) more vs ws = (vs.0, joined ss more vs.1 ws)

-- what is spelled up to a place, and then from it on
pub spells_joined : {major : ℕ} (text : List ℕ) {ss more : List Symbol} {ls mid rest : List Laid} {names between after : List (List ℕ)} {vs : Values ss} {ws : Values more}
    → Spells major text ss ls names vs mid between → Spells major text more mid between ws rest after → Spells major text (ss ++ more) ls names (joined ss more vs ws) rest after
spells_joined text no_symbol d = d
spells_joined text (a_rule case inner others) d = a_rule case inner (spells_joined text others d)
spells_joined text (a_piece h others) d = a_piece h (spells_joined text others d)
spells_joined text (a_place h others) d = a_place h (spells_joined text others d)
spells_joined text (a_name h adds others) d = a_name h adds (spells_joined text others d)
spells_joined text (a_magnitude h is others) d = a_magnitude h is (spells_joined text others d)
spells_joined text (a_placed_magnitude h is others) d = a_placed_magnitude h is (spells_joined text others d)
spells_joined text (a_quoted h is others) d = a_quoted h is (spells_joined text others d)
spells_joined text (a_format h is others) d = a_format h is (spells_joined text others d)

-- what stands behind settled symbols is settled
pub settled_behind : (ss rest : List Symbol) → IsSettled (ss ++ rest) → IsSettled rest
settled_behind [] rest h = h
settled_behind (Is k s ∷ ss) rest h = settled_behind ss rest h
settled_behind (A r ∷ ss) rest h = settled_behind ss rest h.1

pub shallow_none : (pieces : List Piece) (i : ℕ) → IsShallow pieces i i
shallow_none pieces i = record { none = λ n l m. absurd (omega (arith, l, m)) }

pub shallow_joined : {pieces : List Piece} {i j k : ℕ} → IsShallow pieces i j → IsShallow pieces j k → IsShallow pieces i k
shallow_joined {j} a b = record { none = λ n l m. ⊎_elim (λ before. a.none n l before) (λ behind. b.none n behind m) (cases_lt n j) }

-- no symbols, which take no piece
pub read_nothing : {major : ℕ} (text : List ℕ) (list : List Laid) (i : ℕ) (names : List (List ℕ)) → i ≤ length list → HasRead major [] text list i names tt i names
read_nothing text list i names within = record {
  onward = omega arith;
  within = within;
  leads = λ rest settled. Leads-refl (pieces_of text list) rest i;
  shallow = shallow_none (pieces_of text list) i;
  spelled = no_symbol;
}

-- symbols, and then others behind them
pub read_then : {major : ℕ} {ss more : List Symbol} {text : List ℕ} {list : List Laid} {i j k : ℕ} {names between after : List (List ℕ)} {vs : Values ss} {ws : Values more}
    → HasRead major ss text list i names vs j between → HasRead major more text list j between ws k after → HasRead major (ss ++ more) text list i names (joined ss more vs ws) k after
read_then {ss} {more} {text} {list} {i} {j} {k} a b = record {
  onward = omega (arith, a.onward, b.onward);
  within = b.within;
  leads = λ rest settled. let regrouped : (ss ++ more) ++ rest ≡ ss ++ (more ++ rest) = append_assoc ss more rest in
      let settled_so : IsSettled (ss ++ (more ++ rest)) = rw regrouped at settled in
      let both : Leads (pieces_of text list) (ss ++ (more ++ rest)) i rest k = Leads-trans (a.leads (more ++ rest) settled_so) (b.leads rest (settled_behind ss (more ++ rest) settled_so)) in
      rw regrouped both;
  shallow = shallow_joined a.shallow b.shallow;
  spelled = spells_joined text a.spelled b.spelled;
}

-- a refusal of the first symbols is one of the symbols with others behind them
pub refused_first : {ss : List Symbol} (more : List Symbol) {text : List ℕ} {list : List Laid} {i : ℕ} {fault : ParseFault} → IsRefused ss text list i fault
    → IsRefused (ss ++ more) text list i fault
refused_first more no_memory = no_memory
refused_first {ss} more {text} {list} {i} (at_bad_piece k l fault h stops shallow named) = at_bad_piece k l fault h
    (λ rest settled. let regrouped : (ss ++ more) ++ rest ≡ ss ++ (more ++ rest) = append_assoc ss more rest in
    rw regrouped (stops (more ++ rest) (rw regrouped at settled))) shallow named
refused_first {ss} more {text} {list} {i} (at_deep_piece k l h onward front shallow deep) = at_deep_piece k l h onward
    (λ rest settled. let regrouped : (ss ++ more) ++ rest ≡ ss ++ (more ++ rest) = append_assoc ss more rest in
    rw regrouped (front (more ++ rest) (rw regrouped at settled))) shallow deep

-- a refusal behind symbols that were read is one of all of them
pub refused_behind : {major : ℕ} {ss more : List Symbol} {text : List ℕ} {list : List Laid} {i j : ℕ} {names between : List (List ℕ)} {vs : Values ss} {fault : ParseFault}
    → HasRead major ss text list i names vs j between → IsRefused more text list j fault → IsRefused (ss ++ more) text list i fault
refused_behind a no_memory = no_memory
refused_behind {ss} {more} {text} {list} {i} {j} a (at_bad_piece k l fault h stops shallow named) = at_bad_piece k l fault h
    (λ rest settled. let regrouped : (ss ++ more) ++ rest ≡ ss ++ (more ++ rest) = append_assoc ss more rest in
    let settled_so : IsSettled (ss ++ (more ++ rest)) = rw regrouped at settled in
    rw regrouped (Stops-trans (a.leads (more ++ rest) settled_so) (stops rest (settled_behind ss (more ++ rest) settled_so)))) (shallow_joined a.shallow shallow) named
refused_behind {ss} {more} {text} {list} {i} {j} a (at_deep_piece k l h onward front shallow deep) = at_deep_piece k l h (omega (arith, a.onward, onward))
    (λ rest settled. let regrouped : (ss ++ more) ++ rest ≡ ss ++ (more ++ rest) = append_assoc ss more rest in
    let settled_so : IsSettled (ss ++ (more ++ rest)) = rw regrouped at settled in
    rw regrouped ((a.leads (more ++ rest) settled_so).back (k + 1) (omega (arith, onward)) (front rest (settled_behind ss (more ++ rest) settled_so))))
    (shallow_joined a.shallow shallow) deep

-- At the place i the rule goes on by this case, whatever stands behind it.
pub record Enters {r : Rule} {body : List Symbol} (pieces : List Piece) (i : ℕ) (case : IsCase r body) : Type 0 where
  pub into : (rest : List Symbol) → IsSettled (A r ∷ rest) → Leads pieces (A r ∷ rest) i (body ++ rest) i

-- the first piece says which case it is
pub enters_by_piece : {r : Rule} {body : List Symbol} (pieces : List Piece) (i : ℕ) (case : IsCase r body) (p : Piece) → slice_get pieces i ≡ Some p
    → ((ps : List Piece) → choose r (p ∷ ps) ≡ Some (body, case)) → Enters pieces i case
enters_by_piece {r} {body} pieces i case p h chosen = record { into = λ rest settled. Leads-case pieces r body case rest i p h settled chosen }

-- the first two pieces say it, and the case can begin with the first
pub enters_by_two : {r : Rule} {body : List Symbol} (pieces : List Piece) (i : ℕ) (case : IsCase r body) (p q : Piece) → slice_get pieces i ≡ Some p → slice_get pieces (i + 1) ≡ Some q
    → ((rest : List Symbol) → Front (body ++ rest) (p ∷ [])) → ((ps : List Piece) → choose r (p ∷ q ∷ ps) ≡ Some (body, case))
    → Alone case p q → Enters pieces i case
enters_by_two {r} {body} pieces i case p q h g takes chosen alone = record { into = λ rest settled. Leads-case-of-two pieces r body case rest i p q h g (takes rest) settled chosen alone }

only-forth : (pieces : List Piece) (r : Rule) (body rest : List Symbol) (i k : ℕ) (p : Piece) → slice_get pieces i ≡ Some p
    → ((other : List Symbol) (ps : List Piece) → IsCase r other → Front (other ++ rest) (p ∷ ps) → Path (List Symbol) other body)
    → i < k → Front (A r ∷ rest) (part pieces i k) → Front (body ++ rest) (part pieces i k)
only-forth pieces r body rest i k p h only inside f =
    let split = part-cons pieces i k p h (omega arith) in
    let entered = Front-entered (rw split at f) in
    let same : entered.0 ≡ body = only entered.0 _ entered.1 entered.2 in
    rw (split, ← same) entered.2

only-whole : (pieces : List Piece) (r : Rule) (body rest : List Symbol) (i k : ℕ) (p : Piece) → slice_get pieces i ≡ Some p
    → ((other : List Symbol) (ps : List Piece) → IsCase r other → Front (other ++ rest) (p ∷ ps) → Path (List Symbol) other body)
    → i < k → Derives (A r ∷ rest) (part pieces i k) → Derives (body ++ rest) (part pieces i k)
only-whole pieces r body rest i k p h only inside d =
    let split = part-cons pieces i k p h (omega arith) in
    let entered = Derives-entered (rw split at d) in
    let same : entered.0 ≡ body = only entered.0 _ entered.1 (Derives-whole entered.2) in
    rw (split, ← same) entered.2

-- no other case begins with the first piece
pub enters_only : {r : Rule} {body : List Symbol} (pieces : List Piece) (i : ℕ) (case : IsCase r body) (p : Piece) → slice_get pieces i ≡ Some p
    → ((other rest : List Symbol) (ps : List Piece) → IsCase r other → Front (other ++ rest) (p ∷ ps) → Path (List Symbol) other body) → ¬ (IsCase r []) → Enters pieces i case
enters_only {r} {body} pieces i case p h only some = record {
  into = λ rest settled. record {
    onward = omega arith;
    back = λ k l f. goes_into body case f;
    forth = λ k l f. ⊎_elim (λ inside. only-forth pieces r body rest i k p h (λ other ps also g. only other rest ps also g) inside f)
        (λ outside. let nothing : part pieces i k ≡ [] = part-here pieces i k outside in rw nothing cut) (cases_lt i k);
    whole = λ k l d. ⊎_elim (λ inside. only-whole pieces r body rest i k p h (λ other ps also g. only other rest ps also g) inside d.derived)
        (λ outside. let nothing : part pieces i k ≡ [] = part-here pieces i k outside in absurd (some (empty_rule (rw nothing at d.derived)).0)) (cases_lt i k);
  };
}

-- the rule has one case
pub enters_always : {r : Rule} {body : List Symbol} (pieces : List Piece) (i : ℕ) (case : IsCase r body) → ((other : List Symbol) → IsCase r other → Path (List Symbol) other body) → Enters pieces i case
enters_always {r} {body} pieces i case only = record {
  into = λ rest settled. record {
    onward = omega arith;
    back = λ k l f. goes_into body case f;
    forth = λ k l f. sole_front f;
    whole = λ k l d. sole_derived d.derived;
  };
}
  where
    sole_front : {rest : List Symbol} {ps : List Piece} → Front (A r ∷ rest) ps → Front (body ++ rest) ps
    sole_front cut = cut
    sole_front {rest} {ps} (goes_into other also f) = let P : List Symbol → Type 0 = λ b. Front (b ++ rest) ps in subst P (only other also) f

    sole_derived : {rest : List Symbol} {ps : List Piece} → Derives (A r ∷ rest) ps → Derives (body ++ rest) ps
    sole_derived {rest} {ps} (expands other also d) = let P : List Symbol → Type 0 = λ b. Derives (b ++ rest) ps in subst P (only other also) d

-- a rule is read where its case is
pub read_case : {major : ℕ} {r : Rule} {body : List Symbol} {text : List ℕ} {list : List Laid} {i j : ℕ} {names after : List (List ℕ)} {ws : Values body} (case : IsCase r body)
    → Enters (pieces_of text list) i case → HasRead major body text list i names ws j after → HasRead major (A r ∷ []) text list i names (tree major case ws, tt) j after
read_case case enters h = record {
  onward = h.onward;
  within = h.within;
  leads = λ rest settled. Leads-trans (enters.into rest settled) (h.leads rest (settled_case rest case settled));
  shallow = h.shallow;
  spelled = a_rule case h.spelled no_symbol;
}

-- a rule is refused where its case is
pub refused_case : {r : Rule} {body : List Symbol} {text : List ℕ} {list : List Laid} {i : ℕ} {fault : ParseFault} (case : IsCase r body) → Enters (pieces_of text list) i case
    → IsRefused body text list i fault → IsRefused (A r ∷ []) text list i fault
refused_case case enters no_memory = no_memory
refused_case case enters (at_bad_piece k l fault h stops shallow named) = at_bad_piece k l fault h
    (λ rest settled. Stops-trans (enters.into rest settled) (stops rest (settled_case rest case settled))) shallow named
refused_case case enters (at_deep_piece k l h onward front shallow deep) = at_deep_piece k l h onward
    (λ rest settled. (enters.into rest settled).back (k + 1) (omega (arith, onward)) (front rest (settled_case rest case settled))) shallow deep

-- the part at a place as a piece
pub piece_at : (text : List ℕ) (list : List Laid) (i : ℕ) (l : Laid) → slice_get list i ≡ Some l → slice_get (pieces_of text list) i ≡ Some (piece_of text l)
piece_at text list i l h = slice_get-map (piece_of text) list i ∙ ap (λ (o : Option Laid). option_map (piece_of text) o) h

-- from a place on stands what stands there, and then what stands behind it
pub drop_at : {X : Type 0} (xs : List X) (i : ℕ) (x : X) → slice_get xs i ≡ Some x → drop i xs ≡ x ∷ drop (i + 1) xs
drop_at xs i x h =
    let within : i < length xs = slice_get_within xs i x h in
    let e : get_or xs i x ≡ x = get_or_from_slice_get xs i x x h in
    grind (arith, common_steps)

-- at one place stands one
pub one_at : {X : Type 0} (xs : List X) (i : ℕ) (x y : X) → slice_get xs i ≡ Some x → slice_get xs i ≡ Some y → x ≡ y
one_at xs i x y h g = some_injective (sym h ∙ g)

shallow_here : (pieces : List Piece) (i : ℕ) (p : Piece) → slice_get pieces i ≡ Some p → is_deep (levels (take i pieces)) p ≡ false → ¬ (IsDeepAt pieces i)
shallow_here pieces i p h flat d = let same : d.piece ≡ p = one_at pieces i d.piece p d.stands h in let deep = d.deep in cc

-- the piece at a place doesn't go too deep
pub shallow_piece : (pieces : List Piece) (i : ℕ) (p : Piece) → slice_get pieces i ≡ Some p → is_deep (levels (take i pieces)) p ≡ false → IsShallow pieces i (i + 1)
shallow_piece pieces i p h flat = record { none = λ n l m. let same : n ≡ i = omega (arith, l, m) in rw same (shallow_here pieces i p h flat) }

-- a piece that isn't wanted is refused
pub refused_piece : (keeps : Kept) (s : Terminal) {text : List ℕ} {list : List Laid} {i : ℕ} {l : Laid} {fault : ParseFault} → slice_get list i ≡ Some l → ¬ (Takes s (piece_of text l))
    → IsNamed (piece_of text l) (place text (start_of l)) fault → IsRefused (Is keeps s ∷ []) text list i fault
refused_piece keeps s {text} {list} {i} {l} {fault} h none named = at_bad_piece i l fault h
    (λ rest settled. Stops-piece (pieces_of text list) keeps s rest i (piece_of text l) (piece_at text list i l h) none) (shallow_none (pieces_of text list) i) named

-- a piece that is wanted and goes too deep is refused
pub refused_deep : (keeps : Kept) (s : Terminal) {text : List ℕ} {list : List Laid} {i : ℕ} {l : Laid} → slice_get list i ≡ Some l → Takes s (piece_of text l)
    → is_deep (levels (take i (pieces_of text list))) (piece_of text l) ≡ true → IsRefused (Is keeps s ∷ []) text list i (TooDeep (place text (start_of l)))
refused_deep keeps s {text} {list} {i} {l} h takes deep = at_deep_piece i l h (omega arith)
    (λ rest settled. let split : part (pieces_of text list) i (i + 1) ≡ piece_of text l ∷ part (pieces_of text list) (i + 1) (i + 1) = part-cons (pieces_of text list) i (i + 1) (piece_of text l) (piece_at text list i l h) (omega arith) in
    let nothing : part (pieces_of text list) (i + 1) (i + 1) ≡ [] = part-here (pieces_of text list) (i + 1) (i + 1) (omega arith) in
    rw (split, nothing) (takes_on takes cut)) (shallow_none (pieces_of text list) i)
    (record { piece = piece_of text l; stands = piece_at text list i l h; deep = deep })

-- One symbol that takes a piece is read where the piece is spelled as it and doesn't go too deep.
pub read_piece : {major : ℕ} {keeps : Kept} {s : Terminal} {text : List ℕ} {list : List Laid} {i : ℕ} {names after : List (List ℕ)} {vs : Values (Is keeps s ∷ [])} {l : Laid} → slice_get list i ≡ Some l
    → Takes s (piece_of text l) → is_deep (levels (take i (pieces_of text list))) (piece_of text l) ≡ false
    → Spells major text (Is keeps s ∷ []) (l ∷ drop (i + 1) list) names vs (drop (i + 1) list) after → HasRead major (Is keeps s ∷ []) text list i names vs (i + 1) after
read_piece {keeps} {s} {text} {list} {i} {names} {after} {vs} {l} h takes flat spelled = record {
  onward = omega arith;
  within = let inside : i < length list = slice_get_within list i l h in omega (arith, inside);
  leads = λ rest settled. Leads-piece (pieces_of text list) keeps s rest i (piece_of text l) (piece_at text list i l h) takes;
  shallow = shallow_piece (pieces_of text list) i (piece_of text l) (piece_at text list i l h) flat;
  spelled = rw (drop_at list i l h) spelled;
}

-- What a reader with a loop has yet to do: the rest, read from j on, makes the symbols read from i on, and a refusal of
-- the rest is one of the symbols.
pub record Awaits (major : ℕ) (symbols : List Symbol) (text : List ℕ) (list : List Laid) (i : ℕ) (names : List (List ℕ)) (rest : List Symbol) (build : Values rest → Values symbols) (j : ℕ) (now : List (List ℕ)) : Type 0 where
  pub finish : {vs : Values rest} {k : ℕ} {after : List (List ℕ)} → HasRead major rest text list j now vs k after → HasRead major symbols text list i names (build vs) k after
  pub refuse : {fault : ParseFault} → IsRefused rest text list j fault → IsRefused symbols text list i fault

-- nothing is read yet
pub awaits_all : {major : ℕ} (symbols : List Symbol) (text : List ℕ) (list : List Laid) (i : ℕ) (names : List (List ℕ)) → Awaits major symbols text list i names symbols (λ vs. vs) i names
awaits_all symbols text list i names = record { finish = λ h. h; refuse = λ h. h }

-- the first of the symbols are read
pub awaits_rest : {major : ℕ} (ss more : List Symbol) {text : List ℕ} {list : List Laid} {i j : ℕ} {names between : List (List ℕ)} {vs : Values ss} → HasRead major ss text list i names vs j between
    → Awaits major (ss ++ more) text list i names more (λ ws. joined ss more vs ws) j between
awaits_rest ss more h = record { finish = λ g. read_then h g; refuse = λ g. refused_behind h g }

-- once more round a rule that ends in a rule
pub awaits_round : {major : ℕ} {symbols : List Symbol} {text : List ℕ} {list : List Laid} {i j k : ℕ} {names now after : List (List ℕ)} {r next : Rule} {build : Values (A r ∷ []) → Values symbols}
    → Awaits major symbols text list i names (A r ∷ []) build j now → (front : List Symbol) (case : IsCase r (front ++ A next ∷ [])) → Enters (pieces_of text list) j case
    → {us : Values front} → HasRead major front text list j now us k after
    → Awaits major symbols text list i names (A next ∷ []) (λ vs. build (tree major case (joined front (A next ∷ []) us vs), tt)) k after
awaits_round a front case enters h = record {
  finish = λ g. a.finish (read_case case enters (read_then h g));
  refuse = λ g. a.refuse (refused_case case enters (refused_behind h g));
}
