-- Whole texts: the circuit that is read, and the fault of a list that is refused.
use Rattle.std.proofs.Common.{◌≡◌, ◌⊎◌, Bool, true, false, ℕ, zero, suc, ◌+◌, ◌<◌, ◌≤◌, List, [], ◌∷◌, ◌++◌, length, drop, refl, sym, ap, ◌∙◌, subst, arith, inl, inr, codes, length-append, ◌^◌, ◌-◌, slice_get, slice_index_or, Some, Ok, Err, Result, IfOk, IfErr, MatchResult}
use Rattle.std.proofs.lemmas.Option.{slice_get_within}
use Rattle.std.proofs.lemmas.List.{length-drop, length-map}
use Rattle.std.proofs.Math.Seq.{drop-nil}
use Rattle.fir_layout.specs.declared.laid.Laid.{Laid}
use Rattle.fir_layout.specs.declared.laid.Laid.TheVariants.{Item, LineEnd, Open, Close, End}
use Rattle.fir_layout.specs.Layout.{IsInside, tokens_in, token_in}
use Rattle.fir_types.specs.declared.name.Name.{Name}
use Rattle.item_lines.specs.declared.line.LineModule.{LineModule}
use Rattle.fir_expr.specs.declared.reader.Reader.{Reader}
use Rattle.token_reader.specs.Standing.{IsLaidFrom}
use Rattle.fir_parser.specs.Taking.{pieces, here, StandsAt, HasTaken, Refuses, InBlocks}
use Rattle.token_reader.proofs.Composition.{Enters, piece_at, read_case, read_then}
use Rattle.fir_parser.proofs.Joins.{joins, first, later, breaks}
use Rattle.fir_parser.proofs.Entering.{enters_part}
use Rattle.fir_parser.specs.Expected.{Meets}
use Rattle.fir_parser.specs.Heads.{WordsStand, VersionRefused, no_number, other_number, IsTextRead}
use Rattle.fir_grammar.proofs.Fronts.{Front-taken, Front-entered}
use Rattle.fir_grammar.proofs.Follows.{settled_case}
use Rattle.fir_grammar.proofs.ReadingLaws.{part-here, Stops-trans, Stops-piece}
use Rattle.fir_layout.specs.Pieces.{Piece, piece_of, pieces_of}
use Rattle.fir_tree.specs.declared.fault.ParseFault.{ParseFault}
use Rattle.fir_tree.specs.declared.fault.ParseFault.TheVariants.{NoMemory}
use Rattle.fir_tree.specs.declared.circuit.Circuit.{Circuit}
use Rattle.fir_grammar.specs.Grammar.{A, Text, A_number, A_major, Ends, The_word, Terminal, IsCase, a_text, cut, goes_into, word, mark, line_end, name, colon, Circuit_body, Nothing, Its_magnitude, Is, Symbol, Values, Spells, no_symbol, a_rule, a_piece, a_place, a_name, a_magnitude, a_placed_magnitude, a_quoted, a_format, Takes, Front, done, IsCircuit, circuit_of, field_names}
use Rattle.fir_grammar.specs.Faults.{IsShallow, IsBad, IsTooDeep, FaultOf, a_version, a_bad_piece, a_deep_piece, IsDeepAt}
use Rattle.fir_grammar.specs.Reading.{part, HasRead, Stops, IsRefused, no_memory, at_bad_piece, at_deep_piece}
use Rattle.fir_tree.specs.Numbered.{IsDistinct}
use Rattle.fir_grammar.proofs.Agreement.{fields_distinct}
use Rattle.fir_grammar.proofs.Unique.{one_spelling, one_circuit}
use Rattle.fir_grammar.proofs.OneFault.{one_fault, accepted}

-- the part from the beginning on is the whole
stops_bad : (ps : List Piece) (k : ℕ) → Stops ps (A Text ∷ []) 0 k → IsShallow ps 0 k → IsBad ps k
unfolding part
stops_bad ps k stops shallow = record { before = stops.before; here = stops.here; shallow = shallow }

front_deep : (ps : List Piece) (k : ℕ) → Front (A Text ∷ []) (part ps 0 (k + 1)) → IsDeepAt ps k → IsShallow ps 0 k → IsTooDeep ps k
unfolding part
front_deep ps k f deep shallow = record { here = f; deep = deep; shallow = shallow }

-- the version's first number isn't what is refused
pub record NotTheVersion (text : List ℕ) (list : List Laid) : Type 0 where
  pub elsewhere : (l : Laid) → slice_get list 2 ≡ Some l → Takes A_number (piece_of text l) → ¬ (IsBad (pieces_of text list) 2)

not_third : (text : List ℕ) (list : List Laid) (k : ℕ) (l : Laid) → NotTheVersion text list → slice_get list k ≡ Some l → IsBad (pieces_of text list) k → ¬ ((k ≡ 2) × Takes A_number (piece_of text l))
not_third text list k l other stands bad (e, number) = other.elsewhere l (subst (λ (n : ℕ). slice_get list n ≡ Some l) e stands) number (subst (λ (n : ℕ). IsBad (pieces_of text list) n) e bad)

-- the refusal of a text is its fault
pub text_fault : (text : List ℕ) (list : List Laid) (fault : ParseFault) → NotTheVersion text list → IsRefused (A Text ∷ []) text list 0 fault → (fault ≡ NoMemory) ⊎ FaultOf text list fault
text_fault text list _ other no_memory = inl refl
text_fault text list _ other (at_bad_piece k l fault stands stops shallow named) =
    let bad : IsBad (pieces_of text list) k = stops_bad (pieces_of text list) k (stops [] (tt, tt)) shallow in
    inr (a_bad_piece k l fault stands bad (not_third text list k l other stands bad) named)
text_fault text list _ other (at_deep_piece k l stands onward front shallow deep) =
    inr (a_deep_piece k l stands (front_deep (pieces_of text list) k (front [] (tt, tt)) deep shallow))

-- what is answered is the one circuit, or the one fault

module _ (text : List ℕ) (list : List Laid) where
  pub accepts_from : (result : Result Circuit ParseFault) → IfOk result (λ circuit. IsCircuit text list circuit) → IfErr result (λ fault. (fault ≡ NoMemory) ⊎ FaultOf text list fault)
      → (circuit : Circuit) → IsCircuit text list circuit → ((k : ℕ) → ¬ (IsDeepAt (pieces_of text list) k)) → MatchResult result (λ given. given ≡ circuit) (λ fault. fault ≡ NoMemory)
  accepts_from (Ok given) h g circuit is shallow = one_circuit text list given circuit h is
  accepts_from (Err fault) h (inl e) circuit is shallow = e
  accepts_from (Err fault) h (inr f) circuit is shallow = absurd (accepted text list circuit fault is shallow f)

  pub refuses_from : (result : Result Circuit ParseFault) → IfOk result (λ circuit. IsCircuit text list circuit) → IfOk result (λ _. (k : ℕ) → ¬ (IsDeepAt (pieces_of text list) k))
      → IfErr result (λ fault. (fault ≡ NoMemory) ⊎ FaultOf text list fault)
      → (fault : ParseFault) → FaultOf text list fault → MatchResult result (λ given. ⊥) (λ given. (given ≡ NoMemory) ⊎ (given ≡ fault))
  refuses_from (Ok given) h s g fault f = accepted text list given fault h s f
  refuses_from (Err given) h s (inl e) fault f = inl e
  refuses_from (Err given) h s (inr g) fault f = inr (one_fault text list given fault g f)

-- where the end was taken nothing is left

spelled_end : {major : ℕ} (text : List ℕ) {ls rest : List Laid} {names after : List (List ℕ)} {vs : Values (Is Nothing Ends ∷ [])} → Spells major text (Is Nothing Ends ∷ []) ls names vs rest after
    → (l : Laid) × (ls ≡ l ∷ rest) × Takes Ends (piece_of text l)
spelled_end text (a_piece {l} h no_symbol) = (l, refl, h)

inner_end : (text : List ℕ) (size : ℕ) (x : Laid) → IsInside size x → ¬ (Takes Ends (piece_of text x))
inner_end text size (Item token) inside takes = takes
inner_end text size (LineEnd at) inside takes = takes
inner_end text size (Open at) inside takes = takes
inner_end text size (Close at) inside takes = takes
inner_end text size (End at) inside takes = inside

head_same : (x l : Laid) (xs rest : List Laid) → x ∷ xs ≡ l ∷ rest → l ≡ x
head_same x l xs rest e = cc

tail_same : (x l : Laid) (xs rest : List Laid) → x ∷ xs ≡ l ∷ rest → rest ≡ xs
tail_same x l xs rest e = cc

none_left : (l : Laid) (rest : List Laid) → [] ≡ l ∷ rest → ⊥
none_left l rest e = cc

last_end : (text : List ℕ) (size : ℕ) (front : List Laid) (i : ℕ) (l : Laid) (rest : List Laid) → ((k : ℕ) (d : Laid) → k < length front → IsInside size (slice_index_or front k d))
    → drop i (front ++ End size ∷ []) ≡ l ∷ rest → Takes Ends (piece_of text l) → rest ≡ []
last_end text size [] zero l rest inside e takes = tail_same (End size) l [] rest e
last_end text size [] (suc i) l rest inside e takes = let shorter : drop i [] ≡ l ∷ rest = e in absurd (none_left l rest (sym (drop-nil i) ∙ shorter))
last_end text size (x ∷ xs) zero l rest inside e takes = absurd (inner_end text size x (inside 0 x (omega arith)) (subst (λ (y : Laid). Takes Ends (piece_of text y)) (head_same x l (xs ++ End size ∷ []) rest e) takes))
last_end text size (x ∷ xs) (suc i) l rest inside e takes = last_end text size xs i l rest (λ k d h. inside (suc k) d (omega (arith, h))) e takes

pub nothing_behind : (old new : Reader) → IsLaidFrom old.bytes.now old.laid.now → HasTaken (Is Nothing Ends ∷ []) old new tt → drop new.at old.laid.now ≡ []
nothing_behind old new laid h =
    let end = spelled_end old.bytes.now h.read.spelled in
    let made : drop old.at (laid.ends.front ++ End (length old.bytes.now) ∷ []) ≡ end.0 ∷ drop new.at old.laid.now = ap (λ (ls : List Laid). drop old.at ls) (sym laid.ends.made) ∙ end.1 in
    last_end old.bytes.now (length old.bytes.now) laid.ends.front old.at end.0 (drop new.at old.laid.now) laid.ends.inside made end.2

-- what terminals alone spell is spelled in every version

abbrev has_no_rule : List Symbol → Bool
has_no_rule [] = true
has_no_rule (Is k s ∷ ss) = has_no_rule ss
has_no_rule (A r ∷ ss) = false

respelled : {major : ℕ} (other : ℕ) (text : List ℕ) {ss : List Symbol} {ls rest : List Laid} {names after : List (List ℕ)} {vs : Values ss} → has_no_rule ss ≡ true → Spells major text ss ls names vs rest after
    → Spells other text ss ls names vs rest after
respelled other text none no_symbol = no_symbol
respelled other text none (a_rule case inner more) = cc
respelled other text none (a_piece h more) = a_piece h (respelled other text none more)
respelled other text none (a_place h more) = a_place h (respelled other text none more)
respelled other text none (a_name h adds more) = a_name h adds (respelled other text none more)
respelled other text none (a_magnitude h is more) = a_magnitude h is (respelled other text none more)
respelled other text none (a_placed_magnitude h is more) = a_placed_magnitude h is (respelled other text none more)
respelled other text none (a_quoted h is more) = a_quoted h is (respelled other text none more)
respelled other text none (a_format h is more) = a_format h is (respelled other text none more)

reread : {major : ℕ} (other : ℕ) {ss : List Symbol} {text : List ℕ} {list : List Laid} {i j : ℕ} {names after : List (List ℕ)} {vs : Values ss} → has_no_rule ss ≡ true → HasRead major ss text list i names vs j after
    → HasRead other ss text list i names vs j after
reread other {text} none h = record { onward = h.onward; within = h.within; leads = h.leads; shallow = h.shallow; spelled = respelled other text none h.spelled }

-- the reader's version was set, and nothing else
pub record Sets (version : ℕ) (old new : Reader) : Type 0 where
  pub major : new.major ≡ version
  pub bytes : new.bytes.now ≡ old.bytes.now
  pub laid : new.laid.now ≡ old.laid.now
  pub at : new.at ≡ old.at
  pub names : new.names ≡ old.names
  pub brackets : new.brackets ≡ old.brackets

pub stands_set : {major : ℕ} (old new : Reader) → Sets major old new → StandsAt old → StandsAt new
stands_set old new e s = record {
  short = rw e.bytes s.short;
  laid = rw (e.bytes, e.laid) s.laid;
  within = rw (e.at, e.laid) s.within;
  room = rw (e.at, e.laid, e.names) s.room;
  outside = e.brackets ∙ s.outside;
  one = rw (e.at, e.bytes, e.laid) s.one;
  no_dot = rw (e.at, e.bytes, e.laid) s.no_dot;
}

pub here_set : {major : ℕ} (old new : Reader) → Sets major old new → here new ≡ here old
here_set old new e = rw (e.at, e.bytes, e.laid) refl

pub refused_set : {major : ℕ} {ss : List Symbol} {fault : ParseFault} (old new : Reader) → Sets major old new → Refuses ss new fault → Refuses ss old fault
refused_set old new e r = record { refused = rw (e.at, e.bytes, e.laid) at r.refused }

pub enters_text : (reader : Reader) → Enters (pieces reader) reader.at a_text
enters_text reader = enters_part a_text reader (λ l stands ps. refl)

-- a text that was read: the first number of its version before the version was set, and all else behind
pub text_read : (major : ℕ) (old words version set numbers new : Reader) (main : Name) (modules : List LineModule) → HasTaken (word "FIRRTL" ∷ word "version" ∷ []) old words tt
    → HasTaken (Is Its_magnitude A_major ∷ []) words version (major, tt) → Sets major version set
    → HasTaken (mark 46 ∷ Is Nothing A_number ∷ mark 46 ∷ Is Nothing A_number ∷ line_end ∷ []) set numbers tt
    → HasTaken (word "circuit" ∷ name ∷ colon ∷ line_end ∷ A Circuit_body ∷ Is Nothing Ends ∷ []) numbers new (main, (modules, tt)) → IsTextRead major old new (main, modules)
text_read major old words version set numbers new main modules h g e p q =
    let before = joins h g in
    let behind = joins p q in
    record {
      bytes = behind.bytes ∙ (e.bytes ∙ before.bytes);
      laid = behind.laid ∙ (e.laid ∙ before.laid);
      read = read_case a_text (enters_text old) (read_then (reread major refl before.read) (rw (e.major, e.bytes, e.laid, e.at, e.names, before.bytes, before.laid) at behind.read));
    }

-- no name of a text that was read has two numbers
pub text_names : {major : ℕ} (old new : Reader) (of : Name × List LineModule) → old.names ≡ field_names → IsTextRead major old new of → drop new.at old.laid.now ≡ [] → IsDistinct new.names
text_names {major} old new of names h end =
    let spelled : Spells major old.bytes.now (A Text ∷ []) (drop old.at old.laid.now) field_names ((major, of), tt) [] new.names = rw (end, names) at h.read.spelled in
    (one_spelling major old.bytes.now [] (tt, tt) fields_distinct spelled done spelled done).distinct

-- the circuit
pub circuit_read : {major : ℕ} (old new : Reader) (main : Name) (lines : List LineModule) (circuit : Circuit) → old.at ≡ 0 → old.names ≡ field_names → IsTextRead major old new (main, lines) → drop new.at old.laid.now ≡ []
    → circuit ≡ circuit_of main lines new.names → IsCircuit old.bytes.now old.laid.now circuit
circuit_read {major} old new main lines circuit at names h end made =
    rw made (record { major = major; lines = lines; names = new.names; spelled = record { spelled = rw (end, at, names) at h.read.spelled }; is = refl })

left_none : (list : List Laid) (j : ℕ) → drop j list ≡ [] → length list ≤ j
left_none list j e = let counted : length (drop j list) ≡ 0 = ap (λ (ls : List Laid). length ls) e in let a = length-drop j list in omega (arith, a, counted)

pub text_shallow : {major : ℕ} (old new : Reader) (of : Name × List LineModule) → old.at ≡ 0 → IsTextRead major old new of → drop new.at old.laid.now ≡ [] → (k : ℕ) → ¬ (IsDeepAt (pieces_of old.bytes.now old.laid.now) k)
text_shallow old new of at h end k deep =
    let inside : k < length (pieces_of old.bytes.now old.laid.now) = slice_get_within (pieces_of old.bytes.now old.laid.now) k deep.piece deep.stands in
    let counted : length (pieces_of old.bytes.now old.laid.now) ≡ length old.laid.now = length-map old.laid.now (piece_of old.bytes.now) in
    let behind : length old.laid.now ≤ new.at = left_none old.laid.now new.at end in
    h.read.shallow.none k (omega (arith, at)) (omega (arith, inside, counted, behind)) deep

-- one terminal is one part

one_longer : {major : ℕ} (text : List ℕ) (s : Terminal) {ls rest : List Laid} {names after : List (List ℕ)} {vs : Values (Is Nothing s ∷ [])} → Spells major text (Is Nothing s ∷ []) ls names vs rest after
    → length ls ≡ length rest + 1
one_longer text s (a_piece h no_symbol) = omega arith

number_longer : {major : ℕ} (text : List ℕ) (s : Terminal) {ls rest : List Laid} {names after : List (List ℕ)} {vs : Values (Is Its_magnitude s ∷ [])} → Spells major text (Is Its_magnitude s ∷ []) ls names vs rest after
    → length ls ≡ length rest + 1
number_longer text s (a_magnitude h is no_symbol) = omega arith

one_part : {ss : List Symbol} {vs : Values ss} (old new : Reader) → HasTaken ss old new vs → length (drop old.at old.laid.now) ≡ length (drop new.at old.laid.now) + 1 → new.at ≡ old.at + 1
one_part old new h a =
    let b = length-drop old.at old.laid.now in
    let c = length-drop new.at old.laid.now in
    let d = h.read.onward in
    let e = h.read.within in
    omega (arith, a, b, c, d, e)

pub one_step : (old new : Reader) (s : Terminal) → HasTaken (Is Nothing s ∷ []) old new tt → new.at ≡ old.at + 1
one_step old new s h = one_part old new h (one_longer old.bytes.now s h.read.spelled)

pub no_second : (old mid : Reader) → HasTaken (word "FIRRTL" ∷ []) old mid tt → ¬ (Meets (The_word (codes "version")) mid) → ¬ (WordsStand old)
no_second old mid h none w =
    let next : mid.at ≡ old.at + 1 = one_step old mid (The_word (codes "FIRRTL")) h in
    none (record { laid = w.two.laid; stands = rw (h.laid, next) w.two.stands; takes = rw h.bytes w.two.takes })

-- a list whose third part is bad begins with the two words
words_first : (text : List ℕ) (p q : Piece) {body : List Symbol} → IsCase Text body → Front (body ++ []) (p ∷ q ∷ []) → Takes (The_word (codes "FIRRTL")) p × Takes (The_word (codes "version")) q
words_first text p q a_text f = let a = Front-taken f in (a.0, (Front-taken a.1).0)

words_there : (text : List ℕ) (list : List Laid) (l : Laid) → slice_get list 2 ≡ Some l → IsBad (pieces_of text list) 2
    → (x : Laid) × (y : Laid) × (slice_get list 0 ≡ Some x) × (slice_get list 1 ≡ Some y) × Takes (The_word (codes "FIRRTL")) (piece_of text x) × Takes (The_word (codes "version")) (piece_of text y)
words_there text [] l e bad = cc
words_there text (x ∷ []) l e bad = cc
words_there text (x ∷ y ∷ []) l e bad = cc
words_there text (x ∷ y ∷ z ∷ ls) l e bad =
    let entered = Front-entered bad.before in
    let both = words_first text (piece_of text x) (piece_of text y) entered.1 entered.2 in
    (x, y, refl, refl, both.0, both.1)

pub without_words : (reader : Reader) → reader.at ≡ 0 → ¬ (WordsStand reader) → NotTheVersion reader.bytes.now reader.laid.now
without_words reader at none = record {
  elsewhere = λ l stands number bad.
      let w = words_there reader.bytes.now reader.laid.now l stands bad in
      none (record { one = record { laid = w.0; stands = rw at w.2; takes = w.4 }; two = record { laid = w.1; stands = rw at w.3; takes = w.5 } });
}

pub without_number : (reader : Reader) → reader.at ≡ 2 → ¬ (Meets A_number reader) → NotTheVersion reader.bytes.now reader.laid.now
without_number reader at none = record { elsewhere = λ l stands number bad. none (record { laid = l; stands = rw at stands; takes = number }) }

-- a list whose version was read isn't bad at its third part
three_front : (ps : List Piece) → Front (A Text ∷ []) (part ps 0 3) → ¬ (IsBad ps 2)
unfolding part
three_front ps f bad = bad.here f

pub with_version : (old new : Reader) (n : ℕ) → old.at ≡ 0 → new.at ≡ 3 → HasTaken (word "FIRRTL" ∷ word "version" ∷ Is Its_magnitude A_major ∷ []) old new (n, tt) → NotTheVersion old.bytes.now old.laid.now
with_version old new n at three h = record { elsewhere = λ l stands number. three_front (pieces_of old.bytes.now old.laid.now) (front_of old new n at three h) }
  where
    front_of : (old new : Reader) (n : ℕ) → old.at ≡ 0 → new.at ≡ 3 → HasTaken (word "FIRRTL" ∷ word "version" ∷ Is Its_magnitude A_major ∷ []) old new (n, tt) → Front (A Text ∷ []) (part (pieces_of old.bytes.now old.laid.now) 0 3)
    front_of old new n at three h =
        let nothing : part (pieces_of old.bytes.now old.laid.now) new.at 3 ≡ [] = part-here (pieces_of old.bytes.now old.laid.now) new.at 3 (omega (arith, three)) in
        let leads = h.read.leads (mark 46 ∷ Is Nothing A_number ∷ mark 46 ∷ Is Nothing A_number ∷ line_end ∷ word "circuit" ∷ name ∷ colon ∷ line_end ∷ A Circuit_body ∷ Is Nothing Ends ∷ []) (settled_case [] a_text (tt, tt)) in
        goes_into _ a_text (rw at at (leads.back 3 (omega (arith, three)) (rw nothing cut)))

-- a refusal of the version's number is the fault of the text
pub refused_text : (reader : Reader) (fault : ParseFault) → reader.at ≡ 0 → NotTheVersion reader.bytes.now reader.laid.now → Refuses (A Text ∷ []) reader fault
    → (fault ≡ NoMemory) ⊎ FaultOf reader.bytes.now reader.laid.now fault
refused_text reader fault at other r = text_fault reader.bytes.now reader.laid.now fault other (rw at at r.refused)

-- the version's first number is neither 3 nor 4
bad_version : (old mid : Reader) → old.at ≡ 0 → mid.at ≡ old.at + 2 → HasTaken (word "FIRRTL" ∷ word "version" ∷ []) old mid tt
    → (l : Laid) → slice_get old.laid.now mid.at ≡ Some l → ¬ (Takes A_major (piece_of old.bytes.now l)) → IsBad (pieces old) 2
bad_version old mid start two h l stands not_major =
    let third : mid.at ≡ 2 = omega (arith, start, two) in
    let entered = (enters_text old).into [] (tt, tt) in
    let words = h.read.leads behind_words (settled_case [] a_text (tt, tt)) in
    let stops = Stops-trans entered (Stops-trans words (Stops-piece (pieces old) Its_magnitude A_major behind_major mid.at (piece_of old.bytes.now l) (piece_at old.bytes.now old.laid.now mid.at l stands) not_major)) in
    stops_bad (pieces old) 2 (rw (start, third) at stops) (rw (start, third) at h.read.shallow)
  where
    behind_major : List Symbol
    behind_major = mark 46 ∷ Is Nothing A_number ∷ mark 46 ∷ Is Nothing A_number ∷ line_end ∷ word "circuit" ∷ name ∷ colon ∷ line_end ∷ A Circuit_body ∷ Is Nothing Ends ∷ []

    behind_words : List Symbol
    behind_words = Is Its_magnitude A_major ∷ behind_major

pub version_fault : (old mid : Reader) (fault : ParseFault) → old.at ≡ 0 → mid.at ≡ old.at + 2 → HasTaken (word "FIRRTL" ∷ word "version" ∷ []) old mid tt → VersionRefused mid fault
    → (fault ≡ NoMemory) ⊎ FaultOf old.bytes.now old.laid.now fault
version_fault old mid _ start two h (no_number fault none refused) =
    let other : NotTheVersion old.bytes.now old.laid.now = rw (h.bytes, h.laid) at (without_number mid (omega (arith, start, two)) none) in
    refused_text old fault start other (breaks a_text (enters_text old) (later h (first _ (record { refused = refused }))))
version_fault old mid _ start two h (other_number m not_major) =
    let third : mid.at ≡ 2 = omega (arith, start, two) in
    let stands : slice_get old.laid.now mid.at ≡ Some m.laid = rw h.laid at m.stands in
    let never : ¬ (Takes A_major (piece_of old.bytes.now m.laid)) = λ takes. not_major (record { laid = m.laid; stands = m.stands; takes = rw h.bytes takes }) in
    rw h.bytes (inr (a_version m.laid (rw third at stands) (bad_version old mid start two h m.laid stands never) (rw h.bytes at m.takes)))

pub at_three : (old mid new : Reader) (n : ℕ) → old.at ≡ 0 → mid.at ≡ old.at + 2 → HasTaken (Is Its_magnitude A_major ∷ []) mid new (n, tt) → new.at ≡ 3
at_three old mid new n start two h = let a = one_part mid new h (number_longer mid.bytes.now A_major h.read.spelled) in omega (arith, start, two, a)

few_tokens : (l : Laid) → length (token_in l) ≤ 1
few_tokens (Item token) = omega arith
few_tokens (LineEnd at) = omega arith
few_tokens (Open at) = omega arith
few_tokens (Close at) = omega arith
few_tokens (End at) = omega arith

tokens_fewer : (list : List Laid) → length (tokens_in list) ≤ length list
tokens_fewer [] = omega arith
tokens_fewer (l ∷ ls) =
    let a : length (tokens_in (l ∷ ls)) ≡ length (token_in l) + length (tokens_in ls) = length-append (token_in l) (tokens_in ls) in
    let b = few_tokens l in
    let c = tokens_fewer ls in
    omega (arith, a, b, c)

stands_start : (r : Reader) → length r.bytes.now < 2 ^ 32 - 1 → IsLaidFrom r.bytes.now r.laid.now → r.at ≡ 0 → r.names ≡ field_names → r.brackets ≡ 0 → length r.laid.now < 4294967286 → StandsAt r
stands_start r short laid at names brackets few =
    let c = tokens_fewer r.laid.now in
    record { short = short; laid = laid; within = rw at (omega arith); room = rw (at, names) (omega (arith, c, few)); outside = brackets; one = rw at refl; no_dot = rw at refl }

pub stands_first : (r : Reader) → length r.bytes.now < 2 ^ 32 - 1 → IsLaidFrom r.bytes.now r.laid.now → r.at ≡ 0 → r.names ≡ field_names → r.brackets ≡ 0 → length r.laid.now < 4294967286 → InBlocks 0 r
stands_first r short laid at names brackets few = (stands_start r short laid at names brackets few, rw at refl)
