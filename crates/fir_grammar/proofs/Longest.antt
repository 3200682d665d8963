-- Where a list spells a tree of a rule and no more, a reader of the rule answers that tree, or wants memory.
use Rattle.std.proofs.Common.{◌≡◌, ℕ, zero, suc, ◌+◌, ◌-◌, ◌<◌, ◌≤◌, List, [], ◌∷◌, ◌++◌, length, take, drop, refl, sym, ap, ◌∙◌, subst, append_assoc, length-append, arith, ⊎_elim, Ok, Result, Err}
use Rattle.std.proofs.lemmas.Grind.{common_steps}
use Rattle.std.proofs.lemmas.Bool.{cases_lt}
use Rattle.std.proofs.lemmas.List.{drop-map, take-map, drop-take, length-drop, length-map}
use Rattle.std.proofs.Math.Seq.{take-nil}
use Rattle.fir_layout.specs.declared.laid.Laid.{Laid}
use Rattle.fir_layout.specs.declared.laid.Laid.TheVariants.{Item}
use Rattle.fir_layout.specs.Pieces.{Piece, piece_of, pieces_of}
use Rattle.fir_tree.specs.declared.fault.ParseFault.{ParseFault}
use Rattle.fir_tree.specs.declared.fault.ParseFault.TheVariants.{NoMemory}
use Rattle.fir_tree.specs.Numbered.{IsDistinct}
use Rattle.fir_grammar.specs.Grammar.{Terminal, Symbol, A, Rule, Tree, Derives, done, Front, cut, takes_on, goes_into, Values, Spells, no_symbol, a_rule, a_piece, a_place, a_name, a_magnitude, a_placed_magnitude, a_quoted, a_format}
use Rattle.fir_grammar.specs.Reading.{part, CannotBeginAll, HasRead, IsRefused, no_memory, at_bad_piece, at_deep_piece, Reads, SpellsLongest, ReadsLongest}
use Rattle.fir_grammar.proofs.Fronts.{Derives-front, spelled_derives}
use Rattle.fir_grammar.proofs.Unique.{one_spelling}

-- parts of a list

part-taken : (pieces : List Piece) (i k : ℕ) → i ≤ k → part pieces i k ≡ take (k - i) (drop i pieces)
unfolding part
part-taken pieces i k h = let same : i + (k - i) ≡ k = omega (arith, h) in let e : drop i (take (i + (k - i)) pieces) ≡ take (k - i) (drop i pieces) = drop-take {X = Piece} i (k - i) pieces in subst (λ (n : ℕ). drop i (take n pieces) ≡ take (k - i) (drop i pieces)) same e

take-of-take : {X : Type 0} (n m : ℕ) (xs : List X) → n ≤ m → take n (take m xs) ≡ take n xs
take-of-take n m xs h = grind (arith, common_steps)

-- a part begins with each shorter one
part-shorter : (pieces : List Piece) (i j k : ℕ) → i ≤ j → j ≤ k → take (j - i) (part pieces i k) ≡ part pieces i j
part-shorter pieces i j k a b =
    rw (part-taken pieces i j a, part-taken pieces i k (omega (arith, a, b))) (take-of-take (j - i) (k - i) (drop i pieces) (omega (arith, a, b)))

Front-take : {ss : List Symbol} {ps : List Piece} (n : ℕ) → Front ss ps → Front ss (take n ps)
Front-take n cut = rw (take-nil n) cut
Front-take zero (takes_on h f) = cut
Front-take (suc n) (takes_on h f) = takes_on h (Front-take n f)
Front-take n (goes_into body case f) = goes_into body case (Front-take n f)

front-shorter : {ss : List Symbol} (pieces : List Piece) (i j k : ℕ) → i ≤ j → j ≤ k → Front ss (part pieces i k) → Front ss (part pieces i j)
front-shorter pieces i j k a b f = rw (part-shorter pieces i j k a b) at (Front-take (j - i) f)

derived-front : {ss : List Symbol} (pieces : List Piece) (i j k : ℕ) → i ≤ j → j ≤ k → Derives ss (part pieces i k) → Front ss (part pieces i j)
derived-front pieces i j k a b d = rw (part-shorter pieces i j k a b) at (Derives-front (j - i) d)

part-length : (pieces : List Piece) (j k : ℕ) → j ≤ k → k ≤ length pieces → length (part pieces j k) ≡ k - j
unfolding part
part-length pieces j k a b = grind (arith, common_steps)

-- no symbols derive no pieces
nothing_derived : {ps : List Piece} → Derives [] ps → ps ≡ []
nothing_derived done = refl

-- nothing stands behind a rule
cannot_begin : (ss : List Terminal) → CannotBeginAll [] ss
cannot_begin [] = tt
cannot_begin (s ∷ ss) = (record { none = λ p ps h f. elim f [ ] }, cannot_begin ss)

-- what is spelled is the spelling of what was taken, whatever stands behind it

record Taken (major : ℕ) (text : List ℕ) (ss : List Symbol) (ls rest : List Laid) (names : List (List ℕ)) (vs : Values ss) (after : List (List ℕ)) : Type 0 where
  taken : List Laid
  is : ls ≡ taken ++ rest
  spelled : (others : List Laid) → Spells major text ss (taken ++ others) names vs others after

module _ (major : ℕ) (text : List ℕ) where
  split : {ss : List Symbol} {ls rest : List Laid} {names after : List (List ℕ)} {vs : Values ss} → Spells major text ss ls names vs rest after → Taken major text ss ls rest names vs after
  split no_symbol = record { taken = []; is = refl; spelled = λ others. no_symbol }
  split (a_rule {ss} {body} {names} {between} {after} {ws} {vs} case inner more) =
      let a = split inner in
      let b = split more in
      record {
        taken = a.taken ++ b.taken;
        is = a.is ∙ ap (λ (m : List Laid). a.taken ++ m) b.is ∙ sym (append_assoc a.taken b.taken _);
        spelled = λ others. a_rule case (rw (append_assoc a.taken b.taken others) (a.spelled (b.taken ++ others))) (b.spelled others);
      }
  split (a_piece {l} h more) = let b = split more in record { taken = l ∷ b.taken; is = ap (λ (m : List Laid). l ∷ m) b.is; spelled = λ others. a_piece h (b.spelled others) }
  split (a_place {l} h more) = let b = split more in record { taken = l ∷ b.taken; is = ap (λ (m : List Laid). l ∷ m) b.is; spelled = λ others. a_place h (b.spelled others) }
  split (a_name {token} h adds more) = let b = split more in record { taken = Item token ∷ b.taken; is = ap (λ (m : List Laid). Item token ∷ m) b.is; spelled = λ others. a_name h adds (b.spelled others) }
  split (a_magnitude {token} h is more) = let b = split more in record { taken = Item token ∷ b.taken; is = ap (λ (m : List Laid). Item token ∷ m) b.is; spelled = λ others. a_magnitude h is (b.spelled others) }
  split (a_placed_magnitude {token} h is more) =
      let b = split more in record { taken = Item token ∷ b.taken; is = ap (λ (m : List Laid). Item token ∷ m) b.is; spelled = λ others. a_placed_magnitude h is (b.spelled others) }
  split (a_format {token} h is more) = let b = split more in record { taken = Item token ∷ b.taken; is = ap (λ (m : List Laid). Item token ∷ m) b.is; spelled = λ others. a_format h is (b.spelled others) }
  split (a_quoted {token} h is more) = let b = split more in record { taken = Item token ∷ b.taken; is = ap (λ (m : List Laid). Item token ∷ m) b.is; spelled = λ others. a_quoted h is (b.spelled others) }

  -- the part of a list that was taken
  part_spelled : {ss : List Symbol} (list : List Laid) (i j : ℕ) {names after : List (List ℕ)} {vs : Values ss} → i ≤ j → j ≤ length list
      → Spells major text ss (drop i list) names vs (drop j list) after → Spells major text ss (take (j - i) (drop i list)) names vs [] after
  part_spelled {ss} list i j {names} {after} {vs} onward within s =
      let t = split s in
      let longer : length (drop i list) ≡ length t.taken + length (drop j list) = ap (λ (m : List Laid). length m) t.is ∙ length-append t.taken (drop j list) in
      let many : length t.taken ≡ j - i = omega (arith, onward, within, longer, length-drop i list, length-drop j list) in
      let same : t.taken ≡ take (j - i) (drop i list) = taken_is (drop i list) t.taken (drop j list) (j - i) t.is many in
      subst (λ (m : List Laid). Spells major text ss m names vs [] after) (append_nil t.taken ∙ same) (t.spelled [])
    where
      taken_is : (xs ys zs : List Laid) (n : ℕ) → xs ≡ ys ++ zs → length ys ≡ n → ys ≡ take n xs
      taken_is xs ys zs n e l = rw (e, ← l) (grind (arith, common_steps))

      append_nil : (xs : List Laid) → xs ++ [] ≡ xs
      append_nil [] = refl
      append_nil (x ∷ xs) = rw (append_nil xs) refl

  pieces-part : (list : List Laid) (i j : ℕ) → i ≤ j → pieces_of text (take (j - i) (drop i list)) ≡ part (pieces_of text list) i j
  pieces-part list i j h = rw (part-taken (pieces_of text list) i j h) (sym (ap (λ (ps : List Piece). take (j - i) ps) (drop-map (piece_of text) i list) ∙ take-map (piece_of text) (j - i) (drop i list)))

  rule_derives : {r : Rule} (list : List Laid) (i j : ℕ) {names after : List (List ℕ)} {vs : Values (A r ∷ [])} → i ≤ j → j ≤ length list
      → Spells major text (A r ∷ []) (drop i list) names vs (drop j list) after → Derives (A r ∷ []) (part (pieces_of text list) i j)
  rule_derives list i j onward within s = rw (pieces-part list i j onward) at (spelled_derives text (part_spelled list i j onward within s) done)

  -- two spellings of one part
  one_part : {r : Rule} (list : List Laid) (i j : ℕ) {names after more : List (List ℕ)} {x y : Tree r} → i ≤ j → j ≤ length list → IsDistinct names
      → Spells major text (A r ∷ []) (drop i list) names (x, tt) (drop j list) after → Spells major text (A r ∷ []) (drop i list) names (y, tt) (drop j list) more → (x ≡ y) × (after ≡ more)
  one_part {r} list i j onward within distinct s t =
      let one = one_spelling major text [] (cannot_begin _, tt) distinct (part_spelled list i j onward within s) done (part_spelled list i j onward within t) done in
      (ap (λ (v : Values (A r ∷ [])). v.0) one.values, one.names)

  module _ {r : Rule} {list : List Laid} {i k : ℕ} {names more : List (List ℕ)} {x : Tree r} (l : SpellsLongest major (A r ∷ []) text list i names (x, tt) k more) where
    derived : Derives (A r ∷ []) (part (pieces_of text list) i k)
    derived = rule_derives list i k l.onward l.within l.spelled

    -- a reader stands behind the tree
    ends_there : {y : Tree r} {j : ℕ} {after : List (List ℕ)} → HasRead major (A r ∷ []) text list i names (y, tt) j after → j ≡ k
    ends_there {y} {j} {after} h = ⊎_elim before behind (cases_lt k j)
      where
        before : k < j → j ≡ k
        before less = absurd (l.ends (derived-front (pieces_of text list) i (k + 1) j (omega (arith, l.onward)) (omega (arith, less)) (rule_derives list i j h.onward h.within h.spelled)))

        behind : j ≤ k → j ≡ k
        behind more =
            let none : part (pieces_of text list) j k ≡ [] = nothing_derived ((h.leads [] (cannot_begin _, tt)).whole k more (record { derived = derived; ends = l.ends })) in
            let few : length (part (pieces_of text list) j k) ≡ 0 = rw none refl in
            let many : length (part (pieces_of text list) j k) ≡ k - j = part-length (pieces_of text list) j k more (rw length-map l.within) in
            omega (arith, few, many, more)

    -- and refuses none of its pieces
    never_refused : {fault : ParseFault} → IsRefused (A r ∷ []) text list i fault → fault ≡ NoMemory
    never_refused no_memory = refl
    never_refused (at_bad_piece m p fault h stops shallow named) = let s = stops [] (cannot_begin _, tt) in
        absurd (⊎_elim (λ less. s.here (derived-front (pieces_of text list) i (m + 1) k (omega (arith, s.onward)) (omega (arith, less)) derived))
        (λ past. ⊎_elim (λ less. l.ends (front-shorter (pieces_of text list) i (k + 1) m (omega (arith, l.onward)) (omega (arith, less)) s.before))
        (λ up. let same : m ≡ k = omega (arith, past, up) in s.wanting (rw same derived)) (cases_lt k m)) (cases_lt m k))
    never_refused (at_deep_piece m p h onward front shallow deep) =
        absurd (⊎_elim (λ less. l.shallow.none m onward less deep)
        (λ past. l.ends (front-shorter (pieces_of text list) i (k + 1) (m + 1) (omega (arith, l.onward)) (omega (arith, past)) (front [] (cannot_begin _, tt)))) (cases_lt m k))

-- the theorem, of what is read and of each answer

pub answered_longest : (r : Rule) {major : ℕ} {text : List ℕ} {list : List Laid} {i j : ℕ} {names after : List (List ℕ)} {y : Tree r} → HasRead major (A r ∷ []) text list i names (y, tt) j after
    → ReadsLongest major r text list i names (Ok y) j after
answered_longest r {major} {text} {list} {i} {j} {names} h x k more distinct l =
    let same : j ≡ k = ends_there major text l h in
    let spelled : Spells major text (A r ∷ []) (drop i list) names (x, tt) (drop j list) more = rw same l.spelled in
    let one = one_part major text list i j h.onward h.within distinct h.spelled spelled in
    (one.0, same, one.1)

pub reads_longest : (major : ℕ) (r : Rule) (text : List ℕ) (list : List Laid) (i : ℕ) (names : List (List ℕ)) (result : Result (Tree r) ParseFault) (j : ℕ) (after : List (List ℕ))
    → Reads major r text list i names result j after → ReadsLongest major r text list i names result j after
reads_longest major r text list i names (Ok y) j after h = answered_longest r h
reads_longest major r text list i names (Err fault) j after h = λ x k more distinct l. never_refused major text l h
