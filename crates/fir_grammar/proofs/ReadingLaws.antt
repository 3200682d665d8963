-- Laws of `Leads` and `Stops`, for the readers of laid lists.
use Rattle.std.proofs.Common.{◌≡◌, ℕ, ◌+◌, ◌<◌, ◌≤◌, List, [], ◌∷◌, ◌++◌, length, get_or, sym, ◌∙◌, ap, arith, slice_get, Some, ⊎_elim, subst}
use Rattle.std.proofs.Math.Path.{Path}
use Rattle.std.proofs.lemmas.Grind.{common_steps}
use Rattle.std.proofs.lemmas.Option.{slice_get_within, get_or_from_slice_get}
use Rattle.std.proofs.lemmas.Bool.{cases_lt}
use Rattle.fir_layout.specs.Pieces.{Piece}
use Rattle.fir_grammar.specs.Grammar.{Terminal, Takes, Kept, Symbol, Is, A, Rule, IsCase, Derives, meets, expands, Front, cut, takes_on, goes_into}
use Rattle.fir_grammar.specs.Reading.{part, IsLongest, Leads, Stops, IsSettled}
use Rattle.fir_grammar.proofs.Fronts.{Front-taken, Front-entered}
use Rattle.fir_grammar.proofs.Cases.{Chosen, choose, chooses, some_injective}
use Rattle.fir_grammar.proofs.Completion.{Front-completes}
use Rattle.fir_grammar.proofs.Empty.{no_piece, empty_chosen}

pub part-here : (pieces : List Piece) (i k : ℕ) → k ≤ i → part pieces i k ≡ []
unfolding part
part-here pieces i k h = grind (arith, common_steps)

pub part-cons : (pieces : List Piece) (i k : ℕ) (p : Piece) → slice_get pieces i ≡ Some p → i + 1 ≤ k → part pieces i k ≡ p ∷ part pieces (i + 1) k
unfolding part
part-cons pieces i k p h l =
    let within : i < length pieces = slice_get_within pieces i p h in
    let e : get_or pieces i p ≡ p = get_or_from_slice_get pieces i p p h in
    grind (arith, common_steps)

pub Leads-refl : (pieces : List Piece) (symbols : List Symbol) (i : ℕ) → Leads pieces symbols i symbols i
Leads-refl pieces symbols i = record { onward = omega arith; back = λ k h f. f; forth = λ k h f. f; whole = λ k h l. l.derived }

-- what is derived by symbols, as far as they go, is derived by what they lead to as far as it goes
longest-behind : {pieces : List Piece} {a b : List Symbol} {i j : ℕ} → Leads pieces a i b j → (n : ℕ) → j ≤ n → IsLongest pieces a i n → IsLongest pieces b j n
longest-behind p n h l = record { derived = p.whole n h l; ends = λ f. l.ends (p.back (n + 1) (omega (arith, h)) f) }

pub Leads-trans : {pieces : List Piece} {a b c : List Symbol} {i j k : ℕ} → Leads pieces a i b j → Leads pieces b j c k → Leads pieces a i c k
Leads-trans {i} {j} {k} p q = record {
  onward = omega (arith, p.onward, q.onward);
  back = λ n h f. p.back n (omega (arith, q.onward)) (q.back n h f);
  forth = λ n h f. q.forth n h (p.forth n (omega (arith, q.onward)) f);
  whole = λ n h l. q.whole n h (longest-behind p n (omega (arith, h, q.onward)) l);
}

pub Stops-trans : {pieces : List Piece} {a b : List Symbol} {i j k : ℕ} → Leads pieces a i b j → Stops pieces b j k → Stops pieces a i k
Stops-trans {i} {j} {k} p q = record {
  onward = omega (arith, p.onward, q.onward);
  within = q.within;
  before = p.back k q.onward q.before;
  here = λ f. q.here (p.forth (k + 1) (omega (arith, q.onward)) f);
  wanting = λ d. q.wanting (p.whole k q.onward (record { derived = d; ends = λ f. q.here (p.forth (k + 1) (omega (arith, q.onward)) f) }));
}

-- a piece that is wanted, and one that isn't

pub Derives-taken : {k : Kept} {s : Terminal} {ss : List Symbol} {p : Piece} {ps : List Piece} → Derives (Is k s ∷ ss) (p ∷ ps) → Derives ss ps
Derives-taken (meets h d) = d

pub Leads-piece : (pieces : List Piece) (keeps : Kept) (s : Terminal) (rest : List Symbol) (i : ℕ) (p : Piece) → slice_get pieces i ≡ Some p → Takes s p
    → Leads pieces (Is keeps s ∷ rest) i rest (i + 1)
Leads-piece pieces keeps s rest i p h m = record {
  onward = omega arith;
  back = λ k l f. rw (part-cons pieces i k p h l) (takes_on m f);
  forth = λ k l f. (Front-taken (rw (part-cons pieces i k p h l) at f)).1;
  whole = λ k l d. Derives-taken (rw (part-cons pieces i k p h l) at d.derived);
}

pub Stops-piece : (pieces : List Piece) (keeps : Kept) (s : Terminal) (rest : List Symbol) (i : ℕ) (p : Piece) → slice_get pieces i ≡ Some p → ¬ (Takes s p)
    → Stops pieces (Is keeps s ∷ rest) i i
Stops-piece pieces keeps s rest i p h m = record {
  onward = omega arith;
  within = slice_get_within pieces i p h;
  before = rw (part-here pieces i i (omega arith)) cut;
  here = λ f. m (Front-taken (rw (part-cons pieces i (i + 1) p h (omega arith)) at f)).0;
  wanting = λ d. no_piece (rw (part-here pieces i i (omega arith)) at d);
}

-- Before `rest`, a case that goes on by the piece is the one that is chosen for every list that begins with it.
pub only_case : {r : Rule} {body : List Symbol} (case : IsCase r body) (rest : List Symbol) (p : Piece) → IsSettled (A r ∷ rest)
    → ((ps : List Piece) → choose r (p ∷ ps) ≡ Some (body, case)) → (other : List Symbol) (ps : List Piece) → IsCase r other → Front (other ++ rest) (p ∷ ps)
    → Path (List Symbol) other body
only_case {r} {body} case rest p settled chosen other ps also f =
    let whole = Front-completes f in
    let same : Path (Chosen r) (other, also) (body, case) = some_injective (sym (chooses rest (p ∷ (ps ++ whole.0)) settled also whole.1) ∙ chosen (ps ++ whole.0)) in
    ap (λ (c : Chosen r). c.0) same

case-forth : (pieces : List Piece) (r : Rule) (body rest : List Symbol) (i k : ℕ) (p : Piece) → slice_get pieces i ≡ Some p
    → ((other : List Symbol) (ps : List Piece) → IsCase r other → Front (other ++ rest) (p ∷ ps) → Path (List Symbol) other body)
    → i < k → Front (A r ∷ rest) (part pieces i k) → Front (body ++ rest) (part pieces i k)
case-forth pieces r body rest i k p h only inside f =
    let split = part-cons pieces i k p h (omega arith) in
    let entered = Front-entered (rw split at f) in
    let same : entered.0 ≡ body = only entered.0 _ entered.1 entered.2 in
    rw (split, ← same) entered.2

-- a rule goes on by the case that is chosen for the piece
-- the case that is chosen for a list is that of its derivation
pub derived_chosen : (r : Rule) (body : List Symbol) (case : IsCase r body) (rest : List Symbol) (ps : List Piece) → IsSettled (A r ∷ rest) → choose r ps ≡ Some (body, case)
    → Derives (A r ∷ rest) ps → Derives (body ++ rest) ps
derived_chosen r body case rest ps settled chosen (expands other also d) =
    let same : Path (Chosen r) (other, also) (body, case) = some_injective (sym (chooses rest ps settled also d) ∙ chosen) in
    let P : Chosen r → Type 0 = λ c. Derives (c.0 ++ rest) ps in
    subst P same d

-- the case that a piece chooses is that of every list that begins with it
case-whole : (pieces : List Piece) (r : Rule) (body : List Symbol) (case : IsCase r body) (rest : List Symbol) (i k : ℕ) (p : Piece) → slice_get pieces i ≡ Some p
    → IsSettled (A r ∷ rest) → ((ps : List Piece) → choose r (p ∷ ps) ≡ Some (body, case)) → i < k → Derives (A r ∷ rest) (part pieces i k) → Derives (body ++ rest) (part pieces i k)
case-whole pieces r body case rest i k p h settled chosen inside d =
    let split : part pieces i k ≡ p ∷ part pieces (i + 1) k = part-cons pieces i k p h (omega arith) in
    rw split (derived_chosen r body case rest (p ∷ part pieces (i + 1) k) settled (chosen (part pieces (i + 1) k)) (rw split at d))

-- and where the rule derives nothing there, the case does
case-nothing : (pieces : List Piece) (r : Rule) (body : List Symbol) (case : IsCase r body) (rest : List Symbol) (i k : ℕ) (p : Piece) → slice_get pieces i ≡ Some p
    → choose r (p ∷ []) ≡ Some (body, case) → k ≡ i → IsLongest pieces (A r ∷ rest) i k → Derives (body ++ rest) []
case-nothing pieces r body case rest i k p h chosen same l =
    let nothing : part pieces i k ≡ [] = part-here pieces i k (omega (arith, same)) in
    let split = part-cons pieces i (k + 1) p h (omega (arith, same)) in
    let behind : part pieces (i + 1) (k + 1) ≡ [] = part-here pieces (i + 1) (k + 1) (omega (arith, same)) in
    ⊎_elim (λ d. d) (λ f. absurd (l.ends (goes_into body case (rw (split, behind) f)))) (empty_chosen case rest p chosen (rw nothing at l.derived))

pub Leads-case : (pieces : List Piece) (r : Rule) (body : List Symbol) (case : IsCase r body) (rest : List Symbol) (i : ℕ) (p : Piece) → slice_get pieces i ≡ Some p
    → IsSettled (A r ∷ rest) → ((ps : List Piece) → choose r (p ∷ ps) ≡ Some (body, case)) → Leads pieces (A r ∷ rest) i (body ++ rest) i
Leads-case pieces r body case rest i p h settled chosen = record {
  onward = omega arith;
  back = λ k l f. goes_into body case f;
  forth = λ k l f. ⊎_elim (λ inside. case-forth pieces r body rest i k p h (only_case case rest p settled chosen) inside f)
      (λ outside. let nothing : part pieces i k ≡ [] = part-here pieces i k outside in rw nothing cut) (cases_lt i k);
  whole = λ k l d. ⊎_elim (λ inside. case-whole pieces r body case rest i k p h settled chosen inside d.derived)
      (λ outside. let nothing : part pieces i k ≡ [] = part-here pieces i k outside in rw nothing (case-nothing pieces r body case rest i k p h (chosen []) (omega (arith, l, outside)) d)) (cases_lt i k);
}

-- The same where two pieces say which case it is, as at a `[` in a reference. The case takes the first of them.

pub only_case_of_two : {r : Rule} {body : List Symbol} (case : IsCase r body) (rest : List Symbol) (p q : Piece) → IsSettled (A r ∷ rest)
    → ((ps : List Piece) → choose r (p ∷ q ∷ ps) ≡ Some (body, case)) → (other : List Symbol) (ps : List Piece) → IsCase r other → Front (other ++ rest) (p ∷ q ∷ ps)
    → Path (List Symbol) other body
only_case_of_two {r} {body} case rest p q settled chosen other ps also f =
    let whole = Front-completes f in
    let same : Path (Chosen r) (other, also) (body, case) = some_injective (sym (chooses rest (p ∷ q ∷ (ps ++ whole.0)) settled also whole.1) ∙ chosen (ps ++ whole.0)) in
    ap (λ (c : Chosen r). c.0) same

case-forth-of-two : (pieces : List Piece) (r : Rule) (body rest : List Symbol) (i k : ℕ) (p q : Piece) → slice_get pieces i ≡ Some p → slice_get pieces (i + 1) ≡ Some q
    → ((other : List Symbol) (ps : List Piece) → IsCase r other → Front (other ++ rest) (p ∷ q ∷ ps) → Path (List Symbol) other body)
    → i + 1 < k → Front (A r ∷ rest) (part pieces i k) → Front (body ++ rest) (part pieces i k)
case-forth-of-two pieces r body rest i k p q h g only inside f =
    let split : part pieces i k ≡ p ∷ part pieces (i + 1) k = part-cons pieces i k p h (omega arith) in
    let next : part pieces (i + 1) k ≡ q ∷ part pieces (i + 1 + 1) k = part-cons pieces (i + 1) k q g (omega arith) in
    let both : part pieces i k ≡ p ∷ q ∷ part pieces (i + 1 + 1) k = split ∙ ap (λ (ps : List Piece). p ∷ ps) next in
    let entered = Front-entered (rw both at f) in
    let same : entered.0 ≡ body = only entered.0 _ entered.1 entered.2 in
    rw (both, ← same) entered.2

-- What the first piece alone says: it chooses the case too, or the case begins with both, or the rule derives no such list.
pub data Alone {r : Rule} {body : List Symbol} (case : IsCase r body) (p q : Piece) : Type 0 where
  chosen_alone : choose r (p ∷ []) ≡ Some (body, case) → Alone case p q
  takes_both : ((rest : List Symbol) → Front (body ++ rest) (p ∷ q ∷ [])) → Alone case p q
  never_alone : ((rest : List Symbol) → IsSettled (A r ∷ rest) → ¬ (Derives (A r ∷ rest) (p ∷ []))) → Alone case p q

-- what the rule derives from there on, the case derives

whole_of_two : (pieces : List Piece) (r : Rule) (body : List Symbol) (case : IsCase r body) (rest : List Symbol) (i k : ℕ) (p q : Piece) → slice_get pieces i ≡ Some p → slice_get pieces (i + 1) ≡ Some q
    → IsSettled (A r ∷ rest) → ((ps : List Piece) → choose r (p ∷ q ∷ ps) ≡ Some (body, case)) → i + 1 < k → Derives (A r ∷ rest) (part pieces i k) → Derives (body ++ rest) (part pieces i k)
whole_of_two pieces r body case rest i k p q h g settled chosen inside d =
    let split : part pieces i k ≡ p ∷ part pieces (i + 1) k = part-cons pieces i k p h (omega arith) in
    let next : part pieces (i + 1) k ≡ q ∷ part pieces (i + 1 + 1) k = part-cons pieces (i + 1) k q g (omega arith) in
    let both : part pieces i k ≡ p ∷ q ∷ part pieces (i + 1 + 1) k = split ∙ ap (λ (ps : List Piece). p ∷ ps) next in
    rw both (derived_chosen r body case rest (p ∷ q ∷ part pieces (i + 1 + 1) k) settled (chosen (part pieces (i + 1 + 1) k)) (rw both at d))

whole_of_one : (pieces : List Piece) (r : Rule) (body : List Symbol) (case : IsCase r body) (rest : List Symbol) (i k : ℕ) (p q : Piece) → slice_get pieces i ≡ Some p → slice_get pieces (i + 1) ≡ Some q
    → IsSettled (A r ∷ rest) → Alone case p q → k ≡ i + 1 → IsLongest pieces (A r ∷ rest) i k → Derives (body ++ rest) (part pieces i k)
whole_of_one pieces r body case rest i k p q h g settled alone same l =
    let split : part pieces i k ≡ p ∷ part pieces (i + 1) k = part-cons pieces i k p h (omega (arith, same)) in
    let behind : part pieces (i + 1) k ≡ [] = part-here pieces (i + 1) k (omega (arith, same)) in
    let one : part pieces i k ≡ p ∷ [] = split ∙ ap (λ (ps : List Piece). p ∷ ps) behind in
    let longer : part pieces i (k + 1) ≡ p ∷ part pieces (i + 1) (k + 1) = part-cons pieces i (k + 1) p h (omega (arith, same)) in
    let next : part pieces (i + 1) (k + 1) ≡ q ∷ part pieces (i + 1 + 1) (k + 1) = part-cons pieces (i + 1) (k + 1) q g (omega (arith, same)) in
    let last : part pieces (i + 1 + 1) (k + 1) ≡ [] = part-here pieces (i + 1 + 1) (k + 1) (omega (arith, same)) in
    by alone one (λ f. l.ends (goes_into body case (rw (longer, next, last) f)))
  where
    by : Alone case p q → part pieces i k ≡ p ∷ [] → ¬ (Front (body ++ rest) (p ∷ q ∷ [])) → Derives (body ++ rest) (part pieces i k)
    by (chosen_alone chosen) one none = rw one (derived_chosen r body case rest (p ∷ []) settled chosen (rw one at l.derived))
    by (takes_both front) one none = absurd (none (front rest))
    by (never_alone never) one none = absurd (never rest settled (rw one at l.derived))

whole_of_none : (pieces : List Piece) (r : Rule) (body : List Symbol) (case : IsCase r body) (rest : List Symbol) (i k : ℕ) (p : Piece) → slice_get pieces i ≡ Some p → Front (body ++ rest) (p ∷ [])
    → k ≡ i → IsLongest pieces (A r ∷ rest) i k → Derives (body ++ rest) (part pieces i k)
whole_of_none pieces r body case rest i k p h takes same l =
    let split : part pieces i (k + 1) ≡ p ∷ part pieces (i + 1) (k + 1) = part-cons pieces i (k + 1) p h (omega (arith, same)) in
    let behind : part pieces (i + 1) (k + 1) ≡ [] = part-here pieces (i + 1) (k + 1) (omega (arith, same)) in
    absurd (l.ends (goes_into body case (rw (split, behind) takes)))

pub Leads-case-of-two : (pieces : List Piece) (r : Rule) (body : List Symbol) (case : IsCase r body) (rest : List Symbol) (i : ℕ) (p q : Piece)
    → slice_get pieces i ≡ Some p → slice_get pieces (i + 1) ≡ Some q → Front (body ++ rest) (p ∷ []) → IsSettled (A r ∷ rest)
    → ((ps : List Piece) → choose r (p ∷ q ∷ ps) ≡ Some (body, case)) → Alone case p q → Leads pieces (A r ∷ rest) i (body ++ rest) i
Leads-case-of-two pieces r body case rest i p q h g takes settled chosen alone = record {
  onward = omega arith;
  back = λ k l f. goes_into body case f;
  forth = λ k l f. ⊎_elim (λ inside. case-forth-of-two pieces r body rest i k p q h g (only_case_of_two case rest p q settled chosen) inside f)
      (λ most. ⊎_elim (λ one.
      let split : part pieces i k ≡ p ∷ part pieces (i + 1) k = part-cons pieces i k p h (omega arith) in
      let nothing : part pieces (i + 1) k ≡ [] = part-here pieces (i + 1) k most in
      rw (split, nothing) takes)
      (λ outside. let nothing : part pieces i k ≡ [] = part-here pieces i k outside in rw nothing cut) (cases_lt i k)) (cases_lt (i + 1) k);
  whole = λ k l d. ⊎_elim (λ inside. whole_of_two pieces r body case rest i k p q h g settled chosen inside d.derived)
      (λ most. ⊎_elim (λ one. whole_of_one pieces r body case rest i k p q h g settled alone (omega (arith, one, most)) d)
      (λ outside. whole_of_none pieces r body case rest i k p h takes (omega (arith, l, outside)) d) (cases_lt i k)) (cases_lt (i + 1) k);
}
