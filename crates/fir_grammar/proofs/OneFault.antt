-- A laid list has at most one fault, and none where it spells a circuit and goes nowhere too deep.
use Rattle.std.proofs.Common.{◌≡◌, ℕ, zero, suc, ◌+◌, ◌<◌, ◌≤◌, List, [], ◌∷◌, take, slice_get, Some, refl, sym, ap, subst, arith, ⊎_elim}
use Rattle.std.proofs.lemmas.Bool.{cases_lt}
use Rattle.std.proofs.Math.Seq.{take-nil}
use Rattle.std.proofs.lemmas.Grind.{common_steps}
use Rattle.place_text.specs.Places.{place}
use Rattle.fir_layout.specs.declared.laid.Laid.{Laid}
use Rattle.fir_layout.specs.Pieces.{Piece, piece_of, pieces_of}
use Rattle.fir_tree.specs.declared.circuit.Circuit.{Circuit}
use Rattle.fir_tree.specs.declared.fault.ParseFault.{ParseFault}
use Rattle.fir_tree.specs.declared.fault.ParseFault.TheVariants.{BadVersion, TooDeep}
use Rattle.fir_grammar.specs.Grammar.{Symbol, A, Text, Takes, A_number, Front, cut, takes_on, goes_into, done, IsCircuit, start_of}
use Rattle.fir_grammar.specs.Faults.{IsDeepAt, IsBad, IsTooDeep, IsNamed, listed, unlisted, FaultOf, a_version, a_bad_piece, a_deep_piece}
use Rattle.fir_grammar.proofs.Fronts.{Derives-front, spelled_derives}

-- a prefix of a shorter prefix is one of the whole
take-shorter : (ps : List Piece) (i k : ℕ) → i ≤ k → take i (take k ps) ≡ take i ps
take-shorter ps i k h = grind (arith, common_steps)

Front-shorter : {ss : List Symbol} {ps : List Piece} (k : ℕ) → Front ss ps → Front ss (take k ps)
Front-shorter k cut = rw (take-nil k) cut
Front-shorter zero (takes_on h f) = cut
Front-shorter (suc k) (takes_on h f) = takes_on h (Front-shorter k f)
Front-shorter k (goes_into body case f) = goes_into body case (Front-shorter k f)

shorter : (ps : List Piece) (i k : ℕ) → i ≤ k → Front (A Text ∷ []) (take k ps) → Front (A Text ∷ []) (take i ps)
shorter ps i k h f = rw (take-shorter ps i k h) at (Front-shorter i f)

-- where two pieces would be faults, it is one piece

order : (i k : ℕ) → (i < k → ⊥) → (k < i → ⊥) → i ≡ k
order i k a b = ⊎_elim (λ l. absurd (a l)) (λ m. ⊎_elim (λ l. absurd (b l)) (λ n. omega arith) (cases_lt k i)) (cases_lt i k)

bad_bad : (ps : List Piece) (i k : ℕ) → IsBad ps i → IsBad ps k → i ≡ k
bad_bad ps i k a b = order i k (λ l. a.here (shorter ps (i + 1) k (omega arith) b.before)) (λ l. b.here (shorter ps (k + 1) i (omega arith) a.before))

bad_deep : (ps : List Piece) (i k : ℕ) → IsBad ps i → IsTooDeep ps k → ⊥
bad_deep ps i k a b = ⊎_elim (λ l. a.shallow.none k (omega arith) l b.deep) (λ m. a.here (shorter ps (i + 1) (k + 1) (omega arith) b.here)) (cases_lt k i)

deep_deep : (ps : List Piece) (i k : ℕ) → IsTooDeep ps i → IsTooDeep ps k → i ≡ k
deep_deep ps i k a b = order i k (λ l. b.shallow.none i (omega arith) l a.deep) (λ l. a.shallow.none k (omega arith) l b.deep)

same_part : (list : List Laid) (i k : ℕ) (l m : Laid) → i ≡ k → slice_get list i ≡ Some l → slice_get list k ≡ Some m → l ≡ m
same_part list i k l m e a b = let c : slice_get list i ≡ Some m = subst (λ (n : ℕ). slice_get list n ≡ Some m) (sym e) b in cc

named_once : (p : Piece) (at : _) (f g : ParseFault) → IsNamed p at f → IsNamed p at g → f ≡ g
named_once p at f g (listed a) (listed b) = refl
named_once p at f g (listed a) (unlisted b) = absurd (b a)
named_once p at f g (unlisted a) (listed b) = absurd (a b)
named_once p at f g (unlisted a) (unlisted b) = refl

module _ (text : List ℕ) (list : List Laid) where
  pub one_fault : (f g : ParseFault) → FaultOf text list f → FaultOf text list g → f ≡ g
  one_fault f g (a_version l at bad number) (a_version m at' bad' number') =
      ap (λ (x : Laid). BadVersion (place text (start_of x))) (same_part list 2 2 l m refl at at')
  one_fault f g (a_version l at bad number) (a_bad_piece k m fault at' bad' other named) =
      let e = bad_bad (pieces_of text list) k 2 bad' bad in
      absurd (other (e, subst (λ (x : Laid). Takes A_number (piece_of text x)) (sym (same_part list k 2 m l e at' at)) number))
  one_fault f g (a_version l at bad number) (a_deep_piece k m at' deep) = absurd (bad_deep (pieces_of text list) 2 k bad deep)
  one_fault f g (a_bad_piece k m fault at' bad' other named) (a_version l at bad number) =
      let e = bad_bad (pieces_of text list) k 2 bad' bad in
      absurd (other (e, subst (λ (x : Laid). Takes A_number (piece_of text x)) (sym (same_part list k 2 m l e at' at)) number))
  one_fault f g (a_bad_piece i l _ at bad other named) (a_bad_piece k m _ at' bad' other' named') =
      let e = same_part list i k l m (bad_bad (pieces_of text list) i k bad bad') at at' in
      named_once (piece_of text l) (place text (start_of l)) f g named (subst (λ (x : Laid). IsNamed (piece_of text x) (place text (start_of x)) g) (sym e) named')
  one_fault f g (a_bad_piece i l _ at bad other named) (a_deep_piece k m at' deep) = absurd (bad_deep (pieces_of text list) i k bad deep)
  one_fault f g (a_deep_piece k m at' deep) (a_version l at bad number) = absurd (bad_deep (pieces_of text list) 2 k bad deep)
  one_fault f g (a_deep_piece k m at' deep) (a_bad_piece i l _ at bad other named) = absurd (bad_deep (pieces_of text list) i k bad deep)
  one_fault f g (a_deep_piece i l at deep) (a_deep_piece k m at' deep') =
      ap (λ (x : Laid). TooDeep (place text (start_of x))) (same_part list i k l m (deep_deep (pieces_of text list) i k deep deep') at at')

  -- a circuit that goes nowhere too deep has no fault
  circuit_front : (circuit : Circuit) (k : ℕ) → IsCircuit text list circuit → Front (A Text ∷ []) (take k (pieces_of text list))
  circuit_front circuit k h = Derives-front k (spelled_derives text h.spelled.spelled done)

  pub accepted : (circuit : Circuit) (f : ParseFault) → IsCircuit text list circuit → ((k : ℕ) → ¬ (IsDeepAt (pieces_of text list) k)) → FaultOf text list f → ⊥
  accepted circuit f h shallow (a_version l at bad number) = bad.here (circuit_front circuit (2 + 1) h)
  accepted circuit f h shallow (a_bad_piece k l _ at bad other named) = bad.here (circuit_front circuit (k + 1) h)
  accepted circuit f h shallow (a_deep_piece k l at deep) = shallow k deep.deep
