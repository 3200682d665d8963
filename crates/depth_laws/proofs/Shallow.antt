-- A list that goes nowhere too deep, piece by piece.
use Rattle.std.proofs.Common.{◌≡◌, ℕ, Bool, true, false, List, [], ◌∷◌, ◌++◌, length, take, fold, Some, None, slice_get, refl, sym, ap, ◌∙◌, subst, append_assoc}
use Rattle.std.specs.Prelude.{⊤, suc, zero}
use Rattle.std.proofs.Math.Seq.{take-append_seam}
use Rattle.std.proofs.lemmas.Bool.{true≢false}
use Rattle.std.proofs.lemmas.List.Sums.{fold-append}
use Rattle.fir_layout.specs.Pieces.{Piece}
use Rattle.fir_grammar.proofs.Cases.{some_injective}
use Rattle.fir_grammar.specs.Faults.{Levels, no_levels, levels, past, is_deep, IsDeepAt}

abbrev pub Shallow : Levels → List Piece → Type 0
Shallow at [] = ⊤
Shallow at (p ∷ ps) = (is_deep at p ≡ false) × Shallow (past at p) ps

get_seam : (front : List Piece) (p : Piece) (ps : List Piece) → slice_get (front ++ p ∷ ps) (length front) ≡ Some p
get_seam [] p ps = refl
get_seam (f ∷ front) p ps = get_seam front p ps

pub shallow_from : (front ps : List Piece) → ((k : ℕ) → ¬ (IsDeepAt (front ++ ps) k)) → Shallow (levels front) ps
shallow_from front [] h = tt
shallow_from front (p ∷ ps) h = (
  flat (is_deep (levels front) p) refl,
  subst (λ at. Shallow at ps) (fold-append past no_levels front (p ∷ []))
      (shallow_from (front ++ p ∷ []) ps (λ k d. h k (subst (λ l. IsDeepAt l k) (append_assoc front (p ∷ []) ps) d))),
)
  where
    flat : (b : Bool) → is_deep (levels front) p ≡ b → b ≡ false
    flat true e = absurd (h (length front) (record {
      piece = p;
      stands = get_seam front p ps;
      deep = subst (λ l. is_deep (levels l) p ≡ true) (sym (take-append_seam front (p ∷ ps))) e;
    }))
    flat false e = refl

-- and back: no piece of a list that goes nowhere too deep goes too deep

pub none_some : {X Y : Type 0} {x : X} → None ≡ Some x → Y
none_some e = absurd cc

nothing : (k : ℕ) → None ≡ slice_get {X = Piece} [] k
nothing zero = refl
nothing (suc k) = refl

nowhere : (at : Levels) (ps : List Piece) → Shallow at ps → (k : ℕ) (p : Piece) → slice_get ps k ≡ Some p → is_deep (fold past at (take k ps)) p ≡ true → ⊥
nowhere at [] s k p e d = none_some (nothing k ∙ e)
nowhere at (q ∷ ps) s zero p e d = true≢false (sym d ∙ ap (is_deep at) (sym (some_injective e)) ∙ s.0)
nowhere at (q ∷ ps) s (suc k) p e d = nowhere (past at q) ps (s.1) k p e d

pub never_deep : (pieces : List Piece) → Shallow no_levels pieces → (k : ℕ) → ¬ (IsDeepAt pieces k)
never_deep pieces s k d = nowhere no_levels pieces s k d.piece d.stands d.deep
