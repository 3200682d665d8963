-- The lines of a memory one after another.
use Rattle.std.proofs.Common.{◌≡◌, ℕ, ◌+◌, ◌<◌, Bool, true, false, List, [], ◌∷◌, ◌++◌, length, take, get_or, refl, sym, ap, ap₂, ◌∙◌, append_assoc, append-nil, not, subst}
use Rattle.std.proofs.lemmas.List.{take_more}
use Rattle.fir_types.specs.declared.memory.MemLine.{MemLine}
use Rattle.type_check.specs.declared.fault.TypeFault.{TypeFault}
use Rattle.type_check.specs.declared.fault.TypeFault.TheVariants.{MemoryField}
use Rattle.type_check.specs.declared.memory.Said.{Said}
use Rattle.type_check.specs.Parts.{unless, when}
use Rattle.type_check.specs.Memories.{is_said, place_of, again_behind}
use Rattle.type_check.specs.Noted.{Notes}
use Rattle.type_check.proofs.Seconds.{unless-not}

again-append : (before xs ys : List MemLine) → again_behind before (xs ++ ys) ≡ again_behind before xs ++ again_behind (before ++ xs) ys
again-append before [] ys = ap (λ b. again_behind b ys) (sym (append-nil before))
again-append before (x ∷ xs) ys =
    ap (λ l. when (is_said before x) (MemoryField (place_of x)) ++ l)
    (again-append (before ++ x ∷ []) xs ys ∙ ap (λ b. again_behind (before ++ x ∷ []) xs ++ again_behind b ys) (append_assoc before (x ∷ []) xs))
    ∙ sym (append_assoc (when (is_said before x) (MemoryField (place_of x))) _ _)

lines_more : (lines : List MemLine) (i : ℕ) (line : MemLine) → i < length lines → line ≡ get_or lines i line → take (i + 1) lines ≡ take i lines ++ line ∷ []
lines_more lines i line lt is = take_more lines i line lt ∙ ap (λ x. take i lines ++ x ∷ []) (sym is)

pub again_more : (lines : List MemLine) (i : ℕ) (line : MemLine) (old faults after : List TypeFault) (again : Bool) → i < length lines → line ≡ get_or lines i line
    → faults ≡ old ++ again_behind [] (take i lines) → again ≡ is_said (take i lines) line → after ≡ faults ++ unless (not again) (MemoryField (place_of line))
    → after ≡ old ++ again_behind [] (take (i + 1) lines)
again_more lines i line old faults after again lt is e a f =
    let here = unless-not again (MemoryField (place_of line)) ∙ ap (λ b. when b (MemoryField (place_of line))) a in
    f ∙ ap₂ (λ l m. l ++ m) e here ∙ append_assoc old _ _
    ∙ ap (λ l. old ++ l) (ap (λ l. again_behind [] (take i lines) ++ l) (sym (append-nil _)) ∙ sym (again-append [] (take i lines) (line ∷ [])) ∙ ap (again_behind []) (sym (lines_more lines i line lt is)))

pub notes_more : (lines : List MemLine) (i : ℕ) (line : MemLine) {said : Said} → i < length lines → line ≡ get_or lines i line
    → Notes (take i lines ++ line ∷ []) said → Notes (take (i + 1) lines) said
notes_more lines i line {said} lt is n = subst (λ ls. Notes ls said) (sym (lines_more lines i line lt is)) n

pub not_not : (b : Bool) → not (not b) ≡ b
not_not true = refl
not_not false = refl
