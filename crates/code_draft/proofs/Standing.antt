-- Leaves that are looked at one by one.
use Rattle.std.proofs.Common.{◌≡◌, ◌==◌, Bool, true, false, true≢false, not, refl, ℕ, ◌+◌, ◌*◌, ◌<◌, ◌≤◌, ⊎_elim, List, length, slice_get, get_or, Some, sym, subst, ap, ◌∙◌, arith}
use Rattle.std.proofs.lemmas.Bool.{cases_lt}
use Rattle.std.proofs.lemmas.Grind.{common_steps}
use Rattle.std.proofs.lemmas.Option.{slice_get_within, get_or_from_slice_get}
use Rattle.code_draft.specs.declared.sources.Elements.{Elements}
use Rattle.code_draft.specs.declared.sources.Sources.{Sources}
use Rattle.code_draft.specs.Rows.{IsWordAt}

-- the leaves before this place are in order
abbrev pub StandBefore : Sources → List ℕ → Elements → ℕ → Type 0
StandBefore S leaves e n = (place leaf : ℕ) → place < n → slice_get leaves place ≡ Some leaf → IsWordAt S e leaf (e.region.base + place * e.region.stride)

pub all_stand : (S : Sources) (leaves : List ℕ) (e : Elements) (n place leaf : ℕ) → length leaves ≤ n → StandBefore S leaves e n → slice_get leaves place ≡ Some leaf → IsWordAt S e leaf (e.region.base + place * e.region.stride)
all_stand S leaves e n place leaf le h at = let lt = slice_get_within leaves place leaf at in h place leaf (omega (arith, lt, le)) at

-- one leaf more
pub stand_more : (S : Sources) (leaves : List ℕ) (e : Elements) (n x : ℕ) → StandBefore S leaves e n → get_or leaves n 0 ≡ x → IsWordAt S e x (e.region.base + n * e.region.stride) → StandBefore S leaves e (n + 1)
stand_more S leaves e n x h is one place leaf lt at = ⊎_elim
    (λ before. h place leaf before at)
    (λ here.
    let same : place ≡ n = omega (arith, here, lt) in
    let found : leaf ≡ x = sym (get_or_from_slice_get leaves place leaf 0 at) ∙ (ap (λ k. get_or leaves k 0) same ∙ is) in
    subst (λ y. IsWordAt S e y (e.region.base + place * e.region.stride)) (sym found) (subst (λ k. IsWordAt S e x (e.region.base + k * e.region.stride)) (sym same) one))
    (cases_lt place n)

-- Tests

pub not_other : (b : Bool) → not b ≡ false → b ≡ true
not_other true e = refl
not_other false e = absurd (true≢false e)

pub same_number : (a b : ℕ) → (a == b) ≡ true → a ≡ b
same_number a b e = grind (arith, common_steps)
