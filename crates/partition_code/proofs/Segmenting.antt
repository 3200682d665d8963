-- The code of assignments, segment by segment.
use Rattle.std.proofs.Common.{◌≡◌, ℕ, ◌<◌, true, List, [], ◌∷◌, ◌++◌, length, Option, Some, refl, subst, ap, ◌∙◌, arith, ⊎_elim, sym, inl, inr, ◌⊎◌}
use Rattle.std.specs.Prelude.{Contains}
use Rattle.std.proofs.lemmas.List.Elements.{Contains-append_left, Contains-append_right}
use Rattle.std.proofs.lemmas.Bool.{cases_eq}
use Rattle.ground_net.specs.declared.ground.Ground.{Ground}
use Rattle.flat_code.specs.declared.instr.Location.{Location}
use Rattle.flat_code.specs.Fine.{among, location_slots}
use Rattle.code_draft.specs.declared.draft.Draft.{Draft}
use Rattle.code_draft.specs.declared.sources.Sources.{Sources}
use Rattle.code_emit.specs.Spans.{found_slots, leaf_slots, Spans}
use Rattle.code_emit.proofs.Spanning.{ground_before}
use Rattle.partition_code.specs.Sequences.{driver_in}
use Rattle.partition_code.specs.Segmented.{with_frame, InSegments, AreSegments}
use Rattle.partition_code.proofs.Turns.{contains_one, set_source, other_source}

-- where a leaf is found once one is found at a location
pub leaf_there : (S : Sources) (x : ℕ) (s : Location) → x < length S.leaves → leaf_slots (with_frame S x s) x ≡ location_slots s
leaf_there S x s lt = ap found_slots (set_source S x s lt)

pub leaf_elsewhere : (S : Sources) (x y : ℕ) (s : Location) → (y ≡ x → ⊥) → leaf_slots (with_frame S x s) y ≡ leaf_slots S y
leaf_elsewhere S x y s ne = ap found_slots (other_source S x y s ne)

-- one assignment
pub one_segment : (drivers : List (Option Ground)) (x : ℕ) (S : Sources) (old new : Draft) (s : Location) (g : Ground) → x < length S.leaves → driver_in drivers x ≡ Some g → Spans S g old new s
    → AreSegments drivers (x ∷ []) S old (with_frame S x s) new
one_segment drivers x S old new s g lt at spans before =
    let f = spans before in
    let up = f.slots in (
      (g, s, new, at, f, (refl, refl)),
      λ y k e. ⊎_elim
          (λ q. ⊎_elim
          (λ own. own.1)
          (λ out. let below = ground_before S old.slots g before k out in omega (arith, below, up))
          (f.there k (subst (λ xs. among xs k ≡ true) (ap (leaf_slots (with_frame S x s)) q ∙ leaf_there S x s lt) e)))
          (λ ne. let below = before y k (subst (λ xs. among xs k ≡ true) (leaf_elsewhere S x y s ne) e) in omega (arith, below, up))
          (cases_eq y x),
    )

pub none_segmented : (drivers : List (Option Ground)) (S : Sources) (d : Draft) → AreSegments drivers [] S d S d
none_segmented drivers S d before = ((refl, refl), before)

segments_then : (drivers : List (Option Ground)) (xs ys : List ℕ) (S T U : Sources) (a b c : Draft) → InSegments drivers xs S a T b → InSegments drivers ys T b U c → InSegments drivers (xs ++ ys) S a U c
segments_then drivers [] ys S T U a b c h k = subst (λ V. InSegments drivers ys V a U c) h.0 (subst (λ d. InSegments drivers ys T d U c) h.1 k)
segments_then drivers (x ∷ xs) ys S T U a b c h k = (h.0, h.1, h.2, h.3, h.4, segments_then drivers xs ys (with_frame S x h.1) T U h.2 b c h.5 k)

-- one assignment more
pub one_more_segment : (drivers : List (Option Ground)) (xs : List ℕ) (x : ℕ) (S T U : Sources) (a b c : Draft) → AreSegments drivers xs S a T b → AreSegments drivers (x ∷ []) T b U c
    → AreSegments drivers (xs ++ x ∷ []) S a U c
one_more_segment drivers xs x S T U a b c first next before =
    let f = first before in
    let n = next f.1 in
    (segments_then drivers xs (x ∷ []) S T U a b c f.0 n.0, n.1)

-- What stands where

-- the code of assignments is that of the first ones and then that of the others
pub split_segments : (drivers : List (Option Ground)) (ys zs : List ℕ) (S T : Sources) (a c : Draft) → InSegments drivers (ys ++ zs) S a T c
    → (U : Sources) × (b : Draft) × InSegments drivers ys S a U b × InSegments drivers zs U b T c
split_segments drivers [] zs S T a c h = (S, a, (refl, refl), h)
split_segments drivers (y ∷ ys) zs S T a c h =
    let rest = split_segments drivers ys zs (with_frame S y h.1) T h.2 c h.5 in
    (rest.0, rest.1, (h.0, h.1, h.2, h.3, h.4, rest.2), rest.3)

-- a leaf that none of them assigns is found where it was
pub found_elsewhere : (drivers : List (Option Ground)) (xs : List ℕ) (S T : Sources) (a c : Draft) → InSegments drivers xs S a T c → (y : ℕ) → (Contains xs y → ⊥) → leaf_slots T y ≡ leaf_slots S y
found_elsewhere drivers [] S T a c h y out = ap (λ U. leaf_slots U y) h.0
found_elsewhere drivers (x ∷ xs) S T a c h y out =
    found_elsewhere drivers xs (with_frame S x h.1) T h.2 c h.5 y (λ later. out (Contains-append_right (x ∷ []) xs y later))
    ∙ leaf_elsewhere S x y h.1 (λ e. out (Contains-append_left (x ∷ []) xs y (subst (Contains (x ∷ [])) (sym e) (contains_one x))))

-- and a slot where a leaf is found is one where it was found before, or the leaf is one of these
pub found_by : (drivers : List (Option Ground)) (xs : List ℕ) (S T : Sources) (a c : Draft) → InSegments drivers xs S a T c → (y k : ℕ) → among (leaf_slots T y) k ≡ true
    → (among (leaf_slots S y) k ≡ true) ⊎ Contains xs y
found_by drivers [] S T a c h y k e = inl (ap (λ U. among (leaf_slots U y) k) (sym h.0) ∙ e)
found_by drivers (x ∷ xs) S T a c h y k e = ⊎_elim
    (λ before. ⊎_elim
    (λ q. inr (Contains-append_left (x ∷ []) xs y (subst (Contains (x ∷ [])) (sym q) (contains_one x))))
    (λ ne. inl (subst (λ ks. among ks k ≡ true) (leaf_elsewhere S x y h.1 ne) before))
    (cases_eq y x))
    (λ later. inr (Contains-append_right (x ∷ []) xs y later))
    (found_by drivers xs (with_frame S x h.1) T h.2 c h.5 y k e)
