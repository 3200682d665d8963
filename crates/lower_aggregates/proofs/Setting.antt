-- What is set in one leaf of a component whose leaves stand at different ways: what stands beside it.
use Rattle.std.proofs.Common.{◌≡◌, ◌≢◌, ℕ, zero, suc, ◌==◌, ◌&&◌, not, Bool, true, false, List, [], ◌∷◌, map, filter_map, ℤ, Option, Some, None, refl, sym, ap, ap₂, ◌∙◌, arith, true≢false, if◌then◌else◌}
use Rattle.std.specs.List.{slice_get, cons_option}
use Rattle.std.proofs.lemmas.Grind.{common_steps}
use Rattle.std.proofs.lemmas.Bool.{eqb-true}
use Rattle.bit_words.specs.declared.value.Value.{Value}
use Rattle.bit_words.specs.Values.{integer_of}
use Rattle.fir_types.specs.declared.leaf.TypeLeaf.{TypeLeaf}
use Rattle.fir_types.specs.declared.leaf.PathStep.{PathStep}
use Rattle.fir_types.specs.declared.leaf.PathStep.TheVariants as step
use Rattle.fir_types.specs.declared.fir_type.FirType.{FirType}
use Rattle.fir_meaning.specs.Components.{Leaf}
use Rattle.fir_meaning.specs.Values.{fitted_to, beside}
use Rattle.fir_meaning.specs.Drives.{Setting, same_step, same_way, same_leaf, setting, of_orientation, left_in}
use Rattle.fir_meaning.specs.Certain.{may_be}

some_same : {A : Type 0} {x y : A} → Some x ≡ Some y → x ≡ y
some_same {A} {x} e = ap (or_first x) e
  where
    or_first : A → Option A → A
    or_first d (Some z) = z
    or_first d None = d

none_some : {A : Type 0} {B : Type 0} {x : A} → None ≡ Some x → B
none_some e = absurd cc

both_true : (p q : Bool) → (p && q) ≡ true → (p ≡ true) × (q ≡ true)
both_true true q e = (refl, e)
both_true false q e = absurd (true≢false (sym e))

same_number : (n : ℕ) → (n == n) ≡ true
same_number n = grind (arith, common_steps)

step_itself : (s : PathStep) → same_step s s ≡ true
step_itself (step.Field n) = same_number n
step_itself (step.Element n) = same_number n

way_itself : (w : List PathStep) → same_way w w ≡ true
way_itself [] = refl
way_itself (s ∷ w) = ap₂ (λ a b. a && b) (step_itself s) (way_itself w)

pub leaf_itself : (l : Leaf) → same_leaf l l ≡ true
leaf_itself l = ap₂ (λ a b. a && b) (same_number l.component) (way_itself l.way)

step_equal : (a b : PathStep) → same_step a b ≡ true → a ≡ b
step_equal (step.Field m) (step.Field n) e = ap step.Field (eqb-true m n e)
step_equal (step.Field m) (step.Element n) e = cc
step_equal (step.Element m) (step.Field n) e = cc
step_equal (step.Element m) (step.Element n) e = ap step.Element (eqb-true m n e)

pub way_equal : (a b : List PathStep) → same_way a b ≡ true → a ≡ b
way_equal [] [] e = refl
way_equal [] (y ∷ b) e = cc
way_equal (x ∷ a) [] e = cc
way_equal (x ∷ a) (y ∷ b) e =
    let both = both_true (same_step x y) (same_way a b) e in
    ap₂ (λ s w. s ∷ w) (step_equal x y both.0) (way_equal a b both.1)

other_way : (c : ℕ) (a b : List PathStep) → a ≢ b → same_leaf (record { component = c; way = a }) (record { component = c; way = b }) ≡ false
other_way c a b h = by (same_way a b) refl
  where
    by : (t : Bool) → same_way a b ≡ t → ((c == c) && same_way a b) ≡ false
    by true q = absurd (h (way_equal a b q))
    by false q = ap₂ (λ x y. x && y) (same_number c) q

-- Only the item of this place is at this way.
abbrev pub IsOnlyAt : {X : Type 0} → List (TypeLeaf × X) → ℕ → List PathStep → Type 0
IsOnlyAt {X} bs k way = (j : ℕ) (b : TypeLeaf × X) → slice_get bs j ≡ Some b → b.0.path ≡ way → j ≡ k

tail_only : {X : Type 0} (x : TypeLeaf × X) (bs : List (TypeLeaf × X)) (k : ℕ) (way : List PathStep) → IsOnlyAt (x ∷ bs) (suc k) way → IsOnlyAt bs k way
tail_only x bs k way h j b e p = let r = h (suc j) b e p in omega (arith, r)

-- none is
abbrev IsNotAt : {X : Type 0} → List (TypeLeaf × X) → List PathStep → Type 0
IsNotAt {X} bs way = (j : ℕ) (b : TypeLeaf × X) → slice_get bs j ≡ Some b → b.0.path ≢ way

tail_not : {X : Type 0} (x : TypeLeaf × X) (bs : List (TypeLeaf × X)) (way : List PathStep) → IsOnlyAt (x ∷ bs) 0 way → IsNotAt bs way
tail_not x bs way h j b e p = let r = h (suc j) b e p in absurd (omega (arith, r))

abbrev settings : ℕ → List (TypeLeaf × Value) → List Setting
settings c bs = map (setting c []) (of_orientation false bs)

-- one item more, which isn't at this way
passed : (c : ℕ) (way : List PathStep) (x : TypeLeaf × Value) (bs : List (TypeLeaf × Value)) (last : Option ℤ) → x.0.path ≢ way
    → left_in (record { component = c; way = way }) last (settings c (x ∷ bs)) ≡ left_in (record { component = c; way = way }) last (settings c bs)
passed c way x bs last h = by (not x.0.flip) refl
  where
    by : (t : Bool) → not x.0.flip ≡ t
        → left_in (record { component = c; way = way }) last (map (setting c []) (if not x.0.flip then x ∷ of_orientation false bs else of_orientation false bs)) ≡ left_in (record { component = c; way = way }) last (settings c bs)
    by true q =
        ap (λ z. left_in (record { component = c; way = way }) last (map (setting c []) (if z then x ∷ of_orientation false bs else of_orientation false bs))) q
        ∙ ap (λ z. left_in (record { component = c; way = way }) (if z then Some (integer_of (fitted_to x.0 (integer_of x.1))) else last) (settings c bs)) (other_way c x.0.path way h)
    by false q = ap (λ z. left_in (record { component = c; way = way }) last (map (setting c []) (if z then x ∷ of_orientation false bs else of_orientation false bs))) q

none_set : (c : ℕ) (way : List PathStep) (bs : List (TypeLeaf × Value)) (last : Option ℤ) → IsNotAt bs way → left_in (record { component = c; way = way }) last (settings c bs) ≡ last
none_set c way [] last h = refl
none_set c way (x ∷ bs) last h = passed c way x bs last (h 0 x refl) ∙ none_set c way bs last (λ j b e. h (suc j) b e)

-- What is set in the leaf of a place.
pub one_set : (c : ℕ) (bs : List (TypeLeaf × Value)) (k : ℕ) (b : TypeLeaf × Value) (last : Option ℤ) → slice_get bs k ≡ Some b → b.0.flip ≡ false → IsOnlyAt bs k b.0.path
    → left_in (record { component = c; way = b.0.path }) last (map (setting c []) (of_orientation false bs)) ≡ Some (integer_of (fitted_to b.0 (integer_of b.1)))
one_set c [] k b last e f h = none_some e
one_set c (x ∷ bs) zero b last e f h =
    let same : x ≡ b = some_same e in
    let turned : not x.0.flip ≡ true = ap (λ (z : TypeLeaf × Value). not z.0.flip) same ∙ ap not f in
    let here : same_leaf (record { component = c; way = x.0.path }) (record { component = c; way = b.0.path }) ≡ true =
    ap (λ (z : TypeLeaf × Value). same_leaf (record { component = c; way = z.0.path }) (record { component = c; way = b.0.path })) same ∙ leaf_itself (record { component = c; way = b.0.path }) in
    ap (λ z. left_in (record { component = c; way = b.0.path }) last (map (setting c []) (if z then x ∷ of_orientation false bs else of_orientation false bs))) turned
    ∙ ap (λ z. left_in (record { component = c; way = b.0.path }) (if z then Some (integer_of (fitted_to x.0 (integer_of x.1))) else last) (settings c bs)) here
    ∙ none_set c b.0.path bs (Some (integer_of (fitted_to x.0 (integer_of x.1)))) (tail_not x bs b.0.path h)
    ∙ ap (λ (z : TypeLeaf × Value). Some (integer_of (fitted_to z.0 (integer_of z.1)))) same
one_set c (x ∷ bs) (suc k) b last e f h =
    passed c b.0.path x bs last (λ p. let r = h 0 x refl p in absurd (omega (arith, r))) ∙ one_set c bs k b last e f (tail_only x bs k b.0.path h)

-- What is mentioned for it.

abbrev pub picked : {X : Type 0} → ℕ → FirType → List PathStep → List (TypeLeaf × X) → List X
picked {X} c typ way bs =
    filter_map (λ both. if may_be false (record { component = c; typ = typ; ways = [] ∷ []; dynamic = false; indices = [] }) (record { component = c; way = way }) both.0 then Some both.1 else None) bs

may_here : (c : ℕ) (typ : FirType) (leaf : TypeLeaf) → leaf.flip ≡ false → may_be false (record { component = c; typ = typ; ways = [] ∷ []; dynamic = false; indices = [] }) (record { component = c; way = leaf.path }) leaf ≡ true
may_here c typ leaf f = grind (arith, common_steps, leaf_itself (record { component = c; way = leaf.path }), f)

may_not : (c : ℕ) (typ : FirType) (leaf : TypeLeaf) (way : List PathStep) → leaf.path ≢ way → may_be false (record { component = c; typ = typ; ways = [] ∷ []; dynamic = false; indices = [] }) (record { component = c; way = way }) leaf ≡ false
may_not c typ leaf way h = grind (arith, common_steps, other_way c leaf.path way h)

none_picked : {X : Type 0} (c : ℕ) (typ : FirType) (way : List PathStep) (bs : List (TypeLeaf × X)) → IsNotAt bs way → picked c typ way bs ≡ []
none_picked c typ way [] h = refl
none_picked c typ way (x ∷ bs) h =
    ap (λ t. cons_option (if t then Some x.1 else None) (picked c typ way bs)) (may_not c typ x.0 way (h 0 x refl)) ∙ none_picked c typ way bs (λ j b e. h (suc j) b e)

pub one_picked : {X : Type 0} (c : ℕ) (typ : FirType) (bs : List (TypeLeaf × X)) (k : ℕ) (b : TypeLeaf × X) → slice_get bs k ≡ Some b → b.0.flip ≡ false → IsOnlyAt bs k b.0.path
    → picked c typ b.0.path bs ≡ b.1 ∷ []
one_picked c typ [] k b e f h = none_some e
one_picked {X} c typ (x ∷ bs) zero b e f h =
    let same : x ≡ b = some_same e in
    ap (λ (z : TypeLeaf × X). picked c typ b.0.path (z ∷ bs)) same ∙ ap (λ t. cons_option (if t then Some b.1 else None) (picked c typ b.0.path bs)) (may_here c typ b.0 f)
    ∙ ap (λ l. b.1 ∷ l) (none_picked c typ b.0.path bs (tail_not x bs b.0.path h))
one_picked c typ (x ∷ bs) (suc k) b e f h =
    ap (λ t. cons_option (if t then Some x.1 else None) (picked c typ b.0.path bs)) (may_not c typ x.0 b.0.path (λ p. let r = h 0 x refl p in absurd (omega (arith, r))))
    ∙ one_picked c typ bs k b e f (tail_only x bs k b.0.path h)

-- Lists beside one another.

abbrev pub or_other : {X : Type 0} → X → Option X → X
or_other d (Some x) = x
or_other d None = d

pub beside_at : {X : Type 0} (d : X) (ls : List TypeLeaf) (xs : List X) (k : ℕ) (leaf : TypeLeaf) → slice_get ls k ≡ Some leaf → slice_get (beside d ls xs) k ≡ Some (leaf, or_other d (slice_get xs k))
beside_at d [] xs k leaf e = none_some e
beside_at d (l ∷ ls) [] zero leaf e = ap (λ z. Some (z, d)) (some_same e)
beside_at d (l ∷ ls) [] (suc k) leaf e = beside_at d ls [] k leaf e
beside_at d (l ∷ ls) (x ∷ xs) zero leaf e = ap (λ z. Some (z, x)) (some_same e)
beside_at d (l ∷ ls) (x ∷ xs) (suc k) leaf e = beside_at d ls xs k leaf e

pub beside_leaf : {X : Type 0} (d : X) (ls : List TypeLeaf) (xs : List X) (k : ℕ) (b : TypeLeaf × X) → slice_get (beside d ls xs) k ≡ Some b → slice_get ls k ≡ Some b.0
beside_leaf d [] xs k b e = none_some e
beside_leaf d (l ∷ ls) [] zero b e = ap (λ z. Some z.0) (some_same e)
beside_leaf d (l ∷ ls) [] (suc k) b e = beside_leaf d ls [] k b e
beside_leaf d (l ∷ ls) (x ∷ xs) zero b e = ap (λ z. Some z.0) (some_same e)
beside_leaf d (l ∷ ls) (x ∷ xs) (suc k) b e = beside_leaf d ls xs k b e
