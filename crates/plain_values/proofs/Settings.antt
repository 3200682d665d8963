-- What settings of leaves leave, one after the other.
use Rattle.std.proofs.Common.{◌≡◌, ℕ, zero, suc, ◌+◌, ◌<◌, ◌≤◌, ◌&&◌, Bool, true, false, List, [], ◌∷◌, ◌++◌, map, length, take, get_or, ℤ, Option, Some, None, option_map, if◌then◌else◌, refl, sym, ap, ap₂, ◌∙◌, arith}
use Rattle.std.specs.Option.{option_or}
use Rattle.std.proofs.lemmas.List.{map-append}
use Rattle.std.proofs.lemmas.List.Elements.{filter-append}
use Rattle.std.proofs.lemmas.List.Sums.{fold-append}
use Rattle.bit_words.specs.declared.value.Value.{Value}
use Rattle.bit_words.specs.Values.{integer_of}
use Rattle.fir_types.specs.declared.leaf.TypeLeaf.{TypeLeaf}
use Rattle.fir_types.specs.declared.leaf.PathStep.{PathStep}
use Rattle.fir_types.specs.Leaves.{leaves}
use Rattle.fir_meaning.specs.Components.{Leaf}
use Rattle.fir_meaning.specs.Values.{beside, lone, fitted_to}
use Rattle.fir_meaning.specs.Drives.{Setting, setting, same_leaf, is_turned, of_orientation, set_along, set_at, left_in}
use Rattle.drive_check.specs.declared.leaf_set.Step.{Step}
use Rattle.drive_check.specs.Keys.{step_of}
use Rattle.plain_values.specs.declared.spot.HeldSpot.{HeldSpot}
use Rattle.plain_values.specs.Finding.{spot_of_held}

-- what is left is what was set last, and else what was there before

after_or : (b : Bool) (n : ℤ) (set before : Option ℤ) → option_or set (if b then Some n else before) ≡ option_or (option_or set (if b then Some n else None)) before
after_or b n (Some m) before = refl
after_or true n None before = refl
after_or false n None before = refl

pub left_or : (leaf : Leaf) (before : Option ℤ) (settings : List Setting) → left_in leaf before settings ≡ option_or (left_in leaf None settings) before
left_or leaf before [] = refl
left_or leaf before (s ∷ ss) =
    let test : Bool = same_leaf s.leaf leaf in
    left_or leaf (if test then Some s.integer else before) ss
    ∙ (after_or test s.integer (left_in leaf None ss) before ∙ ap (λ o. option_or o before) (sym (left_or leaf (if test then Some s.integer else None) ss)))

-- of two lists the later counts first
pub left_both : (leaf : Leaf) (xs ys : List Setting) → left_in leaf None (xs ++ ys) ≡ option_or (left_in leaf None ys) (left_in leaf None xs)
left_both leaf xs ys =
    fold-append (λ (last : Option ℤ) (s : Setting). if same_leaf s.leaf leaf then Some s.integer else last) None xs ys ∙ left_or leaf (left_in leaf None xs) ys

pub left_of_two : (leaf : Leaf) (xs ys : List Setting) (first second : Option ℤ) → first ≡ left_in leaf None xs → second ≡ left_in leaf None ys → option_or second first ≡ left_in leaf None (xs ++ ys)
left_of_two leaf xs ys first second p q = ap₂ option_or q p ∙ sym (left_both leaf xs ys)

-- an item more beside another

pub beside_more : {A B : Type 0} (other : B) (items : List A) (bs : List B) (k : ℕ) (a : A) → k < length items → a ≡ get_or items k a
    → beside other (take (k + 1) items) bs ≡ beside other (take k items) bs ++ (a, get_or bs k other) ∷ []
beside_more other [] bs k a h is = absurd (omega (arith, h))
beside_more other (x ∷ items) [] zero a h is = ap (λ y. (y, other) ∷ []) (sym is)
beside_more other (x ∷ items) (b ∷ bs) zero a h is = ap (λ y. (y, b) ∷ []) (sym is)
beside_more other (x ∷ items) [] (suc k) a h is =
    let next : suc k + 1 ≡ suc (k + 1) = omega arith in
    ap (λ n. beside other (take n (x ∷ items)) []) next ∙ ap (λ l. (x, other) ∷ l) (beside_more other items [] k a (omega (arith, h)) is)
beside_more other (x ∷ items) (b ∷ bs) (suc k) a h is =
    let next : suc k + 1 ≡ suc (k + 1) = omega arith in
    ap (λ n. beside other (take n (x ∷ items)) (b ∷ bs)) next ∙ ap (λ l. (x, b) ∷ l) (beside_more other items bs k a (omega (arith, h)) is)

-- what is left where these leaves behind a way are set
abbrev pub left_along : Leaf → Bool → ℕ → List PathStep → List TypeLeaf → List Value → Option ℤ
left_along leaf flip component way parts values = left_in leaf None (map (setting component way) (of_orientation flip (beside (lone []) parts values)))

pub left_more : (leaf : Leaf) (flip : Bool) (component : ℕ) (way : List PathStep) (parts : List TypeLeaf) (values : List Value) (k : ℕ) (part : TypeLeaf) → k < length parts → part ≡ get_or parts k part
    → left_along leaf flip component way (take (k + 1) parts) values
    ≡ (if is_turned flip part && same_leaf (record { component = component; way = way ++ part.path }) leaf
    then Some (integer_of (fitted_to part (integer_of (get_or values k (lone [])))))
    else left_along leaf flip component way (take k parts) values)
left_more leaf flip component way parts values k part h is =
    let both : TypeLeaf × Value = (part, get_or values k (lone [])) in
    let front = beside (lone []) (take k parts) values in
    let set = λ (last : Option ℤ) (s : Setting). if same_leaf s.leaf leaf then Some s.integer else last in
    ap (λ l. left_in leaf None (map (setting component way) (of_orientation flip l))) (beside_more (lone []) parts values k part h is)
    ∙ (ap (λ l. left_in leaf None (map (setting component way) l)) (filter-append (λ (x : TypeLeaf × Value). is_turned flip x.0) front (both ∷ []))
    ∙ (ap (left_in leaf None) (map-append (setting component way) (of_orientation flip front) (of_orientation flip (both ∷ [])))
    ∙ (fold-append set None (map (setting component way) (of_orientation flip front)) (map (setting component way) (of_orientation flip (both ∷ [])))
    ∙ by (is_turned flip part))))
  where
    by : (b : Bool) → left_in leaf (left_along leaf flip component way (take k parts) values) (map (setting component way) (if b then (part, get_or values k (lone [])) ∷ [] else []))
        ≡ (if b && same_leaf (record { component = component; way = way ++ part.path }) leaf
        then Some (integer_of (fitted_to part (integer_of (get_or values k (lone [])))))
        else left_along leaf flip component way (take k parts) values)
    by true = refl
    by false = refl

take_whole : {A : Type 0} (xs : List A) (k : ℕ) → length xs ≤ k → take k xs ≡ xs
take_whole [] zero h = refl
take_whole [] (suc k) h = refl
take_whole (x ∷ xs) zero h = absurd (omega (arith, h))
take_whole (x ∷ xs) (suc k) h = ap (λ l. x ∷ l) (take_whole xs k (omega (arith, h)))

pub left_whole : (leaf : Leaf) (flip : Bool) (spot : Option HeldSpot) (place : HeldSpot) (way : List Step) (parts : List TypeLeaf) (values : List Value) (k : ℕ) → spot ≡ Some place → place.way ≡ Some way
    → parts ≡ leaves place.typ → length parts ≤ k → left_along leaf flip place.component (map step_of way) (take k parts) values ≡ left_in leaf None (set_at flip (option_map spot_of_held spot) values)
left_whole leaf flip spot place way parts values k is at listed h =
    ap (λ ls. left_along leaf flip place.component (map step_of way) ls values) (take_whole parts k h ∙ listed)
    ∙ sym (ap (λ (o : Option HeldSpot). left_in leaf None (set_at flip (option_map spot_of_held o) values)) is
    ∙ ap (λ (w : Option (List Step)). left_in leaf None (set_along flip (spot_of_held place) (option_map (map step_of) w) values)) at)
