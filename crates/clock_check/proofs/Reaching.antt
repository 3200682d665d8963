-- What references may name, step by step.
use Rattle.std.proofs.Common.{◌≡◌, ℕ, zero, suc, ◌+◌, ◌==◌, Bool, true, false, ◌&&◌, ◌||◌, fold, Option, None, Some, ◌⊎◌, subst, arith, append-nil, true≢false, List, [], ◌∷◌, ◌++◌, map, refl, sym, ap, ◌∙◌}
use Rattle.std.specs.Global.{Vec}
use Rattle.std.specs.Prelude.{⊤}
use Rattle.std.specs.List.{list_any, flat_map, range_with_len}
use Rattle.std.proofs.lemmas.Bool.{eqb-true}
use Rattle.std.proofs.lemmas.List.Concat.{flat_map-append}
use Rattle.place_text.specs.declared.place.Place.{Place}
use Rattle.fir_types.specs.declared.name.Name.{Name}
use Rattle.fir_types.specs.declared.leaf.PathStep.{PathStep}
use Rattle.fir_types.specs.declared.leaf.PathStep.TheVariants as step
use Rattle.fir_tree.specs.declared.expr.Expr.{Expr}
use Rattle.fir_tree.specs.declared.expr.Form.{Form, fold-Form}
use Rattle.fir_tree.specs.declared.expr.Form.TheOpen.{Suffix-F}
use Rattle.fir_tree.specs.declared.expr.Form.TheFolds.{map-Suffix, fold-roll-Suffix}
use Rattle.fir_tree.specs.declared.expr.Form.TheViews.{roll-Suffix, out-Form}
use Rattle.fir_tree.specs.declared.expr.Form.TheVariants as form
use Rattle.fir_tree.specs.declared.expr.Form.TheVariants.{outs-Ref}
use Rattle.fir_tree.specs.declared.expr.Suffix.{Suffix, ind-Suffix}
use Rattle.fir_tree.specs.declared.expr.Suffix.TheVariants as suffix
use Rattle.fir_meaning.specs.Components.{Leaf}
use Rattle.fir_meaning.specs.Drives.{same_leaf, same_way, is_turned}
use Rattle.fir_meaning.specs.Values.{vector_length}
use Rattle.fir_meaning.specs.Mentions.{Scope, Region, InScope, Onward, suffix_onward, behind_each, elements_behind, follow_all, whole_region, region_of, region_of_form, of_form, of_suffix, of_expr, mentions}
use Rattle.fir_meaning.specs.Certain.{may_be, may_name}
use Rattle.fir_types.specs.Leaves.{leaves}
use Rattle.drive_check.specs.declared.leaf_set.Step.{Step}
use Rattle.drive_check.proofs.Following.{onward-index}
use Rattle.clock_check.specs.declared.reach.Reach.{Reach}
use Rattle.clock_check.specs.Driving.{bare, region_at, ways_of, front_at, is_behind, clocked, Reaches}

-- the parts of a step

pub ways_index : (s : Suffix) (bracket : Place) (index : Expr) (types : Scope) (region : Region) → s ≡ suffix.Index bracket index → (suffix_onward s types region).ways ≡ elements_behind region.ways (vector_length region.typ)
ways_index s bracket index types region e = ap (λ x. (suffix_onward x types region).ways) e ∙ ap (λ r. r.ways) (onward-index bracket index types region)

-- a step stays in the component

abbrev FormStands : Form → Type 0
FormStands f = ⊤

abbrev StaysIn : Suffix → Type 0
StaysIn s = (types : Scope) (region : Region) → (suffix_onward s types region).component ≡ region.component

abbrev ExprStands : Expr → Type 0
ExprStands e = ⊤

stays_at : (z : Suffix-F Form Suffix Expr)
    → ((types : Scope) (region : Region) → (of_suffix (map-Suffix Form Suffix Expr InScope Onward InScope (fold-Form InScope Onward InScope of_form of_suffix of_expr) suffix_onward mentions z) types region).component ≡ region.component)
    → StaysIn (roll-Suffix z)
stays_at z h types region = ap (λ f. (f types region).component) (fold-roll-Suffix InScope Onward InScope of_form of_suffix of_expr z) ∙ h types region

suffix_case : (y : Suffix-F ((φ : Form) × FormStands φ) ((s : Suffix) × StaysIn s) ((e : Expr) × ExprStands e))
    → StaysIn (roll-Suffix (map-Suffix _ _ _ Form Suffix Expr (λ e. e.0) (λ e. e.0) (λ e. e.0) y))
suffix_case (Suffix-F.Field name) = stays_at (Suffix-F.Field name) (λ types region. refl)
suffix_case (Suffix-F.At bracket place n) = stays_at (Suffix-F.At bracket place n) (λ types region. refl)
suffix_case (Suffix-F.Index bracket e) = stays_at (Suffix-F.Index bracket e.0) (λ types region. refl)

pub same_component : (s : Suffix) → StaysIn s
same_component = ind-Suffix FormStands StaysIn ExprStands
    (λ x y is. tt)
    (λ x y is. subst (λ z. StaysIn (roll-Suffix z)) is (suffix_case y))
    (λ x y is. tt)

-- all steps do

stays : (types : Scope) (suffixes : List Suffix) (region : Region) → (fold (λ (r : Region) (next : Onward). next types r) region (map suffix_onward suffixes)).component ≡ region.component
stays types [] region = refl
stays types (s ∷ suffixes) region = stays types suffixes (suffix_onward s types region) ∙ same_component s types region

pub none_of : {A : Type 0} (p : A → Bool) (xs : List A) → ((x : A) → p x ≡ false) → list_any p xs ≡ false
none_of p [] h = refl
none_of p (x ∷ xs) h = ap (λ b. b || list_any p xs) (h x) ∙ none_of p xs h

pub and_false : (b : Bool) → (b && false) ≡ false
and_false true = refl
and_false false = refl

apart : (flip : Bool) (region : Region) (leaf : Leaf) → (region.component == leaf.component) ≡ false → may_name flip (Some region) leaf ≡ false
apart flip region leaf e = none_of (may_be flip region leaf) (leaves region.typ)
    (λ part. ap (λ b. is_turned flip part && b) (any_way part.path region.ways) ∙ and_false (is_turned flip part))
  where
    any_way : (path : List PathStep) (ways : List (List PathStep)) → list_any (λ at. same_leaf at leaf) (map (λ way. record { component = region.component; way = way ++ path }) ways) ≡ false
    any_way path [] = refl
    any_way path (way ∷ ways) = ap (λ b. (b && same_way (way ++ path) leaf.way) || list_any (λ at. same_leaf at leaf) (map (λ w. record { component = region.component; way = w ++ path }) ways)) e ∙ any_way path ways

-- a component without Clock leaves has none that is named
pub unclocked : (types : Scope) (name : ℕ) (suffixes : List Suffix) (flip : Bool) (leaf : Leaf) → clocked types leaf.component ≡ true → clocked types name ≡ false
    → may_name flip (Some (follow_all types name (map suffix_onward suffixes))) leaf ≡ false
unclocked types name suffixes flip leaf has none = by (region.component == leaf.component) refl
  where
    region : Region
    region = follow_all types name (map suffix_onward suffixes)

    by : (b : Bool) → (region.component == leaf.component) ≡ b → may_name flip (Some region) leaf ≡ false
    by true e =
        let same : name ≡ leaf.component = sym (stays types suffixes (whole_region types name)) ∙ eqb-true region.component leaf.component e in
        absurd (true≢false (sym has ∙ ap (clocked types) (sym same) ∙ none))
    by false e = apart flip region leaf e

pub same_region : (r : Region) (reach : Reach) → r.component ≡ reach.component → r.typ ≡ reach.part.typ.now → r.ways ≡ ways_of reach.ways.items → r.dynamic ≡ reach.dynamic → bare r ≡ region_at reach
same_region r reach c t w d = λ i. record { component = c i; typ = t i; ways = w i; dynamic = d i; indices = [] }

-- Elements

range_more : (a n : ℕ) → range_with_len a (suc n) ≡ range_with_len a n ++ (a + n) ∷ []
range_more a zero = ap (λ k. k ∷ []) (omega arith)
range_more a (suc n) = ap (λ l. a ∷ l) (range_more (a + 1) n) ∙ ap (λ k. a ∷ (range_with_len (a + 1) n ++ k ∷ [])) (omega arith)

pub elements_more : (ways : List (List PathStep)) (n : ℕ) → elements_behind ways (n + 1) ≡ elements_behind ways n ++ behind_each ways (step.Element n)
elements_more ways n =
    let f : ℕ → List (List PathStep) = λ k. behind_each ways (step.Element k) in
    let count : n + 1 ≡ suc n = omega arith in
    ap (elements_behind ways) count ∙ ap (flat_map f) (range_more 0 n) ∙ flat_map-append f (range_with_len 0 n) ((0 + n) ∷ [])
    ∙ ap (λ l. elements_behind ways n ++ l) (append-nil (f (0 + n)) ∙ ap f (omega arith))

pub any_behind : (component : ℕ) (path : List PathStep) (leaf : Leaf) (ways : List (Vec Step))
    → list_any (is_behind component path leaf) ways ≡ list_any (λ at. same_leaf at leaf) (front_at component ways path)
any_behind component path leaf [] = refl
any_behind component path leaf (w ∷ ways) = ap (λ b. is_behind component path leaf w || b) (any_behind component path leaf ways)

-- References

pub region_is : (types : Scope) (e : Expr) (name : Name) (suffixes : List Suffix) → e.form ≡ form.Ref name suffixes → region_of types e ≡ Some (follow_all types name.id (map suffix_onward suffixes))
region_is types e name suffixes is = ap (λ f. region_of_form types (out-Form f)) is ∙ ap (region_of_form types) (outs-Ref name suffixes)

pub reach_none : (o : Option Region) (region : Region) → o ≡ Some region → (leaves region.typ ≡ []) ⊎ (region.ways ≡ []) → Reaches o None
reach_none o region e h = subst (λ x. Reaches x None) (sym e) h

-- Where no way is left none comes back.

abbrev EndsAll : Suffix → Type 0
EndsAll s = (types : Scope) (region : Region) → region.ways ≡ [] → (suffix_onward s types region).ways ≡ []

ends_at : (z : Suffix-F Form Suffix Expr)
    → ((types : Scope) (region : Region) → region.ways ≡ [] → (of_suffix (map-Suffix Form Suffix Expr InScope Onward InScope (fold-Form InScope Onward InScope of_form of_suffix of_expr) suffix_onward mentions z) types region).ways ≡ [])
    → EndsAll (roll-Suffix z)
ends_at z h types region e = ap (λ f. (f types region).ways) (fold-roll-Suffix InScope Onward InScope of_form of_suffix of_expr z) ∙ h types region e

none_behind : (ns : List ℕ) → flat_map (λ n. behind_each [] (step.Element n)) ns ≡ []
none_behind [] = refl
none_behind (n ∷ ns) = none_behind ns

ends_case : (y : Suffix-F ((φ : Form) × FormStands φ) ((s : Suffix) × EndsAll s) ((e : Expr) × ExprStands e))
    → EndsAll (roll-Suffix (map-Suffix _ _ _ Form Suffix Expr (λ e. e.0) (λ e. e.0) (λ e. e.0) y))
ends_case (Suffix-F.Field name) = ends_at (Suffix-F.Field name) (λ types region e. ap (λ ways. behind_each ways (step.Field name.id)) e)
ends_case (Suffix-F.At bracket place n) = ends_at (Suffix-F.At bracket place n) (λ types region e. ap (λ ways. behind_each ways (step.Element n)) e)
ends_case (Suffix-F.Index bracket i) = ends_at (Suffix-F.Index bracket i.0) (λ types region e. ap (λ ways. elements_behind ways (vector_length region.typ)) e ∙ none_behind (range_with_len 0 (vector_length region.typ)))

pub ends_stay : (s : Suffix) → EndsAll s
ends_stay = ind-Suffix FormStands EndsAll ExprStands
    (λ x y is. tt)
    (λ x y is. subst (λ z. EndsAll (roll-Suffix z)) is (ends_case y))
    (λ x y is. tt)

-- an index of a vector of no element leads nowhere
pub ends_here : (s : Suffix) (bracket : Place) (index : Expr) (types : Scope) (region : Region) → s ≡ suffix.Index bracket index → vector_length region.typ ≡ 0 → (suffix_onward s types region).ways ≡ []
ends_here s bracket index types region e none = ways_index s bracket index types region e ∙ ap (elements_behind region.ways) none
