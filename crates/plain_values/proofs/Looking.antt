-- Looking up what leaves have.
use Rattle.std.proofs.Common.{◌≡◌, ℕ, zero, suc, ◌+◌, ◌<◌, ◌≤◌, min, ◌&&◌, Bool, true, false, List, [], ◌∷◌, ◌++◌, map, length, drop, get_or, Option, Some, None, refl, sym, ap, ap₂, ◌∙◌, arith, if◌then◌else◌}
use Rattle.bit_words.specs.declared.value.Value.{Value}
use Rattle.fir_types.specs.declared.leaf.TypeLeaf.{TypeLeaf}
use Rattle.fir_types.specs.declared.leaf.PathStep.{PathStep}
use Rattle.fir_types.specs.declared.leaf.PathStep.TheVariants as step
use Rattle.fir_meaning.specs.Values.{Valuation, seen_through}
use Rattle.fir_meaning.specs.Drives.{same_step, same_way}
use Rattle.drive_check.specs.declared.leaf_set.Step.{Step}
use Rattle.drive_check.specs.Keys.{step_of}
use Rattle.plain_values.specs.declared.site.Site.{Site}
use Rattle.plain_values.specs.declared.site.View.{View}
use Rattle.plain_values.specs.Sites.{is_at, site_at, beside_leaf, value_on, port_in, target_at, integer_or_zero, valuation_of, scene_of_view}
use Rattle.plain_values.proofs.Lists.{drop_there}

false_and : (b : Bool) → (b && false) ≡ false
false_and true = refl
false_and false = refl

pub unequal : (path : List PathStep) (way : List Step) → (length path ≡ length way → ⊥) → false ≡ same_way path (map step_of way)
unequal [] [] h = absurd (h refl)
unequal [] (y ∷ way) h = refl
unequal (x ∷ path) [] h = refl
unequal (x ∷ path) (y ∷ way) h = sym (ap (λ b. same_step x (step_of y) && b) (sym (unequal path way (λ e. h (ap suc e)))) ∙ false_and (same_step x (step_of y)))

-- the ways from a place on
abbrev pub from : List PathStep → List Step → ℕ → Bool
from path way k = same_way (drop k path) (map step_of (drop k way))

pub along_past : (path : List PathStep) (way : List Step) (k : ℕ) → length path ≤ k → length path ≡ length way → from path way k ≡ true
along_past [] [] zero h same = refl
along_past [] [] (suc k) h same = refl
along_past [] (y ∷ way) k h same = absurd (omega (arith, same))
along_past (x ∷ path) [] k h same = absurd (omega (arith, same))
along_past (x ∷ path) (y ∷ way) zero h same = absurd (omega (arith, h))
along_past (x ∷ path) (y ∷ way) (suc k) h same = along_past path way k (omega (arith, h)) (omega (arith, same))

-- what is found from a place on
pub site_more : (sites : List Site) (path : List ℕ) (name k : ℕ) (x : Site) → k < length sites → x ≡ get_or sites k x
    → site_at (drop k sites) path name ≡ (if is_at path name x then Some x else site_at (drop (k + 1) sites) path name)
site_more sites path name k x h p = ap (λ l. site_at l path name) (drop_there sites k x h p)

pub beside_more : (way : List PathStep) (leaves : List TypeLeaf) (vs : List Value) (k : ℕ) (x : TypeLeaf) (v : Value) → k < length leaves → k < length vs → x ≡ get_or leaves k x → v ≡ get_or vs k v
    → beside_leaf way (drop k leaves) (drop k vs) ≡ (if same_way x.path way then Some v else beside_leaf way (drop (k + 1) leaves) (drop (k + 1) vs))
beside_more way leaves vs k x v h l p q = ap₂ (beside_leaf way) (drop_there leaves k x h p) (drop_there vs k v l q)

pub beside_next : (way : List PathStep) (leaves : List TypeLeaf) (vs : List Value) (k : ℕ) (x : TypeLeaf) → k < length leaves → k < length vs → x ≡ get_or leaves k x → same_way x.path way ≡ false
    → beside_leaf way (drop k leaves) (drop k vs) ≡ beside_leaf way (drop (k + 1) leaves) (drop (k + 1) vs)
beside_next way [] vs k x h l p e = absurd (omega (arith, h))
beside_next way (a ∷ leaves) [] k x h l p e = absurd (omega (arith, l))
beside_next way (a ∷ leaves) (v ∷ vs) zero x h l p e = ap (λ b. if b then Some v else beside_leaf way leaves vs) (ap (λ (y : TypeLeaf). same_way y.path way) (sym p) ∙ e)
beside_next way (a ∷ leaves) (v ∷ vs) (suc k) x h l p e =
    let next : suc k + 1 ≡ suc (k + 1) = omega arith in
    beside_next way leaves vs k x (omega (arith, h)) (omega (arith, l)) p e ∙ sym (ap (λ n. beside_leaf way (drop n (a ∷ leaves)) (drop n (v ∷ vs))) next)

pub beside_past : (way : List PathStep) (leaves : List TypeLeaf) (vs : List Value) (k : ℕ) → min (length leaves) (length vs) ≤ k → beside_leaf way (drop k leaves) (drop k vs) ≡ None
beside_past way [] vs zero h = refl
beside_past way [] vs (suc k) h = refl
beside_past way (x ∷ leaves) [] zero h = refl
beside_past way (x ∷ leaves) [] (suc k) h = none_beside (drop k leaves)
  where
    none_beside : (ls : List TypeLeaf) → beside_leaf way ls [] ≡ None
    none_beside [] = refl
    none_beside (l ∷ ls) = refl
beside_past way (x ∷ leaves) (v ∷ vs) zero h = absurd (omega (arith, h))
beside_past way (x ∷ leaves) (v ∷ vs) (suc k) h = beside_past way leaves vs k (omega (arith, h))

pub on_more : (path : List ℕ) (name : ℕ) (way : List PathStep) (sites : List Site) (values : List (List Value)) (k : ℕ) (x : Site) (vs : List Value) → k < length sites → k < length values
    → x ≡ get_or sites k x → vs ≡ get_or values k vs
    → value_on (drop k sites) (drop k values) path name way ≡ (if is_at path name x then beside_leaf way x.leaves vs else value_on (drop (k + 1) sites) (drop (k + 1) values) path name way)
on_more path name way sites values k x vs h l p q = ap₂ (λ a b. value_on a b path name way) (drop_there sites k x h p) (drop_there values k vs l q)

pub on_next : (path : List ℕ) (name : ℕ) (way : List PathStep) (sites : List Site) (values : List (List Value)) (k : ℕ) (x : Site) → k < length sites → k < length values → x ≡ get_or sites k x
    → is_at path name x ≡ false → value_on (drop k sites) (drop k values) path name way ≡ value_on (drop (k + 1) sites) (drop (k + 1) values) path name way
on_next path name way [] values k x h l p e = absurd (omega (arith, h))
on_next path name way (a ∷ sites) [] k x h l p e = absurd (omega (arith, l))
on_next path name way (a ∷ sites) (vs ∷ values) zero x h l p e = ap (λ b. if b then beside_leaf way a.leaves vs else value_on sites values path name way) (ap (is_at path name) (sym p) ∙ e)
on_next path name way (a ∷ sites) (vs ∷ values) (suc k) x h l p e =
    let next : suc k + 1 ≡ suc (k + 1) = omega arith in
    on_next path name way sites values k x (omega (arith, h)) (omega (arith, l)) p e ∙ sym (ap (λ n. value_on (drop n (a ∷ sites)) (drop n (vs ∷ values)) path name way) next)

pub on_past : (path : List ℕ) (name : ℕ) (way : List PathStep) (sites : List Site) (values : List (List Value)) (k : ℕ) → min (length sites) (length values) ≤ k
    → value_on (drop k sites) (drop k values) path name way ≡ None
on_past path name way [] values zero h = refl
on_past path name way [] values (suc k) h = refl
on_past path name way (x ∷ sites) [] zero h = refl
on_past path name way (x ∷ sites) [] (suc k) h = none_on (drop k sites)
  where
    none_on : (ss : List Site) → value_on ss [] path name way ≡ None
    none_on [] = refl
    none_on (s ∷ ss) = refl
on_past path name way (x ∷ sites) (vs ∷ values) zero h = absurd (omega (arith, h))
on_past path name way (x ∷ sites) (vs ∷ values) (suc k) h = on_past path name way sites values k (omega (arith, h))

-- what a module sees of a leaf, inside of an instance and of its own

through : (rho : Valuation) (path : List ℕ) (c x : ℕ) (t : Option ℕ) (way : List PathStep) → port_in t way ≡ Some x → seen_through rho path c t way ≡ rho (path ++ c ∷ []) x (drop 1 way)
through rho path c x (Some t) (step.Field y ∷ way) e = ap (λ z. rho (path ++ c ∷ []) z way) (same e)
  where
    same : {a b : ℕ} → Some a ≡ Some b → a ≡ b
    same e = cc
through rho path c x (Some t) (step.Element n ∷ way) e = cc
through rho path c x (Some t) [] e = cc
through rho path c x None way e = absurd (none_some e)
  where
    none_some : {a : ℕ} → None ≡ Some a → ⊥
    none_some e = cc

own : (rho : Valuation) (path : List ℕ) (c : ℕ) (t : Option ℕ) (way : List PathStep) → port_in t way ≡ None → seen_through rho path c t way ≡ rho path c way
own rho path c (Some t) (step.Field y ∷ way) e = cc
own rho path c (Some t) (step.Element n ∷ way) e = refl
own rho path c (Some t) [] e = refl
own rho path c None way e = refl

behind : (way : List Step) → drop 1 (map step_of way) ≡ map step_of (drop 1 way)
behind [] = refl
behind (s ∷ way) = refl

pub seen_inside : (view : View) (c x : ℕ) (way : List Step) → port_in (target_at view.sites.now view.path.now c) (map step_of way) ≡ Some x
    → (scene_of_view view).integers c (map step_of way) ≡ integer_or_zero (value_on view.sites.now view.values.now (view.path.now ++ c ∷ []) x (map step_of (drop 1 way)))
seen_inside view c x way e =
    through (valuation_of view.sites.now view.values.now) view.path.now c x (target_at view.sites.now view.path.now c) (map step_of way) e
    ∙ ap (λ w. integer_or_zero (value_on view.sites.now view.values.now (view.path.now ++ c ∷ []) x w)) (behind way)

pub seen_own : (view : View) (c : ℕ) (way : List Step) → port_in (target_at view.sites.now view.path.now c) (map step_of way) ≡ None
    → (scene_of_view view).integers c (map step_of way) ≡ integer_or_zero (value_on view.sites.now view.values.now view.path.now c (map step_of way))
seen_own view c way e = own (valuation_of view.sites.now view.values.now) view.path.now c (target_at view.sites.now view.path.now c) (map step_of way) e
