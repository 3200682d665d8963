-- The steps of a reference.
use Rattle.std.proofs.Common.{◌≡◌, ℕ, zero, suc, ◌+◌, ◌<◌, ◌≤◌, nat_lt, Bool, true, false, List, [], ◌∷◌, ◌++◌, map, length, take, get_or, Option, Some, None, option_map, option_and_then, is_some, IsSome, if◌then◌else◌, refl, sym, ap, ap₂, ◌∙◌, subst, arith, true≢false}
use Rattle.std.proofs.lemmas.List.{take_more, map-append}
use Rattle.std.proofs.lemmas.List.Sums.{fold-append}
use Rattle.place_text.specs.declared.place.Place.{Place}
use Rattle.fir_types.specs.declared.fir_type.FirType.{FirType}
use Rattle.fir_types.specs.declared.fir_type.Shape.TheViews.{out-Shape}
use Rattle.fir_types.specs.declared.name.Name.{Name}
use Rattle.fir_tree.specs.declared.expr.Expr.{Expr}
use Rattle.fir_tree.specs.declared.expr.Suffix.{Suffix}
use Rattle.fir_tree.specs.declared.expr.Suffix.TheVariants as suffix
use Rattle.fir_meaning.specs.WellTyped.{Known, Onward, typed, typed_step, type_behind, is_one_unsigned}
use Rattle.fir_meaning.specs.Values.{Scene, Spot, suffix_step, follow, whole, field_type, element_type, or_itself, field_of_shape, element_of_shape, vector_length}
use Rattle.plain_values.specs.declared.site.Site.{Site}
use Rattle.plain_values.specs.declared.site.View.{View}
use Rattle.plain_values.specs.declared.spot.HeldSpot.{HeldSpot}
use Rattle.plain_values.specs.Sites.{site_at, known_of_view, scene_of_view, type_or_empty}
use Rattle.plain_values.specs.Finding.{spot_of_held}
use Rattle.plain_values.proofs.Forms.{typed-Field, typed-At, typed-Index}
use Rattle.plain_values.proofs.Lists.{take_whole}

-- these suffixes lead from a component to the spot, whose type is theirs
pub record Leads (view : View) (name : ℕ) (suffixes : List Suffix) (spot : HeldSpot) : Type 0 where
  pub is : spot_of_held spot ≡ follow (scene_of_view view) name (map suffix_step suffixes)
  pub known : type_behind (known_of_view view) (map typed_step suffixes) (known_of_view view name) ≡ Some spot.typ

pub leads_first : (view : View) (name : ℕ) (site : Site) (typ : FirType) → site_at view.sites.now view.path.now name ≡ Some site → typ ≡ site.typ
    → Leads view name [] (record { component = name; typ = typ; way = Some [] })
leads_first view name site typ at is = record {
  is = ap (λ t. record { component = name; typ = t; way = Some [] }) (is ∙ sym (ap type_or_empty at));
  known = ap (option_map (λ (s : Site). s.typ)) at ∙ ap Some (sym is);
}

behind_more : (known : Known) (steps : List Onward) (s : Onward) (o : Option FirType) → type_behind known (steps ++ s ∷ []) o ≡ option_and_then (s known) (type_behind known steps o)
behind_more known [] s o = refl
behind_more known (t ∷ ts) s o = behind_more known ts s (option_and_then (t known) o)

steps_more : {B : Type 0} (f : Suffix → B) (ss : List Suffix) (k : ℕ) (s : Suffix) → k < length ss → s ≡ get_or ss k s → map f (take (k + 1) ss) ≡ map f (take k ss) ++ f s ∷ []
steps_more f ss k s h is = ap (map f) (take_more ss k s h) ∙ (map-append f (take k ss) (get_or ss k s ∷ []) ∙ ap (λ x. map f (take k ss) ++ f x ∷ []) (sym is))

pub leads_more : (view : View) (name : ℕ) (ss : List Suffix) (k : ℕ) (s : Suffix) (spot next : HeldSpot) → k < length ss → s ≡ get_or ss k s → Leads view name (take k ss) spot
    → spot_of_held next ≡ suffix_step s (scene_of_view view) (spot_of_held spot) → typed_step s (known_of_view view) spot.typ ≡ Some next.typ → Leads view name (take (k + 1) ss) next
leads_more view name ss k s spot next h is l to typ = record {
  is = to ∙ (ap (suffix_step s (scene_of_view view)) l.is
      ∙ sym (ap (follow (scene_of_view view) name) (steps_more suffix_step ss k s h is)
      ∙ fold-append (λ at go. go (scene_of_view view) at) (whole (scene_of_view view) name) (map suffix_step (take k ss)) (suffix_step s ∷ [])));
  known = ap (λ ts. type_behind (known_of_view view) ts (known_of_view view name)) (steps_more typed_step ss k s h is)
      ∙ (behind_more (known_of_view view) (map typed_step (take k ss)) (typed_step s) (known_of_view view name) ∙ (ap (option_and_then (typed_step s (known_of_view view))) l.known ∙ typ));
}

behind_none : (known : Known) (steps : List Onward) → type_behind known steps None ≡ None
behind_none known [] = refl
behind_none known (s ∷ ss) = behind_none known ss

next_some : (known : Known) (s : Onward) (later : List Onward) (o : Option FirType) → IsSome (type_behind known later (option_and_then (s known) o)) → IsSome (option_and_then (s known) o)
next_some known s later o h = by (option_and_then (s known) o) refl
  where
    by : (q : Option FirType) → option_and_then (s known) o ≡ q → IsSome q
    by (Some t) e = refl
    by None e = absurd (true≢false (sym (ap is_some (sym (behind_none known later)) ∙ (ap (λ x. is_some (type_behind known later x)) (sym e) ∙ h))))

split_steps : (known : Known) (ss : List Suffix) (k : ℕ) (s : Suffix) (o : Option FirType) → k < length ss → s ≡ get_or ss k s → IsSome (type_behind known (map typed_step ss) o)
    → IsSome (option_and_then (typed_step s known) (type_behind known (map typed_step (take k ss)) o))
split_steps known [] k s o h is w = absurd (omega arith)
split_steps known (x ∷ xs) zero s o h is w =
    subst (λ y. IsSome (option_and_then (typed_step y known) o)) (sym is) (next_some known (typed_step x) (map typed_step xs) o w)
split_steps known (x ∷ xs) (suc k) s o h is w = split_steps known xs k s (option_and_then (typed_step x known) o) (omega arith) is w

pub step_typed : (view : View) (name : ℕ) (ss : List Suffix) (k : ℕ) (s : Suffix) (spot : HeldSpot) → k < length ss → s ≡ get_or ss k s
    → IsSome (type_behind (known_of_view view) (map typed_step ss) (known_of_view view name)) → Leads view name (take k ss) spot → IsSome (typed_step s (known_of_view view) spot.typ)
step_typed view name ss k s spot h is w l =
    ap (λ o. is_some (option_and_then (typed_step s (known_of_view view)) o)) (sym l.known) ∙ split_steps (known_of_view view) ss k s (known_of_view view name) h is w

pub name_known : (view : View) (name : ℕ) (ss : List Suffix) → IsSome (type_behind (known_of_view view) (map typed_step ss) (known_of_view view name))
    → site_at view.sites.now view.path.now name ≡ None → ⊥
name_known view name ss w none =
    true≢false (sym (ap is_some (sym (behind_none (known_of_view view) (map typed_step ss)))
    ∙ (ap (λ o. is_some (type_behind (known_of_view view) (map typed_step ss) (option_map (λ (s : Site). s.typ) o))) (sym none) ∙ w)))

pub leads_whole : (view : View) (name : ℕ) (ss : List Suffix) (k : ℕ) (spot : HeldSpot) → length ss ≤ k → Leads view name (take k ss) spot
    → spot_of_held spot ≡ follow (scene_of_view view) name (map suffix_step ss)
leads_whole view name ss k spot h l = l.is ∙ ap (λ xs. follow (scene_of_view view) name (map suffix_step xs)) (take_whole ss k h)

-- what a well typed step asks for

part_there : (typ : FirType) (o : Option FirType) → IsSome o → o ≡ Some (or_itself typ o)
part_there typ (Some t) h = refl
part_there typ None h = absurd (true≢false (sym h))

tested : {A : Type 0} (b : Bool) (o : Option A) → IsSome (if b then o else None) → (b ≡ true) × IsSome o
tested true o h = (refl, h)
tested false o h = absurd (true≢false (sym h))

pub field_typed : (known : Known) (s : Suffix) (name : Name) (typ : FirType) → s ≡ suffix.Field name → IsSome (typed_step s known typ) → typed_step s known typ ≡ Some (field_type name.id typ)
field_typed known s name typ is h =
    let same : typed_step s known typ ≡ field_of_shape name.id (out-Shape typ.shape) = ap (λ f. f known typ) (typed-Field s name is) in
    same ∙ part_there typ (field_of_shape name.id (out-Shape typ.shape)) (ap is_some (sym same) ∙ h)

pub at_typed : (known : Known) (s : Suffix) (a b : Place) (k : ℕ) (typ : FirType) → s ≡ suffix.At a b k → IsSome (typed_step s known typ) → typed_step s known typ ≡ Some (element_type typ)
at_typed known s a b k typ is h =
    let same : typed_step s known typ ≡ (if nat_lt k (vector_length typ) then element_of_shape (out-Shape typ.shape) else None) = ap (λ f. f known typ) (typed-At s a b k is) in
    let both = tested (nat_lt k (vector_length typ)) (element_of_shape (out-Shape typ.shape)) (ap is_some (sym same) ∙ h) in
    same ∙ (ap (λ t. if t then element_of_shape (out-Shape typ.shape) else None) both.0 ∙ part_there typ (element_of_shape (out-Shape typ.shape)) both.1)

pub index_asked : (known : Known) (s : Suffix) (a : Place) (e : Expr) (typ : FirType) → s ≡ suffix.Index a e → IsSome (typed_step s known typ)
    → (is_one_unsigned (typed e known) ≡ true) × (typed_step s known typ ≡ Some (element_type typ))
index_asked known s a e typ is h =
    let same : typed_step s known typ ≡ (if is_one_unsigned (typed e known) then element_of_shape (out-Shape typ.shape) else None) = ap (λ f. f known typ) (typed-Index s a e is) in
    let both = tested (is_one_unsigned (typed e known)) (element_of_shape (out-Shape typ.shape)) (ap is_some (sym same) ∙ h) in
    (both.0, same ∙ (ap (λ t. if t then element_of_shape (out-Shape typ.shape) else None) both.0 ∙ part_there typ (element_of_shape (out-Shape typ.shape)) both.1))
