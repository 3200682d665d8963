-- The steps of a reference.
use Rattle.std.proofs.Common.{◌≡◌, ℕ, ◌+◌, ◌<◌, Bool, true, List, [], ◌∷◌, ◌++◌, map, length, take, get_or, refl, sym, ap, ap₂, ◌∙◌, subst, arith, true≢false}
use Rattle.std.proofs.lemmas.Grind.{common_steps}
use Rattle.std.proofs.lemmas.List.{map-append}
use Rattle.std.proofs.lemmas.List.Sums.{fold_more}
use Rattle.std.proofs.lemmas.List.Folds.{fold-map}
use Rattle.place_text.specs.declared.place.Place.{Place}
use Rattle.fir_types.specs.declared.name.Name.{Name}
use Rattle.fir_types.specs.declared.fir_type.FirType.{FirType}
use Rattle.fir_types.specs.declared.fir_type.Field.{Field}
use Rattle.fir_types.specs.declared.fir_type.Shape.TheVariants as shape
use Rattle.fir_types.specs.declared.fir_type.Shape.TheVariants.{outs-Bundle}
use Rattle.fir_types.specs.declared.fir_type.Shape.TheViews.{out-Shape}
use Rattle.std.specs.Prelude.{Option, option_map, find, ◌==◌}
use Rattle.fir_types.specs.declared.leaf.PathStep.{PathStep}
use Rattle.fir_tree.specs.declared.expr.Expr.{Expr, the_lemmas as expr_lemmas}
use Rattle.fir_tree.specs.declared.expr.Suffix.{Suffix}
use Rattle.fir_tree.specs.declared.expr.Suffix.TheVariants as suffix
use Rattle.fir_meaning.specs.Values.{field_type, element_type, vector_length, or_itself, field_of_shape}
use Rattle.fir_meaning.specs.Mentions.{Scope, Region, suffix_onward, follow_all, whole_region, behind_each, elements_behind, joined, mentions}
use Rattle.fir_types.specs.declared.leaf.PathStep.TheVariants as step
use Rattle.drive_check.specs.declared.leaf_set.Step.{Step}
use Rattle.drive_check.specs.declared.leaf_set.Step.TheVariants as own
use Rattle.drive_check.specs.Keys.{step_of}
use Rattle.drive_check.specs.Follows.{Follows}

pub onward-field : (name : Name) (types : Scope) (region : Region)
    → suffix_onward (suffix.Field name) types region ≡ record region { typ = field_type name.id region.typ; ways = behind_each region.ways (step.Field name.id) }
onward-field name types region = grind (arith, common_steps, expr_lemmas)

pub onward-at : (bracket place : Place) (n : ℕ) (types : Scope) (region : Region)
    → suffix_onward (suffix.At bracket place n) types region ≡ record region { typ = element_type region.typ; ways = behind_each region.ways (step.Element n) }
onward-at bracket place n types region = grind (arith, common_steps, expr_lemmas)

pub onward-index : (bracket : Place) (index : Expr) (types : Scope) (region : Region)
    → suffix_onward (suffix.Index bracket index) types region
    ≡ record region { typ = element_type region.typ; ways = elements_behind region.ways (vector_length region.typ); dynamic = true; indices = region.indices ++ joined (mentions index types) }
onward-index bracket index types region = grind (arith, common_steps, expr_lemmas)

one_way : (ways : List (List PathStep)) (way : List Step) (s : Step) → ways ≡ map step_of way ∷ [] → behind_each ways (step_of s) ≡ map step_of (way ++ s ∷ []) ∷ []
one_way ways way s e = ap (λ w. behind_each w (step_of s)) e ∙ ap (λ w. w ∷ []) (sym (map-append step_of way (s ∷ [])))

pub follows_field : (types : Scope) (region : Region) (component : ℕ) (typ : FirType) (way : List Step) (dynamic : Bool) (name : Name) → Follows region component typ way dynamic
    → Follows (suffix_onward (suffix.Field name) types region) component (field_type name.id typ) (way ++ own.Field name.id ∷ []) dynamic
follows_field types region component typ way dynamic name f =
    subst (λ r. Follows r component (field_type name.id typ) (way ++ own.Field name.id ∷ []) dynamic) (sym (onward-field name types region)) (record {
      component_is = f.component_is;
      typ_is = ap (field_type name.id) f.typ_is;
      dynamic_is = f.dynamic_is;
      static = λ e. (one_way region.ways way (own.Field name.id) (f.static e).0, (f.static e).1);
    })

pub follows_at : (types : Scope) (region : Region) (component : ℕ) (typ : FirType) (way : List Step) (dynamic : Bool) (bracket place : Place) (n : ℕ) → Follows region component typ way dynamic
    → Follows (suffix_onward (suffix.At bracket place n) types region) component (element_type typ) (way ++ own.Element n ∷ []) dynamic
follows_at types region component typ way dynamic bracket place n f =
    subst (λ r. Follows r component (element_type typ) (way ++ own.Element n ∷ []) dynamic) (sym (onward-at bracket place n types region)) (record {
      component_is = f.component_is;
      typ_is = ap element_type f.typ_is;
      dynamic_is = f.dynamic_is;
      static = λ e. (one_way region.ways way (own.Element n) (f.static e).0, (f.static e).1);
    })

pub follows_index : (types : Scope) (region : Region) (component : ℕ) (typ : FirType) (way : List Step) (dynamic : Bool) (bracket : Place) (index : Expr) → Follows region component typ way dynamic
    → Follows (suffix_onward (suffix.Index bracket index) types region) component (element_type typ) way true
follows_index types region component typ way dynamic bracket index f =
    subst (λ r. Follows r component (element_type typ) way true) (sym (onward-index bracket index types region)) (record {
      component_is = f.component_is;
      typ_is = ap element_type f.typ_is;
      dynamic_is = refl;
      static = λ e. absurd (true≢false e);
    })

-- one suffix more
pub follow_more : (types : Scope) (name : ℕ) (suffixes : List Suffix) (i : ℕ) (x : Suffix) → i < length suffixes → x ≡ get_or suffixes i x
    → follow_all types name (map suffix_onward (take (i + 1) suffixes)) ≡ suffix_onward x types (follow_all types name (map suffix_onward (take i suffixes)))
follow_more types name suffixes i x lt is =
    let f : Region → (Scope → Region → Region) → Region = λ region next. next types region in
    let start = whole_region types name in
    fold-map f suffix_onward start (take (i + 1) suffixes) ∙ fold_more (λ (region : Region) (s : Suffix). suffix_onward s types region) start suffixes i x lt
    ∙ ap₂ (λ (r : Region) (s : Suffix). suffix_onward s types r) (sym (fold-map f suffix_onward start (take i suffixes))) (sym is)

pub field_found : (typ : FirType) (fields : List Field) (id : ℕ) (found : Option Field) → typ.shape ≡ shape.Bundle fields → find (λ f. f.name.id == id) fields ≡ found
    → field_type id typ ≡ or_itself typ (option_map (λ f. f.typ) found)
field_found typ fields id found e h =
    ap (λ s. or_itself typ (field_of_shape id (out-Shape s))) e ∙ ap (λ l. or_itself typ (field_of_shape id l)) (outs-Bundle fields)
    ∙ ap (λ (o : Option Field). or_itself typ (option_map (λ f. f.typ) o)) h
