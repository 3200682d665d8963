-- What the folds give at each case.
use Rattle.std.proofs.Common.{◌≡◌, ℕ, List, [], ◌∷◌, Some, arith, ap, sym, ◌∙◌, map, ◌++◌}
use Rattle.std.proofs.lemmas.Grind.{common_steps}
use Rattle.place_text.specs.declared.place.Place.{Place}
use Rattle.fir_types.specs.declared.name.Name.{Name}
use Rattle.fir_tree.specs.declared.expr.Expr.{Expr, the_lemmas as expr_lemmas}
use Rattle.fir_tree.specs.declared.expr.Form.{Form}
use Rattle.fir_tree.specs.declared.expr.Suffix.{Suffix}
use Rattle.fir_tree.specs.declared.expr.Suffix.TheVariants as suffix
use Rattle.fir_tree.specs.declared.expr.Form.TheOpen.{Suffix-F}
use Rattle.fir_tree.specs.declared.expr.Form.TheViews.{roll-Suffix}
use Rattle.fir_tree.specs.declared.expr.Form.TheVariants as form
use Rattle.fir_types.specs.Leaves.{leaves}
use Rattle.bit_words.specs.declared.value.Value.{Value}
use Rattle.fir_meaning.specs.Components.{Leaf}
use Rattle.fir_meaning.specs.Values as values
use Rattle.fir_meaning.specs.Values.{Scene, Spot}
use Rattle.fir_meaning.specs.Mentions.{Scope, Region}
use Rattle.fir_meaning.specs.Mentions as mention

rolled_step : (bracket : Place) (e : Expr) → values.suffix_step (roll-Suffix (Suffix-F.Index bracket e)) ≡ values.of_suffix (Suffix-F.Index bracket (values.value e))
rolled_step bracket e = grind (arith, common_steps, expr_lemmas)

pub step-Index : (bracket place : Place) (f : Form) → values.suffix_step (suffix.Index bracket (record { place = place; form = f }))
    ≡ values.of_suffix (Suffix-F.Index bracket (values.value (record { place = place; form = f })))
step-Index bracket place f =
    ap values.suffix_step (sym (suffix.rolls-Index bracket (record { place = place; form = f }))) ∙ rolled_step bracket (record { place = place; form = f })

rolled_onward : (bracket : Place) (e : Expr) → mention.suffix_onward (roll-Suffix (Suffix-F.Index bracket e)) ≡ mention.of_suffix (Suffix-F.Index bracket (mention.mentions e))
rolled_onward bracket e = grind (arith, common_steps, expr_lemmas)

pub onward-Index : (bracket place : Place) (f : Form) → mention.suffix_onward (suffix.Index bracket (record { place = place; form = f }))
    ≡ mention.of_suffix (Suffix-F.Index bracket (mention.mentions (record { place = place; form = f })))
onward-Index bracket place f =
    ap mention.suffix_onward (sym (suffix.rolls-Index bracket (record { place = place; form = f }))) ∙ rolled_onward bracket (record { place = place; form = f })

-- A reference with one dynamic index.

value-Ref : (place : Place) (name : Name) (suffixes : List Suffix) (scene : Scene) → values.value (record { place = place; form = form.Ref name suffixes }) scene
    ≡ values.values_at scene (values.follow scene name.id (map values.suffix_step suffixes)) (values.follow scene name.id (map values.suffix_step suffixes)).way
value-Ref place name suffixes scene = grind (arith, common_steps, expr_lemmas)

abbrev values_there : Scene → ℕ → (Scene → Spot → Spot) → List Value
values_there scene c next = values.values_at scene (next scene (values.whole scene c)) (next scene (values.whole scene c)).way

pub value-indexed : (place bracket inner : Place) (name : Name) (f : Form) (scene : Scene)
    → values.value (record { place = place; form = form.Ref name (suffix.Index bracket (record { place = inner; form = f }) ∷ []) }) scene
    ≡ values_there scene name.id (values.of_suffix (Suffix-F.Index bracket (values.value (record { place = inner; form = f }))))
value-indexed place bracket inner name f scene =
    value-Ref place name (suffix.Index bracket (record { place = inner; form = f }) ∷ []) scene ∙ ap (values_there scene name.id) (step-Index bracket inner f)

spot-Ref : (place : Place) (name : Name) (suffixes : List Suffix) (scene : Scene) → values.spot_of scene (record { place = place; form = form.Ref name suffixes })
    ≡ Some (values.follow scene name.id (map values.suffix_step suffixes))
spot-Ref place name suffixes scene = grind (arith, common_steps, expr_lemmas)

pub spot-indexed : (place bracket inner : Place) (name : Name) (f : Form) (scene : Scene)
    → values.spot_of scene (record { place = place; form = form.Ref name (suffix.Index bracket (record { place = inner; form = f }) ∷ []) })
    ≡ Some (values.of_suffix (Suffix-F.Index bracket (values.value (record { place = inner; form = f }))) scene (values.whole scene name.id))
spot-indexed place bracket inner name f scene =
    spot-Ref place name (suffix.Index bracket (record { place = inner; form = f }) ∷ []) scene ∙ ap (λ next. Some (next scene (values.whole scene name.id))) (step-Index bracket inner f)

region-Ref : (place : Place) (name : Name) (suffixes : List Suffix) (types : Scope) → mention.region_of types (record { place = place; form = form.Ref name suffixes })
    ≡ Some (mention.follow_all types name.id (map mention.suffix_onward suffixes))
region-Ref place name suffixes types = grind (arith, common_steps, expr_lemmas)

pub region-indexed : (place bracket inner : Place) (name : Name) (f : Form) (types : Scope)
    → mention.region_of types (record { place = place; form = form.Ref name (suffix.Index bracket (record { place = inner; form = f }) ∷ []) })
    ≡ Some (mention.of_suffix (Suffix-F.Index bracket (mention.mentions (record { place = inner; form = f }))) types (mention.whole_region types name.id))
region-indexed place bracket inner name f types =
    region-Ref place name (suffix.Index bracket (record { place = inner; form = f }) ∷ []) types ∙ ap (λ next. Some (next types (mention.whole_region types name.id))) (onward-Index bracket inner f)

-- what each leaf of a region mentions
abbrev mentioned_there : Region → List (List Leaf)
mentioned_there region = map (λ leaf. region.indices ++ mention.leaves_at region leaf.path) (leaves region.typ)

mentions-Ref : (place : Place) (name : Name) (suffixes : List Suffix) (types : Scope) → mention.mentions (record { place = place; form = form.Ref name suffixes }) types
    ≡ mentioned_there (mention.follow_all types name.id (map mention.suffix_onward suffixes))
mentions-Ref place name suffixes types = grind (arith, common_steps, expr_lemmas)

pub mentions-indexed : (place bracket inner : Place) (name : Name) (f : Form) (types : Scope)
    → mention.mentions (record { place = place; form = form.Ref name (suffix.Index bracket (record { place = inner; form = f }) ∷ []) }) types
    ≡ mentioned_there (mention.of_suffix (Suffix-F.Index bracket (mention.mentions (record { place = inner; form = f }))) types (mention.whole_region types name.id))
mentions-indexed place bracket inner name f types =
    mentions-Ref place name (suffix.Index bracket (record { place = inner; form = f }) ∷ []) types ∙ ap (λ next. mentioned_there (next types (mention.whole_region types name.id))) (onward-Index bracket inner f)
