-- Main's input leaves, as they are held.
use Rattle.std.proofs.Common.{◌≡◌, ℕ, ◌+◌, ◌<◌, ◌≤◌, min, List, [], ◌∷◌, ◌++◌, map, zip, length, take, get_or, Option, Some, None, sym, ap, ◌∙◌, append-nil}
use Rattle.std.specs.Prelude.{option_map, flat_map}
use Rattle.std.proofs.lemmas.List.{take_more}
use Rattle.std.proofs.lemmas.List.Concat.{flat_map-cons}
use Rattle.std.proofs.lemmas.List.Folds.{flat_map-map}
use Rattle.std.proofs.lemmas.Grind.{flat_map-append}
use Rattle.fir_types.specs.declared.fir_type.FirType.{FirType}
use Rattle.fir_meaning.specs.Components.{TypedModule, Leaf}
use Rattle.fir_meaning.proofs.Tracking.{none_some}
use Rattle.fir_names.proofs.Graphs.{some_same}
use Rattle.plain_cycle.specs.declared.declarations.Declaration.{Declaration}
use Rattle.plain_cycle.specs.Held.{Kept, held}
use Rattle.plain_cycle.specs.Parts.{bare, bares}
use Rattle.plain_cycle.proofs.Lists.{zip_mapped, zip_mapped_more}
use Rattle.plain_cycle.proofs.Modules.{zipped}
use Rattle.plain_cycle.specs.Given.{inputs_of_component, inputs_of}
use Rattle.plain_run.specs.Leaves.{component_with}

-- Components, one after another

abbrev pub inputs_kept : Kept × FirType → List Leaf
inputs_kept both = inputs_of_component (component_with both)

pub flat_more : {B : Type 0} (f : Kept × FirType → List B) (ds : List Declaration) (ts : List FirType) (k : ℕ) (d : Declaration) (t : FirType) (before after : List B) → k < length ds → k < length ts
    → d ≡ get_or ds k d → t ≡ get_or ts k t → after ≡ before ++ f (held d, t) → before ≡ flat_map f (zipped ds ts k) → after ≡ flat_map f (zipped ds ts (k + 1))
flat_more f ds ts k d t before after h l is js more old =
    more ∙ (ap (λ x. x ++ f (held d, t)) old
    ∙ sym (ap (flat_map f) (zip_mapped_more held ds ts k d t h l is js)
    ∙ (flat_map-append f (zipped ds ts k) ((held d, t) ∷ [])
    ∙ ap (λ x. flat_map f (zipped ds ts k) ++ x) (flat_map-cons f (held d, t) [] ∙ append-nil (f (held d, t))))))

inputs_known : (found : Option TypedModule) (bs : List (Kept × FirType)) → Some bs ≡ option_map bares found → flat_map inputs_kept bs ≡ inputs_of found
inputs_known None bs e = absurd (none_some (sym e))
inputs_known (Some m) bs e = ap (flat_map inputs_kept) (some_same e) ∙ flat_map-map inputs_kept bare m.components

module _ (found : Option TypedModule) (ds items : List Declaration) (ts : List FirType) (k : ℕ) (same : ds ≡ items) (is : Some (zip (map held items) ts) ≡ option_map bares found) (past : min (length ds) (length ts) ≤ k) where
  all_zipped : zipped ds ts k ≡ zip (map held items) ts
  all_zipped = zip_mapped held ds ts k past ∙ ap (λ l. zip (map held l) ts) same

  pub inputs_all : (all : List Leaf) → all ≡ flat_map inputs_kept (zipped ds ts k) → all ≡ inputs_of found
  inputs_all all h = h ∙ (ap (flat_map inputs_kept) all_zipped ∙ inputs_known found (zip (map held items) ts) is)

-- one item more
pub taken_more : {A : Type 0} (xs : List A) (k : ℕ) (x : A) → k < length xs → x ≡ get_or xs k x → take (k + 1) xs ≡ take k xs ++ x ∷ []
taken_more xs k x below is = take_more xs k x below ∙ ap (λ y. take k xs ++ y ∷ []) (sym is)
