-- Links that are added, one after another.
use Rattle.std.proofs.Common.{◌≡◌, Bool, true, false, ◌&&◌, ◌||◌, [], ◌∷◌, ◌++◌, if◌then◌else◌, refl, sym, ap, ap₂, ◌∙◌}
use Rattle.std.proofs.lemmas.List.Folds.{list_any-append}
use Rattle.fir_meaning.specs.Components.{FlatLeaf}
use Rattle.clock_check.specs.declared.flat_set.FlatKey.{FlatKey}
use Rattle.clock_check.specs.Flats.{leaf_of_flat, same_flat, is_within}
use Rattle.clock_check.specs.Searched.{Sinks, sinks_at}
use Rattle.clock_check.proofs.Searching.{or_none}

one_kept : (sink : FlatKey) (x : FlatLeaf) (b : Bool) → is_within (if b then sink ∷ [] else []) x ≡ (b && same_flat (leaf_of_flat sink) x)
one_kept sink x true = sym (or_none (same_flat (leaf_of_flat sink) x))
one_kept sink x false = refl

pub link_added : (old new : Sinks) (source sink : FlatKey) (at of : FlatLeaf) → leaf_of_flat source ≡ of → leaf_of_flat sink ≡ at
    → ((y : FlatLeaf) → sinks_at new y ≡ sinks_at old y ++ (if same_flat (leaf_of_flat source) y then sink ∷ [] else []))
    → (x y : FlatLeaf) → is_within (sinks_at new y) x ≡ (is_within (sinks_at old y) x || (same_flat of y && same_flat at x))
link_added old new source sink at of e f h x y =
    ap (λ l. is_within l x) (h y)
    ∙ list_any-append (λ key. same_flat (leaf_of_flat key) x) (sinks_at old y) (if same_flat (leaf_of_flat source) y then sink ∷ [] else [])
    ∙ ap (λ b. is_within (sinks_at old y) x || b) (one_kept sink x (same_flat (leaf_of_flat source) y) ∙ ap₂ (λ s t. same_flat s y && same_flat t x) e f)
