-- The leaves of equivalent types are the same but for their ground types.
use Rattle.std.proofs.Common.{◌≡◌, ℕ, zero, suc, Bool, false, not, if◌then◌else◌, List, [], ◌∷◌, ◌++◌, map, refl, sym, ap, ◌∙◌, arith}
use Rattle.std.specs.List.{flat_map}
use Rattle.std.proofs.lemmas.Grind.{common_steps}
use Rattle.std.proofs.lemmas.List.{map-append}
use Rattle.fir_types.specs.declared.fir_type.FirType.{FirType, the_lemmas}
use Rattle.fir_types.specs.declared.fir_type.Shape.TheVariants as shape
use Rattle.fir_types.specs.declared.fir_type.Field.{Field}
use Rattle.fir_types.specs.declared.leaf.TypeLeaf.{TypeLeaf}
use Rattle.fir_types.specs.declared.leaf.PathStep.{PathStep}
use Rattle.fir_types.specs.declared.leaf.PathStep.TheVariants as step
use Rattle.fir_types.specs.Leaves.{leaves, field_leaves, elements, under, way_of}
use Rattle.fir_types.specs.Equivalence.{Equivalent, IsUnsigned, IsSigned, SameFields, unsigned, signed, clocks, asyncs, vectors, bundles, no_fields, same_field, a_uint, a_reset, a_sint}
use Rattle.fir_types.proofs.Layers.{leaves-bundle, leaves-vector, leaves-field}

abbrev Way : Type 0
Way = List PathStep × Bool

abbrev shifted : List PathStep → Bool → Way → Way
shifted path flip w = (path ++ w.0, if flip then not w.1 else w.1)

ways_under : (path : List PathStep) (flip : Bool) (ls : List TypeLeaf) → map way_of (map (under path flip) ls) ≡ map (shifted path flip) (map way_of ls)
ways_under path flip [] = refl
ways_under path flip (l ∷ ls) = ap (λ ws. (path ++ l.path, if flip then not l.flip else l.flip) ∷ ws) (ways_under path flip ls)

abbrev pub SameWays : List TypeLeaf → List TypeLeaf → Type 0
SameWays ls ms = map way_of ls ≡ map way_of ms

same_under : (path : List PathStep) (flip : Bool) (ls ms : List TypeLeaf) → SameWays ls ms → SameWays (map (under path flip) ls) (map (under path flip) ms)
same_under path flip ls ms e = ways_under path flip ls ∙ ap (map (shifted path flip)) e ∙ sym (ways_under path flip ms)

pub same_append : (xs bs cs ds : List TypeLeaf) → SameWays xs bs → SameWays cs ds → SameWays (xs ++ cs) (bs ++ ds)
same_append xs bs cs ds e f = map-append way_of xs cs ∙ ap (λ ws. ws ++ map way_of cs) e ∙ ap (λ ws. map way_of bs ++ ws) f ∙ sym (map-append way_of bs ds)

pub same_elements : (ls ms : List TypeLeaf) (n : ℕ) → SameWays ls ms → SameWays (elements ls n) (elements ms n)
same_elements ls ms zero e = refl
same_elements ls ms (suc n) e =
    same_append (elements ls n) (elements ms n) (map (under (step.Element n ∷ []) false) ls) (map (under (step.Element n ∷ []) false) ms)
    (same_elements ls ms n e) (same_under (step.Element n ∷ []) false ls ms e)

unsigned_way : {t : FirType} → IsUnsigned t → map way_of (leaves t) ≡ ([], false) ∷ []
unsigned_way {t} (a_uint w e) = grind (arith, common_steps, the_lemmas)
unsigned_way {t} (a_reset e) = grind (arith, common_steps, the_lemmas)

signed_way : {t : FirType} → IsSigned t → map way_of (leaves t) ≡ ([], false) ∷ []
signed_way {t} (a_sint w e) = grind (arith, common_steps, the_lemmas)

clock_way : (t : FirType) → t.shape ≡ shape.Clock → map way_of (leaves t) ≡ ([], false) ∷ []
clock_way t e = grind (arith, common_steps, the_lemmas)

async_way : (t : FirType) → t.shape ≡ shape.AsyncReset → map way_of (leaves t) ≡ ([], false) ∷ []
async_way t e = grind (arith, common_steps, the_lemmas)

pub same_field_ways : (f g : Field) → f.name.id ≡ g.name.id → f.flip ≡ g.flip → SameWays (leaves f.typ) (leaves g.typ) → SameWays (field_leaves f) (field_leaves g)
same_field_ways f g a b e =
    ap (map way_of) (leaves-field f) ∙ same_under (step.Field f.name.id ∷ []) f.flip (leaves f.typ) (leaves g.typ) e
    ∙ ap (λ n. map way_of (map (under (step.Field n ∷ []) f.flip) (leaves g.typ))) a ∙ ap (λ x. map way_of (map (under (step.Field g.name.id ∷ []) x) (leaves g.typ))) b
    ∙ sym (ap (map way_of) (leaves-field g))

mutual
  pub same_ways : {l r : FirType} → Equivalent l r → SameWays (leaves l) (leaves r)
  same_ways (unsigned u v) = unsigned_way u ∙ sym (unsigned_way v)
  same_ways (signed u v) = signed_way u ∙ sym (signed_way v)
  same_ways {l} {r} (clocks u v) = clock_way l u ∙ sym (clock_way r v)
  same_ways {l} {r} (asyncs u v) = async_way l u ∙ sym (async_way r v)
  same_ways {l} {r} (vectors e o n u v q) =
      ap (map way_of) (leaves-vector l e n u) ∙ same_elements (leaves e) (leaves o) n (same_ways q) ∙ sym (ap (map way_of) (leaves-vector r o n v))
  same_ways {l} {r} (bundles fs gs u v q) =
      ap (map way_of) (leaves-bundle l fs u) ∙ same_bundle_ways q ∙ sym (ap (map way_of) (leaves-bundle r gs v))

  same_bundle_ways : {fs gs : List Field} → SameFields fs gs → SameWays (flat_map field_leaves fs) (flat_map field_leaves gs)
  same_bundle_ways no_fields = refl
  same_bundle_ways (same_field {field = f} {other = g} {rest = fs} {others = gs} a b q rest) =
      same_append (field_leaves f) (field_leaves g) (flat_map field_leaves fs) (flat_map field_leaves gs) (same_field_ways f g a b (same_ways q)) (same_bundle_ways rest)
