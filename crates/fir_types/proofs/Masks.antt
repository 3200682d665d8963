-- A mask has the leaves of the data, each one bit, and a passive type has no leaf that is turned round.
use Rattle.std.proofs.Common.{◌≡◌, ℕ, zero, suc, Bool, true, false, not, ◌||◌, if◌then◌else◌, Option, Some, List, [], ◌∷◌, ◌++◌, map, refl, sym, ap, ◌∙◌, subst, arith}
use Rattle.std.specs.List.{flat_map, list_any, AllByRecursion}
use Rattle.std.proofs.lemmas.Grind.{common_steps}
use Rattle.place_text.specs.declared.place.Place.{Place}
use Rattle.fir_types.specs.declared.fir_type.FirType.{FirType, ind-FirType, the_lemmas}
use Rattle.fir_types.specs.declared.fir_type.Shape.{Shape}
use Rattle.fir_types.specs.declared.fir_type.Shape.TheOpen.{Shape-F}
use Rattle.fir_types.specs.declared.fir_type.Shape.TheFolds.{map-Shape}
use Rattle.fir_types.specs.declared.fir_type.Shape.TheViews.{roll-Shape, roll-Field, roll-FirType}
use Rattle.fir_types.specs.declared.fir_type.Shape.TheVariants as shape
use Rattle.fir_types.specs.declared.fir_type.Shape.TheVariants.{rolls-Unsigned, rolls-Signed, rolls-Clock, rolls-Reset, rolls-AsyncReset, rolls-Bundle, rolls-Vector}
use Rattle.fir_types.specs.declared.fir_type.Field.{Field}
use Rattle.fir_types.specs.declared.leaf.TypeLeaf.{TypeLeaf}
use Rattle.fir_types.specs.declared.leaf.PathStep.{PathStep}
use Rattle.fir_types.specs.declared.leaf.PathStep.TheVariants as step
use Rattle.fir_types.specs.Leaves.{leaves, field_leaves, elements, under, way_of}
use Rattle.fir_types.specs.Passivity.{has_flip, field_has_flip}
use Rattle.fir_types.specs.Bundles.{mask_of, mask_of_field}
use Rattle.fir_types.proofs.Layers.{leaves-bundle, leaves-vector, leaves-field, flip-bundle}
use Rattle.fir_types.proofs.Ways.{SameWays, same_append, same_elements, same_field_ways}

-- facts of each leaf, in lists that are put together

all_append : (P : TypeLeaf → Type 0) (xs ys : List TypeLeaf) → AllByRecursion P xs → AllByRecursion P ys → AllByRecursion P (xs ++ ys)
all_append P [] ys a b = b
all_append P (x ∷ xs) ys a b = (a.0, all_append P xs ys a.1 b)

all_under : (P : TypeLeaf → Type 0) (path : List PathStep) (flip : Bool) (ls : List TypeLeaf) → ((l : TypeLeaf) → P l → P (under path flip l)) → AllByRecursion P ls
    → AllByRecursion P (map (under path flip) ls)
all_under P path flip [] keeps a = tt
all_under P path flip (l ∷ ls) keeps a = (keeps l a.0, all_under P path flip ls keeps a.1)

all_elements : (P : TypeLeaf → Type 0) (ls : List TypeLeaf) (n : ℕ) → ((path : List PathStep) (l : TypeLeaf) → P l → P (under path false l)) → AllByRecursion P ls
    → AllByRecursion P (elements ls n)
all_elements P ls zero keeps a = tt
all_elements P ls (suc n) keeps a =
    all_append P (elements ls n) (map (under (step.Element n ∷ []) false) ls) (all_elements P ls n keeps a)
    (all_under P (step.Element n ∷ []) false ls (keeps (step.Element n ∷ [])) a)

-- masks

abbrev IsBit : TypeLeaf → Type 0
IsBit l = l.typ.shape ≡ shape.Unsigned (Some 1)

pub record Masks (mask data_leaves : List TypeLeaf) : Type 0 where
  pub same : SameWays mask data_leaves
  pub bits : AllByRecursion IsBit mask

abbrev Masked : FirType → Type 0
Masked t = Masks (leaves (mask_of t)) (leaves t)

abbrev MaskedField : Field → Type 0
MaskedField f = Masks (field_leaves (mask_of_field f)) (field_leaves f)

abbrev MaskedShape : Shape → Type 0
MaskedShape s = (place : Place) → Masked (record { place = place; shape = s })

mask-bundle : (t : FirType) (fs : List Field) → t.shape ≡ shape.Bundle fs → (mask_of t).shape ≡ shape.Bundle (map mask_of_field fs)
mask-bundle t fs e = grind (arith, common_steps, the_lemmas)

mask-vector : (t e : FirType) (n : ℕ) → t.shape ≡ shape.Vector e n → (mask_of t).shape ≡ shape.Vector (mask_of e) n
mask-vector t e n h = grind (arith, common_steps, the_lemmas)

mask-field : (f : Field) → mask_of_field f ≡ record { flip = f.flip; name = f.name; typ = mask_of f.typ }
mask-field f = grind (arith, common_steps, the_lemmas)

fields_masked : (ps : List ((f : Field) × MaskedField f))
    → Masks (flat_map field_leaves (map mask_of_field (map (λ e. e.0) ps))) (flat_map field_leaves (map (λ e. e.0) ps))
fields_masked [] = record { same = refl; bits = tt }
fields_masked (p ∷ ps) =
    let r = fields_masked ps in
    record {
      same = same_append (field_leaves (mask_of_field p.0)) (field_leaves p.0) (flat_map field_leaves (map mask_of_field (map (λ e. e.0) ps)))
          (flat_map field_leaves (map (λ e. e.0) ps)) p.1.same r.same;
      bits = all_append IsBit (field_leaves (mask_of_field p.0)) (flat_map field_leaves (map mask_of_field (map (λ e. e.0) ps))) p.1.bits r.bits;
    }

masks_by : {xs ys us vs : List TypeLeaf} → us ≡ xs → vs ≡ ys → Masks xs ys → Masks us vs
masks_by {xs} {ys} {us} {vs} e f m = subst (λ x. Masks us x) (sym f) (subst (λ x. Masks x ys) (sym e) m)

bundle_masked : (place : Place) (ps : List ((f : Field) × MaskedField f)) → Masked (record { place = place; shape = shape.Bundle (map (λ e. e.0) ps) })
bundle_masked place ps =
    let fs : List Field = map (λ e. e.0) ps in
    let t : FirType = record { place = place; shape = shape.Bundle (map (λ e. e.0) ps) } in
    masks_by (leaves-bundle (mask_of t) (map mask_of_field fs) (mask-bundle t fs refl)) (leaves-bundle t fs refl) (fields_masked ps)

vector_masked : (place : Place) (e : FirType) (n : ℕ) → Masked e → Masked (record { place = place; shape = shape.Vector e n })
vector_masked place e n m =
    let t : FirType = record { place = place; shape = shape.Vector e n } in
    masks_by (leaves-vector (mask_of t) (mask_of e) n (mask-vector t e n refl)) (leaves-vector t e n refl)
    (record { same = same_elements (leaves (mask_of e)) (leaves e) n m.same; bits = all_elements IsBit (leaves (mask_of e)) n (λ path l b. b) m.bits })

ground_masked : (t : FirType) → leaves (mask_of t) ≡ record { path = []; flip = false; typ = record { place = t.place; shape = shape.Unsigned (Some 1) } } ∷ []
    → map way_of (leaves t) ≡ ([], false) ∷ [] → Masked t
ground_masked t e w = record { same = ap (map way_of) e ∙ sym w; bits = subst (AllByRecursion IsBit) (sym e) (refl, tt) }

unsigned_masked : (place : Place) (w : Option ℕ) → Masked (record { place = place; shape = shape.Unsigned w })
unsigned_masked place w = ground_masked (record { place = place; shape = shape.Unsigned w }) (grind (arith, common_steps, the_lemmas)) (grind (arith, common_steps, the_lemmas))

signed_masked : (place : Place) (w : Option ℕ) → Masked (record { place = place; shape = shape.Signed w })
signed_masked place w = ground_masked (record { place = place; shape = shape.Signed w }) (grind (arith, common_steps, the_lemmas)) (grind (arith, common_steps, the_lemmas))

clock_masked : (place : Place) → Masked (record { place = place; shape = shape.Clock })
clock_masked place = ground_masked (record { place = place; shape = shape.Clock }) (grind (arith, common_steps, the_lemmas)) (grind (arith, common_steps, the_lemmas))

reset_masked : (place : Place) → Masked (record { place = place; shape = shape.Reset })
reset_masked place = ground_masked (record { place = place; shape = shape.Reset }) (grind (arith, common_steps, the_lemmas)) (grind (arith, common_steps, the_lemmas))

async_masked : (place : Place) → Masked (record { place = place; shape = shape.AsyncReset })
async_masked place = ground_masked (record { place = place; shape = shape.AsyncReset }) (grind (arith, common_steps, the_lemmas)) (grind (arith, common_steps, the_lemmas))

shape_masked : (y : Shape-F ((s : Shape) × MaskedShape s) ((f : Field) × MaskedField f) ((t : FirType) × Masked t))
    → MaskedShape (roll-Shape (map-Shape _ _ _ Shape Field FirType (λ e. e.0) (λ e. e.0) (λ e. e.0) y))
shape_masked (Shape-F.Unsigned w) = subst MaskedShape (sym (rolls-Unsigned w)) (λ place. unsigned_masked place w)
shape_masked (Shape-F.Signed w) = subst MaskedShape (sym (rolls-Signed w)) (λ place. signed_masked place w)
shape_masked Shape-F.Clock = subst MaskedShape (sym rolls-Clock) clock_masked
shape_masked Shape-F.Reset = subst MaskedShape (sym rolls-Reset) reset_masked
shape_masked Shape-F.AsyncReset = subst MaskedShape (sym rolls-AsyncReset) async_masked
shape_masked (Shape-F.Bundle fields) = subst MaskedShape (sym (rolls-Bundle (map (λ e. e.0) fields))) (λ place. bundle_masked place fields)
shape_masked (Shape-F.Vector element n) = subst MaskedShape (sym (rolls-Vector element.0 n)) (λ place. vector_masked place element.0 n element.1)

field_masked : (f : Field) → Masked f.typ → MaskedField f
field_masked f m =
    let g : Field = record { flip = f.flip; name = f.name; typ = mask_of f.typ } in
    masks_by (ap field_leaves (mask-field f)) refl
    (record {
      same = same_field_ways g f refl refl m.same;
      bits = subst (AllByRecursion IsBit) (sym (leaves-field g)) (all_under IsBit (step.Field f.name.id ∷ []) f.flip (leaves (mask_of f.typ)) (λ l b. b) m.bits);
    })

pub masked : (t : FirType) → Masks (leaves (mask_of t)) (leaves t)
masked = ind-FirType MaskedShape MaskedField Masked
    (λ x y is. subst (λ z. MaskedShape (roll-Shape z)) is (shape_masked y))
    (λ x y is. subst (λ z. MaskedField (roll-Field z)) is (field_masked (record { flip = y.flip; name = y.name; typ = y.typ.0 }) y.typ.1))
    (λ x y is. subst (λ z. Masked (roll-FirType z)) is (y.shape.1 y.place))

-- passive types

abbrev IsStraight : TypeLeaf → Type 0
IsStraight l = l.flip ≡ false

abbrev Straight : FirType → Type 0
Straight t = has_flip t ≡ false → AllByRecursion IsStraight (leaves t)

abbrev StraightField : Field → Type 0
StraightField f = field_has_flip f ≡ false → AllByRecursion IsStraight (field_leaves f)

abbrev StraightShape : Shape → Type 0
StraightShape s = (place : Place) → Straight (record { place = place; shape = s })

left_false : (a b : Bool) → (a || b) ≡ false → a ≡ false
left_false true b e = e
left_false false b e = refl

right_false : (a b : Bool) → (a || b) ≡ false → b ≡ false
right_false true b e = absurd cc
right_false false b e = e

pub flip-vector : (t e : FirType) (n : ℕ) → t.shape ≡ shape.Vector e n → has_flip t ≡ has_flip e
flip-vector t e n h = grind (arith, common_steps, the_lemmas)

flip-field : (f : Field) → field_has_flip f ≡ (f.flip || has_flip f.typ)
flip-field f = grind (arith, common_steps, the_lemmas)

fields_straight : (ps : List ((f : Field) × StraightField f)) → list_any field_has_flip (map (λ e. e.0) ps) ≡ false
    → AllByRecursion IsStraight (flat_map field_leaves (map (λ e. e.0) ps))
fields_straight [] h = tt
fields_straight (p ∷ ps) h =
    all_append IsStraight (field_leaves p.0) (flat_map field_leaves (map (λ e. e.0) ps)) (p.1 (left_false (field_has_flip p.0) (list_any field_has_flip (map (λ e. e.0) ps)) h))
    (fields_straight ps (right_false (field_has_flip p.0) (list_any field_has_flip (map (λ e. e.0) ps)) h))

bundle_straight : (place : Place) (ps : List ((f : Field) × StraightField f)) → Straight (record { place = place; shape = shape.Bundle (map (λ e. e.0) ps) })
bundle_straight place ps h =
    let fs : List Field = map (λ e. e.0) ps in
    let t : FirType = record { place = place; shape = shape.Bundle (map (λ e. e.0) ps) } in
    subst (AllByRecursion IsStraight) (sym (leaves-bundle t fs refl)) (fields_straight ps (sym (flip-bundle t fs refl) ∙ h))

vector_straight : (place : Place) (e : FirType) (n : ℕ) → Straight e → Straight (record { place = place; shape = shape.Vector e n })
vector_straight place e n s h =
    let t : FirType = record { place = place; shape = shape.Vector e n } in
    subst (AllByRecursion IsStraight) (sym (leaves-vector t e n refl))
    (all_elements IsStraight (leaves e) n (λ path l b. b) (s (sym (flip-vector t e n refl) ∙ h)))

ground_straight : (t : FirType) → leaves t ≡ record { path = []; flip = false; typ = t } ∷ [] → Straight t
ground_straight t e h = subst (AllByRecursion IsStraight) (sym e) (refl, tt)

unsigned_straight : (place : Place) (w : Option ℕ) → Straight (record { place = place; shape = shape.Unsigned w })
unsigned_straight place w = ground_straight (record { place = place; shape = shape.Unsigned w }) (grind (arith, common_steps, the_lemmas))

signed_straight : (place : Place) (w : Option ℕ) → Straight (record { place = place; shape = shape.Signed w })
signed_straight place w = ground_straight (record { place = place; shape = shape.Signed w }) (grind (arith, common_steps, the_lemmas))

clock_straight : (place : Place) → Straight (record { place = place; shape = shape.Clock })
clock_straight place = ground_straight (record { place = place; shape = shape.Clock }) (grind (arith, common_steps, the_lemmas))

reset_straight : (place : Place) → Straight (record { place = place; shape = shape.Reset })
reset_straight place = ground_straight (record { place = place; shape = shape.Reset }) (grind (arith, common_steps, the_lemmas))

async_straight : (place : Place) → Straight (record { place = place; shape = shape.AsyncReset })
async_straight place = ground_straight (record { place = place; shape = shape.AsyncReset }) (grind (arith, common_steps, the_lemmas))

shape_straight : (y : Shape-F ((s : Shape) × StraightShape s) ((f : Field) × StraightField f) ((t : FirType) × Straight t))
    → StraightShape (roll-Shape (map-Shape _ _ _ Shape Field FirType (λ e. e.0) (λ e. e.0) (λ e. e.0) y))
shape_straight (Shape-F.Unsigned w) = subst StraightShape (sym (rolls-Unsigned w)) (λ place. unsigned_straight place w)
shape_straight (Shape-F.Signed w) = subst StraightShape (sym (rolls-Signed w)) (λ place. signed_straight place w)
shape_straight Shape-F.Clock = subst StraightShape (sym rolls-Clock) clock_straight
shape_straight Shape-F.Reset = subst StraightShape (sym rolls-Reset) reset_straight
shape_straight Shape-F.AsyncReset = subst StraightShape (sym rolls-AsyncReset) async_straight
shape_straight (Shape-F.Bundle fields) = subst StraightShape (sym (rolls-Bundle (map (λ e. e.0) fields))) (λ place. bundle_straight place fields)
shape_straight (Shape-F.Vector element n) = subst StraightShape (sym (rolls-Vector element.0 n)) (λ place. vector_straight place element.0 n element.1)

field_straight : (f : Field) → Straight f.typ → StraightField f
field_straight f s h =
    let both : (f.flip || has_flip f.typ) ≡ false = sym (flip-field f) ∙ h in
    subst (AllByRecursion IsStraight) (sym (leaves-field f))
    (all_under IsStraight (step.Field f.name.id ∷ []) f.flip (leaves f.typ)
    (λ l b. subst (λ x. (if x then not l.flip else l.flip) ≡ false) (sym (left_false f.flip (has_flip f.typ) both)) b)
    (s (right_false f.flip (has_flip f.typ) both)))

pub straight : (t : FirType) → has_flip t ≡ false → AllByRecursion IsStraight (leaves t)
straight = ind-FirType StraightShape StraightField Straight
    (λ x y is. subst (λ z. StraightShape (roll-Shape z)) is (shape_straight y))
    (λ x y is. subst (λ z. StraightField (roll-Field z)) is (field_straight (record { flip = y.flip; name = y.name; typ = y.typ.0 }) y.typ.1))
    (λ x y is. subst (λ z. Straight (roll-FirType z)) is (y.shape.1 y.place))
