-- What the definitions say of bundles and vectors.
use Rattle.std.proofs.Common.{◌≡◌, ℕ, zero, suc, ◌*◌, ◌<◌, Bool, true, false, ◌||◌, List, [], ◌∷◌, map, sum, refl, ap, ◌∙◌, arith}
use Rattle.std.specs.List.{flat_map, list_any}
use Rattle.std.proofs.lemmas.Grind.{common_steps}
use Rattle.std.proofs.lemmas.List.Folds.{list_any-append, flat_map-map}
use Rattle.fir_types.specs.declared.fir_type.FirType.{FirType, the_lemmas}
use Rattle.fir_types.specs.declared.fir_type.Shape.TheVariants as shape
use Rattle.fir_types.specs.declared.fir_type.Field.{Field}
use Rattle.fir_types.specs.declared.leaf.TypeLeaf.{TypeLeaf}
use Rattle.fir_types.specs.declared.leaf.PathStep.{PathStep}
use Rattle.fir_types.specs.declared.leaf.PathStep.TheVariants as step
use Rattle.fir_types.specs.Leaves.{leaves, count, field_count, field_leaves, elements, under}
use Rattle.fir_types.specs.Passivity.{has_flip, field_has_flip}

list_any-map : {A : Type 0} (f : A → Bool) (xs : List A) → list_any (λ b. b) (map f xs) ≡ list_any f xs
list_any-map f [] = refl
list_any-map f (x ∷ xs) = ap (λ b. f x || b) (list_any-map f xs)

pub leaves-bundle : (t : FirType) (fs : List Field) → t.shape ≡ shape.Bundle fs → leaves t ≡ flat_map field_leaves fs
leaves-bundle t fs e = grind (arith, common_steps, the_lemmas, flat_map-map)

pub leaves-vector : (t e : FirType) (n : ℕ) → t.shape ≡ shape.Vector e n → leaves t ≡ elements (leaves e) n
leaves-vector t e n h = grind (arith, common_steps, the_lemmas)

pub leaves-field : (f : Field) → field_leaves f ≡ map (under (step.Field f.name.id ∷ []) f.flip) (leaves f.typ)
leaves-field f = grind (arith, common_steps, the_lemmas)

pub count-bundle : (t : FirType) (fs : List Field) → t.shape ≡ shape.Bundle fs → count t ≡ sum (map field_count fs)
count-bundle t fs e = grind (arith, common_steps, the_lemmas)

pub count-vector : (t e : FirType) (n : ℕ) → t.shape ≡ shape.Vector e n → count t ≡ n * count e
count-vector t e n h = grind (arith, common_steps, the_lemmas)

pub count-field : (f : Field) → field_count f ≡ count f.typ
count-field f = grind (arith, common_steps, the_lemmas)

pub flip-bundle : (t : FirType) (fs : List Field) → t.shape ≡ shape.Bundle fs → has_flip t ≡ list_any field_has_flip fs
flip-bundle t fs e = grind (arith, common_steps, the_lemmas, list_any-map)

-- some leaf is of a kind, in lists that are put together

pub some-fields : (q : FirType → Bool) (fs : List Field)
    → list_any (λ l. q l.typ) (flat_map field_leaves fs) ≡ list_any (λ f. list_any (λ l. q l.typ) (field_leaves f)) fs
some-fields q [] = refl
some-fields q (f ∷ fs) =
    list_any-append (λ l. q l.typ) (field_leaves f) (flat_map field_leaves fs) ∙ ap (λ b. list_any (λ l. q l.typ) (field_leaves f) || b) (some-fields q fs)

some-under : (q : FirType → Bool) (path : List PathStep) (flip : Bool) (ls : List TypeLeaf)
    → list_any (λ l. q l.typ) (map (under path flip) ls) ≡ list_any (λ l. q l.typ) ls
some-under q path flip [] = refl
some-under q path flip (l ∷ ls) = ap (λ b. q l.typ || b) (some-under q path flip ls)

pub some-field : (q : FirType → Bool) (f : Field) → list_any (λ l. q l.typ) (field_leaves f) ≡ list_any (λ l. q l.typ) (leaves f.typ)
some-field q f = ap (list_any (λ l. q l.typ)) (leaves-field f) ∙ some-under q (step.Field f.name.id ∷ []) f.flip (leaves f.typ)

same_or : (b : Bool) → (b || b) ≡ b
same_or true = refl
same_or false = refl

-- an element has one, or none has
pub some-elements : (q : FirType → Bool) (ls : List TypeLeaf) (n : ℕ) → 0 < n → list_any (λ l. q l.typ) (elements ls n) ≡ list_any (λ l. q l.typ) ls
some-elements q ls zero h = grind (arith, common_steps)
some-elements q ls (suc zero) h = some-under q (step.Element 0 ∷ []) false ls
some-elements q ls (suc (suc n)) h =
    list_any-append (λ l. q l.typ) (elements ls (suc n)) (map (under (step.Element (suc n) ∷ []) false) ls)
    ∙ ap (λ b. b || list_any (λ l. q l.typ) (map (under (step.Element (suc n) ∷ []) false) ls)) (some-elements q ls (suc n) (grind (arith, common_steps)))
    ∙ ap (λ b. list_any (λ l. q l.typ) ls || b) (some-under q (step.Element (suc n) ∷ []) false ls) ∙ same_or (list_any (λ l. q l.typ) ls)
