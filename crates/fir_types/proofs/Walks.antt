-- A walk over the parts of a type that lists their leaves.
use Rattle.std.proofs.Common.{◌≡◌, ℕ, zero, suc, ◌+◌, ◌*◌, ◌<◌, ◌≤◌, Bool, true, false, not, if◌then◌else◌, List, [], ◌∷◌, ◌++◌, map, sum, length, take, get_or, refl, ap, ◌∙◌, subst, arith, append_assoc, add-one}
use Rattle.std.specs.Bool.{beq}
use Rattle.std.specs.List.{flat_map}
use Rattle.std.proofs.lemmas.Grind.{common_steps}
use Rattle.std.proofs.lemmas.List.{map-append}
use Rattle.fir_types.specs.declared.fir_type.FirType.{FirType}
use Rattle.fir_types.specs.declared.fir_type.Field.{Field}
use Rattle.fir_types.specs.declared.leaf.TypeLeaf.{TypeLeaf}
use Rattle.fir_types.specs.declared.leaf.PathStep.{PathStep}
use Rattle.fir_types.specs.declared.leaf.PathStep.TheVariants as step
use Rattle.fir_types.specs.Leaves.{leaves, count, field_count, field_leaves, elements, under}
use Rattle.fir_types.proofs.Counts.{counted}
use Rattle.fir_types.proofs.Layers.{leaves-field}

turned_twice : (flip f g : Bool) → (if flip then not (if f then not g else g) else (if f then not g else g)) ≡ (if (if flip then not f else f) then not g else g)
turned_twice true true true = refl
turned_twice true true false = refl
turned_twice true false g = refl
turned_twice false f g = refl

under-under : (path : List PathStep) (s : PathStep) (flip f : Bool) (l : TypeLeaf) → under path flip (under (s ∷ []) f l) ≡ under (path ++ s ∷ []) (if flip then not f else f) l
under-under path s flip f l =
    let p : path ++ (s ∷ l.path) ≡ (path ++ s ∷ []) ++ l.path = grind (arith, common_steps) in
    let t = turned_twice flip f l.flip in
    cc

pub leaves_within : (path : List PathStep) (s : PathStep) (flip f : Bool) (ls : List TypeLeaf)
    → map (under path flip) (map (under (s ∷ []) f) ls) ≡ map (under (path ++ s ∷ []) (if flip then not f else f)) ls
leaves_within path s flip f [] = refl
leaves_within path s flip f (l ∷ ls) =
    let a = under-under path s flip f l in
    let b = leaves_within path s flip f ls in
    cc

pub flip_stays : (flip : Bool) → (if flip then not false else false) ≡ flip
flip_stays true = refl
flip_stays false = refl

-- one element more

pub elements_more : (ls : List TypeLeaf) (i : ℕ) (path way walked : List PathStep) (flip : Bool) (before listed after : List TypeLeaf)
    → listed ≡ before ++ map (under path flip) (elements ls i) → walked ≡ path → way ≡ walked ++ step.Element i ∷ [] → after ≡ listed ++ map (under way flip) ls
    → after ≡ before ++ map (under path flip) (elements ls (i + 1))
elements_more ls i path way walked flip before listed after h w v a =
    let e = leaves_within path (step.Element i) flip false ls ∙ ap (λ b. map (under (path ++ step.Element i ∷ []) b) ls) (flip_stays flip) in
    let there : map (under path flip) (elements ls (i + 1)) ≡ map (under path flip) (elements ls i) ++ map (under (path ++ step.Element i ∷ []) flip) ls =
    rw add-one (map-append (under path flip) (elements ls i) (map (under (step.Element i ∷ []) false) ls) ∙ ap (λ x. map (under path flip) (elements ls i) ++ x) e) in
    let a2 = subst (λ x. after ≡ listed ++ map (under x flip) ls) (v ∙ ap (λ x. x ++ step.Element i ∷ []) w) a in
    let assoc = append_assoc before (map (under path flip) (elements ls i)) (map (under (path ++ step.Element i ∷ []) flip) ls) in
    cc

-- one field more

xor_is : (a b : Bool) → not (beq a b) ≡ (if a then not b else b)
xor_is true true = refl
xor_is true false = refl
xor_is false true = refl
xor_is false false = refl

pub fields_more : (fs : List Field) (i : ℕ) (f : Field) (path way walked : List PathStep) (flip : Bool) (before listed after : List TypeLeaf)
    → i < length fs → f ≡ get_or fs i f
    → listed ≡ before ++ map (under path flip) (flat_map field_leaves (take i fs)) → walked ≡ path → way ≡ walked ++ step.Field f.name.id ∷ []
    → after ≡ listed ++ map (under way (not (beq flip f.flip))) (leaves f.typ)
    → after ≡ before ++ map (under path flip) (flat_map field_leaves (take (i + 1) fs))
fields_more fs i f path way walked flip before listed after l q h w v a =
    let s = step.Field f.name.id ∷ [] in
    let e : map (under path flip) (field_leaves f) ≡ map (under (path ++ step.Field f.name.id ∷ []) (if flip then not f.flip else f.flip)) (leaves f.typ) =
    ap (map (under path flip)) (leaves-field f) ∙ leaves_within path (step.Field f.name.id) flip f.flip (leaves f.typ) in
    let split : flat_map field_leaves (take (i + 1) fs) ≡ flat_map field_leaves (take i fs) ++ field_leaves f = grind (arith, common_steps) in
    let there : map (under path flip) (flat_map field_leaves (take (i + 1) fs)) ≡ map (under path flip) (flat_map field_leaves (take i fs)) ++ map (under path flip) (field_leaves f) =
    ap (map (under path flip)) split ∙ map-append (under path flip) (flat_map field_leaves (take i fs)) (field_leaves f) in
    let a2 = subst (λ x. after ≡ listed ++ map (under x (not (beq flip f.flip))) (leaves f.typ)) (v ∙ ap (λ x. x ++ step.Field f.name.id ∷ []) w) a in
    let a3 = subst (λ b. after ≡ listed ++ map (under (path ++ step.Field f.name.id ∷ []) b) (leaves f.typ)) (xor_is flip f.flip) a2 in
    let assoc = append_assoc before (map (under path flip) (flat_map field_leaves (take i fs))) (map (under path flip) (field_leaves f)) in
    cc

-- a field has no more leaves than its bundle
pub field_within : (fs : List Field) (i : ℕ) (d : Field) → i < length fs → field_count (get_or fs i d) ≤ sum (map field_count fs)
field_within [] i d h = absurd (omega arith)
field_within (f ∷ fs) zero d h = grind (arith, common_steps)
field_within (f ∷ fs) (suc i) d h = let r = field_within fs i d (omega arith) in grind (arith, common_steps)

-- no leaves at all

pub no_leaves : (t : FirType) → count t ≡ 0 → leaves t ≡ []
no_leaves t h = let c = counted t in grind (arith, common_steps)

-- an element has no more leaves than a vector that has one
pub element_within : (n c m : ℕ) → 0 < n → n * c ≤ m → c ≤ m
element_within n c m h k = grind (arith, common_steps)

-- no way at all leads to the whole
pub from_the_whole : (ls : List TypeLeaf) → map (under [] false) ls ≡ ls
from_the_whole [] = refl
from_the_whole (l ∷ ls) = ap (λ xs. l ∷ xs) (from_the_whole ls)
