-- The parts of a tree that is known.
use Rattle.std.proofs.Common.{◌≡◌, ◌==◌, ℕ, zero, suc, ◌<◌, ◌-◌, ◌^◌, min, map, sum, ap₂, Bool, true, false, not, List, [], ◌∷◌, ◌+◌, if◌then◌else◌, find, length, take, get_or, refl, sym, ap, ◌∙◌, subst, arith, add-one}
use Rattle.std.specs.Prelude.{Option, Some, None, option_map, slice_get, IfSome}
use Rattle.std.specs.Coded.{Coded-set, coded_list, coded_option, coded_ℕ}
use Rattle.std.proofs.lemmas.Grind.{common_steps}
use Rattle.std.proofs.lemmas.Bool.{eq-eqb, eqb-true, false_from_ne_true}
use Rattle.std.proofs.Math.Nat.{ℕ_set}
use Rattle.std.proofs.Math.Bool.{Bool-set}
use Rattle.std.proofs.Math.Logic.{∥∥₁_map, ∥∥₁_elim}
use Rattle.fir_types.specs.declared.fir_type.FirType.{FirType}
use Rattle.fir_types.specs.declared.fir_type.Shape.TheOpen.{Shape-F}
use Rattle.fir_types.specs.declared.fir_type.Shape.TheVariants as shape
use Rattle.fir_types.specs.declared.fir_type.Shape.TheVariants.{outs-Bundle, outs-Vector}
use Rattle.fir_types.specs.declared.fir_type.Shape.TheViews.{out-Shape}
use Rattle.fir_types.specs.declared.fir_type.FirType.{the_lemmas as type_lemmas}
use Rattle.fir_types.specs.declared.fir_type.Field.{Field}
use Rattle.fir_types.specs.Leaves.{count, has_clock, has_signal}
use Rattle.fir_types.specs.Passivity.{has_flip}
use Rattle.fir_tree.specs.LeafNames.{Texts}
use Rattle.fir_tree.specs.Caps.{cap}
use Rattle.fir_tree.specs.Texts.{way_bytes}
use Rattle.fir_types.specs.declared.index.FieldIndex.{FieldIndex}
use Rattle.fir_types.specs.declared.index.FieldPlace.{FieldPlace}
use Rattle.fir_types.specs.contracts.index.FieldPlace.{the_row as place_row}
use Rattle.fir_types.specs.Spots.{size}
use Rattle.fir_types.specs.Indexes.{first_at, place_in, IsIndexOf}
use Rattle.fir_types.proofs.Places.{at_place, field_found, sum_more}
use Rattle.type_index.specs.declared.tree.TypeIndex.{TypeIndex, the_lemmas}
use Rattle.type_index.specs.declared.tree.Inside.TheVariants as inside
use Rattle.type_index.specs.declared.tree.Inside.TheViews.{out-Inside}
use Rattle.type_index.specs.Knowing.{Matches, FieldsMatch, ground, vector, bundle, no_fields, one_field, is_ground, fields_in, Knows, HasWays, IsAmong, IsPlaceIn, weight, places_of, position_of}

pub vector_out : (t e : FirType) (n : ℕ) → t.shape ≡ shape.Vector e n → out-Shape t.shape ≡ Shape-F.Vector e n
vector_out t e n h = ap out-Shape h ∙ outs-Vector e n

pub bundle_out : (t : FirType) (fs : List Field) → t.shape ≡ shape.Bundle fs → out-Shape t.shape ≡ Shape-F.Bundle fs
bundle_out t fs h = ap out-Shape h ∙ outs-Bundle fs

pub same_element : (e o : FirType) (n m : ℕ) → shape.Vector e n ≡ shape.Vector o m → e ≡ o
same_element e o n m h =
    let out : out-Shape (shape.Vector e n) ≡ out-Shape (shape.Vector o m) = ap out-Shape h in
    grind (arith, common_steps, type_lemmas)

pub same_fields : (fs gs : List Field) → shape.Bundle fs ≡ shape.Bundle gs → fs ≡ gs
same_fields fs gs h =
    let out : out-Shape (shape.Bundle fs) ≡ out-Shape (shape.Bundle gs) = ap out-Shape h in
    grind (arith, common_steps, type_lemmas)

same_inner : (a b : TypeIndex) → inside.Vector a ≡ inside.Vector b → a ≡ b
same_inner a b h =
    let out : out-Inside (inside.Vector a) ≡ out-Inside (inside.Vector b) = ap out-Inside h in
    grind (arith, common_steps, the_lemmas)

same_parts : (a b : Option FieldIndex) (xs ys : List TypeIndex) → inside.Bundle a xs ≡ inside.Bundle b ys → xs ≡ ys
same_parts a b xs ys h =
    let out : out-Inside (inside.Bundle a xs) ≡ out-Inside (inside.Bundle b ys) = ap out-Inside h in
    grind (arith, common_steps, the_lemmas)

never : false ≡ true → ⊥
never e = absurd cc

-- what is right of the whole
pub self : {P : FirType → TypeIndex → Type 0} {typ : FirType} {index : TypeIndex} → Matches P typ index → P typ index
self (ground g p) = p
self (vector e n i s q p m) = p
self (bundle fs a xs s q p m) = p

-- the element of a vector
pub of_vector : {P : FirType → TypeIndex → Type 0} {typ : FirType} {index : TypeIndex} (e : FirType) (n : ℕ) → Matches P typ index → typ.shape ≡ shape.Vector e n
    → (inner : TypeIndex) × (index.inside ≡ inside.Vector inner) × Matches P e inner
of_vector {P} {typ} {index} e n (ground g p) h = absurd (never (sym (ap is_ground (vector_out typ e n h)) ∙ g))
of_vector {P} {typ} {index} e n (vector o m inner s q p r) h = (inner, q, subst (λ x. Matches P x inner) (same_element o e m n (sym s ∙ h)) r)
of_vector e n (bundle fs a xs s q p r) h = absurd cc

pub element_of : {P : FirType → TypeIndex → Type 0} (typ e : FirType) (n : ℕ) (index inner : TypeIndex) → Matches P typ index → typ.shape ≡ shape.Vector e n
    → index.inside ≡ inside.Vector inner → Matches P e inner
element_of {P} typ e n index inner m h q =
    let r = of_vector e n m h in
    subst (Matches P e) (same_inner r.0 inner (sym r.1 ∙ q)) r.2

-- the fields of a bundle
pub of_bundle : {P : FirType → TypeIndex → Type 0} {typ : FirType} {index : TypeIndex} (fs : List Field) → Matches P typ index → typ.shape ≡ shape.Bundle fs
    → (among : Option FieldIndex) × (inners : List TypeIndex) × (index.inside ≡ inside.Bundle among inners) × FieldsMatch P fs inners
of_bundle {P} {typ} {index} fs (ground g p) h = absurd (never (sym (ap is_ground (bundle_out typ fs h)) ∙ g))
of_bundle fs (vector o m inner s q p r) h = absurd cc
of_bundle {P} {typ} {index} fs (bundle gs a xs s q p r) h = (a, xs, q, subst (λ x. FieldsMatch P x xs) (same_fields gs fs (sym s ∙ h)) r)

pub parts_of : {P : FirType → TypeIndex → Type 0} (typ : FirType) (fs : List Field) (index : TypeIndex) (among : Option FieldIndex) (inners : List TypeIndex)
    → Matches P typ index → typ.shape ≡ shape.Bundle fs → index.inside ≡ inside.Bundle among inners → FieldsMatch P fs inners
parts_of {P} typ fs index among inners m h q =
    let r = of_bundle fs m h in
    subst (FieldsMatch P fs) (same_parts r.0 among r.1 inners (sym r.2 ∙ q)) r.3

pub part_at : {P : FirType → TypeIndex → Type 0} {fs : List Field} {xs : List TypeIndex} (i : ℕ) (f : Field) → FieldsMatch P fs xs → slice_get fs i ≡ Some f
    → (x : TypeIndex) × (slice_get xs i ≡ Some x) × Matches P f.typ x
part_at i f no_fields e = absurd cc
part_at {P} zero f (one_field {field = g} {inner = x} m r) e = (x, refl, subst (λ y. Matches P y.typ x) (some_same g f e) m)
  where
    some_same : (a b : Field) → Some a ≡ Some b → a ≡ b
    some_same a b h = cc
part_at (suc i) f (one_field m r) e = part_at i f r e

pub part_is : {P : FirType → TypeIndex → Type 0} (fs : List Field) (xs : List TypeIndex) (i : ℕ) (f : Field) (x : TypeIndex) → FieldsMatch P fs xs → slice_get fs i ≡ Some f
    → slice_get xs i ≡ Some x → Matches P f.typ x
part_is {P} fs xs i f x m h q =
    let r = part_at i f m h in
    subst (Matches P f.typ) (some_same r.0 x (sym r.1 ∙ q)) r.2
  where
    some_same : (a b : TypeIndex) → Some a ≡ Some b → a ≡ b
    some_same a b h = cc

pub part_missing : {P : FirType → TypeIndex → Type 0} (fs : List Field) (xs : List TypeIndex) (i : ℕ) (f : Field) → FieldsMatch P fs xs → slice_get fs i ≡ Some f
    → slice_get xs i ≡ None → ⊥
part_missing fs xs i f m h q = let r = part_at i f m h in none (sym r.1 ∙ q)
  where
    none : {x : TypeIndex} → Some x ≡ None → ⊥
    none e = absurd cc

-- the first field of a name, by its position
pub found_some : (fields : List Field) (id i : ℕ) → Some i ≡ first_at fields id → slice_get fields i ≡ find (λ field. field.name.id == id) fields
found_some fields id i e = ap (λ o. at_place fields (option_map (place_in []) o)) e ∙ field_found fields [] id (option_map (place_in []) (first_at fields id)) refl

pub found_none : (fields : List Field) (id : ℕ) → None ≡ first_at fields id → None ≡ find (λ field. field.name.id == id) fields
found_none fields id e = ap (λ o. at_place fields (option_map (place_in []) o)) e ∙ field_found fields [] id (option_map (place_in []) (first_at fields id)) refl

-- the first field of a name among those before a position, and at it

none_head : (b : Bool) (o : Option ℕ) → (if b then Some 0 else option_map suc o) ≡ None → (b ≡ false) × (o ≡ None)
none_head true o e = absurd cc
none_head false None e = (refl, refl)
none_head false (Some x) e = absurd cc

none_made : (b : Bool) (o : Option ℕ) → b ≡ false → o ≡ None → (if b then Some 0 else option_map suc o) ≡ None
none_made true o h n = absurd cc
none_made false None h n = refl
none_made false (Some x) h n = absurd cc

made_here : (b : Bool) (o : Option ℕ) → b ≡ true → (if b then Some 0 else option_map suc o) ≡ Some 0
made_here true o h = refl
made_here false o h = absurd cc

made_behind : (b : Bool) (o : Option ℕ) (i : ℕ) → b ≡ false → o ≡ Some i → (if b then Some 0 else option_map suc o) ≡ Some (suc i)
made_behind true o i h e = absurd cc
made_behind false o i h e = ap (option_map suc) e

none_suc : (fs : List Field) (i : ℕ) (d : Field) (id : ℕ) → i < length fs → first_at (take i fs) id ≡ None → ((get_or fs i d).name.id == id) ≡ false
    → first_at (take (suc i) fs) id ≡ None
none_suc [] i d id l n h = absurd (omega arith)
none_suc (f ∷ fs) zero d id l n h = none_made (f.name.id == id) None h refl
none_suc (f ∷ fs) (suc i) d id l n h =
    let p = none_head (f.name.id == id) (first_at (take i fs) id) n in
    none_made (f.name.id == id) (first_at (take (suc i) fs) id) p.0 (none_suc fs i d id (omega arith) p.1 h)

pub none_more : (fs : List Field) (i : ℕ) (d : Field) (id : ℕ) → i < length fs → first_at (take i fs) id ≡ None → ((get_or fs i d).name.id ≡ id → ⊥)
    → first_at (take (i + 1) fs) id ≡ None
none_more fs i d id l n h =
    ap (λ k. first_at (take k fs) id) (add-one i)
    ∙ none_suc fs i d id l n (false_from_ne_true ((get_or fs i d).name.id == id) (λ e. h (eqb-true (get_or fs i d).name.id id e)))

pub first_here : (fs : List Field) (i : ℕ) (d : Field) (id : ℕ) → i < length fs → first_at (take i fs) id ≡ None → (get_or fs i d).name.id ≡ id
    → Some i ≡ first_at fs id
first_here fs i d id l n h = sym (here fs i d id l n (eq-eqb (get_or fs i d).name.id id h))
  where
    here : (fs : List Field) (i : ℕ) (d : Field) (id : ℕ) → i < length fs → first_at (take i fs) id ≡ None → ((get_or fs i d).name.id == id) ≡ true
        → first_at fs id ≡ Some i
    here [] i d id l n h = absurd (omega arith)
    here (f ∷ fs) zero d id l n h = made_here (f.name.id == id) (first_at fs id) h
    here (f ∷ fs) (suc i) d id l n h =
        let p = none_head (f.name.id == id) (first_at (take i fs) id) n in
        made_behind (f.name.id == id) (first_at fs id) i p.0 (here fs i d id (omega arith) p.1 h)

-- the same of what is known

pub knows_element : (typ e : FirType) (n : ℕ) (index inner : TypeIndex) → Knows typ index → typ.shape ≡ shape.Vector e n → index.inside ≡ inside.Vector inner → Knows e inner
knows_element typ e n index inner k h q = ∥∥₁_map k (λ m. element_of typ e n index inner m h q)

pub no_vector : (typ e : FirType) (n : ℕ) (index : TypeIndex) → Knows typ index → typ.shape ≡ shape.Vector e n → ((inner : TypeIndex) → index.inside ≡ inside.Vector inner → ⊥) → ⊥
no_vector typ e n index k h none = ∥∥₁_elim k (λ x y. absurd x) (λ m. let r = of_vector e n m h in none r.0 r.1)

pub no_bundle : (typ : FirType) (fs : List Field) (index : TypeIndex) → Knows typ index → typ.shape ≡ shape.Bundle fs
    → ((among : Option FieldIndex) (inners : List TypeIndex) → index.inside ≡ inside.Bundle among inners → ⊥) → ⊥
no_bundle typ fs index k h none = ∥∥₁_elim k (λ x y. absurd x) (λ m. let r = of_bundle fs m h in none r.0 r.1 r.2)

pub knows_among : (typ : FirType) (fs : List Field) (index : TypeIndex) (among : Option FieldIndex) (inners : List TypeIndex) → Knows typ index → typ.shape ≡ shape.Bundle fs
    → index.inside ≡ inside.Bundle among inners → ∥ IsAmong among fs ∥₁
knows_among typ fs index among inners k h q = ∥∥₁_map k (λ m. (self m).among fs among inners h q)

pub knows_field : (typ : FirType) (fs : List Field) (index : TypeIndex) (among : Option FieldIndex) (inners : List TypeIndex) (i : ℕ) (f : Field) (x : TypeIndex) → Knows typ index
    → typ.shape ≡ shape.Bundle fs → index.inside ≡ inside.Bundle among inners → slice_get fs i ≡ Some f → slice_get inners i ≡ Some x → Knows f.typ x
knows_field typ fs index among inners i f x k h q a b = ∥∥₁_map k (λ m. part_is fs inners i f x (parts_of typ fs index among inners m h q) a b)

pub no_part : (typ : FirType) (fs : List Field) (index : TypeIndex) (among : Option FieldIndex) (inners : List TypeIndex) (i : ℕ) (f : Field) → Knows typ index
    → typ.shape ≡ shape.Bundle fs → index.inside ≡ inside.Bundle among inners → slice_get fs i ≡ Some f → slice_get inners i ≡ None → ⊥
no_part typ fs index among inners i f k h q a b = ∥∥₁_elim k (λ x y. absurd x) (λ m. part_missing fs inners i f (parts_of typ fs index among inners m h q) a b)

-- the place of a field, by an index

place_is : (among : Option FieldIndex) (index : FieldIndex) (fs : List Field) (id : ℕ) (place : Option FieldPlace) → ∥ IsAmong among fs ∥₁ → among ≡ Some index
    → ((fields : List Field) (weights : List ℕ) → IsIndexOf index fields weights → place ≡ option_map (place_in weights) (first_at fields id))
    → place ≡ option_map (place_in (map weight fs)) (first_at fs id)
place_is among index fs id place k is e =
    ∥∥₁_elim k (Coded-set (coded_option place_row.coded) place (option_map (place_in (map weight fs)) (first_at fs id)))
    (λ a. e fs (map weight fs) (subst (λ o. IsAmong o fs) is a))

pub place_found : (among : Option FieldIndex) (index : FieldIndex) (fs : List Field) (id : ℕ) (place : Option FieldPlace) → ∥ IsAmong among fs ∥₁ → among ≡ Some index
    → ((fields : List Field) (weights : List ℕ) → IsIndexOf index fields weights → place ≡ option_map (place_in weights) (first_at fields id))
    → option_map position_of place ≡ first_at fs id
place_found among index fs id place k is e = ap (option_map position_of) (place_is among index fs id place k is e) ∙ back (first_at fs id)
  where
    back : (o : Option ℕ) → option_map position_of (option_map (place_in (map weight fs)) o) ≡ o
    back (Some i) = refl
    back None = refl

pub place_placed : (among : Option FieldIndex) (index : FieldIndex) (fs : List Field) (id : ℕ) (place : Option FieldPlace) → ∥ IsAmong among fs ∥₁ → among ≡ Some index
    → ((fields : List Field) (weights : List ℕ) → IsIndexOf index fields weights → place ≡ option_map (place_in weights) (first_at fields id))
    → IfSome place (IsPlaceIn fs id)
place_placed among index fs id place k is e = by (first_at fs id) refl (place_is among index fs id place k is e)
  where
    by : (o : Option ℕ) → first_at fs id ≡ o → place ≡ option_map (place_in (map weight fs)) o → IfSome place (IsPlaceIn fs id)
    by (Some i) f h = subst (λ r. IfSome r (IsPlaceIn fs id)) (sym h) (record { position = f; before = refl })
    by None f h = subst (λ r. IfSome r (IsPlaceIn fs id)) (sym h) tt

-- the places of the fields before one

pub weighed : {P : FirType → TypeIndex → Type 0} → ((t : FirType) (x : TypeIndex) → P t x → x.places ≡ min (size t) (2 ^ 64 - 1)) → (fs : List Field) (xs : List TypeIndex)
    → FieldsMatch P fs xs → map places_of xs ≡ map weight fs
weighed k [] [] no_fields = refl
weighed k [] (x ∷ xs) r = elim r [ ]
weighed k (f ∷ fs) [] r = elim r [ ]
weighed k (f ∷ fs) (x ∷ xs) (one_field m r) = ap₂ (λ y ys. y ∷ ys) (k f.typ x (self m)) (weighed k fs xs r)

pub before_more : (fs : List Field) (xs : List TypeIndex) (i before own after : ℕ) → map places_of xs ≡ map weight fs → before ≡ min (sum (take i (map weight fs))) (2 ^ 64 - 1)
    → own ≡ get_or (map places_of xs) i 0 → after ≡ min (before + own) (2 ^ 64 - 1) → after ≡ min (sum (take (i + 1) (map weight fs))) (2 ^ 64 - 1)
before_more fs xs i before own after same b o a =
    let next : sum (take (i + 1) (map weight fs)) ≡ sum (take i (map weight fs)) + own
    = sum_more (map weight fs) i ∙ ap (λ n. sum (take i (map weight fs)) + n) (sym (o ∙ ap (λ ws. get_or ws i 0) same)) in
    omega (arith, b, a, next)

pub placed_first : (fs : List Field) (id i before : ℕ) → Some i ≡ first_at fs id → before ≡ min (sum (take i (map weight fs))) (2 ^ 64 - 1)
    → IsPlaceIn fs id (record { position = i; before = before })
placed_first fs id i before f b = record { position = sym f; before = ap (λ n. min n (2 ^ 64 - 1)) b ∙ twice (sum (take i (map weight fs))) }
  where
    twice : (n : ℕ) → min (min n (2 ^ 64 - 1)) (2 ^ 64 - 1) ≡ min n (2 ^ 64 - 1)
    twice n = omega arith

pub knows_weights : (typ : FirType) (fs : List Field) (index : TypeIndex) (among : Option FieldIndex) (inners : List TypeIndex) → Knows typ index → typ.shape ≡ shape.Bundle fs
    → index.inside ≡ inside.Bundle among inners → map places_of inners ≡ map weight fs
knows_weights typ fs index among inners k h q =
    ∥∥₁_elim k (Coded-set (coded_list coded_ℕ) (map places_of inners) (map weight fs))
    (λ m. weighed (λ t x p. p.places) fs inners (parts_of typ fs index among inners m h q))

pub nothing_found : (typ : FirType) (fs : List Field) (id : ℕ) (at : Option ℕ) → typ.shape ≡ shape.Bundle fs → at ≡ None → at ≡ first_at fs id
    → None ≡ find (λ field. field.name.id == id) (fields_in (out-Shape typ.shape))
nothing_found typ fs id at h n e = found_none fs id (sym n ∙ e) ∙ ap (λ s. find (λ field. field.name.id == id) (fields_in s)) (sym (bundle_out typ fs h))

pub field_found_at : (typ : FirType) (fs : List Field) (id i : ℕ) (at : Option ℕ) (found : Option Field) → typ.shape ≡ shape.Bundle fs → at ≡ Some i → at ≡ first_at fs id
    → found ≡ slice_get fs i → found ≡ find (λ field. field.name.id == id) (fields_in (out-Shape typ.shape))
field_found_at typ fs id i at found h s e f =
    f ∙ found_some fs id i (sym s ∙ e) ∙ ap (λ s. find (λ field. field.name.id == id) (fields_in s)) (sym (bundle_out typ fs h))

-- what is known of the whole

pub counted_known : (typ : FirType) (index : TypeIndex) → Knows typ index → index.leaves ≡ cap (count typ)
counted_known typ index k = ∥∥₁_elim k (ℕ_set index.leaves (cap (count typ))) (λ m. (self m).leaves)

pub flipless_known : (typ : FirType) (index : TypeIndex) → Knows typ index → index.passive ≡ not (has_flip typ)
flipless_known typ index k = ∥∥₁_elim k (Bool-set index.passive (not (has_flip typ))) (λ m. (self m).passive)

pub clocked_known : (typ : FirType) (index : TypeIndex) → Knows typ index → index.clocked ≡ has_clock typ
clocked_known typ index k = ∥∥₁_elim k (Bool-set index.clocked (has_clock typ)) (λ m. (self m).clocked)

pub signals_known : (typ : FirType) (index : TypeIndex) → Knows typ index → index.signals ≡ has_signal typ
signals_known typ index k = ∥∥₁_elim k (Bool-set index.signals (has_signal typ)) (λ m. (self m).signals)

pub placed_known : (typ : FirType) (index : TypeIndex) → Knows typ index → index.places ≡ min (size typ) (2 ^ 64 - 1)
placed_known typ index k = ∥∥₁_elim k (ℕ_set index.places (min (size typ) (2 ^ 64 - 1))) (λ m. (self m).places)

pub bytes_had : (texts : Texts) (typ : FirType) (index : TypeIndex) → HasWays texts typ index → index.bytes ≡ cap (way_bytes texts typ)
bytes_had texts typ index m = self m
