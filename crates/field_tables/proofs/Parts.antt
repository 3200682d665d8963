-- What a table says of the type that it is the table of.
use Rattle.std.proofs.Common.{◌≡◌, ◌==◌, ℕ, suc, map, sum, Bool, true, false, List, [], ◌∷◌, ◌+◌, if◌then◌else◌, find, take, refl, sym, ap, ◌∙◌, subst, arith}
use Rattle.std.specs.Prelude.{Option, Some, None, option_map, slice_get, unwrap_or}
use Rattle.std.specs.Coded.{Coded-set, coded_option}
use Rattle.std.proofs.lemmas.Grind.{common_steps}
use Rattle.std.proofs.Math.Nat.{ℕ_set}
use Rattle.std.proofs.Math.Logic.{∥∥₁_map, ∥∥₁_elim}
use Rattle.fir_types.specs.declared.fir_type.FirType.{FirType}
use Rattle.fir_types.specs.declared.fir_type.FirType.{the_lemmas as type_lemmas}
use Rattle.fir_types.specs.declared.fir_type.Shape.TheVariants as shape
use Rattle.fir_types.specs.declared.fir_type.Shape.TheVariants.{outs-Bundle, outs-Vector}
use Rattle.fir_types.specs.declared.fir_type.Shape.TheViews.{out-Shape}
use Rattle.fir_types.specs.declared.fir_type.Field.{Field}
use Rattle.fir_types.specs.declared.index.FieldPlace.{FieldPlace}
use Rattle.fir_types.specs.contracts.index.FieldPlace.{the_row as place_row}
use Rattle.fir_types.specs.Indexes.{first_at, place_in, IsIndexOf}
use Rattle.fir_types.specs.Leaves.{count, field_count}
use Rattle.fir_types.proofs.Layers.{count-bundle}
use Rattle.fir_types.proofs.Places.{at_place, field_found}
use Rattle.field_tables.specs.declared.table.FieldTable.{FieldTable}
use Rattle.field_tables.specs.declared.table.Inner.TheVariants as known
use Rattle.field_tables.specs.Before.{leaves_before}
use Rattle.field_tables.specs.Fits.{Fits, vector, bundle, Counts, fields_in, element_in}

some_same : {X : Type 0} {x y : X} → Some x ≡ Some y → x ≡ y
some_same {X} {x} e = ap (λ o. unwrap_or o x) e

same_element : (e o : FirType) (n m : ℕ) → shape.Vector e n ≡ shape.Vector o m → e ≡ o
same_element e o n m h =
    let out : out-Shape (shape.Vector e n) ≡ out-Shape (shape.Vector o m) = ap out-Shape h in
    grind (arith, common_steps, type_lemmas)

same_fields : (fs gs : List Field) → shape.Bundle fs ≡ shape.Bundle gs → fs ≡ gs
same_fields fs gs h =
    let out : out-Shape (shape.Bundle fs) ≡ out-Shape (shape.Bundle gs) = ap out-Shape h in
    grind (arith, common_steps, type_lemmas)

pub fields_of : (typ : FirType) (fs : List Field) → typ.shape ≡ shape.Bundle fs → fields_in (out-Shape typ.shape) ≡ fs
fields_of typ fs is = ap (λ s. fields_in (out-Shape s)) is ∙ ap fields_in (outs-Bundle fs)

pub element_is : (typ element : FirType) (n : ℕ) → typ.shape ≡ shape.Vector element n → element_in (out-Shape typ.shape) ≡ Some element
element_is typ element n is = ap (λ s. element_in (out-Shape s)) is ∙ ap element_in (outs-Vector element n)

-- vectors

pub of_vector : {typ : FirType} {table : FieldTable} (element : FirType) (n : ℕ) → typ.shape ≡ shape.Vector element n → Fits typ table → Fits element table
of_vector {typ} {table} element n is (vector o m at fits) = subst (λ t. Fits t table) (same_element o element m n (sym at ∙ is)) fits
of_vector element n is (bundle fs at counts inner) = absurd cc

pub known_element : (typ : FirType) (table : FieldTable) (element : FirType) (n : ℕ) → typ.shape ≡ shape.Vector element n → ∥ Fits typ table ∥₁ → ∥ Fits element table ∥₁
known_element typ table element n is k = ∥∥₁_map k (of_vector element n is)

-- what is no vector is a bundle
leaves_are : {typ : FirType} {table : FieldTable} → ((element : FirType) (n : ℕ) → typ.shape ≡ shape.Vector element n → ⊥) → Fits typ table → count typ ≡ table.leaves
leaves_are none (vector element n is fits) = absurd (none element n is)
leaves_are {typ} none (bundle fs is counts inner) = count-bundle typ fs is ∙ sym counts.leaves

pub known_leaves : (typ : FirType) (table : FieldTable) → ((element : FirType) (n : ℕ) → typ.shape ≡ shape.Vector element n → ⊥) → ∥ Fits typ table ∥₁ → count typ ≡ table.leaves
known_leaves typ table none k = ∥∥₁_elim k (ℕ_set (count typ) table.leaves) (leaves_are none)

-- bundles

pub counts_of : {typ : FirType} {table : FieldTable} (fs : List Field) → typ.shape ≡ shape.Bundle fs → Fits typ table → Counts table fs
counts_of fs is (vector element n at fits) = absurd cc
counts_of {typ} {table} fs is (bundle gs at counts inner) = subst (Counts table) (same_fields gs fs (sym at ∙ is)) counts

inner_of : {typ : FirType} {table : FieldTable} (fs : List Field) → typ.shape ≡ shape.Bundle fs → Fits typ table → (i : ℕ) (f : Field) (t : FieldTable)
    → slice_get fs i ≡ Some f → slice_get table.inner i ≡ Some (known.Table t) → Fits f.typ t
inner_of fs is (vector element n at fits) i f t at_field at_table = absurd cc
inner_of fs is (bundle gs at counts inner) i f t at_field at_table = inner i f t (ap (λ l. slice_get l i) (same_fields gs fs (sym at ∙ is)) ∙ at_field) at_table

pub known_inner : (typ : FirType) (table : FieldTable) (fs : List Field) → typ.shape ≡ shape.Bundle fs → ∥ Fits typ table ∥₁ → (i : ℕ) (f : Field) (t : FieldTable)
    → slice_get fs i ≡ Some f → slice_get table.inner i ≡ Some (known.Table t) → ∥ Fits f.typ t ∥₁
known_inner typ table fs is k i f t at_field at_table = ∥∥₁_map k (λ fits. inner_of fs is fits i f t at_field at_table)

-- the place of a field

abbrev pub Finds : FieldTable → ℕ → Option FieldPlace → Type 0
Finds table id place = (fields : List Field) (weights : List ℕ) → IsIndexOf table.index fields weights → place ≡ option_map (place_in weights) (first_at fields id)

place_is : (typ : FirType) (table : FieldTable) (fs : List Field) (id : ℕ) (place : Option FieldPlace) → typ.shape ≡ shape.Bundle fs → ∥ Fits typ table ∥₁ → Finds table id place
    → place ≡ option_map (place_in (map field_count fs)) (first_at fs id)
place_is typ table fs id place is k finds =
    ∥∥₁_elim k (Coded-set (coded_option place_row.coded) place (option_map (place_in (map field_count fs)) (first_at fs id)))
    (λ fits. finds fs (map field_count fs) (counts_of fs is fits).index)

abbrev typ_of : Field → FirType
typ_of f = f.typ

-- what stands at the place is what is found
pub found_is : (typ : FirType) (table : FieldTable) (fs : List Field) (id : ℕ) (place : Option FieldPlace) → typ.shape ≡ shape.Bundle fs → ∥ Fits typ table ∥₁ → Finds table id place
    → at_place fs place ≡ find (λ f. f.name.id == id) (fields_in (out-Shape typ.shape))
found_is typ table fs id place is k finds =
    field_found fs (map field_count fs) id place (place_is typ table fs id place is k finds) ∙ ap (find (λ f. f.name.id == id)) (sym (fields_of typ fs is))

-- the leaves before a field

sum-cons : (x : ℕ) (xs : List ℕ) → sum (x ∷ xs) ≡ x + sum xs
sum-cons x xs = grind (arith, common_steps)

before_some : (fs : List Field) (id i : ℕ) → first_at fs id ≡ Some i → sum (take i (map field_count fs)) ≡ leaves_before id fs
before_some [] id i e = absurd cc
before_some (f ∷ fs) id i e = by (f.name.id == id) (first_at fs id) refl e (λ j h. before_some fs id j h)
  where
    by : (b : Bool) (o : Option ℕ) → first_at fs id ≡ o → (if b then Some 0 else option_map suc o) ≡ Some i
        → ((j : ℕ) → first_at fs id ≡ Some j → sum (take j (map field_count fs)) ≡ leaves_before id fs)
        → sum (take i (map field_count (f ∷ fs))) ≡ (if b then 0 else field_count f + leaves_before id fs)
    by true o h e later = ap (λ k. sum (take k (map field_count (f ∷ fs)))) (sym (some_same e))
    by false None h e later = absurd cc
    by false (Some j) h e later =
        ap (λ k. sum (take k (map field_count (f ∷ fs)))) (sym (some_same e)) ∙ sum-cons (field_count f) (take j (map field_count fs)) ∙ ap (λ n. field_count f + n) (later j h)

before_none : (fs : List Field) (id : ℕ) → first_at fs id ≡ None → sum (map field_count fs) ≡ leaves_before id fs
before_none [] id e = refl
before_none (f ∷ fs) id e = by (f.name.id == id) (first_at fs id) refl e (λ h. before_none fs id h)
  where
    by : (b : Bool) (o : Option ℕ) → first_at fs id ≡ o → (if b then Some 0 else option_map suc o) ≡ None
        → (first_at fs id ≡ None → sum (map field_count fs) ≡ leaves_before id fs)
        → sum (map field_count (f ∷ fs)) ≡ (if b then 0 else field_count f + leaves_before id fs)
    by true o h e later = absurd cc
    by false None h e later = sum-cons (field_count f) (map field_count fs) ∙ ap (λ n. field_count f + n) (later h)
    by false (Some j) h e later = absurd cc

pub before_place : (table : FieldTable) (fs : List Field) (id : ℕ) (place : FieldPlace) → Finds table id (Some place) → Counts table fs → place.before ≡ leaves_before id fs
before_place table fs id place finds counts = by (first_at fs id) refl (finds fs (map field_count fs) counts.index)
  where
    by : (o : Option ℕ) → first_at fs id ≡ o → Some place ≡ option_map (place_in (map field_count fs)) o → place.before ≡ leaves_before id fs
    by (Some i) h e = ap (λ (p : FieldPlace). p.before) (some_same e) ∙ before_some fs id i h
    by None h e = absurd cc

pub before_end : (table : FieldTable) (fs : List Field) (id : ℕ) → Finds table id None → Counts table fs → table.leaves ≡ leaves_before id fs
before_end table fs id finds counts = by (first_at fs id) refl (finds fs (map field_count fs) counts.index)
  where
    by : (o : Option ℕ) → first_at fs id ≡ o → None ≡ option_map (place_in (map field_count fs)) o → table.leaves ≡ leaves_before id fs
    by (Some i) h e = absurd cc
    by None h e = counts.leaves ∙ before_none fs id h

pub known_before : (typ : FirType) (table : FieldTable) (fs : List Field) (id n : ℕ) → typ.shape ≡ shape.Bundle fs → ∥ Fits typ table ∥₁
    → ((fields : List Field) → Counts table fields → n ≡ leaves_before id fields) → n ≡ leaves_before id (fields_in (out-Shape typ.shape))
known_before typ table fs id n is k h = ∥∥₁_elim k (ℕ_set n (leaves_before id fs)) (λ fits. h fs (counts_of fs is fits)) ∙ ap (leaves_before id) (sym (fields_of typ fs is))

pub found_at : (typ : FirType) (table : FieldTable) (fs : List Field) (id : ℕ) (place : Option FieldPlace) (p : FieldPlace) (o : Option Field) → typ.shape ≡ shape.Bundle fs
    → ∥ Fits typ table ∥₁ → Finds table id place → place ≡ Some p → o ≡ slice_get fs p.position
    → option_map typ_of o ≡ option_map typ_of (find (λ f. f.name.id == id) (fields_in (out-Shape typ.shape)))
found_at typ table fs id place p o is k finds e at =
    ap (option_map typ_of) at ∙ ap (λ q. option_map typ_of (at_place fs q)) (sym e) ∙ ap (option_map typ_of) (found_is typ table fs id place is k finds)

pub found_nowhere : (typ : FirType) (table : FieldTable) (fs : List Field) (id : ℕ) (place : Option FieldPlace) → typ.shape ≡ shape.Bundle fs
    → ∥ Fits typ table ∥₁ → Finds table id place → place ≡ None → None ≡ option_map typ_of (find (λ f. f.name.id == id) (fields_in (out-Shape typ.shape)))
found_nowhere typ table fs id place is k finds e =
    ap (λ q. option_map typ_of (at_place fs q)) (sym e) ∙ ap (option_map typ_of) (found_is typ table fs id place is k finds)
