-- Tables that are made fit.
use Rattle.std.proofs.Common.{◌≡◌, ℕ, zero, suc, ◌<◌, ◌≤◌, List, [], ◌∷◌, ◌++◌, ◌+◌, map, sum, length, take, get_or, refl, sym, ap, ap₂, if◌then◌else◌, ◌==◌, ◌∙◌, subst, arith, inl, inr, ◌⊎◌, ⊎_elim, true≢false}
use Rattle.std.specs.Prelude.{Option, Some, None, slice_get, unwrap_or, is_some, option_map, IfSome}
use Rattle.std.proofs.lemmas.List.{take_more, map-append, take_all, length-map}
use Rattle.std.proofs.Math.Logic.{∥∥₁_map, ∥∥₁_elim}
use Rattle.fir_types.specs.declared.fir_type.FirType.{FirType}
use Rattle.fir_types.specs.declared.fir_type.Shape.TheVariants as shape
use Rattle.fir_types.specs.declared.fir_type.Field.{Field}
use Rattle.fir_types.specs.Leaves.{count, field_count, leaves, way_of}
use Rattle.fir_types.specs.Equivalence.{Equivalent, SameFields, no_fields, same_field}
use Rattle.fir_types.proofs.Cases.{of_vector, of_bundle, IsVectorLike, vector_like, IsBundleLike, bundle_like}
use Rattle.fir_types.proofs.Counts.{counted}
use Rattle.fir_types.proofs.Ways.{same_ways}
use Rattle.fir_types.specs.Indexes.{IsIndexOf, first_at, place_in}
use Rattle.fir_types.proofs.Layers.{count-field}
use Rattle.field_tables.specs.declared.table.FieldTable.{FieldTable, the_lemmas}
use Rattle.field_tables.specs.declared.table.Inner.{Inner}
use Rattle.field_tables.specs.declared.table.Inner.TheVariants as known
use Rattle.field_tables.specs.declared.table.Inner.TheViews.{out-Inner}
use Rattle.field_tables.specs.Fits.{Fits, vector, bundle, Counts}

pub same_table : (a b : FieldTable) → known.Table a ≡ known.Table b → a ≡ b
same_table a b h =
    let out : out-Inner (known.Table a) ≡ out-Inner (known.Table b) = ap out-Inner h in
    grind (arith, the_lemmas)

some_same : {X : Type 0} (x y : X) → Some x ≡ Some y → x ≡ y
some_same x y e = ap (λ o. unwrap_or o x) e

-- what a list with one more at its end holds
at_end : {X : Type 0} (xs : List X) (x y : X) (i : ℕ) → slice_get (xs ++ x ∷ []) i ≡ Some y → (slice_get xs i ≡ Some y) ⊎ ((i ≡ length xs) × (x ≡ y))
at_end [] x y zero e = inr (refl, some_same x y e)
at_end [] x y (suc i) e = absurd (true≢false (sym (ap is_some e)))
at_end (z ∷ zs) x y zero e = inl e
at_end (z ∷ zs) x y (suc i) e = ⊎_elim (λ l. inl l) (λ r. inr (ap suc r.0, r.1)) (at_end zs x y i e)

abbrev Inside : List Field → List Inner → Type 0
Inside fields inner = (k : ℕ) (field : Field) (table : FieldTable) → slice_get fields k ≡ Some field → slice_get inner k ≡ Some (known.Table table) → Fits field.typ table

abbrev pub IsInner : FirType → Inner → Type 0
IsInner typ own = (table : FieldTable) → own ≡ known.Table table → Fits typ table

-- Tables of the first fields, and how many leaves these have.
pub record Gathers (fields : List Field) (i : ℕ) (counts : List ℕ) (inner : List Inner) : Type 0 where
  pub many : length inner ≡ i
  pub sizes : counts ≡ map field_count (take i fields)
  pub fits : ∥ Inside fields inner ∥₁

pub gathers_none : (fields : List Field) → Gathers fields 0 [] []
gathers_none fields = record { many = refl; sizes = refl; fits = ∣ (λ k field table at is. absurd (true≢false (sym (ap is_some is)))) ∣₁ }

pub gathers_more : (fields : List Field) (i : ℕ) (f : Field) (counts more : List ℕ) (n : ℕ) (inner after : List Inner) (own : Inner) → i < length fields → f ≡ get_or fields i f
    → slice_get fields i ≡ Some f → n ≡ count f.typ → ∥ IsInner f.typ own ∥₁ → more ≡ counts ++ n ∷ [] → after ≡ inner ++ own ∷ []
    → Gathers fields i counts inner → Gathers fields (i + 1) more after
gathers_more fields i f counts more n inner after own lt is at counted fits m a g = record {
  many = ap length a ∙ length-end inner own ∙ ap (λ k. k + 1) g.many;
  sizes = m ∙ ap (λ l. l ++ n ∷ []) g.sizes ∙ ap (λ x. map field_count (take i fields) ++ x ∷ []) (counted ∙ sym (count-field f))
      ∙ sym (ap (map field_count) (take_more fields i f lt ∙ ap (λ x. take i fields ++ x ∷ []) (sym is)) ∙ map-append field_count (take i fields) (f ∷ []));
  fits = ∥∥₁_elim g.fits squash₁ (λ before. ∥∥₁_map fits (λ one k field table at_k is_k. ⊎_elim (λ l. before k field table at_k l)
      (λ r. subst (λ x. Fits x.typ table) (some_same f field (sym at ∙ ap (slice_get fields) (sym (r.0 ∙ g.many)) ∙ at_k)) (one table r.1))
      (at_end inner own (known.Table table) k (ap (λ l. slice_get l k) (sym a) ∙ is_k))));
}
  where
    length-end : {X : Type 0} (xs : List X) (x : X) → length (xs ++ x ∷ []) ≡ length xs + 1
    length-end [] x = refl
    length-end (y ∷ ys) x = let h = length-end ys x in omega (arith, h)

pub all_gathered : (fields : List Field) (i : ℕ) (counts : List ℕ) (inner : List Inner) (table : FieldTable) → length fields ≤ i → Gathers fields i counts inner
    → table.leaves ≡ sum counts → IsIndexOf table.index fields counts → table.inner ≡ inner → ∥ ((typ : FirType) → typ.shape ≡ shape.Bundle fields → Fits typ table) ∥₁
all_gathered fields i counts inner table all g l x n =
    let c : counts ≡ map field_count fields = g.sizes ∙ ap (map field_count) (take_all i fields all) in
    ∥∥₁_map g.fits (λ fits typ is. bundle fields is (record { leaves = l ∙ ap sum c; index = subst (IsIndexOf table.index fields) c x })
    (λ k field inside at is_k. fits k field inside at (ap (λ l. slice_get l k) (sym n) ∙ is_k)))

-- equivalent types have one table

same_count : {l r : FirType} → Equivalent l r → count l ≡ count r
same_count {l} {r} q =
    counted l ∙ sym (length-map (leaves l) way_of) ∙ ap length (same_ways q) ∙ length-map (leaves r) way_of ∙ sym (counted r)

same_counts : {fs gs : List Field} → SameFields fs gs → map field_count fs ≡ map field_count gs
same_counts no_fields = refl
same_counts (same_field {field = f} {other = g} a b q rest) = ap₂ (λ n l. n ∷ l) (count-field f ∙ same_count q ∙ sym (count-field g)) (same_counts rest)

same_first : {fs gs : List Field} → SameFields fs gs → (id : ℕ) → first_at fs id ≡ first_at gs id
same_first no_fields id = refl
same_first (same_field a b q rest) id = ap₂ (λ n o. if n == id then Some 0 else option_map suc o) a (same_first rest id)

counts_moved : {fs gs : List Field} {table : FieldTable} → SameFields fs gs → Counts table fs → Counts table gs
counts_moved {fs} {gs} {table} same counts = record {
  leaves = counts.leaves ∙ ap sum (same_counts same);
  index = λ id. counts.index id ∙ ap₂ (λ w o. option_map (place_in w) o) (same_counts same) (same_first same id);
}

other_field : {fs gs : List Field} → SameFields fs gs → (i : ℕ) (g : Field) → slice_get gs i ≡ Some g → (f : Field) × (slice_get fs i ≡ Some f) × Equivalent f.typ g.typ
other_field no_fields i g e = absurd (true≢false (sym (ap is_some e)))
other_field (same_field {field = f} {other = h} a b q rest) zero g e = (f, refl, subst (λ x. Equivalent f.typ x.typ) (some_same h g e) q)
other_field (same_field a b q rest) (suc i) g e = other_field rest i g e

vector_moved : {element r : FirType} {table : FieldTable} (n : ℕ) → ((other : FirType) → Equivalent element other → Fits other table) → IsVectorLike element n r → Fits r table
vector_moved n further (vector_like other is q) = vector other n is (further other q)

bundle_moved : {r : FirType} {table : FieldTable} (fs : List Field) → Counts table fs
    → ((i : ℕ) (f g : Field) (t : FieldTable) → slice_get fs i ≡ Some f → slice_get table.inner i ≡ Some (known.Table t) → Equivalent f.typ g.typ → Fits g.typ t)
    → IsBundleLike fs r → Fits r table
bundle_moved fs counts further (bundle_like gs is same) =
    bundle gs is (counts_moved same counts) (λ i g t at_g at_t. let o = other_field same i g at_g in further i o.0 g t o.1 at_t o.2)

pub moved : {l r : FirType} {table : FieldTable} → Fits l table → Equivalent l r → Fits r table
moved (vector element n is fits) q = vector_moved n (λ other e. moved fits e) (of_vector element n is q)
moved (bundle fs is counts inner) q = bundle_moved fs counts (λ i f g t at_f at_t e. moved (inner i f t at_f at_t) e) (of_bundle fs is q)

-- what is said of a value that is there

pub told : {X : Type 0} (P : X → Type 0) (o : Option X) (x : X) → o ≡ Some x → IfSome o P → P x
told {X} P o x e h = subst (λ o. IfSome o P) e h

pub weaker : {X : Type 0} {P Q : X → Type 0} (o : Option X) → ((x : X) → P x → Q x) → IfSome o P → IfSome o Q
weaker (Some x) k h = k x h
weaker None k h = h
