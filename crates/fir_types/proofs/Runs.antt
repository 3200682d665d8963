-- Runs of vector lengths: a walk goes from a vector to its element, and what it answers for the element is its answer for the vector.
use Rattle.std.proofs.Common.{◌≡◌, ℕ, zero, suc, ◌*◌, ◌<◌, ◌≤◌, min, Bool, true, false, List, [], ◌∷◌, ◌++◌, refl, sym, ap, ◌∙◌, subst, arith, inl, inr}
use Rattle.std.specs.List.{list_any, flat_map}
use Rattle.std.proofs.Math.Nat.{min-eq_left, min-eq_right, min-le_right}
use Rattle.std.proofs.lemmas.Bool.Decides.{leb_tells}
use Rattle.std.proofs.lemmas.Grind.{common_steps}
use Rattle.place_text.specs.declared.place.Place.{Place}
use Rattle.fir_types.specs.declared.fir_type.FirType.{FirType, size-FirType, the_lemmas}
use Rattle.fir_types.specs.declared.fir_type.Shape.{Shape}
use Rattle.fir_types.specs.declared.fir_type.Shape.TheVariants as shape
use Rattle.fir_types.specs.declared.fir_type.Shape.TheViews.{out-Shape}
use Rattle.fir_types.specs.declared.fir_type.Field.{Field}
use Rattle.fir_types.specs.declared.leaf.TypeLeaf.{TypeLeaf}
use Rattle.fir_types.specs.Bundles.{mask_of, mask_of_shape}
use Rattle.fir_types.specs.Equivalence.{Equivalent}
use Rattle.fir_types.specs.Leaves.{count, leaves, field_leaves, elements, is_clock_shape, is_signal_shape, is_asked}
use Rattle.fir_types.specs.Passivity.{has_flip}
use Rattle.fir_types.specs.Runs.{within}
use Rattle.fir_types.proofs.Layers.{count-vector, leaves-vector, some-fields, some-field, some-elements}
use Rattle.fir_types.proofs.Masks.{flip-vector}
use Rattle.fir_types.proofs.Cases.{vectors_from, of_vectors}

-- an element is no deeper than its vector
pub element_falls : (inside element : FirType) (length n : ℕ) → inside.shape ≡ shape.Vector element length → size-FirType inside ≤ n → size-FirType element ≤ n
element_falls inside element length n is fits = grind (arith, common_steps, the_lemmas)

-- counts that stop at a greatest number

stops : (a c m : ℕ) → m ≤ a → min (m * c) m ≡ min (a * c) m
stops a zero m h = grind (arith, common_steps)
stops a (suc c) m h =
    let one : m ≤ m * suc c = grind (arith, common_steps) in
    let other : a ≤ a * suc c = grind (arith, common_steps) in
    let both : m ≤ a * suc c = grind (arith, common_steps) in
    min-eq_right one ∙ sym (min-eq_right both)

pub stops_before : (a c m : ℕ) → min (min a m * c) m ≡ min (a * c) m
stops_before a c m = elim (leb_tells a m) as (λ _. min (min a m * c) m ≡ min (a * c) m) [
  | inl p ↦ ap (λ x. min (x * c) m) (min-eq_left p.1)
  | inr p ↦ let h : m ≤ a = omega arith in ap (λ x. min (x * c) m) (min-eq_right h) ∙ stops a c m h
]

pub at_most : (a m after : ℕ) → after ≡ min a m → after ≤ m
at_most a m after is = subst (λ x. x ≤ m) (sym is) (min-le_right a m)

pub stops_behind : (a c m : ℕ) → min (a * min c m) m ≡ min (a * c) m
stops_behind a c m =
    let e : a * min c m ≡ min c m * a = grind (arith, common_steps) in
    let f : c * a ≡ a * c = grind (arith, common_steps) in
    ap (λ x. min x m) e ∙ stops_before c a m ∙ ap (λ x. min x m) f

pub counted_on : (typ inside element : FirType) (factor length after m : ℕ) → inside.shape ≡ shape.Vector element length
    → min (count typ) m ≡ min (factor * count inside) m → after ≡ min (factor * length) m → min (count typ) m ≡ min (after * count element) m
counted_on typ inside element factor length after m is h a =
    let e : factor * count inside ≡ factor * length * count element =
    ap (λ x. factor * x) (count-vector inside element length is) ∙ grind (arith, common_steps) in
    h ∙ ap (λ x. min x m) e ∙ sym (stops_before (factor * length) (count element) m) ∙ ap (λ x. min (x * count element) m) (sym a)

-- clocks and signals, flips

abbrev clocks : FirType → Bool
clocks typ = is_clock_shape (out-Shape typ.shape)

abbrev signals : FirType → Bool
signals typ = is_signal_shape (out-Shape typ.shape)

pub asked-fields : (both : Bool) (fs : List Field) → list_any (is_asked both) (flat_map field_leaves fs) ≡ list_any (λ f. list_any (is_asked both) (field_leaves f)) fs
asked-fields true fs = some-fields signals fs
asked-fields false fs = some-fields clocks fs

pub asked-field : (both : Bool) (f : Field) → list_any (is_asked both) (field_leaves f) ≡ list_any (is_asked both) (leaves f.typ)
asked-field true f = some-field signals f
asked-field false f = some-field clocks f

asked-elements : (both : Bool) (ls : List TypeLeaf) (n : ℕ) → 0 < n → list_any (is_asked both) (elements ls n) ≡ list_any (is_asked both) ls
asked-elements true ls n h = some-elements signals ls n h
asked-elements false ls n h = some-elements clocks ls n h

pub asked_on : (both : Bool) (typ inside element : FirType) (length : ℕ) → inside.shape ≡ shape.Vector element length → 0 < length
    → list_any (is_asked both) (leaves typ) ≡ list_any (is_asked both) (leaves inside) → list_any (is_asked both) (leaves typ) ≡ list_any (is_asked both) (leaves element)
asked_on both typ inside element length is more h =
    h ∙ ap (list_any (is_asked both)) (leaves-vector inside element length is) ∙ asked-elements both (leaves element) length more

pub flip_on : (typ inside element : FirType) (length : ℕ) → inside.shape ≡ shape.Vector element length → has_flip typ ≡ has_flip inside → has_flip typ ≡ has_flip element
flip_on typ inside element length is h = h ∙ flip-vector inside element length is

-- equivalent types

abbrev pub Same : FirType → FirType → FirType → FirType → Type 0
Same left right one other = (Equivalent left right → Equivalent one other) × (Equivalent one other → Equivalent left right)

pub same_on : (left right one other element others : FirType) (n m : ℕ) → one.shape ≡ shape.Vector element n → other.shape ≡ shape.Vector others m → n ≡ m
    → Same left right one other → Same left right element others
same_on left right one other element others n m is are same h = (
  λ e. (of_vectors element others is are refl refl (h.0 e)).1,
  λ e. h.1 (vectors_from element others is are same refl refl e),
)

-- what is asked of the one pair is asked of the other
pub answered : {A : Type 0} (left right one other : FirType) → Same left right one other → (A → Equivalent one other) × (Equivalent one other → A)
    → (A → Equivalent left right) × (Equivalent left right → A)
answered left right one other same h = (λ a. same.1 (h.0 a), λ e. h.1 (same.0 e))

pub other_length : (left right one other element others : FirType) (n m : ℕ) → one.shape ≡ shape.Vector element n → other.shape ≡ shape.Vector others m → (n ≡ m → ⊥)
    → Same left right one other → Equivalent left right → ⊥
other_length left right one other element others n m is are differ same e = differ (of_vectors element others is are refl refl (same.0 e)).0

-- masks

abbrev vector : Place × ℕ → FirType → FirType
vector length typ = record { place = length.0; shape = shape.Vector typ length.1 }

-- the last length of a run stands around the type itself
pub within_last : (lengths : List (Place × ℕ)) (last : Place × ℕ) (typ : FirType) → within (lengths ++ last ∷ []) typ ≡ within lengths (vector last typ)
within_last [] last typ = refl
within_last (length ∷ lengths) last typ = ap (vector length) (within_last lengths last typ)

-- one length further in
pub further_in : (lengths : List (Place × ℕ)) (inside element typ : FirType) (length : ℕ)
    → inside.shape ≡ shape.Vector element length → within lengths inside ≡ typ → within (lengths ++ (inside.place, length) ∷ []) element ≡ typ
further_in lengths inside element typ length is run =
    within_last lengths (inside.place, length) element ∙ (ap (λ s. within lengths (record { place = inside.place; shape = s })) (sym is) ∙ run)

masked-vector : (length : Place × ℕ) (typ : FirType) → mask_of (vector length typ) ≡ vector length (mask_of typ)
masked-vector length typ = grind (arith, common_steps, the_lemmas)

masked-within : (lengths : List (Place × ℕ)) (typ : FirType) → mask_of (within lengths typ) ≡ within lengths (mask_of typ)
masked-within [] typ = refl
masked-within (length ∷ lengths) typ = masked-vector length (within lengths typ) ∙ ap (vector length) (masked-within lengths typ)

masked-shape : (typ : FirType) → mask_of typ ≡ record { place = typ.place; shape = mask_of_shape typ.shape }
masked-shape typ = grind (arith, common_steps, the_lemmas)

-- the mask of a type inside a run
pub masked_run : (lengths : List (Place × ℕ)) (inside typ whole : FirType) (s : Shape) → within lengths inside ≡ typ → s ≡ mask_of_shape inside.shape
    → whole ≡ within lengths (record { place = inside.place; shape = s }) → whole ≡ mask_of typ
masked_run lengths inside typ whole s run is around =
    around ∙ ap (λ x. within lengths (record { place = inside.place; shape = x })) is ∙ ap (within lengths) (sym (masked-shape inside))
    ∙ sym (masked-within lengths inside) ∙ ap mask_of run
