-- The ways that a reference may go: all have one length, and lead to parts of its type.
use Rattle.std.proofs.Common.{◌≡◌, ℕ, suc, ◌<◌, ◌+◌, ◌*◌, nat_lt, Bool, true, false, List, [], ◌∷◌, ◌++◌, map, length, fold, find, refl, sym, ap, ap₂, ◌∙◌, subst, arith, ◌==◌, if◌then◌else◌, Some, None, Option, option_map, option_and_then, slice_get}
use Rattle.std.specs.Prelude.{Contains}
use Rattle.std.specs.List.{range_with_len}
use Rattle.std.proofs.lemmas.Bool.Decides.{nat_tests}
use Rattle.std.proofs.lemmas.Grind.{common_steps}
use Rattle.place_text.specs.declared.place.Place.{Place}
use Rattle.fir_types.specs.declared.name.Name.{Name}
use Rattle.fir_types.specs.declared.fir_type.FirType.{FirType, the_lemmas}
use Rattle.fir_types.specs.declared.fir_type.Shape.{Shape}
use Rattle.fir_types.specs.declared.fir_type.Shape.TheOpen.{Shape-F}
use Rattle.fir_types.specs.declared.fir_type.Shape.TheViews.{out-Shape}
use Rattle.fir_types.specs.declared.fir_type.Shape.TheVariants as shape
use Rattle.fir_types.specs.declared.fir_type.Field.{Field}
use Rattle.fir_types.specs.declared.leaf.TypeLeaf.{TypeLeaf}
use Rattle.fir_types.specs.declared.leaf.PathStep.{PathStep}
use Rattle.fir_types.specs.declared.leaf.PathStep.TheVariants as step
use Rattle.fir_types.specs.Leaves.{leaves, under, count}
use Rattle.fir_tree.specs.declared.expr.Expr.{Expr, the_lemmas as expr_lemmas}
use Rattle.fir_tree.specs.declared.expr.Form.{Form}
use Rattle.fir_tree.specs.declared.expr.Suffix.{Suffix, ind-Suffix}
use Rattle.fir_tree.specs.declared.expr.Form.TheOpen.{Suffix-F}
use Rattle.fir_tree.specs.declared.expr.Form.TheFolds.{map-Suffix}
use Rattle.fir_tree.specs.declared.expr.Form.TheViews.{roll-Suffix}
use Rattle.fir_meaning.specs.WellTyped as kinds
use Rattle.fir_meaning.specs.WellTyped.{Known, typed, typed_step, type_behind, is_one_unsigned}
use Rattle.fir_meaning.specs.Values.{field_of_shape, element_of_shape, vector_length, field_type, element_type, or_itself}
use Rattle.fir_meaning.specs.Mentions as reads
use Rattle.fir_meaning.specs.Mentions.{Scope, Region, mentions, behind_each, elements_behind, suffix_onward, follow_all, whole_region}
use Rattle.ground_exprs.specs.Numbers.{IsInside}
use Rattle.field_tables.specs.Before.{leaves_before}
use Rattle.ground_exprs.proofs.Members.{none_some, some_same, only_one, from_map, from_flat_map, from_range}
use Rattle.ground_exprs.proofs.Insides.{inside_field, inside_element, length-of}

-- The type behind a step, and behind a way.
abbrev pub step_type : PathStep → FirType → Option FirType
step_type (step.Field id) typ = field_of_shape id (out-Shape typ.shape)
step_type (step.Element k) typ = if nat_lt k (vector_length typ) then element_of_shape (out-Shape typ.shape) else None

abbrev pub way_type : List PathStep → FirType → Option FirType
way_type [] typ = Some typ
way_type (next ∷ way) typ = option_and_then (way_type way) (step_type next typ)

pub way_behind : (way more : List PathStep) (typ : FirType) → way_type (way ++ more) typ ≡ option_and_then (way_type more) (way_type way typ)
way_behind [] more typ = refl
way_behind (next ∷ way) more typ = by (λ inner. way_behind way more inner) (step_type next typ)
  where
    by : ((inner : FirType) → way_type (way ++ more) inner ≡ option_and_then (way_type more) (way_type way inner)) → (o : Option FirType)
        → option_and_then (way_type (way ++ more)) o ≡ option_and_then (way_type more) (option_and_then (way_type way) o)
    by deep (Some inner) = deep inner
    by deep None = refl

-- A reference that has been followed so far.
pub record Followed (types : Scope) (c : ℕ) (typ : FirType) (steps : ℕ) (region : Region) : Type 0 where
  pub component : region.component ≡ c
  pub typ_is : region.typ ≡ typ
  pub long : (way : List PathStep) → Contains region.ways way → length way ≡ steps
  pub leads : (way : List PathStep) → Contains region.ways way → way_type way (types c) ≡ Some typ

abbrev Follows : Suffix → Type 0
Follows s = (known : Known) (types : Scope) (c : ℕ) (typ inner : FirType) (steps : ℕ) (region : Region) → typed_step s known typ ≡ Some inner → Followed types c typ steps region
    → Followed types c inner (steps + 1) (suffix_onward s types region)

typed_field : (name : Name) → typed_step (roll-Suffix (Suffix-F.Field name)) ≡ kinds.of_suffix (Suffix-F.Field name)
typed_field name = grind (arith, common_steps, expr_lemmas)

typed_at : (bracket place : Place) (n : ℕ) → typed_step (roll-Suffix (Suffix-F.At bracket place n)) ≡ kinds.of_suffix (Suffix-F.At bracket place n)
typed_at bracket place n = grind (arith, common_steps, expr_lemmas)

typed_index : (bracket : Place) (e : Expr) → typed_step (roll-Suffix (Suffix-F.Index bracket e)) ≡ kinds.of_suffix (Suffix-F.Index bracket (typed e))
typed_index bracket e = grind (arith, common_steps, expr_lemmas)

onward_field : (name : Name) → suffix_onward (roll-Suffix (Suffix-F.Field name)) ≡ reads.of_suffix (Suffix-F.Field name)
onward_field name = grind (arith, common_steps, expr_lemmas)

onward_at : (bracket place : Place) (n : ℕ) → suffix_onward (roll-Suffix (Suffix-F.At bracket place n)) ≡ reads.of_suffix (Suffix-F.At bracket place n)
onward_at bracket place n = grind (arith, common_steps, expr_lemmas)

onward_index : (bracket : Place) (e : Expr) → suffix_onward (roll-Suffix (Suffix-F.Index bracket e)) ≡ reads.of_suffix (Suffix-F.Index bracket (mentions e))
onward_index bracket e = grind (arith, common_steps, expr_lemmas)

longer : (way : List PathStep) (next : PathStep) (steps : ℕ) → length way ≡ steps → length (way ++ next ∷ []) ≡ steps + 1
longer way next steps e = grind (arith, common_steps, e)

one_step : (next : PathStep) (typ inner : FirType) → step_type next typ ≡ Some inner → way_type (next ∷ []) typ ≡ Some inner
one_step next typ inner e = ap (option_and_then (way_type [])) e

-- a step behind each of the ways
followed_each : (types : Scope) (c : ℕ) (typ inner : FirType) (steps : ℕ) (ways : List (List PathStep)) (next : PathStep) → step_type next typ ≡ Some inner
    → ((way : List PathStep) → Contains ways way → length way ≡ steps) → ((way : List PathStep) → Contains ways way → way_type way (types c) ≡ Some typ)
    → (way : List PathStep) → Contains (behind_each ways next) way → (length way ≡ steps + 1) × (way_type way (types c) ≡ Some inner)
followed_each types c typ inner steps ways next e long leads way k =
    let from = from_map (λ (w : List PathStep). w ++ next ∷ []) ways way k in (
      subst (λ w. length w ≡ steps + 1) from.2 (longer from.0 next steps (long from.0 from.1)),
      subst (λ w. way_type w (types c) ≡ Some inner) from.2
          (way_behind from.0 (next ∷ []) (types c) ∙ (ap (option_and_then (way_type (next ∷ []))) (leads from.0 from.1) ∙ one_step next typ inner e)),
    )

if_some : {A : Type 0} (b : Bool) (o : Option A) (y : A) → (if b then o else None) ≡ Some y → (b ≡ true) × (o ≡ Some y)
if_some true o y e = (refl, e)
if_some false o y e = absurd (none_some e)

below : (k n : ℕ) → k < 0 + n → nat_lt k n ≡ true
below k n h = grind (arith, common_steps, nat_tests, h)

suffix_case : (y : Suffix-F ((φ : Form) × Unit {0}) ((s : Suffix) × Follows s) ((e : Expr) × Unit {0})) → Follows (roll-Suffix (map-Suffix _ _ _ Form Suffix Expr (λ e. e.0) (λ e. e.0) (λ e. e.0) y))
suffix_case (Suffix-F.Field name) known types c typ inner steps region t f =
    let found : field_of_shape name.id (out-Shape typ.shape) ≡ Some inner = sym (ap (λ g. g known typ) (typed_field name)) ∙ t in
    subst (λ g. Followed types c inner (steps + 1) (g types region)) (sym (onward_field name)) (record {
      component = f.component;
      typ_is = ap (field_type name.id) f.typ_is ∙ ap (or_itself typ) found;
      long = λ way k. (followed_each types c typ inner steps region.ways (step.Field name.id) found f.long f.leads way k).0;
      leads = λ way k. (followed_each types c typ inner steps region.ways (step.Field name.id) found f.long f.leads way k).1;
    })
suffix_case (Suffix-F.At bracket place n) known types c typ inner steps region t f =
    let test : (if nat_lt n (vector_length typ) then element_of_shape (out-Shape typ.shape) else None) ≡ Some inner = sym (ap (λ g. g known typ) (typed_at bracket place n)) ∙ t in
    let found = if_some (nat_lt n (vector_length typ)) (element_of_shape (out-Shape typ.shape)) inner test in
    subst (λ g. Followed types c inner (steps + 1) (g types region)) (sym (onward_at bracket place n)) (record {
      component = f.component;
      typ_is = ap element_type f.typ_is ∙ ap (or_itself typ) found.1;
      long = λ way k. (followed_each types c typ inner steps region.ways (step.Element n) test f.long f.leads way k).0;
      leads = λ way k. (followed_each types c typ inner steps region.ways (step.Element n) test f.long f.leads way k).1;
    })
suffix_case (Suffix-F.Index bracket e) known types c typ inner steps region t f =
    let test : (if is_one_unsigned (typed e.0 known) then element_of_shape (out-Shape typ.shape) else None) ≡ Some inner = sym (ap (λ g. g known typ) (typed_index bracket e.0)) ∙ t in
    let found = if_some (is_one_unsigned (typed e.0 known)) (element_of_shape (out-Shape typ.shape)) inner test in
    subst (λ g. Followed types c inner (steps + 1) (g types region)) (sym (onward_index bracket e.0)) (record {
      component = f.component;
      typ_is = ap element_type f.typ_is ∙ ap (or_itself typ) found.1;
      long = λ way k. (each found.1 way k).0;
      leads = λ way k. (each found.1 way k).1;
    })
  where
    each : element_of_shape (out-Shape typ.shape) ≡ Some inner → (way : List PathStep) → Contains (elements_behind region.ways (vector_length region.typ)) way
        → (length way ≡ steps + 1) × (way_type way (types c) ≡ Some inner)
    each found way k =
        let at = from_flat_map (λ n. behind_each region.ways (step.Element n)) (range_with_len 0 (vector_length region.typ)) way k in
        let within : nat_lt at.0 (vector_length typ) ≡ true = ap (λ u. nat_lt at.0 (vector_length u)) (sym f.typ_is) ∙ below at.0 (vector_length region.typ) (from_range 0 (vector_length region.typ) at.0 at.1).1 in
        followed_each types c typ inner steps region.ways (step.Element at.0) (ap (λ b. if b then element_of_shape (out-Shape typ.shape) else None) within ∙ found) f.long f.leads way at.2

follows : (s : Suffix) → Follows s
follows = ind-Suffix (λ f. Unit {0}) Follows (λ e. Unit {0}) (λ x y is. tt) (λ x y is. subst (λ z. Follows (roll-Suffix z)) is (suffix_case y)) (λ x y is. tt)

behind_none : (known : Known) (steps : List kinds.Onward) → type_behind known steps None ≡ None
behind_none known [] = refl
behind_none known (s ∷ ss) = behind_none known ss

follow_on : (known : Known) (types : Scope) (c : ℕ) (suffixes : List Suffix) (typ last : FirType) (steps : ℕ) (region : Region) → type_behind known (map typed_step suffixes) (Some typ) ≡ Some last
    → Followed types c typ steps region → Followed types c last (steps + length suffixes) (fold (λ r go. go types r) region (map suffix_onward suffixes))
follow_on known types c [] typ last steps region e f =
    let same : typ ≡ last = some_same e in
    let plain : steps ≡ steps + 0 = omega arith in
    subst (λ k. Followed types c last k region) plain (subst (λ t. Followed types c t steps region) same f)
follow_on known types c (s ∷ ss) typ last steps region e f = by (λ inner q g. follow_on known types c ss inner last (steps + 1) (suffix_onward s types region) q g) (typed_step s known typ) refl e
  where
    shift : (n k : ℕ) → n + 1 + k ≡ n + suc k
    shift n k = omega arith

    by : ((inner : FirType) → type_behind known (map typed_step ss) (Some inner) ≡ Some last → Followed types c inner (steps + 1) (suffix_onward s types region)
        → Followed types c last (steps + 1 + length ss) (fold (λ r go. go types r) (suffix_onward s types region) (map suffix_onward ss)))
        → (o : Option FirType) → typed_step s known typ ≡ o → type_behind known (map typed_step ss) o ≡ Some last
        → Followed types c last (steps + suc (length ss)) (fold (λ r go. go types r) (suffix_onward s types region) (map suffix_onward ss))
    by deep (Some inner) t q =
        subst (λ k. Followed types c last k (fold (λ r go. go types r) (suffix_onward s types region) (map suffix_onward ss))) (shift steps (length ss))
        (deep inner q (follows s known types c typ inner steps region t f))
    by deep None t q = absurd (none_some (sym (behind_none known (map typed_step ss)) ∙ q))

-- A well typed reference leads to parts of its type, in as many steps as it has.
pub followed : (known : Known) (types : Scope) (c : ℕ) (suffixes : List Suffix) (whole last : FirType) → known c ≡ Some whole → types c ≡ whole
    → type_behind known (map typed_step suffixes) (known c) ≡ Some last → Followed types c last (0 + length suffixes) (follow_all types c (map suffix_onward suffixes))
followed known types c suffixes whole last k t e =
    follow_on known types c suffixes whole last 0 (whole_region types c) (ap (type_behind known (map typed_step suffixes)) (sym k) ∙ e) (record {
      component = refl;
      typ_is = t;
      long = λ way m. ap length (sym (only_one [] way m));
      leads = λ way m. subst (λ w. way_type w (types c) ≡ Some whole) (only_one [] way m) (ap Some t);
    })

-- Leaves of a part

-- of each leaf of the inner type the outer one has a leaf behind this way
abbrev pub LiesIn : FirType → List PathStep → FirType → ℕ → Type 0
LiesIn outer way inner before = (j : ℕ) (leaf : TypeLeaf) → slice_get (leaves inner) j ≡ Some leaf → (flip : Bool) × (at : TypeLeaf) × (slice_get (leaves outer) (before + j) ≡ Some at) × (at.path ≡ way ++ leaf.path)

inside_step : (next : PathStep) (typ inner : FirType) → step_type next typ ≡ Some inner → (before : ℕ) × IsInside typ next inner before
inside_step (step.Field id) typ inner e = by (out-Shape typ.shape) refl e
  where
    found : (fs : List Field) (o : Option Field) → find (λ f. f.name.id == id) fs ≡ o → option_map (λ (f : Field). f.typ) o ≡ Some inner
        → (f : Field) × (find (λ f. f.name.id == id) fs ≡ Some f) × (f.typ ≡ inner)
    found fs (Some f) q h = (f, q, some_same h)
    found fs None q h = absurd (none_some h)

    by : (y : Shape-F Shape Field FirType) → out-Shape typ.shape ≡ y → field_of_shape id y ≡ Some inner → (before : ℕ) × IsInside typ (step.Field id) inner before
    by (Shape-F.Bundle fs) is h =
        let same : typ.shape ≡ shape.Bundle fs = grind (arith, common_steps, the_lemmas) in
        let f = found fs (find (λ f. f.name.id == id) fs) refl h in
        (leaves_before id fs, subst (λ t. IsInside typ (step.Field id) t (leaves_before id fs)) f.2 (inside_field typ fs id f.0 (leaves_before id fs) same f.1 refl))
    by (Shape-F.Unsigned w) is h = absurd (none_some h)
    by (Shape-F.Signed w) is h = absurd (none_some h)
    by Shape-F.Clock is h = absurd (none_some h)
    by Shape-F.Reset is h = absurd (none_some h)
    by Shape-F.AsyncReset is h = absurd (none_some h)
    by (Shape-F.Vector element n) is h = absurd (none_some h)
inside_step (step.Element k) typ inner e = by (out-Shape typ.shape) refl both.1
  where
    both : (nat_lt k (vector_length typ) ≡ true) × (element_of_shape (out-Shape typ.shape) ≡ Some inner)
    both = if_some (nat_lt k (vector_length typ)) (element_of_shape (out-Shape typ.shape)) inner e

    less : (k n m : ℕ) → nat_lt k n ≡ true → n ≡ m → k < m
    less k n m t e = grind (arith, common_steps, nat_tests, t, e)

    by : (y : Shape-F Shape Field FirType) → out-Shape typ.shape ≡ y → element_of_shape y ≡ Some inner → (before : ℕ) × IsInside typ (step.Element k) inner before
    by (Shape-F.Vector element n) is h =
        let same : typ.shape ≡ shape.Vector element n = grind (arith, common_steps, the_lemmas) in (
          k * count inner,
          subst (λ t. IsInside typ (step.Element k) t (k * count t)) (some_same h)
              (inside_element typ element n k (count element) same refl (less k (vector_length typ) n both.0 (length-of typ element n same))),
        )
    by (Shape-F.Unsigned w) is h = absurd (none_some h)
    by (Shape-F.Signed w) is h = absurd (none_some h)
    by Shape-F.Clock is h = absurd (none_some h)
    by Shape-F.Reset is h = absurd (none_some h)
    by Shape-F.AsyncReset is h = absurd (none_some h)
    by (Shape-F.Bundle fields) is h = absurd (none_some h)

pub lies_in : (way : List PathStep) (typ inner : FirType) → way_type way typ ≡ Some inner → (before : ℕ) × LiesIn typ way inner before
lies_in [] typ inner e = (0, λ j leaf at. (false, leaf, there j leaf at (some_same e), refl))
  where
    plain : (j : ℕ) → 0 + j ≡ j
    plain j = omega arith

    there : (j : ℕ) (leaf : TypeLeaf) → slice_get (leaves inner) j ≡ Some leaf → typ ≡ inner → slice_get (leaves typ) (0 + j) ≡ Some leaf
    there j leaf at same = ap₂ (λ t m. slice_get (leaves t) m) same (plain j) ∙ at
lies_in (next ∷ way) typ inner e = by (λ mid h. lies_in way mid inner h) (step_type next typ) refl e
  where
    further : (a b j : ℕ) → a + (b + j) ≡ a + b + j
    further a b j = omega arith

    by : ((mid : FirType) → way_type way mid ≡ Some inner → (before : ℕ) × LiesIn mid way inner before) → (o : Option FirType) → step_type next typ ≡ o → option_and_then (way_type way) o ≡ Some inner → (before : ℕ) × LiesIn typ (next ∷ way) inner before
    by deep (Some mid) t h =
        let first = inside_step next typ mid t in
        let rest = deep mid h in (
          first.0 + rest.0,
          λ j leaf at.
              let d = rest.1 j leaf at in
              let out = first.1.each (rest.0 + j) d.1 d.2 in
              (out.0, under (next ∷ []) out.0 d.1, ap (slice_get (leaves typ)) (sym (further first.0 rest.0 j)) ∙ out.1, ap (λ p. next ∷ p) d.3),
        )
    by deep None t h = absurd (none_some h)

-- Of two ways that lead to one leaf one goes on from the other.
pub data Apart (a b : List PathStep) : Type 0 where
  onward : (more : List PathStep) → b ≡ a ++ more → Apart a b
  back : (more : List PathStep) → a ≡ b ++ more → Apart a b

head_same : {A : Type 0} {x y : A} {xs ys : List A} → (x ∷ xs) ≡ (y ∷ ys) → x ≡ y
head_same e = cc

tail_same : {A : Type 0} {x y : A} {xs ys : List A} → (x ∷ xs) ≡ (y ∷ ys) → xs ≡ ys
tail_same e = cc

pub one_goes_on : (a b p q : List PathStep) → a ++ p ≡ b ++ q → Apart a b
one_goes_on [] b p q e = onward b refl
one_goes_on (x ∷ a) [] p q e = back (x ∷ a) refl
one_goes_on (x ∷ a) (y ∷ b) p q e = more (one_goes_on a b p q (tail_same e)) (head_same e)
  where
    more : Apart a b → x ≡ y → Apart (x ∷ a) (y ∷ b)
    more (onward d h) s = onward d (ap₂ (λ u v. u ∷ v) (sym s) h)
    more (back d h) s = back d (ap₂ (λ u v. u ∷ v) s h)

pub same_front : (a b p q : List PathStep) → length a ≡ length b → a ++ p ≡ b ++ q → a ≡ b
same_front [] [] p q l e = refl
same_front [] (y ∷ b) p q l e = absurd (omega (arith, l))
same_front (x ∷ a) [] p q l e = absurd (omega (arith, l))
same_front (x ∷ a) (y ∷ b) p q l e = ap₂ (λ u v. u ∷ v) (head_same e) (same_front a b p q (omega (arith, l)) (tail_same e))

pub nothing_behind : (d p : List PathStep) → p ≡ d ++ p → d ≡ []
nothing_behind [] p e = refl
nothing_behind (x ∷ d) p e = absurd (never (length p) (length d) (ap length e ∙ counted))
  where
    counted : length ((x ∷ d) ++ p) ≡ suc (length d + length p)
    counted = grind (arith, common_steps)

    never : (n k : ℕ) → n ≡ suc (k + n) → ⊥
    never n k e = omega (arith, e)
