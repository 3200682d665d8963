-- Parts of components that references name: their leaves are leaves of the components, of the same types.
use Rattle.std.proofs.Common.{◌≡◌, ℕ, zero, suc, ◌<◌, ◌==◌, Bool, true, false, List, [], ◌∷◌, ◌++◌, map, fold, Option, Some, None, IsSome, ℤ, pos, negsuc, nat_lt, refl, sym, ap, ◌∙◌, subst, arith, append_assoc, if◌then◌else◌, option_map, ◌⊎◌, inl, inr, true≢false}
use Rattle.std.specs.Prelude.{Contains}
use Rattle.std.proofs.lemmas.Grind.{common_steps}
use Rattle.std.proofs.lemmas.Bool.{ltb-true, cases_order}
use Rattle.std.proofs.lemmas.List.Elements.{Contains-append_left, Contains-append_right}
use Rattle.fir_types.specs.declared.fir_type.FirType.{FirType}
use Rattle.fir_types.specs.declared.fir_type.Shape.TheViews.{out-Shape}
use Rattle.fir_types.specs.declared.fir_type.Field.{Field}
use Rattle.fir_types.specs.declared.leaf.TypeLeaf.{TypeLeaf}
use Rattle.fir_types.specs.declared.leaf.PathStep.{PathStep}
use Rattle.fir_types.specs.declared.leaf.PathStep.TheVariants as step
use Rattle.fir_types.specs.Leaves.{leaves, field_leaves, elements, under}
use Rattle.fir_types.proofs.Layers.{leaves-bundle, leaves-vector, leaves-field}
use Rattle.fir_tree.specs.declared.expr.Expr.{Expr, the_lemmas as expr_lemmas}
use Rattle.fir_tree.specs.declared.expr.Form.{Form, fold-Form}
use Rattle.fir_tree.specs.declared.expr.Suffix.{Suffix, ind-Suffix}
use Rattle.fir_tree.specs.declared.expr.Form.TheOpen.{Form-F, Suffix-F}
use Rattle.fir_tree.specs.declared.expr.Form.TheFolds.{map-Form, map-Suffix, fold-roll-Suffix}
use Rattle.fir_tree.specs.declared.expr.Form.TheViews.{roll-Suffix, out-Form}
use Rattle.fir_meaning.specs.Values as values
use Rattle.fir_meaning.specs.Values.{Scene, Spot, InScene, value, suffix_step, part_of, further, whole, follow, element_step, field_type, element_type, or_itself, field_of_shape, element_of_shape, vector_length, spot_of, spot_of_form}
use Rattle.fir_meaning.specs.WellTyped as kinds
use Rattle.fir_meaning.specs.WellTyped.{Known, InKnown, Onward, typed, typed_step, type_behind, is_typed, is_one_unsigned}
use Rattle.fir_meaning.proofs.Ports.{found, same_number}
use Rattle.fir_meaning.proofs.Tracking.{none_some, some_same, Contains-map, Contains-flat_map}
use Rattle.circuit_laws.proofs.Pieces.{IsField, IsElement, field_there, element_there}

-- each leaf of the part is one of the whole, behind this way
abbrev pub Inside : FirType → FirType → List PathStep → Type 0
Inside all typ way = (l : TypeLeaf) → Contains (leaves typ) l → (big : TypeLeaf) × Contains (leaves all) big × (big.path ≡ way ++ l.path) × (big.typ ≡ l.typ)

inside_field : (all typ part : FirType) (way : List PathStep) (name : ℕ) → IsField typ name part → Inside all typ way → Inside all part (way ++ step.Field name ∷ [])
inside_field all typ part way name f inside = λ l c.
    let it = f.field in
    let test = found (λ (x : Field). x.name.id == name) f.fields it f.found in
    let up = under (step.Field it.name.id ∷ []) it.flip l in
    let own : Contains (field_leaves it) up =
    subst (λ ls. Contains ls up) (sym (leaves-field it)) (Contains-map (under (step.Field it.name.id ∷ []) it.flip) (leaves it.typ) l (subst (λ t. Contains (leaves t) l) (sym f.part_is) c)) in
    let there : Contains (leaves typ) up = subst (λ ls. Contains ls up) (sym (leaves-bundle typ f.fields f.is)) (Contains-flat_map field_leaves f.fields it up test.1 own) in
    let big = inside up there in
    (big.0, big.1, big.2 ∙ (ap (λ n. way ++ (step.Field n ∷ l.path)) (same_number it.name.id name test.0) ∙ sym (append_assoc way (step.Field name ∷ []) l.path)), big.3)

element_in : (ls : List TypeLeaf) (l : TypeLeaf) (n k : ℕ) → Contains ls l → k < n → Contains (elements ls n) (under (step.Element k ∷ []) false l)
element_in ls l zero k c h = absurd (omega (arith, h))
element_in ls l (suc n) k c h = by (cases_order k n) (element_in ls l n k c) where
  by : (k ≡ n) ⊎ ((k < n) ⊎ (n < k)) → (k < n → Contains (elements ls n) (under (step.Element k ∷ []) false l)) → Contains (elements ls (suc n)) (under (step.Element k ∷ []) false l)
  by (inl e) front = subst (λ j. Contains (elements ls (suc n)) (under (step.Element j ∷ []) false l)) (sym e)
      (Contains-append_right (elements ls n) (map (under (step.Element n ∷ []) false) ls) (under (step.Element n ∷ []) false l) (Contains-map (under (step.Element n ∷ []) false) ls l c))
  by (inr (inl below)) front = Contains-append_left (elements ls n) (map (under (step.Element n ∷ []) false) ls) (under (step.Element k ∷ []) false l) (front below)
  by (inr (inr above)) front = absurd (omega (arith, above, h))

inside_element : (all typ part : FirType) (way : List PathStep) (k : ℕ) → IsElement typ part → k < vector_length typ → Inside all typ way → Inside all part (way ++ step.Element k ∷ [])
inside_element all typ part way k e h inside = λ l c.
    let up = under (step.Element k ∷ []) false l in
    let there : Contains (leaves typ) up =
    subst (λ ls. Contains ls up) (sym (leaves-vector typ part e.length e.is)) (element_in (leaves part) l e.length k c (subst (λ n. k < n) e.counted h)) in
    let big = inside up there in
    (big.0, big.1, big.2 ∙ sym (append_assoc way (step.Element k ∷ []) l.path), big.3)

-- the same of a spot in the component of a name
abbrev pub InsideAt : FirType → ℕ → Spot → Type 0
InsideAt all name spot = (spot.component ≡ name) × ((way : List PathStep) → spot.way ≡ Some way → Inside all spot.typ way)

further_some : (a : Option (List PathStep)) (o : Option PathStep) (way : List PathStep) → further a o ≡ Some way → (w : List PathStep) × (st : PathStep) × (a ≡ Some w) × (o ≡ Some st) × (w ++ st ∷ [] ≡ way)
further_some (Some w) (Some st) way e = (w, st, refl, refl, some_same _ way e)
further_some (Some w) None way e = absurd (none_some e)
further_some None o way e = absurd (none_some e)

moved : (all : FirType) (name : ℕ) (spot : Spot) (typ next : FirType) (o : Option PathStep) → typ ≡ next → InsideAt all name spot
    → ((way : List PathStep) (st : PathStep) → o ≡ Some st → Inside all spot.typ way → Inside all next (way ++ st ∷ [])) → InsideAt all name (part_of spot typ o) × ((part_of spot typ o).typ ≡ next)
moved all name spot typ next o same i h = (
  (
    i.0,
    λ way e.
        let parts = further_some spot.way o way e in
        subst (Inside all typ) parts.4 (subst (λ t. Inside all t (parts.0 ++ parts.1 ∷ [])) (sym same) (h parts.0 parts.1 parts.3 (i.1 parts.0 parts.2))),
  ),
  same,
)

if_some : {A : Type 0} (b : Bool) (o : Option A) (x : A) → (if b then o else None) ≡ Some x → (b ≡ true) × (o ≡ Some x)
if_some true o x e = (refl, e)
if_some false o x e = absurd (none_some e)

element_step_some : (length : ℕ) (n : ℤ) (st : PathStep) → element_step length n ≡ Some st → (k : ℕ) × (k < length) × (st ≡ step.Element k)
element_step_some length (pos n) st e =
    let both = if_some (nat_lt n length) (Some (step.Element n)) st e in
    (n, ltb-true n length both.0, sym (some_same _ st both.1))
element_step_some length (negsuc n) st e = absurd (none_some e)

-- Steps of a reference

abbrev form_value : Form → InScene
form_value = fold-Form InScene (Scene → Spot → Spot) InScene values.of_form values.of_suffix values.of_expr

abbrev form_typed : Form → InKnown
form_typed = fold-Form InKnown Onward InKnown kinds.of_form kinds.of_suffix kinds.of_expr

abbrev StaysInside : Suffix → Type 0
StaysInside s = (known : Known) (scene : Scene) (all next : FirType) (name : ℕ) (spot : Spot) → typed_step s known spot.typ ≡ Some next → InsideAt all name spot
    → InsideAt all name (suffix_step s scene spot) × ((suffix_step s scene spot).typ ≡ next)

suffix_at : (z : Suffix-F Form Suffix Expr)
    → ((known : Known) (scene : Scene) (all next : FirType) (name : ℕ) (spot : Spot) → kinds.of_suffix (map-Suffix Form Suffix Expr InKnown Onward InKnown form_typed typed_step typed z) known spot.typ ≡ Some next → InsideAt all name spot
    → InsideAt all name (values.of_suffix (map-Suffix Form Suffix Expr InScene (Scene → Spot → Spot) InScene form_value suffix_step value z) scene spot)
    × ((values.of_suffix (map-Suffix Form Suffix Expr InScene (Scene → Spot → Spot) InScene form_value suffix_step value z) scene spot).typ ≡ next))
    → StaysInside (roll-Suffix z)
suffix_at z h known scene all next name spot e i =
    subst (λ (f : Scene → Spot → Spot). InsideAt all name (f scene spot) × ((f scene spot).typ ≡ next)) (sym (fold-roll-Suffix InScene (Scene → Spot → Spot) InScene values.of_form values.of_suffix values.of_expr z))
    (h known scene all next name spot (ap (λ f. f known spot.typ) (sym (fold-roll-Suffix InKnown Onward InKnown kinds.of_form kinds.of_suffix kinds.of_expr z)) ∙ e) i)

suffix_case : (z : Suffix-F Form Suffix Expr) → StaysInside (roll-Suffix z)
suffix_case (Suffix-F.Field n) = suffix_at (Suffix-F.Field n) (λ known scene all next name spot e i.
    moved all name spot (field_type n.id spot.typ) next (Some (step.Field n.id)) (ap (or_itself spot.typ) e) i
    (λ way st is inside. subst (λ s. Inside all next (way ++ s ∷ [])) (some_same _ st is) (inside_field all spot.typ next way n.id (field_there spot.typ n.id next e) inside)))
suffix_case (Suffix-F.At bracket place n) = suffix_at (Suffix-F.At bracket place n) (λ known scene all next name spot e i.
    let both = if_some (nat_lt n (vector_length spot.typ)) (element_of_shape (out-Shape spot.typ.shape)) next e in
    moved all name spot (element_type spot.typ) next (Some (step.Element n)) (ap (or_itself spot.typ) both.1) i
    (λ way st is inside. subst (λ s. Inside all next (way ++ s ∷ [])) (some_same _ st is)
    (inside_element all spot.typ next way n (element_there spot.typ next both.1) (ltb-true n (vector_length spot.typ) both.0) inside)))
suffix_case (Suffix-F.Index bracket index) = suffix_at (Suffix-F.Index bracket index) (λ known scene all next name spot e i.
    let both = if_some (is_one_unsigned (typed index known)) (element_of_shape (out-Shape spot.typ.shape)) next e in
    moved all name spot (element_type spot.typ) next (element_step (vector_length spot.typ) _) (ap (or_itself spot.typ) both.1) i
    (λ way st is inside.
    let k = element_step_some (vector_length spot.typ) _ st is in
    subst (λ s. Inside all next (way ++ s ∷ [])) (sym k.2) (inside_element all spot.typ next way k.0 (element_there spot.typ next both.1) k.1 inside)))

stays_inside : (s : Suffix) → StaysInside s
stays_inside = ind-Suffix (λ (f : Form). ℕ) StaysInside (λ (e : Expr). ℕ) (λ x y is. zero) (λ x y is. subst (λ z. StaysInside (roll-Suffix z)) is (suffix_case (map-Suffix _ _ _ Form Suffix Expr (λ e. e.0) (λ e. e.0) (λ e. e.0) y))) (λ x y is. zero)

behind_none : (known : Known) (steps : List Onward) → type_behind known steps None ≡ None
behind_none known [] = refl
behind_none known (s ∷ ss) = behind_none known ss

no_some : {A : Type 0} (o : Option A) → o ≡ None → IsSome o → ⊥
no_some (Some x) e h = none_some (sym e)
no_some None e h = true≢false (sym h)

follow_inside : (known : Known) (scene : Scene) (all : FirType) (name : ℕ) (ss : List Suffix) (spot : Spot) → IsSome (type_behind known (map typed_step ss) (Some spot.typ)) → InsideAt all name spot
    → InsideAt all name (fold (λ at next. next scene at) spot (map suffix_step ss))
follow_inside known scene all name [] spot t i = i
follow_inside known scene all name (s ∷ ss) spot t i = by (typed_step s known spot.typ) refl t (follow_inside known scene all name ss (suffix_step s scene spot))
  where
    by : (o : Option FirType) → typed_step s known spot.typ ≡ o → IsSome (type_behind known (map typed_step ss) o)
        → (IsSome (type_behind known (map typed_step ss) (Some (suffix_step s scene spot).typ)) → InsideAt all name (suffix_step s scene spot) → InsideAt all name (fold (λ at next. next scene at) (suffix_step s scene spot) (map suffix_step ss)))
        → InsideAt all name (fold (λ at next. next scene at) (suffix_step s scene spot) (map suffix_step ss))
    by (Some next) e t rest =
        let to = stays_inside s known scene all next name spot e i in
        rest (subst (λ u. IsSome (type_behind known (map typed_step ss) (Some u))) (sym to.1) t) to.0
    by None e t rest = absurd (no_some (type_behind known (map typed_step ss) None) (behind_none known (map typed_step ss)) t)

-- References

typed_out : (e : Expr) → typed e ≡ kinds.of_form (map-Form Form Suffix Expr InKnown Onward InKnown form_typed typed_step typed (out-Form e.form))
typed_out e = grind (arith, common_steps, expr_lemmas)

mapped_is : {A B : Type 0} (f : A → B) (o : Option A) → IsSome (option_map f o) → IsSome o
mapped_is f (Some x) e = refl
mapped_is f None e = absurd (no_some (option_map f None) refl e)

whole_inside : (scene : Scene) (name : ℕ) → InsideAt (scene.types name) name (whole scene name)
whole_inside scene name = (refl, λ way e. subst (Inside (scene.types name) (scene.types name)) (some_same [] way e) (λ l c. (l, c, refl, refl)))

module _ (known : Known) (scene : Scene) (fits : (name : ℕ) (typ : FirType) → known name ≡ Some typ → scene.types name ≡ typ) where
  form_inside : (f : Form-F Form Suffix Expr) (spot : Spot) → spot_of_form scene f ≡ Some spot → IsSome (kinds.of_form (map-Form Form Suffix Expr InKnown Onward InKnown form_typed typed_step typed f) known)
      → InsideAt (scene.types spot.component) spot.component spot
  form_inside (Form-F.Ref n ss) spot is t =
      let there : IsSome (type_behind known (map typed_step ss) (known n.id)) = mapped_is _ (type_behind known (map typed_step ss) (known n.id)) t in
      let at : InsideAt (scene.types n.id) n.id (follow scene n.id (map suffix_step ss)) = by (known n.id) refl there in
      subst (λ s. InsideAt (scene.types s.component) s.component s) (some_same _ spot is)
      (subst (λ c. InsideAt (scene.types c) c (follow scene n.id (map suffix_step ss))) (sym at.0) at)
    where
      by : (o : Option FirType) → known n.id ≡ o → IsSome (type_behind known (map typed_step ss) o) → InsideAt (scene.types n.id) n.id (follow scene n.id (map suffix_step ss))
      by (Some typ) e t =
          follow_inside known scene (scene.types n.id) n.id ss (whole scene n.id) (subst (λ u. IsSome (type_behind known (map typed_step ss) (Some u))) (sym (fits n.id typ e)) t) (whole_inside scene n.id)
      by None e t = absurd (no_some (type_behind known (map typed_step ss) None) (behind_none known (map typed_step ss)) t)
  form_inside (Form-F.Literal kind width n) spot is t = absurd (none_some is)
  form_inside (Form-F.Prim prim operands params) spot is t = absurd (none_some is)
  form_inside (Form-F.Mux operands) spot is t = absurd (none_some is)

  -- What a well typed reference names is a part of its component.
  pub reference_inside : (e : Expr) (spot : Spot) → spot_of scene e ≡ Some spot → is_typed known e ≡ true → InsideAt (scene.types spot.component) spot.component spot
  reference_inside e spot is t = form_inside (out-Form e.form) spot is (subst (λ (f : InKnown). IsSome (f known)) (typed_out e) t)
