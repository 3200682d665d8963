-- What a well typed expression has: its values have its kinds and widths, and it mentions leaves of components.
use Rattle.std.proofs.Common.{◌≡◌, ℕ, zero, suc, ◌+◌, ◌<◌, ◌≤◌, Bool, true, false, cond, ◌&&◌, List, [], ◌∷◌, ◌++◌, map, fold, zip, length, Option, Some, None, refl, sym, ap, ap₂, ◌∙◌, subst, arith, ⊎_elim, append_assoc}
use Rattle.std.proofs.lemmas.List.Elements.{Contains-append_left, Contains-append_right, Contains-append_cases}
use Rattle.std.specs.Prelude.{Contains, min, max, nat_le, nat_lt, option_map, option_and_then}
use Rattle.std.specs.List.{flat_map, range_with_len}
use Rattle.std.proofs.lemmas.Bool.{leb-true, ltb-true}
use Rattle.std.proofs.lemmas.List.{length-map}
use Rattle.bit_words.specs.declared.value.Kind.{Kind}
use Rattle.bit_words.specs.declared.value.Kind.TheVariants.{Unsigned, Signed}
use Rattle.bit_words.specs.Numbers.{integer_of_number}
use Rattle.fir_types.specs.declared.fir_type.FirType.{FirType}
use Rattle.fir_types.specs.declared.fir_type.Shape.TheViews.{out-Shape}
use Rattle.fir_types.specs.declared.leaf.TypeLeaf.{TypeLeaf}
use Rattle.fir_types.specs.declared.leaf.PathStep.{PathStep}
use Rattle.fir_types.specs.declared.leaf.PathStep.TheVariants as step
use Rattle.fir_types.specs.Leaves.{leaves}
use Rattle.prim_ops.specs.declared.operation.PrimOp.{PrimOp}
use Rattle.prim_ops.specs.Kinds.{row_kind}
use Rattle.fir_tree.specs.declared.expr.Expr.{Expr, ind-Expr}
use Rattle.fir_tree.specs.declared.expr.Form.{Form, fold-Form}
use Rattle.fir_tree.specs.declared.expr.Suffix.{Suffix, fold-Suffix}
use Rattle.fir_tree.specs.declared.expr.Form.TheOpen.{Form-F, Suffix-F, Expr-F}
use Rattle.fir_tree.specs.declared.expr.Form.TheFolds.{map-Form, map-Suffix, map-Expr, fold-roll-Form, fold-roll-Suffix, fold-roll-Expr}
use Rattle.fir_tree.specs.declared.expr.Form.TheViews.{roll-Form, roll-Suffix, roll-Expr}
use Rattle.prim_ops.specs.Shapes.{Shape, shaped, same_kind, all_of, is_row, width_of_row, shape_of_row}
use Rattle.fir_meaning.specs.Components.{Leaf, kind_of_leaf, width_of_leaf}
use Rattle.fir_meaning.specs.Values.{field_type, element_type, field_of_shape, element_of_shape, vector_length, or_itself, kind_or_unsigned, literal_width}
use Rattle.fir_meaning.specs.Mentions as mention
use Rattle.fir_meaning.specs.Mentions.{Scope, Region, InScope, joined, mentions, suffix_onward, leaves_at, whole_region, follow_all, behind_each, elements_behind, of_choice}
use Rattle.fir_meaning.specs.WellTyped as typing
use Rattle.fir_meaning.specs.WellTyped.{Known, InKnown, Onward, typed, type_behind, is_one_unsigned, wider, wider_each, chosen_shapes, literal_shape, is_narrow}
use Rattle.fir_names.proofs.Graphs.{some_same}
use Rattle.circuit_laws.specs.Names.{Every}
use Rattle.circuit_laws.specs.Shapes as shaping
use Rattle.circuit_laws.specs.Shapes.{InTypes, TypeStep, fitted_shape, type_along, either_shape, shapes, type_step}
use Rattle.circuit_laws.proofs.Pieces.{mapped_some, IsLeafAt, field_there, element_there, field_leaf, element_leaf, narrow_field, narrow_element, narrow_leaves}
use Rattle.fir_names.proofs.Members.{Contains-first, Contains-later, Contains-none, Contains-one, Contains-from_map, Contains-from_flat_map}

-- Options

pub and_then_some : {X Y : Type 0} (f : X → Option Y) (o : Option X) (y : Y) → option_and_then f o ≡ Some y → (x : X) × (o ≡ Some x) × (f x ≡ Some y)
and_then_some f None y e = cc
and_then_some f (Some x) y e = (x, refl, e)

pub if_some : {X : Type 0} (b : Bool) (o : Option X) (x : X) → cond b o None ≡ Some x → (b ≡ true) × (o ≡ Some x)
if_some true o x e = (refl, e)
if_some false o x e = cc

left_is : (a b : Bool) → (a && b) ≡ true → a ≡ true
left_is true b e = refl
left_is false b e = cc

right_is : (a b : Bool) → (a && b) ≡ true → b ≡ true
right_is true b e = e
right_is false b e = cc

-- Kinds

pub same_kind_is : (a b : Kind) → same_kind a b ≡ true → a ≡ b
same_kind_is Unsigned Unsigned e = refl
same_kind_is Signed Signed e = refl
same_kind_is Unsigned Signed e = cc
same_kind_is Signed Unsigned e = cc

abbrev IsNarrowShape : Shape → Type 0
IsNarrowShape s = s.width ≤ 128

capped : (kind : Kind) (width : ℕ) → width ≤ 128 → fitted_shape kind width ≡ shaped kind width
capped kind width h = let e : min width 128 ≡ width = omega (arith, h) in ap (shaped kind) e

leaves_capped : (ls : List TypeLeaf) → ((l : TypeLeaf) → Contains ls l → width_of_leaf l ≤ 128) → map shaping.leaf_shape ls ≡ map typing.leaf_shape ls
leaves_capped [] h = refl
leaves_capped (l ∷ ls) h = ap₂ (λ x xs. x ∷ xs) (capped (kind_of_leaf l) (width_of_leaf l) (h l (Contains-first ls))) (leaves_capped ls (λ m i. h m (Contains-later l ls i)))

leaves_narrow : (ls : List TypeLeaf) → ((l : TypeLeaf) → Contains ls l → width_of_leaf l ≤ 128) → Every Shape IsNarrowShape (map typing.leaf_shape ls)
leaves_narrow [] h = tt
leaves_narrow (l ∷ ls) h = (h l (Contains-first ls), leaves_narrow ls (λ m i. h m (Contains-later l ls i)))

record Widened (ss ts us : List Shape) : Type 0 where
  chosen : map either_shape (zip ss ts) ≡ us
  narrow : Every Shape IsNarrowShape us
  first : length us ≡ length ss
  second : length ss ≡ length ts

one_wider : (s t u : Shape) → wider s t ≡ Some u → IsNarrowShape s → IsNarrowShape t → (either_shape (s, t) ≡ u) × IsNarrowShape u
one_wider s t u e n m =
    let both = if_some (same_kind s.kind t.kind) (Some (shaped s.kind (max s.width t.width))) u e in
    let is : shaped s.kind (max s.width t.width) ≡ u = some_same both.1 in
    let small : max s.width t.width ≤ 128 = omega (arith, n, m) in
    (capped s.kind (max s.width t.width) small ∙ is, subst IsNarrowShape is small)

widened : (ss ts us : List Shape) → wider_each ss ts ≡ Some us → Every Shape IsNarrowShape ss → Every Shape IsNarrowShape ts → Widened ss ts us
widened [] [] us e n m = let is : [] ≡ us = some_same e in subst (Widened [] []) is (record { chosen = refl; narrow = tt; first = refl; second = refl })
widened [] (t ∷ ts) us e n m = cc
widened (s ∷ ss) [] us e n m = cc
widened (s ∷ ss) (t ∷ ts) us e n m =
    let one = and_then_some (λ u. option_map (λ us. u ∷ us) (wider_each ss ts)) (wider s t) us e in
    let rest = mapped_some (λ vs. one.0 ∷ vs) (wider_each ss ts) us one.2 in
    let w = one_wider s t one.0 one.1 n.0 m.0 in
    let r = widened ss ts rest.0 rest.1 n.1 m.1 in
    subst (Widened (s ∷ ss) (t ∷ ts)) rest.2 (record {
      chosen = ap₂ (λ x xs. x ∷ xs) w.0 r.chosen;
      narrow = (w.1, r.narrow);
      first = ap suc r.first;
      second = ap suc r.second;
    })

length-zipped : {X Y Z : Type 0} (f : X × Y → Z) (xs : List X) (ys : List Y) → length xs ≡ length ys → length (map f (zip xs ys)) ≡ length xs
length-zipped f [] [] e = refl
length-zipped f [] (y ∷ ys) e = absurd (omega arith)
length-zipped f (x ∷ xs) [] e = absurd (omega arith)
length-zipped f (x ∷ xs) (y ∷ ys) e = ap suc (length-zipped f xs ys (omega arith))

-- The components that are known have the types of a scope, and are narrow.
pub record Fits (known : Known) (types : Scope) : Type 0 where
  pub same : (name : ℕ) (typ : FirType) → known name ≡ Some typ → types name ≡ typ
  pub narrow : (name : ℕ) (typ : FirType) → known name ≡ Some typ → is_narrow typ ≡ true

-- a leaf of a component that is known
pub record IsLeafIn (known : Known) (y : Leaf) : Type 0 where
  pub typ : FirType
  pub is : known y.component ≡ Some typ
  pub at : IsLeafAt typ y.way

module _ (known : Known) (types : Scope) (fits : Fits known types) where
  -- what is found of an expression
  record Told (sh : List Shape) (me : List (List Leaf)) (ss : List Shape) : Type 0 where
    pub same : sh ≡ ss
    pub narrow : Every Shape IsNarrowShape ss
    pub counted : length me ≡ length ss
    pub among : (y : Leaf) → Contains (joined me) y → IsLeafIn known y

  -- what a reference may name, so far: parts of this component
  record IsGood (whole : FirType) (region : Region) : Type 0 where
    pub component : known region.component ≡ Some whole
    pub ways : (way : List PathStep) → Contains region.ways way → (l : TypeLeaf) → Contains (leaves region.typ) l → IsLeafAt whole (way ++ l.path)
    pub indices : (y : Leaf) → Contains region.indices y → IsLeafIn known y

  record StepTold (s : Suffix) (typ next : FirType) : Type 0 where
    pub type_is : type_step s typ ≡ next
    pub narrow : is_narrow typ ≡ true → is_narrow next ≡ true
    pub region : (whole : FirType) (r : Region) → r.typ ≡ typ → IsGood whole r → IsGood whole (suffix_onward s types r) × ((suffix_onward s types r).typ ≡ next)

  abbrev form_typed : Form → InKnown
  form_typed = fold-Form InKnown Onward InKnown typing.of_form typing.of_suffix typing.of_expr

  abbrev suffix_typed : Suffix → Onward
  suffix_typed = fold-Suffix InKnown Onward InKnown typing.of_form typing.of_suffix typing.of_expr

  abbrev form_shapes : Form → InTypes
  form_shapes = fold-Form InTypes TypeStep InTypes shaping.of_form shaping.of_suffix shaping.of_expr

  abbrev form_mentions : Form → InScope
  form_mentions = fold-Form InScope mention.Onward InScope mention.of_form mention.of_suffix mention.of_expr

  abbrev FormTold : Form → Type 0
  FormTold φ = (ss : List Shape) → form_typed φ known ≡ Some ss → Told (form_shapes φ types) (form_mentions φ types) ss

  abbrev SuffixTold : Suffix → Type 0
  SuffixTold s = (typ next : FirType) → suffix_typed s known typ ≡ Some next → StepTold s typ next

  abbrev ExprTold : Expr → Type 0
  ExprTold e = (ss : List Shape) → typed e known ≡ Some ss → Told (shapes e types) (mentions e types) ss

  -- Steps

  suffix_at : (z : Suffix-F Form Suffix Expr)
      → ((typ next : FirType) → typing.of_suffix (map-Suffix Form Suffix Expr InKnown Onward InKnown form_typed suffix_typed typed z) known typ ≡ Some next
      → (shaping.of_suffix (map-Suffix Form Suffix Expr InTypes TypeStep InTypes form_shapes type_step shapes z) typ ≡ next)
      × (is_narrow typ ≡ true → is_narrow next ≡ true)
      × ((whole : FirType) (r : Region) → r.typ ≡ typ → IsGood whole r
      → IsGood whole (mention.of_suffix (map-Suffix Form Suffix Expr InScope mention.Onward InScope form_mentions suffix_onward mentions z) types r)
      × ((mention.of_suffix (map-Suffix Form Suffix Expr InScope mention.Onward InScope form_mentions suffix_onward mentions z) types r).typ ≡ next)))
      → SuffixTold (roll-Suffix z)
  suffix_at z h typ next e =
      let t = fold-roll-Suffix InKnown Onward InKnown typing.of_form typing.of_suffix typing.of_expr z in
      let s = fold-roll-Suffix InTypes TypeStep InTypes shaping.of_form shaping.of_suffix shaping.of_expr z in
      let m = fold-roll-Suffix InScope mention.Onward InScope mention.of_form mention.of_suffix mention.of_expr z in
      let told = h typ next (ap (λ f. f known typ) (sym t) ∙ e) in
      record {
        type_is = ap (λ f. f typ) s ∙ told.0;
        narrow = told.1;
        region = λ whole r is good. subst (λ f. IsGood whole (f types r) × ((f types r).typ ≡ next)) (sym m) (told.2 whole r is good);
      }

  field_told : (name : ℕ) (typ next : FirType) → field_of_shape name (out-Shape typ.shape) ≡ Some next → field_type name typ ≡ next
  field_told name typ next e = ap (or_itself typ) e

  element_told : (typ next : FirType) → element_of_shape (out-Shape typ.shape) ≡ Some next → element_type typ ≡ next
  element_told typ next e = ap (or_itself typ) e

  -- the ways behind a step of each way
  good_behind : (whole typ next : FirType) (to : PathStep) (ways : List (List PathStep))
      → ((l : TypeLeaf) → Contains (leaves next) l → IsLeafAt typ (to ∷ l.path))
      → ((way : List PathStep) → Contains ways way → (l : TypeLeaf) → Contains (leaves typ) l → IsLeafAt whole (way ++ l.path))
      → (way : List PathStep) → Contains (behind_each ways to) way → (l : TypeLeaf) → Contains (leaves next) l → IsLeafAt whole (way ++ l.path)
  good_behind whole typ next to ways inside h way i l j =
      let from = Contains-from_map (λ w. w ++ to ∷ []) ways way i in
      let part = inside l j in
      let there' = h from.0 from.1 part.leaf part.listed in
      let at : from.0 ++ part.leaf.path ≡ way ++ l.path = ap (λ p. from.0 ++ p) part.at ∙ sym (append_assoc from.0 (to ∷ []) l.path) ∙ ap (λ w. w ++ l.path) from.2 in
      record { leaf = there'.leaf; listed = there'.listed; at = there'.at ∙ at }

  in_range : (from n k : ℕ) → Contains (range_with_len from n) k → k < from + n
  in_range from zero k i = absurd (Contains-none i)
  in_range from (suc n) k i = ⊎_elim (λ l. omega (arith, Contains-one l)) (λ r. omega (arith, in_range (from + 1) n k r)) (Contains-append_cases (from ∷ []) (range_with_len (from + 1) n) _ i)

  field_region : (name : ℕ) (typ next : FirType) (f : field_of_shape name (out-Shape typ.shape) ≡ Some next) (whole : FirType) (r : Region) → r.typ ≡ typ → IsGood whole r
      → IsGood whole (record r { typ = field_type name r.typ; ways = behind_each r.ways (step.Field name) }) × (field_type name r.typ ≡ next)
  field_region name typ next f whole r is good =
      let same : field_type name r.typ ≡ next = ap (field_type name) is ∙ field_told name typ next f in (
        record {
          component = good.component;
          ways = λ way i l j. good_behind whole typ next (step.Field name) r.ways (field_leaf typ next name (field_there typ name next f))
              (λ w k m n. good.ways w k m (subst (λ t. Contains (leaves t) m) (sym is) n)) way i l (subst (λ t. Contains (leaves t) l) same j);
          indices = good.indices;
        },
        same,
      )

  at_region : (n : ℕ) (typ next : FirType) → n < vector_length typ → element_of_shape (out-Shape typ.shape) ≡ Some next → (whole : FirType) (r : Region) → r.typ ≡ typ → IsGood whole r
      → IsGood whole (record r { typ = element_type r.typ; ways = behind_each r.ways (step.Element n) }) × (element_type r.typ ≡ next)
  at_region n typ next below e whole r is good =
      let same : element_type r.typ ≡ next = ap element_type is ∙ element_told typ next e in (
        record {
          component = good.component;
          ways = λ way i l j. good_behind whole typ next (step.Element n) r.ways (element_leaf typ next n (element_there typ next e) below)
              (λ w k m o. good.ways w k m (subst (λ t. Contains (leaves t) m) (sym is) o)) way i l (subst (λ t. Contains (leaves t) l) same j);
          indices = good.indices;
        },
        same,
      )

  index_region : (mentioned : List (List Leaf)) (typ next : FirType) → element_of_shape (out-Shape typ.shape) ≡ Some next → ((y : Leaf) → Contains (joined mentioned) y → IsLeafIn known y)
      → (whole : FirType) (r : Region) → r.typ ≡ typ → IsGood whole r
      → IsGood whole (record r { typ = element_type r.typ; ways = elements_behind r.ways (vector_length r.typ); dynamic = true; indices = r.indices ++ joined mentioned })
      × (element_type r.typ ≡ next)
  index_region mentioned typ next e among whole r is good =
      let same : element_type r.typ ≡ next = ap element_type is ∙ element_told typ next e in (
        record {
          component = good.component;
          ways = λ way i l j.
              let from = Contains-from_flat_map (λ n. behind_each r.ways (step.Element n)) (range_with_len 0 (vector_length r.typ)) way i in
              let below : from.0 < vector_length typ = subst (λ t. from.0 < vector_length t) is (omega (arith, in_range 0 (vector_length r.typ) from.0 from.1)) in
              good_behind whole typ next (step.Element from.0) r.ways (element_leaf typ next from.0 (element_there typ next e) below)
              (λ w k m o. good.ways w k m (subst (λ t. Contains (leaves t) m) (sym is) o)) way from.2 l (subst (λ t. Contains (leaves t) l) same j);
          indices = λ y i. ⊎_elim (λ a. good.indices y a) (λ b. among y b) (Contains-append_cases r.indices (joined mentioned) _ i);
        },
        same,
      )

  one_is : (o : Option (List Shape)) → is_one_unsigned o ≡ true → (s : Shape) × (o ≡ Some (s ∷ []))
  one_is None e = cc
  one_is (Some []) e = cc
  one_is (Some (s ∷ [])) e = (s, refl)
  one_is (Some (s ∷ t ∷ ss)) e = cc

  suffix_case : (y : Suffix-F ((φ : Form) × FormTold φ) ((s : Suffix) × SuffixTold s) ((e : Expr) × ExprTold e))
      → SuffixTold (roll-Suffix (map-Suffix _ _ _ Form Suffix Expr (λ e. e.0) (λ e. e.0) (λ e. e.0) y))
  suffix_case (Suffix-F.Field name) = suffix_at (Suffix-F.Field name) (λ typ next e. (
    field_told name.id typ next e,
    narrow_field typ next name.id (field_there typ name.id next e),
    field_region name.id typ next e,
  ))
  suffix_case (Suffix-F.At bracket place n) = suffix_at (Suffix-F.At bracket place n) (λ typ next e.
      let both = if_some (nat_lt n (vector_length typ)) (element_of_shape (out-Shape typ.shape)) next e in (
        element_told typ next both.1,
        narrow_element typ next (element_there typ next both.1),
        at_region n typ next (ltb-true n (vector_length typ) both.0) both.1,
      ))
  suffix_case (Suffix-F.Index bracket p) = suffix_at (Suffix-F.Index bracket p.0) (λ typ next e.
      let both = if_some (is_one_unsigned (typed p.0 known)) (element_of_shape (out-Shape typ.shape)) next e in
      let one = one_is (typed p.0 known) both.0 in (
        element_told typ next both.1,
        narrow_element typ next (element_there typ next both.1),
        index_region (mentions p.0 types) typ next both.1 (p.1 (one.0 ∷ []) one.1).among,
      ))

  -- References

  none_behind : (steps : List Onward) → type_behind known steps None ≡ None
  none_behind [] = refl
  none_behind (s ∷ steps) = none_behind steps

  record Followed (whole : FirType) (along : FirType) (region : Region) (next : FirType) : Type 0 where
    pub along_is : along ≡ next
    pub region_is : region.typ ≡ next
    pub good : IsGood whole region
    pub narrow : is_narrow next ≡ true

  steps_told : (ps : List ((s : Suffix) × SuffixTold s)) (whole typ next : FirType) (r : Region) → type_behind known (map suffix_typed (map (λ e. e.0) ps)) (Some typ) ≡ Some next
      → r.typ ≡ typ → IsGood whole r → is_narrow typ ≡ true
      → Followed whole (type_along (map type_step (map (λ e. e.0) ps)) typ) (fold (λ region to. to types region) r (map suffix_onward (map (λ e. e.0) ps))) next
  steps_told [] whole typ next r e is good n =
      let same : typ ≡ next = some_same e in
      record { along_is = same; region_is = is ∙ same; good = good; narrow = subst (λ t. is_narrow t ≡ true) same n }
  steps_told (p ∷ ps) whole typ next r e is good n = by (suffix_typed p.0 known typ) refl (λ middle told r' is' good' n'. steps_told ps whole middle next r' told is' good' n') where
    by : (o : Option FirType) → suffix_typed p.0 known typ ≡ o
        → ((middle : FirType) → type_behind known (map suffix_typed (map (λ e. e.0) ps)) (Some middle) ≡ Some next → (r' : Region) → r'.typ ≡ middle → IsGood whole r' → is_narrow middle ≡ true
        → Followed whole (type_along (map type_step (map (λ e. e.0) ps)) middle) (fold (λ region to. to types region) r' (map suffix_onward (map (λ e. e.0) ps))) next)
        → Followed whole (type_along (map type_step (map (λ e. e.0) (p ∷ ps))) typ) (fold (λ region to. to types region) r (map suffix_onward (map (λ e. e.0) (p ∷ ps)))) next
    by None q rest = absurd (let f = sym (ap (type_behind known (map suffix_typed (map (λ e. e.0) ps))) q ∙ none_behind (map suffix_typed (map (λ e. e.0) ps))) ∙ e in cc)
    by (Some middle) q rest =
        let told : StepTold p.0 typ middle = p.1 typ middle q in
        let there' = told.region whole r is good in
        let f = rest middle (ap (type_behind known (map suffix_typed (map (λ e. e.0) ps))) (sym q) ∙ e) (suffix_onward p.0 types r) there'.1 there'.0 (told.narrow n) in
        record { along_is = ap (type_along (map type_step (map (λ e. e.0) ps))) told.type_is ∙ f.along_is; region_is = f.region_is; good = f.good; narrow = f.narrow }

  reference_among : (whole : FirType) (r : Region) → IsGood whole r → (ls : List TypeLeaf) → ((l : TypeLeaf) → Contains ls l → Contains (leaves r.typ) l)
      → (y : Leaf) → Contains (joined (map (λ leaf. r.indices ++ leaves_at r leaf.path) ls)) y → IsLeafIn known y
  reference_among whole r good ls h y i =
      let from = Contains-from_flat_map (λ (l : List Leaf). l) (map (λ (leaf : TypeLeaf). r.indices ++ leaves_at r leaf.path) ls) y i in
      let leaf = Contains-from_map (λ (leaf : TypeLeaf). r.indices ++ leaves_at r leaf.path) ls from.0 from.1 in
      let among : Contains (r.indices ++ leaves_at r leaf.0.path) y = subst (λ list. Contains list y) (sym leaf.2) from.2 in
      ⊎_elim (λ a. good.indices y a)
      (λ b.
      let way = Contains-from_map (λ (w : List PathStep). record { component = r.component; way = w ++ leaf.0.path }) r.ways y b in
      subst (IsLeafIn known) way.2 (record { typ = whole; is = good.component; at = good.ways way.0 way.1 leaf.0 (h leaf.0 leaf.1) }))
      (Contains-append_cases r.indices (leaves_at r leaf.0.path) _ among)

  reference_told : (name : ℕ) (ps : List ((s : Suffix) × SuffixTold s)) (ss : List Shape)
      → option_map (λ typ. map typing.leaf_shape (leaves typ)) (type_behind known (map suffix_typed (map (λ e. e.0) ps)) (known name)) ≡ Some ss
      → Told (map shaping.leaf_shape (leaves (type_along (map type_step (map (λ e. e.0) ps)) (types name))))
      (map (λ leaf. (follow_all types name (map suffix_onward (map (λ e. e.0) ps))).indices ++ leaves_at (follow_all types name (map suffix_onward (map (λ e. e.0) ps))) leaf.path)
      (leaves (follow_all types name (map suffix_onward (map (λ e. e.0) ps))).typ)) ss
  reference_told name ps ss e = by (known name) refl where
    by : (o : Option FirType) → known name ≡ o
        → Told (map shaping.leaf_shape (leaves (type_along (map type_step (map (λ e. e.0) ps)) (types name))))
        (map (λ leaf. (follow_all types name (map suffix_onward (map (λ e. e.0) ps))).indices ++ leaves_at (follow_all types name (map suffix_onward (map (λ e. e.0) ps))) leaf.path)
        (leaves (follow_all types name (map suffix_onward (map (λ e. e.0) ps))).typ)) ss
    by None q = absurd (let f = sym (ap (λ o. option_map (λ typ. map typing.leaf_shape (leaves typ)) (type_behind known (map suffix_typed (map (λ e. e.0) ps)) o)) q
        ∙ ap (option_map (λ typ. map typing.leaf_shape (leaves typ))) (none_behind (map suffix_typed (map (λ e. e.0) ps)))) ∙ e in cc)
    by (Some typ) q =
        let one = mapped_some (λ (t : FirType). map typing.leaf_shape (leaves t)) (type_behind known (map suffix_typed (map (λ e. e.0) ps)) (known name)) ss e in
        let same : types name ≡ typ = fits.same name typ q in
        let start : IsGood typ (whole_region types name) = record {
          component = q;
          ways = λ way i l j. record { leaf = l; listed = subst (λ t. Contains (leaves t) l) same j; at = ap (λ w. w ++ l.path) (sym (Contains-one i)) };
          indices = λ y i. absurd (Contains-none i);
        } in
        let f : Followed typ (type_along (map type_step (map (λ e. e.0) ps)) typ) (follow_all types name (map suffix_onward (map (λ e. e.0) ps))) one.0
        = steps_told ps typ typ one.0 (whole_region types name) (ap (type_behind known (map suffix_typed (map (λ e. e.0) ps))) (sym q) ∙ one.1) same start (fits.narrow name typ q) in
        let region : Region = follow_all types name (map suffix_onward (map (λ e. e.0) ps)) in
        subst (Told (map shaping.leaf_shape (leaves (type_along (map type_step (map (λ e. e.0) ps)) (types name)))) (map (λ leaf. region.indices ++ leaves_at region leaf.path) (leaves region.typ)))
        one.2
        (record {
          same = ap (λ t. map shaping.leaf_shape (leaves (type_along (map type_step (map (λ e. e.0) ps)) t))) same ∙ ap (λ t. map shaping.leaf_shape (leaves t)) f.along_is
              ∙ leaves_capped (leaves one.0) (narrow_leaves one.0 f.narrow);
          narrow = leaves_narrow (leaves one.0) (narrow_leaves one.0 f.narrow);
          counted = length-map (leaves region.typ) (λ leaf. region.indices ++ leaves_at region leaf.path) ∙ ap (λ t. length (leaves t)) f.region_is
              ∙ sym (length-map (leaves one.0) typing.leaf_shape);
          among = reference_among typ region f.good (leaves region.typ) (λ l i. i);
        })

  -- Operations

  record OperandsTold (ps : List ((e : Expr) × ExprTold e)) (ss : List Shape) : Type 0 where
    same : map (λ operand. shaping.lone_shape (operand types)) (map shapes (map (λ e. e.0) ps)) ≡ ss
    among : (y : Leaf) → Contains (flat_map (λ operand. joined (operand types)) (map mentions (map (λ e. e.0) ps))) y → IsLeafIn known y

  lone_is : (o : Option (List Shape)) (s : Shape) → typing.lone_shape o ≡ Some s → o ≡ Some (s ∷ [])
  lone_is None s e = cc
  lone_is (Some []) s e = cc
  lone_is (Some (t ∷ [])) s e = ap (λ x. Some (x ∷ [])) (some_same e)
  lone_is (Some (t ∷ u ∷ ss)) s e = cc

  operands_told : (ps : List ((e : Expr) × ExprTold e)) (ss : List Shape) → all_of (map (λ operand. typing.lone_shape (operand known)) (map typed (map (λ e. e.0) ps))) ≡ Some ss → OperandsTold ps ss
  operands_told [] ss e = record { same = some_same e; among = λ y i. absurd (Contains-none i) }
  operands_told (p ∷ ps) ss e =
      let rest = all_of (map (λ operand. typing.lone_shape (operand known)) (map typed (map (λ e. e.0) ps))) in
      let one = and_then_some (λ s. option_and_then (λ more. Some (s ∷ more)) rest) (typing.lone_shape (typed p.0 known)) ss e in
      let others = and_then_some (λ more. Some (one.0 ∷ more)) rest ss one.2 in
      let told : Told (shapes p.0 types) (mentions p.0 types) (one.0 ∷ []) = p.1 (one.0 ∷ []) (lone_is (typed p.0 known) one.0 one.1) in
      let more : OperandsTold ps others.0 = operands_told ps others.0 others.1 in
      record {
        same = ap₂ (λ x xs. x ∷ xs) (ap shaping.lone_shape told.same) more.same ∙ some_same others.2;
        among = λ y i. ⊎_elim (λ a. told.among y a) (λ b. more.among y b) (Contains-append_cases (joined (mentions p.0 types)) (flat_map (λ operand. joined (operand types)) (map mentions (map (λ e. e.0) ps))) _ i);
      }

  row_told : (prim : PrimOp) (params : List ℕ) (os : List Shape) (s : Shape) → shape_of_row prim params os ≡ Some s → (shaping.operation_shape prim os params ≡ s) × IsNarrowShape s
  row_told prim params os s e =
      let both = if_some (is_row prim os params (width_of_row prim os params)) (option_and_then (λ kind. Some (shaped kind (width_of_row prim os params))) (row_kind prim (map (λ s. s.kind) os))) s e in
      let one = and_then_some (λ kind. Some (shaped kind (width_of_row prim os params))) (row_kind prim (map (λ s. s.kind) os)) s both.1 in
      let is : shaped one.0 (width_of_row prim os params) ≡ s = some_same one.2 in
      let small : width_of_row prim os params ≤ 128 = leb-true (width_of_row prim os params) 128 (right_is _ _ (right_is _ _ both.0)) in
      (ap (λ o. fitted_shape (kind_or_unsigned o) (width_of_row prim os params)) one.1 ∙ capped one.0 (width_of_row prim os params) small ∙ is, subst IsNarrowShape is small)

  operation_told : (prim : PrimOp) (params : List ℕ) (ps : List ((e : Expr) × ExprTold e)) (ss : List Shape)
      → option_map (λ s. s ∷ []) (option_and_then (shape_of_row prim params) (all_of (map (λ operand. typing.lone_shape (operand known)) (map typed (map (λ e. e.0) ps))))) ≡ Some ss
      → Told (shaping.operation_shape prim (map (λ operand. shaping.lone_shape (operand types)) (map shapes (map (λ e. e.0) ps))) params ∷ [])
      (flat_map (λ operand. joined (operand types)) (map mentions (map (λ e. e.0) ps)) ∷ []) ss
  operation_told prim params ps ss e =
      let row = mapped_some (λ (s : Shape). s ∷ []) (option_and_then (shape_of_row prim params) (all_of (map (λ operand. typing.lone_shape (operand known)) (map typed (map (λ e. e.0) ps))))) ss e in
      let os = and_then_some (shape_of_row prim params) (all_of (map (λ operand. typing.lone_shape (operand known)) (map typed (map (λ e. e.0) ps)))) row.0 row.1 in
      let told : OperandsTold ps os.0 = operands_told ps os.0 os.1 in
      let is = row_told prim params os.0 row.0 os.2 in
      let all : List Leaf = flat_map (λ operand. joined (operand types)) (map mentions (map (λ e. e.0) ps)) in
      subst (Told (shaping.operation_shape prim (map (λ operand. shaping.lone_shape (operand types)) (map shapes (map (λ e. e.0) ps))) params ∷ []) (all ∷ [])) row.2 (record {
        same = ap (λ os. shaping.operation_shape prim os params ∷ []) told.same ∙ ap (λ s. s ∷ []) is.0;
        narrow = (is.1, tt);
        counted = refl;
        among = λ y i. ⊎_elim (λ a. told.among y a) (λ b. absurd (Contains-none b)) (Contains-append_cases all [] _ i);
      })

  -- Choices

  choice_among : (c : List (List Leaf)) (first second : List (List Leaf)) → ((y : Leaf) → Contains (joined c) y → IsLeafIn known y)
      → ((y : Leaf) → Contains (joined first) y → IsLeafIn known y) → ((y : Leaf) → Contains (joined second) y → IsLeafIn known y)
      → (y : Leaf) → Contains (joined (map (λ both. joined c ++ (both.0 ++ both.1)) (zip first second))) y → IsLeafIn known y
  choice_among c [] second h a b y i = absurd (Contains-none i)
  choice_among c (x ∷ xs) [] h a b y i = absurd (Contains-none i)
  choice_among c (x ∷ xs) (z ∷ zs) h a b y i =
      ⊎_elim (λ l. ⊎_elim (λ m. h y m) (λ n. ⊎_elim (λ m. a y (Contains-append_left _ (joined xs) _ m)) (λ m. b y (Contains-append_left _ (joined zs) _ m)) (Contains-append_cases x z _ n)) (Contains-append_cases (joined c) (x ++ z) _ l))
      (λ r. choice_among c xs zs h (λ w j. a w (Contains-append_right x _ _ j)) (λ w j. b w (Contains-append_right z _ _ j)) y r)
      (Contains-append_cases (joined c ++ (x ++ z)) (joined (map (λ both. joined c ++ (both.0 ++ both.1)) (zip xs zs))) _ i)

  choice_told : (ps : List ((e : Expr) × ExprTold e)) (ss : List Shape)
      → chosen_shapes (map (λ operand. operand known) (map typed (map (λ e. e.0) ps))) ≡ Some ss
      → Told (shaping.chosen_shapes (map (λ operand. operand types) (map shapes (map (λ e. e.0) ps)))) (of_choice (map (λ operand. operand types) (map mentions (map (λ e. e.0) ps)))) ss
  choice_told [] ss e = cc
  choice_told (a ∷ []) ss e = cc
  choice_told (a ∷ b ∷ []) ss e = cc
  choice_told (a ∷ b ∷ c ∷ []) ss e =
      let both = if_some (is_one_unsigned (typed a.0 known)) (option_and_then (λ ss. option_and_then (wider_each ss) (typed c.0 known)) (typed b.0 known)) ss e in
      let first = and_then_some (λ ss. option_and_then (wider_each ss) (typed c.0 known)) (typed b.0 known) ss both.1 in
      let second = and_then_some (wider_each first.0) (typed c.0 known) ss first.2 in
      let one = one_is (typed a.0 known) both.0 in
      let x : Told (shapes a.0 types) (mentions a.0 types) (one.0 ∷ []) = a.1 (one.0 ∷ []) one.1 in
      let y : Told (shapes b.0 types) (mentions b.0 types) first.0 = b.1 first.0 first.1 in
      let z : Told (shapes c.0 types) (mentions c.0 types) second.0 = c.1 second.0 second.1 in
      let w : Widened first.0 second.0 ss = widened first.0 second.0 ss second.2 y.narrow z.narrow in
      record {
        same = ap₂ (λ f s. map either_shape (zip f s)) y.same z.same ∙ w.chosen;
        narrow = w.narrow;
        counted = length-zipped (λ both. joined (mentions a.0 types) ++ (both.0 ++ both.1)) (mentions b.0 types) (mentions c.0 types) (y.counted ∙ w.second ∙ sym z.counted) ∙ y.counted ∙ sym w.first;
        among = choice_among (mentions a.0 types) (mentions b.0 types) (mentions c.0 types) x.among y.among z.among;
      }
  choice_told (a ∷ b ∷ c ∷ d ∷ ps) ss e = cc

  -- All expressions

  form_at : (z : Form-F Form Suffix Expr)
      → ((ss : List Shape) → typing.of_form (map-Form Form Suffix Expr InKnown Onward InKnown form_typed suffix_typed typed z) known ≡ Some ss
      → Told (shaping.of_form (map-Form Form Suffix Expr InTypes TypeStep InTypes form_shapes type_step shapes z) types)
      (mention.of_form (map-Form Form Suffix Expr InScope mention.Onward InScope form_mentions suffix_onward mentions z) types) ss)
      → FormTold (roll-Form z)
  form_at z h ss e =
      let t = fold-roll-Form InKnown Onward InKnown typing.of_form typing.of_suffix typing.of_expr z in
      let s = fold-roll-Form InTypes TypeStep InTypes shaping.of_form shaping.of_suffix shaping.of_expr z in
      let m = fold-roll-Form InScope mention.Onward InScope mention.of_form mention.of_suffix mention.of_expr z in
      subst (λ f. Told (f types) (form_mentions (roll-Form z) types) ss) (sym s)
      (subst (λ f. Told (shaping.of_form (map-Form Form Suffix Expr InTypes TypeStep InTypes form_shapes type_step shapes z) types) (f types) ss) (sym m)
      (h ss (ap (λ f. f known) (sym t) ∙ e)))

  form_case : (y : Form-F ((φ : Form) × FormTold φ) ((s : Suffix) × SuffixTold s) ((e : Expr) × ExprTold e))
      → FormTold (roll-Form (map-Form _ _ _ Form Suffix Expr (λ e. e.0) (λ e. e.0) (λ e. e.0) y))
  form_case (Form-F.Ref name ps) = form_at (Form-F.Ref name (map (λ e. e.0) ps)) (λ ss e. reference_told name.id ps ss e)
  form_case (Form-F.Literal kind width n) = form_at (Form-F.Literal kind width n) (λ ss e.
      let s = shaped kind (literal_width kind (integer_of_number n) width) in
      let both = if_some (nat_le s.width 128) (Some (s ∷ [])) ss e in
      let small : s.width ≤ 128 = leb-true s.width 128 both.0 in
      subst (Told (fitted_shape kind s.width ∷ []) ([] ∷ [])) (some_same both.1)
      (record { same = ap (λ s. s ∷ []) (capped kind s.width small); narrow = (small, tt); counted = refl; among = λ y i. absurd (Contains-none i) }))
  form_case (Form-F.Prim prim ps params) = form_at (Form-F.Prim prim (map (λ e. e.0) ps) params) (λ ss e. operation_told prim params ps ss e)
  form_case (Form-F.Mux ps) = form_at (Form-F.Mux (map (λ e. e.0) ps)) (λ ss e. choice_told ps ss e)

  expr_case : (y : Expr-F ((φ : Form) × FormTold φ) ((s : Suffix) × SuffixTold s) ((e : Expr) × ExprTold e))
      → ExprTold (roll-Expr (map-Expr _ _ _ Form Suffix Expr (λ e. e.0) (λ e. e.0) (λ e. e.0) y))
  expr_case y ss e =
      let z : Expr-F Form Suffix Expr = map-Expr _ _ _ Form Suffix Expr (λ e. e.0) (λ e. e.0) (λ e. e.0) y in
      let t = fold-roll-Expr InKnown Onward InKnown typing.of_form typing.of_suffix typing.of_expr z in
      let s = fold-roll-Expr InTypes TypeStep InTypes shaping.of_form shaping.of_suffix shaping.of_expr z in
      let m = fold-roll-Expr InScope mention.Onward InScope mention.of_form mention.of_suffix mention.of_expr z in
      subst (λ f. Told (f types) (mentions (roll-Expr z) types) ss) (sym s)
      (subst (λ f. Told (form_shapes y.form.0 types) (f types) ss) (sym m) (y.form.1 ss (ap (λ f. f known) (sym t) ∙ e)))

  expr_told : (e : Expr) → ExprTold e
  expr_told = ind-Expr FormTold SuffixTold ExprTold
      (λ x y is. subst (λ z. FormTold (roll-Form z)) is (form_case y))
      (λ x y is. subst (λ z. SuffixTold (roll-Suffix z)) is (suffix_case y))
      (λ x y is. subst (λ z. ExprTold (roll-Expr z)) is (expr_case y))

  pub typed_shapes : (e : Expr) (ss : List Shape) → typed e known ≡ Some ss → shapes e types ≡ ss
  typed_shapes e ss h = (expr_told e ss h).same

  pub typed_counted : (e : Expr) (ss : List Shape) → typed e known ≡ Some ss → length (mentions e types) ≡ length ss
  typed_counted e ss h = (expr_told e ss h).counted

  pub typed_mentions : (e : Expr) (ss : List Shape) → typed e known ≡ Some ss → (y : Leaf) → Contains (joined (mentions e types)) y → IsLeafIn known y
  typed_mentions e ss h = (expr_told e ss h).among
