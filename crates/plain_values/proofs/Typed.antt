-- Well typed expressions have values of the kinds and widths that their types say.
use Rattle.std.proofs.Common.{◌≡◌, ℕ, ◌==◌, ◌&&◌, Bool, true, false, List, [], ◌∷◌, map, zip, Option, Some, None, option_map, option_and_then, is_some, IsSome, if◌then◌else◌, refl, sym, ap, ap₂, ◌∙◌, subst, true≢false}
use Rattle.std.specs.List.{list_all}
use Rattle.bit_words.specs.declared.value.Kind.{Kind}
use Rattle.bit_words.specs.declared.value.Kind.TheVariants.{Unsigned, Signed}
use Rattle.bit_words.specs.declared.value.Value.{Value}
use Rattle.fir_types.specs.declared.fir_type.FirType.{FirType}
use Rattle.prim_ops.specs.declared.operation.PrimOp.{PrimOp}
use Rattle.fir_tree.specs.declared.expr.Expr.{Expr}
use Rattle.fir_tree.specs.declared.expr.Form.TheVariants as form
use Rattle.fir_tree.specs.declared.expr.Form.TheOpen.{Form-F}
use Rattle.prim_ops.specs.Shapes.{Shape, shape_of_value, all_of, shape_of_row, is_unsigned}
use Rattle.prim_ops.specs.Values.{lone, operation}
use Rattle.fir_meaning.specs.WellTyped as kinds
use Rattle.fir_meaning.specs.WellTyped.{Known, typed, is_typed, is_one_unsigned, lone_shape, wider_each}
use Rattle.fir_meaning.specs.Values as tree
use Rattle.fir_meaning.specs.Values.{Scene, value, chosen, is_one, one_of_two}
use Rattle.circuit_laws.proofs.Shaping.{shaped}
use Rattle.circuit_laws.proofs.Pieces.{found_in}
use Rattle.circuit_laws.proofs.Typing.{Fits, typed_shapes, and_then_some, if_some}
use Rattle.plain_values.specs.declared.site.Site.{Site}
use Rattle.plain_values.specs.declared.site.View.{View}
use Rattle.plain_values.specs.Sites.{AreNarrow, is_at, site_at, known_of_view, scene_of_view, type_or_empty}
use Rattle.plain_values.specs.Applying.{Applies}
use Rattle.plain_values.proofs.Rows.{maps, applies}
use Rattle.plain_values.proofs.Forms.{typed-Prim, value-Prim, value-Mux}

pub some_same : {A : Type 0} {x y : A} → Some x ≡ Some y → x ≡ y
some_same e = cc

pub none_some : {A : Type 0} {x : A} → None ≡ Some x → ⊥
none_some e = cc

pub some_of : {A : Type 0} (o : Option A) → IsSome o → (x : A) × (o ≡ Some x)
some_of (Some x) h = (x, refl)
some_of None h = absurd (true≢false (sym h))

some_site : (o : Option Site) (typ : FirType) → option_map (λ (s : Site). s.typ) o ≡ Some typ → (s : Site) × (o ≡ Some s) × (s.typ ≡ typ)
some_site (Some s) typ e = (s, refl, some_same e)
some_site None typ e = absurd (none_some e)

unsigned_kind : (k : Kind) (w : ℕ) → is_unsigned (record { kind = k; width = w }) ≡ true → k ≡ Unsigned
unsigned_kind Unsigned w e = refl
unsigned_kind Signed w e = absurd (true≢false (sym e))

lone_of : (vs : List Value) (s : Shape) → map shape_of_value vs ≡ s ∷ [] → shape_of_value (lone vs) ≡ s
lone_of [] s e = cc
lone_of (v ∷ []) s e = cc
lone_of (v ∷ w ∷ vs) s e = cc

-- the parts of a row
abbrev shapes_in : Known → List Expr → Option (List Shape)
shapes_in known es = all_of (map (λ operand. lone_shape (operand known)) (map typed es))

row_of : (known : Known) (e : Expr) (prim : PrimOp) (es : List Expr) (params : List ℕ) → e.form ≡ form.Prim prim es params → IsSome (typed e known)
    → (ss : List Shape) × (s : Shape) × (shapes_in known es ≡ Some ss) × (shape_of_row prim params ss ≡ Some s)
row_of known e prim es params is h = by (option_and_then (shape_of_row prim params) (shapes_in known es)) refl (subst (λ f. IsSome (f known)) (typed-Prim e prim es params is) h)
  where
    by : (o : Option Shape) → option_and_then (shape_of_row prim params) (shapes_in known es) ≡ o → IsSome (option_map (λ s. s ∷ []) o)
        → (ss : List Shape) × (s : Shape) × (shapes_in known es ≡ Some ss) × (shape_of_row prim params ss ≡ Some s)
    by (Some s) q h = let row = and_then_some (shape_of_row prim params) (shapes_in known es) s q in (row.0, s, row.1, row.2)
    by None q h = absurd (true≢false (sym h))

lone_typed : (known : Known) (e : Expr) (s : Shape) → lone_shape (typed e known) ≡ Some s → is_typed known e ≡ true
lone_typed known e s h = by (typed e known) h
  where
    by : (o : Option (List Shape)) → lone_shape o ≡ Some s → is_some o ≡ true
    by (Some ss) h = refl
    by None h = absurd (none_some h)

all_typed : (known : Known) (es : List Expr) (ss : List Shape) → shapes_in known es ≡ Some ss → list_all (is_typed known) es ≡ true
all_typed known [] ss h = refl
all_typed known (e ∷ es) ss h =
    let first = and_then_some (λ s. option_and_then (λ more. Some (s ∷ more)) (shapes_in known es)) (lone_shape (typed e known)) ss h in
    let rest = and_then_some (λ more. Some (first.0 ∷ more)) (shapes_in known es) ss first.2 in
    ap₂ (λ a b. a && b) (lone_typed known e first.0 first.1) (all_typed known es rest.0 rest.1)

pub operands_typed : (known : Known) (e : Expr) (prim : PrimOp) (es : List Expr) (params : List ℕ) → e.form ≡ form.Prim prim es params → IsSome (typed e known) → list_all (is_typed known) es ≡ true
operands_typed known e prim es params is h = let row = row_of known e prim es params is h in all_typed known es row.0 row.2

pub prim_value : (scene : Scene) (e : Expr) (prim : PrimOp) (es : List Expr) (params : List ℕ) → e.form ≡ form.Prim prim es params
    → value e scene ≡ operation prim (map (λ e. lone (value e scene)) es) params ∷ []
prim_value scene e prim es params is =
    ap (λ f. f scene) (value-Prim e prim es params is) ∙ ap (λ vs. operation prim vs params ∷ []) (maps (λ operand. lone (operand scene)) value es)

pub mux_value : (scene : Scene) (e : Expr) (es : List Expr) → e.form ≡ form.Mux es → value e scene ≡ chosen (map (λ e. value e scene) es)
mux_value scene e es is = ap (λ f. f scene) (value-Mux e es is) ∙ ap chosen (maps (λ operand. operand scene) value es)

-- Choices

tested : {A : Type 0} (b : Bool) (o : Option A) → IsSome (if b then o else None) → (b ≡ true) × IsSome o
tested true o h = (refl, h)
tested false o h = absurd (true≢false (sym h))

pub choice_asked : (known : Known) (es : List Expr) (a b c : Expr) → es ≡ a ∷ b ∷ c ∷ [] → IsSome (kinds.of_form (Form-F.Mux (map typed es)) known)
    → (is_one_unsigned (typed a known) ≡ true) × IsSome (option_and_then (λ ss. option_and_then (wider_each ss) (typed c known)) (typed b known))
choice_asked known es a b c is h =
    tested (is_one_unsigned (typed a known)) (option_and_then (λ ss. option_and_then (wider_each ss) (typed c known)) (typed b known)) (subst (λ l. IsSome (kinds.of_form (Form-F.Mux (map typed l)) known)) is h)

first_some : {A B : Type 0} (f : A → Option B) (o : Option A) → IsSome (option_and_then f o) → IsSome o
first_some f (Some x) h = refl
first_some f None h = absurd (true≢false (sym h))

pub first_typed : (o p : Option (List Shape)) → IsSome (option_and_then (λ ss. option_and_then (wider_each ss) p) o) → IsSome o
first_typed o p h = first_some (λ ss. option_and_then (wider_each ss) p) o h

pub second_typed : (o p : Option (List Shape)) → IsSome (option_and_then (λ ss. option_and_then (wider_each ss) p) o) → IsSome p
second_typed (Some ss) p h = first_some (wider_each ss) p h
second_typed None p h = absurd (true≢false (sym h))

pub unsigned_some : (o : Option (List Shape)) → is_one_unsigned o ≡ true → IsSome o
unsigned_some (Some ss) h = refl
unsigned_some None h = absurd (true≢false (sym h))

pub choice_value : (scene : Scene) (es : List Expr) (a b c : Expr) (t : Bool) (vs ws out : List Value) → es ≡ a ∷ b ∷ c ∷ [] → t ≡ is_one (value a scene) → vs ≡ value b scene → ws ≡ value c scene
    → out ≡ map (λ both. one_of_two t both.0 both.1) (zip vs ws) → out ≡ chosen (map (λ e. value e scene) es)
choice_value scene es a b c t vs ws out is test first second h =
    h ∙ (ap (λ b. map (λ both. one_of_two b both.0 both.1) (zip vs ws)) test
    ∙ (ap₂ (λ p q. map (λ both. one_of_two (is_one (value a scene)) both.0 both.1) (zip p q)) first second
    ∙ sym (ap (λ l. chosen (map (λ e. value e scene) l)) is)))

module _ (view : View) (thin : AreNarrow view.sites.now) where
  fits : Fits (known_of_view view) (scene_of_view view).types
  fits = record {
    same = λ name typ e.
        let s = some_site (site_at view.sites.now view.path.now name) typ e in
        ap type_or_empty s.1 ∙ s.2;
    narrow = λ name typ e.
        let s = some_site (site_at view.sites.now view.path.now name) typ e in
        let among = found_in (is_at view.path.now name) view.sites.now s.0 s.1 in
        subst (λ t. kinds.is_narrow t ≡ true) s.2 (thin s.0 among.0);
  }

  pub typed_values : (e : Expr) (ss : List Shape) → typed e (known_of_view view) ≡ Some ss → map shape_of_value (value e (scene_of_view view)) ≡ ss
  typed_values e ss h = shaped e (scene_of_view view) ∙ typed_shapes (known_of_view view) (scene_of_view view).types fits e ss h

  lone_value : (e : Expr) (s : Shape) → lone_shape (typed e (known_of_view view)) ≡ Some s → shape_of_value (lone (value e (scene_of_view view))) ≡ s
  lone_value e s h = by (typed e (known_of_view view)) refl h
    where
      by : (o : Option (List Shape)) → typed e (known_of_view view) ≡ o → lone_shape o ≡ Some s → shape_of_value (lone (value e (scene_of_view view))) ≡ s
      by (Some []) q h = absurd (none_some h)
      by (Some (t ∷ [])) q h = lone_of (value e (scene_of_view view)) t (typed_values e (t ∷ []) q) ∙ some_same h
      by (Some (t ∷ u ∷ ss)) q h = absurd (none_some h)
      by None q h = absurd (none_some h)

  operand_shapes : (es : List Expr) (ss : List Shape) → shapes_in (known_of_view view) es ≡ Some ss → map shape_of_value (map (λ e. lone (value e (scene_of_view view))) es) ≡ ss
  operand_shapes [] ss h = some_same h
  operand_shapes (e ∷ es) ss h =
      let first = and_then_some (λ s. option_and_then (λ more. Some (s ∷ more)) (shapes_in (known_of_view view) es)) (lone_shape (typed e (known_of_view view))) ss h in
      let rest = and_then_some (λ more. Some (first.0 ∷ more)) (shapes_in (known_of_view view) es) ss first.2 in
      ap₂ (λ a l. a ∷ l) (lone_value e first.0 first.1) (operand_shapes es rest.0 rest.1) ∙ some_same rest.2

  pub prim_applies : (e : Expr) (prim : PrimOp) (es : List Expr) (params : List ℕ) → e.form ≡ form.Prim prim es params → IsSome (typed e (known_of_view view))
      → Applies prim params (map (λ e. lone (value e (scene_of_view view))) es)
  prim_applies e prim es params is h =
      let row = row_of (known_of_view view) e prim es params is h in
      applies prim params (map (λ e. lone (value e (scene_of_view view))) es) row.0 row.1 (operand_shapes es row.0 row.2) row.3

  -- an index or a condition
  pub one_unsigned : (e : Expr) → is_one_unsigned (typed e (known_of_view view)) ≡ true → (lone (value e (scene_of_view view))).kind ≡ Unsigned
  one_unsigned e h = by (typed e (known_of_view view)) refl h
    where
      by : (o : Option (List Shape)) → typed e (known_of_view view) ≡ o → is_one_unsigned o ≡ true → (lone (value e (scene_of_view view))).kind ≡ Unsigned
      by (Some []) q h = absurd (true≢false (sym h))
      by (Some (t ∷ [])) q h =
          let same : shape_of_value (lone (value e (scene_of_view view))) ≡ t = lone_of (value e (scene_of_view view)) t (typed_values e (t ∷ []) q) in
          ap (λ (s : Shape). s.kind) same ∙ unsigned_kind t.kind t.width h
      by (Some (t ∷ u ∷ ss)) q h = absurd (true≢false (sym h))
      by None q h = absurd (true≢false (sym h))
