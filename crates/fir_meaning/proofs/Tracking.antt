-- The value of an expression depends on the leaves alone that it mentions, leaf by leaf.
use Rattle.std.proofs.Common.{◌≡◌, ℕ, zero, suc, ◌+◌, ◌<◌, Bool, true, false, List, [], ◌∷◌, ◌++◌, map, fold, zip, slice_get, Option, Some, None, ℤ, pos, negsuc, refl, sym, ap, ◌∙◌, subst, arith, nat_lt, true≢false, is_some, unwrap_or, zero-add, if◌then◌else◌}
use Rattle.std.specs.Prelude.{Contains}
use Rattle.std.specs.List.{flat_map, range_with_len}
use Rattle.std.proofs.lemmas.Grind.{common_steps}
use Rattle.std.proofs.lemmas.List.Elements.{Contains-append_left, Contains-append_right}
use Rattle.std.proofs.lemmas.List.Concat.{flat_map-cons}
use Rattle.place_text.specs.declared.place.Place.{Place}
use Rattle.bit_words.specs.declared.value.Kind.{Kind}
use Rattle.bit_words.specs.declared.value.Value.{Value}
use Rattle.bit_words.specs.declared.number.Number.{Number}
use Rattle.bit_words.specs.Values.{integer_of}
use Rattle.fir_types.specs.declared.name.Name.{Name}
use Rattle.fir_types.specs.declared.fir_type.FirType.{FirType}
use Rattle.fir_types.specs.declared.leaf.TypeLeaf.{TypeLeaf}
use Rattle.fir_types.specs.declared.leaf.PathStep.{PathStep}
use Rattle.fir_types.specs.declared.leaf.PathStep.TheVariants as step
use Rattle.fir_types.specs.Leaves.{leaves}
use Rattle.prim_ops.specs.declared.operation.PrimOp.{PrimOp}
use Rattle.fir_tree.specs.declared.expr.Expr.{Expr, ind-Expr, the_lemmas as expr_lemmas}
use Rattle.fir_tree.specs.declared.expr.Form.{Form, fold-Form}
use Rattle.fir_tree.specs.declared.expr.Suffix.{Suffix, ind-Suffix}
use Rattle.fir_tree.specs.declared.expr.Form.TheOpen.{Form-F, Suffix-F, Expr-F}
use Rattle.fir_tree.specs.declared.expr.Form.TheFolds.{map-Form, map-Suffix, map-Expr}
use Rattle.fir_tree.specs.declared.expr.Form.TheViews.{roll-Form, roll-Suffix, roll-Expr}
use Rattle.fir_meaning.specs.Components.{Leaf}
use Rattle.fir_meaning.specs.Values as values
use Rattle.fir_meaning.specs.Values.{Integers, scene_with, Scene, Spot, InScene, value, suffix_step, lone, operation, chosen, one_of_two, is_one, fitted, fitted_to, values_at, further, element_step, field_type, element_type, vector_length}
use Rattle.fir_meaning.specs.Mentions as mention
use Rattle.fir_meaning.specs.Mentions.{Scope, Region, InScope, Onward, Agree, joined, mentions, suffix_onward, leaves_at, of_choice, behind_each, elements_behind}

abbrev form_value : Form → InScene
form_value = fold-Form InScene (Scene → Spot → Spot) InScene values.of_form values.of_suffix values.of_expr

abbrev form_mentions : Form → InScope
form_mentions = fold-Form InScope Onward InScope mention.of_form mention.of_suffix mention.of_expr

-- Agreement

pub agree-left : {f g : Integers} (xs ys : List Leaf) → Agree f g (xs ++ ys) → Agree f g xs
agree-left xs ys a = record { agree = λ y c. a.agree y (Contains-append_left xs ys y c) }

pub agree-right : {f g : Integers} (xs ys : List Leaf) → Agree f g (xs ++ ys) → Agree f g ys
agree-right xs ys a = record { agree = λ y c. a.agree y (Contains-append_right xs ys y c) }

pub agree-self : {f : Integers} (xs : List Leaf) → Agree f f xs
agree-self xs = record { agree = λ y c. refl }

-- Two lists of values that are, place by place, the same where the leaves that are mentioned there agree.
pub data Tracks (f g : Integers) : List (List Leaf) → List Value → List Value → Type 0 where
  tracks_none : Tracks f g [] [] []
  tracks_next : {m : List Leaf} {v w : Value} {ms : List (List Leaf)} {vs ws : List Value} → (Agree f g m → v ≡ w) → Tracks f g ms vs ws
      → Tracks f g (m ∷ ms) (v ∷ vs) (w ∷ ws)

-- where all that is mentioned agrees, the lists are the same
pub all_same : {f g : Integers} {ms : List (List Leaf)} {vs ws : List Value} → Tracks f g ms vs ws → Agree f g (joined ms) → vs ≡ ws
all_same tracks_none a = refl
all_same {f} {g} (tracks_next {m} {v} {w} {ms} {vs} {ws} h t) a =
    let split : Agree f g (m ++ joined ms) = subst (Agree f g) (flat_map-cons (λ l. l) m ms) a in
    let first : v ≡ w = h (agree-left m (joined ms) split) in
    let rest : vs ≡ ws = all_same t (agree-right m (joined ms) split) in
    ap (λ x. x ∷ vs) first ∙ ap (λ xs. w ∷ xs) rest

-- A choice of two

choices_same : {f g : Integers} (c : List Leaf) (p q : Bool) → (Agree f g c → p ≡ q) → {al bl : List (List Leaf)} {vs ws xs ys : List Value}
    → Tracks f g al vs ws → Tracks f g bl xs ys
    → Tracks f g (map (λ both. c ++ (both.0 ++ both.1)) (zip al bl)) (map (λ both. one_of_two p both.0 both.1) (zip vs xs)) (map (λ both. one_of_two q both.0 both.1) (zip ws ys))
choices_same c p q h tracks_none tracks_none = tracks_none
choices_same c p q h tracks_none (tracks_next i u) = tracks_none
choices_same c p q h (tracks_next i t) tracks_none = tracks_none
choices_same {f} {g} c p q h (tracks_next {m = m} {v = v} {w = w} i t) (tracks_next {m = n} {v = x} {w = y} j u) =
    tracks_next (λ a.
    let inner : Agree f g (m ++ n) = agree-right c (m ++ n) a in
    let test : p ≡ q = h (agree-left c (m ++ n) a) in
    let first : v ≡ w = i (agree-left m n inner) in
    let second : x ≡ y = j (agree-right m n inner) in
    ap (λ b. one_of_two b v x) test ∙ (ap (λ b. one_of_two q b x) first ∙ ap (one_of_two q w) second))
    (choices_same c p q h t u)

-- Spots

-- The spots that a reference has in two scenes, within the region that it may name.
pub record Paired (f g : Integers) (region : Region) (s t : Spot) : Type 0 where
  pub component_s : s.component ≡ region.component
  pub component_t : t.component ≡ region.component
  pub type_s : s.typ ≡ region.typ
  pub type_t : t.typ ≡ region.typ
  pub same : Agree f g region.indices → s.way ≡ t.way
  pub within : (w : List PathStep) → s.way ≡ Some w → Contains region.ways w
  pub static : region.dynamic ≡ false → (w : List PathStep) × (s.way ≡ Some w) × (region.ways ≡ w ∷ [])

pub Contains-map : {A B : Type 0} (h : A → B) (xs : List A) (x : A) → Contains xs x → Contains (map h xs) (h x)
Contains-map h [] x (k, below, is) = (k, below, refl)
Contains-map h (y ∷ ys) x (zero, below, is) = (0, omega arith, ap h is)
Contains-map h (y ∷ ys) x (suc k, below, is) =
    let rest = Contains-map h ys x (k, omega arith, is) in
    (suc rest.0, omega arith, rest.2)

pub Contains-flat_map : {A B : Type 0} (h : A → List B) (xs : List A) (x : A) (y : B) → Contains xs x → Contains (h x) y → Contains (flat_map h xs) y
Contains-flat_map h [] x y (k, below, is) c = absurd (omega arith)
Contains-flat_map h (z ∷ zs) x y (zero, below, is) c =
    subst (λ l. Contains l y) (sym (flat_map-cons h z zs)) (Contains-append_left (h z) (flat_map h zs) y (subst (λ a. Contains (h a) y) (sym is) c))
Contains-flat_map h (z ∷ zs) x y (suc k, below, is) c =
    subst (λ l. Contains l y) (sym (flat_map-cons h z zs)) (Contains-append_right (h z) (flat_map h zs) y (Contains-flat_map h zs x y (k, omega arith, is) c))

Contains-range : (a n k : ℕ) → k < n → Contains (range_with_len a n) (a + k)
Contains-range a zero k below = absurd (omega arith)
Contains-range a (suc n) zero below = (0, omega arith, omega arith)
Contains-range a (suc n) (suc k) below =
    let rest : Contains (range_with_len (a + 1) n) (a + 1 + k) = Contains-range (a + 1) n k (omega arith) in
    let same : a + 1 + k ≡ a + suc k = omega arith in
    let there : Contains (range_with_len (a + 1) n) (a + suc k) = subst (Contains (range_with_len (a + 1) n)) same rest in
    (suc there.0, omega arith, there.2)

pub none_some : {A : Type 0} {x : A} → None ≡ Some x → ⊥
none_some e = true≢false (ap is_some (sym e))

pub some_same : {A : Type 0} (x y : A) → Some x ≡ Some y → x ≡ y
some_same x y e = ap (λ o. unwrap_or o x) e

-- a fixed step
fixed_further : (o : Option (List PathStep)) (step : PathStep) (w : List PathStep) → further o (Some step) ≡ Some w
    → (v : List PathStep) × (o ≡ Some v) × (w ≡ v ++ step ∷ [])
fixed_further (Some v) step w e = (v, refl, sym (some_same _ _ e))
fixed_further None step w e = absurd (none_some e)

fixed_step : (f g : Integers) (region : Region) (s t : Spot) (h : FirType → FirType) (to : PathStep) → Paired f g region s t
    → Paired f g (record region { typ = h region.typ; ways = behind_each region.ways to }) (values.part_of s (h s.typ) (Some to)) (values.part_of t (h t.typ) (Some to))
fixed_step f g region s t h to p = record {
  component_s = p.component_s;
  component_t = p.component_t;
  type_s = ap h p.type_s;
  type_t = ap h p.type_t;
  same = λ a. ap (λ o. further o (Some to)) (p.same a);
  within = λ w e.
      let from = fixed_further s.way to w e in
      subst (Contains (behind_each region.ways to)) (sym from.2) (Contains-map (λ way. way ++ to ∷ []) region.ways from.0 (p.within from.0 from.1));
  static = λ e.
      let from = p.static e in
      (from.0 ++ to ∷ [], ap (λ o. further o (Some to)) from.1, ap (λ ways. behind_each ways to) from.2);
}

-- a step to the element that an index gives
pub below_of : (k n : ℕ) → nat_lt k n ≡ true → k < n
below_of k n q = grind (arith, common_steps)

picked : (v w : List PathStep) (k n : ℕ) (b : Bool) → nat_lt k n ≡ b → further (Some v) (if b then Some (step.Element k) else None) ≡ Some w
    → (u : List PathStep) × (j : ℕ) × (Some v ≡ Some u) × (j < n) × (w ≡ u ++ step.Element j ∷ [])
picked v w k n true q e = (v, k, refl, below_of k n q, sym (some_same _ _ e))
picked v w k n false q e = absurd (none_some e)

element_further : (o : Option (List PathStep)) (n : ℕ) (i : ℤ) (w : List PathStep) → further o (element_step n i) ≡ Some w
    → (v : List PathStep) × (k : ℕ) × (o ≡ Some v) × (k < n) × (w ≡ v ++ step.Element k ∷ [])
element_further (Some v) n (pos k) w e = picked v w k n (nat_lt k n) refl e
element_further (Some v) n (negsuc k) w e = absurd (none_some e)
element_further None n i w e = absurd (none_some e)

index_step : (f g : Integers) (region : Region) (s t : Spot) (ms : List (List Leaf)) (vs ws : List Value) → Tracks f g ms vs ws → Paired f g region s t
    → Paired f g (record region { typ = element_type region.typ; ways = elements_behind region.ways (vector_length region.typ); dynamic = true; indices = region.indices ++ joined ms })
    (values.part_of s (element_type s.typ) (element_step (vector_length s.typ) (integer_of (lone vs))))
    (values.part_of t (element_type t.typ) (element_step (vector_length t.typ) (integer_of (lone ws))))
index_step f g region s t ms vs ws index p = record {
  component_s = p.component_s;
  component_t = p.component_t;
  type_s = ap element_type p.type_s;
  type_t = ap element_type p.type_t;
  same = λ a.
      let ways : s.way ≡ t.way = p.same (agree-left region.indices (joined ms) a) in
      let same : vs ≡ ws = all_same index (agree-right region.indices (joined ms) a) in
      let types : s.typ ≡ t.typ = p.type_s ∙ sym p.type_t in
      ap (λ o. further o (element_step (vector_length s.typ) (integer_of (lone vs)))) ways
      ∙ (ap (λ typ. further t.way (element_step (vector_length typ) (integer_of (lone vs)))) types
      ∙ ap (λ l. further t.way (element_step (vector_length t.typ) (integer_of (lone l)))) same);
  within = λ w e.
      let from = element_further s.way (vector_length s.typ) (integer_of (lone vs)) w e in
      let below : from.1 < vector_length region.typ = subst (λ typ. from.1 < vector_length typ) p.type_s from.3 in
      let there : Contains (elements_behind region.ways (vector_length region.typ)) (from.0 ++ step.Element from.1 ∷ []) =
      Contains-flat_map (λ n. behind_each region.ways (step.Element n)) (range_with_len 0 (vector_length region.typ)) from.1 (from.0 ++ step.Element from.1 ∷ [])
      (subst (Contains (range_with_len 0 (vector_length region.typ))) (zero-add from.1) (Contains-range 0 (vector_length region.typ) from.1 below)) (Contains-map (λ way. way ++ step.Element from.1 ∷ []) region.ways from.0 (p.within from.0 from.2)) in
      subst (Contains (elements_behind region.ways (vector_length region.typ))) (sym from.4) there;
  static = λ e. absurd (true≢false e);
}

-- What the folds give at each case

step_field : (name : Name) → suffix_step (roll-Suffix (Suffix-F.Field name)) ≡ values.of_suffix (Suffix-F.Field name)
step_field name = grind (arith, common_steps, expr_lemmas)

step_at : (bracket place : Place) (n : ℕ) → suffix_step (roll-Suffix (Suffix-F.At bracket place n)) ≡ values.of_suffix (Suffix-F.At bracket place n)
step_at bracket place n = grind (arith, common_steps, expr_lemmas)

step_index : (bracket : Place) (e : Expr) → suffix_step (roll-Suffix (Suffix-F.Index bracket e)) ≡ values.of_suffix (Suffix-F.Index bracket (value e))
step_index bracket e = grind (arith, common_steps, expr_lemmas)

onward_field : (name : Name) → suffix_onward (roll-Suffix (Suffix-F.Field name)) ≡ mention.of_suffix (Suffix-F.Field name)
onward_field name = grind (arith, common_steps, expr_lemmas)

onward_at : (bracket place : Place) (n : ℕ) → suffix_onward (roll-Suffix (Suffix-F.At bracket place n)) ≡ mention.of_suffix (Suffix-F.At bracket place n)
onward_at bracket place n = grind (arith, common_steps, expr_lemmas)

onward_index : (bracket : Place) (e : Expr) → suffix_onward (roll-Suffix (Suffix-F.Index bracket e)) ≡ mention.of_suffix (Suffix-F.Index bracket (mentions e))
onward_index bracket e = grind (arith, common_steps, expr_lemmas)

value_ref : (name : Name) (suffixes : List Suffix) → form_value (roll-Form (Form-F.Ref name suffixes)) ≡ values.of_form (Form-F.Ref name (map suffix_step suffixes))
value_ref name suffixes = grind (arith, common_steps, expr_lemmas)

value_literal : (kind : Kind) (width : Option ℕ) (n : Number) → form_value (roll-Form (Form-F.Literal kind width n)) ≡ values.of_form (Form-F.Literal kind width n)
value_literal kind width n = grind (arith, common_steps, expr_lemmas)

value_prim : (prim : PrimOp) (es : List Expr) (params : List ℕ) → form_value (roll-Form (Form-F.Prim prim es params)) ≡ values.of_form (Form-F.Prim prim (map value es) params)
value_prim prim es params = grind (arith, common_steps, expr_lemmas)

value_mux : (es : List Expr) → form_value (roll-Form (Form-F.Mux es)) ≡ values.of_form (Form-F.Mux (map value es))
value_mux es = grind (arith, common_steps, expr_lemmas)

mentions_ref : (name : Name) (suffixes : List Suffix) → form_mentions (roll-Form (Form-F.Ref name suffixes)) ≡ mention.of_form (Form-F.Ref name (map suffix_onward suffixes))
mentions_ref name suffixes = grind (arith, common_steps, expr_lemmas)

mentions_literal : (kind : Kind) (width : Option ℕ) (n : Number) → form_mentions (roll-Form (Form-F.Literal kind width n)) ≡ mention.of_form (Form-F.Literal kind width n)
mentions_literal kind width n = grind (arith, common_steps, expr_lemmas)

mentions_prim : (prim : PrimOp) (es : List Expr) (params : List ℕ) → form_mentions (roll-Form (Form-F.Prim prim es params)) ≡ mention.of_form (Form-F.Prim prim (map mentions es) params)
mentions_prim prim es params = grind (arith, common_steps, expr_lemmas)

mentions_mux : (es : List Expr) → form_mentions (roll-Form (Form-F.Mux es)) ≡ mention.of_form (Form-F.Mux (map mentions es))
mentions_mux es = grind (arith, common_steps, expr_lemmas)

value_expr : (place : Place) (f : Form) → value (roll-Expr (record { place = place; form = f })) ≡ form_value f
value_expr place f = grind (arith, common_steps, expr_lemmas)

mentions_expr : (place : Place) (f : Form) → mentions (roll-Expr (record { place = place; form = f })) ≡ form_mentions f
mentions_expr place f = grind (arith, common_steps, expr_lemmas)

-- The induction

abbrev pub SuffixPaired : Suffix → Type 0
SuffixPaired s = (types : Scope) (f g : Integers) (region : Region) (a b : Spot) → Paired f g region a b
    → Paired f g (suffix_onward s types region) (suffix_step s (scene_with types f) a) (suffix_step s (scene_with types g) b)

abbrev FormTracked : Form → Type 0
FormTracked φ = (types : Scope) (f g : Integers) → Tracks f g (form_mentions φ types) (form_value φ (scene_with types f)) (form_value φ (scene_with types g))

abbrev pub Tracked : Expr → Type 0
Tracked e = (types : Scope) (f g : Integers) → Tracks f g (mentions e types) (value e (scene_with types f)) (value e (scene_with types g))

suffix_case : (y : Suffix-F ((φ : Form) × FormTracked φ) ((s : Suffix) × SuffixPaired s) ((e : Expr) × Tracked e))
    → SuffixPaired (roll-Suffix (map-Suffix _ _ _ Form Suffix Expr (λ e. e.0) (λ e. e.0) (λ e. e.0) y))
suffix_case (Suffix-F.Field name) types f g region a b p =
    rw (onward_field name, step_field name) (fixed_step f g region a b (field_type name.id) (step.Field name.id) p)
suffix_case (Suffix-F.At bracket place n) types f g region a b p =
    rw (onward_at bracket place n, step_at bracket place n) (fixed_step f g region a b element_type (step.Element n) p)
suffix_case (Suffix-F.Index bracket e) types f g region a b p =
    rw (onward_index bracket e.0, step_index bracket e.0)
    (index_step f g region a b (mentions e.0 types) (value e.0 (scene_with types f)) (value e.0 (scene_with types g)) (e.1 types f g) p)

-- a reference

abbrev leaf_value : Integers → Spot → Option (List PathStep) → TypeLeaf → Value
leaf_value f s (Some way) leaf = fitted_to leaf (f s.component (way ++ leaf.path))
leaf_value f s None leaf = fitted_to leaf (pos 0)

values_by_leaf : (types : Scope) (f : Integers) (s : Spot) (o : Option (List PathStep)) → values_at (scene_with types f) s o ≡ map (leaf_value f s o) (leaves s.typ)
values_by_leaf types f s (Some way) = refl
values_by_leaf types f s None = refl

tracks_map : {A : Type 0} (f g : Integers) (m : A → List Leaf) (v w : A → Value) → ((a : A) → Agree f g (m a) → v a ≡ w a) → (xs : List A) → Tracks f g (map m xs) (map v xs) (map w xs)
tracks_map f g m v w h [] = tracks_none
tracks_map f g m v w h (x ∷ xs) = tracks_next (h x) (tracks_map f g m v w h xs)

same_at : (f g : Integers) (region : Region) (s t : Spot) (leaf : TypeLeaf) → s.component ≡ region.component → t.component ≡ region.component
    → Agree f g (leaves_at region leaf.path) → (o : Option (List PathStep)) → ((w : List PathStep) → o ≡ Some w → Contains region.ways w) → leaf_value f s o leaf ≡ leaf_value g t o leaf
same_at f g region s t leaf es et a (Some w) within =
    let there : Contains (leaves_at region leaf.path) (record { component = region.component; way = w ++ leaf.path }) =
    Contains-map (λ way. record { component = region.component; way = way ++ leaf.path }) region.ways w (within w refl) in
    let same : f region.component (w ++ leaf.path) ≡ g region.component (w ++ leaf.path) = a.agree (record { component = region.component; way = w ++ leaf.path }) there in
    ap (λ c. fitted_to leaf (f c (w ++ leaf.path))) es ∙ (ap (fitted_to leaf) same ∙ ap (λ c. fitted_to leaf (g c (w ++ leaf.path))) (sym et))
same_at f g region s t leaf es et a None within = refl

region_tracks : (types : Scope) (f g : Integers) (region : Region) (s t : Spot) → Paired f g region s t
    → Tracks f g (map (λ leaf. region.indices ++ leaves_at region leaf.path) (leaves region.typ)) (values_at (scene_with types f) s s.way) (values_at (scene_with types g) t t.way)
region_tracks types f g region s t p =
    rw (values_by_leaf types f s s.way, values_by_leaf types g t t.way, p.type_s, p.type_t)
    (tracks_map f g (λ leaf. region.indices ++ leaves_at region leaf.path) (leaf_value f s s.way) (leaf_value g t t.way)
    (λ leaf a. same_at f g region s t leaf p.component_s p.component_t (agree-right region.indices (leaves_at region leaf.path) a) s.way p.within
    ∙ ap (λ o. leaf_value g t o leaf) (p.same (agree-left region.indices (leaves_at region leaf.path) a)))
    (leaves region.typ))

pub whole_paired : (types : Scope) (f g : Integers) (c : ℕ) → Paired f g (mention.whole_region types c) (values.whole (scene_with types f) c) (values.whole (scene_with types g) c)
whole_paired types f g c = record {
  component_s = refl;
  component_t = refl;
  type_s = refl;
  type_t = refl;
  same = λ a. refl;
  within = λ w e. (0, omega arith, some_same _ _ e);
  static = λ e. ([], refl, refl);
}

follow_paired : (types : Scope) (f g : Integers) (ps : List ((s : Suffix) × SuffixPaired s)) (region : Region) (a b : Spot) → Paired f g region a b
    → Paired f g (fold (λ r to. to types r) region (map suffix_onward (map (λ e. e.0) ps)))
    (fold (λ spot to. to (scene_with types f) spot) a (map suffix_step (map (λ e. e.0) ps))) (fold (λ spot to. to (scene_with types g) spot) b (map suffix_step (map (λ e. e.0) ps)))
follow_paired types f g [] region a b p = p
follow_paired types f g (s ∷ ps) region a b p =
    follow_paired types f g ps (suffix_onward s.0 types region) (suffix_step s.0 (scene_with types f) a) (suffix_step s.0 (scene_with types g) b) (s.1 types f g region a b p)

-- an operation

operands_same : (types : Scope) (f g : Integers) (ps : List ((e : Expr) × Tracked e)) → Agree f g (flat_map (λ operand. joined (operand types)) (map mentions (map (λ e. e.0) ps)))
    → map (λ operand. lone (operand (scene_with types f))) (map value (map (λ e. e.0) ps)) ≡ map (λ operand. lone (operand (scene_with types g))) (map value (map (λ e. e.0) ps))
operands_same types f g [] a = refl
operands_same types f g (e ∷ ps) a =
    let later : List Leaf = flat_map (λ operand. joined (operand types)) (map mentions (map (λ e. e.0) ps)) in
    let split : Agree f g (joined (mentions e.0 types) ++ later) =
    subst (Agree f g) (flat_map-cons (λ operand. joined (operand types)) (mentions e.0) (map mentions (map (λ e. e.0) ps))) a in
    let first : value e.0 (scene_with types f) ≡ value e.0 (scene_with types g) = all_same (e.1 types f g) (agree-left (joined (mentions e.0 types)) later split) in
    let rest = operands_same types f g ps (agree-right (joined (mentions e.0 types)) later split) in
    ap (λ vs. lone vs ∷ map (λ operand. lone (operand (scene_with types f))) (map value (map (λ e. e.0) ps))) first ∙ ap (λ vs. lone (value e.0 (scene_with types g)) ∷ vs) rest

-- a choice

choice_tracks : (types : Scope) (f g : Integers) (ps : List ((e : Expr) × Tracked e))
    → Tracks f g (of_choice (map (λ operand. operand types) (map mentions (map (λ e. e.0) ps))))
    (chosen (map (λ operand. operand (scene_with types f)) (map value (map (λ e. e.0) ps)))) (chosen (map (λ operand. operand (scene_with types g)) (map value (map (λ e. e.0) ps))))
choice_tracks types f g [] = tracks_none
choice_tracks types f g (x ∷ []) = tracks_none
choice_tracks types f g (x ∷ y ∷ []) = tracks_none
choice_tracks types f g (x ∷ y ∷ z ∷ []) =
    choices_same (joined (mentions x.0 types)) (is_one (value x.0 (scene_with types f))) (is_one (value x.0 (scene_with types g)))
    (λ a. ap is_one (all_same (x.1 types f g) a)) (y.1 types f g) (z.1 types f g)
choice_tracks types f g (x ∷ y ∷ z ∷ u ∷ ps) = tracks_none

form_case : (y : Form-F ((φ : Form) × FormTracked φ) ((s : Suffix) × SuffixPaired s) ((e : Expr) × Tracked e))
    → FormTracked (roll-Form (map-Form _ _ _ Form Suffix Expr (λ e. e.0) (λ e. e.0) (λ e. e.0) y))
form_case (Form-F.Ref name ps) types f g =
    rw (mentions_ref name (map (λ e. e.0) ps), value_ref name (map (λ e. e.0) ps))
    (region_tracks types f g _ _ _ (follow_paired types f g ps _ _ _ (whole_paired types f g name.id)))
form_case (Form-F.Literal kind width n) types f g = rw (mentions_literal kind width n, value_literal kind width n) (tracks_next (λ a. refl) tracks_none)
form_case (Form-F.Prim prim ps params) types f g =
    rw (mentions_prim prim (map (λ e. e.0) ps) params, value_prim prim (map (λ e. e.0) ps) params)
    (tracks_next (λ a. ap (λ vs. operation prim vs params) (operands_same types f g ps a)) tracks_none)
form_case (Form-F.Mux ps) types f g = rw (mentions_mux (map (λ e. e.0) ps), value_mux (map (λ e. e.0) ps)) (choice_tracks types f g ps)

expr_case : (y : Expr-F ((φ : Form) × FormTracked φ) ((s : Suffix) × SuffixPaired s) ((e : Expr) × Tracked e))
    → Tracked (roll-Expr (map-Expr _ _ _ Form Suffix Expr (λ e. e.0) (λ e. e.0) (λ e. e.0) y))
expr_case y types f g = rw (mentions_expr y.place y.form.0, value_expr y.place y.form.0) (y.form.1 types f g)

pub tracked : (e : Expr) → Tracked e
tracked = ind-Expr FormTracked SuffixPaired Tracked
    (λ x y is. subst (λ z. FormTracked (roll-Form z)) is (form_case y))
    (λ x y is. subst (λ z. SuffixPaired (roll-Suffix z)) is (suffix_case y))
    (λ x y is. subst (λ z. Tracked (roll-Expr z)) is (expr_case y))

pub suffix_paired : (s : Suffix) → SuffixPaired s
suffix_paired = ind-Suffix FormTracked SuffixPaired Tracked
    (λ x y is. subst (λ z. FormTracked (roll-Form z)) is (form_case y))
    (λ x y is. subst (λ z. SuffixPaired (roll-Suffix z)) is (suffix_case y))
    (λ x y is. subst (λ z. Tracked (roll-Expr z)) is (expr_case y))

-- The value at a place is the same where what is mentioned there agrees.
pub each_same : {f g : Integers} {ms : List (List Leaf)} {vs ws : List Value} → Tracks f g ms vs ws → (k : ℕ) (m : List Leaf) → slice_get ms k ≡ Some m → Agree f g m
    → slice_get vs k ≡ slice_get ws k
each_same tracks_none k m e a = absurd (none_some e)
each_same {f} {g} (tracks_next h t) zero m e a = ap Some (h (subst (Agree f g) (sym (some_same _ _ e)) a))
each_same (tracks_next h t) (suc k) m e a = each_same t k m e a
