-- Values have the shapes of their expressions.
use Rattle.std.proofs.Common.{◌≡◌, ℕ, zero, suc, ◌≤◌, min, nat_le, ◌==◌, ◌&&◌, Bool, true, false, List, [], ◌∷◌, map, length, slice_get, refl, sym, ap, ap₂, ◌∙◌, arith, Option, Some, None, option_and_then, ℤ, pos, negsuc, if◌then◌else◌, true≢false}
use Rattle.std.specs.List.{AllByRecursion, list_all}
use Rattle.std.proofs.lemmas.Grind.{common_steps}
use Rattle.std.proofs.lemmas.Bool.Decides.{nat_tests}
use Rattle.bit_words.specs.declared.value.Kind.{Kind}
use Rattle.bit_words.specs.declared.value.Kind.TheVariants.{Unsigned, Signed}
use Rattle.bit_words.specs.declared.value.Value.{Value}
use Rattle.bit_words.specs.Values.{integer_of}
use Rattle.prim_ops.specs.declared.operation.PrimOp.{PrimOp}
use Rattle.prim_ops.specs.Kinds.{row_kind}
use Rattle.prim_ops.specs.Widths.{width_number}
use Rattle.prim_ops.specs.Results.{integer_result, kinds_of, widths_of}
use Rattle.prim_ops.specs.Values.{fitted, lone, is_one, operation, kind_or_unsigned}
use Rattle.ground_net.specs.declared.ground.Ground.{Ground, the_lemmas}
use Rattle.ground_net.specs.declared.ground.Ground.TheVariants.{Const, Leaf, Op, Mux, Select, Indexed, Load, Fit}
use Rattle.ground_net.specs.Grounds.{Instant, value, chosen, selected, or_zero, element_count, place, indexed, loaded}
use Rattle.ground_net.proofs.Layers.{ground_induction, maps, values, value-Const, value-Leaf, value-Op, value-Mux, value-Select, value-Indexed, value-Load, value-Fit}
use Rattle.ground_net.specs.Shapes.{Shape, shaped, shape_of_value, Table, HasShapes, same_kind, same_shape, is_unsigned, all_of, is_row, params_fit, width_of_row, shape_of_row, shape_of_choice, shape_of_items, is_index, shape_of_selection, are_index_shapes, shape_of_indexed, shape_of_load, shape_of_fit, shape}

-- Options

some_same : {A : Type 0} {x y : A} → Some x ≡ Some y → x ≡ y
some_same e = cc

none_some : {A : Type 0} {x : A} → None ≡ Some x → ⊥
none_some e = cc

pub and_then : {A B : Type 0} (h : A → Option B) (o : Option A) (y : B) → option_and_then h o ≡ Some y → (x : A) × (o ≡ Some x) × (h x ≡ Some y)
and_then h (Some x) y e = (x, refl, e)
and_then h None y e = absurd (none_some e)

-- a choice between some answer and none was made by its test
pub if_some : {A : Type 0} (b : Bool) (o : Option A) (y : A) → (if b then o else None) ≡ Some y → (b ≡ true) × (o ≡ Some y)
if_some true o y e = (refl, e)
if_some false o y e = absurd (none_some e)

pub both_true : (a b : Bool) → (a && b) ≡ true → (a ≡ true) × (b ≡ true)
both_true true b e = (refl, e)
both_true false b e = absurd (true≢false (sym e))

-- Equal shapes

kinds_same : (k l : Kind) → same_kind k l ≡ true → k ≡ l
kinds_same Unsigned Unsigned e = refl
kinds_same Unsigned Signed e = absurd (true≢false (sym e))
kinds_same Signed Unsigned e = absurd (true≢false (sym e))
kinds_same Signed Signed e = refl

numbers_same : (a b : ℕ) → (a == b) ≡ true → a ≡ b
numbers_same a b e = grind (arith, common_steps)

pub shapes_same : (s t : Shape) → same_shape s t ≡ true → s ≡ t
shapes_same s t e =
    let both = both_true (same_kind s.kind t.kind) (s.width == t.width) e in
    ap₂ (λ k w. shaped k w) (kinds_same s.kind t.kind both.0) (numbers_same s.width t.width both.1)

-- a fitted value's shape
pub fitted_shape : (kind : Kind) (width : ℕ) (n : ℤ) → width ≤ 128 → shape_of_value (fitted kind width n) ≡ shaped kind width
fitted_shape kind width n h = let e : min width 128 ≡ width = omega (arith, h) in ap (λ w. shaped kind w) e

zero_shape : (v : Value) → shape_of_value (fitted v.kind v.width (pos 0)) ≡ shape_of_value v
zero_shape v = let h : v.width ≤ 128 = v.narrow in fitted_shape v.kind v.width (pos 0) h

small : (w : ℕ) → nat_le w 128 ≡ true → w ≤ 128
small w e = grind (arith, nat_tests)

shapes : List Value → List Shape
shapes vs = map shape_of_value vs

-- Operations

kinds_are : (vs : List Value) (ss : List Shape) → map shape_of_value vs ≡ ss → kinds_of vs ≡ map (λ s. s.kind) ss
kinds_are vs ss e = sym (maps (λ s. s.kind) shape_of_value vs) ∙ ap (map (λ s. s.kind)) e

widths_are : (vs : List Value) (ss : List Shape) → map shape_of_value vs ≡ ss → widths_of vs ≡ map (λ s. s.width) ss
widths_are vs ss e = sym (maps (λ s. s.width) shape_of_value vs) ∙ ap (map (λ s. s.width)) e

pub operation_shape : (prim : PrimOp) (params : List ℕ) (vs : List Value) (ss : List Shape) (s : Shape) → map shape_of_value vs ≡ ss → shape_of_row prim params ss ≡ Some s
    → shape_of_value (operation prim vs params) ≡ s
operation_shape prim params vs ss s e h =
    let width = width_of_row prim ss params in
    let row = if_some (is_row prim ss params width) (option_and_then (λ kind. Some (shaped kind width)) (row_kind prim (map (λ s. s.kind) ss))) s h in
    let fine = both_true ((length ss == _) && (length params == _)) (params_fit prim ss params && nat_le width 128) row.0 in
    let narrow : width ≤ 128 = small width ((both_true (params_fit prim ss params) (nat_le width 128) fine.1).1) in
    let kind = and_then (λ kind. Some (shaped kind width)) (row_kind prim (map (λ s. s.kind) ss)) s row.1 in
    let k : kind_or_unsigned (row_kind prim (kinds_of vs)) ≡ kind.0 = ap (λ ks. kind_or_unsigned (row_kind prim ks)) (kinds_are vs ss e) ∙ ap kind_or_unsigned kind.1 in
    let w : width_number prim (kinds_of vs) (widths_of vs) params ≡ width = ap₂ (λ ks ws. width_number prim ks ws params) (kinds_are vs ss e) (widths_are vs ss e) in
    ap₂ (λ k w. shaped k (min w 128)) k w ∙ (fitted_shape kind.0 width (integer_result prim vs params) narrow ∙ some_same kind.2)

-- Choices

pub choice_shape : (vs : List Value) (s : Shape) → shape_of_choice (map shape_of_value vs) ≡ Some s → shape_of_value (chosen vs) ≡ s
choice_shape [] s e = absurd (none_some e)
choice_shape (last ∷ []) s e = some_same e
choice_shape (condition ∷ v ∷ w ∷ rest) s e =
    let more = and_then (λ t. if is_unsigned (shape_of_value condition) && same_shape (shape_of_value v) t then Some t else None) (shape_of_choice (map shape_of_value (w ∷ rest))) s e in
    let test = if_some (is_unsigned (shape_of_value condition) && same_shape (shape_of_value v) more.0) (Some more.0) s more.2 in
    let same = (both_true (is_unsigned (shape_of_value condition)) (same_shape (shape_of_value v) more.0) test.0).1 in
    let is : more.0 ≡ s = some_same test.1 in
    by_test (is_one condition) (shapes_same (shape_of_value v) more.0 same ∙ is) (choice_shape (w ∷ rest) more.0 more.1 ∙ is)
  where
    by_test : (b : Bool) → shape_of_value v ≡ s → shape_of_value (chosen (w ∷ rest)) ≡ s → shape_of_value (if b then v else chosen (w ∷ rest)) ≡ s
    by_test true x y = x
    by_test false x y = y
choice_shape (condition ∷ v ∷ []) s e = absurd (none_some e)

-- Selections

all_like : (s : Shape) (vs : List Value) (n : ℕ) (v : Value) → list_all (λ t. same_shape t s) (map shape_of_value vs) ≡ true → slice_get vs n ≡ Some v → shape_of_value v ≡ s
all_like s [] n v h e = absurd (none_some e)
all_like s (w ∷ vs) zero v h e =
    let here = (both_true (same_shape (shape_of_value w) s) (list_all (λ t. same_shape t s) (map shape_of_value vs)) h).0 in
    ap shape_of_value (sym (some_same e)) ∙ shapes_same (shape_of_value w) s here
all_like s (w ∷ vs) (suc n) v h e = all_like s vs n v ((both_true (same_shape (shape_of_value w) s) (list_all (λ t. same_shape t s) (map shape_of_value vs)) h).1) e

item_shape : (vs : List Value) (n : ℕ) (s : Shape) (o : Option Value) → slice_get vs n ≡ o → shape_of_items (map shape_of_value vs) ≡ Some s → shape_of_value (or_zero vs o) ≡ s
item_shape [] n s (Some v) e h = absurd (none_some e)
item_shape [] n s None e h = some_same h
item_shape (w ∷ vs) n s None e h = zero_shape w ∙ some_same ((if_some (list_all (λ t. same_shape t (shape_of_value w)) (map shape_of_value vs)) (Some (shape_of_value w)) s h).1)
item_shape (w ∷ vs) zero s (Some v) e h =
    ap shape_of_value (sym (some_same e)) ∙ some_same ((if_some (list_all (λ t. same_shape t (shape_of_value w)) (map shape_of_value vs)) (Some (shape_of_value w)) s h).1)
item_shape (w ∷ vs) (suc n) s (Some v) e h =
    let test = if_some (list_all (λ t. same_shape t (shape_of_value w)) (map shape_of_value vs)) (Some (shape_of_value w)) s h in
    all_like (shape_of_value w) vs n v test.0 e ∙ some_same test.1

none_shape : (vs : List Value) (s : Shape) → shape_of_items (map shape_of_value vs) ≡ Some s → shape_of_value (or_zero vs None) ≡ s
none_shape [] s h = some_same h
none_shape (w ∷ vs) s h = zero_shape w ∙ some_same ((if_some (list_all (λ t. same_shape t (shape_of_value w)) (map shape_of_value vs)) (Some (shape_of_value w)) s h).1)

pub selected_shape : (i : ℤ) (vs : List Value) (s : Shape) → shape_of_items (map shape_of_value vs) ≡ Some s → shape_of_value (selected i vs) ≡ s
selected_shape (pos n) vs s h = item_shape vs n s (slice_get vs n) refl h
selected_shape (negsuc n) vs s h = none_shape vs s h

pub indexed_shape : (p : Option ℕ) (vs : List Value) (s : Shape) → shape_of_items (map shape_of_value vs) ≡ Some s → shape_of_value (indexed p vs) ≡ s
indexed_shape (Some k) vs s h = item_shape vs k s (slice_get vs k) refl h
indexed_shape None vs s h = none_shape vs s h

-- Loads

pub loaded_shape : (element : Value → Value) (e : Option Shape) (vs : List Value) (s : Shape) → ((address : Value) (t : Shape) → e ≡ Some t → shape_of_value (element address) ≡ t)
    → shape_of_load e (map shape_of_value vs) ≡ Some s → shape_of_value (loaded element vs) ≡ s
loaded_shape element e [] s h q = absurd (none_some q)
loaded_shape element e (address ∷ []) s h q = absurd (none_some q)
loaded_shape element e (address ∷ condition ∷ []) s h q =
    let test = if_some (is_unsigned (shape_of_value address) && is_unsigned (shape_of_value condition)) e s q in
    by_test (is_one condition) (h address s test.1)
  where
    by_test : (b : Bool) → shape_of_value (element address) ≡ s
        → shape_of_value (if b then element address else fitted (element address).kind (element address).width (pos 0)) ≡ s
    by_test true x = x
    by_test false x = zero_shape (element address) ∙ x
loaded_shape element e (address ∷ condition ∷ v ∷ vs) s h q = absurd (none_some q)

fit_shape : (kind : Kind) (width : ℕ) (vs : List Value) (s : Shape) (n : ℤ) → shape_of_fit kind width (map shape_of_value vs) ≡ Some s → shape_of_value (fitted kind width n) ≡ s
fit_shape kind width [] s n q = absurd (none_some q)
fit_shape kind width (v ∷ []) s n q =
    let test = if_some (nat_le width 128) (Some (shaped kind width)) s q in
    fitted_shape kind width n (small width test.0) ∙ some_same test.1
fit_shape kind width (v ∷ w ∷ vs) s n q = absurd (none_some q)

-- Expressions

abbrev pub shapes_of : List Ground → Table → List (Option Shape)
shapes_of items table = map (λ g. shape g table) items

pub shape-Const : (v : Value) (table : Table) → shape (Const v) table ≡ Some (shape_of_value v)
shape-Const v table = grind (arith, common_steps, the_lemmas)

pub shape-Leaf : (x : ℕ) (table : Table) → shape (Leaf x) table ≡ table.leaf x
shape-Leaf x table = grind (arith, common_steps, the_lemmas)

pub shape-Op : (prim : PrimOp) (operands : List Ground) (params : List ℕ) (table : Table) → shape (Op prim operands params) table ≡ option_and_then (shape_of_row prim params) (all_of (shapes_of operands table))
shape-Op prim operands params table = grind (arith, common_steps, the_lemmas, maps)

pub shape-Mux : (items : List Ground) (table : Table) → shape (Mux items) table ≡ option_and_then shape_of_choice (all_of (shapes_of items table))
shape-Mux items table = grind (arith, common_steps, the_lemmas, maps)

pub shape-Select : (index items : List Ground) (table : Table)
    → shape (Select index items) table ≡ option_and_then (λ i. option_and_then (shape_of_selection i) (all_of (shapes_of items table))) (all_of (shapes_of index table))
shape-Select index items table = grind (arith, common_steps, the_lemmas, maps)

pub shape-Indexed : (ns : List ℕ) (is : List Ground) (ls : List ℕ) (table : Table)
    → shape (Indexed ns is ls) table ≡ option_and_then (λ i. option_and_then (shape_of_indexed i ls) (all_of (map table.leaf ns))) (all_of (shapes_of is table))
shape-Indexed ns is ls table = grind (arith, common_steps, the_lemmas, maps)

pub shape-Load : (m k : ℕ) (items : List Ground) (table : Table) → shape (Load m k items) table ≡ option_and_then (shape_of_load (table.element m k)) (all_of (shapes_of items table))
shape-Load m k items table = grind (arith, common_steps, the_lemmas, maps)

pub shape-Fit : (kind : Kind) (width : ℕ) (items : List Ground) (table : Table) → shape (Fit kind width items) table ≡ option_and_then (shape_of_fit kind width) (all_of (shapes_of items table))
shape-Fit kind width items table = grind (arith, common_steps, the_lemmas, maps)

module _ (table : Table) (instant : Instant) (h : HasShapes table instant) where
  abbrev Shapes_hold : Ground → Type 0
  Shapes_hold g = (s : Shape) → shape g table ≡ Some s → shape_of_value (value g instant) ≡ s

  items_shaped : (gs : List Ground) → AllByRecursion Shapes_hold gs → (ss : List Shape) → all_of (shapes_of gs table) ≡ Some ss → map shape_of_value (values gs instant) ≡ ss
  items_shaped [] a ss e = some_same e
  items_shaped (g ∷ gs) a ss e =
      let first = and_then (λ s. option_and_then (λ more. Some (s ∷ more)) (all_of (shapes_of gs table))) (shape g table) ss e in
      let rest = and_then (λ more. Some (first.0 ∷ more)) (all_of (shapes_of gs table)) ss first.2 in
      ap₂ (λ s more. s ∷ more) (a.0 first.0 first.1) (items_shaped gs a.1 rest.0 rest.1) ∙ some_same rest.2

  leaves_shaped : (ns : List ℕ) (ss : List Shape) → all_of (map table.leaf ns) ≡ Some ss → map shape_of_value (map instant.leaf ns) ≡ ss
  leaves_shaped [] ss e = some_same e
  leaves_shaped (n ∷ ns) ss e =
      let first = and_then (λ s. option_and_then (λ more. Some (s ∷ more)) (all_of (map table.leaf ns))) (table.leaf n) ss e in
      let rest = and_then (λ more. Some (first.0 ∷ more)) (all_of (map table.leaf ns)) ss first.2 in
      ap₂ (λ s more. s ∷ more) (h.leaf n first.0 first.1) (leaves_shaped ns rest.0 rest.1) ∙ some_same rest.2

  pub shapes_hold : (g : Ground) (s : Shape) → shape g table ≡ Some s → shape_of_value (value g instant) ≡ s
  shapes_hold = ground_induction Shapes_hold
      (λ v s e. ap shape_of_value (value-Const v instant) ∙ some_same (sym (shape-Const v table) ∙ e))
      (λ x s e. ap shape_of_value (value-Leaf x instant) ∙ h.leaf x s (sym (shape-Leaf x table) ∙ e))
      (λ prim gs params a s e.
      let parts = and_then (shape_of_row prim params) (all_of (shapes_of gs table)) s (sym (shape-Op prim gs params table) ∙ e) in
      ap shape_of_value (value-Op prim gs params instant) ∙ operation_shape prim params (values gs instant) parts.0 s (items_shaped gs a parts.0 parts.1) parts.2)
      (λ gs a s e.
      let parts = and_then shape_of_choice (all_of (shapes_of gs table)) s (sym (shape-Mux gs table) ∙ e) in
      ap shape_of_value (value-Mux gs instant) ∙ choice_shape (values gs instant) s (ap shape_of_choice (items_shaped gs a parts.0 parts.1) ∙ parts.2))
      (λ is gs b a s e.
      let index = and_then (λ i. option_and_then (shape_of_selection i) (all_of (shapes_of gs table))) (all_of (shapes_of is table)) s (sym (shape-Select is gs table) ∙ e) in
      let parts = and_then (shape_of_selection index.0) (all_of (shapes_of gs table)) s index.2 in
      let test = if_some (is_index index.0) (shape_of_items parts.0) s parts.2 in
      ap shape_of_value (value-Select is gs instant) ∙ selected_shape (integer_of (lone (values is instant))) (values gs instant) s (ap shape_of_items (items_shaped gs a parts.0 parts.1) ∙ test.1))
      (λ ns is ls b s e.
      let index = and_then (λ i. option_and_then (shape_of_indexed i ls) (all_of (map table.leaf ns))) (all_of (shapes_of is table)) s (sym (shape-Indexed ns is ls table) ∙ e) in
      let parts = and_then (shape_of_indexed index.0 ls) (all_of (map table.leaf ns)) s index.2 in
      let test = if_some (are_index_shapes index.0 ls && (length parts.0 == element_count ls)) (shape_of_items parts.0) s parts.2 in
      ap shape_of_value (value-Indexed ns is ls instant)
      ∙ indexed_shape (place (map integer_of (values is instant)) ls) (map instant.leaf ns) s (ap shape_of_items (leaves_shaped ns parts.0 parts.1) ∙ test.1))
      (λ m k gs a s e.
      let parts = and_then (shape_of_load (table.element m k)) (all_of (shapes_of gs table)) s (sym (shape-Load m k gs table) ∙ e) in
      ap shape_of_value (value-Load m k gs instant)
      ∙ loaded_shape (instant.load m k) (table.element m k) (values gs instant) s (λ address t q. h.load m k t address q) (ap (shape_of_load (table.element m k)) (items_shaped gs a parts.0 parts.1) ∙ parts.2))
      (λ kind width gs a s e.
      let parts = and_then (shape_of_fit kind width) (all_of (shapes_of gs table)) s (sym (shape-Fit kind width gs table) ∙ e) in
      ap shape_of_value (value-Fit kind width gs instant)
      ∙ fit_shape kind width (values gs instant) s (integer_of (lone (values gs instant))) (ap (shape_of_fit kind width) (items_shaped gs a parts.0 parts.1) ∙ parts.2))
