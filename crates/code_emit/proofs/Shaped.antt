-- Kinds and widths of locations and of expressions.
use Rattle.std.proofs.Common.{◌≡◌, ℕ, zero, suc, ◌-◌, ◌≤◌, Bool, true, false, ◌&&◌, ◌==◌, nat_le, map, List, [], ◌∷◌, ◌++◌, length, get_or, Option, Some, None, option_and_then, refl, sym, subst, ap, ap₂, ◌∙◌, arith, if◌then◌else◌, true≢false}
use Rattle.std.specs.Prelude.{IsSome, Result, Ok, Err, IfOk}
use Rattle.std.proofs.lemmas.List.{length-map}
use Rattle.std.proofs.lemmas.Bool.Decides.{nat_tests}
use Rattle.bit_words.specs.declared.value.Kind.{Kind}
use Rattle.prim_ops.specs.declared.operation.PrimOp.{PrimOp}
use Rattle.ground_net.specs.declared.ground.Ground.{Ground}
use Rattle.ground_net.specs.declared.ground.Ground.TheVariants.{Op, Mux, Select, Indexed, Load, Fit}
use Rattle.ground_net.specs.Grounds.{element_count}
use Rattle.ground_net.specs.Shapes.{Shape, shaped, Table, shape, all_of, shape_of_row, shape_of_choice, shape_of_items, shape_of_selection, are_index_shapes, shape_of_indexed, is_index, shape_of_load, shape_of_fit, is_unsigned, same_shape}
use Rattle.ground_net.proofs.Shaping.{and_then, if_some, shape-Op, shape-Mux, shape-Select, shape-Indexed, shape-Load, shape-Fit}
use Rattle.flat_code.specs.declared.instr.Location.{Location}
use Rattle.flat_code.specs.Meaning.{location_shape}
use Rattle.flat_code.specs.Fine.{location_shapes}
use Rattle.code_emit.specs.Emits.{AreShaped, shapes_in}
use Rattle.code_emit.proofs.Rowing.{some_of}

pub some_is : {A : Type 0} (o : Option A) (x : A) → o ≡ Some x → IsSome o
some_is o x e = subst (λ p. IsSome p) (sym e) refl

pub some_same : {A : Type 0} {x y : A} → Some x ≡ Some y → x ≡ y
some_same e = cc

pub none_some : {A : Type 0} {x : A} → None ≡ Some x → ⊥
none_some e = cc

-- each of some expressions has a kind and a width where all have
pub all_shaped : (table : Table) (gs : List Ground) (ss : List Shape) → all_of (shapes_in table gs) ≡ Some ss → AreShaped table gs
all_shaped table [] ss e k d lt = absurd (omega (arith, lt))
all_shaped table (g ∷ gs) ss e zero d lt =
    let first = and_then (λ s. option_and_then (λ more. Some (s ∷ more)) (all_of (shapes_in table gs))) (shape g table) ss e in
    some_is (shape g table) first.0 first.1
all_shaped table (g ∷ gs) ss e (suc k) d lt =
    let first = and_then (λ s. option_and_then (λ more. Some (s ∷ more)) (all_of (shapes_in table gs))) (shape g table) ss e in
    let rest = and_then (λ more. Some (first.0 ∷ more)) (all_of (shapes_in table gs)) ss first.2 in
    all_shaped table gs rest.0 rest.1 k d (omega (arith, lt))

-- one expression more
pub all_of_push : (os : List (Option Shape)) (ss : List Shape) (o : Option Shape) (s : Shape) → all_of os ≡ Some ss → o ≡ Some s → all_of (os ++ o ∷ []) ≡ Some (ss ++ s ∷ [])
all_of_push [] ss o s e f =
    let none : [] ≡ ss = some_same e in
    ap (λ o. all_of (o ∷ [])) f ∙ ap (λ (xs : List Shape). Some (xs ++ s ∷ [])) none
all_of_push (p ∷ os) ss o s e f =
    let first = and_then (λ x. option_and_then (λ more. Some (x ∷ more)) (all_of os)) p ss e in
    let rest = and_then (λ more. Some (first.0 ∷ more)) (all_of os) ss first.2 in
    let more = all_of_push os rest.0 o s rest.1 f in
    ap₂ (λ a b. option_and_then (λ x. option_and_then (λ m. Some (x ∷ m)) b) a) first.1 more ∙ ap (λ (xs : List Shape). Some (xs ++ s ∷ [])) (some_same rest.2)

-- What the parts of an expression have
module _ (table : Table) (g : Ground) (some : IsSome (shape g table)) where
  pub op_parts : (prim : PrimOp) (gs : List Ground) (params : List ℕ) → g ≡ Op prim gs params
      → (ss : List Shape) × (all_of (shapes_in table gs) ≡ Some ss) × (shape_of_row prim params ss ≡ shape g table)
  op_parts prim gs params e =
      let whole = some_of (shape g table) some in
      let is : shape g table ≡ option_and_then (shape_of_row prim params) (all_of (shapes_in table gs)) = ap (λ g. shape g table) e ∙ shape-Op prim gs params table in
      let parts = and_then (shape_of_row prim params) (all_of (shapes_in table gs)) whole.0 (sym is ∙ whole.1) in
      (parts.0, parts.1, parts.2 ∙ sym whole.1)

  pub mux_parts : (gs : List Ground) → g ≡ Mux gs → (ss : List Shape) × (all_of (shapes_in table gs) ≡ Some ss) × (shape_of_choice ss ≡ shape g table)
  mux_parts gs e =
      let whole = some_of (shape g table) some in
      let is = ap (λ g. shape g table) e ∙ shape-Mux gs table in
      let parts = and_then shape_of_choice (all_of (shapes_in table gs)) whole.0 (sym is ∙ whole.1) in
      (parts.0, parts.1, parts.2 ∙ sym whole.1)

  pub select_parts : (is gs : List Ground) → g ≡ Select is gs
      → (i : List Shape) × (ss : List Shape) × (all_of (shapes_in table is) ≡ Some i) × (all_of (shapes_in table gs) ≡ Some ss) × (is_index i ≡ true) × (shape_of_items ss ≡ shape g table)
  select_parts is gs e =
      let whole = some_of (shape g table) some in
      let made = ap (λ g. shape g table) e ∙ shape-Select is gs table in
      let index = and_then (λ i. option_and_then (shape_of_selection i) (all_of (shapes_in table gs))) (all_of (shapes_in table is)) whole.0 (sym made ∙ whole.1) in
      let parts = and_then (shape_of_selection index.0) (all_of (shapes_in table gs)) whole.0 index.2 in
      let test = if_some (is_index index.0) (shape_of_items parts.0) whole.0 parts.2 in
      (index.0, parts.0, index.1, parts.1, test.0, test.1 ∙ sym whole.1)

  pub indexed_parts : (ns : List ℕ) (is : List Ground) (ls : List ℕ) → g ≡ Indexed ns is ls
      → (i : List Shape) × (ss : List Shape) × (all_of (shapes_in table is) ≡ Some i) × (all_of (map table.leaf ns) ≡ Some ss) × ((are_index_shapes i ls && (length ss == element_count ls)) ≡ true) × (shape_of_items ss ≡ shape g table)
  indexed_parts ns is ls e =
      let whole = some_of (shape g table) some in
      let made = ap (λ g. shape g table) e ∙ shape-Indexed ns is ls table in
      let index = and_then (λ i. option_and_then (shape_of_indexed i ls) (all_of (map table.leaf ns))) (all_of (shapes_in table is)) whole.0 (sym made ∙ whole.1) in
      let parts = and_then (shape_of_indexed index.0 ls) (all_of (map table.leaf ns)) whole.0 index.2 in
      let test = if_some (are_index_shapes index.0 ls && (length parts.0 == element_count ls)) (shape_of_items parts.0) whole.0 parts.2 in
      (index.0, parts.0, index.1, parts.1, test.0, test.1 ∙ sym whole.1)

  pub load_parts : (m k : ℕ) (gs : List Ground) → g ≡ Load m k gs → (ss : List Shape) × (all_of (shapes_in table gs) ≡ Some ss) × (shape_of_load (table.element m k) ss ≡ shape g table)
  load_parts m k gs e =
      let whole = some_of (shape g table) some in
      let is = ap (λ g. shape g table) e ∙ shape-Load m k gs table in
      let parts = and_then (shape_of_load (table.element m k)) (all_of (shapes_in table gs)) whole.0 (sym is ∙ whole.1) in
      (parts.0, parts.1, parts.2 ∙ sym whole.1)

  pub fit_parts : (kind : Kind) (width : ℕ) (gs : List Ground) → g ≡ Fit kind width gs → (ss : List Shape) × (all_of (shapes_in table gs) ≡ Some ss) × (shape_of_fit kind width ss ≡ shape g table)
  fit_parts kind width gs e =
      let whole = some_of (shape g table) some in
      let is = ap (λ g. shape g table) e ∙ shape-Fit kind width gs table in
      let parts = and_then (shape_of_fit kind width) (all_of (shapes_in table gs)) whole.0 (sym is ∙ whole.1) in
      (parts.0, parts.1, parts.2 ∙ sym whole.1)

-- where all have kinds and widths, these are those of the locations
pub locations_are : (os : List (Option Shape)) (ss ts : List Shape) → all_of os ≡ Some ss → all_of os ≡ Some ts → ss ≡ ts
locations_are os ss ts e f = some_same (sym e ∙ f)

-- a load's parts and its element
pub load_shape : (o : Option Shape) (ss : List Shape) → IsSome (shape_of_load o ss) → shape_of_load o ss ≡ o
load_shape o [] h = absurd (true≢false (sym h))
load_shape o (a ∷ []) h = absurd (true≢false (sym h))
load_shape o (a ∷ b ∷ []) h = by_test (is_unsigned a && is_unsigned b) h
  where
    by_test : (t : Bool) → IsSome (if t then o else None) → (if t then o else None) ≡ o
    by_test true h = refl
    by_test false h = absurd (true≢false (sym h))
load_shape o (a ∷ b ∷ c ∷ ss) h = absurd (true≢false (sym h))

pub fit_shape_is : (kind : Kind) (width : ℕ) (ss : List Shape) (s : Shape) → shape_of_fit kind width ss ≡ Some s → (width ≤ 128) × (s ≡ shaped kind width)
fit_shape_is kind width [] s e = absurd (none_some e)
fit_shape_is kind width (t ∷ []) s e =
    let test = if_some (nat_le width 128) (Some (shaped kind width)) s e in
    (at_most width test.0, sym (some_same test.1))
  where
    at_most : (w : ℕ) → nat_le w 128 ≡ true → w ≤ 128
    at_most w h = grind (arith, nat_tests)
fit_shape_is kind width (t ∷ u ∷ ss) s e = absurd (none_some e)

-- the last location has a choice's kind and width
pub choice_last : (ss : List Shape) (d : Shape) → IsSome (shape_of_choice ss) → shape_of_choice ss ≡ Some (get_or ss (length ss - 1) d)
choice_last [] d h = absurd (true≢false (sym h))
choice_last (s ∷ []) d h = refl
choice_last (c ∷ v ∷ []) d h = absurd (true≢false (sym h))
choice_last (c ∷ v ∷ w ∷ ss) d h =
    let whole = some_of (shape_of_choice (c ∷ v ∷ w ∷ ss)) h in
    let more = and_then (λ s. if is_unsigned c && same_shape v s then Some s else None) (shape_of_choice (w ∷ ss)) whole.0 whole.1 in
    let test = if_some (is_unsigned c && same_shape v more.0) (Some more.0) whole.0 more.2 in
    let rest = choice_last (w ∷ ss) d (some_is (shape_of_choice (w ∷ ss)) more.0 more.1) in
    let long : length (c ∷ v ∷ w ∷ ss) - 1 ≡ suc (suc (length ss)) = omega arith in
    let short : length ss ≡ length (w ∷ ss) - 1 = omega arith in
    let same : get_or (c ∷ v ∷ w ∷ ss) (length (c ∷ v ∷ w ∷ ss) - 1) d ≡ get_or (w ∷ ss) (length (w ∷ ss) - 1) d = ap (λ n. get_or (c ∷ v ∷ w ∷ ss) n d) long ∙ ap (λ n. get_or (w ∷ ss) n d) short in
    whole.1 ∙ (sym test.1 ∙ (sym more.1 ∙ (rest ∙ ap Some (sym same))))

pub index_one : (is : List Location) → is_index (location_shapes is) ≡ true → (i : Location) × (is ≡ i ∷ [])
index_one [] e = absurd (true≢false (sym e))
index_one (i ∷ []) e = (i, refl)
index_one (i ∷ j ∷ is) e = absurd (true≢false (sym e))

-- the last location has a choice's kind and width
pub last_location : (ss : List Location) (x : Location) → IsSome (shape_of_choice (location_shapes ss)) → x ≡ get_or ss (length ss - 1) x → shape_of_choice (location_shapes ss) ≡ Some (location_shape x)
last_location ss x h e =
    let long = length-map ss location_shape in
    choice_last (location_shapes ss) (location_shape x) h ∙ ap Some (ap (λ n. get_or (location_shapes ss) (n - 1) (location_shape x)) long ∙ (mapped ss (length ss - 1) ∙ ap location_shape (sym e)))
  where
    mapped : (ts : List Location) (n : ℕ) → get_or (location_shapes ts) n (location_shape x) ≡ location_shape (get_or ts n x)
    mapped [] n = refl
    mapped (t ∷ ts) zero = refl
    mapped (t ∷ ts) (suc n) = mapped ts n

pub ok_so : {A E : Type 0} {P Q : A → Type 0} (r : Result A E) → IfOk r P → ((s : A) → P s → Q s) → IfOk r Q
ok_so (Ok s) h f = f s h
ok_so (Err e) h f = tt
