-- What the variants of expressions give, on locations of their parts.
use Rattle.std.proofs.Common.{◌≡◌, ℕ, ◌≤◌, true, List, [], ◌∷◌, ◌++◌, Option, Some, None, option_and_then, option_map, refl, sym, subst, ap, ap₂, ◌∙◌, if◌then◌else◌, true≢false}
use Rattle.std.specs.Prelude.{IsSome, Result, Ok, Err, IfOk}
use Rattle.std.proofs.lemmas.List.{map-append}
use Rattle.bit_words.specs.declared.value.Kind.{Kind}
use Rattle.prim_ops.specs.declared.operation.PrimOp.{PrimOp}
use Rattle.ground_net.specs.declared.ground.Ground.{Ground}
use Rattle.ground_net.specs.declared.ground.Ground.TheVariants.{Leaf, Op, Mux, Select, Load, Fit}
use Rattle.ground_net.specs.Shapes.{Shape, shaped, Table, shape, all_of, shape_of_row, shape_of_choice, shape_of_items, is_index, shape_of_load, shape_of_fit}
use Rattle.ground_net.proofs.Shaping.{and_then, shape-Leaf}
use Rattle.flat_code.specs.declared.instr.Location.{Location}
use Rattle.flat_code.specs.Meaning.{location_shape}
use Rattle.flat_code.specs.Fine.{location_shapes, shape_of_picked}
use Rattle.code_draft.specs.declared.sources.Source.{Source}
use Rattle.code_draft.specs.declared.sources.Elements.{Elements}
use Rattle.code_draft.specs.declared.sources.Sources.{Sources}
use Rattle.code_emit.specs.Emits.{AreShaped, shapes_in, sources_table, leaf_source, element_source, source_shape, elements_shape}
use Rattle.code_emit.proofs.Rowing.{some_of}
use Rattle.code_emit.proofs.Shaped.{some_same, all_of_push, all_shaped, op_parts, mux_parts, select_parts, load_parts, fit_parts, locations_are, load_shape, fit_shape_is}

pub ok_both : {A E : Type 0} (P Q : A → Type 0) (r : Result A E) → IfOk r P → IfOk r Q → IfOk r (λ s. P s × Q s)
ok_both P Q (Ok s) h k = (h, k)
ok_both P Q (Err e) h k = tt

pub one_more_shape : (table : Table) (gs : List Ground) (g : Ground) (ss : List Location) (s : Location) → all_of (shapes_in table gs) ≡ Some (location_shapes ss) → shape g table ≡ Some (location_shape s)
    → all_of (shapes_in table (gs ++ g ∷ [])) ≡ Some (location_shapes (ss ++ s ∷ []))
one_more_shape table gs g ss s all one =
    ap all_of (map-append (λ h. shape h table) gs (g ∷ [])) ∙ (all_of_push (shapes_in table gs) (location_shapes ss) (shape g table) (location_shape s) all one ∙ ap Some (sym (map-append location_shape ss (s ∷ []))))

pub location_shape_by : (s : Location) (kind : Kind) (width : ℕ) → s.kind ≡ kind → s.width ≡ width → location_shape s ≡ shaped kind width
location_shape_by s kind width e f = ap₂ (λ k w. shaped k w) e f

module _ (table : Table) (g : Ground) (some : IsSome (shape g table)) where
  pub op_shaped : (prim : PrimOp) (gs : List Ground) (params : List ℕ) → g ≡ Op prim gs params → AreShaped table gs
  op_shaped prim gs params e = let p = op_parts table g some prim gs params e in all_shaped table gs p.0 p.1

  pub op_row : (prim : PrimOp) (gs : List Ground) (params : List ℕ) (ss : List Location) → g ≡ Op prim gs params → all_of (shapes_in table gs) ≡ Some (location_shapes ss) → shape_of_row prim params (location_shapes ss) ≡ shape g table
  op_row prim gs params ss e all = let p = op_parts table g some prim gs params e in ap (shape_of_row prim params) (locations_are (shapes_in table gs) (location_shapes ss) p.0 all p.1) ∙ p.2

  pub mux_shaped : (gs : List Ground) → g ≡ Mux gs → AreShaped table gs
  mux_shaped gs e = let p = mux_parts table g some gs e in all_shaped table gs p.0 p.1

  pub mux_row : (gs : List Ground) (ss : List Location) → g ≡ Mux gs → all_of (shapes_in table gs) ≡ Some (location_shapes ss) → shape_of_choice (location_shapes ss) ≡ shape g table
  mux_row gs ss e all = let p = mux_parts table g some gs e in ap shape_of_choice (locations_are (shapes_in table gs) (location_shapes ss) p.0 all p.1) ∙ p.2

  pub index_shaped : (is gs : List Ground) → g ≡ Select is gs → AreShaped table is
  index_shaped is gs e = let p = select_parts table g some is gs e in all_shaped table is p.0 p.2

  pub items_shaped : (is gs : List Ground) → g ≡ Select is gs → AreShaped table gs
  items_shaped is gs e = let p = select_parts table g some is gs e in all_shaped table gs p.1 p.3

  pub items_row : (is gs : List Ground) (ss : List Location) → g ≡ Select is gs → all_of (shapes_in table gs) ≡ Some (location_shapes ss) → shape_of_items (location_shapes ss) ≡ shape g table
  items_row is gs ss e all = let p = select_parts table g some is gs e in ap shape_of_items (locations_are (shapes_in table gs) (location_shapes ss) p.1 all p.3) ∙ p.5

  pub index_row : (is gs : List Ground) (ss : List Location) → g ≡ Select is gs → all_of (shapes_in table is) ≡ Some (location_shapes ss) → is_index (location_shapes ss) ≡ true
  index_row is gs ss e all = let p = select_parts table g some is gs e in ap is_index (locations_are (shapes_in table is) (location_shapes ss) p.0 all p.2) ∙ p.4

  pub load_shaped : (m k : ℕ) (gs : List Ground) → g ≡ Load m k gs → AreShaped table gs
  load_shaped m k gs e = let p = load_parts table g some m k gs e in all_shaped table gs p.0 p.1

  pub load_row : (m k : ℕ) (gs : List Ground) (ss : List Location) → g ≡ Load m k gs → all_of (shapes_in table gs) ≡ Some (location_shapes ss) → shape_of_load (table.element m k) (location_shapes ss) ≡ shape g table
  load_row m k gs ss e all = let p = load_parts table g some m k gs e in ap (shape_of_load (table.element m k)) (locations_are (shapes_in table gs) (location_shapes ss) p.0 all p.1) ∙ p.2

  pub load_element : (m k : ℕ) (gs : List Ground) → g ≡ Load m k gs → table.element m k ≡ shape g table
  load_element m k gs e =
      let p = load_parts table g some m k gs e in
      sym (load_shape (table.element m k) p.0 (subst (λ o. IsSome o) (sym p.2) some)) ∙ p.2

  pub fit_shaped : (kind : Kind) (width : ℕ) (gs : List Ground) → g ≡ Fit kind width gs → AreShaped table gs
  fit_shaped kind width gs e = let p = fit_parts table g some kind width gs e in all_shaped table gs p.0 p.1

  pub fit_row : (kind : Kind) (width : ℕ) (gs : List Ground) (ss : List Location) → g ≡ Fit kind width gs → all_of (shapes_in table gs) ≡ Some (location_shapes ss) → shape_of_fit kind width (location_shapes ss) ≡ shape g table
  fit_row kind width gs ss e all = let p = fit_parts table g some kind width gs e in ap (shape_of_fit kind width) (locations_are (shapes_in table gs) (location_shapes ss) p.0 all p.1) ∙ p.2

  pub fit_is : (kind : Kind) (width : ℕ) (gs : List Ground) → g ≡ Fit kind width gs → (width ≤ 128) × (shape g table ≡ Some (shaped kind width))
  fit_is kind width gs e =
      let p = fit_parts table g some kind width gs e in
      let whole = some_of (shape g table) some in
      let is = fit_shape_is kind width p.0 whole.0 (p.2 ∙ whole.1) in
      (is.0, whole.1 ∙ ap Some is.1)

-- a selection's locations
pub picked_shape : (front back : List Location) → is_index (location_shapes front) ≡ true → shape_of_picked (location_shapes (front ++ back)) ≡ shape_of_items (location_shapes back)
picked_shape [] back e = absurd (true≢false (sym e))
picked_shape (i ∷ []) back e = ap (λ b. if b then shape_of_items (location_shapes back) else None) e
picked_shape (i ∷ j ∷ is) back e = absurd (true≢false (sym e))

pub one_ground : (table : Table) (is : List Ground) (ss : List Shape) → all_of (shapes_in table is) ≡ Some ss → is_index ss ≡ true → (i : Ground) × (is ≡ i ∷ [])
one_ground table [] ss e h = absurd (true≢false (sym (ap is_index (some_same e) ∙ h)))
one_ground table (i ∷ []) ss e h = (i, refl)
one_ground table (i ∷ j ∷ is) ss e h =
    let first = and_then (λ s. option_and_then (λ more. Some (s ∷ more)) (all_of (shapes_in table (j ∷ is)))) (shape i table) ss e in
    let rest = and_then (λ more. Some (first.0 ∷ more)) (all_of (shapes_in table (j ∷ is))) ss first.2 in
    let second = and_then (λ s. option_and_then (λ more. Some (s ∷ more)) (all_of (shapes_in table is))) (shape j table) rest.0 rest.1 in
    let last = and_then (λ more. Some (second.0 ∷ more)) (all_of (shapes_in table is)) rest.0 second.2 in
    let whole : first.0 ∷ second.0 ∷ last.0 ≡ ss = ap (λ (xs : List Shape). first.0 ∷ xs) (some_same last.2) ∙ some_same rest.2 in
    absurd (true≢false (sym (ap is_index whole ∙ h)))

-- leaves and elements that have a kind and a width have a source
pub leaf_there : (S : Sources) (g : Ground) (x : ℕ) → IsSome (shape g (sources_table S)) → g ≡ Leaf x → IsSome (leaf_source S x)
leaf_there S g x some e = by_option (leaf_source S x) (subst (λ o. IsSome o) (ap (λ h. shape h (sources_table S)) e ∙ shape-Leaf x (sources_table S)) some)
  where
    by_option : (o : Option Source) → IsSome (option_map source_shape o) → IsSome o
    by_option (Some src) h = refl
    by_option None h = absurd (true≢false (sym h))

pub element_there : (S : Sources) (m k : ℕ) → IsSome ((sources_table S).element m k) → IsSome (element_source S m k)
element_there S m k some = by_option (element_source S m k) some
  where
    by_option : (o : Option Elements) → IsSome (option_map elements_shape o) → IsSome o
    by_option (Some el) h = refl
    by_option None h = absurd (true≢false (sym h))
