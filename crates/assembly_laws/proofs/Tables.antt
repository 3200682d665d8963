-- Kinds and widths under other numbers.
use Rattle.std.proofs.Common.{◌≡◌, ℕ, List, [], ◌∷◌, map, ◌&&◌, Some, None, option_and_then, sym, ap, ap₂, ◌∙◌, arith}
use Rattle.std.specs.List.{AllByRecursion}
use Rattle.std.proofs.lemmas.Grind.{common_steps}
use Rattle.bit_words.specs.declared.value.Kind.{Kind}
use Rattle.bit_words.specs.declared.value.Value.{Value}
use Rattle.prim_ops.specs.declared.operation.PrimOp.{PrimOp}
use Rattle.ground_net.specs.declared.ground.Ground.{Ground, the_lemmas}
use Rattle.ground_net.specs.declared.ground.Ground.TheVariants.{Const, Leaf, Op, Mux, Select, Indexed, Load, Fit}
use Rattle.ground_net.specs.Renumbering.{with_numbers}
use Rattle.ground_net.proofs.Layers.{ground_induction, maps}
use Rattle.ground_net.specs.Shapes.{Shape, Table, is_unsigned, all_of, shape, shape_of_row, shape_of_choice, shape_of_selection, shape_of_indexed, shape_of_load, shape_of_fit}
use Rattle.ground_net.proofs.Shaping.{and_then, if_some, shapes_of, shape-Const, shape-Leaf, shape-Op, shape-Mux, shape-Select, shape-Indexed, shape-Load, shape-Fit}

none_some : {A B : Type 0} {x : A} → None ≡ Some x → B
none_some e = absurd cc

renumbered-Const : (number : ℕ → ℕ) (v : Value) → with_numbers number (Const v) ≡ Const v
renumbered-Const number v = grind (arith, common_steps, the_lemmas)

renumbered-Leaf : (number : ℕ → ℕ) (x : ℕ) → with_numbers number (Leaf x) ≡ Leaf (number x)
renumbered-Leaf number x = grind (arith, common_steps, the_lemmas)

renumbered-Op : (number : ℕ → ℕ) (prim : PrimOp) (operands : List Ground) (params : List ℕ) → with_numbers number (Op prim operands params) ≡ Op prim (map (with_numbers number) operands) params
renumbered-Op number prim operands params = grind (arith, common_steps, the_lemmas, maps)

renumbered-Mux : (number : ℕ → ℕ) (items : List Ground) → with_numbers number (Mux items) ≡ Mux (map (with_numbers number) items)
renumbered-Mux number items = grind (arith, common_steps, the_lemmas, maps)

renumbered-Select : (number : ℕ → ℕ) (index items : List Ground) → with_numbers number (Select index items) ≡ Select (map (with_numbers number) index) (map (with_numbers number) items)
renumbered-Select number index items = grind (arith, common_steps, the_lemmas, maps)

renumbered-Indexed : (number : ℕ → ℕ) (ns : List ℕ) (is : List Ground) (ls : List ℕ) → with_numbers number (Indexed ns is ls) ≡ Indexed (map number ns) (map (with_numbers number) is) ls
renumbered-Indexed number ns is ls = grind (arith, common_steps, the_lemmas, maps)

renumbered-Load : (number : ℕ → ℕ) (m k : ℕ) (items : List Ground) → with_numbers number (Load m k items) ≡ Load m k (map (with_numbers number) items)
renumbered-Load number m k items = grind (arith, common_steps, the_lemmas, maps)

renumbered-Fit : (number : ℕ → ℕ) (kind : Kind) (width : ℕ) (items : List Ground) → with_numbers number (Fit kind width items) ≡ Fit kind width (map (with_numbers number) items)
renumbered-Fit number kind width items = grind (arith, common_steps, the_lemmas, maps)

-- no load has a shape where no element has one
no_load : {B : Type 0} (ss : List Shape) (s : Shape) → shape_of_load None ss ≡ Some s → B
no_load [] s e = none_some e
no_load (a ∷ []) s e = none_some e
no_load (a ∷ b ∷ []) s e = none_some ((if_some (is_unsigned a && is_unsigned b) None s e).1)
no_load (a ∷ b ∷ c ∷ ss) s e = none_some e

module _ (number : ℕ → ℕ) (from to : Table) (leaves : (y : ℕ) (s : Shape) → from.leaf y ≡ Some s → to.leaf (number y) ≡ Some s) (none : (m k : ℕ) → from.element m k ≡ None) where
  abbrev Moves : Ground → Type 0
  Moves g = (s : Shape) → shape g from ≡ Some s → shape (with_numbers number g) to ≡ Some s

  all_moved : (gs : List Ground) → AllByRecursion Moves gs → (ss : List Shape) → all_of (shapes_of gs from) ≡ Some ss → all_of (shapes_of (map (with_numbers number) gs) to) ≡ Some ss
  all_moved [] a ss e = e
  all_moved (g ∷ gs) a ss e =
      let first = and_then (λ s. option_and_then (λ more. Some (s ∷ more)) (all_of (shapes_of gs from))) (shape g from) ss e in
      let rest = and_then (λ more. Some (first.0 ∷ more)) (all_of (shapes_of gs from)) ss first.2 in
      ap₂ (λ t o. option_and_then (λ s. option_and_then (λ more. Some (s ∷ more)) o) t) (a.0 first.0 first.1) (all_moved gs a.1 rest.0 rest.1) ∙ rest.2

  leaves_moved : (ns : List ℕ) (ss : List Shape) → all_of (map from.leaf ns) ≡ Some ss → all_of (map to.leaf (map number ns)) ≡ Some ss
  leaves_moved [] ss e = e
  leaves_moved (n ∷ ns) ss e =
      let first = and_then (λ s. option_and_then (λ more. Some (s ∷ more)) (all_of (map from.leaf ns))) (from.leaf n) ss e in
      let rest = and_then (λ more. Some (first.0 ∷ more)) (all_of (map from.leaf ns)) ss first.2 in
      ap₂ (λ t o. option_and_then (λ s. option_and_then (λ more. Some (s ∷ more)) o) t) (leaves n first.0 first.1) (leaves_moved ns rest.0 rest.1) ∙ rest.2

  -- An expression has the shape under the new numbers that it had before.
  pub shape_moves : (g : Ground) (s : Shape) → shape g from ≡ Some s → shape (with_numbers number g) to ≡ Some s
  shape_moves = ground_induction Moves
      (λ v s e. ap (λ g. shape g to) (renumbered-Const number v) ∙ (shape-Const v to ∙ (sym (shape-Const v from) ∙ e)))
      (λ x s e. ap (λ g. shape g to) (renumbered-Leaf number x) ∙ (shape-Leaf (number x) to ∙ leaves x s (sym (shape-Leaf x from) ∙ e)))
      (λ prim gs params a s e.
      let parts = and_then (shape_of_row prim params) (all_of (shapes_of gs from)) s (sym (shape-Op prim gs params from) ∙ e) in
      ap (λ g. shape g to) (renumbered-Op number prim gs params)
      ∙ (shape-Op prim (map (with_numbers number) gs) params to ∙ (ap (option_and_then (shape_of_row prim params)) (all_moved gs a parts.0 parts.1) ∙ parts.2)))
      (λ gs a s e.
      let parts = and_then shape_of_choice (all_of (shapes_of gs from)) s (sym (shape-Mux gs from) ∙ e) in
      ap (λ g. shape g to) (renumbered-Mux number gs) ∙ (shape-Mux (map (with_numbers number) gs) to ∙ (ap (option_and_then shape_of_choice) (all_moved gs a parts.0 parts.1) ∙ parts.2)))
      (λ is gs b a s e.
      let index = and_then (λ i. option_and_then (shape_of_selection i) (all_of (shapes_of gs from))) (all_of (shapes_of is from)) s (sym (shape-Select is gs from) ∙ e) in
      let parts = and_then (shape_of_selection index.0) (all_of (shapes_of gs from)) s index.2 in
      ap (λ g. shape g to) (renumbered-Select number is gs)
      ∙ (shape-Select (map (with_numbers number) is) (map (with_numbers number) gs) to
      ∙ (ap₂ (λ i o. option_and_then (λ i. option_and_then (shape_of_selection i) o) i) (all_moved is b index.0 index.1) (all_moved gs a parts.0 parts.1) ∙ parts.2)))
      (λ ns is ls b s e.
      let index = and_then (λ i. option_and_then (shape_of_indexed i ls) (all_of (map from.leaf ns))) (all_of (shapes_of is from)) s (sym (shape-Indexed ns is ls from) ∙ e) in
      let parts = and_then (shape_of_indexed index.0 ls) (all_of (map from.leaf ns)) s index.2 in
      ap (λ g. shape g to) (renumbered-Indexed number ns is ls)
      ∙ (shape-Indexed (map number ns) (map (with_numbers number) is) ls to
      ∙ (ap₂ (λ i o. option_and_then (λ i. option_and_then (shape_of_indexed i ls) o) i) (all_moved is b index.0 index.1) (leaves_moved ns parts.0 parts.1) ∙ parts.2)))
      (λ m k gs a s e.
      let parts = and_then (shape_of_load (from.element m k)) (all_of (shapes_of gs from)) s (sym (shape-Load m k gs from) ∙ e) in
      no_load parts.0 s (ap (λ o. shape_of_load o parts.0) (sym (none m k)) ∙ parts.2))
      (λ kind width gs a s e.
      let parts = and_then (shape_of_fit kind width) (all_of (shapes_of gs from)) s (sym (shape-Fit kind width gs from) ∙ e) in
      ap (λ g. shape g to) (renumbered-Fit number kind width gs)
      ∙ (shape-Fit kind width (map (with_numbers number) gs) to ∙ (ap (option_and_then (shape_of_fit kind width)) (all_moved gs a parts.0 parts.1) ∙ parts.2)))
