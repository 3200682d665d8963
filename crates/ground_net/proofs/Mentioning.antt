-- Drivers of well formed nets mention leaves of the net.
use Rattle.std.proofs.Common.{◌≡◌, ℕ, zero, suc, map, List, [], ◌∷◌, slice_get, sym, ◌∙◌, subst, arith, Option, Some, None, option_and_then, option_map, ⊎_elim}
use Rattle.std.specs.Prelude.{Contains}
use Rattle.std.specs.List.{AllByRecursion}
use Rattle.std.proofs.lemmas.List.Elements.{Contains-append_cases}
use Rattle.std.proofs.lemmas.Option.{slice_get_within}
use Rattle.ground_net.specs.declared.ground.Ground.{Ground}
use Rattle.ground_net.specs.declared.net.Net.{Net}
use Rattle.ground_net.specs.declared.net.Leaf.{Leaf}
use Rattle.ground_net.specs.Grounds.{mentions}
use Rattle.ground_net.specs.Reads.{IsOrder, MentionsLeaves}
use Rattle.ground_net.proofs.Layers.{ground_induction, all_mentions, mentions-Const, mentions-Leaf, mentions-Op, mentions-Mux, mentions-Select, mentions-Indexed, mentions-Load, mentions-Fit}
use Rattle.ground_net.specs.Shapes.{Shape, Table, shape, all_of, shape_of_row, shape_of_choice, shape_of_selection, shape_of_indexed, shape_of_load, shape_of_fit}
use Rattle.ground_net.specs.Cycles.{NetState, Inputs, HasOneSettled}
use Rattle.ground_net.specs.Nets.{IsNet, table_of, leaf_shape}
use Rattle.ground_net.proofs.Loops.{reader_assigned}
use Rattle.ground_net.proofs.Settling.{reads_mentions, one_settled}
use Rattle.ground_net.proofs.Shaping.{and_then, shapes_of, shape-Leaf, shape-Op, shape-Mux, shape-Select, shape-Indexed, shape-Load, shape-Fit}

none_in : (y : ℕ) → Contains {X = ℕ} [] y → ⊥
none_in y (k, below, is) = omega arith

module _ (table : Table) where
  abbrev Named : Ground → Type 0
  Named g = (s : Shape) → shape g table ≡ Some s → (y : ℕ) → Contains (mentions g) y → (t : Shape) × (table.leaf y ≡ Some t)

  all_named : (gs : List Ground) → AllByRecursion Named gs → (ss : List Shape) → all_of (shapes_of gs table) ≡ Some ss → (y : ℕ) → Contains (all_mentions gs) y
      → (t : Shape) × (table.leaf y ≡ Some t)
  all_named [] a ss e y c = absurd (none_in y c)
  all_named (g ∷ gs) a ss e y c =
      let first = and_then (λ s. option_and_then (λ more. Some (s ∷ more)) (all_of (shapes_of gs table))) (shape g table) ss e in
      let rest = and_then (λ more. Some (first.0 ∷ more)) (all_of (shapes_of gs table)) ss first.2 in
      ⊎_elim (λ here. a.0 first.0 first.1 y here) (λ later. all_named gs a.1 rest.0 rest.1 y later) (Contains-append_cases (mentions g) (all_mentions gs) y c)

  leaves_named : (ns : List ℕ) (ss : List Shape) → all_of (map table.leaf ns) ≡ Some ss → (y : ℕ) → Contains ns y → (t : Shape) × (table.leaf y ≡ Some t)
  leaves_named [] ss e y c = absurd (none_in y c)
  leaves_named (n ∷ ns) ss e y (zero, below, is) =
      let first = and_then (λ s. option_and_then (λ more. Some (s ∷ more)) (all_of (map table.leaf ns))) (table.leaf n) ss e in
      (first.0, subst (λ z. table.leaf z ≡ Some first.0) is first.1)
  leaves_named (n ∷ ns) ss e y (suc k, below, is) =
      let first = and_then (λ s. option_and_then (λ more. Some (s ∷ more)) (all_of (map table.leaf ns))) (table.leaf n) ss e in
      let rest = and_then (λ more. Some (first.0 ∷ more)) (all_of (map table.leaf ns)) ss first.2 in
      leaves_named ns rest.0 rest.1 y (k, omega arith, is)

  -- what a well formed expression mentions stands in the table
  pub named : (g : Ground) (s : Shape) → shape g table ≡ Some s → (y : ℕ) → Contains (mentions g) y → (t : Shape) × (table.leaf y ≡ Some t)
  named = ground_induction Named
      (λ v s e y c. absurd (none_in y (subst (λ ys. Contains ys y) (mentions-Const v) c)))
      (λ x s e y c. (s, subst (λ z. table.leaf z ≡ Some s) (only_one x y (subst (λ ys. Contains ys y) (mentions-Leaf x) c)) (sym (shape-Leaf x table) ∙ e)))
      (λ prim gs params a s e y c.
      let parts = and_then (shape_of_row prim params) (all_of (shapes_of gs table)) s (sym (shape-Op prim gs params table) ∙ e) in
      all_named gs a parts.0 parts.1 y (subst (λ ys. Contains ys y) (mentions-Op prim gs params) c))
      (λ gs a s e y c.
      let parts = and_then shape_of_choice (all_of (shapes_of gs table)) s (sym (shape-Mux gs table) ∙ e) in
      all_named gs a parts.0 parts.1 y (subst (λ ys. Contains ys y) (mentions-Mux gs) c))
      (λ is gs b a s e y c.
      let index = and_then (λ i. option_and_then (shape_of_selection i) (all_of (shapes_of gs table))) (all_of (shapes_of is table)) s (sym (shape-Select is gs table) ∙ e) in
      let parts = and_then (shape_of_selection index.0) (all_of (shapes_of gs table)) s index.2 in
      ⊎_elim (λ here. all_named is b index.0 index.1 y here) (λ later. all_named gs a parts.0 parts.1 y later)
      (Contains-append_cases (all_mentions is) (all_mentions gs) y (subst (λ ys. Contains ys y) (mentions-Select is gs) c)))
      (λ ns is ls b s e y c.
      let index = and_then (λ i. option_and_then (shape_of_indexed i ls) (all_of (map table.leaf ns))) (all_of (shapes_of is table)) s (sym (shape-Indexed ns is ls table) ∙ e) in
      let parts = and_then (shape_of_indexed index.0 ls) (all_of (map table.leaf ns)) s index.2 in
      ⊎_elim (λ here. all_named is b index.0 index.1 y here) (λ later. leaves_named ns parts.0 parts.1 y later)
      (Contains-append_cases (all_mentions is) ns y (subst (λ ys. Contains ys y) (mentions-Indexed ns is ls) c)))
      (λ m k gs a s e y c.
      let parts = and_then (shape_of_load (table.element m k)) (all_of (shapes_of gs table)) s (sym (shape-Load m k gs table) ∙ e) in
      all_named gs a parts.0 parts.1 y (subst (λ ys. Contains ys y) (mentions-Load m k gs) c))
      (λ kind width gs a s e y c.
      let parts = and_then (shape_of_fit kind width) (all_of (shapes_of gs table)) s (sym (shape-Fit kind width gs table) ∙ e) in
      all_named gs a parts.0 parts.1 y (subst (λ ys. Contains ys y) (mentions-Fit kind width gs) c))
    where
      only_one : (x y : ℕ) → Contains (x ∷ []) y → x ≡ y
      only_one x y (k, below, is) = let e : k ≡ 0 = omega arith in rw e at is

some_leaf : (o : Option Leaf) (t : Shape) → option_map leaf_shape o ≡ Some t → (leaf : Leaf) × (o ≡ Some leaf)
some_leaf (Some leaf) t e = (leaf, cc)
some_leaf None t e = cc

-- what an assignment reads is a leaf of the net
pub mentions_leaves : (net : Net) → IsNet net → MentionsLeaves net
mentions_leaves net w = λ x y r.
    let a = reader_assigned net x y r in
    let d = w.assigned x a in
    let c : Contains (mentions d.0) y = subst (λ ys. Contains ys y) (reads_mentions net x a.leaf d.0 a.there a.is d.1) r in
    let t = named (table_of net) d.0 (leaf_shape a.leaf) (w.shapes x a.leaf d.0 a.there d.1) y c in
    let leaf = some_leaf (slice_get net.leaves y) t.0 t.1 in
    slice_get_within net.leaves y leaf.0 leaf.1

pub one_of_net : (net : Net) (sequence : List ℕ) → IsNet net → IsOrder net sequence → (s : NetState) (given : Inputs) → HasOneSettled net s given
one_of_net net sequence w order s given = one_settled net sequence (mentions_leaves net w) (λ x a. w.assigned x a) order s given
