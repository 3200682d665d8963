-- The rows of a run have values of the kinds and widths of the leaves that are watched.
use Rattle.std.proofs.Common.{◌≡◌, ℕ, ◌<◌, List, [], ◌∷◌, map, length, Some, option_map, sym, ap, ap₂, ◌∙◌, subst}
use Rattle.std.specs.Prelude.{All, slice_get, None}
use Rattle.std.specs.List.{AllZip}
use Rattle.std.proofs.lemmas.List.Elements.{All-nil, All-cons}
use Rattle.std.proofs.lemmas.Option.{same_Some}
use Rattle.bit_words.specs.declared.value.Value.{Value}
use Rattle.bit_words.specs.declared.value.Kind.{Kind}
use Rattle.prim_ops.specs.Shapes.{shaped, shape_of_value}
use Rattle.fir_tree.specs.LeafNames.{Texts}
use Rattle.fir_meaning.specs.Components.{Design, TypedModule, Component, component_named, target_in, kind_of_leaf, width_of_leaf}
use Rattle.ground_net.specs.declared.net.Net.{Net}
use Rattle.ground_net.specs.Reads.{IsOrder}
use Rattle.ground_net.specs.Cycles.{NetState, Inputs, Valuation, Settled}
use Rattle.ground_net.specs.Nets.{leaf_shape}
use Rattle.ground_net.proofs.Ranges.{settled_has}
use Rattle.net_of_circuit.specs.FlatOrder.{Standing, all_leaves, flat_of}
use Rattle.net_laws.specs.Runs.{Run}
use Rattle.net_laws.specs.Runs as runs
use Rattle.net_laws.specs.Serves.{Serves}
use Rattle.net_laws.proofs.Seen.{get_item}
use Rattle.net_laws.proofs.Numbers.{below_length}
use Rattle.print_stop.specs.Sound.{IsOfLeaf}

module _ (texts : Texts) (design : Design) (net : Net) (serves : Serves texts design net) (sequence : List ℕ) (order : IsOrder net sequence) where
  abbrev pub all : List Standing
  all = all_leaves serves.of.placed

  pub below_leaves : (x : ℕ) (y : Standing) → slice_get all x ≡ Some y → x < length net.leaves
  below_leaves x y there = subst (λ n. x < n) (sym serves.of.is.counted) (below_length all x y there)

  module _ (t : NetState) (given : Inputs) (rho : Valuation) (settled : Settled net t given rho) where
    of_leaf : (x : ℕ) (y : Standing) → slice_get all x ≡ Some y → IsOfLeaf design (flat_of y) (rho x)
    of_leaf x y there = record {
      shape = λ m c leaf stands name way.
          let l = get_item net.leaves x (below_leaves x y there) in
          let of = serves.of.is.leaves_are x y l.0 there l.1 in
          let shape : shape_of_value (rho x) ≡ leaf_shape l.0 = (settled_has net serves.of.well_formed sequence order t given rho settled).leaf x (leaf_shape l.0) (ap (option_map leaf_shape) l.1) in
          let own = serves.lists.stands x y there in
          let modules : m ≡ y.0.m = same_Some m y.0.m (sym stands.reached ∙ own.0.reached) in
          let components : c ≡ y.0.c = same_Some c y.0.c (sym stands.declared ∙ ap₂ (λ (k : TypedModule) (n : ℕ). component_named k n) modules name ∙ own.0.declared) in
          let bare : target_in c.declaration.sort ≡ None = ap (λ (d : Component). target_in d.declaration.sort) components ∙ own.1 in
          let at = serves.lists.own y.0.path m c leaf stands bare in
          let z : Standing = (record { path = y.0.path; m = m; c = c }, leaf) in
          let flats : flat_of z ≡ flat_of y = ap₂ (λ n w. record { path = y.0.path; component = n; way = w }) name way in
          let number : at.0 ≡ x = serves.lists.once at.0 x z y at.1 there flats in
          let same : z ≡ y = same_Some z y (sym at.1 ∙ ap (slice_get all) number ∙ there) in
          shape ∙ ap₂ (λ (k : Kind) (n : ℕ). shaped k n) of.kind of.width ∙ sym (ap (λ (s : Standing). shaped (kind_of_leaf s.1) (width_of_leaf s.1)) same);
    }

    pub row_is : (watch : List ℕ) (leaves : List Standing) → AllZip (λ x y. slice_get all x ≡ Some y) watch leaves → AllZip (IsOfLeaf design) (map flat_of leaves) (map rho watch)
    row_is [] [] are = tt
    row_is [] (y ∷ leaves) are = absurd are
    row_is (x ∷ watch) [] are = absurd are
    row_is (x ∷ watch) (y ∷ leaves) are = (of_leaf x y are.0, row_is watch leaves are.1)

  pub rows_are : (watch : List ℕ) (leaves : List Standing) → AllZip (λ x y. slice_get all x ≡ Some y) watch leaves → {t : NetState} {given : List Inputs} {rows : List (List Value)} → Run net watch t given rows
      → All (AllZip (IsOfLeaf design) (map flat_of leaves)) rows
  rows_are watch leaves are runs.ended = All-nil (AllZip (IsOfLeaf design) (map flat_of leaves))
  rows_are watch leaves are {t} (runs.cycle {given = g} {rows = rows} rho settled later) =
      All-cons (AllZip (IsOfLeaf design) (map flat_of leaves)) (map rho watch) rows (row_is t g rho settled watch leaves are) (rows_are watch leaves are later)

  pub numbers_below : (watch : List ℕ) (leaves : List Standing) → AllZip (λ x y. slice_get all x ≡ Some y) watch leaves → All (λ x. x < length net.leaves) watch
  numbers_below [] [] are = All-nil (λ x. x < length net.leaves)
  numbers_below [] (y ∷ leaves) are = absurd are
  numbers_below (x ∷ watch) [] are = absurd are
  numbers_below (x ∷ watch) (y ∷ leaves) are = All-cons (λ z. z < length net.leaves) x watch (below_leaves x y are.0) (numbers_below watch leaves are.1)
