-- The rows of a run have values of the kinds and widths of the watched leaves.
use Rattle.std.proofs.Common.{◌≡◌, ℕ, ◌<◌, List, [], ◌∷◌, map, length, option_map, refl, sym, ap, ◌∙◌}
use Rattle.std.specs.Prelude.{All}
use Rattle.std.specs.List.{AllZip}
use Rattle.std.proofs.lemmas.List.Elements.{All-nil, All-cons, All-head, All-tail}
use Rattle.bit_words.specs.declared.value.Value.{Value}
use Rattle.prim_ops.specs.Shapes.{Shape, shape_of_value}
use Rattle.ground_net.specs.declared.net.Leaf.{Leaf}
use Rattle.ground_net.specs.declared.net.Net.{Net}
use Rattle.ground_net.specs.declared.net.PortLeaf.{PortLeaf}
use Rattle.ground_net.specs.Reads.{IsOrder}
use Rattle.ground_net.specs.Watching.{port_leaf}
use Rattle.ground_net.specs.Cycles.{NetState, Inputs, Valuation, Settled}
use Rattle.ground_net.specs.Nets.{IsNet, leaf_shape}
use Rattle.ground_net.proofs.Ranges.{settled_has}
use Rattle.net_laws.specs.Runs.{Run}
use Rattle.net_laws.specs.Runs as runs
use Rattle.vcd_write.specs.Reading.{IsOfLeaf, AreRows}
use Rattle.net_laws.proofs.Seen.{get_item}
use Rattle.circuit_texts.specs.NetNames.{IsLeafAt}

-- There are leaves of these numbers.
pub some_vars : (leaves : List Leaf) (watch : List ℕ) → All (λ x. x < length leaves) watch → (vars : List PortLeaf) × AllZip (IsLeafAt leaves) watch vars
some_vars leaves [] all = ([], tt)
some_vars leaves (x ∷ watch) all =
    let leaf = get_item leaves x (All-head (λ x. x < length leaves) x watch all) in
    let rest = some_vars leaves watch (All-tail (λ x. x < length leaves) x watch all) in
    (port_leaf x leaf.0 ∷ rest.0, (record { leaf = leaf.0; there = leaf.1; is = refl }, rest.1))

module _ (net : Net) (well : IsNet net) (sequence : List ℕ) (order : IsOrder net sequence) where
  module _ (t : NetState) (given : Inputs) (rho : Valuation) (settled : Settled net t given rho) where
    of_leaf : (x : ℕ) (var : PortLeaf) → IsLeafAt net.leaves x var → IsOfLeaf var (rho x)
    of_leaf x var at =
        let shape : shape_of_value (rho x) ≡ leaf_shape at.leaf = (settled_has net well sequence order t given rho settled).leaf x (leaf_shape at.leaf) (ap (option_map leaf_shape) at.there) in
        record { kind = ap (λ (s : Shape). s.kind) shape ∙ ap (λ (v : PortLeaf). v.kind) (sym at.is); width = ap (λ (s : Shape). s.width) shape ∙ ap (λ (v : PortLeaf). v.width) (sym at.is) }

    pub row_is : (watch : List ℕ) (vars : List PortLeaf) → AllZip (IsLeafAt net.leaves) watch vars → AllZip IsOfLeaf vars (map rho watch)
    row_is [] [] are = tt
    row_is [] (v ∷ vars) are = absurd are
    row_is (x ∷ watch) [] are = absurd are
    row_is (x ∷ watch) (v ∷ vars) are = (of_leaf x v are.0, row_is watch vars are.1)

  pub rows_are : (watch : List ℕ) (vars : List PortLeaf) → AllZip (IsLeafAt net.leaves) watch vars → {t : NetState} {given : List Inputs} {rows : List (List Value)} → Run net watch t given rows → AreRows vars rows
  rows_are watch vars are runs.ended = All-nil (AllZip IsOfLeaf vars)
  rows_are watch vars are {t} (runs.cycle {given = g} {rows = rows} rho settled later) = All-cons (AllZip IsOfLeaf vars) (map rho watch) rows (row_is t g rho settled watch vars are) (rows_are watch vars are later)
