use Rattle.std.proofs.Common.{◌≡◌, [], ◌++◌, List, Some, refl, sym, subst, ap, ◌∙◌, arith, append-nil}
use Rattle.std.specs.Prelude.{slice_get, option_and_then}
use Rattle.std.specs.List.{AllZip}
use Rattle.std.proofs.lemmas.Option.{slice_get_within}
use Rattle.fir_meaning.specs.Components.{design_of, modules_of, module_within}
use Rattle.net_of_circuit.specs.FlatOrder.{all_leaves}
use Rattle.circuit_laws.proofs.Reached.{numbered}
use Rattle.print_stop.specs.Printing.{PathItem}
use Rattle.print_stop.specs.RunItems.{own_items}
use Rattle.found_items.specs.Finding.{IsFound}
use Rattle.found_items.specs.Walking.{StandsBehind}
use Rattle.found_items.proofs.walk.items_of.Goals as goal

pub visit-requires : goal.visit-requires
visit-requires c =
    let table = c.args.table.now in
    let fitted = table.fitted.now in
    let main = c.requires.main in
    let ranks = c.modules_have_ranks.ensures fitted.checked.resolved c.requires.formed.names in
    let of = numbered fitted.checked.resolved.modules fitted.declared c.args.main main.0 main.2 in
    let below = ranks.1 c.args.main (slice_get_within fitted.checked.resolved.modules c.args.main of.holder of.here) in
    let many = c.requires.known.rows.counted in
    let long = table.rows.ok.0 in
    let left = c.len.ensures in
    record {
      formed = c.requires.formed;
      has = c.requires.items;
      is = c.requires.known;
      falls = record { rank = ranks.0; falls = ranks.2; below = omega (arith, below, many, long, left) };
      m = main.0;
      number_is = main.2;
      path = [];
      stands = ap (option_and_then (λ x. module_within (design_of fitted) x [])) main.1;
    }

pub returns : goal.returns
returns c = λ m placed found order few.
    let fitted = c.args.table.now.fitted.now in
    let main = c.requires.main in
    let here : slice_get (modules_of fitted) c.args.main ≡ Some m = main.2 ∙ sym main.1 ∙ found in
    let behind : StandsBehind (all_leaves placed) 0 placed = record { before = []; behind = []; are = sym (append-nil (all_leaves placed)); counted = refl; few = few } in
    let v = c.in_ok-found.ensures.found [] m placed (all_leaves placed) (ap (option_and_then (λ x. module_within (design_of fitted) x [])) found) here order behind in
    let items : List PathItem = own_items fitted.checked.resolved.names (design_of fitted) fitted.checked.resolved.prints [] m ++ v.rest in (
      items,
      record { main = m; found = found; rest = v.rest; instances = v.instances; are = refl },
      subst (AllZip (IsFound fitted.checked.resolved.names (design_of fitted) fitted.checked.resolved.prints (all_leaves placed)) items) (sym c.from_vec.ensures) v.are,
    )
