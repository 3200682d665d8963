use Rattle.std.proofs.Common.{◌≡◌, ◌∙◌, ap, subst, map, nat_eq}
use Rattle.std.specs.Prelude.{Some}
use Rattle.std.specs.Map.{lookup}
use Rattle.fir_tree.specs.declared.circuit.Circuit.{Circuit}
use Rattle.fir_names.specs.Scopes.{module_names}
use Rattle.circuit_laws.proofs.Reached.{has_number}
use Rattle.lower_aggregates.specs.Circuits.{IsPlaced}
use Rattle.lower_aggregates.proofs.Circuits.{placed_known, placed_means}
use Rattle.found_items.proofs.Rows.{holder_at}
use Rattle.found_items.proofs.finding.found_items.Goals as goal

pub number_of-main-requires : goal.number_of-main-requires
number_of-main-requires c =
    rw c.get-circuit.ensures (placed_known c.args.fitted.now.checked.resolved c.in_ok-numbers.numbers.entries (subst (λ l. IsPlaced (map (λ m. m.name) l) c.in_ok-numbers.numbers.entries) (c.as_slice-modules.ensures ∙ ap (λ (x : Circuit). x.modules) c.get-circuit.ensures) c.in_ok-numbers.ensures)
    c.args.fitted.now.checked.resolved.main.id c.requires.formed.scope.main c.requires.formed.scope.is_main)

pub items_of-requires-clause-main : goal.items_of-requires-clause-main
items_of-requires-clause-main c =
    let fitted = c.args.fitted.now in
    let circuit = fitted.checked.resolved in
    let entries = c.in_ok-numbers.numbers.entries in
    let placed : IsPlaced (module_names circuit) entries = subst (λ l. IsPlaced (map (λ m. m.name) l) entries) (c.as_slice-modules.ensures ∙ ap (λ (x : Circuit). x.modules) c.get-circuit.ensures) c.in_ok-numbers.ensures in
    let main = c.number_of-main.result in
    let at : lookup (nat_eq circuit.main.id) entries ≡ Some main = rw c.get-circuit.ensures at c.number_of-main.ensures in
    let means = placed_means circuit entries placed circuit.main.id main at in
    let holder = holder_at circuit.modules main circuit.main.id means.has in
    let m = has_number circuit.modules fitted.declared main holder.0 holder.1 in
    (m.0, c.modules_are_named.ensures.meant fitted circuit.main.id main m.0 means m.1, m.1)
