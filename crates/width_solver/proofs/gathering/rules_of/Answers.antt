use Rattle.std.proofs.Common.{◌≡◌, map, length, ◌++◌, ap, ap₂, ◌∙◌, sym, subst}
use Rattle.std.specs.List.{flat_map}
use Rattle.fir_tree.specs.declared.circuit.Circuit.{Circuit}
use Rattle.width_rules.specs.Circuits.{modules_from}
use Rattle.width_rules.specs.Walks.{ported, AreInstances, bodies_among}
use Rattle.width_rules.proofs.Ports.{module_places}
use Rattle.width_rules.specs.declared.rule.Rules.{Rules}
use Rattle.width_rules.specs.Solutions.{AreRules}
use Rattle.width_solver.proofs.Whole.{exactly}
use Rattle.width_rules.proofs.Ruled.{are_rules}
use Rattle.width_solver.proofs.gathering.rules_of.Goals as goal

pub returns-clause-exact : goal.returns-clause-exact
returns-clause-exact c =
    let circuit = c.args.checked.now.resolved in
    let all = map ported c.in_ok-modules.modules.items in
    let ports = c.with_ports.new.places.items in
    let listed = c.in_ok-instances.instances.entries in
    let first : all ≡ modules_from 0 circuit.modules = c.in_ok-modules.ensures.modules ∙ ap₂ (λ p ms. modules_from (length p) ms) c.new-2.ensures.items (c.as_slice.ensures ∙ ap (λ (x : Circuit). x.modules) c.get-2.ensures) in
    let placed : ports ≡ flat_map module_places circuit.modules = c.in_ok-modules.ensures.places ∙ ap₂ (λ p ms. p ++ flat_map module_places ms) c.new-2.ensures.items (c.as_slice.ensures ∙ ap (λ (x : Circuit). x.modules) c.get-2.ensures) in
    let are : AreInstances all listed = rw c.as_slice-2.ensures.value at c.in_ok-instances.ensures in
    exactly circuit.modules all listed ports c.from_vec.result c.walk_bodies.new.found.rules.items first are placed
    (c.from_vec.ensures ∙ c.in_ok-walk_bodies.ensures.places)
    (c.in_ok-walk_bodies.ensures.rules ∙ ap (λ l. l ++ (bodies_among listed (length ports) all).rules) c.new-3.ensures)

pub returns-clause-rules : goal.returns-clause-rules
returns-clause-rules c = subst (λ (r : Rules). AreRules (length r.places) r.rules) (sym (returns-clause-exact c)) (are_rules c.args.checked.now.resolved.modules)
