use Rattle.std.proofs.Common.{◌∙◌, ◌++◌, ap, ap₂, map, length, subst, sym}
use Rattle.std.specs.List.{flat_map}
use Rattle.fir_tree.specs.declared.circuit.Circuit.{Circuit}
use Rattle.width_rules.specs.declared.rule.Rules.{Rules}
use Rattle.width_rules.specs.Circuits.{modules_from}
use Rattle.width_rules.specs.Walks.{AreInstances, ported}
use Rattle.width_rules.proofs.Ports.{module_places}
use Rattle.width_fit.specs.declared.given.Instances.{Instances}
use Rattle.width_fit.specs.Judging.{Told}
use Rattle.width_fit.specs.Walks.{solved}
use Rattle.width_fit.proofs.Whole.{told_is, from_nothing}
use Rattle.width_fit.proofs.telling.tell.Goals as goal

pub returns-clause-declared : goal.returns-clause-declared
returns-clause-declared c =
    let same = told_is c.args.checked.now c.args.widths.now (solved c.in_ok-given.given) (map ported c.in_ok-modules.modules.items) c.in_ok-given.given.instances.components.entries c.with_ports.new.places.items c.as_slice-reached.result.now
    (c.in_ok-modules.ensures.modules ∙ ap₂ (λ p ms. modules_from (length p) ms) c.new-2.ensures.items (c.as_slice.ensures ∙ ap (λ (x : Circuit). x.modules) c.get.ensures))
    (subst (AreInstances (map ported c.in_ok-modules.modules.items)) (sym (ap (λ (i : Instances). i.components.entries) c.in_ok-given.ensures.instances)) (rw c.as_slice-2.ensures.value at c.in_ok-components.ensures))
    (c.in_ok-modules.ensures.places ∙ ap₂ (λ p ms. p ++ flat_map module_places ms) c.new-2.ensures.items (c.as_slice.ensures ∙ ap (λ (x : Circuit). x.modules) c.get.ensures))
    (ap₂ (λ w r. record { widths = w; rules = r }) (c.in_ok-given.ensures.widths ∙ c.as_slice-widths.ensures) (c.in_ok-given.ensures.rules ∙ c.as_slice-rules.ensures ∙ ap (λ (r : Rules). r.rules) c.requires))
    c.as_slice-reached.ensures in
    from_nothing c.new-3.result.items c.walk_modules.new.walk.declared.items _ c.new-3.ensures.items c.in_ok-walk_modules.ensures.declared ∙ ap (λ (told : Told). told.declared) same

pub returns-clause-nodes : goal.returns-clause-nodes
returns-clause-nodes c =
    let same = told_is c.args.checked.now c.args.widths.now (solved c.in_ok-given.given) (map ported c.in_ok-modules.modules.items) c.in_ok-given.given.instances.components.entries c.with_ports.new.places.items c.as_slice-reached.result.now
    (c.in_ok-modules.ensures.modules ∙ ap₂ (λ p ms. modules_from (length p) ms) c.new-2.ensures.items (c.as_slice.ensures ∙ ap (λ (x : Circuit). x.modules) c.get.ensures))
    (subst (AreInstances (map ported c.in_ok-modules.modules.items)) (sym (ap (λ (i : Instances). i.components.entries) c.in_ok-given.ensures.instances)) (rw c.as_slice-2.ensures.value at c.in_ok-components.ensures))
    (c.in_ok-modules.ensures.places ∙ ap₂ (λ p ms. p ++ flat_map module_places ms) c.new-2.ensures.items (c.as_slice.ensures ∙ ap (λ (x : Circuit). x.modules) c.get.ensures))
    (ap₂ (λ w r. record { widths = w; rules = r }) (c.in_ok-given.ensures.widths ∙ c.as_slice-widths.ensures) (c.in_ok-given.ensures.rules ∙ c.as_slice-rules.ensures ∙ ap (λ (r : Rules). r.rules) c.requires))
    c.as_slice-reached.ensures in
    from_nothing c.new-4.result.items c.walk_modules.new.walk.found.nodes.items _ c.new-4.ensures.items c.in_ok-walk_modules.ensures.nodes ∙ ap (λ (told : Told). told.nodes) same

pub returns-clause-faults : goal.returns-clause-faults
returns-clause-faults c =
    let same = told_is c.args.checked.now c.args.widths.now (solved c.in_ok-given.given) (map ported c.in_ok-modules.modules.items) c.in_ok-given.given.instances.components.entries c.with_ports.new.places.items c.as_slice-reached.result.now
    (c.in_ok-modules.ensures.modules ∙ ap₂ (λ p ms. modules_from (length p) ms) c.new-2.ensures.items (c.as_slice.ensures ∙ ap (λ (x : Circuit). x.modules) c.get.ensures))
    (subst (AreInstances (map ported c.in_ok-modules.modules.items)) (sym (ap (λ (i : Instances). i.components.entries) c.in_ok-given.ensures.instances)) (rw c.as_slice-2.ensures.value at c.in_ok-components.ensures))
    (c.in_ok-modules.ensures.places ∙ ap₂ (λ p ms. p ++ flat_map module_places ms) c.new-2.ensures.items (c.as_slice.ensures ∙ ap (λ (x : Circuit). x.modules) c.get.ensures))
    (ap₂ (λ w r. record { widths = w; rules = r }) (c.in_ok-given.ensures.widths ∙ c.as_slice-widths.ensures) (c.in_ok-given.ensures.rules ∙ c.as_slice-rules.ensures ∙ ap (λ (r : Rules). r.rules) c.requires))
    c.as_slice-reached.ensures in
    from_nothing c.new-5.result.items c.walk_modules.new.walk.found.faults.items _ c.new-5.ensures.items c.in_ok-walk_modules.ensures.faults ∙ ap (λ (told : Told). told.faults) same
