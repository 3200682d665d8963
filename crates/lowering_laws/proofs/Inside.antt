-- Ports of a module as components, and as fields of its instances.
use Rattle.std.proofs.Common.{◌≡◌, true, true≢false, List, [], ◌∷◌, map, Some, refl, sym, ap}
use Rattle.std.specs.List.{flat_map}
use Rattle.fir_types.specs.declared.leaf.PathStep.TheVariants as step
use Rattle.fir_types.specs.declared.port.Port.{Port}
use Rattle.fir_types.specs.Leaves.{leaves, under}
use Rattle.fir_types.specs.Bundles.{nowhere, instance_field, instance_of}
use Rattle.fir_meaning.specs.Components.{Component, Sort, An_input, An_output, A_wire, A_register, A_reset_register, A_memory, An_instance, A_node, port_of}
use Rattle.fir_meaning.specs.States.{is_port}
use Rattle.fir_meaning.proofs.Ports.{bundle_leaves}
use Rattle.lowering_laws.proofs.Heights.{some_same, none_some}

-- what a port of a module is as a component of it
pub port_sort : (p : Component) (sort : Sort) (port : Port) → port_of p sort ≡ Some port → (is_port sort ≡ true) × (port.name.id ≡ p.declaration.name) × (port.typ ≡ p.typ)
port_sort p An_input port e = let same = some_same e in (refl, ap (λ (q : Port). q.name.id) (sym same), ap (λ (q : Port). q.typ) (sym same))
port_sort p An_output port e = let same = some_same e in (refl, ap (λ (q : Port). q.name.id) (sym same), ap (λ (q : Port). q.typ) (sym same))
port_sort p A_wire port e = none_some e
port_sort p (A_register clock) port e = none_some e
port_sort p (A_reset_register clock reset init) port e = none_some e
port_sort p (A_memory memory) port e = none_some e
port_sort p (An_instance target) port e = none_some e
port_sort p (A_node expr) port e = none_some e

pub port_there : (p : Component) (sort : Sort) → is_port sort ≡ true → (port : Port) × (port_of p sort ≡ Some port)
port_there p An_input e = (_, refl)
port_there p An_output e = (_, refl)
port_there p A_wire e = absurd (true≢false (sym e))
port_there p (A_register clock) e = absurd (true≢false (sym e))
port_there p (A_reset_register clock reset init) e = absurd (true≢false (sym e))
port_there p (A_memory memory) e = absurd (true≢false (sym e))
port_there p (An_instance target) e = absurd (true≢false (sym e))
port_there p (A_node expr) e = absurd (true≢false (sym e))

pub instance_leaves : (ports : List Port) → leaves (instance_of ports) ≡ flat_map (λ f. map (under (step.Field f.name.id ∷ []) f.flip) (leaves f.typ)) (map instance_field ports)
instance_leaves ports = bundle_leaves nowhere (map instance_field ports)
