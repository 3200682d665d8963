use Rattle.std.proofs.Common.{◌≡◌, ◌++◌, take, map, length}
use Rattle.std.specs.List.{flat_map}
use Rattle.fir_tree.specs.declared.circuit.Module.{Module}
use Rattle.width_rules.specs.Circuits.{modules_from, port_places}
use Rattle.width_rules.specs.Walks.{ported}
use Rattle.width_rules.proofs.gathering.with_ports.Given as goal

abbrev pub invariant-loop-holder : goal.invariant-loop-holder
invariant-loop-holder l = record {
  modules : map ported l.all.items ≡ modules_from (length l.fn.places.items) (take l.holder-index l.modules);
  places : l.places.items ≡ l.fn.places.items ++ flat_map (λ (m : Module). flat_map port_places m.ports) (take l.holder-index l.modules);
}
