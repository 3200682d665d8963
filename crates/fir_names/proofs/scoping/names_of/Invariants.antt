use Rattle.std.proofs.Common.{take, map, ◌≡◌}
use Rattle.fir_tree.specs.declared.circuit.Module.{Module}
use Rattle.fir_names.proofs.scoping.names_of.Given as goal

abbrev pub invariant-loop-holder : goal.invariant-loop-holder
invariant-loop-holder l = l.names.items ≡ map (λ (holder : Module). holder.name) (take l.holder-index l.modules)
