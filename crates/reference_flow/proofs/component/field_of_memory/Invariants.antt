use Rattle.std.proofs.Common.{◌≡◌, ◌==◌, find, filter_map, take, None}
use Rattle.fir_types.specs.Memories.{element_of, depth_of}
use Rattle.fir_types.specs.Bundles.{port_field}
use Rattle.reference_flow.proofs.component.field_of_memory.Given as goal

abbrev pub invariant-loop-line : goal.invariant-loop-line
invariant-loop-line l = find (λ f. f.name.id == l.id) (filter_map (port_field (element_of l.memory) (depth_of l.memory)) (take l.line-index l.memory.lines)) ≡ None
