-- The Clock inputs of a module, in port order.
use Rattle.std.specs.Prelude.{ℕ, ◌&&◌, Bool, List, [], ◌∷◌, flat_map, if◌then◌else◌}
use Rattle.fir_types.specs.declared.leaf.TypeLeaf.{TypeLeaf}
use Rattle.fir_types.specs.declared.port.Port.{Port}
use Rattle.fir_types.specs.Leaves.{leaves, is_clock}
use Rattle.fir_tree.specs.declared.circuit.Module.{Module}
use Rattle.fir_meaning.specs.Components.{Leaf, Sort, An_input, An_output, flow_of}
use Rattle.fir_meaning.specs.Mentions.{Scope}
use Rattle.fir_meaning.specs.States.{is_source}
use Rattle.clock_check.specs.Edges.{part_of}

abbrev pub port_sort : Bool → Sort
port_sort output = if output then An_output else An_input

-- a leaf of a port, where it is a Clock that the module only reads
abbrev pub input_leaf : Bool → ℕ → TypeLeaf → List Leaf
input_leaf output name leaf = if is_clock leaf && is_source (flow_of (port_sort output) leaf.flip) then part_of name leaf ∷ [] else []

abbrev pub port_inputs : Scope → Port → List Leaf
port_inputs types port = flat_map (input_leaf port.output port.name.id) (leaves (types port.name.id))

-- those of a module whose components have these types by name
abbrev pub module_inputs : Scope → Module → List Leaf
module_inputs types holder = flat_map (port_inputs types) holder.ports
