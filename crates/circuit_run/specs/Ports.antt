-- The leaves of main's ports (FIRRTL specification 3.0, "Ports" and "Flows"): those that are given from outside, and those that are
-- watched.
use Rattle.std.specs.Prelude.{◌≡◌, ℕ, ◌&&◌, not, Bool, List, [], map, filter, flat_map, Option, Some, None, if◌then◌else◌}
use Rattle.std.specs.List.{AllZip, enumerate_from}
use Rattle.fir_types.specs.declared.leaf.TypeLeaf.{TypeLeaf}
use Rattle.fir_types.specs.Leaves.{leaves}
use Rattle.fir_tree.specs.LeafNames.{Texts, leaf_text}
use Rattle.fir_meaning.specs.Components.{Design, TypedModule, Component, flow_of, is_clock, kind_of_leaf, width_of_leaf, module_named}
use Rattle.fir_meaning.specs.States.{is_port, is_source}
use Rattle.ground_net.specs.declared.net.PortLeaf.{PortLeaf}
use Rattle.ground_net.specs.declared.net.Ports.{Ports}

-- a leaf with its component
abbrev pub PortPart : Type 0
PortPart = Component × TypeLeaf

-- the leaves of a component, where it is a port
abbrev pub parts_of_port : Component → List PortPart
parts_of_port c = if is_port c.declaration.sort then map (λ leaf. (c, leaf)) (leaves c.typ) else []

abbrev pub parts_of_ports : Option TypedModule → List PortPart
parts_of_ports (Some m) = flat_map parts_of_port m.components
parts_of_ports None = []

-- The leaves of main's ports, each with its number among them.
abbrev pub port_parts : Design → List (ℕ × PortPart)
port_parts design = enumerate_from 0 (parts_of_ports (module_named design design.main))

-- It is only read, so it is given from outside; or it has a value of its own. A Clock is neither.
abbrev pub is_given : PortPart → Bool
is_given x = is_source (flow_of x.0.declaration.sort x.1.flip) && not (is_clock x.1)

abbrev pub is_watched : PortPart → Bool
is_watched x = not (is_source (flow_of x.0.declaration.sort x.1.flip)) && not (is_clock x.1)

-- Main's input leaves, and the leaves by which a run is watched, in order.
abbrev pub given_parts : Design → List (ℕ × PortPart)
given_parts design = filter (λ x. is_given x.1) (port_parts design)

abbrev pub watched_parts : Design → List (ℕ × PortPart)
watched_parts design = filter (λ x. is_watched x.1) (port_parts design)

-- the text of a leaf
abbrev pub part_text : Texts → PortPart → List ℕ
part_text texts x = leaf_text texts x.0.declaration.name x.1.path

-- what is told of a leaf: its number, name, kind and width
pub record IsPortLeaf (texts : Texts) (x : ℕ × PortPart) (leaf : PortLeaf) : Type 0 where
  pub number : leaf.leaf ≡ x.0
  pub name : leaf.name ≡ part_text texts x.1
  pub kind : leaf.kind ≡ kind_of_leaf x.1.1
  pub width : leaf.width ≡ width_of_leaf x.1.1

-- The ports of a circuit whose names have these texts: its inputs, its watched leaves, and the names of all leaves of main's ports.
pub record ArePortsOf (texts : Texts) (design : Design) (ports : Ports) : Type 0 where
  pub inputs : AllZip (IsPortLeaf texts) (given_parts design) ports.inputs
  pub watched : AllZip (IsPortLeaf texts) (watched_parts design) ports.watched
  pub names : ports.names ≡ map (λ x. part_text texts x.1) (port_parts design)
