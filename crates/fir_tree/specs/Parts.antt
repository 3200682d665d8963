-- Components and their parts, with types and flows (FIRRTL specification 3.0, "Flows" and "References").
use Rattle.std.specs.Prelude.{ℕ, ◌==◌, Bool, true, false, List, [], find, Option, Some, None, option_map, if◌then◌else◌}
use Rattle.fir_types.specs.declared.fir_type.FirType.{FirType}
use Rattle.fir_types.specs.declared.fir_type.Shape.{Shape}
use Rattle.fir_types.specs.declared.fir_type.Shape.TheOpen.{Shape-F}
use Rattle.fir_types.specs.declared.fir_type.Shape.TheViews.{out-Shape}
use Rattle.fir_types.specs.declared.fir_type.Shape.TheVariants as shape
use Rattle.fir_types.specs.declared.fir_type.Field.{Field}
use Rattle.fir_types.specs.declared.port.Port.{Port}
use Rattle.fir_types.specs.Bundles.{nowhere, instance_of}
use Rattle.fir_tree.specs.declared.circuit.Module.{Module}
use Rattle.fir_tree.specs.declared.part.Flow.{Flow}
use Rattle.fir_tree.specs.declared.part.Flow.TheVariants.{Source, Sink, Duplex}
use Rattle.fir_tree.specs.declared.part.Part.{Part}

-- A flip turns a source and a sink round; duplex stays.
abbrev pub turned : Flow → Flow
turned Source = Sink
turned Sink = Source
turned Duplex = Duplex

-- the flow of a field, whether it is flipped, of what has this flow
abbrev pub flow_through : Bool → Flow → Flow
flow_through true flow = turned flow
flow_through false flow = flow

abbrev pub part_of : FirType → Flow → Part
part_of typ flow = record { typ = typ; flow = flow }

-- what can only be read
abbrev pub source_of : FirType → Part
source_of typ = part_of typ Source

-- An input can be read inside its module, and an output driven.
abbrev pub port_flow : Port → Flow
port_flow port = if port.output then Sink else Source

-- an instance of a module, which can only be read
abbrev pub instance_part : Module → Part
instance_part target = source_of (instance_of target.ports)

-- an instance of the first module of a name
abbrev pub instance_in : List Module → ℕ → Option Part
instance_in modules name = option_map instance_part (find (λ m. m.name.id == name) modules)

-- what is nothing else counts as a source without parts
abbrev pub no_part : Part
no_part = source_of (record { place = nowhere; shape = shape.Bundle [] })

abbrev pub part_or_none : Option Part → Part
part_or_none (Some part) = part
part_or_none None = no_part

-- The steps of references. In a circuit without a fault each part is there; where one isn't, the flow stays.

abbrev pub field_or_whole : Part → Option Field → Part
field_or_whole base (Some field) = part_of field.typ (flow_through field.flip base.flow)
field_or_whole base None = base

abbrev pub field_of_layer : ℕ → Part → Shape-F Shape Field FirType → Part
field_of_layer name base (Shape-F.Bundle fields) = field_or_whole base (find (λ f. f.name.id == name) fields)
field_of_layer name base _ = base

abbrev pub field_part : ℕ → Part → Part
field_part name base = field_of_layer name base (out-Shape base.typ.shape)

abbrev pub element_of_layer : Part → Shape-F Shape Field FirType → Part
element_of_layer base (Shape-F.Vector element length) = part_of element base.flow
element_of_layer base _ = base

abbrev pub element_part : Part → Part
element_part base = element_of_layer base (out-Shape base.typ.shape)
