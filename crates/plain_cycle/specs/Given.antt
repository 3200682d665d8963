-- The inputs of a cycle, from a row of values (FIRRTL specification 3.0, "Ports").
use Rattle.std.specs.Prelude.{◌&&◌, not, List, [], map, filter, flat_map, ℤ, Option, Some, None, if◌then◌else◌}
use Rattle.bit_words.specs.declared.value.Value.{Value}
use Rattle.fir_types.specs.Leaves.{leaves}
use Rattle.fir_meaning.specs.Components.{Design, TypedModule, Component, Leaf, flow_of, is_clock, module_named}
use Rattle.fir_meaning.specs.Drives.{same_leaf}
use Rattle.plain_cycle.specs.Firsts.{first_beside, integer_beside_it}
use Rattle.fir_meaning.specs.States.{Inputs, leaf_of, is_port, is_source}

-- main's leaves of flow source that are no clocks, in port order
abbrev pub inputs_of_component : Component → List Leaf
inputs_of_component c =
    if is_port c.declaration.sort then map (leaf_of c) (filter (λ leaf. is_source (flow_of c.declaration.sort leaf.flip) && not (is_clock leaf)) (leaves c.typ)) else []

abbrev pub inputs_of : Option TypedModule → List Leaf
inputs_of (Some m) = flat_map inputs_of_component m.components
inputs_of None = []

-- The leaves that a row of inputs gives.
abbrev pub inputs_in : Design → List Leaf
inputs_in design = inputs_of (module_named design design.main)

-- the integer of the value that stands beside a leaf, and 0 where none does
abbrev pub given_beside : Leaf → List Leaf → List Value → ℤ
given_beside leaf xs row = integer_beside_it (first_beside (λ x. same_leaf x leaf) xs row)

-- What a row gives, where these are its leaves.
abbrev pub given_by : List Leaf → List Value → Inputs
given_by xs row name way = given_beside (record { component = name; way = way }) xs row
