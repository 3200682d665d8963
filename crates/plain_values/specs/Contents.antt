-- What lists of values say of a memory's contents, and what a module sees of a memory (FIRRTL specification 3.0, "Memories").
use Rattle.std.specs.Prelude.{◌==◌, ◌||◌, not, Bool, false, List, [], ◌∷◌, map, filter, drop, get_or}
use Rattle.bit_words.specs.declared.value.Value.{Value}
use Rattle.fir_types.specs.declared.leaf.TypeLeaf.{TypeLeaf}
use Rattle.fir_types.specs.declared.leaf.PathStep.{PathStep}
use Rattle.fir_types.specs.declared.leaf.PathStep.TheVariants as step
use Rattle.fir_types.specs.Bundles.{data_name, wdata_name}
use Rattle.fir_meaning.specs.MemoryPorts.{MemoryPort, Contents, Leaves}
use Rattle.plain_values.specs.Sites.{beside_leaf, integer_or_zero, scene_of_view}
use Rattle.plain_values.specs.declared.memory.SeenMemory.{SeenMemory}
use Rattle.plain_values.specs.declared.memory.HeldPort.{HeldPort}

-- The contents of a memory whose elements have these leaves: of each element, from 0, there is a list of values beside them. What has
-- no value is 0.
abbrev pub contents_of : List TypeLeaf → List (List Value) → Contents
contents_of leaves elements element way = integer_or_zero (beside_leaf way leaves (get_or elements element []))

-- The integers of the memory's leaves, as its module sees them.
abbrev pub leaves_of_seen : SeenMemory → Leaves
leaves_of_seen seen = (scene_of_view seen.view).integers seen.memory.now.name.id

-- a port with the place of its name
abbrev pub port_of_held : HeldPort → MemoryPort
port_of_held port = record { name = port.name.id; place = port.name.place; mode = port.mode }

-- a leaf of a port's field, by its way within the field
abbrev pub inner_leaf : TypeLeaf → TypeLeaf
inner_leaf leaf = record { path = drop 2 leaf.path; flip = leaf.flip; typ = leaf.typ }

-- the way to a leaf of the data that a port writes
abbrev pub takes_data : List PathStep → Bool
takes_data (step.Field port ∷ (step.Field field ∷ way)) = (field == data_name) || (field == wdata_name)
takes_data _ = false

-- A leaf of a memory is one of its elements where it shows what they hold, as it isn't flipped, or is one of the data that a port writes.
abbrev pub is_stored : TypeLeaf → Bool
is_stored leaf = not leaf.flip || takes_data leaf.path

-- Those leaves, by their ways within an element.
abbrev pub stored_leaves : List TypeLeaf → List TypeLeaf
stored_leaves leaves = map inner_leaf (filter is_stored leaves)
