-- Which leaf a connect drives, and its flow (FIRRTL specification 3.0, "Connects", "Flows").
use Rattle.std.specs.Prelude.{if◌then◌else◌}
use Rattle.fir_types.specs.declared.leaf.TypeLeaf.{TypeLeaf}
use Rattle.fir_tree.specs.declared.part.Flow.{Flow}
use Rattle.fir_tree.specs.declared.part.Part.{Part}
use Rattle.fir_tree.specs.Parts.{flow_through}

-- the flow of a leaf of a part: one that is turned round in the part's type turns the part's flow round
abbrev pub leaf_flow : Part → TypeLeaf → Flow
leaf_flow part leaf = flow_through leaf.flip part.flow

-- Of a left leaf and the right one at its place, the left one is driven; where it is turned round, the right one.
abbrev pub driven_flow : Part → Part → TypeLeaf → TypeLeaf → Flow
driven_flow left right of_left of_right = if of_left.flip then leaf_flow right of_right else leaf_flow left of_left
