-- Two instances of a module of one leaf, and a leaf between them.
use Rattle.std.specs.Prelude.{List, [], ◌∷◌, None, codes}
use Rattle.ground_net.specs.declared.circuit.DrivenCircuit.{DrivenCircuit}
use Rattle.ground_net.specs.declared.circuit.DrivenModule.{DrivenModule}
use Rattle.ground_net.specs.declared.circuit.GroundLeaf.{GroundLeaf}
use Rattle.flatten_instances.specs.FlatOrder.{Item, A_leaf, spot}

-- a module of one port
abbrev pub inner : GroundLeaf → DrivenModule
inner port = record { ports = 1; leaves = port ∷ []; drivers = None ∷ []; registers = []; memories = []; instances = [] }

-- main has a port, the leaf of instance `i`, a leaf of its own, and the leaf of instance `j`
abbrev pub outer : GroundLeaf → GroundLeaf → GroundLeaf → GroundLeaf → DrivenModule
outer port of_i own of_j = record {
  ports = 1;
  leaves = port ∷ of_i ∷ own ∷ of_j ∷ [];
  drivers = None ∷ None ∷ None ∷ None ∷ [];
  registers = [];
  memories = [];
  instances = record { name = codes "i"; first = 1; memories = 0; «module» = 1 } ∷ record { name = codes "j"; first = 3; memories = 0; «module» = 1 } ∷ [];
}

abbrev pub two_instances : GroundLeaf → GroundLeaf → GroundLeaf → GroundLeaf → GroundLeaf → DrivenCircuit
two_instances port of_i own of_j inside = record { modules = outer port of_i own of_j ∷ inner inside ∷ []; main = 0 }

-- main's port, the leaf of `i`, main's own leaf, and the leaf of `j`
abbrev pub four_items : List Item
four_items = A_leaf (spot [] 0 0) ∷ A_leaf (spot (0 ∷ []) 1 0) ∷ A_leaf (spot [] 0 2) ∷ A_leaf (spot (1 ∷ []) 1 0) ∷ []
