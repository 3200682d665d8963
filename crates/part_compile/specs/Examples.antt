-- Small nets of which it is told how many assignments are live at once, and how large their drivers are.
use Rattle.std.specs.Prelude.{ℕ, min, Bool, List, [], ◌∷◌, Option, Some, None, pos}
use Rattle.std.proofs.Math.Nat.{min-le_right}
use Rattle.bit_words.specs.declared.value.Kind.TheVariants.{Unsigned}
use Rattle.prim_ops.specs.Values.{fitted}
use Rattle.prim_ops.specs.declared.operation.PrimOp.TheVariants.{Add}
use Rattle.ground_net.specs.declared.ground.Ground.TheVariants as expression
use Rattle.ground_net.specs.declared.net.Role.TheVariants as role
use Rattle.ground_net.specs.declared.net.Net.{Net}
use Rattle.ground_net.specs.declared.net.CutPart.{CutPart}
use Rattle.ground_net.specs.declared.net.NetMemory.{NetMemory}
use Rattle.ground_net.specs.declared.net.NetPort.{NetPort}
use Rattle.ground_net.specs.declared.net.NetWrite.{NetWrite}
use Rattle.ground_net.specs.declared.net.NetRead.{NetRead}
use Rattle.cone_cutter.specs.Examples.{leaf, inverse}

-- An input (leaf 0), two nodes (1 and 2) and an output (3), each of them the inverse of the one before. The output is watched.
abbrev pub chain : Net
chain = record {
  ports = 0;
  leaves = leaf 8 (role.Input 0) ∷ leaf 8 role.Assigned ∷ leaf 8 role.Assigned ∷ leaf 8 role.Assigned ∷ [];
  drivers = None ∷ Some (inverse 0) ∷ Some (inverse 1) ∷ Some (inverse 2) ∷ [];
  registers = [];
  memories = [];
}

abbrev pub whole_chain : CutPart
whole_chain = record { sinks = 0 ∷ []; assignments = 1 ∷ 2 ∷ 3 ∷ [] }

-- An input (leaf 0), three inverses of it (1 to 3), an output (4) that is a choice among them, and a register (5) that takes the first of
-- them. The output is watched.
abbrev pub gathering : Net
gathering = record {
  ports = 0;
  leaves = leaf 1 (role.Input 0) ∷ leaf 1 role.Assigned ∷ leaf 1 role.Assigned ∷ leaf 1 role.Assigned ∷ leaf 1 role.Assigned ∷ leaf 1 (role.Register 0) ∷ [];
  drivers = None ∷ Some (inverse 0) ∷ Some (inverse 0) ∷ Some (inverse 0)
      ∷ Some (expression.Mux (expression.Leaf 1 ∷ expression.Leaf 2 ∷ expression.Leaf 3 ∷ [])) ∷ Some (expression.Leaf 1) ∷ [];
  registers = record { leaf = 5; reset = None } ∷ [];
  memories = [];
}

-- all of it, and all but the register
abbrev pub whole_gathering : CutPart
whole_gathering = record { sinks = 0 ∷ 1 ∷ []; assignments = 1 ∷ 2 ∷ 3 ∷ 4 ∷ [] }

abbrev pub gathering_alone : CutPart
gathering_alone = record { sinks = 0 ∷ []; assignments = 1 ∷ 2 ∷ 3 ∷ 4 ∷ [] }

-- A register (leaf 0) that takes its sum with a node (1), and has the node as its reset and 1 as its `init`; and a register (2) that
-- nothing drives.
abbrev pub resetting : Net
resetting = record {
  ports = 0;
  leaves = leaf 8 (role.Register 0) ∷ leaf 1 role.Assigned ∷ leaf 8 (role.Register 1) ∷ [];
  drivers = Some (expression.Op Add (expression.Leaf 0 ∷ expression.Leaf 1 ∷ []) []) ∷ Some (inverse 0) ∷ None ∷ [];
  registers = record { leaf = 0; reset = Some (record { reset = expression.Leaf 1; init = expression.Const (fitted Unsigned 8 (pos 1)) }) } ∷ record { leaf = 2; reset = None } ∷ [];
  memories = [];
}

-- A port with its address, its enable and its data in one leaf, and a memory of one leaf an element that has these ports.
abbrev pub port : Option ℕ → Option NetWrite → Option NetRead → NetPort
port mode write read = record { addr = 0; en = 0; mode = mode; write = write; read = read }

abbrev pub writes : Option NetWrite
writes = Some (record { leaves = 0 ∷ []; masks = 0 ∷ [] })

abbrev pub reads : Bool → Bool → Option NetRead
reads captured after = Some (record { leaves = 1 ∷ []; captured = captured; after = after })

abbrev pub memory : List NetPort → NetMemory
memory ports = record { name = []; before = 0; depth = 4; word = 0; elements = record { path = []; kind = Unsigned; width = min 8 128; narrow = min-le_right 8 128 } ∷ []; ports = ports }
