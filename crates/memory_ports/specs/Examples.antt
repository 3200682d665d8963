-- Small flat circuits: a memory of four elements of eight bits with one port, which main's inputs drive.
use Rattle.std.specs.Prelude.{ℕ, min, Bool, [], ◌∷◌, Some, None}
use Rattle.std.proofs.Math.Nat.{min-le_right}
use Rattle.bit_words.specs.declared.value.Kind.TheVariants.{Unsigned}
use Rattle.ground_net.specs.declared.ground.Ground.TheVariants as expression
use Rattle.ground_net.specs.declared.circuit.GroundLeaf.{GroundLeaf}
use Rattle.ground_net.specs.declared.circuit.GroundRole.{GroundRole}
use Rattle.ground_net.specs.declared.circuit.GroundRole.TheVariants.{Input, Plain}
use Rattle.ground_net.specs.declared.circuit.GroundMemory.{GroundMemory}
use Rattle.ground_net.specs.declared.circuit.FlatCircuit.{FlatCircuit}
use Rattle.ground_net.specs.declared.net.NetPort.{NetPort}

-- a UInt of this width
abbrev pub leaf : GroundRole → ℕ → GroundLeaf
leaf role width = record { name = []; kind = Unsigned; width = min width 128; place = record { line = 1; column = 1 }; role = role; narrow = min-le_right width 128 }

-- the memory behind so many leaves that has this port
abbrev pub memory : ℕ → NetPort → GroundMemory
memory first port = record { name = []; first = first; depth = 4; elements = record { path = []; kind = Unsigned; width = min 8 128; narrow = min-le_right 8 128 } ∷ []; ports = port ∷ [] }

-- A reader: its address (leaf 2), `en` (3) and data (4), which come in the same cycle or a cycle later.
abbrev pub reader : Bool → NetPort
reader captured = record { addr = 2; en = 3; mode = None; write = None; read = Some (record { leaves = 4 ∷ []; captured = captured; after = captured }) }

-- the circuit with the reader
abbrev pub with_reader : Bool → FlatCircuit
with_reader captured = record {
  ports = 2;
  leaves = leaf Input 2 ∷ leaf Input 1 ∷ leaf Plain 2 ∷ leaf Plain 1 ∷ leaf Plain 8 ∷ [];
  drivers = None ∷ None ∷ Some (expression.Leaf 0) ∷ Some (expression.Leaf 1) ∷ None ∷ [];
  registers = [];
  memories = memory 2 (reader captured) ∷ [];
}

-- A readwriter: its address (leaf 4), `en` (5), what it reads (6), its mode (7), what it writes (8) and the mask (9).
abbrev pub readwriter : Bool → NetPort
readwriter captured = record {
  addr = 4;
  en = 5;
  mode = Some 7;
  write = Some (record { leaves = 8 ∷ []; masks = 9 ∷ [] });
  read = Some (record { leaves = 6 ∷ []; captured = captured; after = captured });
}

-- the circuit with the readwriter
abbrev pub with_readwriter : Bool → FlatCircuit
with_readwriter captured = record {
  ports = 4;
  leaves = leaf Input 2 ∷ leaf Input 1 ∷ leaf Input 1 ∷ leaf Input 8 ∷ leaf Plain 2 ∷ leaf Plain 1 ∷ leaf Plain 8 ∷ leaf Plain 1 ∷ leaf Plain 8 ∷ leaf Plain 1 ∷ [];
  drivers = None ∷ None ∷ None ∷ None ∷ Some (expression.Leaf 0) ∷ Some (expression.Leaf 1) ∷ None ∷ Some (expression.Leaf 2) ∷ Some (expression.Leaf 3) ∷ Some (expression.Leaf 2) ∷ [];
  registers = [];
  memories = memory 4 (readwriter captured) ∷ [];
}
