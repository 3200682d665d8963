-- Small nets with a memory of eight bits an element (FIRRTL specification 3.0, "Memories").
use Rattle.std.specs.Prelude.{ℕ, min, ◌==◌, true, false, [], ◌∷◌, Some, None, pos, if◌then◌else◌}
use Rattle.std.proofs.Math.Nat.{min-le_right}
use Rattle.bit_words.specs.declared.value.Kind.TheVariants.{Unsigned}
use Rattle.bit_words.specs.declared.value.Value.{Value}
use Rattle.prim_ops.specs.Values.{fitted}
use Rattle.ground_net.specs.declared.ground.Ground.TheVariants as expression
use Rattle.ground_net.specs.declared.net.Leaf.{Leaf}
use Rattle.ground_net.specs.declared.net.Role.{Role}
use Rattle.ground_net.specs.declared.net.Role.TheVariants as role
use Rattle.ground_net.specs.declared.net.Net.{Net}
use Rattle.ground_net.specs.declared.net.NetMemory.{NetMemory}
use Rattle.ground_net.specs.declared.net.NetPort.{NetPort}
use Rattle.ground_net.specs.Cycles.{NetState, Valuation, instant_of, next}

-- the UInt of this width
abbrev pub uint : ℕ → ℕ → Value
uint width n = fitted Unsigned width (pos n)

abbrev pub leaf : ℕ → Role → Leaf
leaf width r = record { name = []; kind = Unsigned; width = min width 128; place = record { line = 1; column = 1 }; role = r; narrow = min-le_right width 128 }

-- the memory of so many elements that has this port
abbrev pub memory : ℕ → NetPort → NetMemory
memory depth port = record {
  name = [];
  before = 0;
  depth = depth;
  word = 0;
  elements = record { path = []; kind = Unsigned; width = min 8 128; narrow = min-le_right 8 128 } ∷ [];
  ports = port ∷ [];
}

-- A readwriter: its address (leaf 0), `en` (1), what it reads (2), its mode (3), what it writes (4) and the mask (5). Its data come a
-- cycle later.
abbrev pub readwriter : NetPort
readwriter = record {
  addr = 0;
  en = 1;
  mode = Some 3;
  write = Some (record { leaves = 4 ∷ []; masks = 5 ∷ [] });
  read = Some (record { leaves = 2 ∷ []; captured = true; after = false });
}

-- the net of a memory of so many elements with a readwriter
abbrev pub of_readwriter : ℕ → Net
of_readwriter depth = record { ports = 0; leaves = []; drivers = []; registers = []; memories = memory depth readwriter ∷ [] }

-- each element holds 4, and each captured read shows 9
abbrev pub holding : NetState
holding = record { registers = λ k. pos 0; contents = λ m element k. pos 4; captured = λ n. pos 9 }

-- the readwriter asks for an address; it writes 77
abbrev pub asking : ℕ → ℕ → ℕ → Valuation
asking en wmode address x = if x == 0 then uint 2 address else if x == 1 then uint 1 en else if x == 3 then uint 1 wmode else if x == 4 then uint 8 77 else uint 1 1

-- The state after it.
abbrev pub asked : ℕ → ℕ → ℕ → ℕ → NetState
asked depth en wmode address = next (of_readwriter depth) holding (instant_of (of_readwriter depth) holding (asking en wmode address))

-- A reader whose data come a cycle later: main's inputs are the address (leaf 0) and `en` (1), and its output (2) shows the register
-- (4), which takes what was read (3).
abbrev pub reader : NetPort
reader = record { addr = 0; en = 1; mode = None; write = None; read = Some (record { leaves = 3 ∷ []; captured = true; after = false }) }

abbrev pub delayed_memory : NetMemory
delayed_memory = record (memory 4 reader) { before = 3; word = 1 }

abbrev pub delayed : Net
delayed = record {
  ports = 3;
  leaves = leaf 2 (role.Input 0) ∷ leaf 1 (role.Input 1) ∷ leaf 8 role.Assigned ∷ leaf 8 (role.Captured 0) ∷ leaf 8 (role.Register 0) ∷ [];
  drivers = None ∷ None ∷ Some (expression.Leaf 4) ∷ None ∷ Some (expression.Leaf 3) ∷ [];
  registers = record { leaf = 4; reset = None } ∷ [];
  memories = delayed_memory ∷ [];
}
