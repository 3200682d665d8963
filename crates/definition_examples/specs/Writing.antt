-- A net in which ports meet at one element, and one of registers (FIRRTL specification 3.0, "Memories" and "Registers").
use Rattle.std.specs.Prelude.{ℕ, ◌==◌, true, false, [], ◌∷◌, Some, None, ℤ, pos, negsuc, if◌then◌else◌}
use Rattle.bit_words.specs.declared.value.Kind.TheVariants.{Signed}
use Rattle.bit_words.specs.declared.value.Value.{Value}
use Rattle.prim_ops.specs.Values.{fitted}
use Rattle.ground_net.specs.declared.ground.Ground.TheVariants as expression
use Rattle.ground_net.specs.declared.net.Role.TheVariants as role
use Rattle.ground_net.specs.declared.net.Net.{Net}
use Rattle.ground_net.specs.declared.net.NetMemory.{NetMemory}
use Rattle.ground_net.specs.Cycles.{NetState, Valuation, instant_of, next}
use Rattle.definition_examples.specs.Circuits.{uint, leaf, memory, reader}
use Rattle.definition_examples.specs.Kept.{signed_leaf}
use Rattle.definition_examples.specs.Needing.{memory_behind, port_from, writing_from, reading_from}

-- A reader before the writes (leaves 4 to 7), one after them (8 to 11), a writer (12 to 17) and a second writer (18 to 23).
abbrev pub shared_memory : NetMemory
shared_memory = memory_behind 0
    (port_from 4 None None (reading_from 6 true false) ∷ port_from 8 None None (reading_from 10 true true)
    ∷ port_from 12 None (writing_from 14) None ∷ port_from 18 None (writing_from 20) None ∷ [])

-- That memory, behind another one with a reader.
abbrev pub meeting : Net
meeting = record { ports = 0; leaves = []; drivers = []; registers = []; memories = memory 4 reader ∷ shared_memory ∷ [] }

-- the first memory holds 3; an element of the second holds 5 and 6
abbrev pub before_meeting : NetState
before_meeting = record { registers = λ k. pos 0; contents = λ m e k. if m == 0 then pos 3 else if k == 0 then pos 5 else pos 6; captured = λ n. pos 9 }

-- All ports are enabled, at the element 2. The first writer writes 71 and 72, the second 81 and 82, each where the mask is 1.
abbrev pub masked : ℕ → ℕ → ℕ → ℕ → Valuation
masked a b c d x =
    if x == 14 then uint 8 71 else if x == 15 then uint 8 72 else if x == 20 then uint 8 81 else if x == 21 then uint 8 82
    else if x == 16 then uint 1 a else if x == 17 then uint 1 b else if x == 22 then uint 1 c else if x == 23 then uint 1 d
    else if x == 0 then uint 2 2 else if x == 4 then uint 2 2 else if x == 8 then uint 2 2 else if x == 12 then uint 2 2 else if x == 18 then uint 2 2
    else uint 1 1

-- The state after these masks.
abbrev pub met : ℕ → ℕ → ℕ → ℕ → NetState
met a b c d = next meeting before_meeting (instant_of meeting before_meeting (masked a b c d))

-- the SInt of four bits
abbrev pub sint : ℤ → Value
sint n = fitted Signed 4 n

-- A reset (leaf 0) and a SInt (1), and four registers of a SInt: one with the reset and a driver (2), one with the reset alone (3), one
-- with a driver alone (4), and one with neither (5). A reset makes it -3.
abbrev pub registering : Net
registering = record {
  ports = 2;
  leaves = leaf 1 (role.Input 0) ∷ signed_leaf 4 (role.Input 1) ∷ signed_leaf 4 (role.Register 0) ∷ signed_leaf 4 (role.Register 1)
      ∷ signed_leaf 4 (role.Register 2) ∷ signed_leaf 4 (role.Register 3) ∷ [];
  drivers = None ∷ None ∷ Some (expression.Leaf 1) ∷ None ∷ Some (expression.Leaf 1) ∷ None ∷ [];
  registers = record { leaf = 2; reset = Some (record { reset = expression.Leaf 0; init = expression.Const (sint (negsuc 2)) }) }
      ∷ record { leaf = 3; reset = Some (record { reset = expression.Leaf 0; init = expression.Const (sint (negsuc 2)) }) }
      ∷ record { leaf = 4; reset = None } ∷ record { leaf = 5; reset = None } ∷ [];
  memories = [];
}

-- each register holds 6
abbrev pub holding_6 : NetState
holding_6 = record { registers = λ k. pos 6; contents = λ m e k. pos 0; captured = λ n. pos 0 }

-- the reset is given, and the SInt is -5
abbrev pub resetting : ℕ → Valuation
resetting reset x = if x == 0 then uint 1 reset else if x == 1 then sint (negsuc 4) else sint (pos 6)

-- The state after a cycle with this reset.
abbrev pub registered : ℕ → NetState
registered reset = next registering holding_6 (instant_of registering holding_6 (resetting reset))
