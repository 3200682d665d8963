-- What is kept from a cycle to the next, as lists of values.
use Rattle.std.specs.Prelude.{◌≡◌, ℕ, ◌+◌, ◌*◌, ◌<◌, List, [], map, flat_map, length, slice_get, slice_set, pos, Option, Some, None, if◌then◌else◌}
use Rattle.bit_words.specs.declared.value.Value.{Value}
use Rattle.prim_ops.specs.Values.{fitted, lone}
use Rattle.prim_ops.specs.Ports.{Held}
use Rattle.ground_net.specs.declared.net.Net.{Net}
use Rattle.ground_net.specs.declared.net.Leaf.{Leaf}
use Rattle.ground_net.specs.declared.net.Role.{Role}
use Rattle.ground_net.specs.declared.net.Role.TheVariants as role
use Rattle.ground_net.specs.declared.net.NetRegister.{NetRegister}
use Rattle.ground_net.specs.declared.net.NetMemory.{NetMemory}
use Rattle.ground_net.specs.declared.net.ElementLeaf.{ElementLeaf}
use Rattle.ground_net.specs.declared.net.NetPort.{NetPort}
use Rattle.ground_net.specs.declared.net.NetRead.{NetRead}
use Rattle.ground_net.specs.Cycles.{NetState, Inputs, Capture, captures, fitted_to}
use Rattle.net_run.specs.declared.kept.Kept.{Kept}
use Rattle.net_run.specs.Seeing.{value_at}

-- A memory holds these contents: its elements one after the other, each leaf by leaf.
pub record AreContents (memory : NetMemory) (contents : Held ℕ) (held : List Value) : Type 0 where
  pub counted : length held ≡ memory.depth * length memory.elements
  pub each : (element k : ℕ) (leaf : ElementLeaf) → element < memory.depth → slice_get memory.elements k ≡ Some leaf
      → slice_get held (element * length memory.elements + k) ≡ Some (fitted leaf.kind leaf.width (contents element k))

-- The values that are kept stand for a state.
pub record IsKept (net : Net) (s : NetState) (kept : Kept) : Type 0 where
  pub all_registers : length kept.registers ≡ length net.registers
  pub registers : (n : ℕ) (register : NetRegister) (leaf : Leaf) → slice_get net.registers n ≡ Some register → slice_get net.leaves register.leaf ≡ Some leaf
      → slice_get kept.registers n ≡ Some (fitted_to leaf (s.registers n))
  pub all_contents : length kept.contents ≡ length net.memories
  pub contents : (m : ℕ) (memory : NetMemory) (held : List Value) → slice_get net.memories m ≡ Some memory → slice_get kept.contents m ≡ Some held → AreContents memory (s.contents m) held
  pub all_captured : length kept.captured ≡ length (captures net)
  pub captured : (n : ℕ) (c : Capture) (leaf : Leaf) → slice_get (captures net) n ≡ Some c → slice_get net.leaves c.leaf ≡ Some leaf
      → slice_get kept.captured n ≡ Some (fitted_to leaf (s.captured n))

-- The values of the inputs stand for the integers that are given.
abbrev pub AreInputValues : Net → Inputs → List Value → Type 0
AreInputValues net given inputs = (x n : ℕ) (leaf : Leaf) → slice_get net.leaves x ≡ Some leaf → leaf.role ≡ role.Input n → slice_get inputs n ≡ Some (fitted_to leaf (given n))

-- What a leaf has before the assignments are evaluated.
abbrev pub before_assignments : Kept → List Value → Leaf → Role → Value
before_assignments kept inputs leaf (role.Input n) = value_at inputs n
before_assignments kept inputs leaf role.Clock = fitted_to leaf (pos 0)
before_assignments kept inputs leaf role.Assigned = fitted_to leaf (pos 0)
before_assignments kept inputs leaf (role.Register n) = value_at kept.registers n
before_assignments kept inputs leaf (role.Captured n) = value_at kept.captured n

-- what all leaves have before the assignments are evaluated
abbrev pub before_all : Net → Kept → List Value → List Value
before_all net kept inputs = map (λ leaf. before_assignments kept inputs leaf leaf.role) net.leaves

-- The state that is kept, and integers that are given, are there.
abbrev pub StandsForState : Net → Kept → Type 0
StandsForState net kept = (s : NetState) × IsKept net s kept

abbrev pub AreGiven : Net → List Value → Type 0
AreGiven net inputs = (given : Inputs) × AreInputValues net given inputs

-- the list with a driver's value at a place, where there is one
abbrev pub put_driven : Option Value → ℕ → List Value → List Value
put_driven (Some v) x values = slice_set values x v
put_driven None x values = values

-- 0 of a leaf
abbrev pub zero_of : Option Leaf → Value
zero_of (Some leaf) = fitted_to leaf (pos 0)
zero_of None = lone []

-- 0 of leaves of these numbers
abbrev pub zeros_at : Net → List ℕ → List Value
zeros_at net leaves = map (λ x. zero_of (slice_get net.leaves x)) leaves

-- what the registers hold at first
abbrev pub first_registers : Net → List Value
first_registers net = map (λ register. zero_of (slice_get net.leaves register.leaf)) net.registers

-- the leaves of a captured read
abbrev pub captured_of : Option NetRead → List ℕ
captured_of (Some read) = if read.captured then read.leaves else []
captured_of None = []

abbrev pub zeros_of_ports : Net → List NetPort → List Value
zeros_of_ports net ports = flat_map (λ port. zeros_at net (captured_of port.read)) ports

-- what the captured reads show at first
abbrev pub first_captured : Net → List Value
first_captured net = flat_map (λ memory. zeros_of_ports net memory.ports) net.memories

-- an element of 0
abbrev pub zero_element : NetMemory → List Value
zero_element memory = map (λ leaf. fitted leaf.kind leaf.width (pos 0)) memory.elements

-- So many elements are 0.
pub record AreZeros (memory : NetMemory) (elements : ℕ) (held : List Value) : Type 0 where
  pub counted : length held ≡ elements * length memory.elements
  pub each : (element k : ℕ) (leaf : ElementLeaf) → element < elements → slice_get memory.elements k ≡ Some leaf
      → slice_get held (element * length memory.elements + k) ≡ Some (fitted leaf.kind leaf.width (pos 0))

-- So many memories are 0.
pub record AreZeroMemories (memories : List NetMemory) (count : ℕ) (contents : List (List Value)) : Type 0 where
  pub counted : length contents ≡ count
  pub each : (m : ℕ) (memory : NetMemory) (held : List Value) → slice_get memories m ≡ Some memory → slice_get contents m ≡ Some held → AreZeros memory memory.depth held
