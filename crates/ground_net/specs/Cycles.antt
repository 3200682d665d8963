-- A cycle of a net (FIRRTL specification 3.0, "Registers" and "Memories"): the state between cycles, the values that settle in a
-- cycle, and the next state.
use Rattle.std.specs.Prelude.{◌≡◌, ℕ, nat_lt, Bool, false, List, [], map, flat_map, slice_get, ℤ, pos, unsigned_abs, Option, Some, None, option_map, option_and_then, if◌then◌else◌}
use Rattle.bit_words.specs.declared.value.Kind.TheVariants.{Unsigned}
use Rattle.bit_words.specs.declared.value.Value.{Value}
use Rattle.bit_words.specs.Values.{integer_of}
use Rattle.prim_ops.specs.Values.{fitted, is_one}
use Rattle.prim_ops.specs.Ports.{Held, Shown, set_to_write, set_to_read, after_ports, read_by_port}
use Rattle.ground_net.specs.declared.ground.Ground.{Ground}
use Rattle.ground_net.specs.declared.net.Leaf.{Leaf}
use Rattle.ground_net.specs.declared.net.Role.TheVariants as role
use Rattle.ground_net.specs.declared.net.Net.{Net}
use Rattle.ground_net.specs.declared.net.NetRegister.{NetRegister}
use Rattle.ground_net.specs.declared.net.NetReset.{NetReset}
use Rattle.ground_net.specs.declared.net.NetMemory.{NetMemory}
use Rattle.ground_net.specs.declared.net.ElementLeaf.{ElementLeaf}
use Rattle.ground_net.specs.declared.net.NetPort.{NetPort}
use Rattle.ground_net.specs.declared.net.NetWrite.{NetWrite}
use Rattle.ground_net.specs.declared.net.NetRead.{NetRead}
use Rattle.ground_net.specs.Grounds.{Instant, value}
use Rattle.ground_net.specs.Reads.{driver_of}
use Rattle.ground_net.specs.Cones.{numbered}

-- What is kept from a cycle to the next: the integer of each register, by its number; of each leaf of each element of each memory;
-- and of each captured read, by its number.
pub record NetState : Type 0 where
  pub registers : ℕ → ℤ
  pub contents : ℕ → Held ℕ
  pub captured : ℕ → ℤ

-- All is 0 at first.
abbrev pub first_state : NetState
first_state = record { registers = λ k. pos 0; contents = λ m element k. pos 0; captured = λ n. pos 0 }

-- The integers of main's input leaves in a cycle, by their numbers.
abbrev pub Inputs : Type 0
Inputs = ℕ → ℤ

-- A value for each leaf.
abbrev pub Valuation : Type 0
Valuation = ℕ → Value

-- leaf k of the elements of a memory
abbrev pub element_leaf : Net → ℕ → ℕ → Option ElementLeaf
element_leaf net m k = option_and_then (λ memory. slice_get memory.elements k) (slice_get net.memories m)

-- how many elements a memory has
abbrev pub depth_of : Option NetMemory → ℕ
depth_of (Some memory) = memory.depth
depth_of None = 0

-- an integer fitted to a leaf of an element
abbrev pub fitted_to_element : Option ElementLeaf → ℤ → Value
fitted_to_element (Some leaf) n = fitted leaf.kind leaf.width n
fitted_to_element None n = fitted Unsigned 0 n

-- What a memory holds at an address: 0 past its depth.
abbrev pub held_at : Net → NetState → ℕ → ℕ → ℕ → Value
held_at net s m k address =
    fitted_to_element (element_leaf net m k) (if nat_lt address (depth_of (slice_get net.memories m)) then s.contents m address k else pos 0)

-- What is seen in a cycle that begins with this state, where the leaves have these values.
abbrev pub instant_of : Net → NetState → Valuation → Instant
instant_of net s rho = record { leaf = rho; load = λ m k address. held_at net s m k (unsigned_abs (integer_of address)) }

-- an integer fitted to a leaf
abbrev pub fitted_to : Leaf → ℤ → Value
fitted_to leaf n = fitted leaf.kind leaf.width n

-- Values of the leaves are settled in a cycle that begins with this state and has these inputs: each leaf has what its role asks for.
pub record Settled (net : Net) (s : NetState) (given : Inputs) (rho : Valuation) : Type 0 where
  -- main's input leaves are given
  pub inputs : (x n : ℕ) (leaf : Leaf) → slice_get net.leaves x ≡ Some leaf → leaf.role ≡ role.Input n → rho x ≡ fitted_to leaf (given n)
  -- a Clock has no value: 0 stands for it
  pub clocks : (x : ℕ) (leaf : Leaf) → slice_get net.leaves x ≡ Some leaf → leaf.role ≡ role.Clock → rho x ≡ fitted_to leaf (pos 0)
  -- a register shows what it holds
  pub registers : (x n : ℕ) (leaf : Leaf) → slice_get net.leaves x ≡ Some leaf → leaf.role ≡ role.Register n → rho x ≡ fitted_to leaf (s.registers n)
  -- a captured read shows what was captured at the end of the cycle before
  pub captured : (x n : ℕ) (leaf : Leaf) → slice_get net.leaves x ≡ Some leaf → leaf.role ≡ role.Captured n → rho x ≡ fitted_to leaf (s.captured n)
  -- an assignment has its driver's value
  pub assigned : (x : ℕ) (leaf : Leaf) (driver : Ground) → slice_get net.leaves x ≡ Some leaf → leaf.role ≡ role.Assigned → driver_of net x ≡ Some driver
      → rho x ≡ value driver (instant_of net s rho)

-- There is one settled valuation: any two agree on every leaf of the net.
pub record HasOneSettled (net : Net) (s : NetState) (given : Inputs) : Type 0 where
  pub one : (rho : Valuation) × Settled net s given rho
  pub only : (rho other : Valuation) → Settled net s given rho → Settled net s given other → (x : ℕ) (leaf : Leaf) → slice_get net.leaves x ≡ Some leaf → rho x ≡ other x

-- The next state

-- what the driver of a register leaves, and what the register holds where it has none
abbrev pub driven_or : ℤ → Instant → Option Ground → ℤ
driven_or held instant (Some driver) = integer_of (value driver instant)
driven_or held instant None = held

-- A reset that is 1 takes its `init`.
abbrev pub after_reset : ℤ → Instant → Option NetReset → ℤ
after_reset driven instant (Some r) = if is_one (value r.reset instant) then integer_of (value r.init instant) else driven
after_reset driven instant None = driven

-- What a register holds next: `init` where it has a reset that is 1; else what its driver leaves; else what it holds.
abbrev pub next_of_register : Net → Instant → Option NetRegister → ℤ → ℤ
next_of_register net instant (Some register) held = after_reset (driven_or held instant (driver_of net register.leaf)) instant register.reset
next_of_register net instant None held = held

-- whether a leaf of one bit is 1
abbrev pub is_set : Instant → ℕ → Bool
is_set instant x = is_one (instant.leaf x)

-- the integer of a leaf, and 0 where there is none
abbrev pub integer_at : Instant → Option ℕ → ℤ
integer_at instant (Some x) = integer_of (instant.leaf x)
integer_at instant None = pos 0

abbrev pub is_set_at : Instant → Option ℕ → Bool
is_set_at instant (Some x) = is_set instant x
is_set_at instant None = false

-- whether a port has something to write, or to read, and is set to
abbrev pub where_it_writes : Option NetWrite → Bool → Bool
where_it_writes (Some write) set = set
where_it_writes None set = false

abbrev pub where_it_reads : Option NetRead → Bool → Bool
where_it_reads (Some read) set = set
where_it_reads None set = false

-- leaf k of what a port writes, and of its masks
abbrev pub written_leaf : Option NetWrite → ℕ → Option ℕ
written_leaf (Some write) k = slice_get write.leaves k
written_leaf None k = None

abbrev pub mask_leaf : Option NetWrite → ℕ → Option ℕ
mask_leaf (Some write) k = slice_get write.masks k
mask_leaf None k = None

-- What a port shows of its leaves.
abbrev pub shown : Instant → NetPort → Shown ℕ
shown instant port = record {
  writes = where_it_writes port.write (set_to_write (is_set instant port.en) (option_map (is_set instant) port.mode));
  reads = where_it_reads port.read (set_to_read (is_set instant port.en) (option_map (is_set instant) port.mode));
  address = unsigned_abs (integer_of (instant.leaf port.addr));
  written = λ k. integer_at instant (written_leaf port.write k);
  masked = λ k. is_set_at instant (mask_leaf port.write k);
}

-- What a memory holds next.
abbrev pub next_of_memory : Instant → Option NetMemory → Held ℕ → Held ℕ
next_of_memory instant (Some memory) held = after_ports memory.depth (shown instant) memory.ports held
next_of_memory instant None held = held

-- A captured read: its memory and that one's number, its port, whether it is taken after the writes, and the leaf of the element that
-- it reads, with the leaf of the net that shows it.
pub record Capture : Type 0 where
  pub number : ℕ
  pub memory : NetMemory
  pub port : NetPort
  pub after : Bool
  pub element : ℕ
  pub leaf : ℕ

-- what a port captures, leaf by leaf
abbrev pub captured_by : ℕ → NetMemory → NetPort → Option NetRead → List Capture
captured_by m memory port (Some read) =
    if read.captured then map (λ both. record { number = m; memory = memory; port = port; after = read.after; element = both.0; leaf = both.1 }) (numbered read.leaves) else []
captured_by m memory port None = []

-- The captured reads of a net in flat order.
abbrev pub captures : Net → List Capture
captures net = flat_map (λ both. flat_map (λ port. captured_by both.0 both.1 port port.read) both.1.ports) (numbered net.memories)

-- The contents that a captured read is taken from: those before the writes, or those after them.
abbrev pub taken : Bool → Held ℕ → Held ℕ → Held ℕ
taken after old new = if after then new else old

-- What a captured read shows next.
abbrev pub next_of_capture : NetState → Instant → Option Capture → ℤ
next_of_capture s instant (Some c) =
    let held = s.contents c.number in
    read_by_port c.memory.depth (taken c.after held (next_of_memory instant (Some c.memory) held)) (shown instant c.port) c.element
next_of_capture s instant None = pos 0

-- The state after the cycle.
abbrev pub next : Net → NetState → Instant → NetState
next net s instant = record {
  registers = λ k. next_of_register net instant (slice_get net.registers k) (s.registers k);
  contents = λ m. next_of_memory instant (slice_get net.memories m) (s.contents m);
  captured = λ n. next_of_capture s instant (slice_get (captures net) n);
}
