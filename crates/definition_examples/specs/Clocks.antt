-- Circuits and their clocks. Main is 100. Its ports: the input `clock` 20, a second one `other` 21, the input `en : UInt<1>` 22 and the
-- output `tick` 28, a Clock. Its components: the register r 23, the node n 24, the wire w 25, the instance i 26 of the module 101, the
-- memory m 27 with its writer p 29. In 101 the input is 30 and the register 31.
use Rattle.std.specs.Prelude.{ℕ, ◌==◌, List, [], ◌∷◌, if◌then◌else◌}
use Rattle.fir_types.specs.declared.memory.Memory.{Memory}
use Rattle.fir_types.specs.declared.memory.MemLine.TheVariants as line
use Rattle.fir_types.specs.declared.memory.PortMode.TheVariants as mode
use Rattle.fir_types.specs.declared.fir_type.FirType.{FirType}
use Rattle.fir_types.specs.Bundles.{memory_of}
use Rattle.fir_tree.specs.declared.expr.Expr.{Expr}
use Rattle.fir_tree.specs.declared.stmt.Stmt.{Stmt}
use Rattle.fir_tree.specs.declared.stmt.Stmt.TheVariants as stmt
use Rattle.fir_meaning.specs.Components.{Design, TypedModule, Component, FlatLeaf, An_input, An_output, A_wire, A_register, A_memory, An_instance, A_node}
use Rattle.fir_meaning.specs.Mentions.{Scope}
use Rattle.definition_examples.specs.Sides.{v_of_i}
use Rattle.definition_examples.specs.Samples.{place, name, uint, clock_type, vector, bundle, flipped, ref, part, dot, connect, arm, component}

abbrev pub alone : List Component → Design
alone components = record { main = 100; modules = record { name = 100; components = components } ∷ [] }

-- main's leaf of this component
abbrev pub at_main : ℕ → FlatLeaf
at_main c = record { path = []; component = c; way = [] }

abbrev pub clock_in : ℕ → List Stmt → Component
clock_in id body = component id An_input clock_type body body

-- a register that nothing drives
abbrev pub register_of : ℕ → Expr → List Stmt → Component
register_of id clock body = component id (A_register clock) (uint 4) body []

-- reg r : UInt<4>, clock
abbrev pub clocked_by : ℕ → Design
clocked_by c =
    let body : List Stmt = stmt.Reg (name 23) (uint 4) (ref c) ∷ [] in
    alone (clock_in 20 body ∷ clock_in 21 body ∷ register_of 23 (ref c) body ∷ [])

-- `output tick : Clock` before the two inputs, and `connect tick, clock`
abbrev pub ticking : Design
ticking =
    let body : List Stmt = connect (ref 28) (ref 20) ∷ [] in
    alone (component 28 An_output clock_type body body ∷ clock_in 20 body ∷ clock_in 21 body ∷ [])

--   node n = clock
--   reg r : UInt<4>, n
abbrev pub through_node : Design
through_node =
    let body : List Stmt = stmt.Node (name 24) (ref 20) ∷ stmt.Reg (name 23) (uint 4) (ref 24) ∷ [] in
    alone (clock_in 20 body ∷ component 24 (A_node (ref 20)) clock_type body (stmt.Reg (name 23) (uint 4) (ref 24) ∷ []) ∷ register_of 23 (ref 24) body ∷ [])

--   wire w : Clock
--   when en :
--     connect w, clock
--   reg r : UInt<4>, w
abbrev pub gated_body : List Stmt
gated_body =
    stmt.Wire (name 25) clock_type ∷ stmt.When (arm (ref 22) (connect (ref 25) (ref 20) ∷ []) ∷ []) [] ∷ stmt.Reg (name 23) (uint 4) (ref 25) ∷ []

abbrev pub gated : Design
gated = alone (clock_in 20 gated_body ∷ component 22 An_input (uint 1) gated_body gated_body ∷ component 25 A_wire clock_type gated_body [] ∷ register_of 23 (ref 25) gated_body ∷ [])

-- a memory with the writer p, to which nothing is connected
abbrev pub memory : Memory
memory = record {
  name = name 27;
  lines =
      line.Element place (uint 8) ∷ line.Depth place 4 ∷ line.ReadLatency place 0 ∷ line.WriteLatency place 1 ∷ line.MemPort place mode.Writer (name 29) ∷ [];
}

abbrev pub with_memory : Design
with_memory =
    let body : List Stmt = stmt.Mem memory ∷ [] in
    alone (clock_in 20 body ∷ component 27 (A_memory memory) (memory_of memory) body [] ∷ [])

--   inst i of 101
--   connect i.clock, clock
abbrev pub caller_body : List Stmt
caller_body = stmt.Inst (name 26) (name 101) ∷ connect (part 26 (dot 30 ∷ [])) (ref 20) ∷ []

abbrev pub instance : Component
instance = component 26 (An_instance 101) (bundle (flipped 30 clock_type ∷ [])) caller_body (connect (part 26 (dot 30 ∷ [])) (ref 20) ∷ [])

abbrev pub caller : TypedModule
caller = record { name = 100; components = clock_in 20 caller_body ∷ instance ∷ [] }

--   reg r : UInt<4>, clock
abbrev pub called_body : List Stmt
called_body = stmt.Reg (name 31) (uint 4) (ref 30) ∷ []

abbrev pub called : TypedModule
called = record { name = 101; components = clock_in 30 called_body ∷ register_of 31 (ref 30) called_body ∷ [] }

abbrev pub through_instance : Design
through_instance = record { main = 100; modules = caller ∷ called ∷ [] }

-- a wire w of this type, to which nothing is connected
abbrev pub idle_wire : FirType → Component
idle_wire t = component 25 A_wire t (stmt.Wire (name 25) t ∷ []) []

abbrev pub with_wire : FirType → Design
with_wire t = alone (idle_wire t ∷ [])

-- v (23) is a vector of two Clocks, the index i (24) is UInt<1>, and all else is a Clock.
abbrev pub clocks : Scope
clocks c = if c == 23 then vector clock_type 2 else if c == 24 then uint 1 else clock_type

-- connect v[i], clock
abbrev pub to_indexed : List Stmt
to_indexed = connect v_of_i (ref 20) ∷ []

-- connect tick, v[i]
abbrev pub from_indexed : List Stmt
from_indexed = connect (ref 28) v_of_i ∷ []

--   connect tick, clock
--   invalidate tick
abbrev pub invalidated : List Stmt
invalidated = connect (ref 28) (ref 20) ∷ stmt.Invalidate (ref 28) ∷ []

--   connect tick, clock
--   connect tick, other
abbrev pub twice : List Stmt
twice = connect (ref 28) (ref 20) ∷ connect (ref 28) (ref 21) ∷ []

-- Each component is a bundle `{ flip c : Clock }`, where c is 32.
abbrev pub turned : Scope
turned c = bundle (flipped 32 clock_type ∷ [])

-- connect a, b: the flipped leaf of b (34) is driven from that of a (33)
abbrev pub across : List Stmt
across = connect (ref 33) (ref 34) ∷ []
