-- A design with a memory. Main (100) has the input `clock` 20, the output x 22, and the memory m 27 of four elements, UInt<8>, with the
-- reader p 28 and the writer q 29. In every cycle both are at the element 2, and q writes 9:
--   connect m.p.addr, UInt<2>(2)       connect m.q.addr, UInt<2>(2)
--   connect m.p.en, UInt<1>(1)         connect m.q.en, UInt<1>(1)
--   connect m.p.clk, clock             connect m.q.clk, clock
--   connect x, m.p.data                connect m.q.data, UInt<8>(9)
--                                      connect m.q.mask, UInt<1>(1)
use Rattle.std.specs.Prelude.{ℕ, ◌==◌, List, [], ◌∷◌, pos, if◌then◌else◌}
use Rattle.fir_types.specs.declared.fir_type.FirType.{FirType}
use Rattle.fir_types.specs.declared.leaf.PathStep.TheVariants as step
use Rattle.fir_types.specs.declared.memory.Memory.{Memory}
use Rattle.fir_types.specs.declared.memory.MemLine.TheVariants as line
use Rattle.fir_types.specs.declared.memory.PortMode.TheVariants as mode
use Rattle.fir_types.specs.declared.memory.Under.TheVariants as under
use Rattle.fir_types.specs.Bundles.{addr_name, en_name, clk_name, data_name, mask_name}
use Rattle.fir_tree.specs.declared.expr.Expr.{Expr}
use Rattle.fir_tree.specs.declared.stmt.Stmt.{Stmt}
use Rattle.fir_tree.specs.declared.stmt.Stmt.TheVariants as stmt
use Rattle.fir_meaning.specs.Components.{Design, TypedModule, Component, An_output, A_memory}
use Rattle.fir_meaning.specs.MemoryPorts.{Leaves}
use Rattle.fir_meaning.specs.Values.{Valuation}
use Rattle.fir_meaning.specs.States.{Inputs}
use Rattle.definition_examples.specs.Samples.{place, name, uint, clock_type, bundle, plain, flipped, ref, part, dot, literal, connect, component}
use Rattle.definition_examples.specs.Clocks.{alone, clock_in}

-- the memory, with reads of this latency
abbrev pub held : ℕ → Memory
held latency = record {
  name = name 27;
  lines =
      line.Element place (uint 8) ∷ line.Depth place 4 ∷ line.ReadLatency place latency ∷ line.WriteLatency place 1 ∷ line.MemPort place mode.Reader (name 28)
      ∷ line.MemPort place mode.Writer (name 29) ∷ line.ReadUnder place under.Old ∷ [];
}

-- the bundle of its ports
abbrev pub ports_type : FirType
ports_type =
    bundle (flipped 28 (bundle (plain addr_name (uint 2) ∷ plain en_name (uint 1) ∷ plain clk_name clock_type ∷ flipped data_name (uint 8) ∷ []))
    ∷ flipped 29 (bundle (plain addr_name (uint 2) ∷ plain en_name (uint 1) ∷ plain clk_name clock_type ∷ plain data_name (uint 8) ∷ plain mask_name (uint 1) ∷ [])) ∷ [])

abbrev pub of_port : ℕ → ℕ → Expr
of_port port field = part 27 (dot port ∷ dot field ∷ [])

abbrev pub connects : List Stmt
connects =
    connect (of_port 28 addr_name) (literal 2 2) ∷ connect (of_port 28 en_name) (literal 1 1) ∷ connect (of_port 28 clk_name) (ref 20) ∷ connect (ref 22) (of_port 28 data_name)
    ∷ connect (of_port 29 addr_name) (literal 2 2) ∷ connect (of_port 29 en_name) (literal 1 1) ∷ connect (of_port 29 clk_name) (ref 20) ∷ connect (of_port 29 data_name) (literal 8 9)
    ∷ connect (of_port 29 mask_name) (literal 1 1) ∷ []

abbrev pub body : ℕ → List Stmt
body latency = stmt.Mem (held latency) ∷ connects

abbrev pub x : ℕ → Component
x latency = component 22 An_output (uint 8) (body latency) (body latency)

abbrev pub m : ℕ → Component
m latency = component 27 (A_memory (held latency)) ports_type (body latency) connects

abbrev pub holder : ℕ → TypedModule
holder latency = record { name = 100; components = clock_in 20 (body latency) ∷ x latency ∷ m latency ∷ [] }

abbrev pub holding : ℕ → Design
holding latency = alone (holder latency).components

-- nothing is given
abbrev pub nothing : Inputs
nothing c way = pos 0

-- what the leaves of m have where p reads this
abbrev pub in_ports : ℕ → Leaves
in_ports read (step.Field port ∷ step.Field field ∷ []) =
    if field == addr_name then pos 2 else if field == clk_name then pos 0 else if field == data_name then (if port == 28 then pos read else pos 9) else pos 1
in_ports read _ = pos 0

abbrev pub reading : ℕ → Valuation
reading read path c way = if c == 22 then pos read else if c == 27 then in_ports read way else pos 0
