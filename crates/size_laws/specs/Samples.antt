-- Small statements, and what the measure finds in them. The components: `a` (20), `o` (21) and any other are UInt<1>, `v` (22) is a
-- vector of two of them, `w` (23) one of five, and the clock is 24.
use Rattle.std.specs.Prelude.{ℕ, ◌==◌, false, true, List, [], ◌∷◌, if◌then◌else◌}
use Rattle.fir_types.specs.declared.memory.Memory.{Memory}
use Rattle.fir_types.specs.declared.memory.MemLine.TheVariants as line
use Rattle.fir_types.specs.declared.memory.PortMode.TheVariants as mode
use Rattle.fir_tree.specs.declared.circuit.Module.{Module}
use Rattle.fir_tree.specs.declared.expr.Suffix.TheVariants as suffix
use Rattle.fir_tree.specs.declared.stmt.Stmt.{Stmt}
use Rattle.fir_tree.specs.declared.stmt.Stmt.TheVariants as stmt
use Rattle.size_check.specs.Weights.{Typing}
use Rattle.definition_examples.specs.Samples.{place, name, uint, clock_type, vector, ref, part, index, connect, arm}

abbrev pub types : Typing
types c = if c == 22 then vector (uint 1) 2 else if c == 23 then vector (uint 1) 5 else if c == 24 then clock_type else uint 1

--   when a :
--   else when a :
--     skip
abbrev pub else_when : Stmt
else_when = stmt.When (arm (ref 20) [] ∷ arm (ref 20) (stmt.Skip place ∷ []) ∷ []) []

--   when a :
--   else :
--     skip
abbrev pub otherwise : Stmt
otherwise = stmt.When (arm (ref 20) [] ∷ []) (stmt.Skip place ∷ [])

-- connect o, v[w[0]]
abbrev pub by_index : Stmt
by_index = connect (ref 21) (part 22 (index (part 23 (suffix.At place place 0 ∷ [])) ∷ []))

-- reg r : UInt<4>[3], clock
abbrev pub register : Stmt
register = stmt.Reg (name 25) (vector (uint 4) 3) (ref 24)

-- Four elements of UInt<8>, a reader and a readwriter; reads come so many cycles later.
abbrev pub memory : ℕ → Memory
memory latency = record {
  name = name 27;
  lines = line.Element place (uint 8) ∷ line.Depth place 4 ∷ line.ReadLatency place latency ∷ line.WriteLatency place 1
      ∷ line.MemPort place mode.Reader (name 28) ∷ line.MemPort place mode.ReadWriter (name 29) ∷ line.MemPort place mode.Writer (name 30) ∷ [];
}

-- A module of two ports with three leaves, and one that has an instance of it and nothing else.
abbrev pub inside : Module
inside = record {
  name = name 101;
  ports = record { output = false; name = name 31; typ = vector (uint 1) 2 } ∷ record { output = true; name = name 32; typ = uint 1 } ∷ [];
  body = [];
}

abbrev pub around : Module
around = record { name = name 100; ports = []; body = stmt.Inst (name 26) (name 101) ∷ [] }

abbrev pub both : List Module
both = around ∷ inside ∷ []
