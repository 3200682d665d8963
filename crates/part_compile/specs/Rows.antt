-- What the bodies keep of a net and of its parts.
use Rattle.std.specs.Prelude.{◌≡◌, ℕ, List, map, slice_get, Some}
use Rattle.ground_net.specs.declared.net.Net.{Net}
use Rattle.ground_net.specs.declared.net.NetMemory.{NetMemory}
use Rattle.ground_net.specs.declared.net.ElementLeaf.{ElementLeaf}
use Rattle.ground_net.specs.declared.net.CutPart.{CutPart}
use Rattle.ground_net.specs.Cones.{Sink, sinks, InCone}
use Rattle.ground_net.specs.Reads.{IsOrder}
use Rattle.ground_net.specs.Cycles.{Capture, captures}
use Rattle.code_draft.specs.declared.sources.Sources.{Sources}
use Rattle.code_emit.specs.Emits.{sources_table}
use Rattle.cone_cutter.specs.declared.rows.NetRows.{NetRows}
use Rattle.cone_cutter.specs.Rows.{sink_of, read_rows, need_rows, reads_in, needs_in, AreNetRows}
use Rattle.cone_cutter.specs.Splits.{IsUnion}
use Rattle.part_compile.specs.Knowing.{Knows}
use Rattle.code_memories.specs.Memories.{StandsInMemory, StandsCaptured}

-- the assignments in a sink's cone are known
abbrev pub KnowsCone : Net → Sink → Sources → Type 0
KnowsCone net sink S = Knows net (InCone net sink) (sources_table S)

-- What is kept from cycle to cycle is found in its words: the elements of memories, and captured reads.
pub record AreKept (net : Net) (S : Sources) : Type 0 where
  pub elements : (m k : ℕ) (memory : NetMemory) (leaf : ElementLeaf) → slice_get net.memories m ≡ Some memory → slice_get memory.elements k ≡ Some leaf → StandsInMemory net S m k
  pub captured : (n : ℕ) (c : Capture) → slice_get (captures net) n ≡ Some c → StandsCaptured net S n c

-- A part of a split, under some order of the net's assignments.
pub record IsUnionInOrder (net : Net) (watch : List ℕ) (part : CutPart) : Type 0 where
  pub sequence : List ℕ
  pub order : IsOrder net sequence
  pub union : IsUnion net watch sequence part

-- The rows of a net and of its sinks, which tell what leaves read and sinks need.
pub record AreRowsOf (net : Net) (watch : List ℕ) (rows : NetRows) : Type 0 where
  pub are : AreNetRows rows
  pub of_sinks : map sink_of rows.sinks.items ≡ sinks net watch
  pub reads : reads_in rows ≡ read_rows net
  pub needed : needs_in rows ≡ need_rows net (sinks net watch)
