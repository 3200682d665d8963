-- What a set of flags and of port names keeps of a memory's lines.
use Rattle.std.specs.Prelude.{◌≡◌, ℕ, nat_eq, List}
use Rattle.std.specs.List.{list_any}
use Rattle.fir_types.specs.declared.memory.MemLine.{MemLine}
use Rattle.type_check.specs.declared.memory.Said.{Said}
use Rattle.type_check.specs.Memories.{is_element, is_depth, is_read_latency, is_write_latency, is_under, is_port}

-- these are the lines that stand so far
pub record Notes (lines : List MemLine) (said : Said) : Type 0 where
  pub element : said.element ≡ list_any is_element lines
  pub depth : said.depth ≡ list_any is_depth lines
  pub read_latency : said.read_latency ≡ list_any is_read_latency lines
  pub write_latency : said.write_latency ≡ list_any is_write_latency lines
  pub under : said.under ≡ list_any is_under lines
  pub ports : (id : ℕ) → list_any (nat_eq id) said.ports.keys ≡ list_any (is_port id) lines
