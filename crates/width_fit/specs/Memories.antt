-- A memory whose elements have another type.
use Rattle.std.specs.Prelude.{map}
use Rattle.fir_types.specs.declared.fir_type.FirType.{FirType}
use Rattle.fir_types.specs.declared.memory.Memory.{Memory}
use Rattle.fir_types.specs.declared.memory.MemLine.{MemLine}
use Rattle.fir_types.specs.declared.memory.MemLine.TheVariants as line

abbrev pub line_with : FirType → MemLine → MemLine
line_with typ (line.Element at other) = line.Element at typ
line_with typ other = other

abbrev pub memory_with : FirType → Memory → Memory
memory_with typ memory = record { name = memory.name; lines = map (line_with typ) memory.lines }
