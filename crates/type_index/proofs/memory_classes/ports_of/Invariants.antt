use Rattle.std.proofs.Common.{ℕ, filter_map, take}
use Rattle.fir_types.specs.declared.fir_type.FirType.{FirType}
use Rattle.fir_types.specs.Bundles.{port_field}
use Rattle.type_index.specs.Memories.{AreElements}
use Rattle.type_index.specs.Parts.{AreParts}
use Rattle.type_index.specs.Sights.{table_of}
use Rattle.type_index.proofs.memory_classes.ports_of.Given as goal

abbrev pub invariant-loop-line : goal.invariant-loop-line
invariant-loop-line l =
    (element : FirType) (depth : ℕ) → AreElements (table_of l.classes) element l.fn.elements
    → AreParts (table_of l.classes) (filter_map (port_field element depth) (take l.line-index l.lines)) l.ports.items
