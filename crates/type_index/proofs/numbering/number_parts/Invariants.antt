use Rattle.std.proofs.Common.{List, drop, length, ◌≤◌}
use Rattle.fir_types.specs.declared.fir_type.Field.{Field}
use Rattle.type_index.specs.Numbers.{HaveNumber}
use Rattle.type_index.specs.Parts.{AreParts}
use Rattle.type_index.specs.Sights.{table_of}
use Rattle.type_index.proofs.numbering.number_parts.Given as goal

abbrev pub invariant-loop-left : goal.invariant-loop-left
invariant-loop-left l = record {
  within : l.left ≤ length l.parts;
  have : (fields : List Field) → AreParts (table_of l.classes) fields (drop l.left l.parts) → HaveNumber (table_of l.classes) fields l.after;
}

abbrev pub decreases-loop-left : goal.decreases-loop-left
decreases-loop-left l = l.left
