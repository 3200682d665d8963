use Rattle.std.proofs.Common.{length, ◌≤◌}
use Rattle.type_index.specs.Sights.{Grows, table_of}
use Rattle.type_index.specs.Tables.{HasParts}
use Rattle.type_index.proofs.noting.note_parts.Given as goal

abbrev pub invariant-loop-left : goal.invariant-loop-left
invariant-loop-left l = record {
  within : l.left ≤ length l.parts;
  grows : Grows l.fn.classes l.classes;
  parts : HasParts (table_of l.classes) l.after l.inside.numbers.entries;
}

abbrev pub decreases-loop-left : goal.decreases-loop-left
decreases-loop-left l = l.left
