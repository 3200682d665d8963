use Rattle.std.proofs.Common.{◌≡◌, map, take, zip}
use Rattle.lower_aggregates.specs.Held.{held_heading, held_part}
use Rattle.lower_aggregates.specs.Parts.{parts_from, leaves_in}
use Rattle.lower_aggregates.proofs.pieces.pieces_of.Given as goal

abbrev pub invariant-loop-number : goal.invariant-loop-number
invariant-loop-number l = record {
  pieces : map held_part l.pieces.items ≡ parts_from 0 (zip (take l.number (map held_heading l.declared.items)) l.types);
  first : l.first ≡ leaves_in (zip (take l.number (map held_heading l.declared.items)) l.types);
}
