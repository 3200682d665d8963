use Rattle.std.proofs.Common.{take}
use Rattle.cone_cutter.specs.Marks.{PlacesVertices}
use Rattle.cone_cutter.proofs.arranging.place_vertices.Given as goal

abbrev pub invariant-loop-number : goal.invariant-loop-number
invariant-loop-number l = PlacesVertices l.rows (take l.number-index l.row) l.fn.arranged l.arranged
