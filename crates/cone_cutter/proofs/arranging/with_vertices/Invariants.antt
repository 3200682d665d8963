use Rattle.std.proofs.Common.{take}
use Rattle.cone_cutter.proofs.VertexOrder.{Taken, Served}
use Rattle.cone_cutter.proofs.arranging.with_vertices.Given as goal

abbrev pub invariant-loop-leaf : goal.invariant-loop-leaf
invariant-loop-leaf l = Taken l.rows (take l.leaf-index l.sequence) l.arranged

abbrev pub invariant-loop-row : goal.invariant-loop-row
invariant-loop-row l = Served l.rows l.sequence l.row-index l.arranged
