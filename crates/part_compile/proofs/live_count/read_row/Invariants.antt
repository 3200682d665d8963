use Rattle.cone_cutter.specs.Rows.{told}
use Rattle.part_compile.specs.Counts.{ReadsMore}
use Rattle.part_compile.proofs.live_count.read_row.Given as goal

abbrev pub invariant-loop-number : goal.invariant-loop-number
invariant-loop-number l = ReadsMore (told l.rows.leaves l.rows.reads.items l.row) l.fn.live l.live
