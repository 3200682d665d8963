use Rattle.std.proofs.Common.{[], ◌∷◌, slice_index}
use Rattle.cone_cutter.specs.Rows.{told}
use Rattle.part_compile.proofs.Marks.{reads_on, reads_within}
use Rattle.part_compile.proofs.Rows.{one_told}
use Rattle.part_compile.proofs.live_count.read_row.Goals as goal

pub loop-number-preserved : goal.loop-number-preserved
loop-number-preserved c =
    let rows = c.args.rows.now in
    let xs = c.args.row.now in
    let x = slice_index c.args.row.now c.loop-number.number-index in
    reads_on (told rows.leaves rows.reads.items xs) c.args.live.now c.loop-number.live c.read_number.new.live c.loop-number.invariant
    (reads_within (told rows.leaves rows.reads.items (x ∷ [])) (told rows.leaves rows.reads.items xs) c.loop-number.live c.read_number.new.live
    (one_told rows.leaves rows.reads.items xs c.loop-number.number-index c.loop-number-test.true) c.read_number.ensures)
