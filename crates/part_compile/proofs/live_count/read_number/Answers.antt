use Rattle.std.proofs.Common.{[], ◌∷◌, ◌∙◌, arith}
use Rattle.cone_cutter.specs.Rows.{told, row_at}
use Rattle.comb_order.proofs.Telling.{told_one, one_below, one_behind}
use Rattle.part_compile.proofs.Walking.{reads_by}
use Rattle.part_compile.proofs.live_count.read_number.Goals as goal

pub returns-then-number-rows : goal.returns-then-number-rows
returns-then-number-rows c =
    let rows = c.args.rows.now in
    reads_by (told rows.leaves rows.reads.items (c.args.number ∷ [])) (c.args.number ∷ []) c.args.live.now c.read_leaf.new.live c.read_leaf.ensures
    (told_one rows.leaves rows.reads.items c.args.number ∙ one_below rows.leaves rows.reads.items c.args.number (omega arith))

pub returns-else-number-rows : goal.returns-else-number-rows
returns-else-number-rows c =
    let rows = c.args.rows.now in
    reads_by (told rows.leaves rows.reads.items (c.args.number ∷ [])) (row_at rows.reads.items c.args.number) c.args.live.now c.read_vertex.new.live c.read_vertex.ensures
    (told_one rows.leaves rows.reads.items c.args.number ∙ one_behind rows.leaves rows.reads.items c.args.number (omega arith))
