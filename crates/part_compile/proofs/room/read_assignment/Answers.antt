use Rattle.std.proofs.Common.{[], sym, ap, ◌∙◌, arith}
use Rattle.std.proofs.lemmas.List.{get_or_read}
use Rattle.cone_cutter.specs.Rows.{row_at, told, reads_in}
use Rattle.cone_cutter.proofs.Wide.{read_in}
use Rattle.part_compile.proofs.Walking.{reads_by}
use Rattle.part_compile.proofs.room.read_assignment.Goals as goal

pub returns-then-at-count : goal.returns-then-at-count
returns-then-at-count c =
    let rows = c.args.rows.now in
    let x = c.args.number in
    let row = c.as_slice.ensures ∙ get_or_read rows.reads.items _ _ (omega (arith, c.if-at-count.true, c.requires.count)) c.index.ensures [] in
    reads_by (row_at (reads_in rows) x) _ c.args.live.now c.read_row.new.live c.read_row.ensures (read_in rows x (omega (arith, c.if-at-count.true)) ∙ ap (told rows.leaves rows.reads.items) (sym row))
