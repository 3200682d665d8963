use Rattle.std.proofs.Common.{[], sym, ap, ◌∙◌, arith}
use Rattle.std.proofs.lemmas.List.{get_or_read}
use Rattle.cone_cutter.specs.Rows.{row_at, told, needs_in}
use Rattle.cone_cutter.proofs.Wide.{need_in}
use Rattle.part_compile.proofs.Walking.{reads_by}
use Rattle.part_compile.proofs.room.read_needs.Goals as goal

pub returns-then-at-count : goal.returns-then-at-count
returns-then-at-count c =
    let rows = c.args.rows.now in
    let k = c.args.number in
    let row = c.as_slice.ensures ∙ get_or_read rows.needed.items _ _ (omega (arith, c.if-at-count.true, c.len-count.ensures, rows.needed.ok.0)) c.index.ensures [] in
    reads_by (row_at (needs_in rows) k) _ c.args.live.now c.read_row.new.live c.read_row.ensures (need_in rows k ∙ ap (told rows.leaves rows.reads.items) (sym row))
