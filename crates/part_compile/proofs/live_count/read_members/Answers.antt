use Rattle.std.proofs.Common.{[], sym, ◌∙◌, arith}
use Rattle.std.proofs.lemmas.List.{get_or_read}
use Rattle.cone_cutter.specs.Rows.{row_at}
use Rattle.part_compile.proofs.Walking.{reads_by}
use Rattle.part_compile.proofs.live_count.read_members.Goals as goal

pub returns-then-at-count : goal.returns-then-at-count
returns-then-at-count c =
    let rows = c.args.rows.now.reads.items in
    let row = c.as_slice.ensures ∙ get_or_read rows _ _ (omega (arith, c.if-at-count.true, c.len-count.ensures, c.args.rows.now.reads.ok.0)) c.index.ensures [] in
    reads_by (row_at rows c.args.vertex) _ c.args.live.now c.read_leaves.new.live c.read_leaves.ensures (sym row)
