use Rattle.cone_cutter.specs.Rows.{row_at}
use Rattle.part_compile.proofs.Marks.{reads_on}
use Rattle.part_compile.proofs.live_count.read_vertex.Goals as goal

pub returns : goal.returns
returns c =
    let xs = row_at c.args.rows.now.reads.items c.args.vertex in
    reads_on xs c.args.live.now c.meet.new.live c.read_members.new.live (c.meet.ensures xs) c.read_members.ensures
