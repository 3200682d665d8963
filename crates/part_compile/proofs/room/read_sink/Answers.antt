use Rattle.std.proofs.Common.{ap, sym}
use Rattle.cone_cutter.specs.Rows.{row_at, need_rows, needs_in}
use Rattle.ground_net.specs.Cones.{sinks}
use Rattle.part_compile.proofs.Walking.{reads_by}
use Rattle.part_compile.proofs.room.read_sink.Goals as goal

pub returns : goal.returns
returns c = reads_by (row_at (need_rows c.args.net.now (sinks c.args.net.now c.args.watch.now)) c.args.number) (row_at (needs_in c.args.rows.now) c.args.number) c.args.live.now c.read_needs.new.live c.read_needs.ensures
    (ap (λ r. row_at r c.args.number) (sym c.requires.rows.needed))
