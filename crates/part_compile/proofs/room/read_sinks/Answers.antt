use Rattle.std.proofs.Common.{◌≡◌, ◌<◌, length, flat_map, slice_get, slice_index, Contains, subst, arith}
use Rattle.std.specs.Prelude.{filter_map}
use Rattle.ground_net.specs.Cones.{needs, sinks}
use Rattle.cone_cutter.specs.Rows.{need_rows, row_at}
use Rattle.part_compile.specs.Rooms.{read_by_sinks}
use Rattle.part_compile.proofs.Marks.{reads_on, reads_within}
use Rattle.part_compile.proofs.Rows.{need_of_row}
use Rattle.part_compile.proofs.room.read_sinks.Goals as goal

pub loop-number-preserved : goal.loop-number-preserved
loop-number-preserved c =
    let net = c.args.net.now in
    let watch = c.args.watch.now in
    let all = read_by_sinks net watch c.args.part.now in
    let xs = c.as_slice-number-items.result.now in
    let i = c.loop-number.number-index in
    reads_on all c.args.live.now c.loop-number.live c.read_sink.new.live c.loop-number.invariant
    (reads_within (row_at (need_rows net (sinks net watch)) (slice_index xs i)) all c.loop-number.live c.read_sink.new.live
    (λ y d. subst (λ ks. Contains (flat_map (needs net) (filter_map (slice_get (sinks net watch)) ks)) y) c.as_slice-number-items.ensures (need_of_row net (sinks net watch) xs i y c.loop-number-test.true d))
    c.read_sink.ensures)
