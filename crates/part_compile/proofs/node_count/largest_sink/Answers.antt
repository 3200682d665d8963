use Rattle.std.proofs.Common.{◌≡◌, ◌<◌, ◌≤◌, Some, length, slice_get, slice_index, refl, sym, subst, arith}
use Rattle.std.proofs.lemmas.Option.{slice_get_read}
use Rattle.ground_net.specs.Cones.{sinks}
use Rattle.cone_cutter.specs.Rows.{sink_of}
use Rattle.part_compile.specs.SlotBounds.{greatest, sinks_nodes}
use Rattle.part_compile.proofs.Walking.{mapped_at}
use Rattle.part_compile.proofs.Nodes.{sink_counted}
use Rattle.part_compile.proofs.node_count.largest_sink.Goals.{in-Some, in_default}
use Rattle.part_compile.proofs.node_count.largest_sink.Goals as goal

pub loop-number-preserved : goal.loop-number-preserved
loop-number-preserved c =
    let net = c.args.net.now in
    let watch = c.args.watch.now in
    let part = c.args.part.now in
    let i = c.loop-number.number-index in
    let n = slice_index c.as_slice-number-items.result.now c.loop-number.number-index in
    let test = c.loop-number-test.true in
    let below : c.loop-number.number-index < length c.as_slice-number-items.result.now = omega (arith, test) in
    elim c.match-get.branch [
      | in-Some w ↦
          let sink = sink_of w.in-Some.sink.now in
          let at = slice_get_read c.args.sinks.now (length c.args.sinks.now) n w.in-Some.sink.now refl w.in-Some.ensures.lookup.3.0 w.in-Some.ensures.lookup.1 in
          let there : slice_get (sinks c.args.net.now c.args.watch.now) n ≡ Some sink = subst (λ ss. slice_get ss n ≡ Some sink) c.requires.sinks (mapped_at c.args.sinks.now n w.in-Some.sink.now at) in
          let counted = sink_counted net watch part c.as_slice-number-items.result.now i sink w.register_nodes.result c.as_slice-number-items.ensures below there w.register_nodes.ensures in
          let old = c.loop-number.invariant in
          let most = w.max-most.ensures in
          let same = w.most-is in
          omega (arith, counted, old, most, same)
      | in_default w ↦ subst (λ m. m ≤ greatest (sinks_nodes net watch part)) (sym w.most-is) c.loop-number.invariant
    ]
