use Rattle.std.proofs.lemmas.Option.{slice_get-get_or}
use Rattle.cone_cutter.proofs.NeedRows.{needs_none, needs_step}
use Rattle.cone_cutter.proofs.needing.needs_of.Goals as goal

pub loop-sink-init : goal.loop-sink-init
loop-sink-init c = needs_none c.args.net.now c.args.spread.now c.new-rows.result.items c.requires c.new-rows.ensures.items

pub loop-sink-preserved : goal.loop-sink-preserved
loop-sink-preserved c = needs_step c.args.net.now c.args.sinks.now c.loop-sink.sink-index _ c.args.spread.now c.loop-sink.spread c.push_needs.new.spread c.loop-sink.rows.items c.push.new.self.items c.push_needs.new.row c.new-row.result
    (slice_get-get_or c.args.sinks.now c.loop-sink.sink-index _ c.loop-sink-test.true) c.new-row.ensures c.in_ok-push.ensures.items c.loop-sink.invariant c.in_ok-push_needs.ensures
