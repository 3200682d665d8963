use Rattle.std.proofs.Common.{◌<◌, length, take, slice_index, slice_set, sym, subst, arith}
use Rattle.std.proofs.lemmas.List.{take_more}
use Rattle.cut_refine.specs.Standing.{Owns}
use Rattle.cut_refine.proofs.Tables.{owns_more}
use Rattle.cut_refine.proofs.standing.own.Goals as goal

pub loop-sink-preserved : goal.loop-sink-preserved
loop-sink-preserved c =
    let sinks = c.args.sinks.now in
    let i = c.loop-sink.sink-index in
    let s = slice_index c.args.sinks.now c.loop-sink.sink-index in
    let inside : slice_index c.args.sinks.now c.loop-sink.sink-index < length c.loop-sink.owners = omega (arith, c.requires i 0 c.loop-sink-test.true, c.loop-sink.auto.owners) in
    subst (λ l. Owns c.args.part l c.args.owners.now (slice_set c.loop-sink.owners s c.args.part)) (sym (take_more sinks i 0 c.loop-sink-test.true))
    (owns_more c.args.part (take i sinks) c.args.owners.now c.loop-sink.owners s c.loop-sink.invariant inside)
