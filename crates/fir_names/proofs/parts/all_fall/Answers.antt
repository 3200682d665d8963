use Rattle.std.proofs.Common.{rules, length, refl, arith}
use Rattle.std.proofs.lemmas.Option.{slice_get_read}
use Rattle.fir_names.proofs.Heads.{fall_more, fall_all}
use Rattle.fir_names.proofs.parts.all_fall.Goals as goal

pub loop-from-preserved : goal.loop-from-preserved
loop-from-preserved c =
    let here = slice_get_read c.args.graph.now (length c.args.graph.now) c.loop-from.from c.index-graph-from.result refl c.loop-from-test.true c.index-graph-from.is in
    fall_more c.loop-from.from c.index-graph-from.result here c.loop-from.invariant (rw c.as_slice.ensures at (c.fall_from.ensures (search rules)))

pub returns : goal.returns
returns c t = fall_all c.loop-from.from (omega (arith, c.loop-from-test.false)) c.loop-from.invariant
