use Rattle.std.proofs.Common.{[], get_or}
use Rattle.std.proofs.lemmas.Option.{slice_get-get_or}
use Rattle.fir_names.proofs.Cycles.{loops_before_more}
use Rattle.fir_names.proofs.loops.push_all_loops.Goals as goal

pub loop-from-preserved : goal.loop-from-preserved
loop-from-preserved c =
    let out = get_or c.args.graph.now c.loop-from.from [] in
    let here = slice_get-get_or c.args.graph.now c.loop-from.from [] c.loop-from-test.true in
    loops_before_more c.args.graph.now c.loop-from.from out here c.loop-from.invariant (c.in_ok-push_loops_of.ensures out here)
