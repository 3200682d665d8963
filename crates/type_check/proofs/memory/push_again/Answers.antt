use Rattle.std.proofs.Common.{arith, take}
use Rattle.std.proofs.lemmas.Grind.{common_steps}
use Rattle.type_check.proofs.Lines.{again_more, notes_more}
use Rattle.type_check.proofs.memory.push_again.Goals as goal

pub loop-line-preserved : goal.loop-line-preserved
loop-line-preserved c =
    let before = take c.loop-line.line-index c.args.lines.now in record {
      faults = again_more c.args.lines.now c.loop-line.line-index c.line-item.result c.args.faults.now.items c.loop-line.faults.items c.push_wrong.new.faults.items
          c.in_ok-again.again (grind (arith, common_steps)) (grind (arith, common_steps)) c.loop-line.invariant.faults (c.in_ok-again.ensures.again before c.loop-line.invariant.noted)
          (grind (arith, common_steps));
      noted = notes_more c.args.lines.now c.loop-line.line-index c.line-item.result (grind (arith, common_steps)) (grind (arith, common_steps)) (c.in_ok-again.ensures.noted before c.loop-line.invariant.noted);
    }
