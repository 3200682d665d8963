use Rattle.std.proofs.Common.{arith}
use Rattle.snapshot_text.proofs.Naming.{all_lack}
use Rattle.snapshot_text.proofs.Cutting.{lacks_more}
use Rattle.snapshot_text.proofs.lines.cut.Goals as goal

pub loop-at-preserved : goal.loop-at-preserved
loop-at-preserved c = record {
  within = omega (arith, c.loop-at-test.true);
  lacks = lacks_more c.args.byte c.args.bytes.now c.loop-at.at c.loop-at-test.true c.loop-at.invariant.lacks (λ e. omega (arith, e));
}

pub returns-clause-none : goal.returns-clause-none
returns-clause-none c = all_lack c.args.bytes.now c.args.byte c.loop-at.at c.loop-at-test.false c.loop-at.invariant.lacks
