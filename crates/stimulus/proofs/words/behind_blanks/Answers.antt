use Rattle.std.proofs.Common.{◌∙◌, sym, arith}
use Rattle.stimulus.proofs.Walking.{ahead_blank}
use Rattle.stimulus.proofs.words.behind_blanks.Goals as goal

pub loop-at-preserved : goal.loop-at-preserved
loop-at-preserved c = record {
  same = sym (ahead_blank c.args.bytes.now c.loop-at.at c.loop-at-test.true (sym c.is_blank.ensures ∙ c.if-is_blank.true)) ∙ c.loop-at.invariant.same;
  onward = omega arith;
  within = omega arith;
}
