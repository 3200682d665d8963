use Rattle.std.proofs.Common.{◌++◌, ◌∙◌, ap}
use Rattle.ground_statements.specs.Targets.{set_one}
use Rattle.ground_statements.proofs.Walks.{all_more, one_longer}
use Rattle.ground_statements.proofs.sides.set_all.Goals as goal

pub loop-fit-preserved : goal.loop-fit-preserved
loop-fit-preserved c = record {
  number = c.in_ok-number.ensures ∙ one_longer c.args.part.now.first c.loop-fit.number c.loop-fit.yielded c.in-Some.fit c.loop-fit.invariant.number;
  made = all_more c.args.settable.now c.args.part.now.picks c.args.part.now.first c.loop-fit.number c.loop-fit.yielded c.in-Some.fit c.loop-fit.made c.set_one.new.made
      c.loop-fit.invariant.number c.loop-fit.invariant.made (c.in_ok-set_one.ensures ∙ ap (λ ps. c.loop-fit.made ++ set_one c.args.settable.now ps c.loop-fit.number c.in-Some.fit) c.as_slice.ensures);
}
