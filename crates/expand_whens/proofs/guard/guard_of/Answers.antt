use Rattle.std.proofs.Common.{◌∙◌, ap}
use Rattle.std.specs.List.{list_all}
use Rattle.ground_net.specs.StatementShapes.{is_condition}
use Rattle.expand_whens.specs.Ways.{asked_fits}
use Rattle.expand_whens.proofs.Guards.{asked_more, conditions_none, condition_more, conditions_all, tests_more, all_taken}
use Rattle.expand_whens.proofs.guard.guard_of.Goals as goal

pub loop-one-preserved : goal.loop-one-preserved
loop-one-preserved c = record {
  part = asked_more _ _ _ c.args.asked.now c.loop-one.one-index c.one-item.result c.loop-one-test.true c.one-item.is c.loop-one.invariant.part c.in_ok-part.ensures.part;
  fits = λ table a.
      let both = tests_more (asked_fits table) c.args.asked.now c.loop-one.one-index c.one-item.result c.loop-one-test.true c.one-item.is a in
      c.in_ok-part.ensures.fits table (c.loop-one.invariant.fits table both.0) both.1;
}

pub loop-condition-init : goal.loop-condition-init
loop-condition-init c = record {
  part = conditions_none c.args.leaf c.args.asked.now c.loop-one.one-index _ c.loop-one-test.false c.loop-one.invariant.part;
  fits = λ table a _. c.loop-one.invariant.fits table (ap (list_all (asked_fits table)) (all_taken c.args.asked.now c.loop-one.one-index c.loop-one-test.false) ∙ a);
}

pub loop-condition-preserved : goal.loop-condition-preserved
loop-condition-preserved c = record {
  part = condition_more _ _ _ _ c.args.conditions.now _ c.condition-item.result c.loop-condition-test.true c.condition-item.is c.loop-condition.invariant.part (rw c.in_ok-copied.ensures at c.in_ok-part-2.ensures.part);
  fits = λ table a b.
      let both = tests_more (is_condition table) c.args.conditions.now c.loop-condition.condition-index c.condition-item.result c.loop-condition-test.true c.condition-item.is b in
      (rw c.in_ok-copied.ensures at c.in_ok-part-2.ensures.fits) table (c.loop-condition.invariant.fits table a both.0) both.1;
}

pub returns-clause-guard : goal.returns-clause-guard
returns-clause-guard c = conditions_all c.args.leaf c.args.asked.now c.args.conditions.now c.loop-condition.condition-index _ _ c.loop-condition-test.false c.loop-condition.invariant.part c.in_ok-guard.ensures.guard

pub returns-clause-fits : goal.returns-clause-fits
returns-clause-fits c = λ table a b. c.in_ok-guard.ensures.fits table
    (c.loop-condition.invariant.fits table a (ap (list_all (is_condition table)) (all_taken c.args.conditions.now c.loop-condition.condition-index c.loop-condition-test.false) ∙ b))
