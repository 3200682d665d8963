use Rattle.width_solver.proofs.Replacing.{fits_more, asks_more}
use Rattle.width_solver.proofs.small.small_rules.Goals as goal

pub small_formula-requires : goal.small_formula-requires
small_formula-requires c = record {
  fits = fits_more c.args.count c.loop-rule.small.count c.loop-rule.invariant.grows c.rule-item.result.formula
      (rw (← c.rule-item.is) at (c.requires c.loop-rule.rule-index c.rule-item.result c.loop-rule-test.true)).formula;
}

pub loop-rule-preserved : goal.loop-rule-preserved
loop-rule-preserved c =
    rw c.in_ok-push.ensures.items
    (asks_more c.args.count c.args.rules.now c.loop-rule.rule-index c.rule-item.result _ _ _ _ _ c.loop-rule-test.true c.rule-item.is c.requires c.loop-rule.invariant c.in_ok-formula.ensures)
