use Rattle.std.proofs.Common.{arith}
use Rattle.std.proofs.lemmas.Grind.{common_steps}
use Rattle.expand_whens.proofs.Covers.{uncovered_within, not_open, is_open}
use Rattle.expand_whens.proofs.Connects.{connect_skips, connect_makes}
use Rattle.expand_whens.proofs.ShapedWays.{shapes_none, connect_shapes}
use Rattle.expand_whens.proofs.walk.connect.Goals as goal

pub returns-then-not-is_uncovered-clause-walks : goal.returns-then-not-is_uncovered-clause-walks
returns-then-not-is_uncovered-clause-walks c = connect_skips _ _ _ _ _ _ _ (grind (arith, common_steps, not_open, c.is_uncovered.ensures, c.if-not-is_uncovered.true)) c.new.ensures.items

pub add-requires : goal.add-requires
add-requires c = rw (← c.requires) (uncovered_within c.args.covered.now c.args.leaf (grind (arith, common_steps, is_open, c.is_uncovered.ensures, c.if-not-is_uncovered.false)))

pub returns-clause-walks : goal.returns-clause-walks
returns-clause-walks c = connect_makes _ _ _ _ _ _ _ _ _ (grind (arith, common_steps, is_open, c.is_uncovered.ensures, c.if-not-is_uncovered.false)) c.in_ok-guard_of.ensures.guard c.in_ok-copied.ensures c.in_ok-add.ensures.counted c.in_ok-add.ensures.added c.in_ok-add.ensures.others c.in_ok-newly.ensures

pub returns-then-not-is_uncovered-clause-shapes : goal.returns-then-not-is_uncovered-clause-shapes
returns-then-not-is_uncovered-clause-shapes c = shapes_none _ _ _

pub returns-clause-shapes : goal.returns-clause-shapes
returns-clause-shapes c = connect_shapes _ _ _ _ _ _ _ c.in_ok-guard_of.ensures.fits c.in_ok-copied.ensures c.in_ok-add.ensures.added c.in_ok-add.ensures.others
