use Rattle.std.proofs.Common.{length, subst, sym, ap, ◌∙◌}
use Rattle.cone_cutter.specs.Rows.{AreBelow}
use Rattle.cone_cutter.specs.Walks.{Walked}
use Rattle.cone_cutter.proofs.Wide.{finds}
use Rattle.cone_cutter.proofs.walking.walk_cone.Goals as goal

pub walk-requires-clause-below : goal.walk-requires-clause-below
walk-requires-clause-below c =
    subst (λ r. AreBelow (length c.args.stamps.now) r) (sym c.as_slice.ensures.value) (subst (λ n. AreBelow n c.args.rows.now.reads.items) (sym c.requires.long) c.requires.rows.inside)

pub walk-requires-clause-long : goal.walk-requires-clause-long
walk-requires-clause-long c = c.requires.long ∙ sym (ap length c.as_slice.ensures.value)

pub returns : goal.returns
returns c =
    let walked = subst (λ r. Walked r c.args.roots.now c.args.stamp c.args.stamps.now c.walk.new.stamps c.walk.new.found.items) c.as_slice.ensures.value c.in_ok-walk.ensures in
    finds c.args.rows.now c.requires.rows c.args.roots.now c.args.stamp c.args.stamps.now c.walk.new.stamps c.walk.new.found.items c.keep_leaves.new.found.items walked c.requires.fresh c.keep_leaves.ensures
