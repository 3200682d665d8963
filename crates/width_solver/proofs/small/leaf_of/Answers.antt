use Rattle.std.proofs.Common.{◌≡◌, ◌+◌, rules}
use Rattle.width_solver.proofs.Replacing.{replaces_itself, replaces_fresh}
use Rattle.width_solver.proofs.small.leaf_of.Goals as goal

pub returns-then-is_leaf : goal.returns-then-is_leaf
returns-then-is_leaf c = replaces_itself c.args.formula c.args.small.now.count c.args.small.now.rules.items c.requires.fits

pub returns : goal.returns
returns c =
    let more : c.in-Some.count ≡ c.args.small.now.count + 1 = search rules in
    rw (c.in_ok-push.ensures.items, more) (replaces_fresh c.args.formula c.args.small.now.count c.args.small.now.rules.items c.requires.fits)
