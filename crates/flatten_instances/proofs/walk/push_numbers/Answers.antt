use Rattle.std.proofs.Common.{rules}
use Rattle.flatten_instances.proofs.Lists.{range_pushed}
use Rattle.flatten_instances.proofs.walk.push_numbers.Goals as goal

pub loop-place-preserved : goal.loop-place-preserved
loop-place-preserved c = range_pushed c.args.numbers.now _ _ c.args.base c.loop-place.place _ c.loop-place.invariant c.in_ok-push.ensures.ok (search rules)
