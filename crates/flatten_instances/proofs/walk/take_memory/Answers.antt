use Rattle.std.proofs.Common.{refl, ◌∙◌}
use Rattle.flatten_instances.proofs.Lists.{some_by}
use Rattle.flatten_instances.proofs.Steps.{goes_memory}
use Rattle.flatten_instances.proofs.Visiting.{going_memory, less_memory}
use Rattle.flatten_instances.specs.Plans.{memory_next}
use Rattle.flatten_instances.proofs.walk.take_memory.Goals as goal

pub returns-clause-on : goal.returns-clause-on
returns-clause-on c = λ path level.
    let here = some_by (memory_next c.args.owner.now c.args.walk.now) c.requires.here in
    goes_memory c.args.driven.now path c.args.owner.now c.args.walk.now c.args.plan.now level c.requires.going.known c.requires.going.counted here.0 _ c.push.new.self c.requires.behind here.1
    refl c.in_ok-number_of.ensures (c.in_ok-number_of-2.ensures ∙ c.len.ensures) c.in_ok-push.ensures.ok

pub returns-clause-going : goal.returns-clause-going
returns-clause-going c =
    let here = some_by (memory_next c.args.owner.now c.args.walk.now) c.requires.here in
    going_memory c.args.driven.now c.args.owner.now c.args.walk.now c.args.plan.now c.requires.going here.0 c.push.new.self c.requires.behind here.1

pub returns-clause-less : goal.returns-clause-less
returns-clause-less c =
    let here = some_by (memory_next c.args.owner.now c.args.walk.now) c.requires.here in
    less_memory c.args.driven.now c.args.owner.now c.args.walk.now c.args.plan.now c.requires.going here.0 here.1
