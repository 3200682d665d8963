use Rattle.std.proofs.Common.{refl, ◌∙◌, length}
use Rattle.flatten_instances.proofs.Lists.{get_there}
use Rattle.flatten_instances.proofs.Steps.{goes_leaf}
use Rattle.flatten_instances.proofs.Visiting.{next_leaf, going_leaf, less_leaf}
use Rattle.flatten_instances.proofs.walk.take_leaf.Goals as goal

pub returns-clause-on : goal.returns-clause-on
returns-clause-on c = λ path level.
    let there = get_there c.args.owner.now.leaves (length c.args.walk.now.numbers) (next_leaf c.args.driven.now c.args.owner.now c.args.walk.now c.args.plan.now c.requires.going c.requires.behind c.requires.behind_too c.requires.more) in
    goes_leaf c.args.driven.now path c.args.owner.now c.args.walk.now c.args.plan.now level c.requires.going.known c.requires.going.counted there.0 _ _ c.push-2.new.self c.push.new.self
    c.requires.behind c.requires.behind_too there.1 refl (c.in_ok-number_of.ensures ∙ c.len-2.ensures) (c.in_ok-number.ensures ∙ c.len.ensures) c.in_ok-push.ensures.ok c.in_ok-push-2.ensures.ok

pub returns-clause-going : goal.returns-clause-going
returns-clause-going c = going_leaf c.args.driven.now c.args.owner.now c.args.walk.now c.args.plan.now c.requires.going _ c.push-2.new.self c.push.new.self c.requires.behind c.requires.behind_too c.requires.more c.in_ok-push-2.ensures.ok

pub returns-clause-less : goal.returns-clause-less
returns-clause-less c = less_leaf c.args.driven.now c.args.owner.now c.args.walk.now c.args.plan.now c.requires.going _ c.push-2.new.self c.requires.behind c.requires.behind_too c.requires.more c.in_ok-push-2.ensures.ok
