use Rattle.std.proofs.Common.{[], ap, ◌∙◌, get_or}
use Rattle.phase_core.proofs.Lists.{default_at, found_at}
use Rattle.base_cases.proofs.cases.posts.part.Goals as goal

pub returns-in-None-get : goal.returns-in-None-get
returns-in-None-get c = default_at c.in-Some.round.now c.args.worker [] c.in-None-get.ensures.value
    ∙ ap (λ r. get_or r c.args.worker []) (found_at c.args.script.now.rounds c.args.cycle c.in-Some.round.now [] c.in-Some.ensures.value)

pub returns-in-None : goal.returns-in-None
returns-in-None c = ap (λ r. get_or r c.args.worker []) (default_at c.args.script.now.rounds c.args.cycle [] c.in-None.ensures.value)
