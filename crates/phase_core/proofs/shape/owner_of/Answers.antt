use Rattle.phase_core.proofs.Lists.{default_at}
use Rattle.phase_core.proofs.shape.owner_of.Goals as goal

pub returns-in-None : goal.returns-in-None
returns-in-None c = default_at c.args.script.now.owners c.args.word 0 c.in-None.ensures.value
