use Rattle.clock_check.proofs.Getting.{link_at, at_link}
use Rattle.clock_check.proofs.laws.links_stand_at_paths.Goals as goal

pub returns-clause-at : goal.returns-clause-at
returns-clause-at c = link_at

pub returns-clause-from : goal.returns-clause-from
returns-clause-from c = at_link
