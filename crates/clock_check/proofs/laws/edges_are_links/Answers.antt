use Rattle.clock_check.proofs.Getting.{edges_are_links}
use Rattle.clock_check.proofs.laws.edges_are_links.Goals as goal

pub returns : goal.returns
returns c = λ fitted well k holder m here' number x y.
    edges_are_links fitted well (c.names_are_declared_once.ensures fitted.checked.resolved well.names) k holder m here' number x y
