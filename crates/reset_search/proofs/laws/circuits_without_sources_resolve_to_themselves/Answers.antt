use Rattle.reset_search.proofs.Itself.{stays_itself}
use Rattle.reset_search.proofs.laws.circuits_without_sources_resolve_to_themselves.Goals as goal

pub returns : goal.returns
returns c circuit e = stays_itself circuit e
