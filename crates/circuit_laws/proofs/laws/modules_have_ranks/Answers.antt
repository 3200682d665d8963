use Rattle.circuit_laws.proofs.Ranks.{ranked}
use Rattle.circuit_laws.proofs.laws.modules_have_ranks.Goals as goal

pub returns : goal.returns
returns c = ranked
