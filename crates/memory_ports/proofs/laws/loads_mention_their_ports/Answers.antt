use Rattle.memory_ports.proofs.Loads.{load_mentions}
use Rattle.memory_ports.proofs.laws.loads_mention_their_ports.Goals as goal

pub returns : goal.returns
returns c = λ m k port. load_mentions m k port
