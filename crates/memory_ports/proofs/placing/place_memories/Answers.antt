use Rattle.memory_ports.proofs.WellFormed.{net_is}
use Rattle.memory_ports.proofs.placing.place_memories.Goals as goal

pub returns-clause-well_formed : goal.returns-clause-well_formed
returns-clause-well_formed c = λ sound. net_is c.args.flat.now c.in_ok-net.net c.in_ok-net.ensures sound
