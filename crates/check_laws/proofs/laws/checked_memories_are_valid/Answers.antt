use Rattle.check_laws.proofs.Memories.{valid_exactly}
use Rattle.check_laws.proofs.Circuits.{circuits_have_valid_memories}
use Rattle.check_laws.proofs.laws.checked_memories_are_valid.Goals as goal

pub returns-clause-memories : goal.returns-clause-memories
returns-clause-memories c = valid_exactly

pub returns-clause-circuits : goal.returns-clause-circuits
returns-clause-circuits c = circuits_have_valid_memories
