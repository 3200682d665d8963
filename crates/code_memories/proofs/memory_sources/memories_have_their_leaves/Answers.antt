use Rattle.code_memories.proofs.Ports.{has_writer}
use Rattle.code_memories.proofs.Captured.{by_ports}
use Rattle.code_memories.proofs.memory_sources.memories_have_their_leaves.Goals as goal

pub returns-clause-writers : goal.returns-clause-writers
returns-clause-writers c = λ net S m p k port write leaf w h listed writes e. has_writer net S m w h p port listed write writes k leaf e

pub returns-clause-captures : goal.returns-clause-captures
returns-clause-captures c = λ net S m st instant h. by_ports net S m st instant h
