use Rattle.std.proofs.Common.{refl}
use Rattle.code_memories.proofs.Reading.{zero_made}
use Rattle.code_memories.proofs.next_reads.zero_of.Goals as goal

pub returns : goal.returns
returns c = zero_made _ refl
